-- A change of the state keeps what holds of a node.
use Rattle.std.proofs.Common.{◌≡◌, ◌≢◌, ℕ, List, length, Some, None, refl, sym, subst, ◌∙◌, arith, length-set}
use Rattle.std.proofs.lemmas.List.{length-replicate}
use Rattle.ilk_base.specs.declared.words.Dbpos.{Dbpos}
use Rattle.ilk_base.specs.declared.words.Dbpos.TheVariants.{Lost}
use Rattle.ilk_base.specs.declared.words.Op.{Op}
use Rattle.station_graph.specs.Diagram.{Diagram, part_count}
use Rattle.central_rules.specs.Meaning.{Meaning, HeardFit}
use Rattle.central_rules.proofs.MeaningLemmas.{heard_fit_none, heard_fit_more}
use Rattle.bay_protocol.specs.declared.values.Grant.{Grant}
use Rattle.bay_protocol.specs.declared.values.Collection.{Collection}
use Rattle.bay_protocol.specs.State.{State, IsOther, under_way, collects, fresh, opens}
use Rattle.bay_protocol.specs.State.{hears, grants, drops, ends, locks, unlocks, senses, restarts}
use Rattle.bay_protocol.specs.Fits.{IsOwn, IsNode, FitsHeard}
use Rattle.bay_protocol.specs.Step.{IsFree}
use Rattle.bay_protocol.proofs.UnderWay.{idle_collecting, idle_grant}

-- the node is one of the station, of bay b, and what it has heard fits
pub record Good (m : Meaning) (d : Diagram) (b : ℕ) (s : State) : Type 0 where
  pub node : IsNode d s
  pub fits : FitsHeard m s
  pub stays : s.bay ≡ b

module _ {m : Meaning} {d : Diagram} {bay : ℕ} where
  pub good_locks : (s : State) (c r : ℕ) → Good m d bay s → under_way s ≡ None → IsOther d s.bay c → r ≢ 0 →
      Good m d bay (locks s c r)
  good_locks s c r good idle other positive = record {
    node = record {
      bay = good.node.bay;
      words = good.node.words;
      kept = record {
        lock = λ l is.
            let e : l ≡ record { holder = record { 0 = c }; round = r } = cc is in
            rw e (record { holder = other; positive = positive; alone = idle_grant s.collecting s.granted idle });
        granted = good.node.kept.granted;
      };
      collecting = λ g is. absurd (cc (is, idle_collecting s.collecting s.granted idle));
    };
    fits = good.fits;
    stays = good.stays;
  }

  pub good_unlocks : (s : State) → Good m d bay s → Good m d bay (unlocks s)
  good_unlocks s good = record {
    node = record {
      bay = good.node.bay;
      words = good.node.words;
      kept = record { lock = λ l is. absurd (cc is); granted = good.node.kept.granted };
      collecting = λ g is.
          let f = good.node.collecting g is in
          record {
            own = f.own;
            newest = f.newest;
            positive = f.positive;
            places = f.places;
            no_lock = refl;
            no_grant = f.no_grant;
          };
    };
    fits = good.fits;
    stays = good.stays;
  }

  pub good_opens : (s : State) (op : Op) → Good m d bay s → IsFree s → IsOwn d s.bay op.switch.0 →
      Good m d bay (opens d s op)
  good_opens s op good free own =
      let no_grant : s.granted ≡ None = idle_grant s.collecting s.granted free.idle in
      record {
        node = record {
          bay = good.node.bay;
          words = good.node.words;
          kept = record {
            lock = λ l is. absurd (cc (is, free.unlocked));
            granted = λ g is. absurd (cc (is, no_grant));
          };
          collecting = λ g is.
              let e : g ≡ fresh d s op = cc is in
              rw e (record {
                own = own;
                newest = refl;
                positive = λ z. absurd (omega (arith, z));
                places = length-replicate (part_count d) None;
                no_lock = free.unlocked;
                no_grant = no_grant;
              });
        };
        fits = λ g is.
            let e : g ≡ fresh d s op = cc is in
            subst (λ (k : Collection). HeardFit m s.bay k.heard) (sym e) (heard_fit_none m s.bay (part_count d));
        stays = good.stays;
      }

  pub good_hears : (s : State) (g : Collection) (b : ℕ) (summary : List ℕ) → Good m d bay s → s.collecting ≡ Some g →
      m.Fits b s.bay summary → Good m d bay (collects s s.highest (hears g b summary))
  good_hears s g b summary good has fit =
      let ok = good.node.collecting g has in
      record {
        node = record {
          bay = good.node.bay;
          words = good.node.words;
          kept = good.node.kept;
          collecting = λ k is.
              let e : k ≡ hears g b summary = cc is in
              rw e (record {
                own = ok.own;
                newest = ok.newest;
                positive = ok.positive;
                places = length-set g.heard b (Some summary) ∙ ok.places;
                no_lock = ok.no_lock;
                no_grant = ok.no_grant;
              });
        };
        fits = λ k is.
            let e : k ≡ hears g b summary = cc is in
            subst (λ (k : Collection). HeardFit m s.bay k.heard) (sym e)
            (heard_fit_more m s.bay b g.heard summary fit (good.fits g has));
        stays = good.stays;
      }

  pub good_drops : (s : State) → Good m d bay s → Good m d bay (drops s)
  good_drops s good = record {
    node = record {
      bay = good.node.bay;
      words = good.node.words;
      kept = good.node.kept;
      collecting = λ g is. absurd (cc is);
    };
    fits = λ g is. absurd (cc is);
    stays = good.stays;
  }

  pub good_grants : (s : State) (g : Collection) → Good m d bay s → s.collecting ≡ Some g → Good m d bay (grants s g)
  good_grants s g good has =
      let ok = good.node.collecting g has in
      record {
        node = record {
          bay = good.node.bay;
          words = length-set s.words g.op.switch.0 Lost ∙ good.node.words;
          kept = record {
            lock = λ l is. absurd (cc (is, ok.no_lock));
            granted = λ k is.
                let e : k ≡ record { round = g.round; op = g.op } = cc is in
                rw e (record { own = ok.own; newest = ok.newest; positive = ok.positive });
          };
          collecting = λ k is. absurd (cc is);
        };
        fits = λ k is. absurd (cc is);
        stays = good.stays;
      }

  pub good_senses : (s : State) (i : ℕ) (word : Dbpos) → Good m d bay s → Good m d bay (senses s i word)
  good_senses s i word good = record {
    node = record {
      bay = good.node.bay;
      words = length-set s.words i word ∙ good.node.words;
      kept = good.node.kept;
      collecting = λ g is.
          let f = good.node.collecting g is in
          record {
            own = f.own;
            newest = f.newest;
            positive = f.positive;
            places = f.places;
            no_lock = f.no_lock;
            no_grant = f.no_grant;
          };
    };
    fits = good.fits;
    stays = good.stays;
  }

  pub good_ends : (s : State) (g : Grant) → Good m d bay s → s.granted ≡ Some g → Good m d bay (ends s)
  good_ends s g good has = record {
    node = record {
      bay = good.node.bay;
      words = good.node.words;
      kept = record {
        lock = λ l is. absurd (cc ((good.node.kept.lock l is).alone, has));
        granted = λ k is. absurd (cc is);
      };
      collecting = λ k is. absurd (cc ((good.node.collecting k is).no_grant, has));
    };
    fits = λ k is. absurd (cc ((good.node.collecting k is).no_grant, has));
    stays = good.stays;
  }

  pub good_restarts : (s : State) → Good m d bay s → Good m d bay (restarts s)
  good_restarts s good = record {
    node = record {
      bay = good.node.bay;
      words = length-replicate (length s.words) Lost ∙ good.node.words;
      kept = good.node.kept;
      collecting = λ g is. absurd (cc is);
    };
    fits = λ g is. absurd (cc is);
    stays = good.stays;
  }
