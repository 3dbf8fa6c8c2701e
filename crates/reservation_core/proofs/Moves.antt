-- The small changes of one node, of which each step is made.
use Rattle.std.proofs.Common.{◌≡◌, ◌≢◌, ◌+◌, ◌<◌, ◌≤◌, ℕ, true, false, List, length, slice_get, set, Option, Some, None}
use Rattle.std.proofs.Common.{Contains, refl, sym, subst, ap, ◌∙◌, inl, inr, arith, length-set}
use Rattle.std.proofs.lemmas.List.{length-replicate}
use Rattle.ilk_base.specs.declared.words.Dbpos.{Dbpos}
use Rattle.ilk_base.specs.declared.words.Dbpos.TheVariants.{Lost}
use Rattle.ilk_base.specs.declared.words.Op.{Op}
use Rattle.station_graph.specs.Diagram.{part_count}
use Rattle.central_rules.specs.Meaning.{Meaning, IsBay}
use Rattle.bay_frames.specs.declared.frame.Frame.{Frame}
use Rattle.bay_frames.specs.declared.frame.Body.TheVariants.{Over}
use Rattle.bay_protocol.specs.declared.values.Lock.{Lock}
use Rattle.bay_protocol.specs.declared.values.Grant.{Grant}
use Rattle.bay_protocol.specs.declared.values.Collection.{Collection}
use Rattle.bay_protocol.specs.State.{State, IsOther, MayLock, under_way, under_way_of, fresh, opens, collects, grants}
use Rattle.bay_protocol.specs.State.{drops, locks, unlocks, hears, senses, ends, restarts}
use Rattle.bay_protocol.specs.Step.{IsFree}
use Rattle.bay_protocol.specs.Fits.{IsNode, IsOwn}
use Rattle.reservation_core.specs.Scene.{Scene, node, runs}
use Rattle.reservation_core.specs.RoundFacts.{RoundFacts, HeardSent, round_bay}
use Rattle.reservation_core.proofs.Nodes.{got_set}
use Rattle.reservation_core.proofs.Change.{MayBecome}
use Rattle.reservation_core.proofs.Rounds.{dropped_round, ended_round, round_is_highest, unheard, lock_is, node_there}
use Rattle.bay_protocol.proofs.UnderWay.{idle_collecting, idle_grant}

-- ---- the changes

module _ (m : Meaning) (w : Scene) (b : ℕ) (facts : RoundFacts m w) (bay : IsBay m.diagram b) where
  abbrev old : State
  old = node m.diagram w b

  ok : IsNode m.diagram (node m.diagram w b)
  ok = facts.rounds b bay

  within : b < length w.nodes
  within = node_there m w b facts bay

  -- nothing
  pub may_stay : MayBecome m w b (node m.diagram w b)
  may_stay = record {
    within = within;
    name = facts.shape.named b;
    sound = ok;
    highest = omega arith;
    locks = facts.bounds.locks b;
    rounds = λ q is. inl is;
    locked = λ l is running. is;
    driven = λ g is on. is;
    heard = λ g x summary. facts.heard b x g summary;
  }

  -- a lock is given to round r of c
  pub may_lock : (c r : ℕ) → under_way old ≡ None → MayLock old.lock c r → IsOther m.diagram b c → r ≢ 0 →
      r ≤ (node m.diagram w c).highest → MayBecome m w b (locks old c r)
  may_lock c r idle may other positive low = record {
    within = within;
    name = facts.shape.named b;
    sound = record {
      bay = ok.bay;
      words = ok.words;
      kept = record {
        lock = λ l is.
            let e : l ≡ record { holder = record { 0 = c }; round = r } = cc is in
            rw e (record {
              holder = (other.0, λ same. other.1 (same ∙ facts.shape.named b));
              positive = positive;
              alone = idle_grant old.collecting old.granted idle;
            });
        granted = ok.kept.granted;
      };
      collecting = λ g is. absurd (cc (is, idle_collecting old.collecting old.granted idle));
    };
    highest = omega arith;
    locks = λ l is. let e : l ≡ record { holder = record { 0 = c }; round = r } = cc is in rw e low;
    rounds = λ q is. inl is;
    locked = λ l is running.
        let top : l.round ≡ (node m.diagram w l.holder.0).highest =
        round_is_highest m.diagram (node m.diagram w l.holder.0) l.round
        (facts.rounds l.holder.0 ((ok.kept.lock l is).holder).0) running in
        let fits : MayLock (Some l) c r = subst (λ (x : Option Lock). MayLock x c r) is may in
        let below : r ≤ (node m.diagram w l.holder.0).highest = rw fits.0 low in
        let same : r ≡ l.round = omega (arith, top, below, fits.1) in
        ap (λ x. Some x) (sym (lock_is l c r fits.0 same));
    driven = λ g is on. is;
    heard = λ g x summary. facts.heard b x g summary;
  }

  -- a lock is given up, at an Over of its round that was sent
  pub may_unlock : (f : Frame) (l : Lock) → old.lock ≡ Some l → Contains w.sent f → f.body ≡ Over →
      l.holder.0 ≡ f.from.0 → l.round ≤ f.round → MayBecome m w b (unlocks old)
  may_unlock f l has there body from low = record {
    within = within;
    name = facts.shape.named b;
    sound = record {
      bay = ok.bay;
      words = ok.words;
      kept = record { lock = λ k is. absurd (cc is); granted = ok.kept.granted };
      collecting = λ g is.
          let f = ok.collecting g is in
          record {
            own = f.own;
            newest = f.newest;
            positive = f.positive;
            places = f.places;
            no_lock = refl;
            no_grant = f.no_grant;
          };
    };
    highest = omega arith;
    locks = λ k is. absurd (cc is);
    rounds = λ q is. inl is;
    locked = λ k is running.
        let e : k ≡ l = cc (is, has) in
        let running' : under_way (node m.diagram w f.from.0) ≡ Some l.round =
        subst (λ (x : ℕ). under_way (node m.diagram w x) ≡ Some l.round) from
        (subst (λ (x : Lock). under_way (node m.diagram w x.holder.0) ≡ Some x.round) e running) in
        let top : l.round ≡ (node m.diagram w f.from.0).highest =
        round_is_highest m.diagram (node m.diagram w f.from.0) l.round
        (facts.rounds f.from.0 (facts.bounds.fit f there).sender) running' in
        let below : f.round ≤ (node m.diagram w f.from.0).highest =
        subst (λ x. f.round ≤ (node m.diagram w (round_bay f x)).highest) body (facts.bounds.frames f there) in
        let same : l.round ≡ f.round = omega (arith, top, below, low) in
        absurd (facts.overs f there body (running' ∙ ap (λ x. Some x) same));
    driven = λ g is on. is;
    heard = λ g x summary. facts.heard b x g summary;
  }

  -- a round is opened
  pub may_open : (op : Op) → IsFree old → IsOwn m.diagram old.bay op.switch.0 → MayBecome m w b (opens m.diagram old op)
  may_open op free own =
      let no_grant : old.granted ≡ None = idle_grant old.collecting old.granted free.idle in
      record {
        within = within;
        name = facts.shape.named b;
        sound = record {
          bay = ok.bay;
          words = ok.words;
          kept = record {
            lock = λ l is. absurd (cc (is, free.unlocked));
            granted = λ g is. absurd (cc (is, no_grant));
          };
          collecting = λ g is.
              let e : g ≡ fresh m.diagram old op = cc is in
              rw e (record {
                own = own;
                newest = refl;
                positive = λ z. absurd (omega (arith, z));
                places = length-replicate (part_count m.diagram) None;
                no_lock = free.unlocked;
                no_grant = no_grant;
              });
        };
        highest = omega arith;
        locks = λ l is. absurd (cc (is, free.unlocked));
        rounds = λ q is. let e : old.highest + 1 ≡ q = cc is in inr (omega (arith, e));
        locked = λ l is running. absurd (cc (is, free.unlocked));
        driven = λ g is on. is;
        heard = λ g x summary is has.
            let e : g ≡ fresh m.diagram old op = cc is in
            absurd (unheard (part_count m.diagram) x summary
            (ap (λ (y : Collection). slice_get y.heard x) (sym e) ∙ has));
      }

  -- what was heard, and the new Answer
  heard_each : (g : Collection) (from : ℕ) (summary : List ℕ) → old.collecting ≡ Some g →
      HeardSent m w.sent b g.round from summary → (x : ℕ) (other : List ℕ) →
      slice_get (set g.heard from (Some summary)) x ≡ Some (Some other) → HeardSent m w.sent b g.round x other
  heard_each g from summary has sent x other got = elim (got_set g.heard from (Some summary) x (Some other) got) [
    | inl p ↦
        let e : summary ≡ other = cc p.1 in
        subst (λ (y : ℕ). HeardSent m w.sent b g.round y other) (sym p.0)
        (subst (λ (s : List ℕ). HeardSent m w.sent b g.round from s) e sent)
    | inr was ↦ facts.heard b x g other has was
  ]

  -- an Answer is heard
  pub may_hear : (g : Collection) (from : ℕ) (summary : List ℕ) → old.collecting ≡ Some g →
      HeardSent m w.sent b g.round from summary → MayBecome m w b (collects old old.highest (hears g from summary))
  may_hear g from summary has sent =
      let good = ok.collecting g has in
      record {
        within = within;
        name = facts.shape.named b;
        sound = record {
          bay = ok.bay;
          words = ok.words;
          kept = ok.kept;
          collecting = λ k is.
              let e : k ≡ hears g from summary = cc is in
              rw e (record {
                own = good.own;
                newest = good.newest;
                positive = good.positive;
                places = length-set g.heard from (Some summary) ∙ good.places;
                no_lock = good.no_lock;
                no_grant = good.no_grant;
              });
        };
        highest = omega arith;
        locks = λ l is. facts.bounds.locks b l is;
        rounds = λ q is. inl (ap (λ x. under_way_of x old.granted) has ∙ is);
        locked = λ l is running. is;
        driven = λ g is on. is;
        heard = λ k x other is got.
            let e : k ≡ hears g from summary = cc is in
            subst (λ (y : Collection). HeardSent m w.sent b y.round x other) (sym e)
            (heard_each g from summary has sent x other (ap (λ (y : Collection). slice_get y.heard x) (sym e) ∙ got));
      }

  -- the round that is collected is dropped
  pub may_drop : MayBecome m w b (drops old)
  may_drop = record {
    within = within;
    name = facts.shape.named b;
    sound = record { bay = ok.bay; words = ok.words; kept = ok.kept; collecting = λ g is. absurd (cc is) };
    highest = omega arith;
    locks = facts.bounds.locks b;
    rounds = λ q is. inl (dropped_round old.collecting old.granted q (λ g has. (ok.collecting g has).no_grant) is);
    locked = λ l is running. is;
    driven = λ g is on. is;
    heard = λ g x summary is got. absurd (cc is);
  }

  -- a word is read
  pub may_sense : (i : ℕ) (word : Dbpos) → MayBecome m w b (senses old i word)
  may_sense i word = record {
    within = within;
    name = facts.shape.named b;
    sound = record {
      bay = ok.bay;
      words = length-set old.words i word ∙ ok.words;
      kept = ok.kept;
      collecting = λ g is.
          let f = ok.collecting g is in
          record {
            own = f.own;
            newest = f.newest;
            positive = f.positive;
            places = f.places;
            no_lock = f.no_lock;
            no_grant = f.no_grant;
          };
    };
    highest = omega arith;
    locks = facts.bounds.locks b;
    rounds = λ q is. inl is;
    locked = λ l is running. is;
    driven = λ g is on. is;
    heard = λ g x summary. facts.heard b x g summary;
  }

  -- a granted operation ends: its drive stands still
  pub may_end : (g : Grant) → old.granted ≡ Some g → runs w.drives g.op.switch.0 ≡ false → MayBecome m w b (ends old)
  may_end g has still = record {
    within = within;
    name = facts.shape.named b;
    sound = record {
      bay = ok.bay;
      words = ok.words;
      kept = record { lock = λ l is. absurd (cc ((ok.kept.lock l is).alone, has)); granted = λ k is. absurd (cc is) };
      collecting = λ k is. absurd (cc ((ok.collecting k is).no_grant, has));
    };
    highest = omega arith;
    locks = facts.bounds.locks b;
    rounds = λ q is. inl (ended_round old.collecting old.granted q is);
    locked = λ l is running. is;
    driven = λ k is on.
        let e : k ≡ g = cc (is, has) in
        let on' : runs w.drives g.op.switch.0 ≡ true = subst (λ (x : Grant). runs w.drives x.op.switch.0 ≡ true) e on in
        absurd (cc (on', still));
    heard = λ k x summary. facts.heard b x k summary;
  }

  -- all but the kept record is lost
  pub may_restart : MayBecome m w b (restarts old)
  may_restart = record {
    within = within;
    name = facts.shape.named b;
    sound = record {
      bay = ok.bay;
      words = length-replicate (length old.words) Lost ∙ ok.words;
      kept = ok.kept;
      collecting = λ g is. absurd (cc is);
    };
    highest = omega arith;
    locks = facts.bounds.locks b;
    rounds = λ q is. inl (dropped_round old.collecting old.granted q (λ g has. (ok.collecting g has).no_grant) is);
    locked = λ l is running. is;
    driven = λ g is on. is;
    heard = λ g x summary is got. absurd (cc is);
  }

  -- a released operation is granted
  pub may_grant : (g : Collection) → old.collecting ≡ Some g → MayBecome m w b (grants old g)
  may_grant g has =
      let good = ok.collecting g has in
      record {
        within = within;
        name = facts.shape.named b;
        sound = record {
          bay = ok.bay;
          words = length-set old.words g.op.switch.0 Lost ∙ ok.words;
          kept = record {
            lock = λ l is. absurd (cc (is, good.no_lock));
            granted = λ k is.
                let e : k ≡ record { round = g.round; op = g.op } = cc is in
                rw e (record { own = good.own; newest = good.newest; positive = good.positive });
          };
          collecting = λ k is. absurd (cc is);
        };
        highest = omega arith;
        locks = facts.bounds.locks b;
        rounds = λ q is. inl (ap (λ x. under_way_of x old.granted) has ∙ is);
        locked = λ l is running. is;
        driven = λ k is on. absurd (cc (is, good.no_grant));
        heard = λ k x summary is got. absurd (cc is);
      }
