-- The facts hold at the start.
use Rattle.std.proofs.Common.{◌≡◌, ◌<◌, arith, ℕ, zero, suc, Bool, List, [], ◌∷◌, length, get_or, slice_get, Option}
use Rattle.std.proofs.Common.{Some, None, Contains, refl, sym, subst, ap, ◌∙◌}
use Rattle.std.specs.Prelude.{unwrap_or}
use Rattle.std.proofs.lemmas.Option.{slice_get-get_or}
use Rattle.ilk_base.specs.declared.words.Dbpos.{Dbpos}
use Rattle.ilk_base.specs.declared.words.Dbpos.TheVariants.{Lost}
use Rattle.station_graph.specs.Diagram.{Diagram}
use Rattle.central_rules.specs.Meaning.{Meaning, IsBay, bay_of}
use Rattle.bay_frames.specs.declared.frame.Frame.{Frame}
use Rattle.bay_protocol.specs.State.{State, nothing_kept}
use Rattle.bay_protocol.specs.Fits.{IsNode}
use Rattle.bay_protocol.proofs.Keeping.{node_resumed}
use Rattle.reservation_core.specs.Scene.{Scene, node, new_node, true_at, IsTrueWord}
use Rattle.reservation_core.specs.RoundFacts.{RoundFacts}
use Rattle.reservation_core.specs.Start.{AreNew, IsStart}
use Rattle.reservation_core.specs.Facts.{Facts}
use Rattle.reservation_core.proofs.Rounds.{get_lost}
use Rattle.reservation_core.proofs.Steps.{none_there}

fresh_at : (xs : List (Option State)) (c : ℕ) (n : State) → ((s : State) → slice_get xs c ≡ Some (Some s) → s ≡ n) →
    unwrap_or (get_or xs c None) n ≡ n
fresh_at [] c n h = refl
fresh_at (None ∷ xs) zero n h = refl
fresh_at (Some s ∷ xs) zero n h = h s refl
fresh_at (x ∷ xs) (suc c) n h = fresh_at xs c n h

module _ (d : Diagram) (nodes : List (Option State)) (new : AreNew d nodes) where
  -- only bays have nodes, and those are new
  new_only : (c : ℕ) (s : State) → slice_get nodes c ≡ Some (Some s) → IsBay d c × (s ≡ new_node d c)
  new_only c s got = new.each c (Some s) got

  -- each bay has one
  new_there : (c : ℕ) → IsBay d c → (s : State) × (slice_get nodes c ≡ Some (Some s))
  new_there c bay =
      let inside : c < length nodes = omega (arith, bay.0, new.count) in
      by_place (get_or nodes c None) (slice_get-get_or nodes c None inside)
    where
      by_place : (x : Option State) → slice_get nodes c ≡ Some x → (s : State) × (slice_get nodes c ≡ Some (Some s))
      by_place (Some s) at = (s, at)
      by_place None at = absurd (new.each c None at bay)

-- and one of the station
fresh_node : (d : Diagram) (b : ℕ) → IsBay d b → IsNode d (new_node d b)
fresh_node d b bay =
    node_resumed d b nothing_kept bay (record { lock = λ l is. absurd (cc is); granted = λ g is. absurd (cc is) })

module _ (m : Meaning) (start : List Bool) (w : Scene) (is : IsStart m.diagram start w) where
  pub fresh : (c : ℕ) → node m.diagram w c ≡ new_node m.diagram c
  fresh c = fresh_at w.nodes c (new_node m.diagram c) (λ s got. (new_only m.diagram w.nodes is.nodes c s got).1)

  nothing_there : (f : Frame) → Contains w.sent f → ⊥
  nothing_there f there = none_there f (subst (λ (xs : List Frame). Contains xs f) is.sent there)

  pub no_message : (k : ℕ) (f : Frame) → slice_get w.sent k ≡ Some f → ⊥
  no_message k f got =
      let e : slice_get [] k ≡ Some f = ap (λ (xs : List Frame). slice_get xs k) (sym is.sent) ∙ got in
      cc e

  pub starts_rounds : RoundFacts m w
  starts_rounds = record {
    shape = record {
      nodes = is.nodes.count;
      present = new_there m.diagram w.nodes is.nodes;
      only = λ b s got. (new_only m.diagram w.nodes is.nodes b s got).0;
      named = λ b. ap (λ (n : State). n.bay) (fresh b);
      truth = is.truth;
      drives = is.drives;
    };
    rounds = λ b bay. subst (IsNode m.diagram) (sym (fresh b)) (fresh_node m.diagram b bay);
    bounds = record {
      frames = λ f there. absurd (nothing_there f there);
      fit = λ f there. absurd (nothing_there f there);
      locks = λ b l has.
          let none : (node m.diagram w b).lock ≡ None = ap (λ (n : State). n.lock) (fresh b) in
          absurd (cc (has, none));
    };
    overs = λ f there. absurd (nothing_there f there);
    locks = λ f summary there. absurd (nothing_there f there);
    drives = λ i lt on. absurd (cc (on, is.still i lt));
    heard = λ c b g summary has.
        let none : (node m.diagram w c).collecting ≡ None = ap (λ (n : State). n.collecting) (fresh c) in
        absurd (cc (has, none));
  }

  pub lost_word : (i : ℕ) → get_or (node m.diagram w (bay_of m.diagram i)).words i Lost ≡ Lost
  lost_word i =
      ap (λ (n : State). get_or n.words i Lost) (fresh (bay_of m.diagram i)) ∙ get_lost (length m.diagram.switches) i

  pub starts : Facts m w
  starts = record {
    rounds = starts_rounds;
    truth = record {
      held = record {
        own = λ i. get_or (node m.diagram w (bay_of m.diagram i)).words i Lost;
        beside = λ k i. Lost;
        known = λ c i. Lost;
      };
      facts = record {
        words_are = λ i lt. refl;
        words = λ i lt free. subst (λ (x : Dbpos). IsTrueWord x (true_at w.truth i)) (sym (lost_word i)) tt;
        made = λ k f s got. absurd (no_message k f got);
        answers = λ k f s got. absurd (no_message k f got);
        heard = λ c g has.
            let none : (node m.diagram w c).collecting ≡ None = ap (λ (n : State). n.collecting) (fresh c) in
            absurd (cc (has, none));
        grants = λ c g has.
            let none : (node m.diagram w c).granted ≡ None = ap (λ (n : State). n.granted) (fresh c) in
            absurd (cc (has, none));
      };
    };
  }
