-- The states that the least and the greatest reading show are those over every reading.
use Rattle.std.proofs.Common.{◌≡◌, ◌↔◌, ℕ, ◌+◌, Bool, true, false, List, [], ◌∷◌, ◌++◌, IsTrue, refl, sym, ◌∙◌, ap}
use Rattle.std.proofs.Common.{subst, inl, inr}
use Rattle.std.proofs.lemmas.List.{length_push}
use Rattle.ilk_base.specs.declared.words.Dbpos.{Dbpos}
use Rattle.station_graph.specs.Diagram.{Diagram, node_count}
use Rattle.station_graph.specs.Supply.{Live}
use Rattle.station_graph.proofs.PathLemmas.{slice_get-push}
use Rattle.station_state.specs.declared.certainty.Certainty.{Certainty}
use Rattle.station_state.specs.declared.certainty.Certainty.TheVariants.{Always, Never, Unknown}
use Rattle.station_state.specs.declared.certainty.NodeState.{NodeState}
use Rattle.station_state.specs.State.{Earthed, HoldsIn, AreStates, Between, IsBetween, AreBetween, certainty_of}
use Rattle.station_state.specs.State.{extreme}
use Rattle.station_state.proofs.GrowLemmas.{Grows, live_grows, earthed_grows}
use Rattle.station_state.proofs.ExtremeLemmas.{extreme_reads, least_grows, grows_greatest}

-- of anything that only grows as switches close
holds_in : (words : List Dbpos) (P : List Bool → Type 0) → ((v w : List Bool) → Grows v w → P v → P w) →
    (c : Certainty) → Between (P (extreme false words)) (P (extreme true words)) c → HoldsIn words P c
holds_in words P grow Always least = λ v reads. grow (extreme false words) v (least_grows words v reads) least
holds_in words P grow Never none = λ v reads p. none (grow v (extreme true words) (grows_greatest words v reads) p)
holds_in words P grow Unknown (none, some) = (
  (extreme true words, extreme_reads true words, some),
  (extreme false words, extreme_reads false words, none),
)

pub states_are : (d : Diagram) (words : List Dbpos) (states : List NodeState) →
    AreBetween (node_count d) d (extreme false words) (extreme true words) states → AreStates d words states
states_are d words states h = record {
  count = h.count;
  live = λ n s at. holds_in words (λ v. Live d v n) (λ v w grows. live_grows d v w grows n) s.live (h.each n s at).live;
  earthed = λ n s at. holds_in words (λ v. Earthed d v n) (λ v w grows. earthed_grows d v w grows n) s.earthed
      (h.each n s at).earthed;
}

-- two facts by what was answered of them
pub between_of : (P Q : Type 0) (p q : Bool) → IsTrue p ↔ P → IsTrue q ↔ Q → Between P Q (certainty_of p q)
between_of P Q true q p_is q_is = p_is.0 refl
between_of P Q false true p_is q_is = (λ p. let e = p_is.1 p in cc, q_is.0 refl)
between_of P Q false false p_is q_is = λ q. let e = q_is.1 q in cc

module _ (d : Diagram) (least greatest : List Bool) where
  pub between_next : (k : ℕ) (states : List NodeState) (s : NodeState) → AreBetween k d least greatest states →
      IsBetween d least greatest k s → AreBetween (k + 1) d least greatest (states ++ s ∷ [])
  between_next k states s so_far here = record {
    count = length_push states s ∙ ap (λ n. n + 1) so_far.count;
    each = λ n x at. elim (slice_get-push states s x n at) [
      | inl old ↦ so_far.each n x old
      | inr new ↦
          let place : k ≡ n = sym so_far.count ∙ sym new.0 in
          subst (λ y. IsBetween d least greatest n y) new.1 (subst (λ m. IsBetween d least greatest m s) place here)
    ];
  }
