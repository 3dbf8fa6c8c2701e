-- The verdicts, switch by switch.
use Rattle.std.proofs.Common.{◌≡◌, ℕ, ◌+◌, List, [], ◌∷◌, ◌++◌, refl, sym, ◌∙◌, subst, inl, inr, arith}
use Rattle.std.proofs.lemmas.List.{length_push}
use Rattle.ilk_base.specs.declared.words.Dbpos.{Dbpos}
use Rattle.station_graph.specs.Diagram.{Diagram}
use Rattle.station_graph.proofs.PathLemmas.{slice_get-push}
use Rattle.release_compile.specs.declared.station.SwitchVerdicts.{SwitchVerdicts}
use Rattle.release_compile.specs.Reaches.{AreVerdictsOf, AreVerdicts}

pub verdicts_none : (d : Diagram) (words : List Dbpos) → AreVerdicts d words [] 0
verdicts_none d words = record { len = refl; each = λ i s at. cc }

pub verdicts_more : (d : Diagram) (words : List Dbpos) (list : List SwitchVerdicts) (n : ℕ) (v : SwitchVerdicts) →
    AreVerdicts d words list n → AreVerdictsOf d words n v → AreVerdicts d words (list ++ v ∷ []) (n + 1)
verdicts_more d words list n v are new = record {
  len = omega (arith, length_push list v, are.len);
  each = λ i s at. elim (slice_get-push list v s i at) [
    | inl before ↦ are.each i s before
    | inr here ↦
        (let e : n ≡ i = sym (here.0 ∙ are.len) in
        subst (λ x. AreVerdictsOf d words i x) here.1 (subst (λ k. AreVerdictsOf d words k v) e new))
  ];
}
