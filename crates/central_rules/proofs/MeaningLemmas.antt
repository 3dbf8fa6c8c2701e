-- What the words of a bay say where its summaries were made of them, and what fits of what was heard.
use Rattle.std.proofs.Common.{◌≡◌, ◌≢◌, ◌⊎◌, ◌∙◌, ℕ, zero, suc, Bool, List, [], ◌∷◌, slice_get, slice_set, Option}
use Rattle.std.proofs.Common.{Some, None, sym, subst, inl, inr}
use Rattle.std.proofs.Math.ListN.{replicate}
use Rattle.std.proofs.lemmas.Bool.{cases_eq}
use Rattle.std.proofs.lemmas.Option.{none-some, same_Some}
use Rattle.ilk_base.specs.declared.words.Dbpos.{Dbpos}
use Rattle.station_graph.specs.Alike.{Irrelevant}
use Rattle.station_graph.proofs.PositionLemmas.{slice_get-set_other}
use Rattle.central_rules.specs.Knowledge.{StandsAlike, Known, IsReadingOf}
use Rattle.central_rules.specs.Meaning.{Meaning, Laws, HeardFit, CannotExclude, AreMade, IsMade}

-- a vector that the own words and the summaries allow is a reading of what the bay knows
pub reading_of : (m : Meaning) → Laws m → (k : Known) (heard : List (Option (List ℕ))) (v : List Bool) →
    AreMade m k heard → CannotExclude m k.bay k.own heard v → IsReadingOf m.diagram k v
reading_of m laws k heard v made knows = record {
  whole = knows.whole;
  own = knows.own_agree;
  heard = λ b words other told. of_bay b words other (made.each b words other told);
}
  where
    of_bay : (b : ℕ) (words : List Dbpos) → b ≢ k.bay → IsMade m b k.bay words heard → Irrelevant m.diagram b k.bay
        ⊎ StandsAlike m.diagram b words v
    of_bay b words other it = elim it.made.no_more [
      | inl silent ↦ inl (laws.irrelevant b k.bay other silent.0)
      | inr alike ↦ inr (alike v knows.whole (knows.heard_allow b it.summary other it.stands))
    ]

-- a list of the same entries has no other
replicate_has : {X : Type 0} (n i : ℕ) (x y : X) → slice_get (replicate n x) i ≡ Some y → x ≡ y
replicate_has zero i x y e = cc
replicate_has (suc n) zero x y e = same_Some x y e
replicate_has (suc n) (suc i) x y e = replicate_has n i x y e

-- nothing heard fits
pub heard_fit_none : (m : Meaning) (bay n : ℕ) → HeardFit m bay (replicate n None)
heard_fit_none m bay n b s other told = let e : None ≡ Some s = replicate_has n b None (Some s) told in
    absurd (none-some s e)

-- what was written stands there
set_told : {X : Type 0} (xs : List X) (i : ℕ) (x y : X) → slice_get (slice_set xs i x) i ≡ Some y → x ≡ y
set_told [] i x y e = cc
set_told (z ∷ xs) zero x y e = same_Some x y e
set_told (z ∷ xs) (suc i) x y e = set_told xs i x y e

-- one more summary that fits
pub heard_fit_more : (m : Meaning) (bay b : ℕ) (heard : List (Option (List ℕ))) (s : List ℕ) → m.Fits b bay s →
    HeardFit m bay heard → HeardFit m bay (slice_set heard b (Some s))
heard_fit_more m bay b heard s fits h k t other told = elim (cases_eq k b) [
  | inl e ↦
      let is : s ≡ t = same_Some s t (set_told heard b (Some s) (Some t)
      (subst (λ j. slice_get (slice_set heard b (Some s)) j ≡ Some (Some t)) e told)) in
      subst (λ j. m.Fits j bay t) (sym e) (subst (λ x. m.Fits b bay x) is fits)
  | inr ne ↦ h k t other (sym (slice_get-set_other heard b k (Some s) ne) ∙ told)
]
