-- The alphabets, one part after another.
use Rattle.std.proofs.Common.{◌≡◌, ℕ, ◌+◌, ◌<◌, List, [], ◌∷◌, ◌++◌, length, slice_get, Some, sym, ◌∙◌, ap, subst}
use Rattle.std.proofs.Common.{inl, inr, arith}
use Rattle.std.proofs.lemmas.Bool.{cases_lt}
use Rattle.std.proofs.lemmas.Option.{slice_get_within}
use Rattle.std.proofs.lemmas.List.{length_push}
use Rattle.station_graph.proofs.PathLemmas.{slice_get-push}
use Rattle.station_graph.specs.Diagram.{Diagram, part_count}
use Rattle.bay_contract.specs.declared.refusal.PartsRefusal.{PartsRefusal}
use Rattle.bay_contract.specs.declared.refusal.PartsRefusal.TheVariants.{Memory, Many}
use Rattle.part_alphabets.specs.Counting.{PartFits, PartIsPast, AreStepSizes}
use Rattle.bay_contract.specs.Building.{IsBuiltFor}
use Rattle.part_alphabets.specs.PartAlphabets.{PartAlphabet, Alphabets, or_nothing, part_at}
use Rattle.bay_contract.specs.Shapes.{AreUniform}
use Rattle.part_alphabets.specs.Alphabets.{AreAlphabets}
use Rattle.bay_contract.specs.Refusing.{IsRefusalOf, IsRefusal}
use Rattle.bay_contract.proofs.NextLemmas.{some_at}
use Rattle.bay_contract.proofs.IndexLemmas.{built_alphabet}

-- This alphabet is built for the part, with so many steps.
pub record IsMade (d : Diagram) (part : ℕ) (x : PartAlphabet) : Type 0 where
  pub built : IsBuiltFor d part x
  pub steps : AreStepSizes d part (length x.forks)

-- What is known after so many parts.
pub record PartsSoFar (d : Diagram) (parts : List PartAlphabet) (count : ℕ) : Type 0 where
  pub len : length parts ≡ count
  pub each : (part : ℕ) (x : PartAlphabet) → slice_get parts part ≡ Some x → IsMade d part x
  pub fits : (part : ℕ) → part < count → PartFits d part

pub parts_none : (d : Diagram) (parts : List PartAlphabet) → parts ≡ [] → PartsSoFar d parts 0
parts_none d parts e = let none_yet : length parts ≡ 0 = ap length e in record {
  len = none_yet;
  each = λ p x at. absurd (omega (arith, slice_get_within parts p x at));
  fits = λ p lt. absurd (omega arith);
}

pub parts_more : (d : Diagram) (parts more : List PartAlphabet) (count : ℕ) (x : PartAlphabet)
    → PartsSoFar d parts count → more ≡ parts ++ x ∷ [] → IsBuiltFor d count x → AreStepSizes d count (length x.forks)
    → PartFits d count → PartsSoFar d more (count + 1)
parts_more d parts more count x h e is steps fits = subst (λ (l : List PartAlphabet). PartsSoFar d l (count + 1))
    (sym e) (record {
      len = omega (arith, length_push parts x, h.len);
      each = λ p y at. elim (slice_get-push parts x y p at) [
        | inl old ↦ h.each p y old
        | inr new ↦ subst (λ (z : PartAlphabet). IsMade d p z) new.1 (subst (λ n. IsMade d n x) (sym (new.0 ∙ h.len))
            (record { built = is; steps = steps }))
      ];
      fits = λ p lt. elim (cases_lt p count) [
        | inl less ↦ h.fits p less
        | inr more_than ↦ (let here : count ≡ p = omega arith in subst (λ n. PartFits d n) here fits)
      ];
    })

pub parts_refused : (d : Diagram) (parts : List PartAlphabet) (count : ℕ) (e : PartsRefusal)
    → PartsSoFar d parts count → IsRefusalOf d count e → IsRefusal d e
parts_refused d parts count Memory h r = tt
parts_refused d parts count (Many p step) h r = (
  subst (λ n. PartIsPast d n step) (sym r.0) r.1,
  λ q lt. h.fits q
      (omega (arith, r.0)),
)

pub parts_all : (d : Diagram) (a : Alphabets) (count : ℕ) → count ≡ part_count d → a.switches ≡ length d.switches
    → PartsSoFar d a.parts count → AreAlphabets d a
parts_all d a count e switches h = record {
  switches = switches;
  parts = h.len ∙ e;
  each = λ part lt.
      let (x, at) = some_at a.parts part (omega (arith, h.len)) in
      let made : IsMade d part (part_at a part) = subst (λ (y : PartAlphabet). IsMade d part y) (sym
      (ap or_nothing at)) (h.each part x at) in
      built_alphabet d a part made.built made.steps;
}

pub parts_uniform : (d : Diagram) (a : Alphabets) (count : ℕ) → a.switches ≡ length d.switches
    → PartsSoFar d a.parts count → AreUniform a
parts_uniform d a count switches h part x at = (h.each part x at).built.switches ∙ sym switches
