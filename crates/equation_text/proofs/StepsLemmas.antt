-- The lines of the steps of all parts are read in one way.
use Rattle.std.proofs.Common.{◌≡◌, ◌∙◌, ◌⊎◌, ℕ, ◌+◌, ◌<◌, ◌≤◌, zero, suc, List, [], ◌∷◌, ◌++◌, length, map, refl}
use Rattle.std.proofs.Common.{sym, ap, subst, inl, inr, arith, Some, append_assoc}
use Rattle.std.specs.Prelude.{slice_get}
use Rattle.station_graph.specs.Diagram.{Diagram}
use Rattle.part_alphabets.specs.declared.fork.PartStep.{PartStep}
use Rattle.station_equations.specs.declared.goal.TheConstants.{NUMBERS}
use Rattle.station_equations.specs.EquationLines.{PartLines}
use Rattle.station_equations.specs.EquationText.{step_line, text_of}
use Rattle.equation_text.specs.Beginnings.{MayBeStep}
use Rattle.equation_text.specs.Reading.{step_lines, NoneFrom, NoStep}
use Rattle.station_equations.proofs.TextLemmas.{text_of-append}
use Rattle.equation_text.proofs.GroupLemmas.{text_one, lines_from, once_ended}
use Rattle.equation_text.proofs.OnceLemmas.{step_part}
use Rattle.equation_text.proofs.ReadLemmas.{StepFits, step_of, step_one}

-- a step that may be, and can be written
pub record StepIs (d : Diagram) (part m : ℕ) (s : PartStep) : Type 0 where
  pub may : MayBeStep d part m s
  pub fits : StepFits part m s

abbrev pub part_steps : ℕ → PartLines → List (List ℕ)
part_steps p x = step_lines p x.steps

module _ (d : Diagram) where
  pub steps_one : (part m : ℕ) (x y : PartStep) (r s : List ℕ) → StepIs d part m x → StepIs d part m y
      → text_of (step_of part m x) ++ r ≡ text_of (step_of part m y) ++ s → (x ≡ y) × (r ≡ s)
  steps_one part m x y r s fx fy same = step_one part m x y r s fx.fits fy.fits same

  -- all steps of parts that are numbered from p on
  abbrev pub AllSteps : ℕ → List PartLines → Type 0
  AllSteps p xs = (i m : ℕ) (x : PartLines) (s : PartStep) → slice_get xs i ≡ Some x → slice_get x.steps m ≡ Some s
      → StepIs d (p + i) m s

  first_steps : (p : ℕ) (x : PartLines) (xs : List PartLines) → AllSteps p (x ∷ xs) → (m : ℕ) (s : PartStep)
      → slice_get x.steps m ≡ Some s → StepIs d p (0 + m) s
  first_steps p x xs all m s at =
      let here : p + 0 ≡ p = omega arith in
      let number : m ≡ 0 + m = omega arith in
      subst (λ k. StepIs d p k s) number (subst (λ k. StepIs d k m s) here (all 0 m x s refl at))

  rest_steps : (p : ℕ) (x : PartLines) (xs : List PartLines) → AllSteps p (x ∷ xs) → AllSteps (p + 1) xs
  rest_steps p x xs all = λ i m y s at at_step. let same : p + suc i ≡ p + 1 + i = omega arith in
      subst (λ k. StepIs d k m s) same (all (suc i) m y s at at_step)

  split : (p : ℕ) (x : PartLines) (xs : List PartLines) (r : List ℕ) → text_of (lines_from part_steps p
      (x ∷ xs)) ++ r ≡ text_of (step_lines p x.steps) ++ (text_of (lines_from part_steps (p + 1) xs) ++ r)
  split p x xs r = ap (λ t. t ++ r) (text_of-append (step_lines p x.steps) (lines_from part_steps (p + 1) xs))
      ∙ append_assoc (text_of (step_lines p x.steps)) (text_of (lines_from part_steps (p + 1) xs)) r

  -- no part has a step
  abbrev NoSteps : List PartLines → Type 0
  NoSteps xs = (i : ℕ) (x : PartLines) → slice_get xs i ≡ Some x → x.steps ≡ []

  -- the text begins with a step of part p or a later one
  pub record BeginsStep (p : ℕ) (text : List ℕ) : Type 0 where
    pub part : ℕ
    pub step : PartStep
    pub rest : List ℕ
    pub later : p ≤ part
    pub small : part < NUMBERS
    pub is : text ≡ step_line part 0 step ++ 10 ∷ rest

  begins : (p : ℕ) (xs : List PartLines) (r : List ℕ) → AllSteps p xs → (NoSteps xs × (text_of
      (lines_from part_steps p xs) ++ r ≡ r)) ⊎ BeginsStep p (text_of (lines_from part_steps p xs) ++ r)
  begins p [] r all = inl ((λ i x at. absurd (cc at)), refl)
  begins p (x ∷ xs) r all = by x.steps refl (begins (p + 1) xs r (rest_steps p x xs all))
    where
      later : (text : List ℕ) → text ≡ text_of (lines_from part_steps (p + 1) xs) ++ r → x.steps ≡ []
          → (NoSteps xs × (text_of (lines_from part_steps (p + 1) xs) ++ r ≡ r)) ⊎ BeginsStep (p + 1) (text_of
          (lines_from part_steps (p + 1) xs) ++ r) → (NoSteps (x ∷ xs) × (text ≡ r)) ⊎ BeginsStep p text
      later text is none (inl h) = inl (all_none, is ∙ h.1)
        where
          all_none : NoSteps (x ∷ xs)
          all_none zero y at = let e : x ≡ y = cc at in ap (λ (z : PartLines). z.steps) (sym e) ∙ none
          all_none (suc i) y at = h.0 i y at
      later text is none (inr b) = inr (record {
        part = b.part;
        step = b.step;
        rest = b.rest;
        later = omega (arith, b.later);
        small = b.small;
        is = is ∙ b.is;
      })

      by : (steps : List PartStep) → x.steps ≡ steps → (NoSteps xs × (text_of (lines_from part_steps
          (p + 1) xs) ++ r ≡ r)) ⊎ BeginsStep (p + 1) (text_of (lines_from part_steps (p + 1) xs) ++ r)
          → (NoSteps (x ∷ xs) × (text_of (lines_from part_steps p (x ∷ xs)) ++ r ≡ r)) ⊎ BeginsStep p (text_of
          (lines_from part_steps p (x ∷ xs)) ++ r)
      by [] none more = later (text_of (lines_from part_steps p (x ∷ xs)) ++ r) (split p x xs r ∙ ap (λ
          (ss : List PartStep). text_of (step_lines p ss) ++ (text_of (lines_from part_steps
          (p + 1) xs) ++ r)) none) none more
      by (s ∷ steps) some more =
          let at : slice_get x.steps 0 ≡ Some s = ap (λ (ss : List PartStep). slice_get ss 0) some in
          inr (record {
            part = p;
            step = s;
            rest = text_of (lines_from (step_of p) 1 steps) ++ (text_of (lines_from part_steps (p + 1) xs) ++ r);
            later = omega arith;
            small = (first_steps p x xs all 0 s at).fits.part_number;
            is = split p x xs r ∙ ap (λ (ss : List PartStep). text_of (step_lines p ss) ++ (text_of
                (lines_from part_steps (p + 1) xs) ++ r)) some ∙ head s steps (text_of (lines_from part_steps
                (p + 1) xs) ++ r);
          })
        where
          head : (s : PartStep) (steps : List PartStep) (t : List ℕ) → text_of (step_lines p
              (s ∷ steps)) ++ t ≡ step_line p 0 s ++ 10 ∷ (text_of (lines_from (step_of p) 1 steps) ++ t)
          head s steps t =
              ap (λ z. z ++ t) (text_of-append (step_line p 0 s ∷ []) (lines_from (step_of p) 1 steps))
              ∙ append_assoc (text_of (step_line p 0 s ∷ [])) (text_of (lines_from (step_of p) 1 steps)) t
              ∙ text_one (step_line p 0 s) (text_of (lines_from (step_of p) 1 steps) ++ t)

  -- no step of part p follows where later parts have none, or have
  ended : (p m : ℕ) (xs : List PartLines) (r : List ℕ) → p < NUMBERS → AllSteps (p + 1) xs → (NoSteps xs
      → NoStep d p m r) → NoStep d p m (text_of (lines_from part_steps (p + 1) xs) ++ r)
  ended p m xs r small all last = λ s rest may is. elim (begins (p + 1) xs r all) [
    | inl h ↦ last h.0 s rest may (sym h.1 ∙ is)
    | inr b ↦ let same = step_part b.part p 0 m b.step s b.rest rest b.small small (sym b.is ∙ is) in
        absurd (omega (arith, same, b.later))
  ]

  same_part : (x y : PartLines) → x.start ≡ y.start → x.steps ≡ y.steps → x ≡ y
  same_part x y p q = λ i. record { start = p i; steps = q i }

  -- the parts, where after the last step of each none of it follows
  pub parts_once : (p : ℕ) (xs ys : List PartLines) (r s : List ℕ) → p + length xs ≤ NUMBERS → AllSteps p xs
      → AllSteps p ys → map (λ (x : PartLines). x.start) xs ≡ map (λ (x : PartLines). x.start) ys
      → ((i : ℕ) (x : PartLines) → slice_get xs i ≡ Some x → NoneFrom (suc i) xs → NoStep d (p + i) (length x.steps) r)
      → ((i : ℕ) (y : PartLines) → slice_get ys i ≡ Some y → NoneFrom (suc i) ys → NoStep d (p + i) (length y.steps) s)
      → text_of (lines_from part_steps p xs) ++ r ≡ text_of (lines_from part_steps p ys) ++ s → (xs ≡ ys) × (r ≡ s)
  parts_once p [] [] r s few all_x all_y starts last_x last_y same = (refl, same)
  parts_once p [] (y ∷ ys) r s few all_x all_y starts last_x last_y same = absurd (cc starts)
  parts_once p (x ∷ xs) [] r s few all_x all_y starts last_x last_y same = absurd (cc starts)
  parts_once p (x ∷ xs) (y ∷ ys) r s few all_x all_y starts last_x last_y same =
      let small : p < NUMBERS = omega (arith, few) in
      let end_x = ended p (length x.steps) xs r small (rest_steps p x xs all_x) (λ none. here (length x.steps) r
      (last_x 0 x refl (λ q z le at. shift x xs none q z le at))) in
      let end_y = ended p (length y.steps) ys s small (rest_steps p y ys all_y) (λ none. here (length y.steps) s
      (last_y 0 y refl (λ q z le at. shift y ys none q z le at))) in
      let steps = once_ended (step_of p) (StepIs d p) (steps_one p) 0 x.steps y.steps (text_of (lines_from part_steps
      (p + 1) xs) ++ r) (text_of (lines_from part_steps (p + 1) ys) ++ s)
      (first_steps p x xs all_x) (first_steps p y ys all_y) (no_more (length x.steps) _ end_x) (no_more
      (length y.steps) _ end_y) (sym (split p x xs r) ∙ same ∙ split p y ys s) in
      let rest = parts_once (p + 1) xs ys r s (omega (arith, few)) (rest_steps p x xs all_x) (rest_steps p y ys all_y)
      (cc starts)
      (λ i z at none. next i (length z.steps) r (last_x (suc i) z at
      (λ q w le at_w. behind x xs i none q w le at_w)))
      (λ i z at none. next i (length z.steps) s (last_y (suc i) z at
      (λ q w le at_w. behind y ys i none q w le at_w)))
      steps.1 in
      let start : x.start ≡ y.start = cc starts in (
        ap (λ (z : PartLines). z ∷ xs) (same_part x y start steps.0) ∙ ap (λ
            (zs : List PartLines). y ∷ zs) rest.0,
        rest.1,
      )
    where
      here : (m : ℕ) (t : List ℕ) → NoStep d (p + 0) m t → NoStep d p m t
      here m t h = let same : p + 0 ≡ p = omega arith in subst (λ k. NoStep d k m t) same h

      next : (i m : ℕ) (t : List ℕ) → NoStep d (p + suc i) m t → NoStep d (p + 1 + i) m t
      next i m t h = let same : p + suc i ≡ p + 1 + i = omega arith in subst (λ k. NoStep d k m t) same h

      shift : (z₀ : PartLines) (zs : List PartLines) → NoSteps zs → (q : ℕ) (w : PartLines) → 1 ≤ q
          → slice_get (z₀ ∷ zs) q ≡ Some w → w.steps ≡ []
      shift z₀ zs none zero w le at = absurd (omega (arith, le))
      shift z₀ zs none (suc q) w le at = none q w at

      behind : (z₀ : PartLines) (zs : List PartLines) (i : ℕ) → NoneFrom (suc i) zs → (q : ℕ) (w : PartLines)
          → suc (suc i) ≤ q → slice_get (z₀ ∷ zs) q ≡ Some w → w.steps ≡ []
      behind z₀ zs i none zero w le at = absurd (omega (arith, le))
      behind z₀ zs i none (suc q) w le at = none q w (omega (arith, le)) at

      no_more : (m : ℕ) (t : List ℕ) → NoStep d p m t → (s : PartStep) (rest : List ℕ) → StepIs d p (0 + m) s
          → t ≡ text_of (step_of p (0 + m) s) ++ rest → ⊥
      no_more m t none s rest is at =
          let number : 0 + m ≡ m = omega arith in
          none s rest (subst (λ k. MayBeStep d p k s) number is.may) (at ∙ text_one (step_line p (0 + m) s) rest ∙ ap
          (λ k. step_line p k s ++ 10 ∷ rest) number)
