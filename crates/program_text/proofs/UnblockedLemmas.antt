-- Lines that are in order are a program without blocks.
use Rattle.std.proofs.Common.{◌≡◌, ◌⊎◌, ◌∙◌, ◌++◌, ◌<◌, ◌^◌, ℕ, zero, suc, List, [], ◌∷◌, true, Some, length, slice_get, map}
use Rattle.std.proofs.Common.{refl, sym, ap, subst, inl, inr, arith}
use Rattle.std.specs.List.{Contains}
use Rattle.std.proofs.lemmas.List.Elements.{Contains-push_cases, Contains-append_cases, Contains-append_left, Contains-append_right, Contains-push}
use Rattle.std.proofs.lemmas.Option.{slice_get-get_or, slice_get_within, get_or_from_slice_get}
use Rattle.station_graph.specs.Diagram.{Diagram}
use Rattle.structured_text.specs.declared.name.Name.{Name}
use Rattle.structured_text.specs.declared.name.Name.TheVariants.{Off, On, May, Sure, Opens, Closes}
use Rattle.structured_text.specs.declared.line.Line.{Line}
use Rattle.structured_text.specs.Order.{IsInput, IsRelease, IsSetBefore, AreInOrder}
use Rattle.structured_text.specs.Within.{NameWithin, LinesWithin}
use Rattle.structured_text.proofs.OrderLemmas.{reads_more}
use Rattle.program_blocks.specs.declared.block.Block.{Block}
use Rattle.program_blocks.specs.declared.block.Step.{Step}
use Rattle.program_blocks.specs.declared.block.Step.TheVariants.{Assign}
use Rattle.program_blocks.specs.Calls.{bare, unfolded}
use Rattle.program_blocks.specs.Wiring.{IsGiven, AreWired, known_after}
use Rattle.program_blocks.specs.Standing.{StepWithin, StandFor}
use Rattle.program_text.specs.Unblocked.{assigned, unless_release, set_variables}

-- ---- the variables that lines set
abbrev names : List Line → List Name
names xs = map (λ (x : Line). x.name) xs

listed : (xs : List Name) (n : Name) → Contains xs n → (k : ℕ) × (slice_get xs k ≡ Some n)
listed xs n (k, low, e) = (k, slice_get-get_or xs k n low ∙ ap Some e)

among : (xs : List Name) (k : ℕ) (n : Name) → slice_get xs k ≡ Some n → Contains xs n
among xs k n at = (k, slice_get_within xs k n at, get_or_from_slice_get xs k n n at)

named : (xs : List Line) (k : ℕ) (y : Line) → slice_get xs k ≡ Some y → slice_get (names xs) k ≡ Some y.name
named [] k y at = absurd (cc at)
named (x ∷ xs) zero y at = let is : x ≡ y = cc at in ap (λ (z : Line). Some z.name) is
named (x ∷ xs) (suc k) y at = named xs k y at

line_of : (xs : List Line) (k : ℕ) (n : Name) → slice_get (names xs) k ≡ Some n →
    (y : Line) × (slice_get xs k ≡ Some y) × (y.name ≡ n)
line_of [] k n at = absurd (cc at)
line_of (x ∷ xs) zero n at = (x, refl, cc at)
line_of (x ∷ xs) (suc k) n at = line_of xs k n at

names_last : (xs : List Line) (x : Line) → names (xs ++ x ∷ []) ≡ names xs ++ x.name ∷ []
names_last [] x = refl
names_last (y ∷ ys) x = ap (λ ns. y.name ∷ ns) (names_last ys x)

-- ---- places in two lists, one behind the other
past : {X : Type 0} → (xs ys : List X) (x : X) → (xs ++ x ∷ []) ++ ys ≡ xs ++ x ∷ ys
past [] ys x = refl
past (z ∷ zs) ys x = ap (λ rest. z ∷ rest) (past zs ys x)

no_more : {X : Type 0} → (xs : List X) → xs ++ [] ≡ xs
no_more [] = refl
no_more (x ∷ xs) = ap (λ rest. x ∷ rest) (no_more xs)

first_get : (xs ys : List Line) (y : Line) (k : ℕ) → k < length xs → slice_get (xs ++ ys) k ≡ Some y →
    slice_get xs k ≡ Some y
first_get [] ys y k low at = absurd (omega (arith, low))
first_get (x ∷ xs) ys y zero low at = at
first_get (x ∷ xs) ys y (suc k) low at = first_get xs ys y k (omega (arith, low)) at

both_get : (xs ys : List Line) (y : Line) (k : ℕ) → slice_get xs k ≡ Some y → slice_get (xs ++ ys) k ≡ Some y
both_get [] ys y k at = absurd (cc at)
both_get (x ∷ xs) ys y zero at = at
both_get (x ∷ xs) ys y (suc k) at = both_get xs ys y k at

next_get : (xs ys : List Line) (x : Line) → slice_get (xs ++ x ∷ ys) (length xs) ≡ Some x
next_get [] ys x = refl
next_get (z ∷ zs) ys x = next_get zs ys x

-- ---- each is set once, and before it is read
module _ (whole : List Line) (order : AreInOrder IsInput whole) where
  given : (xs ys : List Line) (m : Name) → xs ++ ys ≡ whole → IsInput m ⊎ IsSetBefore whole (length xs) m →
      IsGiven true (names xs) m
  given xs ys m e (inl input) = inl input
  given xs ys m e (inr (k, y, low, at, is)) =
      inr (subst (Contains (names xs)) is
      (among (names xs) k y.name (named xs k y (first_get xs ys y k low (ap (λ zs. slice_get zs k) e ∙ at)))))

  fresh : (xs ys : List Line) (x : Line) → xs ++ x ∷ ys ≡ whole → ¬ IsGiven true (names xs) x.name
  fresh xs ys x e (inl input) =
      order.own (length xs) x (ap (λ zs. slice_get zs (length xs)) (sym e) ∙ next_get xs ys x) input
  fresh xs ys x e (inr there) =
      let at = listed (names xs) x.name there in
      let of = line_of xs at.0 x.name at.1 in
      let low = slice_get_within xs at.0 of.0 of.1 in
      let same : at.0 ≡ length xs =
      order.once at.0 (length xs) of.0 x
      (ap (λ zs. slice_get zs at.0) (sym e) ∙ both_get xs (x ∷ ys) of.0 at.0 of.1)
      (ap (λ zs. slice_get zs (length xs)) (sym e) ∙ next_get xs ys x) of.2 in
      omega (arith, low, same)

  wired : (xs ys : List Line) → xs ++ ys ≡ whole → AreWired [] (names xs) (assigned ys)
  wired xs [] e = tt
  wired xs (y ∷ ys) e = (
    (
      reads_more (λ m. IsInput m ⊎ IsSetBefore whole (length xs) m) (IsGiven true (names xs))
          (λ m. given xs (y ∷ ys) m e) y.formula
          (order.reads (length xs) y (ap (λ zs. slice_get zs (length xs)) (sym e) ∙ next_get xs ys y)),
      fresh xs ys y e,
    ),
    subst (λ ks. AreWired [] ks (assigned ys)) (names_last xs y) (wired (xs ++ y ∷ []) ys (past xs ys y ∙ e)),
  )

-- ---- what is known behind them
known : (ks : List Name) (xs : List Line) → known_after [] ks (assigned xs) ≡ ks ++ names xs
known ks [] = sym (no_more ks)
known ks (x ∷ xs) = known (ks ++ x.name ∷ []) xs ∙ past ks (names xs) x.name

-- ---- what they set beside the releases
released_or : (n : Name) → IsRelease n ⊎ Contains (unless_release n) n
released_or (Off i) = inr (Contains-push [] (Off i))
released_or (On i) = inr (Contains-push [] (On i))
released_or (May k) = inr (Contains-push [] (May k))
released_or (Sure k) = inr (Contains-push [] (Sure k))
released_or (Opens i) = inl tt
released_or (Closes i) = inl tt

declared : (xs : List Line) (k : ℕ) (y : Line) → slice_get xs k ≡ Some y →
    IsRelease y.name ⊎ Contains (set_variables [] (assigned xs)) y.name
declared [] k y at = absurd (cc at)
declared (x ∷ xs) zero y at =
    let is : x ≡ y = cc at in
    subst (λ (z : Line). IsRelease z.name ⊎ Contains (set_variables [] (assigned (x ∷ xs))) z.name) is (by (released_or x.name))
  where
    by : IsRelease x.name ⊎ Contains (unless_release x.name) x.name →
        IsRelease x.name ⊎ Contains (set_variables [] (assigned (x ∷ xs))) x.name
    by (inl release) = inl release
    by (inr there) = inr (Contains-append_left (unless_release x.name) (set_variables [] (assigned xs)) x.name there)
declared (x ∷ xs) (suc k) y at = by (declared xs k y at)
  where
    by : IsRelease y.name ⊎ Contains (set_variables [] (assigned xs)) y.name →
        IsRelease y.name ⊎ Contains (set_variables [] (assigned (x ∷ xs))) y.name
    by (inl release) = inl release
    by (inr there) = inr (Contains-append_right (unless_release x.name) (set_variables [] (assigned xs)) y.name there)

only : (n m : Name) → Contains (unless_release n) m → n ≡ m
only n m there = by (Contains-push_cases [] n m (one n there))
  where
    one : (n : Name) → Contains (unless_release n) m → Contains ([] ++ n ∷ []) m
    one (Off i) h = h
    one (On i) h = h
    one (May k) h = h
    one (Sure k) h = h
    one (Opens i) (k, low, e) = absurd (omega (arith, low))
    one (Closes i) (k, low, e) = absurd (omega (arith, low))

    by : Contains [] m ⊎ (n ≡ m) → n ≡ m
    by (inl (k, low, e)) = absurd (omega (arith, low))
    by (inr same) = same

module _ (d : Diagram) where
  name_within : (xs : List Line) → LinesWithin d xs → (n : Name) → Contains (set_variables [] (assigned xs)) n →
      NameWithin (length d.switches) n
  name_within [] within n (k, low, e) = absurd (omega (arith, low))
  name_within (x ∷ xs) within n there =
      elim (Contains-append_cases (unless_release x.name) (set_variables [] (assigned xs)) n there) [
        | inl now ↦ subst (NameWithin (length d.switches)) (only x.name n now) (within 0 x refl).name
        | inr more ↦ name_within xs (λ k y at. within (suc k) y at) n more
      ]

  step_within : (xs : List Line) → LinesWithin d xs → (k : ℕ) (s : Step) → slice_get (assigned xs) k ≡ Some s →
      StepWithin d [] s
  step_within [] within k s at = absurd (cc at)
  step_within (x ∷ xs) within zero s at = let is : Assign x ≡ s = cc at in subst (StepWithin d []) is (within 0 x refl)
  step_within (x ∷ xs) within (suc k) s at = step_within xs (λ j y at_j. within (suc j) y at_j) k s at

unfolds : (xs : List Line) → unfolded [] (assigned xs) ≡ map (λ (x : Line). bare x) xs
unfolds [] = refl
unfolds (x ∷ xs) = ap (λ ys. bare x ∷ ys) (unfolds xs)

stand : (d : Diagram) (lines : List Line) → AreInOrder IsInput lines → LinesWithin d lines →
    length (assigned lines) < 2 ^ 64 → StandFor d lines [] (assigned lines) (set_variables [] (assigned lines))
stand d lines order within few = record {
  wired = wired lines order [] lines refl;
  same = unfolds lines;
  released = λ k x at release.
      inr (subst (λ ks. Contains ks x.name) (sym (known [] lines)) (among (names lines) k x.name (named lines k x at)));
  declared = λ k n at.
      let of = line_of lines k n (ap (λ ks. slice_get ks k) (sym (known [] lines)) ∙ at) in
      subst (λ m. IsRelease m ⊎ Contains (set_variables [] (assigned lines)) m) of.2 (declared lines k of.0 of.1);
  few_blocks = omega arith;
  few_steps = few;
  blocks_within = λ k b at. absurd (cc at);
  steps_within = step_within d lines within;
  sided = λ k b at. absurd (cc at);
  names_within = λ k n at. name_within d lines within n (among (set_variables [] (assigned lines)) k n at);
}

pub lines_stand : (d : Diagram) (lines : List Line) (bs : List Block) (steps : List Step) (variables : List Name) →
    AreInOrder IsInput lines → LinesWithin d lines → length steps < 2 ^ 64 → bs ≡ [] → steps ≡ assigned lines →
    variables ≡ set_variables bs steps → StandFor d lines bs steps variables
lines_stand d lines bs steps variables order within few none same set =
    let set_are : variables ≡ set_variables [] (assigned lines) =
    set ∙ (ap (λ (os : List Block). set_variables os steps) none ∙ ap (λ (xs : List Step). set_variables [] xs) same) in
    subst (λ (os : List Block). StandFor d lines os steps variables) (sym none)
    (subst (λ (xs : List Step). StandFor d lines [] xs variables) (sym same)
    (subst (λ (ns : List Name). StandFor d lines [] (assigned lines) ns) (sym set_are)
    (stand d lines order within (subst (λ (xs : List Step). length xs < 2 ^ 64) same few))))
