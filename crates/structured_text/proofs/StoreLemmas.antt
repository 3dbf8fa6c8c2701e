-- Lines one after another.
use Rattle.std.proofs.Common.{◌≡◌, ◌≢◌, ◌++◌, ◌∙◌, ℕ, List, [], ◌∷◌, Bool, true, false, refl, ap, arith}
use Rattle.std.specs.Prelude.{◌==◌, if◌then◌else◌}
use Rattle.std.proofs.lemmas.Bool.{false≢true}
use Rattle.std.proofs.lemmas.Bool.Decides.{nat_tests}
use Rattle.ilk_base.specs.declared.words.SwitchId.{SwitchId}
use Rattle.structured_text.specs.declared.name.Name.{Name}
use Rattle.structured_text.specs.declared.name.Name.TheVariants.{Off, On, May, Sure, Opens, Closes}
use Rattle.structured_text.specs.declared.line.Line.{Line}
use Rattle.structured_text.specs.Meaning.{Store, value, same_name, assign, after}

pub eq_true : (a b : ℕ) → a ≡ b → (a == b) ≡ true
eq_true a b same = grind (arith, nat_tests)

pub eq_false : (a b : ℕ) → a ≢ b → (a == b) ≡ false
eq_false a b differ = grind (arith, nat_tests)

pub eq_from : (a b : ℕ) → (a == b) ≡ true → a ≡ b
eq_from a b same = grind (arith, nat_tests)

switch_same : (a b : SwitchId) → a.0 ≡ b.0 → a ≡ b
switch_same a b e = ap (λ k. record { 0 = k }) e

pub chosen : {X : Type 0} (q : Bool) (x y : X) → q ≡ true → (if q then x else y) ≡ x
chosen {X} q x y is = ap (λ p. if p then x else y) is

pub passed : {X : Type 0} (q : Bool) (x y : X) → q ≡ false → (if q then x else y) ≡ y
passed {X} q x y is = ap (λ p. if p then x else y) is

-- variables that are told to be one are
pub same_true : (n m : Name) → same_name n m ≡ true → n ≡ m
same_true (Off a) (Off b) e = ap Off (switch_same a b (eq_from a.0 b.0 e))
same_true (On a) (On b) e = ap On (switch_same a b (eq_from a.0 b.0 e))
same_true (May a) (May b) e = ap May (eq_from a b e)
same_true (Sure a) (Sure b) e = ap Sure (eq_from a b e)
same_true (Opens a) (Opens b) e = ap Opens (switch_same a b (eq_from a.0 b.0 e))
same_true (Closes a) (Closes b) e = ap Closes (switch_same a b (eq_from a.0 b.0 e))
same_true n m e = absurd (false≢true e)

pub one_more : (lines : List Line) (l : Line) (s : Store) →
    after (lines ++ l ∷ []) s ≡ assign (after lines s) l.name (value (after lines s) l.formula)
one_more [] l s = refl
one_more (x ∷ xs) l s = one_more xs l (assign s x.name (value s x.formula))

pub in_a_row : (xs ys : List Line) (s : Store) → after (xs ++ ys) s ≡ after ys (after xs s)
in_a_row [] ys s = refl
in_a_row (x ∷ xs) ys s = in_a_row xs ys (assign s x.name (value s x.formula))

-- the variable that is set, and another one
pub is_set : (lines : List Line) (l : Line) (s : Store) → same_name l.name l.name ≡ true →
    after (lines ++ l ∷ []) s l.name ≡ value (after lines s) l.formula
is_set lines l s same =
    ap (λ (t : Store). t l.name) (one_more lines l s)
    ∙ chosen (same_name l.name l.name) (value (after lines s) l.formula) (after lines s l.name) same

pub not_set : (lines : List Line) (l : Line) (s : Store) (m : Name) → same_name l.name m ≡ false →
    after (lines ++ l ∷ []) s m ≡ after lines s m
not_set lines l s m other =
    ap (λ (t : Store). t m) (one_more lines l s)
    ∙ passed (same_name l.name m) (value (after lines s) l.formula) (after lines s m) other
