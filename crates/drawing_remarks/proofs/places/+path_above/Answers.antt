use Rattle.std.proofs.Common.{◌≡◌, ℕ, ◌<◌, ◌-◌, List, [], ◌∷◌, length, Option, Some, None, true, false, zero, suc}
use Rattle.std.proofs.Common.{refl, arith, ap, ◌∙◌, sym}
use Rattle.std.specs.Prelude.{nat_lt}
use Rattle.std.specs.Option.{option_map_or}
use Rattle.std.proofs.lemmas.Bool.{ltb-true, ltb-false}
use Rattle.ssd_read.specs.Elements.{Element, element_at}
use Rattle.drawing_remarks.specs.Places.{path_above, or_other}
use Rattle.drawing_remarks.proofs.places.+path_above.Goals as goal

own : (path rest : List ℕ) → nat_lt 0 (length path) ≡ true → path ≡ or_other path rest
own [] rest h = let more : 0 < 0 = ltb-true 0 0 h in absurd (omega arith)
own (b ∷ bs) rest h = refl

other : (path rest : List ℕ) → nat_lt 0 (length path) ≡ false → rest ≡ or_other path rest
other [] rest h = refl
other (b ∷ bs) rest h = let none = ltb-false 0 (suc (length bs)) h in absurd (omega arith)

above_own : (all : List Element) (n i : ℕ) → (n ≡ 0 → ⊥) → nat_lt 0 (length (element_at all i).path) ≡ true →
    (element_at all i).path ≡ path_above all n i
unfolding path_above
above_own all zero i some h = absurd (some refl)
above_own all (suc n) i some h =
    own (element_at all i).path (option_map_or (path_above all n) (element_at all i).entry.parent []) h

above_outer : (all : List Element) (n i : ℕ) (o : Option ℕ) → (n ≡ 0 → ⊥) →
    nat_lt 0 (length (element_at all i).path) ≡ false → (element_at all i).entry.parent ≡ o →
    option_map_or (path_above all (n - 1)) o [] ≡ path_above all n i
unfolding path_above
above_outer all zero i o some h e = absurd (some refl)
above_outer all (suc n) i o some h e =
    let less : suc n - 1 ≡ n = omega arith in
    ap (λ (k : ℕ). option_map_or (path_above all k) o []) less
    ∙ (ap (λ (p : Option ℕ). option_map_or (path_above all n) p []) (sym e)
    ∙ other (element_at all i).path (option_map_or (path_above all n) (element_at all i).entry.parent []) h)

none_above : (all : List Element) (n i : ℕ) → n ≡ 0 → [] ≡ path_above all n i
unfolding path_above
none_above all zero i e = refl
none_above all (suc n) i e = absurd (omega arith)

pub returns-then-levels-eq0 : goal.returns-then-levels-eq0
returns-then-levels-eq0 t c = none_above c.args.drawing.now c.args.levels c.args.i c.if-levels-eq0.true

pub returns-then-is_there : goal.returns-then-is_there
returns-then-is_there t c =
    c.path-path.ensures
    ∙ above_own c.args.drawing.now c.args.levels c.args.i c.if-levels-eq0.false
    (sym (c.is_there.ensures ∙ ap (λ (p : List ℕ). nat_lt 0 (length p)) c.path-path.ensures) ∙ c.if-is_there.true)

pub returns-in-Some : goal.returns-in-Some
returns-in-Some t c =
    c.path_above.ensures
    ∙ above_outer c.args.drawing.now c.args.levels c.args.i (Some c.in-Some.parent) c.if-levels-eq0.false
    (sym (c.is_there.ensures ∙ ap (λ (p : List ℕ). nat_lt 0 (length p)) c.path-path.ensures) ∙ c.if-is_there.false)
    (sym c.parent.ensures ∙ c.in-Some.is)

pub returns-in-None : goal.returns-in-None
returns-in-None t c =
    above_outer c.args.drawing.now c.args.levels c.args.i None c.if-levels-eq0.false
    (sym (c.is_there.ensures ∙ ap (λ (p : List ℕ). nat_lt 0 (length p)) c.path-path.ensures) ∙ c.if-is_there.false)
    (sym c.parent.ensures ∙ c.in-None.is)
