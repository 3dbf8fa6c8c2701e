-- The lines of formulas read what is set before them.
use Rattle.std.proofs.Common.{◌≡◌, ◌<◌, ℕ, List, Bool, true, false, get_or, slice_get, Some, refl, sym, subst, inl, inr, arith}
use Rattle.std.specs.Prelude.{nat_lt, if◌then◌else◌}
use Rattle.std.proofs.lemmas.Option.{slice_get_within, slice_get-get_or}
use Rattle.ilk_base.specs.declared.words.SwitchId.{SwitchId}
use Rattle.interlock_terms.specs.declared.term.Term.{Term}
use Rattle.interlock_terms.specs.declared.term.Term.TheVariants.{Always, Closed, Both, Either}
use Rattle.interlock_terms.specs.Terms.{RefersBelow, AreOrdered}
use Rattle.structured_text.specs.declared.name.Name.{Name}
use Rattle.structured_text.specs.declared.line.Formula.TheVariants.{Never}
use Rattle.structured_text.specs.Reads.{OperandReads, FormulaReads}
use Rattle.structured_text.specs.Order.{IsInput}
use Rattle.program_text.specs.declared.reading.Reading.{Reading}
use Rattle.program_text.specs.declared.reading.Reading.TheVariants.{May as AsClosed, Sure as AsOpen}
use Rattle.program_text.specs.declared.place.Place.{Place}
use Rattle.program_text.specs.declared.place.Place.TheVariants.{Inside, Named}
use Rattle.program_text.specs.Names.{name_in}
use Rattle.program_text.specs.Places.{IsNamed, IsRead, EachNamed, IsOfTwo, ArePlaced}
use Rattle.program_text.specs.TermLines.{position_in, leaf_in, inside_in, operand_in, side_in, formula_in}
use Rattle.program_text.proofs.PlaceLemmas.{place_is}

pub no_input : (r : Reading) (k : ℕ) → ¬ IsInput (name_in r k)
no_input AsClosed k h = h
no_input AsOpen k h = h

pub name_once : (r : Reading) (k j : ℕ) → name_in r k ≡ name_in r j → k ≡ j
name_once AsClosed k j e = cc e
name_once AsOpen k j e = cc e

module _ (r : Reading) (count : ℕ) (terms : List Term) (places : List Place) (placed : ArePlaced terms places)
    (ordered : AreOrdered terms) (k : ℕ) (G : Name → Type 0) (inputs : (m : Name) → IsInput m → G m)
    (set : (j : ℕ) → j < k → IsNamed places j → G (name_in r j)) where
  inside_reads : (n : ℕ) → n < k → (u : Term) → IsOfTwo (IsNamed places) u → RefersBelow n u →
      OperandReads G (inside_in r u n)
  inside_reads n low Always two lower = absurd two
  inside_reads n low (Closed i) two lower = absurd two
  inside_reads n low (Both a b) two lower =
      let x = lower.0 in
      let y = lower.1 in
      (set a (omega (arith, x, low)) two.0, set b (omega (arith, y, low)) two.1)
  inside_reads n low (Either a b) two lower =
      let x = lower.0 in
      let y = lower.1 in
      (set a (omega (arith, x, low)) two.0, set b (omega (arith, y, low)) two.1)

  side_reads : (n : ℕ) → n < k → IsRead places n → OperandReads G (side_in r terms places n)
  side_reads n low (inl named) =
      subst (λ p. OperandReads G (operand_in r p (get_or terms n Always) n)) (sym (place_is places n Named named))
      (set n low named)
  side_reads n low (inr inside) =
      let there = slice_get_within places n Inside inside in
      let len = placed.len in
      let at : slice_get terms n ≡ Some (get_or terms n Always) = slice_get-get_or terms n Always (omega (arith, there, len)) in
      subst (λ p. OperandReads G (operand_in r p (get_or terms n Always) n)) (sym (place_is places n Inside inside))
      (inside_reads n low (get_or terms n Always) (placed.inside n (get_or terms n Always) at inside)
      (ordered n (get_or terms n Always) at))

  position_reads : (q : Reading) (i : SwitchId) → FormulaReads G (position_in q i)
  position_reads AsClosed i = (inputs _ tt, inputs _ tt)
  position_reads AsOpen i = (inputs _ tt, inputs _ tt)

  leaf_reads : (i : SwitchId) → FormulaReads G (leaf_in r count i)
  leaf_reads i = by (nat_lt i.0 count) refl
    where
      by : (b : Bool) → nat_lt i.0 count ≡ b → FormulaReads G (leaf_in r count i)
      by true e = subst (λ q. FormulaReads G (if q then position_in r i else Never)) (sym e) (position_reads r i)
      by false e = subst (λ q. FormulaReads G (if q then position_in r i else Never)) (sym e) tt

  pub formula_reads : (u : Term) → RefersBelow k u → EachNamed (IsRead places) u →
      FormulaReads G (formula_in r count terms places u)
  formula_reads Always lower reads = tt
  formula_reads (Closed i) lower reads = leaf_reads i
  formula_reads (Both a b) lower reads = (side_reads a lower.0 reads.0, side_reads b lower.1 reads.1)
  formula_reads (Either a b) lower reads = (side_reads a lower.0 reads.0, side_reads b lower.1 reads.1)
