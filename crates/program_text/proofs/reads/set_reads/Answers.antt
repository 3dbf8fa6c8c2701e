use Rattle.std.proofs.Common.{◌≡◌, ◌∙◌, List, slice_get, Some, ap, subst, inl, inr, arith}
use Rattle.std.proofs.lemmas.Bool.{cases_eq}
use Rattle.std.proofs.lemmas.Option.{slice_get_within, get_or_from_slice_get}
use Rattle.structured_text.specs.declared.name.Name.{Name}
use Rattle.structured_text.specs.declared.line.Line.{Line}
use Rattle.structured_text.proofs.OrderLemmas.{reads_more}
use Rattle.program_text.specs.ReadNames.{formula_names}
use Rattle.program_text.specs.Places.{IsSet}
use Rattle.program_text.proofs.PlaceLemmas.{risen_on, set_risen_too}
use Rattle.program_text.proofs.ReadLemmas.{reads_from}
use Rattle.program_text.proofs.reads.set_reads.Goals as goal

pub loop-line-preserved : goal.loop-line-preserved
loop-line-preserved c =
    let r = c.args.reading in
    let lines = c.args.lines.now in
    let n = c.loop-line.line-index in
    let old = c.loop-line.places.items in
    let new = c.set_names.new.places.items in
    let risen = c.set_names.ensures.risen in
    let names = c.deref.ensures.value ∙ c.in_ok-names.ensures in (
      risen_on c.args.places.now.items old new c.loop-line.invariant.0 risen,
      λ j x low at. elim (cases_eq j n) [
        | inl e ↦
            let here : slice_get lines n ≡ Some x = subst (λ i. slice_get lines i ≡ Some x) e at in
            let all = names ∙ ap (λ (y : Line). formula_names y.formula) (get_or_from_slice_get lines n x _ here) in
            reads_from (IsSet r new) x.formula
            (λ k m read. c.set_names.ensures.set k m (ap (λ (l : List Name). slice_get l k) all ∙ read))
        | inr far ↦
            reads_more (IsSet r old) (IsSet r new) (set_risen_too r old new risen) x.formula
            (c.loop-line.invariant.1 j x (omega (arith, low, far)) at)
      ],
    )

pub returns-clause-set : goal.returns-clause-set
returns-clause-set c j x at =
    let within = slice_get_within c.args.lines.now j x at in
    let test = c.loop-line-test.false in
    c.loop-line.invariant.1 j x (omega (arith, within, test)) at
