use Rattle.std.proofs.Common.{subst, inl, inr, ◌≡◌, slice_get, Some, arith}
use Rattle.std.proofs.lemmas.Bool.{cases_eq}
use Rattle.std.proofs.lemmas.Option.{slice_get_within, get_or_from_slice_get}
use Rattle.program_text.specs.Places.{IsSet}
use Rattle.program_text.proofs.PlaceLemmas.{risen_on, set_risen_too}
use Rattle.program_text.proofs.reads.set_names.Goals as goal

pub loop-name-preserved : goal.loop-name-preserved
loop-name-preserved c =
    let r = c.args.reading in
    let names = c.args.names.now in
    let i = c.loop-name.name-index in
    let old = c.loop-name.places.items in
    let new = c.set_name.new.places.items in
    let risen = c.set_name.ensures.risen in (
      risen_on c.args.places.now.items old new c.loop-name.invariant.0 risen,
      λ k m low at. elim (cases_eq k i) [
        | inl e ↦
            let here : slice_get names i ≡ Some m = subst (λ j. slice_get names j ≡ Some m) e at in
            subst (IsSet r new) (get_or_from_slice_get names i m _ here) c.set_name.ensures.set
        | inr far ↦
            set_risen_too r old new risen m (c.loop-name.invariant.1 k m (omega (arith, low, far)) at)
      ],
    )

pub returns-clause-set : goal.returns-clause-set
returns-clause-set c k m at =
    let within = slice_get_within c.args.names.now k m at in
    let test = c.loop-name-test.false in
    c.loop-name.invariant.1 k m (omega (arith, within, test)) at
