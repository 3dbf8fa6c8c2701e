use Rattle.std.proofs.Common.{◌≡◌, Some, slice_get, IsTrue, true, rules, refl, sym, subst}
use Rattle.std.proofs.lemmas.Option.{slice_get_read, get_or_from_slice_get}
use Rattle.judge_graphs.specs.declared.noted.Noted.{Noted}
use Rattle.judge_graphs.specs.Noting.{SameIntake}
use Rattle.judge_graphs.proofs.noted.find_noted.Goals as goal

pub returns-then-same_intake : goal.returns-then-same_intake
returns-then-same_intake c =
    let holds : IsTrue true = search rules in
    let h : IsTrue c.same_intake.result = subst IsTrue (sym c.if-same_intake.true) holds in
    let held : Noted = c.index-notes-place.result in
    let at : slice_get c.args.notes.now c.loop-place.place ≡ Some held =
    slice_get_read c.args.notes.now _ c.loop-place.place held refl c.loop-place-test.true c.index-notes-place.is in (
      held,
      at,
      subst (λ (k : Noted). SameIntake k.intake c.args.intake.now)
          (get_or_from_slice_get c.args.notes.now c.loop-place.place held held at) (c.same_intake.ensures h),
    )
