use Rattle.std.proofs.Common.{Some, get_or, sym, ap, ◌∙◌}
use Rattle.std.proofs.lemmas.Option.{slice_get-get_or}
use Rattle.commissioning_tests.proofs.lists.stand_of.Goals as goal

pub returns : goal.returns
returns c =
    slice_get-get_or c.args.stands.now c.args.s 0 c.requires
    ∙ ap (λ k. Some (get_or c.args.stands.now k 0)) (sym c.from.ensures)
