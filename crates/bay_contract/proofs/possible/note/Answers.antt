use Rattle.std.proofs.Common.{Bool, Some, sym, subst}
use Rattle.std.specs.Prelude.{slice_set}
use Rattle.bay_contract.specs.Paths.{NotesOne}
use Rattle.bay_contract.proofs.PathLemmas.{notes_one, notes_none}
use Rattle.bay_contract.proofs.possible.note.Goals as goal

pub returns-then-yes : goal.returns-then-yes
returns-then-yes c =
    subst (λ (b : Bool). NotesOne b c.args.at c.args.position c.args.paths.now (slice_set c.args.paths.now c.args.at
    (Some c.args.position))) (sym c.if-yes.true) (notes_one c.args.at c.args.position c.args.paths.now c.requires)

pub returns-else-yes : goal.returns-else-yes
returns-else-yes c = notes_none c.args.yes c.args.at c.args.position c.args.paths.now c.if-yes.false
