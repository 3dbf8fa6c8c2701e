use Rattle.bay_contract.proofs.PathLemmas.{notes_both}
use Rattle.bay_contract.proofs.possible.note_fork.Goals as goal

pub returns : goal.returns
returns c =
    notes_both c.args.fork c.args.readings.now c.word-word.result c.args.position c.args.bit c.agrees-open.result
    c.agrees-closed.result c.args.paths.now c.note.new.paths c.note-2.new.paths c.word-word.ensures
    c.agrees-open.ensures c.agrees-closed.ensures c.note.ensures c.note-2.ensures
