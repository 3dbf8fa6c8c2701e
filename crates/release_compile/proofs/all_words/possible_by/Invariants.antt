use Rattle.judge_pool.specs.Lettered.{lettered}
use Rattle.release_compile.specs.Possible.{ArePossible}
use Rattle.release_compile.proofs.all_words.possible_by.Given as goal

abbrev pub invariant-loop-part : goal.invariant-loop-part
invariant-loop-part l = record { all : ArePossible (lettered l.station l.parts) l.words l.possible.items l.part }
