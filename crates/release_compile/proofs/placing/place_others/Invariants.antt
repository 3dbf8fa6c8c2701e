use Rattle.std.proofs.Common.{◌≡◌, IfSome, length}
use Rattle.judge_pool.specs.Lettered.{lettered}
use Rattle.judge_pool.specs.Graphs.{PartChosen}
use Rattle.release_compile.specs.Deciding.{OthersAgree}
use Rattle.release_compile.proofs.PlacingLemmas.{ChosenBelow}
use Rattle.release_compile.proofs.placing.place_others.Given as goal

abbrev pub invariant-loop-j : goal.invariant-loop-j
invariant-loop-j l = record {
  count : length l.vector ≡ length l.fn.vector;
  chosen : ChosenBelow (PartChosen (lettered l.station l.parts) l.bay.0) l.j l.vector l.choices;
  agree : IfSome l.known (λ w. OthersAgree l.station l.bay.0 w.now.words.now l.j l.vector);
}
