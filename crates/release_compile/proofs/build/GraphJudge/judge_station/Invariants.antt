use Rattle.std.proofs.Common.{IfSome}
use Rattle.release_compile.specs.Reaches.{IsReachOf, AreVerdicts}
use Rattle.release_compile.proofs.build.GraphJudge.judge_station.Given as goal

abbrev pub invariant-loop-switch : goal.invariant-loop-switch
invariant-loop-switch l = record {
  all : AreVerdicts l.self.diagram l.all.words.now l.verdicts.items l.switch;
  last : IfSome l.last (IsReachOf l.self l.all.words.now);
}
