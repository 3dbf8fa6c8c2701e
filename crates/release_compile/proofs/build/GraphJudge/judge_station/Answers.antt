use Rattle.std.proofs.Common.{◌+◌, sym, subst, List}
use Rattle.release_compile.specs.declared.station.SwitchVerdicts.{SwitchVerdicts}
use Rattle.release_compile.specs.Reaches.{AreVerdicts}
use Rattle.release_compile.proofs.ReachesLemmas.{verdicts_none, verdicts_more}
use Rattle.release_compile.proofs.build.GraphJudge.judge_station.Goals as goal

pub loop-switch-init : goal.loop-switch-init
loop-switch-init c =
    let words = c.in_ok-all.all.words.now in
    record {
      all =
          subst (λ (xs : List SwitchVerdicts). AreVerdicts c.args.self.now.diagram words xs 0)
          (sym c.new-verdicts.ensures.items) (verdicts_none c.args.self.now.diagram words);
      last = tt;
    }

pub loop-switch-preserved : goal.loop-switch-preserved
loop-switch-preserved c =
    let words = c.in_ok-all.all.words.now in
    record {
      all =
          subst (λ (xs : List SwitchVerdicts). AreVerdicts c.args.self.now.diagram words xs (c.loop-switch.switch + 1))
          (sym c.in_ok-push.ensures.items)
          (verdicts_more c.args.self.now.diagram words c.loop-switch.verdicts.items c.loop-switch.switch
          c.in_ok-both.both c.loop-switch.invariant.all c.in_ok-both.ensures);
      last = c.in_ok-reach.ensures.reach;
    }
