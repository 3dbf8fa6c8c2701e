use Rattle.std.proofs.Common.{map, ap, ◌∙◌, arith}
use Rattle.std.proofs.lemmas.List.{take_all}
use Rattle.dependence_search.specs.Released.{released_name}
use Rattle.dependence_search.proofs.ReleasedLemmas.{names_more}
use Rattle.dependence_search.proofs.released.names_of.Goals as goal

pub loop-t-preserved : goal.loop-t-preserved
loop-t-preserved c =
    c.in_ok-push.ensures.items
    ∙ names_more c.args.direction c.args.codes.now c.loop-t.names.items c.loop-t.t c.name_of.result
    (record { first = 0; second = 0; third = 0; fourth = 0 }) c.loop-t-test.true c.loop-t.invariant c.name_of.ensures

pub returns : goal.returns
returns c =
    c.loop-t.invariant
    ∙ ap (map (released_name c.args.direction)) (take_all c.loop-t.t c.args.codes.now (omega (arith, c.loop-t-test.false)))
