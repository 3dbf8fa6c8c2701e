use Rattle.std.proofs.Common.{Bool, List, length, Some, ap, subst, ◌∙◌}
use Rattle.ilk_base.specs.declared.words.Rule.{Rule}
use Rattle.ilk_base.specs.declared.words.Rule.TheVariants.{R3}
use Rattle.station_graph.specs.CentralRules.{Breaks}
use Rattle.equation_audit.specs.Equations.{Equation, AreOwn}
use Rattle.equation_audit.specs.Positions.{all_closed}
use Rattle.equation_audit.proofs.BelowLemmas.{length-all_closed, first_throughout, second_throughout, third_throughout}
use Rattle.equation_audit.proofs.throughout.is_denied_by.Goals as goal

pub breaks_third-requires-clause-vector : goal.breaks_third-requires-clause-vector
breaks_third-requires-clause-vector c =
    ap length c.close_all.ensures ∙ (length-all_closed c.args.reading c.deref.result.now ∙ c.requires.shares.whole)

pub returns-in-R1 : goal.returns-in-R1
returns-in-R1 c t =
    first_throughout c.args.station.now c.args.block.now c.block.inside.own.items c.args.reading
    (subst (λ (e : Equation). AreOwn e.alternatives c.block.inside.own.items) c.block.view_is c.block.invariant.are)
    c.requires.block.own c.requires.shares
    (subst (λ (r : Rule). Breaks c.args.station.now c.args.reading c.args.block.now.op (Some r)) c.in-R1.is
    c.requires.breaks)

pub returns-in-R2 : goal.returns-in-R2
returns-in-R2 c t =
    second_throughout c.args.station.now c.args.block.now c.block.inside.own.items c.args.reading
    (subst (λ (e : Equation). AreOwn e.alternatives c.block.inside.own.items) c.block.view_is c.block.invariant.are)
    c.requires.block.own c.requires.shares
    (subst (λ (r : Rule). Breaks c.args.station.now c.args.reading c.args.block.now.op (Some r)) c.in-R2.is
    c.requires.breaks)

pub returns-in_ok-both-in-R3 : goal.returns-in_ok-both-in-R3
returns-in_ok-both-in-R3 c t =
    third_throughout c.args.station.now c.args.block.now c.block.inside.own.items c.args.reading
    (subst (λ (e : Equation). AreOwn e.alternatives c.block.inside.own.items) c.block.view_is c.block.invariant.are)
    c.requires.block.own c.requires.shares
    (subst (λ (r : Rule). Breaks c.args.station.now c.args.reading c.args.block.now.op (Some r)) c.in-R3.is
    c.requires.breaks)
    (subst (λ (v : List Bool). Breaks c.args.station.now v c.args.block.now.op (Some R3))
    (c.close_all.ensures ∙ ap (all_closed c.args.reading) c.deref.ensures.value) (subst (λ (e : Equation). Breaks c.args.station.now
    c.close_all.new.vector e.op (Some R3)) c.block.view_is (c.in_ok-both-in-R3.ensures t)))
