use Rattle.std.proofs.Common.{ℕ, List, Vec, Global, map, subst}
use Rattle.station_graph.specs.Diagram.{part_count}
use Rattle.judge_pool.specs.declared.pool.Pool.{Pool}
use Rattle.judge_pool.specs.Lettered.{Lettered, lettered}
use Rattle.judge_intake.specs.Inputs.{AreOtherRows, AreRows}
use Rattle.judge_pool.proofs.LayeringLemmas.{grew_same, grew_more, grows}
use Rattle.judge_intake.proofs.InputsLemmas.{rows_of_letters, rows_stay}
use Rattle.judge_graphs.proofs.OuterGraphs.{outer_ready}
use Rattle.judge_graphs.proofs.outer.outer_intake.Goals as goal

pub returns-clause-grew : goal.returns-clause-grew
returns-clause-grew c =
    grew_more c.args.pool.now c.outer_keeps.new.pool c.nothing.new.pool c.in_ok-keeps.ensures.grew
    c.in_ok-start.ensures.grew

pub returns-clause-ready : goal.returns-clause-ready
returns-clause-ready c =
    let d = c.args.station.now in
    let a : Lettered = lettered d c.args.parts.now in
    let b = c.args.bay.0 in
    let p0 : Pool = c.args.pool.now in
    let p1 : Pool = c.outer_keeps.new.pool in
    let all : List (List ℕ) = map (λ (v : Vec ℕ Global). v.items) c.args.letters.now in
    let rows : List (List ℕ) = map (λ (v : Vec ℕ Global). v.items) c.in_ok-letters.letters.items in
    let others : AreOtherRows b all rows c.args.others =
    subst (λ k. AreOtherRows k all rows c.args.others) c.from.ensures c.in_ok-letters.ensures in
    let are : AreRows a b p0 rows c.args.others =
    rows_of_letters a b p0 all rows (part_count d) c.args.others c.requires.letters others in
    let g1 = c.in_ok-keeps.ensures.grew in
    outer_ready a b p1 p1 c.nothing.new.pool c.in_ok-start.start rows c.in_ok-keeps.keeps.items c.args.others
    (record { station = c.part_count-count.ensures.station; alphabets = c.requires.lettered }) c.requires.count
    c.requires.bay (grew_same p1 g1.is_pool) c.in_ok-start.ensures.grew c.in_ok-keeps.ensures.keeps
    (rows_stay p0 p1 (grows p0 p1 g1) a b rows c.args.others are) c.in_ok-start.ensures.nothing

pub returns-clause-count : goal.returns-clause-count
returns-clause-count c = c.in_ok-letters.ensures.len
