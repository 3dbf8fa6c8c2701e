use Rattle.std.proofs.Common.{ℕ, List, Vec, Global, length, map, arith}
use Rattle.std.proofs.lemmas.List.{length-map}
use Rattle.judge_pool.specs.declared.pool.Pool.{Pool}
use Rattle.judge_pool.proofs.LayeringLemmas.{grew_more, grows}
use Rattle.judge_intake.proofs.InputsLemmas.{keeps_stay}
use Rattle.step_graphs.specs.Needing.{IsNeeded}
use Rattle.step_graphs.proofs.StepLemmas.{step_rows_stay}
use Rattle.step_graphs.proofs.graph.intake.Goals as goal

abbrev ids_of : List (Vec ℕ Global) → List (List ℕ)
ids_of rows = map (λ (v : Vec ℕ Global). v.items) rows

pub other_rows-requires : goal.other_rows-requires
other_rows-requires c =
    omega (
      arith,
      c.requires.rows.len,
      length-map c.args.rows.now (λ (v : Vec ℕ Global). v.items),
      c.requires.count,
    )

pub returns-clause-grew : goal.returns-clause-grew
returns-clause-grew c =
    grew_more c.args.pool.now c.step_keeps.new.pool c.nothing.new.pool c.in_ok-keeps.ensures.grew
    c.in_ok-start.ensures.grew

pub returns-clause-ready : goal.returns-clause-ready
returns-clause-ready c =
    let d = c.args.station.now in
    let steps = c.args.steps.now in
    let p : Pool = c.args.pool.now in
    let m : Pool = c.step_keeps.new.pool in
    let q : Pool = c.nothing.new.pool in
    let g = grew_more p m q c.in_ok-keeps.ensures.grew c.in_ok-start.ensures.grew in
    record {
      all = ids_of c.args.rows.now;
      count = c.requires.count;
      rows = step_rows_stay p q (grows p q g) d steps (ids_of c.args.rows.now) (length steps) c.requires.rows;
      letters_of = c.in_ok-letters.ensures;
      needed =
          keeps_stay m q (grows m q c.in_ok-start.ensures.grew) (IsNeeded d steps c.args.place)
          c.in_ok-keeps.keeps.items _ c.in_ok-keeps.ensures.keeps;
      begins = c.in_ok-start.ensures.nothing;
    }
