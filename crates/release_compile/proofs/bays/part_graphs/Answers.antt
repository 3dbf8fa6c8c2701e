use Rattle.std.proofs.Common.{◌≡◌, ◌-◌, subst, arith}
use Rattle.central_rules.specs.Meaning.{IsBay}
use Rattle.part_alphabets.specs.Counting.{AreSoMany}
use Rattle.judge_pool.specs.Counted.{BayHas}
use Rattle.release_compile.proofs.bays.part_graphs.Goals as goal

pub returns-clause-spent : goal.returns-clause-spent
returns-clause-spent c =
    let d = c.args.station.now in
    let b = c.args.bay.0 in
    let spent = c.in_ok-made.ensures.spent in
    let edges : spent.edges ≡ c.args.left - c.in_ok-made.made.left = omega (arith, spent.all) in
    let is_bay : IsBay d b =
    (c.requires.bay, omega (arith, c.if-count-eq0.false, c.switches_of-count.ensures.value.counted)) in
    record {
      bay = λ is. subst (λ n. BayHas d b (AreSoMany d) n) edges spent.has;
      other = λ none. absurd (none is_bay);
    }
