use Rattle.ilk_base.specs.declared.words.Rule.TheVariants.{R1, R2, R3}
use Rattle.station_compare.proofs.exchanged.exchanged_rules.Goals as goal

pub returns : goal.returns
returns c a b x y change ops r = record {
  first = c.in_ok-by_r1.ensures a b x y change R1 ops r.first;
  second = c.in_ok-by_r2.ensures a b x y change R2 ops r.second;
  third = c.in_ok-by_r3.ensures a b x y change R3 ops r.third;
}
