use Rattle.std.proofs.Common.{◌≡◌, ℕ, List, refl, sym, subst, arith}
use Rattle.station_graph.specs.Diagram.{part_count}
use Rattle.commissioning_tests.specs.declared.values.SharedTests.{SharedTests}
use Rattle.commissioning_tests.specs.Shared.{AreTestsUpto}
use Rattle.commissioning_tests.specs.Refusing.{AreNarrowUpto}
use Rattle.commissioning_tests.proofs.RefusalLemmas.{upto_none}
use Rattle.commissioning_tests.proofs.all_bays.station_tests.Goals as goal

pub loop-part-init : goal.loop-part-init
loop-part-init c = (
  subst (λ (l : List SharedTests). AreTestsUpto c.args.station.now c.in_ok-leads.leads.items 0 l)
      (sym c.new-all.ensures.items) (record { bays = refl; each = λ i s at. cc }),
  upto_none c.args.station.now c.in_ok-leads.leads.items,
)

pub returns-clause-tests : goal.returns-clause-tests
returns-clause-tests c =
    let d = c.args.station.now in
    let leads = c.in_ok-leads.leads.items in
    let done : c.loop-part.part ≡ part_count d =
    omega (arith, c.loop-part-test.false, c.loop-part.auto.part-end, c.part_count-part-end.ensures) in
    record {
      leads = leads;
      are = c.in_ok-leads.ensures;
      tests = subst (λ (n : ℕ). AreTestsUpto d leads n c.loop-part.all.items) done c.loop-part.invariant.0;
    }

pub returns-clause-narrow : goal.returns-clause-narrow
returns-clause-narrow c =
    let d = c.args.station.now in
    let leads = c.in_ok-leads.leads.items in
    let done : c.loop-part.part ≡ part_count d =
    omega (arith, c.loop-part-test.false, c.loop-part.auto.part-end, c.part_count-part-end.ensures) in
    record {
      are = record {
        leads = leads;
        are = c.in_ok-leads.ensures;
        tests = subst (λ (n : ℕ). AreTestsUpto d leads n c.loop-part.all.items) done c.loop-part.invariant.0;
      };
      narrow = subst (λ (n : ℕ). AreNarrowUpto d leads n) done c.loop-part.invariant.1;
    }
