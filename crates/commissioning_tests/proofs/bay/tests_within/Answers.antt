use Rattle.std.proofs.Common.{refl, arith}
use Rattle.judge_intake.proofs.OtherLemmas.{element}
use Rattle.commissioning_tests.proofs.bay.tests_within.Goals as goal

pub returns-in-Ok-clause-narrow : goal.returns-in-Ok-clause-narrow
returns-in-Ok-clause-narrow c =
    let have = c.in-Ok.ensures.narrow in
    let of = c.switches_of-count.ensures.value in (
      have.steps,
      record {
        all = have.all;
        narrow = λ number x some at of_bay.
            let within = (of.those number x at).0 of_bay in have.narrow some number within.0 within.1;
      },
    )

pub returns-in-Err-Wide-clause-refusal : goal.returns-in-Err-Wide-clause-refusal
returns-in-Err-Wide-clause-refusal c =
    let have = c.in-Err-Wide.ensures.wide c.in-Err-Wide.field-0-is in
    let some = have.too_wide in
    let of = c.switches_of-count.ensures.value in
    let (x, at) = element c.args.station.now.switches some.number (omega (arith, some.before, of.within)) in (
      refl,
      (
        have.steps,
        record {
          all = have.all;
          some = have.some;
          number = some.number;
          switch = x;
          listed = at;
          of_bay = (of.those some.number x at).1 (some.after, some.before);
          too_wide = some.too_wide;
        },
      ),
    )
