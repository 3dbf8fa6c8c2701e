use Rattle.std.proofs.Common.{refl}
use Rattle.interlock_cli.proofs.why_command.WhyAnswer.answer.Goals as goal

pub returns-clause-ok : goal.returns-clause-ok
returns-clause-ok g c =
    let command = c.args.self.now.asked in
    let switch = c.in_ok-named_switch in (
      c.in_ok-readings.readings,
      c.in_ok-readings.ensures.ok,
      (
        command.switch.now,
        (command.switch.now, refl, switch.ensures.accepts),
        (
          refl,
          record {
            op = record { switch = switch.field-0; direction = command.direction };
            direction_is = refl;
            named = switch.ensures.ok;
            tells = rw c.whole.ensures c.in_ok-text.ensures;
          },
        ),
      ),
    )
