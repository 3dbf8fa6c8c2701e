use Rattle.release_texts.proofs.AddLemmas.{both}
use Rattle.release_texts.proofs.denials.push_switch.Goals as goal

pub returns-clause-ok : goal.returns-clause-ok
returns-clause-ok c =
    both c.args.station.now c.args.readings.now c.push_verdict-2.result c.args.switch.0 c.args.text.now.text
    c.push_verdict.new.text.text c.push_verdict-2.new.text.text c.in_ok-push_verdict.ensures.ok
    c.push_verdict-2.ensures.ok
