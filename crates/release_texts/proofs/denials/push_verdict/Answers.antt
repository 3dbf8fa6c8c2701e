use Rattle.release_texts.proofs.AddLemmas.{denied, released}
use Rattle.release_texts.proofs.denials.push_verdict.Goals as goal

pub returns-in-Release-clause-ok : goal.returns-in-Release-clause-ok
returns-in-Release-clause-ok c =
    released c.args.station.now c.args.readings.now c.args.op c.args.text.now.text
    (rw c.in-Release.is at c.requires.decides)

pub returns-in-Denied-clause-ok : goal.returns-in-Denied-clause-ok
returns-in-Denied-clause-ok c =
    denied c.args.station.now c.args.readings.now c.push_reading.result c.args.op _ c.in-Denied.reading
    c.args.text.now.text c.push_reading.new.text.text (rw c.in-Denied.is at c.requires.decides)
    c.push_reading.ensures.ok
