use Rattle.std.proofs.Common.{◌∙◌, sym}
use Rattle.central_rules.proofs.WordRowLemmas.{known_other}
use Rattle.central_rules.proofs.plain.word_known.Goals as goal

pub returns : goal.returns
returns c = c.word_heard.ensures ∙ sym (known_other c.args.station.now c.args.bay.0 c.args.own.now c.args.heard.now
    c.args.id.0 c.switch-switch.result c.switch-switch.ensures.value c.if-switch-bay.false)
