use Rattle.std.proofs.Common.{rules, arith, ◌<◌, length}
use Rattle.central_rules.specs.WordRows.{known_word}
use Rattle.central_rules.proofs.WordRowLemmas.{first_more}
use Rattle.central_rules.proofs.plain.words_known.Goals as goal

pub loop-i-preserved : goal.loop-i-preserved
loop-i-preserved c =
    let within : c.loop-i.i < length c.loop-i.words = omega (
      arith,
      c.loop-i-test.true,
      c.loop-i.auto.i-end,
      c.switch_count-i-end.ensures.count,
      c.loop-i.invariant.count,
    ) in
    rw c.sense.ensures (record {
      count = search rules;
      each = first_more (known_word c.args.station.now c.args.bay.0 c.args.own.now c.args.heard.now) c.loop-i.i
          c.loop-i.words c.word_known.result within c.word_known.ensures c.loop-i.invariant.each;
    })
