use Rattle.std.proofs.Common.{◌∙◌, sym, ap, subst, length, arith}
use Rattle.std.proofs.lemmas.List.{length-set}
use Rattle.equation_audit.specs.Positions.{AreOwnWords}
use Rattle.equation_audit.proofs.OwnLemmas.{among_at}
use Rattle.equation_audit.proofs.ReadingLemmas.{one_word_more}
use Rattle.equation_audit.proofs.question.own_words.Goals as goal

pub closed-requires : goal.closed-requires
closed-requires c = omega (
  arith,
  c.requires.own _ (among_at c.args.own.now c.loop-id.id-index (record { 0 = 0 })
      c.loop-id-test.true),
  c.requires.vector,
)

pub sense-requires : goal.sense-requires
sense-requires c = omega (
  arith,
  c.requires.own _ (among_at c.args.own.now c.loop-id.id-index (record { 0 = 0 })
      c.loop-id-test.true),
  c.loop-id.invariant.count,
)

pub loop-id-preserved : goal.loop-id-preserved
loop-id-preserved c =
    let index = c.loop-id.id-index in
    let below = c.requires.own _ (among_at c.args.own.now c.loop-id.id-index (record { 0 = 0 }) c.loop-id-test.true) in
    record {
      count = ap length c.sense.ensures ∙ length-set c.loop-id.words _ c.word_at.result ∙ c.loop-id.invariant.count;
      those = subst (AreOwnWords _ c.args.vector.now) (sym c.sense.ensures)
          (one_word_more c.args.own.now c.args.vector.now c.loop-id.words c.loop-id.id-index (record { 0 = 0 })
          c.closed.result c.word_at.result c.loop-id-test.true (omega (arith, below, c.loop-id.invariant.count))
          c.closed.ensures c.word_at.ensures c.loop-id.invariant.those);
    }
