use Rattle.std.proofs.Common.{arith}
use Rattle.release_compile.proofs.RowLemmas.{byte_is}
use Rattle.release_compile.proofs.summary.byte_of.Goals as goal

pub overflow_add-result : goal.overflow_add-result
overflow_add-result c = omega (
  arith,
  c.bit.ensures.few,
  c.bit-2.ensures.few,
  c.bit-3.ensures.few,
  c.bit-4.ensures.few,
  c.bit-5.ensures.few,
  c.bit-6.ensures.few,
  c.bit-7.ensures.few,
  c.bit-8.ensures.few,
)

pub returns : goal.returns
returns c =
    byte_is c.args.set.now c.args.first c.bit.result c.bit-2.result c.bit-3.result c.bit-4.result c.bit-5.result
    c.bit-6.result c.bit-7.result c.bit-8.result c.bit.ensures.value c.bit-2.ensures.value c.bit-3.ensures.value
    c.bit-4.ensures.value c.bit-5.ensures.value c.bit-6.ensures.value c.bit-7.ensures.value c.bit-8.ensures.value
