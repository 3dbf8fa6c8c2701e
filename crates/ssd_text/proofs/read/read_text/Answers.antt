use Rattle.ssd_text.proofs.Texts.{bom_utf8}
use Rattle.std.proofs.Common.{arith}
use Rattle.ssd_text.specs.Seen.{entries_of}
use Rattle.ssd_text.proofs.Nested.{entries_len}
use Rattle.ssd_text.proofs.Few.{told_few, told_some}
use Rattle.ssd_text.proofs.Ordered.{told_order}
use Rattle.ssd_text.proofs.read.read_text.Goals as goal

pub nodes_of-requires-clause-text : goal.nodes_of-requires-clause-text
nodes_of-requires-clause-text c =
    let u = c.in_default.ensures.cases.1 in
    rw (c.split_at.ensures.back, c.mark_len-mark.ensures.value) (bom_utf8 c.args.bytes.now u)

pub invariant_of-result : goal.invariant_of-result
invariant_of-result c =
    let es = entries_of c.in-Ok.nodes.items in (
      omega (
        arith,
        told_some c.mark_len-mark.result c.split_at.result.1.now es c.in-Ok.ensures,
        entries_len c.in-Ok.nodes.items,
      ),
      omega (
        arith,
        told_few c.mark_len-mark.result c.split_at.result.1.now es
            c.in-Ok.ensures,
        entries_len c.in-Ok.nodes.items,
      ),
      told_order c.mark_len-mark.result c.split_at.result.1.now es
          c.in-Ok.ensures,
    )
