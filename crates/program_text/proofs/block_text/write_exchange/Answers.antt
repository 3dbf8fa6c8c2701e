use Rattle.std.proofs.Common.{List, ap}
use Rattle.structured_text.specs.declared.name.Name.{Name}
use Rattle.program_text.specs.ProgramText.{formula_count}
use Rattle.program_text.proofs.TextLemmas.{five_pieces, same_number}
use Rattle.program_text.proofs.block_text.write_exchange.Goals as goal

pub returns : goal.returns
returns c =
    five_pieces _ _ _ _ _ _ _ _ _ _ _ c.in_ok-push.ensures.ok
    (same_number _ _ _ _ c.in_ok-write_count.ensures (ap (λ (ns : List Name). formula_count ns) c.deref.ensures.value))
    c.in_ok-push-2.ensures.ok
    (same_number _ _ _ _ c.in_ok-write_count-2.ensures
    (ap (λ (ns : List Name). formula_count ns) c.deref-2.ensures.value))
    c.in_ok-push-3.ensures.ok
