use Rattle.std.proofs.Common.{◌∙◌, List, length, ap}
use Rattle.structured_text.specs.declared.name.Name.{Name}
use Rattle.program_text.proofs.TextLemmas.{same_number}
use Rattle.program_text.proofs.block_text.write_count.Goals as goal

pub returns : goal.returns
returns c =
    same_number _ _ _ _ c.in_ok-push_decimal.ensures.ok
    (c.len.ensures ∙ c.in_ok-found.found.ok.0 ∙ ap (λ (ns : List Name). length ns) c.in_ok-found.ensures)
