-- What a text of blocks is refused for.
use Rattle.std.specs.Prelude.{⊤}
use Rattle.equation_audit.specs.declared.draft.DraftFault.{DraftFault}
use Rattle.equation_audit.specs.declared.draft.DraftFault.TheVariants as draft

-- This holds where the fault is that of one own switch too many; want of memory has no cause.
abbrev pub ForBroad : DraftFault → Type 0 → Type 0
ForBroad draft.Memory P = ⊤
ForBroad draft.Broad P = P
