use Rattle.std.proofs.Common.{◌≡◌, length}
use Rattle.program_text.specs.Sections.{AreSmall, AreKeysSmall, KeysRise}
use Rattle.program_text.proofs.RisingLemmas.{AreNoted}
use Rattle.program_text.proofs.section_keys.rising_keys.Given as goal

abbrev pub invariant-loop-i : goal.invariant-loop-i
invariant-loop-i l =
    (length l.sections.items ≡ l.i)
    × AreKeysSmall l.sections.items
    × AreSmall l.keys
    × AreNoted l.lines l.sections.items l.keys l.i
    × KeysRise l.lines l.sections.items l.i
