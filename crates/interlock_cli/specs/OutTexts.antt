-- How the text that a call has to write is seen.
use Rattle.std.specs.Prelude.{ℕ, List}
use Rattle.interlock_cli.specs.declared.out_text.Holding.{Holding}
use Rattle.interlock_cli.specs.declared.out_text.Holding.TheVariants.{Whole, Named}
use Rattle.interlock_cli.specs.declared.out_text.OutText.TheInside.{Inside}

-- The text, however it is held.
abbrev pub held_text : Holding → List ℕ
held_text (Whole text) = text
held_text (Named text writer) = text.text

-- The text of the fields.
abbrev pub out_text_of : Inside → List ℕ
out_text_of o = held_text o.holding
