-- How the fields of a text with names are seen.
use Rattle.std.specs.Prelude.{ℕ, List, [], ◌++◌, codes, slice_index_or}
use Rattle.std.specs.List.{flat_map}
use Rattle.piece_writer.specs.Named.{Named}
use Rattle.piece_writer.specs.declared.named_text.Phrase.{Phrase}
use Rattle.piece_writer.specs.declared.named_text.Phrase.TheVariants.{Word, Name, Line}
use Rattle.piece_writer.specs.declared.named_text.NamedText.TheInside.{Inside}

-- The bytes of a phrase.
abbrev pub phrase_text : List (List ℕ) → Phrase → List ℕ
phrase_text names (Word bytes) = bytes.now
phrase_text names (Name n) = slice_index_or names n []
phrase_text names (Line n head) = head.now ++ slice_index_or names n [] ++ codes "\n"

-- The phrases, one after another.
abbrev pub named_of : Inside → Named
named_of t = record { names = t.names.items; text = flat_map (phrase_text t.names.items) t.phrases.items }
