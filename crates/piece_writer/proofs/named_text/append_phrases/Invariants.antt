use Rattle.std.proofs.Common.{◌≡◌, ◌++◌, take}
use Rattle.std.specs.List.{flat_map}
use Rattle.piece_writer.specs.Inside.{phrase_text}
use Rattle.piece_writer.proofs.named_text.append_phrases.Given as goal

abbrev pub invariant-loop-phrase : goal.invariant-loop-phrase
invariant-loop-phrase l =
    l.text ≡ l.fn.text ++ flat_map (phrase_text l.names) (take l.phrase-index l.phrases)
