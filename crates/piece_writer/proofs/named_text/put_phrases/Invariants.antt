use Rattle.std.proofs.Common.{take}
use Rattle.std.specs.List.{flat_map}
use Rattle.piece_writer.specs.Putting.{stand, Puts}
use Rattle.piece_writer.specs.Inside.{phrase_text}
use Rattle.piece_writer.proofs.named_text.put_phrases.Given as goal

abbrev pub invariant-loop-phrase : goal.invariant-loop-phrase
invariant-loop-phrase g l =
    Puts (stand (g.S.Sink.took l.initial.sink) (g.S.Sink.faults l.initial.sink) l.initial.writer)
    (stand (g.S.Sink.took l.sink) (g.S.Sink.faults l.sink) l.writer)
    (flat_map (phrase_text l.names) (take l.phrase-index l.phrases))
