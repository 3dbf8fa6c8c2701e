use Rattle.std.proofs.Common.{◌≡◌, map, take}
use Rattle.std.specs.List.{filter_map}
use Rattle.clap.specs.Words.{first_value, found_of}
use Rattle.command_words.proofs.read.words_of.Given as goal

abbrev pub invariant-loop-id : goal.invariant-loop-id
invariant-loop-id l =
    map (λ w. w.now) l.words.items
    ≡ filter_map (first_value (found_of l.matches)) (map (λ id. id.now) (take l.id-index l.ids))
