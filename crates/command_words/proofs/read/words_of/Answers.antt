use Rattle.std.proofs.Common.{arith}
use Rattle.clap.specs.Words.{first_value, found_of}
use Rattle.command_words.proofs.LoopLemmas.{word_more}
use Rattle.command_words.proofs.read.words_of.Goals as goal

pub loop-id-preserved : goal.loop-id-preserved
loop-id-preserved c =
    word_more (first_value (found_of c.args.matches.now)) c.args.ids.now c.loop-id.id-index _ c.loop-id.words.items
    c.push_word.new.words.items c.get_str.result (omega arith) c.loop-id.invariant c.get_str.ensures
    c.in_ok-push_word.ensures
