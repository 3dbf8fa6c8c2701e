use Rattle.station_compare.proofs.WordLemmas.{says_word}
use Rattle.station_compare.proofs.word.word_says.Goals as goal

pub returns : goal.returns
returns c = says_word
