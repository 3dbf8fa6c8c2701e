use Rattle.std.proofs.Common.{◌≡◌, ◌+◌, length, get_or}
use Rattle.ilk_base.specs.declared.words.Dbpos.TheVariants.{Lost}
use Rattle.central_rules.specs.WordRows.{code_of_word, FirstAre}
use Rattle.central_rules.proofs.plain.row_of.Given as goal

abbrev pub invariant-loop-k : goal.invariant-loop-k
invariant-loop-k l = record {
  long : length l.row ≡ 32;
  each : FirstAre (λ k. code_of_word (get_or l.readings (l.first.0 + k) Lost)) l.k l.row;
}
