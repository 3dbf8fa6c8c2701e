use Rattle.std.proofs.Common.{◌≡◌, ℕ, ◌<◌, length, get_or}
use Rattle.decision_graphs.proofs.rename.renamed_last.Given as goal

abbrev pub invariant-loop-place : goal.invariant-loop-place
invariant-loop-place l = record {
  len : length l.renamed.items ≡ l.place;
  each : (p : ℕ) → p < l.place → get_or l.renamed.items p 0 ≡ get_or l.names (get_or l.edges p 0) 0;
}
