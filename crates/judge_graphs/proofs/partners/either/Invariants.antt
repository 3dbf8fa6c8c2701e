use Rattle.std.proofs.Common.{◌≡◌, ◌⊎◌, ◌↔◌, ℕ, ◌<◌, length, get_or, true, false}
use Rattle.judge_graphs.proofs.partners.either.Given as goal

abbrev pub invariant-loop-place : goal.invariant-loop-place
invariant-loop-place l = record {
  len : length l.both.items ≡ l.place;
  each : (j : ℕ) → j < l.place → (get_or l.both.items j false ≡ true) ↔
      ((get_or l.first j false ≡ true) ⊎ (get_or l.second j false ≡ true));
}
