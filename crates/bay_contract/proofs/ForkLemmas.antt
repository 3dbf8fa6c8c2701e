-- Steps, one for each value of a layer.
use Rattle.std.proofs.Common.{◌≡◌, ℕ, ◌+◌, ◌*◌, ◌<◌, ◌≤◌, ◌⊎◌, zero, suc, List, [], ◌∷◌, ◌++◌, length, slice_get}
use Rattle.std.proofs.Common.{slice_index, Some, refl, sym, ◌∙◌, ap, subst, inl, inr, arith}
use Rattle.std.proofs.lemmas.Bool.{cases_lt}
use Rattle.std.proofs.lemmas.List.{length_push}
use Rattle.station_graph.proofs.PathLemmas.{slice_get-push}
use Rattle.part_alphabets.specs.declared.fork.Fork.{Fork}
use Rattle.bay_contract.specs.Building.{Forked}

abbrev pub fork_at : ℕ → ℕ → List ℕ → ℕ → Fork
fork_at switch base targets i = record {
  switch = record { 0 = switch };
  off = base + slice_index targets (2 * i);
  on = base + slice_index targets (2 * i + 1);
}

pub record ForkedSoFar (switch base : ℕ) (targets : List ℕ) (old now : List Fork) (count : ℕ) : Type 0 where
  pub len : length now ≡ length old + count
  pub kept : (a : ℕ) (f : Fork) → slice_get old a ≡ Some f → slice_get now a ≡ Some f
  pub added : (i : ℕ) → i < count → slice_get now (length old + i) ≡ Some (fork_at switch base targets i)
  pub none_else : (a : ℕ) (f : Fork) → slice_get now a ≡ Some f → (slice_get old a ≡ Some f) ⊎ ((length old ≤ a)
      × (a < length now))

pub forked_none : (switch base : ℕ) (targets : List ℕ) (old : List Fork) → ForkedSoFar switch base targets old old 0
forked_none switch base targets old = record {
  len = omega arith;
  kept = λ a f h. h;
  added = λ i lt. absurd (omega arith);
  none_else = λ a f h. inl h;
}

pub get_push_old : {X : Type 0} (xs : List X) (y x : X) (i : ℕ) → slice_get xs i ≡ Some x
    → slice_get (xs ++ y ∷ []) i ≡ Some x
get_push_old [] y x i h = cc
get_push_old (z ∷ xs) y x zero h = h
get_push_old (z ∷ xs) y x (suc i) h = get_push_old xs y x i h

pub get_push_new : {X : Type 0} (xs : List X) (y : X) → slice_get (xs ++ y ∷ []) (length xs) ≡ Some y
get_push_new [] y = refl
get_push_new (z ∷ xs) y = get_push_new xs y

pub forked_push : (switch base : ℕ) (targets : List ℕ) (old now : List Fork) (i : ℕ) (f : Fork)
    → f ≡ fork_at switch base targets i → ForkedSoFar switch base targets old now i
    → ForkedSoFar switch base targets old (now ++ f ∷ []) (i + 1)
forked_push switch base targets old now i f is h =
    let len = length_push now f in
    record {
      len = omega (arith, h.len);
      kept = λ a g at. get_push_old now f g a (h.kept a g at);
      added = λ k lt. elim (cases_lt k i) [
        | inl less ↦ get_push_old now f (fork_at switch base targets k) (length old + k) (h.added k less)
        | inr more ↦
            let here : k ≡ i = omega arith in
            let place : length now ≡ length old + k = omega (arith, h.len) in
            let e : f ≡ fork_at switch base targets k = is ∙ ap (fork_at switch base targets) (sym here) in
            subst (λ n. slice_get (now ++ f ∷ []) n ≡ Some (fork_at switch base targets k)) place (get_push_new now f
            ∙ ap Some e)
      ];
      none_else = λ a g at. elim (slice_get-push now f g a at) [
        | inl was ↦ elim (h.none_else a g was) [ inl o ↦ inl o | inr w ↦ inr (w.0, omega (arith, w.1)) ]
        | inr new ↦ inr (omega (arith, h.len, new.0), omega (arith, new.0))
      ];
    }

pub forked_all : (switch base count : ℕ) (targets : List ℕ) (old new : List Fork) → base ≡ length old + count
    → ForkedSoFar switch base targets old new count → Forked switch count targets old new
forked_all switch base count targets old new e h =
    let same : length new ≡ base = omega (arith, h.len) in
    record {
      len = h.len;
      kept = h.kept;
      added = λ i lt. subst (λ n. slice_get new (length old + i) ≡ Some (fork_at switch n targets i)) (sym same)
          (h.added i lt);
      none_else = h.none_else;
    }
