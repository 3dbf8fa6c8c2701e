-- The moves from a position, switch by switch.
use Rattle.std.proofs.Common.{◌≡◌, ◌⊎◌, ℕ, ◌+◌, ◌<◌, ◌≤◌, zero, suc, Bool, List, [], ◌∷◌, ◌++◌, length, slice_get}
use Rattle.std.proofs.Common.{get_or, Option, Some, None, refl, sym, ap, ◌∙◌, subst, inl, inr, arith}
use Rattle.std.proofs.lemmas.Option.{slice_get_within, slice_get-get_or}
use Rattle.ilk_base.specs.declared.words.Op.{Op}
use Rattle.ilk_base.specs.declared.words.Rule.{Rule}
use Rattle.station_graph.specs.Diagram.{Diagram}
use Rattle.station_graph.proofs.PathLemmas.{slice_get-push}
use Rattle.dependence_search.specs.Turning.{moved, IsTurning}
use Rattle.dependence_search.proofs.DependLemmas.{answers_turned}
use Rattle.commissioning_tests.specs.declared.values.TestMove.{TestMove}
use Rattle.commissioning_tests.specs.declared.values.TestPosition.{TestPosition}
use Rattle.commissioning_tests.specs.Answering.{AreAnswers, TurnsAt, IsMove, AreRising}
use Rattle.decision_graphs.specs.Reaching.{IsSet}
use Rattle.commissioning_tests.specs.Covering.{TurnIsAmong, TurnIsShown}
use Rattle.commissioning_tests.specs.Growing.{AllIsShown, IsMoveOf, list_of, AreMovesOf}

-- what is turned in a vector is turned in its answers
pub turning_turns : (d : Diagram) (ops : List Op) (v : List Bool) (s k : ℕ) (op : Op) (answers others : List (Option Rule)) →
    AreAnswers d ops v answers → AreAnswers d ops (moved s v) others → slice_get ops k ≡ Some op → IsTurning d op s v →
    TurnsAt k answers others
turning_turns d ops v s k op answers others are turned at t =
    let within : k < length ops = slice_get_within ops k op at in
    let one : slice_get answers k ≡ Some (get_or answers k None) =
    slice_get-get_or answers k None (omega (arith, within, are.len)) in
    let other : slice_get others k ≡ Some (get_or others k None) =
    slice_get-get_or others k None (omega (arith, within, turned.len)) in
    record {
      one = get_or answers k None;
      other = get_or others k None;
      one_at = one;
      other_at = other;
      turned =
          answers_turned d op t.rule v (moved s v) (get_or answers k None) (get_or others k None)
          (are.each k op (get_or answers k None) at one) (turned.each k op (get_or others k None) at other) t.turns;
    }

-- an entry stays where more is appended
pub still : {X : Type 0} (xs ys : List X) (i : ℕ) (x : X) → slice_get xs i ≡ Some x → slice_get (xs ++ ys) i ≡ Some x
still [] ys i x at = cc
still (y ∷ xs) ys zero x at = at
still (y ∷ xs) ys (suc i) x at = still xs ys i x at

pub new_last : {X : Type 0} (xs : List X) (x : X) → slice_get (xs ++ x ∷ []) (length xs) ≡ Some x
new_last [] x = refl
new_last (y ∷ xs) x = new_last xs x

append_none : {X : Type 0} (xs : List X) → xs ++ [] ≡ xs
append_none [] = refl
append_none (x ∷ xs) = ap (λ l. x ∷ l) (append_none xs)

-- the moves of the first n switches
pub record MovesUpto (d : Diagram) (ops : List Op) (asked : List Bool) (ps : List TestPosition) (v : List Bool)
    (answers : List (Option Rule)) (moves : List TestMove) (n : ℕ) : Type 0 where
  pub each : (j : ℕ) (m : TestMove) → slice_get moves j ≡ Some m → IsMove d ops v answers m
  pub rising : AreRising moves
  pub below : (j : ℕ) (m : TestMove) → slice_get moves j ≡ Some m → m.switch.0 < n
  pub shows : (k s : ℕ) (op : Op) → slice_get ops k ≡ Some op → s < n → IsSet asked s →
      IsTurning d op s v → TurnIsShown ps k s ⊎ TurnIsAmong answers moves k s

cases : (a b : ℕ) → a < b + 1 → (a < b) ⊎ (a ≡ b)
cases a b less = grind arith

among_still : (answers : List (Option Rule)) (moves more : List TestMove) (k s : ℕ) → TurnIsAmong answers moves k s →
    TurnIsAmong answers (moves ++ more) k s
among_still answers moves more k s t = record {
  number = t.number;
  move = t.move;
  at = still moves more t.number t.move t.at;
  switch = t.switch;
  turns = t.turns;
}

module _ (d : Diagram) (ops : List Op) (asked : List Bool) (ps : List TestPosition) (v : List Bool)
    (answers : List (Option Rule)) (are : AreAnswers d ops v answers) where
  none_then : (moves : List TestMove) (n : ℕ) → MovesUpto d ops asked ps v answers moves n →
      (IsSet asked n → AllIsShown d ops ps v n) → MovesUpto d ops asked ps v answers moves (n + 1)
  none_then moves n so all = record {
    each = so.each;
    rising = so.rising;
    below = λ j m at. omega (arith, so.below j m at);
    shows = λ k s op at lt set_here t. elim (cases s n lt) [
      | inl less ↦ so.shows k s op at less set_here t
      | inr equal ↦
          inl (subst (λ x. TurnIsShown ps k x) (sym equal) (all (subst (λ x. IsSet asked x) equal set_here) k op at
          (subst (λ x. IsTurning d op x v) equal t)))
    ];
  }

  one_then : (moves : List TestMove) (n : ℕ) (m : TestMove) → MovesUpto d ops asked ps v answers moves n → m.switch.0 ≡ n →
      IsMove d ops v answers m → MovesUpto d ops asked ps v answers (moves ++ m ∷ []) (n + 1)
  one_then moves n m so number is = record {
    each = λ j x at. elim (slice_get-push moves m x j at) [
      | inl before ↦ so.each j x before
      | inr here ↦ subst (λ (y : TestMove). IsMove d ops v answers y) here.1 is
    ];
    rising = λ i j x y at_x at_y lt. elim (slice_get-push moves m y j at_y) [
      | inl before_y ↦ elim (slice_get-push moves m x i at_x) [
        | inl before_x ↦ so.rising i j x y before_x before_y lt
        | inr here_x ↦ absurd (omega (arith, here_x.0, slice_get_within moves j y before_y, lt))
      ]
      | inr here_y ↦ elim (slice_get-push moves m x i at_x) [
        | inl before_x ↦
            omega (arith, so.below i x before_x, number, ap (λ (z : TestMove). z.switch.0) here_y.1)
        | inr here_x ↦ absurd (omega (arith, here_x.0, here_y.0, lt))
      ]
    ];
    below = λ j x at. elim (slice_get-push moves m x j at) [
      | inl before ↦ omega (arith, so.below j x before)
      | inr here ↦ omega (arith, number, ap (λ (z : TestMove). z.switch.0) here.1)
    ];
    shows = λ k s op at lt set_here t. elim (cases s n lt) [
      | inl less ↦ elim (so.shows k s op at less set_here t) [
        | inl shown ↦ inl shown
        | inr among ↦ inr (among_still answers moves (m ∷ []) k s among)
      ]
      | inr equal ↦ inr (record {
        number = length moves;
        move = m;
        at = new_last moves m;
        switch = number ∙ sym equal;
        turns =
            turning_turns d ops v m.switch.0 k op answers m.answers.items are is.answers_are at
            (subst (λ x. IsTurning d op x v) (equal ∙ sym number) t);
      })
    ];
  }

  pub moves_more : (moves : List TestMove) (n : ℕ) (found : Option TestMove) → MovesUpto d ops asked ps v answers moves n →
      IsMoveOf d ops asked ps v answers n found → MovesUpto d ops asked ps v answers (moves ++ list_of found) (n + 1)
  moves_more moves n None so all =
      subst (λ (l : List TestMove). MovesUpto d ops asked ps v answers l (n + 1)) (sym (append_none moves))
      (none_then moves n so all)
  moves_more moves n (Some m) so is = one_then moves n m so is.0 is.1

  pub moves_all : (moves : List TestMove) (n : ℕ) → MovesUpto d ops asked ps v answers moves n → length d.switches ≤ n →
      AreMovesOf d ops asked ps v answers moves
  moves_all moves n so all = record {
    each = so.each;
    rising = so.rising;
    shows = λ k s op at lt set_here t. so.shows k s op at (omega (arith, lt, all)) set_here t;
  }
