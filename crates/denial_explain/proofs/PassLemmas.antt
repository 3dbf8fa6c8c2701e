-- The pass from the ends on: what holds while the nodes of the queue take their turns.
use Rattle.std.proofs.Common.{◌≡◌, ℕ, ◌+◌, ◌<◌, ◌≤◌, ◌*◌, zero, suc, List, [], length, slice_get, Contains, Option}
use Rattle.std.proofs.Common.{Some, None, cond, ◌∙◌, subst, inl, inr, arith}
use Rattle.std.specs.Prelude.{count_by, is_none}
use Rattle.std.proofs.Math.ListN.{replicate}
use Rattle.std.proofs.lemmas.Bool.{cases_lt}
use Rattle.std.proofs.lemmas.Option.{slice_get_within}
use Rattle.std.proofs.lemmas.List.{length-replicate}
use Rattle.std.proofs.lemmas.List.Folds.{sum_by-replicate}
use Rattle.station_graph.proofs.PathLemmas.{Contains-from_slice_get}
use Rattle.denial_explain.specs.Stepping.{HasSteps, ReachesAll, AreSteps}
use Rattle.denial_explain.proofs.Places.{place_of}
use Rattle.denial_explain.proofs.ReachLemmas.{same_steps}

-- The nodes before the front of the queue have had their turn. Along the queue the steps do not fall,
-- and no node has more than one step more than the front.
pub record Passed (R : ℕ → ℕ → Type 0) (Target : ℕ → Type 0) (count front : ℕ) (steps : List (Option ℕ))
    (queue : List ℕ) : Type 0 where
  pub len : length steps ≡ count
  pub room : length queue + count_by is_none steps ≡ count
  pub within : front ≤ length queue
  pub stepped : (j n : ℕ) → slice_get queue j ≡ Some n → (k : ℕ) × HasSteps steps n k × (k ≤ j)
  pub queued : (n k : ℕ) → HasSteps steps n k → Contains queue n
  pub rises : (i j a b k l : ℕ) → i ≤ j → slice_get queue i ≡ Some a → slice_get queue j ≡ Some b → HasSteps steps a k →
      HasSteps steps b l → k ≤ l
  pub ahead : (b k n l : ℕ) → slice_get queue front ≡ Some b → HasSteps steps b k → HasSteps steps n l → l ≤ k + 1
  pub turned : (j b k a : ℕ) → j < front → slice_get queue j ≡ Some b → HasSteps steps b k → R a b → (l : ℕ)
      × HasSteps steps a l × (l ≤ k + 1)
  pub ends : (n : ℕ) → Target n → HasSteps steps n 0
  pub only_ends : (n : ℕ) → HasSteps steps n 0 → Target n
  pub nearer : (n k : ℕ) → HasSteps steps n (k + 1) → (m : ℕ) × R n m × HasSteps steps m k

no_steps : (count n k : ℕ) → HasSteps (replicate count None) n k → ⊥
no_steps zero n k h = cc
no_steps (suc count) zero k h = cc
no_steps (suc count) (suc n) k h = no_steps count n k h

none_counted : (count : ℕ) → count_by is_none (replicate {A = Option ℕ} count None) ≡ count
none_counted count =
    let e : count_by is_none (replicate {A = Option ℕ} count None) ≡ count * 1 =
    sum_by-replicate (λ (o : Option ℕ). cond (is_none o) 1 0) count None in
    omega arith

-- The ends are reached first.
module _ (R : ℕ → ℕ → Type 0) (Target : ℕ → Type 0) (count : ℕ) (steps : List (Option ℕ)) (queue : List ℕ)
    (h : ReachesAll Target 0 (replicate count None) steps [] queue) where
  all_zero : (n k : ℕ) → HasSteps steps n k → (k ≡ 0) × Target n × Contains queue n
  all_zero n k s = elim (h.only n k s) [ inl old ↦ absurd (no_steps count n k old) | inr w ↦ w ]

  first_queued : (j n : ℕ) → slice_get queue j ≡ Some n → HasSteps steps n 0
  first_queued j n q = elim (h.queue_only j n q) [ inl old ↦ cc | inr w ↦ w.1 ]

  pub Passed-start : Passed R Target count 0 steps queue
  Passed-start = record {
    len = h.len ∙ length-replicate count None;
    room = omega (arith, h.room, none_counted count);
    within = omega arith;
    stepped = λ j n q. (0, first_queued j n q, omega arith);
    queued = λ n k s. (all_zero n k s).2;
    rises = λ i j a b k l ij at_i at_j s t. omega (arith, (all_zero a k s).0, (all_zero b l t).0);
    ahead = λ b k n l at s t. omega (arith, (all_zero n l t).0);
    turned = λ j b k a before at s r. absurd (omega (arith, before));
    ends = λ n e. let w = h.all n e in subst (λ k. HasSteps steps n k) (all_zero n w.0 w.1).0 w.1;
    only_ends = λ n s. (all_zero n 0 s).1;
    nearer = λ n k s. absurd (omega (arith, (all_zero n (k + 1) s).0));
  }

-- One turn: the front b, which has s steps, reaches what is related to it.
module _ (R : ℕ → ℕ → Type 0) (Target : ℕ → Type 0) (count : ℕ) (back : (a b : ℕ) → R a b → R b a) (front b s : ℕ)
    (steps new : List (Option ℕ)) (queue longer : List ℕ) (p : Passed R Target count front steps queue)
    (at : slice_get queue front ≡ Some b) (has : HasSteps steps b s) (h : ReachesAll (R b) (s + 1) steps new queue
    longer) where
  -- steps of a node of the queue before the turn are those that it had
  had : (j n k : ℕ) → slice_get queue j ≡ Some n → HasSteps new n k → HasSteps steps n k
  had j n k q t =
      let w = p.stepped j n q in
      subst (λ l. HasSteps steps n l) (same_steps new n w.0 k (h.kept n w.0 w.1) t) w.1

  -- no node has more than one step more than the front
  at_most : (n k : ℕ) → HasSteps new n k → k ≤ s + 1
  at_most n k t = elim (h.only n k t) [
    | inl old ↦ p.ahead b s n k at has old
    | inr w ↦ omega (arith, w.0)
  ]

  front_in : front < length queue
  front_in = slice_get_within queue front b at

  s_few : s ≤ front
  s_few = let w = p.stepped front b at in omega (arith, same_steps steps b w.0 s w.1 has, w.2)

  stepped : (j n : ℕ) → slice_get longer j ≡ Some n → (k : ℕ) × HasSteps new n k × (k ≤ j)
  stepped j n q = elim (h.queue_only j n q) [
    | inl old ↦ let w = p.stepped j n old in (w.0, h.kept n w.0 w.1, w.2)
    | inr w ↦ (s + 1, w.1, omega (arith, w.0, front_in, s_few))
  ]

  queued : (n k : ℕ) → HasSteps new n k → Contains longer n
  queued n k t = elim (h.only n k t) [
    | inl old ↦ let w = place_of queue n (p.queued n k old) in Contains-from_slice_get longer w.0 n
        (h.queue_kept w.0 n w.1)
    | inr w ↦ w.2
  ]

  rises : (i j a c k l : ℕ) → i ≤ j → slice_get longer i ≡ Some a → slice_get longer j ≡ Some c → HasSteps new a k →
      HasSteps new c l → k ≤ l
  rises i j a c k l ij at_i at_j t u = elim (h.queue_only j c at_j) [
    | inl old_j ↦ elim (h.queue_only i a at_i) [
      | inl old_i ↦ p.rises i j a c k l ij old_i old_j (had i a k old_i t) (had j c l old_j u)
      | inr new_i ↦ absurd (omega (arith, new_i.0, slice_get_within queue j c old_j, ij))
    ]
    | inr new_j ↦ omega (arith, at_most a k t, same_steps new c (s + 1) l new_j.1 u)
  ]

  -- the node after the front has at least its steps
  next_steps : (c k : ℕ) → slice_get longer (front + 1) ≡ Some c → HasSteps new c k → s ≤ k
  next_steps c k at_c t = rises front (front + 1) b c s k (omega arith) (h.queue_kept front b at) at_c
      (h.kept b s has) t

  turned : (j c k a : ℕ) → j < front + 1 → slice_get longer j ≡ Some c → HasSteps new c k → R a c → (l : ℕ)
      × HasSteps new a l × (l ≤ k + 1)
  turned j c k a before q t r = elim (h.queue_only j c q) [
    | inr w ↦ absurd (omega (arith, w.0, front_in, before))
    | inl old ↦ elim (cases_lt j front) [
      | inl less ↦ let w = p.turned j c k a less old (had j c k old t) r in (w.0, h.kept a w.0 w.1, w.2)
      | inr more ↦
          let here : j ≡ front = omega (arith, before) in
          let same : c ≡ b = cc (old, at, here) in
          let same_k : k ≡ s = same_steps new b k s (subst (λ n. HasSteps new n k) same t) (h.kept b s has) in
          let w = h.all a (back a b (subst (λ n. R a n) same r)) in
          (w.0, w.1, omega (arith, at_most a w.0 w.1, same_k))
    ]
  ]

  nearer : (n k : ℕ) → HasSteps new n (k + 1) → (m : ℕ) × R n m × HasSteps new m k
  nearer n k t = elim (h.only n (k + 1) t) [
    | inl old ↦ let w = p.nearer n k old in (w.0, w.1, h.kept w.0 k w.2)
    | inr w ↦
        let same_k : s ≡ k = omega (arith, w.0) in
        (b, back b n w.1, subst (λ l. HasSteps new b l) same_k (h.kept b s has))
  ]

  only_ends : (n : ℕ) → HasSteps new n 0 → Target n
  only_ends n t = elim (h.only n 0 t) [
    | inl old ↦ p.only_ends n old
    | inr w ↦ absurd (omega (arith, w.0))
  ]

  pub Passed-turn : Passed R Target count (front + 1) new longer
  Passed-turn = record {
    len = h.len ∙ p.len;
    room = h.room ∙ p.room;
    within = omega (arith, front_in, h.longer);
    stepped = stepped;
    queued = queued;
    rises = rises;
    ahead = λ c k n l at_c t u. omega (arith, next_steps c k at_c t, at_most n l u);
    turned = turned;
    ends = λ n e. h.kept n 0 (p.ends n e);
    only_ends = only_ends;
    nearer = nearer;
  }

-- After the last turn every node knows its steps.
pub AreSteps-passed : (R : ℕ → ℕ → Type 0) (Target : ℕ → Type 0) (count front : ℕ) (steps : List (Option ℕ))
    (queue : List ℕ) → length queue ≤ front → Passed R Target count front steps queue → AreSteps R Target count steps
AreSteps-passed R Target count front steps queue ended p = record {
  len = p.len;
  ends = p.ends;
  only_ends = p.only_ends;
  nearer = p.nearer;
  near = λ a b k r s.
      let w = place_of queue b (p.queued b k s) in
      p.turned w.0 b k a (omega (arith, slice_get_within queue w.0 b w.1)) w.1 s r;
}
