-- Ways that follow the steps, and what makes them shortest.
use Rattle.std.proofs.Common.{◌≡◌, ℕ, ◌+◌, ◌≤◌, suc, List, [], ◌∷◌, ◌++◌, length, slice_get, Option, Some, refl}
use Rattle.std.proofs.Common.{sym, ap, subst, inl, inr, arith}
use Rattle.std.proofs.lemmas.Option.{slice_get_within}
use Rattle.std.proofs.lemmas.List.{length_push}
use Rattle.station_graph.specs.Connection.{LeadsTo, Linked}
use Rattle.station_graph.proofs.PathLemmas.{slice_get-push}
use Rattle.denial_explain.specs.Ways.{Distinct, AllBelow, IsWay}
use Rattle.denial_explain.specs.Stepping.{HasSteps, AreSteps}
use Rattle.denial_explain.proofs.ReachLemmas.{same_steps}

-- a list that leads somewhere, with one node more
leads_push : (R : ℕ → ℕ → Type 0) (a : ℕ) (xs : List ℕ) (b c : ℕ) → LeadsTo R a xs b → R b c →
    LeadsTo R a (xs ++ c ∷ []) c
leads_push R a [] b c e r = (subst (λ n. R n c) (sym e) r, refl)
leads_push R a (x ∷ xs) b c h r = (h.0, leads_push R x xs b c h.1 r)

leads_weaker : (R Q : ℕ → ℕ → Type 0) → ((a b : ℕ) → R a b → Q a b) → (a : ℕ) (xs : List ℕ) (b : ℕ) → LeadsTo R a xs b →
    LeadsTo Q a xs b
leads_weaker R Q w a [] b e = e
leads_weaker R Q w a (x ∷ xs) b h = (w a x h.0, leads_weaker R Q w x xs b h.1)

-- a way is one along a relation that holds alike, to ends that are alike
pub IsWay-same : (R Q : ℕ → ℕ → Type 0) (Target Goal : ℕ → Type 0) (a last : ℕ) (nodes : List ℕ) →
    ((x y : ℕ) → R x y → Q x y) → ((x y : ℕ) → Q x y → R x y) → ((n : ℕ) → Target n → Goal n) →
    ((n : ℕ) → Goal n → Target n) → IsWay R Target a last nodes → IsWay Q Goal a last nodes
IsWay-same R Q Target Goal a last nodes there back end_there end_back w = record {
  after = w.after;
  begins = w.begins;
  leads = leads_weaker R Q there a w.after last w.leads;
  ends = end_there last w.ends;
  distinct = w.distinct;
  shortest = λ other m l e. w.shortest other m (leads_weaker Q R back a other m l) (end_back m e);
}

-- a node from which a list leads to an end has at most as many steps as the list has nodes
steps_within : (R : ℕ → ℕ → Type 0) (Target : ℕ → Type 0) (count : ℕ) (steps : List (Option ℕ)) →
    AreSteps R Target count steps → (a : ℕ) (other : List ℕ) (m : ℕ) → LeadsTo R a other m → Target m → (k : ℕ)
    × HasSteps steps a k × (k ≤ length other)
steps_within R Target count steps h a [] m e end = (0, h.ends a (subst Target (sym e) end), omega arith)
steps_within R Target count steps h a (x ∷ xs) m l end =
    let w = steps_within R Target count steps h x xs m l.1 end in
    let n = h.near a x w.0 l.0 w.1 in
    (n.0, n.1, omega (arith, n.2, w.2))

-- a node that is linked to an end has steps
pub steps_from : (R Q : ℕ → ℕ → Type 0) (Target : ℕ → Type 0) (count : ℕ) (steps : List (Option ℕ)) →
    AreSteps R Target count steps → ((x y : ℕ) → Q x y → R x y) → (a m : ℕ) → Linked Q a m → Target m → (k : ℕ)
    × HasSteps steps a k
steps_from R Q Target count steps h w a m l end =
    let s = steps_within R Target count steps h a l.after m (leads_weaker Q R w a l.after m l.leads) end in (s.0, s.1)

-- the same steps, to the nodes without a step
pub AreSteps-own_ends : (R : ℕ → ℕ → Type 0) (Target : ℕ → Type 0) (count : ℕ) (steps : List (Option ℕ)) →
    AreSteps R Target count steps → AreSteps R (λ n. HasSteps steps n 0) count steps
AreSteps-own_ends R Target count steps h = record {
  len = h.len;
  ends = λ n e. e;
  only_ends = λ n e. e;
  nearer = h.nearer;
  near = h.near;
}

-- The nodes lead from a node with so many steps to one with so many left, a step at a time.
pub record Follows (R : ℕ → ℕ → Type 0) (steps : List (Option ℕ)) (from last left : ℕ) (nodes : List ℕ) : Type 0 where
  pub after : List ℕ
  pub begins : nodes ≡ from ∷ after
  pub leads : LeadsTo R from after last
  pub here : HasSteps steps last left
  pub falls : (i n : ℕ) → slice_get nodes i ≡ Some n → (k : ℕ) × HasSteps steps n k × (i + k ≡ length after + left)

module _ (R : ℕ → ℕ → Type 0) (steps : List (Option ℕ)) (from last : ℕ) (nodes : List ℕ) where
  pub Follows-step : (left m : ℕ) → Follows R steps from last (left + 1) nodes → R last m → HasSteps steps m left →
      Follows R steps from m left (nodes ++ m ∷ [])
  Follows-step left m h r has = record {
    after = h.after ++ m ∷ [];
    begins = ap (λ (xs : List ℕ). xs ++ m ∷ []) h.begins;
    leads = leads_push R from h.after last m h.leads r;
    here = has;
    falls = λ i n e. elim (slice_get-push nodes m n i e) [
      | inl old ↦ let w = h.falls i n old in (w.0, w.1, omega (arith, w.2, length_push h.after m))
      | inr new ↦
          let long : length nodes ≡ suc (length h.after) = ap (λ (xs : List ℕ). length xs) h.begins in
          (left, subst (λ k. HasSteps steps k left) new.1 has, omega (arith, new.0, long, length_push h.after m))
    ];
  }

  pub Follows-below : (left : ℕ) → Follows R steps from last left nodes → AllBelow (length steps) nodes
  Follows-below left h i n e = let w = h.falls i n e in slice_get_within steps n (Some w.0) w.1

  Follows-distinct : (left : ℕ) → Follows R steps from last left nodes → Distinct nodes
  Follows-distinct left h i j n at_i at_j =
      let v = h.falls i n at_i in
      let w = h.falls j n at_j in
      omega (arith, v.2, w.2, same_steps steps n v.0 w.0 v.1 w.1)

  first_at : (after : List ℕ) → nodes ≡ from ∷ after → slice_get nodes 0 ≡ Some from
  first_at after e = ap (λ (xs : List ℕ). slice_get xs 0) e

  -- where no step is left, it is a shortest way
  pub IsWay-followed : (Target : ℕ → Type 0) (count : ℕ) → AreSteps R Target count steps →
      Follows R steps from last 0 nodes → IsWay R Target from last nodes
  IsWay-followed Target count are h = record {
    after = h.after;
    begins = h.begins;
    leads = h.leads;
    ends = are.only_ends last h.here;
    distinct = Follows-distinct 0 h;
    shortest = λ other m l e.
        let v = h.falls 0 from (first_at h.after h.begins) in
        let w = steps_within R Target count steps are from other m l e in
        omega (arith, v.2, w.2, same_steps steps from v.0 w.0 v.1 w.1);
  }
