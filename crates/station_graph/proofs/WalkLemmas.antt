-- A walk through a union of relations is a row of walks within one of them each, between nodes that
-- are kept for it.
use Rattle.std.proofs.Common.{◌≡◌, ◌≢◌, ℕ, ◌⊎◌, List, [], ◌∷◌, sym, subst, inl, inr}
use Rattle.station_graph.specs.Connection.{Linked, LeadsTo}
use Rattle.station_graph.proofs.LinkedLemmas.{linked_self, linked_one, linked_trans, linked_weaker, linked_flat}

-- one of the relations holds
pub record AnyOf {I : Type 0} (R : I → ℕ → ℕ → Type 0) (a b : ℕ) : Type 0 where
  pub set : I
  pub holds : R set a b

-- a walk within one relation between two nodes that are kept for it
pub record Hop {I : Type 0} (R : I → ℕ → ℕ → Type 0) (K : I → ℕ → Type 0) (a b : ℕ) : Type 0 where
  pub set : I
  pub from : K set a
  pub to : K set b
  pub within : Linked (R set) a b

-- from a by hops, and then within the set to b
pub record Reaches {I : Type 0} (R : I → ℕ → ℕ → Type 0) (K : I → ℕ → Type 0) (set : I) (a b : ℕ) : Type 0 where
  pub last : ℕ
  pub hops : Linked (Hop R K) a last
  pub kept : K set last
  pub within : Linked (R set) last b

-- The sets and their relations: T says which nodes a set touches, K which are kept for it. A node that a
-- set touches and that another set touches or keeps is kept for it.
pub record KeepsMeetings {I : Type 0} (R : I → ℕ → ℕ → Type 0) (T K : I → ℕ → Type 0) : Type 0 where
  pub from_touched : (i : I) (a b : ℕ) → R i a b → T i a
  pub to_touched : (i : I) (a b : ℕ) → R i a b → T i b
  pub kept : (i j : I) (n : ℕ) → i ≢ j → T j n → T i n ⊎ K i n → K j n

leads_end : (Q : ℕ → ℕ → Type 0) (P : ℕ → Type 0) → ((a b : ℕ) → Q a b → P b) → (a b : ℕ) (xs : List ℕ) →
    LeadsTo Q a xs b → (a ≡ b) ⊎ P b
leads_end Q P h a b [] e = inl e
leads_end Q P h a b (x ∷ xs) l = elim (leads_end Q P h x b xs l.1) [
  | inl e ↦ inr (subst P e (h a x l.0))
  | inr p ↦ inr p
]

-- same tells sets apart
module _ (I : Type 0) (same : (i j : I) → (i ≡ j) ⊎ (i ≢ j)) (R : I → ℕ → ℕ → Type 0) (T K : I → ℕ →
    Type 0) (meets : KeepsMeetings R T K) where
  -- where a walk within a set is, the set touches or keeps
  at_the_end : (i : I) (a b : ℕ) → K i a → Linked (R i) a b → T i b ⊎ K i b
  at_the_end i a b k l = elim (leads_end (R i) (T i) (meets.to_touched i) a b l.after l.leads)
      [ inl e ↦ inr (subst (K i) e k) | inr t ↦ inl t ]

  -- two sets that touch or keep a node both keep it, where one of them touches it
  kept_here : (i j : I) (n : ℕ) → i ≢ j → T i n ⊎ K i n → T j n ⊎ K j n → K j n
  kept_here i j n ne bi (inl t) = meets.kept i j n ne t bi
  kept_here i j n ne bi (inr k) = k

  -- a change of the set at a node
  changes : (i j : I) (a n : ℕ) → i ≢ j → Reaches R K i a n → T j n ⊎ K j n → Reaches R K j a n
  changes i j a n ne r bj =
      let bi : T i n ⊎ K i n = at_the_end i r.last n r.kept r.within in
      let hop : Hop R K r.last n = record {
        set = i;
        from = r.kept;
        to = kept_here j i n (λ e. ne (sym e)) bj bi;
        within = r.within;
      } in
      record {
        last = n;
        hops = linked_trans (Hop R K) a r.last n r.hops (linked_one (Hop R K) r.last n hop);
        kept = kept_here i j n ne bi bj;
        within = linked_self (R j) n;
      }

  moves_to : (i j : I) (a n : ℕ) → Reaches R K i a n → T j n ⊎ K j n → Reaches R K j a n
  moves_to i j a n r bj = elim (same i j) [
    | inl e ↦ subst (λ k. Reaches R K k a n) e r
    | inr ne ↦ changes i j a n ne r bj
  ]

  steps_on : (j : I) (a n m : ℕ) → Reaches R K j a n → R j n m → Reaches R K j a m
  steps_on j a n m r e = record {
    last = r.last;
    hops = r.hops;
    kept = r.kept;
    within = linked_trans (R j) r.last n m r.within (linked_one (R j) n m e);
  }

  walks : (i : I) (a n m : ℕ) (xs : List ℕ) → Reaches R K i a n → LeadsTo (AnyOf R) n xs m → (j : I) × Reaches R K j a m
  walks i a n m [] r e = (i, subst (λ k. Reaches R K i a k) e r)
  walks i a n m (x ∷ xs) r l =
      let set = l.0.set in
      walks set a x m xs (steps_on set a n x (moves_to i set a n r (inl (meets.from_touched set n x l.0.holds)))
      l.0.holds) l.1

  -- a walk through the union from a kept node to one that a set touches or keeps ends within that set
  pub reaches : (i j : I) (a b : ℕ) → K i a → T j b ⊎ K j b → Linked (AnyOf R) a b → Reaches R K j a b
  reaches i j a b k bj l =
      let start : Reaches R K i a a = record {
        last = a;
        hops = linked_self (Hop R K) a;
        kept = k;
        within = linked_self (R i) a;
      } in
      let w = walks i a a b l.after start l.leads in
      moves_to w.0 j a b w.1 bj

  -- a walk through the union between kept nodes is a row of hops
  pub hops_between : (i j : I) (a b : ℕ) → K i a → K j b → Linked (AnyOf R) a b → Linked (Hop R K) a b
  hops_between i j a b ka kb l =
      let r = reaches i j a b ka (inr kb) l in
      let hop : Hop R K r.last b = record { set = j; from = r.kept; to = kb; within = r.within } in
      linked_trans (Hop R K) a r.last b r.hops (linked_one (Hop R K) r.last b hop)

-- a row of hops is a walk through the union
pub any_from_within : {I : Type 0} (R : I → ℕ → ℕ → Type 0) (i : I) (a b : ℕ) → Linked (R i) a b → Linked (AnyOf R) a b
any_from_within R i a b l = linked_weaker (R i) (AnyOf R) (λ x y e. record { set = i; holds = e }) a b l

pub any_from_hops : {I : Type 0} (R : I → ℕ → ℕ → Type 0) (K : I → ℕ → Type 0) (a b : ℕ) → Linked (Hop R K) a b →
    Linked (AnyOf R) a b
any_from_hops R K a b l = linked_flat (Hop R K) (AnyOf R) (λ x y h. any_from_within R h.set x y h.within) a b l
