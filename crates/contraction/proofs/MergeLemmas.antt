-- Steps of a merge of two rising lists.
use Rattle.std.proofs.Common.{◌≡◌, ◌≢◌, ℕ, ◌+◌, ◌-◌, ◌<◌, ◌≤◌, zero, suc, List, [], ◌∷◌, ◌++◌, length, slice_get}
use Rattle.std.proofs.Common.{slice_index, Some, refl, sym, ◌∙◌, ap, subst, inl, inr, arith}
use Rattle.std.proofs.lemmas.Bool.{cases_eq, cases_lt}
use Rattle.std.proofs.lemmas.List.{length_push}
use Rattle.std.proofs.lemmas.Option.{slice_get_within, slice_get-get_or, get_or_from_slice_get}
use Rattle.station_graph.specs.declared.limits.TheConstants.{NODES}
use Rattle.contraction.specs.Answers.{AreNodes, AreLabels}
use Rattle.station_graph.specs.Nodes.{Rises}
use Rattle.contraction.specs.Merging.{IsLeastNext, Advances, Follows, ComesFrom, Merging, IsMerged, LabelsFit}

pub push_old : (xs : List ℕ) (x k : ℕ) → k < length xs → slice_index (xs ++ x ∷ []) k ≡ slice_index xs k
push_old [] x k h = absurd (omega (arith, h))
push_old (y ∷ ys) x zero h = refl
push_old (y ∷ ys) x (suc k) h = push_old ys x k (omega arith)

pub push_new : (xs : List ℕ) (x k : ℕ) → k ≡ length xs → slice_index (xs ++ x ∷ []) k ≡ x
push_new [] x zero h = refl
push_new [] x (suc k) h = absurd (omega (arith, h))
push_new (y ∷ ys) x zero h = absurd (omega (arith, h))
push_new (y ∷ ys) x (suc k) h = push_new ys x k (omega arith)

pub rises_push : (xs : List ℕ) (x : ℕ) → Rises xs → ((k : ℕ) → k < length xs → slice_index xs k < x) →
    Rises (xs ++ x ∷ [])
rises_push xs x rises above j k less inside =
    let len = length_push xs x in
    elim (cases_lt k (length xs)) [
      | inl k_in ↦ omega (arith, rises j k less k_in, push_old xs x j (omega arith), push_old xs x k k_in)
      | inr last ↦
          let at : k ≡ length xs = omega arith in
          omega (arith, above j (omega arith), push_old xs x j (omega arith), push_new xs x k at)
    ]

-- an entry of a rising list is no less than its place
rises_long : (xs : List ℕ) → Rises xs → (k : ℕ) → k < length xs → k ≤ slice_index xs k
rises_long xs rises zero h = omega arith
rises_long xs rises (suc k) h = omega (arith, rises_long xs rises k (omega arith), rises k (suc k) (omega arith) h)

-- a rising list of entries below x is no longer than x
pub rises_short : (xs : List ℕ) (x : ℕ) → Rises xs → ((k : ℕ) → k < length xs → slice_index xs k < x) → length xs ≤ x
rises_short xs x rises below = elim (cases_eq (length xs) 0) [
  | inl e ↦ omega arith
  | inr ne ↦
      let last : ℕ = length xs - 1 in
      let inside : last < length xs = omega arith in
      omega (arith, rises_long xs rises last inside, below last inside)
]

pub advances_long : (nodes : List ℕ) (x place : ℕ) (old new : List ℕ) → Advances nodes x place old new →
    length old ≤ length new
advances_long nodes x place old new (inl (next, e)) = omega (arith, ap length e, length_push old place)
advances_long nodes x place old new (inr (ne, e)) = omega (arith, ap length e)

module _ (nodes kept : List ℕ) (x : ℕ) (rises : Rises nodes) (least : (places : List ℕ) → Unit {0}) where
  abbrev longer : List ℕ
  longer = kept ++ x ∷ []

  follows_next : (places : List ℕ) → Follows nodes kept places → slice_get nodes (length places) ≡ Some x →
      Follows nodes longer (places ++ length kept ∷ [])
  follows_next places f next =
      let p1 : List ℕ = places ++ length kept ∷ [] in
      let len : length p1 ≡ length places + 1 = length_push places (length kept) in
      let klen : length longer ≡ length kept + 1 = length_push kept x in
      let inside : length places < length nodes = slice_get_within nodes (length places) x next in
      let is_x : slice_index nodes (length places) ≡ x = get_or_from_slice_get nodes (length places) x 0 next in
      record {
        within = omega arith;
        inside = λ k k_in. elim (cases_lt k (length places)) [
          | inl old ↦ omega (arith, f.inside k old, push_old places (length kept) k old)
          | inr last ↦ let at : k ≡ length places = omega arith in omega (arith, push_new places (length kept) k at)
        ];
        stands = λ k k_in. elim (cases_lt k (length places)) [
          | inl old ↦
              ap (slice_index longer) (push_old places (length kept) k old)
              ∙ push_old kept x (slice_index places k) (f.inside k old)
              ∙ f.stands k old
          | inr last ↦
              let at : k ≡ length places = omega arith in
              ap (slice_index longer) (push_new places (length kept) k at)
              ∙ push_new kept x (length kept) refl
              ∙ sym is_x
              ∙ ap (slice_index nodes) (sym at)
        ];
        ahead = λ k k_in more.
            let next_in : length places + 1 < length nodes = omega arith in
            let up : slice_index nodes (length places) < slice_index nodes (length places + 1) =
            rises (length places) (length places + 1) (omega arith) next_in in
            let up1 : slice_index nodes (length places) < slice_index nodes (length p1) =
            subst (λ n. slice_index nodes (length places) < slice_index nodes n) (sym len) up in
            elim (cases_lt k (length kept)) [
              | inl old ↦ omega (arith, push_old kept x k old, f.ahead k old inside, up1)
              | inr last ↦ let at : k ≡ length kept = omega arith in omega (arith, push_new kept x k at, is_x, up1)
            ];
        rises = rises_push places (length kept) f.rises f.inside;
      }

  follows_other : (places : List ℕ) → Follows nodes kept places →
      ((y : ℕ) → slice_get nodes (length places) ≡ Some y → x ≤ y) → slice_get nodes (length places) ≢ Some x →
      Follows nodes longer places
  follows_other places f no_less ne =
      let klen : length longer ≡ length kept + 1 = length_push kept x in
      record {
        within = f.within;
        inside = λ k k_in. omega (arith, f.inside k k_in);
        stands = λ k k_in. push_old kept x (slice_index places k) (f.inside k k_in) ∙ f.stands k k_in;
        ahead = λ k k_in more. elim (cases_lt k (length kept)) [
          | inl old ↦ omega (arith, push_old kept x k old, f.ahead k old more)
          | inr last ↦
              let at : k ≡ length kept = omega arith in
              let head : slice_get nodes (length places) ≡ Some (slice_index nodes (length places)) =
              slice_get-get_or nodes (length places) 0 more in
              let le : x ≤ slice_index nodes (length places) = no_less (slice_index nodes (length places)) head in
              let other : x ≢ slice_index nodes (length places) = λ e. ne (head ∙ ap Some (sym e)) in
              omega (arith, push_new kept x k at)
        ];
        rises = f.rises;
      }

pub follows_step : (nodes kept places new : List ℕ) (x : ℕ) → Rises nodes → Follows nodes kept places →
    ((y : ℕ) → slice_get nodes (length places) ≡ Some y → x ≤ y) → Advances nodes x (length kept) places new →
    Follows nodes (kept ++ x ∷ []) new
follows_step nodes kept places new x rises f no_less (inl (next, e)) =
    subst (Follows nodes (kept ++ x ∷ [])) (sym e) (follows_next nodes kept x rises (λ _. tt) places f next)
follows_step nodes kept places new x rises f no_less (inr (ne, e)) =
    subst (Follows nodes (kept ++ x ∷ [])) (sym e) (follows_other nodes kept x rises (λ _. tt) places f no_less ne)

advances_same : (nodes : List ℕ) (x place : ℕ) (old new : List ℕ) (k : ℕ) → Advances nodes x place old new →
    k < length old → slice_index new k ≡ slice_index old k
advances_same nodes x place old new k (inl (next, e)) h =
    ap (λ (l : List ℕ). slice_index l k) e ∙ push_old old place k h
advances_same nodes x place old new k (inr (ne, e)) h = ap (λ (l : List ℕ). slice_index l k) e

advances_next : (nodes : List ℕ) (x place : ℕ) (old new : List ℕ) → Advances nodes x place old new →
    slice_get nodes (length old) ≡ Some x → (length new ≡ length old + 1) × (slice_index new (length old) ≡ place)
advances_next nodes x place old new (inl (next, e)) h = (
  ap length e ∙ length_push old place,
  ap (λ (l : List ℕ). slice_index l (length old)) e ∙ push_new old place (length old) refl,
)
advances_next nodes x place old new (inr (ne, e)) h = absurd (ne h)

-- the next entry of a merge is above all before it
pub above_all : (a b kept p q : List ℕ) (x : ℕ) → Merging a b kept p q → IsLeastNext a b (length p) (length q) x →
    (k : ℕ) → k < length kept → slice_index kept k < x
above_all a b kept p q x m least k k_in = elim least.one [
  | inl e ↦ omega (
    arith,
    m.first_follows.ahead k k_in (slice_get_within a (length p) x e),
    get_or_from_slice_get a (length p) x 0 e,
  )
  | inr e ↦ omega (
    arith,
    m.second_follows.ahead k k_in (slice_get_within b (length q) x e),
    get_or_from_slice_get b (length q) x 0 e,
  )
]

-- so there are at most as many before it
pub short_of_next : (a b kept p q : List ℕ) (x : ℕ) → AreNodes a → AreNodes b → Merging a b kept p q →
    IsLeastNext a b (length p) (length q) x → length kept < NODES
short_of_next a b kept p q x nodes_a nodes_b m least =
    let short : length kept ≤ x = rises_short kept x m.rises (above_all a b kept p q x m least) in
    elim least.one [
      | inl e ↦ omega (
        arith,
        nodes_a.small (length p) (slice_get_within a (length p) x e),
        get_or_from_slice_get a (length p) x 0 e,
      )
      | inr e ↦ omega (
        arith,
        nodes_b.small (length q) (slice_get_within b (length q) x e),
        get_or_from_slice_get b (length q) x 0 e,
      )
    ]

-- the nodes of both are nodes
pub merged_nodes : (a b kept p q : List ℕ) → AreNodes a → AreNodes b → IsMerged a b kept p q → AreNodes kept
merged_nodes a b kept p q nodes_a nodes_b m = record {
  rises = m.rises;
  small = λ k k_in. elim (m.comes k k_in) [
    | inl (i, i_in, e) ↦ omega (
      arith,
      m.first_len,
      nodes_a.small i (omega (arith, m.first_len)),
      m.first_stands i (omega (arith, m.first_len)),
      ap (slice_index kept) e,
    )
    | inr (i, i_in, e) ↦ omega (
      arith,
      m.second_len,
      nodes_b.small i (omega (arith, m.second_len)),
      m.second_stands i (omega (arith, m.second_len)),
      ap (slice_index kept) e,
    )
  ];
}

pub few_nodes : (kept : List ℕ) → AreNodes kept → length kept ≤ NODES
few_nodes kept h = rises_short kept NODES h.rises h.small

-- and so they are few
pub merged_few : (a a1 b b1 kept p q : List ℕ) → a ≡ a1 → b ≡ b1 → AreNodes a1 → AreNodes b1 → IsMerged a b kept p q →
    length kept ≤ NODES
merged_few a a1 b b1 kept p q ea eb nodes_a nodes_b m =
    few_nodes kept (merged_nodes a b kept p q (subst AreNodes (sym ea) nodes_a) (subst AreNodes (sym eb) nodes_b) m)

module _ (a b kept p q p1 q1 : List ℕ) (x : ℕ) (rises_a : Rises a) (rises_b : Rises b) (m : Merging a b kept p q)
    (least : IsLeastNext a b (length p) (length q) x) (in_a : Advances a x (length kept) p p1)
    (in_b : Advances b x (length kept) q q1) where
  comes_old : (k : ℕ) → ComesFrom p q k → ComesFrom p1 q1 k
  comes_old k (inl (i, i_in, e)) = inl (
    i,
    omega (arith, advances_long a x (length kept) p p1 in_a),
    advances_same a x (length kept) p p1 i in_a i_in ∙ e,
  )
  comes_old k (inr (i, i_in, e)) = inr (
    i,
    omega (arith, advances_long b x (length kept) q q1 in_b),
    advances_same b x (length kept) q q1 i in_b i_in ∙ e,
  )

  comes_new : ComesFrom p1 q1 (length kept)
  comes_new = elim least.one [
    | inl e ↦ let w = advances_next a x (length kept) p p1 in_a e in inl (length p, omega (arith, w.0), w.1)
    | inr e ↦ let w = advances_next b x (length kept) q q1 in_b e in inr (length q, omega (arith, w.0), w.1)
  ]

  pub merging_step : Merging a b (kept ++ x ∷ []) p1 q1
  merging_step = record {
    rises = rises_push kept x m.rises (above_all a b kept p q x m least);
    first_follows = follows_step a kept p p1 x rises_a m.first_follows least.first in_a;
    second_follows = follows_step b kept q q1 x rises_b m.second_follows least.second in_b;
    comes = λ k k_in. elim (cases_lt k (length kept)) [
      | inl old ↦ comes_old k (m.comes k old)
      | inr last ↦
          let at : length kept ≡ k = omega (arith, length_push kept x) in
          subst (ComesFrom p1 q1) at comes_new
    ];
  }

  pub merging_smaller : (length a - length p1) + (length b - length q1) < (length a - length p) + (length b - length q)
  merging_smaller = elim least.one [
    | inl e ↦ omega (
      arith,
      (advances_next a x (length kept) p p1 in_a e).0,
      slice_get_within a (length p) x e,
      advances_long b x (length kept) q q1 in_b,
    )
    | inr e ↦ omega (
      arith,
      (advances_next b x (length kept) q q1 in_b e).0,
      slice_get_within b (length q) x e,
      advances_long a x (length kept) p p1 in_a,
    )
  ]

-- labels of the first list fit its places, under what is seen of them
pub first_fits : (a a1 b kept p q l p1 l1 : List ℕ) (n : ℕ) → IsMerged a b kept p q → a ≡ a1 → AreLabels (length a1) l →
    p1 ≡ p → l1 ≡ l → n ≡ length kept → LabelsFit p1 n l1
first_fits a a1 b kept p q l p1 l1 n m ea w ep el en =
    subst (λ z. LabelsFit z n l1) (sym ep) (subst (λ z. LabelsFit p z l1) (sym en)
    (subst (λ z. LabelsFit p (length kept) z) (sym el) (record {
      len = omega (arith, w.len, m.first_len, ap length ea);
      rises = m.first_rises;
      inside = λ k h. m.first_inside k (omega (arith, m.first_len));
      below = λ k h. w.below k (omega (arith, m.first_len, ap length ea));
    })))

-- so for the second list
pub second_fits : (a b b1 kept p q l q1 l1 : List ℕ) (n : ℕ) → IsMerged a b kept p q → b ≡ b1 → AreLabels (length b1) l →
    q1 ≡ q → l1 ≡ l → n ≡ length kept → LabelsFit q1 n l1
second_fits a b b1 kept p q l q1 l1 n m eb w eq el en =
    subst (λ z. LabelsFit z n l1) (sym eq) (subst (λ z. LabelsFit q z l1) (sym en)
    (subst (λ z. LabelsFit q (length kept) z) (sym el) (record {
      len = omega (arith, w.len, m.second_len, ap length eb);
      rises = m.second_rises;
      inside = λ k h. m.second_inside k (omega (arith, m.second_len));
      below = λ k h. w.below k (omega (arith, m.second_len, ap length eb));
    })))
