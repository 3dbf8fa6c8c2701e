-- What the labels and marks of a merged list say of the nodes.
use Rattle.std.proofs.Common.{◌≡◌, ℕ, ◌<◌, ◌⊎◌, ◌↔◌, Bool, true, List, [], ◌∷◌, length, slice_get, slice_index, Some}
use Rattle.std.proofs.Common.{refl, sym, ◌∙◌, ap, subst, inl, inr, arith}
use Rattle.std.proofs.lemmas.Bool.{cases_eq, cases_lt}
use Rattle.std.proofs.lemmas.Option.{slice_get_within, slice_get-get_or, get_or_from_slice_get}
use Rattle.station_graph.specs.Connection.{Linked, LeadsTo}
use Rattle.station_graph.specs.Classes.{LabelsLeast}
use Rattle.station_graph.proofs.LinkedLemmas.{linked_self, linked_one, linked_trans, linked_same}
use Rattle.station_graph.proofs.ClassesLemmas.{KeepsLabels, LabelsLeast-from_keeps, same_from_linked, linked_from_same}
use Rattle.contraction.specs.Answers.{IsAt, Keeps, SameAt, MarkedAt, AreLabels}
use Rattle.contraction.specs.Composing.{SameInEither, LabelsCompose, MarksCompose}
use Rattle.station_graph.specs.Nodes.{Rises}
use Rattle.contraction.specs.Merging.{IsMerged, EdgeBelow, EdgeOf, MarksClass, MarkedInEither}
use Rattle.contraction.proofs.EdgeLemmas.{edges_back}

-- an entry of a rising list stands at one place
pub one_place : (kept : List ℕ) → Rises kept → (j k n : ℕ) → IsAt kept j n → IsAt kept k n → j ≡ k
one_place kept rises j k n at_j at_k =
    let a = get_or_from_slice_get kept j n 0 at_j in
    let b = get_or_from_slice_get kept k n 0 at_k in
    elim (cases_lt j k) [
      | inl less ↦ absurd (omega (arith, rises j k less (slice_get_within kept k n at_k)))
      | inr more ↦ elim (cases_eq j k) [
        | inl e ↦ e
        | inr ne ↦ absurd (omega (arith, rises k j (omega arith) (slice_get_within kept j n at_j)))
      ]
    ]

pub is_at : (kept : List ℕ) (k n : ℕ) → k < length kept → slice_index kept k ≡ n → IsAt kept k n
is_at kept k n k_in e = slice_get-get_or kept k 0 k_in ∙ ap Some e

-- labels that an edge of both lists keeps are labels
pub AreLabels-from_keeps : (R : ℕ → ℕ → Type 0) (n : ℕ) (labels : List ℕ) → KeepsLabels R n labels → AreLabels n labels
AreLabels-from_keeps R n labels h = record {
  len = h.len;
  below = λ k k_in. h.below k;
  steady = λ k k_in. sym (linked_same R (λ i. slice_index labels i) h.along k (slice_index labels k) (h.linked k k_in));
}

module _ (a b kept p q : List ℕ) (m : IsMerged a b kept p q) (rises_a : Rises a) (rises_b : Rises b) (la lb : List ℕ)
    (labels_a : AreLabels (length a) la) (labels_b : AreLabels (length b) lb) where
  abbrev Edge : ℕ → ℕ → Type 0
  Edge = EdgeOf p la (length p) q lb (length q)

  abbrev Same : ℕ → ℕ → Type 0
  Same = SameInEither a la b lb

  -- the node of a place
  abbrev node : ℕ → ℕ
  node = slice_index kept

  same_label_in : (nodes labels : List ℕ) → AreLabels (length nodes) labels → (k : ℕ) → k < length nodes →
      SameAt nodes labels (slice_index nodes k) (slice_index nodes (slice_index labels k))
  same_label_in nodes labels h k k_in = record {
    first = k;
    second = slice_index labels k;
    at_first = is_at nodes k (slice_index nodes k) k_in refl;
    at_second =
        is_at nodes (slice_index labels k) (slice_index nodes (slice_index labels k))
        (omega (arith, h.below k k_in)) refl;
    same = sym (h.steady k k_in);
  }

  same_back : (nodes labels : List ℕ) (x y : ℕ) → SameAt nodes labels x y → SameAt nodes labels y x
  same_back nodes labels x y s = record {
    first = s.second;
    second = s.first;
    at_first = s.at_second;
    at_second = s.at_first;
    same = sym s.same;
  }

  -- an edge between places is one between their nodes
  edge_in : (nodes labels places : List ℕ) → AreLabels (length nodes) labels → length places ≡ length nodes →
      ((k : ℕ) → k < length nodes → slice_index kept (slice_index places k) ≡ slice_index nodes k) → (i j : ℕ) →
      EdgeBelow places labels (length places) i j →
      SameAt nodes labels (node i) (node j) ⊎ SameAt nodes labels (node j) (node i)
  edge_in nodes labels places h len stands i j e =
      let k : ℕ = e.entry in
      let k_in : k < length nodes = omega (arith, e.below) in
      let l : ℕ = slice_index labels k in
      let l_in : l < length nodes = omega (arith, h.below k k_in) in
      let s = same_label_in nodes labels h k k_in in
      let from : slice_index nodes k ≡ node (slice_index places k) = sym (stands k k_in) in
      let to : slice_index nodes l ≡ node (slice_index places l) = sym (stands l l_in) in
      let s1 : SameAt nodes labels (node (slice_index places k)) (node (slice_index places l)) =
      subst (λ x. SameAt nodes labels x (node (slice_index places l))) from
      (subst (λ y. SameAt nodes labels (slice_index nodes k) y) to s) in
      elim e.ends [
        | inl w ↦
            inl (subst (λ x. SameAt nodes labels (node x) (node j)) (sym w.0)
            (subst (λ y. SameAt nodes labels (node (slice_index places k)) (node y)) (sym w.1) s1))
        | inr w ↦
            inr (subst (λ x. SameAt nodes labels (node x) (node i)) (sym w.1)
            (subst (λ y. SameAt nodes labels (node (slice_index places k)) (node y)) (sym w.0) s1))
      ]

  same_from_edge : (i j : ℕ) → Edge i j → Same (node i) (node j)
  same_from_edge i j (inl e) = elim (edge_in a la p labels_a m.first_len m.first_stands i j e) [
    | inl s ↦ inl s
    | inr s ↦ inl (same_back a la (node j) (node i) s)
  ]
  same_from_edge i j (inr e) = elim (edge_in b lb q labels_b m.second_len m.second_stands i j e) [
    | inl s ↦ inr s
    | inr s ↦ inr (same_back b lb (node j) (node i) s)
  ]

  -- walks over places are walks over nodes
  nodes_lead : (i j : ℕ) (xs : List ℕ) → LeadsTo Edge i xs j → Linked Same (node i) (node j)
  nodes_lead i j [] e = subst (λ k. Linked Same (node i) (node k)) e (linked_self Same (node i))
  nodes_lead i j (x ∷ xs) l =
      linked_trans Same (node i) (node x) (node j) (linked_one Same (node i) (node x) (same_from_edge i x l.0))
      (nodes_lead x j xs l.1)

  pub nodes_linked : (i j : ℕ) → Linked Edge i j → Linked Same (node i) (node j)
  nodes_linked i j l = nodes_lead i j l.after l.leads

  -- two places whose entries have one label are linked
  links_in : (nodes labels places : List ℕ) → AreLabels (length nodes) labels → length places ≡ length nodes →
      ((i j : ℕ) → EdgeBelow places labels (length places) i j → Edge i j) → (k l : ℕ) → k < length nodes →
      l < length nodes → slice_index labels k ≡ slice_index labels l →
      Linked Edge (slice_index places k) (slice_index places l)
  links_in nodes labels places h len into k l k_in l_in same =
      let down : Edge (slice_index places k) (slice_index places (slice_index labels k)) =
      into (slice_index places k) (slice_index places (slice_index labels k))
      (record { entry = k; below = omega arith; ends = inl (refl, refl) }) in
      let up : Edge (slice_index places (slice_index labels l)) (slice_index places l) =
      into (slice_index places (slice_index labels l)) (slice_index places l)
      (record { entry = l; below = omega arith; ends = inr (refl, refl) }) in
      linked_trans Edge (slice_index places k) (slice_index places (slice_index labels k)) (slice_index places l)
      (linked_one Edge (slice_index places k) (slice_index places (slice_index labels k)) down)
      (subst (λ x. Linked Edge (slice_index places x) (slice_index places l)) (sym same)
      (linked_one Edge (slice_index places (slice_index labels l)) (slice_index places l) up))

  place_at : (nodes places : List ℕ) → length places ≡ length nodes →
      ((k : ℕ) → k < length nodes → slice_index places k < length kept) →
      ((k : ℕ) → k < length nodes → slice_index kept (slice_index places k) ≡ slice_index nodes k) → (k n : ℕ) →
      IsAt nodes k n → IsAt kept (slice_index places k) n
  place_at nodes places len inside stands k n at =
      let k_in = slice_get_within nodes k n at in
      is_at kept (slice_index places k) n (inside k k_in) (stands k k_in ∙ get_or_from_slice_get nodes k n 0 at)

  -- what has one label in one list is linked in the merged list
  places_same : (x y : ℕ) → Same x y → (i : ℕ) → IsAt kept i x → (j : ℕ) × IsAt kept j y × Linked Edge i j
  places_same x y (inl s) i at =
      let at_x = place_at a p m.first_len m.first_inside m.first_stands s.first x s.at_first in
      let at_y = place_at a p m.first_len m.first_inside m.first_stands s.second y s.at_second in
      let same_place : slice_index p s.first ≡ i = one_place kept m.rises (slice_index p s.first) i x at_x at in
      let l = links_in a la p labels_a m.first_len (λ i j e. inl e) s.first s.second
      (slice_get_within a s.first x s.at_first) (slice_get_within a s.second y s.at_second) s.same in
      (slice_index p s.second, at_y, subst (λ k. Linked Edge k (slice_index p s.second)) same_place l)
  places_same x y (inr s) i at =
      let at_x = place_at b q m.second_len m.second_inside m.second_stands s.first x s.at_first in
      let at_y = place_at b q m.second_len m.second_inside m.second_stands s.second y s.at_second in
      let same_place : slice_index q s.first ≡ i = one_place kept m.rises (slice_index q s.first) i x at_x at in
      let l = links_in b lb q labels_b m.second_len (λ i j e. inr e) s.first s.second
      (slice_get_within b s.first x s.at_first) (slice_get_within b s.second y s.at_second) s.same in
      (slice_index q s.second, at_y, subst (λ k. Linked Edge k (slice_index q s.second)) same_place l)

  places_lead : (x y : ℕ) (xs : List ℕ) → LeadsTo Same x xs y → (i : ℕ) → IsAt kept i x →
      (j : ℕ) × IsAt kept j y × Linked Edge i j
  places_lead x y [] e i at = (i, subst (IsAt kept i) e at, linked_self Edge i)
  places_lead x y (z ∷ xs) l i at =
      let s = places_same x z l.0 i at in
      let r = places_lead z y xs l.1 s.0 s.1 in
      (r.0, r.1, linked_trans Edge i s.0 r.0 s.2 r.2)

  -- THE LABELS OF THE EDGES ARE THOSE OF BOTH LISTS TOGETHER
  module _ (labels : List ℕ) (keeps : KeepsLabels Edge (length kept) labels) where
    least : LabelsLeast Edge (length kept) labels
    least = LabelsLeast-from_keeps Edge (length kept) labels keeps

    back : (i j : ℕ) → Edge i j → Edge j i
    back = edges_back p la q lb (length p) (length q)

    at_node : (k n : ℕ) → IsAt kept k n → node k ≡ n
    at_node k n at = get_or_from_slice_get kept k n 0 at

    pub labels_compose : LabelsCompose a la b lb kept labels
    labels_compose x y kx ky = (
      λ s.
          let i_in = slice_get_within kept s.first x s.at_first in
          let j_in = slice_get_within kept s.second y s.at_second in
          let l = nodes_linked s.first s.second
          (linked_from_same Edge (length kept) labels s.first s.second back least i_in j_in s.same) in
          subst (λ n. Linked Same n y) (at_node s.first x s.at_first)
          (subst (λ n. Linked Same (node s.first) n) (at_node s.second y s.at_second) l),
      λ l.
          let r = places_lead x y l.after l.leads kx.place kx.at in
          record {
            first = kx.place;
            second = r.0;
            at_first = kx.at;
            at_second = r.1;
            same =
                same_from_linked Edge (length kept) labels kx.place r.0 back least
                (slice_get_within kept kx.place x kx.at) (slice_get_within kept r.0 y r.1) r.2;
          },
    )

    -- the marks of the classes are those of both lists together
    module _ (ma mb marks : List Bool) (spread : (k : ℕ) → k < length kept → (slice_get marks k ≡ Some true) ↔
        MarkedInEither labels p ma (length p) q mb (length q) (slice_index labels k)) (fits_a : length ma ≡ length a)
        (fits_b : length mb ≡ length b) where
      -- a marked entry of one list, seen from a place in its class
      from_entry : (nodes places : List ℕ) (row : List Bool) → length places ≡ length nodes →
          ((k : ℕ) → k < length nodes → slice_index places k < length kept) →
          ((k : ℕ) → k < length nodes → slice_index kept (slice_index places k) ≡ slice_index nodes k) → (k : ℕ) →
          k < length kept → MarksClass places labels row (length places) (slice_index labels k) →
          (n : ℕ) × Linked Same (node k) n × MarkedAt nodes row n
      from_entry nodes places row len inside stands k k_in h =
          let e : ℕ = h.entry in
          let e_in : e < length nodes = omega (arith, h.below) in
          let i : ℕ = slice_index places e in
          let l = nodes_linked k i
          (linked_from_same Edge (length kept) labels k i back least k_in (inside e e_in) (sym h.stands)) in (
            slice_index nodes e,
            subst (λ n. Linked Same (node k) n) (stands e e_in) l,
            record { place = e; at = is_at nodes e (slice_index nodes e) e_in refl; marked = h.marked },
          )

      to_entry : (nodes places : List ℕ) (row : List Bool) → length places ≡ length nodes →
          ((k : ℕ) → k < length nodes → slice_index places k < length kept) →
          ((k : ℕ) → k < length nodes → slice_index kept (slice_index places k) ≡ slice_index nodes k) → (k j n : ℕ) →
          k < length kept → IsAt kept j n → Linked Edge k j → MarkedAt nodes row n →
          MarksClass places labels row (length places) (slice_index labels k)
      to_entry nodes places row len inside stands k j n k_in at l h =
          let at_n = place_at nodes places len inside stands h.place n h.at in
          let same_place : slice_index places h.place ≡ j =
          one_place kept m.rises (slice_index places h.place) j n at_n at in
          record {
            entry = h.place;
            below = omega (arith, slice_get_within nodes h.place n h.at);
            marked = h.marked;
            stands =
                ap (slice_index labels) same_place
                ∙ sym (same_from_linked Edge (length kept) labels k j back least k_in (slice_get_within kept j n at) l);
          }

      pub marks_compose : MarksCompose a la ma b lb mb kept marks
      marks_compose x kx = (
        λ h.
            let k_in = slice_get_within kept h.place x h.at in
            let is_x = at_node h.place x h.at in
            elim ((spread h.place k_in).0 h.marked) [
              | inl e ↦
                  let r = from_entry a p ma m.first_len m.first_inside m.first_stands h.place k_in e in
                  (r.0, subst (λ n. Linked Same n r.0) is_x r.1, inl r.2)
              | inr e ↦
                  let r = from_entry b q mb m.second_len m.second_inside m.second_stands h.place k_in e in
                  (r.0, subst (λ n. Linked Same n r.0) is_x r.1, inr r.2)
            ],
        λ (n, l, h).
            let k_in = slice_get_within kept kx.place x kx.at in
            let r = places_lead x n l.after l.leads kx.place kx.at in
            let marked : MarkedInEither labels p ma (length p) q mb (length q) (slice_index labels kx.place) =
            elim h [
              | inl e ↦ inl (to_entry a p ma m.first_len m.first_inside m.first_stands kx.place r.0 n k_in r.1 r.2 e)
              | inr e ↦ inr (to_entry b q mb m.second_len m.second_inside m.second_stands kx.place r.0 n k_in r.1 r.2 e)
            ] in
            record { place = kx.place; at = kx.at; marked = (spread kx.place k_in).1 marked },
      )

  -- the merged list keeps what either keeps
  pub kept_compose : (n : ℕ) → Keeps kept n ↔ (Keeps a n ⊎ Keeps b n)
  kept_compose n = (
    λ k.
        let k_in = slice_get_within kept k.place n k.at in
        let is_n = get_or_from_slice_get kept k.place n 0 k.at in
        elim (m.comes k.place k_in) [
          | inl (i, i_in, e) ↦
              inl (record {
                place = i;
                at =
                    is_at a i n (omega (arith, m.first_len))
                    (sym (m.first_stands i (omega (arith, m.first_len))) ∙ ap (slice_index kept) e ∙ is_n);
              })
          | inr (i, i_in, e) ↦
              inr (record {
                place = i;
                at =
                    is_at b i n (omega (arith, m.second_len))
                    (sym (m.second_stands i (omega (arith, m.second_len))) ∙ ap (slice_index kept) e ∙ is_n);
              })
        ],
    λ h. elim h [
      | inl k ↦ record {
        place = slice_index p k.place;
        at = place_at a p m.first_len m.first_inside m.first_stands k.place n k.at;
      }
      | inr k ↦ record {
        place = slice_index q k.place;
        at = place_at b q m.second_len m.second_inside m.second_stands k.place n k.at;
      }
    ],
  )
