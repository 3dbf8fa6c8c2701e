-- Rows of fewer places.
use Rattle.std.proofs.Common.{◌≡◌, ℕ, ◌<◌, ◌≤◌, ◌↔◌, Bool, true, List, length, slice_get, slice_index, Some, sym, ◌∙◌}
use Rattle.std.proofs.Common.{ap, subst, arith}
use Rattle.std.proofs.lemmas.Option.{slice_get_within, slice_get-get_or, get_or_from_slice_get}
use Rattle.std.specs.Prelude.{Contains}
use Rattle.station_graph.specs.declared.limits.TheConstants.{NODES}
use Rattle.station_graph.specs.Nodes.{Rises}
use Rattle.contraction.specs.Answers.{Answers, IsAt, Keeps, SameAt, MarkedAt, AreLabels, AreNodes, IsContraction}
use Rattle.contraction.specs.Inside.{answers_of}
use Rattle.contraction.specs.declared.row.Row.{Row}
use Rattle.contraction.specs.declared.value.Contraction.TheInside.{Inside}
use Rattle.contraction.specs.Restricting.{LabelsRestrict, Picks, PlacesOf, RowRestricts}
use Rattle.contraction.proofs.MergeLemmas.{rises_short, few_nodes}
use Rattle.contraction.specs.Composing.{Restricts}
use Rattle.contraction.proofs.ValueLemmas.{one_place}

-- What rows of fewer places say of the nodes.
module _ (kept nodes places : List ℕ) (rises_kept : Rises kept) (p : Picks kept places nodes) where
  at_place : (k n : ℕ) → IsAt nodes k n → IsAt kept (slice_index places k) n
  at_place k n at =
      let k_in : k < length places = omega (arith, slice_get_within nodes k n at, p.len) in
      sym (p.told k k_in) ∙ at

  pub labels_restricted : (labels row : List ℕ) → LabelsRestrict labels places row → (a b : ℕ) → Keeps nodes a →
      Keeps nodes b → SameAt nodes row a b ↔ SameAt kept labels a b
  labels_restricted labels row h a b ka kb = (
    λ s.
        let i_in : s.first < length places = omega (arith, slice_get_within nodes s.first a s.at_first, p.len) in
        let j_in : s.second < length places = omega (arith, slice_get_within nodes s.second b s.at_second, p.len) in
        record {
          first = slice_index places s.first;
          second = slice_index places s.second;
          at_first = at_place s.first a s.at_first;
          at_second = at_place s.second b s.at_second;
          same = (h.same s.first s.second i_in j_in).0 s.same;
        },
    λ s.
        let i_in : ka.place < length places = omega (arith, slice_get_within nodes ka.place a ka.at, p.len) in
        let j_in : kb.place < length places = omega (arith, slice_get_within nodes kb.place b kb.at, p.len) in
        let ea : slice_index places ka.place ≡ s.first =
        one_place kept rises_kept (slice_index places ka.place) s.first a (at_place ka.place a ka.at) s.at_first in
        let eb : slice_index places kb.place ≡ s.second =
        one_place kept rises_kept (slice_index places kb.place) s.second b (at_place kb.place b kb.at) s.at_second in
        record {
          first = ka.place;
          second = kb.place;
          at_first = ka.at;
          at_second = kb.at;
          same =
              (h.same ka.place kb.place i_in j_in).1
              (ap (slice_index labels) ea ∙ s.same ∙ ap (slice_index labels) (sym eb));
        },
  )

  pub marks_restricted : (marks row : List Bool) → Picks marks places row → (a : ℕ) → Keeps nodes a →
      MarkedAt nodes row a ↔ MarkedAt kept marks a
  marks_restricted marks row h a ka = (
    λ m.
        let i_in : m.place < length places = omega (arith, slice_get_within nodes m.place a m.at, p.len) in
        record {
          place = slice_index places m.place;
          at = at_place m.place a m.at;
          marked = sym (h.told m.place i_in) ∙ m.marked;
        },
    λ m.
        let i_in : ka.place < length places = omega (arith, slice_get_within nodes ka.place a ka.at, p.len) in
        let e : slice_index places ka.place ≡ m.place =
        one_place kept rises_kept (slice_index places ka.place) m.place a (at_place ka.place a ka.at) m.at in
        record { place = ka.place; at = ka.at; marked = h.told ka.place i_in ∙ ap (slice_get marks) e ∙ m.marked },
  )

-- The rows of a restriction.
pub record RestrictSteps (nodes : List ℕ) (c r : Answers) (places : List ℕ) : Type 0 where
  pub places_of : PlacesOf nodes c.kept places
  pub kept : Picks c.kept places r.kept
  pub coupled : LabelsRestrict c.coupled places r.coupled
  pub joined : LabelsRestrict c.joined places r.joined
  pub bonded : LabelsRestrict c.bonded places r.bonded
  pub energisable : Picks c.energisable places r.energisable
  pub earthable : Picks c.earthable places r.earthable
  pub fed : Picks c.fed places r.fed
  pub loaded : Picks c.loaded places r.loaded

labels_again : (n : ℕ) (places labels row : List ℕ) → n ≡ length places → LabelsRestrict labels places row →
    AreLabels n row
labels_again n places labels row e h = subst (λ k. AreLabels k row) (sym e) h.are_labels

module _ (nodes : List ℕ) (c r : Answers) (places : List ℕ) (w : IsContraction c)
    (s : RestrictSteps nodes c r places) where
  rises : Rises c.kept
  rises = w.nodes.rises

  -- the entry of a place
  entry : (k : ℕ) → k < length places → slice_index r.kept k ≡ slice_index c.kept (slice_index places k)
  entry k k_in =
      let inside : slice_index places k < length c.kept = s.places_of.below k k_in in
      get_or_from_slice_get r.kept k (slice_index c.kept (slice_index places k)) 0
      (s.kept.told k k_in ∙ slice_get-get_or c.kept (slice_index places k) 0 inside)

  pub restricted_nodes : AreNodes r.kept
  restricted_nodes = record {
    rises = λ j k less k_in.
        let k_at : k < length places = omega (arith, s.kept.len) in
        let j_at : j < length places = omega arith in
        let up : slice_index places j < slice_index places k = s.places_of.rises j k less k_at in
        omega (
          arith,
          entry j j_at,
          entry k k_at,
          rises (slice_index places j) (slice_index places k) up (s.places_of.below k k_at),
        );
    small = λ k k_in.
        let k_at : k < length places = omega (arith, s.kept.len) in
        omega (arith, entry k k_at, w.nodes.small (slice_index places k) (s.places_of.below k k_at));
  }

  pub restricted_kept : ((n : ℕ) → Contains nodes n → Keeps c.kept n) → (n : ℕ) → Keeps r.kept n ↔ Contains nodes n
  restricted_kept inside n = (
    λ k.
        let k_at : k.place < length places = omega (arith, slice_get_within r.kept k.place n k.at, s.kept.len) in
        let is_n : slice_index c.kept (slice_index places k.place) ≡ n =
        sym (entry k.place k_at) ∙ get_or_from_slice_get r.kept k.place n 0 k.at in
        subst (λ m. Contains nodes m) is_n (s.places_of.named k.place k_at),
    λ has.
        let k = inside n has in
        let p_in : k.place < length c.kept = slice_get_within c.kept k.place n k.at in
        let is_n : slice_index c.kept k.place ≡ n = get_or_from_slice_get c.kept k.place n 0 k.at in
        let (j, j_in, at) = s.places_of.found k.place p_in (subst (λ m. Contains nodes m) (sym is_n) has) in
        record { place = j; at = s.kept.told j j_in ∙ ap (slice_get c.kept) at ∙ k.at },
  )

  pub restricted : Restricts c r
  restricted = record {
    kept = λ n k.
        let k_at : k.place < length places = omega (arith, slice_get_within r.kept k.place n k.at, s.kept.len) in
        record { place = slice_index places k.place; at = sym (s.kept.told k.place k_at) ∙ k.at };
    coupled = labels_restricted c.kept r.kept places rises s.kept c.coupled r.coupled s.coupled;
    joined = labels_restricted c.kept r.kept places rises s.kept c.joined r.joined s.joined;
    bonded = labels_restricted c.kept r.kept places rises s.kept c.bonded r.bonded s.bonded;
    energisable = marks_restricted c.kept r.kept places rises s.kept c.energisable r.energisable s.energisable;
    earthable = marks_restricted c.kept r.kept places rises s.kept c.earthable r.earthable s.earthable;
    fed = marks_restricted c.kept r.kept places rises s.kept c.fed r.fed s.fed;
    loaded = marks_restricted c.kept r.kept places rises s.kept c.loaded r.loaded s.loaded;
  }

  pub restricted_well : IsContraction r
  restricted_well =
      let len : length r.kept ≡ length places = s.kept.len in
      record {
        nodes = restricted_nodes;
        coupled = labels_again (length r.kept) places c.coupled r.coupled len s.coupled;
        joined = labels_again (length r.kept) places c.joined r.joined len s.joined;
        bonded = labels_again (length r.kept) places c.bonded r.bonded len s.bonded;
        energisable = s.energisable.len ∙ sym len;
        earthable = s.earthable.len ∙ sym len;
        fed = s.fed.len ∙ sym len;
        loaded = s.loaded.len ∙ sym len;
        fed_loaded = λ k e.
            let k_in : k < length places = omega (arith, slice_get_within r.fed k true e, s.fed.len) in
            s.loaded.told k k_in ∙ w.fed_loaded (slice_index places k) (sym (s.fed.told k k_in) ∙ e);
      }

picks_at : {X : Type 0} (l l1 : List X) (p p1 : List ℕ) (row : List X) → l ≡ l1 → p ≡ p1 → Picks l p row →
    Picks l1 p1 row
picks_at l l1 p p1 row el ep h = subst (λ x. Picks x p1 row) el (subst (λ x. Picks l x row) ep h)

pub row_restricts_at : (l : Row) (p p1 : List ℕ) (row : Row) → p ≡ p1 → RowRestricts l p row → RowRestricts l p1 row
row_restricts_at l p p1 row ep h = subst (λ x. RowRestricts l x row) ep h

labels_restrict_at : (l l1 p p1 row : List ℕ) → l ≡ l1 → p ≡ p1 → LabelsRestrict l p row → LabelsRestrict l1 p1 row
labels_restrict_at l l1 p p1 row el ep h =
    subst (λ x. LabelsRestrict x p1 row) el (subst (λ x. LabelsRestrict l x row) ep h)

-- The steps of `keep_only`, of which the slices are seen.
pub record Kept (nodes : List ℕ) (x : Inside) (places kept : List ℕ) (gap load : Row)
    (bonded named seen_kept all_kept p1 p2 p3 seen_bonded p4 : List ℕ) : Type 0 where
  pub names : named ≡ nodes
  pub kept_seen : seen_kept ≡ x.kept
  pub places_of : PlacesOf named seen_kept places
  pub all_seen : all_kept ≡ x.kept
  pub places1 : p1 ≡ places
  pub picks : Picks all_kept p1 kept
  pub places2 : p2 ≡ places
  pub gap_row : RowRestricts x.gap p2 gap
  pub places3 : p3 ≡ places
  pub load_row : RowRestricts x.load p3 load
  pub bonded_seen : seen_bonded ≡ x.bonded
  pub places4 : p4 ≡ places
  pub bonded_row : LabelsRestrict seen_bonded p4 bonded

module _ (nodes : List ℕ) (x : Inside) (places kept : List ℕ) (gap load : Row)
    (bonded named seen_kept all_kept p1 p2 p3 seen_bonded p4 : List ℕ)
    (m : Kept nodes x places kept gap load bonded named seen_kept all_kept p1 p2 p3 seen_bonded p4) where
  abbrev fewer : Answers
  fewer = record {
    kept = kept;
    coupled = gap.labels;
    joined = load.labels;
    bonded = bonded;
    energisable = gap.first.items;
    earthable = gap.second.items;
    fed = load.first.items;
    loaded = load.second.items;
  }

  pub steps_kept : RestrictSteps nodes (answers_of x) fewer places
  steps_kept =
      let g : RowRestricts x.gap places gap = row_restricts_at x.gap p2 places gap m.places2 m.gap_row in
      let l : RowRestricts x.load places load = row_restricts_at x.load p3 places load m.places3 m.load_row in
      record {
        places_of =
            subst (λ n. PlacesOf n x.kept places) m.names
            (subst (λ k. PlacesOf named k places) m.kept_seen m.places_of);
        kept = picks_at all_kept x.kept p1 places kept m.all_seen m.places1 m.picks;
        coupled = g.labels;
        joined = l.labels;
        bonded = labels_restrict_at seen_bonded x.bonded p4 places bonded m.bonded_seen m.places4 m.bonded_row;
        energisable = g.first;
        earthable = g.second;
        fed = l.first;
        loaded = l.second;
      }

-- rising places in a list are no more than its entries
pub few_places : (nodes named kept seen places p : List ℕ) → p ≡ places → seen ≡ kept → AreNodes kept →
    PlacesOf named seen places → length p ≤ NODES
few_places nodes named kept seen places p ep ek w h =
    let short : length places ≤ length seen = rises_short places (length seen) h.rises h.below in
    omega (arith, few_nodes kept w, ap length ep, ap length ek)

-- what a value says of two nodes or of one, from its places
pub same_at_places : (kept labels : List ℕ) (i j a b : ℕ) → Rises kept → IsAt kept i a → IsAt kept j b →
    SameAt kept labels a b → slice_index labels i ≡ slice_index labels j
same_at_places kept labels i j a b rises at_i at_j s =
    ap (slice_index labels) (one_place kept rises i s.first a at_i s.at_first) ∙ s.same
    ∙ ap (slice_index labels) (one_place kept rises s.second j b s.at_second at_j)

pub marked_at_place : (kept : List ℕ) (marks : List Bool) (i a : ℕ) → Rises kept → IsAt kept i a →
    MarkedAt kept marks a → slice_get marks i ≡ Some true
marked_at_place kept marks i a rises at m = ap (slice_get marks) (one_place kept rises i m.place a at m.at) ∙ m.marked
