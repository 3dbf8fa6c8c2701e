-- A remark is said of exactly the elements that get it.
use Rattle.std.proofs.Common.{◌≡◌, ◌↔◌, ℕ, ◌<◌, List, [], ◌∷◌, length, take, get_or, Option, Some, None, Bool, true, false}
use Rattle.std.proofs.Common.{◌&&◌, ◌==◌, cond, Ok, refl, arith, zero, suc, ap, ◌∙◌, subst}
use Rattle.std.specs.List.{slice_get, filter}
use Rattle.std.specs.Option.{option_map_or}
use Rattle.std.proofs.lemmas.List.{length-map}
use borrow.Author.Tests.{eqb-true}
use Rattle.station_graph.specs.Diagram.{Diagram, IsStation, node_count}
use Rattle.station_graph.specs.Connection.{Touching}
use Rattle.station_graph.specs.Classes.{LabelsLeast}
use Rattle.ssd_read.specs.Elements.{Element, element_at}
use Rattle.ssd_read.specs.Names.{is_node}
use Rattle.ssd_read.specs.Ends.{ends_of, nodes_at}
use Rattle.ssd_read.specs.Laws.{path_of}
use Rattle.ssd_read.specs.StandsFor.{station_of}
use Rattle.station_lines.proofs.NodeLemmas.{nodes_are, own_nodes}
use Rattle.drawing_remarks.specs.declared.kinds.RemarkKind.TheVariants.{NoSwitch, NoInfeed, PassedOver, UnknownType}
use Rattle.drawing_remarks.specs.declared.kinds.RemarkKind.TheVariants.{TypeCase, Grounded, NoBond, LoneInfeed, Winding}
use Rattle.drawing_remarks.specs.declared.kinds.RemarkKind.TheVariants.{EarthName, LooseEnd, Apart, TwoNodes}
use Rattle.drawing_remarks.specs.Drawn.{equipment_use, is_infeed_use}
use Rattle.drawing_remarks.specs.Station.{all_in, has_no_switch, has_no_infeed, node_number, IsLoneInfeed, IsApart}
use Rattle.drawing_remarks.specs.Labels.{is_said, lone_by, apart_by}
use Rattle.drawing_remarks.specs.StationText.{SaysRemarks}
use Rattle.drawing_remarks.proofs.JoinLemmas.{both_true, and_true, lone_said, lone_is_said, apart_said, apart_is_said}

-- ---- at the root

at_root : (i : ℕ) (b : Bool) → ((i == 0) && b) ≡ true ↔ ((i ≡ 0) × (b ≡ true))
at_root i b = (
  λ h. let both = both_true (i == 0) b h in (eqb-true i 0 both.0, both.1),
  λ h. and_true (i == 0) b (ap (λ k. k == 0) h.0) h.1,
)

-- ---- the number of a node

counts : {X : Type 0} (b : Bool) (x : X) (xs ys : List X) → length xs < length ys →
    length (cond b (x ∷ xs) xs) < length (cond b (x ∷ ys) ys)
counts true x xs ys h = omega arith
counts false x xs ys h = omega arith

first_counts : {X : Type 0} (b : Bool) (x : X) (xs : List X) → b ≡ true → 0 < length (cond b (x ∷ xs) xs)
first_counts true x xs h = omega arith
first_counts false x xs h = absurd (cc)

pub number_below : (all : List Element) (i : ℕ) → i < length all → is_node (element_at all i) ≡ true →
    node_number all i < length (filter is_node all)
number_below [] i h t = absurd (omega arith)
number_below (x ∷ xs) zero h t = first_counts (is_node x) x (filter is_node xs) t
number_below (x ∷ xs) (suc i) h t =
    counts (is_node x) x (filter is_node (take i xs)) (filter is_node xs) (number_below xs i (omega arith) t)

pub number_in : (all : List Element) (d : Diagram) (i : ℕ) → station_of all ≡ Ok d → i < length all →
    is_node (element_at all i) ≡ true → node_number all i < node_count d
number_in all d i stands h t =
    let count : node_count d ≡ length (filter is_node all) =
    ap length (nodes_are all d stands) ∙ length-map (filter is_node all) path_of in
    let below = number_below all i h t in
    omega (arith, count, below)

pub first_node : (all : List Element) (d : Diagram) (i n : ℕ) → station_of all ≡ Ok d →
    slice_get (nodes_at (ends_of all i)) 0 ≡ Some n → n < node_count d
first_node all d i n stands e = by (nodes_at (ends_of all i)) e (own_nodes all i d stands)
  where
    by : (ns : List ℕ) → slice_get ns 0 ≡ Some n → ((k : ℕ) → k < length ns → get_or ns k 0 < node_count d) →
        n < node_count d
    by [] e h = absurd (cc)
    by (m ∷ ms) e h =
        let same : m ≡ n = cc in
        subst (λ k. k < node_count d) same (h 0 (omega arith))

-- ---- each kind

module _ (all : List Element) (d : Diagram) (linked joined : List ℕ) (stands : station_of all ≡ Ok d)
    (station : IsStation d)
    (links : LabelsLeast (Touching false d (all_in false d)) (node_count d) linked)
    (items : LabelsLeast (Touching false d (all_in true d)) (node_count d) joined) where
  first_in : (i n : ℕ) → slice_get (nodes_at (ends_of all i)) 0 ≡ Some n → n < node_count d
  first_in i n e = by (nodes_at (ends_of all i)) e (own_nodes all i d stands)
    where
      by : (ns : List ℕ) → slice_get ns 0 ≡ Some n → ((k : ℕ) → k < length ns → get_or ns k 0 < node_count d) →
          n < node_count d
      by [] e h = absurd (cc)
      by (m ∷ ms) e h =
          let same : m ≡ n = cc in
          subst (λ k. k < node_count d) same (h 0 (omega arith))

  lone_case : (i : ℕ) (o : Option ℕ) → slice_get (nodes_at (ends_of all i)) 0 ≡ o →
      is_infeed_use (equipment_use (element_at all i)) ≡ true → option_map_or (lone_by linked d) o false ≡ true →
      IsLoneInfeed all d i
  lone_case i None e infeed h = absurd (cc)
  lone_case i (Some n) e infeed h = record {
    infeed = infeed;
    node = n;
    first = e;
    lone = lone_said d station linked links n (first_in i n e) h;
  }

  lone_infeed : (i : ℕ) → (is_infeed_use (equipment_use (element_at all i))
      && option_map_or (lone_by linked d) (slice_get (nodes_at (ends_of all i)) 0) false) ≡ true ↔ IsLoneInfeed all d i
  lone_infeed i = (
    λ h. let both = both_true (is_infeed_use (equipment_use (element_at all i)))
        (option_map_or (lone_by linked d) (slice_get (nodes_at (ends_of all i)) 0) false) h in
        lone_case i (slice_get (nodes_at (ends_of all i)) 0) refl both.0 both.1,
    λ r. and_true (is_infeed_use (equipment_use (element_at all i)))
        (option_map_or (lone_by linked d) (slice_get (nodes_at (ends_of all i)) 0) false) r.infeed
        (ap (λ (o : Option ℕ). option_map_or (lone_by linked d) o false) r.first
        ∙ lone_is_said d station linked links r.node (first_in i r.node r.first) r.lone),
  )

  apart_node : (i : ℕ) → i < length all →
      (is_node (element_at all i) && apart_by joined (node_number all i)) ≡ true ↔ IsApart all d i
  apart_node i l = (
    λ h. let both = both_true (is_node (element_at all i)) (apart_by joined (node_number all i)) h in
        let apart = apart_said d joined items (node_number all i) (number_in all d i stands l both.0) both.1 in
        record { node = both.0; later = apart.0; apart = apart.1 },
    λ r. and_true (is_node (element_at all i)) (apart_by joined (node_number all i)) r.node
        (apart_is_said d joined items (node_number all i) (number_in all d i stands l r.node) r.later r.apart),
  )

  pub said_exactly : SaysRemarks all d (is_said all d linked joined)
  said_exactly NoSwitch i l = at_root i (has_no_switch d)
  said_exactly NoInfeed i l = at_root i (has_no_infeed d)
  said_exactly PassedOver i l = (λ h. h, λ h. h)
  said_exactly UnknownType i l = (λ h. h, λ h. h)
  said_exactly TypeCase i l = (λ h. h, λ h. h)
  said_exactly Grounded i l = (λ h. h, λ h. h)
  said_exactly NoBond i l = (λ h. h, λ h. h)
  said_exactly LoneInfeed i l = lone_infeed i
  said_exactly Winding i l = (λ h. h, λ h. h)
  said_exactly EarthName i l = (λ h. h, λ h. h)
  said_exactly LooseEnd i l = (λ h. h, λ h. h)
  said_exactly Apart i l = apart_node i l
  said_exactly TwoNodes i l = (λ h. h, λ h. h)
