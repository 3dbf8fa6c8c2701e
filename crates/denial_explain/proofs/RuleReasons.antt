-- What a broken rule gives: what is energised, earthed, live and loaded.
use Rattle.std.proofs.Common.{◌≡◌, ◌≢◌, ◌↔◌, ℕ, ◌<◌, ◌≤◌, ◌⊎◌, zero, suc, Bool, true, false, List, [], ◌∷◌, length}
use Rattle.std.proofs.Common.{Contains, slice_get, Some, None, refl, sym, ◌∙◌, ap, subst, inl, inr, arith, length-set}
use Rattle.std.proofs.lemmas.Bool.{cases_lt}
use Rattle.std.proofs.lemmas.List.{get_or-set_same}
use Rattle.std.proofs.lemmas.Option.{slice_get_within, slice_get-get_or, slice_get_cases}
use Rattle.ilk_base.specs.declared.words.Kind.{Kind}
use Rattle.ilk_base.specs.declared.words.Kind.TheVariants.{Breaker, Disconnector, Earthing, Infeed}
use Rattle.ilk_base.specs.declared.words.Rule.TheVariants.{R2, R3}
use Rattle.ilk_base.specs.declared.words.Op.{Op}
use Rattle.ilk_base.specs.declared.words.NodeId.{NodeId}
use Rattle.station_graph.specs.declared.items.Switch.{Switch}
use Rattle.station_graph.specs.declared.items.Tap.{Tap}
use Rattle.station_graph.specs.Diagram.{Diagram, IsStation, IsTwoEnded, HasTap, node_count}
use Rattle.station_graph.specs.Sharing.{Touches}
use Rattle.station_graph.specs.Connection.{Item, a_switch, a_link, a_tap, AnyItem, ItemBetween, Touching, LeadsTo}
use Rattle.station_graph.specs.Connection.{Linked, Joined, Bonded, Coupled, with_breakers_closed}
use Rattle.station_graph.specs.Supply.{ClosedAt, Quiet, Energisable, Earthable}
use Rattle.station_graph.specs.CentralRules.{before, after, Moves, BreaksLoad, GapCarriesLoad, Applies}
use Rattle.station_graph.specs.CentralRules.{Breaks}
use Rattle.station_graph.specs.Classes.{LabelsLeast}
use Rattle.station_graph.proofs.LinkedLemmas.{linked_self, linked_weaker}
use Rattle.station_graph.proofs.PositionLemmas.{slice_get-set_other, close_breakers_at}
use Rattle.station_graph.proofs.TouchLemmas.{touching_touches_end}
use Rattle.station_graph.proofs.PartialEdges.{touching_back, second_fits}
use Rattle.station_graph.proofs.ClassesLemmas.{same_from_linked, linked_from_same}
use Rattle.station_graph.proofs.Decided.{linked_or_not}
use Rattle.station_graph.proofs.PathLemmas.{Contains-from_slice_get}
use Rattle.station_graph.specs.Nodes.{Rises}
use Rattle.denial_explain.specs.Ways.{AllBelow}
use Rattle.denial_explain.specs.Chains.{LeadsToTap}
use Rattle.denial_explain.specs.SameClass.{IsClassOf}
use Rattle.denial_explain.specs.Explained.{LeadsLive, Explains}
use Rattle.denial_explain.specs.declared.chain.Chain.{Chain}

-- one switch is moved
one_moved : (d : Diagram) (op : Op) (x y : Switch) → Moves d op x → Moves d op y → x ≡ y
one_moved d op x y at_x at_y = cc (at_x, at_y)

not_two_ended : (k : Kind) → k ≡ Infeed → ¬ IsTwoEnded k
not_two_ended Breaker e = cc e
not_two_ended Disconnector e = cc e
not_two_ended Earthing e = λ t. absurd t
not_two_ended Infeed e = λ t. absurd t

module _ (d : Diagram) (v : List Bool) (op : Op) (x : Switch) (moves : Moves d op x) (infeed : x.kind ≡ Infeed) where
  apart : (i : ℕ) → i ≢ op.switch.0 → slice_get (before v op) i ≡ slice_get (after v op) i
  apart i ne = slice_get-set_other v op.switch.0 i false ne ∙ sym (slice_get-set_other v op.switch.0 i true ne)

  another : (i : ℕ) (y : Switch) → slice_get d.switches i ≡ Some y → y.kind ≢ Infeed → i ≢ op.switch.0
  another i y listed other e =
      let same : y ≡ x = cc (listed, moves, e) in
      other (ap (λ (z : Switch). z.kind) same ∙ infeed)

  between_after : (item : Item) (a b : ℕ) → ItemBetween false d (with_breakers_closed d (before v op)) item a b →
      ItemBetween false d (with_breakers_closed d (after v op)) item a b
  between_after (a_switch i) a b h =
      let ne = another i h.switch h.listed (λ e. not_two_ended h.switch.kind e h.two_ended) in
      record {
        switch = h.switch;
        second = h.second;
        listed = h.listed;
        two_ended = h.two_ended;
        has_second = h.has_second;
        closed = sym (close_breakers_at d.switches (before v op) (after v op) i (apart i ne)) ∙ h.closed;
        ends = h.ends;
      }
  between_after (a_link i) a b h = h
  between_after (a_tap i) a b h = h

  -- an infeed joins nothing, so what is coupled with it open is coupled with it closed
  coupled_after : (a b : ℕ) → Coupled d (before v op) a b → Coupled d (after v op) a b
  coupled_after = linked_weaker (Touching false d (with_breakers_closed d (before v op)))
      (Touching false d (with_breakers_closed d (after v op)))
      (λ a b t. record { item = t.item; among = t.among; between = between_after t.item a b t.between })

  earthed_after : (n : ℕ) → ClosedAt d (before v op) Earthing n → ClosedAt d (after v op) Earthing n
  earthed_after n h =
      let ne = another h.number h.switch h.listed (λ e. let k = h.is_kind in cc) in
      record {
        number = h.number;
        switch = h.switch;
        listed = h.listed;
        is_kind = h.is_kind;
        closed = sym (apart h.number ne) ∙ h.closed;
        stands = h.stands;
      }

  earthable_after : (n : ℕ) → Earthable d (before v op) n → Earthable d (after v op) n
  earthable_after n (m, coupled, at) = (m, coupled_after n m coupled, earthed_after m at)

  -- the infeed itself is closed
  fed_after : length v ≡ length d.switches → Energisable d (after v op) x.first.0
  fed_after whole =
      let within : op.switch.0 < length v = omega (arith, whole, slice_get_within d.switches op.switch.0 x moves) in
      let within_after : op.switch.0 < length (after v op) = omega (arith, within, length-set v op.switch.0 true) in
      let closed : slice_get (after v op) op.switch.0 ≡ Some true =
      slice_get-get_or (after v op) op.switch.0 false within_after
      ∙ ap Some (get_or-set_same v op.switch.0 true false within) in (
        x.first.0,
        linked_self (Touching false d (with_breakers_closed d (after v op))) x.first.0,
        record {
          number =
              op.switch.0;
          switch = x;
          listed = moves;
          is_kind = infeed;
          closed = closed;
          stands = refl;
        },
      )

-- with the operation done the first node is energisable and earthable
pub closing_both : (d : Diagram) (v : List Bool) (op : Op) (x : Switch) → length v ≡ length d.switches → Moves d op x →
    Applies R2 d v op → Energisable d (after v op) x.first.0 × Earthable d (after v op) x.first.0
closing_both d v op x whole moves (inl closing) =
    subst (λ (y : Switch). Energisable d (after v op) y.first.0 × Earthable d (after v op) y.first.0)
    (one_moved d op closing.switch x closing.moves moves) (closing.energisable, closing.earthable)
closing_both d v op x whole moves (inr feeding) =
    let same = one_moved d op feeding.switch x feeding.moves moves in
    let infeed = subst (λ (y : Switch). y.kind ≡ Infeed) same feeding.is_infeed in
    let earthable = subst (λ (y : Switch). Earthable d (before v op) y.first.0) same feeding.earthable in
    (fed_after d v op x moves infeed whole, earthable_after d v op x moves infeed x.first.0 earthable)

-- a touched node is a node of the station
touched_in : (d : Diagram) → IsStation d → (item : Item) (n : ℕ) → Touches d item n → n < node_count d
touched_in d station (a_switch i) n (x, listed, inl first) =
    rw (← first) (station.items.switches_fit i x listed).first_in
touched_in d station (a_switch i) n (x, listed, inr (m, second, is)) =
    rw (← is) (second_fits d x m (station.items.switches_fit i x listed) second).1
touched_in d station (a_link i) n (x, listed, inl first) = rw (← first) (station.items.links_fit i x listed).first_in
touched_in d station (a_link i) n (x, listed, inr second) = rw (← second) (station.items.links_fit i x listed).second_in
touched_in d station (a_tap i) n (x, listed, is) = rw (← is) (station.items.taps_fit i x listed).node_in

leads_in : (bonds_only : Bool) (d : Diagram) (v : List Bool) → IsStation d → (a : ℕ) (after : List ℕ) (b : ℕ) →
    a < node_count d → LeadsTo (Touching bonds_only d v) a after b → b < node_count d
leads_in bonds_only d v station a [] b a_in leads = rw (← leads) a_in
leads_in bonds_only d v station a (c ∷ after) b a_in leads =
    let touched = touching_touches_end AnyItem bonds_only d v a c leads.0 in
    leads_in bonds_only d v station c after b (touched_in d station touched.item c touched.touches) leads.1

-- what is linked to a node of the station is one
linked_in : (bonds_only : Bool) (d : Diagram) (v : List Bool) → IsStation d → (a b : ℕ) → a < node_count d →
    Linked (Touching bonds_only d v) a b → b < node_count d
linked_in bonds_only d v station a b a_in l = leads_in bonds_only d v station a l.after b a_in l.leads

-- the element at a place that is within the list
element : {X : Type 0} (xs : List X) (i : ℕ) → i < length xs → (x : X) × (slice_get xs i ≡ Some x)
element xs i h = elim ((slice_get_cases xs i).1) [ inl w ↦ (w.0, w.2) | inr w ↦ absurd (omega (arith, w.0)) ]

module _ (d : Diagram) (station : IsStation d) (v : List Bool) (whole : length v ≡ length d.switches) (n : ℕ)
    (n_in : n < node_count d) where
  abbrev Tapped : Type 0
  Tapped = (m : ℕ) × Joined d v n m × HasTap d m

  abbrev NoneBelow : ℕ → Type 0
  NoneBelow k = (i : ℕ) (x : Tap) → i < k → slice_get d.taps i ≡ Some x → ¬ Joined d v n x.node.0

  tap_below : (k : ℕ) → k ≤ length d.taps → Tapped ⊎ NoneBelow k
  tap_below zero h = inr (λ i x below at. absurd (omega (arith, below)))
  tap_below (suc k) h =
      let here = element d.taps k (omega (arith, h)) in
      elim (tap_below k (omega (arith, h))) [
        | inl found ↦ inl found
        | inr none ↦ elim (linked_or_not false d station v whole n here.0.node.0 n_in
            (station.items.taps_fit k here.0 here.1).node_in) [
              | inl join ↦ inl (here.0.node.0, join, (k, here.0, here.1, refl))
              | inr apart ↦ inr (λ i x below at. elim (cases_lt i k) [
                | inl less ↦ none i x less at
                | inr more ↦
                    let place : i ≡ k = omega (arith, below, more) in
                    let same : x ≡ here.0 = cc (at, here.1, place) in
                    subst (λ (y : Tap). ¬ Joined d v n y.node.0) (sym same) apart
              ])
            ]
      ]

  -- a node that is not quiet is joined to a tap
  pub loaded_tap : ¬ Quiet d v n → Tapped
  loaded_tap loaded = elim (tap_below (length d.taps) (omega arith)) [
    | inl found ↦ found
    | inr none ↦ absurd (loaded (λ m (i, x, at, stands) join. none i x (slice_get_within d.taps i x at) at
        (subst (λ k. Joined d v n k) (sym stands) join)))
  ]

-- the gap of the moved disconnector carries load
pub load_gap : (d : Diagram) (v : List Bool) (op : Op) (x : Switch) (n : NodeId) → Moves d op x → x.second ≡ Some n →
    BreaksLoad d v op → GapCarriesLoad d (before v op) x.first.0 n.0
load_gap d v op x n moves second broken =
    let same = one_moved d op broken.switch x broken.moves moves in
    let seconds : x.second ≡ Some broken.second = subst (λ (y : Switch). y.second ≡ Some broken.second) same
    broken.has_second in
    let ends : broken.second ≡ n = cc (seconds, second) in
    subst (λ (m : NodeId). GapCarriesLoad d (before v op) x.first.0 m.0) ends
    (subst (λ (y : Switch). GapCarriesLoad d (before v op) y.first.0 broken.second.0) same broken.load)

-- the nodes of a class by bonds are those that are bonded to its node
pub class_bonded : (d : Diagram) (v : List Bool) (labels : List ℕ) (node : ℕ) (l : List ℕ) → IsStation d →
    LabelsLeast (Touching true d v) (node_count d) labels → node < node_count d → IsClassOf labels node l → (n : ℕ) →
    Contains l n ↔ Bonded d v node n
class_bonded d v labels node l station least node_in h n = (
  λ c.
      let w = (h.exact n).0 c in
      let n_in : n < node_count d = omega (arith, w.0, least.len) in
      linked_from_same (Touching true d v) (node_count d) labels node n (touching_back true d v) least node_in
      n_in (sym w.1),
  λ b.
      let n_in = linked_in true d v station node n node_in b in
      (h.exact n).1 (
        omega (arith, n_in, least.len),
        sym (same_from_linked (Touching true d v) (node_count d) labels
            node n (touching_back true d v) least node_in n_in b),
      ),
)

pub class_below : (count : ℕ) (labels : List ℕ) (node : ℕ) (l : List ℕ) → length labels ≡ count →
    IsClassOf labels node l → AllBelow count l
class_below count labels node l len h i n at =
    let w = (h.exact n).0 (Contains-from_slice_get l i n at) in
    omega (arith, w.0, len)

pub none_below : (count : ℕ) (l : List ℕ) → l ≡ [] → AllBelow count l
none_below count l none i n at = absurd (omega (arith, slice_get_within l i n at, ap length none))

-- what is found for a disconnector explains why it may not be moved
pub load_explained : (d : Diagram) (v open_ : List Bool) (op : Op) (x : Switch) (n : NodeId) (live first second : Chain)
    (bonded : List ℕ) → open_ ≡ before v op → Breaks d v op (Some R3) → Moves d op x → x.second ≡ Some n
    → LeadsLive d open_ x.first.0 n.0 live → LeadsToTap d open_ x.first.0 first → LeadsToTap d open_ n.0 second →
    ((m : ℕ) → Contains bonded m ↔ Bonded d open_ x.first.0 m) → Rises bonded
    → Explains d v op (record {
      op = op;
      rule = R3;
      live = live;
      earthed = None;
      taps = Some (first, second);
      bonded = bonded;
    })
load_explained d v open_ op x n live first second bonded is broken moves has_second leads to_first to_second all rises =
    let gap = load_gap d v op x n moves has_second broken.2 in
    let exact = subst (λ (u : List Bool). (m : ℕ) → Contains bonded m ↔ Bonded d u x.first.0 m) is all in
    record {
      op_is = refl;
      breaks = broken;
      shows = record {
        switch = x;
        second = n;
        moves = moves;
        has_second = has_second;
        live = subst (λ (u : List Bool). LeadsLive d u x.first.0 n.0 live) is leads;
        first_tap = first;
        second_tap = second;
        has_taps = refl;
        to_first_tap = subst (λ (u : List Bool). LeadsToTap d u x.first.0 first) is to_first;
        to_second_tap = subst (λ (u : List Bool). LeadsToTap d u n.0 second) is to_second;
        all_bonded = exact;
        rises = rises;
        apart = λ h. gap.not_bonded ((exact n.0).0 h);
        no_earthed = refl;
      };
    }
