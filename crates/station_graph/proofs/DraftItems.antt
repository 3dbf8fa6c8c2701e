-- What a builder keeps with one more link, tap or switch.
use Rattle.std.proofs.Common.{◌≡◌, ◌≢◌, ℕ, ◌+◌, ◌-◌, ◌<◌, ◌≤◌, ◌⊎◌, eqb, List, [], ◌∷◌, ◌++◌, length, slice_get}
use Rattle.std.proofs.Common.{Contains, Some, refl, sym, ◌∙◌, ap, subst, inl, inr, arith, get_or}
use Rattle.std.specs.Prelude.{count_by, nat_lt}
use Rattle.std.proofs.lemmas.List.{length_push}
use Rattle.std.proofs.lemmas.Option.{slice_get_within, slice_get-get_or}
use Rattle.std.proofs.lemmas.Bool.{cases_eq, eq-eqb, ne_eqb, le-ltb, lt-ltb}
use Rattle.station_graph.specs.declared.items.Switch.{Switch}
use Rattle.station_graph.specs.declared.items.Link.{Link}
use Rattle.station_graph.specs.declared.items.Tap.{Tap}
use Rattle.station_graph.specs.declared.limits.TheConstants.{BAYS, SWITCHES, BAY_SWITCHES, LINKS, TAPS}
use Rattle.station_graph.proofs.PathLemmas.{Differ-push, slice_get-push}
use Rattle.station_graph.specs.Diagram.{Diagram, Differ, SwitchFits, LinkFits, TapFits, part_count, bay_count}
use Rattle.station_graph.specs.Diagram.{switches_in}
use Rattle.station_graph.specs.Building.{IsDraft, CountsBays, FollowsLast}
use Rattle.station_graph.proofs.CountLemmas.{counted, counted_no, counted_yes, count_by-push}
use Rattle.station_graph.proofs.CountLemmas.{count_range-same, count_range-one}
use Rattle.station_graph.proofs.DraftLemmas.{switch_fits_more, link_fits_more, tap_fits_more, switches_in-none}

-- The diagram with one more link.
module _ (d : Diagram) (links : List Link) (x : Link) (more : links ≡ d.links ++ x ∷ []) (room : length d.links < LINKS)
    (fits : LinkFits d x) where
  abbrev pub with_link : Diagram
  with_link = record d { links = links }

  pub IsDraft-link : IsDraft d → IsDraft with_link
  IsDraft-link h =
      let items = h.items in
      record {
        items = record {
          paths = items.paths;
          nodes_few = items.nodes_few;
          parts_few = items.parts_few;
          bays_few = items.bays_few;
          switches_few = items.switches_few;
          each_bay_few = items.each_bay_few;
          links_few = omega (arith, ap length more, length_push d.links x);
          taps_few = items.taps_few;
          switches_fit = λ i y e. switch_fits_more d with_link y (omega arith) (omega arith) (items.switches_fit i y e);
          links_fit = λ i y e. link_fits_more d with_link y (omega arith) (omega arith)
              (elim (slice_get-push d.links x y i (subst (λ (ls : List Link). slice_get ls i ≡ Some y) more e)) [
                | inl old ↦ items.links_fit i y old
                | inr new ↦ subst (λ (l : Link). LinkFits d l) new.1 fits
              ]);
          taps_fit = λ i y e. tap_fits_more d with_link y (omega arith) (omega arith) (items.taps_fit i y e);
        };
        paths_differ = record {
          nodes = h.paths_differ.nodes;
          parts = h.paths_differ.parts;
          switches =
              h.paths_differ.switches;
        };
        ordered = h.ordered;
      }

  pub CountsBays-link : (bays in_last : ℕ) → CountsBays d bays in_last → CountsBays with_link bays in_last
  CountsBays-link bays in_last c = record { all = c.all; last = c.last }

-- The diagram with one more tap.
module _ (d : Diagram) (taps : List Tap) (x : Tap) (more : taps ≡ d.taps ++ x ∷ []) (room : length d.taps < TAPS)
    (fits : TapFits d x) where
  abbrev pub with_tap : Diagram
  with_tap = record d { taps = taps }

  pub IsDraft-tap : IsDraft d → IsDraft with_tap
  IsDraft-tap h =
      let items = h.items in
      record {
        items = record {
          paths = items.paths;
          nodes_few = items.nodes_few;
          parts_few = items.parts_few;
          bays_few = items.bays_few;
          switches_few = items.switches_few;
          each_bay_few = items.each_bay_few;
          links_few = items.links_few;
          taps_few = omega (arith, ap length more, length_push d.taps x);
          switches_fit = λ i y e. switch_fits_more d with_tap y (omega arith) (omega arith) (items.switches_fit i y e);
          links_fit = λ i y e. link_fits_more d with_tap y (omega arith) (omega arith) (items.links_fit i y e);
          taps_fit = λ i y e. tap_fits_more d with_tap y (omega arith) (omega arith)
              (elim (slice_get-push d.taps x y i (subst (λ (ts : List Tap). slice_get ts i ≡ Some y) more e)) [
                | inl old ↦ items.taps_fit i y old
                | inr new ↦ subst (λ (m : Tap). TapFits d m) new.1 fits
              ]);
        };
        paths_differ = record {
          nodes = h.paths_differ.nodes;
          parts = h.paths_differ.parts;
          switches =
              h.paths_differ.switches;
        };
        ordered = h.ordered;
      }

  pub CountsBays-tap : (bays in_last : ℕ) → CountsBays d bays in_last → CountsBays with_tap bays in_last
  CountsBays-tap bays in_last c = record { all = c.all; last = c.last }

-- each switch so far is of a part that the last one's part or a later one follows
bay_before : (d : Diagram) (part i : ℕ) (x : Switch) → IsDraft d → FollowsLast d part →
    slice_get d.switches i ≡ Some x → x.bay.0 ≤ part
bay_before d part i x h follows e =
    let within = slice_get_within d.switches i x e in
    let last = get_or d.switches (length d.switches - 1) x in
    let at : slice_get d.switches (length d.switches - 1) ≡ Some last =
    slice_get-get_or d.switches (length d.switches - 1) x (omega arith) in
    omega (arith, h.ordered i (length d.switches - 1) x last (omega arith) e at, follows last at)

-- a part after the last switch's has no switch yet
pub switches_in-later : (d : Diagram) (part : ℕ) (last : Switch) → IsDraft d →
    slice_get d.switches (length d.switches - 1) ≡ Some last → last.bay.0 < part → switches_in d part ≡ 0
switches_in-later d part last h at later =
    switches_in-none d part (λ i x e same.
    let within = slice_get_within d.switches i x e in
    absurd (omega (arith, h.ordered i (length d.switches - 1) x last (omega arith) e at)))

-- The diagram with one more switch.
module _ (d : Diagram) (switches : List Switch) (paths : List (List ℕ)) (p : List ℕ) (x : Switch)
    (more : switches ≡ d.switches ++ x ∷ []) (more_paths : paths ≡ d.switch_paths ++ p ∷ [])
    (room : length d.switches < SWITCHES) (fits : SwitchFits d x) (follows : FollowsLast d x.bay.0) where
  abbrev pub with_switch : Diagram
  with_switch = record d { switches = switches; switch_paths = paths }

  switches_in-switch : (part : ℕ) → switches_in with_switch part ≡ switches_in d part + counted (eqb x.bay.0 part)
  switches_in-switch part = ap (count_by (λ (y : Switch). eqb y.bay.0 part)) more
      ∙ count_by-push (λ (y : Switch). eqb y.bay.0 part) d.switches x

  switches_in-here : switches_in with_switch x.bay.0 ≡ switches_in d x.bay.0 + 1
  switches_in-here =
      let step = switches_in-switch x.bay.0 in
      let here = counted_yes (eqb x.bay.0 x.bay.0) (eq-eqb x.bay.0 x.bay.0 refl) in
      omega arith

  switches_in-there : (part : ℕ) → part ≢ x.bay.0 → switches_in with_switch part ≡ switches_in d part
  switches_in-there part ne =
      let step = switches_in-switch part in
      let there = counted_no (eqb x.bay.0 part) (ne_eqb x.bay.0 part (λ e. ne (sym e))) in
      omega arith

  pub bay_count-new : switches_in d x.bay.0 ≡ 0 → bay_count with_switch ≡ bay_count d + 1
  bay_count-new none =
      count_range-one (λ part. nat_lt 0 (switches_in d part)) (λ part. nat_lt 0 (switches_in with_switch part)) x.bay.0
      0 (part_count d)
      (omega arith) (omega (arith, fits.part_in))
      (le-ltb 0 (switches_in d x.bay.0) (omega arith))
      (lt-ltb 0 (switches_in with_switch x.bay.0) (omega (arith, switches_in-here)))
      (λ j ne. ap (nat_lt 0) (sym (switches_in-there j ne)))

  pub bay_count-known : 0 < switches_in d x.bay.0 → bay_count with_switch ≡ bay_count d
  bay_count-known some =
      count_range-same (λ part. nat_lt 0 (switches_in d part)) (λ part. nat_lt 0 (switches_in with_switch part)) 0
      (part_count d)
      (λ j le. elim (cases_eq j x.bay.0) [
        | inl e ↦
            let before_it : 0 < switches_in d j = subst (λ k. 0 < switches_in d k) (sym e) some in
            let after_it : 0 < switches_in with_switch j = subst (λ k. 0 < switches_in with_switch k) (sym e)
            (omega (arith, switches_in-here)) in
            lt-ltb 0 (switches_in d j) before_it ∙ sym (lt-ltb 0 (switches_in with_switch j) after_it)
        | inr ne ↦ ap (nat_lt 0) (sym (switches_in-there j ne))
      ])

  pub IsDraft-switch : ¬ Contains d.switch_paths p → switches_in d x.bay.0 < BAY_SWITCHES →
      (switches_in d x.bay.0 ≡ 0 → bay_count d < BAYS) → IsDraft d → IsDraft with_switch
  IsDraft-switch new bay_room bays_room h =
      let items = h.items in
      let len : length switches ≡ length d.switches + 1 = ap length more ∙ length_push d.switches x in
      let len_paths : length paths ≡ length d.switch_paths + 1 = ap length more_paths ∙ length_push d.switch_paths p in
      record {
        items = record {
          paths = omega (arith, items.paths);
          nodes_few = items.nodes_few;
          parts_few = items.parts_few;
          bays_few = elim (cases_eq (switches_in d x.bay.0) 0) [
            | inl none ↦ omega (arith, bay_count-new none, bays_room none)
            | inr some ↦ omega (arith, bay_count-known (omega arith), items.bays_few)
          ];
          switches_few = omega arith;
          each_bay_few = λ part. elim (cases_eq part x.bay.0) [
            | inl e ↦ subst (λ k. switches_in with_switch k ≤ BAY_SWITCHES) (sym e) (omega (arith, switches_in-here))
            | inr ne ↦ omega (arith, switches_in-there part ne, items.each_bay_few part)
          ];
          links_few = items.links_few;
          taps_few = items.taps_few;
          switches_fit = λ i y e. switch_fits_more d with_switch y (omega arith) (omega arith)
              (elim (slice_get-push d.switches x y i (subst (λ (ss : List Switch). slice_get ss i ≡ Some y) more e)) [
                | inl old ↦ items.switches_fit i y old
                | inr new ↦ subst (λ (z : Switch). SwitchFits d z) new.1 fits
              ]);
          links_fit = λ i y e. link_fits_more d with_switch y (omega arith) (omega arith) (items.links_fit i y e);
          taps_fit = λ i y e. tap_fits_more d with_switch y (omega arith) (omega arith) (items.taps_fit i y e);
        };
        paths_differ = record {
          nodes = h.paths_differ.nodes;
          parts = h.paths_differ.parts;
          switches = subst Differ (sym more_paths) (Differ-push d.switch_paths p new h.paths_differ.switches);
        };
        ordered = λ i j y z ij yi zj.
            let in_new : (k : ℕ) (w : Switch) → slice_get switches k ≡ Some w → (slice_get d.switches k ≡ Some w)
            ⊎ ((k ≡ length d.switches) × (x ≡ w)) =
            λ k w e. slice_get-push d.switches x w k (subst (λ (ss : List Switch). slice_get ss k ≡ Some w) more e) in
            elim (in_new i y yi) [
              | inl old_y ↦ elim (in_new j z zj) [
                | inl old_z ↦ h.ordered i j y z ij old_y old_z
                | inr new_z ↦ subst (λ (w : Switch). y.bay.0 ≤ w.bay.0) new_z.1
                    (bay_before d x.bay.0 i y h follows old_y)
              ]
              | inr new_y ↦ elim (in_new j z zj) [
                | inl old_z ↦ absurd (omega (arith, slice_get_within d.switches j z old_z, new_y.0))
                | inr new_z ↦
                    let same : y.bay.0 ≡ z.bay.0 = ap (λ (w : Switch). w.bay.0) (sym new_y.1 ∙ new_z.1) in
                    omega arith
              ]
            ];
      }

  pub CountsBays-switch : (bays : ℕ) → bays ≡ bay_count with_switch →
      CountsBays with_switch bays (switches_in d x.bay.0 + 1)
  CountsBays-switch bays all = record {
    all = all;
    last = λ y e.
        let len : length switches - 1 ≡ length d.switches = omega (arith, ap length more, length_push d.switches x) in
        let at : slice_get (d.switches ++ x ∷ []) (length d.switches) ≡ Some y =
        subst (λ (ss : List Switch). slice_get ss (length d.switches) ≡ Some y) more
        (subst (λ k. slice_get switches k ≡ Some y) len e) in
        elim (slice_get-push d.switches x y (length d.switches) at) [
          | inl old ↦ absurd (omega (arith, slice_get_within d.switches (length d.switches) y old))
          | inr new ↦
              let same : x.bay.0 ≡ y.bay.0 = ap (λ (w : Switch). w.bay.0) new.1 in
              subst (λ k. switches_in d x.bay.0 + 1 ≡ switches_in with_switch k) same (sym switches_in-here)
        ];
  }
