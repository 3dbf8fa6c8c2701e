-- A limit is refused where one more is counted than it allows.
use Rattle.std.proofs.Common.{◌≡◌, ◌∙◌, ℕ, ◌+◌, List, [], ◌∷◌, length, Option, Some, None, Bool}
use Rattle.std.proofs.Common.{Result, Err, refl, sym, ap, subst, eq-eqb, ne_eqb, inl, inr}
use Rattle.std.specs.Prelude.{if◌then◌else◌, ◌==◌, ◌&&◌}
use Rattle.std.specs.Option.{option_map_or}
use Rattle.std.proofs.lemmas.Bool.{cases_eq}
use Rattle.std.proofs.lemmas.Option.{same_Some}
use Rattle.station_graph.specs.declared.fault.What.{What}
use Rattle.station_graph.specs.declared.fault.What.TheVariants.{Parts, Bays, Nodes, Switches, BaySwitches, Links, Taps}
use Rattle.station_graph.specs.declared.items.Switch.{Switch}
use Rattle.station_graph.specs.declared.limits.TheConstants.{PARTS, BAYS, NODES, SWITCHES, BAY_SWITCHES, LINKS, TAPS}
use Rattle.station_graph.specs.Diagram.{Diagram, part_count, node_count, bay_count, switches_in}
use Rattle.station_graph.specs.Building.{switch_limit}
use Rattle.ssd_read.specs.declared.refusal.SsdRefusal.{SsdRefusal}
use Rattle.ssd_read.specs.declared.refusal.SsdRefusal.TheVariants.{Limit}
use Rattle.ssd_read.specs.Steps.{Step, a_part, a_node, a_switch, a_link, a_tap, built, limit_at, added, limit_fault}
use Rattle.ssd_read.specs.Counts.{has, Passes}

-- a limit with the count that passes it
abbrev full : What → ℕ → What × ℕ
full w most = (w, most + 1)

-- a limit that is told where a condition holds
abbrev told_if : Bool → What → ℕ → Option (What × ℕ)
told_if b w most = if b then Some (full w most) else None

abbrev both : What → ℕ → What × ℕ
both what count = (what, count)

-- what a limit says, where it says something
told_limit : (n : ℕ) (w what : What) (most count : ℕ) → n ≡ most → Some (full w most) ≡ Some (both what count) →
    (what ≡ w) × (count ≡ n + 1)
told_limit n w what most count same h =
    let e = same_Some (full w most) (both what count) h in
    (ap (λ (p : What × ℕ). p.0) (sym e), ap (λ (p : What × ℕ). p.1) (sym e) ∙ ap (λ k. k + 1) (sym same))

one_limit : (n : ℕ) (w what : What) (most count : ℕ) →
    told_if (n == most) w most ≡ Some (both what count) → (what ≡ w) × (count ≡ n + 1)
one_limit n w what most count h = elim (cases_eq n most) [
  | inl same ↦ told_limit n w what most count same (rw (eq-eqb n most same) at h)
  | inr apart ↦ (let no = rw (ne_eqb n most apart) at h in absurd (cc (no)))
]

-- the count of one more, of what was counted
one_more : (d : Diagram) (s : Step) (w what : What) (count : ℕ) → (what ≡ w) × (count ≡ has w d s + 1) →
    count ≡ has what d s + 1
one_more d s w what count t = subst (λ k. count ≡ has k d s + 1) (sym t.0) t.1

module _ (d : Diagram) (name : List ℕ) (x : Switch) (what : What) (count : ℕ) where
  of_bays : told_if ((switches_in d x.bay.0 == 0) && (bay_count d == BAYS)) Bays BAYS ≡ Some (both what count) → (what ≡ Bays) × (count ≡ bay_count d + 1)
  of_bays h = elim (cases_eq (switches_in d x.bay.0) 0) [
    | inl none ↦ one_limit (bay_count d) Bays what BAYS count (rw (eq-eqb (switches_in d x.bay.0) 0 none) at h)
    | inr some ↦ (let no = rw (ne_eqb (switches_in d x.bay.0) 0 some) at h in absurd (cc (no)))
  ]

  of_bay : (if switches_in d x.bay.0 == BAY_SWITCHES then Some (full BaySwitches BAY_SWITCHES)
      else told_if ((switches_in d x.bay.0 == 0) && (bay_count d == BAYS)) Bays BAYS) ≡ Some (both what count) → count ≡ has what d (a_switch name x) + 1
  of_bay h = elim (cases_eq (switches_in d x.bay.0) BAY_SWITCHES) [
    | inl full ↦ one_more d (a_switch name x) BaySwitches what count
        (told_limit (switches_in d x.bay.0) BaySwitches what BAY_SWITCHES count full
        (rw (eq-eqb (switches_in d x.bay.0) BAY_SWITCHES full) at h))
    | inr apart ↦ one_more d (a_switch name x) Bays what count
        (of_bays (rw (ne_eqb (switches_in d x.bay.0) BAY_SWITCHES apart) at h))
  ]

  of_switch : switch_limit d x.bay.0 ≡ Some (both what count) → count ≡ has what d (a_switch name x) + 1
  of_switch h = elim (cases_eq (length d.switches) SWITCHES) [
    | inl full ↦ one_more d (a_switch name x) Switches what count
        (told_limit (length d.switches) Switches what SWITCHES count full
        (rw (eq-eqb (length d.switches) SWITCHES full) at h))
    | inr apart ↦ of_bay (rw (ne_eqb (length d.switches) SWITCHES apart) at h)
  ]

one_past : (d : Diagram) (s : Step) (what : What) (count : ℕ) → limit_at d s ≡ Some (both what count) →
    count ≡ has what d s + 1
one_past d (a_part path) what count h =
    one_more d (a_part path) Parts what count (one_limit (part_count d) Parts what PARTS count h)
one_past d (a_node path) what count h =
    one_more d (a_node path) Nodes what count (one_limit (node_count d) Nodes what NODES count h)
one_past d (a_switch name x) what count h = of_switch d name x what count h
one_past d (a_link x) what count h =
    one_more d (a_link x) Links what count (one_limit (length d.links) Links what LINKS count h)
one_past d (a_tap x) what count h =
    one_more d (a_tap x) Taps what count (one_limit (length d.taps) Taps what TAPS count h)

-- a step after which the diagram goes on
passes_later : (d : Diagram) (s : Step) (ss : List Step) (what : What) (count : ℕ) → limit_at d s ≡ None →
    Passes (added d s) ss what count → Passes d (s ∷ ss) what count
unfolding built
passes_later d s ss what count none p = record {
  before = s ∷ p.before;
  last = p.last;
  after = p.after;
  all = ap (λ (xs : List Step). s ∷ xs) p.all;
  diagram = p.diagram;
  fits = rw none p.fits;
  one_more = p.one_more;
}

-- the first step that passes a limit
passes_now : (d : Diagram) (s : Step) (ss : List Step) (what : What) (count : ℕ) →
    limit_at d s ≡ Some (both what count) → Passes d (s ∷ ss) what count
unfolding built
passes_now d s ss what count h = record {
  before = [];
  last = s;
  after = ss;
  all = refl;
  diagram = d;
  fits = refl;
  one_more = one_past d s what count h;
}

same_limit : (l : What × ℕ) (what : What) (count : ℕ) (r : Result Diagram SsdRefusal) →
    option_map_or (λ l. Err (limit_fault l)) (Some l) r ≡ Err (Limit what count) → l ≡ both what count
same_limit (w, n) what count r h = cc (h)

-- by what the first step comes to
passes_by : (d : Diagram) (s : Step) (ss : List Step) (what : What) (count : ℕ) (o : Option (What × ℕ)) →
    limit_at d s ≡ o → (built (added d s) ss ≡ Err (Limit what count) → Passes (added d s) ss what count) →
    option_map_or (λ l. Err (limit_fault l)) o (built (added d s) ss) ≡ Err (Limit what count) →
    Passes d (s ∷ ss) what count
passes_by d s ss what count None is rest h = passes_later d s ss what count is (rest h)
passes_by d s ss what count (Some l) is rest h =
    passes_now d s ss what count (is ∙ ap Some (same_limit l what count (built (added d s) ss) h))

pub passes : (d : Diagram) (ss : List Step) (what : What) (count : ℕ) → built d ss ≡ Err (Limit what count) →
    Passes d ss what count
unfolding built
passes d [] what count h = absurd (cc)
passes d (s ∷ ss) what count h =
    passes_by d s ss what count (limit_at d s) refl (λ k. passes (added d s) ss what count k) h
