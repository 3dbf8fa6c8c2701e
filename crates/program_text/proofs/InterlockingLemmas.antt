-- Lines that mean the formulas and the releases of a station are an interlocking of it.
use Rattle.std.proofs.Common.{◌≡◌, ◌≢◌, ◌↔◌, ◌⊎◌, ◌++◌, ◌∙◌, ◌<◌, ℕ, zero, suc, Bool, true, false, List, []}
use Rattle.std.proofs.Common.{◌∷◌, length, slice_get, Some, None, refl, sym, ap, subst, inl, inr, arith}
use Rattle.std.proofs.lemmas.Bool.{false≢true, cases_lt}
use Rattle.std.proofs.lemmas.Option.{slice_get_within}
use Rattle.ilk_base.specs.declared.words.Direction.{Direction}
use Rattle.ilk_base.specs.declared.words.Direction.TheVariants.{ToOff, ToOn}
use Rattle.ilk_base.specs.declared.words.Kind.TheVariants.{Disconnector}
use Rattle.ilk_base.specs.declared.words.Op.{Op}
use Rattle.ilk_base.specs.declared.words.Rule.TheVariants.{R1, R2}
use Rattle.station_graph.specs.declared.items.Switch.{Switch}
use Rattle.station_graph.specs.Diagram.{Diagram, IsStation}
use Rattle.station_graph.specs.CentralRules.{Breaks, Applies, Moves}
use Rattle.interlock_terms.specs.declared.term.Term.{Term}
use Rattle.interlock_terms.specs.Terms.{Values, IsTrueAt, AreOrdered, evaluated, Grew}
use Rattle.interlock_terms.proofs.SolveLemmas.{evaluated_solves, evaluated_within}
use Rattle.short_equations.specs.declared.pair.TermPair.{TermPair}
use Rattle.short_equations.specs.declared.view.View.{View}
use Rattle.short_equations.specs.declared.view.View.TheVariants.{Gap, Load, Bond}
use Rattle.short_equations.specs.Pairs.{AreExactPairs}
use Rattle.short_equations.specs.Signals.{Signals, AreExact, IsExactBond, IsReleased}
use Rattle.short_equations.proofs.ChainSteps.{exact_grew}
use Rattle.short_equations.proofs.SignalLemmas.{released_is_safe, release_exact, denied_exactly}
use Rattle.structured_text.specs.declared.name.Name.{Name}
use Rattle.structured_text.specs.declared.name.Name.TheVariants.{Off as OffOf, On as OnOf, May, Sure, Opens, Closes}
use Rattle.structured_text.specs.declared.line.Line.{Line}
use Rattle.structured_text.specs.Meaning.{Store, after}
use Rattle.program_text.specs.declared.reading.Reading.TheVariants.{May as AsClosed, Sure as AsOpen}
use Rattle.program_text.specs.Places.{IsSet}
use Rattle.program_text.specs.TermLines.{positions, values_in, ServesReleases}
use Rattle.program_text.specs.Releases.{MeansReleases}
use Rattle.program_text.specs.Interlocking.{IsReadingOf, AreKnown, release_name, towards, IsInterlocking}
use Rattle.structured_text.proofs.StoreLemmas.{in_a_row}
use Rattle.structured_text.proofs.AgreeLemmas.{Agree, after_same}
use Rattle.program_text.proofs.PositionValues.{positions_length}
use Rattle.program_text.proofs.ReleasedLemmas.{bit_is, signals_of, opening_released, closing_released, not_false}
use Rattle.program_text.proofs.ContactLemmas.{positions_same, high, low, high_reads, below_high, above_low, high_is, low_is}
use Rattle.program_text.proofs.FullStore.{full_of, same_bits, full_means, full_else}

module _ (d : Diagram) (station : IsStation d) (may sure : List Term) (may_ordered : AreOrdered may)
    (sure_ordered : AreOrdered sure) (gap load bond : List TermPair) (gap_len : length gap ≡ length d.switches)
    (load_len : length load ≡ length d.switches) (bond_len : length bond ≡ length d.switches)
    (gap_exact : AreExactPairs Gap d may gap) (load_exact : AreExactPairs Load d may load)
    (bond_exact : AreExactPairs Bond d sure bond) (first second third : List Line)
    (first_serves : ServesReleases AsClosed (length d.switches) may third first)
    (second_serves : ServesReleases AsOpen (length d.switches) sure third second)
    (third_means : MeansReleases d (length may) (length sure) gap load bond (length d.switches) third) where
  abbrev lines : List Line
  lines = first ++ (second ++ third)

  pair : (xs : List TermPair) (i : ℕ) → i < length xs → (p : TermPair) × (slice_get xs i ≡ Some p)
  pair [] i within = absurd (omega (arith, within))
  pair (x ∷ xs) zero within = (x, refl)
  pair (x ∷ xs) (suc i) within = pair xs i (omega (arith, within))

  module _ (s : Store) where
    abbrev mid : Store
    mid = after second (after first s)

    abbrev v : Values
    v = values_in AsClosed (length d.switches) s may

    abbrev w : Values
    w = values_in AsOpen (length d.switches) s sure

    runs : after lines s ≡ after third mid
    runs = in_a_row first (second ++ third) s ∙ in_a_row second third (after first s)

    -- the variables that the releases may read, before them
    abbrev P : Name → Type 0
    P = IsSet AsClosed first_serves.places

    abbrev Q : Name → Type 0
    Q = IsSet AsOpen second_serves.places

    low_same : positions AsOpen (after first s) (length d.switches) ≡ positions AsOpen s (length d.switches)
    low_same =
        positions_same AsOpen (after first s) s
        (λ i. first_serves.means.others s (OffOf (record { 0 = i })) (λ (k, under, named, e). cc e))
        (λ i. first_serves.means.others s (OnOf (record { 0 = i })) (λ (k, under, named, e). cc e)) 0 (length d.switches)

    -- the store in which each formula has its value, also where no line sets its variable
    abbrev full : Store
    full = full_of s v w (length may) (length sure)

    may_means : (n : ℕ) → n < length may → (full (May n) ≡ true) ↔ IsTrueAt v n
    may_means n within = full_means v.terms (s (May n)) n (length may) within

    sure_means : (n : ℕ) → n < length sure → (full (Sure n) ≡ true) ↔ IsTrueAt w n
    sure_means n within = full_means w.terms (s (Sure n)) n (length sure) within

    plain : (m : Name) → ((n : ℕ) → m ≢ May n) → ((n : ℕ) → m ≢ Sure n) → mid m ≡ s m
    plain m no_may no_sure =
        second_serves.means.others (after first s) m (λ (k, under, named, e). no_sure k e)
        ∙ first_serves.means.others s m (λ (k, under, named, e). no_may k e)

    may_same : (n : ℕ) → P (May n) → mid (May n) ≡ full (May n)
    may_same n set =
        let step = second_serves.means.others (after first s) (May n) (λ (k, under, named, e). cc e) in
        elim (cases_lt n (length may)) [
          | inl low ↦
              let len = first_serves.placed.len in
              let named = set n refl (omega (arith, low, len)) in
              let x = first_serves.means.values s n low named in
              let y = may_means n low in
              step ∙ same_bits (after first s (May n)) (full (May n)) (λ e. y.1 (x.0 e)) (λ e. x.1 (y.0 e))
          | inr high ↦
              step
              ∙ (first_serves.means.others s (May n) (λ (k, under, named, e).
              let same : n ≡ k = cc e in omega (arith, same, under, high))
              ∙ sym (full_else v.terms (s (May n)) n (length may) high))
        ]

    sure_same : (n : ℕ) → Q (Sure n) → mid (Sure n) ≡ full (Sure n)
    sure_same n set =
        elim (cases_lt n (length sure)) [
          | inl low ↦
              let len = second_serves.placed.len in
              let named = set n refl (omega (arith, low, len)) in
              let x : (mid (Sure n) ≡ true) ↔ IsTrueAt w n =
              subst (λ ps. (mid (Sure n) ≡ true) ↔ IsTrueAt (record { closed = ps; terms = evaluated ps [] sure }) n) low_same
              (second_serves.means.values (after first s) n low named) in
              let y = sure_means n low in
              same_bits (mid (Sure n)) (full (Sure n)) (λ e. y.1 (x.0 e)) (λ e. x.1 (y.0 e))
          | inr high ↦
              second_serves.means.others (after first s) (Sure n) (λ (k, under, named, e).
              let same : n ≡ k = cc e in omega (arith, same, under, high))
              ∙ (first_serves.means.others s (Sure n) (λ (k, under, named, e). cc e)
              ∙ sym (full_else w.terms (s (Sure n)) n (length sure) high))
        ]

    agree : Agree P Q mid full
    agree (OffOf i) p q = plain (OffOf i) (λ n e. cc e) (λ n e. cc e)
    agree (OnOf i) p q = plain (OnOf i) (λ n e. cc e) (λ n e. cc e)
    agree (May n) p q = may_same n p
    agree (Sure n) p q = sure_same n q
    agree (Opens i) p q = plain (Opens i) (λ n e. cc e) (λ n e. cc e)
    agree (Closes i) p q = plain (Closes i) (λ n e. cc e) (λ n e. cc e)

    -- the lines of the releases do the same as where each formula has its value
    released_same : (m : Name) → P m → Q m → after lines s m ≡ after third full m
    released_same m p q =
        ap (λ (t : Store). t m) runs ∙ after_same P Q third mid full agree first_serves.set second_serves.set m p q

    may_within : (n : ℕ) → IsTrueAt v n → n < length may
    may_within n h = evaluated_within (positions AsClosed s (length d.switches)) may n h

    sure_within : (n : ℕ) → IsTrueAt w n → n < length sure
    sure_within n h = evaluated_within (positions AsOpen s (length d.switches)) sure n h

    module _ (op : Op) (x : Switch) (moves : Moves d op x) (g l b : TermPair)
        (g_at : slice_get gap op.switch.0 ≡ Some g) (l_at : slice_get load op.switch.0 ≡ Some l)
        (b_at : slice_get bond op.switch.0 ≡ Some b) where
      abbrev sig : Signals
      sig = signals_of v w g l b

      within : op.switch.0 < length d.switches
      within = slice_get_within d.switches op.switch.0 x moves

      exact_signals : AreExact d (high d s) op x sig
      exact_signals = record {
        on = λ other.
            let h = (gap_exact op.switch.0 x g moves g_at v op.direction (positions_length AsClosed s 0 (length d.switches))
            (evaluated_solves (positions AsClosed s (length d.switches)) may may_ordered)).0 other in
            let z = bit_is v g.first in
            (λ e. h.0 (z.0 e), λ e. z.1 (h.1 e));
        earth = λ other.
            let h = (gap_exact op.switch.0 x g moves g_at v op.direction (positions_length AsClosed s 0 (length d.switches))
            (evaluated_solves (positions AsClosed s (length d.switches)) may may_ordered)).1 other in
            let z = bit_is v g.second in
            (λ e. h.0 (z.0 e), λ e. z.1 (h.1 e));
        live = λ q has.
            let h = (load_exact op.switch.0 x l moves l_at v op.direction (positions_length AsClosed s 0 (length d.switches))
            (evaluated_solves (positions AsClosed s (length d.switches)) may may_ordered) q has).0 in
            let z = bit_is v l.first in
            (λ e. h.0 (z.0 e), λ e. z.1 (h.1 e));
        loaded = λ q has live.
            let h = (load_exact op.switch.0 x l moves l_at v op.direction (positions_length AsClosed s 0 (length d.switches))
            (evaluated_solves (positions AsClosed s (length d.switches)) may may_ordered) q has).1 live in
            let z = bit_is v l.second in
            (λ e. h.0 (z.0 e), λ e. z.1 (h.1 e));
      }

      exact_bond : IsExactBond d (low d s) op x sig
      exact_bond = record {
        bond = λ q has.
            let h = bond_exact op.switch.0 x b moves b_at w op.direction (positions_length AsOpen s 0 (length d.switches))
            (evaluated_solves (positions AsOpen s (length d.switches)) sure sure_ordered) q has in
            let z = bit_is w b.first in
            (λ e. h.0 (z.0 e), λ e. z.1 (h.1 e));
      }

      by_direction : (k : Direction) → (after lines s (towards op.switch k) ≡ true) ↔ IsReleased x.kind k sig
      by_direction ToOff =
          let run = released_same (Opens op.switch) (λ n e under. cc e) (λ n e under. cc e)
          ∙ third_means.opens full op.switch.0 x l b within moves l_at b_at in
          let h = opening_released full v w (length may) (length sure) may_means may_within sure_means sure_within g l b
          x.kind in
          (λ e. h.0 (sym run ∙ e), λ r. run ∙ h.1 r)
      by_direction ToOn =
          let run = released_same (Closes op.switch) (λ n e under. cc e) (λ n e under. cc e)
          ∙ third_means.closes full op.switch.0 x g l b within moves g_at l_at b_at in
          let h = closing_released full v w (length may) (length sure) may_means may_within sure_means sure_within g l b
          x.kind in
          (λ e. h.0 (sym run ∙ e), λ r. run ∙ h.1 r)

      released : (after lines s (release_name op) ≡ true) ↔ IsReleased x.kind op.direction sig
      released = by_direction op.direction

      safe_one : (r : List Bool) → IsReadingOf d s r → after lines s (release_name op) ≡ true → Breaks d r op None
      safe_one r reads e =
          released_is_safe d (low d s) r (high d s) op x moves
          (positions_length AsOpen s 0 (length d.switches) ∙ sym reads.vector)
          (reads.vector ∙ sym (positions_length AsClosed s 0 (length d.switches))) (above_low d s r reads)
          (below_high d s r reads) sig exact_signals exact_bond (released.0 e)

      exact_one : (r : List Bool) → IsReadingOf d s r → AreKnown d s →
          (after lines s (release_name op) ≡ true) ↔ Breaks d r op None
      exact_one r reads known =
          let h = release_exact d r op x sig station moves
          (subst (λ z. AreExact d z op x sig) (high_is d s r reads known) exact_signals)
          (subst (λ z. IsExactBond d z op x sig) (low_is d s r reads known) exact_bond) in
          (λ e. h.0 (released.0 e), λ n. released.1 (h.1 n))

      tight_one : x.kind ≢ Disconnector → (after lines s (release_name op) ≡ false)
          ↔ ((r : List Bool) × IsReadingOf d s r × (Applies R1 d r op ⊎ Applies R2 d r op))
      tight_one other = (
        λ e.
            let h = denied_exactly d (high d s) op x sig moves other exact_signals in
            (high d s, high_reads d s, h.0 (λ r. false≢true (sym e ∙ released.1 r))),
        λ (r, reads, breaks). not_false (after lines s (release_name op)) (λ e.
            let none = safe_one r reads e in elim breaks [ inl one ↦ none.0 one | inr two ↦ none.1 two ]),
      )

    each : {Y : Type 0} (op : Op) (x : Switch) → Moves d op x → ((g l b : TermPair) →
        slice_get gap op.switch.0 ≡ Some g → slice_get load op.switch.0 ≡ Some l → slice_get bond op.switch.0 ≡ Some b → Y) →
        Y
    each op x moves f =
        let low_number = slice_get_within d.switches op.switch.0 x moves in
        let (g, g_at) = pair gap op.switch.0 (omega (arith, low_number, gap_len)) in
        let (l, l_at) = pair load op.switch.0 (omega (arith, low_number, load_len)) in
        let (b, b_at) = pair bond op.switch.0 (omega (arith, low_number, bond_len)) in
        f g l b g_at l_at b_at

  -- AN INTERLOCKING
  pub interlocks : IsInterlocking d (after lines)
  interlocks = record {
    safe = λ s op x r moves reads e.
        each s op x moves (λ g l b g_at l_at b_at. safe_one s op x moves g l b g_at l_at b_at r reads e);
    exact = λ s op x r moves reads known.
        each s op x moves (λ g l b g_at l_at b_at. exact_one s op x moves g l b g_at l_at b_at r reads known);
    tight = λ s op x moves other.
        each s op x moves (λ g l b g_at l_at b_at. tight_one s op x moves g l b g_at l_at b_at other);
  }

-- terms that grow keep what is exact
pub pairs_grew : (view : View) (d : Diagram) (one two : List Term) (pairs : List TermPair) → Grew one two →
    AreExactPairs view d one pairs → AreExactPairs view d two pairs
pairs_grew view d one two pairs grew h i x p at got = exact_grew view d one two i x p grew (h i x p at got)
