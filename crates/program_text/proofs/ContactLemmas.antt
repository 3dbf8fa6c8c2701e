-- What the contacts of switches say: the least and the greatest reading of them.
use Rattle.std.proofs.Common.{◌≡◌, ◌⊎◌, ◌∙◌, ◌<◌, ℕ, zero, suc, Bool, true, false, List, []}
use Rattle.std.proofs.Common.{◌∷◌, length, slice_get, Some, refl, sym, ap, subst, inl, inr, arith}
use Rattle.std.proofs.lemmas.Bool.{false≢true}
use Rattle.std.proofs.lemmas.Option.{slice_get_within}
use Rattle.ilk_base.specs.declared.words.Dbpos.TheVariants.{Off, On}
use Rattle.station_graph.specs.Diagram.{Diagram}
use Rattle.double_points.specs.Words.{Agrees}
use Rattle.short_equations.specs.Signals.{Below}
use Rattle.structured_text.specs.declared.name.Name.TheVariants.{Off as OffOf, On as OnOf}
use Rattle.structured_text.specs.Meaning.{Store}
use Rattle.program_text.specs.declared.reading.Reading.{Reading}
use Rattle.program_text.specs.declared.reading.Reading.TheVariants.{May as AsClosed, Sure as AsOpen}
use Rattle.program_text.specs.TermLines.{counts_in, positions, positions_from}
use Rattle.program_text.specs.Interlocking.{shown_by, word_in, IsReadingOf, AreKnown}
use Rattle.program_text.proofs.PositionValues.{position_of, positions_length}

-- ---- lists of positions
entry : (xs : List Bool) (i : ℕ) → i < length xs → (b : Bool) × (slice_get xs i ≡ Some b)
entry [] i low = absurd (omega (arith, low))
entry (x ∷ xs) zero low = (x, refl)
entry (x ∷ xs) (suc i) low = entry xs i (omega (arith, low))

same_entries : (xs ys : List Bool) → length xs ≡ length ys →
    ((i : ℕ) (b : Bool) → slice_get xs i ≡ Some b → slice_get ys i ≡ Some b) → xs ≡ ys
same_entries [] [] len h = refl
same_entries [] (y ∷ ys) len h = absurd (omega (arith, len))
same_entries (x ∷ xs) [] len h = absurd (omega (arith, len))
same_entries (x ∷ xs) (y ∷ ys) len h =
    let first : x ≡ y = let e = h 0 x refl in cc in
    let rest : xs ≡ ys = same_entries xs ys (omega (arith, len)) (λ i b at. h (suc i) b at) in
    ap (λ b. b ∷ xs) first ∙ ap (λ zs. y ∷ zs) rest

pub positions_same : (r : Reading) (s t : Store) → ((i : ℕ) → s (OffOf (record { 0 = i })) ≡ t (OffOf (record { 0 = i }))) →
    ((i : ℕ) → s (OnOf (record { 0 = i })) ≡ t (OnOf (record { 0 = i }))) → (k n : ℕ) →
    positions_from r s k n ≡ positions_from r t k n
positions_same r s t off on k zero = refl
positions_same r s t off on k (suc n) =
    ap (λ b. counts_in r b (s (OnOf (record { 0 = k }))) ∷ positions_from r s (suc k) n) (off k)
    ∙ (ap (λ b. counts_in r (t (OffOf (record { 0 = k }))) b ∷ positions_from r s (suc k) n) (on k)
    ∙ ap (λ zs. counts_in r (t (OffOf (record { 0 = k }))) (t (OnOf (record { 0 = k }))) ∷ zs)
    (positions_same r s t off on (suc k) n))

-- ---- what contacts say
may_agrees : (off on : Bool) → Agrees (shown_by off on) (counts_in AsClosed off on)
may_agrees true true = tt
may_agrees true false = refl
may_agrees false true = refl
may_agrees false false = tt

sure_agrees : (off on : Bool) → Agrees (shown_by off on) (counts_in AsOpen off on)
sure_agrees true true = tt
sure_agrees true false = refl
sure_agrees false true = refl
sure_agrees false false = tt

-- what a word agrees with lies between
closed_may : (off on closed : Bool) → Agrees (shown_by off on) closed → closed ≡ true → counts_in AsClosed off on ≡ true
closed_may true true closed a e = refl
closed_may true false closed a e = absurd (false≢true (sym a ∙ e))
closed_may false true closed a e = refl
closed_may false false closed a e = refl

sure_closed : (off on closed : Bool) → Agrees (shown_by off on) closed → counts_in AsOpen off on ≡ true → closed ≡ true
sure_closed true true closed a e = absurd (false≢true e)
sure_closed true false closed a e = absurd (false≢true e)
sure_closed false true closed a e = a
sure_closed false false closed a e = absurd (false≢true e)

-- a word that is off or on agrees with one position
one_position : (off on closed : Bool) → (shown_by off on ≡ Off) ⊎ (shown_by off on ≡ On) →
    Agrees (shown_by off on) closed → (counts_in AsClosed off on ≡ closed) × (counts_in AsOpen off on ≡ closed)
one_position true true closed k a = absurd (elim k [ inl e ↦ cc | inr e ↦ cc ])
one_position true false closed k a = (sym a, sym a)
one_position false true closed k a = (sym a, sym a)
one_position false false closed k a = absurd (elim k [ inl e ↦ cc | inr e ↦ cc ])

module _ (d : Diagram) (s : Store) where
  abbrev pub count : ℕ
  count = length d.switches

  abbrev pub high : List Bool
  high = positions AsClosed s count

  abbrev pub low : List Bool
  low = positions AsOpen s count

  at_high : (i : ℕ) → i < count →
      slice_get high i ≡ Some (counts_in AsClosed (s (OffOf (record { 0 = i }))) (s (OnOf (record { 0 = i }))))
  at_high i within = position_of AsClosed s count i within

  at_low : (i : ℕ) → i < count →
      slice_get low i ≡ Some (counts_in AsOpen (s (OffOf (record { 0 = i }))) (s (OnOf (record { 0 = i }))))
  at_low i within = position_of AsOpen s count i within

  high_within : (i : ℕ) (b : Bool) → slice_get high i ≡ Some b → i < count
  high_within i b at =
      let w = slice_get_within high i b at in
      let len = positions_length AsClosed s 0 count in
      omega (arith, w, len)

  low_within : (i : ℕ) (b : Bool) → slice_get low i ≡ Some b → i < count
  low_within i b at =
      let w = slice_get_within low i b at in
      let len = positions_length AsOpen s 0 count in
      omega (arith, w, len)

  -- all that may be closed is a reading
  pub high_reads : IsReadingOf d s high
  high_reads = record {
    vector = positions_length AsClosed s 0 count;
    agrees = λ i closed at.
        let there = at_high i (high_within i closed at) in
        let same : counts_in AsClosed (s (OffOf (record { 0 = i }))) (s (OnOf (record { 0 = i }))) ≡ closed = cc (there, at) in
        subst (λ b. Agrees (word_in s i) b) same (may_agrees (s (OffOf (record { 0 = i }))) (s (OnOf (record { 0 = i }))));
  }

  module _ (v : List Bool) (reads : IsReadingOf d s v) where
    v_within : (i : ℕ) (b : Bool) → slice_get v i ≡ Some b → i < count
    v_within i b at =
        let w = slice_get_within v i b at in let len = reads.vector in omega (arith, w, len)

    pub below_high : Below v high
    below_high i at =
        let within = v_within i true at in
        at_high i within
        ∙ ap Some (closed_may (s (OffOf (record { 0 = i }))) (s (OnOf (record { 0 = i }))) true (reads.agrees i true at) refl)

    pub above_low : Below low v
    above_low i at =
        let within = low_within i true at in
        let there = at_low i within in
        let sure : counts_in AsOpen (s (OffOf (record { 0 = i }))) (s (OnOf (record { 0 = i }))) ≡ true = cc (there, at) in
        let len = reads.vector in
        let (b, got) = entry v i (omega (arith, within, len)) in
        got ∙ ap Some (sure_closed (s (OffOf (record { 0 = i }))) (s (OnOf (record { 0 = i }))) b (reads.agrees i b got) sure)

    pub high_is : AreKnown d s → high ≡ v
    high_is known = same_entries high v (positions_length AsClosed s 0 count ∙ sym reads.vector) (λ i b at.
        let within = high_within i b at in
        let there = at_high i within in
        let same : counts_in AsClosed (s (OffOf (record { 0 = i }))) (s (OnOf (record { 0 = i }))) ≡ b = cc (there, at) in
        let len = reads.vector in
        let (c, got) = entry v i (omega (arith, within, len)) in
        let one = one_position (s (OffOf (record { 0 = i }))) (s (OnOf (record { 0 = i }))) c (known i within)
        (reads.agrees i c got) in
        got ∙ ap Some (sym one.0 ∙ same))

    pub low_is : AreKnown d s → low ≡ v
    low_is known = same_entries low v (positions_length AsOpen s 0 count ∙ sym reads.vector) (λ i b at.
        let within = low_within i b at in
        let there = at_low i within in
        let same : counts_in AsOpen (s (OffOf (record { 0 = i }))) (s (OnOf (record { 0 = i }))) ≡ b = cc (there, at) in
        let len = reads.vector in
        let (c, got) = entry v i (omega (arith, within, len)) in
        let one = one_position (s (OffOf (record { 0 = i }))) (s (OnOf (record { 0 = i }))) c (known i within)
        (reads.agrees i c got) in
        got ∙ ap Some (sym one.1 ∙ same))
