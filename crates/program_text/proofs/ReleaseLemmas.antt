-- The lines of releases, one switch after another.
use Rattle.std.proofs.Common.{◌≡◌, ◌≢◌, ◌++◌, ◌∙◌, ◌+◌, ◌&&◌, ℕ, List, [], ◌∷◌, Bool, false, slice_get}
use Rattle.std.proofs.Common.{Some, None, refl, sym, ap, subst, inl, inr, arith}
use Rattle.std.specs.Prelude.{Option}
use Rattle.std.proofs.lemmas.Bool.{cases_eq}
use Rattle.ilk_base.specs.declared.words.Kind.{Kind}
use Rattle.ilk_base.specs.declared.words.Kind.TheVariants.{Breaker, Disconnector, Earthing, Infeed}
use Rattle.ilk_base.specs.declared.words.SwitchId.{SwitchId}
use Rattle.station_graph.specs.declared.items.Switch.{Switch}
use Rattle.station_graph.specs.Diagram.{Diagram}
use Rattle.short_equations.specs.declared.pair.TermPair.{TermPair}
use Rattle.structured_text.specs.declared.name.Name.{Name}
use Rattle.structured_text.specs.declared.name.Name.TheVariants.{Off, On, May, Sure, Opens, Closes}
use Rattle.structured_text.specs.declared.line.GapDenial.{GapDenial}
use Rattle.structured_text.specs.declared.line.GapDenial.TheVariants.{Two}
use Rattle.structured_text.specs.declared.line.LoadDenial.{LoadDenial}
use Rattle.structured_text.specs.declared.line.LoadDenial.TheVariants.{Loaded, Unbonded}
use Rattle.structured_text.specs.declared.line.Formula.{Formula}
use Rattle.structured_text.specs.declared.line.Heading.{Heading}
use Rattle.structured_text.specs.declared.line.Line.{Line}
use Rattle.structured_text.specs.Meaning.{Store, value, gap_denied, load_denied, b_not, same_name, after}
use Rattle.program_text.specs.Releases.{two_of, one_of, gap_denial_in, loaded_of, load_denial_in, release_in}
use Rattle.program_text.specs.Releases.{MeansReleases, pair_in}
use Rattle.structured_text.proofs.OrderLemmas.{none_in_order}
use Rattle.structured_text.specs.Order.{IsRelease, IsSetIn}
use Rattle.program_text.specs.Releases.{IsFormula, IsReleaseBelow}
use Rattle.program_text.proofs.ReleaseOrder.{opening_reads, closing_reads, two_order, two_sets}
use Rattle.structured_text.proofs.StoreLemmas.{eq_true, eq_false, is_set, not_set}

-- what denies reads formulas alone, so in two stores that agree on them it is the same
module _ (s t : Store) (may : (k : ℕ) → s (May k) ≡ t (May k)) (sure : (k : ℕ) → s (Sure k) ≡ t (Sure k)) where
  and_same : (a b c d : Bool) → a ≡ b → c ≡ d → (a && c) ≡ (b && d)
  and_same a b c d e f = ap (λ x. x && c) e ∙ ap (λ x. b && x) f

  gap_two : (a b : ℕ) → gap_denied s (Two (May a) (May b)) ≡ gap_denied t (Two (May a) (May b))
  gap_two a b = and_same (s (May a)) (t (May a)) (s (May b)) (t (May b)) (may a) (may b)

  load_two : (a b : ℕ) → load_denied s (Loaded (May a) (May b)) ≡ load_denied t (Loaded (May a) (May b))
  load_two a b = and_same (s (May a)) (t (May a)) (s (May b)) (t (May b)) (may a) (may b)

  load_three : (a b c : ℕ) → load_denied s (Unbonded (May a) (May b) (Sure c))
      ≡ load_denied t (Unbonded (May a) (May b) (Sure c))
  load_three a b c =
      and_same (s (May a)) (t (May a)) (s (May b) && b_not (s (Sure c))) (t (May b) && b_not (t (Sure c))) (may a)
      (and_same (s (May b)) (t (May b)) (b_not (s (Sure c))) (b_not (t (Sure c))) (may b) (ap b_not (sure c)))

  -- a gap denial of formulas, or none
  abbrev GapSame : Option GapDenial → Type 0
  GapSame None = Unit {0}
  GapSame (Some g) = gap_denied s g ≡ gap_denied t g

  abbrev LoadSame : Option LoadDenial → Type 0
  LoadSame None = Unit {0}
  LoadSame (Some l) = load_denied s l ≡ load_denied t l

  two_gap : (a b : Option ℕ) → GapSame (two_of a b)
  two_gap (Some a) (Some b) = gap_two a b
  two_gap (Some a) None = tt
  two_gap None b = tt

  one_gap : (a : Option ℕ) → GapSame (one_of a)
  one_gap (Some a) = may a
  one_gap None = tt

  gap_same : (k : Kind) (p : TermPair) → GapSame (gap_denial_in k p)
  gap_same Breaker p = two_gap p.first p.second
  gap_same Disconnector p = two_gap p.first p.second
  gap_same Earthing p = one_gap p.first
  gap_same Infeed p = one_gap p.second

  loaded_same : (a b c : Option ℕ) → LoadSame (loaded_of a b c)
  loaded_same (Some a) (Some b) (Some c) = load_three a b c
  loaded_same (Some a) (Some b) None = load_two a b
  loaded_same (Some a) None c = tt
  loaded_same None b c = tt

  load_same : (k : Kind) (l b : TermPair) → LoadSame (load_denial_in k l b)
  load_same Breaker l b = tt
  load_same Disconnector l b = loaded_same l.first l.second b.first
  load_same Earthing l b = tt
  load_same Infeed l b = tt

  release_same : (g : Option GapDenial) (l : Option LoadDenial) → GapSame g → LoadSame l →
      value s (release_in g l) ≡ value t (release_in g l)
  release_same (Some g) (Some l) e f =
      and_same (b_not (gap_denied s g)) (b_not (gap_denied t g)) (b_not (load_denied s l)) (b_not (load_denied t l))
      (ap b_not e) (ap b_not f)
  release_same (Some g) None e f = ap b_not e
  release_same None (Some l) e f = ap b_not f
  release_same None None e f = refl

  pub opening_same : (k : Kind) (l b : TermPair) →
      value s (release_in None (load_denial_in k l b)) ≡ value t (release_in None (load_denial_in k l b))
  opening_same k l b = release_same None (load_denial_in k l b) tt (load_same k l b)

  pub closing_same : (k : Kind) (g l b : TermPair) →
      value s (release_in (gap_denial_in k g) (load_denial_in k l b))
      ≡ value t (release_in (gap_denial_in k g) (load_denial_in k l b))
  closing_same k g l b =
      release_same (gap_denial_in k g) (load_denial_in k l b) (gap_same k g) (load_same k l b)

pub releases_none : (d : Diagram) (may sure : ℕ) (gap load bond : List TermPair) →
    MeansReleases d may sure gap load bond 0 []
releases_none d may sure gap load bond = record {
  others = λ s m ne. refl;
  opens = λ s i x l b low. absurd (omega (arith, low));
  closes = λ s i x g l b low. absurd (omega (arith, low));
  order = none_in_order (IsFormula may sure);
  sets = λ m. (λ (j, y, at, is). absurd (nothing j y at), none m);
}
  where
    nothing : (j : ℕ) (y : Line) → slice_get [] j ≡ Some y → ⊥
    nothing j y at = cc at

    none : (m : Name) → IsReleaseBelow 0 m → IsSetIn [] m
    none (Off i) h = absurd h
    none (On i) h = absurd h
    none (May n) h = absurd h
    none (Sure n) h = absurd h
    none (Opens i) h = absurd (omega (arith, h))
    none (Closes i) h = absurd (omega (arith, h))

opens_apart : (i : SwitchId) (m : Name) → ¬ IsRelease m → same_name (Opens i) m ≡ false
opens_apart i (Off a) ne = refl
opens_apart i (On a) ne = refl
opens_apart i (May a) ne = refl
opens_apart i (Sure a) ne = refl
opens_apart i (Opens a) ne = absurd (ne tt)
opens_apart i (Closes a) ne = absurd (ne tt)

closes_apart : (i : SwitchId) (m : Name) → ¬ IsRelease m → same_name (Closes i) m ≡ false
closes_apart i (Off a) ne = refl
closes_apart i (On a) ne = refl
closes_apart i (May a) ne = refl
closes_apart i (Sure a) ne = refl
closes_apart i (Opens a) ne = absurd (ne tt)
closes_apart i (Closes a) ne = absurd (ne tt)

module _ (hd : Option Heading) (d : Diagram) (may sure : ℕ) (gap load bond : List TermPair) (k : ℕ) (lines : List Line)
    (h : MeansReleases d may sure gap load bond k lines) (x : Switch) (listed : slice_get d.switches k ≡ Some x)
    (g l b : TermPair) (g_at : slice_get gap k ≡ Some g) (l_at : slice_get load k ≡ Some l)
    (b_at : slice_get bond k ≡ Some b) where
  abbrev id : SwitchId
  id = record { 0 = k }

  abbrev opening : Formula
  opening = release_in None (load_denial_in x.kind (pair_in may l) (pair_in sure b))

  abbrev closing : Formula
  closing = release_in (gap_denial_in x.kind (pair_in may g)) (load_denial_in x.kind (pair_in may l) (pair_in sure b))

  abbrev one : List Line
  one = lines ++ (record { heading = hd; name = Opens id; formula = opening }) ∷ []

  abbrev two : List Line
  two = one ++ (record { heading = None; name = Closes id; formula = closing }) ∷ []

  one_keeps : (s : Store) (m : Name) → ¬ IsRelease m → after one s m ≡ s m
  one_keeps s m ne =
      not_set lines (record { heading = hd; name = Opens id; formula = opening }) s m (opens_apart id m ne) ∙ h.others s m ne

  two_keeps : (s : Store) (m : Name) → ¬ IsRelease m → after two s m ≡ s m
  two_keeps s m ne =
      not_set one (record { heading = None; name = Closes id; formula = closing }) s m (closes_apart id m ne) ∙ one_keeps s m ne

  opens_here : (s : Store) → after two s (Opens id) ≡ value s opening
  opens_here s =
      not_set one (record { heading = None; name = Closes id; formula = closing }) s (Opens id) refl
      ∙ (is_set lines (record { heading = hd; name = Opens id; formula = opening }) s (eq_true k k refl)
      ∙ opening_same (after lines s) s (λ n. h.others s (May n) (λ e. e)) (λ n. h.others s (Sure n) (λ e. e)) x.kind
      (pair_in may l) (pair_in sure b))

  closes_here : (s : Store) → after two s (Closes id) ≡ value s closing
  closes_here s =
      is_set one (record { heading = None; name = Closes id; formula = closing }) s (eq_true k k refl)
      ∙ closing_same (after one s) s (λ n. one_keeps s (May n) (λ e. e)) (λ n. one_keeps s (Sure n) (λ e. e)) x.kind
      (pair_in may g) (pair_in may l) (pair_in sure b)

  opens_before : (s : Store) (i : ℕ) → i ≢ k → after two s (Opens (record { 0 = i }))
      ≡ after lines s (Opens (record { 0 = i }))
  opens_before s i ne =
      not_set one (record { heading = None; name = Closes id; formula = closing }) s (Opens (record { 0 = i })) refl
      ∙ not_set lines (record { heading = hd; name = Opens id; formula = opening }) s (Opens (record { 0 = i }))
      (eq_false k i (λ e. ne (sym e)))

  closes_before : (s : Store) (i : ℕ) → i ≢ k → after two s (Closes (record { 0 = i }))
      ≡ after lines s (Closes (record { 0 = i }))
  closes_before s i ne =
      not_set one (record { heading = None; name = Closes id; formula = closing }) s (Closes (record { 0 = i }))
      (eq_false k i (λ e. ne (sym e)))
      ∙ not_set lines (record { heading = hd; name = Opens id; formula = opening }) s (Closes (record { 0 = i })) refl

  -- the releases of one switch more
  pub releases_more : MeansReleases d may sure gap load bond (k + 1) two
  releases_more = record {
    others = two_keeps;
    opens = λ s i y m c low at m_at c_at. elim (cases_eq i k) [
      | inl e ↦
          let y_is : x ≡ y = let z = subst (λ j. slice_get d.switches j ≡ Some y) e at in cc (listed, z) in
          let l_is : l ≡ m = let z = subst (λ j. slice_get load j ≡ Some m) e m_at in cc (l_at, z) in
          let b_is : b ≡ c = let z = subst (λ j. slice_get bond j ≡ Some c) e c_at in cc (b_at, z) in
          ap (λ j. after two s (Opens (record { 0 = j }))) e
          ∙ (opens_here s
          ∙ (ap (λ (w : Switch). value s (release_in None (load_denial_in w.kind (pair_in may l) (pair_in sure b)))) y_is
          ∙ (ap (λ (w : TermPair). value s (release_in None (load_denial_in y.kind (pair_in may w) (pair_in sure b)))) l_is
          ∙ ap (λ (w : TermPair). value s (release_in None (load_denial_in y.kind (pair_in may m) (pair_in sure w)))) b_is)))
      | inr far ↦ opens_before s i far ∙ h.opens s i y m c (omega (arith, low, far)) at m_at c_at
    ];
    closes = λ s i y f m c low at f_at m_at c_at. elim (cases_eq i k) [
      | inl e ↦
          let y_is : x ≡ y = let z = subst (λ j. slice_get d.switches j ≡ Some y) e at in cc (listed, z) in
          let g_is : g ≡ f = let z = subst (λ j. slice_get gap j ≡ Some f) e f_at in cc (g_at, z) in
          let l_is : l ≡ m = let z = subst (λ j. slice_get load j ≡ Some m) e m_at in cc (l_at, z) in
          let b_is : b ≡ c = let z = subst (λ j. slice_get bond j ≡ Some c) e c_at in cc (b_at, z) in
          ap (λ j. after two s (Closes (record { 0 = j }))) e
          ∙ (closes_here s
          ∙ (ap (λ (w : Switch). value s (release_in (gap_denial_in w.kind (pair_in may g))
          (load_denial_in w.kind (pair_in may l) (pair_in sure b)))) y_is
          ∙ (ap (λ (w : TermPair). value s (release_in (gap_denial_in y.kind (pair_in may w))
          (load_denial_in y.kind (pair_in may l) (pair_in sure b)))) g_is
          ∙ (ap (λ (w : TermPair). value s (release_in (gap_denial_in y.kind (pair_in may f))
          (load_denial_in y.kind (pair_in may w) (pair_in sure b)))) l_is
          ∙ ap (λ (w : TermPair). value s (release_in (gap_denial_in y.kind (pair_in may f))
          (load_denial_in y.kind (pair_in may m) (pair_in sure w)))) b_is))))
      | inr far ↦ closes_before s i far ∙ h.closes s i y f m c (omega (arith, low, far)) at f_at m_at c_at
    ];
    order = two_order may sure k lines h.order h.sets (record { heading = hd; name = Opens id; formula = opening })
        (record { heading = None; name = Closes id; formula = closing }) refl refl (opening_reads may sure x.kind l b)
        (closing_reads may sure x.kind g l b);
    sets = two_sets may sure k lines h.order h.sets (record { heading = hd; name = Opens id; formula = opening })
        (record { heading = None; name = Closes id; formula = closing }) refl refl (opening_reads may sure x.kind l b)
        (closing_reads may sure x.kind g l b);
  }

pub releases_push : (hd : Option Heading) (d : Diagram) (may sure : ℕ) (gap load bond : List TermPair) (k : ℕ) (lines : List Line) →
    MeansReleases d may sure gap load bond k lines → (x : Switch) → slice_get d.switches k ≡ Some x → (g l b : TermPair) →
    slice_get gap k ≡ Some g → slice_get load k ≡ Some l → slice_get bond k ≡ Some b → (opens closes : Formula) →
    opens ≡ release_in None (load_denial_in x.kind (pair_in may l) (pair_in sure b)) →
    closes ≡ release_in (gap_denial_in x.kind (pair_in may g)) (load_denial_in x.kind (pair_in may l) (pair_in sure b)) →
    MeansReleases d may sure gap load bond (k + 1)
    ((lines ++ (record { heading = hd; name = Opens (record { 0 = k }); formula = opens }) ∷ [])
    ++ (record { heading = None; name = Closes (record { 0 = k }); formula = closes }) ∷ [])
releases_push hd d may sure gap load bond k lines h x listed g l b g_at l_at b_at opens closes e f =
    subst (λ (o : Formula). MeansReleases d may sure gap load bond (k + 1)
    ((lines ++ (record { heading = hd; name = Opens (record { 0 = k }); formula = o }) ∷ [])
    ++ (record { heading = None; name = Closes (record { 0 = k }); formula = closes }) ∷ [])) (sym e)
    (subst (λ (o : Formula). MeansReleases d may sure gap load bond (k + 1)
    ((lines ++ (record {
      heading = hd;
      name = Opens (record { 0 = k });
      formula = release_in None (load_denial_in x.kind (pair_in may l) (pair_in sure b));
    }) ∷ [])
    ++ (record { heading = None; name = Closes (record { 0 = k }); formula = o }) ∷ [])) (sym f)
    (releases_more hd d may sure gap load bond k lines h x listed g l b g_at l_at b_at))
