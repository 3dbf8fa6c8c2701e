-- The lines of formulas, one after another.
use Rattle.std.proofs.Common.{◌≡◌, ◌≢◌, ◌↔◌, ◌⊎◌, ◌++◌, ◌∙◌, ◌<◌, ◌+◌, ◌&&◌, ◌||◌, ℕ, List, [], ◌∷◌, Bool, true}
use Rattle.std.proofs.Common.{false, slice_get, get_or, Some, refl, sym, ap, subst, inl, inr, arith}
use Rattle.std.specs.Prelude.{nat_lt, Option}
use Rattle.std.proofs.lemmas.Bool.{cases_eq, false≢true}
use Rattle.std.proofs.lemmas.Bool.Decides.{nat_tests}
use Rattle.std.proofs.lemmas.Option.{slice_get_within, slice_get-get_or}
use Rattle.ilk_base.specs.declared.words.SwitchId.{SwitchId}
use Rattle.interlock_terms.specs.declared.term.Term.{Term}
use Rattle.interlock_terms.specs.declared.term.Term.TheVariants.{Always, Closed, Both, Either}
use Rattle.interlock_terms.specs.Terms.{Values, IsTrueAt, Says, Solves, RefersBelow, AreOrdered}
use Rattle.interlock_terms.proofs.SolveLemmas.{evaluated_solves}
use Rattle.structured_text.specs.declared.name.Name.{Name}
use Rattle.structured_text.specs.declared.name.Name.TheVariants.{Off, On}
use Rattle.structured_text.specs.declared.line.Heading.{Heading}
use Rattle.structured_text.specs.declared.line.Line.{Line}
use Rattle.structured_text.specs.Meaning.{Store, operand_value, value, same_name, after}
use Rattle.program_text.specs.declared.reading.Reading.{Reading}
use Rattle.program_text.specs.declared.reading.Reading.TheVariants.{May as AsClosed, Sure as AsOpen}
use Rattle.program_text.specs.declared.place.Place.{Place}
use Rattle.program_text.specs.declared.place.Place.TheVariants.{Inside, Named}
use Rattle.program_text.specs.Names.{name_in}
use Rattle.program_text.specs.Places.{IsNamed, IsRead, EachNamed, IsOfTwo, ArePlaced}
use Rattle.program_text.specs.TermLines.{leaf_in, position_in, inside_in, operand_in, side_in, formula_in, counts_in}
use Rattle.program_text.specs.TermLines.{positions, values_in, IsSetBy, MeansTerms}
use Rattle.program_text.proofs.PositionValues.{position_of, positions_length}
use Rattle.program_text.proofs.PlaceLemmas.{place_is}
use Rattle.program_text.proofs.TermOrder.{formula_reads, no_input, name_once}
use Rattle.structured_text.specs.Order.{IsInput, IsSetIn}
use Rattle.structured_text.proofs.OrderLemmas.{none_in_order, set_last, last_set, set_left, one_more_in_order}
use Rattle.structured_text.proofs.StoreLemmas.{eq_true, eq_false, chosen, passed, same_true, is_set, not_set}

lt_true : (a b : ℕ) → a < b → nat_lt a b ≡ true
lt_true a b low = grind (arith, nat_tests)

lt_from : (a b : ℕ) → nat_lt a b ≡ true → a < b
lt_from a b e = grind (arith, nat_tests)

lt_not : (a b : ℕ) → nat_lt a b ≡ false → a < b → ⊥
lt_not a b e low = grind (arith, nat_tests)

both_true : (a b : Bool) → (a && b) ≡ true → (a ≡ true) × (b ≡ true)
both_true true b e = (refl, e)
both_true false b e = absurd (false≢true e)

true_both : (a b : Bool) → a ≡ true → b ≡ true → (a && b) ≡ true
true_both true b e f = f
true_both false b e f = absurd (false≢true e)

one_true : (a b : Bool) → (a || b) ≡ true → (a ≡ true) ⊎ (b ≡ true)
one_true true b e = inl refl
one_true false b e = inr e

true_first : (a b : Bool) → a ≡ true → (a || b) ≡ true
true_first true b e = refl
true_first false b e = absurd (false≢true e)

true_second : (a b : Bool) → b ≡ true → (a || b) ≡ true
true_second true b e = refl
true_second false b e = e

same_bit : (a b : Bool) → Some a ≡ Some b → a ≡ b
same_bit a b e = cc

same_self : (r : Reading) (k : ℕ) → same_name (name_in r k) (name_in r k) ≡ true
same_self AsClosed k = eq_true k k refl
same_self AsOpen k = eq_true k k refl

same_other : (r : Reading) (k j : ℕ) → k ≢ j → same_name (name_in r k) (name_in r j) ≡ false
same_other AsClosed k j ne = eq_false k j ne
same_other AsOpen k j ne = eq_false k j ne

off_apart : (r : Reading) (places : List Place) (k : ℕ) (i : SwitchId) → ¬ IsSetBy r places k (Off i)
off_apart AsClosed places k i (j, low, named, e) = cc e
off_apart AsOpen places k i (j, low, named, e) = cc e

on_apart : (r : Reading) (places : List Place) (k : ℕ) (i : SwitchId) → ¬ IsSetBy r places k (On i)
on_apart AsClosed places k i (j, low, named, e) = cc e
on_apart AsOpen places k i (j, low, named, e) = cc e

pub means_none : (r : Reading) (count : ℕ) (terms : List Term) (places : List Place) → MeansTerms r count terms places 0 []
means_none r count terms places = record {
  others = λ s m ne. refl;
  values = λ s j low. absurd (omega (arith, low));
  order = none_in_order IsInput;
  sets = λ m. (λ (j, y, at, is). absurd (nothing j y at), λ (j, low, named, e). absurd (omega (arith, low)));
}
  where
    nothing : (j : ℕ) (y : Line) → slice_get [] j ≡ Some y → ⊥
    nothing j y at = cc at

-- a formula that has no line
pub means_skip : (r : Reading) (count : ℕ) (terms : List Term) (places : List Place) (k : ℕ) (lines : List Line) →
    MeansTerms r count terms places k lines → ¬ IsNamed places k → MeansTerms r count terms places (k + 1) lines
means_skip r count terms places k lines h none = record {
  others = λ s m ne. h.others s m (λ (j, low, named, e). ne (j, omega (arith, low), named, e));
  values = λ s j low named. elim (cases_eq j k) [
    | inl e ↦ absurd (none (subst (IsNamed places) e named))
    | inr far ↦ h.values s j (omega (arith, low, far)) named
  ];
  order = h.order;
  sets = λ m. (
    λ set. let (j, low, named, e) = (h.sets m).0 set in (j, omega (arith, low), named, e),
    λ (j, low, named, e). (h.sets m).1 (
      j,
      elim (cases_eq j k) [
        | inl same ↦ absurd (none (subst (IsNamed places) same named))
        | inr far ↦ omega (arith, low, far)
      ],
      named,
      e,
    ),
  );
}

-- ---- what stands for a formula
module _ (r : Reading) (count : ℕ) (terms : List Term) (places : List Place) (placed : ArePlaced terms places)
    (ordered : AreOrdered terms) (t : Store) (v : Values) (solves : Solves v terms) (k : ℕ)
    (below : (j : ℕ) → j < k → IsNamed places j → (t (name_in r j) ≡ true) ↔ IsTrueAt v j) where
  -- inside a line: both of two that have lines, or one of them
  inside_means : (n : ℕ) → n < k → (u : Term) → slice_get terms n ≡ Some u → IsOfTwo (IsNamed places) u → RefersBelow n u →
      (operand_value t (inside_in r u n) ≡ true) ↔ IsTrueAt v n
  inside_means n low Always at two lower = absurd two
  inside_means n low (Closed i) at two lower = absurd two
  inside_means n low (Both a b) at two lower =
      let a_low = lower.0 in
      let b_low = lower.1 in
      let x = below a (omega (arith, a_low, low)) two.0 in
      let y = below b (omega (arith, b_low, low)) two.1 in
      let s = solves n (Both a b) at in (
        λ w. let z = both_true (t (name_in r a)) (t (name_in r b)) w in s.1 (x.0 z.0, y.0 z.1),
        λ w. let z = s.0 w in true_both (t (name_in r a)) (t (name_in r b)) (x.1 z.0) (y.1 z.1),
      )
  inside_means n low (Either a b) at two lower =
      let a_low = lower.0 in
      let b_low = lower.1 in
      let x = below a (omega (arith, a_low, low)) two.0 in
      let y = below b (omega (arith, b_low, low)) two.1 in
      let s = solves n (Either a b) at in (
        λ w. elim (one_true (t (name_in r a)) (t (name_in r b)) w) [
          | inl z ↦ s.1 (inl (x.0 z))
          | inr z ↦ s.1 (inr (y.0 z))
        ],
        λ w. elim (s.0 w) [
          | inl z ↦ true_first (t (name_in r a)) (t (name_in r b)) (x.1 z)
          | inr z ↦ true_second (t (name_in r a)) (t (name_in r b)) (y.1 z)
        ],
      )

  side_means : (n : ℕ) → n < k → IsRead places n → (operand_value t (side_in r terms places n) ≡ true) ↔ IsTrueAt v n
  side_means n low (inl named) =
      let e = place_is places n Named named in
      subst (λ p. (operand_value t (operand_in r p (get_or terms n Always) n) ≡ true) ↔ IsTrueAt v n) (sym e)
      (below n low named)
  side_means n low (inr inside) =
      let e = place_is places n Inside inside in
      let within = slice_get_within places n Inside inside in
      let len = placed.len in
      let at : slice_get terms n ≡ Some (get_or terms n Always) = slice_get-get_or terms n Always (omega (arith, within, len)) in
      subst (λ p. (operand_value t (operand_in r p (get_or terms n Always) n) ≡ true) ↔ IsTrueAt v n) (sym e)
      (inside_means n low (get_or terms n Always) at (placed.inside n (get_or terms n Always) at inside)
      (ordered n (get_or terms n Always) at))

  -- what a formula says
  pub says : ((i : SwitchId) → (value t (leaf_in r count i) ≡ true) ↔ (slice_get v.closed i.0 ≡ Some true)) →
      (u : Term) → RefersBelow k u → EachNamed (IsRead places) u →
      (value t (formula_in r count terms places u) ≡ true) ↔ Says v u
  says leaf Always lower reads = (λ w. tt, λ w. refl)
  says leaf (Closed i) lower reads = leaf i
  says leaf (Both a b) lower reads =
      let x = side_means a lower.0 reads.0 in
      let y = side_means b lower.1 reads.1 in
      let p = operand_value t (side_in r terms places a) in
      let q = operand_value t (side_in r terms places b) in (
        λ w. let z = both_true p q w in (x.0 z.0, y.0 z.1),
        λ w. true_both p q (x.1 w.0) (y.1 w.1),
      )
  says leaf (Either a b) lower reads =
      let x = side_means a lower.0 reads.0 in
      let y = side_means b lower.1 reads.1 in
      let p = operand_value t (side_in r terms places a) in
      let q = operand_value t (side_in r terms places b) in (
        λ w. elim (one_true p q w) [ inl z ↦ inl (x.0 z) | inr z ↦ inr (y.0 z) ],
        λ w. elim w [ inl z ↦ true_first p q (x.1 z) | inr z ↦ true_second p q (y.1 z) ],
      )

module _ (hd : Option Heading) (r : Reading) (count : ℕ) (terms : List Term) (places : List Place)
    (placed : ArePlaced terms places) (k : ℕ) (lines : List Line) (h : MeansTerms r count terms places k lines) where
  value_leaf : (q : Reading) (t : Store) (i : SwitchId) → value t (position_in q i) ≡ counts_in q (t (Off i)) (t (On i))
  value_leaf AsClosed t i = refl
  value_leaf AsOpen t i = refl

  module _ (s : Store) where
    abbrev v : Values
    v = values_in r count s terms

    leaf_means : (i : SwitchId) → (value (after lines s) (leaf_in r count i) ≡ true) ↔
        (slice_get (positions r s count) i.0 ≡ Some true)
    leaf_means i = by (nat_lt i.0 count) refl
      where
        by : (b : Bool) → nat_lt i.0 count ≡ b → (value (after lines s) (leaf_in r count i) ≡ true) ↔
            (slice_get (positions r s count) i.0 ≡ Some true)
        by true e =
            let low = lt_from i.0 count e in
            let at : slice_get (positions r s count) i.0 ≡ Some (counts_in r (s (Off i)) (s (On i))) = position_of r s count i.0 low in
            let leaf = ap (λ f. value (after lines s) f) (chosen (nat_lt i.0 count) (position_in r i) _ e)
            ∙ (value_leaf r (after lines s) i
            ∙ (ap (λ b. counts_in r b (after lines s (On i))) (h.others s (Off i) (off_apart r places k i))
            ∙ ap (λ b. counts_in r (s (Off i)) b) (h.others s (On i) (on_apart r places k i)))) in (
              λ w. at ∙ ap Some (sym leaf ∙ w),
              λ w. leaf ∙ same_bit (counts_in r (s (Off i)) (s (On i))) true (sym at ∙ w),
            )
        by false e =
            let leaf = ap (λ f. value (after lines s) f) (passed (nat_lt i.0 count) (position_in r i) _ e) in (
              λ w. absurd (false≢true (sym leaf ∙ w)),
              λ w. absurd (lt_not i.0 count e
                  (let low = slice_get_within (positions r s count) i.0 true w in
                  let len = positions_length r s 0 count in
                  omega (arith, low, len))),
            )

    here : AreOrdered terms → (u : Term) → slice_get terms k ≡ Some u → IsNamed places k →
        (value (after lines s) (formula_in r count terms places u) ≡ true) ↔ Says v u
    here ordered u at named =
        says r count terms places placed ordered (after lines s) v (evaluated_solves (positions r s count) terms ordered) k
        (λ j low line. h.values s j low line) leaf_means u (ordered k u at) (placed.named k u at named)

  abbrev line_of : Term → Line
  line_of t = record { heading = hd; name = name_in r k; formula = formula_in r count terms places t }

  others_more : IsNamed places k → (t : Term) (s : Store) (m : Name) → ¬ IsSetBy r places (k + 1) m →
      after (lines ++ line_of t ∷ []) s m ≡ s m
  others_more named t s m ne = by (same_name (name_in r k) m) refl
    where
      by : (b : Bool) → same_name (name_in r k) m ≡ b → after (lines ++ line_of t ∷ []) s m ≡ s m
      by true e = absurd (ne (k, omega arith, named, sym (same_true (name_in r k) m e)))
      by false e =
          not_set lines (line_of t) s m e
          ∙ h.others s m (λ (j, low, line, is). ne (j, omega (arith, low), line, is))

  -- one line more
  pub means_more : AreOrdered terms → (t : Term) → slice_get terms k ≡ Some t → IsNamed places k →
      MeansTerms r count terms places (k + 1) (lines ++ line_of t ∷ [])
  means_more ordered t at named = record {
    others = others_more named t;
    values = λ s j low line. elim (cases_eq j k) [
      | inl e ↦
          let set = is_set lines (line_of t) s (same_self r k) in
          let w = here s ordered t at named in
          let z = evaluated_solves (positions r s count) terms ordered k t at in
          subst (λ i. (after (lines ++ line_of t ∷ []) s (name_in r i) ≡ true) ↔ IsTrueAt (values_in r count s terms) i)
          (sym e) (λ b. z.1 (w.0 (sym set ∙ b)), λ b. set ∙ w.1 (z.0 b))
      | inr far ↦
          let same = not_set lines (line_of t) s (name_in r j) (same_other r k j (λ e. far (sym e))) in
          let w = h.values s j (omega (arith, low, far)) line in
          (λ b. w.0 (sym same ∙ b), λ b. same ∙ w.1 b)
    ];
    order = one_more_in_order IsInput lines (line_of t) h.order
        (formula_reads r count terms places placed ordered k (λ m. IsInput m ⊎ IsSetIn lines m) (λ m i. inl i)
        (λ j low line. inr ((h.sets (name_in r j)).1 (j, low, line, refl))) t (ordered k t at) (placed.named k t at named))
        (no_input r k) (λ set.
        let (j, low, line, e) = (h.sets (name_in r k)).0 set in
        let same = name_once r k j e in omega (arith, low, same));
    sets = λ m. (
      λ set. elim (set_last lines (line_of t) m set) [
        | inl old ↦ let (j, low, line, e) = (h.sets m).0 old in (j, omega (arith, low), line, e)
        | inr e ↦ (k, omega arith, named, sym e)
      ],
      λ (j, low, line, e). elim (cases_eq j k) [
        | inl same ↦
            subst (IsSetIn (lines ++ line_of t ∷ [])) (ap (name_in r) (sym same) ∙ sym e) (last_set lines (line_of t))
        | inr far ↦
            set_left lines (line_of t ∷ []) m ((h.sets m).1 (j, omega (arith, low, far), line, e))
      ],
    );
  }

pub means_push : (r : Reading) (count : ℕ) (terms : List Term) (places : List Place) → ArePlaced terms places → (k : ℕ)
    (lines : List Line) → MeansTerms r count terms places k lines → AreOrdered terms → (t : Term) →
    slice_get terms k ≡ Some t → IsNamed places k → (hd : Option Heading) → (l : Line) →
    l ≡ record { heading = hd; name = name_in r k; formula = formula_in r count terms places t } →
    MeansTerms r count terms places (k + 1) (lines ++ l ∷ [])
means_push r count terms places placed k lines h ordered t at named hd l e =
    subst (λ (x : Line). MeansTerms r count terms places (k + 1) (lines ++ x ∷ [])) (sym e)
    (means_more hd r count terms places placed k lines h ordered t at named)
