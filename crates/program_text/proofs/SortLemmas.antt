-- Lines that are taken section by section are in order.
use Rattle.std.proofs.Common.{◌≡◌, ◌≢◌, ◌⊎◌, ◌++◌, ◌∙◌, ◌<◌, ◌≤◌, ◌+◌, ℕ, List, [], ◌∷◌, length, slice_get, Some}
use Rattle.std.proofs.Common.{sym, ap, subst, inl, inr, arith}
use Rattle.std.specs.Prelude.{Option}
use Rattle.std.proofs.lemmas.Bool.{cases_eq}
use Rattle.std.proofs.lemmas.Option.{slice_get_within}
use Rattle.structured_text.specs.declared.line.Heading.{Heading}
use Rattle.structured_text.specs.declared.line.Line.{Line}
use Rattle.structured_text.specs.Reads.{FormulaReads}
use Rattle.structured_text.specs.Order.{IsInput, IsSetIn, IsSetBefore, AreInOrder}
use Rattle.structured_text.proofs.OrderLemmas.{reads_both, none_in_order, set_left, set_last, last_set, one_more_in_order}
use Rattle.interlock_terms.proofs.TermLemmas.{push_cases}
use Rattle.program_text.specs.declared.section_order.TheConstants.{LAST}
use Rattle.program_text.specs.Sections.{section_at, AreKeysSmall, RisesTo, KeysRise, AreSortedTo, AreReordered}

nothing : (k : ℕ) (y : Line) → slice_get [] k ≡ Some y → ⊥
nothing k y at = cc at

pub sorted_none : (lines : List Line) (keys : List ℕ) → AreSortedTo lines keys 0 0 []
sorted_none lines keys = record {
  order = none_in_order IsInput;
  among = λ n x at. absurd (nothing n x at);
  sets = λ m. (
    λ (k, y, at, is). absurd (nothing k y at),
    λ (k, y, at, is, taken). absurd (elim taken [
      | inl low ↦ omega (arith, low)
      | inr here ↦ let low = here.1 in omega (arith, low)
    ]),
  );
}

module _ (lines : List Line) (keys : List ℕ) (section : ℕ) where
  -- a line of another section is passed
  pub sorted_pass : (n : ℕ) (sorted : List Line) → AreSortedTo lines keys section n sorted → section_at keys n ≢ section →
      AreSortedTo lines keys section (n + 1) sorted
  sorted_pass n sorted h other = record {
    order = h.order;
    among = h.among;
    sets = λ m. (
      λ set.
          let (k, y, at, is, taken) = (h.sets m).0 set in
          (k, y, at, is, elim taken [ inl low ↦ inl low | inr here ↦ inr (here.0, let low = here.1 in omega (arith, low)) ]),
      λ (k, y, at, is, taken). (h.sets m).1 (
        k,
        y,
        at,
        is,
        elim taken [
          | inl low ↦ inl low
          | inr here ↦ inr (
            here.0,
            elim (cases_eq k n) [
              | inl e ↦ absurd (other (ap (section_at keys) (sym e) ∙ here.0))
              | inr far ↦ let low = here.1 in omega (arith, low, far)
            ],
          )
        ],
      ),
    );
  }

  -- behind the last line begins the next section
  pub sorted_next : (n : ℕ) (sorted : List Line) → length lines ≤ n → AreSortedTo lines keys section n sorted →
      AreSortedTo lines keys (section + 1) 0 sorted
  sorted_next n sorted all h = record {
    order = h.order;
    among = h.among;
    sets = λ m. (
      λ set.
          let (k, y, at, is, taken) = (h.sets m).0 set in (
            k,
            y,
            at,
            is,
            inl (elim taken [
              | inl low ↦ omega (arith, low)
              | inr here ↦ let e = here.0 in omega (arith, e)
            ]),
          ),
      λ (k, y, at, is, taken). (h.sets m).1 (
        k,
        y,
        at,
        is,
        elim taken [
          | inl low ↦ elim (cases_eq (section_at keys k) section) [
            | inl e ↦ let within = slice_get_within lines k y at in inr (e, omega (arith, within, all))
            | inr far ↦ inl (omega (arith, low, far))
          ]
          | inr here ↦ absurd (let low = here.1 in omega (arith, low))
        ],
      ),
    );
  }

  module _ (order : AreInOrder IsInput lines) (rise : KeysRise lines keys (length lines)) (n : ℕ) (x : Line)
      (listed : slice_get lines n ≡ Some x) (here : section_at keys n ≡ section) (hd : Option Heading) (sorted : List Line)
      (h : AreSortedTo lines keys section n sorted) where
    abbrev l : Line
    l = record { heading = hd; name = x.name; formula = x.formula }

    abbrev more : List Line
    more = sorted ++ l ∷ []

    -- it reads inputs and what is taken
    ready : FormulaReads (λ m. IsInput m ⊎ IsSetIn sorted m) x.formula
    ready =
        let within = slice_get_within lines n x listed in
        reads_both (λ m. IsInput m ⊎ IsSetBefore lines n m) (RisesTo lines keys n) (λ m. IsInput m ⊎ IsSetIn sorted m)
        (λ m set rises. elim set [
          | inl input ↦ inl input
          | inr (k, y, low, at, is) ↦
              let up : section_at keys k ≤ section_at keys n = rises k y low at (order.own k y at) is in
              inr ((h.sets m).1 (
                k,
                y,
                at,
                is,
                elim (cases_eq (section_at keys k) section) [
                  | inl e ↦ inr (e, low)
                  | inr far ↦ inl (omega (arith, up, here, far))
                ],
              ))
        ]) x.formula (order.reads n x listed) (rise n x within listed)

    -- it is not taken yet
    not_yet : ¬ IsSetIn sorted x.name
    not_yet set =
        let (k, y, at, is, taken) = (h.sets x.name).0 set in
        let same : k ≡ n = order.once k n y x at listed is in
        elim taken [
          | inl low ↦
              let e : section_at keys k ≡ section_at keys n = ap (section_at keys) same in omega (arith, low, e, here)
          | inr there ↦ let low = there.1 in omega (arith, low, same)
        ]

    pub sorted_push : AreSortedTo lines keys section (n + 1) more
    sorted_push = record {
      order = one_more_in_order IsInput sorted l h.order ready (order.own n x listed) not_yet;
      among = λ i y at. elim (push_cases sorted l y i at) [
        | inl old ↦ h.among i y old
        | inr new ↦
            let is = new.1 in
            (n, x, listed, ap (λ (z : Line). z.name) is, ap (λ (z : Line). z.formula) is)
      ];
      sets = λ m. (
        λ set. elim (set_last sorted l m set) [
          | inl old ↦
              let (k, y, at, is, taken) = (h.sets m).0 old in (
                k,
                y,
                at,
                is,
                elim taken [
                  | inl low ↦ inl low
                  | inr there ↦ inr (there.0, let low = there.1 in omega (arith, low))
                ],
              )
          | inr e ↦ (n, x, listed, e, inr (here, omega arith))
        ],
        λ (k, y, at, is, taken). elim (cases_eq k n) [
          | inl e ↦
              let at_n : slice_get lines n ≡ Some y = subst (λ i. slice_get lines i ≡ Some y) e at in
              let same : x ≡ y = cc (listed, at_n) in
              subst (IsSetIn more) (ap (λ (z : Line). z.name) same ∙ is) (last_set sorted l)
          | inr far ↦ set_left sorted (l ∷ []) m ((h.sets m).1 (
            k,
            y,
            at,
            is,
            elim taken [
              | inl low ↦ inl low
              | inr there ↦ inr (there.0, let low = there.1 in omega (arith, low, far))
            ],
          ))
        ],
      );
    }

-- behind the last section all are taken
pub all_sorted : (lines : List Line) (keys : List ℕ) (section : ℕ) (sorted : List Line) → LAST < section → AreKeysSmall keys →
    AreSortedTo lines keys section 0 sorted → AreReordered lines sorted
all_sorted lines keys section sorted last small h = record {
  order = h.order;
  among = h.among;
  sets = λ m (k, y, at, is). (h.sets m).1 (k, y, at, is, inl (let low = small k in omega (arith, low, last)));
}
