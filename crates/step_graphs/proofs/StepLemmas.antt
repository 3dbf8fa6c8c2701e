-- The rows of the steps and the spans of the nodes, one by one.
use Rattle.std.proofs.Common.{◌≡◌, ℕ, ◌+◌, ◌<◌, ◌≤◌, ◌⊎◌, ◌↔◌, zero, suc, Bool, true, false, List, [], ◌∷◌, ◌++◌, length}
use Rattle.std.proofs.Common.{get_or, slice_get, Some, refl, sym, ap, ◌∙◌, subst, inl, inr, arith}
use Rattle.std.specs.Prelude.{IsTrue}
use Rattle.std.proofs.lemmas.Bool.{cases_lt, cases_eq}
use Rattle.std.proofs.lemmas.List.{length_push}
use Rattle.std.proofs.lemmas.Option.{slice_get_within, same_Some, slice_get-get_or, get_or_from_slice_get}
use Rattle.station_graph.proofs.PathLemmas.{slice_get-push}
use Rattle.station_graph.specs.Diagram.{Diagram, IsStation, node_count}
use Rattle.station_graph.specs.Connection.{Item}
use Rattle.station_graph.specs.Sharing.{Touches, TouchedBy}
use Rattle.contraction.specs.Answers.{Answers}
use Rattle.contraction.specs.Stands.{Among}
use Rattle.step_graphs.specs.Steps.{items_in, StepTouches}
use Rattle.judge_pool.specs.declared.pool.Pool.{Pool}
use Rattle.judge_pool.specs.Graphs.{other_of}
use Rattle.judge_pool.proofs.LayeringLemmas.{Grows}
use Rattle.judge_intake.proofs.InputsLemmas.{copy_stays}
use Rattle.judge_intake.proofs.OtherLemmas.{other_cases, element}
use Rattle.judge_intake.proofs.NodesLemmas.{touched_node}
use Rattle.step_graphs.specs.declared.step.Step.{Step}
use Rattle.step_graphs.specs.declared.spans.Span.{Span}
use Rattle.step_graphs.specs.Letters.{HasLetter, IsStepRow, AreStepRows}
use Rattle.step_graphs.specs.Needing.{TouchedAt, TouchedBefore, TouchedFrom, IsNeeded, AreSpans, Spans, SpannedAt}
use Rattle.step_graphs.specs.Touching.{IsAfter}

-- ---- rows

pub no_place : {X : Type 0} (i : ℕ) (x : X) → slice_get {X = X} [] i ≡ Some x → ⊥
no_place zero x at = cc
no_place (suc i) x at = cc

module _ (p q : Pool) (g : Grows p q) where
  pub letter_stays : (d : Diagram) (s : Step) (closed : Bool) (x : Answers) (id : ℕ) → HasLetter p d s closed x id →
      HasLetter q d s closed x id
  letter_stays d s closed x id h = record { is = h.is; copy = copy_stays p q g x id h.copy }

  pub row_stays : (d : Diagram) (s : Step) (xs : List Answers) (ids : List ℕ) → IsStepRow p d s xs ids →
      IsStepRow q d s xs ids
  row_stays d s xs ids h = record {
    open_letter = h.open_letter;
    closed_letter = h.closed_letter;
    open_id = h.open_id;
    closed_id = h.closed_id;
    both = h.both;
    two = h.two;
    open_has = letter_stays d s false h.open_letter h.open_id h.open_has;
    closed_has = letter_stays d s true h.closed_letter h.closed_id h.closed_has;
  }

  pub step_rows_stay : (d : Diagram) (steps : List Step) (rows : List (List ℕ)) (n : ℕ) →
      AreStepRows p d steps rows n → AreStepRows q d steps rows n
  step_rows_stay d steps rows n h = record {
    letters = h.letters;
    len = h.len;
    letters_len = h.letters_len;
    each = λ k s xs ids at_s at_xs at_ids. row_stays d s xs ids (h.each k s xs ids at_s at_xs at_ids);
  }

  pub step_rows_more : (d : Diagram) (steps : List Step) (rows : List (List ℕ)) (n : ℕ) (s : Step) (xs : List Answers)
      (ids : List ℕ) → AreStepRows p d steps rows n → slice_get steps n ≡ Some s → IsStepRow q d s xs ids →
      AreStepRows q d steps (rows ++ ids ∷ []) (n + 1)
  step_rows_more d steps rows n s xs ids h at row = record {
    letters = h.letters ++ xs ∷ [];
    len = omega (arith, length_push rows ids, h.len);
    letters_len = omega (arith, length_push h.letters xs, h.letters_len);
    each = λ k t ys js at_t at_ys at_js. elim (slice_get-push rows ids js k at_js) [
      | inl before ↦ elim (slice_get-push h.letters xs ys k at_ys) [
        | inl letter_before ↦ row_stays d t ys js (h.each k t ys js at_t letter_before before)
        | inr letter_here ↦
            absurd (omega (
              arith,
              slice_get_within rows k js before,
              h.len,
              h.letters_len,
              letter_here.0,
            ))
      ]
      | inr here ↦ elim (slice_get-push h.letters xs ys k at_ys) [
        | inl letter_before ↦
            absurd (omega (
              arith,
              slice_get_within h.letters k ys letter_before,
              h.len,
              h.letters_len,
              here.0,
            ))
        | inr letter_here ↦
            let e : k ≡ n = here.0 ∙ h.len in
            let same : s ≡ t = same_Some s t (sym at ∙ (ap (slice_get steps) (sym e) ∙ at_t)) in
            subst (λ (z : Step). IsStepRow q d z ys js) same
            (subst (λ zs. IsStepRow q d s zs js) letter_here.1 (subst (λ is. IsStepRow q d s xs is) here.1 row))
      ]
    ];
  }

pub step_rows_none : (p : Pool) (d : Diagram) (steps : List Step) → AreStepRows p d steps [] 0
step_rows_none p d steps = record {
  letters = [];
  len = refl;
  letters_len = refl;
  each = λ k s xs ids at_s at_xs at_ids. absurd (no_place k ids at_ids);
}

-- ---- spans

module _ (d : Diagram) (steps : List Step) (b node : ℕ) where
  pub after_none : IsAfter d steps b node 0 0
  after_none = record {
    small = omega arith;
    each = λ j. (λ h. absurd (omega (arith, h.2)), λ h. absurd (omega (arith, h)));
  }

  pub after_here : (n after : ℕ) → IsAfter d steps b node n after → TouchedAt d steps (other_of 0 b n) node →
      IsAfter d steps b node (n + 1) (n + 1)
  after_here n after h t = record {
    small = omega arith;
    each = λ j. (λ w. omega (arith, w.1, w.2), λ lt. (n, omega (arith, lt), omega arith, t));
  }

  pub after_skip : (n after : ℕ) → IsAfter d steps b node n after → (TouchedAt d steps (other_of 0 b n) node → ⊥) →
      IsAfter d steps b node (n + 1) after
  after_skip n after h none = record {
    small = omega (arith, h.small);
    each = λ j. (
      λ w. elim (cases_eq w.0 n) [
        | inl e ↦ absurd (none (subst (λ k. TouchedAt d steps (other_of 0 b k) node) e w.3))
        | inr ne ↦ (h.each j).0 (w.0, w.1, omega (arith, w.2, ne), w.3)
      ],
      λ lt. (let w = (h.each j).1 lt in (w.0, w.1, omega (arith, w.2), w.3)),
    );
  }

  pub other_small : (others k : ℕ) → suc others ≡ length steps → b < length steps →
      TouchedAt d steps (other_of 0 b k) node → k < others
  other_small others k count b_in t =
      let lt = slice_get_within steps (other_of 0 b k) t.0 t.1 in
      elim (other_cases 0 b k) [
        | inl x ↦ omega (arith, x.0, x.1, lt, count, b_in)
        | inr x ↦ omega (arith, x.0, x.1, lt, count)
      ]

  pub after_all : (others after : ℕ) → suc others ≡ length steps → b < length steps →
      IsAfter d steps b node others after → (j : ℕ) → TouchedFrom d steps b j node ↔ (j < after)
  after_all others after count b_in h j = (
    λ w. (h.each j).0 (w.0, w.1, other_small others w.0 count b_in w.2, w.2),
    λ lt. (let w = (h.each j).1 lt in (w.0, w.1, w.3)),
  )

  -- the first touch
  pub first_all : (others first : ℕ) → ((k : ℕ) → k < first → TouchedAt d steps (other_of 0 b k) node → ⊥) →
      ((first ≡ others) ⊎ TouchedAt d steps (other_of 0 b first) node) → (j : ℕ) → j ≤ others →
      TouchedBefore d steps b j node ↔ (first < j)
  first_all others first none end j le = (
    λ w. elim (cases_lt first j) [
      | inl lt ↦ lt
      | inr more ↦ absurd (none w.0 (omega (arith, w.1, more)) w.2)
    ],
    λ lt. elim end [
      | inl e ↦ absurd (omega (arith, lt, le, e))
      | inr t ↦ (first, lt, t)
    ],
  )

-- ---- nodes that are needed

module _ (d : Diagram) (station : IsStation d) (steps : List Step) (b others : ℕ) (count : suc others ≡ length steps)
    (spans : List Span) (are : AreSpans d steps b others spans (node_count d)) (j : ℕ) (le : j ≤ others) where
  needed_spans : (n : ℕ) → IsNeeded d steps b j n → SpannedAt spans j n
  needed_spans n h =
      let lt = touched_node d station h.before.2.2.item n h.before.2.2.touches in
      let (s, at) = element spans n (omega (arith, lt, are.len)) in
      let is = are.each n s at in (
        s,
        at,
        (
          (is.begins j le).0 h.before,
          elim h.after [
            | inl own ↦ inl (is.own.1 own)
            | inr later ↦ inr ((is.ends j).0 later)
          ],
        ),
      )

  spans_needed : (n : ℕ) → SpannedAt spans j n → IsNeeded d steps b j n
  spans_needed n (s, at, over) =
      let is = are.each n s at in
      record {
        before = (is.begins j le).1 over.0;
        after = elim over.1 [
          | inl own ↦ inl (is.own.0 own)
          | inr later ↦ inr ((is.ends j).1 later)
        ];
      }

  pub spanned_needed : (n : ℕ) → SpannedAt spans j n ↔ IsNeeded d steps b j n
  spanned_needed n = (spans_needed n, needed_spans n)

-- ---- what is read

pub spanned_at : (spans : List Span) (k j : ℕ) (none : Span) → k < length spans → Spans j (get_or spans k none) →
    SpannedAt spans j k
spanned_at spans k j none lt over = (get_or spans k none, slice_get-get_or spans k none lt, over)

pub at_spanned : (spans : List Span) (k j : ℕ) (none : Span) → SpannedAt spans j k → Spans j (get_or spans k none)
at_spanned spans k j none (s, at, over) =
    subst (λ (z : Span). Spans j z) (sym (get_or_from_slice_get spans k s none at)) over

pub one_touches : (d : Diagram) (it : Item) (n : ℕ) → Touches d it n ↔ TouchedBy (Among (it ∷ [])) d n
one_touches d it n = (
  λ t. record { item = it; among = inl refl; touches = t },
  λ t. elim t.among [
    | inl e ↦ subst (λ i. Touches d i n) e t.touches
    | inr never ↦ absurd never
  ],
)

pub touch_told : {X : Type 0} (P : X → Type 0) (xs : List X) (i : ℕ) (x : X) (r : Bool) → slice_get xs i ≡ Some x →
    IsTrue r ↔ P x → IsTrue r ↔ ((y : X) × (slice_get xs i ≡ Some y) × P y)
touch_told P xs i x r at same = (
  λ t. (x, at, same.0 t),
  λ w. same.1 (subst P (same_Some w.0 x (sym w.1 ∙ at)) w.2),
)

pub step_told : (d : Diagram) (s : Step) (it : Item) (n : ℕ) (r : Bool) → items_in s ≡ it ∷ [] →
    IsTrue r ↔ Touches d it n → IsTrue r ↔ StepTouches d s n
step_told d s it n r items same =
    subst (λ xs. IsTrue r ↔ TouchedBy (Among xs) d n) (sym items) (
      λ t. (one_touches d it n).0 (same.0 t),
      λ t. same.1 ((one_touches d it n).1 t),
    )
