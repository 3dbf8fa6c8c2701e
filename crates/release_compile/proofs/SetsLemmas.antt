-- Choices that are allowed one after another.
use Rattle.std.proofs.Common.{◌≡◌, ◌≢◌, ℕ, ◌+◌, ◌<◌, ◌≤◌, ◌⊎◌, ◌↔◌, zero, suc, Bool, true, false, List, [], ◌∷◌, ◌++◌}
use Rattle.std.proofs.Common.{length, get_or, set, replicate, eqb, slice_get, Some, refl, sym, ap, ◌∙◌, subst, inl, inr}
use Rattle.std.proofs.Common.{arith}
use Rattle.std.proofs.lemmas.Bool.{cases_eq, cases_lt, false≢true}
use Rattle.std.proofs.lemmas.List.{get_or-set_same, get_or-set_other, length-set, length_push, get_or_push, get_or_past}
use Rattle.std.proofs.lemmas.List.{get_or_append_left}
use Rattle.std.proofs.lemmas.Option.{same_Some}
use Rattle.ilk_base.specs.declared.words.Dbpos.{Dbpos}
use Rattle.double_points.specs.Words.{Agrees}
use Rattle.decision_graphs.specs.Label.{Layer}
use Rattle.decision_graphs.specs.Reaching.{IsSet, set_at, empty_sets}

-- new sets allow nothing
none_set : (n c : ℕ) → IsSet (replicate n false) c → ⊥
none_set zero zero h = false≢true h
none_set zero (suc c) h = false≢true h
none_set (suc n) zero h = false≢true h
none_set (suc n) (suc c) h = none_set n c h

pub empty_none : (ls : List Layer) (j c : ℕ) → IsSet (set_at (empty_sets ls) j) c → ⊥
empty_none [] zero zero h = false≢true h
empty_none [] zero (suc c) h = false≢true h
empty_none [] (suc j) zero h = false≢true h
empty_none [] (suc j) (suc c) h = false≢true h
empty_none (l ∷ ls) zero c h = none_set l.choices c h
empty_none (l ∷ ls) (suc j) c h = empty_none ls j c h

-- one place set
pub set_place : (s : List Bool) (c k : ℕ) → c < length s → IsSet (set s c true) k ↔ (IsSet s k ⊎ (k ≡ c))
set_place s c k lt = elim (cases_eq k c) [
  | inl e ↦ (λ h. inr e, λ h. ap (λ i. get_or (set s c true) i false) e ∙ get_or-set_same s c true false lt)
  | inr ne ↦
      let other : get_or (set s c true) k false ≡ get_or s k false = get_or-set_other s c k true false ne in
      (λ h. inl (sym other ∙ h), λ h. elim h [ inl old ↦ other ∙ old | inr e ↦ absurd (ne e) ])
]

module _ (old new : List (List Bool)) (layer choice : ℕ) (is : new ≡ set old layer (set (set_at old layer) choice true))
    (layer_in : layer < length old) (choice_in : choice < length (set_at old layer)) where
  here_is : set_at new layer ≡ set (set_at old layer) choice true
  here_is =
      ap (λ ss. get_or ss layer []) is ∙ get_or-set_same old layer (set (set_at old layer) choice true) [] layer_in

  pub allowed_here : (c : ℕ) → IsSet (set_at new layer) c ↔ (IsSet (set_at old layer) c ⊎ (c ≡ choice))
  allowed_here c =
      subst (λ s. IsSet s c ↔ (IsSet (set_at old layer) c ⊎ (c ≡ choice))) (sym here_is)
      (set_place (set_at old layer) choice c choice_in)

  pub allowed_there : (j : ℕ) → j ≢ layer → set_at new j ≡ set_at old j
  allowed_there j ne =
      ap (λ ss. get_or ss j []) is ∙ get_or-set_other old layer j (set (set_at old layer) choice true) [] ne

  pub allowed_count : length new ≡ length old
  allowed_count = ap length is ∙ length-set old layer (set (set_at old layer) choice true)

  pub allowed_lens : (j : ℕ) → length (set_at new j) ≡ length (set_at old j)
  allowed_lens j = elim (cases_eq j layer) [
    | inl e ↦
        ap (λ i. length (set_at new i)) e
        ∙ (ap length here_is ∙ (length-set (set_at old layer) choice true ∙ ap (λ i. length (set_at old i)) (sym e)))
    | inr ne ↦ ap length (allowed_there j ne)
  ]

-- The first n layers allow the choices of a kind, and the others nothing.
pub record FilledBelow (Kind : ℕ → ℕ → Type 0) (sets : List (List Bool)) (n : ℕ) : Type 0 where
  pub done : (j c : ℕ) → j < n → IsSet (set_at sets j) c ↔ Kind j c
  pub rest : (j c : ℕ) → n ≤ j → IsSet (set_at sets j) c → ⊥

pub filled_none : (Kind : ℕ → ℕ → Type 0) (sets : List (List Bool)) (ls : List Layer) → sets ≡ empty_sets ls →
    FilledBelow Kind sets 0
filled_none Kind sets ls e = record {
  done = λ j c lt. absurd (omega (arith, lt));
  rest = λ j c le h. empty_none ls j c (ap (λ ss. get_or (set_at ss j) c false) (sym e) ∙ h);
}

pub filled_more : (Kind : ℕ → ℕ → Type 0) (old new : List (List Bool)) (marks : List Bool) (n : ℕ) →
    FilledBelow Kind old n → ((c : ℕ) → IsSet (set_at new n) c ↔ (IsSet (set_at old n) c ⊎ IsSet marks c)) →
    ((j : ℕ) → j ≢ n → set_at new j ≡ set_at old j) → ((c : ℕ) → IsSet marks c ↔ Kind n c) →
    FilledBelow Kind new (n + 1)
filled_more Kind old new marks n h here there kind = record {
  done = λ j c lt. elim (cases_eq j n) [
    | inl e ↦ subst (λ i. IsSet (set_at new i) c ↔ Kind i c) (sym e) (
      λ w. elim ((here c).0 w) [ inl before ↦ absurd (h.rest n c (omega arith) before) | inr now ↦ (kind c).0 now ],
      λ w. (here c).1 (inr ((kind c).1 w)),
    )
    | inr ne ↦
        let same = there j ne in
        let was = h.done j c (omega (arith, lt, ne)) in
        (λ w. was.0 (ap (λ s. get_or s c false) (sym same) ∙ w), λ w. ap (λ s. get_or s c false) same ∙ was.1 w)
  ];
  rest =
      λ j c le w. h.rest j c (omega (arith, le))
      (ap (λ s. get_or s c false) (sym (there j (λ e. omega (arith, le, e)))) ∙ w);
}

-- ---- marks, one by one

pub marked_more : (Old New Now : ℕ → Type 0) (marks : List Bool) (k : ℕ) (told : Bool) → told ≡ get_or marks k false →
    ((c : ℕ) → Now c ↔ (Old c ⊎ ((c < k) × IsSet marks c))) → ((c : ℕ) → New c ↔ (Now c ⊎ ((told ≡ true) × (c ≡ k)))) →
    (c : ℕ) → New c ↔ (Old c ⊎ ((c < k + 1) × IsSet marks c))
marked_more Old New Now marks k told is now new c = (there, back)
  where
    there : New c → Old c ⊎ ((c < k + 1) × IsSet marks c)
    there h = elim ((new c).0 h) [
      | inl n ↦ elim ((now c).0 n) [ inl old ↦ inl old | inr w ↦ inr (omega (arith, w.0), w.1) ]
      | inr w ↦ inr (omega (arith, w.1), ap (λ i. get_or marks i false) w.1 ∙ (sym is ∙ w.0))
    ]

    back : Old c ⊎ ((c < k + 1) × IsSet marks c) → New c
    back (inl old) = (new c).1 (inl ((now c).1 (inl old)))
    back (inr w) = elim (cases_lt c k) [
      | inl less ↦ (new c).1 (inl ((now c).1 (inr (less, w.1))))
      | inr more ↦
          (let e : c ≡ k = omega (arith, more, w.0) in
          (new c).1 (inr (is ∙ (ap (λ i. get_or marks i false) (sym e) ∙ w.1), e)))
    ]

pub mark_pushed : (Kind : ℕ → Type 0) (marks : List Bool) (n : ℕ) (told : Bool) → length marks ≡ n →
    ((c : ℕ) → IsSet marks c ↔ ((c < n) × Kind c)) → (told ≡ true) ↔ Kind n → (c : ℕ) → IsSet (marks ++ told ∷ []) c ↔
    ((c < n + 1) × Kind c)
mark_pushed Kind marks n told len was now c = elim (cases_lt c n) [
  | inl less ↦
      let e : get_or (marks ++ told ∷ []) c false ≡ get_or marks c false =
      get_or_append_left marks (told ∷ []) false c (omega (arith, less, len)) in
      (λ h. (let w = (was c).0 (sym e ∙ h) in (omega (arith, less), w.1)), λ w. e ∙ (was c).1 (less, w.1))
  | inr more ↦ elim (cases_eq c n) [
    | inl is ↦
        let e : get_or (marks ++ told ∷ []) c false ≡ told = get_or_push marks told false c (len ∙ sym is) in
        (λ h. (omega (arith, is), subst Kind (sym is) (now.0 (sym e ∙ h))), λ w. e ∙ now.1 (subst Kind is w.1))
    | inr ne ↦
        let e : get_or (marks ++ told ∷ []) c false ≡ false =
        get_or_past (marks ++ told ∷ []) c false (omega (arith, length_push marks told, len, more, ne)) in
        (λ h. absurd (false≢true (sym e ∙ h)), λ w. absurd (omega (arith, w.0, more, ne)))
  ]
]

pub no_marks : (Kind : ℕ → Type 0) (c : ℕ) → IsSet [] c ↔ ((c < 0) × Kind c)
no_marks Kind zero = (λ h. absurd (false≢true h), λ w. absurd (omega (arith, w.0)))
no_marks Kind (suc c) = (λ h. absurd (false≢true h), λ w. absurd (omega (arith, w.0)))

-- the positions that agree with a word
pub two_allowed : (Old Mid New : ℕ → Type 0) (word : Dbpos) (off on : Bool) → (off ≡ true) ↔ Agrees word false →
    (on ≡ true) ↔ Agrees word true → ((c : ℕ) → Mid c ↔ (Old c ⊎ ((off ≡ true) × (c ≡ 0)))) →
    ((c : ℕ) → New c ↔ (Mid c ⊎ ((on ≡ true) × (c ≡ 1)))) → (c : ℕ) → c < 2 → New c ↔ (Old c ⊎ Agrees word (eqb c 1))
two_allowed Old Mid New word off on is_off is_on mid new zero lt = (
  λ h. elim ((new 0).0 h) [
    | inl m ↦ elim ((mid 0).0 m) [ inl old ↦ inl old | inr w ↦ inr (is_off.0 w.0) ]
    | inr w ↦ absurd (omega (arith, w.1))
  ],
  λ h. elim h [
    | inl old ↦ (new 0).1 (inl ((mid 0).1 (inl old)))
    | inr a ↦ (new 0).1 (inl ((mid 0).1 (inr (is_off.1 a, refl))))
  ],
)
two_allowed Old Mid New word off on is_off is_on mid new (suc zero) lt = (
  λ h. elim ((new 1).0 h) [
    | inl m ↦ elim ((mid 1).0 m) [ inl old ↦ inl old | inr w ↦ absurd (omega (arith, w.1)) ]
    | inr w ↦ inr (is_on.0 w.0)
  ],
  λ h. elim h [ inl old ↦ (new 1).1 (inl ((mid 1).1 (inl old))) | inr a ↦ (new 1).1 (inr (is_on.1 a, refl)) ],
)
two_allowed Old Mid New word off on is_off is_on mid new (suc (suc c)) lt = absurd (omega (arith, lt))

pub own_done : (Old New : Type 0) (words : List Dbpos) (o : ℕ) (word : Dbpos) (closed : Bool) →
    slice_get words o ≡ Some word → (Old → ⊥) → New ↔ (Old ⊎ Agrees word closed) → New ↔
    ((w : Dbpos) → slice_get words o ≡ Some w → Agrees w closed)
own_done Old New words o word closed at bare new = (
  λ h. elim (new.0 h) [
    | inl old ↦ absurd (bare old)
    | inr a ↦ (λ w is. subst (λ x. Agrees x closed) (same_Some word w (sym at ∙ is)) a)
  ],
  λ all. new.1 (inr (all word at)),
)
