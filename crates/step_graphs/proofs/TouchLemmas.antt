-- The spans of the nodes, one step after another.
use Rattle.std.proofs.Common.{◌≡◌, ℕ, ◌+◌, ◌<◌, ◌≤◌, ◌⊎◌, ◌↔◌, suc, Bool, true, List, [], ◌∷◌, ◌++◌, length, None}
use Rattle.std.proofs.Common.{slice_get, slice_set, Some, refl, sym, ap, ◌∙◌, subst, inl, inr, arith, length-set}
use Rattle.std.proofs.lemmas.Bool.{cases_eq}
use Rattle.std.proofs.lemmas.List.{length_push}
use Rattle.std.proofs.lemmas.Option.{slice_get_within, same_Some}
use Rattle.ilk_base.specs.declared.words.NodeId.{NodeId}
use Rattle.station_graph.proofs.PathLemmas.{slice_get-push}
use Rattle.station_graph.proofs.PositionLemmas.{slice_get-set_other}
use Rattle.contraction.proofs.MarkLemmas.{slice_get-set_same}
use Rattle.station_graph.specs.declared.items.Switch.{Switch}
use Rattle.station_graph.specs.Diagram.{Diagram}
use Rattle.station_graph.specs.Connection.{Item}
use Rattle.station_graph.specs.Sharing.{Touches, TouchedBy, AtSwitch}
use Rattle.contraction.specs.Stands.{Among}
use Rattle.judge_pool.specs.Graphs.{other_of}
use Rattle.step_graphs.specs.declared.step.Step.{Step}
use Rattle.step_graphs.specs.declared.step.Step.TheVariants.{OfNothing}
use Rattle.step_graphs.specs.declared.spans.Span.{Span}
use Rattle.step_graphs.specs.Steps.{items_in, StepTouches}
use Rattle.step_graphs.specs.Needing.{TouchedAt, AreSpans}
use Rattle.step_graphs.specs.Touching.{IsAfter, IsSpanUpto, AreSpansUpto, IsTouched, AreTouched}
use Rattle.step_graphs.proofs.StepLemmas.{no_place, one_touches, after_none, after_here, after_skip, after_all}
use Rattle.step_graphs.proofs.StepLemmas.{first_all, other_small}

-- ---- what one touch makes of the spans

pub touched_past : (node i : ℕ) (spans : List Span) → length spans ≤ node → AreTouched (λ n. node ≡ n) i spans spans
touched_past node i spans past = record {
  len = refl;
  each = λ n s at. record {
    old = s;
    at = at;
    told = inr ((λ e. omega (arith, e, past, slice_get_within spans n s at)), refl);
  };
}

pub touched_one : (node i : ℕ) (spans : List Span) (old new : Span) → slice_get spans node ≡ Some old →
    IsTouched i old new → AreTouched (λ n. node ≡ n) i spans (slice_set spans node new)
touched_one node i spans old new at is = record {
  len = length-set spans node new;
  each = λ n s at_n. elim (cases_eq n node) [
    | inl e ↦
        let written : slice_get (slice_set spans node new) n ≡ Some new =
        subst (λ k. slice_get (slice_set spans node new) k ≡ Some new) (sym e)
        (slice_get-set_same spans node new (slice_get_within spans node old at)) in
        let same : new ≡ s = same_Some new s (sym written ∙ at_n) in
        record {
          old = old;
          at = subst (λ k. slice_get spans k ≡ Some old) (sym e) at;
          told = inl (sym e, subst (λ (z : Span). IsTouched i old z) same is);
        }
    | inr ne ↦ record {
      old = s;
      at = sym (slice_get-set_other spans node n new ne) ∙ at_n;
      told = inr ((λ e. ne (sym e)), refl);
    }
  ];
}

pub touched_nothing : (Kind : ℕ → Type 0) (i : ℕ) (spans : List Span) → ((n : ℕ) → ¬ Kind n) →
    AreTouched Kind i spans spans
touched_nothing Kind i spans none = record {
  len = refl;
  each = λ n s at. record { old = s; at = at; told = inr (none n, refl) };
}

touched_twice : (i : ℕ) (x y z : Span) → IsTouched i x y → IsTouched i y z → IsTouched i x z
touched_twice i x y z a b = record {
  first = elim a.first [
    | inl one ↦ elim b.first [
      | inl two ↦ absurd (omega (arith, one.1, two.0))
      | inr two ↦ inl (one.0, two.1 ∙ one.1)
    ]
    | inr one ↦ elim b.first [
      | inl two ↦ absurd (omega (arith, one.0, one.1, two.0))
      | inr two ↦ inr (one.0, two.1 ∙ one.1)
    ]
  ];
  after = b.after;
  own = b.own ∙ a.own;
}

abbrev Told : Type 0 → ℕ → Span → Span → Type 0
Told P i old new = (P × IsTouched i old new) ⊎ ((¬ P) × (new ≡ old))

told_both : (P Q : Type 0) (i : ℕ) (x y z : Span) → Told P i x y → Told Q i y z → Told (P ⊎ Q) i x z
told_both P Q i x y z (inl a) (inl b) = inl (inl a.0, touched_twice i x y z a.1 b.1)
told_both P Q i x y z (inl a) (inr b) = inl (inl a.0, subst (λ (w : Span). IsTouched i x w) (sym b.1) a.1)
told_both P Q i x y z (inr a) (inl b) = inl (inr b.0, subst (λ (w : Span). IsTouched i w z) a.1 b.1)
told_both P Q i x y z (inr a) (inr b) = inr ((λ h. elim h [ inl p ↦ a.0 p | inr q ↦ b.0 q ]), b.1 ∙ a.1)

pub touched_both : (One Other : ℕ → Type 0) (i : ℕ) (xs ys zs : List Span) → AreTouched One i xs ys →
    AreTouched Other i ys zs → AreTouched (λ n. One n ⊎ Other n) i xs zs
touched_both One Other i xs ys zs f g = record {
  len = g.len ∙ f.len;
  each = λ n s at.
      let b = g.each n s at in
      let a = f.each n b.old b.at in
      record {
        old = a.old;
        at = a.at;
        told = told_both (One n) (Other n) i a.old b.old s a.told b.told;
      };
}

pub touched_as : (One Other : ℕ → Type 0) (i : ℕ) (xs ys : List Span) → ((n : ℕ) → One n ↔ Other n) →
    AreTouched One i xs ys → AreTouched Other i xs ys
touched_as One Other i xs ys same h = record {
  len = h.len;
  each = λ n s at.
      let a = h.each n s at in
      record {
        old = a.old;
        at = a.at;
        told = elim a.told [
          | inl t ↦ inl ((same n).0 t.0, t.1)
          | inr t ↦ inr ((λ q. t.0 ((same n).1 q)), t.1)
        ];
      };
}

-- ---- what the items touch

pub at_one_end : (x : Switch) → x.second ≡ None → (n : ℕ) → (x.first.0 ≡ n) ↔ AtSwitch x n
at_one_end x none n = (
  λ e. inl e,
  λ h. elim h [
    | inl e ↦ e
    | inr (m, is, e) ↦ absurd (let never = sym none ∙ is in cc)
  ],
)

pub at_two_ends : (x : Switch) (second : NodeId) → x.second ≡ Some second → (n : ℕ) →
    ((x.first.0 ≡ n) ⊎ (second.0 ≡ n)) ↔ AtSwitch x n
at_two_ends x second is n = (
  λ h. elim h [
    | inl e ↦ inl e
    | inr e ↦ inr (second, is, e)
  ],
  λ h. elim h [
    | inl e ↦ inl e
    | inr (m, at, e) ↦ inr (ap (λ (k : NodeId). k.0) (same_Some second m (sym is ∙ at)) ∙ e)
  ],
)

-- what holds of an element holds of what stands at its place
pub at_its_place : {X : Type 0} (P : X → Type 0) (xs : List X) (i : ℕ) (x : X) → slice_get xs i ≡ Some x →
    P x ↔ ((y : X) × (slice_get xs i ≡ Some y) × P y)
at_its_place P xs i x at = (
  λ h. (x, at, h),
  λ w. subst P (same_Some w.0 x (sym w.1 ∙ at)) w.2,
)

pub item_touches : (d : Diagram) (s : Step) (it : Item) (Kind : ℕ → Type 0) → items_in s ≡ it ∷ [] →
    ((n : ℕ) → Kind n ↔ Touches d it n) → (n : ℕ) → Kind n ↔ StepTouches d s n
item_touches d s it Kind items same n =
    let one = one_touches d it n in
    let by : Kind n ↔ StepTouches d s n = subst (λ xs. Kind n ↔ TouchedBy (Among xs) d n) (sym items) (
      λ k. one.0 ((same n).0 k),
      λ t. (same n).1 (one.1 t),
    ) in
    by

pub nothing_touches : (d : Diagram) (n : ℕ) → ¬ StepTouches d OfNothing n
nothing_touches d n t = t.among

-- ---- the span of a node

module _ (d : Diagram) (steps : List Step) (b others node : ℕ) where
  pub upto_none : (s : Span) → s.first ≡ others → s.after ≡ 0 → (s.own ≡ true) ↔ TouchedAt d steps b node →
      IsSpanUpto d steps b others 0 node s
  upto_none s first after own = record {
    none = λ j lt below. absurd (omega (arith, below));
    begins = inl first;
    ends = subst (λ n. IsAfter d steps b node 0 n) (sym after) (after_none d steps b node);
    own = own;
  }

  upto_here : (i : ℕ) (old new : Span) → IsSpanUpto d steps b others i node old →
      TouchedAt d steps (other_of 0 b i) node → IsTouched i old new → IsSpanUpto d steps b others (i + 1) node new
  upto_here i old new h t is = record {
    none = λ j lt below u. elim is.first [
      | inl x ↦ h.none j (omega (arith, lt, x.0, x.1)) (omega (arith, lt, x.1)) u
      | inr x ↦ h.none j (omega (arith, lt, x.1)) (omega (arith, lt, x.0, x.1)) u
    ];
    begins = elim is.first [
      | inl x ↦ inr (subst (λ k. TouchedAt d steps (other_of 0 b k) node) (sym x.1) t)
      | inr x ↦ elim h.begins [
        | inl e ↦ inl (x.1 ∙ e)
        | inr u ↦ inr (subst (λ k. TouchedAt d steps (other_of 0 b k) node) (sym x.1) u)
      ]
    ];
    ends =
        subst (λ n. IsAfter d steps b node (i + 1) n) (sym is.after)
        (after_here d steps b node i old.after h.ends t);
    own = subst (λ (o : Bool). (o ≡ true) ↔ TouchedAt d steps b node) (sym is.own) h.own;
  }

  upto_skip : (i : ℕ) (s : Span) → IsSpanUpto d steps b others i node s →
      ¬ TouchedAt d steps (other_of 0 b i) node → IsSpanUpto d steps b others (i + 1) node s
  upto_skip i s h none = record {
    none = λ j lt below u. elim (cases_eq j i) [
      | inl e ↦ none (subst (λ k. TouchedAt d steps (other_of 0 b k) node) e u)
      | inr ne ↦ h.none j lt (omega (arith, below, ne)) u
    ];
    begins = h.begins;
    ends = after_skip d steps b node i s.after h.ends none;
    own = h.own;
  }

  upto_step : (i : ℕ) (old new : Span) → IsSpanUpto d steps b others i node old →
      Told (TouchedAt d steps (other_of 0 b i) node) i old new → IsSpanUpto d steps b others (i + 1) node new
  upto_step i old new h (inl t) = upto_here i old new h t.0 t.1
  upto_step i old new h (inr t) =
      subst (λ (z : Span). IsSpanUpto d steps b others (i + 1) node z) (sym t.1) (upto_skip i old h t.0)

-- ---- the spans of all

module _ (d : Diagram) (steps : List Step) (b others : ℕ) where
  pub spans_upto_none : (n : ℕ) → AreSpansUpto d steps b others n [] 0
  spans_upto_none n = record { len = refl; each = λ k s at. absurd (no_place k s at) }

  pub spans_upto_more : (n m : ℕ) (spans : List Span) (s : Span) → AreSpansUpto d steps b others n spans m →
      IsSpanUpto d steps b others n m s → AreSpansUpto d steps b others n (spans ++ s ∷ []) (m + 1)
  spans_upto_more n m spans s h new = record {
    len = omega (arith, length_push spans s, h.len);
    each = λ k t at. elim (slice_get-push spans s t k at) [
      | inl before ↦ h.each k t before
      | inr here ↦
          let e : m ≡ k = sym (here.0 ∙ h.len) in
          subst (λ (z : Span). IsSpanUpto d steps b others n k z) here.1
          (subst (λ i. IsSpanUpto d steps b others n i s) e new)
    ];
  }

  pub spans_step : (i m : ℕ) (olds news : List Span) (step : Step) → slice_get steps (other_of 0 b i) ≡ Some step →
      AreSpansUpto d steps b others i olds m → AreTouched (StepTouches d step) i olds news →
      AreSpansUpto d steps b others (i + 1) news m
  spans_step i m olds news step at h t = record {
    len = t.len ∙ h.len;
    each = λ k s at_k.
        let w = t.each k s at_k in
        let same = at_its_place (λ (x : Step). StepTouches d x k) steps (other_of 0 b i) step at in
        upto_step d steps b others k i w.old s (h.each k w.old w.at) (elim w.told [
          | inl x ↦ inl (same.0 x.0, x.1)
          | inr x ↦ inr ((λ q. x.0 (same.1 q)), x.1)
        ]);
  }

  pub spans_done : (m : ℕ) (spans : List Span) → suc others ≡ length steps → b < length steps →
      AreSpansUpto d steps b others others spans m → AreSpans d steps b others spans m
  spans_done m spans count b_in h = record {
    len = h.len;
    each = λ k s at.
        let is = h.each k s at in
        record {
          begins = λ j le.
              first_all d steps b k others s.first
              (λ i lt t. is.none i lt (other_small d steps b k others i count b_in t) t) is.begins j le;
          ends = after_all d steps b k others s.after count b_in is.ends;
          own = is.own;
        };
  }
