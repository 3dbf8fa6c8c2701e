-- Nodes that are reached, one by one.
use Rattle.std.proofs.Common.{◌≡◌, ℕ, ◌+◌, ◌<◌, ◌⊎◌, List, [], ◌∷◌, ◌++◌, length, get_or, take, slice_get, slice_set}
use Rattle.std.proofs.Common.{Contains, Option, Some, None, cond, sym, ◌∙◌, ap, subst, inl, inr, arith}
use Rattle.std.proofs.Common.{length-set}
use Rattle.std.specs.Prelude.{count_by, is_none}
use Rattle.std.proofs.lemmas.Bool.{cases_eq}
use Rattle.std.proofs.lemmas.Option.{slice_get_within, get_or_from_slice_get}
use Rattle.std.proofs.lemmas.List.{length_push, take_more}
use Rattle.std.proofs.lemmas.List.Elements.{Contains-push, Contains-push_cases, Contains-append_left}
use Rattle.std.proofs.lemmas.List.Sums.{sum_by-set}
use Rattle.station_graph.proofs.PathLemmas.{slice_get-push}
use Rattle.station_graph.proofs.PositionLemmas.{slice_get-set_other}
use Rattle.denial_explain.specs.Stepping.{HasSteps, Visits, ReachesAll}
use Rattle.denial_explain.proofs.Places.{slice_get-push_old, slice_get-set_same}

-- a node has one number of steps
pub same_steps : (steps : List (Option ℕ)) (n k l : ℕ) → HasSteps steps n k → HasSteps steps n l → k ≡ l
same_steps steps n k l h g = cc

-- One node gets steps.
module _ (steps : List (Option ℕ)) (node next : ℕ) (none : slice_get steps node ≡ Some None) where
  steps_kept : (n k : ℕ) → HasSteps steps n k → HasSteps (slice_set steps node (Some next)) n k
  steps_kept n k h = elim (cases_eq n node) [
    | inl e ↦ let here : slice_get steps n ≡ Some None = ap (slice_get steps) e ∙ none in cc
    | inr ne ↦ slice_get-set_other steps node n (Some next) ne ∙ h
  ]

  steps_new : HasSteps (slice_set steps node (Some next)) node next
  steps_new = slice_get-set_same steps node (Some next) (slice_get_within steps node None none)

  steps_only : (n k : ℕ) → HasSteps (slice_set steps node (Some next)) n k → HasSteps steps n k
      ⊎ ((k ≡ next) × (n ≡ node))
  steps_only n k h = elim (cases_eq n node) [
    | inl e ↦
        let here : HasSteps (slice_set steps node (Some next)) n next =
        subst (λ m. HasSteps (slice_set steps node (Some next)) m next) (sym e) steps_new in
        inr (same_steps (slice_set steps node (Some next)) n k next h here, e)
    | inr ne ↦ inl (sym (slice_get-set_other steps node n (Some next) ne) ∙ h)
  ]

  steps_fewer : count_by is_none (slice_set steps node (Some next)) + 1 ≡ count_by is_none steps
  steps_fewer =
      let was : get_or steps node None ≡ None = get_or_from_slice_get steps node None None none in
      let more = sum_by-set (λ o. cond (is_none o) 1 0) steps node (Some next) None
      (slice_get_within steps node None none) in
      let first : count_by is_none (slice_set steps node (Some next)) + cond (is_none (get_or steps node None)) 1 0
      ≡ count_by is_none steps + 0 = more in
      let one : ◌≡◌ {A = ℕ} (cond (is_none (get_or steps node None)) 1 0) 1 =
      ap (λ (o : Option ℕ). cond (is_none o) 1 0) was in
      omega arith

-- One node more.
module _ (P Q : ℕ → Type 0) (node next : ℕ) (steps mid : List (Option ℕ)) (queue longer : List ℕ) (only : (n : ℕ) →
    Q n → P n ⊎ (n ≡ node)) (kept : (n : ℕ) → P n → Q n) (added : Q node) (h : ReachesAll P next steps mid queue
    longer) where
  reaches_new : slice_get mid node ≡ Some None → ReachesAll Q next steps (slice_set mid node (Some next)) queue
      (longer ++ node ∷ [])
  reaches_new none = record {
    len = length-set mid node (Some next) ∙ h.len;
    room = omega (arith, h.room, steps_fewer mid node next none, length_push longer node);
    kept = λ n k s. steps_kept mid node next none n k (h.kept n k s);
    all = λ n q. elim (only n q) [
      | inl p ↦ let w = h.all n p in (w.0, steps_kept mid node next none n w.0 w.1)
      | inr e ↦ (
        next,
        subst (λ m. HasSteps (slice_set mid node (Some next)) m next) (sym e)
            (steps_new mid node next none),
      )
    ];
    only = λ n k s. elim (steps_only mid node next none n k s) [
      | inl m ↦ elim (h.only n k m) [
        | inl old ↦ inl old
        | inr w ↦ inr (w.0, kept n w.1, Contains-append_left longer (node ∷ []) n w.2)
      ]
      | inr w ↦ inr (
        w.0,
        subst Q (sym w.1) added,
        subst (λ m. Contains (longer ++ node ∷ []) m) (sym w.1)
            (Contains-push longer node),
      )
    ];
    longer = omega (arith, h.longer, length_push longer node);
    queue_kept = λ j n q. slice_get-push_old longer node n j (h.queue_kept j n q);
    queue_only = λ j n q. elim (slice_get-push longer node n j q) [
      | inl m ↦ elim (h.queue_only j n m) [
        | inl old ↦ inl old
        | inr w ↦ inr (w.0, steps_kept mid node next none n next w.1)
      ]
      | inr w ↦ inr (
        omega (arith, h.longer, w.0),
        subst (λ m. HasSteps (slice_set mid node (Some next)) m next) w.1
            (steps_new mid node next none),
      )
    ];
  }

  reaches_old : (k : ℕ) → HasSteps mid node k → ReachesAll Q next steps mid queue longer
  reaches_old k has = record {
    len = h.len;
    room = h.room;
    kept = h.kept;
    all = λ n q. elim (only n q) [
      | inl p ↦ h.all n p
      | inr e ↦ (k, subst (λ m. HasSteps mid m k) (sym e) has)
    ];
    only = λ n j s. elim (h.only n j s) [ inl old ↦ inl old | inr w ↦ inr (w.0, kept n w.1, w.2) ];
    longer = h.longer;
    queue_kept = h.queue_kept;
    queue_only = h.queue_only;
  }

  ReachesAll-more : (new : List (Option ℕ)) (last : List ℕ) → Visits node next mid new longer last →
      ReachesAll Q next steps new queue last
  ReachesAll-more new last (inl (none, set, push)) =
      subst (λ (s : List (Option ℕ)). ReachesAll Q next steps s queue last) (sym set)
      (subst (λ (q : List ℕ). ReachesAll Q next steps (slice_set mid node (Some next)) queue q) (sym push)
      (reaches_new none))
  ReachesAll-more new last (inr (k, has, same, still)) =
      subst (λ (s : List (Option ℕ)). ReachesAll Q next steps s queue last) (sym same)
      (subst (λ (q : List ℕ). ReachesAll Q next steps mid queue q) (sym still) (reaches_old k has))

-- the next node of a list
pub ReachesAll-turn : (nodes : List ℕ) (i next : ℕ) (steps mid new : List (Option ℕ)) (queue longer last : List ℕ) →
    i < length nodes → ReachesAll (Contains (take i nodes)) next steps mid queue longer →
    Visits (get_or nodes i 0) next mid new longer last → ReachesAll (Contains (take (i + 1) nodes)) next steps
    new queue last
ReachesAll-turn nodes i next steps mid new queue longer last i_in h r =
    let more = take_more nodes i 0 i_in in
    let node = get_or nodes i 0 in
    ReachesAll-more (Contains (take i nodes)) (Contains (take (i + 1) nodes)) node next steps mid queue longer
    (λ n q. elim (Contains-push_cases (take i nodes) node n (subst (λ (xs : List ℕ). Contains xs n) more q))
    [ inl p ↦ inl p | inr e ↦ inr (sym e) ])
    (λ n p. subst (λ (xs : List ℕ). Contains xs n) (sym more) (Contains-append_left (take i nodes) (node ∷ []) n p))
    (subst (λ (xs : List ℕ). Contains xs node) (sym more) (Contains-push (take i nodes) node))
    h new last r
