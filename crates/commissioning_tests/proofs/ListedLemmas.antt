-- What is always released, and what a bay needs.
use Rattle.std.proofs.Common.{◌≡◌, ◌⊎◌, ℕ, ◌+◌, ◌<◌, ◌≤◌, zero, suc, Bool, true, false, List, [], ◌∷◌, ◌++◌, length, take, map, slice_get, get_or}
use Rattle.std.proofs.Common.{Option, Some, None, refl, sym, ap, ◌∙◌, subst, arith}
use Rattle.std.specs.Prelude.{if◌then◌else◌, ◌↔◌, IsTrue}
use Rattle.std.specs.List.{range_with_len}
use Rattle.std.proofs.lemmas.Option.{same_Some, slice_get_within, slice_get-get_or}
use Rattle.ilk_base.specs.declared.words.Op.{Op}
use Rattle.ilk_base.specs.declared.words.Rule.{Rule}
use Rattle.ilk_base.specs.declared.words.SwitchId.{SwitchId}
use Rattle.station_graph.specs.Diagram.{Diagram}
use Rattle.station_graph.specs.CentralRules.{Breaks}
use Rattle.station_graph.proofs.AnswerLemmas.{same_answer}
use Rattle.judge_intake.proofs.OtherLemmas.{element}
use Rattle.release_dependence.specs.Depends.{DependsOn}
use Rattle.dependence_search.specs.Turning.{moved}
use Rattle.dependence_search.proofs.DependLemmas.{depends, turned_answers}
use Rattle.commissioning_tests.specs.declared.values.TestPosition.{TestPosition}
use Rattle.commissioning_tests.specs.Listed.{AreThose, operations_from}
use Rattle.commissioning_tests.specs.Standing.{AreStands}
use Rattle.commissioning_tests.specs.Answering.{ArePositions}
use Rattle.commissioning_tests.specs.Covering.{TurnIsShown, TurnIsShownFor, RuleIsShown, IsAlways, IsNeeded}
use Rattle.commissioning_tests.specs.Growing.{IsCovered, AreCovered}
use Rattle.commissioning_tests.proofs.ListLemmas.{those_more, those_less, those_if, range_more, operations_in, operations_from_first}
use Rattle.commissioning_tests.proofs.CoverLemmas.{depends_within}
use Rattle.commissioning_tests.proofs.StandLemmas.{stand_depends, stand_back}

-- ---- one by one

pub take_more : {X : Type 0} (xs : List X) (k : ℕ) (x : X) → slice_get xs k ≡ Some x →
    take (suc k) xs ≡ take k xs ++ x ∷ []
take_more [] k x at = cc
take_more (y ∷ ys) zero x at = ap (λ z. z ∷ []) (same_Some y x at)
take_more (y ∷ ys) (suc k) x at = ap (λ zs. y ∷ zs) (take_more ys k x at)

pub those_unless : {X : Type 0} (P : X → Type 0) (xs chosen : List X) (x : X) (left_out : Bool) → AreThose P xs chosen →
    (left_out ≡ false → P x) → (left_out ≡ true → ¬ P x) →
    AreThose P (xs ++ x ∷ []) (if left_out then chosen else chosen ++ x ∷ [])
those_unless P xs chosen x false h holds fails = those_more P xs chosen x h (holds refl)
those_unless P xs chosen x true h holds fails = those_less P xs chosen x h (fails refl)

-- ---- always

module _ (d : Diagram) (ops : List Op) (stands : List ℕ) (ps : List TestPosition) (k : ℕ) (op : Op)
    (at : slice_get ops k ≡ Some op) where
  pub always_if : IsCovered d ops stands ps k → ¬ ((rule : Rule) × RuleIsShown ps k rule) → IsAlways d op
  always_if covered none v vector = by (covered.answers op at v vector)
    where
      by : ((answer : Option Rule) × Breaks d v op answer) → Breaks d v op None
      by (None, breaks) = breaks
      by (Some rule, breaks) = absurd (none (rule, covered.rules rule v op at vector breaks))

  pub never_if : ArePositions d ops ps → ((rule : Rule) × RuleIsShown ps k rule) → ¬ IsAlways d op
  never_if are (rule, shown) always =
      let p = are shown.place shown.position shown.at in
      let same : Some rule ≡ None =
      same_answer d shown.position.closed.items op (Some rule) None
      (p.answers.each k op (Some rule) at shown.answer) (always shown.position.closed.items p.vector) in
      cc same

-- one more operation
pub always_step : (d : Diagram) (ops : List Op) (stands : List ℕ) (ps : List TestPosition) (k : ℕ) (always : List Op) (denied : Bool) (x : Op) →
    k < length ops → ArePositions d ops ps → IsCovered d ops stands ps k →
    IsTrue denied ↔ ((rule : Rule) × RuleIsShown ps k rule) → AreThose (IsAlways d) (take k ops) always →
    AreThose (IsAlways d) (take (k + 1) ops) (if denied then always else always ++ get_or ops k x ∷ [])
always_step d ops stands ps k always denied x lt are covered is those =
    let read : slice_get ops k ≡ Some (get_or ops k x) = slice_get-get_or ops k x lt in
    let next : k + 1 ≡ suc k = omega arith in
    let more : take (k + 1) ops ≡ take k ops ++ get_or ops k x ∷ [] =
    ap (λ (n : ℕ). take n ops) next ∙ take_more ops k (get_or ops k x) read in
    subst (λ (l : List Op). AreThose (IsAlways d) l (if denied then always else always ++ get_or ops k x ∷ [])) (sym more)
    (those_unless (IsAlways d) (take k ops) always (get_or ops k x) denied those
    (λ no_denial. always_if d ops stands ps k (get_or ops k x) read covered
    (λ shown. let e : false ≡ true = sym no_denial ∙ is.1 shown in cc e))
    (λ denial. never_if d ops stands ps k (get_or ops k x) read are (is.0 denial)))

-- ---- needs

pub shown_depends : (d : Diagram) (ops : List Op) (ps : List TestPosition) (k s : ℕ) → ArePositions d ops ps → TurnIsShown ps k s →
    (op : Op) × (slice_get ops k ≡ Some op) × DependsOn d op s
shown_depends d ops ps k s are t =
    let p = are t.place t.position t.at in
    let m = p.moves t.turn.number t.turn.move t.turn.at in
    let within = slice_get_within t.position.answers.items k t.turn.turns.one t.turn.turns.one_at in
    let (op, at) = element ops k (omega (arith, within, p.answers.len)) in
    let (rule, turns) =
    turned_answers d op t.position.closed.items (moved t.turn.move.switch.0 t.position.closed.items) t.turn.turns.one
    t.turn.turns.other (p.answers.each k op t.turn.turns.one at t.turn.turns.one_at)
    (m.answers_are.each k op t.turn.turns.other at t.turn.turns.other_at) t.turn.turns.turned in
    let dep =
    depends d op t.turn.move.switch.0 t.position.closed.items m.within
    (record { vector = p.vector; rule = rule; turns = turns }) in
    (op, at, subst (λ x. DependsOn d op x) t.turn.switch dep)

module _ (d : Diagram) (ops : List Op) (stands : List ℕ) (ps : List TestPosition) (first count s t : ℕ)
    (are : ArePositions d ops ps) (covered : AreCovered d ops stands ps (length ops))
    (ops_are : ops ≡ operations_from first count) (all_stand : AreStands d first count stands)
    (stand : slice_get stands s ≡ Some t) where
  from_first : (k : ℕ) (op : Op) → slice_get ops k ≡ Some op → first ≤ op.switch.0
  from_first k op at =
      operations_from_first first count k op (subst (λ (l : List Op). slice_get l k ≡ Some op) ops_are at)

  to_last : (k : ℕ) (op : Op) → slice_get ops k ≡ Some op → op.switch.0 < first + count
  to_last k op at = operations_in first count k op (subst (λ (l : List Op). slice_get l k ≡ Some op) ops_are at)

  pub needed_if : ((s < first) ⊎ (first + count ≤ s)) × ((k : ℕ) × TurnIsShown ps k t) → IsNeeded d ops first count s
  needed_if (other, (k, shown)) =
      let (op, at, dep) = shown_depends d ops ps k t are shown in
      record {
        other = other;
        place = k;
        op = op;
        at = at;
        depends =
            stand_depends d first count t s op (stand_back d first count s t (all_stand.standing s t stand))
            (from_first k op at) (to_last k op at) dep;
      }

  pub not_needed : (((s < first) ⊎ (first + count ≤ s)) → (k : ℕ) → k < length ops → ¬ TurnIsShown ps k t) →
      ¬ IsNeeded d ops first count s
  not_needed none needed =
      let within = slice_get_within ops needed.place needed.op needed.at in
      none needed.other needed.place within
      ((covered needed.place within).turns t needed.op needed.at (all_stand.moved s t stand)
      (stand_depends d first count s t needed.op (all_stand.standing s t stand)
      (from_first needed.place needed.op needed.at) (to_last needed.place needed.op needed.at) needed.depends))

  -- a switch on which an operation depends has its turn shown by the one that stands for it
  pub turn_for : (k : ℕ) (op : Op) → slice_get ops k ≡ Some op → DependsOn d op s → TurnIsShownFor d first count ps k s
  turn_for k op at dep = record {
    stand = t;
    stands = all_stand.standing s t stand;
    shown =
        (covered k (slice_get_within ops k op at)).turns t op at (all_stand.moved s t stand)
        (stand_depends d first count s t op (all_stand.standing s t stand) (from_first k op at) (to_last k op at) dep);
  }

  -- one more switch
  pub needs_step : (needs : List SwitchId) (x : SwitchId) (wanted : Bool) → x.0 ≡ s →
      (wanted ≡ true → ((s < first) ⊎ (first + count ≤ s)) × ((k : ℕ) × TurnIsShown ps k t)) →
      (wanted ≡ false → ((s < first) ⊎ (first + count ≤ s)) → (k : ℕ) → k < length ops → ¬ TurnIsShown ps k t) →
      AreThose (IsNeeded d ops first count) (range_with_len 0 s) (map (λ n. n.0) needs) →
      AreThose (IsNeeded d ops first count) (range_with_len 0 (s + 1))
      (map (λ n. n.0) (if wanted then needs ++ x ∷ [] else needs))
  needs_step needs x wanted number holds fails those =
      let next : range_with_len 0 s ++ x.0 ∷ [] ≡ range_with_len 0 (s + 1) =
      ap (λ n. range_with_len 0 s ++ n ∷ []) number ∙ sym (range_more s) in
      subst (λ (l : List ℕ). AreThose (IsNeeded d ops first count) l
      (map (λ n. n.0) (if wanted then needs ++ x ∷ [] else needs))) next
      (those_if (λ (n : SwitchId). n.0) (IsNeeded d ops first count) (range_with_len 0 s) needs x wanted those
      (λ e. subst (λ (n : ℕ). IsNeeded d ops first count n) (sym number) (needed_if (holds e)))
      (λ e h. not_needed (fails e) (subst (λ (n : ℕ). IsNeeded d ops first count n) number h)))

pub turns_for : (d : Diagram) (ops : List Op) (stands : List ℕ) (ps : List TestPosition) (first count : ℕ) →
    ArePositions d ops ps → AreCovered d ops stands ps (length ops) → ops ≡ operations_from first count →
    AreStands d first count stands → (k s : ℕ) (op : Op) → slice_get ops k ≡ Some op → DependsOn d op s →
    TurnIsShownFor d first count ps k s
turns_for d ops stands ps first count are covered ops_are all_stand k s op at dep =
    let (t, stand) = element stands s (omega (arith, depends_within d op s dep, all_stand.len)) in
    turn_for d ops stands ps first count s t are covered ops_are all_stand stand k op at dep
