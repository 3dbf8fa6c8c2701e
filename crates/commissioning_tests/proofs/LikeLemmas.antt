-- The tests of a bay, with all switches exchanged, are tests of a bay that is like it.
use Rattle.std.proofs.Common.{◌≡◌, ℕ, zero, suc, ◌+◌, ◌<◌, ◌≤◌, Bool, List, slice_get, Option, Some, None, refl, sym}
use Rattle.std.proofs.Common.{ap, ◌∙◌, subst, arith}
use Rattle.std.proofs.lemmas.Option.{same_Some, slice_get_within}
use Rattle.ilk_base.specs.declared.words.Op.{Op}
use Rattle.ilk_base.specs.declared.words.Rule.{Rule}
use Rattle.station_graph.specs.Diagram.{Diagram, AreSwitchesOf}
use Rattle.station_graph.specs.Alike.{IsVector}
use Rattle.station_graph.specs.CentralRules.{Breaks}
use Rattle.judge_intake.proofs.OtherLemmas.{element}
use Rattle.release_dependence.specs.Depends.{DependsOn}
use Rattle.release_dependence.specs.Exchange.{Exchange, IsExchanged, IsExchangedOp}
use Rattle.release_dependence.proofs.ExchangeLemmas.{breaks_to}
use Rattle.like_bays.specs.Like.{AreLike}
use Rattle.dependence_search.specs.Turning.{moved}
use Rattle.commissioning_tests.specs.declared.values.BayTests.{BayTests}
use Rattle.release_dependence.specs.Operations.{opening, closing}
use Rattle.commissioning_tests.specs.Listed.{operations_from}
use Rattle.commissioning_tests.specs.Answering.{AreAnswers}
use Rattle.commissioning_tests.specs.Covering.{IsAlways, RuleIsShown, TurnIsShownFor, TestSwitches, AreTestsOf}
use Rattle.commissioning_tests.specs.Likewise.{AnswerLikewise, TestLikewise, AreTestsOfLike}
use Rattle.commissioning_tests.proofs.ListLemmas.{operations_long}
use Rattle.commissioning_tests.proofs.StandLemmas.{exchanged, exchanged_long, is_exchanged, depends_over}

-- ---- the switches of a part stand in one place

not_before : (d : Diagram) (part first count second size : ℕ) → AreSwitchesOf d part first count →
    AreSwitchesOf d part second size → 0 < count → second ≤ first
not_before d part first count second size one two some =
    let (x, at) = element d.switches first (omega (arith, one.within, some)) in
    let here : (first ≤ first) × (first < first + count) = (omega arith, omega (arith, some)) in
    ((two.those first x at).0 ((one.those first x at).1 here)).0

same_first : (d : Diagram) (part first count second size : ℕ) → AreSwitchesOf d part first count →
    AreSwitchesOf d part second size → 0 < count → first ≡ second
same_first d part first count second size one two some =
    omega (
      arith,
      not_before d part first count second size one two some,
      not_before d part second size first count two one (omega (arith, some, one.counted, two.counted)),
    )

-- ---- the operations of one are those of the other

these : (to : ℕ → ℕ) (a b op other : Op) → a ≡ op → b ≡ other → IsExchangedOp to a b → IsExchangedOp to op other
these to a b op other one two is =
    subst (λ (x : Op). IsExchangedOp to x other) one (subst (λ (y : Op). IsExchangedOp to a y) two is)

exchanged_at : (to : ℕ → ℕ) (first second n k : ℕ) (op other : Op)
    → ((i : ℕ) → i < n → to (first + i) ≡ second + i)
    → slice_get (operations_from first n) k ≡ Some op → slice_get (operations_from second n) k ≡ Some other →
    IsExchangedOp to op other
exchanged_at to first second zero k op other carried at there = cc
exchanged_at to first second (suc n) zero op other carried at there =
    let here : first + 0 ≡ first = omega arith in
    let led : second ≡ second + 0 = omega arith in
    these to (opening first) (opening second) op other (same_Some (opening first) op at)
    (same_Some (opening second) other there)
    (record { switch = led ∙ (sym (carried 0 (omega arith)) ∙ ap to here); direction = refl })
exchanged_at to first second (suc n) (suc zero) op other carried at there =
    let here : first + 0 ≡ first = omega arith in
    let led : second ≡ second + 0 = omega arith in
    these to (closing first) (closing second) op other (same_Some (closing first) op at)
    (same_Some (closing second) other there)
    (record { switch = led ∙ (sym (carried 0 (omega arith)) ∙ ap to here); direction = refl })
exchanged_at to first second (suc n) (suc (suc k)) op other carried at there =
    exchanged_at to (suc first) (suc second) n k op other
    (λ i lt.
    let here : suc first + i ≡ first + suc i = omega arith in
    let led : second + suc i ≡ suc second + i = omega arith in
    ap to here ∙ (carried (suc i) (omega (arith, lt)) ∙ led)) at there

at_its_place : (first second n k : ℕ) (other : Op) → slice_get (operations_from second n) k ≡ Some other →
    (op : Op) × (slice_get (operations_from first n) k ≡ Some op)
at_its_place first second n k other at =
    element (operations_from first n) k
    (omega (
      arith,
      slice_get_within (operations_from second n) k other at,
      operations_long first n,
      operations_long second n,
    ))

-- ---- what is shown of the one is shown of the other

module _ (d : Diagram) (h : Exchange d) where
  over_back : (op other : Op) → IsExchangedOp h.switch_to op other → IsExchangedOp h.switch_to other op
  over_back op other over = record {
    switch = sym (ap h.switch_to over.switch ∙ h.switch_back op.switch.0);
    direction = sym over.direction;
  }

  vector_back : (v w : List Bool) → IsExchanged h.switch_to v w → IsExchanged h.switch_to w v
  vector_back v w over i = ap (λ n. slice_get w n) (sym (h.switch_back i)) ∙ sym (over (h.switch_to i))

  always_over : (op other : Op) → IsExchangedOp h.switch_to op other → IsAlways d op → IsAlways d other
  always_over op other over always v vector =
      breaks_to d h op other over (exchanged d h v) v (vector_back v (exchanged d h v) (is_exchanged d h v vector)) None
      (always (exchanged d h v) (exchanged_long d h v))

  answers_over : (ops others : List Op) (v : List Bool) (answers : List (Option Rule)) →
      ((k : ℕ) (other : Op) → slice_get others k ≡ Some other →
      (op : Op) × (slice_get ops k ≡ Some op) × IsExchangedOp h.switch_to op other) →
      AreAnswers d ops v answers → AnswerLikewise d h.switch_to others v answers
  answers_over ops others v answers are so k other a w at answer over =
      let (op, place, same) = are k other at in
      breaks_to d h op other same v w over a (so.each k op a place answer)

module _ (d : Diagram) (h : Exchange d) (first second count : ℕ) (t : BayTests) (is : TestSwitches d first count t)
    (carried : (i : ℕ) → i < count → h.switch_to (first + i) ≡ second + i) where
  is_over : (k : ℕ) (op other : Op) → slice_get t.operations.items k ≡ Some op →
      slice_get (operations_from second count) k ≡ Some other → IsExchangedOp h.switch_to op other
  is_over k op other at there =
      exchanged_at h.switch_to first second count k op other carried
      (subst (λ (l : List Op). slice_get l k ≡ Some op) is.operations at) there

  of_one : (k : ℕ) (other : Op) → slice_get (operations_from second count) k ≡ Some other →
      (op : Op) × (slice_get t.operations.items k ≡ Some op) × IsExchangedOp h.switch_to op other
  of_one k other there =
      let (op, at) = at_its_place first second count k other there in
      let here : slice_get t.operations.items k ≡ Some op =
      subst (λ (l : List Op). slice_get l k ≡ Some op) (sym is.operations) at in
      (op, here, is_over k op other here there)

  turned_over : (k s : ℕ) (other : Op) → slice_get (operations_from second count) k ≡ Some other →
      DependsOn d other (h.switch_to s) → TurnIsShownFor d first count t.positions.items k s
  turned_over k s other there dep =
      let (op, at, over) = of_one k other there in
      is.turns k s op at
      (subst (λ (x : ℕ). DependsOn d op x) (h.switch_back s)
      (depends_over d h other op (h.switch_to s) (over_back d h op other over) dep))

  broken_over : (k : ℕ) (other : Op) (rule : Rule) (v : List Bool) →
      slice_get (operations_from second count) k ≡ Some other → IsVector d v → Breaks d v other (Some rule) →
      RuleIsShown t.positions.items k rule
  broken_over k other rule v there vector breaks =
      let (op, at, over) = of_one k other there in
      is.rules k op rule (exchanged d h v) at (exchanged_long d h v)
      (breaks_to d h other op (over_back d h op other over) v (exchanged d h v) (is_exchanged d h v vector) (Some rule)
      breaks)

  pub test_likewise : TestLikewise d h.switch_to first second count t
  test_likewise = record {
    operations = is_over;
    positions = λ i p at.
        answers_over d h t.operations.items (operations_from second count) p.closed.items p.answers.items of_one
        (is.positions i p at).answers;
    moves = λ i j p m at at_m.
        answers_over d h t.operations.items (operations_from second count) (moved m.switch.0 p.closed.items)
        m.answers.items of_one ((is.positions i p at).moves j m at_m).answers_are;
    turns = turned_over;
    rules = broken_over;
    always = λ k op other at there. (
      always_over d h op other (is_over k op other at there),
      always_over d h other op (over_back d h op other (is_over k op other at there)),
    );
  }

pub like_tested : (d : Diagram) (one other : ℕ) (t : BayTests) (like : AreLike d one other) → AreTestsOf d one t →
    AreTestsOfLike d like.exchange.switch_to other t
like_tested d one other t like are =
    let many : like.count ≡ are.count = like.of_one.counted ∙ sym are.switches.counted in
    record {
      first = are.first;
      second = like.second;
      count = are.count;
      switches = subst (λ (n : ℕ). AreSwitchesOf d other like.second n) many like.of_other;
      tests =
          test_likewise d like.exchange are.first like.second are.count t are.tests
          (λ i lt.
          let same : are.first ≡ like.first =
          same_first d one are.first are.count like.first like.count are.switches like.of_one (omega (arith, lt)) in
          ap (λ (n : ℕ). like.exchange.switch_to (n + i)) same ∙ like.carried i (omega (arith, lt, many)));
    }
