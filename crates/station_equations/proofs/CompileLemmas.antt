-- What is compiled is of the station, and exact.
use Rattle.std.proofs.Common.{◌≡◌, ◌∙◌, ◌⊎◌, ℕ, ◌+◌, Bool, List, [], ◌∷◌, ◌++◌, length, map, Option, Some, refl, sym}
use Rattle.std.proofs.Common.{ap, subst, inl, inr, arith}
use Rattle.std.specs.Prelude.{slice_get}
use Rattle.std.proofs.lemmas.List.{length-map, length_push}
use Rattle.std.proofs.lemmas.Option.{slice_get_within}
use Rattle.ilk_base.specs.declared.words.Rule.{Rule}
use Rattle.station_graph.specs.Diagram.{Diagram, part_count}
use Rattle.station_graph.specs.Alike.{IsVector}
use Rattle.station_graph.specs.CentralRules.{Breaks}
use Rattle.station_graph.proofs.AnswerLemmas.{same_answer}
use Rattle.station_graph.proofs.Decided.{element}
use Rattle.part_alphabets.specs.PartAlphabets.{Alphabets}
use Rattle.part_alphabets.specs.declared.fork.PartStep.{PartStep}
use Rattle.part_alphabets.specs.Counting.{AreStepSizes}
use Rattle.part_alphabets.specs.Alphabets.{AreAlphabets}
use Rattle.station_equations.specs.declared.goal.Goal.{Goal}
use Rattle.station_equations.specs.declared.goal.Goal.TheVariants.{Answer}
use Rattle.station_equations.specs.declared.goal.SwitchGoals.{SwitchGoals}
use Rattle.station_equations.specs.EquationLines.{PartLines, NodeLine, EquationLines, goal_towards}
use Rattle.station_equations.specs.EquationMeaning.{Leads, NextGoal, Means}
use Rattle.station_equations.specs.EquationForm.{SwitchGoalsFit, AreWhole, AreEquations, goals_of}
use Rattle.station_equations.specs.Growing.{AreGoals, AllGrew, turned_goals, IsTurned}
use Rattle.judge_pool.specs.Pooling.{Extends}
use Rattle.station_equations.specs.Compiling.{AreExact, IsPartStep, AreStepsOf, ArePartsOf, AreExactParts}
use Rattle.station_equations.specs.Compiling.{SwitchIsExact}
use Rattle.station_equations.specs.Compiling.{AreGoalsOf, HaveFewSteps}
use Rattle.station_equations.specs.NodeCount.{HaveFewNodes, HaveFewLines}
use Rattle.station_equations.proofs.LeadsLemmas.{leads_stay}
use Rattle.station_equations.proofs.GrowingLemmas.{get_push, goal_stays, goal_below, next_stays}
use Rattle.station_equations.proofs.PartsLemmas.{part_exact, part_fits}
use Rattle.station_equations.proofs.TurnLemmas.{mapped, leads_turned, nodes_turned, ops_turned, towards_turned}
use Rattle.station_equations.proofs.MeaningLemmas.{one_meaning}

pub parts_exact : (d : Diagram) (a : Alphabets) (parts : List PartLines) → AreAlphabets d a →
    ArePartsOf a (part_count d) parts → AreExactParts d a parts
parts_exact d a parts al are = record {
  count = are.count;
  each =
      λ part x at. part_exact d a part (al.each part (omega (arith, slice_get_within parts part x at, are.count))) x
      (are.each part x at);
}

exact_stays : (d : Diagram) (parts : List PartLines) (nodes more : List NodeLine) (goals : SwitchGoals) (switch : ℕ)
    (v : List Bool) → Extends nodes more → SwitchIsExact d parts nodes goals switch v →
    SwitchIsExact d parts more goals switch v
exact_stays d parts nodes more goals switch v ext is = record {
  answer = λ op here.
      let x = is.answer op here in (
        x.0,
        x.1,
        leads_stay (NextGoal parts nodes v) (NextGoal parts more v) (next_stays parts nodes more v ext)
            (goal_towards goals op.direction) (Answer x.0) x.2,
      );
}

-- no switch
pub goals_none : (d : Diagram) (parts : List PartLines) (nodes : List NodeLine) (ops : List SwitchGoals) → nodes ≡ [] →
    ops ≡ [] → AreGoalsOf d parts nodes 0 ops
goals_none d parts nodes ops no_nodes no_ops = record {
  count = ap length no_ops;
  exact = λ switch goals v at whole. let e = ap (λ xs. slice_get xs switch) (sym no_ops) ∙ at in absurd (cc);
  fit = λ switch x at. let e = ap (λ xs. slice_get xs switch) (sym no_ops) ∙ at in absurd (cc);
  grew = λ n x at. let e = ap (λ xs. slice_get xs n) (sym no_nodes) ∙ at in absurd (cc);
}

-- one switch more
pub goals_more : (d : Diagram) (parts : List PartLines) (nodes more : List NodeLine) (n next : ℕ)
    (ops longer : List SwitchGoals) (goals : SwitchGoals) → next ≡ n + 1 → longer ≡ ops ++ goals ∷ [] →
    Extends nodes more
    → ((v : List Bool) → IsVector d v → SwitchIsExact d parts more goals n v) →
    (AllGrew (length d.switches) parts more × SwitchGoalsFit (length more) goals) → AreGoalsOf d parts nodes n ops →
    AreGoalsOf d parts more next longer
goals_more d parts nodes more n next ops longer goals one_more same ext exact grew are = record {
  count = ap length same ∙ length_push ops goals ∙ ap (λ k. k + 1) are.count ∙ sym one_more;
  exact = λ switch x v at whole. elim (at_last switch x at) [
    | inl old ↦ exact_stays d parts nodes more x switch v ext (are.exact switch x v old whole)
    | inr last ↦
        subst (λ (y : SwitchGoals). SwitchIsExact d parts more y switch v) last.1
        (subst (λ k. SwitchIsExact d parts more goals k v) (sym (last.0 ∙ are.count)) (exact v whole))
  ];
  fit = λ switch x at. elim (at_last switch x at) [
    | inl old ↦
        let f = are.fit switch x old in
        record {
          opening = goal_stays nodes more x.opening ext f.opening;
          closing = goal_stays nodes more x.closing ext f.closing;
        }
    | inr last ↦ subst (λ (y : SwitchGoals). SwitchGoalsFit (length more) y) last.1 grew.1
  ];
  grew = grew.0;
}
  where
    at_last : (switch : ℕ) (x : SwitchGoals) → slice_get longer switch ≡ Some x →
        (slice_get ops switch ≡ Some x) ⊎ ((switch ≡ length ops) × (goals ≡ x))
    at_last switch x at = get_push ops goals x switch (ap (λ xs. slice_get xs switch) (sym same) ∙ at)

module _ (d : Diagram) (a : Alphabets) (parts : List PartLines) (nodes turned : List NodeLine) (ops : List SwitchGoals)
    (al : AreAlphabets d a) (are : ArePartsOf a (part_count d) parts)
    (goals : AreGoalsOf d parts nodes (length d.switches) ops) (is : IsTurned nodes turned) where
  ops_count : length (map (turned_goals (length nodes)) ops) ≡ length d.switches
  ops_count = length-map ops (turned_goals (length nodes)) ∙ goals.count

  pub are_whole : AreWhole (record { parts = parts; ops = map (turned_goals (length nodes)) ops; nodes = turned })
  are_whole = record {
    parts =
        λ part x at. part_fits d a part (al.each part (omega (arith, slice_get_within parts part x at, are.count))) x
        (are.each part x at) (length (map (turned_goals (length nodes)) ops)) (al.switches ∙ sym ops_count);
    ops = ops_turned (length d.switches) parts nodes turned is ops goals.fit;
    nodes =
        nodes_turned (length (map (turned_goals (length nodes)) ops)) parts nodes turned is
        (subst (λ k. AllGrew k parts nodes) (sym ops_count) goals.grew);
  }

  pub are_equations : AreEquations d
      (record { parts = parts; ops = map (turned_goals (length nodes)) ops; nodes = turned })
  are_equations = record {
    whole = are_whole;
    parts = are.count;
    ops = ops_count;
    own = λ part m x s at at_step. ((are.each part x at).each m s at_step).own d al;
  }

  pub are_exact : AreExact d (record { parts = parts; ops = map (turned_goals (length nodes)) ops; nodes = turned })
  are_exact op v answer in_station whole =
      let x = element ops op.switch.0 (omega (arith, in_station, goals.count)) in
      let says = (goals.exact op.switch.0 x.0 v x.1 whole).answer op refl in
      let means : Means (record { parts = parts; ops = map (turned_goals (length nodes)) ops; nodes = turned }) op v
      says.0 = record {
        goals = turned_goals (length nodes) x.0;
        listed = mapped (turned_goals (length nodes)) ops op.switch.0 x.0 x.1;
        leads =
            subst (λ (g : Goal). Leads (NextGoal parts turned v) g (Answer says.0))
            (sym (towards_turned (length nodes) x.0 op.direction)) (leads_turned (length d.switches) parts nodes turned
            is v (goal_towards x.0 op.direction) (Answer says.0) says.2);
      } in (
        λ m. subst (λ (r : Option Rule). Breaks d v op r) (one_meaning
            (record { parts = parts; ops = map (turned_goals (length nodes)) ops; nodes = turned }) op v says.0 answer
            means m) says.1,
        λ b. subst (λ (r : Option Rule). Means
            (record { parts = parts; ops = map (turned_goals (length nodes)) ops; nodes = turned }) op v r)
            (same_answer d v op says.0 answer says.1 b) means,
      )

-- what is compiled, under the names that the code gives
pub record Compiled (d : Diagram) (e : EquationLines) : Type 0 where
  pub whole : AreWhole e
  pub equations : AreEquations d e
  pub exact : AreExact d e
  pub steps : HaveFewSteps d e
  pub nodes : HaveFewNodes d e
  pub all : HaveFewLines d e

pub compiled : (d : Diagram) (a : Alphabets) (parts : List PartLines) (nodes lines : List NodeLine)
    (ops turned : List SwitchGoals) (total : ℕ) → AreAlphabets d a → ArePartsOf a (part_count d) parts →
    AreGoalsOf d parts nodes (length d.switches) ops → IsTurned nodes lines → length nodes ≡ total →
    turned ≡ map (turned_goals total) ops →
    HaveFewNodes d (record { parts = parts; ops = map (turned_goals (length nodes)) ops; nodes = lines }) →
    HaveFewLines d (record { parts = parts; ops = map (turned_goals (length nodes)) ops; nodes = lines }) →
    Compiled d (record { parts = parts; ops = turned; nodes = lines })
compiled d a parts nodes lines ops turned total al are goals is count same few all =
    let now : turned ≡ map (turned_goals (length nodes)) ops = same ∙ ap (λ n. map (turned_goals n) ops) (sym count) in
    subst (λ (xs : List SwitchGoals). Compiled d (record { parts = parts; ops = xs; nodes = lines }))
    (sym now) (record {
      whole = are_whole d a parts nodes lines ops al are goals is;
      equations = are_equations d a parts nodes lines ops al are goals is;
      exact = are_exact d a parts nodes lines ops al are goals is;
      steps =
          λ part x at. subst (λ n. AreStepSizes d part n) (sym (are.each part x at).count)
          (al.each part (omega (arith, slice_get_within parts part x at, are.count))).steps;
      nodes = few;
      all = all;
    })

pub goals_within : (d : Diagram) (parts : List PartLines) (nodes : List NodeLine) (n total : ℕ)
    (ops : List SwitchGoals) → AreGoalsOf d parts nodes n ops → length nodes ≡ total → (k : ℕ) (x : NodeLine) →
    slice_get nodes k ≡ Some x → AreGoals total (goals_of x)
goals_within d parts nodes n total ops are count k x at =
    λ i g goal_at. goal_below k total g (omega (arith, slice_get_within nodes k x at, count))
    ((are.grew k x at).goals i g goal_at)

-- the lines of the judge's parts
pub parts_of : (d other : Diagram) (a b : Alphabets) (parts : List PartLines) → other ≡ d → b ≡ a →
    ArePartsOf b (part_count other) parts → ArePartsOf a (part_count d) parts
parts_of d other a b parts same_d same_a are =
    subst (λ (x : Diagram). ArePartsOf a (part_count x) parts) same_d
    (subst (λ (x : Alphabets). ArePartsOf x (part_count other) parts) same_a are)

-- one step more
pub steps_more : (a : Alphabets) (part i : ℕ) (steps more : List PartStep) (s : PartStep) → more ≡ steps ++ s ∷ [] →
    length steps ≡ i → IsPartStep a part i s →
    ((m : ℕ) (t : PartStep) → slice_get steps m ≡ Some t → IsPartStep a part m t) → (m : ℕ) (t : PartStep) →
    slice_get more m ≡ Some t → IsPartStep a part m t
steps_more a part i steps more s same count is each m t at =
    elim (get_push steps s t m (ap (λ xs. slice_get xs m) (sym same) ∙ at)) [
      | inl old ↦ each m t old
      | inr last ↦
          subst (λ (y : PartStep). IsPartStep a part m y) last.1
          (subst (λ k. IsPartStep a part k s) (sym (last.0 ∙ count)) is)
    ]

-- one part more
pub parts_more : (a : Alphabets) (n next : ℕ) (parts more : List PartLines) (x : PartLines) → next ≡ n + 1 →
    more ≡ parts ++ x ∷ [] → AreStepsOf a n x → ArePartsOf a n parts → ArePartsOf a next more
parts_more a n next parts more x one_more same is are = record {
  count = ap length same ∙ length_push parts x ∙ ap (λ k. k + 1) are.count ∙ sym one_more;
  each = λ part y at. elim (get_push parts x y part (ap (λ xs. slice_get xs part) (sym same) ∙ at)) [
    | inl old ↦ are.each part y old
    | inr last ↦
        subst (λ (z : PartLines). AreStepsOf a part z) last.1
        (subst (λ k. AreStepsOf a k x) (sym (last.0 ∙ are.count)) is)
  ];
}
