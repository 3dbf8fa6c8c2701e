-- The nodes that are reached from the operations of a bay.
use Rattle.std.proofs.Common.{◌≡◌, ◌∙◌, ℕ, ◌+◌, ◌-◌, ◌*◌, ◌<◌, ◌≤◌, zero, suc, List, [], ◌∷◌, length, map, slice_index}
use Rattle.std.proofs.Common.{refl, sym, ap, subst, arith, Some}
use Rattle.std.specs.Prelude.{slice_get}
use Rattle.std.specs.List.{sum}
use Rattle.std.proofs.lemmas.List.Sums.{sum_by-cons}
use Rattle.std.proofs.lemmas.Option.{same_Some, slice_get_within, get_or_from_slice_get}
use Rattle.indexmap.proofs.IndexTableLemmas.Probe.{pigeonhole}
use Rattle.ilk_base.specs.declared.words.Direction.{Direction}
use Rattle.ilk_base.specs.declared.words.Direction.TheVariants.{ToOff, ToOn}
use Rattle.station_graph.proofs.Decided.{element}
use Rattle.part_alphabets.specs.Counting.{AreSoMany}
use Rattle.central_rules.specs.Meaning.{bay_of}
use Rattle.judge_pool.specs.declared.view.View.TheVariants.{Gap, Load}
use Rattle.judge_pool.specs.Counted.{BayHas}
use Rattle.judge_graphs.specs.Built.{AreBayGraphs, AreViewGraphs}
use Rattle.release_compile.specs.Judging.{Judging, ground, bay_at}
use Rattle.station_equations.specs.declared.goal.Goal.{Goal}
use Rattle.station_equations.specs.declared.goal.Goal.TheVariants.{Node, Answer}
use Rattle.station_equations.specs.declared.goal.SwitchGoals.{SwitchGoals}
use Rattle.station_equations.specs.EquationLines.{PartLines, NodeLine, EquationLines, goal_towards}
use Rattle.station_equations.specs.EquationMeaning.{PassesThrough, Leads}
use Rattle.station_equations.specs.EquationForm.{IsGoal, goals_of}
use Rattle.station_equations.specs.Growing.{AllGrew, turned_goal, turned_goals, IsTurned}
use Rattle.station_equations.specs.Apart.{IsFrom, StandApart}
use Rattle.station_equations.specs.NodeCount.{WritesGoal, IsNodeOf, AreAtMost, most_nodes, HaveFewLines}
use Rattle.judge_pool.specs.Layering.{NoneTwice}
use Rattle.station_equations.specs.Compiling.{view_nodes, switch_nodes}
use Rattle.station_equations.proofs.GrowingLemmas.{goal_below}
use Rattle.station_equations.proofs.TurnLemmas.{unmapped, goals_turned, towards_turned}
use Rattle.station_equations.proofs.ReadyLemmas.{bay_is, one_first}
use Rattle.station_equations.proofs.CountedLemmas.{view_few}

-- what climbs by so much for each entry of two lists
climb : (f : ℕ → ℕ) (each : ℕ) (xs ys : List ℕ) (n : ℕ) → length xs ≡ length ys →
    ((i x y : ℕ) → slice_get xs i ≡ Some x → slice_get ys i ≡ Some y → f (suc (n + i)) ≤ f (n + i) + (x + y + each)) →
    f (n + length xs) ≤ f n + (length xs * each + (sum xs + sum ys))
climb f each [] [] n len more = let same : n + 0 ≡ n = omega arith in omega (arith, ap f same)
climb f each [] (y ∷ ys) n len more = absurd (omega (arith, len))
climb f each (x ∷ xs) [] n len more = absurd (omega (arith, len))
climb f each (x ∷ xs) (y ∷ ys) n len more =
    let here = more 0 x y refl refl in
    let same : n + 0 ≡ n = omega arith in
    let rest = climb f each xs ys (suc n) (omega (arith, len)) (λ i a b at_a at_b.
    let next : n + suc i ≡ suc n + i = omega arith in
    omega (arith, more (suc i) a b at_a at_b, ap f next, ap (λ k. f (suc k)) next)) in
    let all : n + suc (length xs) ≡ suc n + length xs = omega arith in
    let times : suc (length xs) * each ≡ each + length xs * each = omega arith in
    omega (
      arith,
      here,
      rest,
      times,
      ap f same,
      ap (λ k. f (suc k)) same,
      ap f all,
      sum_by-cons (λ (k : ℕ). k) x xs,
      sum_by-cons (λ (k : ℕ). k) y ys,
    )

-- numbers, none twice, which counted from the other end are in a range, are no more than the range has
range_has : (total lo hi : ℕ) (ns : List ℕ) → NoneTwice ns →
    ((i n : ℕ) → slice_get ns i ≡ Some n → (n < total) × (lo ≤ total - suc n) × (total - suc n < hi)) →
    length ns ≤ hi - lo
range_has total lo hi ns differ each =
    pigeonhole (length ns) (hi - lo) (λ i. (total - suc (slice_index ns i)) - lo)
    (λ i lt. let x = at i lt in let h = each i x.0 x.1 in omega (arith, h.1, h.2, is i x.0 x.1))
    (λ i k lt_i lt_k same.
    let x = at i lt_i in
    let y = at k lt_k in
    let h = each i x.0 x.1 in
    let g = each k y.0 y.1 in
    let e : x.0 ≡ y.0 = omega (arith, same, is i x.0 x.1, is k y.0 y.1, h.0, h.1, g.0, g.1) in
    differ i k y.0 (x.1 ∙ ap Some e) y.1)
  where
    at : (i : ℕ) → i < length ns → (n : ℕ) × (slice_get ns i ≡ Some n)
    at i lt = element ns i lt

    is : (i n : ℕ) → slice_get ns i ≡ Some n → slice_index ns i ≡ n
    is i n at = get_or_from_slice_get ns i n 0 at

module _ (j : Judging) (ops : List SwitchGoals) (nodes turned : List NodeLine) (n : ℕ)
    (apart : StandApart j n ops nodes) (count : length ops ≡ n) (switches : ℕ) (parts : List PartLines)
    (grew : AllGrew switches parts nodes) (is : IsTurned nodes turned) where
  -- later switches begin later
  later : (m k : ℕ) → m + k ≤ n → apart.starts m ≤ apart.starts (m + k)
  later m zero le = let same : m + 0 ≡ m = omega arith in omega (arith, ap apart.starts same)
  later m (suc k) le =
      let before = later m k (omega (arith, le)) in
      let more = apart.climbs (m + k) (omega (arith, le)) in
      let same : m + suc k ≡ suc (m + k) = omega arith in
      omega (arith, before, more, ap apart.starts same)

  starts_climb : (m k : ℕ) → m ≤ k → k ≤ n → apart.starts m ≤ apart.starts k
  starts_climb m k le lt =
      let h = later m (k - m) (omega (arith, le, lt)) in
      let same : m + (k - m) ≡ k = omega (arith, le) in
      omega (arith, h, ap apart.starts same)

  starts_within : (m : ℕ) → m ≤ n → apart.starts m ≤ length nodes
  starts_within m le = omega (arith, starts_climb m n le (omega arith), apart.end)

  -- the goal is an answer, or stands for a node of switch m
  abbrev Inside : ℕ → Goal → Type 0
  Inside m (Node k) =
      (k < length nodes) × (apart.starts m ≤ length nodes - suc k) × (length nodes - suc k < apart.starts (suc m))
  Inside m (Answer a) = Unit {0}

  inside_turned : (m : ℕ) (g : Goal) → m < n → IsFrom (apart.starts m) g → IsGoal (apart.starts (suc m)) g →
      Inside m (turned_goal (length nodes) g)
  inside_turned m (Node q) lt from below =
      let within = starts_within (suc m) (omega (arith, lt)) in
      (omega (arith, below, within), omega (arith, from, below, within), omega (arith, from, below, within))
  inside_turned m (Answer a) lt from below = tt

  inside_next : (m : ℕ) (g h : Goal) → m < n → Inside m g → WritesGoal turned g h → Inside m h
  inside_next m (Answer a) h lt inside w = absurd w
  inside_next m (Node k) h lt inside w =
      let q = length nodes - suc k in
      let x = element nodes (length nodes - suc k) (omega (arith, inside.0)) in
      let back : length nodes - suc (length nodes - suc k) ≡ k = omega (arith, inside.0) in
      let line = same_Some _ w.line
      (sym (is.each (length nodes - suc k) x.0 x.1) ∙ ap (slice_get turned) back ∙ w.listed) in
      let old = goals_turned (length nodes) x.0 w.place h
      (ap (λ (y : NodeLine). slice_get (goals_of y) w.place) line ∙ w.goal) in
      let from = apart.closed m (length nodes - suc k) x.0 lt inside.1 inside.2 x.1 w.place old.0 old.1 in
      let below = goal_below (length nodes - suc k) (apart.starts (suc m)) old.0 (omega (arith, inside.2))
      ((grew (length nodes - suc k) x.0 x.1).goals w.place old.0 old.1) in
      subst (λ (z : Goal). Inside m z) old.2 (inside_turned m old.0 lt from below)

  inside_all : (m : ℕ) (g h : Goal) (after : List Goal) → m < n → Inside m g
      → PassesThrough (WritesGoal turned) g after h →
      Inside m h
  inside_all m g h [] lt inside same = subst (λ (z : Goal). Inside m z) same inside
  inside_all m g h (c ∷ after) lt inside ps = inside_all m c h after lt (inside_next m g c lt inside ps.0) ps.1

  inside_goals : (m : ℕ) (x : SwitchGoals) (way : Direction) → slice_get ops m ≡ Some x →
      Inside m (turned_goal (length nodes) (goal_towards x way))
  inside_goals m x ToOff at =
      let h = apart.goals m x at in
      inside_turned m x.opening (omega (arith, slice_get_within ops m x at, count)) h.0.opening h.1.opening
  inside_goals m x ToOn at =
      let h = apart.goals m x at in
      inside_turned m x.closing (omega (arith, slice_get_within ops m x at, count)) h.0.closing h.1.closing

  -- a node that is reached from an operation of switch m is one of its
  reached_inside : (m k : ℕ) (y : SwitchGoals) (way : Direction) →
      slice_get (map (turned_goals (length nodes)) ops) m ≡ Some y →
      Leads (WritesGoal turned) (goal_towards y way) (Node k) → Inside m (Node k)
  reached_inside m k y way at leads =
      let x = unmapped (turned_goals (length nodes)) ops m y at in
      let lt : m < n = omega (arith, slice_get_within ops m x.0 x.1, count) in
      let same : turned_goal (length nodes) (goal_towards x.0 way) ≡ goal_towards y way =
      sym (towards_turned (length nodes) x.0 way) ∙ ap (λ (z : SwitchGoals). goal_towards z way) x.2 in
      inside_all m (goal_towards y way) (Node k) leads.after lt
      (subst (λ (z : Goal). Inside m z) same (inside_goals m x.0 way x.1)) leads.passes

  module _ (all : n ≡ length j.diagram.switches) (b edges : ℕ)
      (has : BayHas j.diagram b (AreSoMany j.diagram) edges) where
    -- the nodes of one switch of the bay
    switch_few : (i x y : ℕ) → slice_get has.gap.inner.each i ≡ Some x → slice_get has.load.inner.each i ≡ Some y →
        apart.starts (suc (has.first + i))
        ≤ apart.starts (has.first + i) + (x + y + (has.gap.outer_edges + has.load.outer_edges))
    switch_few i x y at_gap at_load =
        let i_in : i < has.count = omega (arith, slice_get_within has.gap.inner.each i x at_gap, has.gap.inner.len) in
        let lt : has.first + i < n = omega (arith, i_in, has.switches.within, all) in
        let s = element j.diagram.switches (has.first + i) (omega (arith, lt, all)) in
        let own : s.0.bay.0 ≡ b = (has.switches.those (has.first + i) s.0 s.1).1 (omega arith, omega (arith, i_in)) in
        let here : bay_of j.diagram (has.first + i) ≡ b = bay_is j.diagram (has.first + i) s.0 s.1 ∙ own in
        let g : AreBayGraphs (ground j) b (bay_at j b) =
        subst (λ k. AreBayGraphs (ground j) k (bay_at j k)) here (apart.graphs (has.first + i) lt) in
        let begins : (bay_at j b).first ≡ has.first =
        sym (one_first j.diagram b has.first has.count (bay_at j b).first (bay_at j b).count has.switches g.switches
        (omega (arith, i_in))) in
        let counts : (bay_at j b).count ≡ has.count = g.switches.counted ∙ sym has.switches.counted in
        let gap = view_few Gap (ground j) b has.first has.count (bay_at j b).gap (subst
        (λ k. AreViewGraphs Gap (ground j) b k has.count (bay_at j b).gap) begins
        (subst (λ k. AreViewGraphs Gap (ground j) b (bay_at j b).first k (bay_at j b).gap) counts g.gap)) has.gap_edges
        has.gap (bay_at j b) (has.first + i) i x begins refl at_gap in
        let load = view_few Load (ground j) b has.first has.count (bay_at j b).load (subst
        (λ k. AreViewGraphs Load (ground j) b k has.count (bay_at j b).load) begins
        (subst (λ k. AreViewGraphs Load (ground j) b (bay_at j b).first k (bay_at j b).load) counts g.load))
        has.load_edges has.load (bay_at j b) (has.first + i) i y begins refl at_load in
        let few : apart.starts (suc (has.first + i)) ≤ apart.starts (has.first + i) + switch_nodes j (has.first + i) =
        apart.few (has.first + i) lt in
        let bays = ap (λ k. view_nodes (bay_at j k) (bay_at j k).load (has.first + i)
        + view_nodes (bay_at j k) (bay_at j k).gap (has.first + i)) here in
        omega (arith, few, gap, load, bays)

    bay_few : apart.starts (has.first + has.count)
        ≤ apart.starts has.first
        + (has.count * (has.gap.outer_edges + has.load.outer_edges)
        + (sum has.gap.inner.each + sum has.load.inner.each))
    bay_few =
        let h = climb apart.starts (has.gap.outer_edges + has.load.outer_edges) has.gap.inner.each has.load.inner.each
        has.first (has.gap.inner.len ∙ sym has.load.inner.len) switch_few in
        subst (λ k. apart.starts (has.first + k)
        ≤ apart.starts has.first
        + (k * (has.gap.outer_edges + has.load.outer_edges) + (sum has.gap.inner.each + sum has.load.inner.each)))
        has.gap.inner.len h

    -- the nodes of the bay are few
    pub few_nodes : AreAtMost (most_nodes has) (IsNodeOf j.diagram (record {
      parts = parts;
      ops = map (turned_goals (length nodes)) ops;
      nodes = turned;
    }) b)
    few_nodes = λ ns differ each.
        let le = range_has (length nodes) (apart.starts has.first) (apart.starts (has.first + has.count)) ns
        differ (λ i k at.
        let x = each i k at in
        let range = (has.switches.those x.number x.switch x.is_switch).0 x.own in
        let inside = reached_inside x.number k x.goals x.direction x.listed x.reached in
        let low = starts_climb has.first x.number range.0 (omega (arith, range.1, has.switches.within, all)) in
        let high = starts_climb (suc x.number) (has.first + has.count) (omega (arith, range.1))
        (omega (arith, has.switches.within, all)) in
        (inside.0, omega (arith, inside.1, low), omega (arith, inside.2, high))) in
        omega (arith, le, bay_few, has.gap.inner.all, has.load.inner.all)

-- all lines are few
pub few_lines : (j : Judging) (ops : List SwitchGoals) (nodes turned : List NodeLine) (switches : ℕ)
    (parts : List PartLines) (goals : List SwitchGoals) → StandApart j (length j.diagram.switches) ops nodes →
    length ops ≡ length j.diagram.switches → AllGrew switches parts nodes → IsTurned nodes turned →
    HaveFewLines j.diagram (record { parts = parts; ops = goals; nodes = turned })
few_lines j ops nodes turned switches parts goals apart count grew is = record {
  before = apart.starts;
  begins = apart.begins;
  climbs = apart.climbs;
  ends = apart.end ∙ sym is.count;
  few = λ b edges has.
      let h = bay_few j ops nodes turned (length j.diagram.switches) apart count switches parts grew is refl b edges
      has in
      omega (arith, h, has.gap.inner.all, has.load.inner.all);
}
