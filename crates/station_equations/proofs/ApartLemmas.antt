-- Nodes and goals from a place on stay so as nodes are added.
use Rattle.std.proofs.Common.{refl, ◌≡◌, ◌∙◌, ◌⊎◌, ℕ, ◌+◌, ◌-◌, ◌<◌, ◌≤◌, zero, suc, List, [], ◌∷◌, ◌++◌, length, sym, ap}
use Rattle.std.proofs.Common.{subst, inl, inr, arith, Some, Option, cond}
use Rattle.std.specs.Prelude.{slice_get, nat_lt}
use Rattle.std.proofs.lemmas.Bool.{cases_lt}
use Rattle.std.proofs.lemmas.Bool.Decides.{nat_tests}
use Rattle.station_graph.proofs.Decided.{element}
use Rattle.std.proofs.lemmas.Option.{same_Some, slice_get_within}
use Rattle.ilk_base.specs.declared.words.Rule.{Rule}
use Rattle.decision_graphs.specs.Label.{Layered, layer_at, step}
use Rattle.release_compile.specs.Judging.{Judging, ground, bay_at}
use Rattle.judge_graphs.specs.Built.{AreBayGraphs}
use Rattle.central_rules.specs.Meaning.{bay_of}
use Rattle.station_equations.specs.declared.goal.Goal.{Goal}
use Rattle.station_equations.specs.declared.goal.Goal.TheVariants.{Answer}
use Rattle.station_equations.specs.declared.goal.SwitchGoals.{SwitchGoals}
use Rattle.station_equations.specs.EquationLines.{NodeLine}
use Rattle.station_equations.specs.EquationForm.{SwitchGoalsFit, goals_of}
use Rattle.station_equations.specs.Growing.{LeadToGoals}
use Rattle.judge_pool.specs.Pooling.{Extends}
use Rattle.station_equations.specs.Apart.{IsFrom, AreFrom, AllFrom, BothFrom, StandApart}
use Rattle.station_equations.specs.Compiling.{switch_nodes}
use Rattle.station_equations.proofs.GrowingLemmas.{get_push, within_extends}

pub longer : {X : Type 0} (xs ys : List X) → Extends xs ys → length xs ≤ length ys
longer xs ys ext = elim (cases_lt (length ys) (length xs)) [
  | inl less ↦ absurd (omega (arith, within_extends xs ys ext (length ys) less))
  | inr more ↦ more
]

-- goals of a row are goals behind the layer
pub row_from : (lo : ℕ) (g : Layered) (j k : ℕ) (next row : List Goal) → LeadToGoals g j k next row → AreFrom lo next →
    AreFrom lo row
row_from lo g j k next row is are = λ i x at. are (step (layer_at g.layers j) k i) x (is.each i x at)

-- one goal more
pub from_push : (lo : ℕ) (goals more : List Goal) (g : Goal) → more ≡ goals ++ g ∷ [] → AreFrom lo goals → IsFrom lo g →
    AreFrom lo more
from_push lo goals more g same are is = λ i x at.
    elim (get_push goals g x i (subst (λ (zs : List Goal). slice_get zs i ≡ Some x) same at)) [
      | inl old ↦ are i x old
      | inr last ↦ subst (λ (z : Goal). IsFrom lo z) last.1 is
    ]

-- one node more
pub nodes_push : (lo : ℕ) (nodes more : List NodeLine) (x : NodeLine) → more ≡ nodes ++ x ∷ [] → AllFrom lo nodes →
    AreFrom lo (goals_of x) → AllFrom lo more
nodes_push lo nodes more x same all are = λ n y le at.
    elim (get_push nodes x y n (subst (λ (zs : List NodeLine). slice_get zs n ≡ Some y) same at)) [
      | inl old ↦ all n y le old
      | inr last ↦ subst (λ (z : NodeLine). AreFrom lo (goals_of z)) last.1 are
    ]

-- goals that are answers, but for the first
pub pair_from : (lo : ℕ) (a b : Option Rule) → AreFrom lo (Answer a ∷ Answer b ∷ [])
pair_from lo a b zero g at = subst (λ (h : Goal). IsFrom lo h) (same_Some (Answer a) g at) tt
pair_from lo a b (suc zero) g at = subst (λ (h : Goal). IsFrom lo h) (same_Some (Answer b) g at) tt
pair_from lo a b (suc (suc i)) g at = absurd (cc)

pub triple_from : (lo : ℕ) (free : Goal) (a b : Option Rule) → IsFrom lo free →
    AreFrom lo (free ∷ Answer a ∷ Answer b ∷ [])
triple_from lo free a b is zero g at = subst (λ (h : Goal). IsFrom lo h) (same_Some free g at) is
triple_from lo free a b is (suc i) g at = pair_from lo a b i g at

-- where no node stands, all do
pub none_from : (nodes : List NodeLine) → AllFrom (length nodes) nodes
none_from nodes = λ n x le at. absurd (omega (arith, le, slice_get_within nodes n x at))

-- no switch
pub apart_none : (j : Judging) (ops : List SwitchGoals) (nodes : List NodeLine) → ops ≡ [] → nodes ≡ [] →
    StandApart j 0 ops nodes
apart_none j ops nodes no_ops no_nodes = record {
  starts = λ m. 0;
  begins = refl;
  end = sym (ap length no_nodes);
  climbs = λ m lt. absurd (omega (arith, lt));
  few = λ m lt. absurd (omega (arith, lt));
  graphs = λ m lt. absurd (omega (arith, lt));
  goals = λ m x at. let e = ap (λ (xs : List SwitchGoals). slice_get xs m) (sym no_ops) ∙ at in absurd (cc);
  closed = λ m k x lt. absurd (omega (arith, lt));
}

-- where the nodes of one switch more begin and end
then_end : (ℕ → ℕ) → ℕ → ℕ → ℕ → ℕ
then_end starts n end m = cond (nat_lt n m) end (starts m)

module _ (starts : ℕ → ℕ) (n end : ℕ) where
  at_before : (m : ℕ) → m ≤ n → then_end starts n end m ≡ starts m
  unfolding then_end
  at_before m le = grind (arith, nat_tests, le)

  at_end : then_end starts n end (suc n) ≡ end
  unfolding then_end
  at_end = grind (arith, nat_tests)

-- one switch more
pub apart_more : (j : Judging) (n next : ℕ) (ops longer_ops : List SwitchGoals) (nodes more : List NodeLine)
    (x : SwitchGoals) → next ≡ n + 1 → longer_ops ≡ ops ++ x ∷ [] → length ops ≡ n → Extends nodes more
    → AllFrom (length nodes) more × BothFrom (length nodes) x → length more ≤ length nodes + switch_nodes j n →
    AreBayGraphs (ground j) (bay_of j.diagram n) (bay_at j (bay_of j.diagram n)) → SwitchGoalsFit (length more) x
    → StandApart j n ops nodes → StandApart j next longer_ops more
apart_more j n next ops longer_ops nodes more x one_more same count ext from few graphs fit old = record {
  starts = then_end old.starts n (length more);
  begins = at_before old.starts n (length more) 0 (omega arith) ∙ old.begins;
  end = ap (then_end old.starts n (length more)) (one_more ∙ omega arith) ∙ at_end old.starts n (length more);
  climbs = λ m lt. elim (last m lt) [
    | inl less ↦ omega (arith, before m (omega (arith, less)), before (suc m) less, old.climbs m less)
    | inr here ↦
        omega (arith, before m (omega (arith, here)), after m here, ap old.starts here, old.end, longer nodes more ext)
  ];
  few = λ m lt. elim (last m lt) [
    | inl less ↦ omega (arith, before m (omega (arith, less)), before (suc m) less, old.few m less)
    | inr here ↦ omega (
      arith,
      before m (omega (arith, here)),
      after m here,
      ap old.starts here,
      old.end,
      few,
      ap (switch_nodes j) here,
    )
  ];
  graphs = λ m lt. elim (last m lt) [
    | inl less ↦ old.graphs m less
    | inr here ↦
        subst (λ k. AreBayGraphs (ground j) (bay_of j.diagram k) (bay_at j (bay_of j.diagram k))) (sym here) graphs
  ];
  goals = λ m y at. elim (get_push ops x y m (ap (λ (xs : List SwitchGoals). slice_get xs m) (sym same) ∙ at)) [
    | inl there ↦
        let less : m < n = omega (arith, slice_get_within ops m y there, count) in
        let h = old.goals m y there in
        goals_here m y (old.starts m) (old.starts (suc m)) (before m (omega (arith, less))) (before (suc m) less) h
    | inr here ↦
        subst (λ (z : SwitchGoals). BothFrom (then_end old.starts n (length more) m) z
        × SwitchGoalsFit (then_end old.starts n (length more) (suc m)) z) here.1
        (goals_here m x (length nodes) (length more)
        (before m (omega (arith, here.0, count)) ∙ ap old.starts (here.0 ∙ count) ∙ old.end) (after m (here.0 ∙ count))
        (from.1, fit))
  ];
  closed = λ m k y lt le less at. elim (last m lt) [
    | inl within ↦
        let low = before m (omega (arith, within)) in
        let high = before (suc m) within in
        let k_in : k < length nodes = omega (arith, less, high, ends m within) in
        let z = element nodes k k_in in
        let same_line = same_Some z.0 y (sym (ext k z.0 z.1) ∙ at) in
        subst (λ lo. AreFrom lo (goals_of y)) (sym low) (subst (λ (w : NodeLine). AreFrom (old.starts m) (goals_of w))
        same_line (old.closed m k z.0 within (omega (arith, le, low)) (omega (arith, less, high)) z.1))
    | inr here ↦
        let low = before m (omega (arith, here)) ∙ ap old.starts here ∙ old.end in
        subst (λ lo. AreFrom lo (goals_of y)) (sym low) (from.0 k y (omega (arith, le, low)) at)
  ];
}
  where
    last : (m : ℕ) → m < next → (m < n) ⊎ (m ≡ n)
    last m lt = elim (cases_lt m n) [
      | inl less ↦ inl less
      | inr past ↦ inr (omega (arith, lt, past, one_more))
    ]

    before : (m : ℕ) → m ≤ n → then_end old.starts n (length more) m ≡ old.starts m
    before m le = at_before old.starts n (length more) m le

    after : (m : ℕ) → m ≡ n → then_end old.starts n (length more) (suc m) ≡ length more
    after m here = ap (λ k. then_end old.starts n (length more) (suc k)) here ∙ at_end old.starts n (length more)

    climb_to : (m k : ℕ) → m + k ≤ n → old.starts m ≤ old.starts (m + k)
    climb_to m zero le = let e : m + 0 ≡ m = omega arith in omega (arith, ap old.starts e)
    climb_to m (suc k) le =
        let h = climb_to m k (omega (arith, le)) in
        let e : m + suc k ≡ suc (m + k) = omega arith in
        omega (arith, h, old.climbs (m + k) (omega (arith, le)), ap old.starts e)

    ends : (m : ℕ) → m < n → old.starts (suc m) ≤ length nodes
    ends m less =
        let e : suc m + (n - suc m) ≡ n = omega (arith, less) in
        let h = climb_to (suc m) (n - suc m) (omega (arith, less)) in
        omega (arith, h, ap old.starts e, old.end)

    goals_here : (m : ℕ) (y : SwitchGoals) (lo hi : ℕ) → then_end old.starts n (length more) m ≡ lo →
        then_end old.starts n (length more) (suc m) ≡ hi → BothFrom lo y × SwitchGoalsFit hi y →
        BothFrom (then_end old.starts n (length more) m) y
        × SwitchGoalsFit (then_end old.starts n (length more) (suc m)) y
    goals_here m y lo hi low high h =
        (subst (λ k. BothFrom k y) (sym low) h.0, subst (λ k. SwitchGoalsFit k y) (sym high) h.1)
