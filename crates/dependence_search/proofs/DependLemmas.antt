-- What is found by the labels is what holds in all positions.
use Rattle.std.proofs.Common.{◌≡◌, ◌≢◌, ℕ, ◌<◌, zero, suc, Bool, true, false, not, eqb, List, [], ◌∷◌, Option, Some, None, length, get_or}
use Rattle.std.proofs.Common.{slice_get, slice_set, refl, sym, ap, ◌∙◌, subst, inl, inr, arith, length-set}
use Rattle.std.proofs.lemmas.Option.{slice_get_within, same_Some, slice_get-get_or}
use Rattle.ilk_base.specs.declared.words.Op.{Op}
use Rattle.ilk_base.specs.declared.words.Rule.{Rule}
use Rattle.station_graph.specs.Diagram.{Diagram, IsStation}
use Rattle.station_graph.specs.Alike.{IsVector}
use Rattle.station_graph.specs.CentralRules.{Breaks}
use Rattle.station_graph.specs.Connection.{a_switch}
use Rattle.station_graph.proofs.AnswerLemmas.{same_answer}
use Rattle.station_graph.proofs.PositionLemmas.{slice_get-set_other}
use Rattle.decision_graphs.specs.Label.{Layered, label_of}
use Rattle.decision_graphs.specs.Reaching.{IsSet}
use Rattle.graph_walks.specs.declared.codes.Codes.{Codes}
use Rattle.graph_walks.specs.Walks.{AreTwos, codes_of}
use Rattle.judge_pool.specs.Graphs.{other_of}
use Rattle.release_dependence.specs.Depends.{Turns, DependsOn}
use Rattle.step_graphs.specs.declared.step.Step.{Step}
use Rattle.step_graphs.specs.declared.step.Step.TheVariants.{OfSwitch, OfLink, OfTap, OfNothing}
use Rattle.contraction.specs.Stands.{Among}
use Rattle.step_graphs.specs.Steps.{items_in, TakesIn}
use Rattle.step_graphs.specs.Moved.{AreGiven}
use Rattle.station_joints.specs.Together.{AreJointSteps, ArePlaces}
use Rattle.station_joints.specs.Chosen.{layer_of}
use Rattle.dependence_search.specs.Turning.{moved, IsTurning}
use Rattle.dependence_search.specs.RuleWalks.{IsRuleWalk, rule_of, AreWanted, OneIsNone, IsTurningChoice}
use Rattle.dependence_search.specs.RuleWalks.{turned_at}
use Rattle.dependence_search.proofs.GivenLemmas.{given_same, given_turned, turned_long, turned_small, turned_elsewhere}
use Rattle.dependence_search.proofs.GivenLemmas.{turned_here, layer_place, layer_in}
use Rattle.dependence_search.proofs.ToldLemmas.{as_twos, told, choices_for}

-- ---- two answers of which one is none

pub turned_answers : (d : Diagram) (op : Op) (v w : List Bool) (x y : Option Rule) → Breaks d v op x → Breaks d w op y →
    OneIsNone x y → (rule : Rule) × Turns d op rule v w
turned_answers d op v w x None bx by' (inl t) = absurd (t.1 refl)
turned_answers d op v w x (Some r) bx by' (inl t) = (r, inl (subst (λ (z : Option Rule). Breaks d v op z) t.0 bx, by'))
turned_answers d op v w None y bx by' (inr t) = absurd (t.0 refl)
turned_answers d op v w (Some r) y bx by' (inr t) = (r, inr (bx, subst (λ (z : Option Rule). Breaks d w op z) t.1 by'))

some_rule : (r : Rule) → Some r ≢ None
some_rule r e = cc

pub answers_turned : (d : Diagram) (op : Op) (rule : Rule) (v w : List Bool) (x y : Option Rule) → Breaks d v op x →
    Breaks d w op y → Turns d op rule v w → OneIsNone x y
answers_turned d op rule v w x y bx by' (inl t) = inl (
  same_answer d v op x None bx t.0,
  λ e. some_rule rule (sym (same_answer d w op y (Some rule) by' t.1) ∙ e),
)
answers_turned d op rule v w x y bx by' (inr t) = inr (
  λ e. some_rule rule (sym (same_answer d v op x (Some rule) bx t.0) ∙ e),
  same_answer d w op y None by' t.1,
)

turned_back : (d : Diagram) (op : Op) (rule : Rule) (v w : List Bool) → Turns d op rule v w → Turns d op rule w v
turned_back d op rule v w (inl t) = inr (t.1, t.0)
turned_back d op rule v w (inr t) = inl (t.1, t.0)

same_none : (x : Option Rule) → OneIsNone x x → ⊥
same_none x (inl t) = t.1 t.0
same_none x (inr t) = t.0 t.1

-- ---- a switch that is moved

get_set : {X : Type 0} (xs : List X) (i : ℕ) (a : X) → i < length xs → slice_get (slice_set xs i a) i ≡ Some a
get_set [] i a lt = absurd (omega (arith, lt))
get_set (x ∷ xs) zero a lt = refl
get_set (x ∷ xs) (suc i) a lt = get_set xs i a (omega (arith, lt))

pub moved_vector : (d : Diagram) (s : ℕ) (v : List Bool) → IsVector d v → IsVector d (moved s v)
moved_vector d s v vector = length-set v s (not (get_or v s false)) ∙ vector

moved_elsewhere : (s : ℕ) (v : List Bool) (i : ℕ) → i ≢ s → slice_get v i ≡ slice_get (moved s v) i
moved_elsewhere s v i ne = sym (slice_get-set_other v s i (not (get_or v s false)) ne)

moved_here : (s : ℕ) (v : List Bool) → s < length v → slice_get (moved s v) s ≡ Some (not (get_or v s false))
moved_here s v lt = get_set v s (not (get_or v s false)) lt

-- the vector in which it is open, and the one in which it is closed
turning_differs : (d : Diagram) (op : Op) (s : ℕ) (v : List Bool) → s < length d.switches → IsTurning d op s v →
    DependsOn d op s
turning_differs d op s v lt t = by (get_or v s false) refl
  where
    within : s < length v
    within = omega (arith, lt, t.vector)

    by : (x : Bool) → get_or v s false ≡ x → DependsOn d op s
    by false e = record {
      v = v;
      w = moved s v;
      rule = t.rule;
      differ = record {
        first = t.vector;
        second = moved_vector d s v t.vector;
        opened = slice_get-get_or v s false within ∙ ap Some e;
        closed = moved_here s v within ∙ ap (λ x. Some (not x)) e;
        others = moved_elsewhere s v;
      };
      turns = t.turns;
    }
    by true e = record {
      v = moved s v;
      w = v;
      rule = t.rule;
      differ = record {
        first = moved_vector d s v t.vector;
        second = t.vector;
        opened = moved_here s v within ∙ ap (λ x. Some (not x)) e;
        closed = slice_get-get_or v s false within ∙ ap Some e;
        others = λ i ne. sym (moved_elsewhere s v i ne);
      };
      turns = turned_back d op t.rule v (moved s v) t.turns;
    }

pub depends : (d : Diagram) (op : Op) (s : ℕ) (v : List Bool) → s < length d.switches → IsTurning d op s v →
    DependsOn d op s
depends = turning_differs

module _ (d : Diagram) (is : IsStation d) (ss ts : List Step) (j : AreJointSteps d d ss ts) (b : ℕ) (op : Op)
    (walk : Layered) (codes : List Codes) (w : IsRuleWalk d ss b op.switch.0 walk codes) where
  -- ---- a rule

  module _ (wanted : List Bool) (rule : Rule)
      (are : AreWanted (λ (c : Codes). rule_of op.direction c ≡ Some rule) codes wanted) where
    pub breach_shown : (v : List Bool) (cs : List ℕ) → IsVector d v → AreGiven ss b v cs →
        IsSet wanted (label_of walk cs) → Breaks d v op (Some rule)
    breach_shown v cs vector given set =
        let (c, at, breaks) = told d ss ts b op walk codes w v cs vector given in
        subst (λ (x : Option Rule). Breaks d v op x) ((are.each (label_of walk cs) c at).0 set) breaks

    pub no_breach : b < length ss → ((cs : List ℕ) → AreTwos w.others cs → ¬ IsSet wanted (label_of walk cs)) →
        (v : List Bool) → IsVector d v → ¬ Breaks d v op (Some rule)
    no_breach within lacks v vector shown =
        let (cs, given) = choices_for d ss ts b op walk codes w is j within v vector in
        let (c, at, breaks) = told d ss ts b op walk codes w v cs vector given in
        lacks cs (as_twos d ss ts b op walk codes w v cs given)
        ((are.each (label_of walk cs) c at).1
        (same_answer d v op (rule_of op.direction c) (Some rule) breaks shown))

  -- ---- the moved switch itself

  pub moved_alone : TakesIn ss b (a_switch op.switch.0) → ¬ DependsOn d op op.switch.0
  moved_alone here dep =
      let (cs, given) = choices_for d ss ts b op walk codes w is j (slice_get_within ss b here.step here.at) dep.v
      dep.differ.first in
      let (c, at, breaks) = told d ss ts b op walk codes w dep.v cs dep.differ.first given in
      let (e, at_e, breaks_e) = told d ss ts b op walk codes w dep.w cs dep.differ.second
      (given_same d ss j.old_all b op.switch.0 dep.v dep.w cs here (λ i ne. dep.differ.others i ne) given) in
      let same : e ≡ c = same_Some e c (sym at_e ∙ at) in
      same_none (rule_of op.direction c)
      (answers_turned d op dep.rule dep.v dep.w (rule_of op.direction c) (rule_of op.direction c) breaks
      (subst (λ (x : Codes). Breaks d dep.w op (rule_of op.direction x)) same breaks_e) dep.turns)

  -- ---- another switch

  module _ (s l : ℕ) (here : TakesIn ss (other_of 0 b l) (a_switch s)) where
    other_given : (v u : List Bool) (cs : List ℕ) (x : Bool) → ((i : ℕ) → i ≢ s → slice_get v i ≡ slice_get u i) →
        slice_get v s ≡ Some x → slice_get u s ≡ Some (not x) → AreGiven ss b v cs → AreGiven ss b u (turned_at l cs)
    other_given v u cs x same at_v at_u given =
        given_turned d ss j.old_all b v u s l here same cs (turned_at l cs) (turned_long l cs)
        (turned_small l cs given.small) (turned_elsewhere l cs)
        (λ c at. at_u ∙ ap Some (turned_here l cs c x given.small own at)) given
      where
        by : (c : ℕ) (t : Step) → slice_get cs l ≡ Some c → slice_get ss (other_of 0 b l) ≡ Some t →
            Among (items_in t) (a_switch s) → x ≡ eqb c 1
        by c (OfSwitch id) at at_t (inl e) =
            let number : id.0 ≡ s = cc in
            same_Some x (eqb c 1)
            (sym at_v ∙ (ap (slice_get v) (sym number) ∙ given.each l c (OfSwitch id) at at_t))
        by c (OfSwitch id) at at_t (inr never) = absurd never
        by c (OfLink i) at at_t (inl e) = cc
        by c (OfLink i) at at_t (inr never) = absurd never
        by c (OfTap i) at at_t (inl e) = cc
        by c (OfTap i) at at_t (inr never) = absurd never
        by c OfNothing at at_t never = absurd never

        own : (c : ℕ) → slice_get cs l ≡ Some c → x ≡ eqb c 1
        own c at = by c here.step at here.at here.among

    pub turn_shown : (v : List Bool) (cs : List ℕ) → s < length d.switches → IsVector d v → AreGiven ss b v cs →
        IsTurningChoice walk codes l op.direction cs → IsTurning d op s v
    turn_shown v cs lt vector given t =
        let within : s < length v = omega (arith, lt, vector) in
        let given_other = other_given v (moved s v) cs (get_or v s false) (moved_elsewhere s v)
        (slice_get-get_or v s false within) (moved_here s v within) given in
        let (c, at, breaks) = told d ss ts b op walk codes w v cs vector given in
        let (e, at_e, breaks_e) = told d ss ts b op walk codes w (moved s v) (turned_at l cs)
        (moved_vector d s v vector) given_other in
        let one : t.one ≡ c = same_Some t.one c (sym t.one_at ∙ at) in
        let other : t.other ≡ e = same_Some t.other e (sym t.other_at ∙ at_e) in
        let (rule, turns) = turned_answers d op v (moved s v) (rule_of op.direction c) (rule_of op.direction e) breaks
        breaks_e (subst (λ (x : Codes). OneIsNone (rule_of op.direction x) (rule_of op.direction e)) one
        (subst (λ (x : Codes). OneIsNone (rule_of op.direction t.one) (rule_of op.direction x)) other t.turned)) in
        record { vector = vector; rule = rule; turns = turns }

    pub no_turn : b < length ss → ((cs : List ℕ) → AreTwos w.others cs →
        ¬ IsTurningChoice walk codes l op.direction cs) → ¬ DependsOn d op s
    no_turn within lacks dep =
        let (cs, given) = choices_for d ss ts b op walk codes w is j within dep.v dep.differ.first in
        let given_other = other_given dep.v dep.w cs false (λ i ne. dep.differ.others i ne) dep.differ.opened
        dep.differ.closed given in
        let (c, at, breaks) = told d ss ts b op walk codes w dep.v cs dep.differ.first given in
        let (e, at_e, breaks_e) = told d ss ts b op walk codes w dep.w (turned_at l cs) dep.differ.second given_other in
        lacks cs (as_twos d ss ts b op walk codes w dep.v cs given) (record {
          one = c;
          other = e;
          one_at = at;
          other_at = at_e;
          turned =
              answers_turned d op dep.rule dep.v dep.w (rule_of op.direction c) (rule_of op.direction e) breaks breaks_e
              dep.turns;
        })

-- ---- the place of another switch

pub listed : (places : List ℕ) (s from q n : ℕ) → from ≡ s → q ≡ get_or places from q → s < n → length places ≡ n →
    slice_get places s ≡ Some q
listed places s from q n is at lt long =
    slice_get-get_or places s q (omega (arith, lt, long))
    ∙ ap Some (sym (at ∙ ap (λ k. get_or places k q) is))

one_switch : (t : Step) (i k : ℕ) → Among (items_in t) (a_switch i) → Among (items_in t) (a_switch k) → i ≡ k
one_switch (OfSwitch id) i k (inl e) (inl f) = cc
one_switch (OfSwitch id) i k (inr never) m = absurd never
one_switch (OfSwitch id) i k (inl e) (inr never) = absurd never
one_switch (OfLink n) i k (inl e) m = cc
one_switch (OfLink n) i k (inr never) m = absurd never
one_switch (OfTap n) i k (inl e) m = cc
one_switch (OfTap n) i k (inr never) m = absurd never
one_switch OfNothing i k never m = absurd never

module _ (d : Diagram) (ss : List Step) (places : List ℕ) (at : ArePlaces d ss places) (b m s q : ℕ)
    (here : TakesIn ss b (a_switch m)) (at_q : slice_get places s ≡ Some q) (ne : s ≢ m) where
  pub places_apart : b ≢ q
  places_apart e =
      let there = at.each s q at_q in
      let same : there.step ≡ here.step =
      same_Some there.step here.step (sym there.at ∙ (ap (slice_get ss) (sym e) ∙ here.at)) in
      ne (one_switch here.step s m (subst (λ (z : Step). Among (items_in z) (a_switch s)) same there.among) here.among)

  pub taken_there : TakesIn ss (other_of 0 b (layer_of b q)) (a_switch s)
  taken_there = subst (λ k. TakesIn ss k (a_switch s)) (sym (layer_place b q places_apart)) (at.each s q at_q)

  pub layer_small : (n : ℕ) → suc n ≡ length ss → layer_of b q < n
  layer_small n count =
      let there = at.each s q at_q in
      layer_in b q n places_apart (omega (arith, slice_get_within ss q there.step there.at, count))
      (omega (arith, slice_get_within ss b here.step here.at, count))
