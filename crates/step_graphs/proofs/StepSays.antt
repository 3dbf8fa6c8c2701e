-- The labels of a moved switch's graph say what holds of the switch.
use Rattle.std.proofs.Common.{◌≡◌, ◌≢◌, ℕ, ◌<◌, suc, Bool, List, [], ◌∷◌, length, map, slice_get}
use Rattle.std.proofs.Common.{refl, sym, ap, ◌∙◌, subst, inl, inr, arith}
use Rattle.std.proofs.lemmas.Option.{slice_get_within, same_Some}
use Rattle.station_graph.specs.Diagram.{Diagram}
use Rattle.station_graph.specs.Connection.{Item, a_switch}
use Rattle.station_graph.specs.Sharing.{Touches, TouchedBy}
use Rattle.station_graph.specs.Alike.{IsVector}
use Rattle.contraction.specs.Answers.{Answers}
use Rattle.contraction.specs.Stands.{Among, AllBut, IsItem}
use Rattle.decision_graphs.specs.Label.{Layer, Layered, layer_at, leads, label_of}
use Rattle.judge_pool.specs.declared.pool.Pool.{Pool}
use Rattle.judge_pool.specs.Seen.{SeenFor}
use Rattle.judge_pool.specs.Folding.{IsExact}
use Rattle.judge_pool.specs.Graphs.{other_of, LabelSays}
use Rattle.judge_pool.specs.Listing.{parts_before}
use Rattle.judge_pool.specs.Needing.{IsNeededOuter}
use Rattle.judge_pool.specs.Plans.{Plan, PlanFits, AreLinked, outer_plan, plan_diagram, ChosenBy, items_of, NeededBy}
use Rattle.judge_pool.specs.Counted.{Spends}
use Rattle.judge_pool.specs.Plans.{layers_of, PlanHas, PlanPasses}
use Rattle.judge_pool.specs.Places.{pool_on}
use Rattle.judge_pool.specs.Layering.{values_at}
use Rattle.judge_pool.proofs.MappedPools.{order_self, values_at_self, grows_self}
use Rattle.contraction.specs.Renaming.{KeepsOrder, mapped}
use Rattle.decision_graphs.specs.declared.finished.FinishedLayer.{FinishedLayer}
use Rattle.judge_pool.proofs.ChoiceLemmas.{choices_each, same_choices, same_count, plain_choices}
use Rattle.judge_intake.specs.Coding.{labels_of}
use Rattle.judge_intake.proofs.InputsLemmas.{keeps_stay}
use Rattle.judge_intake.proofs.OtherLemmas.{element, other_in}
use Rattle.step_graphs.proofs.StepLemmas.{step_rows_stay}
use Rattle.judge_intake.proofs.OuterLemmas.{before_has, other_not}
use Rattle.judge_intake.proofs.OuterFits.{before_to, place_of_part, outer_items}
use Rattle.step_graphs.specs.declared.step.Step.{Step}
use Rattle.step_graphs.specs.declared.step.Step.TheVariants.{OfSwitch, OfLink, OfTap, OfNothing}
use Rattle.step_graphs.specs.Steps.{items_in, TakesIn, AreSteps}
use Rattle.step_graphs.specs.Needing.{IsNeeded}
use Rattle.step_graphs.specs.Edges.{StepsPass, StepsKeep}
use Rattle.step_graphs.specs.Ready.{IsStepReady}
use Rattle.step_graphs.specs.Ending.{AreAllBut, AreEndCodes}
use Rattle.step_graphs.specs.Moved.{AreGiven, IsMovedGraph, IsLabelledFrom}
use Rattle.step_graphs.proofs.Spread.{spread, spread_has, has_spread, spread_switches}
use Rattle.step_graphs.proofs.SpreadViews.{seen_on, touches_on, touched_on}
use Rattle.step_graphs.proofs.SpreadParts.{place_has, has_place}
use Rattle.step_graphs.proofs.StepFits.{step_letters, step_fits, step_linked, given_chosen, two_each}
use Rattle.step_graphs.proofs.StepEdges.{steps_pass, steps_keep}

one_item : (s : Step) (x y : Item) → Among (items_in s) x → Among (items_in s) y → x ≡ y
one_item (OfSwitch id) x y (inl e) (inl f) = e ∙ sym f
one_item (OfSwitch id) x y (inl e) (inr never) = absurd never
one_item (OfSwitch id) x y (inr never) f = absurd never
one_item (OfLink k) x y (inl e) (inl f) = e ∙ sym f
one_item (OfLink k) x y (inl e) (inr never) = absurd never
one_item (OfLink k) x y (inr never) f = absurd never
one_item (OfTap k) x y (inl e) (inl f) = e ∙ sym f
one_item (OfTap k) x y (inl e) (inr never) = absurd never
one_item (OfTap k) x y (inr never) f = absurd never
one_item OfNothing x y never f = absurd never

module _ (d : Diagram) (steps : List Step) (are : AreSteps d steps) (b others m : ℕ) (count : suc others ≡ length steps)
    (moved : TakesIn steps b (a_switch m)) where
  -- no other step takes in the moved switch
  none_moved : (it : Item) → Among (parts_before (spread d steps) b others) it → AllBut (a_switch m) it
  none_moved it among e =
      let r = before_has (spread d steps) b others it among in
      let t = place_has d steps are (other_of 0 b r.0) it r.2 in
      other_not b r.0
      (are.once (other_of 0 b r.0) b (a_switch m) (subst (λ i. TakesIn steps (other_of 0 b r.0) i) e t) moved)

  -- and each other item is taken in by another step
  each_other : (it : Item) → IsItem d it → AllBut (a_switch m) it →
      Among (parts_before (spread d steps) b others) it
  each_other it is ne =
      let t = are.each it is in
      let apart : t.0 ≢ b = λ e.
      (let same : t.1.step ≡ moved.step =
      same_Some t.1.step moved.step (sym t.1.at ∙ (ap (slice_get steps) e ∙ moved.at)) in
      ne (one_item moved.step it (a_switch m) (subst (λ (s : Step). Among (items_in s) it) same t.1.among)
      moved.among)) in
      let b_in : b < suc others = omega (arith, slice_get_within steps b moved.step moved.at, count) in
      let t_in : t.0 < suc others = omega (arith, slice_get_within steps t.0 t.1.step t.1.at, count) in
      let r = place_of_part b t.0 others b_in apart t_in in
      before_to (spread d steps) b others r.0 it r.1
      (has_place d steps are (other_of 0 b r.0) it (subst (λ k. TakesIn steps k it) (sym r.2) t.1))

  pub all_others : AreAllBut d m (parts_before (spread d steps) b others)
  all_others it is = (none_moved it, each_other it is)

  -- an end of the moved switch that others touch is kept to the end
  end_needed : (n : ℕ) → TouchedBy (Among (parts_before (spread d steps) b others)) d n → Touches d (a_switch m) n →
      IsNeededOuter (spread d steps) b others n
  end_needed n t own =
      let before = touched_on d (spread d steps) (spread_has d steps)
      (Among (parts_before (spread d steps) b others)) n t in
      record {
        before = before;
        after = inl (record {
          item = a_switch m;
          among = has_place d steps are b (a_switch m) moved;
          touches = touches_on d (spread d steps) (spread_has d steps) (a_switch m) n own;
        });
      }

module _ (d : Diagram) (steps : List Step) (are : AreSteps d steps) (b others m : ℕ)
    (moved : TakesIn steps b (a_switch m)) (p : Pool) (start : ℕ) (letters : List (List ℕ)) (keeps : List ℕ)
    (ready : IsStepReady p d steps b others start letters keeps) (ls : List Layer) (states : List Answers)
    (exact : IsExact p.view (spread d steps)
    (ChosenBy (outer_plan (step_letters d steps are b others p start letters keeps ready) b))
    (items_of (outer_plan (step_letters d steps are b others p start letters keeps ready) b))
    (NeededBy (outer_plan (step_letters d steps are b others p start letters keeps ready) b)) others ls states)
    (codes : List ℕ) (are_codes : AreEndCodes p.view d m states codes) (g : Layered)
    (labelled : IsLabelledFrom (labels_of p.view) codes ls g)
    (choices : map (λ (l : Layer). l.choices) ls ≡ map length letters) (some : 0 < others) where
  two_choices : (j : ℕ) → j < others → (layer_at ls j).choices ≡ 2
  two_choices j lt =
      let (row, at) = element letters j (omega (arith, lt, ready.letters_of.len)) in
      plain_choices ls letters j row choices at
      ∙ two_each d steps are b others p start letters keeps ready j row at

  step_says : (v : List Bool) (cs : List ℕ) → IsVector d v → AreGiven steps b v cs → LabelSays p.view d m v (label_of g cs)
  step_says v cs whole given =
      let len : length cs ≡ others = omega (arith, given.count, ready.count) in
      let in_e : IsVector (spread d steps) v = whole ∙ sym (spread_switches d steps) in
      let s = exact.stands v cs in_e len (λ i c at.
      let lt : i < others = omega (arith, slice_get_within cs i c at, len) in
      let (step, at_s) = element steps (other_of 0 b i)
      (omega (arith, (other_in 0 b others i lt).1, ready.count)) in
      given_chosen d steps are b others p start letters keeps ready v i c step lt (given.small i c at) at_s
      (given.each i c step at at_s)) in
      let allowed = choices_each ls cs (len ∙ sym exact.count) (λ i c at.
      let lt : i < others = omega (arith, slice_get_within cs i c at, len) in
      omega (arith, given.small i c at, two_choices i lt)) in
      let before = subst (λ xs. SeenFor p.view (Among xs) (spread d steps) v s.value)
      (outer_items (step_letters d steps are b others p start letters keeps ready) b others) s.stands in
      let seen = seen_on (spread d steps) d (has_spread d steps) (spread_has d steps)
      (Among (parts_before (spread d steps) b others)) v s.value p.view before in
      let is = labelled.label (omega (arith, some, exact.count)) cs allowed in
      subst (λ k. LabelSays p.view d m v k) (sym is)
      (are_codes.each (leads ls 0 cs) s.value s.listed (parts_before (spread d steps) b others) v whole
      (all_others d steps are b others m ready.count moved)
      (λ n t own. (exact.kept (leads ls 0 cs) s.value s.listed n).1
      (end_needed d steps are b others m ready.count moved n t own)) seen)

  pub step_moved : IsMovedGraph p.view d steps b m g
  step_moved =
      let len : length g.layers ≡ others = same_count ls g.layers labelled.same_choices ∙ exact.count in
      record {
        fits = labelled.fits;
        count = ap suc len ∙ ready.count;
        choices = λ j lt.
            same_choices ls g.layers labelled.same_choices j ∙ two_choices j (omega (arith, lt, len));
        labels = labelled.so_many;
        reduced = labelled.reduced;
        says = step_says;
      }

-- ---- the graph that was folded

finished_choices : (fs : List FinishedLayer) →
    map (λ (l : Layer). l.choices) (layers_of fs) ≡ map (λ (l : FinishedLayer). l.choices) fs
finished_choices [] = refl
finished_choices (x ∷ xs) = ap (λ ys. x.choices ∷ ys) (finished_choices xs)

module _ (d : Diagram) (steps : List Step) (are : AreSteps d steps) (b others m : ℕ)
    (moved : TakesIn steps b (a_switch m)) (p : Pool) (start : ℕ) (letters : List (List ℕ)) (keeps : List ℕ)
    (ready : IsStepReady p d steps b others start letters keeps) (held : List (List ℕ)) (held_keeps : List ℕ)
    (same : held ≡ letters) (same_keeps : held_keeps ≡ keeps) where
  pub held_linked : AreLinked p start held held_keeps
  held_linked =
      subst (λ ls. AreLinked p start ls held_keeps) (sym same)
      (subst (λ ks. AreLinked p start letters ks) (sym same_keeps)
      (step_linked d steps are b others p start letters keeps ready))

  -- what is ready in a pool is so where each node stands for itself
  self_ready : IsStepReady (pool_on (λ n. n) p) d steps b others start letters keeps
  self_ready =
      let q : Pool = pool_on (λ n. n) p in
      let g = grows_self p in
      record {
        all = ready.all;
        count = ready.count;
        rows = step_rows_stay p q g d steps ready.all (length steps) ready.rows;
        letters_of = ready.letters_of;
        needed = keeps_stay p q g (IsNeeded d steps b) keeps (suc others) ready.needed;
        begins = record {
          value = ready.begins.value;
          listed = g.values start ready.begins.value ready.begins.listed;
          bare = ready.begins.bare;
          stands = λ e v.
              subst (λ w. SeenFor w (Among []) e v ready.begins.value) (sym g.view) (ready.begins.stands e v);
        };
      }

  abbrev the_plan : Plan
  the_plan = outer_plan (step_letters d steps are b others (pool_on (λ n. n) p) start letters keeps self_ready) b

  held_fits : PlanFits the_plan (pool_on (λ n. n) p) start held held_keeps
  held_fits =
      subst (λ ls. PlanFits the_plan (pool_on (λ n. n) p) start ls held_keeps) (sym same)
      (subst (λ ks. PlanFits the_plan (pool_on (λ n. n) p) start letters ks) (sym same_keeps)
      (step_fits d steps are b others (pool_on (λ n. n) p) start letters keeps self_ready))

  pub moved_of : (q : Pool) → q.view ≡ p.view → (n : ℕ) → n ≡ length held → (fs : List FinishedLayer)
      (states : List ℕ) →
      ((f : ℕ → ℕ) (plan : Plan) → KeepsOrder f → PlanFits plan (pool_on f p) start held held_keeps →
      IsExact p.view (plan_diagram plan) (ChosenBy plan) (items_of plan) (NeededBy plan) n (layers_of fs)
      (values_at (map (mapped f) q.values.items) states))
      → map (λ (l : FinishedLayer). l.choices) fs ≡ map length held → (codes : List ℕ) →
      AreEndCodes q.view d m (values_at q.values.items states) codes → (g : Layered) (labels : ℕ) →
      labels ≡ labels_of q.view → IsLabelledFrom labels codes (layers_of fs) g → 1 < length steps →
      IsMovedGraph p.view d steps b m g
  moved_of q view n count fs states exact choices codes are_codes g labels so_many labelled some =
      let all : n ≡ others = omega (arith, count, ap length same, ready.letters_of.len) in
      step_moved d steps are b others m moved (pool_on (λ i. i) p) start letters keeps self_ready (layers_of fs)
      (values_at q.values.items states)
      (subst (λ k. IsExact p.view (spread d steps) (ChosenBy the_plan) (items_of the_plan) (NeededBy the_plan) k
      (layers_of fs) (values_at q.values.items states)) all
      (subst (λ xs. IsExact p.view (spread d steps) (ChosenBy the_plan) (items_of the_plan) (NeededBy the_plan) n
      (layers_of fs) xs) (values_at_self q.values.items states) (exact (λ i. i) the_plan order_self held_fits))) codes
      (subst (λ w. AreEndCodes w d m (values_at q.values.items states) codes) view are_codes) g
      (subst (λ k. IsLabelledFrom k codes (layers_of fs) g) (so_many ∙ ap labels_of view) labelled)
      (finished_choices fs ∙ (choices ∙ ap (map length) same)) (omega (arith, some, ready.count))

  pub passes_of : (limit : ℕ) →
      ((f : ℕ → ℕ) (plan : Plan) → KeepsOrder f → PlanFits plan (pool_on f p) start held held_keeps →
      PlanPasses p.view plan held limit) → StepsPass p.view d steps b limit
  passes_of limit wide =
      steps_pass d steps are b others (pool_on (λ i. i) p) start letters keeps self_ready held same p.view limit
      (wide (λ i. i) the_plan order_self held_fits)

  pub keeps_of : (n : ℕ) → n ≡ length held → (limit left : ℕ) →
      ((f : ℕ → ℕ) (plan : Plan) → KeepsOrder f → PlanFits plan (pool_on f p) start held held_keeps →
      Spends (PlanHas p.view plan held n) (plan_diagram plan) limit left) → StepsKeep p.view d steps b limit
  keeps_of n count limit left spent =
      steps_keep d steps are b others (pool_on (λ i. i) p) start letters keeps self_ready held same p.view limit left
      (subst (λ k. Spends (PlanHas p.view the_plan held k) (spread d steps) limit left) count
      (spent (λ i. i) the_plan order_self held_fits))
