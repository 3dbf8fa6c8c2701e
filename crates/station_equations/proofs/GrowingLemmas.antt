-- Nodes that grow, and the goals that lead through them.
use Rattle.std.proofs.Common.{◌≡◌, ◌∙◌, ◌⊎◌, ℕ, ◌+◌, ◌<◌, ◌≤◌, zero, suc, Bool, List, [], ◌∷◌, ◌++◌}
use Rattle.std.proofs.Common.{length, drop, refl, sym, ap, subst, inl, inr, arith, Some, Option}
use Rattle.std.specs.Prelude.{slice_get}
use Rattle.std.proofs.lemmas.Option.{same_Some, slice_get_within, slice_get_cases}
use Rattle.std.proofs.lemmas.List.{length_push}
use Rattle.ilk_base.specs.declared.words.Rule.{Rule}
use Rattle.decision_graphs.specs.Label.{Layer, Layered, layer_at, step, leads, label_of}
use Rattle.station_equations.specs.declared.goal.Goal.{Goal}
use Rattle.station_equations.specs.declared.goal.Goal.TheVariants.{Node, Answer}
use Rattle.station_equations.specs.declared.subject.Subject.{Subject}
use Rattle.station_equations.specs.declared.subject.Subjects.{Subjects}
use Rattle.station_equations.specs.EquationLines.{PartLines, NodeLine, part_node}
use Rattle.station_equations.specs.EquationMeaning.{LineLeads, NextGoal}
use Rattle.station_equations.specs.EquationForm.{IsGoal}
use Rattle.station_equations.specs.Subjects.{subject_at, IsIndexBy, IsChosen, AreChosenFrom}
use Rattle.station_equations.specs.Growing.{AreGoals, GrewFrom, AllGrew, LeadToGoals, LayerLeads, LeadsToEnd, AllLead}
use Rattle.judge_pool.specs.Pooling.{Extends}
use Rattle.station_equations.proofs.LeadsLemmas.{leads_here, leads_on, leads_all, leads_stay}
use Rattle.station_equations.proofs.GraphFacts.{drop_layer, leads_none}

pub get_old : {X : Type 0} (xs : List X) (y x : X) (i : ℕ) → slice_get xs i ≡ Some x →
    slice_get (xs ++ y ∷ []) i ≡ Some x
get_old [] y x i at = absurd (cc)
get_old (z ∷ xs) y x zero at = at
get_old (z ∷ xs) y x (suc i) at = get_old xs y x i at

pub get_last : {X : Type 0} (xs : List X) (y : X) → slice_get (xs ++ y ∷ []) (length xs) ≡ Some y
get_last [] y = refl
get_last (z ∷ xs) y = get_last xs y

pub get_push : {X : Type 0} (xs : List X) (y x : X) (i : ℕ) → slice_get (xs ++ y ∷ []) i ≡ Some x →
    (slice_get xs i ≡ Some x) ⊎ ((i ≡ length xs) × (y ≡ x))
get_push [] y x zero at = inr (refl, same_Some y x at)
get_push [] y x (suc i) at = absurd (cc)
get_push (z ∷ xs) y x zero at = inl at
get_push (z ∷ xs) y x (suc i) at = elim (get_push xs y x i at) [
  | inl old ↦ inl old
  | inr last ↦ inr (ap suc last.0, last.1)
]

pub extends_same : {X : Type 0} (xs ys : List X) → xs ≡ ys → Extends xs ys
extends_same {X} xs ys same = λ i x at. subst (λ (zs : List X). slice_get zs i ≡ Some x) same at

pub extends_push : {X : Type 0} (xs ys : List X) (y : X) → ys ≡ xs ++ y ∷ [] → Extends xs ys
extends_push {X} xs ys y same =
    λ i x at. subst (λ (zs : List X). slice_get zs i ≡ Some x) (sym same) (get_old xs y x i at)

pub extends_all : {X : Type 0} (xs ys zs : List X) → Extends xs ys → Extends ys zs → Extends xs zs
extends_all xs ys zs a b = λ i x at. b i x (a i x at)

pub within_extends : {X : Type 0} (xs ys : List X) → Extends xs ys → (i : ℕ) → i < length xs → i < length ys
within_extends xs ys ext i lt = elim (slice_get_cases xs i).1 [
  | inl here ↦ slice_get_within ys i here.0 (ext i here.0 here.2)
  | inr past ↦ absurd (omega (arith, lt, past.0))
]

pub goal_stays : (xs ys : List NodeLine) (g : Goal) → Extends xs ys → IsGoal (length xs) g → IsGoal (length ys) g
goal_stays xs ys (Node n) ext is = within_extends xs ys ext n is
goal_stays xs ys (Answer a) ext is = tt

pub goals_stay : (xs ys : List NodeLine) (goals : List Goal) → Extends xs ys → AreGoals (length xs) goals →
    AreGoals (length ys) goals
goals_stay xs ys goals ext are = λ i g at. goal_stays xs ys g ext (are i g at)

pub next_stays : (parts : List PartLines) (xs ys : List NodeLine) (v : List Bool) → Extends xs ys → (a b : Goal) →
    NextGoal parts xs v a b → NextGoal parts ys v a b
next_stays parts xs ys v ext (Node n) b next = record {
  line = next.line;
  listed = ext n next.line next.listed;
  leads = next.leads;
}
next_stays parts xs ys v ext (Answer a) b next = absurd next

pub end_stays : (parts : List PartLines) (xs ys : List NodeLine) (v : List Bool) (goal : Goal) (ends : List Goal)
    (place : ℕ) → Extends xs ys → LeadsToEnd parts xs v goal ends place → LeadsToEnd parts ys v goal ends place
end_stays parts xs ys v goal ends place ext l = record {
  end = l.end;
  listed = l.listed;
  leads = leads_stay (NextGoal parts xs v) (NextGoal parts ys v) (next_stays parts xs ys v ext) goal l.end l.leads;
}

-- one goal more of a list that all fit
pub goals_push : (n : ℕ) (goals more : List Goal) (g : Goal) → more ≡ goals ++ g ∷ [] → AreGoals n goals → IsGoal n g →
    AreGoals n more
goals_push n goals more g same are is = λ i x at.
    elim (get_push goals g x i (subst (λ (zs : List Goal). slice_get zs i ≡ Some x) same at)) [
      | inl old ↦ are i x old
      | inr last ↦ subst (λ (z : Goal). IsGoal n z) last.1 is
    ]

-- one node more
pub grew_push : (switches : ℕ) (parts : List PartLines) (nodes more : List NodeLine) (x : NodeLine) →
    more ≡ nodes ++ x ∷ [] → AllGrew switches parts nodes → GrewFrom switches parts (length nodes) x →
    AllGrew switches parts more
grew_push switches parts nodes more x same all grew = λ n y at.
    elim (get_push nodes x y n (subst (λ (zs : List NodeLine). slice_get zs n ≡ Some y) same at)) [
      | inl old ↦ all n y old
      | inr last ↦
          subst (λ (z : NodeLine). GrewFrom switches parts n z) last.1
          (subst (λ (k : ℕ). GrewFrom switches parts k x) (sym last.0) grew)
    ]

-- the goal of one node more of a layer
pub layer_more : (xs ys : List NodeLine) (subject : Subject) (l : Layer) (next goals more row : List Goal) (g : Goal)
    (node : ℕ) → Extends xs ys → length goals ≡ node → more ≡ goals ++ g ∷ []
    → length row ≡ l.choices → ((c : ℕ) (x : Goal) → slice_get row c ≡ Some x → slice_get next (step l node c) ≡ Some x)
    → ((parts : List PartLines) (v : List Bool) (c : ℕ) (x : Goal) → IsChosen parts v subject c →
    slice_get row c ≡ Some x → (g ≡ x) ⊎ NextGoal parts ys v g x)
    → LayerLeads xs subject l next goals → LayerLeads ys subject l next more
layer_more xs ys subject l next goals more row g node ext count same row_count each by all =
    λ parts v k c goal at is lt.
    elim (get_push goals g goal k (subst (λ (zs : List Goal). slice_get zs k ≡ Some goal) same at)) [
      | inl old ↦ end_stays parts xs ys v goal next (step l k c) ext (all parts v k c goal old is lt)
      | inr last ↦ new parts v k c goal (last.0 ∙ count) last.1 is lt
    ]
  where
    to_end : (parts : List PartLines) (v : List Bool) (c k : ℕ) (goal x : Goal) → k ≡ node → g ≡ goal →
        slice_get row c ≡ Some x → (g ≡ x) ⊎ NextGoal parts ys v g x → LeadsToEnd parts ys v goal next (step l k c)
    to_end parts v c k goal x here is at (inl alike) = record {
      end = x;
      listed = subst (λ (n : ℕ). slice_get next (step l n c) ≡ Some x) (sym here) (each c x at);
      leads = leads_here (NextGoal parts ys v) goal x (sym is ∙ alike);
    }
    to_end parts v c k goal x here is at (inr on) = record {
      end = x;
      listed = subst (λ (n : ℕ). slice_get next (step l n c) ≡ Some x) (sym here) (each c x at);
      leads =
          leads_on (NextGoal parts ys v) goal x x (subst (λ (z : Goal). NextGoal parts ys v z x) is on)
          (leads_here (NextGoal parts ys v) x x refl);
    }

    new : (parts : List PartLines) (v : List Bool) (k c : ℕ) (goal : Goal) → k ≡ node → g ≡ goal →
        IsChosen parts v subject c → c < l.choices → LeadsToEnd parts ys v goal next (step l k c)
    new parts v k c goal here is chosen lt = elim (slice_get_cases row c).1 [
      | inl there ↦ to_end parts v c k goal there.0 here is there.2 (by parts v c there.0 chosen there.2)
      | inr past ↦ absurd (omega (arith, lt, past.0, row_count))
    ]

-- the goals of one layer more
pub graph_more : (xs ys : List NodeLine) (subjects : Subjects) (g : Layered) (j : ℕ) (goals more ends : List Goal) →
    j < length g.layers → Extends xs ys → AllLead xs subjects g (suc j) goals ends →
    LayerLeads ys (subject_at subjects j) (layer_at g.layers j) goals more → AllLead ys subjects g j more ends
graph_more xs ys subjects g j goals more ends lt ext all layer =
    λ parts v k goal cs at len chosen. by parts v k goal cs at len chosen
  where
    by : (parts : List PartLines) (v : List Bool) (k : ℕ) (goal : Goal) (cs : List ℕ) → slice_get more k ≡ Some goal →
        j + length cs ≡ length g.layers → AreChosenFrom parts v subjects g j cs →
        LeadsToEnd parts ys v goal ends (leads (drop j g.layers) k cs)
    by parts v k goal [] at len chosen = absurd (omega (arith, len, lt))
    by parts v k goal (c ∷ cs) at len chosen =
        let here = layer parts v k c goal at chosen.0 chosen.1 in
        let rest : suc j + length cs ≡ length g.layers = omega (arith, len) in
        let there = end_stays parts xs ys v here.end ends _ ext
        (all parts v (step (layer_at g.layers j) k c) here.end cs here.listed rest chosen.2) in
        record {
          end = there.end;
          listed =
              subst (λ (ls : List Layer). slice_get ends (leads ls k (c ∷ cs)) ≡ Some there.end)
              (sym (drop_layer g.layers j lt)) there.listed;
          leads = leads_all (NextGoal parts ys v) goal here.end there.end here.leads there.leads;
        }

-- the goals of the labels lead to themselves
pub graph_none : (xs : List NodeLine) (subjects : Subjects) (g : Layered) (ends : List Goal) →
    AllLead xs subjects g (length g.layers) ends ends
graph_none xs subjects g ends = λ parts v k goal cs at len chosen. by parts v k goal cs at len
  where
    by : (parts : List PartLines) (v : List Bool) (k : ℕ) (goal : Goal) (cs : List ℕ) → slice_get ends k ≡ Some goal →
        length g.layers + length cs ≡ length g.layers →
        LeadsToEnd parts xs v goal ends (leads (drop (length g.layers) g.layers) k cs)
    by parts v k goal [] at len = record {
      end = goal;
      listed = ap (slice_get ends) (leads_none (drop (length g.layers) g.layers) k) ∙ at;
      leads = leads_here (NextGoal parts xs v) goal goal refl;
    }
    by parts v k goal (c ∷ cs) at len = absurd (omega (arith, len))

-- the new node leads where its line leads
pub new_leads : (parts : List PartLines) (old new : List NodeLine) (x : NodeLine) (v : List Bool) (number : ℕ)
    (g : Goal) → new ≡ old ++ x ∷ [] → number ≡ length old → LineLeads parts v x g →
    NextGoal parts new v (Node number) g
new_leads parts old new x v number g same is leads = record {
  line = x;
  listed =
      ap (slice_get new) is
      ∙ subst (λ (zs : List NodeLine). slice_get zs (length old) ≡ Some x) (sym same) (get_last old x);
  leads = leads;
}

pub new_within : (old new : List NodeLine) (x : NodeLine) (number : ℕ) → new ≡ old ++ x ∷ [] → number ≡ length old →
    number < length new
new_within old new x number same is = let count = ap length same ∙ length_push old x in omega (arith, count, is)

pub few_more : (old new : List NodeLine) (x : NodeLine) → new ≡ old ++ x ∷ [] → length new ≤ length old + 1
few_more old new x same = let count = ap length same ∙ length_push old x in omega (arith, count)

-- a node of a part, and one of a switch
pub part_leads : (parts : List PartLines) (v : List Bool) (part c : ℕ) (goals : List Goal) (g : Goal) →
    IsIndexBy parts v part c → slice_get goals c ≡ Some g → LineLeads parts v (part_node part goals) g
part_leads parts v part c goals g chosen at = record {
  lines = chosen.lines;
  index = c;
  listed = chosen.listed;
  leads = chosen.leads;
  to = at;
}

-- layers of a graph that have been done
pub leads_through : (parts : List PartLines) (nodes more : List NodeLine) (others own : Subjects) (g h : Layered)
    (v : List Bool) (entries goals middle ends : List Goal) (goal : Goal) (cs ds : List ℕ)
    → Extends nodes more → AllLead more others g 0 goals entries → AllLead nodes own h 1 middle ends →
    LeadToGoals h 0 0 middle entries → 0 < length h.layers → slice_get goals 0 ≡ Some goal
    → length cs ≡ length g.layers → AreChosenFrom parts v others g 0 cs → suc (length ds) ≡ length h.layers →
    AreChosenFrom parts v own h 1 ds
    → LeadsToEnd parts more v goal ends (label_of h (label_of g cs ∷ ds))
leads_through parts nodes more others own g h v entries goals middle ends goal cs ds ext outer inner row some at
    count_cs chosen_cs count_ds chosen_ds =
    let first = outer parts v 0 goal cs at (omega (arith, count_cs)) chosen_cs in
    let listed : slice_get entries (label_of g cs) ≡ Some first.end = first.listed in
    let second = end_stays parts nodes more v first.end ends _ ext (inner parts v
    (step (layer_at h.layers 0) 0 (label_of g cs)) first.end ds (row.each (label_of g cs) first.end listed)
    (omega (arith, count_ds)) chosen_ds) in
    record {
      end = second.end;
      listed =
          subst (λ (ls : List Layer). slice_get ends (leads ls 0 (label_of g cs ∷ ds)) ≡ Some second.end)
          (sym (drop_layer h.layers 0 some)) second.listed;
      leads = leads_all (NextGoal parts more v) goal first.end second.end first.leads second.leads;
    }

-- a row of goals is among those behind the layer
pub row_goals_fit : (old now : List NodeLine) (g : Layered) (j k : ℕ) (next row : List Goal) → Extends old now →
    LeadToGoals g j k next row → AreGoals (length old) next → AreGoals (length now) row
row_goals_fit old now g j k next row ext is are =
    λ i x at. goal_stays old now x ext (are (step (layer_at g.layers j) k i) x (is.each i x at))

-- one layer more, under the names that the code gives
pub graph_step : (xs ys : List NodeLine) (subjects : Subjects) (g : Layered) (layer j : ℕ)
    (goals more ends next : List Goal) (subject : Subject) → suc j ≡ layer → layer ≤ length g.layers → next ≡ goals →
    subject ≡ subject_at subjects j → Extends xs ys → AllLead xs subjects g layer goals ends →
    LayerLeads ys subject (layer_at g.layers j) next more → AllLead ys subjects g j more ends
graph_step xs ys subjects g layer j goals more ends next subject above high same looks ext all here =
    let before : AllLead xs subjects g (suc j) goals ends =
    subst (λ n. AllLead xs subjects g n goals ends) (sym above) all in
    let now : LayerLeads ys (subject_at subjects j) (layer_at g.layers j) goals more =
    subst (λ (n : List Goal). LayerLeads ys (subject_at subjects j) (layer_at g.layers j) n more) same
    (subst (λ (s : Subject). LayerLeads ys s (layer_at g.layers j) next more) looks here) in
    graph_more xs ys subjects g j goals more ends (omega (arith, above, high)) ext before now

-- goals that are answers
pub pair_fits : (n : ℕ) (a b : Option Rule) → AreGoals n (Answer a ∷ Answer b ∷ [])
pair_fits n a b zero g at = subst (λ (h : Goal). IsGoal n h) (same_Some (Answer a) g at) tt
pair_fits n a b (suc zero) g at = subst (λ (h : Goal). IsGoal n h) (same_Some (Answer b) g at) tt
pair_fits n a b (suc (suc i)) g at = absurd (cc)

pub triple_fits : (n : ℕ) (free : Goal) (a b : Option Rule) → IsGoal n free →
    AreGoals n (free ∷ Answer a ∷ Answer b ∷ [])
triple_fits n free a b fit zero g at = subst (λ (h : Goal). IsGoal n h) (same_Some free g at) fit
triple_fits n free a b fit (suc i) g at = pair_fits n a b i g at

pub goal_below : (n m : ℕ) (g : Goal) → n ≤ m → IsGoal n g → IsGoal m g
goal_below n m (Node k) le lt = omega (arith, le, lt)
goal_below n m (Answer a) le lt = tt
