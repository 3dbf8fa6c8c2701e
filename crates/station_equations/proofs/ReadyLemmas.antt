-- The graphs of a switch, ready to be turned into nodes.
use Rattle.std.proofs.Common.{◌≡◌, ◌∙◌, ℕ, ◌-◌, ◌<◌, suc, Bool, List, ◌∷◌, length, get_or, sym, ap, subst, arith, Some}
use Rattle.std.proofs.Common.{Option}
use Rattle.std.specs.Prelude.{slice_get, unwrap_or, option_map}
use Rattle.std.proofs.lemmas.List.{get_or_default}
use Rattle.std.proofs.lemmas.Option.{slice_get_within}
use Rattle.station_graph.specs.declared.items.Switch.{Switch}
use Rattle.station_graph.specs.Diagram.{Diagram, part_count, AreSwitchesOf}
use Rattle.station_graph.proofs.Decided.{element}
use Rattle.contraction.specs.Answers.{Answers}
use Rattle.central_rules.specs.Meaning.{bay_of, IsBay}
use Rattle.station_graph.specs.Alike.{IsVector}
use Rattle.decision_graphs.specs.Label.{Layered, label_of}
use Rattle.judge_pool.specs.declared.view.View.{View}
use Rattle.judge_pool.specs.declared.view.View.TheVariants.{Gap, Load}
use Rattle.judge_pool.specs.Lettered.{Lettered, AreLettered}
use Rattle.judge_intake.specs.Coding.{labels_of}
use Rattle.judge_pool.specs.Graphs.{IsOuter, IsInner, IsOwn}
use Rattle.judge_graphs.specs.Built.{ViewOf, BayOf, AreViewGraphs, AreBayGraphs}
use Rattle.release_compile.specs.Judging.{Judging, ground, bay_at, no_graph, inner_at as graph_of}
use Rattle.release_compile.specs.Chaining.{AreInARow}
use Rattle.release_compile.proofs.HeardLemmas.{inner_at}
use Rattle.station_equations.specs.declared.goal.Goal.{Goal}
use Rattle.station_equations.specs.declared.subject.Subjects.TheVariants.{OtherParts, OtherSwitches}
use Rattle.station_equations.specs.EquationLines.{PartLines, NodeLine}
use Rattle.station_equations.specs.Subjects.{AreChosenFrom, LayersLook}
use Rattle.station_equations.specs.Growing.{LeadsToEnd, LayersHaveChoices}
use Rattle.station_equations.specs.Compiling.{AreExactParts, IsOwnBay, ViewLeads}
use Rattle.station_equations.proofs.ChoosingLemmas.{chosen, in_a_row, others_look, own_look, others_have, own_have}

-- the bay of a switch
pub bay_is : (d : Diagram) (m : ℕ) (x : Switch) → slice_get d.switches m ≡ Some x → bay_of d m ≡ x.bay.0
bay_is d m x at = ap (λ (o : Option Switch). unwrap_or (option_map (λ (y : Switch). y.bay.0) o) 0) at

pub one_first : (d : Diagram) (b first count other number : ℕ) → AreSwitchesOf d b first count →
    AreSwitchesOf d b other number → 0 < count → first ≡ other
one_first d b first count other number are same some =
    let counts : count ≡ number = are.counted ∙ sym same.counted in
    let x = element d.switches first (omega (arith, are.within, some)) in
    let y = element d.switches other (omega (arith, same.within, some, counts)) in
    let x_in = (same.those first x.0 x.1).0 ((are.those first x.0 x.1).1 (omega arith, omega (arith, some))) in
    let y_in = (are.those other y.0 y.1).0 ((same.those other y.0 y.1).1 (omega arith, omega (arith, some, counts))) in
    omega (arith, x_in.0, y_in.0)

-- an outer graph of the bay and an inner graph of its switch m
pub record Ready (view : View) (a : Lettered) (b m first others : ℕ) (g h : Layered) : Type 0 where
  pub names : List Answers
  pub outer : IsOuter view a b g names
  pub inner : IsInner view a b m first others names h
  pub labels : h.labels ≡ labels_of view
  pub own : IsOwn a.diagram b m first others

pub ready : (view : View) (a : Lettered) (b m first count : ℕ) (bay : BayOf) (v : ViewOf) (g h : Layered) (x : Switch) →
    AreSwitchesOf a.diagram b bay.first bay.count → AreViewGraphs view a b bay.first bay.count v →
    AreSwitchesOf a.diagram b first count → slice_get a.diagram.switches m ≡ Some x → x.bay.0 ≡ b → g ≡ v.outer →
    h ≡ get_or v.inner (m - bay.first) no_graph → Ready view a b m first (count - 1) g h
ready view a b m first count bay v g h x built gs are at here same_g same_h =
    let range = (are.those m x at).0 here in
    let first_is : bay.first ≡ first =
    sym (one_first a.diagram b first count bay.first bay.count are built (omega (arith, range.0, range.1))) in
    let counts : bay.count ≡ count = built.counted ∙ sym are.counted in
    let one_more : suc (count - 1) ≡ count = omega (arith, range.0, range.1) in
    let gs_here : AreViewGraphs view a b first (suc (count - 1)) v =
    subst (λ n. AreViewGraphs view a b n (suc (count - 1)) v) first_is
    (subst (λ n. AreViewGraphs view a b bay.first n v) (counts ∙ sym one_more) gs) in
    let own : IsOwn a.diagram b m first (count - 1) = record {
      those = subst (λ n. AreSwitchesOf a.diagram b first n) (sym one_more) are;
      from = range.0;
      below = omega (arith, range.1, one_more);
    } in
    let place : m - bay.first ≡ m - first = ap (λ n. m - n) first_is in
    let place_in : m - bay.first < length v.inner =
    omega (arith, place, range.0, range.1, gs_here.unmerged.inner.len, one_more) in
    let found = inner_at view a b m first (count - 1) own v gs_here (m - bay.first) h place
    (same_h ∙ get_or_default v.inner (m - bay.first) no_graph h place_in) in
    record {
      names = gs_here.unmerged.names;
      outer = subst (λ k. IsOuter view a b k gs_here.unmerged.names) (sym same_g) gs_here.unmerged.outer;
      inner = found.graph;
      labels = found.labels;
      own = own;
    }

-- what the goal of a view leads to
pub view_leads : (view : View) (a : Lettered) (b m first others : ℕ) (g h : Layered) → AreLettered a →
    b < part_count a.diagram → Ready view a b m first others g h
    → (parts : List PartLines) (v : List Bool) → AreExactParts a.diagram a.alphabets parts → IsVector a.diagram v →
    (nodes : List NodeLine) (goal : Goal) (ends : List Goal)
    → ((cs ds : List ℕ) → length cs ≡ length g.layers → AreChosenFrom parts v (OtherParts (record { 0 = b })) g 0 cs →
    suc (length ds) ≡ length h.layers →
    AreChosenFrom parts v (OtherSwitches (record { 0 = first }) (record { 0 = m })) h 1 ds →
    LeadsToEnd parts nodes v goal ends (label_of h (label_of g cs ∷ ds)))
    → ViewLeads view a.diagram parts nodes v m goal ends
view_leads view a b m first others g h are b_in r parts v exact whole nodes goal ends leads =
    let c = chosen view a are b m first others r.own b_in r.names g h r.outer r.inner parts exact v whole in
    record {
      label = label_of h (label_of g c.outer ∷ c.inner);
      says = c.says;
      leads = leads c.outer c.inner c.outer_count c.outer_chosen c.inner_count c.inner_chosen;
    }

-- the bay is a part, and the switch one of the station
pub bay_in : (d : Diagram) (m b first count : ℕ) → IsOwnBay d m b first count → b < part_count d
bay_in d m b first count own =
    subst (λ n. n < part_count d) own.bay (own.station.items.switches_fit m own.switch own.listed).part_in

pub switch_in : (d : Diagram) (m b first count : ℕ) → IsOwnBay d m b first count → m < length d.switches
switch_in d m b first count own = slice_get_within d.switches m own.switch own.listed

pub is_bay : (d : Diagram) (m b first count : ℕ) → IsOwnBay d m b first count → IsBay d b
is_bay d m b first count own =
    let range = (own.those.those m own.switch own.listed).0 own.bay in
    (bay_in d m b first count own, omega (arith, range.0, range.1, own.those.counted))

pub own_bay_of : (d : Diagram) (m b first count : ℕ) → IsOwnBay d m b first count → bay_of d m ≡ b
own_bay_of d m b first count own = bay_is d m own.switch own.listed ∙ own.bay

pub load_ready : (j : Judging) (b m first count : ℕ) (g h : Layered) → IsOwnBay j.diagram m b first count →
    AreBayGraphs (ground j) b (bay_at j b) → g ≡ (bay_at j b).load.outer →
    h ≡ graph_of (bay_at j (bay_of j.diagram m)) (bay_at j (bay_of j.diagram m)).load m →
    Ready Load (ground j) b m first (count - 1) g h
load_ready j b m first count g h own graphs same_g same_h =
    let here : bay_of j.diagram m ≡ b = bay_is j.diagram m own.switch own.listed ∙ own.bay in
    ready Load (ground j) b m first count (bay_at j b) (bay_at j b).load g h own.switch graphs.switches graphs.load
    own.those own.listed own.bay same_g (same_h ∙ ap (λ n. graph_of (bay_at j n) (bay_at j n).load m) here)

pub gap_ready : (j : Judging) (b m first count : ℕ) (g h : Layered) → IsOwnBay j.diagram m b first count →
    AreBayGraphs (ground j) b (bay_at j b) → g ≡ (bay_at j b).gap.outer →
    h ≡ graph_of (bay_at j (bay_of j.diagram m)) (bay_at j (bay_of j.diagram m)).gap m →
    Ready Gap (ground j) b m first (count - 1) g h
gap_ready j b m first count g h own graphs same_g same_h =
    let here : bay_of j.diagram m ≡ b = bay_is j.diagram m own.switch own.listed ∙ own.bay in
    ready Gap (ground j) b m first count (bay_at j b) (bay_at j b).gap g h own.switch graphs.switches graphs.gap
    own.those own.listed own.bay same_g (same_h ∙ ap (λ n. graph_of (bay_at j n) (bay_at j n).gap m) here)

-- the graphs fit what is asked of them
pub record ViewFits (b m first : ℕ) (g h : Layered) : Type 0 where
  pub row : AreInARow g h
  pub others : LayersLook (OtherParts (record { 0 = b })) g 0
  pub own : LayersLook (OtherSwitches (record { 0 = first }) (record { 0 = m })) h 1

pub view_fits : (view : View) (a : Lettered) (b m first others : ℕ) (g h : Layered) → AreLettered a →
    b < part_count a.diagram → Ready view a b m first others g h → ViewFits b m first g h
view_fits view a b m first others g h are b_in r = record {
  row = in_a_row view a are b m first others r.own b_in r.names g h r.outer r.inner;
  others = others_look view a are b m first others r.own b_in r.names g h r.outer r.inner;
  own = own_look view a are b m first others r.own b_in r.names g h r.outer r.inner;
}

-- they have choices for what they look at
pub record ViewHas (switches : ℕ) (parts : List PartLines) (b m first : ℕ) (g h : Layered) : Type 0 where
  pub others : LayersHaveChoices switches parts (OtherParts (record { 0 = b })) g 0
  pub own : LayersHaveChoices switches parts (OtherSwitches (record { 0 = first }) (record { 0 = m })) h 1

pub view_has : (view : View) (a : Lettered) (b m first others : ℕ) (g h : Layered) → AreLettered a →
    b < part_count a.diagram → Ready view a b m first others g h → (parts : List PartLines) →
    AreExactParts a.diagram a.alphabets parts → ViewHas (length a.diagram.switches) parts b m first g h
view_has view a b m first others g h are b_in r parts exact = record {
  others = others_have view a are b m first others r.own b_in r.names g h r.outer r.inner parts exact;
  own = own_have view a are b m first others r.own b_in r.names g h r.outer r.inner parts exact;
}
