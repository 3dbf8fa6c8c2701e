use Rattle.std.proofs.Common.{◌≡◌, ◌<◌, length, refl, sym, subst, Some}
use Rattle.std.specs.Prelude.{slice_get}
use Rattle.std.proofs.lemmas.Option.{slice_get_read}
use Rattle.station_equations.specs.declared.goal.Goal.{Goal}
use Rattle.station_equations.specs.declared.goal.Goal.TheVariants.{Node, Answer}
use Rattle.station_equations.specs.EquationMeaning.{NextGoal, Leads, NodeLeads}
use Rattle.station_equations.specs.EquationForm.{IsGoal}
use Rattle.station_equations.proofs.LeadsLemmas.{leads_here, leads_on}
use Rattle.station_equations.proofs.FollowLemmas.{later_goal, line_later, nodes_left}
use Rattle.station_equations.proofs.equations.follow.Goals as goal

pub returns-in-Answer : goal.returns-in-Answer
returns-in-Answer c =
    c.loop-at.invariant.leads c.in-Answer.answer (leads_here
    (NextGoal c.args.parts.now c.args.nodes.now c.args.vector.now) c.loop-at.at (Answer c.in-Answer.answer)
    c.in-Answer.is)

pub next-at-requires-clause-by : goal.next-at-requires-clause-by
next-at-requires-clause-by c =
    let nodes = c.args.nodes.now in
    let lt : c.in-Node.n < length nodes =
    subst (λ (g : Goal). IsGoal (length nodes) g) c.in-Node.is c.loop-at.invariant.goal in
    let at : slice_get nodes c.in-Node.n ≡ Some c.index-nodes-n.result =
    slice_get_read nodes (length nodes) c.in-Node.n c.index-nodes-n.result refl lt c.index-nodes-n.is in
    (c.requires.nodes c.in-Node.n c.index-nodes-n.result at).by

pub loop-at-smaller : goal.loop-at-smaller
loop-at-smaller c =
    let nodes = c.args.nodes.now in
    let lt : c.in-Node.n < length nodes =
    subst (λ (g : Goal). IsGoal (length nodes) g) c.in-Node.is c.loop-at.invariant.goal in
    let at : slice_get nodes c.in-Node.n ≡ Some c.index-nodes-n.result =
    slice_get_read nodes (length nodes) c.in-Node.n c.index-nodes-n.result refl lt c.index-nodes-n.is in
    let later = line_later (length c.args.vector.now) c.args.parts.now (length nodes) c.in-Node.n c.index-nodes-n.result
    c.args.vector.now c.next-at.result (c.requires.nodes c.in-Node.n c.index-nodes-n.result at) c.next-at.ensures in
    subst (λ (g : Goal). nodes_left (length nodes) c.next-at.result < nodes_left (length nodes) g) (sym c.in-Node.is)
    (later_goal (length nodes) c.in-Node.n c.next-at.result lt later).1

pub loop-at-preserved : goal.loop-at-preserved
loop-at-preserved c =
    let nodes = c.args.nodes.now in
    let next = NextGoal c.args.parts.now nodes c.args.vector.now in
    let lt : c.in-Node.n < length nodes =
    subst (λ (g : Goal). IsGoal (length nodes) g) c.in-Node.is c.loop-at.invariant.goal in
    let at : slice_get nodes c.in-Node.n ≡ Some c.index-nodes-n.result =
    slice_get_read nodes (length nodes) c.in-Node.n c.index-nodes-n.result refl lt c.index-nodes-n.is in
    let later = line_later (length c.args.vector.now) c.args.parts.now (length nodes) c.in-Node.n c.index-nodes-n.result
    c.args.vector.now c.next-at.result (c.requires.nodes c.in-Node.n c.index-nodes-n.result at) c.next-at.ensures in
    let here : NodeLeads c.args.parts.now nodes c.args.vector.now c.in-Node.n c.next-at.result = record {
      line = c.index-nodes-n.result;
      listed = at;
      leads = c.next-at.ensures;
    } in
    record {
      goal = (later_goal (length nodes) c.in-Node.n c.next-at.result lt later).0;
      leads =
          λ a l. c.loop-at.invariant.leads a (subst (λ (g : Goal). Leads next g (Answer a)) (sym c.in-Node.is)
          (leads_on next (Node c.in-Node.n) c.next-at.result (Answer a) here l));
    }
