use Rattle.contraction.proofs.RisingLemmas.{kept_is}
use Rattle.bay_contract.proofs.course.course_of.Goals as goal

pub returns : goal.returns
returns c = record {
  switches = c.requires.switches;
  nodes = kept_is c.in_ok-nodes.nodes c.in_ok-value.value c.in_ok-value.ensures.contraction
      c.in_ok-value.ensures.kept c.in_ok-nodes.ensures.nodes.rises;
  base = record {
    value = c.in_ok-value.ensures.contraction;
    kept = λ n. (
      λ k. (c.in_ok-nodes.ensures.exact n).0 ((c.in_ok-value.ensures.kept n).0 k),
      λ k. (c.in_ok-value.ensures.kept n).1 ((c.in_ok-nodes.ensures.exact n).1 k),
    );
  };
  stands = c.in_ok-value.ensures.stands;
  counted = c.in_ok-turns.ensures.count;
  turns = c.in_ok-turns.ensures.turns;
}
