use Rattle.std.proofs.Common.{sym, subst, arith, inl, inr}
use Rattle.std.proofs.lemmas.Bool.{cases_eq}
use Rattle.bay_protocol.specs.State.{IsOther, IsHeard}
use Rattle.bay_node.proofs.heard.are_heard.Goals.{else-is_other-via-then-is_other+else-not-is_heard}
use Rattle.bay_node.proofs.heard.are_heard.Goals.{else-is_other-via-else-is_other}
use Rattle.bay_node.proofs.heard.are_heard.Goals as goal

pub loop-part-preserved : goal.loop-part-preserved
loop-part-preserved c = λ k low other. elim (cases_eq k c.loop-part.part) [
  | inl e ↦ subst (λ j. IsHeard c.args.heard.now j) (sym e) (elim c.else-is_other.branch [
    | else-is_other-via-then-is_other+else-not-is_heard w ↦ w.is_heard.ensures.0 w.if-not-is_heard.false
    | else-is_other-via-else-is_other w ↦
        absurd (cc (
          c.is_other.ensures.1 (subst (λ j. IsOther c.args.station.now c.args.bay.0 j) e other),
          w.if-is_other.false,
        ))
  ])
  | inr ne ↦ c.loop-part.invariant k (omega (arith, low, ne)) other
]
