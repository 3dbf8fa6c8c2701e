use Rattle.std.proofs.Common.{◌≡◌, sym, ap, ◌∙◌, subst, inl, inr, arith}
use Rattle.std.proofs.lemmas.Bool.{cases_lt, false≢true}
use Rattle.station_graph.specs.Connection.{a_switch}
use Rattle.station_graph.specs.Sharing.{Touches}
use Rattle.judge_pool.specs.Graphs.{other_of}
use Rattle.judge_intake.proofs.needed.other_touches.Goals as goal

pub loop-i-preserved : goal.loop-i-preserved
loop-i-preserved c k low lt t = elim (cases_lt k c.loop-i.i) [
  | inl less ↦ c.loop-i.invariant k low less t
  | inr more ↦
      let e : c.loop-i.i ≡ k = omega (arith, lt, more) in
      let u = subst (λ n. Touches c.args.station.now (a_switch n) c.args.node)
      (sym (c.other_number.ensures ∙ ap (other_of c.args.first c.args.moved) e)) t in
      let is = c.switch_touches.ensures.1 u in
      cc (is, c.if-switch_touches.false)
]

pub returns : goal.returns
returns c = (
  λ h. absurd (false≢true h),
  λ t. absurd (c.loop-i.invariant t.0 t.1 (omega (arith, t.2, c.loop-i-test.false)) t.3),
)
