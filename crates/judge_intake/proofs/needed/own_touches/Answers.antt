use Rattle.std.proofs.Common.{◌≡◌, ◌+◌, subst, inl, inr, arith}
use Rattle.std.proofs.lemmas.Bool.{cases_lt, false≢true}
use Rattle.station_graph.specs.Connection.{a_switch}
use Rattle.station_graph.specs.Sharing.{Touches}
use Rattle.judge_intake.proofs.needed.own_touches.Goals as goal

pub loop-i-preserved : goal.loop-i-preserved
loop-i-preserved c k lt t = elim (cases_lt k c.loop-i.i) [
  | inl less ↦ c.loop-i.invariant k less t
  | inr more ↦
      let e : k ≡ c.loop-i.i = omega (arith, lt, more) in
      let is = c.switch_touches.ensures.1
      (subst (λ j. Touches c.args.station.now (a_switch (c.args.first + j)) c.args.node) e t) in
      cc (is, c.if-switch_touches.false)
]

pub returns : goal.returns
returns c = (
  λ h. absurd (false≢true h),
  λ t. absurd (c.loop-i.invariant t.0 (omega (arith, t.1, c.loop-i-test.false)) t.2),
)
