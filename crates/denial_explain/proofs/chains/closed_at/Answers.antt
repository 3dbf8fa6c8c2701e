use Rattle.std.proofs.Common.{◌≡◌, arith, refl, rules}
use Rattle.std.proofs.lemmas.Option.{slice_get_within}
use Rattle.denial_explain.proofs.EndLemmas.{closed_later}
use Rattle.denial_explain.proofs.chains.closed_at.Goals as goal
use Rattle.denial_explain.proofs.chains.closed_at.Goals.{else-eq-via-then-eq+then-closed+else-eq-2}
use Rattle.denial_explain.proofs.chains.closed_at.Goals.{else-eq-via-then-eq+else-closed, else-eq-via-else-eq}

pub returns-then-eq-2-clause-at : goal.returns-then-eq-2-clause-at
returns-then-eq-2-clause-at c =
    let x = c.switch-switch.result in
    let is_kind : x.kind ≡ c.args.kind = search rules in
    let stands : x.first.0 ≡ c.args.node.0 = search rules in (
      record {
        number = c.loop-i.i;
        switch = x;
        listed = c.switch-switch.ensures.value;
        is_kind = is_kind;
        closed = c.if-closed.ensures;
        stands = stands;
      },
      refl,
    )

pub loop-i-preserved : goal.loop-i-preserved
loop-i-preserved c =
    closed_later c.args.station.now c.args.vector.now c.args.kind c.loop-i.i c.args.node.0 c.switch-switch.result
    c.switch-switch.ensures.value
    (λ is_kind closed stands. elim c.else-eq.branch [
      | else-eq-via-then-eq+then-closed+else-eq-2 w ↦ search rules
      | else-eq-via-then-eq+else-closed w ↦ cc (closed, w.if-closed.ensures)
      | else-eq-via-else-eq w ↦ search rules
    ])
    c.loop-i.invariant

pub unreachable-requires : goal.unreachable-requires
unreachable-requires c =
    let there = c.requires.there in
    omega (
      arith,
      c.loop-i.invariant there,
      slice_get_within c.args.station.now.switches there.number there.switch
          there.listed,
    )
