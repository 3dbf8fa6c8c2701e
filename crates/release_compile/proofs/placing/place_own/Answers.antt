use Rattle.std.proofs.Common.{◌≡◌, ◌≢◌, ◌+◌, ◌<◌, length, drop, eqb, slice_get, slice_set, refl, sym, ap, ◌∙◌, subst}
use Rattle.std.proofs.Common.{inl, inr, arith, length-set}
use Rattle.station_graph.proofs.PositionLemmas.{slice_get-set_other}
use Rattle.judge_pool.specs.Graphs.{other_of, SwitchChosen}
use Rattle.judge_intake.proofs.OtherLemmas.{other_in, length_after, switch_not}
use Rattle.release_compile.proofs.PlacingLemmas.{ChosenBelow, below_none, below_all, own_more, choice_at}
use Rattle.release_compile.proofs.placing.place_own.Goals as goal

pub loop-i-init : goal.loop-i-init
loop-i-init c = record {
  count = refl;
  chosen = below_none (SwitchChosen c.args.first c.args.moved) c.args.vector.now (drop 1 c.args.choices.now);
  stay = λ i h. refl;
}

pub loop-i-preserved : goal.loop-i-preserved
loop-i-preserved c =
    let first = c.args.first in
    let moved = c.args.moved in
    let n = c.loop-i.i in
    let o = other_of first moved n in
    let v = c.loop-i.vector in
    let range = other_in first moved c.args.others n c.loop-i-test.true in
    let o_in : o < length v = omega (arith, range.1, c.requires.within, c.loop-i.invariant.count) in
    let set : c.set.new.self ≡ slice_set v o (eqb c.choice-closed.result 1) =
    c.set.ensures ∙ ap (λ k. slice_set v k (eqb c.choice-closed.result 1)) c.other_number.ensures in
    record {
      count = ap length set ∙ (length-set v o (eqb c.choice-closed.result 1) ∙ c.loop-i.invariant.count);
      chosen =
          subst (λ w. ChosenBelow (SwitchChosen first moved) (n + 1) w (drop 1 c.args.choices.now)) (sym set) (own_more
          first moved n v c.args.choices.now c.choice-closed.result c.loop-i.invariant.chosen
          (sym c.choice-closed.ensures) (c.requires.small n c.choice-closed.result
          (choice_at c.args.choices.now c.args.others n c.choice-closed.result c.requires.len c.loop-i-test.true
          (sym c.choice-closed.ensures))) o_in);
      stay = λ i h.
          let ne : i ≢ o = λ e. elim h [
            | inl before ↦ omega (arith, before, e, range.0)
            | inr rest ↦ elim rest [
              | inl past ↦ omega (arith, past, e, range.1)
              | inr is ↦ switch_not first moved n (sym e ∙ is)
            ]
          ] in
          ap (λ w. slice_get w i) set
          ∙ (slice_get-set_other v o i (eqb c.choice-closed.result 1) ne ∙ c.loop-i.invariant.stay i h);
    }

pub returns-clause-chosen : goal.returns-clause-chosen
returns-clause-chosen c =
    let done : c.args.others ≡ c.loop-i.i = omega (arith, c.loop-i.auto.i-end, c.loop-i-test.false) in
    below_all (SwitchChosen c.args.first c.args.moved) c.loop-i.i c.loop-i.vector (drop 1 c.args.choices.now)
    (length_after c.args.others c.args.choices.now c.requires.len ∙ done) c.loop-i.invariant.chosen
