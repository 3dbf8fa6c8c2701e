use Rattle.std.proofs.Common.{◌<◌, length, slice_get, sym, ap, ◌∙◌, inl, inr, arith, length-set}
use Rattle.std.proofs.lemmas.List.{length-replicate}
use Rattle.std.proofs.lemmas.Bool.{cases_eq}
use Rattle.station_graph.proofs.PositionLemmas.{slice_get-set_other}
use Rattle.ilk_base.specs.declared.words.Dbpos.TheVariants.{Lost}
use Rattle.bay_node.proofs.Places.{same_places}
use Rattle.reservation_core.proofs.Change.{stored}
use Rattle.reservation_core.proofs.beside.words_of.Goals as goal

pub loop-i-init : goal.loop-i-init
loop-i-init c = record {
  count =
      ap length c.in_ok-words.ensures ∙ (length-replicate (length c.args.station.now.switches) Lost ∙ sym c.requires);
  done = λ k low. absurd (omega (arith, low));
}

pub sense-requires : goal.sense-requires
sense-requires c =
    omega (arith, c.loop-i-test.true, c.loop-i.invariant.count, c.requires, c.switch_count-i-end.ensures.count)

pub loop-i-preserved : goal.loop-i-preserved
loop-i-preserved c =
    let inside : c.loop-i.i < length c.loop-i.words =
    omega (arith, c.loop-i-test.true, c.loop-i.invariant.count, c.requires, c.switch_count-i-end.ensures.count) in
    record {
      count =
          ap length c.sense.ensures ∙ (length-set c.loop-i.words c.loop-i.i c.word.result ∙ c.loop-i.invariant.count);
      done = λ k low. ap (λ xs. slice_get xs k) c.sense.ensures ∙ elim (cases_eq k c.loop-i.i) [
        | inl e ↦ rw e (stored c.loop-i.words c.loop-i.i c.word.result Lost inside ∙ sym c.word.ensures)
        | inr other ↦
            slice_get-set_other c.loop-i.words c.loop-i.i k c.word.result other
            ∙ c.loop-i.invariant.done k (omega (arith, low, other))
      ];
    }

pub returns : goal.returns
returns c =
    same_places c.loop-i.words c.args.node.now.words c.loop-i.invariant.count (λ k low. c.loop-i.invariant.done k
    (omega (arith, low, c.loop-i.invariant.count, c.requires, c.loop-i-test.false, c.switch_count-i-end.ensures.count)))
