use Rattle.std.proofs.Common.{◌≡◌, Bool, is_none, get_or, sym, ap, ◌∙◌, arith}
use Rattle.std.proofs.lemmas.Option.{get_or_from_slice_get, slice_get_within}
use Rattle.std.proofs.lemmas.List.Sums.{count_by_more_yes, count_by_more_no}
use Rattle.station_graph.specs.declared.items.Switch.{Switch}
use Rattle.station_compare.specs.Sharing.{like_in}
use Rattle.station_compare.proofs.sharing.walked_switches.Goals as goal
use Rattle.station_compare.proofs.sharing.walked_switches.Goals.{then-is_walked, else-is_walked}

pub loop-k-preserved : goal.loop-k-preserved
loop-k-preserved c =
    let p : Switch → Bool = λ x. is_none (like_in c.args.likes.now x.bay.0) in
    let xs = c.args.new.now.switches in
    let x = c.switch.result in
    let within = slice_get_within xs c.loop-k.k x c.switch.ensures.value in
    let there : get_or xs c.loop-k.k x ≡ x = get_or_from_slice_get xs c.loop-k.k x x c.switch.ensures.value in
    elim c.if-is_walked.branch [
      | then-is_walked w ↦
          omega (
            arith,
            w.count-is,
            c.loop-k.invariant,
            count_by_more_yes p xs c.loop-k.k x within
                (ap p there ∙ (sym c.is_walked.ensures ∙ w.if-is_walked.true)),
          )
      | else-is_walked w ↦
          omega (
            arith,
            w.count-is,
            c.loop-k.invariant,
            count_by_more_no p xs c.loop-k.k x within
                (ap p there ∙ (sym c.is_walked.ensures ∙ w.if-is_walked.false)),
          )
    ]
