use Rattle.std.proofs.Common.{◌≡◌, ◌+◌, Option, sym, ap, ◌∙◌, subst, arith}
use Rattle.station_compare.specs.declared.word.Word.{Word}
use Rattle.station_compare.specs.Words.{worst, found_word}
use Rattle.station_compare.specs.Bays.{WorstOf, Between}
use Rattle.station_compare.proofs.ListLemmas.{at_index}
use Rattle.station_compare.proofs.BayLemmas.{worst_next}
use Rattle.station_compare.proofs.bays.worst_between.Goals as goal

pub loop-j-preserved : goal.loop-j-preserved
loop-j-preserved c =
    let o = c.args.old.now in
    let n = c.args.new.now in
    let first = c.args.first.0 in
    let j = c.loop-j.j in
    let f = c.index-here-from.result in
    let at =
    at_index c.args.here.now c.from.result (first + j) f c.index-here-from.is c.from.ensures
    (omega (arith, c.loop-j-test.true, c.requires.within, c.requires.here.count)) in
    let e : c.worst-word.result ≡ worst c.loop-j.word (found_word f) =
    c.worst-word.ensures ∙ ap (worst c.loop-j.word) c.found_word.ensures in
    subst (λ (w : Option Word). WorstOf o n (Between first (first + (j + 1))) w) (sym e)
    (worst_next o n c.is_station.ensures first j c.loop-j.word f c.loop-j.invariant
    (c.requires.here.each (first + j) f at))

pub returns : goal.returns
returns c =
    let first = c.args.first.0 in
    let done : c.loop-j.j ≡ c.args.count = omega (arith, c.loop-j.auto.j-end, c.loop-j-test.false) in
    subst (λ k. WorstOf c.args.old.now c.args.new.now (Between first (first + k)) c.loop-j.word) done
    c.loop-j.invariant
