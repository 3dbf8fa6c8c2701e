use Rattle.std.proofs.Common.{rules}
use Rattle.central_rules.specs.Meaning.{bay_of}
use Rattle.central_rules.specs.WordRows.{by_rows}
use Rattle.central_rules.proofs.MeaningLemmas.{heard_fit_more}
use Rattle.test_station.proofs.judging.hear.Goals.{then-tell+then-is_other+in_ok-summarise, else-tell}
use Rattle.test_station.proofs.judging.hear.Goals as goal

pub loop-i-preserved : goal.loop-i-preserved
loop-i-preserved c =
    let d = c.args.station.now in
    let before = c.loop-i.invariant in
    elim c.if-tell.branch [
      | then-tell+then-is_other+in_ok-summarise w ↦
          let fits = rw c.requires.station at w.in_ok-summarise.ensures.fits in
          rw w.heard-is (rw w.set.ensures (record {
            count = search rules;
            fits = heard_fit_more (by_rows d) (bay_of d c.args.id.0) c.loop-i.i c.loop-i.heard _ fits before.fits;
          }))
      | else-tell w ↦ rw w.heard-is before
    ]
