use Rattle.std.proofs.Common.{◌+◌, ◌%◌, subst, sym, ◌∙◌, arith}
use Rattle.decision_graphs.specs.Drafting.{Draft, IsShaped, choices_of, sizes_of}
use Rattle.decision_graphs.proofs.BuildingLemmas.{IsShaped-edge, MayHaveEdge-same}
use Rattle.test_graphs.proofs.table.fill_row.Goals as goal
use Rattle.test_graphs.proofs.table.fill_row.Goals.{in-Some-Some, in-Some+in-None-1, in-None-1}

pub edge-requires : goal.edge-requires
edge-requires c =
    MayHaveEdge-same c.args.builder.now c.loop-choice.builder c.args.from c.loop-choice.choice
    (c.args.part.low + c.in-Some-Some.to % c.args.part.places) c.loop-choice.invariant
    (c.requires.edges c.loop-choice.choice (c.in-Some-Some.to % c.args.part.places) c.loop-choice-test.true
    (omega (arith, c.requires.places)))

pub loop-choice-preserved : goal.loop-choice-preserved
loop-choice-preserved c =
    elim c.match-get.branch [
      | in-Some-Some w ↦
          (let may = MayHaveEdge-same c.args.builder.now c.loop-choice.builder c.args.from c.loop-choice.choice
          (c.args.part.low + w.in-Some-Some.to % c.args.part.places) c.loop-choice.invariant
          (c.requires.edges c.loop-choice.choice (w.in-Some-Some.to % c.args.part.places) c.loop-choice-test.true
          (omega (arith, c.requires.places))) in
          let e = w.builder-is ∙ w.edge.ensures may.layer may.within may.node in
          subst (λ (d : Draft). IsShaped d c.args.builder.now.labels (choices_of c.args.builder.now)
          (sizes_of c.args.builder.now)) (sym e)
          (IsShaped-edge c.loop-choice.builder c.args.builder.now.labels (choices_of c.args.builder.now)
          (sizes_of c.args.builder.now) may.layer may.within c.loop-choice.choice _ c.loop-choice.invariant))
      | in-Some+in-None-1 w ↦ subst (λ (d : Draft). IsShaped d c.args.builder.now.labels (choices_of c.args.builder.now)
          (sizes_of c.args.builder.now)) (sym w.builder-is) c.loop-choice.invariant
      | in-None-1 w ↦ subst (λ (d : Draft). IsShaped d c.args.builder.now.labels (choices_of c.args.builder.now)
          (sizes_of c.args.builder.now)) (sym w.builder-is) c.loop-choice.invariant
    ]
