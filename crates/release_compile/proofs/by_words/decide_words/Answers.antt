use Rattle.std.proofs.Common.{Bool, List, Some, arith}
use Rattle.central_rules.specs.Readings.{IsReading}
use Rattle.judge_pool.specs.Lettered.{Lettered, AreLettered, lettered}
use Rattle.judge_pool.specs.Graphs.{other_of}
use Rattle.release_compile.specs.Deciding.{WithinAll}
use Rattle.judge_intake.proofs.OtherLemmas.{other_in}
use Rattle.release_compile.proofs.HeardLemmas.{set_layer}
use Rattle.release_compile.proofs.PossibleLemmas.{holds_of}
use Rattle.release_compile.proofs.KnownLemmas.{decides_over, within_reading, reading_within}
use Rattle.release_compile.proofs.by_words.decide_words.Goals as goal

pub decide-requires-clause-held : goal.decide-requires-clause-held
decide-requires-clause-held c j k is =
    let a : Lettered = lettered c.args.station.now c.args.parts.now in
    let s = c.args.sides.now in
    let h = c.requires.sides in
    let lt = set_layer s.gap.outer.now.layers c.args.sets.now h.gap.ready.fits j k is in
    let part_in = (other_in 0 s.place.bay.0 s.place.parts j (omega (arith, lt, h.gap.outer_is.count, h.parts))).1 in
    holds_of a c.args.all.now (other_of 0 s.place.bay.0 j) k c.requires.all (omega (arith, part_in, h.parts))
    ((c.requires.possible j k (omega (arith, lt, h.gap.outer_is.count))).0 is)

pub returns : goal.returns
returns c =
    let d = c.args.station.now in
    let a : Lettered = lettered d c.args.parts.now in
    let s = c.args.sides.now in
    let h = c.requires.sides in
    let words = c.args.all.now.words.now in
    let sets : List (List Bool) = c.args.sets.now in
    let r = c.in_ok-verdict.verdict in
    let are : AreLettered a = record {
      station = c.part_count-count.ensures.station;
      alphabets = c.requires.lettered;
    } in
    decides_over d (WithinAll (Some c.args.all) a s.place.bay.0 words sets s.place.parts) (IsReading words)
    (within_reading a are s.place.bay.0 s.place.parts h.parts h.bay c.args.all c.requires.all.words sets
    c.requires.possible)
    (reading_within a are s.place.bay.0 s.place.parts h.parts h.bay c.args.all c.requires.all.words sets
    c.requires.possible)
    c.args.op r c.in_ok-verdict.ensures
