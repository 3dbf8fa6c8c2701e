use Rattle.std.proofs.Common.{◌<◌, length, arith}
use Rattle.short_equations.specs.declared.part_set.PartSet.TheVariants.{But}
use Rattle.short_equations.specs.Fragments.{InParts}
use Rattle.interlock_terms.proofs.TermLemmas.{grew_not, grew_on}
use Rattle.short_equations.proofs.FragmentLemmas.{stands_grew}
use Rattle.short_equations.proofs.ChainSteps.{sets_none, sets_one, sets_pass, sets_all}
use Rattle.short_equations.proofs.chain.add_pairs.Goals as goal
use Rattle.short_equations.proofs.chain.add_pairs.Goals.{then-is_of+in_ok-pair, else-is_of}

pub switch_pair-requires-clause-stands : goal.switch_pair-requires-clause-stands
switch_pair-requires-clause-stands c =
    stands_grew c.args.view c.args.station.now c.args.terms.now c.loop-i.terms
    (InParts c.args.station.now (But c.args.part)) c.args.others.now c.loop-i.invariant.0 c.requires.stands

pub loop-i-init : goal.loop-i-init
loop-i-init c = (
  grew_not c.args.terms.now,
  sets_none c.args.view c.args.station.now c.args.part.0 c.args.pairs.now.items c.args.terms.now,
)

pub loop-i-preserved : goal.loop-i-preserved
loop-i-preserved c =
    let d = c.args.station.now in
    let view = c.args.view in
    let part = c.args.part.0 in
    let old = c.args.pairs.now.items in
    let k = c.loop-i.i in
    let y = c.switch.result in
    let listed = c.switch.ensures.value in
    let before = c.loop-i.terms in
    let mid = c.loop-i.pairs.items in
    let count = c.switch_count-i-end.ensures.count in
    let test = c.loop-i-test.true in
    let room = c.requires.room in
    let len = c.loop-i.invariant.1.len in
    let within : k < length mid = omega (arith, count, test, room, len) in
    elim c.if-is_of.branch [
      | then-is_of+in_ok-pair w ↦
          let grew = w.in_ok-pair.ensures.grew in
          let own = c.is_of.ensures.number.0 w.if-is_of.true in
          let same = c.is_of.ensures.same w.if-is_of.true in
          rw (w.terms-is, w.pairs-is) (
            grew_on _ _ _ c.loop-i.invariant.0 grew,
            sets_one view d part old k y listed before mid c.loop-i.invariant.1 own _ grew w.in_ok-pair.pair within
                (w.in_ok-pair.ensures.exact y listed same),
          )
      | else-is_of w ↦
          rw (w.terms-is, w.pairs-is) (
            c.loop-i.invariant.0,
            sets_pass view d part old k y listed before mid c.loop-i.invariant.1
                (λ h. let yes = c.is_of.ensures.number.1 h in let no_one = w.if-is_of.false in cc),
          )
    ]

pub returns-clause-sets : goal.returns-clause-sets
returns-clause-sets c =
    let d = c.args.station.now in
    let count = c.switch_count-i-end.ensures.count in
    sets_all c.args.view d c.args.part.0 c.args.pairs.now.items c.loop-i.terms c.loop-i.i c.loop-i.pairs.items
    (omega (arith, count)) c.loop-i.invariant.1
