use Rattle.std.proofs.Common.{◌≡◌, ◌≤◌, ◌<◌, length, arith, ap, ◌∙◌, []}
use Rattle.ssd_read.specs.Names.{first_fault}
use Rattle.ssd_read.specs.Ends.{ends_of, end_of, is_terminal_of, end_fault}
use Rattle.ssd_read.proofs.Ended.{ends_len}
use Rattle.ssd_read.proofs.Faults.{fault_next, fault_here, fault_none, sure, end_is}
use Rattle.ssd_read.proofs.checks.check_ends.Goals as goal

pub fault_of_ends-requires-clause-few : goal.fault_of_ends-requires-clause-few
fault_of_ends-requires-clause-few c =
    let inside : c.loop-i.i < length c.args.drawing.now = omega arith in
    let same : length c.of.result.now ≡ length (ends_of c.args.drawing.now c.loop-i.i) =
    ap length (c.of.ensures ∙ c.requires.own c.loop-i.i inside) in
    omega (arith, same, ends_len c.args.drawing.now (end_of c.args.drawing.now) (is_terminal_of c.loop-i.i))

pub loop-i-preserved : goal.loop-i-preserved
loop-i-preserved c =
    let all = c.args.drawing.now in
    let i = c.loop-i.i in
    let inside : i < length all = omega arith in
    let here = end_is all i c.of.result.now _ inside (c.of.ensures ∙ c.requires.own i inside) c.in_ok-fault.ensures
    ∙ c.in_default.is in
    fault_next (end_fault all) all i (first_fault (end_fault all) [] all) inside c.loop-i.invariant here

pub returns-in-Some : goal.returns-in-Some
returns-in-Some c =
    let all = c.args.drawing.now in
    let i = c.loop-i.i in
    let inside : i < length all = omega arith in
    let here = end_is all i c.of.result.now _ inside (c.of.ensures ∙ c.requires.own i inside) c.in_ok-fault.ensures
    ∙ c.in-Some.is in
    sure c.in-Some.fault (first_fault (end_fault all) [] all) (fault_here (end_fault all) all i
    (first_fault (end_fault all) [] all) c.in-Some.fault inside c.loop-i.invariant here)

pub returns : goal.returns
returns c =
    let past : length c.args.drawing.now ≤ c.loop-i.i = omega arith in
    fault_none (end_fault c.args.drawing.now) c.args.drawing.now c.loop-i.i (first_fault (end_fault c.args.drawing.now)
    [] c.args.drawing.now) past c.loop-i.invariant
