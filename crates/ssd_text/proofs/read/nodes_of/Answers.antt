use Rattle.std.proofs.Common.{◌<◌, List, ℕ, Err, [], length, refl, arith}
use Rattle.ssd_text.specs.Nesting.{Entry, Nest, Next, HasOutcome, nothing}
use Rattle.ssd_text.specs.Seen.{nest_of}
use Rattle.ssd_text.proofs.Nested.{answers_then}
use Rattle.ssd_text.proofs.Whole.{next_rest, next_shorter, told_more, told_fault, some_left}
use Rattle.ssd_text.proofs.read.nodes_of.Goals as goal

pub loop-rest-preserved : goal.loop-rest-preserved
loop-rest-preserved c =
    let l = c.loop-rest in
    let n = nest_of l.nest in
    let m = nest_of c.advance.new.nest in
    let shorter = next_shorter l.at n m l.rest.now c.in-Ok.next.now c.in-Ok.ensures in
    record {
      text = next_rest l.at n m l.rest.now c.in-Ok.next.now c.in-Ok.ensures l.invariant.text;
      place = omega (arith, shorter, l.invariant.place);
      outcome = λ o h. l.invariant.outcome o (told_more l.at _ n m l.rest.now c.in-Ok.next.now o
          c.in-Ok.ensures refl h);
    }

pub returns-in-Err : goal.returns-in-Err
returns-in-Err c =
    let l = c.loop-rest in
    let n = nest_of l.nest in
    let some : 0 < length l.rest.now = some_left l.rest.now _ c.is_empty.ensures c.loop-rest-test.true in
    answers_then {X = Unit {0}} {Y = Nest × List ℕ} {Z = Unit {0}} {W = List Entry} (λ _. (n, l.rest.now)) (λ _. [])
    c.in-Err.fault (λ o. Next l.at n l.rest.now o) (λ o. HasOutcome c.args.start nothing c.args.bytes.now o)
    (λ h. l.invariant.outcome (Err c.in-Err.fault) (told_fault l.at n l.rest.now c.in-Err.fault some h))
    c.in-Err.ensures
