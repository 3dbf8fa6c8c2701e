use Rattle.std.proofs.Common.{◌≡◌, ◌≤◌, ◌<◌, ◌+◌, ◌++◌, ◌∷◌, [], sym, subst, List, take, length, arith}
use Rattle.std.proofs.lemmas.List.{take_more}
use Rattle.ssd_read.specs.Elements.{Element, element_at, nowhere}
use Rattle.ssd_read.specs.SeenPaths.{AreNumbered, HaveSame}
use Rattle.ssd_read.specs.Names.{counted_paths, keys_of, first_fault, name_fault}
use Rattle.ssd_read.proofs.Faults.{fault_next, fault_here, fault_none, finds_err}
use Rattle.ssd_read.proofs.names.check_names.Goals as goal

pub loop-i-preserved : goal.loop-i-preserved
loop-i-preserved c =
    let all = c.args.drawing.now in
    let l = c.loop-i in
    let inside : l.i < length all = omega arith in
    let before = take l.i all in
    let more : take (l.i + 1) all ≡ before ++ element_at all l.i ∷ [] = take_more all l.i nowhere inside in
    record {
      paths = subst (λ (xs : List Element). HaveSame c.check_name.new.paths (counted_paths xs)) (sym more)
          (c.in-Ok.ensures.paths before l.invariant.paths);
      keys = subst (λ (xs : List Element). AreNumbered c.check_name.new.keys (keys_of xs)) (sym more)
          (c.in-Ok.ensures.keys before l.invariant.keys);
      fault = fault_next name_fault all l.i (first_fault name_fault [] all) inside l.invariant.fault
          (c.in-Ok.ensures.fault before l.invariant.paths l.invariant.keys);
    }

pub returns-in-Err-clause-fault : goal.returns-in-Err-clause-fault
returns-in-Err-clause-fault c =
    let all = c.args.drawing.now in
    let l = c.loop-i in
    let inside : l.i < length all = omega arith in
    let before = take l.i all in
    finds_err c.in-Err.fault (name_fault before (element_at all l.i)) (first_fault name_fault [] all)
    (fault_here name_fault all l.i (first_fault name_fault [] all) c.in-Err.fault inside l.invariant.fault)
    (c.in-Err.ensures.fault before l.invariant.paths l.invariant.keys)

pub returns-clause-fault : goal.returns-clause-fault
returns-clause-fault c =
    let past : length c.args.drawing.now ≤ c.loop-i.i = omega arith in
    fault_none name_fault c.args.drawing.now c.loop-i.i (first_fault name_fault [] c.args.drawing.now) past
    c.loop-i.invariant.fault
