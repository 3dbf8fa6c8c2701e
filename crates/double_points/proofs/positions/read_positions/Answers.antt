use Rattle.std.proofs.Common.{◌≡◌, ◌∙◌, sym, ap, is_some, arith, length, true, false}
use Rattle.std.proofs.Common.{get_or, take, map, [], inr, unwrap_or, below_more}
use Rattle.std.proofs.lemmas.List.{length-map}
use Rattle.std.specs.List.{list_any}
use Rattle.csv.specs.Records.{fields_of}
use Rattle.double_points.specs.Rows.{rows_of}
use Rattle.ilk_base.specs.declared.words.Dbpos.TheVariants.{Lost}
use Rattle.double_points.specs.Positions.{names, given}
use Rattle.double_points.proofs.Records.{turn, one_more, fault_at-none, fault_at-form, fault_at-again}
use Rattle.double_points.proofs.Records.{HaveWords-append, refused_here, named_is, at_last}
use Rattle.double_points.proofs.Places.{distinct}
use Rattle.double_points.proofs.positions.read_positions.Goals as goal

pub index-requires : goal.index-requires
index-requires c =
    let f = ap length c.loop-found.invariant.found in
    omega (
      arith,
      f,
      length-map c.args.station.now.switch_paths
          (given (take c.loop-found.line (rows_of c.args.bytes.now))),
      c.in-Ok.ensures.within,
      c.loop-found.found.ok.0,
    )

pub index_mut-requires : goal.index_mut-requires
index_mut-requires c =
    let f = ap length c.loop-found.invariant.found in
    omega (
      arith,
      f,
      length-map c.args.station.now.switch_paths
          (given (take c.loop-found.line (rows_of c.args.bytes.now))),
      c.in-Ok.ensures.within,
      c.loop-found.found.ok.0,
    )

pub returns-in-Err-clause-err : goal.returns-in-Err-clause-err
returns-in-Err-clause-err c =
    let all = rows_of c.args.bytes.now in
    let inv = c.loop-found.invariant in
    let t = turn all c.loop-found.rows c.next.new.self c.loop-found.line (fields_of c.next.new.row) inv.rest
    (rw c.if-branch.true at c.in_ok-next.ensures.next) in
    rw c.refused-in-Err.ensures (inr (
      inv.short,
      refused_here c.args.station.now.switch_paths all c.loop-found.line c.in-Err.number t.within
          (fault_at-form c.args.station.now.switch_paths all c.loop-found.line _ _ t.row_is
          c.in-Err.ensures.fault) inv.before,
    ))

pub returns-then-is_some-clause-err : goal.returns-then-is_some-clause-err
returns-then-is_some-clause-err c =
    let all = rows_of c.args.bytes.now in
    let inv = c.loop-found.invariant in
    let row = fields_of c.next.new.row in
    let before = take c.loop-found.line all in
    let t = turn all c.loop-found.rows c.next.new.self c.loop-found.line row inv.rest
    (rw c.if-branch.true at c.in_ok-next.ensures.next) in
    let m = one_more c.args.station.now.switch_paths before row c.in-Ok.p.0 c.in-Ok.p.1
    (distinct _ c.is_station.ensures.paths_differ.switches) c.in-Ok.ensures.place c.in-Ok.ensures.word in
    rw c.refused-then-is_some.ensures (inr (
      inv.short,
      refused_here c.args.station.now.switch_paths all c.loop-found.line 4 t.within
          (fault_at-again c.args.station.now.switch_paths all c.loop-found.line _ t.row_is c.in-Ok.ensures.form
          (named_is c.args.station.now.switch_paths before row c.in-Ok.p.0 c.index.result.now _ true inv.found
          m.within m.path_is inv.words c.index.ensures (sym c.is_some.ensures ∙ c.if-is_some.true))) inv.before,
    ))

pub loop-found-preserved : goal.loop-found-preserved
loop-found-preserved c =
    let all = rows_of c.args.bytes.now in
    let inv = c.loop-found.invariant in
    let row = fields_of c.next.new.row in
    let before = take c.loop-found.line all in
    let t = turn all c.loop-found.rows c.next.new.self c.loop-found.line row inv.rest
    (rw c.if-branch.true at c.in_ok-next.ensures.next) in
    let m = one_more c.args.station.now.switch_paths before row c.in-Ok.p.0 c.in-Ok.p.1
    (distinct _ c.is_station.ensures.paths_differ.switches) c.in-Ok.ensures.place c.in-Ok.ensures.word in
    let fresh : list_any (names (get_or row 0 [])) before ≡ false = named_is c.args.station.now.switch_paths before row
    c.in-Ok.p.0 c.index.result.now _ false inv.found m.within m.path_is inv.words c.index.ensures
    (sym c.is_some.ensures ∙ c.if-is_some.false) in
    record {
      short = inv.short;
      few = inv.few;
      within = omega (arith, t.within);
      rest = t.rest_is;
      found = rw (inv.found, t.taken) (m.found fresh);
      words = rw t.taken (HaveWords-append before row inv.words (ap is_some c.in-Ok.ensures.word));
      before = below_more _ _ inv.before (fault_at-none c.args.station.now.switch_paths all c.loop-found.line row
          t.row_is c.in-Ok.ensures.form fresh);
    }

pub returns-clause-ok : goal.returns-clause-ok
returns-clause-ok c =
    let all = rows_of c.args.bytes.now in
    let inv = c.loop-found.invariant in
    let ended = rw c.if-branch.false at c.in_ok-next.ensures.next in
    let done = at_last c.args.station.now.switch_paths all c.loop-found.rows c.loop-found.line c.loop-found.found.items
    c.in_ok-filled.field-0.items inv.rest ended inv.within inv.found (c.in_ok-filled.ensures
    ∙ ap (map (λ o. unwrap_or o Lost)) c.deref.ensures.value) inv.before in
    (inv.short, done.0, c.readings_of.ensures ∙ done.1)
