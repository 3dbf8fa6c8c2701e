use Rattle.std.proofs.Common.{length, arith, ◌+◌, refl}
use Rattle.csv.specs.Reading.{strip_bom}
use Rattle.csv.specs.declared.parser.State.TheVariants as st
use Rattle.double_points.specs.Left.{rows_from}
use Rattle.double_points.proofs.Next.{length-records_from, length-strip_bom}
use Rattle.double_points.proofs.rows.Rows.new.Goals as goal

pub returns-clause-rows : goal.returns-clause-rows
unfolding rows_from
returns-clause-rows c =
    let fr = c.from_reader-reader.ensures in
    rw (fr.state, fr.source)

pub returns-clause-few : goal.returns-clause-few
unfolding rows_from
returns-clause-few c =
    let fr = c.from_reader-reader.ensures in
    let xs = strip_bom c.args.text.now in
    rw (fr.state, fr.source) (omega (
      arith,
      length-records_from (length xs + 1) st.StartRecord xs refl,
      length-strip_bom c.args.text.now,
    ))
