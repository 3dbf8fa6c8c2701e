use Rattle.plain_rows.proofs.Reading.{rows_are}
use Rattle.plain_rows.proofs.laws.plain_lines_are_rows.Goals as goal

pub returns : goal.returns
returns c = rows_are
