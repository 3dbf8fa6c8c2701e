use Rattle.std.proofs.Common.{arith}
use Rattle.bay_frames.proofs.Passing.{read_row, read_lawful, read_frame, read_only}
use Rattle.bay_frames.proofs.frame.Frame.decode.Goals as goal

pub returns-clause-row : goal.returns-clause-row
returns-clause-row c = read_row c.args.bytes.now c.read.result (λ i. omega (arith, c.type_inv.bytes i)) c.read.ensures

pub returns-clause-lawful : goal.returns-clause-lawful
returns-clause-lawful c = read_lawful c.args.bytes.now c.read.result c.read.ensures

pub returns-clause-fits : goal.returns-clause-fits
returns-clause-fits c = read_frame c.args.bytes.now c.read.result (λ i. omega (arith, c.type_inv.bytes i))
    c.read.ensures

pub returns-clause-only : goal.returns-clause-only
returns-clause-only c = λ f fits lawful e. read_only c.args.bytes.now c.read.result f c.read.ensures fits lawful e
