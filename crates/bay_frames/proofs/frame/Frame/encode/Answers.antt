use Rattle.bay_frames.proofs.Bodies.{fits_answer, fits_busy, nothing_follows}
use Rattle.bay_frames.proofs.frame.Frame.encode.Goals as goal

pub returns-in-Answer-clause-fits : goal.returns-in-Answer-clause-fits
returns-in-Answer-clause-fits c = fits_answer c.args.self.now _ c.bytes.result.now c.in-Answer.is c.bytes.ensures.value
    c.bytes.ensures.most c.put.ensures.fits

pub returns-in-Busy-clause-fits : goal.returns-in-Busy-clause-fits
returns-in-Busy-clause-fits c = fits_busy c.args.self.now _ c.in-Busy.holder_round c.in-Busy.is
    c.holder_row.ensures.fits c.put-in-Busy.ensures.fits

pub returns-in-Reserve : goal.returns-in-Reserve
returns-in-Reserve c =
    let e = nothing_follows c.args.self.now.body c.in-Reserve.is in
    record {
      row = rw e.payload c.put-in-Reserve.ensures.row;
      len = rw e.payload c.put-in-Reserve.ensures.len;
      rest = c.put-in-Reserve.ensures.rest;
      fits = record { round = c.put-in-Reserve.ensures.fits; body = e.fits };
    }
