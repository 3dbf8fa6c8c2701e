use Rattle.log_replay.proofs.OneReport.{one_report}
use Rattle.log_replay.proofs.laws.text_decides_report.Goals as goal

pub returns : goal.returns
returns c count r t paths is it end text =
    one_report c.args.station.now c.is_station.ensures count r t paths is it end text
