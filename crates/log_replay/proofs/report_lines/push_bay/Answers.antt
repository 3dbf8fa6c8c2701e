use Rattle.std.proofs.Common.{rules, ◌≡◌, ◌++◌, OnOk, subst, sym, List, ℕ}
use Rattle.central_rules.specs.Meaning.{IsBay}
use Rattle.log_replay.proofs.ReportLemmas.{bay_line_is}
use Rattle.log_replay.proofs.report_lines.push_bay.Goals as goal

pub returns : goal.returns
returns c =
    let bay : IsBay c.args.station.now c.args.bay.0 = search rules in
    subst (λ (line : List ℕ). OnOk c.push_bay_line.result (c.push_bay_line.new.text ≡ c.args.text.now ++ line))
    (sym (bay_line_is c.args.station.now c.args.bay.0 c.part_path.result.now bay c.part_path.ensures.value))
    c.push_bay_line.ensures
