use Rattle.std.proofs.Common.{◌≤◌, ◌^◌, length, arith}
use Rattle.program_text.specs.ProgramText.{whole_text}
use Rattle.program_text.proofs.WholeLemmas.{has_whole}
use Rattle.program_text.proofs.bay_text.bay_program_text.Goals as goal

pub returns : goal.returns
returns c =
    let d = c.args.station.now in
    let p = c.in_ok-program.program in
    let count = c.switch_count-count.ensures.count in
    let few : length d.switches ≤ 2 ^ 64 = omega (arith, count) in record {
      program = p;
      whole = whole_text d p.blocks.items p.steps.items p.variables.items;
      within = has_whole d few p c.in_ok-program.ensures;
      of_bay = c.in_ok-text.ensures;
    }
