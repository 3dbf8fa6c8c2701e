use Rattle.std.proofs.Common.{◌++◌, ◌∙◌, ◌≤◌, ◌^◌, length, ap, arith}
use Rattle.program_text.specs.ProgramText.{whole_text}
use Rattle.program_text.proofs.WholeLemmas.{is_whole}
use Rattle.program_text.proofs.text.text_of_program.Goals as goal

pub write_whole-requires-clause-blocks : goal.write_whole-requires-clause-blocks
write_whole-requires-clause-blocks c = c.requires.stand.blocks_within

pub write_whole-requires-clause-steps : goal.write_whole-requires-clause-steps
write_whole-requires-clause-steps c = c.requires.stand.steps_within

pub write_whole-requires-clause-names : goal.write_whole-requires-clause-names
write_whole-requires-clause-names c = c.requires.stand.names_within

pub returns : goal.returns
returns c =
    let d = c.args.station.now in
    let p = c.args.program.now in
    let count = c.switch_count-count.ensures.count in
    let few : length d.switches ≤ 2 ^ 64 = omega (arith, count) in
    is_whole d few p c.requires _
    (c.in_ok-write_whole.ensures
    ∙ ap (λ t. t ++ whole_text d p.blocks.items p.steps.items p.variables.items) c.new-text.ensures)
