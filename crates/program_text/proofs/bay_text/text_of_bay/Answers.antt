use Rattle.std.proofs.Common.{◌++◌, ◌∙◌, ◌≤◌, ◌^◌, true, false, List, length, ap, subst, sym, arith}
use Rattle.program_blocks.specs.declared.block.Block.{Block}
use Rattle.program_blocks.specs.declared.block.Step.{Step}
use Rattle.program_blocks.specs.Standing.{BlocksWithin}
use Rattle.program_text.specs.BayText.{bay_blocks_text, bay_exchange_text}
use Rattle.program_text.specs.BayExchange.{ArePassed}
use Rattle.program_text.proofs.TextLemmas.{same_piece}
use Rattle.program_text.proofs.WholeLemmas.{is_of_bay}
use Rattle.program_text.proofs.bay_text.text_of_bay.Goals as goal

pub write_bay_blocks-requires : goal.write_bay_blocks-requires
write_bay_blocks-requires c =
    subst (BlocksWithin c.args.station.now) (sym c.deref-5.ensures.value) c.requires.stand.blocks_within

pub returns : goal.returns
returns c =
    let d = c.args.station.now in
    let program = c.args.program.now in
    let p = c.args.bay.0 in
    let blocks = program.blocks.items in
    let steps = program.steps.items in
    let told = c.in_ok-told.told in
    let tells = c.in_ok-tells.tells in
    let count = c.switch_count-count.ensures.count in
    let few : length d.switches ≤ 2 ^ 64 = omega (arith, count) in
    let is_told : ArePassed blocks p false steps told =
    subst (λ (xs : List Step). ArePassed blocks p false xs told) c.deref-2.ensures.value
    (subst (λ (bs : List Block). ArePassed bs p false c.deref-2.result.now told) c.deref.ensures.value c.in_ok-told.ensures.is) in
    let is_telling : ArePassed blocks p true steps tells =
    subst (λ (xs : List Step). ArePassed blocks p true xs tells) c.deref-4.ensures.value
    (subst (λ (bs : List Block). ArePassed bs p true c.deref-4.result.now tells) c.deref-3.ensures.value
    c.in_ok-tells.ensures.is) in
    let head = c.in_ok-write_bay_exchange.ensures ∙ ap (λ t. t ++ bay_exchange_text told tells) c.new-text.ensures in
    is_of_bay d few program c.requires p told tells _ c.in_ok-told.ensures.small
    c.in_ok-tells.ensures.small is_told is_telling
    (same_piece _ _ (λ xs. bay_blocks_text d xs p 0 blocks) _ _
    (same_piece _ _ (λ bs. bay_blocks_text d c.deref-6.result.now p 0 bs) _ _ c.in_ok-write_bay_blocks.ensures
    c.deref-5.ensures.value) c.deref-6.ensures.value
    ∙ ap (λ t. t ++ bay_blocks_text d steps p 0 blocks) head)
