use Rattle.std.proofs.Common.{◌≡◌, ◌++◌, ◌∙◌, List, IfSome, map, drop, sym, ap, subst, slice_get, Some, Option, length}
use Rattle.std.proofs.lemmas.Option.{slice_get-get_or}
use Rattle.structured_text.specs.declared.line.Line.{Line}
use Rattle.program_blocks.specs.declared.block.Block.{Block}
use Rattle.program_blocks.specs.Calls.{bare, call_lines}
use Rattle.program_blocks.specs.Renaming.{outer_line}
use Rattle.program_blocks.proofs.PassLemmas.{lt_from}
use Rattle.program_blocks.proofs.unfolding.behind_call.Goals as goal

pub returns-in-Some : goal.returns-in-Some
returns-in-Some c =
    let lookup = c.in-Some.ensures.lookup in
    let blocks = c.args.blocks.now in
    let call = c.args.call.now in
    let lines = c.args.lines.now in
    let here : Some c.in-Some.block.now ≡ slice_get blocks call.block =
    sym (slice_get-get_or blocks call.block c.in-Some.block.now (lt_from call.block (length blocks) lookup.0)
    ∙ ap Some (sym lookup.1)) in
    subst (λ (o : Option Block). IfSome c.behind_block.result (λ next.
    map (λ (x : Line). bare x) (drop c.args.from lines)
    ≡ call_lines call o ++ map (λ (x : Line). bare x) (drop next lines))) here
    (subst (λ (xs : List Line). IfSome c.behind_block.result (λ next.
    map (λ (x : Line). bare x) (drop c.args.from lines)
    ≡ map (λ (x : Line). outer_line call x) xs ++ map (λ (x : Line). bare x) (drop next lines))) c.deref.ensures.value
    c.behind_block.ensures)
