use Rattle.std.proofs.Common.{◌++◌, ℕ, Bool, List, length, ap, ◌∙◌}
use Rattle.piece_writer.specs.Named.{Named}
use Rattle.central_rules.specs.Names.{texts_below}
use Rattle.compare_text.specs.CompareText.{found_at, gone_at, bay_lines}
use Rattle.compare_text.proofs.text.comparison_text.Goals as goal

pub returns : goal.returns
returns c =
    let o = c.args.old.now in
    let n = c.args.new.now in
    let found = c.args.found.now in
    let bays = c.in_ok-bays.bays in
    let here : List ℕ = texts_below (found_at o n found) (length n.switches) in
    let gone : List ℕ = texts_below (gone_at o c.deref.result.now) (length o.switches) in
    let last : List ℕ = bay_lines o n bays in
    record {
      bays = bays;
      are = c.in_ok-bays.ensures;
      lines =
          c.in_ok-push_bays.ensures.ok
          ∙ (ap (λ (t : List ℕ). t ++ last) (c.in_ok-push_all_gone.ensures.ok
          ∙ ap (λ (t : List ℕ). t ++ gone) (c.in_ok-push_here.ensures.ok
          ∙ ap (λ (t : Named). t.text ++ here) c.new-text.ensures))
          ∙ ap (λ (gs : List Bool). (here ++ texts_below (gone_at o gs) (length o.switches)) ++ last)
          c.deref.ensures.value);
    }
