use Rattle.std.proofs.Common.{ℕ, List, [], false, get_or, ap, ◌∙◌}
use Rattle.compare_text.specs.CompareText.{gone_bay, gone_bay_at}
use Rattle.compare_text.proofs.TextLemmas.{more}
use Rattle.compare_text.proofs.bay_lines.push_gone_bays.Goals as goal

pub loop-q-preserved : goal.loop-q-preserved
loop-q-preserved c =
    let o = c.args.old.now in
    let gone = c.args.gone.now in
    let q = c.loop-q.q in
    let name = c.old_part_name-name.result in
    record {
      text = more (gone_bay_at o gone) q c.args.text.now.text c.loop-q.text.text c.push_gone.new.text.text _
          c.loop-q.invariant.text c.in_ok-push_gone.ensures.ok
          (ap (λ k. gone_bay (get_or gone k false) (get_or c.loop-q.text.names name [])) c.from.ensures
          ∙ (ap (λ (ns : List (List ℕ)). gone_bay (get_or gone q false) (get_or ns name [])) c.loop-q.invariant.names
          ∙ ap (gone_bay (get_or gone q false)) c.old_part_name-name.ensures));
      names = c.push_gone.ensures.names ∙ c.loop-q.invariant.names;
      same = c.push_gone.ensures.names ∙ c.loop-q.invariant.same;
    }
