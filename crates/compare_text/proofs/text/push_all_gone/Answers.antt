use Rattle.std.proofs.Common.{false, get_or, ap, ◌∙◌}
use Rattle.compare_text.specs.CompareText.{gone_lines, gone_at}
use Rattle.compare_text.proofs.TextLemmas.{more}
use Rattle.compare_text.proofs.text.push_all_gone.Goals as goal

pub loop-i-preserved : goal.loop-i-preserved
loop-i-preserved c =
    let o = c.args.old.now in
    let gone = c.args.gone.now in
    let i = c.loop-i.i in
    record {
      text = more (gone_at o gone) i c.args.text.now.text c.loop-i.text.text c.push_gone.new.text.text _
          c.loop-i.invariant.text c.in_ok-push_gone.ensures.ok
          (ap (λ k. gone_lines o (get_or gone k false) i) c.from.ensures);
      names = c.push_gone.ensures.names ∙ c.loop-i.invariant.names;
      same = c.push_gone.ensures.names ∙ c.loop-i.invariant.same;
    }
