use Rattle.std.proofs.Common.{◌≡◌, ℕ}
use Rattle.step_graphs.proofs.TouchLemmas.{touched_both}
use Rattle.step_graphs.proofs.spans.touch_link.Goals as goal

pub returns : goal.returns
returns c =
    let x = c.args.link in
    touched_both (λ (n : ℕ). x.first.0 ≡ n) (λ (n : ℕ). x.second.0 ≡ n) c.args.i c.args.spans.now.items
    c.touch.new.spans.items c.touch-2.new.spans.items c.touch.ensures c.touch-2.ensures
