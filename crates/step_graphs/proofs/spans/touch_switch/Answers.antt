use Rattle.std.proofs.Common.{◌≡◌, ◌⊎◌, ℕ}
use Rattle.station_graph.specs.Sharing.{AtSwitch}
use Rattle.step_graphs.proofs.TouchLemmas.{touched_as, touched_both, at_one_end, at_two_ends}
use Rattle.step_graphs.proofs.spans.touch_switch.Goals as goal

pub returns-in-Some : goal.returns-in-Some
returns-in-Some c =
    let x = c.args.switch in
    let y = c.in-Some.second in
    touched_as (λ (n : ℕ). (x.first.0 ≡ n) ⊎ (y.0 ≡ n)) (AtSwitch x) c.args.i c.args.spans.now.items
    c.touch-in-Some.new.spans.items (at_two_ends x y c.in-Some.is)
    (touched_both (λ (n : ℕ). x.first.0 ≡ n) (λ (n : ℕ). y.0 ≡ n) c.args.i c.args.spans.now.items
    c.touch.new.spans.items c.touch-in-Some.new.spans.items c.touch.ensures c.touch-in-Some.ensures)

pub returns-in-None : goal.returns-in-None
returns-in-None c =
    let x = c.args.switch in
    touched_as (λ (n : ℕ). x.first.0 ≡ n) (AtSwitch x) c.args.i c.args.spans.now.items c.touch.new.spans.items
    (at_one_end x c.in-None.is) c.touch.ensures
