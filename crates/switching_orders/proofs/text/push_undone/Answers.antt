use Rattle.std.proofs.Common.{◌≡◌, ◌∙◌, ◌++◌, subst, List}
use Rattle.ilk_base.specs.declared.words.Op.{Op}
use Rattle.switching_orders.specs.OrderRuling.{after_all, IsRuling}
use Rattle.switching_orders.specs.OrderText.{back_line}
use Rattle.switching_orders.proofs.TextLemmas.{on_ok}
use Rattle.switching_orders.proofs.text.push_undone.Goals as goal

pub returns : goal.returns
returns c =
    let d = c.args.station.now in
    let end = after_all c.args.start.now c.args.order.now in
    let ruling = c.in_ok-ruling.ruling in
    let undo = c.in_ok-back.ensures.undone in
    on_ok c.push_back.result (λ told. (
      ruling,
      subst (λ (back : List Op). IsRuling d end back ruling) undo c.in_ok-ruling.ensures,
      told ∙ (λ i. c.args.text.now ++ back_line d (undo i) ruling ruling.stopped),
    )) c.push_back.ensures
