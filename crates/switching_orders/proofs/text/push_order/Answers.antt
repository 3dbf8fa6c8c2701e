use Rattle.std.proofs.Common.{◌≡◌, ◌∙◌, ◌++◌, sym, ap, subst, refl, take, ℕ, List, Option, None, false}
use Rattle.switching_orders.specs.declared.ruling.Step.{Step}
use Rattle.switching_orders.specs.Undoing.{undone}
use Rattle.switching_orders.specs.OrderText.{ok_lines, stop_of, TellsEnd}
use Rattle.switching_orders.proofs.RulingLemmas.{all_of}
use Rattle.switching_orders.proofs.TextLemmas.{accepted_text, tells_stop, is_none}
use Rattle.switching_orders.proofs.text.push_order.Goals as goal

pub returns-then-is_some : goal.returns-then-is_some
returns-then-is_some c =
    let d = c.args.station.now in
    let ops = c.args.order.now in
    let ruling = c.in_ok-ruling.ruling in
    record {
      ruling = ruling;
      rules = c.in_ok-ruling.ensures.ruling;
      tells = tells_stop d c.args.start.now ops ruling ruling.stopped c.push_stop.new.text
          (sym c.is_some.ensures ∙ c.if-is_some.true)
          (c.in_ok-push_stop.ensures ∙ ap (λ (t : List ℕ). t ++ stop_of d ops ruling) (c.in_ok-push_passed.ensures
          ∙ ap (λ (t : List ℕ). t ++ ok_lines d (take ruling.passed ops)) c.requires.empty));
    }

pub returns : goal.returns
returns c =
    let d = c.args.station.now in
    let start = c.args.start.now in
    let ops = c.args.order.now in
    let ruling = c.in_ok-ruling.ruling in
    let rules = c.in_ok-ruling.ensures.ruling in
    let none : ruling.stopped ≡ None = is_none ruling.stopped (sym c.is_some.ensures ∙ c.if-is_some.false) in
    let (back, judged, told) = c.in_ok-push_undone.ensures in
    record {
      ruling = ruling;
      rules = rules;
      tells = subst (λ (s : Option Step). TellsEnd d start ops ruling s (record {
        text = c.push_undone.new.text;
        differs = false;
      })) (sym none) (
        refl,
        back,
        judged,
        accepted_text d ops (undone ops) c.len.result back _ _ _ (c.in_ok-push_passed.ensures
            ∙ (λ i. c.requires.empty i ++ ok_lines d (all_of d start ops ruling rules none i)))
            c.in_ok-push_accepted.ensures told c.len.ensures.count refl,
      );
    }
