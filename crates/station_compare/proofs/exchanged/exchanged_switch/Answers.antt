use Rattle.std.proofs.Common.{◌≡◌, ◌∙◌, List, ℕ, sym, ap, subst}
use Rattle.like_bays.specs.Like.{led_by}
use Rattle.station_changes.specs.Compare.{SameSwitch}
use Rattle.release_dependence.specs.Operations.{opening, closing}
use Rattle.station_compare.proofs.LikeLemmas.{opened_to, closed_to}
use Rattle.station_compare.proofs.exchanged.exchanged_switch.Goals as goal

pub returns : goal.returns
returns c k s =
    let o = c.args.old.now in
    let n = c.args.new.now in
    let x = c.args.like.now in
    let i = c.args.changes.now.old.0 in
    let m = led_by x.new.items k in
    let e : c.led_to.result ≡ led_by x.old.items i =
    c.led_to.ensures ∙ ap (λ (xs : List ℕ). led_by xs i) c.deref.ensures.value in
    record {
      same = subst (λ j. SameSwitch o n j m) (sym e) (c.requires.agree i k s.same);
      opened =
          c.in_ok-opening.ensures (opening i) (opening k) (opening c.led_to.result) (opening m)
          (opened_to o n x c.requires i k c.led_to.result e) s.opened;
      closed =
          c.in_ok-closing.ensures (closing i) (closing k) (closing c.led_to.result) (closing m)
          (closed_to o n x c.requires i k c.led_to.result e) s.closed;
    }
