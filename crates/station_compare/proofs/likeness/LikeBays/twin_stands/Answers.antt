use Rattle.std.proofs.Common.{◌≡◌, ◌∙◌, List, ℕ, IsTrue, true, rules, sym, subst, ap}
use Rattle.like_bays.specs.Like.{led_by}
use Rattle.station_compare.proofs.LikeLemmas.{eq_from, twins_to}
use Rattle.station_compare.proofs.likeness.LikeBays.twin_stands.Goals as goal

pub returns-in-Some : goal.returns-in-Some
returns-in-Some c is i same =
    let x = c.args.self.now in
    let k = c.args.id.0 in
    let twin = c.args.twin.0 in
    let there : c.led_to-there.result ≡ led_by x.new.items k =
    c.led_to-there.ensures ∙ ap (λ (xs : List ℕ). led_by xs k) c.deref.ensures.value in
    let wanted : c.led_to-wanted.result ≡ led_by x.old.items twin =
    c.led_to-wanted.ensures ∙ ap (λ (xs : List ℕ). led_by xs twin) c.deref-2.ensures.value in
    twins_to c.args.old.now c.args.new.now i k twin c.led_to-there.result c.in-Some.other.0
    (led_by x.old.items) (led_by x.new.items) c.is_station.ensures c.requires
    c.in-Some.ensures.found there (eq_from c.in-Some.other.0 c.led_to-wanted.result is ∙ wanted) same

pub returns-then-both_stay : goal.returns-then-both_stay
returns-then-both_stay c is i same =
    let x = c.args.self.now in
    let k = c.args.id.0 in
    let twin = c.args.twin.0 in
    let there : c.led_to-there.result ≡ led_by x.new.items k =
    c.led_to-there.ensures ∙ ap (λ (xs : List ℕ). led_by xs k) c.deref.ensures.value in
    let wanted : c.led_to-wanted.result ≡ led_by x.old.items twin =
    c.led_to-wanted.ensures ∙ ap (λ (xs : List ℕ). led_by xs twin) c.deref-2.ensures.value in
    let holds : IsTrue true = search rules in
    let stay = c.both_stay.ensures (subst IsTrue (sym c.if-both_stay.true) holds) in
    twins_to c.args.old.now c.args.new.now i k twin k twin (led_by x.old.items) (led_by x.new.items)
    c.is_station.ensures c.requires c.requires (sym stay.0 ∙ there) (sym stay.1 ∙ wanted) same
