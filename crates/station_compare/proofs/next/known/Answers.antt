use Rattle.std.proofs.Common.{◌≡◌, ◌<◌, ◌∙◌, List, ℕ, Option, MatchOption, ap, sym, subst, arith}
use Rattle.std.specs.Prelude.{⊤}
use Rattle.like_bays.specs.Like.{led_by}
use Rattle.like_bays.proofs.VectorLemmas.{led_back}
use Rattle.station_compare.specs.declared.likeness.LikeBays.{LikeBays}
use Rattle.station_compare.specs.Comparing.{IsFound}
use Rattle.station_compare.specs.Orders.{IsCarried}
use Rattle.station_compare.specs.Sharing.{like_in}
use Rattle.station_compare.specs.Likeness.{AreExchanged}
use Rattle.station_compare.proofs.ListLemmas.{at_index}
use Rattle.station_compare.proofs.next.known.Goals as goal

pub returns-clause-found : goal.returns-clause-found
returns-clause-found c =
    let o = c.args.old.now in
    let n = c.args.new.now in
    let x = c.in-Some.like.now in
    let id = c.args.id.0 in
    let there = c.led_to.result in
    let f = c.index-list-there.result in
    let h : AreExchanged o n x =
    subst (λ (p : Option LikeBays). MatchOption p ⊤ (AreExchanged o n))
    (ap (λ (ls : List (Option LikeBays)). like_in ls c.args.walks.now.bay.0) (sym c.deref.ensures.value)
    ∙ c.in-Some.ensures) (c.requires.walks.sharing.likes c.args.walks.now.bay.0) in
    let at =
    at_index c.args.list.now c.from-there.result there f c.index-list-there.is c.from-there.ensures
    (omega (arith, c.if-there-list.false, c.from-there.ensures)) in
    let stands : there ≡ led_by x.new.items id =
    c.led_to.ensures ∙ ap (λ (xs : List ℕ). led_by xs id) c.deref-2.ensures.value in
    let turned : led_by x.new.items there ≡ id =
    ap (led_by x.new.items) stands ∙ led_back n x.new.items h.new id in
    subst (λ k. IsFound o n k c.in_ok-found.found) turned
    (c.in_ok-found.ensures there (c.requires.list.each there f at))

pub returns-clause-carried : goal.returns-clause-carried
returns-clause-carried c =
    let x = c.in-Some.like.now in
    let id = c.args.id.0 in
    let there = c.led_to.result in
    let stands : there ≡ led_by x.new.items id =
    c.led_to.ensures ∙ ap (λ (xs : List ℕ). led_by xs id) c.deref-2.ensures.value in
    subst (λ (p : Option LikeBays). IsCarried p id)
    (sym (ap (λ (ls : List (Option LikeBays)). like_in ls c.args.walks.now.bay.0) (sym c.deref.ensures.value)
    ∙ c.in-Some.ensures))
    (subst (λ j. j < id) stands
    (omega (arith, c.if-there-list.false, c.from-there.ensures, c.requires.list.count)))

pub returns-then-there-list-clause-carried : goal.returns-then-there-list-clause-carried
returns-then-there-list-clause-carried c carried =
    let x = c.in-Some.like.now in
    let id = c.args.id.0 in
    let there = c.led_to.result in
    let stands : there ≡ led_by x.new.items id =
    c.led_to.ensures ∙ ap (λ (xs : List ℕ). led_by xs id) c.deref-2.ensures.value in
    let lt : led_by x.new.items id < id = subst (λ (p : Option LikeBays). IsCarried p id)
    (ap (λ (ls : List (Option LikeBays)). like_in ls c.args.walks.now.bay.0) (sym c.deref.ensures.value)
    ∙ c.in-Some.ensures) carried in
    absurd (omega (arith, c.if-there-list.true, c.from-there.ensures, c.requires.list.count, stands, lt))
