use Rattle.std.proofs.Common.{◌≡◌, ◌++◌, ◌∷◌, [], ◌∙◌, ℕ, Bool, false, List, length, get_or, ap, sym, subst, arith}
use Rattle.release_dependence.specs.Exchange.{IsExchanged}
use Rattle.like_bays.specs.Like.{led_by}
use Rattle.like_bays.proofs.VectorLemmas.{exchanged_first, exchanged, exchanged_more, exchanged_len, is_exchanged}
use Rattle.like_bays.proofs.vector.exchanged_vector.Goals as goal

pub loop-i-preserved : goal.loop-i-preserved
loop-i-preserved c =
    let table = c.args.table.now in
    let closed = c.args.closed.now in
    c.in_ok-push.ensures.items
    ∙ (ap (λ (l : List Bool). l ++ c.position.result ∷ []) c.loop-i.invariant
    ∙ (ap (λ (b : Bool). exchanged_first table closed c.loop-i.i ++ b ∷ [])
    (c.position.ensures ∙ ap (λ (k : ℕ). get_or closed k false) c.led_to.ensures)
    ∙ sym (exchanged_more table closed c.loop-i.i)))

pub returns-clause-vector : goal.returns-clause-vector
returns-clause-vector c =
    let d = c.args.station.now in
    let table = c.args.table.now in
    let closed = c.args.closed.now in
    let end : c.loop-i.i ≡ length d.switches =
    omega (arith, c.loop-i-test.false, c.loop-i.auto.i-end, c.switch_count-i-end.ensures.count) in
    ap length (c.loop-i.invariant ∙ ap (λ (n : ℕ). exchanged_first table closed n) end)
    ∙ exchanged_len d table closed

pub returns-clause-exchanged : goal.returns-clause-exchanged
returns-clause-exchanged c vector =
    let d = c.args.station.now in
    let table = c.args.table.now in
    let closed = c.args.closed.now in
    let end : c.loop-i.i ≡ length d.switches =
    omega (arith, c.loop-i-test.false, c.loop-i.auto.i-end, c.switch_count-i-end.ensures.count) in
    let whole : c.loop-i.list.items ≡ exchanged d table closed =
    c.loop-i.invariant ∙ ap (λ (n : ℕ). exchanged_first table closed n) end in
    subst (λ (w : List Bool). IsExchanged (led_by table) closed w) (sym whole)
    (is_exchanged d table c.requires.table closed vector)
