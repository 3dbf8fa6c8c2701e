use Rattle.std.proofs.Common.{◌≡◌, ℕ, true, false, length, ◌∙◌, sym, arith}
use Rattle.std.proofs.Math.ListN.{replicate}
use Rattle.std.proofs.lemmas.List.{ext_get_or, length-replicate, get_or-replicate}
use Rattle.drawing_remarks.proofs.facts.all_closed.Goals as goal

pub returns : goal.returns
returns c =
    let l = c.loop-i in
    let n : ℕ = length c.args.station.now.switches in
    let count : length l.vector ≡ n = l.invariant.len in
    let end = c.switch_count-i-end.ensures.count in
    ext_get_or false l.vector (replicate n true) (count ∙ sym (length-replicate n true))
    (λ k less. l.invariant.closed k (omega (arith, less, count, end))
    ∙ sym (get_or-replicate n k true false (omega (arith, less, count))))
