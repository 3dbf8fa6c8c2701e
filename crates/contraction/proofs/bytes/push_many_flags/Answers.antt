use Rattle.std.proofs.Common.{◌≡◌, ◌<◌, ◌++◌, ◌∷◌, [], ◌+◌, ℕ, Bool, false, List, length, take, get_or, ap, ◌∙◌, sym}
use Rattle.std.proofs.Common.{arith}
use Rattle.std.proofs.lemmas.List.{take_more}
use Rattle.contraction.specs.Rows.{flag, flags}
use Rattle.contraction.proofs.RowLemmas.{flags_push, push_one}
use Rattle.contraction.proofs.bytes.push_many_flags.Goals as goal

pub loop-bit-preserved : goal.loop-bit-preserved
loop-bit-preserved c =
    let row = c.args.row.now in
    let i = c.loop-bit.bit-index in
    let x : Bool = get_or row i false in
    let inside : i < length row = omega arith in
    let more : flags (take (i + 1) row) ≡ flags (take i row) ++ flag x ∷ [] =
    ap flags (take_more row i false inside) ∙ flags_push (take i row) x in
    let byte : c.byte_of.result ≡ flag x = c.byte_of.ensures in
    let pushed : c.push.new.self ≡ c.loop-bit.text ++ c.byte_of.result ∷ [] = c.in_ok-push.ensures.ok in
    pushed ∙ ap (λ (t : List ℕ). t ++ c.byte_of.result ∷ []) c.loop-bit.invariant
    ∙ ap (λ b. (c.args.text.now ++ flags (take i row)) ++ b ∷ []) byte
    ∙ push_one c.args.text.now (flags (take i row)) (flag x) ∙ ap (λ (t : List ℕ). c.args.text.now ++ t) (sym more)
