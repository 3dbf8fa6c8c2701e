use Rattle.std.proofs.Common.{◌≡◌, ◌<◌, ◌++◌, ◌∷◌, [], ◌/◌, ◌%◌, ◌+◌, ℕ, List, length, take, slice_index, ap, ◌∙◌, sym}
use Rattle.std.proofs.Common.{arith}
use Rattle.std.proofs.lemmas.List.{take_more}
use Rattle.contraction.specs.Rows.{words}
use Rattle.contraction.proofs.RowLemmas.{words_push, push_two}
use Rattle.contraction.proofs.bytes.push_many_words.Goals as goal

pub loop-number-preserved : goal.loop-number-preserved
loop-number-preserved c =
    let row = c.args.row.now in
    let i = c.loop-number.number-index in
    let x : ℕ = slice_index row i in
    let inside : i < length row = omega arith in
    let more : words (take (i + 1) row) ≡ words (take i row) ++ (x / 256) ∷ (x % 256) ∷ [] =
    ap words (take_more row i 0 inside) ∙ words_push (take i row) x in
    let pushed : c.push.new.self ≡ c.loop-number.text ++ (x / 256) ∷ (x % 256) ∷ [] = c.in_ok-push.ensures.ok in
    pushed ∙ ap (λ (t : List ℕ). t ++ (x / 256) ∷ (x % 256) ∷ []) c.loop-number.invariant
    ∙ push_two c.args.text.now (words (take i row)) (x / 256) (x % 256)
    ∙ ap (λ (t : List ℕ). c.args.text.now ++ t) (sym more)
