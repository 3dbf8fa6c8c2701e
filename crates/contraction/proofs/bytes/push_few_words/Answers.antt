use Rattle.std.proofs.Common.{◌≡◌, ◌≤◌, ◌<◌, ◌++◌, ◌∷◌, [], ◌/◌, ◌%◌, ◌+◌, ◌*◌, ℕ, List, length, take, slice_index, slice_set}
use Rattle.std.proofs.Common.{ap, ◌∙◌, sym, arith}
use Rattle.std.proofs.lemmas.List.{take_more, length-set}
use Rattle.contraction.specs.Rows.{words}
use Rattle.contraction.proofs.ByteLemmas.{two_more}
use Rattle.contraction.proofs.RowLemmas.{words_push}
use Rattle.contraction.proofs.bytes.push_few_words.Goals as goal

pub loop-i-preserved : goal.loop-i-preserved
loop-i-preserved c =
    let row = c.args.row.now in
    let i : ℕ = c.loop-i.i in
    let x : ℕ = slice_index row i in
    let old : List ℕ = c.loop-i.bytes in
    let inside : i < length row = omega arith in
    let long : length old ≡ 64 = c.loop-i.invariant.0 in
    let few : length row ≤ 32 = c.requires in
    let more : words (take (i + 1) row) ≡ words (take i row) ++ (x / 256) ∷ (x % 256) ∷ [] =
    ap words (take_more row i 0 inside) ∙ words_push (take i row) x in (
      omega (arith, long, length-set old (2 * i) (x / 256), length-set (slice_set old (2 * i) (x / 256)) (2 * i + 1) (x % 256)),
      two_more old (2 * i) (2 * (i + 1)) (x / 256) (x % 256) (omega arith) (omega arith)
          ∙ ap (λ (l : List ℕ). l ++ (x / 256) ∷ (x % 256) ∷ []) c.loop-i.invariant.1 ∙ sym more,
    )
