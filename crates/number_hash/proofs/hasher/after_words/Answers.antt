use Rattle.std.proofs.Common.{◌≡◌, ◌∙◌, ◌/◌, ◌<◌, ℕ, suc, length, take, ap, sym, arith}
use Rattle.std.specs.Int.{from_le_bytes, w64}
use Rattle.number_hash.specs.Mixing.{mixed_words, turned}
use Rattle.number_hash.proofs.BytesLemmas.{word_more, no_word}
use Rattle.number_hash.proofs.hasher.after_words.Goals as goal

pub loop-word-preserved : goal.loop-word-preserved
loop-word-preserved c =
    let now = c.loop-word.now in
    let rest = c.loop-word.rest.now in
    let behind = c.in-Some.behind.now in
    let split = c.in-Some.ensures.cases in
    let words : ℕ = length behind / 8 in
    let more : length rest / 8 ≡ suc words = omega (arith, split.2) in
    let word = c.after_word-now.ensures
    ∙ ap (turned now) (c.from_le_bytes.ensures ∙ ap (from_le_bytes w64) split.0) in
    ap (λ n. mixed_words words n behind) word
    ∙ (ap (mixed_words words (turned now (from_le_bytes w64 (take 8 rest)))) split.1
    ∙ (sym (word_more now rest words more) ∙ c.loop-word.invariant))

pub returns : goal.returns
returns c =
    let rest = c.loop-word.rest.now in
    let few : length rest < 8 = c.in_default.ensures.cases in
    c.after_each.ensures ∙ (sym (no_word c.loop-word.now rest (omega (arith, few))) ∙ c.loop-word.invariant)
