use Rattle.std.proofs.Common.{◌≡◌, ◌<◌, ◌++◌, ◌∷◌, [], ◌/◌, ◌%◌, ◌+◌, ◌*◌, ℕ, List, length, take, map, slice_index, slice_set}
use Rattle.std.proofs.Common.{ap, ◌∙◌, sym, arith}
use Rattle.std.proofs.lemmas.List.{map_more, length-set, take_all}
use Rattle.contraction.specs.Rows.{words}
use Rattle.contraction.proofs.ByteLemmas.{two_more}
use Rattle.contraction.proofs.RowLemmas.{words_push}
use Rattle.contraction.proofs.labels.spread_words.Goals as goal

pub loop-k-preserved : goal.loop-k-preserved
loop-k-preserved c =
    let f : ℕ → ℕ = λ p. slice_index c.args.firsts.now (slice_index c.args.labels.now p) in
    let places : List ℕ = c.args.places.now in
    let k : ℕ = c.loop-k.k in
    let x : ℕ = f (slice_index places k) in
    let old : List ℕ = c.loop-k.row in
    let inside : k < length places = omega arith in
    let long : length old ≡ 2 * length places = c.loop-k.invariant.0 ∙ c.requires.room in
    let more : words (map f (take (k + 1) places)) ≡ words (map f (take k places)) ++ (x / 256) ∷ (x % 256) ∷ [] =
    ap words (map_more f places k 0 inside) ∙ words_push (map f (take k places)) x in (
      length-set (slice_set old (2 * k) (x / 256)) (2 * k + 1) (x % 256) ∙ length-set old (2 * k) (x / 256)
          ∙ c.loop-k.invariant.0,
      two_more old (2 * k) (2 * (k + 1)) (x / 256) (x % 256) (omega arith) (omega arith)
          ∙ ap (λ (l : List ℕ). l ++ (x / 256) ∷ (x % 256) ∷ []) c.loop-k.invariant.1 ∙ sym more,
    )

pub returns : goal.returns
returns c =
    let f : ℕ → ℕ = λ p. slice_index c.args.firsts.now (slice_index c.args.labels.now p) in
    let places : List ℕ = c.args.places.now in
    let row : List ℕ = c.loop-k.row in
    let at_end : c.loop-k.k ≡ length places = omega arith in
    let long : length row ≡ 2 * length places = c.loop-k.invariant.0 ∙ c.requires.room in
    sym (take_all (2 * c.loop-k.k) row (omega arith)) ∙ c.loop-k.invariant.1
    ∙ ap (λ (l : List ℕ). words (map f l)) (take_all c.loop-k.k places (omega arith))
