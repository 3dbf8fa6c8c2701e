use Rattle.std.proofs.Common.{◌≡◌, ◌≤◌, ◌<◌, ◌++◌, ◌∷◌, [], ◌+◌, ℕ, Bool, false, List, length, take, get_or, refl}
use Rattle.std.proofs.Common.{ap, ◌∙◌, sym, arith}
use Rattle.std.proofs.lemmas.List.{take_more, length-set}
use Rattle.std.proofs.lemmas.Grind.{take-set_at}
use Rattle.contraction.specs.Rows.{flag, flags}
use Rattle.contraction.proofs.RowLemmas.{flags_push}
use Rattle.contraction.proofs.bytes.push_few_flags.Goals as goal

pub loop-i-preserved : goal.loop-i-preserved
loop-i-preserved c =
    let row = c.args.row.now in
    let i : ℕ = c.loop-i.i in
    let x : Bool = get_or row i false in
    let old : List ℕ = c.loop-i.bytes in
    let inside : i < length row = omega arith in
    let long : length old ≡ 32 = c.loop-i.invariant.0 in
    let few : length row ≤ 32 = c.requires in
    let more : flags (take (i + 1) row) ≡ flags (take i row) ++ flag x ∷ [] =
    ap flags (take_more row i false inside) ∙ flags_push (take i row) x in
    let byte : c.byte_of.result ≡ flag x = c.byte_of.ensures in (
      omega (arith, long, length-set old i c.byte_of.result),
      take-set_at old i (i + 1) c.byte_of.result refl (omega arith)
          ∙ ap (λ (l : List ℕ). l ++ c.byte_of.result ∷ []) c.loop-i.invariant.1
          ∙ ap (λ b. flags (take i row) ++ b ∷ []) byte ∙ sym more,
    )
