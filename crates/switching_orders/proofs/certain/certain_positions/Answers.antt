use Rattle.std.proofs.Common.{◌≡◌, ◌∙◌, sym, ap, refl, ℕ, ◌+◌, ◌<◌, Bool, List, [], ◌∷◌, ◌++◌, length, take, arith}
use Rattle.std.proofs.Common.{Some}
use Rattle.std.specs.Prelude.{slice_get, slice_set, map}
use Rattle.std.proofs.lemmas.List.{length-set}
use Rattle.std.proofs.lemmas.Grind.{take-set_at}
use Rattle.ilk_base.specs.declared.words.Dbpos.{Dbpos}
use Rattle.switching_orders.specs.Certain.{word_at}
use Rattle.switching_orders.proofs.Steps.{take-next}
use Rattle.switching_orders.proofs.UndoLemmas.{map-append_one}
use Rattle.switching_orders.proofs.certain.certain_positions.Goals as goal

next_word : (words : List Dbpos) (v : List Bool) (i : ℕ) (word : Dbpos) (closed : Bool) →
    slice_get words i ≡ Some word → word ≡ word_at closed → i < length v → take i words ≡ map word_at (take i v) →
    take (i + 1) words ≡ map word_at (take (i + 1) (slice_set v i closed))
next_word words v i word closed at says within same =
    take-next words i word at
    ∙ (λ j. same j ++ says j ∷ [])
    ∙ sym (ap (map word_at) (take-set_at v i (i + 1) closed refl within) ∙ map-append_one word_at (take i v) closed)

pub loop-i-preserved : goal.loop-i-preserved
loop-i-preserved c = record {
  count = ap length c.set.ensures ∙ length-set c.loop-i.vector c.loop-i.i c.in-Some.closed ∙ c.loop-i.invariant.count;
  same =
      next_word c.args.readings.now c.loop-i.vector c.loop-i.i c.word.result c.in-Some.closed c.word.ensures
      c.in-Some.ensures.some (omega (arith, c.loop-i.invariant.count, c.switch_count-i-end.ensures.count))
      c.loop-i.invariant.same
      ∙ ap (λ v. map word_at (take (c.loop-i.i + 1) v)) (sym c.set.ensures);
}
