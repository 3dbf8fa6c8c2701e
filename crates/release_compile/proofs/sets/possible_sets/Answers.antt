use Rattle.std.proofs.Common.{◌≡◌, ◌<◌, ℕ, List, Bool, Option, Some, slice_get, length, sym, ap, ◌∙◌, arith}
use Rattle.std.proofs.lemmas.Option.{slice_get-get_or}
use Rattle.part_alphabets.specs.PartAlphabets.{size_of}
use Rattle.part_alphabets.specs.Alphabets.{CanHave}
use Rattle.judge_pool.specs.Graphs.{other_of}
use Rattle.judge_intake.proofs.OtherLemmas.{other_in}
use Rattle.release_compile.proofs.VerdictLemmas.{sets_at}
use Rattle.release_compile.proofs.SetsLemmas.{filled_none, filled_more}
use Rattle.release_compile.proofs.sets.possible_sets.Goals as goal

pub loop-j-init : goal.loop-j-init
loop-j-init c = record {
  sets = c.in_ok-sets.ensures.sets;
  filled =
      filled_none (λ j k. CanHave c.args.station.now c.args.parts.now (other_of 0 c.args.bay.0 j)
      c.args.all.now.words.now k) c.in_ok-sets.sets c.args.outer.now.layers c.in_ok-sets.ensures.empty;
}

pub allow_marked-requires-clause-marks : goal.allow_marked-requires-clause-marks
allow_marked-requires-clause-marks c =
    let j = c.loop-j.j in
    let e : c.other_number.result ≡ other_of 0 c.args.bay.0 j =
    c.other_number.ensures ∙ ap (λ b. other_of 0 b j) c.from.ensures in
    let here = sets_at c.args.outer.now.layers c.loop-j.sets j c.loop-j.invariant.sets
    ∙ c.requires.choices j c.loop-j-test.true in
    ap length c.deref.ensures.value
    ∙ (c.in_ok-marks.ensures.len ∙ (c.size.ensures.size ∙ (ap (size_of c.args.parts.now) e ∙ sym here)))

pub loop-j-preserved : goal.loop-j-preserved
loop-j-preserved c =
    let d = c.args.station.now in
    let a = c.args.parts.now in
    let b = c.args.bay.0 in
    let j = c.loop-j.j in
    let words = c.args.all.now.words.now in
    let possible : List (List (Option ℕ)) = c.args.all.now.possible.items in
    let set : List (Option ℕ) = c.index-set.result.now in
    let marks : List Bool = c.in_ok-marks.marks.items in
    let e : c.other_number.result ≡ other_of 0 b j = c.other_number.ensures ∙ ap (λ k. other_of 0 k j) c.from.ensures in
    let place : c.from-in-loop-j.result ≡ other_of 0 b j = c.from-in-loop-j.ensures ∙ e in
    let lt : c.from-in-loop-j.result < length possible = omega (
      arith,
      place,
      (other_in 0 b c.args.others j c.loop-j-test.true).1,
      c.requires.count,
      c.requires.all.possible.len,
    ) in
    let at : slice_get possible (other_of 0 b j) ≡ Some set =
    ap (slice_get possible) (sym place)
    ∙ (slice_get-get_or possible c.from-in-loop-j.result set lt ∙ ap Some (sym c.index-set.ensures)) in
    let here = rw c.deref.ensures.value at c.allow_marked.ensures.here in
    record {
      sets = c.allow_marked.ensures.sets c.args.outer.now.layers c.loop-j.invariant.sets;
      filled =
          filled_more (λ i k. CanHave d a (other_of 0 b i) words k) c.loop-j.sets c.allow_marked.new.sets marks j
          c.loop-j.invariant.filled here c.allow_marked.ensures.others
          (λ k. (let m = c.in_ok-marks.ensures.each k in
          let exact = (c.requires.all.possible.each (other_of 0 b j) set at).exact k in
          (λ h. exact.0 (m.0 h), λ can. m.1 (exact.1 can))));
    }

pub returns-clause-possible : goal.returns-clause-possible
returns-clause-possible c j k lt =
    c.loop-j.invariant.filled.done j k (omega (arith, lt, c.requires.count, c.loop-j.auto.j-end, c.loop-j-test.false))
