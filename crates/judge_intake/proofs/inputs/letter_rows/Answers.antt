use Rattle.std.proofs.Common.{◌≡◌, ◌+◌, ◌<◌, ℕ, List, [], ◌∷◌, ◌++◌, slice_get, Some, Vec, Global, map, refl, sym, ap}
use Rattle.std.proofs.Common.{◌∙◌, subst, arith}
use Rattle.std.proofs.lemmas.List.{map-append}
use Rattle.std.proofs.lemmas.Option.{slice_get_read}
use Rattle.station_graph.specs.Diagram.{part_count}
use Rattle.contraction.specs.Answers.{Answers}
use Rattle.judge_pool.specs.Lettered.{lettered, letters_in}
use Rattle.judge_intake.specs.Inputs.{AreLetters, AreCopies}
use Rattle.judge_pool.proofs.LayeringLemmas.{grew_same, grew_more, grows}
use Rattle.judge_intake.proofs.InputsLemmas.{letters_none, letters_more}
use Rattle.judge_intake.proofs.inputs.letter_rows.Goals as goal

pub loop-part-init : goal.loop-part-init
loop-part-init c = record {
  grew = grew_same c.args.pool.now c.requires.pool;
  rows =
      subst (λ (rs : List (Vec ℕ Global)). AreLetters (lettered c.args.station.now c.args.parts.now) c.args.pool.now
      (map (λ (v : Vec ℕ Global). v.items) rs) 0) (sym c.new-rows.ensures.items)
      (letters_none (lettered c.args.station.now c.args.parts.now) c.args.pool.now);
}

pub letters-letters-requires : goal.letters-letters-requires
letters-letters-requires c =
    let part_in : c.loop-part.part < part_count c.args.station.now =
    omega (arith, c.loop-part-test.true, c.part_count-part-end.ensures.count) in
    omega (arith, part_in, c.requires.lettered.parts)

pub copies-requires-clause-nodes : goal.copies-requires-clause-nodes
copies-requires-clause-nodes c k x at n =
    let d = c.args.station.now in
    let part = c.loop-part.part in
    let part_in : part < part_count d = omega (arith, c.loop-part-test.true, c.part_count-part-end.ensures.count) in
    let row : List ℕ = c.index-shared-place.result in
    let here : slice_get c.args.shared.now part ≡ Some row =
    ap (slice_get c.args.shared.now) (sym c.from-place.ensures)
    ∙ slice_get_read c.args.shared.now _ c.from-place.result row refl
    (omega (arith, c.from-place.ensures, part_in, c.requires.shared.count)) c.index-shared-place.is in
    let letter = ((c.requires.lettered.each part part_in).letters k x
    (ap (λ xs. slice_get xs k) (sym c.letters-letters.ensures) ∙ at)).kept n in
    let shared = c.requires.shared.each part row here n in
    (λ h. shared.1 (letter.0 h), λ h. letter.1 (shared.0 h))

pub loop-part-preserved : goal.loop-part-preserved
loop-part-preserved c =
    let a = lettered c.args.station.now c.args.parts.now in
    let j = c.loop-part.part in
    let p = c.loop-part.pool in
    let q = c.copies.new.pool in
    let g = c.in_ok-ids.ensures.grew in
    let row : List ℕ = c.in_ok-ids.ids.items in
    let rows : List (List ℕ) = map (λ (v : Vec ℕ Global). v.items) c.loop-part.rows.items in
    let copies : AreCopies q (letters_in a j) row =
    subst (λ (xs : List Answers). AreCopies q xs row) c.letters-letters.ensures c.in_ok-ids.ensures.copies in
    let items : map (λ (v : Vec ℕ Global). v.items) c.push.new.self.items ≡ rows ++ row ∷ [] =
    ap (map (λ (v : Vec ℕ Global). v.items)) c.in_ok-push.ensures.items
    ∙ map-append (λ (v : Vec ℕ Global). v.items) c.loop-part.rows.items _ in
    record {
      grew = grew_more c.args.pool.now p q c.loop-part.invariant.grew g;
      rows =
          subst (λ (rs : List (List ℕ)). AreLetters a q rs (j + 1)) (sym items)
          (letters_more a p q rows j row (grows p q g) c.loop-part.invariant.rows copies);
    }

pub returns-clause-rows : goal.returns-clause-rows
returns-clause-rows c =
    let done : c.loop-part.part ≡ part_count c.args.station.now =
    omega (arith, c.loop-part.auto.part-end, c.loop-part-test.false, c.part_count-part-end.ensures.count) in
    subst (λ n. AreLetters (lettered c.args.station.now c.args.parts.now) c.loop-part.pool
    (map (λ (v : Vec ℕ Global). v.items) c.loop-part.rows.items) n) done c.loop-part.invariant.rows
