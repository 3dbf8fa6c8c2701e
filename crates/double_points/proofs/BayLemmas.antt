-- The row of one bay's words.
use Rattle.std.proofs.Common.{◌≡◌, ◌≤◌, ◌<◌, ◌+◌, ◌-◌, ◌++◌, ◌∙◌, ℕ, List, length, take, drop, slice_get, Some}
use Rattle.std.proofs.Common.{ap, sym, arith, length-append}
use Rattle.std.proofs.Math.ListN.{replicate}
use Rattle.std.proofs.Math.Seq.{drop-append_seam}
use Rattle.std.proofs.lemmas.List.{drop-replicate, length-replicate, length-drop, length-take-le, get_or-take}
use Rattle.std.proofs.lemmas.List.{get_or-drop}
use Rattle.std.proofs.lemmas.Option.{slice_get-get_or}
use Rattle.ilk_base.specs.declared.words.Dbpos.{Dbpos}
use Rattle.ilk_base.specs.declared.words.Dbpos.TheVariants.{Lost}
use Rattle.station_graph.specs.Diagram.{Diagram, AreSwitchesOf}
use Rattle.station_graph.proofs.PlaceLemmas.{placed}
use Rattle.double_points.specs.Filled.{IsFilled}
use Rattle.double_points.specs.Words.{AreWordsOf}

-- a row of the filler whose front is overwritten is filled
pub overwritten : {X : Type 0} (filler : X) (size : ℕ) (xs ys : List X) → length xs ≤ size → ys ≡ xs →
    IsFilled filler size (ys ++ drop (length xs) (replicate size filler)) (length xs)
overwritten filler size xs ys within same = rw (same, drop-replicate) (record {
  size_is = simp (length-append, length-replicate) (omega arith);
  within = within;
  filled = drop-append_seam xs _;
})

-- what was cut out of a list
cut_at : (words : List Dbpos) (first count k : ℕ) → first + count ≤ length words → k < count →
    slice_get (take count (drop first words)) k ≡ slice_get words (first + k)
cut_at words first count k within lt =
    let long : length (take count (drop first words)) ≡ count = length-take-le count (drop first words)
    (omega (arith, length-drop first words, within)) in
    slice_get-get_or (take count (drop first words)) k Lost (omega (arith, long, lt))
    ∙ ap Some (get_or-take count (drop first words) k Lost lt ∙ get_or-drop first words k Lost)
    ∙ sym (slice_get-get_or words (first + k) Lost (omega (arith, within, lt)))

-- the words from the bay's first switch on, as many as it has switches, are the row of its words
pub cut_out : (d : Diagram) (bay first count n : ℕ) (words row : List Dbpos) → AreSwitchesOf d bay first count →
    length words ≡ length d.switches → n ≡ count → row ≡ take n (drop first words) → AreWordsOf d bay words row
cut_out d bay first count n words row those all same is =
    let within : first + count ≤ length words = omega (arith, those.within, all) in
    let cut : row ≡ take count (drop first words) = is ∙ ap (λ j. take j (drop first words)) same in
    record {
      count = ap length cut ∙ length-take-le count (drop first words) (omega (arith, length-drop first words, within))
          ∙ those.counted;
      each = λ i word of_bay at.
          let p = placed d bay first count i those of_bay in
          let lt : i - first < count = omega (arith, p.from, p.below) in
          let back : first + (i - first) ≡ i = omega (arith, p.from) in
          rw p.place (ap (λ xs. slice_get xs (i - first)) cut ∙ cut_at words first count (i - first) within lt
          ∙ ap (λ k. slice_get words k) back ∙ at);
    }
