use Rattle.std.proofs.Common.{ℕ, List, map, slice_index, sym, subst}
use Rattle.std.proofs.lemmas.List.{length-map, get_or-map}
use Rattle.contraction.specs.Restricting.{FirstAt}
use Rattle.contraction.proofs.FirstLemmas.{restricts_by_firsts}
use Rattle.contraction.proofs.labels.label_words.Goals as goal

pub returns : goal.returns
returns c =
    let labels : List ℕ = c.args.labels.now in
    let places : List ℕ = c.args.places.now in
    let f : ℕ → ℕ = λ p. slice_index c.note_firsts.new.firsts (slice_index labels p) in
    record {
      few = map f places;
      are = restricts_by_firsts labels places (map f places) (length-map places f) (λ k k_in.
          subst (λ n. FirstAt labels places k n) (sym (get_or-map f places k 0 0 k_in)) (c.note_firsts.ensures k k_in));
      bytes = c.spread_words.ensures;
    }
