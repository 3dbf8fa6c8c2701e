use Rattle.std.proofs.Common.{◌∙◌, ℕ, map, sym, subst}
use Rattle.std.specs.Prelude.{Contains, ◌↔◌}
use Rattle.contraction.specs.Answers.{Keeps}
use Rattle.contraction.proofs.MergeLemmas.{few_nodes}
use Rattle.contraction.proofs.PlaceLemmas.{has_from_keeps}
use Rattle.judge_pool.specs.Places.{node_listed}
use Rattle.judge_pool.proofs.MappedPools.{at_mapped}
use Rattle.judge_intake.proofs.own.all_places.Goals as goal

pub places_of-requires-clause-few : goal.places_of-requires-clause-few
places_of-requires-clause-few c = few_nodes c.args.list.now c.requires.nodes

pub places_of-requires-clause-has : goal.places_of-requires-clause-has
places_of-requires-clause-has c n kept =
    has_from_keeps c.args.list.now n (subst (λ xs. Keeps xs n) c.numbers-all.ensures kept)

pub returns-clause-keep : goal.returns-clause-keep
returns-clause-keep c =
    let f : ℕ → ℕ = node_listed c.args.list.now in
    record {
      nodes = map f c.in_ok-places.places;
      listed =
          at_mapped (map f) c.keep.new.self.keeps.items c.in_ok-id.id c.in_ok-places.places c.in_ok-id.ensures.kept;
      exact =
          λ n. subst (λ xs. Contains xs n ↔ Contains c.args.list.now n)
          (sym (c.in_ok-places.ensures ∙ c.numbers-all.ensures)) (λ h. h, λ h. h);
    }
