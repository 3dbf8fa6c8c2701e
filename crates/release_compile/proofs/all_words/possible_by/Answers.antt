use Rattle.std.proofs.Common.{◌+◌, ℕ, List, Option, sym, subst}
use Rattle.judge_pool.specs.Lettered.{lettered}
use Rattle.release_compile.specs.Possible.{ArePossible}
use Rattle.release_compile.proofs.PossibleLemmas.{possible_none, possible_more}
use Rattle.release_compile.proofs.all_words.possible_by.Goals as goal

pub loop-part-init : goal.loop-part-init
loop-part-init c = record {
  all =
      subst (λ (xs : List (List (Option ℕ))). ArePossible (lettered c.args.station.now c.args.parts.now)
      c.args.words.now xs 0) (sym c.new-possible.ensures.items)
      (possible_none (lettered c.args.station.now c.args.parts.now) c.args.words.now);
}

pub loop-part-preserved : goal.loop-part-preserved
loop-part-preserved c = record {
  all =
      subst (λ (xs : List (List (Option ℕ))). ArePossible (lettered c.args.station.now c.args.parts.now)
      c.args.words.now xs (c.loop-part.part + 1)) (sym c.in_ok-push.ensures.items)
      (possible_more (lettered c.args.station.now c.args.parts.now) c.args.words.now c.loop-part.possible.items
      c.loop-part.part c.in_ok-set.set c.loop-part.invariant.all
      (c.in_ok-set.ensures.possible c.args.station.now c.requires.lettered));
}
