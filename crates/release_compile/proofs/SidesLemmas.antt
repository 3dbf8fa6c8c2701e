-- What the graphs of both views of a switch tell of the sets.
use Rattle.std.proofs.Common.{◌≡◌, ℕ, ◌<◌, suc, Bool, List, length, arith}
use Rattle.ilk_base.specs.declared.words.Dbpos.{Dbpos}
use Rattle.ilk_base.specs.declared.words.Direction.{Direction}
use Rattle.ilk_base.specs.declared.words.Rule.{Rule}
use Rattle.decision_graphs.specs.Label.{AreAllowed}
use Rattle.decision_graphs.specs.Reaching.{IsSet, set_at}
use Rattle.judge_pool.specs.declared.view.View.TheVariants.{Gap, Load}
use Rattle.release_compile.specs.declared.sides.Sides.{Sides}
use Rattle.judge_pool.specs.Lettered.{Lettered, index_count}
use Rattle.release_compile.specs.Chaining.{IsFound}
use Rattle.judge_pool.specs.Graphs.{other_of}
use Rattle.release_compile.specs.Sides.{AreSides}
use Rattle.release_compile.proofs.WithinLemmas.{length_sets}
use Rattle.release_compile.proofs.HeardLemmas.{two_choices, allowed_index}
use Rattle.release_compile.proofs.DecideLemmas.{found_fits}

module _ (a : Lettered) (m : ℕ) (words : List Dbpos) (sets : List (List Bool)) (s : Sides)
    (h : AreSides a m words sets s) where
  -- one for each other part
  pub sides_count : length sets ≡ s.place.parts
  sides_count =
      let len = length_sets s.gap.outer.now.layers sets h.gap.ready.fits in
      omega (arith, len, h.gap.outer_is.count, h.parts)

  pub sides_index : (j c : ℕ) → IsSet (set_at sets j) c → c < index_count a (other_of 0 s.place.bay.0 j)
  sides_index = allowed_index a s.place.bay.0 s.gap.outer.now sets h.gap.outer_is h.gap.ready.fits

  -- a switch has two positions
  pub gap_small : (i c : ℕ) → IsSet (set_at s.gap.inner_sets (suc i)) c → c < 2
  gap_small =
      two_choices Gap a s.place.bay.0 m s.place.first s.place.others s.gap.outer.now s.gap.inner.now s.gap.inner_sets
      h.gap.inner_is h.gap.ready.inner_fits

  pub load_small : (i c : ℕ) → IsSet (set_at s.load.inner_sets (suc i)) c → c < 2
  load_small =
      two_choices Load a s.place.bay.0 m s.place.first s.place.others s.load.outer.now s.load.inner.now s.load.inner_sets
      h.load.inner_is h.load.ready.inner_fits

  -- what is found in them has a choice for each layer
  pub found_in : (direction : Direction) (rule : Rule) (cs all : List ℕ)
      → IsFound direction s.gap s.load sets rule cs all → AreAllowed sets cs × (length all ≡ suc s.place.others)
  found_in direction rule cs all f =
      found_fits direction s.gap s.load sets s.place.others rule cs all h.gap.ready h.load.ready h.gap.inner_is.count
      h.load.inner_is.count f
