use Rattle.std.proofs.Common.{Bool, List, subst, sym}
use Rattle.dependence_search.specs.Turning.{IsTurning}
use Rattle.commissioning_tests.proofs.moves.add_position.Goals as goal

pub returns : goal.returns
returns c = record {
  position = c.in_ok-position.position;
  added = c.in_ok-push.ensures.items;
  is = c.in_ok-position.ensures.position;
  closed = c.in_ok-position.ensures.closed;
  shows = λ k s op at lt asked t.
      c.in_ok-position.ensures.moves.shows k s op at lt asked
      (subst (λ (v : List Bool). IsTurning c.args.station.now op s v) (sym c.in_ok-position.ensures.closed) t);
}
