-- The values that are reached from the distinct views of some items by those of others are distinct views of both.
use Rattle.std.proofs.Common.{◌≡◌, ℕ, ◌*◌, ◌+◌, ◌/◌, ◌%◌, ◌<◌, List, ◌++◌, Bool, length, get_or, slice_get, Some, sym}
use Rattle.std.proofs.Common.{ap, ◌∙◌, subst, arith}
use Rattle.std.proofs.lemmas.Option.{slice_get-get_or, same_Some}
use Rattle.station_graph.specs.Diagram.{Diagram}
use Rattle.station_graph.specs.Connection.{Item}
use Rattle.station_graph.specs.Alike.{IsVector}
use Rattle.contraction.specs.Answers.{Answers}
use Rattle.contraction.specs.Stands.{Among, MeetsKept}
use Rattle.judge_pool.specs.declared.view.View.{View}
use Rattle.judge_pool.specs.Seen.{SeenFor, ComposesIn}
use Rattle.judge_pool.specs.Folding.{StandsIn, IsStep, AreReached, EachAnswers}
use Rattle.judge_pool.specs.Plans.{CanBoth}
use Rattle.judge_pool.specs.Layering.{no_answers}
use Rattle.judge_pool.proofs.LayeringLemmas.{state_in}
use Rattle.judge_pool.proofs.StepLemmas.{carried_at}
use Rattle.judge_pool.proofs.MappedViews.{carries_of}

-- what a step leads to is reached
pub step_reaches : (view : View) (keep : List ℕ) (states letters next : List Answers) (edges : List ℕ) →
    IsStep view keep states letters next edges → 0 < length letters → AreReached view keep states letters next
step_reaches view keep states letters next edges s some = record {
  kept = s.kept;
  rising = s.rising;
  apart = s.apart;
  carried = λ t r at.
      let h = s.hit t r at in
      let p = h.0 in
      let w = length letters in
      let k_in : p / w < length states = state_in p (length states) w (omega (arith, h.1, s.len)) in
      let c_in : p % w < w = omega (arith, some) in
      let at_x = slice_get-get_or states (p / w) no_answers k_in in
      let at_y = slice_get-get_or letters (p % w) no_answers c_in in
      let c = s.carried p (get_or states (p / w) no_answers) (get_or letters (p % w) no_answers) h.1 at_x at_y in
      let same : c.value ≡ r = same_Some c.value r (sym c.listed ∙ (ap (slice_get next) h.2 ∙ at)) in
      record {
        state = p / w;
        letter = p % w;
        x = get_or states (p / w) no_answers;
        y = get_or letters (p % w) no_answers;
        first = at_x;
        second = at_y;
        composes =
            subst (λ z. ComposesIn view (get_or states (p / w) no_answers) (get_or letters (p % w) no_answers) z)
            same c.composes;
      };
}

module _ (view : View) (d : Diagram) (before new : List Item) (keep : List ℕ) (states letters next : List Answers)
    (meets : (k c : ℕ) (x y : Answers) → slice_get states k ≡ Some x → slice_get letters c ≡ Some y →
    MeetsKept (Among before) (Among new) d x.kept y.kept) where
  -- where a state and a letter can always be had together, what is reached is made by some vector
  pub made_more : AreReached view keep states letters next →
      ((c : ℕ) (x y : Answers) (v : List Bool) → slice_get letters c ≡ Some y → IsVector d v →
      SeenFor view (Among before) d v x → CanBoth view d (Among before) (Among new) x y) →
      EachAnswers view (Among before) d states → EachAnswers view (Among (before ++ new)) d next
  made_more reached give made t r at =
      let c = reached.carried t r at in
      let m = made c.state c.x c.first in
      let g = give c.letter c.x c.y m.0 c.second m.1 m.2 in (
        g.vector,
        g.whole,
        carries_of view c.x c.y r c.composes before new d g.vector (meets c.state c.letter c.x c.y c.first c.second)
            g.first g.second,
      )

  -- each vector has one of them
  pub cover_more : (edges : List ℕ) → IsStep view keep states letters next edges →
      ((v : List Bool) → IsVector d v → (t : ℕ) × StandsIn view (Among before) d v states t) →
      ((v : List Bool) → IsVector d v → (c : ℕ) × StandsIn view (Among new) d v letters c) → (v : List Bool) →
      IsVector d v → (t : ℕ) × StandsIn view (Among (before ++ new)) d v next t
  cover_more edges s old here v whole =
      let (k, a) = old v whole in
      let (c, b) = here v whole in
      let r = carried_at view keep states letters next edges s k c a.value b.value a.listed b.listed in (
        get_or edges (k * length letters + c) 0,
        record {
          value = r.value;
          listed = r.listed;
          stands =
              carries_of view a.value b.value r.value r.composes before new d v
              (meets k c a.value b.value a.listed b.listed) a.stands b.stands;
        },
      )
