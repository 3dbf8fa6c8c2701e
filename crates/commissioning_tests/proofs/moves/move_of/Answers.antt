use Rattle.std.proofs.Common.{◌≡◌, ℕ, Bool, List, Option, not, slice_get, slice_set, Some, refl, sym, ap, ◌∙◌, subst}
use Rattle.std.specs.Prelude.{◌↔◌, IsTrue}
use Rattle.std.proofs.lemmas.Option.{get_or_from_slice_get}
use Rattle.dependence_search.specs.Turning.{moved}
use Rattle.ilk_base.specs.declared.words.Rule.{Rule}
use Rattle.station_graph.specs.Supply.{Apart}
use Rattle.commissioning_tests.specs.Answering.{AreAnswers, TurnsAt}
use Rattle.commissioning_tests.proofs.MoveLemmas.{turning_turns}
use Rattle.commissioning_tests.proofs.moves.move_of.Goals as goal

-- the vector with the switch in the other position
is_moved : (v w : List Bool) (s : ℕ) (x : Bool) → slice_get v s ≡ Some x → w ≡ slice_set v s (not x) → w ≡ moved s v
is_moved v w s x at is = is ∙ ap (λ y. slice_set v s (not y)) (sym (get_or_from_slice_get v s x _ at))

pub returns-then-not-shows_more : goal.returns-then-not-shows_more
returns-then-not-shows_more c _ k op at t =
    let other = is_moved c.args.vector.now c.in_ok-other.other c.args.switch.0 c.closed.result c.closed.ensures
    c.in_ok-other.ensures in
    let are = subst (λ (w : List Bool). AreAnswers c.args.station.now c.args.operations.now w
    c.in_ok-others.others.items) other c.in_ok-others.ensures in
    c.if-not-shows_more.ensures.shown refl k
    (subst (λ (l : List (Option Rule)). TurnsAt k c.args.answers.now l) (sym c.deref.ensures.value)
    (turning_turns c.args.station.now c.args.operations.now c.args.vector.now c.args.switch.0 k op c.args.answers.now
    c.in_ok-others.others.items c.requires.answers are at t))

pub returns : goal.returns
returns c =
    let found = c.if-not-shows_more.ensures.turns refl in
    let other = is_moved c.args.vector.now c.in_ok-other.other c.args.switch.0 c.closed.result c.closed.ensures
    c.in_ok-other.ensures in (
      refl,
      record {
        within = c.requires.switch;
        answers_are =
            subst (λ (w : List Bool). AreAnswers c.args.station.now c.args.operations.now w
            c.in_ok-others.others.items) other c.in_ok-others.ensures;
        sound =
            subst (λ (w : List Bool). IsTrue c.in_ok-sound.sound ↔ Apart c.args.station.now w) other
            c.in_ok-sound.ensures;
        number = found.0;
        turns =
            subst (λ (l : List (Option Rule)). TurnsAt found.0 c.args.answers.now l) c.deref.ensures.value found.1;
      },
    )
