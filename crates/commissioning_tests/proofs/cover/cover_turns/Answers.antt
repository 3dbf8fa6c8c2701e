use Rattle.std.proofs.Common.{◌≡◌, ◌⊎◌, ◌+◌, ◌<◌, ℕ, subst, sym, inl, inr, arith}
use Rattle.release_dependence.specs.Depends.{DependsOn}
use Rattle.commissioning_tests.specs.Standing.{IsMoved}
use Rattle.commissioning_tests.specs.Covering.{TurnIsShown}
use Rattle.commissioning_tests.proofs.CoverLemmas.{more_then, turn_grows, depends_within}
use Rattle.commissioning_tests.proofs.cover.cover_turns.Goals as goal

cases : (a b : ℕ) → a < b + 1 → (a < b) ⊎ (a ≡ b)
cases a b less = grind arith

pub loop-s-preserved : goal.loop-s-preserved
loop-s-preserved c = (
  more_then c.args.walked.now.station.now c.args.walked.now.operations.now c.args.found.now.positions.items
      c.loop-s.found.positions.items c.cover_turn.new.found.positions.items c.loop-s.invariant.0 c.in_ok-cover_turn.ensures.more,
  λ s op lt at here dep. elim (cases s c.loop-s.s lt) [
    | inl less ↦
        turn_grows c.loop-s.found.positions.items c.cover_turn.new.found.positions.items c.args.walked.now.number s
        c.in_ok-cover_turn.ensures.more.grows (c.loop-s.invariant.1 s op less at here dep)
    | inr equal ↦
        subst (λ (k : ℕ). TurnIsShown c.cover_turn.new.found.positions.items c.args.walked.now.number k) (sym equal)
        (c.in_ok-cover_turn.ensures.shown op at
        (subst (λ (k : ℕ). IsMoved c.args.walked.now.stands.now k) equal here)
        (subst (λ (k : ℕ). DependsOn c.args.walked.now.station.now op k) equal dep))
  ],
)

pub returns-clause-shown : goal.returns-clause-shown
returns-clause-shown c s op at here dep =
    c.loop-s.invariant.1 s op
    (omega (
      arith,
      depends_within c.args.walked.now.station.now op s dep,
      c.loop-s-test.false,
      c.switch_count-s-end.ensures,
    )) at here dep
