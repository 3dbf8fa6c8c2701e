use Rattle.std.proofs.Common.{◌≡◌, ℕ, List, slice_get, Some, sym, ap, ◌∙◌, subst, inl, inr, refl, arith, true}
use Rattle.std.specs.Prelude.{Contains}
use Rattle.std.proofs.lemmas.Bool.{false≢true}
use Rattle.std.proofs.lemmas.Option.{slice_get_read}
use Rattle.station_graph.specs.Sharing.{IsShared}
use Rattle.contraction.proofs.PlaceLemmas.{has_answer}
use Rattle.judge_intake.proofs.NodesLemmas.{needed_by_shares, first_shares, rest_shares}
use Rattle.judge_intake.proofs.needed.is_needed_between.Goals as goal

pub returns-then-not-other_shares : goal.returns-then-not-other_shares
returns-then-not-other_shares c = (
  λ h. absurd (false≢true h),
  λ need.
      let first = first_shares c.args.station.now c.args.shared.now c.args.bay.0 c.args.others c.args.place c.args.node
      c.part_count-count.ensures.station c.requires.shared c.requires.count c.requires.bay need in
      let is = c.other_shares.ensures.1 first in
      absurd (cc (is, c.if-not-other_shares.true)),
)

pub returns-then-contains : goal.returns-then-contains
returns-then-contains c =
    let d = c.args.station.now in
    let shared = c.args.shared.now in
    let b = c.args.bay.0 in
    let row : List ℕ = c.index-shared-from.result in
    let first_true : c.other_shares.result ≡ true = cc (c.if-not-other_shares.false) in
    let first = c.other_shares.ensures.0 first_true in
    let here : slice_get shared b ≡ Some row =
    ap (slice_get shared) (sym c.from.ensures)
    ∙ slice_get_read shared _ c.from.result row refl
    (omega (arith, c.from.ensures, c.requires.bay, c.requires.shared.count)) c.index-shared-from.is in
    let has = (has_answer c.numbers.result.now c.args.node c.contains.result c.contains.ensures.cases).0
    c.if-contains.true in
    let own : IsShared d b c.args.node =
    (c.requires.shared.each b row here c.args.node).0 (subst (λ l. Contains l c.args.node) c.numbers.ensures has) in (
      λ h. needed_by_shares d shared b c.args.place c.args.node c.requires.shared first (inl own),
      λ need. c.if-contains.true,
    )

pub returns-else-contains : goal.returns-else-contains
returns-else-contains c =
    let d = c.args.station.now in
    let shared = c.args.shared.now in
    let b = c.args.bay.0 in
    let row : List ℕ = c.index-shared-from.result in
    let first_true : c.other_shares.result ≡ true = cc (c.if-not-other_shares.false) in
    let first = c.other_shares.ensures.0 first_true in
    let here : slice_get shared b ≡ Some row =
    ap (slice_get shared) (sym c.from.ensures)
    ∙ slice_get_read shared _ c.from.result row refl
    (omega (arith, c.from.ensures, c.requires.bay, c.requires.shared.count)) c.index-shared-from.is in
    let none = (has_answer c.numbers.result.now c.args.node c.contains.result c.contains.ensures.cases).1
    c.if-contains.false in (
      λ h. needed_by_shares d shared b c.args.place c.args.node c.requires.shared first
          (inr (c.args.others, c.other_shares-else-contains.ensures.0 h)),
      λ need.
          elim (rest_shares d shared b c.args.others c.args.place c.args.node c.part_count-count.ensures.station
          c.requires.shared c.requires.count c.requires.bay need) [
            | inl own ↦
                absurd
                (none (subst (λ l. Contains l c.args.node) (sym c.numbers.ensures)
                ((c.requires.shared.each b row here c.args.node).1 own)))
            | inr later ↦ c.other_shares-else-contains.ensures.1 later
          ],
    )
