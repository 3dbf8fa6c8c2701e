use Rattle.std.proofs.Common.{subst, sym, ◌∙◌}
use Rattle.std.proofs.lemmas.Bool.{false≢true}
use Rattle.contraction.specs.Answers.{Answers}
use Rattle.contraction.specs.Unchanged.{IsAllOf, JoinsNone, AddsNone}
use Rattle.contraction.proofs.StayLemmas.{load_seen, kept_seen}
use Rattle.contraction.proofs.value.Contraction.load_stays_with.Goals as goal

pub returns-then-bonds-clause-stays : goal.returns-then-bonds-clause-stays
returns-then-bonds-clause-stays c =
    let x = c.self.inside in
    let y = c.other.inside in
    let t = c.selection.inside in
    let s = c.args.selection.now in
    let sx : Answers = c.args.self.now in
    let sy : Answers = c.args.other.now in
    let all : IsAllOf s sx.kept =
    subst (λ l. IsAllOf s l) c.requires.first (c.is_all_of_first.ensures.0 c.if-not-is_all_of_first.false) in
    let both = load_seen x y t sx sy s c.self.invariant c.other.invariant c.selection.invariant c.self.view_is
    c.other.view_is c.selection.view_is c.requires.first c.requires.second all in
    let bonds : JoinsNone x.bonded y.bonded t.layout.union.second.items =
    subst (λ q. JoinsNone x.bonded y.bonded q) c.as_slice-places.ensures.value
    (subst (λ l. JoinsNone x.bonded l c.as_slice-places.result.now) c.numbers-2.ensures
    (subst (λ l. JoinsNone l c.numbers-2.result.now c.as_slice-places.result.now) c.numbers.ensures
    (c.joins_none-bonds.ensures.0 c.if-bonds.true))) in
    let told = subst (λ q. AddsNone x.load y.load q) c.as_slice-places.ensures.value in
    let from = subst (λ q. AddsNone x.load y.load q) (sym c.as_slice-places.ensures.value) in (
      λ e. (all, both.0 (bonds, told (c.stays_with.ensures.0 e))),
      λ h. c.stays_with.ensures.1 (from (both.1 h.1).1),
    )

pub returns-then-bonds-clause-kept : goal.returns-then-bonds-clause-kept
returns-then-bonds-clause-kept c e =
    let x = c.self.inside in
    let y = c.other.inside in
    let t = c.selection.inside in
    let s = c.args.selection.now in
    let sx : Answers = c.args.self.now in
    let sy : Answers = c.args.other.now in
    let all : IsAllOf s sx.kept =
    subst (λ l. IsAllOf s l) c.requires.first (c.is_all_of_first.ensures.0 c.if-not-is_all_of_first.false) in
    kept_seen x y t sx sy s c.self.invariant c.other.invariant c.selection.invariant c.self.view_is c.other.view_is
    c.selection.view_is c.requires.first c.requires.second all c.requires.nodes

pub returns-else-bonds-clause-stays : goal.returns-else-bonds-clause-stays
returns-else-bonds-clause-stays c =
    let x = c.self.inside in
    let y = c.other.inside in
    let t = c.selection.inside in
    let s = c.args.selection.now in
    let sx : Answers = c.args.self.now in
    let sy : Answers = c.args.other.now in
    let from : JoinsNone x.bonded y.bonded t.layout.union.second.items →
    JoinsNone c.numbers.result.now c.numbers-2.result.now c.as_slice-places.result.now =
    λ h. subst (λ q. JoinsNone c.numbers.result.now c.numbers-2.result.now q) (sym c.as_slice-places.ensures.value)
    (subst (λ l. JoinsNone c.numbers.result.now l t.layout.union.second.items) (sym c.numbers-2.ensures)
    (subst (λ l. JoinsNone l y.bonded t.layout.union.second.items) (sym c.numbers.ensures) h)) in (
      λ e. absurd (false≢true (sym c.if-bonds.false ∙ e)),
      λ h.
          let both = load_seen x y t sx sy s c.self.invariant c.other.invariant c.selection.invariant c.self.view_is
          c.other.view_is c.selection.view_is c.requires.first c.requires.second h.0 in
          c.joins_none-bonds.ensures.1 (from (both.1 h.1).0),
    )
