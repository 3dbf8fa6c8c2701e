use Rattle.std.proofs.Common.{subst, sym}
use Rattle.contraction.specs.Answers.{Answers}
use Rattle.contraction.specs.Unchanged.{IsAllOf, AddsNone}
use Rattle.contraction.proofs.StayLemmas.{gap_seen, kept_seen}
use Rattle.contraction.proofs.value.Contraction.gap_stays_with.Goals as goal

pub returns-clause-stays : goal.returns-clause-stays
returns-clause-stays c =
    let x = c.self.inside in
    let y = c.other.inside in
    let t = c.selection.inside in
    let s = c.args.selection.now in
    let sx : Answers = c.args.self.now in
    let sy : Answers = c.args.other.now in
    let all : IsAllOf s sx.kept =
    subst (λ l. IsAllOf s l) c.requires.first (c.is_all_of_first.ensures.0 c.if-not-is_all_of_first.false) in
    let both = gap_seen x y t sx sy s c.self.invariant c.other.invariant c.selection.invariant c.self.view_is
    c.other.view_is c.selection.view_is c.requires.first c.requires.second all in
    let told = subst (λ q. AddsNone x.gap y.gap q) c.as_slice.ensures.value in
    let from = subst (λ q. AddsNone x.gap y.gap q) (sym c.as_slice.ensures.value) in
    (λ e. (all, both.0 (told (c.stays_with.ensures.0 e))), λ h. c.stays_with.ensures.1 (from (both.1 h.1)))

pub returns-clause-kept : goal.returns-clause-kept
returns-clause-kept c e =
    let x = c.self.inside in
    let y = c.other.inside in
    let t = c.selection.inside in
    let s = c.args.selection.now in
    let sx : Answers = c.args.self.now in
    let sy : Answers = c.args.other.now in
    let all : IsAllOf s sx.kept =
    subst (λ l. IsAllOf s l) c.requires.first (c.is_all_of_first.ensures.0 c.if-not-is_all_of_first.false) in
    kept_seen x y t sx sy s c.self.invariant c.other.invariant c.selection.invariant c.self.view_is c.other.view_is
    c.selection.view_is c.requires.first c.requires.second all c.requires.nodes
