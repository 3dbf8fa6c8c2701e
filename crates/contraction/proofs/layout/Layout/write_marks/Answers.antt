use Rattle.std.proofs.Common.{List, ℕ, false, length, subst, arith}
use Rattle.std.proofs.lemmas.List.{take-replicate}
use Rattle.contraction.specs.Restricting.{FlagsAt}
use Rattle.contraction.proofs.FlagLemmas.{none_flagged}
use Rattle.contraction.proofs.layout.Layout.write_marks.Goals as goal

pub flag_at-requires-clause-none : goal.flag_at-requires-clause-none
flag_at-requires-clause-none c =
    take-replicate (length c.args.wide.now) 32 false (omega (arith, c.requires.len, c.requires.small.all))

pub returns-then-none_marked-2 : goal.returns-then-none_marked-2
returns-then-none_marked-2 c =
    let s = c.args.self.now in
    none_flagged c.args.wide.now s.places.items s.union.first.items c.args.x.now s.union.second.items c.args.y.now
    (λ k k_in. omega (arith, c.requires.len, c.requires.fits.inside k k_in)) c.args.row.now
    (c.none_marked.ensures c.if-none_marked.true)
    (c.none_marked-then-none_marked.ensures c.if-none_marked-2.true) c.requires.room

pub returns : goal.returns
returns c =
    let s = c.args.self.now in
    let wide = c.args.wide.now in
    let x = c.args.x.now in
    let y = c.args.y.now in
    let row : List ℕ = c.flag_at.new.row in
    subst (λ p. FlagsAt wide p s.union.first.items x s.union.second.items y row) c.as_slice-places.ensures.value
    (subst (λ p. FlagsAt wide c.as_slice-places.result.now p x s.union.second.items y row)
    c.as_slice-first.ensures.value
    (subst (λ p. FlagsAt wide c.as_slice-places.result.now c.as_slice-first.result.now x p y row)
    c.as_slice-second.ensures.value c.flag_at.ensures))
