use Rattle.std.proofs.Common.{◌≡◌, true, inl, inr}
use Rattle.release_compile.proofs.SetsLemmas.{allowed_here, allowed_there, allowed_count, allowed_lens}
use Rattle.release_compile.proofs.sets.allow_if.Goals as goal

pub returns-then-not-yes-clause-here : goal.returns-then-not-yes-clause-here
returns-then-not-yes-clause-here c k =
    (λ h. inl h, λ h. elim h [ inl old ↦ old | inr w ↦ absurd (cc (w.0, c.if-not-yes.true)) ])

pub returns-clause-count : goal.returns-clause-count
returns-clause-count c =
    allowed_count c.args.sets.now c.allow.new.self c.args.layer c.args.choice c.allow.ensures.allowed c.requires.layer
    c.requires.choice

pub returns-clause-lens : goal.returns-clause-lens
returns-clause-lens c j =
    allowed_lens c.args.sets.now c.allow.new.self c.args.layer c.args.choice c.allow.ensures.allowed c.requires.layer
    c.requires.choice j

pub returns-clause-sets : goal.returns-clause-sets
returns-clause-sets c ls are = c.allow.ensures.sets ls are

pub returns-clause-here : goal.returns-clause-here
returns-clause-here c k =
    let e : c.args.yes ≡ true = cc (c.if-not-yes.false) in
    let h = allowed_here c.args.sets.now c.allow.new.self c.args.layer c.args.choice c.allow.ensures.allowed
    c.requires.layer c.requires.choice k in (
      λ w. elim (h.0 w) [ inl old ↦ inl old | inr is ↦ inr (e, is) ],
      λ w. elim w [
        | inl old ↦ h.1 (inl old)
        | inr is ↦ h.1 (inr is.1)
      ],
    )

pub returns-clause-others : goal.returns-clause-others
returns-clause-others c j ne =
    allowed_there c.args.sets.now c.allow.new.self c.args.layer c.args.choice c.allow.ensures.allowed c.requires.layer
    c.requires.choice j ne
