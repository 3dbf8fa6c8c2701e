use Rattle.std.proofs.Common.{◌≡◌, ℕ, length, slice_index, arith, rules, sym, ◌∙◌}
use Rattle.denial_explain.proofs.ClassLemmas.{Picks-push, Picks-pass}
use Rattle.denial_explain.proofs.explaining.same_class.Goals as goal
use Rattle.denial_explain.proofs.explaining.same_class.Goals.{then-eq+in_ok-push, else-eq}

pub loop-i-preserved : goal.loop-i-preserved
loop-i-preserved c =
    let P : ℕ → Type 0 = λ n. slice_index c.args.labels.now n ≡ c.get-class.result.0 in
    elim c.if-eq.branch [
      | then-eq+in_ok-push w ↦
          rw (w.nodes-is, w.in_ok-push.ensures.ok) (Picks-push P c.loop-i.i c.loop-i.nodes c.loop-i.invariant
          (search rules))
      | else-eq w ↦ rw w.nodes-is (Picks-pass P c.loop-i.i c.loop-i.nodes c.loop-i.invariant (search rules))
    ]

pub returns : goal.returns
returns c =
    let h = c.loop-i.invariant in
    let all : c.loop-i.i ≡ length c.args.labels.now = search rules in
    record {
      exact = λ n. (
        λ k. let w = (h.exact n).0 k in (omega (arith, w.0, all), w.1 ∙ c.get-class.ensures),
        λ w. (h.exact n).1 (omega (arith, w.0, all), w.1 ∙ sym c.get-class.ensures),
      );
      rises = h.rises;
    }
