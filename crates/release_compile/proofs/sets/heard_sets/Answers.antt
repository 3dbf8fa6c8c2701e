use Rattle.std.proofs.Common.{◌≡◌, ◌<◌, inl, inr, List, Bool, slice_get, length, sym, ap, ◌∙◌, subst, arith}
use Rattle.part_alphabets.specs.PartAlphabets.{size_of}
use Rattle.judge_pool.specs.Lettered.{lettered, index_count}
use Rattle.judge_pool.specs.Graphs.{other_of}
use Rattle.release_compile.specs.Summaries.{HeardAllows}
use Rattle.judge_intake.proofs.OtherLemmas.{other_in}
use Rattle.release_compile.proofs.VerdictLemmas.{sets_at}
use Rattle.release_compile.proofs.WithinLemmas.{length_sets}
use Rattle.judge_intake.proofs.OuterLemmas.{other_not}
use Rattle.release_compile.proofs.SetsLemmas.{filled_none, filled_more}
use Rattle.release_compile.proofs.sets.heard_sets.Goals as goal

pub loop-j-init : goal.loop-j-init
loop-j-init c = record {
  sets = c.in_ok-sets.ensures.sets;
  filled =
      filled_none (λ j k. (k < index_count (lettered c.args.station.now c.args.parts.now) (other_of 0 c.args.bay.0 j))
      × HeardAllows (slice_get c.args.heard.now (other_of 0 c.args.bay.0 j)) k) c.in_ok-sets.sets
      c.args.outer.now.layers c.in_ok-sets.ensures.empty;
}

pub size-requires : goal.size-requires
size-requires c =
    let e : c.other_number.result ≡ other_of 0 c.args.bay.0 c.loop-j.j =
    c.other_number.ensures ∙ ap (λ b. other_of 0 b c.loop-j.j) c.from.ensures in
    omega (
      arith,
      e,
      (other_in 0 c.args.bay.0 c.args.others c.loop-j.j c.loop-j-test.true).1,
      c.requires.lettered.parts,
      c.requires.count,
    )

pub heard_marks-requires-clause-part : goal.heard_marks-requires-clause-part
heard_marks-requires-clause-part c =
    let e : c.other_number.result ≡ other_of 0 c.args.bay.0 c.loop-j.j =
    c.other_number.ensures ∙ ap (λ b. other_of 0 b c.loop-j.j) c.from.ensures in
    omega (
      arith,
      e,
      (other_in 0 c.args.bay.0 c.args.others c.loop-j.j c.loop-j-test.true).1,
      c.requires.heard,
      c.requires.count,
    )

pub heard_marks-requires-clause-fits : goal.heard_marks-requires-clause-fits
heard_marks-requires-clause-fits c s is =
    let j = c.loop-j.j in
    let e : c.other_number.result ≡ other_of 0 c.args.bay.0 j =
    c.other_number.ensures ∙ ap (λ b. other_of 0 b j) c.from.ensures in
    let fits = c.requires.fit c.other_number.result s (λ same. other_not c.args.bay.0 j (sym e ∙ same)) is in
    elim fits [ inl enough ↦ inl (omega (arith, enough, c.size.ensures.size)) | inr empty ↦ inr empty ]

pub allow_marked-requires-clause-layer : goal.allow_marked-requires-clause-layer
allow_marked-requires-clause-layer c = omega (
  arith,
  length_sets c.args.outer.now.layers c.loop-j.sets c.loop-j.invariant.sets,
  c.requires.layers,
  c.loop-j-test.true,
)

pub allow_marked-requires-clause-marks : goal.allow_marked-requires-clause-marks
allow_marked-requires-clause-marks c =
    let j = c.loop-j.j in
    let e : c.other_number.result ≡ other_of 0 c.args.bay.0 j =
    c.other_number.ensures ∙ ap (λ b. other_of 0 b j) c.from.ensures in
    let here = sets_at c.args.outer.now.layers c.loop-j.sets j c.loop-j.invariant.sets
    ∙ c.requires.choices j c.loop-j-test.true in
    ap length c.deref.ensures.value
    ∙ (c.in_ok-marks.ensures.len ∙ (c.size.ensures.size ∙ (ap (size_of c.args.parts.now) e ∙ sym here)))

pub loop-j-preserved : goal.loop-j-preserved
loop-j-preserved c =
    let a = lettered c.args.station.now c.args.parts.now in
    let b = c.args.bay.0 in
    let j = c.loop-j.j in
    let part = c.other_number.result in
    let e : part ≡ other_of 0 b j = c.other_number.ensures ∙ ap (λ k. other_of 0 k j) c.from.ensures in
    let marks : List Bool = c.in_ok-marks.marks.items in
    let here = rw c.deref.ensures.value at c.allow_marked.ensures.here in
    record {
      sets = c.allow_marked.ensures.sets c.args.outer.now.layers c.loop-j.invariant.sets;
      filled =
          filled_more (λ i k. (k < index_count a (other_of 0 b i))
          × HeardAllows (slice_get c.args.heard.now (other_of 0 b i)) k) c.loop-j.sets c.allow_marked.new.sets marks j
          c.loop-j.invariant.filled here c.allow_marked.ensures.others
          (λ k. (let m = c.in_ok-marks.ensures.each k in
          let what = ap (λ w. HeardAllows w k) (ap (slice_get c.args.heard.now) e) in
          let size = c.size.ensures.size ∙ ap (size_of c.args.parts.now) e in (
            λ h. (let w = m.0 h in (omega (arith, w.0, size), subst (λ t. t) what w.1)),
            λ w. m.1 (omega (arith, w.0, size), subst (λ t. t) (sym what) w.1),
          )));
    }

pub returns-clause-heard : goal.returns-clause-heard
returns-clause-heard c j k lt =
    c.loop-j.invariant.filled.done j k (omega (arith, lt, c.requires.count, c.loop-j.auto.j-end, c.loop-j-test.false))
