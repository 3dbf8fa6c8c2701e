use Rattle.std.proofs.Common.{◌∙◌, ◌++◌, ◌∷◌, ◌≤◌, [], List, length, suc, slice_get, sym, ap, subst, inl, inr}
use Rattle.station_graph.proofs.PathLemmas.{slice_get-push}
use Rattle.judge_graphs.specs.declared.noted.Intake.{Intake}
use Rattle.judge_graphs.specs.declared.noted.Noted.{Noted}
use Rattle.judge_graphs.specs.Noting.{letter_rows, AreRight}
use Rattle.judge_pool.proofs.LayerLemmas.{get_front, get_last}
use Rattle.judge_pool.proofs.LayeringLemmas.{grows}
use Rattle.judge_graphs.proofs.NotingLemmas.{all_right_stay, all_right_more}
use Rattle.judge_graphs.proofs.noted.noted_at.Goals as goal

pub returns-clause-notes : goal.returns-clause-notes
returns-clause-notes c =
    let p = c.args.pool.now in
    let q = c.note.new.pool in
    let old : List Noted = c.args.notes.now.items in
    subst (AreRight q) (sym c.in_ok-push.ensures.items)
    (all_right_more q old c.in_ok-noted.noted
    (all_right_stay p q (grows p q c.in_ok-noted.ensures.grew) old c.requires.notes) c.in_ok-noted.ensures.noted)

pub returns-clause-more : goal.returns-clause-more
returns-clause-more c i x at =
    let old : List Noted = c.args.notes.now.items in
    ap (λ (xs : List Noted). slice_get xs i) c.in_ok-push.ensures.items
    ∙ get_front old (c.in_ok-noted.noted ∷ []) i x at

pub returns-clause-noted : goal.returns-clause-noted
returns-clause-noted c =
    let old : List Noted = c.args.notes.now.items in
    let n : Noted = c.in_ok-noted.noted in
    let e = c.in_ok-noted.ensures.intake in (
      n,
      ap (λ (xs : List Noted). slice_get xs (length c.as_slice-held.result.now)) c.in_ok-push.ensures.items
          ∙ (ap (slice_get (old ++ n ∷ [])) (ap length c.as_slice-held.ensures.value) ∙ get_last old n),
      record {
        start = ap (λ (i : Intake). i.start) e;
        letters = ap letter_rows e;
        keeps = ap (λ (i : Intake). i.keeps.items) e;
      },
    )

pub returns-in-Some-clause-noted : goal.returns-in-Some-clause-noted
returns-in-Some-clause-noted c =
    let (n, at, same) = c.in-Some.ensures in
    (n, ap (λ (xs : List Noted). slice_get xs c.in-Some.place) (sym c.as_slice-held.ensures.value) ∙ at, same)

pub returns-clause-new : goal.returns-clause-new
returns-clause-new c k n at =
    let old : List Noted = c.args.notes.now.items in
    let made : Noted = c.in_ok-noted.noted in
    elim (slice_get-push old made n k (ap (λ (xs : List Noted). slice_get xs k) (sym c.in_ok-push.ensures.items) ∙ at)) [
      | inl before ↦ inl before
      | inr here ↦
          inr (subst (λ (m : Noted). length m.names.items ≤ suc c.args.budget) here.1 c.in_ok-noted.ensures.few)
    ]

pub returns-in-Some-clause-new : goal.returns-in-Some-clause-new
returns-in-Some-clause-new c k n at = inl at
