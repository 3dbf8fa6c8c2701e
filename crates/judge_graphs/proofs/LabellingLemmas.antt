-- Noted graphs with other labels stay so where the notes grow, and come one by one.
use Rattle.std.proofs.Common.{◌≡◌, ℕ, ◌+◌, ◌<◌, List, [], ◌∷◌, ◌++◌, length, slice_get, Some, refl, sym, ap, ◌∙◌, subst}
use Rattle.std.proofs.Common.{inl, inr}
use Rattle.std.proofs.lemmas.Option.{slice_get_within, same_Some}
use Rattle.station_graph.proofs.PathLemmas.{slice_get-push}
use Rattle.judge_pool.specs.declared.pool.Pool.{Pool}
use Rattle.judge_graphs.specs.declared.noted.Intake.{Intake}
use Rattle.judge_graphs.specs.declared.noted.Noted.{Noted}
use Rattle.judge_graphs.specs.declared.noted.TakenGraph.{TakenGraph}
use Rattle.judge_graphs.specs.declared.labelled.Labelled.{Labelled}
use Rattle.judge_graphs.specs.declared.labelled.InnerNotes.{InnerNotes}
use Rattle.judge_pool.specs.Pooling.{Extends}
use Rattle.judge_intake.specs.Coding.{labels_of}
use Rattle.judge_graphs.specs.Noting.{SameIntake, AreRight, IsTaken}
use Rattle.judge_graphs.specs.Labelling.{IsLabelled, AreLabelled, AreInnerNotes}
use Rattle.judge_pool.proofs.LayeringLemmas.{Grows}
use Rattle.judge_graphs.proofs.NotingLemmas.{all_right_stay}

pub labelled_stay : (count : ℕ) (notes more : List Noted) (known : List Labelled) → Extends notes more →
    AreLabelled count notes known → AreLabelled count more known
labelled_stay count notes more known grew h k l at = (let (n, at_n, is) = h k l at in (n, grew l.place n at_n, is))

pub labelled_push : (count : ℕ) (notes : List Noted) (known : List Labelled) (l : Labelled) (n : Noted) →
    AreLabelled count notes known → slice_get notes l.place ≡ Some n → IsLabelled count l.labels.items n.graph.value l.graph →
    AreLabelled count notes (known ++ l ∷ [])
labelled_push count notes known l n h at_n is k m at = elim (slice_get-push known l m k at) [
  | inl before ↦ h k m before
  | inr here ↦
      subst (λ (x : Labelled).
      (y : Noted) × (slice_get notes x.place ≡ Some y) × IsLabelled count x.labels.items y.graph.value x.graph) here.1
      (n, at_n, is)
]

pub inner_notes_stay : (p q : Pool) → Grows p q → (notes : InnerNotes) → AreInnerNotes p notes → AreInnerNotes q notes
inner_notes_stay p q g notes h = record {
  graphs = all_right_stay p q g notes.graphs.items h.graphs;
  labelled = subst (λ v. AreLabelled (labels_of v) notes.graphs.items notes.labelled.items) (sym g.view) h.labelled;
}

-- what is taken of a note
abbrev pub taken_of_note : Noted → ℕ → TakenGraph
taken_of_note n left = record { graph = n.graph; names = n.names; left = left }

-- what is taken of a note that was found
pub found_taken : (q : Pool) (i : Intake) (budget left place : ℕ) (notes : List Noted) (n : Noted) → AreRight q notes →
    slice_get notes place ≡ Some n → SameIntake n.intake i → n.edges + left ≡ budget →
    IsTaken q i budget (taken_of_note n left)
found_taken q i budget left place notes n right at same all = record {
  note = n;
  right = right place n at;
  same = same;
  graph = refl;
  names = refl;
  all = all;
}

-- what is read at its place is the note
pub same_note : (place : ℕ) (notes held : List Noted) (n read : Noted) → held ≡ notes →
    slice_get notes place ≡ Some n → (place < length held → slice_get held place ≡ Some read) → read ≡ n
same_note place notes held n read is at gives =
    let at_held : slice_get held place ≡ Some n = ap (λ (xs : List Noted). slice_get xs place) is ∙ at in
    same_Some read n (sym (gives (slice_get_within held place n at_held)) ∙ at_held)
