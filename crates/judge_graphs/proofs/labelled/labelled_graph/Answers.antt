use Rattle.std.proofs.Common.{◌≡◌, ◌∙◌, List, Some, length, slice_get, refl, sym, ap, subst}
use Rattle.std.proofs.lemmas.Option.{slice_get_read, slice_get_within, same_Some}
use Rattle.decision_graphs.specs.Label.{Layered}
use Rattle.judge_graphs.specs.declared.noted.Noted.{Noted}
use Rattle.judge_graphs.specs.declared.labelled.Labelled.{Labelled}
use Rattle.judge_graphs.specs.Labelling.{IsLabelled, AreLabelled}
use Rattle.judge_graphs.proofs.LabellingLemmas.{labelled_push}
use Rattle.judge_graphs.proofs.labelled.labelled_graph.Goals as goal

pub returns-in-Some-clause-graph : goal.returns-in-Some-clause-graph
returns-in-Some-clause-graph c n at_n =
    let k = c.in-Some.k in
    let (l, at, of, same) = c.in-Some.ensures in
    let held : List Labelled = c.as_slice-held.result.now in
    let read : Labelled = c.index-held-k.result in
    let at_read : slice_get held k ≡ Some read =
    slice_get_read held _ k read refl (slice_get_within held k l at) c.index-held-k.is in
    let one : l ≡ read = same_Some l read (sym at ∙ at_read) in
    let (m, at_m, is) = c.requires.known k l
    (ap (λ (xs : List Labelled). slice_get xs k) (sym c.as_slice-held.ensures.value) ∙ at) in
    let whose : m ≡ n = same_Some m n (sym at_m ∙ (ap (slice_get c.args.notes.now) of ∙ at_n)) in
    subst (λ (h : Layered). IsLabelled c.args.count c.args.labels.items n.graph.value h)
    (ap (λ (x : Labelled). x.graph) (one ∙ c.index-held-k.is) ∙ sym c.in_ok-copy.ensures)
    (subst (λ ids. IsLabelled c.args.count ids n.graph.value l.graph) (same ∙ c.deref.ensures.value)
    (subst (λ (x : Noted). IsLabelled c.args.count l.labels.items x.graph.value l.graph) whose is))

pub relabelled-requires-clause-len : goal.relabelled-requires-clause-len
relabelled-requires-clause-len c =
    let n : Noted = c.index-notes-place.result in
    ap length c.deref-2.ensures.value
    ∙ (c.requires.len n
    (slice_get_read c.args.notes.now _ c.args.place n refl c.requires.place c.index-notes-place.is)
    ∙ ap (λ (x : Noted). x.graph.value.labels) c.index-notes-place.is)
    ∙ ap (λ (g : Layered). g.labels) (sym c.as_ref.ensures)

pub relabelled-requires-clause-within : goal.relabelled-requires-clause-within
relabelled-requires-clause-within c = rw c.deref-2.ensures.value c.requires.within

pub returns-clause-known : goal.returns-clause-known
returns-clause-known c =
    let n : Noted = c.index-notes-place.result in
    let l : Labelled = record { place = c.args.place; labels = c.args.labels; graph = c.in_ok-graph.graph } in
    subst (AreLabelled c.args.count c.args.notes.now) (sym c.in_ok-push.ensures.items)
    (labelled_push c.args.count c.args.notes.now c.args.known.now.items l n c.requires.known
    (slice_get_read c.args.notes.now _ c.args.place n refl c.requires.place c.index-notes-place.is)
    (subst (λ ids. IsLabelled c.args.count ids n.graph.value l.graph) c.deref-2.ensures.value
    (subst (λ (x : Noted). IsLabelled c.args.count c.deref-2.result.now x.graph.value l.graph) (sym c.index-notes-place.is)
    (subst (λ (g : Layered). IsLabelled c.args.count c.deref-2.result.now g l.graph) c.as_ref.ensures
    c.in_ok-graph.ensures))))

pub returns-clause-graph : goal.returns-clause-graph
returns-clause-graph c n at_n =
    let read : Noted = c.index-notes-place.result in
    let at : slice_get c.args.notes.now c.args.place ≡ Some read =
    slice_get_read c.args.notes.now _ c.args.place read refl c.requires.place c.index-notes-place.is in
    let whose : read ≡ n = same_Some read n (sym at ∙ at_n) in
    subst (λ (h : Layered). IsLabelled c.args.count c.args.labels.items n.graph.value h) (sym c.in_ok-copy-2.ensures)
    (subst (λ (x : Noted). IsLabelled c.args.count c.args.labels.items x.graph.value c.in_ok-graph.graph) whose
    (subst (λ ids. IsLabelled c.args.count ids read.graph.value c.in_ok-graph.graph) c.deref-2.ensures.value
    (subst (λ (x : Noted). IsLabelled c.args.count c.deref-2.result.now x.graph.value c.in_ok-graph.graph)
    (sym c.index-notes-place.is) (subst (λ (g : Layered). IsLabelled c.args.count c.deref-2.result.now g
    c.in_ok-graph.graph) c.as_ref.ensures c.in_ok-graph.ensures))))
