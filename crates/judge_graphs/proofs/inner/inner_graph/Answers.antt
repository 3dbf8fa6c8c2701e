use Rattle.std.proofs.Common.{◌≡◌, ◌∙◌, ◌+◌, ℕ, List, [], length, map, get_or, slice_get, Some, refl, sym, ap, subst}
use Rattle.std.proofs.Common.{arith}
use Rattle.std.proofs.lemmas.List.{length-map}
use Rattle.std.proofs.lemmas.Option.{slice_get_read, slice_get_within, same_Some}
use Rattle.contraction.specs.Answers.{Answers}
use Rattle.contraction.specs.Renaming.{mapped}
use Rattle.part_alphabets.specs.PartAlphabets.{Alphabets}
use Rattle.judge_pool.specs.declared.pool.Pool.{Pool}
use Rattle.judge_graphs.specs.declared.noted.Noted.{Noted}
use Rattle.judge_pool.specs.Lettered.{lettered}
use Rattle.judge_pool.specs.Places.{node_listed}
use Rattle.judge_pool.specs.Layering.{values_at, no_answers}
use Rattle.judge_pool.specs.Graphs.{IsInner}
use Rattle.judge_intake.specs.Coding.{AreCodes, labels_of}
use Rattle.judge_pool.specs.Counted.{InnerHas, Spends, Passes, InnerIsSmall}
use Rattle.judge_pool.specs.Plans.{PlanPasses}
use Rattle.judge_graphs.specs.Noting.{letter_rows, IsTaken}
use Rattle.judge_graphs.specs.Labelling.{IsLabelled, AreLabelled}
use Rattle.judge_pool.proofs.PlanLemmas.{values_more}
use Rattle.judge_pool.proofs.LayeringLemmas.{grew_more, grows}
use Rattle.judge_pool.proofs.MappedPools.{grows_on}
use Rattle.judge_graphs.proofs.NotingLemmas.{all_right_stay}
use Rattle.judge_graphs.proofs.LabellingLemmas.{taken_of_note, found_taken, same_note, labelled_stay}
use Rattle.judge_intake.proofs.OwnBayLemmas.{needs_so}
use Rattle.judge_intake.proofs.PlacesLemmas.{places_rise}
use Rattle.judge_intake.proofs.CodeLemmas.{labels_some}
use Rattle.judge_graphs.proofs.InnerTaken.{plan_on, fits_on, taken_linked, taken_passes}
use Rattle.judge_graphs.proofs.InnerLabelled.{IsNoteOf, place_within, state_ends, name_in, label_each, note_spends}
use Rattle.judge_graphs.proofs.InnerLabelled.{labelled_inner, labelled_small}
use Rattle.judge_pool.proofs.ErrorLemmas.{passed_on}
use Rattle.judge_graphs.proofs.inner.inner_graph.Goals as goal
use Rattle.judge_graphs.proofs.inner.inner_graph.Goals.{After-as_slice-names, In_ok-graph}

abbrev none : Alphabets
none = record { switches = 0; parts = [] }

-- the note that was found
abbrev note : After-as_slice-names → Noted
note c = c.in_ok-taken.ensures.taken.0

note_of : (c : After-as_slice-names) (letters : Alphabets) →
    IsNoteOf (lettered c.args.station.now letters) c.args.own.now.bay.0 c.args.moved c.args.own.now.first c.args.others c.args.own.now.nodes
    c.inner_intake.new.pool c.taken_again.new.pool c.args.common.now.names.items c.args.left c.in_ok-taken.taken.left
    (note c)
note_of c letters =
    let w = c.in_ok-taken.ensures.taken in
    let q : Pool = c.taken_again.new.pool in
    let budget : c.args.left + c.len.result ≡ c.args.left + length c.args.common.now.names.items =
    omega (arith, c.len.ensures, c.args.common.now.names.ok.0) in
    record {
      intake = c.in_ok-intake.intake;
      nodes = c.requires.own.nodes;
      ready = c.in_ok-intake.ensures.ready letters;
      grown = grows c.inner_intake.new.pool q c.in_ok-taken.ensures.grew;
      taken =
          subst (λ k. IsTaken q c.in_ok-intake.intake k (taken_of_note w.0 c.in_ok-taken.taken.left)) budget
          (found_taken q c.in_ok-intake.intake (c.args.left + c.len.result) c.in_ok-taken.taken.left
          c.in_ok-taken.taken.place c.taken_again.new.notes.items w.0 c.in_ok-taken.ensures.notes w.1 w.2 w.3);
    }

at_held : (c : After-as_slice-names) →
    slice_get c.as_slice-held.result.now c.in_ok-taken.taken.place ≡ Some (note c)
at_held c =
    ap (λ (xs : List Noted). slice_get xs c.in_ok-taken.taken.place) c.as_slice-held.ensures.value
    ∙ c.in_ok-taken.ensures.taken.1

its_names : (c : After-as_slice-names) → c.as_slice-names.result.now ≡ (note c).names.items
its_names c =
    let held : List Noted = c.as_slice-held.result.now in
    let place : ℕ = c.in_ok-taken.taken.place in
    let read : Noted = c.index-held-taken.result in
    c.as_slice-names.ensures.value
    ∙ ap (λ (k : Noted). k.names.items)
    (sym c.index-held-taken.is
    ∙ same_note place c.taken_again.new.notes.items held (note c) read c.as_slice-held.ensures.value
    c.in_ok-taken.ensures.taken.1 (λ lt. slice_get_read held _ place read refl lt c.index-held-taken.is))

labelled_of : (c : In_ok-graph) →
    IsLabelled c.label_count-count.result c.in_ok-labels.labels.items (c.in_ok-taken.ensures.taken.0).graph.value
    c.in_ok-graph.graph
labelled_of c =
    c.in_ok-graph.ensures.graph c.in_ok-taken.ensures.taken.0
    (ap (λ (xs : List Noted). slice_get xs c.in_ok-taken.taken.place) c.as_slice-held.ensures.value
    ∙ c.in_ok-taken.ensures.taken.1)

pub taken_again-requires-clause-notes : goal.taken_again-requires-clause-notes
taken_again-requires-clause-notes c =
    all_right_stay c.args.pool.now c.inner_intake.new.pool
    (grows c.args.pool.now c.inner_intake.new.pool c.in_ok-intake.ensures.grew) c.args.notes.now.graphs.items
    c.requires.notes.graphs

pub taken_again-requires-clause-linked : goal.taken_again-requires-clause-linked
taken_again-requires-clause-linked c =
    taken_linked (lettered c.args.station.now none) c.args.own.now.bay.0 c.args.moved c.args.own.now.first c.args.others
    (node_listed c.args.own.now.nodes) (places_rise c.args.own.now.nodes c.requires.own.nodes) c.inner_intake.new.pool
    c.in_ok-intake.intake c.args.common.now.names.items (c.in_ok-intake.ensures.ready none)

pub taken_again-requires-clause-few : goal.taken_again-requires-clause-few
taken_again-requires-clause-few c =
    let ready = c.in_ok-intake.ensures.ready none in
    omega (
      arith,
      ready.rows.len,
      c.requires.own.switches.within,
      c.requires.moved.one_more,
      c.switch_count-count.ensures.station.items.switches_few,
    )

pub codes-requires-clause-within : goal.codes-requires-clause-within
codes-requires-clause-within c k j at =
    let s = (goal.at.codes-requires-clause-within c).After-as_slice-names in
    name_in (note_of s none) k j (ap (λ (xs : List ℕ). slice_get xs k) (sym (its_names s)) ∙ at)

pub codes-requires-clause-places : goal.codes-requires-clause-places
codes-requires-clause-places c k place x at kept =
    let s = (goal.at.codes-requires-clause-places c).After-as_slice-names in
    place_within (note_of s none)
    (needs_so c.args.station.now c.args.own.now c.requires.own c.args.moved c.args.others c.requires.moved) k place x
    (ap (λ (xs : List ℕ). slice_get (values_at c.taken_again.new.pool.values.items xs) k) (sym (its_names s)) ∙ at) kept

pub codes-requires-clause-ends : goal.codes-requires-clause-ends
codes-requires-clause-ends c k x at =
    let s = (goal.at.codes-requires-clause-ends c).After-as_slice-names in
    let values : List Answers = map (mapped (node_listed c.args.own.now.nodes)) c.taken_again.new.pool.values.items in
    state_ends (note_of s none) k x
    (ap (λ (xs : List ℕ). slice_get (values_at values xs) k) (sym (its_names s)) ∙ at)

pub labelled_graph-requires-clause-known : goal.labelled_graph-requires-clause-known
labelled_graph-requires-clause-known c =
    let p : Pool = c.args.pool.now in
    let q : Pool = c.taken_again.new.pool in
    let known = c.args.notes.now.labelled.items in
    let old : List Noted = c.args.notes.now.graphs.items in
    let notes : List Noted = c.taken_again.new.notes.items in
    let view : p.view ≡ q.view = sym (c.in_ok-taken.ensures.grew.view ∙ c.in_ok-intake.ensures.grew.view) in
    subst (λ (xs : List Noted). AreLabelled c.label_count-count.result xs known) (sym c.as_slice-held.ensures.value)
    (subst (λ k. AreLabelled k notes known) (ap labels_of view ∙ sym c.label_count-count.ensures)
    (labelled_stay (labels_of p.view) old notes known c.in_ok-taken.ensures.more c.requires.notes.labelled))

pub labelled_graph-requires-clause-place : goal.labelled_graph-requires-clause-place
labelled_graph-requires-clause-place c =
    let s = (goal.at.labelled_graph-requires-clause-place c).After-as_slice-names in
    slice_get_within c.as_slice-held.result.now c.in_ok-taken.taken.place (note s) (at_held s)

pub labelled_graph-requires-clause-some : goal.labelled_graph-requires-clause-some
labelled_graph-requires-clause-some c =
    omega (arith, labels_some c.taken_again.new.pool.view, c.label_count-count.ensures)

pub labelled_graph-requires-clause-len : goal.labelled_graph-requires-clause-len
labelled_graph-requires-clause-len c other at_o =
    let s = (goal.at.labelled_graph-requires-clause-len c).After-as_slice-names in
    let values : List Answers = map (mapped (node_listed c.args.own.now.nodes)) c.taken_again.new.pool.values.items in
    let one : note s ≡ other = same_Some (note s) other (sym (at_held s) ∙ at_o) in
    subst (λ (k : Noted). length c.in_ok-labels.labels.items ≡ k.graph.value.labels) one
    (c.in_ok-labels.ensures.len
    ∙ (length-map c.as_slice-names.result.now (λ j. get_or values j no_answers)
    ∙ (ap length (its_names s) ∙ sym (label_each (note_of s none)))))

pub labelled_graph-requires-clause-within : goal.labelled_graph-requires-clause-within
labelled_graph-requires-clause-within c x lt =
    omega (arith, c.in_ok-labels.ensures.small x lt, c.label_count-count.ensures)

pub returns-clause-grew : goal.returns-clause-grew
returns-clause-grew c =
    grew_more c.args.pool.now c.inner_intake.new.pool c.taken_again.new.pool c.in_ok-intake.ensures.grew
    c.in_ok-taken.ensures.grew

pub returns-clause-notes : goal.returns-clause-notes
returns-clause-notes c =
    let known = c.labelled_graph.new.known.items in
    let notes : List Noted = c.taken_again.new.notes.items in
    record {
      graphs = c.in_ok-taken.ensures.notes;
      labelled =
          subst (λ k. AreLabelled k notes known) c.label_count-count.ensures
          (subst (λ (xs : List Noted). AreLabelled c.label_count-count.result xs known) c.as_slice-held.ensures.value
          c.in_ok-graph.ensures.known);
    }

pub returns-clause-labels : goal.returns-clause-labels
returns-clause-labels c =
    (labelled_of (goal.at.returns-clause-labels c).In_ok-graph).so_many
    ∙ (c.label_count-count.ensures
    ∙ ap labels_of (c.in_ok-taken.ensures.grew.view ∙ c.in_ok-intake.ensures.grew.view))

pub returns-clause-reduced : goal.returns-clause-reduced
returns-clause-reduced c = (labelled_of (goal.at.returns-clause-reduced c).In_ok-graph).reduced

pub returns-clause-inner : goal.returns-clause-inner
returns-clause-inner c letters =
    let s = (goal.at.returns-clause-inner c).After-as_slice-names in
    let f : ℕ → ℕ = node_listed c.args.own.now.nodes in
    let p0 : Pool = c.args.pool.now in
    let p : Pool = c.inner_intake.new.pool in
    let q : Pool = c.taken_again.new.pool in
    let names : List ℕ = c.args.common.now.names.items in
    let before : List Answers = map (mapped f) p0.values.items in
    let same = values_more before (map (mapped f) p.values.items) names
    (grows_on f p0 p (grows p0 p c.in_ok-intake.ensures.grew)).values c.requires.common.named.within in
    let are : AreCodes q.view c.args.station.now c.args.moved
    (values_at (map (mapped f) q.values.items) (note s).names.items) c.in_ok-labels.labels.items =
    subst (λ (xs : List ℕ). AreCodes q.view c.args.station.now c.args.moved
    (values_at (map (mapped f) q.values.items) xs) c.in_ok-labels.labels.items) (its_names s) c.in_ok-labels.ensures in
    subst (λ v. IsInner v (lettered c.args.station.now letters) c.args.own.now.bay.0 c.args.moved c.args.own.now.first c.args.others
    (values_at before names) c.in_ok-graph.graph) c.in_ok-intake.ensures.grew.view
    (subst (λ xs. IsInner p.view (lettered c.args.station.now letters) c.args.own.now.bay.0 c.args.moved c.args.own.now.first
    c.args.others xs c.in_ok-graph.graph) same
    (labelled_inner (note_of s letters) (labelled_of (goal.at.returns-clause-inner c).In_ok-graph) are))

pub returns-clause-small : goal.returns-clause-small
returns-clause-small c =
    subst (λ v. InnerIsSmall v c.args.station.now c.args.own.now.bay.0 c.args.moved c.args.own.now.first c.args.others
    c.in_ok-graph.graph) c.in_ok-intake.ensures.grew.view
    (labelled_small (note_of (goal.at.returns-clause-small c).After-as_slice-names none)
    (labelled_of (goal.at.returns-clause-small c).In_ok-graph))

pub returns-clause-spent : goal.returns-clause-spent
returns-clause-spent c =
    subst (λ v. Spends (InnerHas v c.args.station.now c.args.own.now.bay.0 c.args.moved c.args.own.now.first c.args.others
    c.args.others) c.args.station.now c.args.left c.in_ok-taken.taken.left) c.in_ok-intake.ensures.grew.view
    (note_spends (note_of (goal.at.returns-clause-spent c).After-as_slice-names none))

pub returns-clause-left : goal.returns-clause-left
returns-clause-left c =
    let spent = note_spends (note_of (goal.at.returns-clause-left c).After-as_slice-names none) in
    omega (arith, spent.all)

pub returns-in_err-taken-clause-wide : goal.returns-in_err-taken-clause-wide
returns-in_err-taken-clause-wide c =
    passed_on _ _ c.from_residual-in_err-taken.result c.from_residual-in_err-taken.ensures.1 (λ trouble same is.
    let d = c.args.station.now in
    let a = lettered d none in
    let b = c.args.own.now.bay.0 in
    let m = c.args.moved in
    let first = c.args.own.now.first in
    let others = c.args.others in
    let f : ℕ → ℕ = node_listed c.args.own.now.nodes in
    let order = places_rise c.args.own.now.nodes c.requires.own.nodes in
    let p : Pool = c.inner_intake.new.pool in
    let i = c.in_ok-intake.intake in
    let names : List ℕ = c.args.common.now.names.items in
    let ready = c.in_ok-intake.ensures.ready none in
    let e : c.args.left + c.len.result ≡ c.args.left + length names =
    omega (arith, c.len.ensures, c.args.common.now.names.ok.0) in
    let plan = plan_on a b m first others f order p i names ready in
    let past = c.in_err-taken.ensures.wide (sym same ∙ is) f plan order
    (fits_on a b m first others f order p i names ready) in
    subst (λ v. Passes (InnerHas v d b m first others others) d c.args.left) c.in_ok-intake.ensures.grew.view
    (taken_passes a b m first others f order p i names ready c.args.left
    (subst (λ k. PlanPasses p.view plan (letter_rows i) k) e past)))
