-- Marks on the classes of joined nodes.
use Rattle.std.proofs.Common.{◌≡◌, ℕ, ◌<◌, Bool, false, List, length, slice_get, slice_index, Some}
use Rattle.std.proofs.Common.{refl, sym, ◌∙◌, ap, arith}
use Rattle.std.proofs.Math.ListN.{replicate}
use Rattle.std.proofs.lemmas.List.{length-replicate}
use Rattle.std.proofs.lemmas.Option.{slice_get_within}
use Rattle.ilk_base.specs.declared.words.Kind.{Kind}
use Rattle.station_graph.specs.declared.items.Switch.{Switch}
use Rattle.station_graph.specs.Diagram.{Diagram, node_count}
use Rattle.station_graph.specs.Classes.{LabelsLeast}
use Rattle.station_graph.specs.Marking.{Marks}
use Rattle.station_graph.proofs.LinkedLemmas.{linked_self}
use Rattle.station_graph.proofs.MarkLemmas.{marked_exactly}
use Rattle.central_rules.specs.InClass.{ClosedInClass}
use Rattle.station_state.specs.Marked.{ClosedUnder, IsMarked}

-- a label is a node
pub label_in : (R : ℕ → ℕ → Type 0) (count : ℕ) (labels : List ℕ) → LabelsLeast R count labels → (n : ℕ) → n < count →
    slice_index labels n < count
label_in R count labels least n n_in = let le = least.least n n n_in (linked_self R n) in omega (arith, le, n_in)

module _ (d : Diagram) (v : List Bool) (kind : Kind) (labels : List ℕ) where
  -- a closed switch under the label of a node is one in the class of the node
  class_from_under : (n : ℕ) → ClosedUnder d v kind labels (length d.switches) (slice_index labels n) →
      ClosedInClass d v kind labels n
  class_from_under n h = (
    h.switch.first.0,
    sym h.labelled,
    record {
      number = h.number;
      switch = h.switch;
      listed = h.listed;
      is_kind = h.is_kind;
      closed = h.closed;
      stands = refl;
    },
  )

  under_from_class : (n : ℕ) → ClosedInClass d v kind labels n → ClosedUnder d v kind labels (length d.switches)
      (slice_index labels n)
  under_from_class n (m, same, at) = record {
    number = at.number;
    switch = at.switch;
    below = slice_get_within d.switches at.number at.switch at.listed;
    listed = at.listed;
    is_kind = at.is_kind;
    closed = at.closed;
    labelled = ap (slice_index labels) at.stands ∙ sym same;
  }

  pub is_marked : (old new : List Bool) → old ≡ replicate (node_count d) false → length old ≡ node_count d →
      Marks (ClosedUnder d v kind labels (length d.switches)) old new → IsMarked d v kind labels new
  is_marked old new none count h = record {
    count = h.len ∙ count;
    exact = λ n n_in.
        let exactly = marked_exactly (ClosedUnder d v kind labels (length d.switches)) (node_count d) old new none h
        (slice_index labels n) in
        (λ e. class_from_under n (exactly.0 e), λ c. exactly.1 (under_from_class n c));
  }

-- where nothing is marked there is a mark for each node
pub length_none : (old : List Bool) (d : Diagram) → old ≡ replicate (node_count d) false → length old ≡ node_count d
length_none old d none = ap length none ∙ length-replicate (node_count d) false
