-- What is joined, live and earthed only grows as switches close.
use Rattle.std.proofs.Common.{◌≡◌, ℕ, Bool, true, false, List, slice_get, Some}
use Rattle.ilk_base.specs.declared.words.Kind.{Kind}
use Rattle.station_graph.specs.Diagram.{Diagram}
use Rattle.station_graph.specs.Connection.{Item, a_switch, a_link, a_tap, ItemBetween, Touching, Joined}
use Rattle.station_graph.specs.Supply.{ClosedAt, Live}
use Rattle.station_graph.proofs.LinkedLemmas.{linked_weaker}
use Rattle.station_state.specs.State.{Earthed}

-- each switch that is closed in v is closed in w
abbrev pub Grows : List Bool → List Bool → Type 0
Grows v w = (i : ℕ) → slice_get v i ≡ Some true → slice_get w i ≡ Some true

module _ (d : Diagram) (v w : List Bool) (grows : Grows v w) where
  between_grows : (bonds_only : Bool) (item : Item) (a b : ℕ) → ItemBetween bonds_only d v item a b →
      ItemBetween bonds_only d w item a b
  between_grows bonds_only (a_switch i) a b h = record {
    switch = h.switch;
    second = h.second;
    listed = h.listed;
    two_ended = h.two_ended;
    has_second = h.has_second;
    closed = grows i h.closed;
    ends = h.ends;
  }
  between_grows bonds_only (a_link i) a b h = h
  between_grows bonds_only (a_tap i) a b h = h

  touching_grows : (bonds_only : Bool) (a b : ℕ) → Touching bonds_only d v a b → Touching bonds_only d w a b
  touching_grows bonds_only a b h = record {
    item = h.item;
    among = h.among;
    between =
        between_grows bonds_only h.item a b h.between;
  }

  joined_grows : (a b : ℕ) → Joined d v a b → Joined d w a b
  joined_grows a b h = linked_weaker (Touching false d v) (Touching false d w) (touching_grows false) a b h

  closed_grows : (kind : Kind) (n : ℕ) → ClosedAt d v kind n → ClosedAt d w kind n
  closed_grows kind n h = record {
    number = h.number;
    switch = h.switch;
    listed = h.listed;
    is_kind = h.is_kind;
    closed = grows h.number h.closed;
    stands = h.stands;
  }

  pub live_grows : (n : ℕ) → Live d v n → Live d w n
  live_grows n (m, join, at) = (m, joined_grows n m join, closed_grows _ m at)

  pub earthed_grows : (n : ℕ) → Earthed d v n → Earthed d w n
  earthed_grows n (m, join, at) = (m, joined_grows n m join, closed_grows _ m at)
