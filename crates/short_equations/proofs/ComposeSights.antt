-- What some items are in a view is clear of the nodes that none of them touches. And no node of a station is a mark.
use Rattle.std.proofs.Common.{◌<◌, ℕ, Bool, true, false, List, inl, inr, arith}
use Rattle.ilk_base.specs.declared.words.Kind.TheVariants.{Earthing, Infeed}
use Rattle.station_graph.specs.Diagram.{Diagram, IsStation, node_count}
use Rattle.station_graph.specs.Connection.{Item, TouchingBy, with_breakers_closed}
use Rattle.station_graph.specs.Sharing.{Touches, TouchedBy}
use Rattle.station_graph.specs.Views.{ClosedAtBy, HasTapBy}
use Rattle.station_graph.proofs.TouchLemmas.{touching_touches, touching_touches_end, closed_touches, tap_touches}
use Rattle.short_equations.specs.Edges.{IsMark}
use Rattle.short_equations.specs.declared.view.View.{View}
use Rattle.short_equations.specs.declared.view.View.TheVariants.{Gap, Load, Bond}
use Rattle.short_equations.specs.Standing.{IsClear, MarksApart}
use Rattle.short_equations.specs.Sights.{HasTwo, GapSight, LoadSight, BondSight, SightBy}

-- the items touch no node that is gone
abbrev pub TouchNone : (ℕ → Type 0) → (Item → Type 0) → Diagram → Type 0
TouchNone Gone These d = (n : ℕ) → TouchedBy These d n → ¬ Gone n

module _ (Gone : ℕ → Type 0) (These : Item → Type 0) (d : Diagram) (marks : (n : ℕ) → IsMark n → ¬ Gone n)
    (none : TouchNone Gone These d) (v : List Bool) where
  pub gap_clear : IsClear Gone (GapSight These d v)
  gap_clear = record {
    from = λ a b h. none a (elim h [
      | inl t ↦ touching_touches These false d (with_breakers_closed d v) a b t
      | inr k ↦ elim k.1 [
        | inl c ↦ closed_touches These d v Infeed a c.1
        | inr c ↦ closed_touches These d v Earthing a c.1
      ]
    ]);
    to = λ a b h. elim h [
      | inl t ↦ none b (touching_touches_end These false d (with_breakers_closed d v) a b t)
      | inr k ↦ marks b k.0
    ];
  }

  pub load_clear : IsClear Gone (LoadSight These d v)
  load_clear = record {
    from = λ a b h. none a (elim h [
      | inl t ↦ touching_touches These false d v a b t
      | inr k ↦ elim k.1 [
        | inl c ↦ closed_touches These d v Infeed a c.1
        | inr c ↦ tap_touches These d a c.1
      ]
    ]);
    to = λ a b h. elim h [
      | inl t ↦ none b (touching_touches_end These false d v a b t)
      | inr k ↦ marks b k.0
    ];
  }

  pub bond_clear : IsClear Gone (BondSight These d v)
  bond_clear = record {
    from = λ a b h. none a (touching_touches These true d v a b h);
    to = λ a b h. none b (touching_touches_end These true d v a b h);
  }

-- IN EACH VIEW
pub sight_clear : (view : View) (Gone : ℕ → Type 0) (These : Item → Type 0) (d : Diagram) →
    ((n : ℕ) → IsMark n → ¬ Gone n) → TouchNone Gone These d → (v : List Bool) → IsClear Gone (SightBy view These d v)
sight_clear Gap Gone These d marks none v = gap_clear Gone These d marks none v
sight_clear Load Gone These d marks none v = load_clear Gone These d marks none v
sight_clear Bond Gone These d marks none v = bond_clear Gone These d marks none v

-- what a way of the items begins at, they touch
pub sight_from : (view : View) (These : Item → Type 0) (d : Diagram) (v : List Bool) (a b : ℕ) →
    SightBy view These d v a b → TouchedBy These d a
sight_from Gap These d v a b (inl t) = touching_touches These false d (with_breakers_closed d v) a b t
sight_from Gap These d v a b (inr k) = elim k.1 [
  | inl c ↦ closed_touches These d v Infeed a c.1
  | inr c ↦ closed_touches These d v Earthing a c.1
]
sight_from Load These d v a b (inl t) = touching_touches These false d v a b t
sight_from Load These d v a b (inr k) = elim k.1 [
  | inl c ↦ closed_touches These d v Infeed a c.1
  | inr c ↦ tap_touches These d a c.1
]
sight_from Bond These d v a b t = touching_touches These true d v a b t

-- no node that an item of a station touches is a mark
module _ (d : Diagram) (station : IsStation d) (nodes : (item : Item) (n : ℕ) → Touches d item n → n < node_count d)
    (These : Item → Type 0) (v : List Bool) where
  no_mark : (n : ℕ) → TouchedBy These d n → ¬ IsMark n
  no_mark n t mark =
      let few = station.items.nodes_few in
      let low = nodes t.item n t.touches in
      omega (arith, few, low, mark)

  pub gap_apart : MarksApart IsMark (TouchingBy These false d (with_breakers_closed d v))
      (HasTwo (ClosedAtBy These d v Infeed) (ClosedAtBy These d v Earthing))
  gap_apart = record {
    clear = record {
      from = λ a b t. no_mark a (touching_touches These false d (with_breakers_closed d v) a b t);
      to = λ a b t. no_mark b (touching_touches_end These false d (with_breakers_closed d v) a b t);
    };
    bare = λ a b k. no_mark a (elim k [
      | inl c ↦ closed_touches These d v Infeed a c.1
      | inr c ↦ closed_touches These d v Earthing a c.1
    ]);
  }

  pub load_apart : MarksApart IsMark (TouchingBy These false d v)
      (HasTwo (ClosedAtBy These d v Infeed) (HasTapBy These d))
  load_apart = record {
    clear = record {
      from = λ a b t. no_mark a (touching_touches These false d v a b t);
      to = λ a b t. no_mark b (touching_touches_end These false d v a b t);
    };
    bare = λ a b k. no_mark a (elim k [
      | inl c ↦ closed_touches These d v Infeed a c.1
      | inr c ↦ tap_touches These d a c.1
    ]);
  }
