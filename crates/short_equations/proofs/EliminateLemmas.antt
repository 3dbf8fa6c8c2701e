-- The edges with one node eliminated lead between the others as before.
use Rattle.std.proofs.Common.{◌≡◌, ◌≢◌, ◌↔◌, ℕ, ◌+◌, ◌<◌, ◌≤◌, List, [], ◌∷◌, ◌++◌, length, slice_get, slice_set, Some}
use Rattle.std.proofs.Common.{refl, sym, ◌∙◌, subst, inl, inr, arith}
use Rattle.std.proofs.lemmas.Bool.{cases_eq, cases_lt}
use Rattle.std.proofs.lemmas.Option.{slice_get_within}
use Rattle.ilk_base.specs.declared.words.NodeId.{NodeId}
use Rattle.station_graph.specs.Marking.{SomeBelow}
use Rattle.station_graph.specs.Connection.{Linked}
use Rattle.station_graph.proofs.LinkedLemmas.{linked_self, linked_one, linked_trans}
use Rattle.station_graph.proofs.PathLemmas.{slice_get-push}
use Rattle.station_graph.proofs.PositionLemmas.{slice_get-set_other}
use Rattle.contraction.proofs.MarkLemmas.{slice_get-set_same}
use Rattle.short_equations.specs.declared.edge.TheConstants.{FIRST_MARK}
use Rattle.short_equations.specs.declared.edge.Edge.{Edge}
use Rattle.short_equations.specs.declared.edge.Way.{Way}
use Rattle.interlock_terms.specs.declared.term.Term.{Term}
use Rattle.interlock_terms.specs.Terms.{Values, Solves, Grew, IsTrueAt, MeansBoth, MeansEither}
use Rattle.short_equations.specs.Edges.{LeadsAlong, Along, AreEdges, IsEdge, LeadsTo, IsBetween, IsPlaceOf, Adds}
use Rattle.short_equations.specs.Edges.{AreWays, PairLeads, AddsFrom, LeadsOn, AddsThrough, EliminatesNode}
use Rattle.short_equations.specs.Standing.{Eliminates}
use Rattle.interlock_terms.proofs.TermLemmas.{grew_solves}
use Rattle.short_equations.proofs.SomeLemmas.{some_more, some_at, some_step, some_pushed, some_pushed_old}
use Rattle.short_equations.proofs.SomeLemmas.{some_pushed_new, some_none, some_set, some_set_new, some_set_old}

-- an edge pushed
pub adds_pushed : (terms : List Term) (edges : List Edge) (e : Edge) → Adds terms edges e (edges ++ e ∷ [])
adds_pushed terms edges e v a b solves = (
  λ s. some_pushed edges (λ x. LeadsAlong v x a b) e s,
  λ s. elim s [
    | inl old ↦ some_pushed_old edges (λ x. LeadsAlong v x a b) e old
    | inr new ↦ some_pushed_new edges (λ x. LeadsAlong v x a b) e new
  ],
)

pub edges_pushed : (edges : List Edge) (e : Edge) → AreEdges edges → IsEdge e → AreEdges (edges ++ e ∷ [])
edges_pushed edges e all is j x listed = elim (slice_get-push edges e x j listed) [
  | inl old ↦ all j x old
  | inr new ↦ subst IsEdge new.1 is
]

-- an edge replaced by one that is there where it is or another one between the same ends
module _ (terms : List Term) (edges : List Edge) (e : Edge) (place n : ℕ) (h : IsPlaceOf edges e.first e.second place)
    (means : MeansEither terms n h.edge.term e.term) where
  abbrev wide : Edge
  wide = record { first = e.first; second = e.second; term = n }

  place_in : place < length edges
  place_in = slice_get_within edges place h.edge h.listed

  pub adds_set : Adds terms edges e (slice_set edges place wide)
  adds_set v a b solves =
      let says = means v solves in
      let turn : IsBetween e.first.0 e.second.0 a b → IsBetween h.edge.first.0 h.edge.second.0 a b =
      subst (λ (k : NodeId). IsBetween e.first.0 e.second.0 a b → IsBetween k.0 h.edge.second.0 a b) (sym h.from)
      (subst (λ (k : NodeId). IsBetween e.first.0 e.second.0 a b → IsBetween e.first.0 k.0 a b) (sym h.to) (λ z. z)) in
      let back : IsBetween h.edge.first.0 h.edge.second.0 a b → IsBetween e.first.0 e.second.0 a b =
      subst (λ (k : NodeId). IsBetween k.0 h.edge.second.0 a b → IsBetween e.first.0 e.second.0 a b) (sym h.from)
      (subst (λ (k : NodeId). IsBetween e.first.0 k.0 a b → IsBetween e.first.0 e.second.0 a b) (sym h.to) (λ z. z)) in (
        λ s. elim (some_set edges (λ x. LeadsAlong v x a b) place wide s) [
          | inl old ↦ inl old
          | inr new ↦ elim (says.0 new.there) [
            | inl was ↦ inl (record {
              place = place;
              item = h.edge;
              below = place_in;
              listed = h.listed;
              holds = record { there = was; ends = turn new.ends };
            })
            | inr is ↦ inr (record { there = is; ends = new.ends })
          ]
        ],
        λ s. elim s [
          | inl old ↦ some_set_old edges (λ x. LeadsAlong v x a b) place h.edge wide h.listed
              (λ (k : LeadsAlong v h.edge a b). record { there = says.1 (inl k.there); ends = back k.ends }) old
          | inr new ↦ some_set_new edges (λ x. LeadsAlong v x a b) place wide place_in
              (record { there = says.1 (inr new.there); ends = new.ends })
        ],
      )

  pub edges_set : AreEdges edges → IsEdge e → AreEdges (slice_set edges place wide)
  edges_set all is j x listed = elim (cases_eq j place) [
    | inl q ↦
        let l : slice_get (slice_set edges place wide) place ≡ Some x =
        subst (λ k. slice_get (slice_set edges place wide) k ≡ Some x) q listed in
        let w : slice_get (slice_set edges place wide) place ≡ Some wide =
        slice_get-set_same edges place wide place_in in
        let same : wide ≡ x = cc (l, w) in
        subst IsEdge same (record { rises = is.rises; from_node = is.from_node })
    | inr ne ↦ all j x (sym (slice_get-set_other edges place j wide ne) ∙ listed)
  ]

-- the edges over one way and each of the first ways
pub from_none : (terms : List Term) (old : List Edge) (from : Way) (ways : List Way) → AddsFrom terms old from ways 0 old
from_none terms old from ways v a b solves = (
  λ s. inl s,
  λ s. elim s [ inl k ↦ k | inr k ↦ absurd (some_none ways (λ to. PairLeads v from to a b) k) ],
)

module _ (before after : List Term) (grew : Grew before after) (old mid : List Edge) (from : Way) (ways : List Way)
    (i : ℕ) (to : Way) (at : slice_get ways i ≡ Some to) (h : AddsFrom before old from ways i mid) where
  pub from_step : (n : ℕ) (new : List Edge) → from.to.0 < to.to.0 → MeansBoth after n from.term to.term →
      Adds after mid (record { first = from.to; second = to.to; term = n }) new →
      AddsFrom after old from ways (i + 1) new
  from_step n new rises is adds v a b solves =
      let says = is v solves in
      let was = h v a b (grew_solves before after v grew solves) in
      let now = adds v a b solves in (
        λ s. elim (now.0 s) [
          | inl m ↦ elim (was.0 m) [
            | inl o ↦ inl o
            | inr k ↦ inr (some_more ways (λ w. PairLeads v from w a b) i k)
          ]
          | inr e ↦ inr (some_at ways (λ w. PairLeads v from w a b) i to at
              (let both = says.0 e.there in
              record { first = both.0; second = both.1; rises = rises; ends = e.ends }))
        ],
        λ s. elim s [
          | inl o ↦ now.1 (inl (was.1 (inl o)))
          | inr k ↦ elim (some_step ways (λ w. PairLeads v from w a b) i to at k) [
            | inl m ↦ now.1 (inl (was.1 (inr m)))
            | inr p ↦ now.1 (inr (record { there = says.1 (p.first, p.second); ends = p.ends }))
          ]
        ],
      )

  pub from_pass : to.to.0 ≤ from.to.0 → AddsFrom after old from ways (i + 1) mid
  from_pass none v a b solves =
      let was = h v a b (grew_solves before after v grew solves) in (
        λ s. elim (was.0 s) [
          | inl o ↦ inl o
          | inr k ↦ inr (some_more ways (λ w. PairLeads v from w a b) i k)
        ],
        λ s. elim s [
          | inl o ↦ was.1 (inl o)
          | inr k ↦ elim (some_step ways (λ w. PairLeads v from w a b) i to at k) [
            | inl m ↦ was.1 (inr m)
            | inr p ↦ let r = p.rises in absurd (omega (arith, none, r))
          ]
        ],
      )

-- the edges over each two ways
pub through_none : (terms : List Term) (old : List Edge) (ways : List Way) → AddsThrough terms old ways 0 old
through_none terms old ways v a b solves = (
  λ s. inl s,
  λ s. elim s [ inl k ↦ k | inr k ↦ absurd (some_none ways (LeadsOn v ways a b) k) ],
)

module _ (before after : List Term) (grew : Grew before after) (old mid : List Edge) (ways : List Way) (i : ℕ)
    (from : Way) (at : slice_get ways i ≡ Some from) (h : AddsThrough before old ways i mid) where
  pub through_step : (new : List Edge) → from.to.0 < FIRST_MARK → AddsFrom after mid from ways (length ways) new →
      AddsThrough after old ways (i + 1) new
  through_step new node adds v a b solves =
      let was = h v a b (grew_solves before after v grew solves) in
      let now = adds v a b solves in (
        λ s. elim (now.0 s) [
          | inl m ↦ elim (was.0 m) [
            | inl o ↦ inl o
            | inr k ↦ inr (some_more ways (LeadsOn v ways a b) i k)
          ]
          | inr k ↦ inr (some_at ways (LeadsOn v ways a b) i from at (node, k))
        ],
        λ s. elim s [
          | inl o ↦ now.1 (inl (was.1 (inl o)))
          | inr k ↦ elim (some_step ways (LeadsOn v ways a b) i from at k) [
            | inl m ↦ now.1 (inl (was.1 (inr m)))
            | inr p ↦ now.1 (inr p.1)
          ]
        ],
      )

  pub through_pass : FIRST_MARK ≤ from.to.0 → AddsThrough after old ways (i + 1) mid
  through_pass none v a b solves =
      let was = h v a b (grew_solves before after v grew solves) in (
        λ s. elim (was.0 s) [
          | inl o ↦ inl o
          | inr k ↦ inr (some_more ways (LeadsOn v ways a b) i k)
        ],
        λ s. elim s [
          | inl o ↦ was.1 (inl o)
          | inr k ↦ elim (some_step ways (LeadsOn v ways a b) i from at k) [
            | inl m ↦ was.1 (inr m)
            | inr p ↦ let r = p.0 in absurd (omega (arith, none, r))
          ]
        ],
      )

-- THE NODE ELIMINATED
module _ (terms : List Term) (m : ℕ) (m_node : m < FIRST_MARK) (edges left new : List Edge) (ways : List Way)
    (all : AreEdges edges)
    (away : (v : Values) (a b : ℕ) → Along v left a b ↔ (Along v edges a b × (a ≢ m) × (b ≢ m)))
    (from : AreWays edges m ways) (adds : AddsThrough terms left ways (length ways) new) where
  module _ (v : Values) (solves : Solves v terms) where
    abbrev R : ℕ → ℕ → Type 0
    R = Along v edges

    turned : (a b : ℕ) → b < FIRST_MARK → R a b → R b a
    turned a b node h = record {
      place = h.place;
      item = h.item;
      below = h.below;
      listed = h.listed;
      holds = record {
        there = h.holds.there;
        ends = elim h.holds.ends [
          | inl q ↦ inr (subst (λ k. k < FIRST_MARK) q.1 node, q.1, q.0)
          | inr q ↦ inl (q.2, q.1)
        ];
      };
    }

    source_node : (a b : ℕ) → R a b → a < FIRST_MARK
    source_node a b h =
        let is = all h.place h.item h.listed in
        let node = is.from_node in
        elim h.holds.ends [
          | inl q ↦ subst (λ k. k < FIRST_MARK) (sym q.0) node
          | inr q ↦ subst (λ k. k < FIRST_MARK) (sym q.1) q.0
        ]

    loopless : (a b : ℕ) → R a b → b ≢ a
    loopless a b h e =
        let is = all h.place h.item h.listed in
        let rises = is.rises in
        elim h.holds.ends [
          | inl q ↦ omega (arith, rises, q.0, q.1, e)
          | inr q ↦ omega (arith, rises, q.1, q.2, e)
        ]

    abbrev S : ℕ → ℕ → Type 0
    S = Along v new

    -- the way over two ways, the first to a node
    over : (a b : ℕ) → a < FIRST_MARK → (f : LeadsTo v ways a) → (g : LeadsTo v ways b) → a < b →
        (c d : ℕ) → IsBetween f.item.to.0 g.item.to.0 c d → S c d
    over a b node f g less c d ends = (adds v c d solves).1 (inr (record {
      place = f.place;
      item = f.item;
      below = f.below;
      listed = f.listed;
      holds = (
        subst (λ k. k < FIRST_MARK) (sym f.holds.1) node,
        record {
          place = g.place;
          item = g.item;
          below = g.below;
          listed = g.listed;
          holds = record {
            first = f.holds.0;
            second = g.holds.0;
            rises = let p = f.holds.1 in let q = g.holds.1 in omega (arith, less, p, q);
            ends = ends;
          };
        },
      );
    }))

    through : (a b : ℕ) → a ≢ m → b ≢ m → R a m → R m b → Linked S a b
    through a b na nb r s =
        let node : a < FIRST_MARK = source_node a m r in
        let f : LeadsTo v ways a = (from v a).1 (turned a m m_node r) in
        let g : LeadsTo v ways b = (from v b).1 s in
        elim (cases_eq a b) [
          | inl e ↦ subst (Linked S a) e (linked_self S a)
          | inr ne ↦ elim (cases_lt a b) [
            | inl less ↦ linked_one S a b (over a b node f g less a b (inl (sym f.holds.1, sym g.holds.1)))
            | inr more ↦
                let less : b < a = omega (arith, more, ne) in
                let b_node : b < FIRST_MARK = omega (arith, less, node) in
                linked_one S a b (over b a b_node g f less a b (inr (
                  subst (λ k. k < FIRST_MARK) (sym f.holds.1) node,
                  sym f.holds.1,
                  sym g.holds.1,
                )))
          ]
        ]

    -- what leads over two ways leads to m and on
    way_to : (w : Way) (i : ℕ) → slice_get ways i ≡ Some w → IsTrueAt v w.term → R m w.to.0
    way_to w i at there = (from v w.to.0).0 (record {
      place = i;
      item = w;
      below = slice_get_within ways i w at;
      listed = at;
      holds = (there, refl);
    })

    module _ (a b : ℕ) (h : SomeBelow ways (LeadsOn v ways a b) (length ways)) where
      pair : PairLeads v h.item h.holds.1.item a b
      pair = h.holds.1.holds

      to_first : R m h.item.to.0
      to_first = way_to h.item h.place h.listed pair.first

      to_second : R m h.holds.1.item.to.0
      to_second = way_to h.holds.1.item h.holds.1.place h.holds.1.listed pair.second

      first_back : R h.item.to.0 m
      first_back = turned m h.item.to.0 h.holds.0 to_first

      over_back : Linked R a b
      over_back = elim pair.ends [
        | inl q ↦
            subst (λ k. Linked R k b) (sym q.0) (subst (λ k. Linked R h.item.to.0 k) (sym q.1)
            (linked_trans R h.item.to.0 m h.holds.1.item.to.0 (linked_one R h.item.to.0 m first_back)
            (linked_one R m h.holds.1.item.to.0 to_second)))
        | inr q ↦
            subst (λ k. Linked R k b) (sym q.1) (subst (λ k. Linked R h.holds.1.item.to.0 k) (sym q.2)
            (linked_trans R h.holds.1.item.to.0 m h.item.to.0
            (linked_one R h.holds.1.item.to.0 m (turned m h.holds.1.item.to.0 q.0 to_second))
            (linked_one R m h.item.to.0 to_first)))
      ]

      over_from : a ≢ m
      over_from = elim pair.ends [
        | inl q ↦ subst (λ k. k ≢ m) (sym q.0) (loopless m h.item.to.0 to_first)
        | inr q ↦ subst (λ k. k ≢ m) (sym q.1) (loopless m h.holds.1.item.to.0 to_second)
      ]

      over_to : b ≢ m
      over_to = elim pair.ends [
        | inl q ↦ subst (λ k. k ≢ m) (sym q.1) (loopless m h.holds.1.item.to.0 to_second)
        | inr q ↦ subst (λ k. k ≢ m) (sym q.2) (loopless m h.item.to.0 to_first)
      ]

      over_from_end : (c : ℕ) × R a c
      over_from_end = elim pair.ends [
        | inl q ↦ (m, subst (λ k. R k m) (sym q.0) first_back)
        | inr q ↦ (m, subst (λ k. R k m) (sym q.1) (turned m h.holds.1.item.to.0 q.0 to_second))
      ]

      over_to_end : (c : ℕ) × R c b
      over_to_end = elim pair.ends [
        | inl q ↦ (m, subst (R m) (sym q.1) to_second)
        | inr q ↦ (m, subst (R m) (sym q.2) to_first)
      ]

    pub eliminates_here : Eliminates m R S
    eliminates_here = record {
      clear = record {
        from = λ a b s. elim ((adds v a b solves).0 s) [
          | inl o ↦ let w = (away v a b).0 o in w.1
          | inr k ↦ over_from a b k
        ];
        to = λ a b s. elim ((adds v a b solves).0 s) [
          | inl o ↦ let w = (away v a b).0 o in w.2
          | inr k ↦ over_to a b k
        ];
      };
      kept = λ a b na nb r. linked_one S a b ((adds v a b solves).1 (inl ((away v a b).1 (r, na, nb))));
      through = through;
      back = λ a b s. elim ((adds v a b solves).0 s) [
        | inl o ↦ let w = (away v a b).0 o in linked_one R a b w.0
        | inr k ↦ over_back a b k
      ];
      from_end = λ a b s. elim ((adds v a b solves).0 s) [
        | inl o ↦ let w = (away v a b).0 o in (b, w.0)
        | inr k ↦ over_from_end a b k
      ];
      to_end = λ a b s. elim ((adds v a b solves).0 s) [
        | inl o ↦ let w = (away v a b).0 o in (a, w.0)
        | inr k ↦ over_to_end a b k
      ];
    }

  pub eliminates : EliminatesNode terms m edges new
  eliminates v solves = eliminates_here v solves
