-- What is read off the edges that are left at the ends of a switch is exact.
use Rattle.std.proofs.Common.{◌≡◌, ◌≢◌, ◌<◌, ◌⊎◌, ◌↔◌, ℕ, List, length, slice_get, Some, None, refl, sym, ◌∙◌}
use Rattle.std.proofs.Common.{ap, subst, inl, inr, arith}
use Rattle.std.specs.Prelude.{Option, MatchOption}
use Rattle.std.proofs.lemmas.Option.{slice_get_within}
use Rattle.ilk_base.specs.declared.words.NodeId.{NodeId}
use Rattle.ilk_base.specs.declared.words.Direction.{Direction}
use Rattle.station_graph.specs.declared.items.Switch.{Switch}
use Rattle.station_graph.specs.Diagram.{Diagram, IsStation, SwitchFits, node_count}
use Rattle.station_graph.specs.Connection.{a_switch}
use Rattle.station_graph.specs.Sharing.{Touches}
use Rattle.station_graph.specs.Alike.{IsVector}
use Rattle.station_graph.proofs.PartialEdges.{second_fits}
use Rattle.contraction.specs.Stands.{AllBut}
use Rattle.interlock_terms.specs.declared.term.Term.{Term}
use Rattle.interlock_terms.specs.Terms.{Values, Solves}
use Rattle.short_equations.specs.declared.edge.TheConstants.{FIRST_MARK}
use Rattle.short_equations.specs.declared.edge.Edge.{Edge}
use Rattle.short_equations.specs.declared.view.View.{View}
use Rattle.short_equations.specs.declared.view.View.TheVariants.{Gap, Load, Bond}
use Rattle.short_equations.specs.declared.pair.TermPair.{TermPair}
use Rattle.short_equations.specs.Edges.{Along, IsMark, IsOneBelow, StandsFor, IsTermTrue}
use Rattle.short_equations.specs.Signals.{LiveEnd, Tapped}
use Rattle.station_graph.specs.Connection.{Bonded}
use Rattle.station_graph.specs.CentralRules.{before}
use Rattle.short_equations.specs.Standing.{Replaces}
use Rattle.short_equations.specs.Sights.{SightBy, first_mark, second_mark}
use Rattle.short_equations.specs.Fragments.{IsOneOf, StandsForItems}
use Rattle.short_equations.specs.Pairs.{AreOtherNodes, IsFarEnd, IsReadout, IsExactPair, op_of}
use Rattle.short_equations.proofs.StandingLemmas.{replaces_then}
use Rattle.short_equations.proofs.EndsLemmas.{FromTwo, from_ends}
use Rattle.short_equations.proofs.ComposeSights.{sight_from, load_apart}
use Rattle.short_equations.proofs.TouchedNodes.{touched_in}
use Rattle.short_equations.proofs.GapEndLemmas.{on_term, earth_term}
use Rattle.short_equations.proofs.LoadEndLemmas.{live_exact, loaded_exact, bond_exact}

module _ (view : View) (d : Diagram) (station : IsStation d) (i : ℕ) (x : Switch)
    (listed : slice_get d.switches i ≡ Some x) (q : NodeId) (far : IsFarEnd x q) (terms : List Term) (e left : List Edge)
    (nodes : List NodeId) (others : AreOtherNodes (node_count d) x.first.0 q.0 nodes)
    (h : StandsForItems view d terms (AllBut (a_switch i)) e) (stands : StandsFor terms nodes (length nodes) e left) where
  abbrev Gone : ℕ → Type 0
  Gone n = IsOneOf h.gone n ⊎ IsOneBelow nodes (length nodes) n

  x_fits : SwitchFits d x
  x_fits = station.items.switches_fit i x listed

  at_far : (o : Option NodeId) → x.second ≡ o → MatchOption o (q ≡ x.first) (λ p. q ≡ p) → Touches d (a_switch i) q.0
  at_far None is same = (x, listed, inl (ap (λ (n : NodeId). n.0) (sym same)))
  at_far (Some p) is same = (x, listed, inr (p, is, ap (λ (n : NodeId). n.0) (sym same)))

  kept : (n : ℕ) → Touches d (a_switch i) n → ¬ IsOneOf h.gone n
  kept n t g = h.inner n g (a_switch i) t refl

  na : ¬ Gone x.first.0
  na (inl g) = kept x.first.0 (x, listed, inl refl) g
  na (inr k) = let w = (others x.first.0).0 k in w.1 refl

  nb : ¬ Gone q.0
  nb (inl g) = kept q.0 (at_far x.second refl far) g
  nb (inr k) = let w = (others q.0).0 k in w.2 refl

  gone_in : (n : ℕ) → Gone n → n < node_count d
  gone_in n (inl g) = h.nodes n g
  gone_in n (inr k) = ((others n).0 k).0

  rest : (n : ℕ) → n < node_count d → n ≢ x.first.0 → n ≢ q.0 → Gone n
  rest n low ne nf = inr ((others n).1 (low, ne, nf))

  marks : (n : ℕ) → IsMark n → ¬ Gone n
  marks n mark g = let low = gone_in n g in let few = station.items.nodes_few in omega (arith, low, few, mark)

  first_low : x.first.0 < FIRST_MARK
  first_low = let f = x_fits.first_in in let few = station.items.nodes_few in omega (arith, f, few)

  module _ (v : Values) (fits : IsVector d v.closed) (solves : Solves v terms) where
    rep : Replaces Gone (SightBy view (AllBut (a_switch i)) d v.closed) (Along v left)
    rep = replaces_then (IsOneOf h.gone) (IsOneBelow nodes (length nodes)) (SightBy view (AllBut (a_switch i)) d v.closed)
        (Along v e) (Along v left) (h.stands v fits solves) (stands v solves)

    m_in : i < length v.closed
    m_in = let w = slice_get_within d.switches i x listed in omega (arith, w, fits)

    two : FromTwo (Along v left) x.first.0 q.0
    two = from_ends (node_count d) x.first.0 q.0 Gone (SightBy view (AllBut (a_switch i)) d v.closed) (Along v left) rep
        (λ c f s. let t = sight_from view (AllBut (a_switch i)) d v.closed c f s in
        touched_in d station t.item c t.touches) rest

pub gap_exact : (d : Diagram) (station : IsStation d) (i : ℕ) (x : Switch) → slice_get d.switches i ≡ Some x →
    (q : NodeId) → IsFarEnd x q → (terms last : List Term) (e left : List Edge) (nodes : List NodeId) →
    AreOtherNodes (node_count d) x.first.0 q.0 nodes → StandsForItems Gap d terms (AllBut (a_switch i)) e →
    StandsFor terms nodes (length nodes) e left → ((v : Values) → Solves v last → Solves v terms) → (p : TermPair) →
    IsReadout Gap last left x.first.0 q.0 p → IsExactPair Gap d last i x p
gap_exact d station i x listed q far terms last e left nodes others h stands earlier p reads v direction fits solves =
    let s = earlier v solves in
    let r = rep Gap d station i x listed q far terms e left nodes others h stands v fits s in
    let G = Gone Gap d station i x listed q far terms e left nodes others h stands in
    let one = reads.0 v solves in
    let two_terms = reads.1 v solves in (
      λ other.
          let w = on_term d station (touched_in d station) (op_of i direction) x listed q far v.closed fits
          (m_in Gap d station i x listed q far terms e left nodes others h stands v fits s) G
          (na Gap d station i x listed q far terms e left nodes others h stands)
          (nb Gap d station i x listed q far terms e left nodes others h stands)
          (gone_in Gap d station i x listed q far terms e left nodes others h stands)
          (rest Gap d station i x listed q far terms e left nodes others h stands) (Along v left) r other in
          (λ z. w.0 (one.0 z), λ z. one.1 (w.1 z)),
      λ other.
          let w = earth_term d station (touched_in d station) (op_of i direction) x listed q far v.closed fits
          (m_in Gap d station i x listed q far terms e left nodes others h stands v fits s) G
          (na Gap d station i x listed q far terms e left nodes others h stands)
          (nb Gap d station i x listed q far terms e left nodes others h stands)
          (gone_in Gap d station i x listed q far terms e left nodes others h stands)
          (rest Gap d station i x listed q far terms e left nodes others h stands) (Along v left) r other in
          (λ z. w.0 (two_terms.0 z), λ z. two_terms.1 (w.1 z)),
    )

-- the far end of a switch with a second end is that
pub far_is : (x : Switch) (q p : NodeId) → IsFarEnd x q → x.second ≡ Some p → q ≡ p
far_is x q p far has = subst (λ o. MatchOption o (q ≡ x.first) (λ n. q ≡ n)) has far

module _ (d : Diagram) (station : IsStation d) (i : ℕ) (x : Switch) (listed : slice_get d.switches i ≡ Some x)
    (q : NodeId) (second : x.second ≡ Some q) where
  pub ends_differ : x.first.0 ≢ q.0
  ends_differ e = (second_fits d x q (station.items.switches_fit i x listed) second).2 (sym e)

  second_low : q.0 < FIRST_MARK
  second_low =
      let f = (second_fits d x q (station.items.switches_fit i x listed) second).1 in
      let few = station.items.nodes_few in
      omega (arith, f, few)

  far_there : IsFarEnd x q
  far_there = subst (λ o. MatchOption o (q ≡ x.first) (λ n. q ≡ n)) (sym second) refl

  module _ (terms last : List Term) (e left : List Edge) (nodes : List NodeId)
      (others : AreOtherNodes (node_count d) x.first.0 q.0 nodes) (stands : StandsFor terms nodes (length nodes) e left)
      (earlier : (v : Values) → Solves v last → Solves v terms) (p : TermPair) (direction : Direction) (v : Values)
      (fits : IsVector d v.closed) (solves : Solves v last) where
    pub load_exact : StandsForItems Load d terms (AllBut (a_switch i)) e → IsReadout Load last left x.first.0 q.0 p →
        (IsTermTrue v p.first ↔ LiveEnd d (before v.closed (op_of i direction)) x.first.0 q.0)
        × (LiveEnd d (before v.closed (op_of i direction)) x.first.0 q.0 →
        IsTermTrue v p.second ↔ (Tapped d (before v.closed (op_of i direction)) x.first.0
        × Tapped d (before v.closed (op_of i direction)) q.0))
    load_exact h reads =
        let s = earlier v solves in
        let G = Gone Load d station i x listed q far_there terms e left nodes others h stands in
        let mark = marks Load d station i x listed q far_there terms e left nodes others h stands in
        let live = live_exact d station.infeeds_tapped v.closed (op_of i direction) x listed
        (m_in Load d station i x listed q far_there terms e left nodes others h stands v fits s) q second
        ((second_fits d x q (station.items.switches_fit i x listed) second).0)
        (first_low Load d station i x listed q far_there terms e left nodes others h stands) second_low ends_differ G
        (na Load d station i x listed q far_there terms e left nodes others h stands)
        (nb Load d station i x listed q far_there terms e left nodes others h stands)
        (mark first_mark (omega arith)) (mark second_mark (omega arith)) (Along v left)
        (rep Load d station i x listed q far_there terms e left nodes others h stands v fits s)
        (two Load d station i x listed q far_there terms e left nodes others h stands v fits s)
        (load_apart d station (touched_in d station) (AllBut (a_switch i)) v.closed) in
        let loaded = loaded_exact d station.infeeds_tapped v.closed (op_of i direction) x listed
        (m_in Load d station i x listed q far_there terms e left nodes others h stands v fits s) q second
        ((second_fits d x q (station.items.switches_fit i x listed) second).0)
        (first_low Load d station i x listed q far_there terms e left nodes others h stands) second_low ends_differ G
        (na Load d station i x listed q far_there terms e left nodes others h stands)
        (nb Load d station i x listed q far_there terms e left nodes others h stands)
        (mark first_mark (omega arith)) (mark second_mark (omega arith)) (Along v left)
        (rep Load d station i x listed q far_there terms e left nodes others h stands v fits s)
        (two Load d station i x listed q far_there terms e left nodes others h stands v fits s)
        (load_apart d station (touched_in d station) (AllBut (a_switch i)) v.closed) in
        let one = reads.0 v solves in
        let both = reads.1 v solves in (
          (λ z. live.0 (one.0 z), λ z. one.1 (live.1 z)),
          λ l. let w = loaded l in (λ z. w.0 (both.0 z), λ z. both.1 (w.1 z)),
        )

    pub bonds_exact : StandsForItems Bond d terms (AllBut (a_switch i)) e → IsReadout Bond last left x.first.0 q.0 p →
        IsTermTrue v p.first ↔ Bonded d (before v.closed (op_of i direction)) x.first.0 q.0
    bonds_exact h reads =
        let s = earlier v solves in
        let G = Gone Bond d station i x listed q far_there terms e left nodes others h stands in
        let bond = bond_exact d station.infeeds_tapped v.closed (op_of i direction) x listed
        (m_in Bond d station i x listed q far_there terms e left nodes others h stands v fits s) q second
        ((second_fits d x q (station.items.switches_fit i x listed) second).0)
        (first_low Bond d station i x listed q far_there terms e left nodes others h stands) second_low ends_differ G
        (na Bond d station i x listed q far_there terms e left nodes others h stands)
        (nb Bond d station i x listed q far_there terms e left nodes others h stands) (Along v left)
        (rep Bond d station i x listed q far_there terms e left nodes others h stands v fits s)
        (two Bond d station i x listed q far_there terms e left nodes others h stands v fits s) in
        let one = reads v solves in
        (λ z. bond.0 (one.0 z), λ z. one.1 (bond.1 z))

-- IN EACH VIEW
pub pair_exact : (view : View) (d : Diagram) (station : IsStation d) (i : ℕ) (x : Switch) →
    slice_get d.switches i ≡ Some x → (q : NodeId) → IsFarEnd x q → (terms last : List Term) (e left : List Edge)
    (nodes : List NodeId) → AreOtherNodes (node_count d) x.first.0 q.0 nodes →
    StandsForItems view d terms (AllBut (a_switch i)) e → StandsFor terms nodes (length nodes) e left →
    ((v : Values) → Solves v last → Solves v terms) → (p : TermPair) →
    ((view ≡ Gap) ⊎ (x.first.0 ≢ q.0) → IsReadout view last left x.first.0 q.0 p) → IsExactPair view d last i x p
pair_exact Gap d station i x listed q far terms last e left nodes others h stands earlier p reads =
    gap_exact d station i x listed q far terms last e left nodes others h stands earlier p (reads (inl refl))
pair_exact Load d station i x listed q far terms last e left nodes others h stands earlier p reads =
    λ v direction fits solves n has.
    let same : n ≡ q = sym (far_is x q n far has) in
    let second : x.second ≡ Some q = has ∙ ap Some same in
    subst (λ (m : NodeId). (IsTermTrue v p.first ↔ LiveEnd d (before v.closed (op_of i direction)) x.first.0 m.0)
    × (LiveEnd d (before v.closed (op_of i direction)) x.first.0 m.0 →
    IsTermTrue v p.second ↔ (Tapped d (before v.closed (op_of i direction)) x.first.0
    × Tapped d (before v.closed (op_of i direction)) m.0))) (sym same)
    (load_exact d station i x listed q second terms last e left nodes others stands earlier p direction v fits solves h
    (reads (inr (ends_differ d station i x listed q second))))
pair_exact Bond d station i x listed q far terms last e left nodes others h stands earlier p reads =
    λ v direction fits solves n has.
    let same : n ≡ q = sym (far_is x q n far has) in
    let second : x.second ≡ Some q = has ∙ ap Some same in
    subst (λ (m : NodeId). IsTermTrue v p.first ↔ Bonded d (before v.closed (op_of i direction)) x.first.0 m.0) (sym same)
    (bonds_exact d station i x listed q second terms last e left nodes others stands earlier p direction v fits solves h
    (reads (inr (ends_differ d station i x listed q second))))

-- the ends of a switch are nodes
pub first_end_low : (d : Diagram) → IsStation d → (x : Switch) → SwitchFits d x → x.first.0 < FIRST_MARK
first_end_low d station x fits = let f = fits.first_in in let few = station.items.nodes_few in omega (arith, f, few)

pub far_end_low : (d : Diagram) → IsStation d → (x : Switch) → SwitchFits d x → (q : NodeId) → IsFarEnd x q →
    q.0 < FIRST_MARK
far_end_low d station x fits q far = by x.second refl far
  where
    by : (o : Option NodeId) → x.second ≡ o → MatchOption o (q ≡ x.first) (λ p. q ≡ p) → q.0 < FIRST_MARK
    by None e h = subst (λ (n : NodeId). n.0 < FIRST_MARK) (sym h) (first_end_low d station x fits)
    by (Some p) e h =
        let few = station.items.nodes_few in
        let f = (second_fits d x p fits e).1 in
        subst (λ (n : NodeId). n.0 < FIRST_MARK) (sym h) (omega (arith, few, f))
