-- The nodes of a station but two, and what one of two nodes sees.
use Rattle.std.proofs.Common.{◌≡◌, ◌≢◌, ◌⊎◌, ◌↔◌, ◌<◌, ◌+◌, ◌++◌, ◌∷◌, ℕ, List, [], length, slice_get}
use Rattle.std.proofs.Common.{Some, refl, sym, ◌∙◌, subst, inl, inr, arith}
use Rattle.std.specs.Prelude.{Option}
use Rattle.std.proofs.lemmas.Bool.{cases_eq}
use Rattle.std.proofs.lemmas.Option.{slice_get_within}
use Rattle.ilk_base.specs.declared.words.NodeId.{NodeId}
use Rattle.station_graph.specs.Diagram.{Diagram, IsStation, node_count}
use Rattle.short_equations.specs.declared.edge.TheConstants.{FIRST_MARK}
use Rattle.short_equations.specs.declared.edge.Edge.{Edge}
use Rattle.interlock_terms.specs.declared.term.Term.{Term}
use Rattle.interlock_terms.specs.Terms.{Values, Solves, Grew}
use Rattle.interlock_terms.proofs.TermLemmas.{grew_solves}
use Rattle.short_equations.specs.Edges.{IsTermTrue, MeansWay, Along}
use Rattle.short_equations.specs.Sights.{second_mark}
use Rattle.short_equations.specs.Pairs.{AreOtherNodes, MeansSeen, MeansBetween, MeansLoaded}
use Rattle.short_equations.proofs.SomeLemmas.{some_pushed, some_pushed_old, some_pushed_new}

-- the nodes but two
abbrev pub OthersBelow : ℕ → ℕ → ℕ → List NodeId → Type 0
OthersBelow i a b nodes = AreOtherNodes i a b nodes

pub others_push : (i a b : ℕ) (nodes : List NodeId) (n : NodeId) → n.0 ≡ i → OthersBelow i a b nodes →
    (i ≢ a) × (i ≢ b) → OthersBelow (i + 1) a b (nodes ++ n ∷ [])
others_push i a b nodes n e h ne k = (
  λ s. elim (some_pushed nodes (λ (m : NodeId). k ≡ m.0) n s) [
    | inl old ↦ let w = (h k).0 old in let low = w.0 in (omega (arith, low), w.1, w.2)
    | inr new ↦ (omega (arith, new, e), subst (λ j. j ≢ a) (sym (new ∙ e)) ne.0, subst (λ j. j ≢ b) (sym (new ∙ e)) ne.1)
  ],
  λ (low, na, nb). elim (cases_eq k i) [
    | inl q ↦ some_pushed_new nodes (λ (m : NodeId). k ≡ m.0) n (q ∙ sym e)
    | inr far ↦ some_pushed_old nodes (λ (m : NodeId). k ≡ m.0) n ((h k).1 (omega (arith, low, far), na, nb))
  ],
)

pub others_pass : (i a b : ℕ) (nodes : List NodeId) → OthersBelow i a b nodes → (((i ≢ a) × (i ≢ b)) → ⊥) →
    OthersBelow (i + 1) a b nodes
others_pass i a b nodes h none k = (
  λ s. let w = (h k).0 s in let low = w.0 in (omega (arith, low), w.1, w.2),
  λ (low, na, nb). elim (cases_eq k i) [
    | inl q ↦ absurd (none (subst (λ j. j ≢ a) q na, subst (λ j. j ≢ b) q nb))
    | inr far ↦ (h k).1 (omega (arith, low, far), na, nb)
  ],
)

pub seen_means : (one two three : List Term) (edges : List Edge) (a b mark : ℕ) (p q t : Option ℕ) → Grew one two →
    Grew two three → MeansWay one edges (length edges) a mark p → MeansWay two edges (length edges) b mark q →
    ((v : Values) → Solves v three → IsTermTrue v t ↔ (IsTermTrue v p ⊎ IsTermTrue v q)) →
    MeansSeen three edges a b mark t
seen_means one two three edges a b mark p q t g h mp mq m v solves =
    let s2 = grew_solves two three v h solves in
    let x = mp v (grew_solves one two v g s2) in
    let y = mq v s2 in
    let z = m v solves in (
      λ k. elim (z.0 k) [ inl l ↦ inl (x.0 l) | inr l ↦ inr (y.0 l) ],
      λ k. z.1 (elim k [ inl l ↦ inl (x.1 l) | inr l ↦ inr (y.1 l) ]),
    )

pub nodes_small : (d : Diagram) → IsStation d → (a b : ℕ) (nodes : List NodeId) → AreOtherNodes (node_count d) a b nodes →
    (i : ℕ) (n : NodeId) → slice_get nodes i ≡ Some n → n.0 < FIRST_MARK
nodes_small d station a b nodes h i n at =
    let w = (h n.0).0 (record {
      place = i;
      item = n;
      below = slice_get_within nodes i n at;
      listed = at;
      holds = refl;
    }) in
    let low = w.0 in
    let few = station.items.nodes_few in
    omega (arith, low, few)

pub seen_grew : (one two : List Term) (edges : List Edge) (a b mark : ℕ) (t : Option ℕ) → Grew one two →
    MeansSeen one edges a b mark t → MeansSeen two edges a b mark t
seen_grew one two edges a b mark t g m v solves = m v (grew_solves one two v g solves)

-- between nodes edges lead either way
along_back : (v : Values) (edges : List Edge) (a b : ℕ) → a < FIRST_MARK → b < FIRST_MARK → Along v edges a b →
    Along v edges b a
along_back v edges a b low lower s = record {
  place = s.place;
  item = s.item;
  below = s.below;
  listed = s.listed;
  holds = record {
    there = s.holds.there;
    ends = elim s.holds.ends [
      | inl e ↦ let at = e.1 in inr (omega (arith, at, lower), e.1, e.0)
      | inr e ↦ inl (e.2, e.1)
    ];
  };
}

pub between_turned : (terms : List Term) (edges : List Edge) (a b : ℕ) → a < FIRST_MARK → b < FIRST_MARK →
    (t : Option ℕ) → MeansWay terms edges (length edges) b a t → MeansBetween terms edges a b t
between_turned terms edges a b low lower t m v solves =
    let w = m v solves in (
      λ h. along_back v edges b a lower low (w.0 h),
      λ s. w.1 (along_back v edges a b low lower s),
    )

pub loaded_means : (one two three four five : List Term) (edges : List Edge) (a b : ℕ) (joined p q tapped t : Option ℕ) →
    Grew one two → Grew two three → Grew three four → Grew four five → MeansBetween one edges a b joined →
    MeansWay two edges (length edges) a second_mark p → MeansWay three edges (length edges) b second_mark q →
    ((v : Values) → Solves v four → IsTermTrue v tapped ↔ (IsTermTrue v p × IsTermTrue v q)) →
    ((v : Values) → Solves v five → IsTermTrue v t ↔ (IsTermTrue v joined ⊎ IsTermTrue v tapped)) →
    MeansLoaded five edges a b t
loaded_means one two three four five edges a b joined p q tapped t g h i j mj mp mq mt m v solves =
    let s4 = grew_solves four five v j solves in
    let s3 = grew_solves three four v i s4 in
    let s2 = grew_solves two three v h s3 in
    let s1 = grew_solves one two v g s2 in
    let x = mp v s2 in
    let y = mq v s3 in
    let w = mt v s4 in
    let z = mj v s1 in
    let r = m v solves in (
      λ k. elim (r.0 k) [ inl l ↦ inl (z.0 l) | inr l ↦ let e = w.0 l in inr (x.0 e.0, y.0 e.1) ],
      λ k. r.1 (elim k [ inl l ↦ inl (z.1 l) | inr l ↦ inr (w.1 (x.1 l.0, y.1 l.1)) ]),
    )
