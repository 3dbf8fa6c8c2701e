-- Two graphs in a row.
use Rattle.std.proofs.Common.{◌≡◌, ℕ, ◌<◌, zero, suc, Bool, List, [], ◌∷◌, length, get_or, drop, refl, sym, ap, ◌∙◌}
use Rattle.std.proofs.Common.{subst, arith}
use Rattle.std.proofs.lemmas.Bool.{false≢true}
use Rattle.decision_graphs.specs.Label.{Layer, Layered, layer_at, leads, step, label_of, AreAllowed, AreLayers, size_at}
use Rattle.decision_graphs.specs.Label.{Reaches}
use Rattle.decision_graphs.specs.Reaching.{AreSetsOf, IsSet, set_at, MarksReached}
use Rattle.release_compile.specs.Chaining.{AreInARow, FirstAllows, LeadThrough, IsChain, NoneLeads}

-- what is set is within the list
set_within : (s : List Bool) (c : ℕ) → IsSet s c → c < length s
set_within [] c h = absurd (false≢true h)
set_within (b ∷ s) zero h = omega arith
set_within (b ∷ s) (suc c) h = omega (arith, set_within s c h)

sets_head : (l : Layer) (ls : List Layer) (s : List Bool) (ss : List (List Bool)) → AreSetsOf (l ∷ ls) (s ∷ ss) →
    length s ≡ l.choices
sets_head l ls s ss e = cc

sets_tail : (l : Layer) (ls : List Layer) (s : List Bool) (ss : List (List Bool)) → AreSetsOf (l ∷ ls) (s ∷ ss) →
    AreSetsOf ls ss
sets_tail l ls s ss e = cc

-- allowed choices lead to a label of the graph
pub leads_in : (labels : ℕ) (ls : List Layer) (sets : List (List Bool)) (cs : List ℕ) (k : ℕ) → AreLayers labels ls →
    AreSetsOf ls sets → AreAllowed sets cs → k < size_at labels ls 0 → leads ls k cs < labels
leads_in labels [] sets cs k fit fits allows k_in = k_in
leads_in labels (l ∷ ls) [] cs k fit fits allows k_in = absurd (cc)
leads_in labels (l ∷ ls) (s ∷ ss) [] k fit fits allows k_in = absurd allows
leads_in labels (l ∷ ls) (s ∷ ss) (c ∷ cs) k fit fits allows k_in =
    let c_in = set_within s c allows.0 in
    let here : c < l.choices = omega (arith, c_in, sets_head l ls s ss fits) in
    leads_in labels ls ss cs (step l k c) fit.1 (sets_tail l ls s ss fits) allows.1 (fit.0.edges k c k_in here)

some_node : (labels : ℕ) (ls : List Layer) → AreLayers labels ls → 0 < size_at labels ls 0
some_node labels [] fit = fit
some_node labels (l ∷ ls) fit = fit.0.nodes

pub label_in : (g : Layered) (sets : List (List Bool)) (cs : List ℕ) → AreLayers g.labels g.layers →
    AreSetsOf g.layers sets → AreAllowed sets cs → label_of g cs < g.labels
label_in g sets cs fit fits allows =
    leads_in g.labels g.layers sets cs 0 fit fits allows (some_node g.labels g.layers fit)

-- the sets of a graph that has a layer
pub split_sets : (ls : List Layer) (sets : List (List Bool)) → 0 < length ls → AreSetsOf ls sets →
    sets ≡ set_at sets 0 ∷ drop 1 sets
split_sets [] sets some fits = absurd (omega arith)
split_sets (l ∷ ls) [] some fits = absurd (cc)
split_sets (l ∷ ls) (s ∷ ss) some fits = refl

module _ (outer inner : Layered) (sets inner_sets : List (List Bool)) (marks : List Bool) (goal : ℕ)
    (fit : AreLayers outer.labels outer.layers) (row : AreInARow outer inner) (fits : AreSetsOf outer.layers sets)
    (inner_fits : AreSetsOf inner.layers inner_sets) (reached : MarksReached outer sets marks)
    (first : FirstAllows inner_sets marks) where
  joined : (s : List Bool) (ss : List (List Bool)) (c : ℕ) (ds : List ℕ) → inner_sets ≡ s ∷ ss → IsSet s c →
      AreAllowed ss ds → AreAllowed inner_sets (c ∷ ds)
  joined s ss c ds e h a = subst (λ xs. AreAllowed xs (c ∷ ds)) (sym e) (h, a)

  -- what leads through is a list of choices of the second graph
  pub through : (cs ds : List ℕ) → LeadThrough outer inner sets inner_sets goal cs ds → Reaches inner inner_sets goal
  through cs ds l =
      let label = label_of outer cs in
      let within = label_in outer sets cs fit fits l.outer_allows in
      let marked : IsSet marks label = (reached label within).1 (cs, (l.outer_allows, refl)) in
      let allowed = (first label).1 marked in (
        label ∷ ds,
        (
          joined (set_at inner_sets 0) (drop 1 inner_sets) label ds
              (split_sets inner.layers inner_sets row.some inner_fits) allowed l.inner_allows,
          l.led,
        ),
      )

  pub none_leads : (Reaches inner inner_sets goal → ⊥) → NoneLeads outer inner sets inner_sets goal
  none_leads none cs ds l = none (through cs ds l)

  -- the first choice of a list that the second graph allows
  split_allowed : (ss : List (List Bool)) (all : List ℕ) (s : List Bool) (rest : List (List Bool)) → ss ≡ s ∷ rest →
      AreAllowed ss all → (ds : List ℕ) × (all ≡ get_or all 0 0 ∷ ds) × IsSet s (get_or all 0 0) × AreAllowed rest ds
  split_allowed [] all s rest e a = absurd (cc)
  split_allowed (t ∷ ts) [] s rest e a = absurd a
  split_allowed (t ∷ ts) (c ∷ cs) s rest e a =
      let heads : t ≡ s = cc in
      let tails : ts ≡ rest = cc in
      (cs, refl, subst (λ x. IsSet x c) heads a.0, subst (λ x. AreAllowed x cs) tails a.1)

  module _ (all : List ℕ) (allowed : AreAllowed inner_sets all) where
    pub parts : (ds : List ℕ) × (all ≡ get_or all 0 0 ∷ ds) × IsSet (set_at inner_sets 0) (get_or all 0 0)
        × AreAllowed (drop 1 inner_sets) ds
    parts =
        split_allowed inner_sets all (set_at inner_sets 0) (drop 1 inner_sets)
        (split_sets inner.layers inner_sets row.some inner_fits) allowed

    pub some_choice : 0 < length all
    some_choice = omega (arith, ap length parts.1)

    pub first_in : get_or all 0 0 < outer.labels
    first_in = omega (
      arith,
      set_within (set_at inner_sets 0) (get_or all 0 0) parts.2,
      first_len inner.layers inner_sets row.some inner_fits,
      row.labels,
    )
      where
        first_len : (ls : List Layer) (ss : List (List Bool)) → 0 < length ls → AreSetsOf ls ss →
            length (set_at ss 0) ≡ (layer_at ls 0).choices
        first_len [] ss some e = absurd (omega arith)
        first_len (l ∷ ls) [] some e = absurd (cc)
        first_len (l ∷ ls) (s ∷ ss) some e = cc

    pub is_marked : IsSet marks (get_or all 0 0)
    is_marked = (first (get_or all 0 0)).0 parts.2

    pub is_chain : (cs : List ℕ) → AreAllowed sets cs → label_of outer cs ≡ get_or all 0 0 → label_of inner all ≡ goal →
        IsChain outer inner sets inner_sets goal cs all
    is_chain cs a e led = record {
      rest = parts.0;
      split = parts.1 ∙ ap (λ c. c ∷ parts.0) (sym e);
      leads = record {
        outer_allows = a;
        inner_allows = parts.3;
        led = ap (λ c. label_of inner (c ∷ parts.0)) e ∙ ap (label_of inner) (sym parts.1) ∙ led;
      };
    }
