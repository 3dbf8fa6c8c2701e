-- All that comes after a layer is marked at once.
use Rattle.std.proofs.Common.{◌≡◌, ℕ, ◌+◌, ◌/◌, ◌%◌, ◌<◌, ◌≤◌, ◌⊎◌, ◌↔◌, suc, List, length, get_or, ap, sym, ◌∙◌}
use Rattle.std.proofs.Common.{subst, arith, inl, inr, Bool}
use Rattle.std.proofs.lemmas.Bool.{cases_lt}
use Rattle.std.proofs.lemmas.Nat.{div_below, mod_below}
use Rattle.std.proofs.lemmas.Nat.{div-add-mod'}
use Rattle.decision_graphs.specs.declared.arrival.Arrival.{Arrival}
use Rattle.decision_graphs.specs.declared.shape.Shape.{Shape}
use Rattle.decision_graphs.specs.Shapes.{GraphLists, shape_at, nodes_of, size_of, place}
use Rattle.decision_graphs.specs.Whole.{IsWhole}
use Rattle.decision_graphs.specs.Reaching.{IsSet, NodesLead}
use Rattle.decision_graphs.specs.Arriving.{NodeArrives, LayerNotes, Stays, arrival_at}
use Rattle.decision_graphs.specs.Ways.{AreWays, AllMarked, AllAllowed, IsOneOf, IsEdgeNote, WayArrives, WayNotes}
use Rattle.decision_graphs.proofs.FrontierLemmas.{after_layer, after_within}
use Rattle.decision_graphs.proofs.ReachLemmas.{Spread}

-- an edge to each place leads where all edges of marked nodes do
pub Spread-ways : (s : Shape) (es ways : List ℕ) (allowed old new : List Bool) → 0 < s.choices → AreWays s es ways →
    AllMarked s old → AllAllowed s.choices allowed →
    ((i : ℕ) → IsSet new i ↔ (IsSet old i ⊎ IsOneOf (length ways) (s.first + s.nodes) i)) →
    Spread s.nodes s es allowed old new
Spread-ways s es ways allowed old new some are marked allows step i = (forward, back)
  where
    led : IsOneOf (length ways) (s.first + s.nodes) i → NodesLead s.nodes s es allowed old i
    led h =
        let p = get_or ways h.to 0 in
        let node : p / s.choices < s.nodes = div_below p s.choices s.nodes some (are.within h.to h.to_in) in
        let choice : p % s.choices < s.choices = mod_below p s.choices some in
        record {
          node = p / s.choices;
          choice = p % s.choices;
          node_in = node;
          choice_in = choice;
          is_marked = marked (p / s.choices) node;
          allows = allows (p % s.choices) choice;
          leads = ap (λ q. s.first + s.nodes + get_or es (s.base + q) 0) (div-add-mod' p s.choices)
              ∙ (ap (λ t. s.first + s.nodes + t) (are.lead h.to h.to_in) ∙ h.is);
        }

    forward : IsSet new i → IsSet old i ⊎ NodesLead s.nodes s es allowed old i
    forward h = elim ((step i).0 h) [ inl q ↦ inl q | inr q ↦ inr (led q) ]

    back : IsSet old i ⊎ NodesLead s.nodes s es allowed old i → IsSet new i
    back (inl q) = (step i).1 (inl q)
    back (inr h) = (step i).1 (inr (record {
      to = get_or es (place s h.node h.choice) 0;
      to_in = are.all h.node h.choice h.node_in h.choice_in;
      is = h.leads;
    }))

-- and what is noted of it are edges of marked nodes
pub LayerNotes-ways : (s : Shape) (es ways : List ℕ) (allowed old new : List Bool) (before after : List Arrival) →
    AreWays s es ways → AllMarked s old → AllAllowed s.choices allowed →
    WayNotes (length ways) s ways (s.first + s.nodes) old new before after →
    LayerNotes s.nodes s es allowed old new before after
LayerNotes-ways s es ways allowed old new before after are marked allows notes i =
    elim (notes i) [ inl t ↦ inl t | inr w ↦ inr (arrives w) ]
  where
    arrives : WayArrives (length ways) s ways (s.first + s.nodes) i (arrival_at after i) →
        NodeArrives s.nodes s es allowed old i (arrival_at after i)
    arrives w = record {
      node = w.noted.node;
      node_in = w.noted.node_in;
      node_is = w.noted.node_is;
      choice_in = w.noted.choice_in;
      is_marked = marked w.noted.node w.noted.node_in;
      allows = allows (arrival_at after i).choice w.noted.choice_in;
      leads = ap (λ q. s.first + s.nodes + get_or es (s.base + q) 0) w.noted.place_is
          ∙ (ap (λ t. s.first + s.nodes + t) (are.lead w.to w.to_in) ∙ w.is);
    }

-- what comes after a layer has its places among the marks
pub ways_fit : (g : GraphLists) (j : ℕ) → IsWhole g → j < length g.shapes →
    (shape_at g j).first + (shape_at g j).nodes + size_of g (suc j) ≤ nodes_of g + g.labels
ways_fit g j whole lt = omega (arith, after_layer g j whole.laid lt, after_within g (suc j) lt)

-- one place more is marked
pub marks_more : (n next : ℕ) (old mid new : List Bool) →
    ((i : ℕ) → IsSet mid i ↔ (IsSet old i ⊎ IsOneOf n next i)) →
    ((i : ℕ) → IsSet new i ↔ (IsSet mid i ⊎ (next + n ≡ i))) →
    (i : ℕ) → IsSet new i ↔ (IsSet old i ⊎ IsOneOf (n + 1) next i)
marks_more n next old mid new inv step i = (forward, back)
  where
    forward : IsSet new i → IsSet old i ⊎ IsOneOf (n + 1) next i
    forward h = elim ((step i).0 h) [
      | inl q ↦ elim ((inv i).0 q) [
        | inl o ↦ inl o
        | inr o ↦ inr (record { to = o.to; to_in = omega (arith, o.to_in); is = o.is })
      ]
      | inr e ↦ inr (record { to = n; to_in = omega arith; is = e })
    ]

    back_to : (h : IsOneOf (n + 1) next i) → (h.to < n) ⊎ (n ≤ h.to) → IsSet new i
    back_to h (inl lt) = (step i).1 (inl ((inv i).1 (inr (record { to = h.to; to_in = lt; is = h.is }))))
    back_to h (inr ge) = (step i).1 (inr (omega (arith, h.is, h.to_in, ge)))

    back : IsSet old i ⊎ IsOneOf (n + 1) next i → IsSet new i
    back (inl q) = (step i).1 (inl ((inv i).1 (inl q)))
    back (inr h) = back_to h (cases_lt h.to n)

-- and what is noted of it
pub notes_more : (n : ℕ) (s : Shape) (ways : List ℕ) (next : ℕ) (old mid new : List Bool)
    (before between after : List Arrival) → WayNotes n s ways next old mid before between →
    ((i : ℕ) → Stays mid new between after i
    ⊎ ((next + n ≡ i) × IsEdgeNote s (get_or ways n 0) (arrival_at after i))) →
    WayNotes (n + 1) s ways next old new before after
notes_more n s ways next old mid new before between after inv step i =
    elim (step i) [
      | inl t ↦ elim (inv i) [
        | inl u ↦ inl (record { mark = t.mark ∙ u.mark; arrival = t.arrival ∙ u.arrival })
        | inr w ↦ inr (subst (λ a. WayArrives (n + 1) s ways next i a) (sym t.arrival)
            (record { to = w.to; to_in = omega (arith, w.to_in); is = w.is; noted = w.noted }))
      ]
      | inr h ↦ inr (record { to = n; to_in = omega arith; is = h.0; noted = h.1 })
    ]
