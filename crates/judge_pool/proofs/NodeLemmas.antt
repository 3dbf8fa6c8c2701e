-- Nodes by their places in a list.
use Rattle.std.proofs.Common.{◌≡◌, ℕ, ◌+◌, ◌<◌, ◌≤◌, List, length, slice_get, slice_index, Some, inl, inr, arith}
use Rattle.std.proofs.lemmas.List.{get_or_past}
use Rattle.std.proofs.lemmas.Option.{slice_get_within, slice_get-get_or, get_or_from_slice_get}
use Rattle.std.proofs.lemmas.Bool.{cases_lt}
use Rattle.station_graph.specs.declared.limits.TheConstants.{NODES}
use Rattle.contraction.specs.Answers.{AreNodes}
use Rattle.contraction.specs.Renaming.{KeepsOrder}
use Rattle.judge_pool.specs.Places.{node_listed}

-- the node at a place of the list
pub node_at : (list : List ℕ) (place n : ℕ) → slice_get list place ≡ Some n → node_listed list place ≡ n
node_at list place n at = get_or_from_slice_get list place n (NODES + place) at

-- Nodes, each below the limit of nodes.
module _ (list : List ℕ) (nodes : AreNodes list) where
  pub node_small : (place n : ℕ) → slice_get list place ≡ Some n → n < NODES
  node_small place n at =
      omega (arith, nodes.small place (slice_get_within list place n at), get_or_from_slice_get list place n 0 at)

  -- past its end the numbers go on from that limit
  pub node_past : (place : ℕ) → length list ≤ place → node_listed list place ≡ NODES + place
  node_past place out = get_or_past list place (NODES + place) out

  -- a later place has a later node
  pub places_rise : KeepsOrder (node_listed list)
  places_rise a b less = elim (cases_lt b (length list)) [
    | inl b_in ↦
        let at_a = slice_get-get_or list a 0 (omega (arith, less, b_in)) in
        let at_b = slice_get-get_or list b 0 b_in in
        omega (
          arith,
          node_at list a (slice_index list a) at_a,
          node_at list b (slice_index list b) at_b,
          nodes.rises a b less b_in,
        )
    | inr b_out ↦ elim (cases_lt a (length list)) [
      | inl a_in ↦
          let at_a = slice_get-get_or list a 0 a_in in
          omega (
            arith,
            node_at list a (slice_index list a) at_a,
            node_small a (slice_index list a) at_a,
            node_past b (omega (arith, b_out)),
          )
      | inr a_out ↦ omega (arith, node_past a (omega (arith, a_out)), node_past b (omega (arith, b_out)), less)
    ]
  ]
