-- Values that stand on the nodes of a list as they are.
use Rattle.std.proofs.Common.{◌≡◌, ℕ, ◌↔◌, List, length, slice_get, Some, sym, ap, ◌∙◌, subst}
use Rattle.std.specs.Prelude.{Contains}
use Rattle.std.proofs.lemmas.Option.{same_Some}
use Rattle.contraction.specs.Answers.{Answers, Keeps, AreNodes}
use Rattle.contraction.proofs.PlaceLemmas.{keeps_from_has, has_from_keeps}
use Rattle.contraction.proofs.RisingLemmas.{rising_equal}
use Rattle.judge_pool.specs.declared.pool.Pool.{Pool}
use Rattle.judge_pool.specs.Pooling.{IsPool, LeadsOn}
use Rattle.judge_pool.specs.Standing.{AreOn, KeepsNodes}
use Rattle.judge_pool.proofs.StandLemmas.{all_own}

-- values that all keep the nodes stand on them where the first does
module _ (p : Pool) (h : IsPool p) (keep : ℕ) (ids nodes : List ℕ) (at : slice_get p.keeps.items keep ≡ Some nodes)
    (same : (k i : ℕ) → slice_get ids k ≡ Some i → KeepsNodes p keep i) (first : ℕ) (at_first : slice_get ids 0 ≡ Some first)
    (first_is : (x : Answers) → slice_get p.values.items first ≡ Some x → x.kept ≡ nodes) where
  are : AreNodes nodes
  are =
      let w = same 0 first at_first in
      subst AreNodes (first_is w.x w.listed) (h.well first w.x w.listed).nodes

  each : (k i : ℕ) (x : Answers) → slice_get ids k ≡ Some i → slice_get p.values.items i ≡ Some x → x.kept ≡ nodes
  each k i x at_i at_x =
      let w = same k i at_i in
      let is_x : w.x ≡ x = same_Some w.x x (sym w.listed ∙ at_x) in
      let sets : (n : ℕ) → Keeps w.x.kept n ↔ Contains nodes n =
      subst (λ (ns : List ℕ). (n : ℕ) → Keeps w.x.kept n ↔ Contains ns n) (same_Some w.nodes nodes (sym w.at ∙ at)) w.same
      in
      ap (λ (a : Answers). a.kept) (sym is_x)
      ∙ rising_equal w.x.kept nodes (h.well i w.x w.listed).nodes.rises are.rises
      (λ n. (λ k. keeps_from_has nodes n ((sets n).0 k), λ k. (sets n).1 (has_from_keeps nodes n k)))

  pub own_list : AreOn p keep ids ids
  own_list =
      all_own p keep ids nodes at
      (λ k i at_i.
      let w = same k i at_i in
      record {
        x = w.x;
        nodes = nodes;
        listed = w.listed;
        at = at;
        are = are;
        count = ap length (sym (each k i w.x at_i w.listed));
      }) each

-- those to which a layer leads keep the nodes behind it
pub leads_keep : (p : Pool) (k : ℕ) (states row next edges : List ℕ) → LeadsOn p k states row next edges → (m i : ℕ) →
    slice_get next m ≡ Some i → KeepsNodes p k i
leads_keep p k states row next edges h m i at =
    let hit = h.edges_lead.hit m i at in
    let led = h.edges_lead.made hit.0 hit.1 hit.2 hit.3 hit.4 hit.5 in
    let is : led.id ≡ i = same_Some led.id i (sym led.at ∙ (ap (slice_get next) hit.6 ∙ at)) in
    record {
      x = led.made.value;
      nodes = h.nodes;
      listed = subst (λ (t : ℕ). slice_get p.values.items t ≡ Some led.made.value) is led.made.listed;
      at = h.kept;
      same = led.made.kept;
    }
