-- Partners and bays, part by part.
use Rattle.std.proofs.Common.{◌≡◌, ◌↔◌, ℕ, ◌+◌, ◌<◌, List, [], ◌∷◌, ◌++◌, length, map, slice_get, Some, Contains, sym}
use Rattle.std.proofs.Common.{ap, ◌∙◌, subst, inl, inr, arith}
use Rattle.std.proofs.lemmas.List.{map-append}
use Rattle.station_graph.specs.Diagram.{Diagram, part_count}
use Rattle.station_graph.proofs.PathLemmas.{slice_get-push}
use Rattle.central_rules.specs.Meaning.{IsBay}
use Rattle.part_alphabets.specs.PartAlphabets.{Alphabets, size_of}
use Rattle.part_alphabets.specs.Alphabets.{AreAlphabets}
use Rattle.judge_graphs.proofs.EdgesLemmas.{alphabet_counts}
use Rattle.exchange_plan.specs.declared.planned.PartnerBits.{PartnerBits}
use Rattle.exchange_plan.specs.declared.planned.BayPlan.{BayPlan}
use Rattle.exchange_plan.specs.Planning.{IsPartnerOf, HasSize, partner_bays, ArePartners, planned_bays, IsPlan}
use Rattle.exchange_plan.proofs.RisingLemmas.{AreBelow, below_push, below_pass}

-- ---- the partners of a bay

-- The partners of the bay among the first n parts.
pub record PartnersBelow (d : Diagram) (b : ℕ) (list : List PartnerBits) (n : ℕ) : Type 0 where
  pub keys : AreBelow (IsPartnerOf d b) (partner_bays list) n
  pub bits : (i : ℕ) (x : PartnerBits) → slice_get list i ≡ Some x → HasSize d x.bay.0 x.bits

pub partners_more : (d : Diagram) (b : ℕ) (list : List PartnerBits) (n : ℕ) (x : PartnerBits) →
    PartnersBelow d b list n → x.bay.0 ≡ n → IsPartnerOf d b n → HasSize d n x.bits →
    PartnersBelow d b (list ++ x ∷ []) (n + 1)
partners_more d b list n x h is partner size = record {
  keys =
      let e : partner_bays (list ++ x ∷ []) ≡ partner_bays list ++ n ∷ [] =
      map-append (λ (y : PartnerBits). y.bay.0) list (x ∷ []) ∙ ap (λ k. partner_bays list ++ k ∷ []) is in
      subst (λ keys. AreBelow (IsPartnerOf d b) keys (n + 1)) (sym e)
      (below_push (IsPartnerOf d b) (partner_bays list) n h.keys partner);
  bits = λ i y at. elim (slice_get-push list x y i at) [
    | inl before ↦ h.bits i y before
    | inr here ↦
        subst (λ (z : PartnerBits). HasSize d z.bay.0 z.bits) here.1 (subst (λ k. HasSize d k x.bits) (sym is) size)
  ];
}

pub partners_pass : (d : Diagram) (b : ℕ) (list : List PartnerBits) (n : ℕ) → PartnersBelow d b list n →
    ¬ IsPartnerOf d b n → PartnersBelow d b list (n + 1)
partners_pass d b list n h fails = record {
  keys = below_pass (IsPartnerOf d b) (partner_bays list) n h.keys fails;
  bits = h.bits;
}

pub partners_all : (d : Diagram) (b : ℕ) (list : List PartnerBits) (n : ℕ) → PartnersBelow d b list n →
    n ≡ part_count d → ArePartners d b list
partners_all d b list n h is = record {
  rises = h.keys.rises;
  exact = λ p. (λ c. ((h.keys.exact p).0 c).1, λ w. (h.keys.exact p).1 (omega (arith, w.other.0, is), w));
  bits = h.bits;
}

-- ---- the bays of a station

-- The bays among the first n parts, each with its partners.
pub record BaysBelow (d : Diagram) (plan : List BayPlan) (n : ℕ) : Type 0 where
  pub keys : AreBelow (IsBay d) (planned_bays plan) n
  pub partners : (i : ℕ) (x : BayPlan) → slice_get plan i ≡ Some x → ArePartners d x.bay.0 x.partners.items

pub bays_more : (d : Diagram) (plan : List BayPlan) (n : ℕ) (x : BayPlan) → BaysBelow d plan n → x.bay.0 ≡ n →
    IsBay d n → ArePartners d n x.partners.items → BaysBelow d (plan ++ x ∷ []) (n + 1)
bays_more d plan n x h is bay partners = record {
  keys =
      let e : planned_bays (plan ++ x ∷ []) ≡ planned_bays plan ++ n ∷ [] =
      map-append (λ (y : BayPlan). y.bay.0) plan (x ∷ []) ∙ ap (λ k. planned_bays plan ++ k ∷ []) is in
      subst (λ keys. AreBelow (IsBay d) keys (n + 1)) (sym e) (below_push (IsBay d) (planned_bays plan) n h.keys bay);
  partners = λ i y at. elim (slice_get-push plan x y i at) [
    | inl before ↦ h.partners i y before
    | inr here ↦
        subst (λ (z : BayPlan). ArePartners d z.bay.0 z.partners.items) here.1
        (subst (λ k. ArePartners d k x.partners.items) (sym is) partners)
  ];
}

pub bays_pass : (d : Diagram) (plan : List BayPlan) (n : ℕ) → BaysBelow d plan n → ¬ IsBay d n →
    BaysBelow d plan (n + 1)
bays_pass d plan n h fails = record {
  keys = below_pass (IsBay d) (planned_bays plan) n h.keys fails;
  partners = h.partners;
}

pub bays_all : (d : Diagram) (plan : List BayPlan) (n : ℕ) → BaysBelow d plan n → n ≡ part_count d → IsPlan d plan
bays_all d plan n h is = record {
  rises = h.keys.rises;
  exact = λ b. (λ c. ((h.keys.exact b).0 c).1, λ w. (h.keys.exact b).1 (omega (arith, w.0, is), w));
  partners = h.partners;
}

-- ---- the size of a part's alphabet

pub has_size : (d e : Diagram) (a b : Alphabets) (p n : ℕ) → e ≡ d → AreAlphabets e a → b ≡ a → p < part_count d →
    n ≡ size_of b p → HasSize d p n
has_size d e a b p n same are is p_in size =
    let here : AreAlphabets d a = subst (λ x. AreAlphabets x a) same are in
    subst (λ k. HasSize d p k) (sym (size ∙ ap (λ (x : Alphabets). size_of x p) is))
    (alphabet_counts d a p (here.each p p_in))
