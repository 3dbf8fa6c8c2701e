-- What is found in a plan.
use Rattle.std.proofs.Common.{◌≡◌, ℕ, ◌<◌, List, length, map, get_or, slice_get, Option, Some, None, MatchOption}
use Rattle.std.proofs.Common.{Contains, refl, sym, ap, ◌∙◌, subst, arith}
use Rattle.std.proofs.lemmas.List.{length-map}
use Rattle.std.proofs.lemmas.Option.{slice_get-map, slice_get_within, slice_get-get_or, get_or_from_slice_get}
use Rattle.std.specs.Prelude.{option_map}
use Rattle.station_graph.specs.Diagram.{Diagram, part_count}
use Rattle.judge_pool.proofs.BridgeLemmas.{from_map}
use Rattle.exchange_plan.specs.declared.planned.PartnerBits.{PartnerBits}
use Rattle.exchange_plan.specs.declared.planned.BayPlan.{BayPlan}
use Rattle.exchange_plan.specs.Planning.{IsPartnerOf, HasSize, partner_bays, ArePartners, planned_bays, IsPlan, Lists}
use Rattle.exchange_plan.specs.Planning.{ListsPartner}

-- an element with this key, where the keys contain it
with_key : {X : Type 0} (key : X → ℕ) (xs : List X) (p : ℕ) → Contains (map key xs) p →
    (i : ℕ) × (x : X) × (slice_get xs i ≡ Some x) × (key x ≡ p)
with_key key xs p c =
    let at : slice_get (map key xs) c.0 ≡ Some p = slice_get-get_or (map key xs) c.0 p c.1 ∙ ap Some c.2 in
    let (x, listed, is) = from_map key (slice_get xs c.0) p (sym (slice_get-map key xs c.0) ∙ at) in
    (c.0, x, listed, is)

-- the keys contain that of each element
key_of : {X : Type 0} (key : X → ℕ) (xs : List X) (i : ℕ) (x : X) → slice_get xs i ≡ Some x →
    Contains (map key xs) (key x)
key_of key xs i x at =
    let there : slice_get (map key xs) i ≡ Some (key x) = slice_get-map key xs i ∙ ap (option_map key) at in
    (i, slice_get_within (map key xs) i (key x) there, get_or_from_slice_get (map key xs) i (key x) (key x) there)

module _ (d : Diagram) (plan : List BayPlan) (is : IsPlan d plan) (b p : ℕ) where
  pub not_planned : ((x : BayPlan) → ¬ Lists plan b x) → ¬ IsPartnerOf d b p
  not_planned none partner =
      let (i, x, at, named) = with_key (λ (y : BayPlan). y.bay.0) plan b ((is.exact b).1 partner.bay) in
      none x (record { place = i; listed = at; named = named })

  module _ (x : BayPlan) (lists : Lists plan b x) where
    partners : ArePartners d b x.partners.items
    partners = subst (λ k. ArePartners d k x.partners.items) lists.named (is.partners lists.place x lists.listed)

    not_listed : ((n : ℕ) → ¬ ListsPartner x.partners.items p n) → ¬ IsPartnerOf d b p
    not_listed none partner =
        let (i, y, at, named) =
        with_key (λ (z : PartnerBits). z.bay.0) x.partners.items p ((partners.exact p).1 partner) in
        none y.bits (record { place = i; entry = y; listed = at; named = named; size = refl })

    is_listed : (n : ℕ) → ListsPartner x.partners.items p n → IsPartnerOf d b p × HasSize d p n
    is_listed n l =
        let named : Contains (partner_bays x.partners.items) p =
        subst (λ k. Contains (partner_bays x.partners.items) k) l.named
        (key_of (λ (z : PartnerBits). z.bay.0) x.partners.items l.place l.entry l.listed) in
        let size : HasSize d l.entry.bay.0 l.entry.bits = partners.bits l.place l.entry l.listed in (
          (partners.exact p).0 named,
          subst (λ k. HasSize d k n) l.named (subst (λ k. HasSize d l.entry.bay.0 k) l.size size),
        )

-- each planned bay is a part
pub planned_in : (d : Diagram) (plan : List BayPlan) → IsPlan d plan → (i : ℕ) (x : BayPlan) →
    slice_get plan i ≡ Some x → x.bay.0 < part_count d
planned_in d plan is i x at = ((is.exact x.bay.0).0 (key_of (λ (y : BayPlan). y.bay.0) plan i x at)).0

-- what is found of a partner
pub found : (d : Diagram) (plan : List BayPlan) → IsPlan d plan → (b p : ℕ) (x : BayPlan) → Lists plan b x →
    (r : Option ℕ) → MatchOption r ((n : ℕ) → ¬ ListsPartner x.partners.items p n) (ListsPartner x.partners.items p) →
    MatchOption r (¬ IsPartnerOf d b p) (λ n. IsPartnerOf d b p × HasSize d p n)
found d plan is b p x lists (Some n) h = is_listed d plan is b p x lists n h
found d plan is b p x lists None h = not_listed d plan is b p x lists h
