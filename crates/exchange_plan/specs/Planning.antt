-- What a data exchange plan is: for each bay the bays that must tell it their positions.
use Rattle.std.specs.Prelude.{◌≡◌, ◌≢◌, ◌↔◌, ℕ, List, map, slice_get, Some, Contains}
use Rattle.station_graph.specs.Diagram.{Diagram}
use Rattle.station_graph.specs.Nodes.{Rises}
use Rattle.station_graph.specs.Alike.{Alike, Partner}
use Rattle.part_alphabets.specs.Counting.{AreSoMany}
use Rattle.central_rules.specs.Meaning.{IsBay}
use Rattle.exchange_plan.specs.declared.planned.PartnerBits.{PartnerBits}
use Rattle.exchange_plan.specs.declared.planned.BayPlan.{BayPlan}

-- The second bay is another than the first and a partner of it: two vectors that differ in switches of the second alone
-- give different answers for some operation of the first.
pub record IsPartnerOf (d : Diagram) (b p : ℕ) : Type 0 where
  pub bay : IsBay d b
  pub other : IsBay d p
  pub apart : p ≢ b
  pub partner : Partner d p b

-- The alphabet of the part has this size: over all positions it has so many distinct contractions on the nodes that it
-- shares, no two of which are alike.
abbrev pub HasSize : Diagram → ℕ → ℕ → Type 0
HasSize d p n = AreSoMany d (Alike d p) n

-- The numbers of the listed partners.
abbrev pub partner_bays : List PartnerBits → List ℕ
partner_bays list = map (λ (x : PartnerBits). x.bay.0) list

-- These are the partners of the bay, by bay, each with the size of its alphabet.
pub record ArePartners (d : Diagram) (b : ℕ) (list : List PartnerBits) : Type 0 where
  pub rises : Rises (partner_bays list)
  pub exact : (p : ℕ) → Contains (partner_bays list) p ↔ IsPartnerOf d b p
  pub bits : (i : ℕ) (x : PartnerBits) → slice_get list i ≡ Some x → HasSize d x.bay.0 x.bits

-- The numbers of the listed bays.
abbrev pub planned_bays : List BayPlan → List ℕ
planned_bays plan = map (λ (x : BayPlan). x.bay.0) plan

-- The plan of a station: its bays, by bay, each with its partners.
pub record IsPlan (d : Diagram) (plan : List BayPlan) : Type 0 where
  pub rises : Rises (planned_bays plan)
  pub exact : (b : ℕ) → Contains (planned_bays plan) b ↔ IsBay d b
  pub partners : (i : ℕ) (x : BayPlan) → slice_get plan i ≡ Some x → ArePartners d x.bay.0 x.partners.items

-- The list names the bay with this plan.
pub record Lists (plan : List BayPlan) (b : ℕ) (x : BayPlan) : Type 0 where
  pub place : ℕ
  pub listed : slice_get plan place ≡ Some x
  pub named : x.bay.0 ≡ b

-- The list names the partner with this size.
pub record ListsPartner (list : List PartnerBits) (p n : ℕ) : Type 0 where
  pub place : ℕ
  pub entry : PartnerBits
  pub listed : slice_get list place ≡ Some entry
  pub named : entry.bay.0 ≡ p
  pub size : entry.bits ≡ n
