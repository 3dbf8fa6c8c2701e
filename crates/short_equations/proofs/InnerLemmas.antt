-- Items at a node, one after another.
use Rattle.std.proofs.Common.{◌≡◌, ◌<◌, ◌++◌, ◌+◌, ℕ, List, [], ◌∷◌, length, slice_get, Some, refl, subst, inl, inr, arith, sym}
use Rattle.std.proofs.lemmas.Bool.{cases_eq}
use Rattle.std.proofs.lemmas.Option.{slice_get_within}
use Rattle.ilk_base.specs.declared.words.NodeId.{NodeId}
use Rattle.station_graph.specs.Diagram.{Diagram, IsStation, node_count}
use Rattle.station_graph.specs.Connection.{Item, a_switch, a_link, a_tap}
use Rattle.station_graph.specs.Sharing.{Touches}
use Rattle.short_equations.specs.declared.edge.TheConstants.{FIRST_MARK}
use Rattle.short_equations.specs.declared.part_set.PartSet.{PartSet}
use Rattle.short_equations.specs.Fragments.{InParts, AreInner, SwitchesInner, LinksInner, TapsInner}
use Rattle.interlock_terms.proofs.TermLemmas.{push_cases}
use Rattle.short_equations.proofs.FragmentLemmas.{one_of_pushed}

-- what holds of each element below k, and of that at k, holds of each below k + 1
pub each_more : {X : Type 0} (xs : List X) (P : X → Type 0) (k : ℕ) (y : X) → slice_get xs k ≡ Some y →
    ((i : ℕ) (x : X) → i < k → slice_get xs i ≡ Some x → P x) → P y → (i : ℕ) (x : X) → i < k + 1 →
    slice_get xs i ≡ Some x → P x
each_more xs P k y at below here i x low listed = elim (cases_eq i k) [
  | inl e ↦
      let there : slice_get xs k ≡ Some x = subst (λ j. slice_get xs j ≡ Some x) e listed in
      let same : y ≡ x = cc (there, at) in
      subst P same here
  | inr far ↦ below i x (omega (arith, low, far)) listed
]

pub item_inner : (d : Diagram) (set : PartSet) (n a b c : ℕ) → SwitchesInner d set n a → LinksInner d set n b →
    TapsInner d set n c → a ≡ length d.switches → b ≡ length d.links → c ≡ length d.taps → (item : Item) →
    Touches d item n → InParts d set item
item_inner d set n a b c switches links taps ea eb ec (a_switch i) (x, at, t) =
    (x.bay.0, (x, at, refl), switches i x (let w = slice_get_within d.switches i x at in omega (arith, w, ea)) at t)
item_inner d set n a b c switches links taps ea eb ec (a_link i) (x, at, t) =
    (x.part.0, (x, at, refl), links i x (let w = slice_get_within d.links i x at in omega (arith, w, eb)) at t)
item_inner d set n a b c switches links taps ea eb ec (a_tap i) (x, at, t) =
    (x.part.0, (x, at, refl), taps i x (let w = slice_get_within d.taps i x at in omega (arith, w, ec)) at t)

pub inner_pushed : (d : Diagram) (set : PartSet) (nodes : List NodeId) (m : NodeId) → AreInner d set nodes →
    m.0 < node_count d → ((item : Item) → Touches d item m.0 → InParts d set item) → AreInner d set (nodes ++ m ∷ [])
inner_pushed d set nodes m inner low all n h = elim (one_of_pushed nodes m n h) [
  | inl old ↦ inner n old
  | inr e ↦ subst (λ k. (k < node_count d) × ((item : Item) → Touches d item k → InParts d set item)) (sym e) (low, all)
]

pub small_pushed : (d : Diagram) → IsStation d → (nodes : List NodeId) (m : NodeId) →
    ((i : ℕ) (n : NodeId) → slice_get nodes i ≡ Some n → n.0 < FIRST_MARK) → m.0 < node_count d → (i : ℕ) (n : NodeId) →
    slice_get (nodes ++ m ∷ []) i ≡ Some n → n.0 < FIRST_MARK
small_pushed d station nodes m small low i n at = elim (push_cases nodes m n i at) [
  | inl old ↦ small i n old
  | inr new ↦
      let few = station.items.nodes_few in
      subst (λ (k : NodeId). k.0 < FIRST_MARK) new.1 (omega (arith, low, few))
]
