-- One node changes, and the others stay.
use Rattle.std.proofs.Common.{◌⊎◌, ◌≡◌, ◌≢◌, ◌<◌, ℕ, zero, suc, List, [], ◌∷◌, length, get_or, slice_get, set, Option}
use Rattle.std.proofs.Common.{Some, None, refl, sym, subst, ap, inl, inr, get_or-set_same, get_or-set_other}
use Rattle.std.specs.Prelude.{unwrap_or}
use Rattle.std.proofs.lemmas.Bool.{cases_eq}
use Rattle.station_graph.specs.Diagram.{Diagram}
use Rattle.bay_protocol.specs.State.{State, under_way, under_way_of}
use Rattle.bay_protocol.specs.Fits.{IsNode}
use Rattle.bay_protocol.specs.declared.values.Grant.{Grant}
use Rattle.bay_protocol.specs.declared.values.Collection.{Collection}
use Rattle.reservation_core.specs.Scene.{Scene, node, new_node, at_node}

-- the changed node, and each other
pub node_here : (d : Diagram) (w : Scene) (b : ℕ) (s : State) → b < length w.nodes → node d (at_node w b s) b ≡ s
node_here d w b s within =
    ap (λ (x : Option State). unwrap_or x (new_node d b)) (get_or-set_same w.nodes b (Some s) None within)

pub node_other : (d : Diagram) (w : Scene) (b : ℕ) (s : State) (c : ℕ) → c ≢ b → node d (at_node w b s) c ≡ node d w c
node_other d w b s c other =
    ap (λ (x : Option State). unwrap_or x (new_node d c)) (get_or-set_other w.nodes b c (Some s) None other)

-- what holds of the changed node and of each other holds of each
pub each_node : (d : Diagram) (w : Scene) (b : ℕ) (s : State) (P : ℕ → State → Type 0) → b < length w.nodes → P b s →
    ((c : ℕ) → c ≢ b → P c (node d w c)) → (c : ℕ) → P c (node d (at_node w b s) c)
each_node d w b s P within here there c =
    elim (cases_eq c b) [
      | inl same ↦
          subst (λ (x : ℕ). P x (node d (at_node w b s) x)) (sym same)
          (subst (λ (n : State). P b n) (sym (node_here d w b s within)) here)
      | inr other ↦ subst (λ (n : State). P c n) (sym (node_other d w b s c other)) (there c other)
    ]

granted_round : (x : Option Collection) (y : Option Grant) (g : Grant) → y ≡ Some g →
    ((h : Collection) → x ≡ Some h → y ≡ None) → under_way_of x y ≡ Some g.round
granted_round (Some h) y g is none = let e : y ≡ None = none h refl in absurd (cc (e, is))
granted_round None (Some k) g is none = let e : k ≡ g = cc in ap (λ x. Some x.round) e
granted_round None None g is none = absurd (cc is)

-- the round of a grant is under way
pub under_way-granted : (d : Diagram) (s : State) (g : Grant) → IsNode d s → s.granted ≡ Some g →
    under_way s ≡ Some g.round
under_way-granted d s g ok is = granted_round s.collecting s.granted g is (λ h has. (ok.collecting h has).no_grant)

-- what stands at a place after a store
pub get_set : {X : Type 0} (xs : List X) (i : ℕ) (y : X) (x : ℕ) (d : X) →
    ((x ≡ i) × (get_or (set xs i y) x d ≡ y)) ⊎ (get_or (set xs i y) x d ≡ get_or xs x d)
get_set [] i y x d = inr refl
get_set (a ∷ xs) zero y zero d = inl (refl, refl)
get_set (a ∷ xs) zero y (suc x) d = inr refl
get_set (a ∷ xs) (suc i) y zero d = inr refl
get_set (a ∷ xs) (suc i) y (suc x) d = elim (get_set xs i y x d) [
  | inl p ↦ inl (ap (λ n. suc n) p.0, p.1)
  | inr p ↦ inr p
]

-- what is found after a store is what was stored, or was there before
pub got_set : {X : Type 0} (xs : List X) (i : ℕ) (y : X) (x : ℕ) (z : X) → slice_get (set xs i y) x ≡ Some z →
    ((x ≡ i) × (y ≡ z)) ⊎ (slice_get xs x ≡ Some z)
got_set [] i y x z is = inr is
got_set (a ∷ xs) zero y zero z is = let e : y ≡ z = cc is in inl (refl, e)
got_set (a ∷ xs) zero y (suc x) z is = inr is
got_set (a ∷ xs) (suc i) y zero z is = inr is
got_set (a ∷ xs) (suc i) y (suc x) z is = elim (got_set xs i y x z is) [
  | inl p ↦ inl (ap (λ n. suc n) p.0, p.1)
  | inr p ↦ inr p
]

pub set_set : {X : Type 0} (xs : List X) (i : ℕ) (y z : X) → set (set xs i y) i z ≡ set xs i z
set_set [] i y z = refl
set_set (a ∷ xs) zero y z = refl
set_set (a ∷ xs) (suc i) y z = ap (λ l. a ∷ l) (set_set xs i y z)

-- a node with a granted operation is there
pub has_node : (xs : List (Option State)) (c : ℕ) (n : State) (g : Grant) → n.granted ≡ None →
    (unwrap_or (get_or xs c None) n).granted ≡ Some g → (s : State) × (slice_get xs c ≡ Some (Some s))
has_node [] c n g free is = absurd (cc (free, is))
has_node (None ∷ xs) zero n g free is = absurd (cc (free, is))
has_node (Some s ∷ xs) zero n g free is = (s, refl)
has_node (x ∷ xs) (suc c) n g free is = has_node xs c n g free is
