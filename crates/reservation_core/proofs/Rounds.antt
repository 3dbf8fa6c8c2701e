-- Rounds that are under way, and what nobody has said: small facts of one node.
use Rattle.std.proofs.Common.{◌≡◌, ◌<◌, ℕ, zero, suc, List, length, get_or, slice_get}
use Rattle.std.proofs.Common.{replicate, Option, Some, None, refl, sym, subst, ◌∙◌, arith}
use Rattle.ilk_base.specs.declared.words.Dbpos.TheVariants.{Lost}
use Rattle.station_graph.specs.Diagram.{Diagram}
use Rattle.central_rules.specs.Meaning.{Meaning, IsBay}
use Rattle.bay_protocol.specs.declared.values.Lock.{Lock}
use Rattle.bay_protocol.specs.declared.values.Grant.{Grant}
use Rattle.bay_protocol.specs.declared.values.Collection.{Collection}
use Rattle.bay_protocol.specs.State.{State, under_way, under_way_of}
use Rattle.bay_protocol.specs.Fits.{IsNode}
use Rattle.reservation_core.specs.Scene.{Scene}
use Rattle.reservation_core.specs.RoundFacts.{RoundFacts}

-- what is dropped makes no round
pub dropped_round : (x : Option Collection) (y : Option Grant) (q : ℕ) → ((g : Collection) → x ≡ Some g → y ≡ None) →
    under_way_of None y ≡ Some q → under_way_of x y ≡ Some q
dropped_round None y q none is = is
dropped_round (Some g) (Some h) q none is = absurd (cc (none g refl))
dropped_round (Some g) None q none is = absurd (cc is)

-- what is granted no more makes no round
pub ended_round : (x : Option Collection) (y : Option Grant) (q : ℕ) → under_way_of x None ≡ Some q →
    under_way_of x y ≡ Some q
ended_round (Some g) y q is = is
ended_round None y q is = absurd (cc is)

-- the round under way is the highest
round_of : (x : Option Collection) (y : Option Grant) (top q : ℕ) → ((g : Collection) → x ≡ Some g → g.round ≡ top) →
    ((g : Grant) → y ≡ Some g → g.round ≡ top) → under_way_of x y ≡ Some q → q ≡ top
round_of (Some g) y top q xs ys is = let e : g.round ≡ q = cc is in sym e ∙ xs g refl
round_of None (Some g) top q xs ys is = let e : g.round ≡ q = cc is in sym e ∙ ys g refl
round_of None None top q xs ys is = absurd (cc is)

pub round_is_highest : (d : Diagram) (s : State) (q : ℕ) → IsNode d s → under_way s ≡ Some q → q ≡ s.highest
round_is_highest d s q ok is =
    round_of s.collecting s.granted s.highest q (λ g has. (ok.collecting g has).newest)
    (λ g has. (ok.kept.granted g has).newest) is

abbrev nothing : Option (List ℕ)
nothing = None

-- where nobody was heard, nothing was heard
pub unheard : (n i : ℕ) (s : List ℕ) → slice_get (replicate n nothing) i ≡ Some (Some s) → ⊥
unheard zero i s is = cc is
unheard (suc n) zero s is = cc is
unheard (suc n) (suc i) s is = unheard n i s is

pub get_lost : (n i : ℕ) → get_or (replicate n Lost) i Lost ≡ Lost
get_lost zero i = refl
get_lost (suc n) zero = refl
get_lost (suc n) (suc i) = get_lost n i

pub lock_is : (l : Lock) (c r : ℕ) → l.holder.0 ≡ c → r ≡ l.round → l ≡ record { holder = record { 0 = c }; round = r }
lock_is l c r h e =
    subst (λ (x : ℕ). l ≡ record { holder = record { 0 = x }; round = r }) h
    (subst (λ (y : ℕ). l ≡ record { holder = record { 0 = l.holder.0 }; round = y }) (sym e) refl)

-- the node of a bay is there
pub node_there : (m : Meaning) (w : Scene) (b : ℕ) → RoundFacts m w → IsBay m.diagram b → b < length w.nodes
node_there m w b facts bay = omega (arith, bay.0, facts.shape.nodes)
