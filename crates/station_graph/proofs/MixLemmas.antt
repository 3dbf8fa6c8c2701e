-- One part's positions from one vector, and all others from another.
use Rattle.std.proofs.Common.{◌≡◌, ◌∙◌, ℕ, zero, suc, eqb, Bool, true, false, cond, List, [], ◌∷◌, length, slice_get}
use Rattle.std.proofs.Common.{Some, refl, sym, ap, arith}
use Rattle.std.proofs.lemmas.Bool.{eq-eqb, ne_eqb}
use Rattle.std.proofs.lemmas.Option.{none-some, same_Some}
use Rattle.station_graph.specs.declared.items.Switch.{Switch}
use Rattle.station_graph.specs.Diagram.{Diagram}
use Rattle.station_graph.specs.Connection.{a_switch}
use Rattle.station_graph.specs.Sharing.{OfPart}
use Rattle.station_graph.specs.Alike.{IsVector, SamePositions, DifferInPart}

-- the positions of one part's switches from w, and all others from v
pub mix : List Switch → ℕ → List Bool → List Bool → List Bool
mix [] b w v = []
mix (x ∷ xs) b [] v = []
mix (x ∷ xs) b (p ∷ w) [] = []
mix (x ∷ xs) b (p ∷ w) (q ∷ v) = cond (eqb x.bay.0 b) p q ∷ mix xs b w v

pub length_mix : (xs : List Switch) (b : ℕ) (w v : List Bool) → length w ≡ length xs → length v ≡ length xs →
    length (mix xs b w v) ≡ length xs
unfolding mix
length_mix [] b w v e f = refl
length_mix (x ∷ xs) b [] v e f = absurd (omega (arith, e))
length_mix (x ∷ xs) b (p ∷ w) [] e f = absurd (omega (arith, f))
length_mix (x ∷ xs) b (p ∷ w) (q ∷ v) e f = ap (λ n. suc n) (length_mix xs b w v (omega (arith, e)) (omega (arith, f)))

-- those of the bay
pub mix_there : (xs : List Switch) (b : ℕ) (w v : List Bool) → length w ≡ length xs → length v ≡ length xs →
    (i : ℕ) (x : Switch) → slice_get xs i ≡ Some x → x.bay.0 ≡ b → slice_get w i ≡ slice_get (mix xs b w v) i
unfolding mix
mix_there [] b w v e f i x at of_b = absurd (none-some x at)
mix_there (y ∷ xs) b [] v e f i x at of_b = absurd (omega (arith, e))
mix_there (y ∷ xs) b (p ∷ w) [] e f i x at of_b = absurd (omega (arith, f))
mix_there (y ∷ xs) b (p ∷ w) (q ∷ v) e f zero x at of_b =
    let yes : eqb y.bay.0 b ≡ true = eq-eqb y.bay.0 b (ap (λ (s : Switch). s.bay.0) (same_Some y x at) ∙ of_b) in
    rw yes refl
mix_there (y ∷ xs) b (p ∷ w) (q ∷ v) e f (suc i) x at of_b = mix_there xs b w v (omega (arith, e)) (omega (arith, f)) i
    x at of_b

-- and the others
pub mix_else : (xs : List Switch) (b : ℕ) (w v : List Bool) → length w ≡ length xs → length v ≡ length xs → (i : ℕ) →
    ¬ ((x : Switch) × (slice_get xs i ≡ Some x) × (x.bay.0 ≡ b)) → slice_get v i ≡ slice_get (mix xs b w v) i
unfolding mix
mix_else [] b w [] e f i not_of = refl
mix_else [] b w (q ∷ v) e f i not_of = absurd (omega (arith, f))
mix_else (y ∷ xs) b [] v e f i not_of = absurd (omega (arith, e))
mix_else (y ∷ xs) b (p ∷ w) [] e f i not_of = absurd (omega (arith, f))
mix_else (y ∷ xs) b (p ∷ w) (q ∷ v) e f zero not_of =
    let not_b : eqb y.bay.0 b ≡ false = ne_eqb y.bay.0 b (λ is. not_of (y, refl, is)) in
    rw not_b refl
mix_else (y ∷ xs) b (p ∷ w) (q ∷ v) e f (suc i) not_of = mix_else xs b w v (omega (arith, e)) (omega (arith, f)) i
    not_of

-- a switch is of one part
pub one_part : (d : Diagram) (p q i : ℕ) → OfPart d p (a_switch i) → OfPart d q (a_switch i) → p ≡ q
one_part d p q i (x, at_x, of_x) (y, at_y, of_y) =
    let same : x ≡ y = cc in
    sym of_x ∙ ap (λ (s : Switch). s.bay.0) same ∙ of_y

-- there is such a vector
pub mixed : (d : Diagram) (part : ℕ) (w v : List Bool) → IsVector d w → IsVector d v → (x : List Bool) × IsVector d x
    × SamePositions (OfPart d part) w x × DifferInPart d part v x
mixed d part w v whole_w whole_v = (
  mix d.switches part w v,
  length_mix d.switches part w v whole_w whole_v,
  λ i of_part. mix_there d.switches part w v whole_w whole_v i of_part.0 of_part.1 of_part.2,
  λ i not_of. mix_else d.switches part w v whole_w whole_v i not_of,
)
