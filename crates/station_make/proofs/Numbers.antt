-- Numbers in a row, and how much is made of them.
use Rattle.std.proofs.Common.{◌≡◌, ◌∙◌, ap, ℕ, zero, suc, ◌+◌, ◌*◌, List, [], ◌∷◌, ◌++◌, length, map, arith, add-one}
use Rattle.std.specs.List.{flat_map, range_with_len}
use Rattle.std.proofs.lemmas.List.{length-append, map-append}
use Rattle.station_make.specs.declared.equipment.Bay.{Bay}
use Rattle.station_make.specs.declared.equipment.Bay.TheVariants.{FirstBusbar, SecondBusbar, Coupler, Feeder}
use Rattle.station_make.specs.Layout.{bays}

-- one number more
range_with_len-suc : (first count next : ℕ) → next ≡ first + count →
    range_with_len first (suc count) ≡ range_with_len first count ++ next ∷ []
range_with_len-suc first zero next is = ap (λ n. n ∷ []) (omega arith)
range_with_len-suc first (suc count) next is =
    ap (λ (rest : List ℕ). first ∷ rest) (range_with_len-suc (first + 1) count next (omega arith))

pub range_with_len-more : (first count next : ℕ) → next ≡ first + count →
    range_with_len first (count + 1) ≡ range_with_len first count ++ next ∷ []
range_with_len-more first count next is =
    ap (range_with_len first) (add-one count) ∙ range_with_len-suc first count next is

-- one feeder more
pub bays-more : (count : ℕ) → bays (count + 1) ≡ bays count ++ Feeder (count + 1) ∷ []
bays-more count =
    ap (λ ns. FirstBusbar ∷ SecondBusbar ∷ Coupler ∷ map Feeder ns)
    (range_with_len-more 1 count (count + 1) (omega arith))
    ∙ ap (λ (fs : List Bay). FirstBusbar ∷ SecondBusbar ∷ Coupler ∷ fs)
    (map-append Feeder (range_with_len 1 count) ((count + 1) ∷ []))

-- so many of each feeder
pub length-flat_map_feeders : {A : Type 0} (f : Bay → List A) (each : ℕ) → ((i : ℕ) → length (f (Feeder i)) ≡ each) →
    (first count : ℕ)
    → length (flat_map f (map Feeder (range_with_len first count))) ≡ each * count
length-flat_map_feeders f each is first zero = omega arith
length-flat_map_feeders f each is first (suc count) =
    let rest = length-flat_map_feeders f each is (first + 1) count in
    length-append (f (Feeder first)) (flat_map f (map Feeder (range_with_len (first + 1) count)))
    ∙ omega (arith, is first, rest)
