-- Positions as bits, put into a vector from the lowest bit on.
use Rattle.std.proofs.Common.{◌≡◌, ℕ, ◌+◌, ◌*◌, ◌/◌, ◌%◌, ◌^◌, ◌<◌, ◌≤◌, ◌⊎◌, ◌==◌, zero, suc, Bool, false, Some}
use Rattle.std.proofs.Common.{List, length, slice_get, refl, ◌∙◌, ap, subst, inl, inr, add-one, arith}
use Rattle.std.specs.Prelude.{slice_set}
use Rattle.std.proofs.Math.ListN.{replicate}
use Rattle.std.proofs.lemmas.List.{length-set, length-replicate}
use Rattle.station_graph.proofs.PositionLemmas.{slice_get-set_other}
use Rattle.contraction.proofs.MarkLemmas.{slice_get-set_same}
use Rattle.part_alphabets.specs.Layers.{digit, bits}
use Rattle.bay_contract.proofs.RankLemmas.{digit_of}
use Rattle.bay_contract.proofs.AlphabetLemmas.{pow_more}

-- a switch after those counted does not matter
pub bits_set : (first j i : ℕ) (v : List Bool) (b : Bool) → first + j ≤ i → bits first j
    (slice_set v i b) ≡ bits first j v
bits_set first zero i v b h = refl
bits_set first (suc j) i v b h =
    let before = bits_set first j i v b (omega arith) in
    let same = slice_get-set_other v i (first + j) b (omega arith) in
    rw (before, same) refl

pub bits_more : (first j : ℕ) (v : List Bool) → bits first (j + 1) v ≡ bits first j v + digit (slice_get v
    (first + j)) * 2 ^ j
bits_more first j v = ap (λ n. bits first n v) (add-one j)

halves : (b q r p : ℕ) → (b + r * p) + q * (2 * p) ≡ b + (q * 2 + r) * p
halves b q r p = grind arith

-- What is known after so many bits.
pub record PutSoFar (first position : ℕ) (old v : List Bool) (k rest : ℕ) : Type 0 where
  pub len : length v ≡ length old
  pub whole : bits first k v + rest * 2 ^ k ≡ position
  pub others : (i : ℕ) → i < first ⊎ first + k ≤ i → slice_get v i ≡ slice_get old i

pub put_none : (first position : ℕ) (old : List Bool) → PutSoFar first position old old 0 position
put_none first position old = record { len = refl; whole = omega arith; others = λ i o. refl }

pub put_more : (first position : ℕ) (old v : List Bool) (k rest : ℕ) → first + k < length old
    → PutSoFar first position old v k rest → PutSoFar first position old (slice_set v (first + k) (rest % 2 == 1))
    (k + 1) (rest / 2)
put_more first position old v k rest lt h =
    let at : slice_get (slice_set v (first + k) (rest % 2 == 1)) (first + k) ≡ Some (rest % 2 == 1) =
    slice_get-set_same v (first + k) (rest % 2 == 1) (omega (arith, h.len)) in
    let last : digit (slice_get (slice_set v (first + k) (rest % 2 == 1)) (first + k)) ≡ rest % 2 = digit_of rest
    (slice_get (slice_set v (first + k) (rest % 2 == 1)) (first + k)) at in
    let before : bits first k (slice_set v (first + k) (rest % 2 == 1)) ≡ bits first k v = bits_set first k
    (first + k) v (rest % 2 == 1) (omega arith) in
    let now : bits first (k + 1) (slice_set v (first + k) (rest % 2 == 1)) ≡ bits first k v + (rest % 2) * 2 ^ k =
    bits_more first k (slice_set v (first + k) (rest % 2 == 1)) ∙ rw (before, last) refl in
    let digits : rest / 2 * 2 + rest % 2 ≡ rest = omega arith in
    let wide : 2 ^ (k + 1) ≡ 2 * 2 ^ k = ap (λ n. 2 ^ n) (add-one k) ∙ pow_more k in
    record {
      len = length-set v (first + k) (rest % 2 == 1) ∙ h.len;
      whole =
          ap (λ n. n + (rest / 2) * 2 ^ (k + 1)) now
          ∙ (ap (λ n. (bits first k v + (rest % 2) * 2 ^ k) + (rest / 2) * n) wide
          ∙ (halves (bits first k v) (rest / 2) (rest % 2) (2 ^ k)
          ∙ (ap (λ n. bits first k v + n * 2 ^ k) digits ∙ h.whole)));
      others = λ i o. slice_get-set_other v (first + k) i (rest % 2 == 1)
          (elim o [ inl less ↦ omega arith | inr more ↦ omega arith ]) ∙ h.others i
          (elim o [ inl less ↦ inl less | inr more ↦ inr (omega arith) ]);
    }

none_left : (b rest p position : ℕ) → b + rest * p ≡ position → position < p → b ≡ position
none_left b zero p position e lt = grind arith
none_left b (suc rest) p position e lt = absurd (grind arith)

pub put_all : (first count position : ℕ) (old v : List Bool) (k rest : ℕ) → k ≡ count → position < 2 ^ count
    → PutSoFar first position old v k rest → bits first count v ≡ position
put_all first count position old v k rest e small h =
    let whole : bits first count v + rest * 2 ^ count ≡ position = subst
    (λ n. bits first n v + rest * 2 ^ n ≡ position) e h.whole in
    none_left (bits first count v) rest (2 ^ count) position whole small

-- each position is that of some vector
pub bits_some : (len first count position : ℕ) → position < 2 ^ count → first + count ≤ len
    → (v : List Bool) × (length v ≡ len) × (bits first count v ≡ position)
bits_some len first count position small within =
    let (v, h) = go count (omega arith) in
    let (rest, so_far) = h in (
      v,
      so_far.len ∙ length-replicate len false,
      put_all first count position
          (replicate len false) v count rest refl small so_far,
    )
  where
    go : (k : ℕ) → k ≤ count → (v : List Bool) × ((rest : ℕ) × PutSoFar first position (replicate len false) v k rest)
    go zero le = (replicate len false, (position, put_none first position (replicate len false)))
    go (suc k) le =
        let (v, h) = go k (omega arith) in
        let (rest, so_far) = h in
        let more = put_more first position (replicate len false) v k rest (omega
        (arith, length-replicate len false)) so_far in (
          slice_set v (first + k) (rest % 2 == 1),
          (
            rest / 2,
            subst (λ n. PutSoFar first position (replicate len false)
                (slice_set v (first + k) (rest % 2 == 1)) n (rest / 2)) (add-one k) more,
          ),
        )
