-- The fields of the row of a kept record are those of the record.
use Rattle.std.proofs.Common.{◌≡◌, ◌<◌, ◌^◌, ℕ, List, ◌++◌, Option, Some, None, refl, sym, ap, ◌∙◌}
use Rattle.std.specs.Int.{w16, w32, to_be_bytes, from_be_bytes}
use Rattle.std.proofs.lemmas.Nat.{from_be_bytes-to_be_bytes_2, from_be_bytes-to_be_bytes_4}
use Rattle.ilk_base.specs.declared.words.SwitchId.{SwitchId}
use Rattle.ilk_base.specs.declared.words.Direction.{Direction}
use Rattle.ilk_base.specs.declared.words.Direction.TheVariants.{ToOff, ToOn}
use Rattle.bay_protocol.specs.declared.values.Lock.{Lock}
use Rattle.bay_protocol.specs.declared.values.Grant.{Grant}
use Rattle.bay_protocol.specs.declared.values.Kept.{Kept}
use Rattle.bay_protocol.specs.KeptRow.{lock_row, grant_row, kept_row, LockInRow, GrantInRow, InRow}
use Rattle.bay_protocol.specs.KeptFields.{number_at, lock_at, grant_at}

-- All fields.
abbrev pub kept_at : List ℕ → Kept
kept_at bytes = record { highest = number_at bytes 0; lock = lock_at bytes; granted = grant_at bytes }

highest_back : (n : ℕ) (l : Option Lock) (g : Option Grant) → n < 2 ^ 32 →
    number_at (to_be_bytes w32 n ++ lock_row l ++ grant_row g) 0 ≡ n
highest_back n l g low = from_be_bytes-to_be_bytes_4 n low

lock_back : (n : ℕ) (l : Option Lock) (g : Option Grant) → LockInRow l →
    lock_at (to_be_bytes w32 n ++ lock_row l ++ grant_row g) ≡ l
lock_back n None g low = refl
lock_back n (Some l) g low =
    ap (λ (r : ℕ). Some (record { holder = l.holder; round = r })) (from_be_bytes-to_be_bytes_4 l.round low)

grant_of : ℕ → ℕ → Direction → Option Grant
grant_of round switch direction =
    Some (record { round = round; op = record { switch = record { 0 = switch }; direction = direction } })

-- a granted operation behind a lock row, with one line for each direction and each kind of lock row
some_back : (n round switch : ℕ) (direction : Direction) (l : Option Lock) → round < 2 ^ 32 → switch < 2 ^ 16 →
    grant_at (to_be_bytes w32 n ++ lock_row l ++ grant_row (grant_of round switch direction))
    ≡ grant_of round switch direction
unfolding grant_of
some_back n round switch ToOff None low few =
    ap (λ (r : ℕ). grant_of r (from_be_bytes w16 (to_be_bytes w16 switch)) ToOff)
    (from_be_bytes-to_be_bytes_4 round low)
    ∙ ap (λ (s : ℕ). grant_of round s ToOff) (from_be_bytes-to_be_bytes_2 switch few)
some_back n round switch ToOn None low few =
    ap (λ (r : ℕ). grant_of r (from_be_bytes w16 (to_be_bytes w16 switch)) ToOn) (from_be_bytes-to_be_bytes_4 round low)
    ∙ ap (λ (s : ℕ). grant_of round s ToOn) (from_be_bytes-to_be_bytes_2 switch few)
some_back n round switch ToOff (Some l) low few =
    ap (λ (r : ℕ). grant_of r (from_be_bytes w16 (to_be_bytes w16 switch)) ToOff)
    (from_be_bytes-to_be_bytes_4 round low)
    ∙ ap (λ (s : ℕ). grant_of round s ToOff) (from_be_bytes-to_be_bytes_2 switch few)
some_back n round switch ToOn (Some l) low few =
    ap (λ (r : ℕ). grant_of r (from_be_bytes w16 (to_be_bytes w16 switch)) ToOn) (from_be_bytes-to_be_bytes_4 round low)
    ∙ ap (λ (s : ℕ). grant_of round s ToOn) (from_be_bytes-to_be_bytes_2 switch few)

grant_back : (n : ℕ) (l : Option Lock) (g : Option Grant) → GrantInRow g →
    grant_at (to_be_bytes w32 n ++ lock_row l ++ grant_row g) ≡ g
unfolding grant_of
grant_back n None None low = refl
grant_back n (Some l) None low = refl
grant_back n l (Some g) low = some_back n g.round g.op.switch.0 g.op.direction l low.0 low.1

-- the fields of a row
pub kept_back : (k : Kept) → InRow k → kept_at (kept_row k) ≡ k
kept_back k h =
    let first : ℕ → Kept = λ n. record { highest = n; lock = lock_at (kept_row k); granted = grant_at (kept_row k) } in
    let second : Option Lock → Kept = λ l. record { highest = k.highest; lock = l; granted = grant_at (kept_row k) } in
    let third : Option Grant → Kept = λ g. record { highest = k.highest; lock = k.lock; granted = g } in
    ap first (highest_back k.highest k.lock k.granted h.highest)
    ∙ ap second (lock_back k.highest k.lock k.granted h.lock)
    ∙ ap third (grant_back k.highest k.lock k.granted h.granted)
