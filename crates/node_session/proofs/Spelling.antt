-- The digits of a record.
use Rattle.std.proofs.Common.{◌≡◌, ◌∙◌, refl, arith, ℕ, ◌*◌, List, length, Option, Some, None, Ok}
use Rattle.hex.specs.Hex.{decode_of, decode_sized}
use Rattle.hex.proofs.HexLemmas.{decode_of-ok, decode_sized-twice}
use Rattle.bay_protocol.specs.declared.values.Lock.{Lock}
use Rattle.bay_protocol.specs.declared.values.Grant.{Grant}
use Rattle.bay_protocol.specs.declared.values.Kept.{Kept}
use Rattle.bay_protocol.specs.KeptRow.{kept_row}

row_length : (highest : ℕ) (l : Option Lock) (g : Option Grant) →
    length (kept_row (record { highest = highest; lock = l; granted = g })) ≡ 18
row_length highest None None = refl
row_length highest None (Some g) = refl
row_length highest (Some l) None = refl
row_length highest (Some l) (Some g) = refl

-- the row of a record has 18 bytes
length-kept_row : (k : Kept) → length (kept_row k) ≡ 18
length-kept_row k = row_length k.highest k.lock k.granted

-- digits that spell a record are read as its row
pub reads_18 : (digits : List ℕ) (k : Kept) → decode_of digits ≡ Ok (kept_row k) →
    decode_sized digits 18 ≡ Ok (kept_row k)
reads_18 digits k spelled =
    let twice : length digits ≡ 2 * 18 =
    omega (arith, (decode_of-ok digits (kept_row k) spelled).2, length-kept_row k) in
    decode_sized-twice digits 18 twice ∙ spelled
