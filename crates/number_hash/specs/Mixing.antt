-- What the hasher makes of numbers and of bytes.
use Rattle.std.specs.Prelude.{ℕ, zero, suc, ◌+◌, ◌*◌, ◌/◌, ◌%◌, ◌^◌, ◌==◌, if◌then◌else◌, List, length, fold, take, drop}
use Rattle.std.specs.Int.{from_le_bytes, rotate_left, w32, w64}
use Rattle.number_hash.specs.declared.hasher.NumberHasher.{NumberHasher}

-- The state after a number.
abbrev pub mixed : ℕ → ℕ → ℕ
mixed state number = ((state + number) % 2 ^ 64 * 0x9e37_79b9_7f4a_7c15) % 2 ^ 64

-- The state after a word of a text: its upper half, which depends on the whole word, changes places with the lower.
abbrev pub turned : ℕ → ℕ → ℕ
turned state word = rotate_left w64 (mixed state word) 32

-- The state after a text of so many words of eight bytes, the lowest byte of each first, and of fewer bytes behind them,
-- each of which is a number.
unfoldable pub mixed_words : ℕ → ℕ → List ℕ → ℕ
mixed_words zero state bytes = fold mixed state bytes
mixed_words (suc words) state bytes = mixed_words words (turned state (from_le_bytes w64 (take 8 bytes))) (drop 8 bytes)

-- The state after bytes: four or eight of them are a number, the lowest first, and others are a text.
unfoldable pub mixed_bytes : ℕ → List ℕ → ℕ
mixed_bytes state bytes =
    if length bytes == 4 then mixed state (from_le_bytes w32 bytes)
    else (if length bytes == 8 then mixed state (from_le_bytes w64 bytes)
    else mixed_words (length bytes / 8) state bytes)

-- The hasher after bytes.
abbrev pub written : NumberHasher → List ℕ → NumberHasher
written h bytes = record { state = mixed_bytes h.state bytes }
