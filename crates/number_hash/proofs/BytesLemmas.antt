-- How many bytes are a number.
use Rattle.std.proofs.Common.{◌≡◌, ◌≢◌, ◌∙◌, ℕ, suc, List, length, fold, take, drop, ap, inl, inr, cond}
use Rattle.std.proofs.lemmas.Bool.Decides.{eqb_tells}
use Rattle.std.specs.Int.{from_le_bytes, w32, w64}
use Rattle.std.specs.Prelude.{◌==◌, ◌/◌, if◌then◌else◌}
use Rattle.number_hash.specs.Mixing.{mixed, mixed_bytes, mixed_words, turned}

-- what so many bytes lead to
abbrev of_length : ℕ → List ℕ → ℕ → ℕ
of_length s bytes n =
    if n == 4 then mixed s (from_le_bytes w32 bytes)
    else (if n == 8 then mixed s (from_le_bytes w64 bytes) else mixed_words (n / 8) s bytes)

pub four_bytes : (s : ℕ) (bytes : List ℕ) → length bytes ≡ 4 → mixed_bytes s bytes ≡ mixed s (from_le_bytes w32 bytes)
unfolding mixed_bytes
four_bytes s bytes is = ap (of_length s bytes) is

pub eight_bytes : (s : ℕ) (bytes : List ℕ) → length bytes ≡ 8 → mixed_bytes s bytes ≡ mixed s (from_le_bytes w64 bytes)
unfolding mixed_bytes
eight_bytes s bytes is = ap (of_length s bytes) is

pub other_bytes : (s : ℕ) (bytes : List ℕ) → length bytes ≢ 4 → length bytes ≢ 8 → mixed_bytes s bytes ≡ mixed_words (length bytes / 8) s bytes
unfolding mixed_bytes
other_bytes s bytes not_four not_eight = elim (eqb_tells (length bytes) 4) [
  | inl p ↦ absurd (not_four p.1)
  | inr p ↦ elim (eqb_tells (length bytes) 8) [
    | inl q ↦ absurd (not_eight q.1)
    | inr q ↦
        ap (λ b. cond b (mixed s (from_le_bytes w32 bytes))
        (if length bytes == 8 then mixed s (from_le_bytes w64 bytes) else mixed_words (length bytes / 8) s bytes)) p.0
        ∙ ap (λ b. cond b (mixed s (from_le_bytes w64 bytes)) (mixed_words (length bytes / 8) s bytes)) q.0
  ]
]

-- a word of a text more, of which so many words are left behind it
pub word_more : (s : ℕ) (bytes : List ℕ) → (words : ℕ) → length bytes / 8 ≡ suc words →
    mixed_words (length bytes / 8) s bytes ≡ mixed_words words (turned s (from_le_bytes w64 (take 8 bytes))) (drop 8 bytes)
unfolding mixed_words
word_more s bytes words is = ap (λ n. mixed_words n s bytes) is

-- no word of a text
pub no_word : (s : ℕ) (bytes : List ℕ) → length bytes / 8 ≡ 0 → mixed_words (length bytes / 8) s bytes ≡ fold mixed s bytes
unfolding mixed_words
no_word s bytes is = ap (λ n. mixed_words n s bytes) is
