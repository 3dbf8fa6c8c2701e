-- What stands in an array whose front was written in two pieces.
use Rattle.std.proofs.Common.{◌≡◌, ℕ, ◌+◌, List, [], ◌∷◌, ◌++◌, refl, get_or, length, take, drop, ap, ◌∙◌, arith}
use Rattle.std.proofs.Common.{length-append}
use Rattle.std.proofs.lemmas.List.{take_at}
use Rattle.std.proofs.lemmas.Slice.{take-put_mid, drop-put_mid, drop-append-drop}
use Rattle.std.specs.Int.{w16, w32, to_be_bytes}
use borrow.Rule.Slice.PartMut.{put_mid, post_of}

pub written : (k n : ℕ) (into head written_head payload written_payload : List ℕ) → written_head ≡ head →
    written_payload ≡ payload → length head ≡ 9 → n ≡ 9 + length payload
    → take n (put_mid 9 k (written_head ++ post_of 0 9 into) written_payload) ≡ head ++ payload
written k n into head written_head payload written_payload e p len size =
    rw (e, p) (take-put_mid 9 k (head ++ post_of 0 9 into) payload n size
    (omega (arith, len, length-append head (post_of 0 9 into)))
    ∙ ap (λ (t : List ℕ). t ++ payload) (take_at head (post_of 0 9 into) 9 len))

pub behind : (k n : ℕ) (into head payload : List ℕ) → length head ≡ 9 → length payload ≡ k → n ≡ 9 + k
    → drop n (put_mid 9 k (head ++ post_of 0 9 into) payload) ≡ drop n into
behind k n into head payload len size e =
    drop-put_mid 9 k (head ++ post_of 0 9 into) payload n (omega (arith, e))
    (omega (arith, len, length-append head (post_of 0 9 into))) size
    ∙ drop-append-drop 9 into head n (omega (arith, e)) len

pub head_is : (kind kind_now from to round len : ℕ) (r l : List ℕ) → kind_now ≡ kind → r ≡ to_be_bytes w32 round →
    l ≡ to_be_bytes w16 len
    → kind_now ∷ from ∷ to ∷ get_or r 0 0 ∷ get_or r 1 0 ∷ get_or r 2 0 ∷ get_or r 3 0 ∷ get_or l 0 0 ∷ get_or l 1 0
    ∷ [] ≡ (kind ∷ from ∷ to ∷ []) ++ to_be_bytes w32 round ++ to_be_bytes w16 len
head_is kind kind_now from to round len r l k a b = rw (k, a, b) refl
