-- Texts cut in two.
use Rattle.std.proofs.Common.{◌≡◌, ℕ, ◌≤◌, Bool, true, false, ◌&&◌, List, [], ◌∷◌, ◌++◌, length, take, drop, refl}
use Rattle.std.proofs.Common.{arith, ap, ◌∙◌, sym}
use Rattle.std.specs.Prelude.{nat_eq}
use Rattle.std.specs.Str.{bytes_eq}

and_assoc : (a b c : Bool) → (a && (b && c)) ≡ ((a && b) && c)
and_assoc true b c = refl
and_assoc false b c = refl

eq_front : (f n w : List ℕ) → length f ≤ length n →
    bytes_eq n (f ++ w) ≡ (bytes_eq (take (length f) n) f && bytes_eq (drop (length f) n) w)
eq_front [] n w h = refl
eq_front (c ∷ f) [] w h = absurd (omega arith)
eq_front (c ∷ f) (m ∷ n) w h =
    let h' : length f ≤ length n = omega arith in
    ap (λ r. nat_eq m c && r) (eq_front f n w h') ∙ and_assoc (nat_eq m c) (bytes_eq (take (length f) n) f)
    (bytes_eq (drop (length f) n) w)

eq_cut : (f n w a b : List ℕ) → length f ≤ length n → a ≡ take (length f) n → b ≡ drop (length f) n →
    bytes_eq n (f ++ w) ≡ (bytes_eq a f && bytes_eq b w)
eq_cut f n w a b h p q = rw (p, q) (eq_front f n w h)

pub word_follows : (f n w m v a b : List ℕ) (r s : Bool) → m ≡ n → v ≡ w → length f ≤ length m → a ≡ take (length f) m →
    b ≡ drop (length f) m → r ≡ bytes_eq a f → r ≡ true → s ≡ bytes_eq b v → s ≡ bytes_eq n (f ++ w)
word_follows f n w m v a b r s em ev h p q er t es =
    let front : bytes_eq a f ≡ true = sym er ∙ t in
    let whole : bytes_eq m (f ++ v) ≡ (bytes_eq a f && bytes_eq b v) = eq_cut f m v a b h p q in
    rw (← em, ← ev, whole, front) es

pub front_differs : (f n w m v a b : List ℕ) (r : Bool) → m ≡ n → v ≡ w → length f ≤ length m → a ≡ take (length f) m →
    b ≡ drop (length f) m → r ≡ bytes_eq a f → r ≡ false → r ≡ bytes_eq n (f ++ w)
front_differs f n w m v a b r em ev h p q er t =
    let front : bytes_eq a f ≡ false = sym er ∙ t in
    let whole : bytes_eq m (f ++ v) ≡ (bytes_eq a f && bytes_eq b v) = eq_cut f m v a b h p q in
    rw (← em, ← ev, whole, front) t
