-- The last name of a path.
use Rattle.std.proofs.Common.{◌≡◌, ◌∙◌, ◌+◌, ℕ, zero, suc, List, [], ◌∷◌, true, false, drop, refl, sym, ap, arith}
use Rattle.std.specs.Prelude.{if◌then◌else◌}
use Rattle.structured_text.specs.Spelling.{is_short, last_name}

-- what is short is the last name
pub short_is_last : (path : List ℕ) → is_short path ≡ true → path ≡ last_name path
short_is_last [] e = refl
short_is_last (b ∷ bs) e = sym (ap (λ q. if q then b ∷ bs else last_name bs) e)

step : (path : List ℕ) → is_short path ≡ false → last_name (drop 1 path) ≡ last_name path
step [] e = refl
step (b ∷ bs) e = sym (ap (λ q. if q then b ∷ bs else last_name bs) e)

further : (path : List ℕ) (i : ℕ) → drop (suc i) path ≡ drop 1 (drop i path)
further path zero = refl
further [] (suc i) = refl
further (b ∷ bs) (suc i) = further bs i

-- what is not short is passed
pub long_is_passed : (path : List ℕ) (i : ℕ) → is_short (drop i path) ≡ false →
    last_name (drop (i + 1) path) ≡ last_name (drop i path)
long_is_passed path i e =
    let next : i + 1 ≡ suc i = omega arith in
    ap (λ k. last_name (drop k path)) next ∙ (ap last_name (further path i) ∙ step (drop i path) e)
