-- The place of a path among paths that differ.
use Rattle.std.proofs.Common.{◌≡◌, ◌≢◌, ◌<◌, ℕ, zero, suc, Bool, true, false, cond, List, [], ◌∷◌, length, get_or}
use Rattle.std.proofs.Common.{Option, Some, None, option_map, refl, sym, ap, ◌∙◌, arith}
use Rattle.std.specs.Prelude.{slice_get, Contains}
use Rattle.std.specs.Str.{bytes_eq, is_utf8, IsUtf8}
use Rattle.std.proofs.lemmas.Slice.Eq.{bytes_eq-Decides}
use Rattle.std.proofs.lemmas.Str.{IsUtf8-from_is_utf8}
use Rattle.station_graph.specs.Diagram.{Differ}
use Rattle.double_points.specs.Paths.{place_of, IsDistinct}

pub not_utf8 : (bs : List ℕ) → ¬ (IsUtf8 bs) → is_utf8 bs ≡ false
not_utf8 bs h = by_cases (is_utf8 bs) refl h
  where
    by_cases : (b : Bool) → is_utf8 bs ≡ b → ¬ (IsUtf8 bs) → is_utf8 bs ≡ false
    by_cases true e h = absurd (h (IsUtf8-from_is_utf8 bs e))
    by_cases false e h = e

apart : (x p : List ℕ) → x ≢ p → bytes_eq x p ≡ false
apart x p ne = by_cases (bytes_eq x p) refl
  where
    by_cases : (b : Bool) → bytes_eq x p ≡ b → bytes_eq x p ≡ false
    by_cases true e = absurd (ne ((bytes_eq-Decides x p).0 e))
    by_cases false e = e

-- what stands at a place
there : (paths : List (List ℕ)) (i : ℕ) → i < length paths → slice_get paths i ≡ Some (get_or paths i [])
there [] i lt = absurd (omega (arith, lt))
there (p ∷ paths) zero lt = refl
there (p ∷ paths) (suc i) lt = there paths i (omega (arith, lt))

-- paths that differ are distinct by their places
pub distinct : (paths : List (List ℕ)) → Differ paths → IsDistinct paths
distinct paths differ = λ i j a b e. differ i j (get_or paths i []) (there paths i a) (there paths j b
    ∙ ap Some (sym e))

behind : (p : List ℕ) (paths : List (List ℕ)) → Differ (p ∷ paths) → Differ paths
behind p paths differ = λ i j q a b. let e : suc i ≡ suc j = differ (suc i) (suc j) q a b in omega (arith, e)

-- the place of a path that stands there
pub place_of-there : (paths : List (List ℕ)) (i : ℕ) (p : List ℕ) → Differ paths → slice_get paths i ≡ Some p →
    place_of p paths ≡ Some i
place_of-there [] i p differ at = cc at
place_of-there (x ∷ paths) zero p differ at =
    let e : bytes_eq x p ≡ true = (bytes_eq-Decides x p).1 (cc at) in
    rw e refl
place_of-there (x ∷ paths) (suc i) p differ at =
    let e : bytes_eq x p ≡ false = apart x p (λ same. let z : 0 ≡ suc i = differ 0 (suc i) p (ap Some same) at in
    omega (arith, z)) in
    let rest = place_of-there paths i p (behind x paths differ) at in
    rw (e, rest) refl

-- a path that stands nowhere has no place
pub place_of-nowhere : (paths : List (List ℕ)) (p : List ℕ) → ¬ (Contains paths p) → place_of p paths ≡ None
place_of-nowhere [] p none = refl
place_of-nowhere (x ∷ paths) p none =
    let e : bytes_eq x p ≡ false = apart x p (λ same. none (0, omega arith, same)) in
    let rest = place_of-nowhere paths p (λ found. none (suc found.0, omega (arith, found.1), found.2)) in
    rw (e, rest) refl

-- the place of a path is one at which it stands
pub place_of-some : (paths : List (List ℕ)) (p : List ℕ) (i : ℕ) → place_of p paths ≡ Some i → (i < length paths)
    × (get_or paths i [] ≡ p)
place_of-some [] p i e = cc e
place_of-some (x ∷ paths) p i e = by_cases (bytes_eq x p) (place_of p paths) i refl (λ j h. place_of-some paths p j h) e
  where
    by_cases : (b : Bool) (o : Option ℕ) (i : ℕ) → bytes_eq x p ≡ b → ((j : ℕ) → o ≡ Some j → (j < length paths)
        × (get_or paths j [] ≡ p)) → cond b (Some 0) (option_map suc o) ≡ Some i
        → (i < suc (length paths)) × (get_or (x ∷ paths) i [] ≡ p)
    by_cases true o zero same more e = (omega arith, (bytes_eq-Decides x p).0 same)
    by_cases true o (suc i) same more e = cc e
    by_cases false None i same more e = cc e
    by_cases false (Some j) zero same more e = cc e
    by_cases false (Some j) (suc i) same more e =
        let k : j ≡ i = cc e in
        let m = more i (ap Some k) in
        (omega (arith, m.0), m.1)
