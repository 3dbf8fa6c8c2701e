-- The table of paths in order, and the pairs that it has.
use Rattle.std.proofs.Common.{◌≡◌, ℕ, List, [], ◌∷◌, map, Bool, true, false, not, ◌||◌, refl, ap, sym, ◌∙◌}
use Rattle.std.specs.List.{list_any}
use Rattle.std.specs.Ordering.{is_eq, match_ordering}
use Rattle.std.proofs.Common.{Ordering, Less, Equal, Greater}
use Rattle.std.specs.BTreeSet.{insert_key}
use Rattle.std.proofs.lemmas.Cmp.{alike_right}
use Rattle.ssd_read.specs.contracts.paths.KeyOrd.TheImpl.{cmp-value}
use Rattle.ssd_read.specs.contracts.paths.KeyOrd.TheImpl.Laws.{matches_eq-law, total-law}
use Rattle.ssd_read.specs.declared.paths.Key.{Key}
use Rattle.ssd_read.specs.declared.role.Role.{Role}
use Rattle.ssd_read.specs.Names.{same_pair}
use Rattle.ssd_read.specs.SeenKeys.{key_pair}
use Rattle.ssd_read.proofs.Lists.{key_eq}

key_cmp : (x y : Key) → is_eq (cmp-value.it x y) ≡ same_pair (key_pair x) (key_pair y)
key_cmp x y = sym (matches_eq-law x y) ∙ key_eq x y

-- a key with this pair
key_of_pair : Role × List ℕ → Key
key_of_pair p = record { kind = p.0; path = record { ref_ptr = (0, 0); now = p.1 } }

like_pair : (p : Role × List ℕ) (x k : Key) → cmp-value.it k x ≡ Equal → same_pair p (key_pair x)
    ≡ same_pair p (key_pair k)
unfolding key_of_pair
like_pair p x k e =
    sym (key_cmp (key_of_pair p) x) ∙ (ap is_eq (sym (alike_right total-law k x (key_of_pair p) e))
    ∙ key_cmp (key_of_pair p) k)

first_last : (a b : Bool) → (a || b) ≡ (b || a)
first_last true true = refl
first_last true false = refl
first_last false true = refl
first_last false false = refl

again : (a b c : Bool) → a ≡ c → (a || b) ≡ ((a || b) || c)
again true b c e = refl
again false true c e = refl
again false false c e = e

between : (a b c : Bool) → (a || (b || c)) ≡ ((a || b) || c)
between true b c = refl
between false b c = refl

-- the pairs of the keys with one more
pub any_inserted : (p : Role × List ℕ) (keys : List Key) (k : Key) → list_any (same_pair p) (map key_pair (insert_key
    cmp-value.it keys k)) ≡ (list_any (same_pair p) (map key_pair keys) || same_pair p (key_pair k))
any_inserted p [] k = first_last (same_pair p (key_pair k)) false
any_inserted p (x ∷ xs) k = by (cmp-value.it k x) refl (any_inserted p xs k)
  where
    by : (r : Ordering) → cmp-value.it k x ≡ r → list_any (same_pair p) (map key_pair (insert_key cmp-value.it xs k))
        ≡ (list_any (same_pair p) (map key_pair xs) || same_pair p (key_pair k)) →
        list_any (same_pair p) (map key_pair (match_ordering r (k ∷ x ∷ xs) (x ∷ xs)
        (x ∷ insert_key cmp-value.it xs k))) ≡ (list_any (same_pair p) (map key_pair (x ∷ xs))
        || same_pair p (key_pair k))
    by Less e rest = first_last (same_pair p (key_pair k)) (list_any (same_pair p) (map key_pair (x ∷ xs)))
    by Equal e rest = again (same_pair p (key_pair x)) (list_any (same_pair p) (map key_pair xs))
        (same_pair p (key_pair k)) (like_pair p x k e)
    by Greater e rest = ap (λ b. same_pair p (key_pair x) || b) rest
        ∙ between (same_pair p (key_pair x)) (list_any (same_pair p) (map key_pair xs)) (same_pair p (key_pair k))

any_map : {X Y : Type 0} (f : X → Y) (p : Y → Bool) (xs : List X) → list_any p (map f xs) ≡ list_any (λ x. p (f x)) xs
any_map f p [] = refl
any_map f p (x ∷ xs) = ap (λ b. p (f x) || b) (any_map f p xs)

any_same : {X : Type 0} (p q : X → Bool) → ((x : X) → p x ≡ q x) → (xs : List X) → list_any p xs ≡ list_any q xs
any_same p q h [] = refl
any_same p q h (x ∷ xs) = rw (h x, any_same p q h xs) refl

pub new_key : (keys : List Key) (all : List (Role × List ℕ)) (k : Key) (b : Bool) → map key_pair keys ≡ all →
    b ≡ not (list_any (λ x. is_eq (cmp-value.it k x)) keys) → b ≡ not (list_any (same_pair (key_pair k)) all)
new_key keys all k b e h = h ∙ ap not (any_same (λ x. is_eq (cmp-value.it k x)) (λ y. same_pair (key_pair k)
    (key_pair y)) (key_cmp k) keys ∙ (sym (any_map key_pair (same_pair (key_pair k)) keys)
    ∙ ap (list_any (same_pair (key_pair k))) e))
