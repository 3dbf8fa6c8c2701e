-- What the elements of a list add behind another, one after the other.
use Rattle.std.proofs.Common.{◌≡◌, ◌∙◌, ◌+◌, ◌<◌, ◌≤◌, ℕ, List, [], ◌∷◌, ◌++◌, length, get_or, take, map, ap, sym}
use Rattle.std.proofs.Common.{append_assoc}
use Rattle.std.specs.List.{flat_map}
use Rattle.std.proofs.lemmas.List.{take_more, take_all, flat_map_more, map-append}

-- ---- each adds a list
pub lists_on : {X A : Type 0} (f : X → List A) (xs : List X) (i : ℕ) (x d : X) (start old new : List A) → i < length xs
    → x ≡ get_or xs i d → old ≡ start ++ flat_map f (take i xs) → new ≡ old ++ f x
    → new ≡ start ++ flat_map f (take (i + 1) xs)
lists_on {X} {A} f xs i x d start old new within is before more =
    more ∙ ap (λ (l : List A). l ++ f x) before ∙ flat_map_more f start (take i xs) x
    ∙ ap (λ (l : List X). start ++ flat_map f l) (ap (λ (y : X). take i xs ++ y ∷ []) is ∙ sym (take_more xs i d within))

pub lists_done : {X A : Type 0} (f : X → List A) (xs : List X) (i : ℕ) (start all : List A) → length xs ≤ i
    → all ≡ start ++ flat_map f (take i xs) → all ≡ start ++ flat_map f xs
lists_done {X} f xs i start all past before = before ∙ ap (λ (l : List X). start ++ flat_map f l) (take_all i xs past)

-- ---- each adds one element
pub one_on : {X A : Type 0} (f : X → A) (xs : List X) (i : ℕ) (x d : X) (start old new : List A) → i < length xs
    → x ≡ get_or xs i d → old ≡ start ++ map f (take i xs) → new ≡ old ++ f x ∷ []
    → new ≡ start ++ map f (take (i + 1) xs)
one_on {X} {A} f xs i x d start old new within is before more =
    more ∙ ap (λ (l : List A). l ++ f x ∷ []) before ∙ append_assoc start (map f (take i xs)) (f x ∷ [])
    ∙ ap (λ (l : List A). start ++ l) (sym (map-append f (take i xs) (x ∷ [])))
    ∙ ap (λ (l : List X). start ++ map f l) (ap (λ (y : X). take i xs ++ y ∷ []) is ∙ sym (take_more xs i d within))

pub one_done : {X A : Type 0} (f : X → A) (xs : List X) (i : ℕ) (start all : List A) → length xs ≤ i
    → all ≡ start ++ map f (take i xs) → all ≡ start ++ map f xs
one_done {X} f xs i start all past before = before ∙ ap (λ (l : List X). start ++ map f l) (take_all i xs past)
