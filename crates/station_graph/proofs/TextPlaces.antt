-- The place of a text in a list, and in a table whose keys are in the order of their texts.
use Rattle.std.proofs.Common.{◌≡◌, ℕ, ◌+◌, suc, List, [], ◌∷◌, ◌++◌, length, Option, Some, None, Bool, true}
use Rattle.std.proofs.Common.{false, not, ◌||◌, cond, refl, ap, sym, ◌∙◌, subst, is_some, Global, arith}
use Rattle.std.specs.Prelude.{nat_lt}
use lib.Dec.{is_le}
use Prim.Native.Nat.compare
use Rattle.std.specs.List.{list_any, position, position_or_len}
use Rattle.std.specs.Option.{option_map, option_or}
use Rattle.std.specs.Str.{bytes_eq}
use Rattle.std.specs.Ordering.{nat_cmp, is_eq}
use Rattle.std.specs.Cmp.Lexicographic.{slice_cmp, nat_list_eq_equiv}
use Rattle.std.specs.Map.{KeepsOthers, IsKeyTest, AreApart, lookup}
use Rattle.std.specs.BTreeMap.{BTreeMap, is_at, UpdatesBy, IsUnchanged}
use Rattle.std.specs.declared.rc.RcStr.{RcStr}
use Rattle.std.specs.Rc.{rc_str_bytes}
use Rattle.std.specs.Cmp.{eq_by_cmp_equiv}
use Rattle.std.proofs.lemmas.Cmp.{nat_list_cmp_total}
use Rattle.std.proofs.lemmas.Map.Text.{is_eq-slice_cmp}
use Rattle.std.proofs.lemmas.Slice.Eq.{bytes_eq-Decides}
use Rattle.station_graph.specs.Placing.{place_of, ArePlaces}

below : (n len : ℕ) → nat_lt (suc n) (suc len) ≡ nat_lt n len
below n len = ap is_le (compare.suc-suc (suc n) len)

place_more : (b : Bool) (n len : ℕ) → cond (nat_lt (cond (not b) (1 + n) 0) (suc len)) (Some (cond (not b) (1 + n) 0))
    None ≡ cond b (Some 0) (option_map suc (cond (nat_lt n len) (Some n) None))
place_more true n len = let first : nat_lt 0 (suc len) ≡ true = grind arith in rw first refl
place_more false n len = let e : 1 + n ≡ suc n = omega arith in rw (e, below n len) (by (nat_lt n len))
  where
    by : (t : Bool) → cond t (Some (suc n)) None ≡ option_map suc (cond t (Some n) None)
    by true = refl
    by false = refl

position-cons : {X : Type 0} (p : X → Bool) (x : X) (xs : List X) →
    position p (x ∷ xs) ≡ cond (p x) (Some 0) (option_map suc (position p xs))
position-cons p x xs = place_more (p x) (position_or_len p xs) (length xs)

some_more : (b : Bool) (o : Option ℕ) → is_some (cond b (Some 0) (option_map suc o)) ≡ (b || is_some o)
some_more true o = refl
some_more false (Some n) = refl
some_more false None = refl

-- there is a place exactly where an element passes
pub some_place : {X : Type 0} (p : X → Bool) (xs : List X) → is_some (position p xs) ≡ list_any p xs
some_place p [] = refl
some_place p (x ∷ xs) = ap is_some (position-cons p x xs) ∙ (some_more (p x) (position p xs)
    ∙ ap (λ b. p x || b) (some_place p xs))

last_more : (b c : Bool) (o : Option ℕ) (n : ℕ) → cond b (Some 0) (option_map suc (option_or o (cond c
    (Some n) None))) ≡ option_or (cond b (Some 0) (option_map suc o)) (cond c (Some (suc n)) None)
last_more true c o n = refl
last_more false c (Some m) n = refl
last_more false true None n = refl
last_more false false None n = refl

-- the place in a list with one more
position-push : {X : Type 0} (p : X → Bool) (xs : List X) (y : X) → position p (xs ++ y ∷ [])
    ≡ option_or (position p xs) (cond (p y) (Some (length xs)) None)
position-push p [] y = position-cons p y []
position-push p (x ∷ xs) y = position-cons p x (xs ++ y ∷ []) ∙ (ap (λ o. cond (p x) (Some 0) (option_map suc o))
    (position-push p xs y) ∙ (last_more (p x) (p y) (position p xs) (length xs)
    ∙ ap (λ o. option_or o (cond (p y) (Some (suc (length xs))) None)) (sym (position-cons p x xs))))

one_more : (b : Bool) (o : Option ℕ) (n : ℕ) → (b ≡ true → o ≡ None) → cond b (Some n) o ≡ option_or o
    (cond b (Some n) None)
one_more true o n none = rw (none refl) refl
one_more false (Some m) n none = refl
one_more false None n none = refl

turned : (xs ys : List ℕ) → bytes_eq xs ys ≡ bytes_eq ys xs
turned xs ys = nat_list_eq_equiv.symm xs ys

-- places after a text that was not there: at it the place after the others, at other texts as before
pub placed_push : (texts : List (List ℕ)) (text : List ℕ) (old new : List ℕ → Option ℕ) → ((t : List ℕ) → old t
    ≡ position (bytes_eq t) texts) → position (bytes_eq text) texts ≡ None → ((t : List ℕ) → new t ≡ cond
    (bytes_eq text t) (Some (length texts)) (old t)) → (t : List ℕ) → new t
    ≡ position (bytes_eq t) (texts ++ text ∷ [])
placed_push texts text old new seen none updates t =
    let same : bytes_eq t text ≡ true → position (bytes_eq t) texts ≡ None = λ e. subst (λ (l : List ℕ). position
    (bytes_eq l) texts ≡ None) (sym ((bytes_eq-Decides t text).0 e)) none in
    updates t
    ∙ (ap (λ b. cond b (Some (length texts)) (old t)) (turned text t)
    ∙ (ap (λ o. cond (bytes_eq t text) (Some (length texts)) o) (seen t)
    ∙ (one_more (bytes_eq t text) (position (bytes_eq t) texts) (length texts) same
    ∙ sym (position-push (bytes_eq t) texts text))))

-- ---- a change at one text

apart : (bs cs ks : List ℕ) → bytes_eq bs cs ≡ false → is_eq (slice_cmp nat_cmp bs ks) ≡ true →
    is_eq (slice_cmp nat_cmp cs ks) ≡ false
apart bs cs ks n y = is_eq-slice_cmp cs ks ∙ (turned cs ks ∙ (sym (nat_list_eq_equiv.congr bs ks cs
    (sym (is_eq-slice_cmp bs ks) ∙ y)) ∙ n))

others : {K X : Type 0} (eq : K → K → Bool) (test : K → Bool) (old new : List (K × X)) → KeepsOthers eq test old new →
    (other : K → Bool) → IsKeyTest eq other → AreApart test other → lookup other new ≡ lookup other old
unfolding KeepsOthers
others eq test old new h = h

module _ (m n : BTreeMap (RcStr Global) ℕ) (w : Option ℕ) (bs : List ℕ) (h : UpdatesBy (λ x y. slice_cmp nat_cmp
    (rc_str_bytes x) (rc_str_bytes y)) (λ k. slice_cmp nat_cmp bs (rc_str_bytes k)) m n w) where
  at : (cs : List ℕ) (b : Bool) → bytes_eq bs cs ≡ b → place_of n cs ≡ cond b w (place_of m cs)
  at cs true e = subst (λ (l : List ℕ). place_of n l ≡ w) ((bytes_eq-Decides bs cs).0 e) h.1
  at cs false e = others _ _ _ _ h.3 _
      (λ x y. (eq_by_cmp_equiv nat_list_cmp_total).congr cs (rc_str_bytes x) (rc_str_bytes y))
      (λ k. apart bs cs (rc_str_bytes k) e)

  -- what the table has at any text after a change at one
  pub place_updates : (cs : List ℕ) → place_of n cs ≡ cond (bytes_eq bs cs) w (place_of m cs)
  place_updates cs = at cs (bytes_eq bs cs) refl

-- a table with the same entries has the same places
pub places_stay : (m n : BTreeMap (RcStr Global) ℕ) (texts : List (List ℕ)) → IsUnchanged m n → ArePlaces m texts →
    ArePlaces n texts
places_stay m n texts e h t = ap (lookup (is_at (λ k. slice_cmp nat_cmp t (rc_str_bytes k)))) e ∙ h t
