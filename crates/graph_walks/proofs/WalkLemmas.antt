-- The product of two products by the same choices.
use Rattle.std.proofs.Common.{◌≡◌, ℕ, ◌<◌, zero, suc, List, [], ◌∷◌, length, map, replicate, take, ◌++◌, get_or, slice_get, Some}
use Rattle.std.proofs.Common.{refl, sym, ap, ◌∙◌, subst, arith}
use Rattle.std.specs.Prelude.{option_map}
use Rattle.std.proofs.lemmas.List.{length-map, length-replicate}
use Rattle.std.proofs.lemmas.Option.{slice_get_within, get_or_from_slice_get, same_Some, slice_get-map}
use Rattle.decision_graphs.specs.Label.{Layer, Layered, layer_at, label_of}
use Rattle.graph_products.specs.declared.pair.Pair.{Pair}
use Rattle.graph_products.specs.declared.row.Row.{Row}
use Rattle.graph_products.specs.Products.{AreRows, firsts, seconds, row_at, rows_at, RowsFit, StepsFit, IsProductOf}
use Rattle.graph_products.specs.Products.{pair_of, no_pair, StandsThere}
use Rattle.graph_products.proofs.PlaceLemmas.{pair_same}
use Rattle.graph_walks.specs.declared.codes.Codes.{Codes}
use Rattle.graph_walks.specs.Walks.{same_rows, same_steps, AreTwos, HasTwos, codes_in, codes_at, IsInPlace, IsWalkOf}

-- ---- lists of two choices

pub two_tail : (n c : ℕ) (cs : List ℕ) → AreTwos (suc n) (c ∷ cs) → AreTwos n cs
two_tail n c cs h = record { len = omega (arith, h.len); small = λ j d at. h.small (suc j) d at }

pub no_twos : (n : ℕ) → AreTwos (suc n) [] → ⊥
no_twos n h = omega (arith, h.len)

pub some_twos : (c : ℕ) (cs : List ℕ) → AreTwos 0 (c ∷ cs) → ⊥
some_twos c cs h = omega (arith, h.len)

pub rows_of_twos : (n : ℕ) (cs : List ℕ) → AreTwos n cs → AreRows (same_steps n) cs
rows_of_twos zero [] h = tt
rows_of_twos zero (c ∷ cs) h = some_twos c cs h
rows_of_twos (suc n) [] h = no_twos n h
rows_of_twos (suc n) (c ∷ cs) h = (h.small 0 c refl, rows_of_twos n cs (two_tail n c cs h))

no_choice : (j c : ℕ) → slice_get {X = ℕ} [] j ≡ Some c → ⊥
no_choice zero c at = cc
no_choice (suc j) c at = cc

pub two_more : (n c : ℕ) (cs : List ℕ) → c < 2 → AreTwos n cs → AreTwos (suc n) (c ∷ cs)
two_more n c cs lt h = record { len = ap suc h.len; small = each }
  where
    each : (j d : ℕ) → slice_get (c ∷ cs) j ≡ Some d → d < 2
    each zero d at = omega (arith, lt, same_Some c d at)
    each (suc j) d at = h.small j d at

pub twos_of_rows : (n : ℕ) (cs : List ℕ) → AreRows (same_steps n) cs → AreTwos n cs
twos_of_rows zero [] h = record { len = refl; small = λ j c at. absurd (no_choice j c at) }
twos_of_rows zero (c ∷ cs) h = absurd h
twos_of_rows (suc n) [] h = absurd h
twos_of_rows (suc n) (c ∷ cs) h = two_more n c cs h.0 (twos_of_rows n cs h.1)

first_same : (c : ℕ) → c < 2 → (row_at same_rows c).first ≡ c
first_same zero lt = refl
first_same (suc zero) lt = refl
first_same (suc (suc c)) lt = absurd (omega (arith, lt))

second_same : (c : ℕ) → c < 2 → (row_at same_rows c).second ≡ c
second_same zero lt = refl
second_same (suc zero) lt = refl
second_same (suc (suc c)) lt = absurd (omega (arith, lt))

pub firsts_same : (n : ℕ) (cs : List ℕ) → AreTwos n cs → firsts (same_steps n) cs ≡ cs
firsts_same zero [] h = refl
firsts_same zero (c ∷ cs) h = absurd (some_twos c cs h)
firsts_same (suc n) [] h = refl
firsts_same (suc n) (c ∷ cs) h =
    ap (λ k. k ∷ firsts (same_steps n) cs) (first_same c (h.small 0 c refl))
    ∙ ap (λ ks. c ∷ ks) (firsts_same n cs (two_tail n c cs h))

pub seconds_same : (n : ℕ) (cs : List ℕ) → AreTwos n cs → seconds (same_steps n) cs ≡ cs
seconds_same zero [] h = refl
seconds_same zero (c ∷ cs) h = absurd (some_twos c cs h)
seconds_same (suc n) [] h = refl
seconds_same (suc n) (c ∷ cs) h =
    ap (λ k. k ∷ seconds (same_steps n) cs) (second_same c (h.small 0 c refl))
    ∙ ap (λ ks. c ∷ ks) (seconds_same n cs (two_tail n c cs h))

-- ---- layers

at_replicate : {X : Type 0} (n : ℕ) (x d : X) (j : ℕ) → j < n → get_or (replicate n x) j d ≡ x
at_replicate zero x d j lt = absurd (omega (arith, lt))
at_replicate (suc n) x d zero lt = refl
at_replicate (suc n) x d (suc j) lt = at_replicate n x d j (omega (arith, lt))

choices_listed : (ls : List Layer) (j : ℕ) → (layer_at ls j).choices ≡ get_or (map (λ (l : Layer). l.choices) ls) j 0
choices_listed [] zero = refl
choices_listed [] (suc j) = refl
choices_listed (l ∷ ls) zero = refl
choices_listed (l ∷ ls) (suc j) = choices_listed ls j

lengths_same : (n : ℕ) → map length (same_steps n) ≡ replicate n 2
lengths_same zero = refl
lengths_same (suc n) = ap (λ ks. 2 ∷ ks) (lengths_same n)

rows_fit : (l m : Layer) (rows : List Row) → rows ≡ same_rows → l.choices ≡ 2 → m.choices ≡ 2 → RowsFit l m rows
rows_fit l m rows e two also = subst (λ rs. RowsFit l m rs) (sym e) (record {
  some = omega arith;
  first = λ c lt. omega (arith, first_same c lt, lt, two);
  second = λ c lt. omega (arith, second_same c lt, lt, also);
})

pub steps_fit : (n : ℕ) (g h : Layered) (steps : List (List Row)) → steps ≡ same_steps n → HasTwos n g → HasTwos n h →
    StepsFit g h steps
steps_fit n g h steps is a b = subst (λ ss. StepsFit g h ss) (sym is) (record {
  first = a.count ∙ sym (length-replicate n same_rows);
  second = b.count ∙ sym (length-replicate n same_rows);
  rows = λ j lt.
      let j_in : j < n = omega (arith, lt, length-replicate n same_rows) in
      rows_fit (layer_at g.layers j) (layer_at h.layers j) (rows_at (same_steps n) j)
      (at_replicate n same_rows [] j j_in) (a.choices j j_in) (b.choices j j_in);
})

module _ (n : ℕ) (g h p : Layered) (pairs : List Pair) (is : IsProductOf g h (same_steps n) p pairs) where
  pub all_two : map (λ (l : Layer). l.choices) p.layers ≡ replicate n 2
  all_two = is.choices ∙ lengths_same n

  pub count_two : length p.layers ≡ n
  count_two =
      sym (length-map p.layers (λ (l : Layer). l.choices)) ∙ (ap length all_two ∙ length-replicate n 2)

  pub has_twos : HasTwos n p
  has_twos = record {
    count = count_two;
    choices = λ j lt.
        choices_listed p.layers j ∙ (ap (λ ks. get_or ks j 0) all_two ∙ at_replicate n 2 0 j lt);
  }

  -- where the choices lead
  pub pair_at : (cs : List ℕ) → AreTwos n cs → StandsThere pairs (label_of p cs) (label_of g cs) (label_of h cs)
  pair_at cs two =
      is.pair cs (rows_of_twos n cs two)
      ∙ ap Some (pair_same _ _ _ _ (ap (λ ds. label_of g ds) (firsts_same n cs two))
      (ap (λ ds. label_of h ds) (seconds_same n cs two)))

module _ (n : ℕ) (g h k l one other all : Layered) (one_pairs other_pairs pairs : List Pair)
    (first : IsProductOf g h (same_steps n) one one_pairs) (second : IsProductOf k l (same_steps n) other other_pairs)
    (both : IsProductOf one other (same_steps n) all pairs) where
  pub in_place : (t : ℕ) (x : Pair) → slice_get pairs t ≡ Some x → IsInPlace one_pairs other_pairs x
  in_place t x at =
      let w = both.hit t (slice_get_within pairs t x at) in
      let two = twos_of_rows n w.rows w.are_rows in
      let a = slice_get_within one_pairs (label_of one w.rows) _ (pair_at n g h one one_pairs first w.rows two) in
      let b = slice_get_within other_pairs (label_of other w.rows) _ (pair_at n k l other other_pairs second w.rows two) in
      subst (λ z. IsInPlace one_pairs other_pairs z)
      (same_Some (pair_of (label_of one w.rows) (label_of other w.rows)) x
      (sym (pair_at n one other all pairs both w.rows two) ∙ (ap (slice_get pairs) w.led ∙ at)))
      (record { first = a; second = b })

  pub walk_is : (codes : List Codes) → codes ≡ map (codes_at one_pairs other_pairs) pairs → IsWalkOf g h k l n all codes
  walk_is codes is = record {
    count = count_two n one other all pairs both;
    choices = all_two n one other all pairs both;
    labels =
        both.count ∙ sym (ap length is ∙ length-map pairs (codes_at one_pairs other_pairs));
    leads = λ cs two.
        let here = get_or_from_slice_get one_pairs (label_of one cs) (pair_of (label_of g cs) (label_of h cs)) no_pair
        (pair_at n g h one one_pairs first cs two) in
        let there = get_or_from_slice_get other_pairs (label_of other cs) (pair_of (label_of k cs) (label_of l cs)) no_pair
        (pair_at n k l other other_pairs second cs two) in
        ap (λ (cs' : List Codes). slice_get cs' (label_of all cs)) is
        ∙ (slice_get-map (codes_at one_pairs other_pairs) pairs (label_of all cs)
        ∙ (ap (option_map (codes_at one_pairs other_pairs)) (pair_at n one other all pairs both cs two)
        ∙ ap Some (ap (λ x. codes_in x (get_or other_pairs (label_of other cs) no_pair)) here
        ∙ ap (λ y. codes_in (pair_of (label_of g cs) (label_of h cs)) y) there)));
  }

-- ---- lists made one by one

pub map_take_more : {X Y : Type 0} (f : X → Y) (xs : List X) (t : ℕ) (x : X) → slice_get xs t ≡ Some x →
    map f (take (suc t) xs) ≡ map f (take t xs) ++ f x ∷ []
map_take_more f [] t x at = cc
map_take_more f (y ∷ ys) zero x at = ap (λ z. f z ∷ []) (same_Some y x at)
map_take_more f (y ∷ ys) (suc t) x at = ap (λ zs. f y ∷ zs) (map_take_more f ys t x at)

pub replicate_more : {X : Type 0} (n : ℕ) (x : X) → replicate (suc n) x ≡ replicate n x ++ x ∷ []
replicate_more zero x = refl
replicate_more (suc n) x = ap (λ ys. x ∷ ys) (replicate_more n x)
