-- The layers of a product so far, and the pairs to which they lead.
use Rattle.std.proofs.Common.{◌≡◌, ℕ, ◌+◌, ◌*◌, ◌/◌, ◌%◌, ◌<◌, ◌≤◌, zero, suc, List, [], ◌∷◌, ◌++◌, length, get_or, map, take}
use Rattle.std.proofs.Common.{slice_get, Some, refl, sym, ap, ◌∙◌, subst, inl, inr, arith, div-add-mod'}
use Rattle.std.proofs.lemmas.List.{take_more, take_all, take-append-le, map-append, length_push, length-take-le}
use Rattle.std.proofs.lemmas.Bool.{cases_lt}
use Rattle.std.proofs.lemmas.Nat.{div-mul-add, mod-mul-add, mod_below, div_below}
use Rattle.std.proofs.lemmas.Option.{slice_get_within, slice_get-get_or, same_Some}
use Rattle.decision_graphs.specs.Label.{Layer, Layered, no_layer, layer_at, leads, step, label_of, AreLayers, size_at}
use Rattle.decision_graphs.specs.Finished.{layer_with}
use Rattle.decision_graphs.proofs.RowLemmas.{element-rows_of, row_end}
use Rattle.graph_products.specs.declared.pair.Pair.{Pair}
use Rattle.graph_products.specs.declared.row.Row.{Row}
use Rattle.graph_products.specs.Products.{row_at, rows_at, AreRows, firsts, seconds, StepsFit, pair_of, no_pair}
use Rattle.graph_products.specs.Products.{LeadsJointly, StandsThere, IsHit, IsProductOf, front_of, AreSoManyPairs, IsFront, MeetAt}
use Rattle.std.proofs.Math.Nat.{mul-le-mul_left}
use Rattle.graph_products.specs.Layering.{NoneTwice, AreEdges, AreStates}
use Rattle.graph_products.proofs.ListLemmas.{leads_more, rows_len, olds_len, news_len, firsts_more, seconds_more, rows_more}
use Rattle.graph_products.proofs.ListLemmas.{rows_split, layer_fits, size_in, some_start}
use Rattle.graph_products.proofs.PlaceLemmas.{pair_same}

-- the list of rows leads to place t
pub record IsWay (rss : List (List Row)) (ps : List Layer) (t : ℕ) : Type 0 where
  pub rows : List ℕ
  pub are : AreRows rss rows
  pub led : leads ps 0 rows ≡ t

-- the layers as a graph, whatever its labels
abbrev graph_of : List Layer → Layered
graph_of ps = record { labels = 0; layers = ps }

pub record IsPrefix (g h : Layered) (rss : List (List Row)) (j : ℕ) (ps : List Layer) (states : List Pair) : Type 0 where
  pub count : length ps ≡ j
  pub choices : map (λ (l : Layer). l.choices) ps ≡ map length (take j rss)
  pub pair : (cs : List ℕ) → AreRows (take j rss) cs →
      StandsThere states (leads ps 0 cs) (front_of g j (firsts (take j rss) cs)) (front_of h j (seconds (take j rss) cs))
  pub apart : NoneTwice states
  pub hit : (t : ℕ) → t < length states → IsWay (take j rss) ps t
  pub within : AreStates (size_at g.labels g.layers j) (size_at h.labels h.layers j) states
  pub some : 0 < length states
  pub meet : (i : ℕ) → i ≤ j → MeetAt g h rss (graph_of ps) i

-- ---- the start

only_first : (t : ℕ) (x : Pair) → slice_get (no_pair ∷ []) t ≡ Some x → (t ≡ 0) × (x ≡ no_pair)
only_first zero x e = (refl, same_Some x no_pair (sym e))
only_first (suc t) x e = cc

only_start : (t : ℕ) → t < length (no_pair ∷ []) → 0 ≡ t
only_start t lt = omega (arith, lt)

pub prefix_start : (g h : Layered) (rss : List (List Row)) → AreLayers g.labels g.layers →
    AreLayers h.labels h.layers → IsPrefix g h rss 0 [] (no_pair ∷ [])
prefix_start g h rss fit_g fit_h = record {
  count = refl;
  choices = refl;
  pair = start_pair;
  apart = λ a b x at_a at_b. (only_first a x at_a).0 ∙ sym (only_first b x at_b).0;
  hit = λ t lt. record { rows = []; are = tt; led = only_start t lt };
  within = λ t x at. (
    subst (λ (y : Pair). y.first < size_at g.labels g.layers 0) (sym (only_first t x at).1)
        (some_start g.labels g.layers fit_g),
    subst (λ (y : Pair). y.second < size_at h.labels h.layers 0) (sym (only_first t x at).1)
        (some_start h.labels h.layers fit_h),
  );
  some = omega arith;
  meet = start_meet;
}
  where
    start_meet : (i : ℕ) → i ≤ 0 → MeetAt g h rss (graph_of []) i
    start_meet zero le cs ds a b one other = refl
    start_meet (suc i) le cs ds a b one other = absurd (omega (arith, le))

    start_pair : (cs : List ℕ) → AreRows (take 0 rss) cs →
        StandsThere (no_pair ∷ []) (leads [] 0 cs) (front_of g 0 (firsts (take 0 rss) cs)) (front_of h 0
        (seconds (take 0 rss) cs))
    start_pair [] a = refl
    start_pair (c ∷ cs) a = absurd a

-- ---- one layer more

module _ (g h : Layered) (rss : List (List Row)) (j : ℕ) (ps : List Layer) (states next : List Pair)
    (edges : List ℕ) (fit_g : AreLayers g.labels g.layers) (fit_h : AreLayers h.labels h.layers) (steps : StepsFit g h rss)
    (lt : j < length rss) (pre : IsPrefix g h rss j ps states)
    (made : AreEdges (layer_at g.layers j) (layer_at h.layers j) states (rows_at rss j) next edges
    (length states * length (rows_at rss j))) where
  abbrev rs : List Row
  rs = rows_at rss j

  abbrev w : ℕ
  w = length rs

  abbrev p : Layer
  p = layer_with w (length states) edges

  more_rows : take (suc j) rss ≡ take j rss ++ rs ∷ []
  more_rows = ap (λ n. take n rss) (let e : suc j ≡ j + 1 = omega arith in e) ∙ take_more rss j [] lt

  in_g : j < length g.layers
  in_g = omega (arith, lt, steps.first)

  in_h : j < length h.layers
  in_h = omega (arith, lt, steps.second)

  more_g : take (suc j) g.layers ≡ take j g.layers ++ layer_at g.layers j ∷ []
  more_g = ap (λ n. take n g.layers) (let e : suc j ≡ j + 1 = omega arith in e) ∙ take_more g.layers j no_layer in_g

  more_h : take (suc j) h.layers ≡ take j h.layers ++ layer_at h.layers j ∷ []
  more_h = ap (λ n. take n h.layers) (let e : suc j ≡ j + 1 = omega arith in e) ∙ take_more h.layers j no_layer in_h

  count_rows : length (take j rss) ≡ j
  count_rows = length-take-le j rss (omega (arith, lt))

  count_g : length (take j g.layers) ≡ j
  count_g = length-take-le j g.layers (omega (arith, in_g))

  count_h : length (take j h.layers) ≡ j
  count_h = length-take-le j h.layers (omega (arith, in_h))

  place_in : (t c : ℕ) → t < length states → c < w → t * w + c < length states * w
  place_in t c t_in c_in = row_end w (length states) t c t_in c_in

  -- where a row leads from a node of the product
  step_is : (t c : ℕ) → t < length states → c < w → step p t c ≡ get_or edges (t * w + c) 0
  step_is t c t_in c_in = element-rows_of w (length states) edges t c 0 t_in c_in

  next_pair : (t : ℕ) (x : Pair) (c : ℕ) → slice_get states t ≡ Some x → c < w →
      (y : Pair) × (slice_get next (step p t c) ≡ Some y)
      × LeadsJointly (layer_at g.layers j) (layer_at h.layers j) x (row_at rs c) y
  next_pair t x c at c_in =
      let t_in = slice_get_within states t x at in
      let m = made.made (t * w + c) x (place_in t c t_in c_in) (ap (slice_get states) (div-mul-add t w c c_in) ∙ at) in (
        m.0,
        ap (slice_get next) (step_is t c t_in c_in) ∙ m.1,
        subst (λ n. LeadsJointly (layer_at g.layers j) (layer_at h.layers j) x (row_at rs n) m.0)
            (mod-mul-add t w c c_in) m.2,
      )

  old_more : (cs : List ℕ) (c : ℕ) → AreRows (take j rss) cs →
      front_of g (suc j) (firsts (take (suc j) rss) (cs ++ c ∷ []))
      ≡ step (layer_at g.layers j) (front_of g j (firsts (take j rss) cs)) (row_at rs c).first
  old_more cs c a =
      ap (λ xs. front_of g (suc j) (firsts xs (cs ++ c ∷ []))) more_rows
      ∙ (ap (λ xs. front_of g (suc j) xs) (firsts_more (take j rss) rs c cs a)
      ∙ (ap (λ ls. leads ls 0 (firsts (take j rss) cs ++ (row_at rs c).first ∷ [])) more_g
      ∙ leads_more (take j g.layers) (layer_at g.layers j) 0 (row_at rs c).first (firsts (take j rss) cs)
      (omega (arith, count_g, count_rows, olds_len (take j rss) cs a))))

  new_more : (cs : List ℕ) (c : ℕ) → AreRows (take j rss) cs →
      front_of h (suc j) (seconds (take (suc j) rss) (cs ++ c ∷ []))
      ≡ step (layer_at h.layers j) (front_of h j (seconds (take j rss) cs)) (row_at rs c).second
  new_more cs c a =
      ap (λ xs. front_of h (suc j) (seconds xs (cs ++ c ∷ []))) more_rows
      ∙ (ap (λ xs. front_of h (suc j) xs) (seconds_more (take j rss) rs c cs a)
      ∙ (ap (λ ls. leads ls 0 (seconds (take j rss) cs ++ (row_at rs c).second ∷ [])) more_h
      ∙ leads_more (take j h.layers) (layer_at h.layers j) 0 (row_at rs c).second (seconds (take j rss) cs)
      (omega (arith, count_h, count_rows, news_len (take j rss) cs a))))

  led_more : (cs : List ℕ) (c : ℕ) → AreRows (take j rss) cs →
      leads (ps ++ p ∷ []) 0 (cs ++ c ∷ []) ≡ step p (leads ps 0 cs) c
  led_more cs c a = leads_more ps p 0 c cs (omega (arith, pre.count, count_rows, rows_len (take j rss) cs a))

  pair_one : (cs : List ℕ) (c : ℕ) → AreRows (take j rss) cs → c < w →
      StandsThere next (leads (ps ++ p ∷ []) 0 (cs ++ c ∷ [])) (front_of g (suc j)
      (firsts (take (suc j) rss) (cs ++ c ∷ []))) (front_of h (suc j) (seconds (take (suc j) rss) (cs ++ c ∷ [])))
  pair_one cs c a c_in =
      let x = pair_of (front_of g j (firsts (take j rss) cs)) (front_of h j (seconds (take j rss) cs)) in
      let n = next_pair (leads ps 0 cs) x c (pre.pair cs a) c_in in
      ap (slice_get next) (led_more cs c a)
      ∙ (n.1 ∙ ap Some (n.2 ∙ pair_same _ _ _ _ (sym (old_more cs c a)) (sym (new_more cs c a))))

  pair_more : (cs : List ℕ) → AreRows (take (suc j) rss) cs →
      StandsThere next (leads (ps ++ p ∷ []) 0 cs) (front_of g (suc j) (firsts (take (suc j) rss) cs))
      (front_of h (suc j) (seconds (take (suc j) rss) cs))
  pair_more cs a =
      let m = rows_split (take j rss) rs cs (subst (λ xs. AreRows xs cs) more_rows a) in
      subst (λ xs. StandsThere next (leads (ps ++ p ∷ []) 0 xs) (front_of g (suc j) (firsts (take (suc j) rss) xs))
      (front_of h (suc j) (seconds (take (suc j) rss) xs))) (sym m.split) (pair_one m.front m.last m.are m.within)

  -- the node and the row from which a place of the next layer was reached
  some_row : 0 < w
  some_row = (steps.rows j lt).some

  state_in : (n : ℕ) → n < length states * w → n / w < length states
  state_in n h = div_below n w (length states) some_row h

  row_in : (n : ℕ) → n % w < w
  row_in n = mod_below n w some_row

  split : (n : ℕ) → n ≡ n / w * w + n % w
  split n = sym (div-add-mod' n w)

  hit_more : (t : ℕ) → t < length next → IsWay (take (suc j) rss) (ps ++ p ∷ []) t
  hit_more t t_in =
      let y = get_or next t no_pair in
      let m = made.hit t y (slice_get-get_or next t no_pair t_in) in
      let k = m.0 / w in
      let c = m.0 % w in
      let c_in : c < w = row_in m.0 in
      let is : m.0 ≡ k * w + c = split m.0 in
      let k_in : k < length states = state_in m.0 m.1 in
      let v = pre.hit k k_in in
      record {
        rows = v.rows ++ c ∷ [];
        are = subst (λ xs. AreRows xs (v.rows ++ c ∷ [])) (sym more_rows) (rows_more (take j rss) rs c v.rows v.are c_in);
        led = led_more v.rows c v.are ∙ (ap (λ n. step p n c) v.led ∙ (step_is k c k_in c_in
            ∙ (ap (λ n. get_or edges n 0) (sym is) ∙ m.2)));
      }

  states_more : AreStates (size_at g.labels g.layers (suc j)) (size_at h.labels h.layers (suc j)) next
  states_more t y at =
      let m = made.hit t y at in
      let k = m.0 / w in
      let x = get_or states k no_pair in
      let c = m.0 % w in
      let k_in : k < length states = state_in m.0 m.1 in
      let at_x : slice_get states k ≡ Some x = slice_get-get_or states k no_pair k_in in
      let n = made.made m.0 x m.1 at_x in
      let is = sym n.2 ∙ same_Some n.0 y (sym n.1 ∙ (ap (slice_get next) m.2 ∙ at)) in
      let c_in : c < w = row_in m.0 in
      let from = pre.within k x at_x in
      let fits = steps.rows j lt in
      let old_in : x.first < length (layer_at g.layers j).rows = omega (arith, from.0, size_in g.labels g.layers j in_g) in
      let new_in : x.second < length (layer_at h.layers j).rows = omega (arith, from.1, size_in h.labels h.layers j in_h) in (
        subst (λ n. n < size_at g.labels g.layers (suc j)) (ap (λ (v : Pair). v.first) is)
            ((layer_fits g.labels g.layers j fit_g in_g).edges x.first (row_at rs c).first old_in (fits.first c c_in)),
        subst (λ n. n < size_at h.labels h.layers (suc j)) (ap (λ (v : Pair). v.second) is)
            ((layer_fits h.labels h.layers j fit_h in_h).edges x.second (row_at rs c).second new_in (fits.second c c_in)),
      )

  some_next : 0 < length next
  some_next =
      let x = get_or states 0 no_pair in
      let n = next_pair 0 x 0 (slice_get-get_or states 0 no_pair pre.some) some_row in
      omega (arith, slice_get_within next (step p 0 0) n.0 n.1)

  -- lists that come to one pair come to one place of the next layer
  meet_next : MeetAt g h rss (graph_of (ps ++ p ∷ [])) (suc j)
  meet_next cs ds a b one other =
      let led : leads (ps ++ p ∷ []) 0 cs ≡ leads (ps ++ p ∷ []) 0 ds =
      made.none_twice (leads (ps ++ p ∷ []) 0 cs) (leads (ps ++ p ∷ []) 0 ds) _
      (pair_more cs a ∙ ap Some (pair_same _ _ _ _ one other)) (pair_more ds b) in
      let all : take (suc j) (ps ++ p ∷ []) ≡ ps ++ p ∷ [] =
      take_all (suc j) (ps ++ p ∷ []) (omega (arith, length_push ps p, pre.count)) in
      ap (λ ls. leads ls 0 cs) all ∙ (led ∙ ap (λ ls. leads ls 0 ds) (sym all))

  meet_before : (i : ℕ) → i ≤ j → MeetAt g h rss (graph_of (ps ++ p ∷ [])) i
  meet_before i le cs ds a b one other =
      let front : take i (ps ++ p ∷ []) ≡ take i ps = take-append-le i ps (p ∷ []) (omega (arith, le, pre.count)) in
      ap (λ ls. leads ls 0 cs) front
      ∙ (pre.meet i le cs ds a b one other ∙ ap (λ ls. leads ls 0 ds) (sym front))

  meet_more : (i : ℕ) → i ≤ suc j → MeetAt g h rss (graph_of (ps ++ p ∷ [])) i
  meet_more i le = elim (cases_lt i (suc j)) [
    | inl less ↦ meet_before i (omega (arith, less))
    | inr more ↦ subst (λ k. MeetAt g h rss (graph_of (ps ++ p ∷ [])) k)
        (let e : suc j ≡ i = omega (arith, le, more) in e) meet_next
  ]

  pub prefix_more : IsPrefix g h rss (suc j) (ps ++ p ∷ []) next
  prefix_more = record {
    count = length_push ps p ∙ omega (arith, pre.count);
    choices =
        map-append (λ (l : Layer). l.choices) ps (p ∷ [])
        ∙ (ap (λ xs. xs ++ w ∷ []) pre.choices
        ∙ (sym (map-append length (take j rss) (rs ∷ [])) ∙ ap (map length) (sym more_rows)));
    pair = pair_more;
    apart = made.none_twice;
    hit = hit_more;
    within = states_more;
    some = some_next;
    meet = meet_more;
  }

-- ---- counts

pub at_least : (n w : ℕ) → 0 < w → n ≤ n * w
at_least n w some = omega (arith, mul-le-mul_left n (let h : 1 ≤ w = omega (arith, some) in h))

-- each edge leads to a place of the next layer
pub edges_lead : (l m : Layer) (states : List Pair) (rows : List Row) (next : List Pair) (edges : List ℕ) →
    AreEdges l m states rows next edges (length states * length rows) → 0 < length rows → (t : ℕ) →
    t < length states * length rows → get_or edges t 0 < length next
edges_lead l m states rows next edges e some t lt =
    let k = t / length rows in
    let k_in : k < length states = div_below t (length rows) (length states) some lt in
    let n = e.made t (get_or states k no_pair) lt (slice_get-get_or states k no_pair k_in) in
    slice_get_within next (get_or edges t 0) n.0 n.1

-- ---- the end

module _ (g h : Layered) (rss : List (List Row)) (ps : List Layer) (states : List Pair) (steps : StepsFit g h rss)
    (pre : IsPrefix g h rss (length rss) ps states) where
  all_rows : take (length rss) rss ≡ rss
  all_rows = take_all (length rss) rss (omega arith)

  all_g : take (length rss) g.layers ≡ g.layers
  all_g = take_all (length rss) g.layers (omega (arith, steps.first))

  all_h : take (length rss) h.layers ≡ h.layers
  all_h = take_all (length rss) h.layers (omega (arith, steps.second))

  front_g : (cs : List ℕ) → front_of g (length rss) (firsts (take (length rss) rss) cs) ≡ label_of g (firsts rss cs)
  front_g cs =
      ap (λ xs. front_of g (length rss) (firsts xs cs)) all_rows ∙ ap (λ ls. leads ls 0 (firsts rss cs)) all_g

  front_h : (cs : List ℕ) → front_of h (length rss) (seconds (take (length rss) rss) cs) ≡ label_of h (seconds rss cs)
  front_h cs =
      ap (λ xs. front_of h (length rss) (seconds xs cs)) all_rows ∙ ap (λ ls. leads ls 0 (seconds rss cs)) all_h

  -- the graph of the layers
  abbrev whole : Layered
  whole = record { labels = length states; layers = ps }

  pair_all : (cs : List ℕ) → AreRows rss cs →
      StandsThere states (label_of whole cs) (label_of g (firsts rss cs)) (label_of h (seconds rss cs))
  pair_all cs a =
      pre.pair cs (subst (λ xs. AreRows xs cs) (sym all_rows) a) ∙ ap Some (pair_same _ _ _ _ (front_g cs) (front_h cs))

  hit_all : (t : ℕ) → t < length states → IsHit whole rss t
  hit_all t lt =
      let w = pre.hit t lt in
      record { rows = w.rows; are_rows = subst (λ xs. AreRows xs w.rows) all_rows w.are; led = w.led }

  pub product_of : IsProductOf g h rss whole states
  product_of = record {
    choices = pre.choices ∙ ap (map length) all_rows;
    count = refl;
    pair = pair_all;
    apart = λ s t a b. pre.apart s t (pair_of a b);
    hit = hit_all;
    meet = pre.meet;
  }

-- ---- how many pairs are reached

module _ (g h : Layered) (rss : List (List Row)) (j : ℕ) (ps : List Layer) (states : List Pair)
    (pre : IsPrefix g h rss j ps states) where
  front_at : (t : ℕ) (x : Pair) → slice_get states t ≡ Some x → IsFront g h rss j x
  front_at t x at =
      let w = pre.hit t (slice_get_within states t x at) in
      record {
        rows = w.rows;
        are_rows = w.are;
        is = same_Some x _ (sym at ∙ (ap (slice_get states) (sym w.led) ∙ pre.pair w.rows w.are));
      }

  pub so_many : AreSoManyPairs g h rss j (length states)
  so_many = record {
    pairs = states;
    count = refl;
    none_twice = pre.apart;
    each = front_at;
    all = λ cs a. (leads ps 0 cs, pre.pair cs a);
  }
