-- Whether a walk has room depends on nothing but on which lists of choices its graphs tell apart.
use Rattle.std.proofs.Common.{◌≡◌, ℕ, ◌+◌, ◌-◌, ◌<◌, ◌≤◌, zero, suc, List, [], ◌∷◌, ◌++◌, length, take, drop, slice_get}
use Rattle.std.proofs.Common.{Some, refl, sym, ap, ◌∙◌, subst, inl, inr, arith}
use Rattle.std.proofs.lemmas.Bool.{cases_eq}
use Rattle.std.proofs.lemmas.Option.{same_Some}
use Rattle.std.proofs.lemmas.List.{length-append, length-drop, length-take-le, length-replicate, take-append-drop}
use Rattle.std.proofs.lemmas.List.{take-replicate, get_or-take, get_or-drop}
use Rattle.decision_graphs.specs.Label.{Layer, Layered, no_layer, layer_at, leads, step, label_of, AreChoices, AreLayers}
use Rattle.decision_graphs.specs.Label.{AreReduced, size_at}
use Rattle.decision_graphs.proofs.LawLemmas.{places_are_told}
use Rattle.decision_graphs.proofs.ReducedLemmas.{leads-append}
use Rattle.graph_products.specs.declared.pair.Pair.{Pair}
use Rattle.graph_products.specs.Products.{AreRows, firsts, seconds, front_of, IsProductOf, IsWide, HasRoom}
use Rattle.graph_products.proofs.RoomLemmas.{Follow, wide_has_no_room}
use Rattle.graph_walks.specs.Walks.{same_rows, same_steps, AreTwos, HasTwos, IsWideWalk, HasWalkRoom}
use Rattle.graph_walks.specs.Telling.{IsReduced, TellAlike}
use Rattle.graph_walks.proofs.WalkLemmas.{two_tail, no_twos, some_twos, two_more, rows_of_twos, twos_of_rows, firsts_same}
use Rattle.graph_walks.proofs.WalkLemmas.{seconds_same, has_twos, pair_at}

-- ---- lists of two choices

abbrev AllTwo : List Layer → Type 0
AllTwo ls = (i : ℕ) → i < length ls → (layer_at ls i).choices ≡ 2

tail_two : (l : Layer) (ls : List Layer) → AllTwo (l ∷ ls) → AllTwo ls
tail_two l ls two i lt = two (suc i) (omega (arith, lt))

choices_of : (ls : List Layer) (cs : List ℕ) → AllTwo ls → AreTwos (length ls) cs → AreChoices ls cs
choices_of [] [] two h = tt
choices_of [] (c ∷ cs) two h = some_twos c cs h
choices_of (l ∷ ls) [] two h = no_twos (length ls) h
choices_of (l ∷ ls) (c ∷ cs) two h =
    let e : l.choices ≡ 2 = two 0 (omega arith) in (
      omega (arith, e, h.small 0 c refl),
      choices_of ls cs (tail_two l ls two) (two_tail (length ls) c cs h),
    )

twos_of : (ls : List Layer) (cs : List ℕ) → AllTwo ls → AreChoices ls cs → AreTwos (length ls) cs
twos_of [] [] two h = twos_of_rows 0 [] tt
twos_of [] (c ∷ cs) two h = absurd h
twos_of (l ∷ ls) [] two h = absurd h
twos_of (l ∷ ls) (c ∷ cs) two h =
    let e : l.choices ≡ 2 = two 0 (omega arith) in
    two_more (length ls) c cs (omega (arith, e, h.0)) (twos_of ls cs (tail_two l ls two) h.1)

abbrev AllSmall : List ℕ → Type 0
AllSmall cs = (i c : ℕ) → slice_get cs i ≡ Some c → c < 2

small_append : (cs es : List ℕ) → AllSmall cs → AllSmall es → AllSmall (cs ++ es)
small_append [] es h k i c at = k i c at
small_append (d ∷ cs) es h k zero c at = h 0 c at
small_append (d ∷ cs) es h k (suc i) c at = small_append cs es (λ j x e. h (suc j) x e) k i c at

twos_append : (n j m : ℕ) (cs es : List ℕ) → n ≡ j + m → AreTwos j cs → AreTwos m es → AreTwos n (cs ++ es)
twos_append n j m cs es e h k = record {
  len = omega (arith, length-append cs es, h.len, k.len, e);
  small = small_append cs es h.small k.small;
}

-- ---- where the first choices lead

leads_within : (labels : ℕ) (ls : List Layer) (j k : ℕ) (cs : List ℕ) → AreLayers labels ls →
    k < size_at labels ls 0 → AreChoices (take j ls) cs → j ≤ length ls → leads (take j ls) k cs < size_at labels ls j
leads_within labels ls zero k [] fit lt are le = lt
leads_within labels ls zero k (c ∷ cs) fit lt are le = absurd are
leads_within labels [] (suc j) k cs fit lt are le = absurd (omega (arith, le))
leads_within labels (l ∷ ls) (suc j) k [] fit lt are le = absurd are
leads_within labels (l ∷ ls) (suc j) k (c ∷ cs) fit lt are le =
    leads_within labels ls j (step l k c) cs fit.1 (fit.0.edges k c lt are.0) are.1 (omega (arith, le))

first_node : (labels : ℕ) (ls : List Layer) → AreLayers labels ls → 0 < size_at labels ls 0
first_node labels [] fit = fit
first_node labels (l ∷ ls) fit = fit.0.nodes

module _ (n : ℕ) (g : Layered) (two : HasTwos n g) (j : ℕ) (le : j ≤ n) where
  all_two : AllTwo g.layers
  all_two i lt = two.choices i (omega (arith, lt, two.count))

  front_long : length (take j g.layers) ≡ j
  front_long = length-take-le j g.layers (omega (arith, le, two.count))

  front_two : AllTwo (take j g.layers)
  front_two i lt =
      ap (λ (l : Layer). l.choices) (get_or-take j g.layers i no_layer (omega (arith, lt, front_long)))
      ∙ all_two i (omega (arith, lt, front_long, le, two.count))

  rest_long : length (drop j g.layers) ≡ n - j
  rest_long = omega (arith, length-drop j g.layers, two.count)

  rest_two : AllTwo (drop j g.layers)
  rest_two i lt =
      ap (λ (l : Layer). l.choices) (get_or-drop j g.layers i no_layer)
      ∙ all_two (j + i) (omega (arith, lt, rest_long, le, two.count))

  front_choices : (cs : List ℕ) → AreTwos j cs → AreChoices (take j g.layers) cs
  front_choices cs h = choices_of (take j g.layers) cs front_two (subst (λ k. AreTwos k cs) (sym front_long) h)

  in_two : (cs es : List ℕ) → AreTwos j cs → label_of g (cs ++ es) ≡ leads (drop j g.layers) (front_of g j cs) es
  in_two cs es h =
      ap (λ ls. leads ls 0 (cs ++ es)) (sym (take-append-drop j g.layers))
      ∙ leads-append (take j g.layers) (drop j g.layers) 0 cs es (front_choices cs h)

  -- from one node the same choices lead to one label
  labels_meet : (cs ds es : List ℕ) → AreTwos j cs → AreTwos j ds → front_of g j cs ≡ front_of g j ds →
      label_of g (cs ++ es) ≡ label_of g (ds ++ es)
  labels_meet cs ds es h k e =
      in_two cs es h ∙ (ap (λ m. leads (drop j g.layers) m es) e ∙ sym (in_two ds es k))

  -- where all choices lead both to one label, they come to one node
  fronts_meet : AreLayers g.labels g.layers → AreReduced g.layers → (cs ds : List ℕ) → AreTwos j cs → AreTwos j ds →
      ((es : List ℕ) → AreTwos (n - j) es → label_of g (cs ++ es) ≡ label_of g (ds ++ es)) →
      front_of g j cs ≡ front_of g j ds
  fronts_meet fits reduced cs ds h k same = elim (cases_eq (front_of g j cs) (front_of g j ds)) [
    | inl e ↦ e
    | inr ne ↦ (let in_j : j ≤ length g.layers = omega (arith, le, two.count) in
        let here = leads_within g.labels g.layers j 0 cs fits (first_node g.labels g.layers fits) (front_choices cs h) in_j in
        let there = leads_within g.labels g.layers j 0 ds fits (first_node g.labels g.layers fits) (front_choices ds k) in_j in
        let told = places_are_told g fits reduced j (front_of g j cs) (front_of g j ds) in_j here there ne in
        let es = told.0 in
        let es_two : AreTwos (n - j) es =
        subst (λ m. AreTwos m es) rest_long (twos_of (drop j g.layers) es rest_two told.1.0) in
        absurd (told.1.1 (sym (in_two cs es h) ∙ (same es es_two ∙ in_two ds es k))))
  ]

label_in : (labels : ℕ) (ls : List Layer) (k : ℕ) (cs : List ℕ) → AreLayers labels ls → k < size_at labels ls 0 →
    AreChoices ls cs → leads ls k cs < labels
label_in labels [] k [] fit lt are = lt
label_in labels [] k (c ∷ cs) fit lt are = absurd are
label_in labels (l ∷ ls) k [] fit lt are = absurd are
label_in labels (l ∷ ls) k (c ∷ cs) fit lt are =
    label_in labels ls (step l k c) cs fit.1 (fit.0.edges k c lt are.0) are.1

pub label_within : (n : ℕ) (g : Layered) → IsReduced n g → (cs : List ℕ) → AreTwos n cs → label_of g cs < g.labels
label_within n g is cs two =
    label_in g.labels g.layers 0 cs is.fits (first_node g.labels g.layers is.fits)
    (choices_of g.layers cs (λ i lt. is.twos.choices i (omega (arith, lt, is.twos.count)))
    (subst (λ m. AreTwos m cs) (sym is.twos.count) two))

-- ---- graphs that follow others

-- choices that come to one node of the first graph come to one of the second
abbrev Follows : ℕ → Layered → Layered → Type 0
Follows n p g = (j : ℕ) (cs ds : List ℕ) → j ≤ n → AreTwos j cs → AreTwos j ds → front_of p j cs ≡ front_of p j ds →
    front_of g j cs ≡ front_of g j ds

graph_follows : (n : ℕ) (p g : Layered) → TellAlike n p g → Follows n p g
graph_follows n p g t j cs ds le h k e =
    fronts_meet n g t.second.twos j le t.second.fits t.second.reduced cs ds h k (λ es two.
    (t.alike (cs ++ es) (ds ++ es) (twos_append n j (n - j) cs es (omega (arith, le)) h two)
    (twos_append n j (n - j) ds es (omega (arith, le)) k two)).0
    (labels_meet n p t.first.twos j le cs ds es h k e))

-- rows of the first j steps are choices
module _ (n j : ℕ) (le : j ≤ n) where
  steps_front : take j (same_steps n) ≡ same_steps j
  steps_front = take-replicate j n same_rows le

  rows_twos : (cs : List ℕ) → AreRows (take j (same_steps n)) cs → AreTwos j cs
  rows_twos cs a = twos_of_rows j cs (subst (λ ss. AreRows ss cs) steps_front a)

  twos_rows : (cs : List ℕ) → AreTwos j cs → AreRows (take j (same_steps n)) cs
  twos_rows cs h = subst (λ ss. AreRows ss cs) (sym steps_front) (rows_of_twos j cs h)

  firsts_front : (cs : List ℕ) → AreTwos j cs → firsts (take j (same_steps n)) cs ≡ cs
  firsts_front cs h = ap (λ ss. firsts ss cs) steps_front ∙ firsts_same j cs h

  seconds_front : (cs : List ℕ) → AreTwos j cs → seconds (take j (same_steps n)) cs ≡ cs
  seconds_front cs h = ap (λ ss. seconds ss cs) steps_front ∙ seconds_same j cs h

  first_at : (g : Layered) (cs : List ℕ) → AreTwos j cs → front_of g j (firsts (take j (same_steps n)) cs) ≡ front_of g j cs
  first_at g cs h = ap (λ xs. front_of g j xs) (firsts_front cs h)

  second_at : (g : Layered) (cs : List ℕ) → AreTwos j cs →
      front_of g j (seconds (take j (same_steps n)) cs) ≡ front_of g j cs
  second_at g cs h = ap (λ xs. front_of g j xs) (seconds_front cs h)

  follow_both : (g h p q : Layered) → Follows n p g → Follows n q h → Follow g h p q (same_steps n) j
  follow_both g h p q first second = record {
    first = λ cs ds a b e.
        first_at g cs (rows_twos cs a)
        ∙ (first j cs ds le (rows_twos cs a) (rows_twos ds b)
        (sym (first_at p cs (rows_twos cs a)) ∙ (e ∙ first_at p ds (rows_twos ds b)))
        ∙ sym (first_at g ds (rows_twos ds b)));
    second = λ cs ds a b e.
        second_at h cs (rows_twos cs a)
        ∙ (second j cs ds le (rows_twos cs a) (rows_twos ds b)
        (sym (second_at q cs (rows_twos cs a)) ∙ (e ∙ second_at q ds (rows_twos ds b)))
        ∙ sym (second_at h ds (rows_twos ds b)));
  }

no_room : (n budget : ℕ) (g h p q : Layered) → Follows n p g → Follows n q h → HasRoom p q (same_steps n) budget →
    IsWide g h (same_steps n) budget → ⊥
no_room n budget g h p q first second room wide =
    wide_has_no_room g h p q (same_steps n) (λ j le. follow_both n j
    (omega (arith, le, length-replicate n same_rows)) g h p q first second) budget room wide

-- labels of a product are one exactly where those of both graphs are
pair_of_labels : (n : ℕ) (g h p : Layered) (pairs : List Pair) → IsProductOf g h (same_steps n) p pairs →
    (cs ds : List ℕ) → AreTwos n cs → AreTwos n ds → label_of p cs ≡ label_of p ds →
    (label_of g cs ≡ label_of g ds) × (label_of h cs ≡ label_of h ds)
pair_of_labels n g h p pairs is cs ds a b e =
    let same = same_Some _ _ (sym (pair_at n g h p pairs is cs a)
    ∙ (ap (slice_get pairs) e ∙ pair_at n g h p pairs is ds b)) in
    (ap (λ (x : Pair). x.first) same, ap (λ (x : Pair). x.second) same)

-- the product of two graphs follows that of two which tell the same apart
product_follows : (n : ℕ) (p q g h both all : Layered) (these those : List Pair) → TellAlike n p g → TellAlike n q h →
    IsProductOf p q (same_steps n) both these → IsProductOf g h (same_steps n) all those → Follows n both all
product_follows n p q g h both all these those first second made here j cs ds le a b e =
    let two = has_twos n p q both these made in
    let told : (es : List ℕ) → AreTwos (n - j) es → (label_of p (cs ++ es) ≡ label_of p (ds ++ es))
    × (label_of q (cs ++ es) ≡ label_of q (ds ++ es)) =
    λ es t. pair_of_labels n p q both these made (cs ++ es) (ds ++ es) (long cs es a t) (long ds es b t)
    (labels_meet n both two j le cs ds es a b e) in
    let one : front_of g j cs ≡ front_of g j ds =
    fronts_meet n g first.second.twos j le first.second.fits first.second.reduced cs ds a b (λ es t.
    (first.alike (cs ++ es) (ds ++ es) (long cs es a t) (long ds es b t)).0 (told es t).0) in
    let other : front_of h j cs ≡ front_of h j ds =
    fronts_meet n h second.second.twos j le second.second.fits second.second.reduced cs ds a b (λ es t.
    (second.alike (cs ++ es) (ds ++ es) (long cs es a t) (long ds es b t)).0 (told es t).1) in
    here.meet j (omega (arith, le, length-replicate n same_rows)) cs ds (twos_rows n j le cs a) (twos_rows n j le ds b)
    (first_at n j le g cs a ∙ (one ∙ sym (first_at n j le g ds b)))
    (second_at n j le h cs a ∙ (other ∙ sym (second_at n j le h ds b)))
  where
    long : (xs es : List ℕ) → AreTwos j xs → AreTwos (n - j) es → AreTwos n (xs ++ es)
    long xs es h t = twos_append n j (n - j) xs es (omega (arith, le)) h t

pub room_is_told : (n budget : ℕ) (p q r s g h k l : Layered) → TellAlike n p g → TellAlike n q h → TellAlike n r k →
    TellAlike n s l → HasWalkRoom p q r s n budget → IsWideWalk g h k l n budget → ⊥
room_is_told n budget p q r s g h k l one two three four room (inl wide) =
    no_room n budget g h p q (graph_follows n p g one) (graph_follows n q h two) room.first_room wide
room_is_told n budget p q r s g h k l one two three four room (inr (inl wide)) =
    no_room n budget k l r s (graph_follows n r k three) (graph_follows n s l four) room.second_room wide
room_is_told n budget p q r s g h k l one two three four room (inr (inr wide)) =
    no_room n budget wide.one wide.other room.one room.other
    (product_follows n p q g h room.one wide.one room.one_pairs wide.one_pairs one two room.first wide.first)
    (product_follows n r s k l room.other wide.other room.other_pairs wide.other_pairs three four room.second
    wide.second) room.room wide.wide
