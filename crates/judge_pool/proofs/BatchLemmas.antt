-- Batches of a pool, noted by where they begin.
use Rattle.std.proofs.Common.{◌≡◌, ℕ, ◌+◌, List, [], ◌∷◌, ◌++◌, length, get_or, slice_get}
use Rattle.std.proofs.Common.{take, drop, Box, Vec}
use Rattle.std.proofs.Common.{◌-◌, ◌<◌, ◌≤◌, Option, Some, None, refl, sym, ap, ◌∙◌, subst, inl, inr, arith}
use Rattle.std.specs.declared.alloc.Global.{Global}
use Rattle.std.specs.HashMap.{Updates}
use Rattle.std.proofs.lemmas.List.{length-append, get_or-append-add, length_push, length-drop, length-take-le}
use Rattle.std.proofs.lemmas.List.{get_or-take, get_or-drop, same_lists}
use Rattle.std.proofs.lemmas.Option.{slice_get_within, slice_get-get_or, get_or_from_slice_get, same_Some}
use Rattle.station_graph.proofs.PathLemmas.{slice_get-push}
use Rattle.contraction.specs.Selecting.{Selected}
use Rattle.judge_pool.specs.declared.batch.Made.{Made}
use Rattle.judge_pool.specs.declared.batch.Batch.{Batch}
use Rattle.judge_pool.specs.declared.notes.Note.{Note}
use Rattle.judge_pool.specs.declared.pool.Pool.{Pool}
use Rattle.judge_pool.specs.Pooling.{WasMade, MakesEach, HasBatch, NotesAreRight, composition, noted}
use Rattle.judge_pool.specs.Numbered.{letter_lists}
use Rattle.judge_pool.specs.Pooling.{Extends, IsPool, GrewTo, CanCompose}
use Rattle.judge_pool.specs.Layering.{no_answers}
use Rattle.judge_pool.specs.Standing.{StandsAreRight, ListStandsAreRight}
use Rattle.judge_pool.specs.Keeping.{NumbersAreRight}
use Rattle.std.specs.Str.{bytes_eq}
use Rattle.std.specs.Prelude.{Contains, ◌↔◌}
use Rattle.contraction.specs.Answers.{Answers, IsContraction, Keeps}
use Rattle.judge_pool.specs.Seen.{seen_row, ComposesIn}
use Rattle.judge_pool.specs.Folding.{AreApartIn, AreWell}
use Rattle.judge_pool.specs.Pooling.{number_in, IsRowIndex, HasSame}
use Rattle.judge_pool.proofs.LayerLemmas.{get_front, get_last}
use Rattle.judge_pool.proofs.PoolLemmas.{index_more, index_same, well_more, apart_more, rows_tell, rows_told, made_same}
use Rattle.judge_pool.proofs.LayeringLemmas.{Grows, grew_of, grew_in, keep_in, either_more}
use Rattle.judge_pool.proofs.PastLemmas.{layers_stay}
use Rattle.judge_pool.proofs.StandLemmas.{stands_stay, list_stands_stay}
use Rattle.judge_pool.proofs.KeepLemmas.{numbers_stay}

-- ---- a pool that grew

pub was_made_more : (p q : Pool) → Grows p q → (k : Made) (t : ℕ) →
    WasMade p.view p.values.items p.keeps.items k t → WasMade q.view q.values.items q.keeps.items k t
was_made_more p q g k t w =
    subst (λ v. WasMade v q.values.items q.keeps.items k t) (sym g.view) (record {
      x = w.x;
      y = w.y;
      keep = w.keep;
      first = g.values k.first w.x w.first;
      second = g.values k.second w.y w.second;
      nodes = g.keeps k.keep w.keep w.nodes;
      made = record {
        value = w.made.value;
        listed = g.values t w.made.value w.made.listed;
        composes = w.made.composes;
        kept = w.made.kept;
      };
    })

pub are_made_more : (p q : Pool) → Grows p q → (b : Batch) (letters ids : List ℕ) → MakesEach p b letters ids →
    MakesEach q b letters ids
are_made_more p q g b letters ids m = record {
  len = m.len;
  made = λ c j t at_c at_t. was_made_more p q g (composition b j) t (m.made c j t at_c at_t);
}

pub batch_stays : (p q : Pool) → Grows p q → Extends p.made.items q.made.items → (b : Batch) (start : ℕ) →
    HasBatch p b start → HasBatch q b start
batch_stays p q g more b start h = record {
  letters = h.letters;
  ids = h.ids;
  listed = g.letters b.letters h.letters h.listed;
  made = are_made_more p q g b h.letters h.ids h.made;
  at = λ c t at. more (start + c) t (h.at c t at);
}

pub notes_stay : (p q : Pool) → Grows p q → Extends p.made.items q.made.items → (notes : List Note) →
    NotesAreRight p notes → NotesAreRight q notes
notes_stay p q g more notes right i n at = batch_stays p q g more (noted n) n.start (right i n at)

pub can_more : (p q : Pool) (k : Made) → GrewTo p q → CanCompose p k → CanCompose q k
can_more p q k g h = record {
  first = grew_in p q k.first no_answers g h.first;
  second = grew_in p q k.second no_answers g h.second;
  keep = keep_in p q k.keep g h.keep;
  either = either_more p q k.first k.second k.keep no_answers g h.first h.second h.keep h.either;
}

-- and with another selection at hand
pub selects_other : (p : Pool) (s : Option (Box Selected Global)) → IsPool p → GrewTo p (record p { selection = s })
selects_other p s h =
    let q : Pool = record p { selection = s } in
    let g : Grows p q = record {
      view = refl;
      keeps = λ k ns at. at;
      values = λ i x at. at;
      letters = λ l ids at. at;
    } in
    grew_of p q (record {
      index = h.index;
      apart = h.apart;
      well = h.well;
      notes = notes_stay p q g (λ i t at. at) p.notes.list.items h.notes;
      layers = layers_stay p q g p.layers.items h.layers;
      stands = stands_stay p q g p.stands h.stands;
      list_stands = list_stands_stay p q g p.list_stands h.list_stands;
      numbers = numbers_stay p q g p.keep_numbers h.numbers;
    }) g

-- and with other empty views at hand
pub empty_other : (p : Pool) (b : Option (List ℕ)) → IsPool p → GrewTo p (record p { empty_views = b })
empty_other p b h =
    let q : Pool = record p { empty_views = b } in
    let g : Grows p q = record {
      view = refl;
      keeps = λ k ns at. at;
      values = λ i x at. at;
      letters = λ l ids at. at;
    } in
    grew_of p q (record {
      index = h.index;
      apart = h.apart;
      well = h.well;
      notes = notes_stay p q g (λ i t at. at) p.notes.list.items h.notes;
      layers = layers_stay p q g p.layers.items h.layers;
      stands = stands_stay p q g p.stands h.stands;
      list_stands = list_stands_stay p q g p.list_stands h.list_stands;
      numbers = numbers_stay p q g p.keep_numbers h.numbers;
    }) g

-- and with another index of the same rows
pub index_other : (p q : Pool) → q ≡ record p { index = q.index } → IsPool p → q.index.entries ≡ p.index.entries →
    GrewTo p q
index_other p r is h same =
    let q : Pool = record p { index = r.index } in
    let g : Grows p q = record {
      view = refl;
      keeps = λ k ns at. at;
      values = λ i x at. at;
      letters = λ l ids at. at;
    } in
    subst (λ w. GrewTo p w) (sym is) (grew_of p q (record {
      index = index_same p.view p.values.items p.index r.index h.index same;
      apart = h.apart;
      well = h.well;
      notes = notes_stay p q g (λ i t at. at) p.notes.list.items h.notes;
      layers = layers_stay p q g p.layers.items h.layers;
      stands = stands_stay p q g p.stands h.stands;
      list_stands = list_stands_stay p q g p.list_stands h.list_stands;
      numbers = numbers_stay p q g p.keep_numbers h.numbers;
    }) g)

-- and with other seats at hand
pub seats_other : (p : Pool) (s : Option (Vec ℕ Global)) → IsPool p → GrewTo p (record p { seats = s })
seats_other p s h =
    let q : Pool = record p { seats = s } in
    let g : Grows p q = record {
      view = refl;
      keeps = λ k ns at. at;
      values = λ i x at. at;
      letters = λ l ids at. at;
    } in
    grew_of p q (record {
      index = h.index;
      apart = h.apart;
      well = h.well;
      notes = notes_stay p q g (λ i t at. at) p.notes.list.items h.notes;
      layers = layers_stay p q g p.layers.items h.layers;
      stands = stands_stay p q g p.stands h.stands;
      list_stands = list_stands_stay p q g p.list_stands h.list_stands;
      numbers = numbers_stay p q g p.keep_numbers h.numbers;
    }) g

-- and with other notes of where lists of numbers stand
pub places_other : (p r : Pool) → IsPool p → GrewTo p (record p { letter_places = r.letter_places })
places_other p r h =
    let q : Pool = record p { letter_places = r.letter_places } in
    let g : Grows p q = record {
      view = refl;
      keeps = λ k ns at. at;
      values = λ i x at. at;
      letters = λ l ids at. at;
    } in
    grew_of p q (record {
      index = h.index;
      apart = h.apart;
      well = h.well;
      notes = notes_stay p q g (λ i t at. at) p.notes.list.items h.notes;
      layers = layers_stay p q g p.layers.items h.layers;
      stands = stands_stay p q g p.stands h.stands;
      list_stands = list_stands_stay p q g p.list_stands h.list_stands;
      numbers = numbers_stay p q g p.keep_numbers h.numbers;
    }) g

-- and with other notes of what stands where
pub stands_other : (p r : Pool) → IsPool p → StandsAreRight p r.stands → GrewTo p (record p { stands = r.stands })
stands_other p r h right =
    let q : Pool = record p { stands = r.stands } in
    let g : Grows p q = record {
      view = refl;
      keeps = λ k ns at. at;
      values = λ i x at. at;
      letters = λ l ids at. at;
    } in
    grew_of p q (record {
      index = h.index;
      apart = h.apart;
      well = h.well;
      notes = notes_stay p q g (λ i t at. at) p.notes.list.items h.notes;
      layers = layers_stay p q g p.layers.items h.layers;
      stands = stands_stay p q g r.stands right;
      list_stands = list_stands_stay p q g p.list_stands h.list_stands;
      numbers = numbers_stay p q g p.keep_numbers h.numbers;
    }) g

-- and with other notes of what lists stand where
pub list_stands_other : (p r : Pool) → IsPool p → ListStandsAreRight p r.list_stands →
    GrewTo p (record p { list_stands = r.list_stands })
list_stands_other p r h right =
    let q : Pool = record p { list_stands = r.list_stands } in
    let g : Grows p q = record {
      view = refl;
      keeps = λ k ns at. at;
      values = λ i x at. at;
      letters = λ l ids at. at;
    } in
    grew_of p q (record {
      index = h.index;
      apart = h.apart;
      well = h.well;
      notes = notes_stay p q g (λ i t at. at) p.notes.list.items h.notes;
      layers = layers_stay p q g p.layers.items h.layers;
      stands = stands_stay p q g p.stands h.stands;
      list_stands = list_stands_stay p q g r.list_stands right;
      numbers = numbers_stay p q g p.keep_numbers h.numbers;
    }) g

-- and with other notes of the numbers of lists
pub numbers_other : (p r : Pool) → IsPool p → NumbersAreRight p r.keep_numbers →
    GrewTo p (record p { keep_numbers = r.keep_numbers })
numbers_other p r h right =
    let q : Pool = record p { keep_numbers = r.keep_numbers } in
    let g : Grows p q = record {
      view = refl;
      keeps = λ k ns at. at;
      values = λ i x at. at;
      letters = λ l ids at. at;
    } in
    grew_of p q (record {
      index = h.index;
      apart = h.apart;
      well = h.well;
      notes = notes_stay p q g (λ i t at. at) p.notes.list.items h.notes;
      layers = layers_stay p q g p.layers.items h.layers;
      stands = stands_stay p q g p.stands h.stands;
      list_stands = list_stands_stay p q g p.list_stands h.list_stands;
      numbers = numbers_stay p q g r.keep_numbers right;
    }) g

-- ---- a value more, by its row

-- the pool with a value put last, another index, and maybe other empty views at hand
module _ (p q : Pool) (x : Answers)
    (is : q ≡ record p { index = q.index; values = q.values; empty_views = q.empty_views })
    (items : q.values.items ≡ p.values.items ++ x ∷ []) (well_x : IsContraction x) where
  pub value_grew : IsPool p → number_in p.index (seen_row p.view x) ≡ None →
      Updates bytes_eq p.index q.index (seen_row p.view x) (Some (length p.values.items)) → GrewTo p q
  value_grew h none updates =
      let r : Pool = record p { index = q.index; values = q.values; empty_views = q.empty_views } in
      let more : Extends p.values.items (p.values.items ++ x ∷ []) =
      λ i y at. get_front p.values.items (x ∷ []) i y at in
      let g : Grows p r = record {
        view = refl;
        keeps = λ k ns at. at;
        values = subst (λ vs. Extends p.values.items vs) (sym items) more;
        letters = λ l ids at. at;
      } in
      subst (λ w. GrewTo p w) (sym is) (grew_of p r (record {
        index =
            subst (λ vs. IsRowIndex p.view vs q.index) (sym items) (index_more p.view p.values.items x p.index q.index
            (seen_row p.view x) h.index refl updates);
        apart =
            subst (λ vs. AreApartIn p.view vs) (sym items) (apart_more p.view p.values.items x h.well well_x h.apart
            (λ i y at same. h.index.missing (seen_row p.view x) none i y at
            (rows_told p.view x y well_x (h.well i y at) same)));
        well = subst (λ vs. AreWell vs) (sym items) (well_more p.view p.values.items x h.well well_x);
        notes = notes_stay p r g (λ i t at. at) p.notes.list.items h.notes;
        layers = layers_stay p r g p.layers.items h.layers;
        stands = stands_stay p r g p.stands h.stands;
        list_stands = list_stands_stay p r g p.list_stands h.list_stands;
        numbers = numbers_stay p r g p.keep_numbers h.numbers;
      }) g)

  pub value_same : (t : ℕ) → t ≡ length p.values.items → HasSame q x t
  value_same t at = record {
    same = x;
    listed =
        ap (λ vs. slice_get vs t) items
        ∙ (ap (slice_get (p.values.items ++ x ∷ [])) at ∙ get_last p.values.items x);
    is_same = rows_tell q.view x x well_x well_x refl;
    well = well_x;
    well_same = well_x;
  }

-- what two values make together was made, once the pool has it
pub made_new : (p q : Pool) (k : Made) (t : ℕ) (x y value : Answers) (nodes : List ℕ) → GrewTo p q →
    HasSame q value t → slice_get p.values.items k.first ≡ Some x → slice_get p.values.items k.second ≡ Some y →
    slice_get p.keeps.items k.keep ≡ Some nodes → ComposesIn p.view x y value →
    ((n : ℕ) → Keeps value.kept n ↔ Contains nodes n) → WasMade q.view q.values.items q.keeps.items k t
made_new p q k t x y value nodes g has first second asked composes kept = record {
  x = x;
  y = y;
  keep = nodes;
  first = g.values k.first x first;
  second = g.values k.second y second;
  nodes = g.keeps k.keep nodes asked;
  made = made_same q x y value nodes t has (subst (λ w. ComposesIn w x y value) (sym g.view) composes) kept;
}

-- ---- a note more

pub notes_more : (p : Pool) (old : List Note) (note : Note) → NotesAreRight p old → HasBatch p (noted note) note.start →
    NotesAreRight p (old ++ note ∷ [])
notes_more p old note right has i n at = elim (slice_get-push old note n i at) [
  | inl front ↦ right i n front
  | inr last ↦ subst (λ (m : Note). HasBatch p (noted m) m.start) last.1 has
]

pub notes_none : (p : Pool) (notes : List Note) → notes ≡ [] → NotesAreRight p notes
notes_none p notes e i n at = absurd (let h = rw e at at in cc)

-- ---- letter by letter

pub made_none : (p : Pool) (b : Batch) (ids : List ℕ) → ids ≡ [] → MakesEach p b [] ids
made_none p b ids e = record {
  len = ap length e;
  made = λ c j t at_c. absurd (let h : slice_get {X = ℕ} [] c ≡ Some j = at_c in cc);
}

pub made_one : (p : Pool) (b : Batch) (letters ids : List ℕ) (letter id : ℕ) → MakesEach p b letters ids →
    WasMade p.view p.values.items p.keeps.items (composition b letter) id →
    MakesEach p b (letters ++ letter ∷ []) (ids ++ id ∷ [])
made_one p b letters ids letter id old new = record {
  len = omega (arith, length_push ids id, length_push letters letter, old.len);
  made = λ c j t at_c at_t. elim (slice_get-push letters letter j c at_c) [
    | inl before ↦ elim (slice_get-push ids id t c at_t) [
      | inl was ↦ old.made c j t before was
      | inr here ↦ absurd (omega (arith, slice_get_within letters c j before, here.0, old.len))
    ]
    | inr last ↦ elim (slice_get-push ids id t c at_t) [
      | inl was ↦ absurd (omega (arith, slice_get_within ids c t was, last.0, old.len))
      | inr here ↦
          subst (λ n. WasMade p.view p.values.items p.keeps.items (composition b j) n) here.1
          (subst (λ n. WasMade p.view p.values.items p.keeps.items (composition b n) id) last.1 new)
    ]
  ];
}

-- ---- the numbers of a batch

-- an element of the second list
pub get_behind : (xs ys : List ℕ) (i x : ℕ) → slice_get ys i ≡ Some x → slice_get (xs ++ ys) (length xs + i) ≡ Some x
get_behind xs ys i x at =
    slice_get-get_or (xs ++ ys) (length xs + i) x (omega (
      arith,
      length-append xs ys,
      slice_get_within ys i x at,
    ))
    ∙ ap Some (get_or-append-add xs ys i x ∙ get_or_from_slice_get ys i x x at)

-- the part of a list that begins at a place
part_is : (xs ys : List ℕ) (start : ℕ) →
    ((c t : ℕ) → slice_get ys c ≡ Some t → slice_get xs (start + c) ≡ Some t) → start + length ys ≤ length xs →
    take (length ys) (drop start xs) ≡ ys
part_is xs ys start at within =
    let len : length (take (length ys) (drop start xs)) ≡ length ys =
    length-take-le (length ys) (drop start xs) (omega (arith, length-drop start xs, within)) in
    same_lists (take (length ys) (drop start xs)) ys len (λ k d lt.
    (let lt_ys : k < length ys = omega (arith, lt, len) in
    get_or-take (length ys) (drop start xs) k d lt_ys
    ∙ (get_or-drop start xs k d
    ∙ get_or_from_slice_get xs (start + k) (get_or ys k d) d
    (at k (get_or ys k d) (slice_get-get_or ys k d lt_ys)))))

module _ (p : Pool) (b : Batch) (start : ℕ) (letters : List ℕ) (h : HasBatch p b start)
    (listed : slice_get (letter_lists p) b.letters ≡ Some letters) (some : 0 < length letters) where
  same_letters : h.letters ≡ letters
  same_letters = same_Some h.letters letters (sym h.listed ∙ listed)

  count : length h.ids ≡ length letters
  count = h.made.len ∙ ap length same_letters

  pub batch_ends : start + length letters ≤ length p.made.items
  batch_ends =
      let last = length letters - 1 in
      let id = get_or h.ids last 0 in
      let at : slice_get p.made.items (start + last) ≡ Some id =
      h.at last id (slice_get-get_or h.ids last 0 (omega (arith, count, some))) in
      omega (arith, slice_get_within p.made.items (start + last) id at, some)

  pub batch_made : MakesEach p b letters (take (length letters) (drop start p.made.items))
  batch_made =
      let is : take (length letters) (drop start p.made.items) ≡ h.ids =
      ap (λ n. take n (drop start p.made.items)) (sym count)
      ∙ part_is p.made.items h.ids start h.at (omega (arith, count, batch_ends)) in
      subst (λ l. MakesEach p b letters l) (sym is) (subst (λ l. MakesEach p b l h.ids) same_letters h.made)
