-- Rows tell lists apart, and answers tell lists apart.
use Rattle.std.proofs.Common.{◌≡◌, ℕ, ◌+◌, ◌*◌, ◌<◌, ◌/◌, ◌%◌, ◌↔◌, suc, Bool, true, false, List, [], ◌∷◌, ◌++◌, length}
use Rattle.std.proofs.Common.{zero, map, eqb, slice_get, slice_index, Some, refl, sym, ◌∙◌, ap, arith, append_assoc}
use Rattle.std.proofs.lemmas.Option.{slice_get_within, slice_get-get_or}
use Rattle.contraction.specs.Answers.{Answers, IsAt, Keeps, SameAt, MarkedAt, AreLabels, IsContraction}
use Rattle.station_graph.specs.Nodes.{Rises}
use Rattle.contraction.specs.Rows.{words, flag, flags, gap_bytes, load_bytes, gap_row, load_row, whole_row}
use Rattle.contraction.proofs.RestrictLemmas.{same_at_places, marked_at_place}

pub length-words : (xs : List ℕ) → length (words xs) ≡ 2 * length xs
length-words [] = refl
length-words (x ∷ xs) = omega (arith, length-words xs)

pub length-flags : (bs : List Bool) → length (flags bs) ≡ length bs
length-flags [] = refl
length-flags (b ∷ bs) = ap suc (length-flags bs)

-- two lists of two parts each, of one length in front, are equal part by part
split : {X : Type 0} (a b c d : List X) → length a ≡ length c → a ++ b ≡ c ++ d → (a ≡ c) × (b ≡ d)
split [] b [] d e h = (refl, h)
split [] b (y ∷ c) d e h = absurd (omega (arith, e))
split (x ∷ a) b [] d e h = absurd (omega (arith, e))
split (x ∷ a) b (y ∷ c) d e h =
    let first : x ≡ y = cc in
    let rest : a ++ b ≡ c ++ d = cc in
    let r = split a b c d (omega (arith, e)) rest in
    (cc (first, r.0), r.1)

words_same : (xs ys : List ℕ) → words xs ≡ words ys → xs ≡ ys
words_same [] [] h = refl
words_same [] (y ∷ ys) h = cc
words_same (x ∷ xs) [] h = cc
words_same (x ∷ xs) (y ∷ ys) h =
    let high : x / 256 ≡ y / 256 = cc in
    let low : x % 256 ≡ y % 256 = cc in
    let rest : words xs ≡ words ys = cc in
    let first : x ≡ y = omega arith in
    cc (first, words_same xs ys rest)

flag_same : (a b : Bool) → flag a ≡ flag b → a ≡ b
flag_same true true h = refl
flag_same false false h = refl
flag_same true false h = absurd (omega (arith, h))
flag_same false true h = absurd (omega (arith, h))

flags_same : (xs ys : List Bool) → flags xs ≡ flags ys → xs ≡ ys
flags_same [] [] h = refl
flags_same [] (y ∷ ys) h = cc
flags_same (x ∷ xs) [] h = cc
flags_same (x ∷ xs) (y ∷ ys) h =
    let here : flag x ≡ flag y = cc in
    let rest : flags xs ≡ flags ys = cc in
    cc (flag_same x y here, flags_same xs ys rest)

length-append : {X : Type 0} (a b : List X) → length (a ++ b) ≡ length a + length b
length-append [] b = omega arith
length-append (x ∷ a) b = omega (arith, length-append a b)

length-gap_bytes : (c : Answers) → IsContraction c → length (gap_bytes c) ≡ 4 * length c.kept
length-gap_bytes c w =
    omega (
      arith,
      length-append (words c.coupled ++ flags c.energisable) (flags c.earthable),
      length-append (words c.coupled) (flags c.energisable),
      length-words c.coupled,
      length-flags c.energisable,
      length-flags c.earthable,
      w.coupled.len,
      w.energisable,
      w.earthable,
    )

length-load_bytes : (c : Answers) → IsContraction c → length (load_bytes c) ≡ 6 * length c.kept
length-load_bytes c w =
    omega (
      arith,
      length-append (words c.joined ++ words c.bonded ++ flags c.fed) (flags c.loaded),
      length-append (words c.joined ++ words c.bonded) (flags c.fed),
      length-append (words c.joined) (words c.bonded),
      length-words c.joined,
      length-words c.bonded,
      length-flags c.fed,
      length-flags c.loaded,
      w.joined.len,
      w.bonded.len,
      w.fed,
      w.loaded,
    )

-- The rows of both views, list by list.
pub record GapLists (x y : Answers) : Type 0 where
  pub coupled : x.coupled ≡ y.coupled
  pub energisable : x.energisable ≡ y.energisable
  pub earthable : x.earthable ≡ y.earthable

pub record LoadLists (x y : Answers) : Type 0 where
  pub joined : x.joined ≡ y.joined
  pub bonded : x.bonded ≡ y.bonded
  pub fed : x.fed ≡ y.fed
  pub loaded : x.loaded ≡ y.loaded

-- Two values on as many nodes.
module _ (x y : Answers) (wx : IsContraction x) (wy : IsContraction y) (same : length x.kept ≡ length y.kept) where
  gap_bytes_tell : gap_bytes x ≡ gap_bytes y → GapLists x y
  gap_bytes_tell e =
      let words_same_long : length (words x.coupled) ≡ length (words y.coupled) =
      omega (arith, length-words x.coupled, length-words y.coupled, wx.coupled.len, wy.coupled.len) in
      let flags_same_long : length (flags x.energisable) ≡ length (flags y.energisable) =
      omega (arith, length-flags x.energisable, length-flags y.energisable, wx.energisable, wy.energisable) in
      let a = split (words x.coupled ++ flags x.energisable) (flags x.earthable)
      (words y.coupled ++ flags y.energisable) (flags y.earthable)
      (omega (
        arith,
        length-append (words x.coupled) (flags x.energisable),
        length-append (words y.coupled) (flags y.energisable),
        words_same_long,
        flags_same_long,
      )) e in
      let b = split (words x.coupled) (flags x.energisable) (words y.coupled) (flags y.energisable)
      words_same_long a.0 in
      record {
        coupled = words_same x.coupled y.coupled b.0;
        energisable = flags_same x.energisable y.energisable b.1;
        earthable = flags_same x.earthable y.earthable a.1;
      }

  load_bytes_tell : load_bytes x ≡ load_bytes y → LoadLists x y
  load_bytes_tell e =
      let joined_long : length (words x.joined) ≡ length (words y.joined) =
      omega (arith, length-words x.joined, length-words y.joined, wx.joined.len, wy.joined.len) in
      let bonded_long : length (words x.bonded) ≡ length (words y.bonded) =
      omega (arith, length-words x.bonded, length-words y.bonded, wx.bonded.len, wy.bonded.len) in
      let fed_long : length (flags x.fed) ≡ length (flags y.fed) =
      omega (arith, length-flags x.fed, length-flags y.fed, wx.fed, wy.fed) in
      let two_long : length (words x.joined ++ words x.bonded) ≡ length (words y.joined ++ words y.bonded) = omega (
        arith,
        length-append (words x.joined) (words x.bonded),
        length-append (words y.joined) (words y.bonded),
        joined_long,
        bonded_long,
      ) in
      let three_long : length (words x.joined ++ words x.bonded ++ flags x.fed)
      ≡ length (words y.joined ++ words y.bonded ++ flags y.fed) = omega (
        arith,
        length-append (words x.joined ++ words x.bonded) (flags x.fed),
        length-append (words y.joined ++ words y.bonded) (flags y.fed),
        two_long,
        fed_long,
      ) in
      let a = split (words x.joined ++ words x.bonded ++ flags x.fed) (flags x.loaded)
      (words y.joined ++ words y.bonded ++ flags y.fed) (flags y.loaded) three_long e in
      let b = split (words x.joined ++ words x.bonded) (flags x.fed) (words y.joined ++ words y.bonded) (flags y.fed)
      two_long a.0 in
      let c = split (words x.joined) (words x.bonded) (words y.joined) (words y.bonded) joined_long b.0 in
      record {
        joined = words_same x.joined y.joined c.0;
        bonded = words_same x.bonded y.bonded c.1;
        fed = flags_same x.fed y.fed b.1;
        loaded = flags_same x.loaded y.loaded a.1;
      }

-- EQUAL ROWS HAVE EQUAL LISTS
module _ (x y : Answers) (wx : IsContraction x) (wy : IsContraction y) where
  pub gap_row_tells : gap_row x ≡ gap_row y → (x.kept ≡ y.kept) × GapLists x y
  gap_row_tells e =
      let same : length x.kept ≡ length y.kept = omega (
        arith,
        ap length e,
        length-append (words x.kept) (gap_bytes x),
        length-append (words y.kept) (gap_bytes y),
        length-words x.kept,
        length-words y.kept,
        length-gap_bytes x wx,
        length-gap_bytes y wy,
      ) in
      let a = split (words x.kept) (gap_bytes x) (words y.kept) (gap_bytes y)
      (omega (arith, length-words x.kept, length-words y.kept)) e in
      (words_same x.kept y.kept a.0, gap_bytes_tell x y wx wy same a.1)

  pub load_row_tells : load_row x ≡ load_row y → (x.kept ≡ y.kept) × LoadLists x y
  load_row_tells e =
      let same : length x.kept ≡ length y.kept = omega (
        arith,
        ap length e,
        length-append (words x.kept) (load_bytes x),
        length-append (words y.kept) (load_bytes y),
        length-words x.kept,
        length-words y.kept,
        length-load_bytes x wx,
        length-load_bytes y wy,
      ) in
      let a = split (words x.kept) (load_bytes x) (words y.kept) (load_bytes y)
      (omega (arith, length-words x.kept, length-words y.kept)) e in
      (words_same x.kept y.kept a.0, load_bytes_tell x y wx wy same a.1)

  pub whole_row_tells : whole_row x ≡ whole_row y → (x.kept ≡ y.kept) × GapLists x y × LoadLists x y
  whole_row_tells e =
      let lx = length-append (words x.kept) (gap_bytes x) in
      let ly = length-append (words y.kept) (gap_bytes y) in
      let same : length x.kept ≡ length y.kept = omega (
        arith,
        ap length e,
        length-append (words x.kept ++ gap_bytes x) (load_bytes x),
        length-append (words y.kept ++ gap_bytes y) (load_bytes y),
        lx,
        ly,
        length-words x.kept,
        length-words y.kept,
        length-gap_bytes x wx,
        length-gap_bytes y wy,
        length-load_bytes x wx,
        length-load_bytes y wy,
      ) in
      let a = split (words x.kept ++ gap_bytes x) (load_bytes x) (words y.kept ++ gap_bytes y) (load_bytes y)
      (omega (arith, lx, ly, length-words x.kept, length-words y.kept, length-gap_bytes x wx, length-gap_bytes y wy))
      e in
      let b = split (words x.kept) (gap_bytes x) (words y.kept) (gap_bytes y)
      (omega (arith, length-words x.kept, length-words y.kept)) a.0 in
      (words_same x.kept y.kept b.0, gap_bytes_tell x y wx wy same b.1, load_bytes_tell x y wx wy same a.1)

-- lists of one length with the same entries are equal
pub same_entries : (xs ys : List ℕ) → length xs ≡ length ys →
    ((k : ℕ) → k < length xs → slice_index xs k ≡ slice_index ys k) → xs ≡ ys
same_entries [] [] e h = refl
same_entries [] (y ∷ ys) e h = absurd (omega (arith, e))
same_entries (x ∷ xs) [] e h = absurd (omega (arith, e))
same_entries (x ∷ xs) (y ∷ ys) e h =
    let first : x ≡ y = h 0 (omega arith) in
    cc (first, same_entries xs ys (omega (arith, e)) (λ k k_in. h (suc k) (omega arith)))

same_marks : (xs ys : List Bool) → length xs ≡ length ys →
    ((k : ℕ) → (slice_get xs k ≡ Some true) ↔ (slice_get ys k ≡ Some true)) → xs ≡ ys
same_marks [] [] e h = refl
same_marks [] (y ∷ ys) e h = absurd (omega (arith, e))
same_marks (x ∷ xs) [] e h = absurd (omega (arith, e))
same_marks (true ∷ xs) (y ∷ ys) e h =
    let first : true ≡ y = let at = (h 0).0 refl in cc in
    cc (first, same_marks xs ys (omega (arith, e)) (λ k. h (suc k)))
same_marks (false ∷ xs) (true ∷ ys) e h = absurd (let at = (h 0).1 refl in cc)
same_marks (false ∷ xs) (false ∷ ys) e h =
    ap (λ (l : List Bool). false ∷ l) (same_marks xs ys (omega (arith, e)) (λ k. h (suc k)))

-- labels that tell the same places apart are equal: a label is the first place of its class
pub labels_equal : (n : ℕ) (l m : List ℕ) → AreLabels n l → AreLabels n m →
    ((i j : ℕ) → i < n → j < n → (slice_index l i ≡ slice_index l j) ↔ (slice_index m i ≡ slice_index m j)) → l ≡ m
labels_equal n l m hl hm same =
    same_entries l m (hl.len ∙ sym hm.len) (λ k k_in0.
    let k_in : k < n = omega (arith, hl.len) in
    let i : ℕ = slice_index l k in
    let j : ℕ = slice_index m k in
    let i_in : i < n = omega (arith, hl.below k k_in) in
    let j_in : j < n = omega (arith, hm.below k k_in) in
    let in_m : slice_index m i ≡ slice_index m k = (same i k i_in k_in).0 (hl.steady k k_in) in
    let in_l : slice_index l j ≡ slice_index l k = (same j k j_in k_in).1 (hm.steady k k_in) in
    omega (arith, hm.below i i_in, hl.below j j_in))

-- ANSWERS THAT ARE THE SAME ON THE SAME NODES ARE EQUAL ROW BY ROW
pub labels_from_answers : (kept l m : List ℕ) → Rises kept → AreLabels (length kept) l → AreLabels (length kept) m →
    ((a b : ℕ) → Keeps kept a → Keeps kept b → SameAt kept l a b ↔ SameAt kept m a b) → l ≡ m
labels_from_answers kept l m rises hl hm same =
    let at : (k : ℕ) → k < length kept → IsAt kept k (slice_index kept k) = λ k k_in. slice_get-get_or kept k 0 k_in in
    let one : (x y : List ℕ) → ((a b : ℕ) → Keeps kept a → Keeps kept b → SameAt kept x a b → SameAt kept y a b) →
    (i j : ℕ) → i < length kept → j < length kept → slice_index x i ≡ slice_index x j →
    slice_index y i ≡ slice_index y j =
    λ x y into i j i_in j_in e.
    same_at_places kept y i j (slice_index kept i) (slice_index kept j) rises (at i i_in) (at j j_in)
    (into (slice_index kept i) (slice_index kept j) (record { place = i; at = at i i_in })
    (record { place = j; at = at j j_in })
    (record { first = i; second = j; at_first = at i i_in; at_second = at j j_in; same = e })) in
    labels_equal (length kept) l m hl hm (λ i j i_in j_in. (
      one l m (λ a b ka kb. (same a b ka kb).0) i j i_in j_in,
      one m l (λ a b ka kb. (same a b ka kb).1) i j i_in j_in,
    ))

pub marks_from_answers : (kept : List ℕ) (l m : List Bool) → Rises kept → length l ≡ length kept →
    length m ≡ length kept → ((a : ℕ) → Keeps kept a → MarkedAt kept l a ↔ MarkedAt kept m a) → l ≡ m
marks_from_answers kept l m rises hl hm same =
    let at : (k : ℕ) → k < length kept → IsAt kept k (slice_index kept k) = λ k k_in. slice_get-get_or kept k 0 k_in in
    let one : (x y : List Bool) → length x ≡ length kept →
    ((a : ℕ) → Keeps kept a → MarkedAt kept x a → MarkedAt kept y a) → (k : ℕ) → slice_get x k ≡ Some true →
    slice_get y k ≡ Some true =
    λ x y len into k e.
    let k_in : k < length kept = omega (arith, slice_get_within x k true e) in
    marked_at_place kept y k (slice_index kept k) rises (at k k_in) (into (slice_index kept k)
    (record { place = k; at = at k k_in }) (record { place = k; at = at k k_in; marked = e })) in
    same_marks l m (hl ∙ sym hm) (λ k. (one l m hl (λ a ka. (same a ka).0) k, one m l hm (λ a ka. (same a ka).1) k))

pub words_push : (xs : List ℕ) (x : ℕ) → words (xs ++ x ∷ []) ≡ words xs ++ (x / 256) ∷ (x % 256) ∷ []
words_push [] x = refl
words_push (y ∷ ys) x = ap (λ l. (y / 256) ∷ (y % 256) ∷ l) (words_push ys x)

pub flags_push : (xs : List Bool) (x : Bool) → flags (xs ++ x ∷ []) ≡ flags xs ++ flag x ∷ []
flags_push [] x = refl
flags_push (y ∷ ys) x = ap (λ l. flag y ∷ l) (flags_push ys x)

pub push_two : (a w : List ℕ) (h l : ℕ) → (a ++ w) ++ h ∷ l ∷ [] ≡ a ++ (w ++ h ∷ l ∷ [])
push_two a w h l = simp append_assoc

pub push_one : (a w : List ℕ) (h : ℕ) → (a ++ w) ++ h ∷ [] ≡ a ++ (w ++ h ∷ [])
push_one a w h = simp append_assoc

-- the two bytes of a number among those of a list, and the bits of bytes
pub word_high : (xs : List ℕ) (i : ℕ) → slice_index (words xs) (2 * i) ≡ slice_index xs i / 256
word_high [] i = refl
word_high (x ∷ xs) zero = refl
word_high (x ∷ xs) (suc i) =
    let e : 2 * suc i ≡ suc (suc (2 * i)) = omega arith in
    ap (slice_index (words (x ∷ xs))) e ∙ word_high xs i

pub word_low : (xs : List ℕ) (i : ℕ) → slice_index (words xs) (2 * i + 1) ≡ slice_index xs i % 256
word_low [] i = refl
word_low (x ∷ xs) zero = refl
word_low (x ∷ xs) (suc i) =
    let e : 2 * suc i + 1 ≡ suc (suc (2 * i + 1)) = omega arith in
    ap (slice_index (words (x ∷ xs))) e ∙ word_low xs i

pub bits_back : (bs : List Bool) → map (λ (b : ℕ). eqb b 1) (flags bs) ≡ bs
bits_back [] = refl
bits_back (true ∷ bs) = ap (λ (l : List Bool). true ∷ l) (bits_back bs)
bits_back (false ∷ bs) = ap (λ (l : List Bool). false ∷ l) (bits_back bs)
