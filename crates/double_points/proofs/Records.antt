-- Records of two fields, and the words that records give.
use Rattle.std.proofs.Common.{◌≡◌, ◌≢◌, ℕ, zero, suc, ◌+◌, ◌<◌, ◌≤◌, Bool, true, false, cond, List, [], ◌∷◌, ◌++◌}
use Rattle.std.proofs.Common.{length, map, take, drop, get_or, Option, Some, None, is_some, refl, sym}
use Rattle.std.proofs.Common.{ap, ◌∙◌, arith, add-one, subst, unwrap_or}
use Rattle.std.specs.List.{list_any}
use Rattle.std.proofs.Common.{◌-◌, ◌||◌, set, length-drop, drop-cons}
use Rattle.std.proofs.lemmas.List.{take_more, get_or-map, take_all}
use Rattle.double_points.proofs.Places.{place_of-some}
use Rattle.std.proofs.lemmas.Slice.Eq.{bytes_eq-Decides}
use Rattle.csv.specs.Records.{field_at}
use Rattle.ilk_base.specs.declared.words.Dbpos.{Dbpos}
use Rattle.double_points.specs.Paths.{IsDistinct, place_of}
use Rattle.double_points.specs.Words.{word_of}
use Rattle.double_points.specs.Positions.{Row, form_fault, fault_at, names, given, IsFirstRowFault, Accepts}
use Rattle.double_points.specs.Positions.{words_of}
use Rattle.ilk_base.specs.declared.words.Dbpos.TheVariants.{Lost}
use Rattle.std.specs.Prelude.{⊤}
use Rattle.std.specs.Prelude.{slice_index_or}

-- Each record has a word.
abbrev pub HaveWords : List Row → Type 0
HaveWords [] = ⊤
HaveWords (row ∷ rows) = (is_some (word_of (slice_index_or row 1 [])) ≡ true) × HaveWords rows

pub no_first : (f : List (List ℕ)) → field_at f 0 ≡ None → length f ≢ 2
unfolding field_at
no_first [] e n = omega (arith, n)
no_first (a ∷ f) e n = cc e

pub no_second : (f : List (List ℕ)) → field_at f 1 ≡ None → length f ≢ 2
unfolding field_at
no_second [] e n = omega (arith, n)
no_second (a ∷ []) e n = omega (arith, n)
no_second (a ∷ b ∷ f) e n = cc e

pub both_fields : (f : List (List ℕ)) (p w : List ℕ) → length f ≡ 2 → field_at f 0 ≡ Some p → field_at f 1 ≡ Some w →
    f ≡ p ∷ w ∷ []
unfolding field_at
both_fields [] p w n a b = cc a
both_fields (x ∷ []) p w n a b = cc b
both_fields (x ∷ y ∷ []) p w n a b = cc (a, b)
both_fields (x ∷ y ∷ z ∷ f) p w n a b = absurd (omega (arith, n))

-- ---- words written into a list

map_same : (f g : List ℕ → Option Dbpos) (xs : List (List ℕ)) →
    ((j : ℕ) → j < length xs → g (get_or xs j []) ≡ f (get_or xs j [])) → map f xs ≡ map g xs
map_same f g [] h = refl
map_same f g (x ∷ xs) h =
    let head : g x ≡ f x = h 0 (omega arith) in
    let rest = map_same f g xs (λ j lt. h (suc j) (omega (arith, lt))) in
    cc (head, rest)

pub set_map : (f g : List ℕ → Option Dbpos) (xs : List (List ℕ)) (p : ℕ) (v : Option Dbpos) → p < length xs →
    g (get_or xs p []) ≡ v
    → ((j : ℕ) → j < length xs → j ≢ p → g (get_or xs j []) ≡ f (get_or xs j [])) → set (map f xs) p v ≡ map g xs
set_map f g [] p v lt e h = absurd (omega (arith, lt))
set_map f g (x ∷ xs) zero v lt e h =
    let rest = map_same f g xs (λ j lt. h (suc j) (omega (arith, lt)) (λ z. omega (arith, z))) in
    cc (rest, e)
set_map f g (x ∷ xs) (suc p) v lt e h =
    let head : g x ≡ f x = h 0 (omega arith) (λ z. omega (arith, z)) in
    let rest = set_map f g xs p v (omega (arith, lt)) e (λ j lt ne. h (suc j) (omega (arith, lt))
    (λ z. ne (omega (arith, z)))) in
    cc (head, rest)

-- ---- one record more

given_step : (b c : Bool) (w g h i : Option Dbpos) → g ≡ cond c h i → cond b w g ≡ cond (b || c) (cond b w h) i
given_step true c w g h i e = refl
given_step false c w g h i e = e

pub given-append : (rows : List Row) (row : Row) (path : List ℕ)
    → given (rows ++ row ∷ []) path ≡ cond (list_any (names path) rows) (given rows path)
    (cond (names path row) (word_of (get_or row 1 [])) None)
given-append [] row path = refl
given-append (r ∷ rs) row path = given_step (names path r) (list_any (names path) rs) (word_of (get_or r 1 [])) _
    (given rs path) _ (given-append rs row path)

unnamed_step : (b c : Bool) (w g : Option Dbpos) → (c ≡ false → g ≡ None) → (b || c) ≡ false → cond b w g ≡ None
unnamed_step true c w g h e = cc e
unnamed_step false c w g h e = h e

pub unnamed : (rows : List Row) (path : List ℕ) → list_any (names path) rows ≡ false → given rows path ≡ None
unnamed [] path e = refl
unnamed (r ∷ rs) path e = unnamed_step (names path r) (list_any (names path) rs) (word_of (get_or r 1 []))
    (given rs path) (unnamed rs path) e

named_step : (b c : Bool) (w g : Option Dbpos) → is_some w ≡ true → is_some g ≡ c → is_some (cond b w g) ≡ b || c
named_step true c w g e h = e
named_step false c w g e h = h

pub is_some-given : (rows : List Row) (path : List ℕ) → HaveWords rows →
    is_some (given rows path) ≡ list_any (names path) rows
is_some-given [] path h = refl
is_some-given (r ∷ rs) path h = named_step (names path r) (list_any (names path) rs) (word_of (get_or r 1 []))
    (given rs path) h.0 (is_some-given rs path h.1)

pub HaveWords-append : (rows : List Row) (row : Row) → HaveWords rows → is_some (word_of (get_or row 1 [])) ≡ true →
    HaveWords (rows ++ row ∷ [])
HaveWords-append [] row h e = (e, tt)
HaveWords-append (r ∷ rs) row h e = (h.0, HaveWords-append rs row h.1 e)

-- ---- the record at a place

pub record Turn (all : List Row) (k : ℕ) (row : Row) (rest : List Row) : Type 0 where
  pub within : k < length all
  pub row_is : get_or all k [] ≡ row
  pub rest_is : rest ≡ drop (k + 1) all
  pub taken : take (k + 1) all ≡ take k all ++ row ∷ []

pub turn : (all old rest : List Row) (k : ℕ) (row : Row) → old ≡ drop k all → old ≡ row ∷ rest → Turn all k row rest
turn all old rest k row a b =
    let e : drop k all ≡ row ∷ rest = sym a ∙ b in
    let within : k < length all = omega (arith, length-drop k all, ap length e) in
    let c = drop-cons all k [] within in
    let row_is : get_or all k [] ≡ row = cc (c, e) in
    record {
      within = within;
      row_is = row_is;
      rest_is = rw add-one (cc (c, e));
      taken = rw (← row_is) (take_more all k [] within);
    }

-- ---- a record without a fault, and what a fault is

fault_free : (o : Option ℕ) (b : Bool) → o ≡ None → b ≡ false → cond (is_some o) o (cond b (Some 4) None) ≡ None
fault_free None true e f = cc f
fault_free None false e f = refl
fault_free (Some x) b e f = cc e

fault_form : (o : Option ℕ) (b : Bool) (n : ℕ) → o ≡ Some n → cond (is_some o) o (cond b (Some 4) None) ≡ Some n
fault_form None b n e = cc e
fault_form (Some x) b n e = e

fault_again : (o : Option ℕ) (b : Bool) → o ≡ None → b ≡ true → cond (is_some o) o (cond b (Some 4) None) ≡ Some 4
fault_again None true e f = refl
fault_again None false e f = cc f
fault_again (Some x) b e f = cc e

pub fault_at-none : (paths : List (List ℕ)) (all : List Row) (k : ℕ) (row : Row) → get_or all k [] ≡ row →
    form_fault paths row ≡ None
    → list_any (names (get_or row 0 [])) (take k all) ≡ false → fault_at paths all k ≡ None
fault_at-none paths all k row e f a = rw e (fault_free (form_fault paths row) _ f a)

pub fault_at-form : (paths : List (List ℕ)) (all : List Row) (k n : ℕ) (row : Row) → get_or all k [] ≡ row →
    form_fault paths row ≡ Some n → fault_at paths all k ≡ Some n
fault_at-form paths all k n row e f = rw e (fault_form (form_fault paths row) _ n f)

pub fault_at-again : (paths : List (List ℕ)) (all : List Row) (k : ℕ) (row : Row) → get_or all k [] ≡ row →
    form_fault paths row ≡ None
    → list_any (names (get_or row 0 [])) (take k all) ≡ true → fault_at paths all k ≡ Some 4
fault_at-again paths all k row e f a = rw e (fault_again (form_fault paths row) _ f a)

-- ---- a word more

other_name : (b : Bool) (path : List ℕ) (row : Row) → names path row ≡ b → path ≢ get_or row 0 [] →
    names path row ≡ false
other_name true path row e ne = absurd (ne (sym ((bytes_eq-Decides (get_or row 0 []) path).0 e)))
other_name false path row e ne = e

pub record OneMore (paths : List (List ℕ)) (before : List Row) (row : Row) (p : ℕ) (w : Dbpos) : Type 0 where
  pub within : p < length paths
  pub path_is : get_or paths p [] ≡ get_or row 0 []
  pub found : list_any (names (get_or row 0 [])) before ≡ false → set (map (given before) paths) p (Some w)
      ≡ map (given (before ++ row ∷ [])) paths

pub one_more : (paths : List (List ℕ)) (before : List Row) (row : Row) (p : ℕ) (w : Dbpos) → IsDistinct paths →
    place_of (get_or row 0 []) paths ≡ Some p → word_of (get_or row 1 []) ≡ Some w
    → OneMore paths before row p w
one_more paths before row p w distinct place word =
    let at = place_of-some paths (get_or row 0 []) p place in
    let path_is = at.1 in
    let own : names (get_or paths p []) row ≡ true = (bytes_eq-Decides (get_or row 0 []) (get_or paths p [])).1
    (sym path_is) in
    record {
      within = at.0;
      path_is = path_is;
      found = λ fresh. set_map (given before) (given (before ++ row ∷ [])) paths p (Some w) at.0
          (let q = get_or paths p [] in
          let e : list_any (names q) before ≡ false = subst (λ (x : List ℕ). list_any (names x) before ≡ false)
          (sym path_is) fresh in
          given-append before row q ∙ rw (e, own) word)
          (λ j lt ne.
          let apart : get_or paths j [] ≢ get_or row 0 [] = λ e. ne (distinct j p lt at.0 (e ∙ sym path_is)) in
          let no : names (get_or paths j []) row ≡ false = other_name _ (get_or paths j []) row refl apart in
          let q = get_or paths j [] in
          given-append before row q ∙ rw no (keeps (list_any (names q) before) q before (unnamed before q)));
    }
  where
    keeps : (b : Bool) (path : List ℕ) (before : List Row) → (b ≡ false → given before path ≡ None) →
        cond b (given before path) None ≡ given before path
    keeps true path before h = refl
    keeps false path before h = sym (h refl)

-- the first fault stands here
pub refused_here : (paths : List (List ℕ)) (all : List Row) (k n : ℕ) → k < length all → fault_at paths all k ≡ Some n →
    ((j : ℕ) → j < k → fault_at paths all j ≡ None)
    → IsFirstRowFault paths all (record { number = n; line = k + 1 })
refused_here paths all k n lt fault first =
    let e : k + 1 - 1 ≡ k = omega arith in
    record {
      counts = omega arith;
      within = omega (arith, lt);
      fault = rw e fault;
      first = λ j h. first j (omega (arith, h, e));
    }

pub named_is : (paths : List (List ℕ)) (before : List Row) (row : Row) (p : ℕ) (x : Option Dbpos)
    (found : List (Option Dbpos)) (b : Bool) → found ≡ map (given before) paths → p < length paths
    → get_or paths p [] ≡ get_or row 0 [] → HaveWords before → x ≡ get_or found p x → is_some x ≡ b →
    list_any (names (get_or row 0 [])) before ≡ b
named_is paths before row p x found b f lt path h at e =
    let g = get_or-map (given before) paths p [] x lt in
    let there : x ≡ given before (get_or row 0 []) = at ∙ ap (λ l. get_or l p x) f ∙ g ∙ ap (given before) path in
    sym (is_some-given before (get_or row 0 []) h) ∙ ap is_some (sym there) ∙ e

fused : (before : List Row) (paths : List (List ℕ)) → map (λ o. unwrap_or o Lost) (map (given before) paths)
    ≡ words_of paths before
fused before [] = refl
fused before (p ∷ paths) = ap (λ l. unwrap_or (given before p) Lost ∷ l) (fused before paths)

-- at the last record
pub at_last : (paths : List (List ℕ)) (all rows : List Row) (k : ℕ) (found : List (Option Dbpos)) (words : List Dbpos) →
    rows ≡ drop k all → rows ≡ [] → k ≤ length all
    → found ≡ map (given (take k all)) paths → words ≡ map (λ o. unwrap_or o Lost) found →
    ((j : ℕ) → j < k → fault_at paths all j ≡ None)
    → Accepts paths all × (words ≡ words_of paths all)
at_last paths all rows k found words a b le f w before =
    let whole : length all ≤ k = omega (arith, length-drop k all, ap length (sym a ∙ b)) in
    let same : take k all ≡ all = take_all k all whole in
    (λ j lt. before j (omega (arith, lt, whole)), w ∙ rw (f, same) (fused all paths))
