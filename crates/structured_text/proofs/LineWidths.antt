-- How far the lines of a text go.
use Rattle.std.proofs.Common.{◌≡◌, ◌≢◌, ◌++◌, ◌∙◌, ◌<◌, ◌≤◌, ◌+◌, ◌*◌, ◌%◌, ◌^◌, ℕ, suc, List, [], ◌∷◌, Bool, true}
use Rattle.std.proofs.Common.{false, length, Some, None, refl, sym, ap, subst, arith}
use Rattle.std.specs.Prelude.{◌==◌, if◌then◌else◌, nat_lt, codes, slice_index_or, Option}
use Rattle.std.specs.List.{flat_map}
use Rattle.std.proofs.lemmas.Bool.{false≢true}
use Rattle.std.proofs.lemmas.Bool.Decides.{nat_tests}
use Rattle.ilk_base.specs.declared.words.SwitchId.{SwitchId}
use Rattle.station_graph.specs.Diagram.{Diagram}
use Rattle.structured_text.specs.declared.name.Name.{Name}
use Rattle.structured_text.specs.declared.name.Name.TheVariants.{Off, On, Opens, Closes}
use Rattle.structured_text.specs.declared.line.Heading.{Heading}
use Rattle.structured_text.specs.declared.line.Heading.TheVariants.{Signals, Together, Releases}
use Rattle.structured_text.specs.declared.line.Line.{Line}
use Rattle.structured_text.specs.Width.{continues}
use Rattle.structured_text.specs.Spelling.{shown_byte, row_break, row_length, shown_from, shown, name_text, pair_text, formula_text}
use Rattle.structured_text.specs.Spelling.{comment_text, heading_text, line_text, declared_text, remark_text, input_text}
use Rattle.structured_text.specs.Spelling.{output_text, between_names, more_names, declared_names, names_text, true_names_text}
use Rattle.structured_text.specs.Within.{NameWithin, LineWithin, LinesWithin, NamesWithin}
use Rattle.structured_text.proofs.WidthLemmas.{chosen, passed, both_true, Fits, column, wider, tested, earlier, goes_on, piece, column_more}
use Rattle.structured_text.proofs.PieceWidths.{name_length, pair_length, formula_text_length}

lt_true : (a b : ℕ) → a < b → nat_lt a b ≡ true
lt_true a b low = grind (arith, nat_tests)

lt_from : (a b : ℕ) → nat_lt a b ≡ true → a < b
lt_from a b e = grind (arith, nat_tests)

lt_false : (a b : ℕ) → b ≤ a → nat_lt a b ≡ false
lt_false a b low = grind (arith, nat_tests)

eq_false : (a b : ℕ) → a ≢ b → (a == b) ≡ false
eq_false a b differ = grind (arith, nat_tests)

-- ---- paths in comments
-- a byte that continues a character is shown, and takes no column
continued : (b : ℕ) → continues b ≡ true → (c : ℕ) → column c (shown_byte b) ≡ c
continued b is c =
    let z = both_true (nat_lt 127 b) (nat_lt b 192) is in
    let low = lt_from 127 b z.0 in
    let x : shown_byte b ≡ b =
    passed (nat_lt b 32) 95 (if b == 42 then 95 else b) (lt_false b 32 (omega (arith, low)))
    ∙ passed (b == 42) 95 b (eq_false b 42 (λ e. omega (arith, e, low))) in
    ap (λ k. column c k) x
    ∙ (passed (b == 10) 0 (wider c b) (eq_false b 10 (λ e. omega (arith, e, low)))
    ∙ chosen (continues b) c (c + 1) is)

module _ (c : ℕ) (early : 5 ≤ c) (room : c + 80 ≤ 200) where
  step : (k b : ℕ) (bs broken : List ℕ) (n : ℕ) → row_break k b ≡ broken → row_length k b ≡ n →
      Fits (c + k) (broken ++ (shown_byte b ∷ shown_from n bs)) (c + 80) → Fits (c + k) (shown_from k (b ∷ bs)) (c + 80)
  step k b bs broken n e f h =
      subst (λ t. Fits (c + k) (t ++ (shown_byte b ∷ shown_from (row_length k b) bs)) (c + 80)) (sym e)
      (subst (λ m. Fits (c + k) (broken ++ (shown_byte b ∷ shown_from m bs)) (c + 80)) (sym f) h)

  -- one byte more in the row
  byte_more : (d k b : ℕ) (bs : List ℕ) → column d (shown_byte b) ≤ c + k → k ≤ 80 → Fits (c + k) (shown_from k bs) (c + 80) →
      Fits d (shown_byte b ∷ shown_from k bs) (c + 80)
  byte_more d k b bs low within h =
      (omega (arith, low, within, room), earlier (column d (shown_byte b)) (c + k) (shown_from k bs) (c + 80) low h)

  abbrev Rest : List ℕ → Type 0
  Rest bs = (j : ℕ) → j ≤ 80 → Fits (c + j) (shown_from j bs) (c + 80)

  shown_fits : (k : ℕ) (path : List ℕ) → k ≤ 80 → Fits (c + k) (shown_from k path) (c + 80)
  shown_fits k [] within = omega (arith, within)
  shown_fits k (b ∷ bs) within = by (continues b) refl (λ j low. shown_fits j bs low)
    where
      fresh : (q : Bool) → continues b ≡ false → nat_lt k 80 ≡ q → Rest bs → Fits (c + k) (shown_from k (b ∷ bs)) (c + 80)
      fresh true is low rest =
          let small = lt_from k 80 low in
          let more = column_more (c + k) (shown_byte b) in
          step k b bs [] (k + 1)
          (passed (continues b) [] (if nat_lt k 80 then [] else codes "\n     ") is
          ∙ chosen (nat_lt k 80) [] (codes "\n     ") low)
          (passed (continues b) k (if nat_lt k 80 then k + 1 else 1) is ∙ chosen (nat_lt k 80) (k + 1) 1 low)
          (byte_more (c + k) (k + 1) b bs (omega (arith, more)) (omega (arith, small))
          (rest (k + 1) (omega (arith, small))))
      fresh false is low rest =
          let more = column_more 5 (shown_byte b) in
          step k b bs (codes "\n     ") 1
          (passed (continues b) [] (if nat_lt k 80 then [] else codes "\n     ") is
          ∙ passed (nat_lt k 80) [] (codes "\n     ") low)
          (passed (continues b) k (if nat_lt k 80 then k + 1 else 1) is ∙ passed (nat_lt k 80) (k + 1) 1 low)
          (goes_on (c + k) (codes "\n     ") 5 (shown_byte b ∷ shown_from 1 bs) (c + 80)
          (omega arith, tested 0 (codes "     ") 5 refl)
          (byte_more 5 1 b bs (omega (arith, more, early)) (omega arith) (rest 1 (omega arith))))

      by : (q : Bool) → continues b ≡ q → Rest bs → Fits (c + k) (shown_from k (b ∷ bs)) (c + 80)
      by true is rest =
          let same = continued b is (c + k) in
          step k b bs [] k (chosen (continues b) [] (if nat_lt k 80 then [] else codes "\n     ") is)
          (chosen (continues b) k (if nat_lt k 80 then k + 1 else 1) is)
          (byte_more (c + k) k b bs (omega (arith, same)) within (rest k within))
      by false is rest = fresh (nat_lt k 80) is refl rest

  path_fits : (path : List ℕ) → Fits c (shown path) (c + 80)
  path_fits path =
      let low : c ≤ c + 0 = omega arith in earlier c (c + 0) (shown path) (c + 80) low (shown_fits 0 path (omega arith))

-- ---- lines
comment_fits : (path what : List ℕ) → Fits 85 what 150 → Fits 0 (comment_text path what) 0
comment_fits path what h =
    goes_on 0 (codes "\n  (* ") 5 (shown path ++ (what ++ codes " *)\n")) 0 (tested 0 (codes "\n  (* ") 5 refl)
    (goes_on 5 (shown path) 85 (what ++ codes " *)\n") 0 (path_fits 5 (omega arith) (omega arith) path)
    (goes_on 85 what 150 (codes " *)\n") 0 h (tested 150 (codes " *)\n") 0 refl)))

pub heading_fits : (d : Diagram) (h : Option Heading) → Fits 0 (heading_text d h) 0
heading_fits d None = omega arith
heading_fits d (Some (Signals p)) =
    comment_fits (slice_index_or d.part_paths p.0 []) (codes ": what it is to the other bays")
    (tested 85 (codes ": what it is to the other bays") 150 refl)
heading_fits d (Some Together) =
    comment_fits [] (codes "what bays are together") (tested 85 (codes "what bays are together") 150 refl)
heading_fits d (Some (Releases p)) =
    comment_fits (slice_index_or d.part_paths p.0 []) (codes ": the releases") (tested 85 (codes ": the releases") 150 refl)

module _ (d : Diagram) (few : length d.switches ≤ 2 ^ 64) where
  abbrev paths : List (List ℕ)
  paths = d.switch_paths

  abbrev count : ℕ
  count = length d.switches

  -- a name, and a pair of names
  pub name_fits : (c : ℕ) (m : Name) → NameWithin count m → c + 43 ≤ 200 → Fits c (name_text paths m) (c + 43)
  name_fits c m h room = piece c (name_text paths m) 43 (name_length paths count few m h) room

  pair_fits : (c : ℕ) (a b : Name) → NameWithin count a → NameWithin count b → c + 88 ≤ 200 →
      Fits c (pair_text paths a (codes ", ") b) (c + 88)
  pair_fits c a b h k room =
      piece c (pair_text paths a (codes ", ") b) 88
      (let x = pair_length paths count few a (codes ", ") b 43 43 (name_length paths count few a h)
      (name_length paths count few b k) in
      omega (arith, x)) room

  pub line_fits : (x : Line) → LineWithin d x → Fits 0 (line_text d x) 0
  line_fits x h =
      let name = name_text paths x.name in
      let formula = formula_text paths x.formula in
      let at_name : Fits 2 name 45 = name_fits 2 x.name h.name (omega arith) in
      let at_formula : Fits 49 formula 190 =
      piece 49 formula 141 (formula_text_length paths count few x.formula h.formula) (omega arith) in
      goes_on 0 (heading_text d x.heading) 0 (codes "  " ++ (name ++ (codes " := " ++ (formula ++ codes ";\n")))) 0
      (heading_fits d x.heading)
      (goes_on 0 (codes "  ") 2 (name ++ (codes " := " ++ (formula ++ codes ";\n"))) 0 (tested 0 (codes "  ") 2 refl)
      (goes_on 2 name 45 (codes " := " ++ (formula ++ codes ";\n")) 0 at_name
      (goes_on 45 (codes " := ") 49 (formula ++ codes ";\n") 0 (tested 45 (codes " := ") 49 refl)
      (goes_on 49 formula 190 (codes ";\n") 0 at_formula (tested 190 (codes ";\n") 0 refl)))))

  pub lines_fit : (lines : List Line) → LinesWithin d lines → Fits 0 (flat_map (λ (x : Line). line_text d x) lines) 0
  lines_fit [] h = omega arith
  lines_fit (x ∷ xs) h =
      goes_on 0 (line_text d x) 0 (flat_map (λ (y : Line). line_text d y) xs) 0 (line_fits x (h 0 x refl))
      (lines_fit xs (λ i y at. h (suc i) y at))

  declared_fits : (a b : Name) → NameWithin count a → NameWithin count b → Fits 0 (declared_text paths a b) 98
  declared_fits a b h k =
      goes_on 0 (codes "  ") 2 (pair_text paths a (codes ", ") b ++ codes " : BOOL;") 98 (tested 0 (codes "  ") 2 refl)
      (goes_on 2 (pair_text paths a (codes ", ") b) 90 (codes " : BOOL;") 98 (pair_fits 2 a b h k (omega arith))
      (tested 90 (codes " : BOOL;") 98 refl))

  remark_fits : (path : List ℕ) → Fits 98 (remark_text path) 0
  remark_fits path =
      goes_on 98 (codes " (* ") 102 (shown path ++ codes " *)\n") 0 (tested 98 (codes " (* ") 102 refl)
      (goes_on 102 (shown path) 182 (codes " *)\n") 0 (path_fits 102 (omega arith) (omega arith) path)
      (tested 182 (codes " *)\n") 0 refl))

  pub input_fits : (i : SwitchId) → i.0 < count → Fits 0 (input_text paths i) 0
  input_fits i low =
      goes_on 0 (declared_text paths (Off i) (On i)) 98 (remark_text (slice_index_or paths i.0 [])) 0
      (declared_fits (Off i) (On i) low low) (remark_fits (slice_index_or paths i.0 []))

  pub output_fits : (i : SwitchId) → i.0 < count → Fits 0 (output_text paths i) 0
  output_fits i low =
      goes_on 0 (declared_text paths (Opens i) (Closes i)) 98 (codes "\n") 0 (declared_fits (Opens i) (Closes i) low low)
      (tested 98 (codes "\n") 0 refl)

  -- four names on a line, and an end that fits behind them
  module _ (end : List ℕ) (ends : Fits 180 end 0) where
    abbrev RestFits : List Name → Type 0
    RestFits xs = (j q : ℕ) → 1 ≤ q → q ≤ 4 → j % 4 ≡ q % 4 → Fits (45 * q) (more_names paths end j xs) 0

    more_fit : (xs : List Name) (k r : ℕ) → 1 ≤ r → r ≤ 4 → k % 4 ≡ r % 4 → NamesWithin count xs →
        Fits (45 * r) (more_names paths end k xs) 0
    more_fit [] k r least most same h =
        earlier (45 * r) 180 end 0 (omega (arith, most)) ends
    more_fit (x ∷ xs) k r least most same h = by (k % 4 == 0) refl
        (λ j q low high e. more_fit xs j q low high e (λ i y at. h (suc i) y at))
      where
        within : NameWithin count x
        within = h 0 x refl

        with_break : (between : List ℕ) → between_names k ≡ between →
            Fits (45 * r) (between ++ (name_text paths x ++ more_names paths end (suc k) xs)) 0 →
            Fits (45 * r) (more_names paths end k (x ∷ xs)) 0
        with_break between e f =
            subst (λ t. Fits (45 * r) (t ++ (name_text paths x ++ more_names paths end (suc k) xs)) 0) (sym e) f

        by : (q : Bool) → (k % 4 == 0) ≡ q → RestFits xs → Fits (45 * r) (more_names paths end k (x ∷ xs)) 0
        by true is rest =
            let zero_is : k % 4 ≡ 0 = grind (arith, nat_tests) in
            let next : suc k % 4 ≡ 1 % 4 = omega (arith, zero_is) in
            with_break (codes ",\n  ") (chosen (k % 4 == 0) (codes ",\n  ") (codes ", ") is)
            (goes_on (45 * r) (codes ",\n  ") 2 (name_text paths x ++ more_names paths end (suc k) xs) 0
            (earlier (45 * r) 180 (codes ",\n  ") 2 (omega (arith, most)) (tested 180 (codes ",\n  ") 2 refl))
            (goes_on 2 (name_text paths x) 45 (more_names paths end (suc k) xs) 0
            (name_fits 2 x within (omega arith))
            (rest (suc k) 1 (omega arith) (omega arith) next)))
        by false is rest =
            let not_zero : k % 4 ≢ 0 = λ e. false≢true (sym is ∙ ap (λ z. z == 0) e) in
            let below : r < 4 = omega (arith, most, same, not_zero) in
            let next : suc k % 4 ≡ (r + 1) % 4 = omega (arith, same) in
            let wide : 45 * (r + 1) ≡ (45 * r + 2) + 43 = omega arith in
            with_break (codes ", ") (passed (k % 4 == 0) (codes ",\n  ") (codes ", ") is)
            (goes_on (45 * r) (codes ", ") (45 * r + 2) (name_text paths x ++ more_names paths end (suc k) xs) 0
            (piece (45 * r) (codes ", ") 2 (omega arith) (omega (arith, below)))
            (goes_on (45 * r + 2) (name_text paths x) ((45 * r + 2) + 43) (more_names paths end (suc k) xs) 0
            (name_fits (45 * r + 2) x within (omega (arith, below)))
            (subst (λ c. Fits c (more_names paths end (suc k) xs) 0) wide
            (rest (suc k) (r + 1) (omega arith) (omega (arith, below)) next))))

    declared_names_fit : (names : List Name) → NamesWithin count names → Fits 0 (declared_names paths end names) 0
    declared_names_fit [] h = omega arith
    declared_names_fit (x ∷ xs) h =
        goes_on 0 (codes "  ") 2 (name_text paths x ++ more_names paths end 1 xs) 0 (tested 0 (codes "  ") 2 refl)
        (goes_on 2 (name_text paths x) 45 (more_names paths end 1 xs) 0 (name_fits 2 x (h 0 x refl) (omega arith))
        (more_fit xs 1 1 (omega arith) (omega arith) refl (λ i y at. h (suc i) y at)))

  pub names_fit : (names : List Name) → NamesWithin count names → Fits 0 (names_text paths names) 0
  names_fit names h = declared_names_fit (codes " : BOOL;\n") (tested 180 (codes " : BOOL;\n") 0 refl) names h

  pub true_names_fit : (names : List Name) → NamesWithin count names → Fits 0 (true_names_text paths names) 0
  true_names_fit names h =
      declared_names_fit (codes " : BOOL := TRUE;\n") (tested 180 (codes " : BOOL := TRUE;\n") 0 refl) names h
