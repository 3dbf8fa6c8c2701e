-- A text of lines is cut into its lines and their fields in one way.
use Rattle.std.proofs.Common.{◌≡◌, ℕ, ◌++◌, List, [], ◌∷◌, Bool, true, false, ◌&&◌, refl, ap, ◌∙◌, sym, append_assoc, arith}
use Rattle.std.specs.List.{list_all, flat_map}
use Rattle.ssd_read.specs.Names.{is_shown}
use Rattle.station_lines.specs.Rows.{Row, row_text, text_of}
use Rattle.station_lines.specs.Aside.{IsShown, AreShown, AllShown}

both_true : (a b : Bool) → (a && b) ≡ true → (a ≡ true) × (b ≡ true)
both_true true b h = (refl, h)
both_true false b h = absurd (cc)

hidden : (b c : ℕ) → b ≡ c → is_shown b ≡ false → is_shown c ≡ true → ⊥
hidden b c e h g =
    let bad : false ≡ true = sym h ∙ (ap is_shown e ∙ g) in
    cc

pub cut_field : (f g : List ℕ) (b c : ℕ) (s t : List ℕ) → IsShown f → IsShown g → is_shown b ≡ false →
    is_shown c ≡ false → f ++ b ∷ s ≡ g ++ c ∷ t → (f ≡ g) × (b ≡ c) × (s ≡ t)
cut_field [] [] b c s t hf hg hb hc e = (refl, cc, cc)
cut_field [] (y ∷ ys) b c s t hf hg hb hc e =
    let same : b ≡ y = cc in
    absurd (hidden b y same hb (both_true (is_shown y) (list_all is_shown ys) hg).0)
cut_field (x ∷ xs) [] b c s t hf hg hb hc e =
    let same : c ≡ x = cc in
    absurd (hidden c x same hc (both_true (is_shown x) (list_all is_shown xs) hf).0)
cut_field (x ∷ xs) (y ∷ ys) b c s t hf hg hb hc e =
    let same : x ≡ y = cc in
    let rest : xs ++ b ∷ s ≡ ys ++ c ∷ t = cc in
    let cut = cut_field xs ys b c s t (both_true (is_shown x) (list_all is_shown xs) hf).1
    (both_true (is_shown y) (list_all is_shown ys) hg).1 hb hc rest in
    let fields : x ∷ xs ≡ y ∷ ys = ap (λ (h : ℕ). h ∷ xs) same ∙ ap (λ (l : List ℕ). y ∷ l) cut.0 in
    (fields, cut.1, cut.2)

-- the two marks differ
apart : (b c : ℕ) → b ≡ 10 → c ≡ 9 → b ≡ c → ⊥
apart b c ten nine e = omega arith

pub cut_row : (r q : Row) (s t : List ℕ) → AreShown r → AreShown q → row_text r ++ s ≡ row_text q ++ t →
    (r ≡ q) × (s ≡ t)
cut_row [] q s t hr hq e = absurd hr
cut_row (f ∷ []) [] s t hr hq e = absurd hq
cut_row (f ∷ h ∷ hs) [] s t hr hq e = absurd hq
cut_row (f ∷ []) (g ∷ []) s t hr hq e =
    let cut = cut_field f g 10 10 s t hr hq refl refl
    (sym (append_assoc f (10 ∷ []) s) ∙ (e ∙ append_assoc g (10 ∷ []) t)) in
    (ap (λ (x : List ℕ). x ∷ []) cut.0, cut.2)
cut_row (f ∷ []) (g ∷ k ∷ ks) s t hr hq e =
    let cut = cut_field f g 10 9 s (row_text (k ∷ ks) ++ t) hr hq.0 refl refl
    (sym (append_assoc f (10 ∷ []) s) ∙ (e ∙ append_assoc g (9 ∷ row_text (k ∷ ks)) t)) in
    absurd (apart 10 9 refl refl cut.1)
cut_row (f ∷ h ∷ hs) (g ∷ []) s t hr hq e =
    let cut = cut_field f g 9 10 (row_text (h ∷ hs) ++ s) t hr.0 hq refl refl
    (sym (append_assoc f (9 ∷ row_text (h ∷ hs)) s) ∙ (e ∙ append_assoc g (10 ∷ []) t)) in
    absurd (apart 10 9 refl refl (sym cut.1))
cut_row (f ∷ h ∷ hs) (g ∷ k ∷ ks) s t hr hq e =
    let cut = cut_field f g 9 9 (row_text (h ∷ hs) ++ s) (row_text (k ∷ ks) ++ t) hr.0 hq.0 refl refl
    (sym (append_assoc f (9 ∷ row_text (h ∷ hs)) s) ∙ (e ∙ append_assoc g (9 ∷ row_text (k ∷ ks)) t)) in
    let rest = cut_row (h ∷ hs) (k ∷ ks) s t hr.1 hq.1 cut.2 in
    (ap (λ (x : List ℕ). x ∷ h ∷ hs) cut.0 ∙ ap (λ (l : Row). g ∷ l) rest.0, rest.1)

field_some : (f : List ℕ) (b : ℕ) (s : List ℕ) → [] ≡ f ++ b ∷ s → ⊥
field_some [] b s e = cc
field_some (x ∷ xs) b s e = cc

row_some : (r : Row) (t : List ℕ) → AreShown r → [] ≡ row_text r ++ t → ⊥
row_some [] t h e = h
row_some (f ∷ []) t h e = field_some f 10 t (e ∙ append_assoc f (10 ∷ []) t)
row_some (f ∷ g ∷ gs) t h e = field_some f 9 (row_text (g ∷ gs) ++ t) (e ∙ append_assoc f (9 ∷ row_text (g ∷ gs)) t)

pub cut_rows : (rs qs : List Row) → AllShown rs → AllShown qs → text_of rs ≡ text_of qs → rs ≡ qs
cut_rows [] [] hr hq e = refl
cut_rows [] (q ∷ qs) hr hq e = absurd (row_some q (text_of qs) hq.0 e)
cut_rows (r ∷ rs) [] hr hq e = absurd (row_some r (text_of rs) hr.0 (sym e))
cut_rows (r ∷ rs) (q ∷ qs) hr hq e =
    let cut = cut_row r q (text_of rs) (text_of qs) hr.0 hq.0 e in
    let rest = cut_rows rs qs hr.1 hq.1 cut.1 in
    ap (λ (x : Row). x ∷ rs) cut.0 ∙ ap (λ (l : List Row). q ∷ l) rest
