-- A whole text, piece after piece.
use Rattle.std.proofs.Common.{◌≡◌, ℕ, ◌+◌, ◌-◌, ◌<◌, Bool, true, false, eqb, List, [], ◌∷◌, ◌++◌, length, drop, Option}
use Rattle.std.proofs.Common.{Some, None, Result, Ok, Err, refl, sym, ap, subst, ◌∙◌, append_assoc, inl, inr, arith}
use Rattle.std.specs.Prelude.{IsUtf8, codes}
use Rattle.std.specs.Option.{option_map}
use Rattle.std.specs.List.{flat_map}
use Rattle.std.proofs.lemmas.List.{length-append, nil_from_length}
use Rattle.std.proofs.lemmas.Bool.{eqb-true, false≢true}
use Rattle.ssd_text.specs.declared.refusal.TextRefusal.{TextRefusal}
use Rattle.ssd_text.specs.Grammar.{Piece, comment, instruction, cdata, start, end, run, close, attribute, spelling}
use Rattle.ssd_text.specs.Grammar.{IsPiece, StopsThere, Begins}
use Rattle.ssd_text.specs.Nesting.{Entry, Nest, Shape, shape, step, no_piece, Next, Goes, HasOutcome, mark_len}
use Rattle.ssd_text.specs.Nesting.{Spells, nothing}
use Rattle.ssd_text.specs.Reading.{piece_at}
use Rattle.ssd_text.specs.Seen.{counted}
use Rattle.ssd_text.proofs.Fronts.{map_is_some}
use Rattle.ssd_text.proofs.Texts.{IsSeam, utf8_seam, utf8_tail}
use Rattle.ssd_text.proofs.PieceAgain.{piece_again}
use Rattle.ssd_text.proofs.PieceTakes.{piece_takes}

-- what is behind an ASCII byte
utf8_behind : (y r : List ℕ) → IsUtf8 (y ++ (62 ∷ r)) → IsUtf8 r
utf8_behind y r u = utf8_tail 62 r (utf8_seam y (62 ∷ r) u (omega arith)).1 (omega arith)

run_seam : (x r : List ℕ) → StopsThere (run x) r → IsSeam r
run_seam x [] ends = tt
run_seam x (b ∷ r) ends = omega arith

closed_at : (c : Bool) (y r : List ℕ) → IsUtf8 (y ++ (close c ++ r)) → IsUtf8 r
closed_at true y r u = utf8_behind (y ++ (47 ∷ [])) r (subst IsUtf8 (sym (append_assoc y (47 ∷ []) (62 ∷ r))) u)
closed_at false y r u = utf8_behind y r u

tag_parts : (a b c d r : List ℕ) → (60 ∷ (a ++ (b ++ (c ++ d)))) ++ r ≡ (60 ∷ (a ++ (b ++ c))) ++ (d ++ r)
tag_parts a b c d r = simp append_assoc

piece_rest : (p : Piece) (r : List ℕ) → StopsThere p r → IsUtf8 (spelling p ++ r) → IsUtf8 r
piece_rest (comment x) r ends u = utf8_behind (codes "<!--" ++ (x ++ codes "--")) r (subst IsUtf8 (simp append_assoc) u)
piece_rest (instruction x) r ends u = utf8_behind (codes "<?" ++ (x ++ codes "?")) r
    (subst IsUtf8 (simp append_assoc) u)
piece_rest (cdata x) r ends u = utf8_behind (codes "<![CDATA[" ++ (x ++ codes "]]")) r
    (subst IsUtf8 (simp append_assoc) u)
piece_rest (end name gap) r ends u = utf8_behind (codes "</" ++ (name ++ gap)) r (subst IsUtf8 (simp append_assoc) u)
piece_rest (start name given gap c) r ends u =
    closed_at c (codes "<" ++ (name ++ (flat_map attribute given ++ gap))) r
    (subst IsUtf8 (tag_parts name (flat_map attribute given) gap (close c) r) u)
piece_rest (run x) r ends u = (utf8_seam x r u (run_seam x r ends)).1

-- ---- one piece

-- a piece as the code sees it is one that begins there
pub next_ok : (at : ℕ) (n m : Nest) (text next : List ℕ) (s : Shape) →
    Some (s, next) ≡ option_map counted (piece_at text) → Ok m ≡ step at n s → Next at n text (Ok (m, next))
next_ok at n m text next s e h =
    let k = map_is_some counted (piece_at text) (s, next) (sym e) in
    let b = piece_takes text k.0.0 k.0.1 k.1 in (
      k.0.0,
      subst (Begins text k.0.0) (ap (λ (x : Shape × List ℕ). x.1) k.2) b,
      ap (λ (x : Shape × List ℕ). step at n x.0) k.2 ∙ sym h,
    )

pub next_fault : (at : ℕ) (n : Nest) (text next : List ℕ) (s : Shape) (f : TextRefusal) →
    Some (s, next) ≡ option_map counted (piece_at text) → Err f ≡ step at n s → Next at n text (Err f)
next_fault at n text next s f e h =
    let k = map_is_some counted (piece_at text) (s, next) (sym e) in
    let b = piece_takes text k.0.0 k.0.1 k.1 in
    inr (k.0.0, k.0.1, b, ap (λ (x : Shape × List ℕ). step at n x.0) k.2 ∙ sym h)

map_is_none : {A B : Type 0} (f : A → B) (o : Option A) → None ≡ option_map f o → o ≡ None
map_is_none f None e = refl
map_is_none f (Some x) e = absurd cc

pub next_none : (at : ℕ) (n : Nest) (text : List ℕ) (f : TextRefusal) → None ≡ option_map counted (piece_at text) →
    f ≡ no_piece at text → Next at n text (Err f)
next_none at n text f e h =
    let none = map_is_none counted (piece_at text) e in
    inl (λ p rest b. absurd (some_none (p, rest) (sym none ∙ piece_again text p rest b)), h)
  where
    some_none : (x : Piece × List ℕ) → None ≡ Some x → ⊥
    some_none x e = cc

pub next_rest : (at : ℕ) (n m : Nest) (text next : List ℕ) → Next at n text (Ok (m, next)) → IsUtf8 text → IsUtf8 next
next_rest at n m text next h u = piece_rest h.0 next h.1.ends (subst IsUtf8 h.1.whole u)

-- a piece has a byte at least
some_piece : (p : Piece) → IsPiece p → 0 < length (spelling p)
some_piece (comment x) good = omega arith
some_piece (instruction x) good = omega arith
some_piece (cdata x) good = omega arith
some_piece (start name given gap c) good = omega arith
some_piece (end name gap) good = omega arith
some_piece (run x) good = good.0

pub next_shorter : (at : ℕ) (n m : Nest) (text next : List ℕ) → Next at n text (Ok (m, next)) →
    length next < length text
next_shorter at n m text next h = let some = some_piece h.0 h.1.good in
    omega (arith, ap length h.1.whole, length-append (spelling h.0) next)

-- ---- all of them

pub told_more : (at later : ℕ) (n m : Nest) (text next : List ℕ) (o : Result (List Entry) TextRefusal) →
    Next at n text (Ok (m, next)) → later ≡ at + (length text - length next) → HasOutcome later m next o →
    HasOutcome at n text o
told_more at later n m text next o h place rest =
    let same : later ≡ at + length (spelling h.0) =
    omega (arith, ap length h.1.whole, length-append (spelling h.0) next) in
    (h.0 ∷ rest.0, (next, m, h.1, h.2, subst (λ (k : ℕ). Goes k m next rest.0 o) same rest.1))

pub told_fault : (at : ℕ) (n : Nest) (text : List ℕ) (f : TextRefusal) → 0 < length text → Next at n text (Err f) →
    HasOutcome at n text (Err f)
told_fault at n text f some h = ([], inr (some, f, h, refl))

pub some_left : (xs : List ℕ) (b : Bool) → b ≡ eqb (length xs) 0 → b ≡ false → 0 < length xs
some_left [] b e f = absurd (false≢true (sym f ∙ e))
some_left (x ∷ xs) b e f = omega arith

pub none_left : (xs : List ℕ) (b : Bool) → b ≡ eqb (length xs) 0 → b ≡ true → xs ≡ []
none_left xs b e f = nil_from_length xs (eqb-true (length xs) 0 (sym e ∙ f))

-- ---- one outcome

abbrev failed : TextRefusal → Result (List Entry) TextRefusal
failed f = Err f

same_piece : (text : List ℕ) (p q : Piece) (r s : List ℕ) → Begins text p r → Begins text q s → (p ≡ q) × (r ≡ s)
same_piece text p q r s a b =
    let e = sym (piece_again text p r a) ∙ piece_again text q s b in
    let pair = pair_same (p, r) (q, s) e in
    (ap (λ (x : Piece × List ℕ). x.0) pair, ap (λ (x : Piece × List ℕ). x.1) pair)
  where
    pair_same : (x y : Piece × List ℕ) → Some x ≡ Some y → x ≡ y
    pair_same x y e = cc

nothing_begins : (p : Piece) (r : List ℕ) → Begins [] p r → ⊥
nothing_begins p r b =
    let some = some_piece p b.good in
    let len = ap length b.whole in
    omega (arith, some, len, length-append (spelling p) r)

same_fault : (at : ℕ) (n : Nest) (text : List ℕ) (f g : TextRefusal) → Next at n text (Err f) →
    Next at n text (Err g) → f ≡ g
same_fault at n text f g (inl a) (inl b) = a.1 ∙ sym b.1
same_fault at n text f g (inl a) (inr b) = absurd (a.0 b.0 b.1 b.2)
same_fault at n text f g (inr a) (inl b) = absurd (b.0 a.0 a.1 a.2)
same_fault at n text f g (inr a) (inr b) =
    let same = same_piece text a.0 b.0 a.1 b.1 a.2 b.2 in
    err_same f g (sym a.3 ∙ ap (λ (p : Piece). step at n (shape p)) same.0 ∙ b.3)
  where
    err_same : (f g : TextRefusal) → ◌≡◌ {A = Result Nest TextRefusal} (Err f) (Err g) → f ≡ g
    err_same f g e = cc

no_step : (at : ℕ) (n m : Nest) (text rest : List ℕ) (p : Piece) (f : TextRefusal) → Begins text p rest →
    step at n (shape p) ≡ Ok m → Next at n text (Err f) → ⊥
no_step at n m text rest p f b s (inl a) = a.0 p rest b
no_step at n m text rest p f b s (inr a) =
    let same = same_piece text p a.0 rest a.1 b a.2 in
    ok_err m f (sym s ∙ ap (λ (q : Piece). step at n (shape q)) same.0 ∙ a.3)
  where
    ok_err : (m : Nest) (f : TextRefusal) → ◌≡◌ {A = Result Nest TextRefusal} (Ok m) (Err f) → ⊥
    ok_err m f e = cc

one_outcome : (ps qs : List Piece) (at : ℕ) (n : Nest) (text : List ℕ) (o w : Result (List Entry) TextRefusal) →
    Goes at n text ps o → Goes at n text qs w → o ≡ w
one_outcome [] [] at n text o w (inl a) (inl b) = a.1 ∙ sym b.1
one_outcome [] [] at n text o w (inl a) (inr b) = absurd (omega (arith, ap length a.0, b.0))
one_outcome [] [] at n text o w (inr a) (inl b) = absurd (omega (arith, ap length b.0, a.0))
one_outcome [] [] at n text o w (inr a) (inr b) = a.3 ∙ ap (λ (f : TextRefusal). failed f)
    (same_fault at n text a.1 b.1 a.2 b.2) ∙ sym b.3
one_outcome [] (q ∷ qs) at n text o w (inl a) b =
    absurd (nothing_begins q b.0 (subst (λ (t : List ℕ). Begins t q b.0) a.0 b.2))
one_outcome [] (q ∷ qs) at n text o w (inr a) b = absurd (no_step at n b.1 text b.0 q a.1 b.2 b.3 a.2)
one_outcome (p ∷ ps) [] at n text o w a (inl b) =
    absurd (nothing_begins p a.0 (subst (λ (t : List ℕ). Begins t p a.0) b.0 a.2))
one_outcome (p ∷ ps) [] at n text o w a (inr b) = absurd (no_step at n a.1 text a.0 p b.1 a.2 a.3 b.2)
one_outcome (p ∷ ps) (q ∷ qs) at n text o w a b =
    let same = same_piece text p q a.0 b.0 a.2 b.2 in
    let nest = ok_same a.1 b.1 (sym a.3 ∙ ap (λ (p : Piece). step at n (shape p)) same.0 ∙ b.3) in
    let there = subst (λ (p : Piece). Goes (at + length (spelling p)) b.1 b.0 qs w) (sym same.0) b.4 in
    let moved = subst (λ (m : Nest). Goes (at + length (spelling p)) m b.0 qs w) (sym nest) there in
    one_outcome ps qs (at + length (spelling p)) a.1 a.0 o w a.4
    (subst (λ (r : List ℕ). Goes (at + length (spelling p)) a.1 r qs w) (sym same.1) moved)
  where
    ok_same : (m k : Nest) → ◌≡◌ {A = Result Nest TextRefusal} (Ok m) (Ok k) → m ≡ k
    ok_same m k e = cc

pub one_reading : (text : List ℕ) (o w : Result (List Entry) TextRefusal) → Spells text o → Spells text w → o ≡ w
one_reading text o w (inl a) (inl b) = one_outcome a.1.0 b.1.0 (mark_len text) nothing (drop (mark_len text) text) o
    w a.1.1 b.1.1
one_reading text o w (inl a) (inr b) = absurd (b.0 a.0)
one_reading text o w (inr a) (inl b) = absurd (a.0 b.0)
one_reading text o w (inr a) (inr b) = a.1 ∙ sym b.1
