-- What is read in front is a piece, and then the rest.
use Rattle.std.proofs.Common.{◌≡◌, ℕ, ◌<◌, Bool, true, false, cond, not, ◌==◌, eqb, List, [], ◌∷◌, ◌++◌, length, Some}
use Rattle.std.proofs.Common.{None, refl, sym, ap, subst, ◌∙◌, append_assoc, inl, inr, arith}
use Rattle.std.specs.Prelude.{codes}
use Rattle.std.specs.List.{take_while, flat_map, IsDistinct}
use Rattle.std.specs.Str.{bytes_eq}
use Rattle.std.proofs.lemmas.List.Sums.{take_while-cons}
use Rattle.std.proofs.lemmas.Bool.{eqb-true}
use Rattle.ssd_text.specs.Grammar.{is_white, Attribute, attribute, firsts, Piece, comment, instruction, cdata, start}
use Rattle.ssd_text.specs.Grammar.{end, run, close, spelling, IsPiece, StopsThere, Begins}
use Rattle.ssd_text.specs.Nesting.{pairs}
use Rattle.ssd_text.specs.Reading.{◌>>=◌, past, after, up_to, name_at, attributes_at, close_at, all_differ, start_at}
use Rattle.ssd_text.specs.Reading.{end_at, run_at, inner, piece_at}
use Rattle.ssd_text.proofs.Fronts.{then_some, map_is_some, test_some, Stops, front_whole, front_passes}
use Rattle.ssd_text.proofs.Fronts.{past_stops, after_takes}
use Rattle.ssd_text.proofs.Attributes.{name_takes}
use Rattle.ssd_text.proofs.Sections.{up_to_takes}
use Rattle.ssd_text.proofs.Differ.{differ_to}
use Rattle.ssd_text.proofs.TagLemmas.{attributes_take, or_else, close_takes, firsts_pairs}

-- ---- tags and runs

pub start_regroup : (a b c d r : List ℕ) → (a ++ (b ++ (c ++ d))) ++ r ≡ a ++ (b ++ (c ++ (d ++ r)))
start_regroup a b c d r = simp append_assoc

start_whole : (text name r1 : List ℕ) (given : List Attribute) (r2 : List ℕ) (c : Bool) (r : List ℕ) →
    text ≡ name ++ r1 → r1 ≡ flat_map attribute given ++ r2 → past is_white r2 ≡ close c ++ r →
    60 ∷ text ≡ spelling (start name given (take_while is_white r2) c) ++ r
start_whole text name r1 given r2 c r e1 e2 e3 =
    let gap = take_while is_white r2 in
    let f2 : r2 ≡ gap ++ (close c ++ r) = front_whole is_white r2 ∙ ap (λ (z : List ℕ). gap ++ z) e3 in
    ap (λ (z : List ℕ). 60 ∷ z) (e1 ∙ ap (λ (z : List ℕ). name ++ z) (e2
    ∙ ap (λ (z : List ℕ). flat_map attribute given ++ z) f2) ∙ sym (start_regroup name (flat_map attribute given) gap
    (close c) r))

abbrev Is : List ℕ → Piece × List ℕ → Type 0
Is text x = (text ≡ spelling x.0 ++ x.1) × IsPiece x.0 × StopsThere x.0 x.1

pair_is : (x y : Piece × List ℕ) → Some x ≡ Some y → x ≡ y
pair_is x y e = cc

start_takes : (text : List ℕ) (x : Piece × List ℕ) → start_at text ≡ Some x → Is (60 ∷ text) x
unfolding start_at
start_takes text x e =
    let a = then_some (name_at text) (λ name. let given = attributes_at (length name.1) name.1 in
    close_at (past is_white given.1) >>= λ close. cond (all_differ (firsts (pairs given.0)))
    (Some (start name.0 given.0 (take_while is_white given.1) close.0, close.1)) None) x e in
    let name = a.0 in
    let given = attributes_at (length name.1) name.1 in
    let b = then_some (close_at (past is_white given.1)) (λ close. cond (all_differ (firsts (pairs given.0)))
    (Some (start name.0 given.0 (take_while is_white given.1) close.0, close.1)) None) x a.2 in
    let gap = take_while is_white given.1 in
    let t = test_some (all_differ (firsts (pairs given.0))) (start name.0 given.0 gap b.0.0, b.0.1) x b.2 in
    let n = name_takes text name a.1 in
    let m = attributes_take (length name.1) name.1 in
    let distinct = subst (IsDistinct bytes_eq) (firsts_pairs given.0) (differ_to (firsts (pairs given.0)) t.0) in
    let whole = start_whole text name.0 name.1 given.0 given.1 b.0.0 b.0.1 n.0 m.0
    (close_takes (past is_white given.1) b.0 b.1) in
    subst (Is (60 ∷ text)) t.1 (whole, (n.1, m.1, distinct, front_passes is_white given.1), tt)

end_takes : (text : List ℕ) (x : Piece × List ℕ) → end_at text ≡ Some x → Is (60 ∷ 47 ∷ text) x
unfolding end_at
end_takes text x e =
    let a = then_some (name_at text) (λ name. after (codes ">") (past is_white name.1) >>= λ rest. Some
    (end name.0 (take_while is_white name.1), rest)) x e in
    let name = a.0 in
    let b = then_some (after (codes ">") (past is_white name.1)) (λ rest. Some (
      end name.0 (take_while is_white name.1),
      rest,
    )) x a.2 in
    let n = name_takes text name a.1 in
    let gap = take_while is_white name.1 in
    let tail : name.1 ≡ gap ++ (62 ∷ b.0) = front_whole is_white name.1 ∙ ap (λ (z : List ℕ). gap ++ z)
    (after_takes (codes ">") (past is_white name.1) b.0 b.1) in
    let whole : 60 ∷ 47 ∷ text ≡ spelling (end name.0 gap) ++ b.0 = ap (λ (z : List ℕ). 60 ∷ 47 ∷ z) (n.0
    ∙ ap (λ (z : List ℕ). name.0 ++ z) tail ∙ simp append_assoc) in
    subst (Is (60 ∷ 47 ∷ text)) (pair_is (end name.0 gap, b.0) x b.2) (whole, (n.1, front_passes is_white name.1), tt)

abbrev pub not_lt : ℕ → Bool
not_lt b = not (b == 60)

run_stops_ends : (x r : List ℕ) → Stops not_lt r → StopsThere (run x) r
run_stops_ends x [] stops = tt
run_stops_ends x (b ∷ r) stops = eqb-true b 60 (not_false_is b stops)
  where
    not_false_is : (b : ℕ) → not (eqb b 60) ≡ false → eqb b 60 ≡ true
    not_false_is b e = not_is (eqb b 60) e
      where
        not_is : (t : Bool) → not t ≡ false → t ≡ true
        not_is true e = refl
        not_is false e = absurd cc

pub ends_run_stops : (x r : List ℕ) → StopsThere (run x) r → Stops not_lt r
ends_run_stops x [] ends = tt
ends_run_stops x (b ∷ r) ends = rw ends refl

run_front : (b : ℕ) (bs : List ℕ) → eqb b 60 ≡ false → 0 < length (take_while not_lt (b ∷ bs))
run_front b bs s =
    let e : take_while not_lt (b ∷ bs) ≡ b ∷ take_while not_lt bs = take_while-cons not_lt b bs ∙ rw s refl in
    rw e (omega arith)

run_case : (b : ℕ) (bs : List ℕ) (t : Bool) (x : Piece × List ℕ) → eqb b 60 ≡ t →
    cond t None (Some (run (take_while not_lt (b ∷ bs)), past not_lt (b ∷ bs))) ≡ Some x → Is (b ∷ bs) x
run_case b bs true x s e = absurd cc
run_case b bs false x s e =
    subst (Is (b ∷ bs)) (pair_is (run (take_while not_lt (b ∷ bs)), past not_lt (b ∷ bs)) x e) (
      front_whole not_lt (b ∷ bs),
      (run_front b bs s, front_passes not_lt (b ∷ bs)),
      run_stops_ends
          (take_while not_lt (b ∷ bs)) (past not_lt (b ∷ bs)) (past_stops not_lt (b ∷ bs)),
    )

run_takes : (text : List ℕ) (x : Piece × List ℕ) → run_at text ≡ Some x → Is text x
unfolding run_at
run_takes [] x e = absurd cc
run_takes (b ∷ bs) x e = run_case b bs (eqb b 60) x refl e

comment_takes : (text rest : List ℕ) (x : Piece × List ℕ) → after (codes "<!--") text ≡ Some rest →
    inner comment (codes "-->") rest ≡ Some x → Is text x
comment_takes text rest x a e =
    let m = map_is_some (λ (x : List ℕ × List ℕ). (comment x.0, x.1)) (up_to (codes "-->") rest) x e in
    let u = up_to_takes (codes "-->") rest m.0 m.1 in
    let whole : text ≡ spelling (comment m.0.0) ++ m.0.1 = after_takes (codes "<!--") text rest a
    ∙ ap (λ (z : List ℕ). codes "<!--" ++ z) (u.0 ∙ sym (append_assoc m.0.0 (codes "-->") m.0.1)) in
    subst (Is text) m.2 (whole, u.1, tt)

instruction_takes : (text rest : List ℕ) (x : Piece × List ℕ) → after (codes "<?") text ≡ Some rest →
    inner instruction (codes "?>") rest ≡ Some x → Is text x
instruction_takes text rest x a e =
    let m = map_is_some (λ (x : List ℕ × List ℕ). (instruction x.0, x.1)) (up_to (codes "?>") rest) x e in
    let u = up_to_takes (codes "?>") rest m.0 m.1 in
    let whole : text ≡ spelling (instruction m.0.0) ++ m.0.1 = after_takes (codes "<?") text rest a
    ∙ ap (λ (z : List ℕ). codes "<?" ++ z) (u.0 ∙ sym (append_assoc m.0.0 (codes "?>") m.0.1)) in
    subst (Is text) m.2 (whole, u.1, tt)

cdata_takes : (text rest : List ℕ) (x : Piece × List ℕ) → after (codes "<![CDATA[") text ≡ Some rest →
    inner cdata (codes "]]>") rest ≡ Some x → Is text x
cdata_takes text rest x a e =
    let m = map_is_some (λ (x : List ℕ × List ℕ). (cdata x.0, x.1)) (up_to (codes "]]>") rest) x e in
    let u = up_to_takes (codes "]]>") rest m.0 m.1 in
    let whole : text ≡ spelling (cdata m.0.0) ++ m.0.1 = after_takes (codes "<![CDATA[") text rest a
    ∙ ap (λ (z : List ℕ). codes "<![CDATA[" ++ z) (u.0 ∙ sym (append_assoc m.0.0 (codes "]]>") m.0.1)) in
    subst (Is text) m.2 (whole, u.1, tt)

-- What is read in front is a piece, and then the rest.
pub piece_takes : (text : List ℕ) (p : Piece) (r : List ℕ) → piece_at text ≡ Some (p, r) → Begins text p r
unfolding piece_at
piece_takes text p r e =
    let is : Is text (p, r) = elim (or_else (inner comment (codes "-->")) (after (codes "<!--") text) _ _ e) [
      | inl h ↦ comment_takes text h.0 (p, r) h.1 h.2
      | inr h ↦ elim (or_else (inner instruction (codes "?>")) (after (codes "<?") text) _ _ h.1) [
        | inl h ↦ instruction_takes text h.0 (p, r) h.1 h.2
        | inr h ↦ elim (or_else (inner cdata (codes "]]>")) (after (codes "<![CDATA[") text) _ _ h.1) [
          | inl h ↦ cdata_takes text h.0 (p, r) h.1 h.2
          | inr h ↦ elim (or_else end_at (after (codes "</") text) _ _ h.1) [
            | inl h ↦ subst (λ (z : List ℕ). Is z (p, r)) (sym (after_takes (codes "</") text h.0 h.1))
                (end_takes h.0 (p, r) h.2)
            | inr h ↦ elim (or_else start_at (after (codes "<") text) _ _ h.1) [
              | inl h ↦ subst (λ (z : List ℕ). Is z (p, r)) (sym (after_takes (codes "<") text h.0 h.1))
                  (start_takes h.0 (p, r) h.2)
              | inr h ↦ run_takes text (p, r) h.1
            ]
          ]
        ]
      ]
    ] in
    record { whole = is.0; good = is.1; ends = is.2 }
