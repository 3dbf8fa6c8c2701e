-- A piece with its rest is what is read in front.
use Rattle.std.proofs.Common.{◌≡◌, ℕ, Bool, true, false, cond, not, eqb, nat_eq, List, [], ◌∷◌, ◌++◌, Option, Some}
use Rattle.std.proofs.Common.{None, refl, sym, ap, subst, ◌∙◌, append_assoc, eq-eqb, arith}
use Rattle.std.specs.Prelude.{codes}
use Rattle.std.specs.List.{starts_with, list_all, take_while, flat_map, IsDistinct}
use Rattle.std.specs.Str.{bytes_eq}
use Rattle.std.proofs.lemmas.Bool.{eqb-true, false≢true}
use Rattle.ssd_text.specs.Grammar.{is_white, starts_name, in_name, is_name, Attribute, attribute}
use Rattle.ssd_text.specs.Grammar.{firsts, Piece, comment, instruction, cdata, start, end, run, close, spelling}
use Rattle.ssd_text.specs.Grammar.{IsPiece, StopsThere, Begins}
use Rattle.ssd_text.specs.Nesting.{pairs}
use Rattle.ssd_text.specs.Reading.{past, after, start_at, end_at, run_at, piece_at}
use Rattle.ssd_text.proofs.Fronts.{both_true, Stops, front_again, past_again, after_again}
use Rattle.ssd_text.proofs.Attributes.{name_again}
use Rattle.ssd_text.proofs.Sections.{up_to_again}
use Rattle.ssd_text.proofs.Differ.{differ_from}
use Rattle.ssd_text.proofs.TagLemmas.{attributes_again, close_again}
use Rattle.ssd_text.proofs.TagLemmas.{close_not_white, no_attribute, gap_close_stops, attributes_stop, firsts_pairs}
use Rattle.ssd_text.proofs.PieceTakes.{start_regroup, not_lt, ends_run_stops}

-- ---- tags and runs

start_again : (name : List ℕ) (given : List Attribute) (gap : List ℕ) (c : Bool) (r : List ℕ) →
    IsPiece (start name given gap c) → start_at (name ++ (flat_map attribute given ++ (gap ++ (close c ++ r)))) ≡ Some
    (start name given gap c, r)
unfolding start_at
start_again name given gap c r good =
    let n = name_again name (flat_map attribute given ++ (gap ++ (close c ++ r))) good.0
    (attributes_stop given gap c r good.1 good.3) in
    let m = attributes_again given (gap ++ (close c ++ r)) good.1 (no_attribute gap c r good.3) in
    let g = front_again is_white gap (close c ++ r) good.3 (close_not_white c r) in
    let pg = past_again is_white gap (close c ++ r) good.3 (close_not_white c r) in
    let d = differ_from (firsts (pairs given)) (subst (IsDistinct bytes_eq) (sym (firsts_pairs given)) good.2) in
    rw (n, m, pg, g, close_again c r, d) refl

gt_not_white : (r : List ℕ) → Stops is_white (62 ∷ r)
unfolding is_white
gt_not_white r = refl

end_again : (name gap r : List ℕ) → IsPiece (end name gap) → end_at (name ++ (gap ++ (62 ∷ r))) ≡ Some (end name gap, r)
unfolding end_at
end_again name gap r good =
    let n = name_again name (gap ++ (62 ∷ r)) good.0 (gap_close_stops gap false r good.1) in
    let g = front_again is_white gap (62 ∷ r) good.1 (gt_not_white r) in
    let pg = past_again is_white gap (62 ∷ r) good.1 (gt_not_white r) in
    rw (n, pg, after_again (62 ∷ []) r, g) refl

not_after : (mark text : List ℕ) → starts_with nat_eq text mark ≡ false → after mark text ≡ None
unfolding after
not_after mark text e = rw e refl

-- what begins a name begins no other piece
not_first : (k b : ℕ) → starts_name k ≡ false → starts_name b ≡ true → eqb k b ≡ false
not_first k b no_name named = by_test (eqb k b) refl
  where
    by_test : (t : Bool) → eqb k b ≡ t → eqb k b ≡ false
    by_test false e = e
    by_test true e = absurd (false≢true (sym no_name ∙ (ap starts_name (eqb-true k b e) ∙ named)))

bang_no_name : starts_name 33 ≡ false
unfolding starts_name
bang_no_name = refl

ask_no_name : starts_name 63 ≡ false
unfolding starts_name
ask_no_name = refl

slash_no_name : starts_name 47 ≡ false
unfolding starts_name
slash_no_name = refl

tag_other : (name rest : List ℕ) → is_name name ≡ true → (after (codes "<!--") (60 ∷ (name ++ rest)) ≡ None)
    × (after (codes "<?") (60 ∷ (name ++ rest)) ≡ None) × (after (codes "<![CDATA[") (60 ∷ (name ++ rest)) ≡ None)
    × (after (codes "</") (60 ∷ (name ++ rest)) ≡ None)
unfolding after
tag_other [] rest e = absurd cc
tag_other (b ∷ name) rest e =
    let s = (both_true (starts_name b) (list_all in_name name) e).0 in
    let bang = not_first 33 b bang_no_name s in
    let ask = not_first 63 b ask_no_name s in
    let slash = not_first 47 b slash_no_name s in
    (rw bang refl, rw ask refl, rw bang refl, rw slash refl)

run_other : (b : ℕ) (bs mark : List ℕ) → eqb b 60 ≡ false → after (60 ∷ mark) (b ∷ bs) ≡ None
unfolding after
run_other b bs mark e =
    let flipped : eqb 60 b ≡ false = flip_false b e in
    rw flipped refl
  where
    flip_false : (b : ℕ) → eqb b 60 ≡ false → eqb 60 b ≡ false
    flip_false b e = by_test (eqb 60 b) refl
      where
        by_test : (t : Bool) → eqb 60 b ≡ t → eqb 60 b ≡ false
        by_test false f = f
        by_test true f = absurd (false≢true (sym e ∙ eq-eqb b 60 (sym (eqb-true 60 b f))))

run_some : (b : ℕ) (bs : List ℕ) → eqb b 60 ≡ false →
    run_at (b ∷ bs) ≡ Some (run (take_while not_lt (b ∷ bs)), past not_lt (b ∷ bs))
unfolding run_at
run_some b bs e = or_none (eqb b 60) (Some (run (take_while not_lt (b ∷ bs)), past not_lt (b ∷ bs))) e
  where
    or_none : (t : Bool) (o : Option (Piece × List ℕ)) → t ≡ false → cond t None o ≡ o
    or_none true o e = absurd cc
    or_none false o e = refl

first_not_lt : (b : ℕ) (x : List ℕ) → list_all not_lt (b ∷ x) ≡ true → eqb b 60 ≡ false
first_not_lt b x e = not_true_is (eqb b 60) (both_true (not_lt b) (list_all not_lt x) e).0
  where
    not_true_is : (t : Bool) → not t ≡ true → t ≡ false
    not_true_is true e = absurd cc
    not_true_is false e = refl

piece_back : (p : Piece) (r : List ℕ) → IsPiece p → StopsThere p r → piece_at (spelling p ++ r) ≡ Some (p, r)
unfolding piece_at
piece_back (comment x) r good ends =
    let u = up_to_again 45 (45 ∷ 62 ∷ []) x r good in
    rw (after_again (codes "<!--") ((x ++ codes "-->") ++ r), append_assoc x (codes "-->") r, u) refl
piece_back (instruction x) r good ends =
    let u = up_to_again 63 (62 ∷ []) x r good in
    let rest : List ℕ = (x ++ codes "?>") ++ r in
    rw (
      not_after (codes "<!--") (60 ∷ 63 ∷ rest) refl,
      after_again (codes "<?") rest,
      append_assoc x
          (codes "?>") r,
      u,
    ) refl
piece_back (cdata x) r good ends =
    let u = up_to_again 93 (93 ∷ 62 ∷ []) x r good in
    let rest : List ℕ = (x ++ codes "]]>") ++ r in
    rw (
      not_after (codes "<!--") (codes "<![CDATA[" ++ rest) refl,
      not_after (codes "<?") (codes "<![CDATA[" ++ rest)
          refl,
      after_again (codes "<![CDATA[") rest,
      append_assoc x (codes "]]>") r,
      u,
    ) refl
piece_back (end name gap) r good ends =
    let rest : List ℕ = name ++ (gap ++ (62 ∷ r)) in
    let regrouped : spelling (end name gap) ++ r ≡ codes "</" ++ rest = simp append_assoc in
    ap piece_at regrouped ∙ rw (
      not_after (codes "<!--") (codes "</" ++ rest) refl,
      not_after (codes "<?")
          (codes "</" ++ rest) refl,
      not_after (codes "<![CDATA[") (codes "</" ++ rest) refl,
      after_again (codes "</") rest,
      end_again name gap r good,
    ) refl
piece_back (start name given gap c) r good ends =
    let rest : List ℕ = flat_map attribute given ++ (gap ++ (close c ++ r)) in
    let regrouped : spelling (start name given gap c) ++ r ≡ 60 ∷ (name ++ rest) =
    ap (λ (z : List ℕ). 60 ∷ z) (start_regroup name (flat_map attribute given) gap (close c) r) in
    let o = tag_other name rest good.0 in
    ap piece_at regrouped ∙ rw (
      o.0,
      o.1,
      o.2,
      o.3,
      after_again (codes "<") (name ++ rest),
      start_again name given gap c
          r good,
    ) refl
piece_back (run []) r good ends = absurd (omega (arith, good.0))
piece_back (run (b ∷ x)) r good ends =
    let e = first_not_lt b x good.1 in
    let stops = ends_run_stops (b ∷ x) r ends in
    let f = front_again not_lt (b ∷ x) r good.1 stops in
    let p = past_again not_lt (b ∷ x) r good.1 stops in
    rw (
      run_other b (x ++ r) (33 ∷ 45 ∷ 45 ∷ []) e,
      run_other b (x ++ r) (63 ∷ []) e,
      run_other b (x ++ r)
          (33 ∷ 91 ∷ 67 ∷ 68 ∷ 65 ∷ 84 ∷ 65 ∷ 91 ∷ []) e,
      run_other b (x ++ r) (47 ∷ []) e,
      run_other b (x ++ r) [] e,
      run_some b (x ++ r) e,
    ) (ap (λ (z : List ℕ). Some (run z, past not_lt (b ∷ (x ++ r)))) f
    ∙ ap (λ (z : List ℕ). Some (run (b ∷ x), z)) p)

-- A piece with its rest is what is read in front.
pub piece_again : (text : List ℕ) (p : Piece) (r : List ℕ) → Begins text p r → piece_at text ≡ Some (p, r)
piece_again text p r b = ap piece_at b.whole ∙ piece_back p r b.good b.ends
