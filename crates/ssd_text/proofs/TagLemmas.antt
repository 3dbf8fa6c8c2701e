-- The attributes of a tag, one after another, and its end.
use Rattle.std.proofs.Common.{◌≡◌, ℕ, zero, suc, ◌<◌, Bool, true, false, List, [], ◌∷◌, ◌++◌, length, Option, Some}
use Rattle.std.proofs.Common.{None, refl, sym, ap, subst, ◌∙◌, append_assoc, inl, inr, ◌⊎◌, arith}
use Rattle.std.specs.Prelude.{codes}
use Rattle.std.specs.Option.{option_map, option_map_or}
use Rattle.std.specs.List.{list_all, flat_map, AllByRecursion}
use Rattle.std.proofs.lemmas.List.Concat.{flat_map-cons}
use Rattle.ssd_text.specs.Grammar.{is_white, starts_name, in_name, IsWhite, Attribute, attribute, IsAttribute}
use Rattle.ssd_text.specs.Grammar.{firsts, names, close}
use Rattle.ssd_text.specs.Nesting.{pairs}
use Rattle.ssd_text.specs.Reading.{after, name_at, gap_at, attribute_at, attributes_at, close_at}
use Rattle.ssd_text.proofs.Fronts.{map_is_some, both_true, Stops, after_takes}
use Rattle.ssd_text.proofs.Attributes.{gap_again, white_not_in_name, attribute_takes, attribute_again, white_stops_name}
use Rattle.ssd_text.proofs.Many.{all_at, all_some, all_none}

-- ---- attributes, one after another

attributes_case : (n : ℕ) (text : List ℕ) (o : Option (Attribute × List ℕ)) → attribute_at text ≡ o
    → ((r : List ℕ) → (r ≡ flat_map attribute (attributes_at n r).0 ++ (attributes_at n r).1)
    × AllByRecursion IsAttribute (attributes_at n r).0)
    → let given = attributes_at (suc n) text in (text ≡ flat_map attribute given.0 ++ given.1)
    × AllByRecursion IsAttribute given.0
unfolding attributes_at
attributes_case n text None e rest = rw e (refl, tt)
attributes_case n text (Some x) e rest =
    let t = attribute_takes text x e in
    let r = rest x.1 in
    let more = attributes_at n x.1 in
    let whole : text ≡ flat_map attribute (x.0 ∷ more.0) ++ more.1 = t.0 ∙ ap (λ (z : List ℕ). attribute x.0 ++ z) r.0
    ∙ sym (append_assoc (attribute x.0) (flat_map attribute more.0) more.1) ∙ ap (λ (z : List ℕ). z ++ more.1)
    (sym (flat_map-cons attribute x.0 more.0)) in
    rw e (whole, (t.1, r.1))

pub attributes_take : (n : ℕ) (text : List ℕ) → let given = attributes_at n text in
    (text ≡ flat_map attribute given.0 ++ given.1) × AllByRecursion IsAttribute given.0
unfolding attributes_at
attributes_take zero text = (refl, tt)
attributes_take (suc n) text = attributes_case n text (attribute_at text) refl (λ r. attributes_take n r)

pub attributes_again : (given : List Attribute) (r : List ℕ) → AllByRecursion IsAttribute given →
    attribute_at r ≡ None → all_at (flat_map attribute given ++ r) ≡ (given, r)
attributes_again [] r good none = all_none r none
attributes_again (a ∷ given) r good none =
    let regrouped : flat_map attribute (a ∷ given) ++ r ≡ attribute a ++ (flat_map attribute given ++ r) =
    ap (λ (z : List ℕ). z ++ r) (flat_map-cons attribute a given) ∙ append_assoc (attribute a)
    (flat_map attribute given) r in
    ap all_at regrouped ∙ (all_some (attribute a ++ (flat_map attribute given ++ r)) a (flat_map attribute given ++ r)
    (attribute_again a (flat_map attribute given ++ r) good.0) ∙ ap (λ (x : List Attribute × List ℕ). (a ∷ x.0, x.1))
    (attributes_again given r good.1 none))

-- ---- the end of a start tag

pub or_else : {A B : Type 0} (f : A → B) (o : Option A) (d y : B) → option_map_or f o d ≡ y →
    ((r : A) × (o ≡ Some r) × (f r ≡ y)) ⊎ ((o ≡ None) × (d ≡ y))
or_else f (Some r) d y e = inl (r, refl, e)
or_else f None d y e = inr (refl, e)

pub close_takes : (text : List ℕ) (x : Bool × List ℕ) → close_at text ≡ Some x → text ≡ close x.0 ++ x.1
unfolding close_at
close_takes text x e =
    elim (or_else (λ rest. Some (true, rest)) (after (codes "/>") text) (option_map (λ rest. (false, rest))
    (after (codes ">") text)) (Some x) e) [
      | inl h ↦
          let same : (true, h.0) ≡ x = cc (h.2) in
          subst (λ (y : Bool × List ℕ). text ≡ close y.0 ++ y.1) same (after_takes (codes "/>") text h.0 h.1)
      | inr h ↦
          let m = map_is_some (λ rest. (false, rest)) (after (codes ">") text) x h.1 in
          subst (λ (y : Bool × List ℕ). text ≡ close y.0 ++ y.1) m.2 (after_takes (codes ">") text m.0 m.1)
    ]

pub close_again : (c : Bool) (r : List ℕ) → close_at (close c ++ r) ≡ Some (c, r)
unfolding close_at after
close_again true r = refl
close_again false r = refl

-- what ends a tag is neither white space nor of a name, and begins no attribute
pub close_not_white : (c : Bool) (r : List ℕ) → Stops is_white (close c ++ r)
unfolding is_white
close_not_white true r = refl
close_not_white false r = refl

close_not_name : (c : Bool) (r : List ℕ) → Stops in_name (close c ++ r)
unfolding in_name starts_name
close_not_name true r = refl
close_not_name false r = refl

close_no_name : (c : Bool) (r : List ℕ) → name_at (close c ++ r) ≡ None
unfolding name_at starts_name
close_no_name true r = refl
close_no_name false r = refl

close_no_gap : (c : Bool) (r : List ℕ) → gap_at (close c ++ r) ≡ None
unfolding gap_at is_white
close_no_gap true r = refl
close_no_gap false r = refl

pub no_attribute : (gap : List ℕ) (c : Bool) (r : List ℕ) → IsWhite gap → attribute_at (gap ++ (close c ++ r)) ≡ None
unfolding attribute_at
no_attribute [] c r white = rw (close_no_gap c r) refl
no_attribute (b ∷ gap) c r white = rw (
  gap_again (b ∷ gap) (close c ++ r) white (omega arith) (close_not_white c r),
  close_no_name c r,
) refl

pub gap_close_stops : (gap : List ℕ) (c : Bool) (r : List ℕ) → IsWhite gap → Stops in_name (gap ++ (close c ++ r))
gap_close_stops [] c r white = close_not_name c r
gap_close_stops (b ∷ gap) true r white = white_stops_name (b ∷ gap) 47 (62 ∷ r) white (close_not_name true r)
gap_close_stops (b ∷ gap) false r white = white_stops_name (b ∷ gap) 62 r white (close_not_name false r)

white_first : (g r : List ℕ) → IsWhite g → 0 < length g → Stops in_name (g ++ r)
white_first [] r white some = absurd (omega arith)
white_first (b ∷ g) r white some = white_not_in_name b (both_true (is_white b) (list_all is_white g) white).0

pub attributes_stop : (given : List Attribute) (gap : List ℕ) (c : Bool) (r : List ℕ) →
    AllByRecursion IsAttribute given → IsWhite gap → Stops in_name (flat_map attribute given ++ (gap ++ (close c ++ r)))
attributes_stop [] gap c r good white = gap_close_stops gap c r white
attributes_stop (a ∷ given) gap c r good white =
    let rest : List ℕ = a.name ++ (a.left ++ (61 ∷ (a.right ++ (a.quote ∷ (a.raw ++ (a.quote ∷ [])))))) in
    let regrouped : flat_map attribute (a ∷ given) ++ (gap ++ (close c ++ r))
    ≡ a.gap ++ (rest ++ (flat_map attribute given ++ (gap ++ (close c ++ r)))) =
    ap (λ (z : List ℕ). z ++ (gap ++ (close c ++ r))) (flat_map-cons attribute a given) ∙ append_assoc (attribute a)
    (flat_map attribute given) (gap ++ (close c ++ r))
    ∙ append_assoc a.gap rest (flat_map attribute given ++ (gap ++ (close c ++ r))) in
    subst (Stops in_name) (sym regrouped)
    (white_first a.gap (rest ++ (flat_map attribute given ++ (gap ++ (close c ++ r)))) good.0.gap good.0.some_gap)

pub firsts_pairs : (given : List Attribute) → firsts (pairs given) ≡ names given
firsts_pairs [] = refl
firsts_pairs (a ∷ given) = ap (λ (ns : List (List ℕ)). a.name ∷ ns) (firsts_pairs given)
