-- The part of an item is the last that stands before it.
use Rattle.std.proofs.Common.{◌≡◌, ℕ, ◌≤◌, ◌<◌, ◌+◌, ◌-◌, List, [], ◌∷◌, length, take, Option, Some, None, Bool, true, false}
use Rattle.std.proofs.Common.{◌||◌, ◌&&◌, ◌==◌, not, cond, refl, arith, zero, suc, ap, ◌∙◌, sym, subst}
use Rattle.std.specs.List.{filter}
use borrow.Author.Tests.{eqb-true}
use Rattle.std.proofs.lemmas.Bool.{eqb-false}
use Rattle.ssd_text.specs.Nesting.{Entry, entry_at, IsInOrder}
use Rattle.ssd_read.specs.declared.role.Role.{Role}
use Rattle.ssd_read.specs.declared.role.Role.TheVariants.{Root, Substation, VoltageLevel, Bay, ConnectivityNode}
use Rattle.ssd_read.specs.declared.role.Role.TheVariants.{ConductingEquipment, PowerTransformer, TransformerWinding}
use Rattle.ssd_read.specs.declared.role.Role.TheVariants.{Terminal, Skipped}
use Rattle.ssd_read.specs.Elements.{Element, element_at, elements_of, same_role, front_of_tree}
use Rattle.ssd_read.specs.Steps.{is_part, part_number, part_of}
use Rattle.ssd_read.specs.Laws.{StandsIn}
use Rattle.ssd_read.proofs.Drawn.{MayStandIn, IsInner, IsBayOrInner, all_inner, or_inner, some_and, parent_of, stands_in}
use Rattle.ssd_read.proofs.Drawn.{stands_alone, may_stand, drawn_len, drawn_entry}
use Rattle.ssd_read.proofs.Numbered.{InBay, in_bay, bay_is_part, own_part, outer_part, not_own, is_bay}
use Rattle.ssd_read.proofs.Numbered.{root_is_no_transformer}

-- ---- counting parts

abbrev pub one_if : Bool → ℕ
one_if true = 1
one_if false = 0

count_case : (b : Bool) (x : Element) (xs : List Element) → length (cond b (x ∷ xs) xs) ≡ length xs + one_if b
count_case true x xs = omega arith
count_case false x xs = omega arith

number_step : (all : List Element) (i : ℕ) → i < length all →
    part_number all (suc i) ≡ part_number all i + one_if (is_part (element_at all i))
number_step [] i h = absurd (omega arith)
number_step (x ∷ xs) zero h = count_case (is_part x) x []
number_step (x ∷ xs) (suc i) h =
    let rest : part_number xs (suc i) ≡ part_number xs i + one_if (is_part (element_at xs i)) =
    number_step xs i (omega arith) in
    let here : part_number (x ∷ xs) (suc (suc i)) ≡ part_number xs (suc i) + one_if (is_part x) =
    count_case (is_part x) x (filter is_part (take (suc i) xs)) in
    let there : part_number (x ∷ xs) (suc i) ≡ part_number xs i + one_if (is_part x) =
    count_case (is_part x) x (filter is_part (take i xs)) in
    omega (arith, rest, here, there)

pub next_number : (all : List Element) (i : ℕ) → i < length all →
    part_number all (i + 1) ≡ part_number all i + one_if (is_part (element_at all i))
next_number all i h =
    let e : i + 1 ≡ suc i = omega arith in
    ap (part_number all) e ∙ number_step all i h

between : (all : List Element) (n i : ℕ) → i + n ≤ length all →
    ((k : ℕ) → i ≤ k → k < i + n → is_part (element_at all k) ≡ false) → part_number all (i + n) ≡ part_number all i
between all zero i h none = let e : i + 0 ≡ i = omega arith in ap (part_number all) e
between all (suc n) i h none =
    let e : i + suc n ≡ suc (i + n) = omega arith in
    let last : is_part (element_at all (i + n)) ≡ false = none (i + n) (omega arith) (omega arith) in
    let step : part_number all (suc (i + n)) ≡ part_number all (i + n) + one_if (is_part (element_at all (i + n))) =
    number_step all (i + n) (omega arith) in
    let same : part_number all (i + n) + one_if (is_part (element_at all (i + n))) ≡ part_number all (i + n) =
    ap (λ (b : Bool). part_number all (i + n) + one_if b) last ∙ omega arith in
    ap (part_number all) e
    ∙ (step ∙ (same ∙ between all n i (omega arith) (λ k l m. none k l (omega arith))))

-- ---- no part stands in a bay

inner_no_part : (r w : Role) → IsInner r → IsBayOrInner w → MayStandIn w r →
    (same_role r Bay || (same_role r PowerTransformer && not (same_role w Bay))) ≡ false
inner_no_part Root w i b m = absurd i
inner_no_part Substation w i b m = absurd i
inner_no_part VoltageLevel w i b m = absurd i
inner_no_part Bay w i b m = absurd i
inner_no_part ConnectivityNode w i b m = refl
inner_no_part ConductingEquipment w i b m = refl
inner_no_part PowerTransformer Root i b m = absurd m
inner_no_part PowerTransformer Substation i b m = absurd b
inner_no_part PowerTransformer VoltageLevel i b m = absurd b
inner_no_part PowerTransformer Bay i b m = refl
inner_no_part PowerTransformer ConnectivityNode i b m = absurd m
inner_no_part PowerTransformer ConductingEquipment i b m = absurd m
inner_no_part PowerTransformer PowerTransformer i b m = absurd m
inner_no_part PowerTransformer TransformerWinding i b m = absurd m
inner_no_part PowerTransformer Terminal i b m = absurd m
inner_no_part PowerTransformer Skipped i b m = absurd m
inner_no_part TransformerWinding w i b m = refl
inner_no_part Terminal w i b m = refl
inner_no_part Skipped w i b m = refl

module _ (tree : List Entry) (o : IsInOrder tree) where
  -- the bay itself, or an element between it and one that stands in it
  bay_or_inner : (j p q : ℕ) → j < length tree → (entry_at tree j).parent ≡ Some p → (element_at (elements_of tree) p).role ≡ Bay →
      p ≤ q → q < j → (t : Bool) → (p == q) ≡ t → IsBayOrInner (element_at (elements_of tree) q).role
  bay_or_inner j p q h e b l m true t =
      let same : p ≡ q = eqb-true p q t in
      subst (λ k. IsBayOrInner (element_at (elements_of tree) k).role) same (subst IsBayOrInner (sym b) tt)
  bay_or_inner j p q h e b l m false t =
      let apart : p ≡ q → ⊥ = eqb-false p q t in
      or_inner (element_at (elements_of tree) q).role (all_inner tree j p q q o h e b (omega arith) (omega arith) m)

  no_part_inside : (j p k : ℕ) → j < length tree → (entry_at tree j).parent ≡ Some p →
      (element_at (elements_of tree) p).role ≡ Bay → p < k → k < j → is_part (element_at (elements_of tree) k) ≡ false
  no_part_inside j p k h e b l m =
      let k_in : k < length tree = omega arith in
      let up = some_and (entry_at tree k).parent p ((o j p e).1 k l m) in
      let s : StandsIn (elements_of tree) k up.0 (front_of_tree tree) =
      stands_in tree k up.0 o k_in (parent_of tree k (Some up.0) k_in up.1) in
      let less : up.0 < k = s.before in
      let x : Element = element_at (elements_of tree) k in
      let y : Element = element_at (elements_of tree) up.0 in
      let inner : IsInner x.role = all_inner tree j p k k o h e b (omega arith) l m in
      let outer : IsBayOrInner y.role = bay_or_inner j p up.0 h e b up.2 (omega arith) (p == up.0) refl in
      let may : MayStandIn y.role x.role = subst (MayStandIn y.role) (sym s.role)
      (may_stand y.role (front_of_tree tree) x.entry) in
      ap (λ (w : Role). same_role x.role Bay || (same_role x.role PowerTransformer && not (same_role w Bay))) s.within
      ∙ inner_no_part x.role y.role inner outer may

  -- what stands in a bay comes after it, and no other part in between
  in_last : (i p : ℕ) → i < length tree → (entry_at tree i).parent ≡ Some p → (element_at (elements_of tree) p).role ≡ Bay →
      is_part (element_at (elements_of tree) i) ≡ false →
      part_number (elements_of tree) (i + 1) ≡ part_number (elements_of tree) p + 1
  in_last i p h e b none =
      let before : p < i = (o i p e).0 in
      let count = drawn_len tree in
      let n : ℕ = i - (p + 1) in
      let place : p + 1 + n ≡ i = omega arith in
      let here : part_number (elements_of tree) (i + 1)
      ≡ part_number (elements_of tree) i + one_if (is_part (element_at (elements_of tree) i)) =
      next_number (elements_of tree) i (omega (arith, count)) in
      let own : one_if (is_part (element_at (elements_of tree) i)) ≡ 0 = ap one_if none in
      let since : part_number (elements_of tree) (p + 1 + n) ≡ part_number (elements_of tree) (p + 1) =
      between (elements_of tree) n (p + 1) (omega (arith, count)) (λ k l m. no_part_inside i p k h e b (omega arith) (omega arith)) in
      let there : part_number (elements_of tree) (p + 1)
      ≡ part_number (elements_of tree) p + one_if (is_part (element_at (elements_of tree) p)) =
      next_number (elements_of tree) p (omega (arith, count)) in
      let one : one_if (is_part (element_at (elements_of tree) p)) ≡ 1 =
      ap one_if (bay_is_part (element_at (elements_of tree) p) b) in
      let same : part_number (elements_of tree) (p + 1 + n) ≡ part_number (elements_of tree) i =
      ap (part_number (elements_of tree)) place in
      omega (arith, here, own, since, there, one, same)

  no_equipment_part : (x : Element) → x.role ≡ ConductingEquipment → is_part x ≡ false
  no_equipment_part x r = rw r refl

  pub equipment_last : (i : ℕ) → i < length tree → (element_at (elements_of tree) i).role ≡ ConductingEquipment →
      part_number (elements_of tree) (i + 1) - 1 ≡ part_of (elements_of tree) i (element_at (elements_of tree) i)
  equipment_last i h r =
      let bay = in_bay tree i o h r in
      let x : InBay (elements_of tree) i bay.0 = bay.1 in
      let e : (entry_at tree i).parent ≡ Some bay.0 =
      sym (ap (λ (y : Entry). y.parent) (drawn_entry tree i h)) ∙ x.parent in
      let last : part_number (elements_of tree) (i + 1) ≡ part_number (elements_of tree) bay.0 + 1 =
      in_last i bay.0 h e x.bay (no_equipment_part (element_at (elements_of tree) i) r) in
      let of = x.part in
      omega (arith, last, of)

  transformer_case : (i : ℕ) (b : Bool) (q : Option ℕ) → i < length tree →
      (element_at (elements_of tree) i).role ≡ PowerTransformer → is_part (element_at (elements_of tree) i) ≡ b →
      (element_at (elements_of tree) i).entry.parent ≡ q →
      part_number (elements_of tree) (i + 1) - 1 ≡ part_of (elements_of tree) i (element_at (elements_of tree) i)
  transformer_case i true q h r t e =
      let own : part_of (elements_of tree) i (element_at (elements_of tree) i) ≡ part_number (elements_of tree) i =
      own_part (elements_of tree) i (element_at (elements_of tree) i) t in
      let count = drawn_len tree in
      let here : part_number (elements_of tree) (i + 1)
      ≡ part_number (elements_of tree) i + one_if (is_part (element_at (elements_of tree) i)) =
      next_number (elements_of tree) i (omega (arith, count)) in
      let one : one_if (is_part (element_at (elements_of tree) i)) ≡ 1 = ap one_if t in
      omega (arith, own, here, one)
  transformer_case i false None h r t e =
      absurd (root_is_no_transformer (element_at (elements_of tree) i).role (stands_alone tree i h e) r)
  transformer_case i false (Some p) h r t e =
      let x : Element = element_at (elements_of tree) i in
      let s : StandsIn (elements_of tree) i p (front_of_tree tree) = stands_in tree i p o h e in
      let bay : x.within ≡ Bay = is_bay x.within (not_own x (same_role x.within Bay) r t refl) in
      let outer : (element_at (elements_of tree) p).role ≡ Bay = sym s.within ∙ bay in
      let up : (entry_at tree i).parent ≡ Some p = sym (ap (λ (y : Entry). y.parent) (drawn_entry tree i h)) ∙ e in
      let last : part_number (elements_of tree) (i + 1) ≡ part_number (elements_of tree) p + 1 =
      in_last i p h up outer t in
      let of : part_of (elements_of tree) i x ≡ part_number (elements_of tree) p = outer_part (elements_of tree) i p x t e in
      omega (arith, last, of)

  pub transformer_last : (i : ℕ) → i < length tree → (element_at (elements_of tree) i).role ≡ PowerTransformer →
      part_number (elements_of tree) (i + 1) - 1 ≡ part_of (elements_of tree) i (element_at (elements_of tree) i)
  transformer_last i h r =
      transformer_case i (is_part (element_at (elements_of tree) i)) (element_at (elements_of tree) i).entry.parent h r
      refl refl
