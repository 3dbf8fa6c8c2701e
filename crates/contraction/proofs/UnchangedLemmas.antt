-- Two values together are the first of them exactly where the second says nothing that the first does not say.
use Rattle.std.proofs.Common.{◌≡◌, ℕ, ◌<◌, ◌⊎◌, Bool, true, false, List, [], ◌∷◌, length, slice_get, slice_index}
use Rattle.std.proofs.Common.{Some, refl, sym, ◌∙◌, ap, subst, inl, inr, arith}
use Rattle.std.proofs.lemmas.Option.{slice_get_within, slice_get-get_or, get_or_from_slice_get}
use Rattle.station_graph.specs.Connection.{Linked, LeadsTo}
use Rattle.station_graph.proofs.LinkedLemmas.{linked_self, linked_one}
use Rattle.contraction.specs.Answers.{IsAt, Keeps, SameAt, MarkedAt, AreLabels}
use Rattle.contraction.specs.Composing.{SameInEither, LabelsCompose, MarksCompose}
use Rattle.contraction.specs.Merging.{IsMerged}
use Rattle.contraction.specs.Unchanged.{JoinsNone, MarksNone, AreOfClasses}
use Rattle.contraction.proofs.ComposeLemmas.{keeps_first, keeps_second, keeps_marked}
use Rattle.contraction.proofs.ValueLemmas.{one_place, is_at}

-- an entry is marked as another where each tells the other
bit_same : (xs : List Bool) (i j : ℕ) (a b : Bool) → slice_get xs i ≡ Some a → slice_get xs j ≡ Some b →
    (slice_get xs i ≡ Some true → slice_get xs j ≡ Some true) →
    (slice_get xs j ≡ Some true → slice_get xs i ≡ Some true) → slice_get xs i ≡ slice_get xs j
bit_same xs i j true b ei ej to from = ei ∙ sym (to ei)
bit_same xs i j false true ei ej to from = from ej ∙ sym ej
bit_same xs i j false false ei ej to from = ei ∙ sym ej

-- an entry and the first of its class have one label
class_same : (kept labels : List ℕ) → AreLabels (length kept) labels → (k : ℕ) → k < length kept →
    SameAt kept labels (slice_index kept k) (slice_index kept (slice_index labels k))
class_same kept labels h k k_in = record {
  first = k;
  second = slice_index labels k;
  at_first = is_at kept k (slice_index kept k) k_in refl;
  at_second =
      is_at kept (slice_index labels k) (slice_index kept (slice_index labels k))
      (omega (arith, h.below k k_in)) refl;
  same = sym (h.steady k k_in);
}

-- The nodes of the second list stand at the places q of the first.
module _ (kx ky p q : List ℕ) (m : IsMerged kx ky kx p q) (lx ly : List ℕ) (labels_x : AreLabels (length kx) lx)
    (labels_y : AreLabels (length ky) ly) where
  at_place : (k n : ℕ) → IsAt ky k n → IsAt kx (slice_index q k) n
  at_place k n at =
      let k_in = slice_get_within ky k n at in
      is_at kx (slice_index q k) n (m.second_inside k k_in) (m.second_stands k k_in ∙ get_or_from_slice_get ky k n 0 at)

  -- ---- labels

  said : JoinsNone lx ly q → (a b : ℕ) → SameAt ky ly a b → SameAt kx lx a b
  said h a b s =
      let i_in : s.first < length q = omega (arith, slice_get_within ky s.first a s.at_first, m.second_len) in
      let j_in : s.second < length q = omega (arith, slice_get_within ky s.second b s.at_second, m.second_len) in
      record {
        first = slice_index q s.first;
        second = slice_index q s.second;
        at_first = at_place s.first a s.at_first;
        at_second = at_place s.second b s.at_second;
        same =
            h s.first i_in ∙ ap (λ l. slice_index lx (slice_index q l)) s.same ∙ sym (h s.second j_in);
      }

  then : (a b c : ℕ) → SameAt kx lx a b → SameAt kx lx b c → SameAt kx lx a c
  then a b c s t = record {
    first = s.first;
    second = t.second;
    at_first = s.at_first;
    at_second = t.at_second;
    same =
        s.same
        ∙ ap (slice_index lx) (one_place kx m.rises s.second t.first b s.at_second t.at_first)
        ∙ t.same;
  }

  self_same : (a b : ℕ) → Keeps kx a → a ≡ b → SameAt kx lx a b
  self_same a b k e = record {
    first = k.place;
    second = k.place;
    at_first = k.at;
    at_second = subst (λ n. IsAt kx k.place n) e k.at;
    same = refl;
  }

  abbrev Same : ℕ → ℕ → Type 0
  Same = SameInEither kx lx ky ly

  module _ (h : JoinsNone lx ly q) where
    either_said : (a b : ℕ) → Same a b → SameAt kx lx a b
    either_said a b (inl s) = s
    either_said a b (inr s) = said h a b s

    leads_said : (a b : ℕ) (xs : List ℕ) → Keeps kx a → LeadsTo Same a xs b → SameAt kx lx a b
    leads_said a b [] k e = self_same a b k e
    leads_said a b (x ∷ xs) k l =
        let s = either_said a x l.0 in
        then a x b s (leads_said x b xs (keeps_second kx lx a x s) l.1)

    linked_said : (a b : ℕ) → Keeps kx a → Linked Same a b → SameAt kx lx a b
    linked_said a b k l = leads_said a b l.after k l.leads

    pub labels_stay : LabelsCompose kx lx ky ly kx lx
    labels_stay a b ka kb = (λ s. linked_one Same a b (inl s), linked_said a b ka)

    -- ---- marks

    module _ (mx my : List Bool) (steady : AreOfClasses lx mx) (marked : MarksNone mx my q) where
      mark_said : (a : ℕ) → MarkedAt ky my a → MarkedAt kx mx a
      mark_said a s = record {
        place = slice_index q s.place;
        at = at_place s.place a s.at;
        marked = marked s.place (omega (arith, slice_get_within ky s.place a s.at, m.second_len)) s.marked;
      }

      either_marked : (a : ℕ) → MarkedAt kx mx a ⊎ MarkedAt ky my a → MarkedAt kx mx a
      either_marked a (inl s) = s
      either_marked a (inr s) = mark_said a s

      over_class : (a b : ℕ) → SameAt kx lx a b → MarkedAt kx mx b → MarkedAt kx mx a
      over_class a b s t =
          let i_in : s.first < length lx = omega (arith, slice_get_within kx s.first a s.at_first, labels_x.len) in
          let j_in : s.second < length lx = omega (arith, slice_get_within kx s.second b s.at_second, labels_x.len) in
          record {
            place = s.first;
            at = s.at_first;
            marked =
                steady s.first i_in
                ∙ ap (slice_get mx) s.same
                ∙ sym (steady s.second j_in)
                ∙ ap (slice_get mx) (one_place kx m.rises s.second t.place b s.at_second t.at)
                ∙ t.marked;
          }

      pub marks_stay : MarksCompose kx lx mx ky ly my kx mx
      marks_stay a ka = (
        λ s. (a, linked_self Same a, inl s),
        λ (n, l, s). over_class a n (linked_said a n ka l) (either_marked n s),
      )

  -- ---- what stays says so

  keeps_x : (n : ℕ) → Keeps ky n → Keeps kx n
  keeps_x n k = record { place = slice_index q k.place; at = at_place k.place n k.at }

  module _ (h : LabelsCompose kx lx ky ly kx lx) where
    pub joins_none : JoinsNone lx ly q
    joins_none k k_in =
        let k_y : k < length ky = omega (arith, m.second_len) in
        let l : ℕ = slice_index ly k in
        let l_y : l < length ky = omega (arith, labels_y.below k k_y) in
        let s : SameAt ky ly (slice_index ky k) (slice_index ky l) = class_same ky ly labels_y k k_y in
        let a : ℕ = slice_index ky k in
        let b : ℕ = slice_index ky l in
        let t : SameAt kx lx a b =
        (h a b (keeps_x a (keeps_first ky ly a b s)) (keeps_x b (keeps_second ky ly a b s))).1
        (linked_one Same a b (inr s)) in
        ap (slice_index lx) (one_place kx m.rises (slice_index q k) t.first a (at_place k a (is_at ky k a k_y refl))
        t.at_first)
        ∙ t.same
        ∙ ap (slice_index lx) (one_place kx m.rises t.second (slice_index q l) b t.at_second
        (at_place l b (is_at ky l b l_y refl)))

  module _ (mx my : List Bool) (h : MarksCompose kx lx mx ky ly my kx mx) where
    pub marks_none : MarksNone mx my q
    marks_none k k_in e =
        let k_y : k < length ky = omega (arith, m.second_len) in
        let a : ℕ = slice_index ky k in
        let at : IsAt ky k a = is_at ky k a k_y refl in
        let s : MarkedAt ky my a = record { place = k; at = at; marked = e } in
        let t : MarkedAt kx mx a = (h a (keeps_x a (keeps_marked ky my a s))).1 (a, linked_self Same a, inr s) in
        ap (slice_get mx) (one_place kx m.rises (slice_index q k) t.place a (at_place k a at) t.at) ∙ t.marked

    class_marked : (a b i j : ℕ) → SameAt kx lx a b → IsAt kx i a → IsAt kx j b → slice_get mx j ≡ Some true →
        slice_get mx i ≡ Some true
    class_marked a b i j s at_a at_b e =
        let t : MarkedAt kx mx a =
        (h a (keeps_first kx lx a b s)).1
        (b, linked_one Same a b (inl s), inl (record { place = j; at = at_b; marked = e })) in
        ap (slice_get mx) (one_place kx m.rises i t.place a at_a t.at) ∙ t.marked

    pub of_classes : length mx ≡ length kx → AreOfClasses lx mx
    of_classes len k k_in =
        let k_x : k < length kx = omega (arith, labels_x.len) in
        let l : ℕ = slice_index lx k in
        let l_x : l < length kx = omega (arith, labels_x.below k k_x) in
        let a : ℕ = slice_index kx k in
        let b : ℕ = slice_index kx l in
        let s : SameAt kx lx a b = class_same kx lx labels_x k k_x in
        let back : SameAt kx lx b a = record {
          first = s.second;
          second = s.first;
          at_first = s.at_second;
          at_second = s.at_first;
          same = sym s.same;
        } in
        let at_a : IsAt kx k a = is_at kx k a k_x refl in
        let at_b : IsAt kx l b = is_at kx l b l_x refl in
        bit_same mx k l _ _ (slice_get-get_or mx k false (omega (arith, len)))
        (slice_get-get_or mx l false (omega (arith, len))) (class_marked b a l k back at_b at_a)
        (class_marked a b k l s at_a at_b)
