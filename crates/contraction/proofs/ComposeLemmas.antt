-- A value that composes two others stands for the items of both.
use Rattle.std.proofs.Common.{◌≡◌, ◌≢◌, ℕ, ◌⊎◌, ◌↔◌, Bool, true, false, List, refl, inl, inr}
use Rattle.station_graph.specs.Diagram.{Diagram}
use Rattle.station_graph.specs.Connection.{Item, TouchingBy, Linked}
use Rattle.station_graph.proofs.LinkedLemmas.{linked_weaker, linked_flat, linked_trans}
use Rattle.station_graph.specs.Sharing.{TouchedBy}
use Rattle.contraction.specs.Answers.{Keeps, SameAt, MarkedAt}
use Rattle.contraction.specs.Stands.{MeetsKept}
use Rattle.contraction.specs.Composing.{SameInEither}
use Rattle.contraction.proofs.ItemSets.{Either}
use Rattle.station_graph.proofs.WalkLemmas.{AnyOf, Hop, Reaches, KeepsMeetings, reaches, hops_between, any_from_within}
use Rattle.station_graph.proofs.TouchLemmas.{touching_touches, touching_touches_end}

pub bool_same : (i j : Bool) → (i ≡ j) ⊎ (i ≢ j)
bool_same true true = inl refl
bool_same false false = inl refl
bool_same true false = inr (λ e. cc)
bool_same false true = inr (λ e. cc)

abbrev list_side : List ℕ → List ℕ → Bool → List ℕ
list_side x y true = x
list_side x y false = y

pub keeps_first : (kept labels : List ℕ) (a b : ℕ) → SameAt kept labels a b → Keeps kept a
keeps_first kept labels a b s = record { place = s.first; at = s.at_first }

pub keeps_second : (kept labels : List ℕ) (a b : ℕ) → SameAt kept labels a b → Keeps kept b
keeps_second kept labels a b s = record { place = s.second; at = s.at_second }

pub keeps_marked : (kept : List ℕ) (marks : List Bool) (a : ℕ) → MarkedAt kept marks a → Keeps kept a
keeps_marked kept marks a s = record { place = s.place; at = s.at }

-- Labels of one kind, for both sides.
module _ (These Those : Item → Type 0) (d : Diagram) (kx ky : List ℕ) (meets : MeetsKept These Those d kx ky)
    (bonds_only : Bool) (v : List Bool) where
  abbrev pub Of : Bool → Item → Type 0
  Of true = These
  Of false = Those

  abbrev R : Bool → ℕ → ℕ → Type 0
  R b = TouchingBy (Of b) bonds_only d v

  abbrev T : Bool → ℕ → Type 0
  T b n = TouchedBy (Of b) d n

  abbrev K : Bool → ℕ → Type 0
  K b n = Keeps (list_side kx ky b) n

  meets_at : (i j : Bool) (n : ℕ) → i ≢ j → T j n → T i n ⊎ K i n → K j n
  meets_at true true n ne t b = absurd (ne refl)
  meets_at false false n ne t b = absurd (ne refl)
  meets_at true false n ne t b = meets.in_second n t b
  meets_at false true n ne t b = meets.in_first n t b

  both_meet : KeepsMeetings R T K
  both_meet = record {
    from_touched = λ i a b h. touching_touches (Of i) bonds_only d v a b h;
    to_touched = λ i a b h. touching_touches_end (Of i) bonds_only d v a b h;
    kept = meets_at;
  }

  abbrev Both : ℕ → ℕ → Type 0
  Both = TouchingBy (Either These Those) bonds_only d v

  any_from_both : (a b : ℕ) → Both a b → AnyOf R a b
  any_from_both a b h = elim h.among [
    | inl among ↦ record { set = true; holds = record { item = h.item; among = among; between = h.between } }
    | inr among ↦ record { set = false; holds = record { item = h.item; among = among; between = h.between } }
  ]

  one_from : (b : Bool) (item : Item) → Of b item → Either These Those item
  one_from true item h = inl h
  one_from false item h = inr h

  both_from_any : (a b : ℕ) → AnyOf R a b → Both a b
  both_from_any a b h = record {
    item = h.holds.item;
    among = one_from h.set h.holds.item h.holds.among;
    between = h.holds.between;
  }

  abbrev LabelsOf : Bool → List ℕ → List ℕ → Type 0
  LabelsOf i kept labels = (a b : ℕ) → Keeps kept a → Keeps kept b → SameAt kept labels a b ↔ Linked (R i) a b

  module _ (lx ly : List ℕ) (sx : LabelsOf true kx lx) (sy : LabelsOf false ky ly) where
    abbrev Q : ℕ → ℕ → Type 0
    Q = SameInEither kx lx ky ly

    any_from_same : (a b : ℕ) → Q a b → Linked (AnyOf R) a b
    any_from_same a b (inl s) =
        any_from_within R true a b ((sx a b (keeps_first kx lx a b s) (keeps_second kx lx a b s)).0 s)
    any_from_same a b (inr s) =
        any_from_within R false a b ((sy a b (keeps_first ky ly a b s) (keeps_second ky ly a b s)).0 s)

    same_in : (i : Bool) (a b : ℕ) → K i a → K i b → Linked (R i) a b → Q a b
    same_in true a b ka kb l = inl ((sx a b ka kb).1 l)
    same_in false a b ka kb l = inr ((sy a b ka kb).1 l)

    same_from_hops : (a b : ℕ) → Linked (Hop R K) a b → Linked Q a b
    same_from_hops = linked_weaker (Hop R K) Q (λ a b h. same_in h.set a b h.from h.to h.within)

    which : (n : ℕ) → Keeps kx n ⊎ Keeps ky n → (i : Bool) × K i n
    which n (inl k) = (true, k)
    which n (inr k) = (false, k)

    pub both_from_same : (a b : ℕ) → Linked Q a b → Linked Both a b
    both_from_same a b l = linked_weaker (AnyOf R) Both both_from_any a b (linked_flat Q (AnyOf R) any_from_same a b l)

    pub same_from_both : (a b : ℕ) → Keeps kx a ⊎ Keeps ky a → Keeps kx b ⊎ Keeps ky b → Linked Both a b → Linked Q a b
    same_from_both a b ka kb l =
        let wa = which a ka in
        let wb = which b kb in
        same_from_hops a b (hops_between Bool bool_same R T K both_meet wa.0 wb.0 a b wa.1 wb.1
        (linked_weaker Both (AnyOf R) any_from_both a b l))

    -- Sources of one kind, for both sides.
    module _ (S : Bool → ℕ → Type 0) (touches : (i : Bool) (n : ℕ) → S i n → T i n) (mx my : List Bool)
        (ex : (a : ℕ) → Keeps kx a → MarkedAt kx mx a ↔ ((m : ℕ) × Linked (R true) a m × S true m))
        (ey : (a : ℕ) → Keeps ky a → MarkedAt ky my a ↔ ((m : ℕ) × Linked (R false) a m × S false m)) where
      abbrev Marked : ℕ → Type 0
      Marked m = MarkedAt kx mx m ⊎ MarkedAt ky my m

      marked_in : (i : Bool) (a m : ℕ) → K i a → Linked (R i) a m → S i m → Marked a
      marked_in true a m k l s = inl ((ex a k).1 (m, l, s))
      marked_in false a m k l s = inr ((ey a k).1 (m, l, s))

      pub marked_from_source : (a : ℕ) → Keeps kx a ⊎ Keeps ky a → (i : Bool) (m : ℕ) → Linked Both a m → S i m →
          (n : ℕ) × Linked Q a n × Marked n
      marked_from_source a ka i m l s =
          let wa = which a ka in
          let r : Reaches R K i a m =
          reaches Bool bool_same R T K both_meet wa.0 i a m wa.1 (inl (touches i m s))
          (linked_weaker Both (AnyOf R) any_from_both a m l) in
          (r.last, same_from_hops a r.last r.hops, marked_in i r.last m r.kept r.within s)

      joined_on : (i : Bool) (a n m : ℕ) → Linked Q a n → Linked (R i) n m → Linked Both a m
      joined_on i a n m l k =
          linked_trans Both a n m (both_from_same a n l)
          (linked_weaker (AnyOf R) Both both_from_any n m (any_from_within R i n m k))

      pub source_from_marked : (a n : ℕ) → Linked Q a n → Marked n → (i : Bool) × (m : ℕ) × Linked Both a m × S i m
      source_from_marked a n l (inl k) =
          let e = (ex n (keeps_marked kx mx n k)).0 k in (true, e.0, joined_on true a n e.0 l e.1, e.2)
      source_from_marked a n l (inr k) =
          let e = (ey n (keeps_marked ky my n k)).0 k in (false, e.0, joined_on false a n e.0 l e.1, e.2)
