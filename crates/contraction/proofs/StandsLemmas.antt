-- What two values say of their items, their composition says of both lists together.
use Rattle.std.proofs.Common.{ℕ, ◌⊎◌, ◌↔◌, Bool, true, false, List, inl, inr}
use Rattle.ilk_base.specs.declared.words.Kind.{Kind}
use Rattle.ilk_base.specs.declared.words.Kind.TheVariants.{Earthing, Infeed}
use Rattle.station_graph.specs.Diagram.{Diagram}
use Rattle.station_graph.specs.Connection.{Item, TouchingBy, Linked, with_breakers_closed}
use Rattle.station_graph.specs.Views.{ClosedAtBy, HasTapBy}
use Rattle.station_graph.specs.Sharing.{TouchedBy}
use Rattle.contraction.specs.Answers.{Answers, Keeps, SameAt, MarkedAt}
use Rattle.contraction.specs.Stands.{GapStandsFor, LoadStandsFor, MeetsKept}
use Rattle.contraction.specs.Composing.{LabelsCompose, MarksCompose, Composes, ComposesGap, ComposesLoad}
use Rattle.contraction.proofs.ItemSets.{Either}
use Rattle.station_graph.proofs.TouchLemmas.{closed_touches, tap_touches}
use Rattle.contraction.proofs.ComposeLemmas.{Of, both_from_same, same_from_both, marked_from_source, source_from_marked}

module _ (These Those : Item → Type 0) (d : Diagram) (v : List Bool) (x y c : Answers)
    (meets : MeetsKept These Those d x.kept y.kept)
    (kept : (n : ℕ) → Keeps c.kept n → Keeps x.kept n ⊎ Keeps y.kept n) where
  labels_stand : (bonds_only : Bool) (u : List Bool) (lx ly lc : List ℕ) →
      ((a b : ℕ) → Keeps x.kept a → Keeps x.kept b → SameAt x.kept lx a b ↔
      Linked (TouchingBy These bonds_only d u) a b) →
      ((a b : ℕ) → Keeps y.kept a → Keeps y.kept b → SameAt y.kept ly a b ↔
      Linked (TouchingBy Those bonds_only d u) a b) → LabelsCompose x.kept lx y.kept ly c.kept lc → (a b : ℕ) →
      Keeps c.kept a → Keeps c.kept b → SameAt c.kept lc a b ↔
      Linked (TouchingBy (Either These Those) bonds_only d u) a b
  labels_stand bonds_only u lx ly lc sx sy composes a b ka kb = (
    λ s. both_from_same These Those d x.kept y.kept meets bonds_only u lx ly sx sy a b ((composes a b ka kb).0 s),
    λ l. (composes a b ka kb).1
        (same_from_both These Those d x.kept y.kept meets bonds_only u lx ly sx sy a b (kept a ka) (kept b kb) l),
  )

  module _ (u : List Bool) (lx ly : List ℕ)
      (sx : (a b : ℕ) → Keeps x.kept a → Keeps x.kept b → SameAt x.kept lx a b ↔
      Linked (TouchingBy These false d u) a b) (sy : (a b : ℕ) → Keeps y.kept a → Keeps y.kept b →
      SameAt y.kept ly a b ↔ Linked (TouchingBy Those false d u) a b) where
    abbrev Both : ℕ → ℕ → Type 0
    Both = Linked (TouchingBy (Either These Those) false d u)

    marks_stand : (S : Bool → ℕ → Type 0) →
        ((i : Bool) (n : ℕ) → S i n → TouchedBy (Of These Those d x.kept y.kept meets false u i) d n) →
        (mx my mc : List Bool) →
        ((a : ℕ) → Keeps x.kept a → MarkedAt x.kept mx a ↔
        ((m : ℕ) × Linked (TouchingBy These false d u) a m × S true m)) →
        ((a : ℕ) → Keeps y.kept a → MarkedAt y.kept my a ↔
        ((m : ℕ) × Linked (TouchingBy Those false d u) a m × S false m)) →
        MarksCompose x.kept lx mx y.kept ly my c.kept mc → (a : ℕ) → Keeps c.kept a → MarkedAt c.kept mc a ↔
        ((i : Bool) × (m : ℕ) × Both a m × S i m)
    marks_stand S touches mx my mc ex ey composes a ka = (
      λ k.
          let r = (composes a ka).0 k in
          source_from_marked These Those d x.kept y.kept meets false u lx ly sx sy S touches mx my ex ey a r.0 r.1 r.2,
      λ (i, m, l, s).
          (composes a ka).1 (marked_from_source These Those d x.kept y.kept meets false u lx ly sx sy S touches mx my ex
          ey a (kept a ka) i m l s),
    )

    -- closed switches of one kind
    abbrev ClosedOn : Kind → Bool → ℕ → Type 0
    ClosedOn kind i n = ClosedAtBy (Of These Those d x.kept y.kept meets false u i) d v kind n

    closed_one : (kind : Kind) (i : Bool) (n : ℕ) → ClosedOn kind i n → ClosedAtBy (Either These Those) d v kind n
    closed_one kind true n h = record { at = h.at; among = inl h.among }
    closed_one kind false n h = record { at = h.at; among = inr h.among }

    closed_which : (kind : Kind) (n : ℕ) → ClosedAtBy (Either These Those) d v kind n → (i : Bool) × ClosedOn kind i n
    closed_which kind n h = elim h.among [
      | inl among ↦ (true, record { at = h.at; among = among })
      | inr among ↦ (false, record { at = h.at; among = among })
    ]

    closed_stand : (kind : Kind) (mx my mc : List Bool) →
        ((a : ℕ) → Keeps x.kept a → MarkedAt x.kept mx a ↔
        ((m : ℕ) × Linked (TouchingBy These false d u) a m × ClosedAtBy These d v kind m)) →
        ((a : ℕ) → Keeps y.kept a → MarkedAt y.kept my a ↔
        ((m : ℕ) × Linked (TouchingBy Those false d u) a m × ClosedAtBy Those d v kind m)) →
        MarksCompose x.kept lx mx y.kept ly my c.kept mc → (a : ℕ) → Keeps c.kept a → MarkedAt c.kept mc a ↔
        ((m : ℕ) × Both a m × ClosedAtBy (Either These Those) d v kind m)
    closed_stand kind mx my mc ex ey composes a ka =
        let r = marks_stand (ClosedOn kind)
        (λ i n h. closed_touches (Of These Those d x.kept y.kept meets false u i) d v kind n h) mx my mc ex ey
        composes a ka in (
          λ k. let (i, m, l, s) = r.0 k in (m, l, closed_one kind i m s),
          λ (m, l, h). let w = closed_which kind m h in r.1 (w.0, m, l, w.1),
        )

    -- closed infeeds and taps
    abbrev LoadOn : Bool → ℕ → Type 0
    LoadOn i n = ClosedOn Infeed i n ⊎ HasTapBy (Of These Those d x.kept y.kept meets false u i) d n

    load_touches : (i : Bool) (n : ℕ) → LoadOn i n → TouchedBy (Of These Those d x.kept y.kept meets false u i) d n
    load_touches i n (inl h) = closed_touches (Of These Those d x.kept y.kept meets false u i) d v Infeed n h
    load_touches i n (inr h) = tap_touches (Of These Those d x.kept y.kept meets false u i) d n h

    abbrev Fed : ℕ → Type 0
    Fed a = (m : ℕ) × Both a m × ClosedAtBy (Either These Those) d v Infeed m

    abbrev Tapped : ℕ → Type 0
    Tapped a = (m : ℕ) × Both a m × HasTapBy (Either These Those) d m

    tap_one : (i : Bool) (n : ℕ) → HasTapBy (Of These Those d x.kept y.kept meets false u i) d n →
        HasTapBy (Either These Those) d n
    tap_one true n h = record {
      number = h.number;
      tap = h.tap;
      listed = h.listed;
      stands = h.stands;
      among = inl h.among;
    }
    tap_one false n h = record {
      number = h.number;
      tap = h.tap;
      listed = h.listed;
      stands = h.stands;
      among = inr h.among;
    }

    tap_which : (n : ℕ) → HasTapBy (Either These Those) d n →
        (i : Bool) × HasTapBy (Of These Those d x.kept y.kept meets false u i) d n
    tap_which n h = elim h.among [
      | inl among ↦
          (true, record { number = h.number; tap = h.tap; listed = h.listed; stands = h.stands; among = among })
      | inr among ↦
          (false, record { number = h.number; tap = h.tap; listed = h.listed; stands = h.stands; among = among })
    ]

    load_one : (a : ℕ) (i : Bool) (m : ℕ) → Both a m → LoadOn i m → Fed a ⊎ Tapped a
    load_one a i m l (inl h) = inl (m, l, closed_one Infeed i m h)
    load_one a i m l (inr h) = inr (m, l, tap_one i m h)

    load_which : (a : ℕ) → Fed a ⊎ Tapped a → (i : Bool) × (m : ℕ) × Both a m × LoadOn i m
    load_which a (inl (m, l, h)) = let w = closed_which Infeed m h in (w.0, m, l, inl w.1)
    load_which a (inr (m, l, h)) = let w = tap_which m h in (w.0, m, l, inr w.1)

    one_sum : (J : ℕ → Type 0) (P Q : ℕ → Type 0) → ((m : ℕ) × J m × P m) ⊎ ((m : ℕ) × J m × Q m) →
        (m : ℕ) × J m × (P m ⊎ Q m)
    one_sum J P Q (inl (m, l, p)) = (m, l, inl p)
    one_sum J P Q (inr (m, l, q)) = (m, l, inr q)

    two_sums_at : (J : ℕ → Type 0) (P Q : ℕ → Type 0) (m : ℕ) → J m → P m ⊎ Q m →
        ((n : ℕ) × J n × P n) ⊎ ((n : ℕ) × J n × Q n)
    two_sums_at J P Q m l (inl p) = inl (m, l, p)
    two_sums_at J P Q m l (inr q) = inr (m, l, q)

    abbrev JoinsThese : ℕ → ℕ → Type 0
    JoinsThese = Linked (TouchingBy These false d u)

    abbrev JoinsThose : ℕ → ℕ → Type 0
    JoinsThose = Linked (TouchingBy Those false d u)

    loaded_stand : (mx my mc : List Bool) →
        ((a : ℕ) → Keeps x.kept a → MarkedAt x.kept mx a ↔
        (((m : ℕ) × JoinsThese a m × ClosedAtBy These d v Infeed m)
        ⊎ ((m : ℕ) × JoinsThese a m × HasTapBy These d m))) →
        ((a : ℕ) → Keeps y.kept a → MarkedAt y.kept my a ↔
        (((m : ℕ) × JoinsThose a m × ClosedAtBy Those d v Infeed m)
        ⊎ ((m : ℕ) × JoinsThose a m × HasTapBy Those d m))) → MarksCompose x.kept lx mx y.kept ly my c.kept mc →
        (a : ℕ) → Keeps c.kept a → MarkedAt c.kept mc a ↔ (Fed a ⊎ Tapped a)
    loaded_stand mx my mc ex ey composes a ka =
        let r = marks_stand LoadOn load_touches mx my mc
        (λ b kb. (
          λ k. one_sum (JoinsThese b) (λ m. ClosedAtBy These d v Infeed m) (λ m. HasTapBy These d m) ((ex b kb).0 k),
          λ (m, l, s). (ex b kb).1
              (two_sums_at (JoinsThese b) (λ n. ClosedAtBy These d v Infeed n) (λ n. HasTapBy These d n) m l s),
        ))
        (λ b kb. (
          λ k. one_sum (JoinsThose b) (λ m. ClosedAtBy Those d v Infeed m) (λ m. HasTapBy Those d m) ((ey b kb).0 k),
          λ (m, l, s). (ey b kb).1
              (two_sums_at (JoinsThose b) (λ n. ClosedAtBy Those d v Infeed n) (λ n. HasTapBy Those d n) m l s),
        ))
        composes a ka in (
          λ k. let (i, m, l, s) = r.0 k in load_one a i m l s,
          λ h. r.1 (load_which a h),
        )

-- THE COMPOSITION OF TWO VALUES STANDS FOR BOTH LISTS TOGETHER, VIEW BY VIEW
pub gap_composes : (These Those : Item → Type 0) (d : Diagram) (v : List Bool) (x y c : Answers) →
    MeetsKept These Those d x.kept y.kept → ComposesGap x y c → GapStandsFor These d v x → GapStandsFor Those d v y →
    GapStandsFor (Either These Those) d v c
gap_composes These Those d v x y c meets composes sx sy =
    let u : List Bool = with_breakers_closed d v in
    let kept = composes.kept in
    record {
      coupled =
          labels_stand These Those d v x y c meets kept false u x.coupled y.coupled c.coupled sx.coupled sy.coupled
          composes.coupled;
      energisable =
          closed_stand These Those d v x y c meets kept u x.coupled y.coupled sx.coupled sy.coupled Infeed x.energisable
          y.energisable c.energisable sx.energisable sy.energisable composes.energisable;
      earthable =
          closed_stand These Those d v x y c meets kept u x.coupled y.coupled sx.coupled sy.coupled Earthing x.earthable
          y.earthable c.earthable sx.earthable sy.earthable composes.earthable;
    }

pub load_composes : (These Those : Item → Type 0) (d : Diagram) (v : List Bool) (x y c : Answers) →
    MeetsKept These Those d x.kept y.kept → ComposesLoad x y c → LoadStandsFor These d v x → LoadStandsFor Those d v y →
    LoadStandsFor (Either These Those) d v c
load_composes These Those d v x y c meets composes sx sy =
    let kept = composes.kept in
    record {
      joined =
          labels_stand These Those d v x y c meets kept false v x.joined y.joined c.joined sx.joined sy.joined
          composes.joined;
      bonded =
          labels_stand These Those d v x y c meets kept true v x.bonded y.bonded c.bonded sx.bonded sy.bonded
          composes.bonded;
      fed =
          closed_stand These Those d v x y c meets kept v x.joined y.joined sx.joined sy.joined Infeed x.fed y.fed c.fed
          sx.fed sy.fed composes.fed;
      loaded =
          loaded_stand These Those d v x y c meets kept v x.joined y.joined sx.joined sy.joined x.loaded y.loaded
          c.loaded sx.loaded sy.loaded composes.loaded;
    }

-- each half of a composition
pub gap_half : (x y c : Answers) → Composes x y c → ComposesGap x y c
gap_half x y c h = record {
  kept = λ n. (h.kept n).0;
  coupled = h.coupled;
  energisable = h.energisable;
  earthable = h.earthable;
}

pub load_half : (x y c : Answers) → Composes x y c → ComposesLoad x y c
load_half x y c h = record {
  kept = λ n. (h.kept n).0;
  joined = h.joined;
  bonded = h.bonded;
  fed = h.fed;
  loaded = h.loaded;
}

pub composes_gap : (These Those : Item → Type 0) (d : Diagram) (v : List Bool) (x y c : Answers) →
    MeetsKept These Those d x.kept y.kept → Composes x y c → GapStandsFor These d v x → GapStandsFor Those d v y →
    GapStandsFor (Either These Those) d v c
composes_gap These Those d v x y c meets composes = gap_composes These Those d v x y c meets (gap_half x y c composes)

pub composes_load : (These Those : Item → Type 0) (d : Diagram) (v : List Bool) (x y c : Answers) →
    MeetsKept These Those d x.kept y.kept → Composes x y c → LoadStandsFor These d v x → LoadStandsFor Those d v y →
    LoadStandsFor (Either These Those) d v c
composes_load These Those d v x y c meets composes =
    load_composes These Those d v x y c meets (load_half x y c composes)
