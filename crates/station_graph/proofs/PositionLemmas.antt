-- What a list of items does depends on the positions of its own switches alone.
use Rattle.std.proofs.Common.{◌≡◌, ◌≢◌, ℕ, ◌↔◌, zero, suc, Bool, true, false, List, [], ◌∷◌, slice_get, slice_set}
use Rattle.std.proofs.Common.{Some, refl, sym, ◌∙◌, ap}
use Rattle.ilk_base.specs.declared.words.Kind.{Kind}
use Rattle.ilk_base.specs.declared.words.Kind.TheVariants.{Earthing, Infeed}
use Rattle.station_graph.specs.declared.items.Switch.{Switch}
use Rattle.station_graph.specs.Diagram.{Diagram}
use Rattle.station_graph.specs.Connection.{Item, a_switch, a_link, a_tap, ItemBetween, TouchingBy, Linked}
use Rattle.station_graph.specs.Connection.{close_breakers, unless_breaker, with_breakers_closed}
use Rattle.station_graph.proofs.LinkedLemmas.{linked_weaker}
use Rattle.station_graph.specs.Views.{CoupledBy, JoinedBy, BondedBy, ClosedAtBy, EnergisableBy, EarthableBy, FedBy}
use Rattle.station_graph.specs.Views.{TappedBy, Supply, bare, tapped, fed, SupplyBy, SameGapView, SameLoadView}
use Rattle.station_graph.specs.Alike.{SamePositions}

-- another entry stays after a write
pub slice_get-set_other : {X : Type 0} (xs : List X) (i j : ℕ) (b : X) → j ≢ i →
    slice_get (slice_set xs i b) j ≡ slice_get xs j
slice_get-set_other [] i j b ne = refl
slice_get-set_other (x ∷ xs) zero zero b ne = absurd (ne refl)
slice_get-set_other (x ∷ xs) zero (suc j) b ne = refl
slice_get-set_other (x ∷ xs) (suc i) zero b ne = refl
slice_get-set_other (x ∷ xs) (suc i) (suc j) b ne = slice_get-set_other xs i j b (λ e. ne (ap suc e))

-- one write makes lists that agree at a place agree there
pub slice_get-set_both : {X : Type 0} (xs ys : List X) (i : ℕ) (b : X) → slice_get xs i ≡ slice_get ys i →
    slice_get (slice_set xs i b) i ≡ slice_get (slice_set ys i b) i
slice_get-set_both [] [] i b e = refl
slice_get-set_both [] (y ∷ ys) zero b e = cc
slice_get-set_both [] (y ∷ ys) (suc i) b e = slice_get-set_both [] ys i b e
slice_get-set_both (x ∷ xs) [] zero b e = cc
slice_get-set_both (x ∷ xs) [] (suc i) b e = slice_get-set_both xs [] i b e
slice_get-set_both (x ∷ xs) (y ∷ ys) zero b e = refl
slice_get-set_both (x ∷ xs) (y ∷ ys) (suc i) b e = slice_get-set_both xs ys i b e

close_breakers_none : (xs : List Switch) → close_breakers xs [] ≡ []
close_breakers_none [] = refl
close_breakers_none (x ∷ xs) = refl

-- breakers close alike where positions agree
pub close_breakers_at : (xs : List Switch) (v w : List Bool) (i : ℕ) → slice_get v i ≡ slice_get w i →
    slice_get (close_breakers xs v) i ≡ slice_get (close_breakers xs w) i
close_breakers_at [] v w i e = e
close_breakers_at (x ∷ xs) [] [] i e = refl
close_breakers_at (x ∷ xs) [] (c ∷ w) zero e = cc
close_breakers_at (x ∷ xs) [] (c ∷ w) (suc i) e = ap (λ (u : List Bool). slice_get u i) (sym (close_breakers_none xs))
    ∙ close_breakers_at xs [] w i e
close_breakers_at (x ∷ xs) (b ∷ v) [] zero e = cc
close_breakers_at (x ∷ xs) (b ∷ v) [] (suc i) e = close_breakers_at xs v [] i e ∙ ap (λ (u : List Bool). slice_get u i)
    (close_breakers_none xs)
close_breakers_at (x ∷ xs) (b ∷ v) (c ∷ w) zero e = let same : b ≡ c = cc in ap (λ k. Some (unless_breaker x.kind k))
    same
close_breakers_at (x ∷ xs) (b ∷ v) (c ∷ w) (suc i) e = close_breakers_at xs v w i e

pub SamePositions-coupled : (These : Item → Type 0) (d : Diagram) (v w : List Bool) → SamePositions These v w →
    SamePositions These (with_breakers_closed d v) (with_breakers_closed d w)
SamePositions-coupled These d v w same i among = close_breakers_at d.switches v w i (same i among)

pub SamePositions-sym : (These : Item → Type 0) (v w : List Bool) → SamePositions These v w → SamePositions These w v
SamePositions-sym These v w same i among = sym (same i among)

between_same : (These : Item → Type 0) (bonds_only : Bool) (d : Diagram) (v w : List Bool) → SamePositions These v w →
    (item : Item) → These item → (a b : ℕ) → ItemBetween bonds_only d v item a b → ItemBetween bonds_only d w item a b
between_same These bonds_only d v w same (a_switch i) among a b h = record {
  switch = h.switch;
  second = h.second;
  listed = h.listed;
  two_ended = h.two_ended;
  has_second = h.has_second;
  closed = sym (same i among) ∙ h.closed;
  ends = h.ends;
}
between_same These bonds_only d v w same (a_link i) among a b h = record {
  link = h.link;
  listed = h.listed;
  counts = h.counts;
  ends = h.ends;
}
between_same These bonds_only d v w same (a_tap i) among a b h = h

module _ (These : Item → Type 0) (d : Diagram) (v w : List Bool) (same : SamePositions These v w) where
  pub linked_same_positions : (bonds_only : Bool) (a b : ℕ) → Linked (TouchingBy These bonds_only d v) a b →
      Linked (TouchingBy These bonds_only d w) a b
  linked_same_positions bonds_only a b l =
      linked_weaker (TouchingBy These bonds_only d v) (TouchingBy These bonds_only d w)
      (λ x y e. record {
        item = e.item;
        among = e.among;
        between = between_same These bonds_only d v w same e.item
            e.among x y e.between;
      }) a b l

  pub closed_same : (kind : Kind) (n : ℕ) → ClosedAtBy These d v kind n → ClosedAtBy These d w kind n
  closed_same kind n h = record {
    at = record {
      number = h.at.number;
      switch = h.at.switch;
      listed = h.at.listed;
      is_kind = h.at.is_kind;
      closed = sym (same h.at.number h.among) ∙ h.at.closed;
      stands = h.at.stands;
    };
    among = h.among;
  }

  pub fed_same : (n : ℕ) → FedBy These d v n → FedBy These d w n
  fed_same n (m, l, at) = (m, linked_same_positions false n m l, closed_same Infeed m at)

  pub tapped_same : (n : ℕ) → TappedBy These d v n → TappedBy These d w n
  tapped_same n (m, l, at) = (m, linked_same_positions false n m l, at)

-- with breakers closed
module _ (These : Item → Type 0) (d : Diagram) (v w : List Bool) (same : SamePositions These v w) where
  pub coupled_same : (a b : ℕ) → CoupledBy These d v a b → CoupledBy These d w a b
  coupled_same = linked_same_positions These d (with_breakers_closed d v) (with_breakers_closed d w)
      (SamePositions-coupled These d v w same) false

  pub coupled_to_same : (kind : Kind) (n : ℕ) → (m : ℕ) × CoupledBy These d v n m × ClosedAtBy These d v kind m →
      (m : ℕ) × CoupledBy These d w n m × ClosedAtBy These d w kind m
  coupled_to_same kind n (m, l, at) = (m, coupled_same n m l, closed_same These d v w same kind m at)

module _ (These : Item → Type 0) (d : Diagram) (v w : List Bool) (same : SamePositions These v w) where
  back : SamePositions These w v
  back = SamePositions-sym These v w same

  supply_same : (n : ℕ) (s : Supply) → SupplyBy These d v n s → SupplyBy These d w n s
  supply_same n bare h = (λ f. h.0 (fed_same These d w v back n f), λ t. h.1 (tapped_same These d w v back n t))
  supply_same n tapped h = (λ f. h.0 (fed_same These d w v back n f), tapped_same These d v w same n h.1)
  supply_same n fed h = fed_same These d v w same n h

-- the same positions give the same views
module _ (Kept : ℕ → Type 0) (These : Item → Type 0) (d : Diagram) (v w : List Bool)
    (same : SamePositions These v w) where
  there : SamePositions These w v
  there = SamePositions-sym These v w same

  pub SameGapView-positions : SameGapView Kept These d v w
  SameGapView-positions = record {
    coupled = λ a b ka kb. (coupled_same These d v w same a b, coupled_same These d w v there a b);
    energisable = λ a ka. (coupled_to_same These d v w same Infeed a, coupled_to_same These d w v there Infeed a);
    earthable = λ a ka. (coupled_to_same These d v w same Earthing a, coupled_to_same These d w v there Earthing a);
  }

  pub SameLoadView-positions : SameLoadView Kept These d v w
  SameLoadView-positions = record {
    joined = λ a b ka kb. (
      linked_same_positions These d v w same false a b,
      linked_same_positions These d w v there
          false a b,
    );
    bonded = λ a b ka kb. (
      linked_same_positions These d v w same true a b,
      linked_same_positions These d w v there true
          a b,
    );
    supply = λ a ka s. (supply_same These d v w same a s, supply_same These d w v there a s);
  }

iff_trans : (P Q R : Type 0) → P ↔ Q → Q ↔ R → P ↔ R
iff_trans P Q R f g = (λ p. g.0 (f.0 p), λ r. f.1 (g.1 r))

pub SameGapView-sym : (Kept : ℕ → Type 0) (These : Item → Type 0) (d : Diagram) (v w : List Bool) →
    SameGapView Kept These d v w → SameGapView Kept These d w v
SameGapView-sym Kept These d v w h = record {
  coupled = λ a b ka kb. ((h.coupled a b ka kb).1, (h.coupled a b ka kb).0);
  energisable = λ a ka. ((h.energisable a ka).1, (h.energisable a ka).0);
  earthable = λ a ka. ((h.earthable a ka).1, (h.earthable a ka).0);
}

pub SameLoadView-sym : (Kept : ℕ → Type 0) (These : Item → Type 0) (d : Diagram) (v w : List Bool) →
    SameLoadView Kept These d v w → SameLoadView Kept These d w v
SameLoadView-sym Kept These d v w h = record {
  joined = λ a b ka kb. ((h.joined a b ka kb).1, (h.joined a b ka kb).0);
  bonded = λ a b ka kb. ((h.bonded a b ka kb).1, (h.bonded a b ka kb).0);
  supply = λ a ka s. ((h.supply a ka s).1, (h.supply a ka s).0);
}

pub SameGapView-trans : (Kept : ℕ → Type 0) (These : Item → Type 0) (d : Diagram) (u v w : List Bool) →
    SameGapView Kept These d u v → SameGapView Kept These d v w → SameGapView Kept These d u w
SameGapView-trans Kept These d u v w h k = record {
  coupled = λ a b ka kb. iff_trans (CoupledBy These d u a b) (CoupledBy These d v a b) (CoupledBy These d w a b)
      (h.coupled a b ka kb) (k.coupled a b ka kb);
  energisable = λ a ka. iff_trans (EnergisableBy These d u a) (EnergisableBy These d v a) (EnergisableBy These d w a)
      (h.energisable a ka) (k.energisable a ka);
  earthable = λ a ka. iff_trans (EarthableBy These d u a) (EarthableBy These d v a) (EarthableBy These d w a)
      (h.earthable a ka) (k.earthable a ka);
}

pub SameLoadView-trans : (Kept : ℕ → Type 0) (These : Item → Type 0) (d : Diagram) (u v w : List Bool) →
    SameLoadView Kept These d u v → SameLoadView Kept These d v w → SameLoadView Kept These d u w
SameLoadView-trans Kept These d u v w h k = record {
  joined = λ a b ka kb. iff_trans (JoinedBy These d u a b) (JoinedBy These d v a b) (JoinedBy These d w a b)
      (h.joined a b ka kb) (k.joined a b ka kb);
  bonded = λ a b ka kb. iff_trans (BondedBy These d u a b) (BondedBy These d v a b) (BondedBy These d w a b)
      (h.bonded a b ka kb) (k.bonded a b ka kb);
  supply = λ a ka s. iff_trans (SupplyBy These d u a s) (SupplyBy These d v a s) (SupplyBy These d w a s)
      (h.supply a ka s) (k.supply a ka s);
}
