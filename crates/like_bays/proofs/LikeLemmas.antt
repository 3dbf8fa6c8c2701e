-- Tables that are checked make an exchange.
use Rattle.std.proofs.Common.{◌≡◌, ℕ, ◌+◌, ◌<◌, ◌≤◌, ◌⊎◌, zero, suc, List, [], ◌∷◌, length, get_or, slice_get, Some}
use Rattle.std.proofs.Common.{refl, sym, ap, ◌∙◌, subst, inl, inr, arith}
use Rattle.std.proofs.lemmas.Option.{slice_get_within}
use Rattle.station_graph.specs.Diagram.{Diagram, HasTap, AreSwitchesOf}
use Rattle.station_graph.specs.declared.items.Tap.{Tap}
use Rattle.release_dependence.specs.Exchange.{Exchange}
use Rattle.like_bays.specs.Like.{led_by, IsOutside, AreLike, IsExchangeBy}
use Rattle.like_bays.specs.Kept.{LeadsBack, AreTablesOf}

pub past : (table : List ℕ) (n d : ℕ) → length table ≤ n → get_or table n d ≡ d
past [] zero d le = refl
past [] (suc n) d le = refl
past (x ∷ xs) zero d le = absurd (omega (arith, le))
past (x ∷ xs) (suc n) d le = past xs n d (omega (arith, le))

within : (a b : ℕ) → (a < b) ⊎ (b ≤ a)
within a b = grind arith

-- what holds of all numbers in the table, and past its end, holds of all
pub all_back : (table : List ℕ) → ((n : ℕ) → n < length table → led_by table (led_by table n) ≡ n) → LeadsBack table
all_back table each n = elim (within n (length table)) [
  | inl lt ↦ each n lt
  | inr le ↦
      let stays : led_by table n ≡ n = past table n n le in
      subst (λ m. led_by table m ≡ n) (sym stays) stays
]

pub all_left : (table : List ℕ) (first second count : ℕ) → ((s : ℕ) → s < length table → IsOutside first count s →
    IsOutside second count s → led_by table s ≡ s) → (s : ℕ) → IsOutside first count s → IsOutside second count s →
    led_by table s ≡ s
all_left table first second count each s one other = elim (within s (length table)) [
  | inl lt ↦ each s lt one other
  | inr le ↦ past table s s le
]

pub as_exchange : (d : Diagram) (switches nodes : List ℕ) (first second count : ℕ) →
    AreTablesOf d switches nodes first second count → Exchange d
as_exchange d switches nodes first second count t = record {
  switch_to = led_by switches;
  node_to = led_by nodes;
  switch_back = t.switches_back;
  node_back = t.nodes_back;
  switches = λ i x at. t.switches_kept i (slice_get_within d.switches i x at) x at;
  links = λ i l at. t.links_kept i (slice_get_within d.links i l at) l at;
  taps = λ n has.
      let (i, tap, at, is) = has in
      subst (λ m. HasTap d (led_by nodes m)) is (t.taps_kept i (slice_get_within d.taps i tap at) tap at);
}

pub like_by : (d : Diagram) (switches nodes : List ℕ) (one other first second count : ℕ) →
    AreTablesOf d switches nodes first second count → AreSwitchesOf d one first count →
    AreSwitchesOf d other second count → AreLike d one other
unfolding as_exchange
like_by d switches nodes one other first second count t of_one of_other = record {
  first = first;
  second = second;
  count = count;
  of_one = of_one;
  of_other = of_other;
  exchange = as_exchange d switches nodes first second count t;
  carried = t.carried;
  left = t.left;
}

pub exchange_by : (d : Diagram) (switches nodes : List ℕ) (first second count : ℕ) →
    AreTablesOf d switches nodes first second count → IsExchangeBy d switches
unfolding as_exchange
exchange_by d switches nodes first second count t = record {
  exchange = as_exchange d switches nodes first second count t;
  leads = λ s. refl;
}
