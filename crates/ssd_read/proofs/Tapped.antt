-- Each infeed is tapped, where the items of a drawing are added.
use Rattle.std.proofs.Common.{◌≡◌, ℕ, List, [], ◌∷◌, ◌++◌, Some, Ok, refl, zero, suc, sym, subst, inl, inr, ◌⊎◌}
use Rattle.std.specs.List.{filter_map, flat_map, slice_get}
use Rattle.std.proofs.lemmas.List.Elements.{filter_map-append}
use Rattle.ilk_base.specs.declared.words.Kind.TheVariants.{Breaker, Disconnector, Earthing, Infeed}
use Rattle.station_graph.specs.Diagram.{Diagram, InfeedsTapped, empty}
use Rattle.station_graph.specs.declared.items.Switch.{Switch}
use Rattle.station_graph.specs.declared.items.Tap.{Tap}
use Rattle.ssd_text.specs.Nesting.{Entry}
use Rattle.ssd_read.specs.declared.types.Use.{Use}
use Rattle.ssd_read.specs.declared.types.Use.TheVariants as uses
use Rattle.ssd_read.specs.Elements.{Element, element_at}
use Rattle.ssd_read.specs.Steps.{Step, built, naming_step, part_of, links_along, lone_tap, is_bond, use_steps}
use Rattle.ssd_read.specs.Steps.{item_steps_at}
use Rattle.ssd_read.specs.Lists.{switch_in, tap_in}
use Rattle.ssd_read.proofs.Laid.{switches_built, taps_built, no_switches_named}
use Rattle.ssd_read.proofs.Given.{flat_all, IsPlain, plain_switches, other_plain, each_item}

-- ---- infeeds are tapped

abbrev HasTapIn : List Tap → ℕ → Type 0
HasTapIn ts n = (i : ℕ) × (x : Tap) × (slice_get ts i ≡ Some x) × (x.node.0 ≡ n)

abbrev AreTapped : List Switch → List Tap → Type 0
AreTapped xs ts = (i : ℕ) (x : Switch) → slice_get xs i ≡ Some x → x.kind ≡ Infeed → HasTapIn ts x.first.0

get_left : {X : Type 0} (xs ys : List X) (i : ℕ) (x : X) → slice_get xs i ≡ Some x → slice_get (xs ++ ys) i ≡ Some x
get_left [] ys i x h = absurd (cc)
get_left (y ∷ xs) ys zero x h = h
get_left (y ∷ xs) ys (suc i) x h = get_left xs ys i x h

tap_left : (ts us : List Tap) (n : ℕ) → HasTapIn ts n → HasTapIn (ts ++ us) n
tap_left ts us n h = (h.0, h.1, get_left ts us h.0 h.1 h.2, h.3)

tap_right : (ts us : List Tap) (n : ℕ) → HasTapIn us n → HasTapIn (ts ++ us) n
tap_right [] us n h = h
tap_right (t ∷ ts) us n h = let r = tap_right ts us n h in (suc r.0, r.1, r.2, r.3)

in_half : (xs ys : List Switch) (i : ℕ) (x : Switch) → slice_get (xs ++ ys) i ≡ Some x → (slice_get xs i ≡ Some x)
    ⊎ ((j : ℕ) × (slice_get ys j ≡ Some x))
in_half [] ys i x h = inr (i, h)
in_half (y ∷ xs) ys zero x h = inl h
in_half (y ∷ xs) ys (suc i) x h = in_half xs ys i x h

both_case : (xs ys : List Switch) (ts us : List Tap) (i : ℕ) (x : Switch) → AreTapped xs ts → AreTapped ys us →
    x.kind ≡ Infeed → (slice_get xs i ≡ Some x) ⊎ ((j : ℕ) × (slice_get ys j ≡ Some x)) → HasTapIn (ts ++ us) x.first.0
both_case xs ys ts us i x h g k (inl a) = tap_left ts us x.first.0 (h i x a k)
both_case xs ys ts us i x h g k (inr b) = tap_right ts us x.first.0 (g b.0 x b.1 k)

both_tapped : (xs ys : List Switch) (ts us : List Tap) → AreTapped xs ts → AreTapped ys us →
    AreTapped (xs ++ ys) (ts ++ us)
both_tapped xs ys ts us h g = λ i x e k. both_case xs ys ts us i x h g k (in_half xs ys i x e)

abbrev IsTapped : List Step → Type 0
IsTapped ss = AreTapped (filter_map switch_in ss) (filter_map tap_in ss)

tapped_both : (ss ts : List Step) → IsTapped ss → IsTapped ts → IsTapped (ss ++ ts)
tapped_both ss ts h g =
    let whole : AreTapped (filter_map switch_in ss ++ filter_map switch_in ts)
    (filter_map tap_in ss ++ filter_map tap_in ts) = both_tapped (filter_map switch_in ss) (filter_map switch_in ts)
    (filter_map tap_in ss) (filter_map tap_in ts) h g in
    let left : AreTapped (filter_map switch_in (ss ++ ts)) (filter_map tap_in ss ++ filter_map tap_in ts) =
    subst (λ (xs : List Switch). AreTapped xs (filter_map tap_in ss ++ filter_map tap_in ts))
    (sym (filter_map-append switch_in ss ts)) whole in
    subst (λ (us : List Tap). AreTapped (filter_map switch_in (ss ++ ts)) us)
    (sym (filter_map-append tap_in ss ts)) left

none_tapped : (ss : List Step) → filter_map switch_in ss ≡ [] → IsTapped ss
none_tapped ss h = λ i x e k. let bad : slice_get [] i ≡ Some x = subst (λ (xs : List Switch). slice_get xs i ≡ Some x)
    h e in absurd (cc)

plain_tapped : (ss : List Step) → IsPlain ss → IsTapped ss
plain_tapped ss h = none_tapped ss (plain_switches ss h)

one_tapped : (y : Switch) (ts : List Tap) → (y.kind ≡ Infeed → HasTapIn ts y.first.0) → AreTapped (y ∷ []) ts
one_tapped y ts h = go
  where
    go : (i : ℕ) (x : Switch) → slice_get (y ∷ []) i ≡ Some x → x.kind ≡ Infeed → HasTapIn ts x.first.0
    go zero x e k = let same : y ≡ x = cc in subst (λ (x : Switch). x.kind ≡ Infeed → HasTapIn ts x.first.0) same h k
    go (suc i) x e k = absurd (cc)

use_tapped : (u : Use) (e : Entry) (part : ℕ) (ns : List ℕ) → IsTapped (use_steps u e part ns)
use_tapped uses.Breaker e part [] = none_tapped [] refl
use_tapped uses.Breaker e part (a ∷ []) = none_tapped [] refl
use_tapped uses.Breaker e part (a ∷ b ∷ ns) = one_tapped _ [] (λ k. absurd (let bad : Breaker ≡ Infeed = k in cc))
use_tapped uses.Disconnector e part [] = none_tapped [] refl
use_tapped uses.Disconnector e part (a ∷ []) = one_tapped _ [] (λ k. absurd (let bad : Earthing ≡ Infeed = k in cc))
use_tapped uses.Disconnector e part (a ∷ b ∷ ns) =
    one_tapped _ [] (λ k. absurd (let bad : Disconnector ≡ Infeed = k in cc))
use_tapped uses.Infeed e part [] = none_tapped [] refl
use_tapped uses.Infeed e part (a ∷ ns) = one_tapped _ (record { node = record { 0 = a }; part = record { 0 = part } }
    ∷ []) (λ k. (0, record { node = record { 0 = a }; part = record { 0 = part } }, refl, refl))
use_tapped uses.Other e part ns = plain_tapped (links_along (is_bond e) part ns ++ lone_tap e part ns)
    (other_plain e part ns)

item_tapped : (all : List Element) (i : ℕ) → IsTapped (item_steps_at all i)
item_tapped all i = each_item IsTapped all i (none_tapped [] refl) plain_tapped
    (λ t u ns. use_tapped u (element_at all i).entry (part_of all i (element_at all i)) ns)

steps_tapped : (all : List Element) (is : List ℕ) →
    IsTapped (flat_map naming_step all ++ flat_map (item_steps_at all) is)
steps_tapped all is = tapped_both (flat_map naming_step all) (flat_map (item_steps_at all) is)
    (none_tapped (flat_map naming_step all) (no_switches_named all))
    (flat_all IsTapped (none_tapped [] refl) tapped_both
    (item_steps_at all) (item_tapped all) is)

pub infeeds_tapped : (all : List Element) (is : List ℕ) (d : Diagram) →
    built empty (flat_map naming_step all ++ flat_map (item_steps_at all) is) ≡ Ok d → InfeedsTapped d
infeeds_tapped all is d h =
    let ss : List Step = flat_map naming_step all ++ flat_map (item_steps_at all) is in
    let switches : d.switches ≡ filter_map switch_in ss = switches_built empty d ss h in
    let taps : d.taps ≡ filter_map tap_in ss = taps_built empty d ss h in
    let left : AreTapped d.switches (filter_map tap_in ss) =
    subst (λ (xs : List Switch). AreTapped xs (filter_map tap_in ss)) (sym switches) (steps_tapped all is) in
    subst (λ (ts : List Tap). AreTapped d.switches ts) (sym taps) left
