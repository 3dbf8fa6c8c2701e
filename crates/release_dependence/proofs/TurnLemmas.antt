-- Vectors with the switches of some kinds put into other positions.
use Rattle.std.proofs.Common.{◌≡◌, ◌≢◌, ◌⊎◌, ℕ, zero, suc, Bool, true, false, List, [], ◌∷◌, length, slice_get, Some}
use Rattle.std.proofs.Common.{refl, sym, subst, ap, ◌∙◌, inl, inr, get_or, arith}
use Rattle.std.proofs.lemmas.Option.{same_Some, slice_get-get_or, slice_get_within}
use Rattle.ilk_base.specs.declared.words.Kind.{Kind}
use Rattle.ilk_base.specs.declared.words.Kind.TheVariants.{Breaker, Disconnector, Earthing, Infeed}
use Rattle.station_graph.specs.declared.items.Switch.{Switch}
use Rattle.station_graph.specs.Diagram.{Diagram}
use Rattle.station_changes.specs.Covers.{Covers, NoEarth, IsBetween}
use Rattle.release_dependence.specs.Depends.{DifferAt, BreakersAt}

-- each switch put into the position that its kind and its position give
abbrev pub turned : (Kind → Bool → Bool) → List Switch → List Bool → List Bool
turned f [] v = v
turned f (x ∷ xs) [] = []
turned f (x ∷ xs) (b ∷ v) = f x.kind b ∷ turned f xs v

pub turned_len : (f : Kind → Bool → Bool) (xs : List Switch) (v : List Bool) → length (turned f xs v) ≡ length v
turned_len f [] v = refl
turned_len f (x ∷ xs) [] = refl
turned_len f (x ∷ xs) (b ∷ v) = ap suc (turned_len f xs v)

pub turned_at : (f : Kind → Bool → Bool) (xs : List Switch) (v : List Bool) (i : ℕ) (x : Switch) (b : Bool) →
    slice_get xs i ≡ Some x → slice_get v i ≡ Some b → slice_get (turned f xs v) i ≡ Some (f x.kind b)
turned_at f [] v i x b at there = cc at
turned_at f (y ∷ xs) [] i x b at there = cc there
turned_at f (y ∷ xs) (c ∷ v) zero x b at there =
    let same : y ≡ x = same_Some y x at in
    let is : c ≡ b = same_Some c b there in
    rw (same, is) refl
turned_at f (y ∷ xs) (c ∷ v) (suc i) x b at there = turned_at f xs v i x b at there

pub turned_from : (f : Kind → Bool → Bool) (xs : List Switch) (v : List Bool) (i : ℕ) (x : Switch) (t : Bool) →
    slice_get xs i ≡ Some x → slice_get (turned f xs v) i ≡ Some t → (b : Bool) × ((slice_get v i ≡ Some b)
    × (f x.kind b ≡ t))
turned_from f [] v i x t at there = cc at
turned_from f (y ∷ xs) [] i x t at there = cc there
turned_from f (y ∷ xs) (c ∷ v) zero x t at there =
    let same : y ≡ x = same_Some y x at in
    let is : f y.kind c ≡ t = same_Some (f y.kind c) t there in
    (c, (refl, subst (λ (z : Switch). f z.kind c ≡ t) same is))
turned_from f (y ∷ xs) (c ∷ v) (suc i) x t at there = turned_from f xs v i x t at there

-- a switch that keeps its position
pub turned_kept : (f : Kind → Bool → Bool) (xs : List Switch) (v : List Bool) (i : ℕ) → ((x : Switch) →
    slice_get xs i ≡ Some x → (b : Bool) → f x.kind b ≡ b) → slice_get v i ≡ slice_get (turned f xs v) i
turned_kept f [] v i h = refl
turned_kept f (x ∷ xs) [] i h = refl
turned_kept f (x ∷ xs) (b ∷ v) zero h = ap Some (sym (h x refl b))
turned_kept f (x ∷ xs) (b ∷ v) (suc i) h = turned_kept f xs v i (λ y is. h y is)

-- switches with one position have one
pub turned_same : (f : Kind → Bool → Bool) (xs : List Switch) (v w : List Bool) (i : ℕ) → length v ≡ length w →
    slice_get v i ≡ slice_get w i → slice_get (turned f xs v) i ≡ slice_get (turned f xs w) i
turned_same f [] v w i len same = same
turned_same f (x ∷ xs) [] [] i len same = refl
turned_same f (x ∷ xs) [] (c ∷ w) i len same = absurd (omega (arith, len))
turned_same f (x ∷ xs) (b ∷ v) [] i len same = absurd (omega (arith, len))
turned_same f (x ∷ xs) (b ∷ v) (c ∷ w) zero len same =
    let is : b ≡ c = same_Some b c same in
    rw is refl
turned_same f (x ∷ xs) (b ∷ v) (c ∷ w) (suc i) len same = turned_same f xs v w i (omega (arith, len)) same

-- two vectors that differ in a switch which keeps its position differ in it alone
pub differ_turned : (f : Kind → Bool → Bool) (d : Diagram) (s : ℕ) (v w : List Bool) → DifferAt d s v w →
    ((x : Switch) → slice_get d.switches s ≡ Some x → (b : Bool) → f x.kind b ≡ b) →
    DifferAt d s (turned f d.switches v) (turned f d.switches w)
differ_turned f d s v w h keeps =
    record {
      first = turned_len f d.switches v ∙ h.first;
      second = turned_len f d.switches w ∙ h.second;
      opened = sym (turned_kept f d.switches v s keeps) ∙ h.opened;
      closed = sym (turned_kept f d.switches w s keeps) ∙ h.closed;
      others = λ i ne. turned_same f d.switches v w i (h.first ∙ sym h.second) (h.others i ne);
    }

-- every earthing switch open
abbrev pub no_earth : Kind → Bool → Bool
no_earth Breaker b = b
no_earth Disconnector b = b
no_earth Earthing b = false
no_earth Infeed b = b

pub no_earth_other : (k : Kind) (b : Bool) → k ≢ Earthing → no_earth k b ≡ b
no_earth_other Breaker b ne = refl
no_earth_other Disconnector b ne = refl
no_earth_other Earthing b ne = absurd (ne refl)
no_earth_other Infeed b ne = refl

no_earth_closed : (k : Kind) (b : Bool) → k ≡ Earthing → no_earth k b ≡ true → ⊥
no_earth_closed Breaker b e h = cc e
no_earth_closed Disconnector b e h = cc e
no_earth_closed Earthing b e h = cc h
no_earth_closed Infeed b e h = cc e

pub earth_or : (k : Kind) → (k ≡ Earthing) ⊎ (k ≢ Earthing)
earth_or Breaker = inr (λ e. cc e)
earth_or Disconnector = inr (λ e. cc e)
earth_or Earthing = inl refl
earth_or Infeed = inr (λ e. cc e)

module _ (d : Diagram) (v : List Bool) where
  pub fewer_earthed : Covers d (turned no_earth d.switches v) v
  fewer_earthed i x listed ne closed =
      let r = turned_from no_earth d.switches v i x true listed closed in
      r.1.0 ∙ ap Some (sym (no_earth_other x.kind r.0 ne) ∙ r.1.1)

  pub more_than_earthed : Covers d v (turned no_earth d.switches v)
  more_than_earthed i x listed ne closed =
      turned_at no_earth d.switches v i x true listed closed ∙ ap Some (no_earth_other x.kind true ne)

  pub none_earthed : NoEarth d (turned no_earth d.switches v)
  none_earthed i x listed e closed =
      let r = turned_from no_earth d.switches v i x true listed closed in
      no_earth_closed x.kind r.0 e r.1.1

-- every breaker in one position
abbrev pub breakers_to : Bool → Kind → Bool → Bool
breakers_to c Breaker b = c
breakers_to c Disconnector b = b
breakers_to c Earthing b = b
breakers_to c Infeed b = b

pub breakers_other : (c : Bool) (k : Kind) (b : Bool) → k ≢ Breaker → breakers_to c k b ≡ b
breakers_other c Breaker b ne = absurd (ne refl)
breakers_other c Disconnector b ne = refl
breakers_other c Earthing b ne = refl
breakers_other c Infeed b ne = refl

breakers_there : (c : Bool) (k : Kind) (b : Bool) → k ≡ Breaker → breakers_to c k b ≡ c
breakers_there c Breaker b e = refl
breakers_there c Disconnector b e = cc e
breakers_there c Earthing b e = cc e
breakers_there c Infeed b e = cc e

breakers_from : (k : Kind) (b : Bool) → breakers_to false k b ≡ true → b ≡ true
breakers_from Breaker b h = cc h
breakers_from Disconnector b h = h
breakers_from Earthing b h = h
breakers_from Infeed b h = h

breakers_on : (k : Kind) → breakers_to true k true ≡ true
breakers_on Breaker = refl
breakers_on Disconnector = refl
breakers_on Earthing = refl
breakers_on Infeed = refl

pub breaker_or : (k : Kind) → (k ≡ Breaker) ⊎ (k ≢ Breaker)
breaker_or Breaker = inl refl
breaker_or Disconnector = inr (λ e. cc e)
breaker_or Earthing = inr (λ e. cc e)
breaker_or Infeed = inr (λ e. cc e)

pub between_breakers : (d : Diagram) (v : List Bool) →
    IsBetween d (turned (breakers_to false) d.switches v) v (turned (breakers_to true) d.switches v)
between_breakers d v =
    record {
      few_len = sym (turned_len (breakers_to false) d.switches v);
      many_len = sym (turned_len (breakers_to true) d.switches v);
      few_same = λ i other. turned_kept (breakers_to false) d.switches v i
          (λ x is b. breakers_other false x.kind b (other x is));
      many_same = λ i other. turned_kept (breakers_to true) d.switches v i
          (λ x is b. breakers_other true x.kind b (other x is));
      few_covered = λ i x listed ne closed.
          let r = turned_from (breakers_to false) d.switches v i x true listed closed in
          r.1.0 ∙ ap Some (breakers_from x.kind r.0 r.1.1);
      many_covers = λ i x listed ne closed. turned_at (breakers_to true) d.switches v i x true listed closed
          ∙ ap Some (breakers_on x.kind);
    }

pub breakers_at : (d : Diagram) (c : Bool) (v : List Bool) → length v ≡ length d.switches →
    BreakersAt d c (turned (breakers_to c) d.switches v)
breakers_at d c v len i x listed e =
    let i_in = slice_get_within d.switches i x listed in
    turned_at (breakers_to c) d.switches v i x (get_or v i false) listed
    (slice_get-get_or v i false (omega (arith, i_in, len))) ∙ ap Some (breakers_there c x.kind (get_or v i false) e)
