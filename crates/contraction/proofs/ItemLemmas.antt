-- Values of one item stand for it.
use Rattle.std.proofs.Common.{◌≡◌, ℕ, ◌⊎◌, ◌↔◌, zero, suc, Bool, true, false, List, [], ◌∷◌, slice_get, slice_index}
use Rattle.std.proofs.Common.{Some, refl, sym, ◌∙◌, ap, subst, inl, inr}
use Rattle.ilk_base.specs.declared.words.Kind.{Kind}
use Rattle.ilk_base.specs.declared.words.Kind.TheVariants.{Earthing, Infeed}
use Rattle.station_graph.specs.Diagram.{Diagram}
use Rattle.station_graph.specs.Connection.{Item, ItemBetween, TouchingBy, Linked, LeadsTo, AreEnds}
use Rattle.station_graph.specs.Connection.{with_breakers_closed}
use Rattle.station_graph.proofs.LinkedLemmas.{linked_self, linked_one}
use Rattle.station_graph.specs.Views.{ClosedAtBy, HasTapBy}
use Rattle.contraction.specs.Answers.{Answers, IsAt, Keeps, SameAt, MarkedAt}
use Rattle.contraction.specs.Stands.{StandsFor}
use Rattle.contraction.specs.Single.{Only, PairLabels, IsPair, IsSingle}

-- the item joins its ends exactly where the bit says so
pub record JoinsWhere (bonds_only : Bool) (d : Diagram) (u : List Bool) (item : Item) (a b : ℕ)
    (bit : Bool) : Type 0 where
  pub only : (x y : ℕ) → ItemBetween bonds_only d u item x y → bit ≡ true
  pub joins : bit ≡ true → (x y : ℕ) → AreEnds a b x y → ItemBetween bonds_only d u item x y

module _ (d : Diagram) (item : Item) where
  between : (bonds_only : Bool) (u : List Bool) (x y : ℕ) → TouchingBy (Only item) bonds_only d u x y →
      ItemBetween bonds_only d u item x y
  between bonds_only u x y h = subst (λ i. ItemBetween bonds_only d u i x y) h.among h.between

  touching : (bonds_only : Bool) (u : List Bool) (x y : ℕ) → ItemBetween bonds_only d u item x y →
      TouchingBy (Only item) bonds_only d u x y
  touching bonds_only u x y h = record { item = item; among = refl; between = h }

  module _ (bonds_only : Bool) (u : List Bool) (a b : ℕ) (bit : Bool) (j : JoinsWhere bonds_only d u item a b bit) where
    abbrev L : ℕ → ℕ → Type 0
    L = Linked (TouchingBy (Only item) bonds_only d u)

    bit_from_lead : (x y : ℕ) (xs : List ℕ) → LeadsTo (TouchingBy (Only item) bonds_only d u) x xs y →
        (x ≡ y) ⊎ (bit ≡ true)
    bit_from_lead x y [] e = inl e
    bit_from_lead x y (z ∷ xs) l = inr (j.only x z (between bonds_only u x z l.0))

    joined_ends : bit ≡ true → (x y : ℕ) → (x ≡ a) ⊎ (x ≡ b) → (y ≡ a) ⊎ (y ≡ b) → L x y
    joined_ends on x y (inl e) (inl f) = subst (L x) (e ∙ sym f) (linked_self (TouchingBy (Only item) bonds_only d u) x)
    joined_ends on x y (inr e) (inr f) = subst (L x) (e ∙ sym f) (linked_self (TouchingBy (Only item) bonds_only d u) x)
    joined_ends on x y (inl e) (inr f) =
        linked_one (TouchingBy (Only item) bonds_only d u) x y (touching bonds_only u x y (j.joins on x y (inl (e, f))))
    joined_ends on x y (inr e) (inl f) =
        linked_one (TouchingBy (Only item) bonds_only d u) x y (touching bonds_only u x y (j.joins on x y (inr (e, f))))

    pair_labels_stand : (kept labels : List ℕ) → ((n : ℕ) → Keeps kept n → (n ≡ a) ⊎ (n ≡ b)) →
        PairLabels kept labels bit → (x y : ℕ) → Keeps kept x → Keeps kept y → SameAt kept labels x y ↔ L x y
    pair_labels_stand kept labels ends p x y kx ky = (
      λ s. elim ((p x y kx ky).0 s) [
        | inl e ↦ subst (L x) e (linked_self (TouchingBy (Only item) bonds_only d u) x)
        | inr on ↦ joined_ends on x y (ends x kx) (ends y ky)
      ],
      λ l. (p x y kx ky).1 (bit_from_lead x y l.after l.leads),
    )

  -- A PAIR STANDS FOR ITS ITEM
  pub pair_stands : (v : List Bool) (a b : ℕ) (coupled joined bonded : Bool) (c : Answers) →
      IsPair a b coupled joined bonded c → JoinsWhere false d (with_breakers_closed d v) item a b coupled →
      JoinsWhere false d v item a b joined → JoinsWhere true d v item a b bonded →
      ((kind : Kind) (n : ℕ) → (kind ≡ Infeed) ⊎ (kind ≡ Earthing) → ClosedAtBy (Only item) d v kind n → ⊥) →
      ((n : ℕ) → HasTapBy (Only item) d n → ⊥) → StandsFor (Only item) d v c
  pair_stands v a b coupled joined bonded c p jc jj jb no_switch no_tap =
      let ends : (n : ℕ) → Keeps c.kept n → (n ≡ a) ⊎ (n ≡ b) = λ n k. (p.kept n).0 k in
      record {
        gap = record {
          coupled =
              pair_labels_stand false (with_breakers_closed d v) a b coupled jc c.kept c.coupled ends p.coupled_pair;
          energisable =
              λ n k. (λ m. absurd (p.no_energisable n m), λ (m, l, at). absurd (no_switch Infeed m (inl refl) at));
          earthable =
              λ n k. (λ m. absurd (p.no_earthable n m), λ (m, l, at). absurd (no_switch Earthing m (inr refl) at));
        };
        load = record {
          joined = pair_labels_stand false v a b joined jj c.kept c.joined ends p.joined_pair;
          bonded = pair_labels_stand true v a b bonded jb c.kept c.bonded ends p.bonded_pair;
          fed = λ n k. (λ m. absurd (p.no_fed n m), λ (m, l, at). absurd (no_switch Infeed m (inl refl) at));
          loaded = λ n k. (
            λ m. absurd (p.no_loaded n m),
            λ h. elim h [
              | inl (m, l, at) ↦ absurd (no_switch Infeed m (inl refl) at)
              | inr (m, l, at) ↦ absurd (no_tap m at)
            ],
          );
        };
      }

  -- A single node.
  module _ (v : List Bool) (a : ℕ) where
    one_at : (k n : ℕ) → IsAt (a ∷ []) k n → (k ≡ 0) × (a ≡ n)
    one_at zero n e = (refl, cc)
    one_at (suc k) n e = cc

    labels_one : (bonds_only : Bool) (u : List Bool) (x y : ℕ) → Keeps (a ∷ []) x → Keeps (a ∷ []) y →
        SameAt (a ∷ []) (0 ∷ []) x y ↔ Linked (TouchingBy (Only item) bonds_only d u) x y
    labels_one bonds_only u x y kx ky =
        let ex = one_at kx.place x kx.at in
        let ey = one_at ky.place y ky.at in (
          λ s. subst (Linked (TouchingBy (Only item) bonds_only d u) x) (sym ex.1 ∙ ey.1)
              (linked_self (TouchingBy (Only item) bonds_only d u) x),
          λ l. record {
            first = kx.place;
            second = ky.place;
            at_first = kx.at;
            at_second = ky.at;
            same = ap (slice_index (0 ∷ [])) (ex.0 ∙ sym ey.0);
          },
        )

    -- a source that stands at the node exactly where the bit says so
    marks_one : (bit : Bool) (S : ℕ → Type 0) → ((n : ℕ) → S n → (bit ≡ true)) → (bit ≡ true → S a) →
        (bonds_only : Bool) (u : List Bool) (n : ℕ) → Keeps (a ∷ []) n → MarkedAt (a ∷ []) (bit ∷ []) n ↔
        ((m : ℕ) × Linked (TouchingBy (Only item) bonds_only d u) n m × S m)
    marks_one bit S only there bonds_only u n k =
        let e = one_at k.place n k.at in (
          λ m.
              let f = one_at m.place n m.at in
              let on : bit ≡ true = let g = sym (ap (slice_get (bit ∷ [])) f.0) ∙ m.marked in cc in
              (n, linked_self (TouchingBy (Only item) bonds_only d u) n, subst S e.1 (there on)),
          λ (m, l, s). record { place = 0; at = ap Some e.1; marked = ap Some (only m s) },
        )

    pub single_stands : (energisable earthable fed loaded : Bool) (c : Answers) →
        IsSingle a energisable earthable fed loaded c →
        ((n : ℕ) → ClosedAtBy (Only item) d v Infeed n → (energisable ≡ true) × (fed ≡ true)) →
        ((energisable ≡ true) ⊎ (fed ≡ true) → ClosedAtBy (Only item) d v Infeed a) →
        ((n : ℕ) → ClosedAtBy (Only item) d v Earthing n → earthable ≡ true) →
        (earthable ≡ true → ClosedAtBy (Only item) d v Earthing a) →
        ((n : ℕ) → ClosedAtBy (Only item) d v Infeed n ⊎ HasTapBy (Only item) d n → loaded ≡ true) →
        (loaded ≡ true → ClosedAtBy (Only item) d v Infeed a ⊎ HasTapBy (Only item) d a) → StandsFor (Only item) d v c
    single_stands energisable earthable fed loaded c s infeed infeed_there earth earth_there load load_there =
        let u : List Bool = with_breakers_closed d v in
        let z : Answers = record {
          kept = a ∷ [];
          coupled = 0 ∷ [];
          joined = 0 ∷ [];
          bonded = 0 ∷ [];
          energisable = energisable ∷ [];
          earthable = earthable ∷ [];
          fed = fed ∷ [];
          loaded = loaded ∷ [];
        } in
        let stands : StandsFor (Only item) d v z = record {
          gap = record {
            coupled = labels_one false u;
            energisable =
                marks_one energisable (λ n. ClosedAtBy (Only item) d v Infeed n) (λ n h. (infeed n h).0)
                (λ e. infeed_there (inl e)) false u;
            earthable = marks_one earthable (λ n. ClosedAtBy (Only item) d v Earthing n) earth earth_there false u;
          };
          load = record {
            joined = labels_one false v;
            bonded = labels_one true v;
            fed =
                marks_one fed (λ n. ClosedAtBy (Only item) d v Infeed n) (λ n h. (infeed n h).1)
                (λ e. infeed_there (inr e)) false v;
            loaded = λ n k.
                let r = marks_one loaded (λ m. ClosedAtBy (Only item) d v Infeed m ⊎ HasTapBy (Only item) d m) load
                load_there false v n k in (
                  λ m. let (x, l, t) = r.0 m in elim t [ inl p ↦ inl (x, l, p) | inr q ↦ inr (x, l, q) ],
                  λ h. r.1 (elim h [ inl (x, l, p) ↦ (x, l, inl p) | inr (x, l, q) ↦ (x, l, inr q) ]),
                );
          };
        } in
        let same : z
        ≡ record {
          kept = c.kept;
          coupled = c.coupled;
          joined = c.joined;
          bonded = c.bonded;
          energisable = c.energisable;
          earthable = c.earthable;
          fed = c.fed;
          loaded = c.loaded;
        } = cc (
          s.kept,
          s.coupled_is,
          s.joined_is,
          s.bonded_is,
          s.energisable_is,
          s.earthable_is,
          s.fed_is,
          s.loaded_is,
        ) in
        subst (StandsFor (Only item) d v) same stands
