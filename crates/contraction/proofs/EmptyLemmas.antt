-- The value of no item.
use Rattle.std.proofs.Common.{◌≡◌, ℕ, ◌↔◌, zero, suc, Bool, true, false, List, [], ◌∷◌, length, slice_get, slice_index}
use Rattle.std.proofs.Common.{replicate, Some, refl, sym, ◌∙◌, ap, subst, inl, inr, arith}
use Rattle.std.proofs.lemmas.Option.{slice_get_within, get_or_from_slice_get}
use Rattle.station_graph.specs.Diagram.{Diagram}
use Rattle.station_graph.specs.Connection.{TouchingBy, Linked, LeadsTo, with_breakers_closed}
use Rattle.station_graph.proofs.LinkedLemmas.{linked_self}
use Rattle.contraction.specs.Answers.{Answers, IsAt, Keeps, SameAt, MarkedAt, AreLabels, AreNodes, IsContraction}
use Rattle.contraction.specs.Stands.{StandsFor, Among}
use Rattle.contraction.specs.Single.{AreAlone}

pub no_true : (n k : ℕ) → slice_get (replicate n false) k ≡ Some true → ⊥
no_true zero k e = cc
no_true (suc n) zero e = cc
no_true (suc n) (suc k) e = no_true n k e

pub length-replicate_false : (n : ℕ) → length (replicate n false) ≡ n
length-replicate_false zero = refl
length-replicate_false (suc n) = ap suc (length-replicate_false n)

apart_labels : (n : ℕ) (l : List ℕ) → AreAlone n l → AreLabels n l
apart_labels n l h = record {
  len = h.len;
  below = λ k k_in. omega (arith, h.alone k k_in);
  steady = λ k k_in. ap (slice_index l) (h.alone k k_in);
}

abbrev pub bare_answers : List ℕ → List ℕ → List ℕ → List ℕ → Answers
bare_answers kept a b c = record {
  kept = kept;
  coupled = a;
  joined = b;
  bonded = c;
  energisable = replicate (length kept) false;
  earthable = replicate (length kept) false;
  fed = replicate (length kept) false;
  loaded = replicate (length kept) false;
}

module _ (kept a b c : List ℕ) (ha : AreAlone (length kept) a) (hb : AreAlone (length kept) b)
    (hc : AreAlone (length kept) c) where
  pub bare_well : AreNodes kept → IsContraction (bare_answers kept a b c)
  bare_well nodes = record {
    nodes = nodes;
    coupled = apart_labels (length kept) a ha;
    joined = apart_labels (length kept) b hb;
    bonded = apart_labels (length kept) c hc;
    energisable = length-replicate_false (length kept);
    earthable = length-replicate_false (length kept);
    fed = length-replicate_false (length kept);
    loaded = length-replicate_false (length kept);
    fed_loaded = λ k e. e;
  }

  module _ (d : Diagram) (v : List Bool) where
    stays_lead : (bonds_only : Bool) (u : List Bool) (x y : ℕ) (xs : List ℕ) →
        LeadsTo (TouchingBy (Among []) bonds_only d u) x xs y → x ≡ y
    stays_lead bonds_only u x y [] e = e
    stays_lead bonds_only u x y (z ∷ xs) l = absurd (l.0.among)

    labels_none : (labels : List ℕ) → AreAlone (length kept) labels → (bonds_only : Bool) (u : List Bool) (x y : ℕ) →
        Keeps kept x → Keeps kept y → SameAt kept labels x y ↔ Linked (TouchingBy (Among []) bonds_only d u) x y
    labels_none labels h bonds_only u x y kx ky = (
      λ s.
          let i_in = slice_get_within kept s.first x s.at_first in
          let j_in = slice_get_within kept s.second y s.at_second in
          let places : s.first ≡ s.second = sym (h.alone s.first i_in) ∙ s.same ∙ h.alone s.second j_in in
          let same : x
          ≡ y =
          sym (get_or_from_slice_get kept s.first x 0 s.at_first) ∙ ap (slice_index kept) places
          ∙ get_or_from_slice_get kept s.second y 0 s.at_second in
          subst (Linked (TouchingBy (Among []) bonds_only d u) x) same
          (linked_self (TouchingBy (Among []) bonds_only d u) x),
      λ l.
          let same : x ≡ y = stays_lead bonds_only u x y l.after l.leads in
          record {
            first = kx.place;
            second = kx.place;
            at_first = kx.at;
            at_second = subst (IsAt kept kx.place) same kx.at;
            same = refl;
          },
    )

    unmarked : (n : ℕ) → MarkedAt kept (replicate (length kept) false) n → ⊥
    unmarked n m = no_true (length kept) m.place m.marked

    pub bare_stands : StandsFor (Among []) d v (bare_answers kept a b c)
    bare_stands = record {
      gap = record {
        coupled = labels_none a ha false (with_breakers_closed d v);
        energisable = λ n k. (λ m. absurd (unmarked n m), λ (m, l, h). absurd (h.among));
        earthable = λ n k. (λ m. absurd (unmarked n m), λ (m, l, h). absurd (h.among));
      };
      load = record {
        joined = labels_none b hb false v;
        bonded = labels_none c hc true v;
        fed = λ n k. (λ m. absurd (unmarked n m), λ (m, l, h). absurd (h.among));
        loaded = λ n k. (
          λ m. absurd (unmarked n m),
          λ h. elim h [ inl (m, l, t) ↦ absurd (t.among) | inr (m, l, t) ↦ absurd (t.among) ],
        );
      };
    }
