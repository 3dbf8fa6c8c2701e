-- Each list of choices is given by a vector, and each vector gives one.
use Rattle.std.proofs.Common.{◌≡◌, ℕ, ◌+◌, ◌-◌, ◌<◌, ◌≤◌, zero, suc, Bool, false, eqb, List, length, get_or, slice_get}
use Rattle.std.proofs.Common.{slice_set, Some, refl, sym, ap, ◌∙◌, subst, inl, inr, arith}
use Rattle.std.proofs.lemmas.Bool.{cases_eq, cases_order}
use Rattle.std.proofs.lemmas.Option.{slice_get-get_or, slice_get_within}
use Rattle.std.proofs.lemmas.List.{length-set}
use Rattle.station_graph.specs.Diagram.{Diagram, part_count}
use Rattle.station_graph.specs.Connection.{Item, a_switch}
use Rattle.station_graph.specs.Sharing.{OfPart}
use Rattle.station_graph.specs.Alike.{IsVector, SamePositions}
use Rattle.station_graph.proofs.PositionLemmas.{slice_get-set_other}
use Rattle.station_graph.proofs.MixLemmas.{one_part, mixed}
use Rattle.contraction.proofs.MarkLemmas.{slice_get-set_same}
use Rattle.decision_graphs.specs.Label.{Layer, layer_at, AreChoices}
use Rattle.judge_pool.specs.Lettered.{Lettered, AreLettered, index_count}
use Rattle.judge_pool.specs.Folding.{AreChosen}
use Rattle.judge_pool.specs.Graphs.{other_of, PartChosen, SwitchChosen}
use Rattle.judge_intake.proofs.OtherLemmas.{other_in, code, code_back, code_small, switches_apart}
use Rattle.judge_intake.proofs.MoveLemmas.{index_moves}
use Rattle.judge_graphs.proofs.PartnerChoices.{count_choices, choice_in, gather}

-- From v by other positions of these items alone one comes to a vector that has what is wanted.
pub record Placed (d : Diagram) (Here : Item → Type 0) (Has : List Bool → Type 0) (v : List Bool) : Type 0 where
  pub vector : List Bool
  pub whole : IsVector d vector
  pub stays : SamePositions (λ item. ¬ Here item) v vector
  pub has : Has vector

-- What `Chosen j c v` says of a vector is a choice of each layer: each vector gives one, which depends on the
-- positions of the items `Where j` alone, and each is given by some position of these. No switch is in two
-- places.
pub record CanPlace (d : Diagram) (ls : List Layer) (Chosen : ℕ → ℕ → List Bool → Type 0)
    (Where : ℕ → Item → Type 0) : Type 0 where
  pub given : (v : List Bool) (j : ℕ) → IsVector d v → j < length ls →
      (c : ℕ) × (c < (layer_at ls j).choices) × Chosen j c v
  pub local : (v w : List Bool) (j c : ℕ) → IsVector d v → IsVector d w → SamePositions (Where j) v w → Chosen j c v →
      Chosen j c w
  pub placed : (v : List Bool) (j c : ℕ) → IsVector d v → j < length ls → c < (layer_at ls j).choices →
      Placed d (Where j) (Chosen j c) v
  pub apart : (j k i : ℕ) → Where j (a_switch i) → Where k (a_switch i) → j ≡ k

module _ (d : Diagram) (ls : List Layer) (Chosen : ℕ → ℕ → List Bool → Type 0) (Where : ℕ → Item → Type 0)
    (can : CanPlace d ls Chosen Where) where
  -- the choices that a vector gives
  pub choices_of : (v : List Bool) → IsVector d v → (cs : List ℕ) × AreChoices ls cs × AreChosen Chosen v cs
  choices_of v whole = gather ls (λ j c. Chosen j c v) (λ j lt. can.given v j whole lt)

  record PlacedBelow (cs : List ℕ) (v : List Bool) (n : ℕ) : Type 0 where
    vector : List Bool
    whole : IsVector d vector
    stays : (i : ℕ) → ((j : ℕ) → j < length ls → ¬ Where j (a_switch i)) → slice_get v i ≡ slice_get vector i
    chosen : (j : ℕ) → j < n → Chosen j (get_or cs j 0) vector

  place_below : (cs : List ℕ) (v : List Bool) → AreChoices ls cs → IsVector d v → (n : ℕ) → n ≤ length ls →
      PlacedBelow cs v n
  place_below cs v fit whole zero le = record {
    vector = v;
    whole = whole;
    stays = λ i out. refl;
    chosen = λ j lt. absurd (omega (arith, lt));
  }
  place_below cs v fit whole (suc n) le =
      let p = place_below cs v fit whole n (omega (arith, le)) in
      let n_in : n < length ls = omega (arith, le) in
      let q = can.placed p.vector n (get_or cs n 0) p.whole n_in (choice_in ls cs n fit n_in) in
      record {
        vector = q.vector;
        whole = q.whole;
        stays = λ i out. p.stays i out ∙ q.stays i (out n n_in);
        chosen = λ j lt. elim (cases_eq j n) [
          | inl e ↦ subst (λ k. Chosen k (get_or cs k 0) q.vector) (sym e) q.has
          | inr ne ↦
              can.local p.vector q.vector j (get_or cs j 0) p.whole q.whole
              (λ i here. q.stays i (λ there. ne (can.apart j n i here there))) (p.chosen j (omega (arith, lt, ne)))
        ];
      }

  -- a vector that gives these choices
  pub record Given (cs : List ℕ) (v : List Bool) : Type 0 where
    pub vector : List Bool
    pub whole : IsVector d vector
    pub stays : (i : ℕ) → ((j : ℕ) → j < length ls → ¬ Where j (a_switch i)) → slice_get v i ≡ slice_get vector i
    pub chosen : AreChosen Chosen vector cs

  pub place_all : (cs : List ℕ) (v : List Bool) → AreChoices ls cs → IsVector d v → Given cs v
  place_all cs v fit whole =
      let p = place_below cs v fit whole (length ls) (omega arith) in
      record {
        vector = p.vector;
        whole = p.whole;
        stays = p.stays;
        chosen =
            λ j c at. subst (λ x. Chosen j x p.vector) (entry_is j c at)
            (p.chosen j (omega (arith, slice_get_within cs j c at, count_choices ls cs fit)));
      }
    where
      entry_is : (j c : ℕ) → slice_get cs j ≡ Some c → get_or cs j 0 ≡ c
      entry_is j c at =
          (let e : Some (get_or cs j 0) ≡ Some c = sym (slice_get-get_or cs j 0 (slice_get_within cs j c at)) ∙ at in
          cc)

-- ---- the other switches of a bay

-- it is one of the bay's
pub own_in : (first m count i : ℕ) → suc i < count → (first ≤ other_of first m i) × (other_of first m i < first + count)
own_in first m count i lt =
    (let range = other_in first m (count - 1) i (omega (arith, lt)) in (range.0, omega (arith, range.1, lt)))

pub others_same : (first m i k : ℕ) → other_of first m i ≡ other_of first m k → i ≡ k
others_same first m i k e = elim (cases_order i k) [
  | inl same ↦ same
  | inr order ↦ elim order [
    | inl less ↦ absurd (switches_apart first m i k less e)
    | inr more ↦ absurd (switches_apart first m k i more (sym e))
  ]
]

same_switch : (i k : ℕ) → ◌≡◌ {A = Item} (a_switch i) (a_switch k) → i ≡ k
same_switch i k e = cc

-- The positions of the other switches of a bay can be placed.
pub own_placing : (d : Diagram) (ls : List Layer) (first m count : ℕ) → suc (length ls) ≡ count →
    ((k : ℕ) → k < length ls → (layer_at ls k).choices ≡ 2) → first + count ≤ length d.switches →
    CanPlace d ls (SwitchChosen first m) (λ k item. item ≡ a_switch (other_of first m k))
own_placing d ls first m count others two within = record {
  given = λ v j whole lt.
      let o_in : other_of first m j < length v =
      omega (arith, (own_in first m count j (omega (arith, lt, others))).1, within, whole) in
      let closed : Bool = get_or v (other_of first m j) false in (
        code closed,
        omega (arith, code_small closed, two j lt),
        record {
          small = code_small closed;
          stands = slice_get-get_or v (other_of first m j) false o_in ∙ ap Some (sym (code_back closed));
        },
      );
  local = λ v w j c whole_v whole_w same at. record {
    small = at.small;
    stands = sym (same (other_of first m j) refl) ∙ at.stands;
  };
  placed = λ v j c whole lt c_in.
      let o_in : other_of first m j < length v =
      omega (arith, (own_in first m count j (omega (arith, lt, others))).1, within, whole) in
      record {
        vector = slice_set v (other_of first m j) (eqb c 1);
        whole = length-set v (other_of first m j) (eqb c 1) ∙ whole;
        stays =
            λ i not_here. sym (slice_get-set_other v (other_of first m j) i (eqb c 1) (λ e. not_here (ap a_switch e)));
        has = record {
          small = omega (arith, c_in, two j lt);
          stands = slice_get-set_same v (other_of first m j) (eqb c 1) o_in;
        };
      };
  apart =
      λ j k i here there. others_same first m j k
      (same_switch (other_of first m j) (other_of first m k) (sym here ∙ there));
}

-- ---- the other parts

-- The items of the j-th other part.
abbrev pub OfOther : Diagram → ℕ → ℕ → Item → Type 0
OfOther d c j item = OfPart d (other_of 0 c j) item

-- The indices of the other parts can be placed.
pub parts_placing : (a : Lettered) (c : ℕ) (ls : List Layer) → AreLettered a → suc (length ls) ≡ part_count a.diagram →
    ((j : ℕ) → j < length ls → (layer_at ls j).choices ≡ index_count a (other_of 0 c j)) →
    CanPlace a.diagram ls (PartChosen a c) (OfOther a.diagram c)
parts_placing a c ls are layers choices = record {
  given = λ v j whole lt.
      let h = (are.alphabets.each (other_of 0 c j) (other_part j lt)).indexed v whole in
      (h.0, omega (arith, slice_get_within _ h.0 h.1.letter h.1.listed, choices j lt), h.1);
  local = λ v w j i whole_v whole_w same has. index_moves a (other_of 0 c j) i v w same has;
  placed = λ v j i whole lt i_in.
      let p : ℕ = other_of 0 c j in
      let alphabet = are.alphabets.each p (other_part j lt) in
      let small : i < index_count a p = omega (arith, i_in, choices j lt) in
      let u = alphabet.given i small in
      let has = (alphabet.examples i small).has u.0 u.1 u.2 in
      let x = mixed a.diagram p u.0 v u.1 whole in
      record { vector = x.0; whole = x.1; stays = x.3; has = index_moves a p i u.0 x.0 x.2 has };
  apart = λ j k i here there. others_same 0 c j k (one_part a.diagram (other_of 0 c j) (other_of 0 c k) i here there);
}
  where
    other_part : (j : ℕ) → j < length ls → other_of 0 c j < part_count a.diagram
    other_part j lt = (let h = (other_in 0 c (length ls) j lt).1 in omega (arith, h, layers))
