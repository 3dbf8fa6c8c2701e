-- Values on other nodes answer what they did, and what is composed stays composed.
use Rattle.std.proofs.Common.{◌≡◌, ℕ, ◌⊎◌, ◌↔◌, Bool, List, [], ◌∷◌, length, slice_get, Some, refl, sym, ◌∙◌, ap}
use Rattle.std.proofs.Common.{subst, inl, inr, arith}
use Rattle.std.proofs.lemmas.Option.{slice_get_within}
use Rattle.station_graph.specs.Connection.{LeadsTo, Linked}
use Rattle.station_graph.specs.Nodes.{Rises}
use Rattle.station_graph.specs.Views.{Supply}
use Rattle.station_graph.proofs.LinkedLemmas.{linked_self, linked_one, linked_trans}
use Rattle.contraction.specs.Answers.{Answers, Keeps, SameAt, MarkedAt}
use Rattle.contraction.specs.Answers.{SaysSupply, SameGap, SameLoad}
use Rattle.contraction.specs.Composing.{SameInEither, LabelsCompose, MarksCompose}
use Rattle.contraction.specs.Renaming.{renamed}
use Rattle.contraction.proofs.ValueLemmas.{one_place}
use Rattle.contraction.proofs.ViewLemmas.{supplies_say}
use Rattle.bay_contract.specs.Turns.{AreTogether}
use Rattle.bay_contract.specs.Courses.{AtOnePlace, AreRelated}
use Rattle.bay_contract.proofs.NextLemmas.{some_at}

-- the other way round
abbrev pub Back : (ℕ → ℕ → Type 0) → ℕ → ℕ → Type 0
Back R m n = R n m

pub related_back : (R : ℕ → ℕ → Type 0) (xs ys : List ℕ) → AreRelated R xs ys → AreRelated (Back R) ys xs
related_back R xs ys r = record { len = sym r.len; each = λ i m n at_m at_n. r.each i n m at_n at_m }

-- each node has one partner
abbrev pub ToOne : (ℕ → ℕ → Type 0) → Type 0
ToOne R = (n m k : ℕ) → R n m → R n k → m ≡ k

-- the partner of an entry stands at its place
pub partner : (R : ℕ → ℕ → Type 0) (xs ys : List ℕ) → AreRelated R xs ys → (i n : ℕ) → slice_get xs i ≡ Some n
    → (m : ℕ) × (slice_get ys i ≡ Some m) × R n m
partner R xs ys r i n at =
    let (m, at_m) = some_at ys i (omega (arith, slice_get_within xs i n at, r.len)) in
    (m, at_m, r.each i n m at at_m)

pub keeps_moves : (R : ℕ → ℕ → Type 0) (xs ys : List ℕ) → AreRelated R xs ys → (n : ℕ) → Keeps xs n
    → (m : ℕ) × Keeps ys m × R n m
keeps_moves R xs ys r n k = let (m, at, rm) = partner R xs ys r k.place n k.at in (
  m,
  record {
    place = k.place;
    at = at;
  },
  rm,
)

pub same_moves : (R : ℕ → ℕ → Type 0) → ToOne R → (xs ys labels : List ℕ) → AreRelated R xs ys → (a b c e : ℕ) → R a c
    → R b e → SameAt xs labels a b → SameAt ys labels c e
same_moves R one xs ys labels r a b c e ra rb s =
    let (m, at_m, rm) = partner R xs ys r s.first a s.at_first in
    let (k, at_k, rk) = partner R xs ys r s.second b s.at_second in
    record {
      first = s.first;
      second = s.second;
      at_first = at_m ∙ ap Some (one a m c rm ra);
      at_second = at_k ∙ ap Some (one b k e rk rb);
      same = s.same;
    }

pub marked_moves : (R : ℕ → ℕ → Type 0) → ToOne R → (xs ys : List ℕ) (marks : List Bool) → AreRelated R xs ys
    → (a c : ℕ) → R a c → MarkedAt xs marks a → MarkedAt ys marks c
marked_moves R one xs ys marks r a c ra s =
    let (m, at_m, rm) = partner R xs ys r s.place a s.at in
    record { place = s.place; at = at_m ∙ ap Some (one a m c rm ra); marked = s.marked }

-- a chain of classes leads between the partners too
module _ (R : ℕ → ℕ → Type 0) (one : ToOne R) (k1 k2 n1 n2 l1 l2 : List ℕ) (r1 : AreRelated R k1 n1)
    (r2 : AreRelated R k2 n2) where
  either_moves : (a b c : ℕ) → R a c → SameInEither k1 l1 k2 l2 a b → (e : ℕ) × R b e × SameInEither n1 l1 n2 l2 c e
  either_moves a b c ra (inl s) =
      let (m, at_m, rm) = partner R k1 n1 r1 s.second b s.at_second in
      (m, rm, inl (same_moves R one k1 n1 l1 r1 a b c m ra rm s))
  either_moves a b c ra (inr s) =
      let (m, at_m, rm) = partner R k2 n2 r2 s.second b s.at_second in
      (m, rm, inr (same_moves R one k2 n2 l2 r2 a b c m ra rm s))

  lead_moves : (a : ℕ) (xs : List ℕ) (b c : ℕ) → R a c → LeadsTo (SameInEither k1 l1 k2 l2) a xs b
      → (e : ℕ) × R b e × Linked (SameInEither n1 l1 n2 l2) c e
  lead_moves a [] b c ra e = (c, subst (λ n. R n c) e ra, linked_self (SameInEither n1 l1 n2 l2) c)
  lead_moves a (x ∷ xs) b c ra l =
      let (y, ry, step) = either_moves a x c ra l.0 in
      let (e, re, rest) = lead_moves x xs b y ry l.1 in
      (e, re, linked_trans (SameInEither n1 l1 n2 l2) c y e (linked_one (SameInEither n1 l1 n2 l2) c y step) rest)

  pub linked_moves : (a b c : ℕ) → R a c → Linked (SameInEither k1 l1 k2 l2) a b → (e : ℕ) × R b e × Linked
      (SameInEither n1 l1 n2 l2) c e
  linked_moves a b c ra l = lead_moves a l.after b c ra l.leads

module _ (R : ℕ → ℕ → Type 0) (one : ToOne R) (back : ToOne (Back R)) where
  module _ (k1 k2 k n1 n2 n : List ℕ) (r1 : AreRelated R k1 n1) (r2 : AreRelated R k2 n2) (r : AreRelated R k n) where
    labels_moved : (l1 l2 l : List ℕ) → LabelsCompose k1 l1 k2 l2 k l → LabelsCompose n1 l1 n2 l2 n l
    labels_moved l1 l2 l h c e kc ke =
        let (a, ka, ra) = keeps_moves (Back R) n k (related_back R k n r) c kc in
        let (b, kb, rb) = keeps_moves (Back R) n k (related_back R k n r) e ke in
        let m = h a b ka kb in (
          λ s.
              let old = m.0 (same_moves (Back R) back n k l (related_back R k n r) c e a b ra rb s) in
              let (x, rx, new) = linked_moves R one k1 k2 n1 n2 l1 l2 r1 r2 a b c ra old in
              subst (λ y. Linked (SameInEither n1 l1 n2 l2) c y) (one b x e rx rb) new,
          λ w.
              let (x, rx, old) = linked_moves (Back R) back n1 n2 k1 k2 l1 l2 (related_back R k1 n1 r1)
              (related_back R k2 n2 r2) c e a ra w in
              same_moves R one k n l r a b c e ra rb (m.1 (subst (λ y. Linked (SameInEither k1 l1 k2 l2) a y)
              (back e x b rx rb) old)),
        )

    marks_moved : (l1 l2 : List ℕ) (m1 m2 marks : List Bool) → MarksCompose k1 l1 m1 k2 l2 m2 k marks
        → MarksCompose n1 l1 m1 n2 l2 m2 n marks
    marks_moved l1 l2 m1 m2 marks h c kc =
        let (a, ka, ra) = keeps_moves (Back R) n k (related_back R k n r) c kc in
        let m = h a ka in (
          λ s.
              let (x, l, found) = m.0 (marked_moves (Back R) back n k marks (related_back R k n r) c a ra s) in
              let (y, ry, new) = linked_moves R one k1 k2 n1 n2 l1 l2 r1 r2 a x c ra l in (
                y,
                new,
                elim found [
                  | inl f ↦ inl (marked_moves R one k1 n1 m1 r1 x y ry f)
                  | inr f ↦ inr
                      (marked_moves R one k2 n2 m2 r2 x y ry f)
                ],
              ),
          λ (x, l, found).
              let (y, ry, old) = linked_moves (Back R) back n1 n2 k1 k2 l1 l2 (related_back R k1 n1 r1)
              (related_back R k2 n2 r2) c x a ra l in
              marked_moves R one k n marks r a c ra (m.1 (
                y,
                old,
                elim found [
                  | inl f ↦ inl (marked_moves (Back R) back n1 k1 m1 (related_back R k1 n1 r1) x y ry f)
                  | inr f ↦ inr (marked_moves (Back R) back n2 k2 m2 (related_back R k2 n2 r2) x y ry f)
                ],
              )),
        )

  -- WHAT IS COMPOSED STAYS COMPOSED
  pub together_moved : (x y c : Answers) (nx ny nc : List ℕ) → AreRelated R x.kept nx → AreRelated R y.kept ny
      → AreRelated R c.kept nc → AreTogether x y c → AreTogether (renamed nx x) (renamed ny y) (renamed nc c)
  together_moved x y c nx ny nc rx ry rc h =
      let kept : (n : ℕ) → Keeps nc n → Keeps nx n ⊎ Keeps ny n = λ n k.
      let (m, km, rm) = keeps_moves (Back R) nc c.kept (related_back R c.kept nc rc) n k in
      elim (h.gap.kept m km) [
        | inl i ↦ (let (o, ko, ro) = keeps_moves R x.kept nx rx m i in inl (subst (λ p. Keeps nx p)
            (one m o n ro rm) ko))
        | inr i ↦ (let (o, ko, ro) = keeps_moves R y.kept ny ry m i in inr (subst (λ p. Keeps ny p)
            (one m o n ro rm) ko))
      ] in
      record {
        gap = record {
          kept = kept;
          coupled = labels_moved x.kept y.kept c.kept nx ny nc rx ry rc x.coupled y.coupled c.coupled h.gap.coupled;
          energisable =
              marks_moved x.kept y.kept c.kept nx ny nc rx ry rc x.coupled y.coupled x.energisable y.energisable
              c.energisable h.gap.energisable;
          earthable =
              marks_moved x.kept y.kept c.kept nx ny nc rx ry rc x.coupled y.coupled x.earthable y.earthable
              c.earthable h.gap.earthable;
        };
        load = record {
          kept = kept;
          joined = labels_moved x.kept y.kept c.kept nx ny nc rx ry rc x.joined y.joined c.joined h.load.joined;
          bonded = labels_moved x.kept y.kept c.kept nx ny nc rx ry rc x.bonded y.bonded c.bonded h.load.bonded;
          fed = marks_moved x.kept y.kept c.kept nx ny nc rx ry rc x.joined y.joined x.fed y.fed c.fed h.load.fed;
          loaded = marks_moved x.kept y.kept c.kept nx ny nc rx ry rc x.joined y.joined x.loaded y.loaded c.loaded
              h.load.loaded;
        };
      }

  -- values that answer the same on other nodes answer the same
  module _ (k n : List ℕ) (r : AreRelated R k n) where
    same_back : (l m : List ℕ) → ((a b : ℕ) → Keeps n a → Keeps n b → SameAt n l a b ↔ SameAt n m a b) → (a b : ℕ)
        → Keeps k a → Keeps k b → SameAt k l a b ↔ SameAt k m a b
    same_back l m h a b ka kb =
        let (c, kc, rc) = keeps_moves R k n r a ka in
        let (e, ke, re) = keeps_moves R k n r b kb in
        let o = h c e kc ke in (
          λ s. same_moves (Back R) back n k m (related_back R k n r) c e a b rc re (o.0
              (same_moves R one k n l r a b c e rc re s)),
          λ s. same_moves (Back R) back n k l (related_back R k n r) c e a b rc re (o.1
              (same_moves R one k n m r a b c e rc re s)),
        )

    marked_both : (m : List Bool) (a c : ℕ) → R a c → MarkedAt k m a ↔ MarkedAt n m c
    marked_both m a c ra = (
      λ s. marked_moves R one k n m r a c ra s,
      λ s. marked_moves (Back R) back n k m
          (related_back R k n r) c a ra s,
    )

    marked_back : (l m : List Bool) → ((a : ℕ) → Keeps n a → MarkedAt n l a ↔ MarkedAt n m a) → (a : ℕ) → Keeps k a
        → MarkedAt k l a ↔ MarkedAt k m a
    marked_back l m h a ka =
        let (c, kc, rc) = keeps_moves R k n r a ka in
        let o = h c kc in (
          λ s. (marked_both m a c rc).1 (o.0 ((marked_both l a c rc).0 s)),
          λ s. (marked_both l a c rc).1 (o.1
              ((marked_both m a c rc).0 s)),
        )

    pub gap_renamed : (x y : Answers) → x.kept ≡ k → y.kept ≡ k → SameGap (renamed n x) (renamed n y)
        → SameGap (renamed k x) (renamed k y)
    gap_renamed x y ex ey h = record {
      kept = refl;
      coupled = same_back x.coupled y.coupled h.coupled;
      energisable = marked_back x.energisable y.energisable h.energisable;
      earthable = marked_back x.earthable y.earthable h.earthable;
    }

    supply_both : (x : Answers) (a c : ℕ) → R a c → (s : Supply) → SaysSupply (renamed k x) a s ↔ SaysSupply
        (renamed n x) c s
    supply_both x a c ra = supplies_say (renamed k x) (renamed n x) a c (marked_both x.fed a c ra)
        (marked_both x.loaded a c ra)

    pub load_renamed : (x y : Answers) → x.kept ≡ k → y.kept ≡ k → SameLoad (renamed n x) (renamed n y)
        → SameLoad (renamed k x) (renamed k y)
    load_renamed x y ex ey h = record {
      kept = refl;
      joined = same_back x.joined y.joined h.joined;
      bonded = same_back x.bonded y.bonded h.bonded;
      supply = λ a ka s.
          let (c, kc, rc) = keeps_moves R k n r a ka in
          let o = h.supply c kc s in (
            λ t. (supply_both y a c rc s).1 (o.0 ((supply_both x a c rc s).0 t)),
            λ t. (supply_both x a c rc s).1 (o.1 ((supply_both y a c rc s).0 t)),
          );
    }

-- a value on its own nodes is itself
pub renamed_own : (k : List ℕ) (x : Answers) → x.kept ≡ k → renamed k x ≡ x
renamed_own k x e = ap (λ l. renamed l x) (sym e)

-- the places of two rising lists
pub places_to_one : (from to : List ℕ) → Rises from → ToOne (AtOnePlace from to)
places_to_one from to rises n m k p q =
    let e : p.place ≡ q.place = one_place from rises p.place q.place n p.first q.first in
    cc (p.second, q.second, ap (slice_get to) e)

pub places_back : (from to : List ℕ) → Rises to → ToOne (Back (AtOnePlace from to))
places_back from to rises n m k p q =
    let e : p.place ≡ q.place = one_place to rises p.place q.place n p.second q.second in
    cc (p.first, q.first, ap (slice_get from) e)

pub places_related : (from to : List ℕ) → length from ≡ length to → AreRelated (AtOnePlace from to) from to
places_related from to e = record {
  len = e;
  each = λ i n m at_n at_m. record {
    place = i;
    first = at_n;
    second = at_m;
  };
}
