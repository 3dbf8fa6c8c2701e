-- What the answers on nodes say of the lists of a value, of the views of items, and of a composition.
use Rattle.std.proofs.Common.{◌≡◌, ℕ, ◌↔◌, Bool, List, length, refl, sym, ◌∙◌, ap, subst}
use Rattle.station_graph.specs.Diagram.{Diagram}
use Rattle.station_graph.specs.Connection.{Item}
use Rattle.station_graph.specs.Nodes.{Rises}
use Rattle.station_graph.specs.Views.{Supply, fed, SupplyBy, SameGapView, SameLoadView, CoupledBy, JoinedBy, BondedBy}
use Rattle.station_graph.specs.Views.{EnergisableBy, EarthableBy}
use Rattle.contraction.specs.Answers.{Answers, Keeps, SameAt, MarkedAt, AreLabels, SaysCoupled, SaysJoined, SaysBonded}
use Rattle.contraction.specs.Answers.{SaysEnergisable, SaysEarthable, SaysFed, SaysLoaded, SaysSupply, IsContraction}
use Rattle.contraction.specs.Answers.{SameGap, SameLoad}
use Rattle.contraction.specs.Stands.{GapStandsFor, LoadStandsFor}
use Rattle.contraction.specs.Rows.{gap_row, load_row, whole_row}
use Rattle.contraction.proofs.RowLemmas.{GapLists, LoadLists, gap_row_tells, load_row_tells, whole_row_tells}
use Rattle.contraction.proofs.RowLemmas.{labels_from_answers, marks_from_answers}
use Rattle.contraction.proofs.SupplyLemmas.{supply_from_marks, loaded_from_supply, supply_stands, supply_said}
use Rattle.contraction.proofs.KeepLemmas.{via}

pub back : (P Q : Type 0) → P ↔ Q → Q ↔ P
back P Q h = (h.1, h.0)

-- the same lists say the same of nodes
labels_say : (k1 k2 l1 l2 : List ℕ) → k1 ≡ k2 → l1 ≡ l2 → (a b : ℕ) → SameAt k1 l1 a b ↔ SameAt k2 l2 a b
labels_say k1 k2 l1 l2 ek el a b = (
  λ s. subst (λ k. SameAt k l2 a b) ek (subst (λ l. SameAt k1 l a b) el s),
  λ s. subst (λ l. SameAt k1 l a b) (sym el) (subst (λ k. SameAt k l2 a b) (sym ek) s),
)

marks_say : (k1 k2 : List ℕ) (m1 m2 : List Bool) → k1 ≡ k2 → m1 ≡ m2 → (a : ℕ) → MarkedAt k1 m1 a ↔ MarkedAt k2 m2 a
marks_say k1 k2 m1 m2 ek em a = (
  λ s. subst (λ k. MarkedAt k m2 a) ek (subst (λ (m : List Bool). MarkedAt k1 m a) em s),
  λ s. subst (λ (m : List Bool). MarkedAt k1 m a) (sym em) (subst (λ k. MarkedAt k m2 a) (sym ek) s),
)

pub supplies_say : (x y : Answers) (a b : ℕ) → SaysFed x a ↔ SaysFed y b → SaysLoaded x a ↔ SaysLoaded y b →
    (s : Supply) → SaysSupply x a s ↔ SaysSupply y b s
supplies_say x y a b f l s = (supply_from_marks x y a b f l s, supply_from_marks y x b a (f.1, f.0) (l.1, l.0) s)

pub gap_from_lists : (x y : Answers) → x.kept ≡ y.kept → GapLists x y → SameGap x y
gap_from_lists x y kept h = record {
  kept = kept;
  coupled = λ a b ka kb. labels_say x.kept y.kept x.coupled y.coupled kept h.coupled a b;
  energisable = λ a ka. marks_say x.kept y.kept x.energisable y.energisable kept h.energisable a;
  earthable = λ a ka. marks_say x.kept y.kept x.earthable y.earthable kept h.earthable a;
}

pub load_from_lists : (x y : Answers) → x.kept ≡ y.kept → LoadLists x y → SameLoad x y
load_from_lists x y kept h = record {
  kept = kept;
  joined = λ a b ka kb. labels_say x.kept y.kept x.joined y.joined kept h.joined a b;
  bonded = λ a b ka kb. labels_say x.kept y.kept x.bonded y.bonded kept h.bonded a b;
  supply =
      λ a ka s. supplies_say x y a a (marks_say x.kept y.kept x.fed y.fed kept h.fed a)
      (marks_say x.kept y.kept x.loaded y.loaded kept h.loaded a) s;
}

-- and the same answers on the same nodes come from the same lists

labels_on : (k1 k2 l1 l2 : List ℕ) → k1 ≡ k2 → Rises k1 → AreLabels (length k1) l1 → AreLabels (length k2) l2 →
    ((a b : ℕ) → Keeps k1 a → Keeps k1 b → SameAt k1 l1 a b ↔ SameAt k2 l2 a b) → l1 ≡ l2
labels_on k1 k2 l1 l2 e rises h1 h2 same =
    labels_from_answers k1 l1 l2 rises h1 (subst (λ k. AreLabels (length k) l2) (sym e) h2)
    (λ a b ka kb. via (SameAt k1 l1 a b) (SameAt k2 l2 a b) (SameAt k1 l2 a b) (same a b ka kb)
    (labels_say k2 k1 l2 l2 (sym e) refl a b))

marks_on : (k1 k2 : List ℕ) (m1 m2 : List Bool) → k1 ≡ k2 → Rises k1 → length m1 ≡ length k1 → length m2 ≡ length k2 →
    ((a : ℕ) → Keeps k1 a → MarkedAt k1 m1 a ↔ MarkedAt k2 m2 a) → m1 ≡ m2
marks_on k1 k2 m1 m2 e rises h1 h2 same =
    marks_from_answers k1 m1 m2 rises h1 (h2 ∙ ap length (sym e))
    (λ a ka. via (MarkedAt k1 m1 a) (MarkedAt k2 m2 a) (MarkedAt k1 m2 a) (same a ka)
    (marks_say k2 k1 m2 m2 (sym e) refl a))

module _ (x y : Answers) (wx : IsContraction x) (wy : IsContraction y) where
  pub lists_from_gap : SameGap x y → GapLists x y
  lists_from_gap h = record {
    coupled = labels_on x.kept y.kept x.coupled y.coupled h.kept wx.nodes.rises wx.coupled wy.coupled h.coupled;
    energisable =
        marks_on x.kept y.kept x.energisable y.energisable h.kept wx.nodes.rises wx.energisable wy.energisable
        h.energisable;
    earthable =
        marks_on x.kept y.kept x.earthable y.earthable h.kept wx.nodes.rises wx.earthable wy.earthable h.earthable;
  }

  pub loaded_same : SameLoad x y → (a : ℕ) → Keeps x.kept a → SaysLoaded x a ↔ SaysLoaded y a
  loaded_same h a ka = (
    loaded_from_supply x y a wx wy ka (λ s. (h.supply a ka s).0),
    loaded_from_supply y x a wy wx (subst (λ k. Keeps k a) h.kept ka) (λ s. (h.supply a ka s).1),
  )

  pub lists_from_load : SameLoad x y → LoadLists x y
  lists_from_load h = record {
    joined = labels_on x.kept y.kept x.joined y.joined h.kept wx.nodes.rises wx.joined wy.joined h.joined;
    bonded = labels_on x.kept y.kept x.bonded y.bonded h.kept wx.nodes.rises wx.bonded wy.bonded h.bonded;
    fed = marks_on x.kept y.kept x.fed y.fed h.kept wx.nodes.rises wx.fed wy.fed (λ a ka. h.supply a ka fed);
    loaded = marks_on x.kept y.kept x.loaded y.loaded h.kept wx.nodes.rises wx.loaded wy.loaded (loaded_same h);
  }

  -- ROWS ARE EQUAL EXACTLY WHERE THE VIEWS ARE
  pub gap_rows : (gap_row x ≡ gap_row y) ↔ SameGap x y
  gap_rows = (
    λ e. let t = gap_row_tells x y wx wy e in gap_from_lists x y t.0 t.1,
    λ h. let l = lists_from_gap h in cc (h.kept, l.coupled, l.energisable, l.earthable),
  )

  pub load_rows : (load_row x ≡ load_row y) ↔ SameLoad x y
  load_rows = (
    λ e. let t = load_row_tells x y wx wy e in load_from_lists x y t.0 t.1,
    λ h. let l = lists_from_load h in cc (h.kept, l.joined, l.bonded, l.fed, l.loaded),
  )

  pub whole_rows : (whole_row x ≡ whole_row y) ↔ (SameGap x y × SameLoad x y)
  whole_rows = (
    λ e. let t = whole_row_tells x y wx wy e in (gap_from_lists x y t.0 t.1, load_from_lists x y t.0 t.2),
    λ h.
        let l = lists_from_gap h.0 in
        let m = lists_from_load h.1 in
        cc (h.0.kept, l.coupled, l.energisable, l.earthable, m.joined, m.bonded, m.fed, m.loaded),
  )

-- VALUES TELL THE VIEWS FOR WHICH THEY STAND
module _ (These : Item → Type 0) (d : Diagram) (v w : List Bool) (x y : Answers) (kept : x.kept ≡ y.kept) where
  on_y : (a : ℕ) → Keeps x.kept a → Keeps y.kept a
  on_y a k = subst (λ l. Keeps l a) kept k

  pub gap_told : GapStandsFor These d v x → GapStandsFor These d w y → SameGap x y ↔
      SameGapView (Keeps x.kept) These d v w
  gap_told sx sy = (
    λ h. record {
      coupled =
          λ a b ka kb. via (CoupledBy These d v a b) (SaysCoupled x a b) (CoupledBy These d w a b)
          (back (SaysCoupled x a b) (CoupledBy These d v a b) (sx.coupled a b ka kb)) (via (SaysCoupled x a b)
          (SaysCoupled y a b) (CoupledBy These d w a b) (h.coupled a b ka kb) (sy.coupled a b (on_y a ka) (on_y b kb)));
      energisable =
          λ a ka. via (EnergisableBy These d v a) (SaysEnergisable x a) (EnergisableBy These d w a)
          (back (SaysEnergisable x a) (EnergisableBy These d v a) (sx.energisable a ka)) (via (SaysEnergisable x a)
          (SaysEnergisable y a) (EnergisableBy These d w a) (h.energisable a ka) (sy.energisable a (on_y a ka)));
      earthable =
          λ a ka. via (EarthableBy These d v a) (SaysEarthable x a) (EarthableBy These d w a)
          (back (SaysEarthable x a) (EarthableBy These d v a) (sx.earthable a ka)) (via (SaysEarthable x a)
          (SaysEarthable y a) (EarthableBy These d w a) (h.earthable a ka) (sy.earthable a (on_y a ka)));
    },
    λ h. record {
      kept = kept;
      coupled =
          λ a b ka kb. via (SaysCoupled x a b) (CoupledBy These d v a b) (SaysCoupled y a b) (sx.coupled a b ka kb) (via
          (CoupledBy These d v a b) (CoupledBy These d w a b) (SaysCoupled y a b) (h.coupled a b ka kb)
          (back (SaysCoupled y a b) (CoupledBy These d w a b) (sy.coupled a b (on_y a ka) (on_y b kb))));
      energisable =
          λ a ka. via (SaysEnergisable x a) (EnergisableBy These d v a) (SaysEnergisable y a) (sx.energisable a ka) (via
          (EnergisableBy These d v a) (EnergisableBy These d w a) (SaysEnergisable y a) (h.energisable a ka)
          (back (SaysEnergisable y a) (EnergisableBy These d w a) (sy.energisable a (on_y a ka))));
      earthable =
          λ a ka. via (SaysEarthable x a) (EarthableBy These d v a) (SaysEarthable y a) (sx.earthable a ka) (via
          (EarthableBy These d v a) (EarthableBy These d w a) (SaysEarthable y a) (h.earthable a ka)
          (back (SaysEarthable y a) (EarthableBy These d w a) (sy.earthable a (on_y a ka))));
    },
  )

  supplied : (u : List Bool) (z : Answers) → LoadStandsFor These d u z → (a : ℕ) → Keeps z.kept a → (s : Supply) →
      SaysSupply z a s ↔ SupplyBy These d u a s
  supplied u z h a k s = (supply_stands These d u z h a k s, supply_said These d u z h a k s)

  pub load_told : LoadStandsFor These d v x → LoadStandsFor These d w y → SameLoad x y ↔
      SameLoadView (Keeps x.kept) These d v w
  load_told sx sy = (
    λ h. record {
      joined =
          λ a b ka kb. via (JoinedBy These d v a b) (SaysJoined x a b) (JoinedBy These d w a b)
          (back (SaysJoined x a b) (JoinedBy These d v a b) (sx.joined a b ka kb)) (via (SaysJoined x a b)
          (SaysJoined y a b) (JoinedBy These d w a b) (h.joined a b ka kb) (sy.joined a b (on_y a ka) (on_y b kb)));
      bonded =
          λ a b ka kb. via (BondedBy These d v a b) (SaysBonded x a b) (BondedBy These d w a b)
          (back (SaysBonded x a b) (BondedBy These d v a b) (sx.bonded a b ka kb)) (via (SaysBonded x a b)
          (SaysBonded y a b) (BondedBy These d w a b) (h.bonded a b ka kb) (sy.bonded a b (on_y a ka) (on_y b kb)));
      supply =
          λ a ka s. via (SupplyBy These d v a s) (SaysSupply x a s) (SupplyBy These d w a s)
          (back (SaysSupply x a s) (SupplyBy These d v a s) (supplied v x sx a ka s)) (via (SaysSupply x a s)
          (SaysSupply y a s) (SupplyBy These d w a s) (h.supply a ka s) (supplied w y sy a (on_y a ka) s));
    },
    λ h. record {
      kept = kept;
      joined =
          λ a b ka kb. via (SaysJoined x a b) (JoinedBy These d v a b) (SaysJoined y a b) (sx.joined a b ka kb) (via
          (JoinedBy These d v a b) (JoinedBy These d w a b) (SaysJoined y a b) (h.joined a b ka kb)
          (back (SaysJoined y a b) (JoinedBy These d w a b) (sy.joined a b (on_y a ka) (on_y b kb))));
      bonded =
          λ a b ka kb. via (SaysBonded x a b) (BondedBy These d v a b) (SaysBonded y a b) (sx.bonded a b ka kb) (via
          (BondedBy These d v a b) (BondedBy These d w a b) (SaysBonded y a b) (h.bonded a b ka kb)
          (back (SaysBonded y a b) (BondedBy These d w a b) (sy.bonded a b (on_y a ka) (on_y b kb))));
      supply =
          λ a ka s. via (SaysSupply x a s) (SupplyBy These d v a s) (SaysSupply y a s) (supplied v x sx a ka s) (via
          (SupplyBy These d v a s) (SupplyBy These d w a s) (SaysSupply y a s) (h.supply a ka s)
          (back (SaysSupply y a s) (SupplyBy These d w a s) (supplied w y sy a (on_y a ka) s)));
    },
  )
