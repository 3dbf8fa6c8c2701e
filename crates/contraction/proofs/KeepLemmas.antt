-- A value on fewer nodes stands for what it stood for.
use Rattle.std.proofs.Common.{ℕ, ◌⊎◌, ◌↔◌, Bool, List}
use Rattle.station_graph.specs.Diagram.{Diagram}
use Rattle.station_graph.specs.Connection.{Item, Linked}
use Rattle.station_graph.specs.Views.{CoupledBy, JoinedBy, BondedBy, EnergisableBy, EarthableBy, FedBy, TappedBy}
use Rattle.contraction.specs.Answers.{Answers, MarkedAt, SaysCoupled, SaysJoined, SaysBonded, SaysEnergisable}
use Rattle.contraction.specs.Answers.{SaysEarthable, SaysFed, SaysLoaded}
use Rattle.contraction.specs.Stands.{GapStandsFor, LoadStandsFor}
use Rattle.contraction.specs.Composing.{Restricts, SameInEither, ComposesGap, ComposesLoad}

pub via : (P Q R : Type 0) → P ↔ Q → Q ↔ R → P ↔ R
via P Q R f g = (λ p. g.0 (f.0 p), λ r. f.1 (g.1 r))

pub restricts_gap : (These : Item → Type 0) (d : Diagram) (v : List Bool) (c r : Answers) → Restricts c r →
    GapStandsFor These d v c → GapStandsFor These d v r
restricts_gap These d v c r h s = record {
  coupled =
      λ a b ka kb. via (SaysCoupled r a b) (SaysCoupled c a b) (CoupledBy These d v a b) (h.coupled a b ka kb)
      (s.coupled a b (h.kept a ka) (h.kept b kb));
  energisable =
      λ a ka. via (SaysEnergisable r a) (SaysEnergisable c a) (EnergisableBy These d v a) (h.energisable a ka)
      (s.energisable a (h.kept a ka));
  earthable =
      λ a ka. via (SaysEarthable r a) (SaysEarthable c a) (EarthableBy These d v a) (h.earthable a ka)
      (s.earthable a (h.kept a ka));
}

pub restricts_load : (These : Item → Type 0) (d : Diagram) (v : List Bool) (c r : Answers) → Restricts c r →
    LoadStandsFor These d v c → LoadStandsFor These d v r
restricts_load These d v c r h s = record {
  joined =
      λ a b ka kb. via (SaysJoined r a b) (SaysJoined c a b) (JoinedBy These d v a b) (h.joined a b ka kb)
      (s.joined a b (h.kept a ka) (h.kept b kb));
  bonded =
      λ a b ka kb. via (SaysBonded r a b) (SaysBonded c a b) (BondedBy These d v a b) (h.bonded a b ka kb)
      (s.bonded a b (h.kept a ka) (h.kept b kb));
  fed = λ a ka. via (SaysFed r a) (SaysFed c a) (FedBy These d v a) (h.fed a ka) (s.fed a (h.kept a ka));
  loaded =
      λ a ka. via (SaysLoaded r a) (SaysLoaded c a) (FedBy These d v a ⊎ TappedBy These d v a) (h.loaded a ka)
      (s.loaded a (h.kept a ka));
}

-- a composition on fewer nodes
module _ (x y c r : Answers) (h : Restricts c r) where
  abbrev Coupling : ℕ → ℕ → Type 0
  Coupling = Linked (SameInEither x.kept x.coupled y.kept y.coupled)

  abbrev Joining : ℕ → ℕ → Type 0
  Joining = Linked (SameInEither x.kept x.joined y.kept y.joined)

  abbrev Bonding : ℕ → ℕ → Type 0
  Bonding = Linked (SameInEither x.kept x.bonded y.kept y.bonded)

  abbrev LedTo : (ℕ → ℕ → Type 0) → List Bool → List Bool → ℕ → Type 0
  LedTo Leads mx my a = (m : ℕ) × Leads a m × (MarkedAt x.kept mx m ⊎ MarkedAt y.kept my m)

  pub gap_on_fewer : ComposesGap x y c → ComposesGap x y r
  gap_on_fewer m = record {
    kept = λ n k. m.kept n (h.kept n k);
    coupled =
        λ a b ka kb. via (SaysCoupled r a b) (SaysCoupled c a b) (Coupling a b) (h.coupled a b ka kb)
        (m.coupled a b (h.kept a ka) (h.kept b kb));
    energisable =
        λ a ka. via (SaysEnergisable r a) (SaysEnergisable c a) (LedTo Coupling x.energisable y.energisable a)
        (h.energisable a ka) (m.energisable a (h.kept a ka));
    earthable =
        λ a ka. via (SaysEarthable r a) (SaysEarthable c a) (LedTo Coupling x.earthable y.earthable a)
        (h.earthable a ka) (m.earthable a (h.kept a ka));
  }

  pub load_on_fewer : ComposesLoad x y c → ComposesLoad x y r
  load_on_fewer m = record {
    kept = λ n k. m.kept n (h.kept n k);
    joined =
        λ a b ka kb. via (SaysJoined r a b) (SaysJoined c a b) (Joining a b) (h.joined a b ka kb)
        (m.joined a b (h.kept a ka) (h.kept b kb));
    bonded =
        λ a b ka kb. via (SaysBonded r a b) (SaysBonded c a b) (Bonding a b) (h.bonded a b ka kb)
        (m.bonded a b (h.kept a ka) (h.kept b kb));
    fed = λ a ka. via (SaysFed r a) (SaysFed c a) (LedTo Joining x.fed y.fed a) (h.fed a ka) (m.fed a (h.kept a ka));
    loaded =
        λ a ka. via (SaysLoaded r a) (SaysLoaded c a) (LedTo Joining x.loaded y.loaded a) (h.loaded a ka)
        (m.loaded a (h.kept a ka));
  }
