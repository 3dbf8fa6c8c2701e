-- What a value stands for depends on the positions of its own items alone.
use Rattle.std.proofs.Common.{◌⊎◌, Bool, true, false, List, inl, inr}
use Rattle.ilk_base.specs.declared.words.Kind.TheVariants.{Infeed, Earthing}
use Rattle.station_graph.specs.Diagram.{Diagram}
use Rattle.station_graph.specs.Connection.{Item}
use Rattle.station_graph.specs.Alike.{SamePositions}
use Rattle.station_graph.specs.Views.{CoupledBy, EnergisableBy, EarthableBy, JoinedBy, BondedBy, FedBy, TappedBy}
use Rattle.station_graph.proofs.PositionLemmas.{SamePositions-sym, linked_same_positions, coupled_same, coupled_to_same}
use Rattle.station_graph.proofs.PositionLemmas.{fed_same, tapped_same}
use Rattle.contraction.specs.Answers.{Answers, SaysCoupled, SaysEnergisable, SaysEarthable, SaysJoined, SaysBonded}
use Rattle.contraction.specs.Answers.{SaysFed, SaysLoaded}
use Rattle.contraction.specs.Stands.{GapStandsFor, LoadStandsFor, StandsFor}
use Rattle.contraction.proofs.KeepLemmas.{via}

-- what a value stands for, it stands for in each vector with the same positions of these items
module _ (These : Item → Type 0) (d : Diagram) (v w : List Bool) (same : SamePositions These v w) where
  back_same : SamePositions These w v
  back_same = SamePositions-sym These v w same

  pub gap_moves : (c : Answers) → GapStandsFor These d v c → GapStandsFor These d w c
  gap_moves c s = record {
    coupled =
        λ a b ka kb. via (SaysCoupled c a b) (CoupledBy These d v a b) (CoupledBy These d w a b) (s.coupled a b ka kb)
        (coupled_same These d v w same a b, coupled_same These d w v back_same a b);
    energisable =
        λ a ka. via (SaysEnergisable c a) (EnergisableBy These d v a) (EnergisableBy These d w a) (s.energisable a ka)
        (coupled_to_same These d v w same Infeed a, coupled_to_same These d w v back_same Infeed a);
    earthable =
        λ a ka. via (SaysEarthable c a) (EarthableBy These d v a) (EarthableBy These d w a) (s.earthable a ka)
        (coupled_to_same These d v w same Earthing a, coupled_to_same These d w v back_same Earthing a);
  }

  pub load_moves : (c : Answers) → LoadStandsFor These d v c → LoadStandsFor These d w c
  load_moves c s = record {
    joined =
        λ a b ka kb. via (SaysJoined c a b) (JoinedBy These d v a b) (JoinedBy These d w a b) (s.joined a b ka kb) (
          linked_same_positions These d v w same false a b,
          linked_same_positions These d w v back_same false a b,
        );
    bonded =
        λ a b ka kb. via (SaysBonded c a b) (BondedBy These d v a b) (BondedBy These d w a b) (s.bonded a b ka kb) (
          linked_same_positions These d v w same true a b,
          linked_same_positions These d w v back_same true a b,
        );
    fed =
        λ a ka. via (SaysFed c a) (FedBy These d v a) (FedBy These d w a) (s.fed a ka)
        (fed_same These d v w same a, fed_same These d w v back_same a);
    loaded =
        λ a ka. via (SaysLoaded c a) (FedBy These d v a ⊎ TappedBy These d v a)
        (FedBy These d w a ⊎ TappedBy These d w a) (s.loaded a ka) (
          λ h. elim h [ inl f ↦ inl (fed_same These d v w same a f) | inr t ↦ inr (tapped_same These d v w same a t) ],
          λ h. elim h [
            | inl f ↦ inl (fed_same These d w v back_same a f)
            | inr t ↦ inr (tapped_same These d w v back_same a t)
          ],
        );
  }

  pub stands_moves : (c : Answers) → StandsFor These d v c → StandsFor These d w c
  stands_moves c s = record { gap = gap_moves c s.gap; load = load_moves c s.load }
