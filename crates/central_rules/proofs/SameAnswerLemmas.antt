-- Vectors that give the same answers for the operations of a bay, and parts that stand alike.
use Rattle.std.proofs.Common.{◌≡◌, ◌≢◌, ℕ, Bool, List, sym, subst, inl, inr}
use Rattle.std.proofs.lemmas.Bool.{cases_eq}
use Rattle.station_graph.specs.Diagram.{Diagram}
use Rattle.station_graph.specs.Connection.{a_switch}
use Rattle.station_graph.specs.Sharing.{OfPart, IsShared}
use Rattle.station_graph.specs.Alike.{Alike, SamePositions, DifferInPart, SameAnswers, SameFor}
use Rattle.station_graph.proofs.MixLemmas.{one_part}
use Rattle.station_graph.proofs.PositionLemmas.{SameGapView-positions, SameLoadView-positions, SameGapView-sym}
use Rattle.station_graph.proofs.PositionLemmas.{SameLoadView-sym, SameGapView-trans, SameLoadView-trans}

pub SameAnswers-trans : (d : Diagram) (c : ℕ) (u v w : List Bool) → SameAnswers d c u v → SameAnswers d c v w →
    SameAnswers d c u w
SameAnswers-trans d c u v w f g op of_c answer = (
  λ b. (g op of_c answer).0 ((f op of_c answer).0 b),
  λ b. (f op of_c answer).1 ((g op of_c answer).1 b),
)

-- where the same positions stand, a part stands alike
pub alike_same : (d : Diagram) (part : ℕ) (v w : List Bool) → SamePositions (OfPart d part) v w → Alike d part v w
alike_same d part v w same = record {
  gap = SameGapView-positions (IsShared d part) (OfPart d part) d v w same;
  load = SameLoadView-positions (IsShared d part) (OfPart d part) d v w same;
}

pub alike_trans : (d : Diagram) (part : ℕ) (u v w : List Bool) → Alike d part u v → Alike d part v w → Alike d part u w
alike_trans d part u v w f g = record {
  gap = SameGapView-trans (IsShared d part) (OfPart d part) d u v w f.gap g.gap;
  load = SameLoadView-trans (IsShared d part) (OfPart d part) d u v w f.load g.load;
}

-- vectors that differ in one part alone, which stands alike in both, are the same for each other bay
pub alike_differ : (d : Diagram) (part c : ℕ) (v w : List Bool) → part ≢ c → DifferInPart d part v w →
    Alike d part v w → SameFor d c v w
alike_differ d part c v w ne differ alike = record {
  own = λ i of_c. differ i (λ of_part. ne (one_part d part c i of_part of_c));
  others = λ other not_c. elim (cases_eq other part) [
    | inl e ↦ subst (λ p. Alike d p v w) (sym e) alike
    | inr apart ↦ alike_same d other v w
        (λ i of_other. differ i (λ of_part. apart (one_part d other part i of_other of_part)))
  ];
}

pub alike_sym : (d : Diagram) (part : ℕ) (v w : List Bool) → Alike d part v w → Alike d part w v
alike_sym d part v w h = record {
  gap = SameGapView-sym (IsShared d part) (OfPart d part) d v w h.gap;
  load = SameLoadView-sym (IsShared d part) (OfPart d part) d v w h.load;
}
