-- A change by the second rule, with few breakers closed or with many.
use Rattle.std.proofs.Common.{◌≢◌, Bool, List, Some, None}
use Rattle.ilk_base.specs.declared.words.Op.{Op}
use Rattle.ilk_base.specs.declared.words.Rule.TheVariants.{R2, R3}
use Rattle.station_graph.specs.Diagram.{Diagram}
use Rattle.station_graph.specs.CentralRules.{LoadBreaks, Breaks}
use Rattle.station_graph.proofs.GapLemmas.{none_parts, gap_parts, gap_same}
use Rattle.station_changes.specs.Covers.{IsBetween}
use Rattle.station_changes.specs.Compare.{IsChange}
use Rattle.station_changes.specs.declared.change.Change.{Change}
use Rattle.station_changes.specs.declared.change.Change.TheVariants.{Stricter, Looser}
use Rattle.station_changes.proofs.LoadLemmas.{load_between}

pub not_third : R2 ≢ R3
not_third e = cc e

-- what one station releases, and the other forbids by the second rule
module _ (p q : Diagram) (a b : Op) (few q_few u v many q_many : List Bool) (mine : IsBetween p few u many)
    (yours : IsBetween q q_few v q_many) where
  second_few : Breaks q v b (Some R2) → Breaks q q_few b (Some R2)
  second_few h =
      ((gap_parts q q_few b R2).0
      (gap_same q v q_few b (Some R2) yours.few_len yours.few_same ((gap_parts q v b R2).1 (h, not_third)))).0

  second_many : Breaks q v b (Some R2) → Breaks q q_many b (Some R2)
  second_many h =
      ((gap_parts q q_many b R2).0
      (gap_same q v q_many b (Some R2) yours.many_len yours.many_same ((gap_parts q v b R2).1 (h, not_third)))).0

  free_few : Breaks p u a None → ¬ LoadBreaks p few a → Breaks p few a None
  free_few h low = (none_parts p few a).1
      (gap_same p u few a None mine.few_len mine.few_same ((none_parts p u a).0 h).0, low)

  free_many : Breaks p u a None → ¬ LoadBreaks p many a → Breaks p many a None
  free_many h low = (none_parts p many a).1
      (gap_same p u many a None mine.many_len mine.many_same ((none_parts p u a).0 h).0, low)

  pub at_end : (Breaks p few a None → Breaks q q_few b (Some R2) → ⊥) →
      (Breaks p many a None → Breaks q q_many b (Some R2) → ⊥) → Breaks p u a None → Breaks q v b (Some R2) → ⊥
  at_end no_few no_many free second =
      no_few
      (free_few free (λ low. no_many
      (free_many free (λ high. ((none_parts p u a).0 free).1
      (load_between p few u many a mine.few_covered mine.many_covers low high)))
      (second_many second)))
      (second_few second)

pub change_at_end : (o n : Diagram) (a b : Op) (change : Change) (few new_few u v many new_many : List Bool) →
    IsBetween o few u many → IsBetween n new_few v new_many → (IsChange o n a b change R2 few new_few → ⊥) →
    (IsChange o n a b change R2 many new_many → ⊥) → IsChange o n a b change R2 u v → ⊥
change_at_end o n a b Stricter few new_few u v many new_many old new no_few no_many h =
    at_end o n a b few new_few u v many new_many old new (λ x y. no_few (x, y)) (λ x y. no_many (x, y)) h.0 h.1
change_at_end o n a b Looser few new_few u v many new_many old new no_few no_many h =
    at_end n o b a new_few few v u new_many many new old (λ x y. no_few (y, x)) (λ x y. no_many (y, x)) h.1 h.0
