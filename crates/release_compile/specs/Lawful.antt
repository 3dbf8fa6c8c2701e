-- The law of a judge holds of index sets.
use Rattle.std.specs.Prelude.{ℕ, Bool, List, refl}
use Rattle.std.proofs.Common.{inl, inr}
use Rattle.station_graph.specs.Sharing.{OfPart}
use Rattle.station_graph.specs.Alike.{SamePositions}
use Rattle.contraction.proofs.MoveLemmas.{stands_moves}
use Rattle.central_rules.specs.Meaning.{Laws}
use Rattle.judge_pool.specs.Lettered.{Lettered}
use Rattle.release_compile.specs.Summaries.{SummaryAllows, by_indices}

-- What an index set allows depends on the positions of its own bay alone.
pub allows_moves : (a : Lettered) (b : ℕ) (s : List ℕ) (v w : List Bool) → SamePositions (OfPart a.diagram b) v w →
    SummaryAllows a b s v → SummaryAllows a b s w
allows_moves a b s v w same (inr empty) = inr empty
allows_moves a b s v w same (inl allows) =
    inl (record {
      index = allows.index;
      has = record {
        letter = allows.has.letter;
        listed = allows.has.listed;
        stands = stands_moves (OfPart a.diagram b) a.diagram v w same allows.has.letter allows.has.stands;
      };
      bit = allows.bit;
    })

-- The meaning by index sets keeps the laws of a meaning.
pub by_indices_lawful : (a : Lettered) → Laws (by_indices a)
by_indices_lawful a = record {
  local = λ b s v w whole_v whole_w same allows. allows_moves a b s v w same allows;
  irrelevant = λ b to ne silent. silent;
  empty_fits =
      λ b to s ne silent. (
        λ told. elim told [ inl set ↦ absurd (set.0 silent) | inr none ↦ none.1 ],
        λ empty. inr (silent, empty),
      );
  empty_allows = λ b to v ne silent whole. inr refl;
}
