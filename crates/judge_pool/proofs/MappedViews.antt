-- One view of values where other nodes stand in place of those that they keep.
use Rattle.std.proofs.Common.{◌≡◌, ℕ, List, Bool}
use Rattle.station_graph.specs.Diagram.{Diagram}
use Rattle.station_graph.specs.Connection.{Item}
use Rattle.contraction.specs.Answers.{Answers, IsContraction}
use Rattle.contraction.specs.Renaming.{KeepsOrder, mapped}
use Rattle.contraction.proofs.LawLemmas.{gap_stands, load_stands}
use Rattle.contraction.proofs.OneViewLemmas.{gap_lists, load_lists}
use Rattle.contraction.proofs.MappedLemmas.{gap_as, load_as, gap_map, load_map, same_gap_map, same_gap_back}
use Rattle.contraction.proofs.MappedLemmas.{same_load_map, same_load_back}
use Rattle.judge_pool.specs.declared.view.View.{View}
use Rattle.judge_pool.specs.declared.view.View.TheVariants.{Gap, Load}
use Rattle.judge_pool.specs.Seen.{SameSeen, ComposesIn, Carries, SeenFor}

-- A VALUE THAT IS TWO TOGETHER ANSWERS FOR BOTH
pub carries_of : (view : View) (x y r : Answers) → ComposesIn view x y r → Carries view x y r
carries_of Gap x y r h = gap_lists x y r h
carries_of Load x y r h = load_lists x y r h

-- a value that is the same may stand in place of another
pub composes_same : (view : View) (x y value r : Answers) → IsContraction value → IsContraction r →
    SameSeen view value r → ComposesIn view x y value → ComposesIn view x y r
composes_same Gap x y value r w1 w2 same h = gap_as x y value r same h
composes_same Load x y value r w1 w2 same h = load_as x y value r w1 w2 same h

module _ (f : ℕ → ℕ) (order : KeepsOrder f) where
  pub composes_map : (view : View) (x y r : Answers) → ComposesIn view x y r →
      ComposesIn view (mapped f x) (mapped f y) (mapped f r)
  composes_map Gap x y r h = gap_map f order x y r h
  composes_map Load x y r h = load_map f order x y r h

  pub same_map : (view : View) (x y : Answers) → SameSeen view x y → SameSeen view (mapped f x) (mapped f y)
  same_map Gap x y h = same_gap_map f order x y h
  same_map Load x y h = same_load_map f order x y h

  pub same_unmap : (view : View) (x y : Answers) → SameSeen view (mapped f x) (mapped f y) → SameSeen view x y
  same_unmap Gap x y h = same_gap_back f order x y h
  same_unmap Load x y h = same_load_back f order x y h

-- what one value answers, each that is the same in the view answers
pub seen_same : (view : View) (These : Item → Type 0) (d : Diagram) (v : List Bool) (x y : Answers) → IsContraction x →
    IsContraction y → SameSeen view x y → SeenFor view These d v x → SeenFor view These d v y
seen_same Gap These d v x y wx wy same s = gap_stands These d v x y same s
seen_same Load These d v x y wx wy same s = load_stands These d v x y wx wy same s

pub kept_of_same : (view : View) (x y : Answers) → SameSeen view x y → x.kept ≡ y.kept
kept_of_same Gap x y h = h.kept
kept_of_same Load x y h = h.kept
