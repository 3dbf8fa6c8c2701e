-- What the walks of two stations are made of, and what is reached in them.
use Rattle.std.specs.Prelude.{◌≡◌, ℕ}
use Rattle.station_graph.specs.Diagram.{Diagram}
use Rattle.decision_graphs.specs.Label.{Layer, Layered, label_of, AreChoices, AreLayers, AreReduced}
use Rattle.judge_pool.specs.declared.view.View.{View}
use Rattle.judge_pool.specs.declared.view.View.TheVariants.{Gap, Load}
use Rattle.judge_pool.specs.Pooling.{IsPool}
use Rattle.step_graphs.specs.Letters.{AreStepRows}
use Rattle.std.specs.Prelude.{List, Bool, length, map}
use Rattle.ilk_base.specs.declared.words.Op.{Op}
use Rattle.station_graph.specs.CentralRules.{LoadBreaks}
use Rattle.step_graphs.specs.declared.step.Step.{Step}
use Rattle.station_joints.specs.declared.joint.JointSteps.{JointSteps}
use Rattle.change_search.specs.Telling.{IsSwitchWalk}
use Rattle.change_search.specs.Searching.{HaveReached}
use Rattle.change_search.specs.Showing.{AllowIsolating, AllowAll}
use Rattle.station_compare.specs.declared.stocks.PairStock.{PairStock}
use Rattle.station_compare.specs.declared.stocks.Stocks.{Stocks}
use Rattle.station_compare.specs.declared.walked.Walked.{Walked}

-- The third rule applies to no move of switch m.
abbrev pub HasNoLoad : Diagram → ℕ → Type 0
HasNoLoad d m = (v : List Bool) (op : Op) → op.switch.0 ≡ m → ¬ LoadBreaks d v op

-- The graph has the layers of another one and two labels, and leads to the first of them whatever is chosen.
pub record IsIdleOf (gap g : Layered) : Type 0 where
  pub fits : AreLayers g.labels g.layers
  pub choices : map (λ (l : Layer). l.choices) g.layers ≡ map (λ (l : Layer). l.choices) gap.layers
  pub labels : g.labels ≡ 2
  pub reduced : AreReduced g.layers
  pub first : (cs : List ℕ) → AreChoices gap.layers cs → label_of g cs ≡ 0

-- The pool, of this view, has the values of the steps of both stations, and the rows are their numbers.
pub record IsPairStock (view : View) (o n : Diagram) (olds news : List Step) (s : PairStock) : Type 0 where
  pub pool : IsPool s.pool
  pub seen : s.pool.view ≡ view
  pub old_rows : AreStepRows s.pool o olds (map (λ v. v.items) s.old_rows.items) (length olds)
  pub new_rows : AreStepRows s.pool n news (map (λ v. v.items) s.new_rows.items) (length news)

-- The stocks are those of both stations in both views.
pub record AreStocks (o n : Diagram) (j : JointSteps) (s : Stocks) : Type 0 where
  pub gap : IsPairStock Gap o n j.old_steps.items j.new_steps.items s.gap
  pub load : IsPairStock Load o n j.old_steps.items j.new_steps.items s.load

-- The walk of switch i of the old station and switch k of the new one, whose steps stand at place b, and what isolating
-- choices and all choices reach in it.
pub record IsWalked (o n : Diagram) (j : JointSteps) (b i k : ℕ) (w : Walked) : Type 0 where
  pub walk : IsSwitchWalk o n j.old_steps.items j.new_steps.items b i k w.walk.graph w.walk.codes.items
  pub isolated : HaveReached w.walk.graph w.isolated.sets w.isolated.marks
  pub isolating : AllowIsolating j.old_steps.items j.new_steps.items b w.isolated.sets
  pub all : HaveReached w.walk.graph w.all.sets w.all.marks
  pub allowed : AllowAll j.old_steps.items w.all.sets
