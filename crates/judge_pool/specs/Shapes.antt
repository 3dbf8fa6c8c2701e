-- Values that answer the same, place by place, whatever nodes they keep.
use Rattle.std.specs.Prelude.{◌≡◌, ℕ, List, length, slice_get, Some}
use Rattle.contraction.specs.Answers.{Answers}
use Rattle.judge_pool.specs.declared.view.View.{View}
use Rattle.judge_pool.specs.declared.view.View.TheVariants.{Gap, Load}

-- In this view both values answer the same, place by place.
abbrev pub SameShape : View → Answers → Answers → Type 0
SameShape Gap x y = (x.coupled ≡ y.coupled) × (x.energisable ≡ y.energisable) × (x.earthable ≡ y.earthable)
SameShape Load x y = (x.joined ≡ y.joined) × (x.bonded ≡ y.bonded) × (x.fed ≡ y.fed) × (x.loaded ≡ y.loaded)

-- Both values keep the same nodes too.
pub record SameAs (view : View) (x y : Answers) : Type 0 where
  pub kept : x.kept ≡ y.kept
  pub shape : SameShape view x y

-- The values of both lists are so, one by one.
pub record AllAs (view : View) (xs ys : List Answers) : Type 0 where
  pub len : length xs ≡ length ys
  pub same : (k : ℕ) (x y : Answers) → slice_get xs k ≡ Some x → slice_get ys k ≡ Some y → SameAs view x y
