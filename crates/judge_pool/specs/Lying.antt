-- How the nodes of a layer lie: the states and letters stand on other nodes in the same order.
use Rattle.std.specs.Prelude.{◌≡◌, ℕ, ◌<◌, ◌⊎◌, ◌↔◌, List, length, map, slice_get, Some, Contains}
use Rattle.station_graph.specs.Nodes.{Rises}
use Rattle.contraction.specs.Answers.{Answers, Keeps, AreNodes}
use Rattle.contraction.specs.Renaming.{KeepsOrder, renamed, mapped}
use Rattle.judge_pool.specs.declared.lying.Lying.{Lying}
use Rattle.judge_pool.specs.declared.pool.Pool.{Pool}
use Rattle.judge_pool.specs.Numbered.{letter_lists}
use Rattle.judge_pool.specs.Pooling.{EitherKeeps}
use Rattle.judge_pool.specs.Shapes.{SameAs}

-- Each value of the first list, seen on these nodes, is that of the second mapped to them.
pub record AreMapped (p : Pool) (to : ℕ → ℕ) (On : Answers → Answers) (ids placed : List ℕ) : Type 0 where
  pub len : length placed ≡ length ids
  pub listed : (k t : ℕ) → slice_get placed k ≡ Some t → t < length p.values.items
  pub same : (k i t : ℕ) (x y : Answers) → slice_get ids k ≡ Some i → slice_get placed k ≡ Some t →
      slice_get p.values.items i ≡ Some x → slice_get p.values.items t ≡ Some y → SameAs p.view (On x) (mapped to y)

-- Each value of these numbers keeps exactly these nodes.
abbrev pub AllKeepAs : List Answers → List ℕ → List ℕ → Type 0
AllKeepAs values ids nodes =
    (k i : ℕ) (x : Answers) → slice_get ids k ≡ Some i → slice_get values i ≡ Some x → x.kept ≡ nodes

-- Each of the nodes is kept, or each letter keeps it.
abbrev pub LettersReach : Pool → List ℕ → List ℕ → List ℕ → Type 0
LettersReach p row kept nodes =
    (c i : ℕ) (y : Answers) → slice_get row c ≡ Some i → slice_get p.values.items i ≡ Some y → (n : ℕ) →
    Contains nodes n → Keeps kept n ⊎ Keeps y.kept n

-- Each state is a value of the pool that keeps as many nodes as these.
abbrev pub StatesFit : Pool → List ℕ → List ℕ → Type 0
StatesFit p states kept =
    (k i : ℕ) → slice_get states k ≡ Some i →
    (x : Answers) × (slice_get p.values.items i ≡ Some x) × (length kept ≡ length x.kept)

-- The states of a layer on the kept nodes, its letters, and the nodes that are kept behind it stand on other nodes, in
-- the same order, which are mapped to them.
pub record IsLying (p : Pool) (states kept row nodes : List ℕ) (l : Lying) : Type 0 where
  pub to : ℕ → ℕ
  pub order : KeepsOrder to
  pub states_lie : AreMapped p to (renamed kept) states l.states.items
  pub letters_lie : AreMapped p to (λ x. x) row l.letters.items
  pub after : List ℕ
  pub at_after : slice_get p.keeps.items l.keep ≡ Some after
  pub either : (t c : ℕ) → t < length p.values.items → c < length p.values.items →
      (k m : ℕ) → slice_get l.states.items k ≡ Some t → slice_get l.letters.items m ≡ Some c → EitherKeeps p t c l.keep
  pub behind : (ns : List ℕ) → Rises ns → ((n : ℕ) → Keeps ns n ↔ Contains after n) → map to ns ≡ l.kept.items
  pub are : AreNodes l.kept.items
  pub kept_is : (n : ℕ) → Keeps l.kept.items n ↔ Contains nodes n

-- The lists of its states and letters have the numbers that stand beside them.
pub record HasNumbers (p : Pool) (l : Lying) : Type 0 where
  pub states : slice_get (letter_lists p) l.before ≡ Some l.states.items
  pub letters : slice_get (letter_lists p) l.by ≡ Some l.letters.items
