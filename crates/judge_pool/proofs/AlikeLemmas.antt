-- States and letters that keep the same nodes, composed on one selection.
use Rattle.std.proofs.Common.{◌≡◌, ℕ, ◌<◌, List, [], length, get_or, slice_get, Option, Some, None, IfSome, Box, sym, ◌∙◌}
use Rattle.std.specs.declared.alloc.Global.{Global}
use Rattle.std.proofs.lemmas.Option.{slice_get-get_or}
use Rattle.contraction.specs.Answers.{Answers}
use Rattle.contraction.specs.Selecting.{Selected}
use Rattle.judge_pool.specs.declared.batch.Batch.{Batch}
use Rattle.judge_pool.specs.declared.batch.Made.{Made}
use Rattle.judge_pool.specs.declared.pool.Pool.{Pool}
use Rattle.judge_pool.specs.Layering.{no_answers}
use Rattle.judge_pool.specs.Lying.{AllKeepAs}
use Rattle.judge_pool.specs.Pooling.{Extends, CanCompose, CanComposeEach, KeepAlike, SelectsFor, SelectsAll, SelectsEach}

-- what was at a place of the shorter list is at that of the longer one
was_at : (old new : List Answers) → Extends old new → (i : ℕ) → i < length old → (x : Answers) →
    slice_get new i ≡ Some x → slice_get old i ≡ Some x
was_at old new more i lt x at =
    let there = slice_get-get_or old i no_answers lt in
    there ∙ (sym (more i (get_or old i no_answers) there) ∙ at)

-- values of which each keeps these nodes keep the same
pub keep_same : (values : List Answers) (ids nodes : List ℕ) → AllKeepAs values ids nodes → KeepAlike values ids
keep_same values ids nodes all a b i j x y at_a at_b at_x at_y = all a i x at_a at_x ∙ sym (all b j y at_b at_y)

-- values that keep the same nodes do so in a longer list
pub alike_more : (old new : List Answers) (ids : List ℕ) → Extends old new →
    ((a i : ℕ) → slice_get ids a ≡ Some i → i < length old) → KeepAlike old ids → KeepAlike new ids
alike_more old new ids more within alike a b i j x y at_a at_b at_x at_y =
    alike a b i j x y at_a at_b (was_at old new more i (within a i at_a) x at_x)
    (was_at old new more j (within b j at_b) y at_y)

-- a selection for two values is one for them in a longer list
pub selects_more : (p q : Pool) (k : Made) (s : Selected) → Extends p.values.items q.values.items →
    Extends p.keeps.items q.keeps.items → CanCompose p k → SelectsFor p k s → SelectsFor q k s
selects_more p q k s values keeps can selects x y nodes at_x at_y at_nodes =
    selects x y nodes (was_at p.values.items q.values.items values k.first can.first x at_x)
    (was_at p.values.items q.values.items values k.second can.second y at_y) kept
  where
    kept : slice_get p.keeps.items k.keep ≡ Some nodes
    kept =
        let there = slice_get-get_or p.keeps.items k.keep [] can.keep in
        there ∙ (sym (keeps k.keep (get_or p.keeps.items k.keep []) there) ∙ at_nodes)

-- a selection for one state and letter is one for each where all states keep the same nodes, and all letters
pub selects_each : (p : Pool) (states letters : List ℕ) (keep : ℕ) (s : Selected) (first second : ℕ) →
    KeepAlike p.values.items states → KeepAlike p.values.items letters → slice_get states 0 ≡ Some first →
    slice_get letters 0 ≡ Some second → first < length p.values.items → second < length p.values.items →
    SelectsFor p (record { first = first; second = second; keep = keep }) s → SelectsEach p states letters keep s
selects_each p states letters keep s first second one other at_first at_second in_first in_second selects k c i j at_i
    at_j x y nodes at_x at_y at_nodes =
    let v = get_or p.values.items first no_answers in
    let w = get_or p.values.items second no_answers in
    let at_v = slice_get-get_or p.values.items first no_answers in_first in
    let at_w = slice_get-get_or p.values.items second no_answers in_second in
    let h = selects v w nodes at_v at_w at_nodes in
    record {
      first = h.first ∙ one 0 k first i v x at_first at_i at_v at_x;
      second = h.second ∙ other 0 c second j w y at_second at_j at_w at_y;
      asked = h.asked;
    }

-- a selection for each state and letter is so in a longer list
pub each_more : (p q : Pool) (states letters : List ℕ) (keep : ℕ) (s : Selected) →
    Extends p.values.items q.values.items → Extends p.keeps.items q.keeps.items →
    CanComposeEach p states letters keep → SelectsEach p states letters keep s → SelectsEach q states letters keep s
each_more p q states letters keep s values keeps can selects k c i j at_i at_j =
    selects_more p q (record { first = i; second = j; keep = keep }) s values keeps (can k c i j at_i at_j)
    (selects k c i j at_i at_j)

-- so where there may be none
pub if_each_more : (p q : Pool) (states letters : List ℕ) (keep : ℕ) (o : Option (Box Selected Global)) →
    Extends p.values.items q.values.items → Extends p.keeps.items q.keeps.items →
    CanComposeEach p states letters keep → IfSome o (λ s. SelectsEach p states letters keep s.value) →
    IfSome o (λ s. SelectsEach q states letters keep s.value)
if_each_more p q states letters keep None values keeps can selects = tt
if_each_more p q states letters keep (Some s) values keeps can selects =
    each_more p q states letters keep s.value values keeps can selects

-- what is so for each state is so for the batch of one of them
pub if_each_all : (p : Pool) (states letters : List ℕ) (b : Batch) (k : ℕ) (o : Option (Box Selected Global)) →
    slice_get states k ≡ Some b.first → IfSome o (λ s. SelectsEach p states letters b.keep s.value) →
    IfSome o (λ s. SelectsAll p b letters s.value)
if_each_all p states letters b k None at selects = tt
if_each_all p states letters b k (Some s) at selects = λ c j at_j. selects k c b.first j at at_j
