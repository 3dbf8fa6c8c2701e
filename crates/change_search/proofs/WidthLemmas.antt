-- A walk that keeps its limit is not too wide.
use Rattle.std.proofs.Common.{◌≡◌, ℕ, ◌+◌, ◌<◌, ◌≤◌, zero, suc, Bool, List, [], ◌∷◌, length, slice_get, Some}
use Rattle.std.proofs.Common.{refl, sym, ◌∙◌, subst, inl, inr, arith}
use Rattle.std.specs.Prelude.{◌↔◌, sum}
use Rattle.std.proofs.lemmas.List.Sums.{sum_by-cons}
use Rattle.ilk_base.specs.declared.words.Direction.TheVariants.{ToOn}
use Rattle.ilk_base.specs.declared.words.Op.{Op}
use Rattle.ilk_base.specs.declared.words.Rule.TheVariants.{R3}
use Rattle.station_graph.specs.Diagram.{Diagram}
use Rattle.station_graph.specs.Connection.{Item}
use Rattle.station_graph.specs.CentralRules.{Applies, GapBreaks}
use Rattle.station_graph.proofs.PositionLemmas.{SameGapView-sym, SameLoadView-sym, SameGapView-trans, SameLoadView-trans}
use Rattle.part_alphabets.specs.Counting.{AreSoMany}
use Rattle.bay_contract.proofs.CountingLemmas.{not_longer}
use Rattle.decision_graphs.specs.Label.{Layered, label_of}
use Rattle.judge_pool.specs.Counted.{AreAtLeast}
use Rattle.judge_pool.specs.Graphs.{gap_rule, LabelSays}
use Rattle.judge_pool.specs.Seen.{SameView}
use Rattle.judge_pool.specs.declared.view.View.{View}
use Rattle.judge_pool.specs.declared.view.View.TheVariants.{Gap, Load}
use Rattle.judge_intake.specs.Coding.{labels_of}
use Rattle.graph_walks.specs.Walks.{AreTwos, HasWalkRoom, IsWideWalk}
use Rattle.graph_walks.specs.Telling.{IsReduced, TellAlike}
use Rattle.graph_walks.proofs.RoomLemmas.{room_is_told, label_within}
use Rattle.step_graphs.specs.declared.step.Step.{Step}
use Rattle.step_graphs.specs.Edges.{TakenBefore, SameSteps, StepsPass, StepsKeep}
use Rattle.step_graphs.specs.Moved.{IsMovedGraph}
use Rattle.step_graphs.specs.Needing.{IsNeeded}
use Rattle.step_graphs.specs.Steps.{AreSteps}
use Rattle.change_search.specs.Passing.{WalkPasses, IsWideSwitchWalk, KeepsSwitchWalk}
use Rattle.change_search.proofs.GivenLemmas.{given_vector}

-- ---- graphs before they are reduced

view_back : (view : View) (Kept : ℕ → Type 0) (These : Item → Type 0) (d : Diagram) (v w : List Bool) →
    SameView view Kept These d v w → SameView view Kept These d w v
view_back Gap Kept These d v w h = SameGapView-sym Kept These d v w h
view_back Load Kept These d v w h = SameLoadView-sym Kept These d v w h

view_on : (view : View) (Kept : ℕ → Type 0) (These : Item → Type 0) (d : Diagram) (u v w : List Bool) →
    SameView view Kept These d u v → SameView view Kept These d v w → SameView view Kept These d u w
view_on Gap Kept These d u v w h k = SameGapView-trans Kept These d u v w h k
view_on Load Kept These d u v w h k = SameLoadView-trans Kept These d u v w h k

at_most : (view : View) (d : Diagram) (steps : List Step) (b j n m : ℕ) →
    AreAtLeast d (SameSteps view d steps b j) n → AreSoMany d (SameSteps view d steps b j) m → n ≤ m
at_most view d steps b j n m least many =
    let le = not_longer d (SameSteps view d steps b j)
    (view_back view (IsNeeded d steps b j) (TakenBefore steps b j) d)
    (view_on view (IsNeeded d steps b j) (TakenBefore steps b j) d) least.list many.list least.distinct many.all in
    omega (arith, le, least.count, many.count)

sums : (xs ys : List ℕ) → length xs ≤ length ys →
    ((j x y : ℕ) → slice_get xs j ≡ Some x → slice_get ys j ≡ Some y → x ≤ y) → sum xs ≤ sum ys
sums [] ys short each = omega arith
sums (x ∷ xs) [] short each = absurd (omega (arith, short))
sums (x ∷ xs) (y ∷ ys) short each =
    let rest = sums xs ys (omega (arith, short)) (λ j a b at_a at_b. each (suc j) a b at_a at_b) in
    let less : sum (x ∷ xs) ≡ x + sum xs = sum_by-cons (λ z. z) x xs in
    let more : sum (y ∷ ys) ≡ y + sum ys = sum_by-cons (λ z. z) y ys in
    omega (arith, less, more, rest, each 0 x y refl refl)

pub keep_excludes : (view : View) (d : Diagram) (steps : List Step) (b limit : ℕ) → StepsKeep view d steps b limit →
    StepsPass view d steps b limit → ⊥
keep_excludes view d steps b limit keep pass =
    let more = pass.first.has in
    let few = keep.has in
    let le : sum more.sizes ≤ sum few.sizes =
    sums more.sizes few.sizes (omega (arith, more.len, few.len, pass.within, keep.count)) (λ j x y at_x at_y.
    at_most view d steps b j x y (more.views j x at_x) (few.views j y at_y)) in
    omega (arith, le, more.all, few.all, pass.first.past, keep.few)

-- ---- labels

module _ (d : Diagram) (v : List Bool) (op : Op) where
  gap_once : (a b : ℕ) → a < 3 → b < 3 → GapBreaks d v op (gap_rule a) → GapBreaks d v op (gap_rule b) → a ≡ b
  gap_once zero zero in_a in_b x y = refl
  gap_once zero (suc zero) in_a in_b x y = absurd (x.0 y)
  gap_once zero (suc (suc zero)) in_a in_b x y = absurd (x.1 y.1)
  gap_once zero (suc (suc (suc b))) in_a in_b x y = absurd (omega (arith, in_b))
  gap_once (suc zero) zero in_a in_b x y = absurd (y.0 x)
  gap_once (suc zero) (suc zero) in_a in_b x y = refl
  gap_once (suc zero) (suc (suc zero)) in_a in_b x y = absurd (y.0 x)
  gap_once (suc zero) (suc (suc (suc b))) in_a in_b x y = absurd (omega (arith, in_b))
  gap_once (suc (suc zero)) zero in_a in_b x y = absurd (y.1 x.1)
  gap_once (suc (suc zero)) (suc zero) in_a in_b x y = absurd (x.0 y)
  gap_once (suc (suc zero)) (suc (suc zero)) in_a in_b x y = refl
  gap_once (suc (suc zero)) (suc (suc (suc b))) in_a in_b x y = absurd (omega (arith, in_b))
  gap_once (suc (suc (suc a))) b in_a in_b x y = absurd (omega (arith, in_a))

  load_once : (a b : ℕ) → a < 2 → b < 2 → (a ≡ 1) ↔ Applies R3 d v op → (b ≡ 1) ↔ Applies R3 d v op → a ≡ b
  load_once zero zero in_a in_b x y = refl
  load_once zero (suc zero) in_a in_b x y = x.1 (y.0 refl)
  load_once zero (suc (suc b)) in_a in_b x y = absurd (omega (arith, in_b))
  load_once (suc zero) zero in_a in_b x y = sym (y.1 (x.0 refl))
  load_once (suc zero) (suc zero) in_a in_b x y = refl
  load_once (suc zero) (suc (suc b)) in_a in_b x y = absurd (omega (arith, in_b))
  load_once (suc (suc a)) b in_a in_b x y = absurd (omega (arith, in_a))

abbrev close : ℕ → Op
close m = record { switch = record { 0 = m }; direction = ToOn }

label_once : (view : View) (d : Diagram) (m : ℕ) (v : List Bool) (a b : ℕ) → a < labels_of view → b < labels_of view →
    LabelSays view d m v a → LabelSays view d m v b → a ≡ b
label_once Gap d m v a b in_a in_b x y = gap_once d v (close m) a b in_a in_b (x (close m) refl refl) (y (close m) refl refl)
label_once Load d m v a b in_a in_b x y = load_once d v (close m) a b in_a in_b (x (close m) refl) (y (close m) refl)

-- ---- graphs of a switch

module _ (view : View) (d : Diagram) (steps : List Step) (b m n : ℕ) (are : AreSteps d steps)
    (count : suc n ≡ length steps) where
  is_reduced : (g : Layered) → IsMovedGraph view d steps b m g → IsReduced n g
  is_reduced g is = record {
    twos = record {
      count = omega (arith, count, is.count);
      choices = λ j lt. is.choices j (omega (arith, lt, count, is.count));
    };
    fits = is.fits;
    reduced = is.reduced;
  }

  same_label : (g h : Layered) → IsMovedGraph view d steps b m g → IsMovedGraph view d steps b m h → (cs : List ℕ) →
      AreTwos n cs → label_of g cs ≡ label_of h cs
  same_label g h is_g is_h cs two =
      let (v, whole, given) = given_vector d steps are b cs (omega (arith, count, two.len)) two.small in
      label_once view d m v (label_of g cs) (label_of h cs)
      (subst (λ k. label_of g cs < k) is_g.labels (label_within n g (is_reduced g is_g) cs two))
      (subst (λ k. label_of h cs < k) is_h.labels (label_within n h (is_reduced h is_h) cs two))
      (is_g.says v cs whole given) (is_h.says v cs whole given)

  pub tell_alike : (g h : Layered) → IsMovedGraph view d steps b m g → IsMovedGraph view d steps b m h → TellAlike n g h
  tell_alike g h is_g is_h = record {
    first = is_reduced g is_g;
    second = is_reduced h is_h;
    alike = λ cs ds c_two d_two. (
      λ e.
          sym (same_label g h is_g is_h cs c_two) ∙ (e ∙ same_label g h is_g is_h ds d_two),
      λ e. same_label g h is_g is_h cs c_two ∙ (e ∙ sym (same_label g h is_g is_h ds d_two)),
    );
  }

-- ---- walks

module _ (o n : Diagram) (old_steps new_steps : List Step) (b i k limit : ℕ)
    (old_all : AreSteps o old_steps) (new_all : AreSteps n new_steps) (len : length old_steps ≡ length new_steps) where
  pub products_exclude : (others : ℕ) → suc others ≡ length old_steps → (old_gap new_gap old_load new_load : Layered) →
      IsMovedGraph Gap o old_steps b i old_gap → IsMovedGraph Gap n new_steps b k new_gap →
      IsMovedGraph Load o old_steps b i old_load → IsMovedGraph Load n new_steps b k new_load →
      HasWalkRoom old_gap new_gap old_load new_load others limit → WalkPasses o n old_steps new_steps b i k limit → ⊥
  products_exclude others count old_gap new_gap old_load new_load is_old_gap is_new_gap is_old_load is_new_load room pass =
      let new_count : suc others ≡ length new_steps = count ∙ len in
      let wide : IsWideWalk pass.old_gap pass.new_gap pass.old_load pass.new_load others limit =
      subst (λ m. IsWideWalk pass.old_gap pass.new_gap pass.old_load pass.new_load m limit)
      (let e : pass.others ≡ others = omega (arith, pass.count, count) in e) pass.wide in
      room_is_told others limit old_gap new_gap old_load new_load pass.old_gap pass.new_gap pass.old_load pass.new_load
      (tell_alike Gap o old_steps b i others old_all count old_gap pass.old_gap is_old_gap pass.is_old_gap)
      (tell_alike Gap n new_steps b k others new_all new_count new_gap pass.new_gap is_new_gap pass.is_new_gap)
      (tell_alike Load o old_steps b i others old_all count old_load pass.old_load is_old_load pass.is_old_load)
      (tell_alike Load n new_steps b k others new_all new_count new_load pass.new_load is_new_load pass.is_new_load) room
      wide

  walk_excludes : KeepsSwitchWalk o n old_steps new_steps b i k limit → WalkPasses o n old_steps new_steps b i k limit → ⊥
  walk_excludes keep pass =
      products_exclude keep.others keep.count keep.old_gap keep.new_gap keep.old_load keep.new_load keep.is_old_gap
      keep.is_new_gap keep.is_old_load keep.is_new_load keep.room pass

  pub excludes : KeepsSwitchWalk o n old_steps new_steps b i k limit →
      IsWideSwitchWalk o n old_steps new_steps b i k limit → ⊥
  excludes keep (inl (Gap, inl pass)) = keep_excludes Gap o old_steps b limit keep.old_gap_keeps pass
  excludes keep (inl (Gap, inr pass)) = keep_excludes Gap n new_steps b limit keep.new_gap_keeps pass
  excludes keep (inl (Load, inl pass)) = keep_excludes Load o old_steps b limit keep.old_load_keeps pass
  excludes keep (inl (Load, inr pass)) = keep_excludes Load n new_steps b limit keep.new_load_keeps pass
  excludes keep (inr pass) = walk_excludes keep pass
