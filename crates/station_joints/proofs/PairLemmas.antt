-- One more pair of steps.
use Rattle.std.proofs.Common.{◌≡◌, ◌⊎◌, ℕ, ◌+◌, ◌<◌, ◌≤◌, List, [], ◌∷◌, ◌++◌, length, slice_get, Some, refl, sym, ap}
use Rattle.std.proofs.Common.{◌∙◌, subst, inl, inr, arith}
use Rattle.std.proofs.lemmas.Bool.{cases_eq}
use Rattle.std.proofs.lemmas.List.{length_push, map-append}
use Rattle.std.proofs.lemmas.Option.{slice_get_within, get_or_from_slice_get, slice_get-get_or, same_Some}
use Rattle.ilk_base.specs.declared.words.SwitchId.{SwitchId}
use Rattle.station_graph.specs.Diagram.{Diagram, IsStation, switch_path}
use Rattle.station_graph.specs.Connection.{Item, a_switch, a_link, a_tap}
use Rattle.station_graph.proofs.PathLemmas.{slice_get-push, Contains-from_slice_get}
use Rattle.station_changes.specs.Compare.{SameSwitch, part_path}
use Rattle.station_graph.specs.declared.items.Switch.{Switch}
use Rattle.std.specs.Prelude.{Contains}
use Rattle.step_graphs.specs.declared.step.Step.{Step}
use Rattle.step_graphs.specs.declared.step.Step.TheVariants.{OfSwitch, OfLink, OfTap, OfNothing}
use Rattle.station_joints.specs.declared.pairs.StepPair.{StepPair}
use Rattle.station_joints.specs.Together.{AreTogether}
use Rattle.station_joints.specs.Taking.{NoMore, SameUpto, Olds, News, HaveTaken, ArePairs, first_steps, second_steps}
use Rattle.station_joints.proofs.TakeLemmas.{take_one, take_none}
use Rattle.station_joints.proofs.UptoLemmas.{none_taken, switch_taken, switch_counted, link_taken, tap_taken}
use Rattle.station_joints.proofs.UptoLemmas.{nothing_taken}

-- the switch of a path is one
path_at : (d : Diagram) (i : ℕ) → IsStation d → i < length d.switches →
    slice_get d.switch_paths i ≡ Some (switch_path d i)
path_at d i is lt = slice_get-get_or d.switch_paths i [] (omega (arith, is.items.paths))

-- a switch is the same as one switch alone
pub same_one : (o n : Diagram) (i j k : ℕ) → IsStation n → SameSwitch o n i j → SameSwitch o n i k → j ≡ k
same_one o n i j k is a b =
    is.paths_differ.switches j k (switch_path n j) (path_at n j is (slice_get_within n.switches j a.new a.new_at))
    (path_at n k is (slice_get_within n.switches k b.new b.new_at) ∙ ap Some (sym b.path ∙ a.path))

pub one_same : (o n : Diagram) (i j k : ℕ) → IsStation o → SameSwitch o n i k → SameSwitch o n j k → i ≡ j
one_same o n i j k is a b =
    is.paths_differ.switches i j (switch_path o i) (path_at o i is (slice_get_within o.switches i a.old a.old_at))
    (path_at o j is (slice_get_within o.switches j b.old b.old_at) ∙ ap Some (b.path ∙ sym a.path))

-- the switch with this path is the only one that can be the same
pub only_same : (o n : Diagram) (i j k : ℕ) (p : List ℕ) (x y : Switch) → IsStation n →
    slice_get o.switch_paths i ≡ Some p → slice_get n.switch_paths k ≡ Some p → slice_get o.switches i ≡ Some x →
    slice_get n.switches k ≡ Some y → SameSwitch o n i j →
    (part_path o x.bay.0 ≡ part_path n y.bay.0) × (x.kind ≡ y.kind)
only_same o n i j k p x y is at_i at_k has_x has_y s =
    let there : slice_get n.switch_paths j ≡ Some p =
    path_at n j is (slice_get_within n.switches j s.new s.new_at)
    ∙ ap Some (sym s.path ∙ get_or_from_slice_get o.switch_paths i p [] at_i) in
    let one : j ≡ k = is.paths_differ.switches j k p there at_k in
    let old : s.old ≡ x = same_Some s.old x (sym s.old_at ∙ has_x) in
    let new : s.new ≡ y = same_Some s.new y (sym s.new_at ∙ ap (λ m. slice_get n.switches m) one ∙ has_y) in (
      ap (λ (z : Switch). part_path o z.bay.0) (sym old) ∙ s.bay ∙ ap (λ (z : Switch). part_path n z.bay.0) new,
      ap (λ (z : Switch). z.kind) (sym old) ∙ s.kind ∙ ap (λ (z : Switch). z.kind) new,
    )

pub no_path_none : (o n : Diagram) (i : ℕ) (p : List ℕ) → IsStation n → slice_get o.switch_paths i ≡ Some p →
    ¬ Contains n.switch_paths p → (k : ℕ) → ¬ SameSwitch o n i k
no_path_none o n i p is at lacks k s =
    lacks (Contains-from_slice_get n.switch_paths k p
    (path_at n k is (slice_get_within n.switches k s.new s.new_at)
    ∙ ap Some (sym s.path ∙ get_or_from_slice_get o.switch_paths i p [] at)))

module _ (o n : Diagram) (These Those : Item → Type 0) (most : ℕ) (pairs : List StepPair)
    (h : ArePairs o n These Those most pairs) where
  -- one more pair, whatever its steps take in
  pub pair_more : (These' Those' : Item → Type 0) (x : StepPair) →
      HaveTaken o These' (first_steps pairs ++ x.first ∷ []) →
      HaveTaken n Those' (second_steps pairs ++ x.second ∷ []) → AreTogether o n x.first x.second →
      ArePairs o n These' Those' (most + 1) (pairs ++ x ∷ [])
  pair_more These' Those' x olds news together = record {
    olds =
        subst (λ (l : List Step). HaveTaken o These' l) (sym (map-append (λ (y : StepPair). y.first) pairs (x ∷ []))) olds;
    news =
        subst (λ (l : List Step). HaveTaken n Those' l) (sym (map-append (λ (y : StepPair). y.second) pairs (x ∷ [])))
        news;
    together = λ p y at. elim (slice_get-push pairs x y p at) [
      | inl before ↦ h.together p y before
      | inr here ↦ subst (λ (z : StepPair). AreTogether o n z.first z.second) here.1 together
    ];
    few = omega (arith, length_push pairs x, h.few);
  }

-- there is room for more
pub pairs_room : (o n : Diagram) (These Those : Item → Type 0) (most more : ℕ) (pairs : List StepPair) → most ≤ more →
    ArePairs o n These Those most pairs → ArePairs o n These Those more pairs
pairs_room o n These Those most more pairs le h = record {
  olds = h.olds;
  news = h.news;
  together = h.together;
  few = omega (arith, h.few, le);
}

-- a switch of the new station, with the same of the old one or none
module _ (o n : Diagram) (io : IsStation o) (is : IsStation n) (e : ℕ) where
  upto_more : (item : Item) → Olds o n e 0 0 0 item → Olds o n (e + 1) 0 0 0 item
  upto_more (a_switch i) (inl less) = inl less
  upto_more (a_switch i) (inr x) = inr (x.0, omega (arith, x.1), x.2)
  upto_more (a_link i) less = less
  upto_more (a_tap i) less = less

  with_twin : (steps : List Step) (id : SwitchId) → HaveTaken o (Olds o n e 0 0 0) steps →
      SameSwitch o n id.0 e → HaveTaken o (Olds o n (e + 1) 0 0 0) (steps ++ OfSwitch id ∷ [])
  with_twin steps id h same =
      take_one o (Olds o n e 0 0 0) (Olds o n (e + 1) 0 0 0) steps h (OfSwitch id) (a_switch id.0) refl
      (slice_get_within o.switches id.0 same.old same.old_at) new upto_more (inr (e, omega arith, same)) back
    where
      new : ¬ Olds o n e 0 0 0 (a_switch id.0)
      new (inl less) = omega (arith, less)
      new (inr x) = omega (arith, x.1, same_one o n id.0 x.0 e is x.2 same)

      back : (item : Item) → Olds o n (e + 1) 0 0 0 item → Olds o n e 0 0 0 item ⊎ (item ≡ a_switch id.0)
      back (a_switch i) (inl less) = inl (inl less)
      back (a_switch i) (inr x) = elim (cases_eq x.0 e) [
        | inl at ↦ inr (ap a_switch
            (one_same o n i id.0 e io (subst (λ k. SameSwitch o n i k) at x.2) same))
        | inr ne ↦ inl (inr (x.0, omega (arith, x.1, ne), x.2))
      ]
      back (a_link i) less = inl less
      back (a_tap i) less = inl less

  without : (steps : List Step) → HaveTaken o (Olds o n e 0 0 0) steps → ((i : ℕ) → ¬ SameSwitch o n i e) →
      HaveTaken o (Olds o n (e + 1) 0 0 0) (steps ++ OfNothing ∷ [])
  without steps h lacks = take_none o (Olds o n e 0 0 0) (Olds o n (e + 1) 0 0 0) steps h upto_more back
    where
      back : (item : Item) → Olds o n (e + 1) 0 0 0 item → Olds o n e 0 0 0 item
      back (a_switch i) (inl less) = inl less
      back (a_switch i) (inr x) = elim (cases_eq x.0 e) [
        | inl at ↦ absurd (lacks i (subst (λ k. SameSwitch o n i k) at x.2))
        | inr ne ↦ inr (x.0, omega (arith, x.1, ne), x.2)
      ]
      back (a_link i) less = less
      back (a_tap i) less = less

  new_first : (steps : List Step) (s : Step) (id : SwitchId) → id.0 ≡ e → HaveTaken o (Olds o n e 0 0 0) steps →
      AreTogether o n s (OfSwitch id) → HaveTaken o (Olds o n (e + 1) 0 0 0) (steps ++ s ∷ [])
  new_first steps (OfSwitch i) id is_e h t = with_twin steps i h (subst (λ k. SameSwitch o n i.0 k) is_e t)
  new_first steps (OfLink i) id is_e h t = absurd t
  new_first steps (OfTap i) id is_e h t = absurd t
  new_first steps OfNothing id is_e h t = without steps h (λ i. subst (λ k. ¬ SameSwitch o n i k) is_e (t i))

  pub new_switch_taken : (pairs : List StepPair) (x : StepPair) (id : SwitchId) →
      ArePairs o n (Olds o n e 0 0 0) (News e 0 0) e pairs → id.0 ≡ e → e < length n.switches →
      x.second ≡ OfSwitch id → AreTogether o n x.first x.second →
      ArePairs o n (Olds o n (e + 1) 0 0 0) (News (e + 1) 0 0) (e + 1) (pairs ++ x ∷ [])
  new_switch_taken pairs x id h is_e lt second together =
      pair_more o n (Olds o n e 0 0 0) (News e 0 0) e pairs h (Olds o n (e + 1) 0 0 0) (News (e + 1) 0 0) x
      (new_first (first_steps pairs) x.first id is_e h.olds
      (subst (λ (s : Step). AreTogether o n x.first s) second together))
      (subst (λ (s : Step). HaveTaken n (News (e + 1) 0 0) (second_steps pairs ++ s ∷ [])) (sym second)
      (switch_taken n NoMore e 0 0 (second_steps pairs) h.news id is_e lt (λ never. never)))
      together

-- no pair
pub no_pairs : (o n : Diagram) → ArePairs o n (Olds o n 0 0 0 0) (News 0 0 0) 0 []
no_pairs o n = record {
  olds = none_taken o (SameUpto o n 0) (λ i x. omega (arith, x.1));
  news = none_taken n NoMore (λ i never. never);
  together = λ p x at. absurd (empty p x at);
  few = omega arith;
}
  where
    empty : (p : ℕ) (x : StepPair) → slice_get [] p ≡ Some x → ⊥
    empty p x at = cc

-- the other items, each of one station alone
module _ (o n : Diagram) (e s l t a b c most : ℕ) (pairs : List StepPair) (rank : ℕ)
    (h : ArePairs o n (Olds o n e s l t) (News a b c) most pairs) where
  pub old_switch_taken : (id : SwitchId) → id.0 ≡ s → s < length o.switches → ((k : ℕ) → ¬ SameSwitch o n id.0 k) →
      ArePairs o n (Olds o n e (s + 1) l t) (News a b c) (most + 1)
      (pairs ++ record { first = OfSwitch id; second = OfNothing; rank = rank } ∷ [])
  old_switch_taken id is lt lacks =
      pair_more o n (Olds o n e s l t) (News a b c) most pairs h (Olds o n e (s + 1) l t) (News a b c)
      (record { first = OfSwitch id; second = OfNothing; rank = rank })
      (switch_taken o (SameUpto o n e) s l t (first_steps pairs) h.olds id is lt
      (λ x. lacks x.0 (subst (λ i. SameSwitch o n i x.0) (sym is) x.2)))
      (nothing_taken n NoMore a b c (second_steps pairs) h.news) lacks

  pub old_switch_counted : (k : ℕ) → k < e → SameSwitch o n s k →
      ArePairs o n (Olds o n e (s + 1) l t) (News a b c) (most + 1) pairs
  old_switch_counted k lt same = record {
    olds = switch_counted o (SameUpto o n e) s l t (first_steps pairs) h.olds (k, lt, same);
    news = h.news;
    together = h.together;
    few = omega (arith, h.few);
  }

  pub old_link_taken : l < length o.links →
      ArePairs o n (Olds o n e s (l + 1) t) (News a b c) (most + 1)
      (pairs ++ record { first = OfLink l; second = OfNothing; rank = rank } ∷ [])
  old_link_taken lt =
      pair_more o n (Olds o n e s l t) (News a b c) most pairs h (Olds o n e s (l + 1) t) (News a b c)
      (record { first = OfLink l; second = OfNothing; rank = rank })
      (link_taken o (SameUpto o n e) s l t (first_steps pairs) h.olds lt)
      (nothing_taken n NoMore a b c (second_steps pairs) h.news) tt

  pub old_tap_taken : t < length o.taps →
      ArePairs o n (Olds o n e s l (t + 1)) (News a b c) (most + 1)
      (pairs ++ record { first = OfTap t; second = OfNothing; rank = rank } ∷ [])
  old_tap_taken lt =
      pair_more o n (Olds o n e s l t) (News a b c) most pairs h (Olds o n e s l (t + 1)) (News a b c)
      (record { first = OfTap t; second = OfNothing; rank = rank })
      (tap_taken o (SameUpto o n e) s l t (first_steps pairs) h.olds lt)
      (nothing_taken n NoMore a b c (second_steps pairs) h.news) tt

  pub new_link_taken : b < length n.links →
      ArePairs o n (Olds o n e s l t) (News a (b + 1) c) (most + 1)
      (pairs ++ record { first = OfNothing; second = OfLink b; rank = rank } ∷ [])
  new_link_taken lt =
      pair_more o n (Olds o n e s l t) (News a b c) most pairs h (Olds o n e s l t) (News a (b + 1) c)
      (record { first = OfNothing; second = OfLink b; rank = rank })
      (nothing_taken o (SameUpto o n e) s l t (first_steps pairs) h.olds)
      (link_taken n NoMore a b c (second_steps pairs) h.news lt) tt

  pub new_tap_taken : c < length n.taps →
      ArePairs o n (Olds o n e s l t) (News a b (c + 1)) (most + 1)
      (pairs ++ record { first = OfNothing; second = OfTap c; rank = rank } ∷ [])
  new_tap_taken lt =
      pair_more o n (Olds o n e s l t) (News a b c) most pairs h (Olds o n e s l t) (News a b (c + 1))
      (record { first = OfNothing; second = OfTap c; rank = rank })
      (nothing_taken o (SameUpto o n e) s l t (first_steps pairs) h.olds)
      (tap_taken n NoMore a b c (second_steps pairs) h.news lt) tt
