-- Bay by bay the switches of the new station are narrow along one family of orders.
use Rattle.std.proofs.Common.{◌≡◌, ◌≢◌, ℕ, ◌+◌, ◌-◌, ◌<◌, ◌≤◌, suc, Bool, true, false, List, Option, MatchOption}
use Rattle.std.proofs.Common.{length, slice_get, Some}
use Rattle.std.proofs.Common.{refl, sym, ap, ◌∙◌, subst, inl, inr, arith}
use Rattle.std.specs.Prelude.{◌==◌, ⊤, if◌then◌else◌}
use Rattle.std.proofs.lemmas.Bool.{cases_Bool, cases_eq}
use Rattle.std.proofs.lemmas.Bool.Decides.{nat_tests}
use Rattle.std.proofs.lemmas.Option.{slice_get_within, same_Some}
use Rattle.ilk_base.specs.declared.words.BayId.{BayId}
use Rattle.judge_intake.proofs.OtherLemmas.{element}
use Rattle.station_graph.specs.declared.items.Switch.{Switch}
use Rattle.station_graph.specs.Diagram.{Diagram, IsStation}
use Rattle.step_graphs.specs.declared.step.Step.{Step}
use Rattle.station_joints.specs.declared.joint.JointSteps.{JointSteps}
use Rattle.station_joints.specs.Together.{AreJointSteps}
use Rattle.station_compare.specs.declared.likeness.LikeBays.{LikeBays}
use Rattle.station_compare.specs.declared.walks.BayWalks.{BayWalks}
use Rattle.station_compare.specs.Sharing.{like_in, limit_by}
use Rattle.station_compare.specs.declared.sharing.Sharing.{Sharing}
use Rattle.station_compare.specs.Width.{IsNarrowAlong, IsWideAlong}
use Rattle.station_compare.specs.Comparing.{IsWideBay}
use Rattle.station_compare.specs.Orders.{Orders, IsCarried, IsNarrow, AreNarrow}
use Rattle.station_compare.specs.Turning.{AreBayWalks, IsOfBay, IsBayBefore, AreNarrowBefore, likes_of}
use Rattle.station_compare.proofs.LikeLemmas.{eq_from}

-- before the first switch
pub first_orders : (o n : Diagram) (w : BayWalks) → AreBayWalks o n w → AreNarrowBefore o n w 0
first_orders o n w are = record {
  orders = record {
    old_steps = λ bay. w.steps.old_steps.items;
    new_steps = λ bay. w.steps.new_steps.items;
    like = likes_of w;
    joint = λ bay. are.steps.steps;
    exchanged = are.sharing.likes;
  };
  old_steps = refl;
  new_steps = refl;
  like = refl;
  before = λ j lt. absurd (omega (arith, lt));
}

-- ---- a switch of the bay at work

module _ (o n : Diagram) (w : BayWalks) (k : ℕ) (h : AreNarrowBefore o n w k) (of : IsOfBay n w.bay.0 k) where
  -- the exchange of a switch of the bay
  like_here : (x : Switch) → slice_get n.switches k ≡ Some x → h.orders.like x.bay.0 ≡ likes_of w w.bay.0
  like_here x at = ap h.orders.like (of x at) ∙ ap (λ (f : ℕ → Option LikeBays). f w.bay.0) h.like

  pub narrow_here : (¬ IsCarried (likes_of w w.bay.0) k →
      IsNarrowAlong o n w.steps.old_steps.items w.steps.new_steps.items k (limit_by n (likes_of w))) →
      IsNarrow o n h.orders k
  narrow_here narrow x at not_carried =
      let e : w.bay.0 ≡ x.bay.0 = sym (of x at) in
      let none : ¬ IsCarried (likes_of w w.bay.0) k =
      subst (λ (l : Option LikeBays). ¬ IsCarried l k) (like_here x at) not_carried in
      subst (λ (xs : List Step). IsNarrowAlong o n xs (h.orders.new_steps x.bay.0) k (limit_by n h.orders.like))
      (sym (ap h.orders.old_steps (sym e) ∙ h.old_steps))
      (subst (λ (ys : List Step). IsNarrowAlong o n w.steps.old_steps.items ys k (limit_by n h.orders.like))
      (sym (ap h.orders.new_steps (sym e) ∙ h.new_steps))
      (subst (λ (f : ℕ → Option LikeBays). IsNarrowAlong o n w.steps.old_steps.items w.steps.new_steps.items k
      (limit_by n f)) (sym h.like) (narrow none)))

  pub wide_here : (x : Switch) → slice_get n.switches k ≡ Some x → ¬ IsCarried (likes_of w w.bay.0) k →
      IsWideAlong o n w.steps.old_steps.items w.steps.new_steps.items k (limit_by n (likes_of w)) →
      IsWideBay o n x.bay.0
  wide_here x at none wide =
      let e : x.bay.0 ≡ w.bay.0 = of x at in (
        h.orders,
        record {
          switch = k;
          too_wide = record {
            switch = x;
            at = at;
            of_bay = refl;
            not_carried = subst (λ (l : Option LikeBays). ¬ IsCarried l k) (sym (like_here x at)) none;
            wide =
                subst (λ (xs : List Step). IsWideAlong o n xs (h.orders.new_steps x.bay.0) k (limit_by n h.orders.like))
                (sym (ap h.orders.old_steps e ∙ h.old_steps))
                (subst (λ (ys : List Step). IsWideAlong o n w.steps.old_steps.items ys k (limit_by n h.orders.like))
                (sym (ap h.orders.new_steps e ∙ h.new_steps))
                (subst (λ (f : ℕ → Option LikeBays). IsWideAlong o n w.steps.old_steps.items w.steps.new_steps.items k
                (limit_by n f)) (sym h.like) wide));
          };
          before = h.before;
        },
      )

  -- and the next one, along the same steps
  pub narrow_next : (v : BayWalks) → v.bay ≡ w.bay → v.steps ≡ w.steps → v.sharing ≡ w.sharing →
      IsNarrow o n h.orders k → AreNarrowBefore o n v (k + 1)
  narrow_next v same_bay same_steps same_sharing narrow = record {
    orders = h.orders;
    old_steps =
        ap (λ (b : BayId). h.orders.old_steps b.0) same_bay
        ∙ (h.old_steps ∙ ap (λ (s : JointSteps). s.old_steps.items) (sym same_steps));
    new_steps =
        ap (λ (b : BayId). h.orders.new_steps b.0) same_bay
        ∙ (h.new_steps ∙ ap (λ (s : JointSteps). s.new_steps.items) (sym same_steps));
    like = h.like ∙ ap (λ (s : Sharing). like_in s.likes.items) (sym same_sharing);
    before = λ j lt. elim (cases_eq j k) [
      | inl e ↦ subst (λ i. IsNarrow o n h.orders i) (sym e) narrow
      | inr ne ↦ h.before j (omega (arith, lt, ne))
    ];
  }

-- ---- another bay

pub of_its_bay : (d : Diagram) (k : ℕ) (x : Switch) → slice_get d.switches k ≡ Some x → (b : ℕ) → b ≡ x.bay.0 →
    IsOfBay d b k
of_its_bay d k x at b same y at_y =
    ap (λ (z : Switch). z.bay.0) (same_Some y x (sym at_y ∙ at)) ∙ sym same

one_or : {X Y : Type 0} (P : X → Y → Type 0) (t : Bool) (x x' : X) (y y' : Y) → P x y → P x' y' →
    P (if t then x else x') (if t then y else y')
one_or P true x x' y y' p q = p
one_or P false x x' y y' p q = q

other_of : {X Y : Type 0} (P : X → Y → Type 0) (t : Bool) (x x' : X) (y y' : Y) → t ≡ false → P x' y' →
    P (if t then x else x') (if t then y else y')
other_of P true x x' y y' e p = cc
other_of P false x x' y y' e p = p

this_of : {X : Type 0} (t : Bool) (x x' : X) → t ≡ true → (if t then x else x') ≡ x
this_of true x x' e = refl
this_of false x x' e = cc

eq_self : (a : ℕ) → (a == a) ≡ true
eq_self a = grind (arith, nat_tests)

not_eq : (a b : ℕ) → a ≢ b → (a == b) ≡ false
not_eq a b ne = elim (cases_Bool (a == b)) [ inl t ↦ absurd (ne (eq_from a b t)) | inr f ↦ f ]

module _ (o n : Diagram) (w v : BayWalks) (k : ℕ) (is : IsStation n) (h : AreNarrowBefore o n w k)
    (last : IsBayBefore n w.bay.0 k) (x : Switch) (at : slice_get n.switches k ≡ Some x) (of : v.bay.0 ≡ x.bay.0)
    (turned : w.bay.0 ≢ x.bay.0) (are : AreBayWalks o n v) (same : v.sharing ≡ w.sharing) where
  -- no switch before this one is of its bay
  no_earlier : (i j : ℕ) (y : Switch) → suc i ≡ k → j < k → slice_get n.switches j ≡ Some y → y.bay.0 ≢ v.bay.0
  no_earlier i j y next lt at_y e =
      let (z, at_z) = element n.switches i (omega (arith, next, slice_get_within n.switches k x at)) in
      turned (sym (last i next z at_z)
      ∙ (is.neighbouring j i k y z x (omega (arith, lt, next)) (omega (arith, next)) at_y at_z at (e ∙ of) ∙ (e ∙ of)))

  turned_orders : Orders o n
  turned_orders = record {
    old_steps = λ bay. if bay == v.bay.0 then v.steps.old_steps.items else h.orders.old_steps bay;
    new_steps = λ bay. if bay == v.bay.0 then v.steps.new_steps.items else h.orders.new_steps bay;
    like = h.orders.like;
    joint = λ bay. one_or (AreJointSteps o n) (bay == v.bay.0) v.steps.old_steps.items (h.orders.old_steps bay)
        v.steps.new_steps.items (h.orders.new_steps bay) are.steps.steps (h.orders.joint bay);
    exchanged = h.orders.exchanged;
  }

  turned_narrow : (j : ℕ) → j < k → IsNarrow o n turned_orders j
  unfolding turned_orders
  turned_narrow j lt y at_y =
      let b = y.bay.0 in
      other_of (λ (ss ts : List Step). ¬ IsCarried (h.orders.like b) j → IsNarrowAlong o n ss ts j
      (limit_by n h.orders.like)) (b == v.bay.0) v.steps.old_steps.items (h.orders.old_steps b) v.steps.new_steps.items
      (h.orders.new_steps b) (not_eq b v.bay.0 (no_earlier (k - 1) j y (omega (arith, lt)) lt at_y)) (h.before j lt y at_y)

  pub narrow_turned : AreNarrowBefore o n v k
  unfolding turned_orders
  narrow_turned = record {
    orders = turned_orders;
    old_steps = this_of (v.bay.0 == v.bay.0) v.steps.old_steps.items (h.orders.old_steps v.bay.0) (eq_self v.bay.0);
    new_steps = this_of (v.bay.0 == v.bay.0) v.steps.new_steps.items (h.orders.new_steps v.bay.0) (eq_self v.bay.0);
    like = h.like ∙ ap (λ (s : Sharing). like_in s.likes.items) (sym same);
    before = turned_narrow;
  }

-- ---- all switches

-- the switch before the next one is this one
pub bay_next : (d : Diagram) (k : ℕ) (b c : BayId) → c ≡ b → IsOfBay d b.0 k → IsBayBefore d c.0 (k + 1)
bay_next d k b c same of j e x at =
    let here : j ≡ k = omega (arith, e) in
    of x (subst (λ i. slice_get d.switches i ≡ Some x) here at) ∙ ap (λ (y : BayId). y.0) (sym same)

pub all_narrow : (o n : Diagram) (w : BayWalks) (k : ℕ) → AreNarrowBefore o n w k → length n.switches ≤ k →
    AreNarrow o n
all_narrow o n w k h all = (
  h.orders,
  λ j x at. h.before j (omega (arith, slice_get_within n.switches j x at, all)) x at,
)
