-- What changes for an operation changes for the exchanged one.
use Rattle.std.proofs.Common.{◌≡◌, ℕ, Bool, true, List, length, slice_get, Some, None, Option}
use Rattle.std.proofs.Common.{sym, ap, ◌∙◌, subst, refl, arith}
use Rattle.std.specs.Prelude.{◌==◌}
use Rattle.std.proofs.lemmas.Bool.Decides.{nat_tests}
use Rattle.ilk_base.specs.declared.words.Op.{Op}
use Rattle.ilk_base.specs.declared.words.Rule.{Rule}
use Rattle.station_graph.specs.Diagram.{Diagram, IsStation}
use Rattle.station_graph.specs.CentralRules.{Breaks}
use Rattle.station_changes.specs.declared.change.Change.{Change}
use Rattle.station_changes.specs.declared.change.Change.TheVariants.{Stricter, Looser}
use Rattle.station_changes.specs.Compare.{SameSwitch, IsJoint, IsIsolated, IsChange, Witness, Shows}
use Rattle.station_changes.proofs.MirrorLemmas.{same_back}
use Rattle.release_dependence.specs.Exchange.{IsExchanged, IsExchangedOp}
use Rattle.release_dependence.proofs.ExchangeLemmas.{breaks_to}
use Rattle.like_bays.specs.Like.{led_by, IsExchangeBy}
use Rattle.like_bays.proofs.VectorLemmas.{exchanged, exchanged_len, led_back, led_within, is_exchanged}
use Rattle.station_compare.specs.declared.likeness.LikeBays.{LikeBays}
use Rattle.release_dependence.specs.Operations.{opening, closing}
use Rattle.station_compare.specs.Likeness.{AreExchanged, AreExchangedOps}
use Rattle.station_compare.proofs.TwinLemmas.{one_same}

op_along : (f g : ℕ → ℕ) → ((s : ℕ) → g s ≡ f s) → (op other : Op) → IsExchangedOp f op other → IsExchangedOp g op other
op_along f g same op other o = record {
  switch = o.switch ∙ sym (same op.switch.0);
  direction = o.direction;
}

vector_along : (f g : ℕ → ℕ) → ((s : ℕ) → g s ≡ f s) → (v w : List Bool) → IsExchanged f v w → IsExchanged g v w
vector_along f g same v w e i = e i ∙ ap (slice_get w) (sym (same i))

breaks_moved : (d : Diagram) (table : List ℕ) → IsExchangeBy d table → (op other : Op) →
    IsExchangedOp (led_by table) op other → (v w : List Bool) → IsExchanged (led_by table) v w →
    (answer : Option Rule) → Breaks d v op answer → Breaks d w other answer
breaks_moved d table h op other o v w e answer b =
    breaks_to d h.exchange op other (op_along (led_by table) h.exchange.switch_to h.leads op other o) v w
    (vector_along (led_by table) h.exchange.switch_to h.leads v w e) answer b

-- the position in the exchanged vector is that of the switch to which the table leads
at_back : (d : Diagram) (table : List ℕ) → IsExchangeBy d table → (u w : List Bool) → IsExchanged (led_by table) u w →
    (i : ℕ) → slice_get w i ≡ slice_get u (led_by table i)
at_back d table h u w e i = ap (slice_get w) (sym (led_back d table h i)) ∙ sym (e (led_by table i))

op_back : (d : Diagram) (table : List ℕ) → IsExchangeBy d table → (op other : Op) →
    IsExchangedOp (led_by table) op other → IsExchangedOp (led_by table) other op
op_back d table h op other o = record {
  switch = sym (ap (led_by table) o.switch ∙ led_back d table h op.switch.0);
  direction = sym o.direction;
}

module _ (o n : Diagram) (x : LikeBays) (h : AreExchanged o n x) where
  change_to : (a b c d : Op) (change : Change) (rule : Rule) (u v u' v' : List Bool) → AreExchangedOps x a b c d →
      IsExchanged (led_by x.old.items) u u' → IsExchanged (led_by x.new.items) v v' →
      IsChange o n a b change rule u v → IsChange o n c d change rule u' v'
  change_to a b c d Stricter rule u v u' v' ops e f is = (
    breaks_moved o x.old.items h.old a c ops.old u u' e None is.0,
    breaks_moved n x.new.items h.new b d ops.new v v' f (Some rule) is.1,
  )
  change_to a b c d Looser rule u v u' v' ops e f is = (
    breaks_moved o x.old.items h.old a c ops.old u u' e (Some rule) is.0,
    breaks_moved n x.new.items h.new b d ops.new v v' f None is.1,
  )

  ops_back : (a b c d : Op) → AreExchangedOps x a b c d → AreExchangedOps x c d a b
  ops_back a b c d ops = record {
    old = op_back o x.old.items h.old a c ops.old;
    new = op_back n x.new.items h.new b d ops.new;
  }

  joint_to : (u v u' v' : List Bool) → length u' ≡ length o.switches → length v' ≡ length n.switches →
      IsExchanged (led_by x.old.items) u u' → IsExchanged (led_by x.new.items) v v' →
      IsJoint o n u v → IsJoint o n u' v'
  joint_to u v u' v' lu lv e f j = record {
    old = lu;
    new = lv;
    agree = λ i k s. at_back o x.old.items h.old u u' e i
        ∙ (j.agree (led_by x.old.items i) (led_by x.new.items k) (h.agree i k s)
        ∙ sym (at_back n x.new.items h.new v v' f k));
  }

  alone_old : (i : ℕ) → ((k : ℕ) → ¬ SameSwitch o n i k) → (k : ℕ) →
      ¬ SameSwitch o n (led_by x.old.items i) k
  alone_old i alone k s =
      alone (led_by x.new.items k)
      (subst (λ j. SameSwitch o n j (led_by x.new.items k)) (led_back o x.old.items h.old i)
      (h.agree (led_by x.old.items i) k s))

  pub alone_new : (k : ℕ) → ((i : ℕ) → ¬ SameSwitch o n i k) → (i : ℕ) →
      ¬ SameSwitch o n i (led_by x.new.items k)
  alone_new k alone i s =
      alone (led_by x.old.items i)
      (subst (λ j. SameSwitch o n (led_by x.old.items i) j) (led_back n x.new.items h.new k)
      (h.agree i (led_by x.new.items k) s))

  isolated_to : (u v u' v' : List Bool) → IsExchanged (led_by x.old.items) u u' →
      IsExchanged (led_by x.new.items) v v' → IsIsolated o n u v → IsIsolated o n u' v'
  isolated_to u v u' v' e f is = record {
    old = λ i lt alone. at_back o x.old.items h.old u u' e i
        ∙ is.old (led_by x.old.items i) (led_within o x.old.items h.old i lt) (alone_old i alone);
    new = λ k lt alone. at_back n x.new.items h.new v v' f k
        ∙ is.new (led_by x.new.items k) (led_within n x.new.items h.new k lt) (alone_new k alone);
  }

  -- a change of the exchanged operations, back
  module _ (a b c d : Op) (ops : AreExchangedOps x a b c d) (change : Change) (rule : Rule) (u v : List Bool)
      (j : IsJoint o n u v) where
    old_back : IsExchanged (led_by x.old.items) u (exchanged o x.old.items u)
    old_back = is_exchanged o x.old.items h.old u j.old

    new_back : IsExchanged (led_by x.new.items) v (exchanged n x.new.items v)
    new_back = is_exchanged n x.new.items h.new v j.new

    joint_back : IsJoint o n (exchanged o x.old.items u) (exchanged n x.new.items v)
    joint_back =
        joint_to u v (exchanged o x.old.items u) (exchanged n x.new.items v) (exchanged_len o x.old.items u)
        (exchanged_len n x.new.items v) old_back new_back j

    isolated_back : IsIsolated o n u v → IsIsolated o n (exchanged o x.old.items u) (exchanged n x.new.items v)
    isolated_back is = isolated_to u v (exchanged o x.old.items u) (exchanged n x.new.items v) old_back new_back is

    change_back : IsChange o n c d change rule u v →
        IsChange o n a b change rule (exchanged o x.old.items u) (exchanged n x.new.items v)
    change_back is =
        change_to c d a b change rule u v (exchanged o x.old.items u) (exchanged n x.new.items v) (ops_back a b c d ops) old_back
        new_back is

  pub none_to : (a b c d : Op) → AreExchangedOps x a b c d → (change : Change) (rule : Rule) →
      ((u v : List Bool) → IsJoint o n u v → ¬ IsChange o n a b change rule u v) → (u v : List Bool) →
      IsJoint o n u v → ¬ IsChange o n c d change rule u v
  none_to a b c d ops change rule none u v j is =
      none (exchanged o x.old.items u) (exchanged n x.new.items v) (joint_back a b c d ops change rule u v j)
      (change_back a b c d ops change rule u v j is)

  pub shown_to : (a b c d : Op) → AreExchangedOps x a b c d → (change : Change) (rule : Rule) (w w' : Witness) →
      length w'.old ≡ length o.switches → length w'.new ≡ length n.switches → w'.isolated ≡ w.isolated →
      (length w.old ≡ length o.switches → IsExchanged (led_by x.old.items) w.old w'.old) →
      (length w.new ≡ length n.switches → IsExchanged (led_by x.new.items) w.new w'.new) →
      Shows o n a b change rule w → Shows o n c d change rule w'
  shown_to a b c d ops change rule w w' lu lv same ex fx s =
      let e = ex s.joint.old in
      let f = fx s.joint.new in
      record {
        joint = joint_to w.old w.new w'.old w'.new lu lv e f s.joint;
        shows = change_to a b c d change rule w.old w.new w'.old w'.new ops e f s.shows;
        isolated = λ t. isolated_to w.old w.new w'.old w'.new e f (s.isolated (sym same ∙ t));
        none_isolated = λ t u v j is changes.
            s.none_isolated (sym same ∙ t) (exchanged o x.old.items u) (exchanged n x.new.items v)
            (joint_back a b c d ops change rule u v j) (isolated_back a b c d ops change rule u v j is)
            (change_back a b c d ops change rule u v j changes);
      }

  pub opened_to : (i k i' : ℕ) → i' ≡ led_by x.old.items i →
      AreExchangedOps x (opening i) (opening k) (opening i') (opening (led_by x.new.items k))
  opened_to i k i' e = record {
    old = record { switch = e; direction = refl };
    new = record { switch = refl; direction = refl };
  }

  pub closed_to : (i k i' : ℕ) → i' ≡ led_by x.old.items i →
      AreExchangedOps x (closing i) (closing k) (closing i') (closing (led_by x.new.items k))
  closed_to i k i' e = record {
    old = record { switch = e; direction = refl };
    new = record { switch = refl; direction = refl };
  }

pub eq_from : (a b : ℕ) → (a == b) ≡ true → a ≡ b
eq_from a b same = grind (arith, nat_tests)

-- the twins of switches that stand for each other
pub twins_to : (o n : Diagram) (i k twin there other : ℕ) (f g : ℕ → ℕ) → IsStation o → SameSwitch n o k twin →
    SameSwitch n o there other → there ≡ g k → other ≡ f twin → SameSwitch o n i k → SameSwitch o n (f i) (g k)
twins_to o n i k twin there other f g is at_k at_there to_there to_other s =
    let one : i ≡ twin = one_same o n i twin k is s (same_back n o k twin at_k) in
    subst (λ j. SameSwitch o n (f i) j) to_there
    (subst (λ j. SameSwitch o n j there) (to_other ∙ ap f (sym one)) (same_back n o there other at_there))
