use Rattle.std.proofs.Common.{◌≡◌, ◌∙◌, sym, ap, subst, refl, Bool, true, false, ◌&&◌, ◌==◌, eq-eqb}
use Rattle.std.proofs.lemmas.Bool.{eqb-true}
use denote.Enum.Bare.{sameb}
use Rattle.ilk_base.specs.contracts.words.Direction.{the_type}
use Rattle.ilk_base.specs.declared.words.Direction.{Direction}
use Rattle.ilk_base.specs.declared.words.Direction.TheVariants.{ToOff, ToOn}
use Rattle.ilk_base.specs.declared.words.Op.{Op}
use Rattle.equation_audit.specs.Equations.{Equation}
use Rattle.equation_audit.proofs.block.Block.is_of.Goals as goal

same_way : (a b : Direction) → sameb the_type a b ≡ true → a ≡ b
same_way ToOff ToOff is = refl
same_way ToOff ToOn is = absurd (cc)
same_way ToOn ToOff is = absurd (cc)
same_way ToOn ToOn is = refl

way_itself : (a : Direction) → sameb the_type a a ≡ true
way_itself ToOff = refl
way_itself ToOn = refl

first : (a b : Bool) → (a && b) ≡ true → a ≡ true
first true b is = refl
first false b is = absurd (cc)

second : (a b : Bool) → (a && b) ≡ true → b ≡ true
second true b is = is
second false b is = absurd (cc)

same_op : (a b : Op) → ((a.switch.0 == b.switch.0) && sameb the_type a.direction b.direction) ≡ true → a ≡ b
same_op a b is =
    let s = eqb-true a.switch.0 b.switch.0 (first _ _ is) in
    let w = same_way a.direction b.direction (second _ _ is) in
    λ i. record { switch = record { 0 = s i }; direction = w i }

op_itself : (a : Op) → ((a.switch.0 == a.switch.0) && sameb the_type a.direction a.direction) ≡ true
op_itself a = λ i. eq-eqb a.switch.0 a.switch.0 refl i && way_itself a.direction i

op_equal : (a b : Op) → a ≡ b → ((a.switch.0 == b.switch.0) && sameb the_type a.direction b.direction) ≡ true
op_equal a b is = subst (λ (x : Op). ((a.switch.0 == x.switch.0) && sameb the_type a.direction x.direction) ≡ true) is
    (op_itself a)

pub returns : goal.returns
returns c =
    let own : c.self.inside.op ≡ c.args.self.now.op = ap (λ (e : Equation). e.op) c.self.view_is in (
      (λ yes. sym own ∙ same_op c.self.inside.op c.args.op (sym c.eq.ensures ∙ yes)),
      (λ is. c.eq.ensures ∙ op_equal c.self.inside.op c.args.op (own ∙ is)),
    )
