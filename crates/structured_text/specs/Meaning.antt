-- What a text means: the values of its variables after its assignments, in order.
use Rattle.std.specs.Prelude.{◌==◌, ◌&&◌, ◌||◌, Bool, true, false, List, [], ◌∷◌, if◌then◌else◌}
use Rattle.structured_text.specs.declared.name.Name.{Name}
use Rattle.structured_text.specs.declared.name.Name.TheVariants.{Off, On, May, Sure, Opens, Closes}
use Rattle.structured_text.specs.declared.line.GapDenial.{GapDenial}
use Rattle.structured_text.specs.declared.line.GapDenial.TheVariants.{One, Two}
use Rattle.structured_text.specs.declared.line.LoadDenial.{LoadDenial}
use Rattle.structured_text.specs.declared.line.LoadDenial.TheVariants.{Loaded, Unbonded}
use Rattle.structured_text.specs.declared.line.Operand.{Operand}
use Rattle.structured_text.specs.declared.line.Operand.TheVariants.{Variable, Product, Sum}
use Rattle.structured_text.specs.declared.line.Formula.{Formula}
use Rattle.structured_text.specs.declared.line.Formula.TheVariants.{Always, Never, MayBeClosed, IsClosed, Both, Either, Apart, Unloaded, Released}
use Rattle.structured_text.specs.declared.line.Line.{Line}

-- A value for each variable.
abbrev pub Store : Type 0
Store = Name → Bool

-- NOT.
abbrev pub b_not : Bool → Bool
b_not true = false
b_not false = true

-- What two contacts of a switch say: it may be closed, and it is closed for certain.
abbrev pub may_be_closed : Bool → Bool → Bool
may_be_closed off on = on || b_not off

abbrev pub is_closed : Bool → Bool → Bool
is_closed off on = on && b_not off

-- Whether the denial holds.
abbrev pub gap_denied : Store → GapDenial → Bool
gap_denied s (One a) = s a
gap_denied s (Two a b) = s a && s b

abbrev pub load_denied : Store → LoadDenial → Bool
load_denied s (Loaded a b) = s a && s b
load_denied s (Unbonded a b c) = s a && (s b && b_not (s c))

-- The value of one side of AND or OR.
abbrev pub operand_value : Store → Operand → Bool
operand_value s (Variable a) = s a
operand_value s (Product a b) = s a && s b
operand_value s (Sum a b) = s a || s b

-- The value of a formula.
abbrev pub value : Store → Formula → Bool
value s Always = true
value s Never = false
value s (MayBeClosed i) = may_be_closed (s (Off i)) (s (On i))
value s (IsClosed i) = is_closed (s (Off i)) (s (On i))
value s (Both a b) = operand_value s a && operand_value s b
value s (Either a b) = operand_value s a || operand_value s b
value s (Apart gap) = b_not (gap_denied s gap)
value s (Unloaded load) = b_not (load_denied s load)
value s (Released gap load) = b_not (gap_denied s gap) && b_not (load_denied s load)

-- Whether two variables are one.
abbrev pub same_name : Name → Name → Bool
same_name (Off a) (Off b) = a.0 == b.0
same_name (On a) (On b) = a.0 == b.0
same_name (May a) (May b) = a == b
same_name (Sure a) (Sure b) = a == b
same_name (Opens a) (Opens b) = a.0 == b.0
same_name (Closes a) (Closes b) = a.0 == b.0
same_name a b = false

-- The store in which this variable has this value, and the others are as they were.
abbrev pub assign : Store → Name → Bool → Store
assign s n x m = if same_name n m then x else s m

-- The store after these lines, one after another.
abbrev pub after : List Line → Store → Store
after [] s = s
after (line ∷ rest) s = after rest (assign s line.name (value s line.formula))
