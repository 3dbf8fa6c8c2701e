-- What a block says in the variables of the program, at a call.
use Rattle.std.specs.Prelude.{◌+◌, slice_index_or, nat_lt, None, if◌then◌else◌}
use Rattle.ilk_base.specs.declared.words.SwitchId.{SwitchId}
use Rattle.structured_text.specs.declared.name.Name.{Name}
use Rattle.structured_text.specs.declared.name.Name.TheVariants.{Off, On, May, Sure, Opens, Closes}
use Rattle.structured_text.specs.declared.line.GapDenial.{GapDenial}
use Rattle.structured_text.specs.declared.line.GapDenial.TheVariants.{One, Two}
use Rattle.structured_text.specs.declared.line.LoadDenial.{LoadDenial}
use Rattle.structured_text.specs.declared.line.LoadDenial.TheVariants.{Loaded, Unbonded}
use Rattle.structured_text.specs.declared.line.Operand.{Operand}
use Rattle.structured_text.specs.declared.line.Operand.TheVariants.{Variable, Product, Sum}
use Rattle.structured_text.specs.declared.line.Formula.{Formula}
use Rattle.structured_text.specs.declared.line.Formula.TheVariants.{Always, Never, MayBeClosed, IsClosed, Both, Either, Apart, Unloaded, Released}
use Rattle.structured_text.specs.declared.line.Line.{Line}
use Rattle.program_blocks.specs.declared.block.BlockCall.{BlockCall}

-- The switch of the call's bay.
abbrev pub switch_at : BlockCall → SwitchId → SwitchId
switch_at c i = if nat_lt (i.0 + c.shift) 65536 then record { 0 = i.0 + c.shift } else i

-- The variable of the program.
abbrev pub outer : BlockCall → Name → Name
outer c (Off i) = Off (switch_at c i)
outer c (On i) = On (switch_at c i)
outer c (May k) = May (slice_index_or c.may.items k 0)
outer c (Sure k) = Sure (slice_index_or c.sure.items k 0)
outer c (Opens i) = Opens (switch_at c i)
outer c (Closes i) = Closes (switch_at c i)

-- A denial, a side of AND or OR, a formula, in these variables.
abbrev pub outer_gap : BlockCall → GapDenial → GapDenial
outer_gap c (One a) = One (outer c a)
outer_gap c (Two a b) = Two (outer c a) (outer c b)

abbrev pub outer_load : BlockCall → LoadDenial → LoadDenial
outer_load c (Loaded a b) = Loaded (outer c a) (outer c b)
outer_load c (Unbonded a b e) = Unbonded (outer c a) (outer c b) (outer c e)

abbrev pub outer_operand : BlockCall → Operand → Operand
outer_operand c (Variable a) = Variable (outer c a)
outer_operand c (Product a b) = Product (outer c a) (outer c b)
outer_operand c (Sum a b) = Sum (outer c a) (outer c b)

abbrev pub outer_formula : BlockCall → Formula → Formula
outer_formula c Always = Always
outer_formula c Never = Never
outer_formula c (MayBeClosed i) = MayBeClosed (switch_at c i)
outer_formula c (IsClosed i) = IsClosed (switch_at c i)
outer_formula c (Both a b) = Both (outer_operand c a) (outer_operand c b)
outer_formula c (Either a b) = Either (outer_operand c a) (outer_operand c b)
outer_formula c (Apart gap) = Apart (outer_gap c gap)
outer_formula c (Unloaded load) = Unloaded (outer_load c load)
outer_formula c (Released gap load) = Released (outer_gap c gap) (outer_load c load)

-- The line of the program for which a line of the block stands.
abbrev pub outer_line : BlockCall → Line → Line
outer_line c x = record { heading = None; name = outer c x.name; formula = outer_formula c x.formula }
