-- Which remarks a drawing gets, at which of its elements.
use Rattle.std.specs.Prelude.{◌≡◌, ℕ, true, List}
use Rattle.station_graph.specs.Diagram.{Diagram}
use Rattle.ssd_read.specs.Elements.{Element, element_at}
use Rattle.drawing_remarks.specs.declared.kinds.RemarkKind.{RemarkKind}
use Rattle.drawing_remarks.specs.declared.kinds.RemarkKind.TheVariants.{NoSwitch, NoInfeed, PassedOver, UnknownType}
use Rattle.drawing_remarks.specs.declared.kinds.RemarkKind.TheVariants.{TypeCase, Grounded, NoBond, LoneInfeed, Winding}
use Rattle.drawing_remarks.specs.declared.kinds.RemarkKind.TheVariants.{EarthName, LooseEnd, Apart, TwoNodes}
use Rattle.drawing_remarks.specs.Drawn.{is_passed_over, has_unknown_type, has_type_in_case, is_oddly_grounded, is_no_bond}
use Rattle.drawing_remarks.specs.Drawn.{is_joining_winding, is_named_as_earth, names_two_nodes}
use Rattle.drawing_remarks.specs.Station.{has_no_switch, has_no_infeed, IsLoneInfeed, IsApart, is_loose_end}

-- The element at a place gets a remark of this kind. What is said of the whole station is said at its root.
abbrev pub IsRemark : List Element → Diagram → RemarkKind → ℕ → Type 0
IsRemark all d NoSwitch i = (i ≡ 0) × (has_no_switch d ≡ true)
IsRemark all d NoInfeed i = (i ≡ 0) × (has_no_infeed d ≡ true)
IsRemark all d PassedOver i = is_passed_over all (element_at all i) ≡ true
IsRemark all d UnknownType i = has_unknown_type (element_at all i) ≡ true
IsRemark all d TypeCase i = has_type_in_case (element_at all i) ≡ true
IsRemark all d Grounded i = is_oddly_grounded all i (element_at all i) ≡ true
IsRemark all d NoBond i = is_no_bond all i (element_at all i) ≡ true
IsRemark all d LoneInfeed i = IsLoneInfeed all d i
IsRemark all d Winding i = is_joining_winding all i (element_at all i) ≡ true
IsRemark all d EarthName i = is_named_as_earth (element_at all i) ≡ true
IsRemark all d LooseEnd i = is_loose_end all d i ≡ true
IsRemark all d Apart i = IsApart all d i
IsRemark all d TwoNodes i = names_two_nodes (element_at all i) ≡ true
