-- What the text calls a remark of a kind.
use Rattle.std.specs.Prelude.{ℕ, List, codes}
use Rattle.drawing_remarks.specs.declared.kinds.RemarkKind.{RemarkKind}
use Rattle.drawing_remarks.specs.declared.kinds.RemarkKind.TheVariants.{NoSwitch, NoInfeed, PassedOver, UnknownType}
use Rattle.drawing_remarks.specs.declared.kinds.RemarkKind.TheVariants.{TypeCase, Grounded, NoBond, LoneInfeed, Winding}
use Rattle.drawing_remarks.specs.declared.kinds.RemarkKind.TheVariants.{EarthName, LooseEnd, Apart, TwoNodes}

abbrev pub kind_word : RemarkKind → List ℕ
kind_word NoSwitch = codes "no-switch"
kind_word NoInfeed = codes "no-infeed"
kind_word PassedOver = codes "passed-over"
kind_word UnknownType = codes "unknown-type"
kind_word TypeCase = codes "type-case"
kind_word Grounded = codes "grounded"
kind_word NoBond = codes "no-bond"
kind_word LoneInfeed = codes "lone-infeed"
kind_word Winding = codes "winding"
kind_word EarthName = codes "earth-name"
kind_word LooseEnd = codes "loose-end"
kind_word Apart = codes "apart"
kind_word TwoNodes = codes "two-nodes"
