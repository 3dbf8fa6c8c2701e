-- A node with no round under way collects nothing and has granted nothing.
use Rattle.std.proofs.Common.{◌≡◌, Option, Some, None, refl}
use Rattle.bay_protocol.specs.declared.values.Grant.{Grant}
use Rattle.bay_protocol.specs.declared.values.Collection.{Collection}
use Rattle.bay_protocol.specs.State.{under_way_of}

pub idle_collecting : (x : Option Collection) (y : Option Grant) → under_way_of x y ≡ None → x ≡ None
idle_collecting (Some g) y is = absurd (cc is)
idle_collecting None y is = refl

pub idle_grant : (x : Option Collection) (y : Option Grant) → under_way_of x y ≡ None → y ≡ None
idle_grant (Some g) y is = absurd (cc is)
idle_grant None (Some g) is = absurd (cc is)
idle_grant None None is = refl
