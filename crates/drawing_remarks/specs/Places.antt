-- By what path a remark names an element.
use Rattle.std.specs.Prelude.{ℕ, zero, suc, List, [], ◌∷◌, ◌++◌, codes, if◌then◌else◌}
use Rattle.std.specs.Option.{option_map_or}
use Rattle.ssd_text.specs.declared.limits.TheConstants.{DEPTH}
use Rattle.ssd_read.specs.declared.role.Role.TheVariants.{Skipped}
use Rattle.ssd_read.specs.Elements.{Element, element_at, same_role, element_name}
use Rattle.station_lines.specs.Lines.{shown_word}

-- The first path, or the other where it is empty.
abbrev pub or_other : List ℕ → List ℕ → List ℕ
or_other [] other = other
or_other (b ∷ bs) other = b ∷ bs

-- The path of the element, or of the innermost one with a path in which it stands, so many levels upward.
unfoldable pub path_above : List Element → ℕ → ℕ → List ℕ
path_above all zero i = []
path_above all (suc n) i =
    or_other (element_at all i).path (option_map_or (path_above all n) (element_at all i).entry.parent [])

-- A name behind a path, where there is one.
abbrev pub behind : List ℕ → List ℕ → List ℕ
behind [] name = name
behind (b ∷ bs) name = (b ∷ bs) ++ 47 ∷ name

-- The path by which a remark names an element: its own, or that of the innermost one with a path in which it
-- stands, or a dash; of an element that is passed over, that path and its name.
abbrev pub remark_path : List Element → ℕ → List ℕ
remark_path all i =
    if same_role (element_at all i).role Skipped
    then behind (path_above all DEPTH i) (shown_word (element_name (element_at all i).entry))
    else or_other (path_above all DEPTH i) (codes "-")
