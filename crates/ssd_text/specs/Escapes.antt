-- A value as it may be written in an attribute, with what would be read as something else as a reference.
use Rattle.std.specs.Prelude.{◌==◌, ℕ, List, [], ◌∷◌, codes, if◌then◌else◌}
use Rattle.std.specs.List.{flat_map}

-- A byte as it is written: `&`, `<` and both quotes by name; tab, LF and CR by number; each other as itself
-- (XML 1.0, 2.4 and 3.3.3).
unfoldable pub escape : ℕ → List ℕ
escape b =
    if b == 38 then codes "&amp;"
    else if b == 60 then codes "&lt;"
    else if b == 34 then codes "&quot;"
    else if b == 39 then codes "&apos;"
    else if b == 9 then codes "&#9;"
    else if b == 10 then codes "&#10;"
    else if b == 13 then codes "&#13;"
    else b ∷ []

-- A value as it is written.
abbrev pub escaped : List ℕ → List ℕ
escaped value = flat_map escape value
