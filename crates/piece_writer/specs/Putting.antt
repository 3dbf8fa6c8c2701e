-- A text on its way to an output: a part of it was taken, and the rest is held back.
use Rattle.std.specs.Prelude.{◌≡◌, ◌≤◌, ◌++◌, ℕ, Bool, true, false, List, [], Option, Result, OnOk, OnErr}
use Rattle.std.specs.Io.KnownBytes.{Appends}
use Rattle.ilk_base.specs.Outside.{Rose, AppendsFront}
use Rattle.ilk_base.specs.declared.outside.Failed.{Failed}

-- What a writer holds back, and whether a write has failed.
pub record Held : Type 0 where
  pub bytes : List ℕ
  pub failed : Bool

-- Nothing is held back, and no write has failed.
abbrev pub nothing_held : Held
nothing_held = record { bytes = []; failed = false }

-- Where a text stands: what the output took, where that is told, its count of faults, and the writer.
pub record Stand : Type 0 where
  pub took : Option (List ℕ)
  pub faults : ℕ
  pub held : Held

-- Where a text stands, by its parts.
abbrev pub stand : Option (List ℕ) → ℕ → Held → Stand
stand took faults held = record { took = took; faults = faults; held = held }

-- Without a fault, what was taken and what is held back are the text; after one, a front of it that is not all was taken.
abbrev pub IsUnderWay : Bool → Option (List ℕ) → ℕ → List ℕ → Stand → Type 0
IsUnderWay false start before text s = (sent : List ℕ) × Appends start s.took sent × (text ≡ sent ++ s.held.bytes)
IsUnderWay true start before text s = AppendsFront start s.took text × Rose before s.faults

-- Since the output had taken this, with so many faults, the text was put, and it stands so.
pub record HasPut (start : Option (List ℕ)) (before : ℕ) (text : List ℕ) (s : Stand) : Type 0 where
  pub way : IsUnderWay s.held.failed start before text s
  pub grows : before ≤ s.faults

-- Between the two, this was put behind whatever text there was.
abbrev pub Puts : Stand → Stand → List ℕ → Type 0
Puts a b text =
    (start : Option (List ℕ)) (before : ℕ) (given : List ℕ) → HasPut start before given a
    → HasPut start before (given ++ text) b

-- Since the output had taken this, with so many faults, the whole text was written; or, where the count rose, a front of
-- it that is not all.
pub record HasWritten (start now : Option (List ℕ)) (before after : ℕ) (text : List ℕ) (result : Result (Unit {0}) Failed) :
    Type 0 where
  pub ok : OnOk result (Appends start now text)
  pub err : OnErr result (AppendsFront start now text)
  pub grows : before ≤ after
  pub failed : OnErr result (Rose before after)
