-- The one row of bytes of each frame. Numbers have their high byte first.
use Rattle.std.specs.Prelude.{◌≢◌, ◌≤◌, ◌<◌, ◌^◌, ⊤, ℕ, List, [], ◌∷◌, ◌++◌, length}
use Rattle.std.specs.Int.{w16, w32, to_be_bytes}
use Rattle.bay_frames.specs.declared.frame.Frame.{Frame}
use Rattle.bay_frames.specs.declared.frame.Body.{Body}
use Rattle.bay_frames.specs.declared.frame.Body.TheVariants.{Reserve, Answer, Busy, Query, Over}

-- The number of each kind of frame.
abbrev pub kind_number : Body → ℕ
kind_number Reserve = 1
kind_number (Answer summary) = 2
kind_number (Busy holder round) = 3
kind_number Query = 4
kind_number Over = 5

-- The payload: the summary, or the holder in one byte and its round in four, or nothing.
abbrev pub payload_row : Body → List ℕ
payload_row Reserve = []
payload_row (Answer summary) = summary
payload_row (Busy holder round) = holder.0 ∷ to_be_bytes w32 round
payload_row Query = []
payload_row Over = []

-- The kind, the sender and the receiver in one byte each, the round in four, the length of the
-- payload in two, the payload.
abbrev pub row_of : ℕ → ℕ → ℕ → ℕ → List ℕ → List ℕ
row_of kind from to round payload =
    (kind ∷ from ∷ to ∷ []) ++ to_be_bytes w32 round ++ to_be_bytes w16 (length payload) ++ payload

-- The row of a frame.
abbrev pub frame_row : Frame → List ℕ
frame_row f = row_of (kind_number f.body) f.from.0 f.to.0 f.round (payload_row f.body)

-- The bay that a busy bay is held by has a number of at most 199, and the round is not 0.
abbrev pub IsLawfulBody : Body → Type 0
IsLawfulBody Reserve = ⊤
IsLawfulBody (Answer summary) = ⊤
IsLawfulBody (Busy holder round) = (holder.0 ≤ 199) × (round ≢ 0)
IsLawfulBody Query = ⊤
IsLawfulBody Over = ⊤

-- The fields of a frame are lawful: bays have numbers of at most 199, no bay writes to itself, and
-- no round is 0.
pub record IsLawful (f : Frame) : Type 0 where
  pub from : f.from.0 ≤ 199
  pub to : f.to.0 ≤ 199
  pub other : f.to.0 ≢ f.from.0
  pub round : f.round ≢ 0
  pub body : IsLawfulBody f.body

-- A summary has at most 32 bytes, and a round fits four.
abbrev pub FitsBody : Body → Type 0
FitsBody Reserve = ⊤
FitsBody (Answer summary) = length summary ≤ 32
FitsBody (Busy holder round) = round < 2 ^ 32
FitsBody Query = ⊤
FitsBody Over = ⊤

-- The numbers and the summary fit the places that the row has for them. By its types so does every
-- frame that a program holds; where a definition speaks of all frames, it has to be said.
pub record FitsRow (f : Frame) : Type 0 where
  pub round : f.round < 2 ^ 32
  pub body : FitsBody f.body
