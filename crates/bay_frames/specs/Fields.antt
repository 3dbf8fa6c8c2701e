-- The fields of a frame, each at its place.
use Rattle.std.specs.Prelude.{◌==◌, ℕ, List, drop, if◌then◌else◌, slice_index}
use Rattle.bay_frames.specs.declared.frame.Frame.{Frame}
use Rattle.bay_frames.specs.declared.frame.Body.{Body}
use Rattle.bay_frames.specs.declared.frame.Body.TheVariants.{Reserve, Answer, Busy, Query, Over}
use Rattle.ilk_base.specs.declared.words.BayId.{BayId}
use Rattle.bay_frames.specs.Tests.{round_at}

-- The bay whose number stands at a place.
abbrev pub bay_at : List ℕ → ℕ → BayId
bay_at bytes place = record { 0 = slice_index bytes place }

-- What the kind at place 0 and the payload from place 9 on say.
abbrev pub body_at : List ℕ → Body
body_at bytes =
    if slice_index bytes 0 == 1 then Reserve
    else if slice_index bytes 0 == 2 then Answer (drop 9 bytes)
    else if slice_index bytes 0 == 3 then Busy (bay_at bytes 9) (round_at bytes 10)
    else if slice_index bytes 0 == 4 then Query
    else Over

-- All fields.
abbrev pub frame_at : List ℕ → Frame
frame_at bytes =
    record { from = bay_at bytes 1; to = bay_at bytes 2; round = round_at bytes 3; body = body_at bytes }
