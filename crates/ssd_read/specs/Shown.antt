-- What is shown of a refusal: its number, and the place, the limit and the count of those that have one.
use Rattle.std.specs.Prelude.{ℕ, Option, Some, None}
use Rattle.station_graph.specs.declared.fault.What.{What}
use Rattle.ssd_read.specs.declared.refusal.SsdRefusal.{SsdRefusal}
use Rattle.ssd_read.specs.declared.refusal.SsdRefusal.TheVariants.{Encoding, Syntax, Doctype, Deep, Mismatch, Unclosed}
use Rattle.ssd_read.specs.declared.refusal.SsdRefusal.TheVariants.{Many, Root, NoName, Twice, NodeMissing, Terminals}
use Rattle.ssd_read.specs.declared.refusal.SsdRefusal.TheVariants.{Grounded, Loop, Limit, Memory}

-- The number of a fault, by the order of the faults; want of memory is no fault of the drawing.
abbrev pub number : SsdRefusal → Option ℕ
number (Encoding at) = Some 1
number (Syntax at) = Some 2
number (Doctype at) = Some 3
number (Deep at) = Some 4
number (Mismatch at) = Some 5
number (Unclosed at) = Some 6
number (Many at) = Some 7
number (Root at) = Some 8
number (NoName at) = Some 9
number (Twice at) = Some 10
number (NodeMissing at) = Some 11
number (Terminals at count) = Some 12
number (Grounded at) = Some 13
number (Loop at) = Some 14
number (Limit what count) = Some 15
number Memory = None

-- The number of bytes before the fault; a limit is passed in no place.
abbrev pub place : SsdRefusal → Option ℕ
place (Encoding at) = Some at
place (Syntax at) = Some at
place (Doctype at) = Some at
place (Deep at) = Some at
place (Mismatch at) = Some at
place (Unclosed at) = Some at
place (Many at) = Some at
place (Root at) = Some at
place (NoName at) = Some at
place (Twice at) = Some at
place (NodeMissing at) = Some at
place (Terminals at count) = Some at
place (Grounded at) = Some at
place (Loop at) = Some at
place (Limit what count) = None
place Memory = None

-- What passed its limit.
abbrev pub limit : SsdRefusal → Option What
limit (Limit what count) = Some what
limit _ = None

-- How many terminals there are, or the count that passed its limit.
abbrev pub count : SsdRefusal → Option ℕ
count (Terminals at n) = Some n
count (Limit what n) = Some n
count _ = None
