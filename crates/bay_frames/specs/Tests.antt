-- The tests that bytes must pass to be a frame, in the order in which they are made.
use Rattle.std.specs.Prelude.{◌≡◌, ◌+◌, ◌==◌, ◌&&◌, ◌||◌, ℕ, Bool, not, nat_lt, nat_le, List, [], ◌∷◌, ◌++◌, length}
use Rattle.std.specs.Prelude.{drop, Option, Some, None, Result, Ok, Err, if◌then◌else◌, slice_index}
use Rattle.std.specs.Int.{w16, w32, from_be_bytes}
use Rattle.bay_frames.specs.declared.frame.FrameRefusal.{FrameRefusal}
use Rattle.bay_frames.specs.declared.frame.FrameRefusal.TheVariants.{Short, Kind, Length, Long, Field}

-- The number in the four bytes from a place on.
abbrev pub round_at : List ℕ → ℕ → ℕ
round_at bytes place = from_be_bytes w32 (drop place bytes)

-- The length of the payload, as the two bytes at place 7 say it.
abbrev pub said_length : List ℕ → ℕ
said_length bytes = from_be_bytes w16 (drop 7 bytes)

-- 1 Reserve, 2 Answer, 3 Busy, 4 Query, 5 Over.
abbrev pub is_kind : ℕ → Bool
is_kind kind = nat_le 1 kind && nat_le kind 5

-- A summary has at most 32 bytes, a holder and its round have 5, and the other kinds carry nothing.
abbrev pub is_length : ℕ → ℕ → Bool
is_length kind n = if kind == 2 then nat_le n 32 else if kind == 3 then n == 5 else n == 0

-- A refusal, where the test fails.
abbrev pub refused_if : Bool → FrameRefusal → Option FrameRefusal
refused_if fails refusal = if fails then Some refusal else None

-- Fewer bytes than are wanted.
abbrev pub short_test : List ℕ → ℕ → Option FrameRefusal
short_test bytes want = refused_if (nat_lt (length bytes) want) (Short (length bytes) want)

-- More bytes than are wanted.
abbrev pub long_test : List ℕ → ℕ → Option FrameRefusal
long_test bytes want = refused_if (nat_lt want (length bytes)) (Long (length bytes) want)

-- A kind that is none.
abbrev pub kind_test : List ℕ → Option FrameRefusal
kind_test bytes = refused_if (not (is_kind (slice_index bytes 0))) (Kind (slice_index bytes 0))

-- A length that is not one of the kind.
abbrev pub length_test : List ℕ → Option FrameRefusal
length_test bytes =
    refused_if (not (is_length (slice_index bytes 0) (said_length bytes))) (Length (said_length bytes))

-- A bay has a number of at most 199.
abbrev pub bay_test : List ℕ → ℕ → Option FrameRefusal
bay_test bytes place = refused_if (nat_lt 199 (slice_index bytes place)) (Field place)

-- The receiver, at place 2, is a bay and not the sender, at place 1.
abbrev pub receiver_test : List ℕ → Option FrameRefusal
receiver_test bytes =
    refused_if (nat_lt 199 (slice_index bytes 2) || slice_index bytes 2 == slice_index bytes 1) (Field 2)

-- A round is not 0.
abbrev pub round_test : List ℕ → ℕ → Option FrameRefusal
round_test bytes place = refused_if (round_at bytes place == 0) (Field place)

-- There are just so many bytes.
abbrev pub count_tests : List ℕ → ℕ → List (Option FrameRefusal)
count_tests bytes want = short_test bytes want ∷ long_test bytes want ∷ []

-- The head is whole, and its kind and its length are lawful.
abbrev pub head_tests : List ℕ → List (Option FrameRefusal)
head_tests bytes = short_test bytes 9 ∷ kind_test bytes ∷ length_test bytes ∷ []

-- The head passes, and behind it stands a payload of the length that it says.
abbrev pub size_tests : List ℕ → List (Option FrameRefusal)
size_tests bytes = head_tests bytes ++ count_tests bytes (9 + said_length bytes)

-- Of a Busy, the holder and its round.
abbrev pub payload_tests : List ℕ → List (Option FrameRefusal)
payload_tests bytes =
    if slice_index bytes 0 == 3 then bay_test bytes 9 ∷ round_test bytes 10 ∷ [] else []

-- Each field is lawful.
abbrev pub field_tests : List ℕ → List (Option FrameRefusal)
field_tests bytes = bay_test bytes 1 ∷ receiver_test bytes ∷ round_test bytes 3 ∷ payload_tests bytes

-- The first refusal of a list of tests, if one of them fails.
abbrev pub first_refusal : List (Option FrameRefusal) → Option FrameRefusal
first_refusal [] = None
first_refusal (None ∷ tests) = first_refusal tests
first_refusal (Some refusal ∷ tests) = Some refusal

-- The first of all tests that the bytes fail.
abbrev pub first_failure : List ℕ → Option FrameRefusal
first_failure bytes = first_refusal (size_tests bytes ++ field_tests bytes)

-- What a reader answers: a value that is so, where no test fails; else the first refusal.
abbrev pub PassesOrRefuses : {T : Type 0} → Result T FrameRefusal → List (Option FrameRefusal) → (T → Type 0) → Type 0
PassesOrRefuses (Ok x) tests IsSo = IsSo x × (first_refusal tests ≡ None)
PassesOrRefuses (Err refusal) tests IsSo = first_refusal tests ≡ Some refusal
