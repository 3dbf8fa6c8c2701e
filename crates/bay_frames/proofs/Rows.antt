-- Rows: the fields of a row are those of its frame, and bytes that pass are the row of their fields.
use Rattle.std.proofs.Common.{◌≡◌, ℕ, ◌^◌, ◌<◌, ◌≤◌, ◌≢◌, List, [], ◌∷◌, ◌++◌, length, drop, take, get_or, sym, ap}
use Rattle.std.proofs.Common.{◌∙◌, arith, length-append}
use Rattle.std.specs.Int.{w32, to_be_bytes}
use Rattle.std.proofs.lemmas.List.{take-append-drop, length-drop}
use Rattle.std.proofs.lemmas.Nat.{from_be_bytes-to_be_bytes_2, from_be_bytes-to_be_bytes_4}
use Rattle.ilk_base.specs.declared.words.BayId.{BayId}
use Rattle.bay_frames.specs.declared.frame.Frame.{Frame}
use Rattle.bay_frames.specs.declared.frame.Body.{Body}
use Rattle.bay_frames.specs.declared.frame.Body.TheVariants.{Reserve, Answer, Busy, Query, Over}
use Rattle.bay_frames.specs.Row.{row_of, frame_row, payload_row, kind_number, FitsRow, FitsBody}
use Rattle.bay_frames.specs.Tests.{round_at, said_length}
use Rattle.bay_frames.specs.Fields.{frame_at}

abbrev pub IsBytes : List ℕ → Type 0
IsBytes bytes = (i : ℕ) → get_or bytes i 0 < 256

-- ---- the fields of a row

pub round_back : (kind from to round : ℕ) (payload : List ℕ) → round < 2 ^ 32 →
    round_at (row_of kind from to round payload) 3 ≡ round
round_back kind from to round payload lt = from_be_bytes-to_be_bytes_4 round lt

pub holder_back : (kind from to round holder q : ℕ) → q < 2 ^ 32 →
    round_at (row_of kind from to round (holder ∷ to_be_bytes w32 q)) 10 ≡ q
holder_back kind from to round holder q lt = from_be_bytes-to_be_bytes_4 q lt

pub payload_short : (body : Body) → FitsBody body → length (payload_row body) ≤ 32
payload_short Reserve h = omega arith
payload_short (Answer s) h = h
payload_short (Busy holder q) h = omega arith
payload_short Query h = omega arith
payload_short Over h = omega arith

pub length_said : (kind from to round : ℕ) (payload : List ℕ) → length payload ≤ 32 →
    said_length (row_of kind from to round payload) ≡ length payload
length_said kind from to round payload le = from_be_bytes-to_be_bytes_2 (length payload) (omega (arith, le))

length_back : (kind from to round : ℕ) (payload more : List ℕ) → length payload ≤ 32 →
    said_length (row_of kind from to round payload ++ more) ≡ length payload
length_back kind from to round payload more le = from_be_bytes-to_be_bytes_2 (length payload) (omega (arith, le))

again : (from to : BayId) (round : ℕ) (body : Body) → round < 2 ^ 32 → FitsBody body
    → let f : Frame = record { from = from; to = to; round = round; body = body } in frame_at (frame_row f) ≡ f
again from to round Reserve h b =
    let made : ℕ → Frame = λ r. record { from = from; to = to; round = r; body = Reserve } in
    ap made (round_back 1 from.0 to.0 round [] h)
again from to round (Answer s) h b =
    let made : ℕ → Frame = λ r. record { from = from; to = to; round = r; body = Answer s } in
    ap made (round_back 2 from.0 to.0 round s h)
again from to round (Busy holder q) h b =
    let first : ℕ → Frame = λ r. record {
      from = from;
      to = to;
      round = r;
      body = Busy holder (round_at (row_of 3 from.0 to.0 round (holder.0 ∷ to_be_bytes w32 q)) 10);
    } in
    let second : ℕ → Frame = λ r. record { from = from; to = to; round = round; body = Busy holder r } in
    ap first (round_back 3 from.0 to.0 round (holder.0 ∷ to_be_bytes w32 q) h)
    ∙ ap second (holder_back 3 from.0 to.0 round holder.0 q b)
again from to round Query h b =
    let made : ℕ → Frame = λ r. record { from = from; to = to; round = r; body = Query } in
    ap made (round_back 4 from.0 to.0 round [] h)
again from to round Over h b =
    let made : ℕ → Frame = λ r. record { from = from; to = to; round = r; body = Over } in
    ap made (round_back 5 from.0 to.0 round [] h)

pub frame_again : (f : Frame) → FitsRow f → frame_at (frame_row f) ≡ f
frame_again f h = again f.from f.to f.round f.body h.round h.body

pub one_frame : (f g : Frame) → FitsRow f → FitsRow g → frame_row f ≡ frame_row g → f ≡ g
one_frame f g hf hg e = sym (frame_again f hf) ∙ ap frame_at e ∙ frame_again g hg

-- ---- no front

nothing_behind : (f g : Frame) (more : List ℕ) → FitsRow f → FitsRow g → frame_row f ≡ frame_row g ++ more →
    length more ≡ 0
nothing_behind f g more hf hg e =
    let said_f : said_length (frame_row f) ≡ length (payload_row f.body) = length_said (kind_number f.body) f.from.0
    f.to.0 f.round (payload_row f.body) (payload_short f.body hf.body) in
    let said_g : said_length (frame_row g ++ more) ≡ length (payload_row g.body) =
    length_back (kind_number g.body) g.from.0 g.to.0 g.round (payload_row g.body) more
    (payload_short g.body hg.body) in
    let same : length (payload_row f.body) ≡ length (payload_row g.body) = sym said_f ∙ ap said_length e ∙ said_g in
    let long : length (frame_row f) ≡ length (frame_row g ++ more) = ap length e in
    omega (arith, same, long, length-append (frame_row g) more)

pub no_front : (f g : Frame) (n : ℕ) → FitsRow f → FitsRow g → n < length (frame_row f) →
    take n (frame_row f) ≢ frame_row g
no_front f g n hf hg lt e =
    let whole : frame_row f ≡ frame_row g ++ drop n (frame_row f) = sym (take-append-drop n (frame_row f))
    ∙ ap (λ (t : List ℕ). t ++ drop n (frame_row f)) e in
    let none = nothing_behind f g (drop n (frame_row f)) hf hg whole in
    omega (arith, none, lt, length-drop n (frame_row f))
