-- A file that was read up to a number of bytes, and the whole of it.
use Rattle.std.proofs.Common.{◌≡◌, ◌+◌, ◌<◌, ℕ, List, length, take, Option, Some, None, Result, Ok, Err, ap, ◌∙◌, arith}
use Rattle.std.proofs.Common.{inl, inr, subst, refl}
use Rattle.std.specs.Prelude.{IfSome, IfOk, IfErr}
use Rattle.std.proofs.lemmas.List.{take_all, length-take}
use Rattle.std.proofs.lemmas.Result.{IfOk-weaker, IfErr-weaker}
use Rattle.ilk_base.specs.declared.limits.TheConstants.{FILE_BYTES}
use Rattle.ilk_base.specs.declared.words.Dbpos.{Dbpos}
use Rattle.ilk_base.specs.declared.words.InputRefusal.{InputRefusal}
use Rattle.ilk_base.specs.declared.words.Op.{Op}
use Rattle.station_graph.specs.Diagram.{Diagram}
use Rattle.ssd_read.specs.declared.refusal.SsdRefusal.{SsdRefusal}
use Rattle.ssd_read.specs.StandsFor.{Stands}
use Rattle.ssd_read.specs.Elements.{Element}
use Rattle.ssd_read.specs.Whole.{IsDrawing}
use Rattle.double_points.specs.Positions.{IsAccepted, IsRefusedWith}
use Rattle.switching_orders.specs.OrderLines.{IsOrder, IsOrderFault}
use Rattle.release_compile.specs.declared.refusal.BuildRefusal.{BuildRefusal}
use Rattle.release_compile.specs.declared.refusal.BuildRefusal.TheVariants.{Many, Wide}
use Rattle.equation_audit.specs.Equations.{Equation}
use Rattle.equation_audit.specs.BlockLines.{AreBlocks, IsBlocksFault}
use Rattle.reservation_core.specs.declared.values.LogEvent.{LogEvent}
use Rattle.log_replay.specs.Log.{IsLog, IsLogFault}
use Rattle.interlock_cli.specs.declared.end.End.{End}
use Rattle.interlock_cli.specs.declared.end.End.TheVariants as e
use Rattle.trip_replay.specs.TripLogs.{IsTripLog, IsTripLogFault}
use Rattle.trip_replay.specs.declared.event.TripLogEvent.{TripLogEvent}
use Rattle.interlock_cli.specs.Formats.{Format, Drawing, Elements, Positions, CertainPositions, OrderOf, LogOf}
use Rattle.interlock_cli.specs.Formats.{TripLogOf}
use Rattle.interlock_cli.specs.Formats.{BlocksOf, SwitchOf, BayOf, Value, AcceptsAs, Refuses, PassesLimit, IsOfFile}
use Rattle.interlock_cli.specs.Judging.{JudgeFails}
use Rattle.interlock_cli.specs.Form.{File, Given, Fails}

-- fewer bytes than were asked for are all
take_short : (n : ℕ) (b : List ℕ) → length (take n b) < n → take n b ≡ b
take_short n b lt = take_all n b (omega (arith, lt, length-take n b))

pub cut_stands : (n : ℕ) (b v : List ℕ) (o : Result Diagram SsdRefusal) → n ≡ FILE_BYTES + 1 → v ≡ take n b →
    Stands v o → Stands b o
cut_stands n b v o e h (inl long) = inl (omega (arith, long.0, ap length h, length-take n b), long.1)
cut_stands n b v o e h (inr short) =
    let whole : v ≡ b = h ∙ take_short n b (omega (arith, e, ap length h, short.0)) in
    subst (λ (x : List ℕ). Stands x o) whole (inr short)

cut_accepted : (n : ℕ) (b v : List ℕ) (paths : List (List ℕ)) (words : List Dbpos) → n ≡ FILE_BYTES + 1 → v ≡ take n b →
    IsAccepted paths v words → IsAccepted paths b words
cut_accepted n b v paths words e h a =
    let whole : v ≡ b = h ∙ take_short n b (omega (arith, e, ap length h, a.0)) in
    subst (λ (x : List ℕ). IsAccepted paths x words) whole a

cut_fault : (n : ℕ) (b v : List ℕ) (paths : List (List ℕ)) (r : InputRefusal) → n ≡ FILE_BYTES + 1 → v ≡ take n b →
    IsRefusedWith paths v r → IsRefusedWith paths b r
cut_fault n b v paths r e h (inl long) = inl (omega (arith, long.0, ap length h, length-take n b), long.1)
cut_fault n b v paths r e h (inr short) =
    let whole : v ≡ b = h ∙ take_short n b (omega (arith, e, ap length h, short.0)) in
    subst (λ (x : List ℕ). IsRefusedWith paths x r) whole (inr short)

-- the bytes that a file may have, and one more, tell of a content what it is
pub record Cuts (f : Format) : Type 0 where
  pub accepts : (b v : List ℕ) (value : Value f) → v ≡ take (FILE_BYTES + 1) b → AcceptsAs f v value
      → AcceptsAs f b value
  pub refuses : (b v : List ℕ) (end : End) → v ≡ take (FILE_BYTES + 1) b → Refuses f v end → Refuses f b end

cut_order : (d : Diagram) (n : ℕ) (b v : List ℕ) (steps : List Op) → n ≡ FILE_BYTES + 1 → v ≡ take n b →
    IsOrder d v steps → IsOrder d b steps
cut_order d n b v steps e h order =
    let whole : v ≡ b = h ∙ take_short n b (omega (arith, e, ap length h, order.few_bytes)) in
    subst (λ (x : List ℕ). IsOrder d x steps) whole order

cut_order_fault : (d : Diagram) (n : ℕ) (b v : List ℕ) (r : InputRefusal) → n ≡ FILE_BYTES + 1 → v ≡ take n b →
    IsOrderFault d v r → IsOrderFault d b r
cut_order_fault d n b v r e h (inl long) = inl (omega (arith, long.0, ap length h, length-take n b), long.1)
cut_order_fault d n b v r e h (inr short) =
    let whole : v ≡ b = h ∙ take_short n b (omega (arith, e, ap length h, short.0)) in
    subst (λ (x : List ℕ). IsOrderFault d x r) whole (inr short)

cut_limit : (b v : List ℕ) (refusal : BuildRefusal) → v ≡ take (FILE_BYTES + 1) b → PassesLimit v refusal →
    PassesLimit b refusal
cut_limit b v refusal h passes = record {
  diagram = passes.diagram;
  stands = cut_stands (FILE_BYTES + 1) b v (Ok passes.diagram) refl h passes.stands;
  station = passes.station;
  past = passes.past;
}

refuses_drawing : (b v : List ℕ) (end : End) → v ≡ take (FILE_BYTES + 1) b → Refuses Drawing v end →
    Refuses Drawing b end
refuses_drawing b v (e.Station refusal) h r = cut_stands (FILE_BYTES + 1) b v (Err refusal) refl h r
refuses_drawing b v (e.Many part step) h r = cut_limit b v (Many part step) h r
refuses_drawing b v (e.Wide bay) h r = cut_limit b v (Wide bay) h r
refuses_drawing b v _ h r = r

refuses_positions : (d : Diagram) (b v : List ℕ) (end : End) → v ≡ take (FILE_BYTES + 1) b →
    Refuses (Positions d) v end → Refuses (Positions d) b end
refuses_positions d b v (e.Input refusal) h r = cut_fault (FILE_BYTES + 1) b v d.switch_paths refusal refl h r
refuses_positions d b v _ h r = r

refuses_certain : (d : Diagram) (b v : List ℕ) (end : End) → v ≡ take (FILE_BYTES + 1) b →
    Refuses (CertainPositions d) v end → Refuses (CertainPositions d) b end
refuses_certain d b v (e.Input refusal) h (inl fault) =
    inl (cut_fault (FILE_BYTES + 1) b v d.switch_paths refusal refl h fault)
refuses_certain d b v (e.Input refusal) h (inr (words, accepted, unsure, is)) =
    inr (words, cut_accepted (FILE_BYTES + 1) b v d.switch_paths words refl h accepted, unsure, is)
refuses_certain d b v _ h r = r

refuses_order : (d : Diagram) (b v : List ℕ) (end : End) → v ≡ take (FILE_BYTES + 1) b → Refuses (OrderOf d) v end →
    Refuses (OrderOf d) b end
refuses_order d b v (e.Input refusal) h r = cut_order_fault d (FILE_BYTES + 1) b v refusal refl h r
refuses_order d b v _ h r = r

cut_blocks : (d : Diagram) (n : ℕ) (b v : List ℕ) (es : List Equation) → n ≡ FILE_BYTES + 1 → v ≡ take n b →
    AreBlocks d v es → AreBlocks d b es
cut_blocks d n b v es e h blocks =
    let whole : v ≡ b = h ∙ take_short n b (omega (arith, e, ap length h, blocks.few_bytes)) in
    subst (λ (x : List ℕ). AreBlocks d x es) whole blocks

cut_blocks_fault : (d : Diagram) (n : ℕ) (b v : List ℕ) (r : InputRefusal) → n ≡ FILE_BYTES + 1 → v ≡ take n b →
    IsBlocksFault d v r → IsBlocksFault d b r
cut_blocks_fault d n b v r e h (inl long) = inl (omega (arith, long.0, ap length h, length-take n b), long.1)
cut_blocks_fault d n b v r e h (inr short) =
    let whole : v ≡ b = h ∙ take_short n b (omega (arith, e, ap length h, short.0)) in
    subst (λ (x : List ℕ). IsBlocksFault d x r) whole (inr short)

refuses_blocks : (d : Diagram) (b v : List ℕ) (end : End) → v ≡ take (FILE_BYTES + 1) b → Refuses (BlocksOf d) v end →
    Refuses (BlocksOf d) b end
refuses_blocks d b v (e.Input refusal) h r = cut_blocks_fault d (FILE_BYTES + 1) b v refusal refl h r
refuses_blocks d b v _ h r = r

cut_log : (d : Diagram) (n : ℕ) (b v : List ℕ) (events : List LogEvent) → n ≡ FILE_BYTES + 1 → v ≡ take n b →
    IsLog d v events → IsLog d b events
cut_log d n b v events e h log =
    let whole : v ≡ b = h ∙ take_short n b (omega (arith, e, ap length h, log.few_bytes)) in
    subst (λ (x : List ℕ). IsLog d x events) whole log

cut_log_fault : (d : Diagram) (n : ℕ) (b v : List ℕ) (r : InputRefusal) → n ≡ FILE_BYTES + 1 → v ≡ take n b →
    IsLogFault d v r → IsLogFault d b r
cut_log_fault d n b v r e h (inl long) = inl (omega (arith, long.0, ap length h, length-take n b), long.1)
cut_log_fault d n b v r e h (inr short) =
    let whole : v ≡ b = h ∙ take_short n b (omega (arith, e, ap length h, short.0)) in
    subst (λ (x : List ℕ). IsLogFault d x r) whole (inr short)

refuses_log : (d : Diagram) (b v : List ℕ) (end : End) → v ≡ take (FILE_BYTES + 1) b → Refuses (LogOf d) v end →
    Refuses (LogOf d) b end
refuses_log d b v (e.Input refusal) h r = cut_log_fault d (FILE_BYTES + 1) b v refusal refl h r
refuses_log d b v _ h r = r

cut_trip_log : (d : Diagram) (n : ℕ) (b v : List ℕ) (events : List TripLogEvent) → n ≡ FILE_BYTES + 1 → v ≡ take n b →
    IsTripLog d v events → IsTripLog d b events
cut_trip_log d n b v events e h log =
    let whole : v ≡ b = h ∙ take_short n b (omega (arith, e, ap length h, log.few_bytes)) in
    subst (λ (x : List ℕ). IsTripLog d x events) whole log

cut_trip_log_fault : (d : Diagram) (n : ℕ) (b v : List ℕ) (r : InputRefusal) → n ≡ FILE_BYTES + 1 → v ≡ take n b →
    IsTripLogFault d v r → IsTripLogFault d b r
cut_trip_log_fault d n b v r e h (inl long) = inl (omega (arith, long.0, ap length h, length-take n b), long.1)
cut_trip_log_fault d n b v r e h (inr short) =
    let whole : v ≡ b = h ∙ take_short n b (omega (arith, e, ap length h, short.0)) in
    subst (λ (x : List ℕ). IsTripLogFault d x r) whole (inr short)

refuses_trip_log : (d : Diagram) (b v : List ℕ) (end : End) → v ≡ take (FILE_BYTES + 1) b →
    Refuses (TripLogOf d) v end → Refuses (TripLogOf d) b end
refuses_trip_log d b v (e.Input refusal) h r = cut_trip_log_fault d (FILE_BYTES + 1) b v refusal refl h r
refuses_trip_log d b v _ h r = r

cut_drawing : (n : ℕ) (b v : List ℕ) (all : List Element) → n ≡ FILE_BYTES + 1 → v ≡ take n b → IsDrawing v all →
    IsDrawing b all
cut_drawing n b v all e h drawing =
    let whole : v ≡ b = h ∙ take_short n b (omega (arith, e, ap length h, drawing.few)) in
    subst (λ (x : List ℕ). IsDrawing x all) whole drawing

refuses_elements : (b v : List ℕ) (end : End) → v ≡ take (FILE_BYTES + 1) b → Refuses Elements v end →
    Refuses Elements b end
refuses_elements b v (e.Station refusal) h r = cut_stands (FILE_BYTES + 1) b v (Err refusal) refl h r
refuses_elements b v _ h r = r

elements : Cuts Elements
elements = record {
  accepts = λ b v all h a. cut_drawing (FILE_BYTES + 1) b v all refl h a;
  refuses = refuses_elements;
}

drawing : Cuts Drawing
drawing = record {
  accepts = λ b v d h a. (cut_stands (FILE_BYTES + 1) b v (Ok d) refl h a.0, a.1);
  refuses = refuses_drawing;
}

positions : (d : Diagram) → Cuts (Positions d)
positions d = record {
  accepts = λ b v words h a. cut_accepted (FILE_BYTES + 1) b v d.switch_paths words refl h a;
  refuses = refuses_positions d;
}

certain_positions : (d : Diagram) → Cuts (CertainPositions d)
certain_positions d = record {
  accepts =
      λ b v start h (words, accepted, are).
      (words, cut_accepted (FILE_BYTES + 1) b v d.switch_paths words refl h accepted, are);
  refuses = refuses_certain d;
}

order : (d : Diagram) → Cuts (OrderOf d)
order d = record {
  accepts = λ b v steps h a. cut_order d (FILE_BYTES + 1) b v steps refl h a;
  refuses = refuses_order d;
}

blocks : (d : Diagram) → Cuts (BlocksOf d)
blocks d = record {
  accepts = λ b v es h a. (a.0, cut_blocks d (FILE_BYTES + 1) b v es refl h a.1);
  refuses = refuses_blocks d;
}

log : (d : Diagram) → Cuts (LogOf d)
log d = record {
  accepts = λ b v events h a. (a.0, cut_log d (FILE_BYTES + 1) b v events refl h a.1);
  refuses = refuses_log d;
}

trip_log : (d : Diagram) → Cuts (TripLogOf d)
trip_log d = record {
  accepts = λ b v events h a. (a.0, cut_trip_log d (FILE_BYTES + 1) b v events refl h a.1);
  refuses = refuses_trip_log d;
}

-- no content is refused by a fault of its read
pub no_fault : (f : Format) (v : List ℕ) → Refuses f v e.ReadFault → ⊥
no_fault Drawing v r = r
no_fault Elements v r = r
no_fault (Positions d) v r = r
no_fault (CertainPositions d) v r = r
no_fault (OrderOf d) v r = r
no_fault (LogOf d) v r = r
no_fault (TripLogOf d) v r = r
no_fault (BlocksOf d) v r = r
no_fault (SwitchOf d) v r = r
no_fault (BayOf d) v r = r

-- a content of a file is told by as many bytes
cuts : (f : Format) → IsOfFile f → Cuts f
cuts Drawing is = drawing
cuts Elements is = elements
cuts (Positions d) is = positions d
cuts (CertainPositions d) is = certain_positions d
cuts (OrderOf d) is = order d
cuts (LogOf d) is = log d
cuts (TripLogOf d) is = trip_log d
cuts (BlocksOf d) is = blocks d
cuts (SwitchOf d) is = absurd is
cuts (BayOf d) is = absurd is

module _ (f : Format) (is : IsOfFile f) where
  whole : (known : Option (List ℕ)) (v : List ℕ) (value : Value f) → IfSome known (λ b. v ≡ take (FILE_BYTES + 1) b) →
      AcceptsAs f v value → (content : List ℕ) × IfSome known (λ h. h ≡ content) × AcceptsAs f content value
  whole None v value h a = (v, tt, a)
  whole (Some b) v value h a = (b, refl, (cuts f is).accepts b v value h a)

  whole_refused : (known : Option (List ℕ)) (v : List ℕ) (end : End) → IfSome known (λ b. v ≡ take (FILE_BYTES + 1) b) →
      Refuses f v end → (content : List ℕ) × IfSome known (λ h. h ≡ content) × Refuses f content end
  whole_refused None v end h a = (v, tt, a)
  whole_refused (Some b) v end h a = (b, refl, (cuts f is).refuses b v end h a)

  -- a value, as it is seen, of the bytes is one of the file
  pub given : {V : Type 0} (seen : V → Value f) (held : List ℕ → Option (List ℕ)) (name v : List ℕ) (r : Result V End)
      → IfSome (held name) (λ b. v ≡ take (FILE_BYTES + 1) b) → IfOk r (λ x. AcceptsAs f v (seen x)) →
      IfOk r (λ x. Given held (File name) f (seen x))
  given seen held name v r h =
      IfOk-weaker r (λ x. AcceptsAs f v (seen x)) (λ x. Given held (File name) f (seen x))
      (λ x a. whole (held name) v (seen x) h a)

  fails : (held : List ℕ → Option (List ℕ)) (before after : List ℕ → ℕ) (name v : List ℕ) →
      IfSome (held name) (λ b. v ≡ take (FILE_BYTES + 1) b) → (end : End) → JudgeFails f v end →
      Fails held before after (File name) f end
  fails held before after name v h e.Memory a = tt
  fails held before after name v h e.ReadFault a = absurd (no_fault f v a)
  fails held before after name v h end a = whole_refused (held name) v end h a

  pub failed : {V : Type 0} (held : List ℕ → Option (List ℕ)) (before after : List ℕ → ℕ) (name v : List ℕ)
      (r : Result V End) → IfSome (held name) (λ b. v ≡ take (FILE_BYTES + 1) b) → IfErr r (JudgeFails f v) →
      IfErr r (Fails held before after (File name) f)
  failed held before after name v r h =
      IfErr-weaker r (JudgeFails f v) (Fails held before after (File name) f) (fails held before after name v h)
