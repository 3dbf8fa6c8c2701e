-- The answers to the questions of a page, as what the commands write.
use Rattle.std.proofs.Common.{◌≡◌, ◌↔◌, ◌∙◌, ℕ, Bool, false, List, Contains, inl, inr, refl, sym, ap, ap₂, subst, ⊎_elim}
use Rattle.std.specs.Bool.{⊤}
use Rattle.ilk_base.specs.declared.words.Dbpos.{Dbpos}
use Rattle.ilk_base.specs.declared.words.InputRefusal.{InputRefusal}
use Rattle.ilk_base.specs.declared.words.Op.{Op}
use Rattle.station_graph.specs.Diagram.{Diagram}
use Rattle.switching_orders.specs.OrderLines.{IsOrder, IsOrderFault}
use Rattle.switching_orders.specs.OrderText.{IsOrderText}
use Rattle.page_questions.specs.Questions.{ByPositions, SaysOrder, RefusesPositions, RefusesExplain, RefusesOrder}
use Rattle.interlock_cli.specs.Formats.{Positions, CertainPositions, OrderOf, SwitchOf, Drawing}
use Rattle.interlock_cli.specs.Form.{Form, Write, Take, File, Word, FormSays, FormStops}
use Rattle.interlock_cli.specs.Rests.{IsDoneWith, order_rest}
use Rattle.interlock_cli.specs.OrderWrites.{OrderWrites, done_or_differs}
use Rattle.interlock_cli.specs.declared.end.Outcome.{Outcome}
use Rattle.interlock_cli.specs.declared.end.End.{End}
use Rattle.interlock_cli.specs.declared.end.End.TheVariants as e
use Rattle.page_commands.specs.Answering.{Held, Holds, OfDrawing}
use Rattle.page_commands.proofs.Taking.{taken_says, taken_stops}

-- a form writes what a question says, and stops as the question refuses
pub record Answers (held : Held) (form : Form) (Says : Bool → List ℕ → Type 0) (Refuses : InputRefusal → Type 0) :
    Type 0 where
  pub writes : (outcome : Outcome) (text : List ℕ) → FormSays form held outcome text
      ↔ ((differs : Bool) × (outcome ≡ done_or_differs differs) × Says differs text)
  pub refuses : (before after : List ℕ → ℕ) (r : InputRefusal) →
      FormStops form held before after (e.Input r) ↔ Refuses r

-- an input that is refused is no want of memory
abbrev NoMemory : End → Type 0
NoMemory e.Memory = ⊥
NoMemory _ = ⊤

no_memory : (r : InputRefusal) → e.Input r ≡ e.Memory → ⊥
no_memory r same = subst NoMemory same tt

abbrev refusal_of : ℕ → ℕ → InputRefusal
refusal_of number line = record { number = number; line = line }

-- a form that takes a drawing
pub of_drawing : (held : Held) (station drawing : List ℕ) → Holds held station drawing → (rest : Diagram → Form) →
    (Says : Diagram → Bool → List ℕ → Type 0) (Refuses : Diagram → InputRefusal → Type 0) →
    ((d : Diagram) → Answers held (rest d) (Says d) (Refuses d)) →
    Answers held (Take (File station) Drawing rest) (λ differs text. OfDrawing drawing (λ d. Says d differs text))
    (λ r. OfDrawing drawing (λ d. Refuses d r))
of_drawing held station drawing at rest Says Refuses each = record {
  writes =
      λ outcome text.
      let t = taken_says held (File station) drawing at Drawing rest outcome text in (
        λ s.
            let v = t.0 s in
            let w = ((each v.0).writes outcome text).0 v.2 in
            (w.0, w.1, (v.0, v.1, w.2)),
        λ s. t.1 (s.2.0, s.2.1, ((each s.2.0).writes outcome text).1 (s.0, s.1, s.2.2)),
      );
  refuses =
      λ before after r.
      let t = taken_stops held (File station) drawing at Drawing rest before after r in (
        λ s. ⊎_elim (λ b. absurd b) (λ g. (g.0, g.1, ((each g.0).refuses before after r).0 g.2)) (t.0 s),
        λ s. t.1 (inr (s.0, s.1, ((each s.0).refuses before after r).1 s.2)),
      );
}

module _ (held : Held) (positions given : List ℕ) (at : Holds held positions given) (d : Diagram) where
  -- positions, and a text with which the call ends Done
  pub of_words : (Tells : List Dbpos → List ℕ → Type 0) →
      Answers held (Take (File positions) (Positions d) (λ words. Write (IsDoneWith (Tells words))))
      (λ differs text. (differs ≡ false) × ByPositions d given (λ words. Tells words text))
      (RefusesPositions d given)
  of_words Tells =
      let next : List Dbpos → Form = λ words. Write (IsDoneWith (Tells words)) in
      record {
        writes =
            λ outcome text.
            let t = taken_says held (File positions) given at (Positions d) next outcome text in (
              λ s. let v = t.0 s in (false, v.2.0, (refl, (v.0, v.1, v.2.1))),
              λ s. t.1 (s.2.1.0, s.2.1.1, (s.1 ∙ ap done_or_differs s.2.0, s.2.1.2)),
            );
        refuses =
            λ before after r.
            let t = taken_stops held (File positions) given at (Positions d) next before after r in
            (λ s. ⊎_elim (λ b. b) (λ g. absurd (no_memory r g.2)) (t.0 s), λ b. t.1 (inl b));
      }

  -- the path of a switch, and such a text
  of_path : (path : List ℕ) (Tells : List ℕ → List ℕ → Type 0) →
      ((text : List ℕ) → Tells path text → Contains d.switch_paths path) →
      Answers held (Take (Word path) (SwitchOf d) (λ p. Write (IsDoneWith (Tells p))))
      (λ differs text. (differs ≡ false) × Tells path text)
      (λ r. (¬ Contains d.switch_paths path) × (r ≡ record { number = 11; line = 0 }))
  of_path path Tells named =
      let next : List ℕ → Form = λ p. Write (IsDoneWith (Tells p)) in
      record {
        writes =
            λ outcome text.
            let t = taken_says held (Word path) path refl (SwitchOf d) next outcome text in (
              λ s.
                  let v = t.0 s in
                  (false, v.2.0, (refl, subst (λ (p : List ℕ). Tells p text) v.1.1 v.2.1)),
              λ s. t.1 (path, (named text s.2.1, refl), (s.1 ∙ ap done_or_differs s.2.0, s.2.1)),
            );
        refuses =
            λ before after r.
            let t = taken_stops held (Word path) path refl (SwitchOf d) next before after r in (
              λ s. ⊎_elim (λ b. (b.0, ap₂ refusal_of b.1 b.2)) (λ g. absurd (no_memory r g.2)) (t.0 s),
              λ b. t.1 (inl (b.0, ap (λ (x : InputRefusal). x.number) b.1, ap (λ (x : InputRefusal). x.line) b.1)),
            );
      }

  -- positions, then the path of a switch, and such a text
  pub of_words_path : (path : List ℕ) (Tells : List Dbpos → List ℕ → List ℕ → Type 0) →
      ((words : List Dbpos) (text : List ℕ) → Tells words path text → Contains d.switch_paths path) →
      Answers held (Take (File positions) (Positions d)
      (λ words. Take (Word path) (SwitchOf d) (λ p. Write (IsDoneWith (Tells words p)))))
      (λ differs text. (differs ≡ false) × ByPositions d given (λ words. Tells words path text))
      (RefusesExplain d given path)
  of_words_path path Tells named =
      let next : List Dbpos → Form = λ words. Take (Word path) (SwitchOf d) (λ p. Write (IsDoneWith (Tells words p))) in
      record {
        writes =
            λ outcome text.
            let t = taken_says held (File positions) given at (Positions d) next outcome text in (
              λ s.
                  let v = t.0 s in
                  let w = ((of_path path (Tells v.0) (named v.0)).writes outcome text).0 v.2 in
                  (w.0, w.1, (w.2.0, (v.0, v.1, w.2.1))),
              λ s.
                  let u = s.2.1 in
                  t.1 (u.0, u.1, ((of_path path (Tells u.0) (named u.0)).writes outcome text).1 (s.0, s.1, (s.2.0, u.2))),
            );
        refuses =
            λ before after r.
            let t = taken_stops held (File positions) given at (Positions d) next before after r in (
              λ s. ⊎_elim (λ b. inl b)
                  (λ g. inr (g.0, g.1, ((of_path path (Tells g.0) (named g.0)).refuses before after r).0 g.2)) (t.0 s),
              λ s. t.1 (⊎_elim (λ b. inl b)
                  (λ g. inr (g.0, g.1, ((of_path path (Tells g.0) (named g.0)).refuses before after r).1 g.2)) s),
            );
      }

  -- the steps of an order from a start
  of_steps : (order steps : List ℕ) → Holds held order steps → (start : List Bool) (outcome : Outcome) (text : List ℕ) →
      FormSays (Take (File order) (OrderOf d) (λ ops. Write (OrderWrites d start ops))) held outcome text
      ↔ ((ops : List Op) × IsOrder d steps ops × OrderWrites d start ops outcome text)
  of_steps order steps held_steps start outcome text =
      taken_says held (File order) steps held_steps (OrderOf d) (λ ops. Write (OrderWrites d start ops)) outcome text

  stops_in_steps : (order steps : List ℕ) → Holds held order steps → (start : List Bool) (before after : List ℕ → ℕ)
      (r : InputRefusal) →
      FormStops (Take (File order) (OrderOf d) (λ ops. Write (OrderWrites d start ops))) held before after (e.Input r)
      ↔ IsOrderFault d steps r
  stops_in_steps order steps held_steps start before after r =
      let t = taken_stops held (File order) steps held_steps (OrderOf d) (λ ops. Write (OrderWrites d start ops)) before after r in
      (λ s. ⊎_elim (λ b. b) (λ g. absurd (no_memory r g.2)) (t.0 s), λ b. t.1 (inl b))

  -- positions that leave none open, and an order
  pub of_order : (order steps : List ℕ) → Holds held order steps →
      Answers held (order_rest positions order d) (SaysOrder d given steps) (RefusesOrder d given steps)
  of_order order steps held_steps =
      let next : List Bool → Form = λ start. Take (File order) (OrderOf d) (λ ops. Write (OrderWrites d start ops)) in
      record {
        writes =
            λ outcome text.
            let t = taken_says held (File positions) given at (CertainPositions d) next outcome text in (
              λ s.
                  let v = t.0 s in
                  let w = (of_steps order steps held_steps v.0 outcome text).0 v.2 in
                  let report = w.2.0 in (
                    report.differs,
                    w.2.2,
                    record {
                      start = v.0;
                      steps = w.0;
                      starts = v.1;
                      ordered = w.1;
                      reported =
                          subst (λ (x : List ℕ). IsOrderText d v.0 w.0 (record { differs = report.differs; text = x }))
                          (sym w.2.3) w.2.1;
                    },
                  ),
              λ s.
                  let q = s.2 in
                  t.1 (
                    q.start,
                    q.starts,
                    (of_steps order steps held_steps q.start outcome text).1
                        (q.steps, q.ordered, (record { differs = s.0; text = text }, q.reported, s.1, refl)),
                  ),
            );
        refuses =
            λ before after r.
            let t = taken_stops held (File positions) given at (CertainPositions d) next before after r in (
              λ s. ⊎_elim
                  (λ b. inl (⊎_elim (λ x. inl x) (λ u. inr (u.0, u.1, (u.2, u.3))) b))
                  (λ g. inr (g.0, g.1, (stops_in_steps order steps held_steps g.0 before after r).0 g.2)) (t.0 s),
              λ s. t.1 (⊎_elim
                  (λ b. inl (⊎_elim (λ x. inl x) (λ u. inr (u.0, u.1, u.2.0, u.2.1)) b))
                  (λ g. inr (g.0, g.1, (stops_in_steps order steps held_steps g.0 before after r).1 g.2)) s),
            );
      }
