-- A session of a bay, once the station of the drawing is there.
use Rattle.std.proofs.Common.{ℕ, List, Option, Result, refl, inl, inr}
use Rattle.std.specs.Prelude.{IfOk, IfErr}
use Rattle.std.proofs.lemmas.Result.{IfOk-weaker, IfErr-weaker}
use Rattle.station_graph.specs.Diagram.{Diagram}
use Rattle.release_compile.specs.Judging.{KeepsLimits}
use Rattle.stored_session.specs.View.{View}
use Rattle.interlock_cli.specs.Formats.{AcceptsAs, BayOf}
use Rattle.interlock_cli.specs.Form.{File, FormStops}
use Rattle.interlock_cli.specs.Judging.{Drawn, JudgeFails}
use Rattle.interlock_cli.specs.Commands.{Node, form_of}
use Rattle.interlock_cli.specs.Ends.{Call, Serves}
use Rattle.interlock_cli.specs.Serving.{EndsSession}
use Rattle.interlock_cli.specs.StoredWords.{StoredWords}
use Rattle.interlock_cli.specs.StoredEnding.{EndsStoredSession, Stores}
use Rattle.interlock_cli.specs.declared.end.End.{End}
use Rattle.interlock_cli.proofs.Drawings.{drawn_given}
use Rattle.interlock_cli.proofs.Later.{word_fails}

-- the bay is accepted, and its session ends so
pub serves_bay : (c : Call) (station bay : List ℕ) (d : Diagram) → Drawn c.held (File station) d → KeepsLimits d →
    (r : Result End End)
    → IfOk r (λ end. (b : ℕ) × AcceptsAs (BayOf d) bay b × EndsSession d b c.before c.after end) →
    IfOk r (Serves (form_of (Node station bay)) c)
serves_bay c station bay d drawing keeps r =
    IfOk-weaker r (λ end. (b : ℕ) × AcceptsAs (BayOf d) bay b × EndsSession d b c.before c.after end)
    (Serves (form_of (Node station bay)) c)
    (λ end (b, accepts, ends). (
      d,
      drawn_given c.held (File station) d drawing keeps,
      (b, (bay, refl, accepts), ends),
    ))

-- or it is not
pub stops_bay : (held : List ℕ → Option (List ℕ)) (before after : List ℕ → ℕ) (station bay : List ℕ) (d : Diagram) →
    Drawn held (File station) d → KeepsLimits d → (r : Result End End) → IfErr r (JudgeFails (BayOf d) bay) →
    IfErr r (FormStops (form_of (Node station bay)) held before after)
stops_bay held before after station bay d drawing keeps r =
    IfErr-weaker r (JudgeFails (BayOf d) bay) (FormStops (form_of (Node station bay)) held before after)
    (λ end fails.
    inr (
      d,
      drawn_given held (File station) d drawing keeps,
      inl (word_fails held before after (BayOf d) bay end fails),
    ))

-- the bay is accepted, and its stored session ends so
pub stores_bay : {D : Type 0} (v : View D) (w : StoredWords) (c : Call) (old new : D) (d : Diagram) →
    Drawn c.held (File w.station) d → KeepsLimits d → (r : Result End End)
    → IfOk r
    (λ end. (b : ℕ) × AcceptsAs (BayOf d) w.bay b × EndsStoredSession v d b c.before c.after old new end) →
    IfOk r (Stores v w c old new)
stores_bay v w c old new d drawing keeps r =
    IfOk-weaker r
    (λ end. (b : ℕ) × AcceptsAs (BayOf d) w.bay b × EndsStoredSession v d b c.before c.after old new end)
    (Stores v w c old new)
    (λ end (b, accepts, (session, is, stores)). record {
      diagram = d;
      drawing = drawn_given c.held (File w.station) d drawing keeps;
      bay = b;
      named = (w.bay, refl, accepts);
      session = session;
      end_is = is;
      stores = stores;
    })
