-- A session from before the opening of the store.
use Rattle.std.proofs.Common.{◌≡◌, ◌∙◌, ◌≤◌, ◌⊎◌, inl, inr, ⊎_elim, ℕ, List, sym, subst, arith}
use Rattle.ilk_base.specs.Outside.{Rose}
use Rattle.ilk_base.proofs.Fronts.{rose_earlier}
use Rattle.station_graph.specs.Diagram.{Diagram}
use Rattle.central_rules.specs.Meaning.{Meaning}
use Rattle.bay_protocol.specs.State.{State, kept_of}
use Rattle.node_session.specs.SessionEnds.{Streams}
use Rattle.node_store.specs.Device.{Told, LeavesFrom, KeepsPast, RisesBy}
use Rattle.node_store.specs.Image.{IsImageOf}
use Rattle.node_store.proofs.Runs.{then_more, weaker, is_since}
use Rattle.stored_session.specs.View.{View}
use Rattle.stored_session.proofs.Time.{KeepsTime}
use Rattle.stored_session.specs.Along.{StandsAlong}
use Rattle.stored_session.specs.Ends.{EndsSo, BegunEnds}
use Rattle.stored_session.specs.declared.end.StoredEnd.{StoredEnd}
use Rattle.stored_session.specs.declared.end.StoredEnd.TheVariants.{Done, Unfit, Refused, Long, ReadFault, WriteFault}
use Rattle.stored_session.specs.declared.end.StoredEnd.TheVariants.{Memory}

-- a count that rose in a part of a run rose in it
so_earlier : (m : Meaning) (d : Diagram) (b : ℕ) (start : State) (before now : Streams) (part whole : Type 0)
    → (lines : List (List ℕ)) (text : List ℕ) (low : ℕ) (end : StoredEnd) → (part → whole)
    → EndsSo m d b start before now part lines text low end → EndsSo m d b start before now whole lines text low end
so_earlier m d b start before now part whole lines text low Done rose so = so
so_earlier m d b start before now part whole lines text low (Refused number) rose so = so
so_earlier m d b start before now part whole lines text low Long rose so = so
so_earlier m d b start before now part whole lines text low ReadFault rose so = so
so_earlier m d b start before now part whole lines text low WriteFault rose (begins, near, stops) = (
  begins,
  near,
  record {
    done = stops.done;
    line = stops.line;
    more = stops.more;
    parts = stops.parts;
    text_done = stops.text_done;
    answer = stops.answer;
    text_more = stops.text_more;
    texts = stops.texts;
    state = stops.state;
    session = stops.session;
    next = stops.next;
    answers = stops.answers;
    near = stops.near;
    asked = stops.asked;
    front = stops.front;
    wrote = stops.wrote;
    cause = ⊎_elim (λ h. inl (rose h.0, h.1, h.2)) (λ h. inr h) stops.cause;
  },
)
so_earlier m d b start before now part whole lines text low Memory rose so = so
so_earlier m d b start before now part whole lines text low Unfit rose so = so

module _ {D : Type 0} (v : View D) (time : KeepsTime v) (old mid : D) (same : v.content mid ≡ v.content old)
    (follows : LeavesFrom v.since (v.moment old) old mid (λ c d. c ≡ d)) (past : KeepsPast v.moment v.between old mid)
    (called : RisesBy 3 (v.calls old) (v.calls mid)) where
  -- what a crash leaves in the opening it could leave before
  left_before : (c : List ℕ) → v.since mid (v.moment old) c → v.since old (v.moment old) c
  left_before c left =
      let from = follows c left in
      subst (λ (d : List ℕ). v.since old (v.moment old) d) from.2 from.1

  -- the session that follows the opening, with it
  begun_at : (m : Meaning) (d : Diagram) (b : ℕ) (start : State) (before now : Streams) (new : D) (end : StoredEnd)
      → v.writes old ≤ v.writes mid → Told (v.content old) (λ image. IsImageOf image (kept_of start))
      → BegunEnds v m d b 0 start before now mid new end → BegunEnds v m d b 3 start before now old new end
  begun_at m d b start before now new end grows stands ends = record {
    lines = ends.lines;
    text = ends.text;
    last = ends.last;
    session = ends.session;
    low = ends.low;
    so = so_earlier m d b start before now (Rose (v.writes mid) (v.writes new)) (Rose (v.writes old) (v.writes new))
        ends.lines ends.text ends.low end (λ rose. rose_earlier _ _ _ grows rose) ends.so;
    taken = ends.taken;
    crash = λ image told.
        let P : List ℕ → Type 0 = StandsAlong m d b start ends.lines ends.text ends.last 0 in
        let Q : List ℕ → Type 0 = λ c. v.since old (v.moment old) c ⊎ P c in
        then_more v.moment v.between v.since time old mid new Q
        (record { past = past; each = λ c left. inl (left_before c left) })
        (weaker v.moment v.between v.since time mid new (λ c. v.since mid (v.moment mid) c ⊎ P c) Q
        (ends.crash image (same ∙ told))
        (λ c h. ⊎_elim (λ left. inl (left_before c
        (is_since v.moment v.between v.since time old mid c past.later left))) (λ along. inr along) h));
    at_return = λ image told. ends.at_return image (same ∙ told);
    whole = λ is. let stands = ends.whole is in record {
      told = λ image told. stands.told image (same ∙ told);
      untold = λ image told. let here = stands.untold image told in (here.0, sym same ∙ here.1);
    };
    called = record {
      grows = omega (arith, called.grows, ends.called.grows);
      most = omega (arith, called.most, ends.called.most);
    };
  }

  -- the same, of a node that is made of the record
  pub begun : (m : Meaning) (d : Diagram) (b : ℕ) (node start : State) (before now : Streams) (new : D)
      (end : StoredEnd)
      → node ≡ start → v.writes old ≤ v.writes mid → Told (v.content old) (λ image. IsImageOf image (kept_of start))
      → BegunEnds v m d b 0 node before now mid new end → BegunEnds v m d b 3 start before now old new end
  begun m d b node start before now new end is grows stands ends =
      begun_at m d b start before now new end grows stands (subst (λ
      (s : State). BegunEnds v m d b 0 s before now mid new end) is ends)
