-- A turn of a node is what the lines say after it: all events but a delivery.
use Rattle.std.proofs.Common.{◌≡◌, ◌≢◌, ◌+◌, ◌<◌, ◌==◌, ℕ, Bool, true, false, cond, List, [], ◌∷◌, length, get_or, set}
use Rattle.std.proofs.Common.{replicate, Option, Some, None, refl, sym, subst, ap, ◌∙◌, arith}
use Rattle.ilk_base.specs.declared.words.SwitchId.{SwitchId}
use Rattle.ilk_base.specs.declared.words.Dbpos.{Dbpos}
use Rattle.ilk_base.specs.declared.words.Dbpos.TheVariants.{Lost}
use Rattle.ilk_base.specs.declared.words.Op.{Op}
use Rattle.station_graph.specs.Diagram.{part_count}
use Rattle.central_rules.specs.Meaning.{Meaning}
use Rattle.bay_frames.specs.declared.frame.Body.TheVariants.{Reserve, Query, Over}
use Rattle.bay_protocol.specs.declared.values.Grant.{Grant}
use Rattle.bay_protocol.specs.declared.values.Collection.{Collection}
use Rattle.bay_protocol.specs.declared.values.Outcome.{Outcome}
use Rattle.bay_protocol.specs.declared.values.Outcome.TheVariants.{UnderWay, HeldBy, There, Spent, Collecting}
use Rattle.bay_protocol.specs.declared.values.Outcome.TheVariants.{Finished, Withdrawn, Stopped, Quiet}
use Rattle.bay_protocol.specs.Sends.{frame, to_each, overs}
use Rattle.bay_protocol.specs.State.{State, under_way_of, AllHeard, is_another, others, fresh, opens, drops}
use Rattle.bay_protocol.specs.State.{senses, ends, restarts}
use Rattle.bay_protocol.specs.Step.{Turn, StepEnds, IsFree, OpenStep, CommandStep, TickStep, SenseStep}
use Rattle.bay_protocol.specs.Step.{WithdrawStep, CutStep}
use Rattle.reservation_core.specs.Lines.{Line, shown}
use Rattle.reservation_core.specs.History.{open_of, is_of, closes, reading_at, last_round}
use Rattle.reservation_core.specs.declared.values.WorldEvent.{WorldEvent}
use Rattle.reservation_core.specs.declared.values.WorldEvent.TheVariants.{Command, Sense, Tick, Withdraw, Restart, Cut}
use Rattle.reservation_core.proofs.Rounds.{ended_round, dropped_round, get_lost}
use Rattle.bay_protocol.proofs.UnderWay.{idle_grant}
use Rattle.reservation_core.proofs.AlikeNotes.{switch_of}
use Rattle.log_replay.proofs.Basic.{eqb_same, set_is}
use Rattle.log_replay.proofs.Linked.{opened, HeardIs, NodeAfter, Harmless, stays}
use Rattle.log_replay.proofs.Others.{none_heard}
use Rattle.log_replay.proofs.TurnParts.{Before, TurnIs, by_ends, nothing_sent, no_round, one_sent, each_sent, nothing}
use Rattle.log_replay.proofs.TurnParts.{get_none, own_known, IsInert, inert, Ready, decided_turn}

-- ---- Command

still_command : (m : Meaning) (before : List Line) (b : ℕ) (s : State) (op : Op) (turn : Turn) (o : Outcome) →
    Before m before b s → IsInert o → shown o ≡ o → StepEnds turn s o [] → TurnIs m before b (Command op) turn
still_command m before b s op turn o k ok same end = by_ends (TurnIs m before b (Command op)) turn s o [] end (record {
  node = subst (λ (y : Outcome). NodeAfter m before b s.collecting s.granted s.words y (Command op)) (sym same)
      (inert m before b s.collecting s.granted s.words o (Command op) ok (stays m before (Command op) b s.collecting
      s.granted s.words k.is tt (λ g has x other. refl)));
  tells = nothing_sent m b s.words;
})

ready_free : (m : Meaning) (before : List Line) (b : ℕ) (s : State) (op : Op) → Before m before b s →
    op.switch.0 < length m.diagram.switches → IsFree s → others m.diagram s.bay ≡ [] →
    Ready m before b (opens m.diagram s op) (fresh m.diagram s op) (Command op)
ready_free m before b s op k known free none = record {
  name = k.name;
  granted = k.is.granted;
  none = idle_grant s.collecting s.granted free.idle;
  read = k.is.read;
  long = k.sound.words;
  known = known;
  round = λ some. absurd (some (subst (λ (x : ℕ). others m.diagram x ≡ []) k.name none));
  harmless = tt;
}

nobody_heard : (m : Meaning) (x b : ℕ) (c : Bool) →
    HeardIs m x b (get_or (replicate (part_count m.diagram) nothing) x None) (cond c None None)
nobody_heard m x b true = rw (get_none (part_count m.diagram) x) tt
nobody_heard m x b false = rw (get_none (part_count m.diagram) x) tt

open_turn : (m : Meaning) (before : List Line) (b : ℕ) (s : State) (op : Op) (turn : Turn) → Before m before b s →
    op.switch.0 < length m.diagram.switches → IsFree s → OpenStep m m.diagram s op turn →
    TurnIs m before b (Command op) turn
open_turn m before b s op turn k known free (OpenStep.alone none deciding) =
    decided_turn m before b (opens m.diagram s op) (fresh m.diagram s op) (Command op) turn
    (ready_free m before b s op k known free none) deciding
open_turn m before b s op turn k known free (OpenStep.reserves some end) =
    by_ends (TurnIs m before b (Command op)) turn (opens m.diagram s op) (Collecting (s.highest + 1))
    (to_each s.bay (s.highest + 1) Reserve (others m.diagram s.bay)) end (record {
      node = record {
        granted = k.is.granted;
        collecting = refl;
        read = k.is.read;
        last = k.is.last;
        round = λ q is others. is;
        heard = λ g x has.
            let e : fresh m.diagram s op ≡ g = cc has in
            subst (λ (y : Collection). HeardIs m x b (get_or y.heard x None) (cond (is_another m.diagram b x) None
            None)) e (nobody_heard m x b (is_another m.diagram b x));
        missing = λ g has.
            let e : fresh m.diagram s op ≡ g = cc has in
            subst (λ (y : Collection). ¬ AllHeard m.diagram b y.heard) e (none_heard m.diagram b (part_count m.diagram)
            (subst (λ (x : ℕ). others m.diagram x ≢ []) k.name some));
      };
      tells = each_sent m b s.words s.bay (s.highest + 1) Reserve (others m.diagram s.bay) tt;
    })

pub command_turn : (m : Meaning) (before : List Line) (b : ℕ) (s : State) (op : Op) (turn : Turn) →
    Before m before b s → op.switch.0 < length m.diagram.switches → CommandStep m m.diagram s op turn →
    TurnIs m before b (Command op) turn
command_turn m before b s op turn k known (CommandStep.round_under_way q is end) = still_command m before b s op turn
    (UnderWay q) k tt refl end
command_turn m before b s op turn k known (CommandStep.held l is lock end) = still_command m before b s op turn
    (HeldBy l.holder l.round) k tt refl end
command_turn m before b s op turn k known (CommandStep.there free at end) = still_command m before b s op turn There
    k tt refl end
command_turn m before b s op turn k known (CommandStep.spent free at top end) = still_command m before b s op turn Spent
    k tt refl end
command_turn m before b s op turn k known (CommandStep.opens_round free at below step) =
    open_turn m before b s op turn k known free step

-- ---- Sense, Withdraw, Cut, Restart and Tick

closes_it : (y : Option Grant) (g : Grant) → y ≡ Some g → closes g.round y ≡ None
closes_it y g is = rw is (rw (eqb_same g.round) refl)

of_it : (y : Option Grant) (g : Grant) (i : ℕ) → y ≡ Some g → is_of y g.round i ≡ (g.op.switch.0 == i)
of_it y g i is = rw is (rw (eqb_same g.round) refl)

pub sense_turn : (m : Meaning) (before : List Line) (b : ℕ) (s : State) (i : SwitchId) (word : Dbpos) (turn : Turn) →
    Before m before b s → i.0 < length m.diagram.switches → SenseStep m.diagram s i.0 word turn →
    TurnIs m before b (Sense i word) turn
sense_turn m before b s i word turn k lt (SenseStep.finishes g at end) =
    by_ends (TurnIs m before b (Sense i word)) turn (ends (senses s i.0 word)) (Finished g.round)
    (overs m.diagram s g.round) end (record {
      node = record {
        granted = sym (closes_it (open_of before b) g (sym k.is.granted ∙ at.granted));
        collecting = k.is.collecting;
        read = λ j less is. set_is s.words i.0 word j (omega (arith, lt, k.sound.words))
            ∙ ap (λ (w : Dbpos). cond (i.0 == j) word w) (k.is.read j less is);
        last = λ h has. absurd (cc has);
        round = λ q is some. k.is.round q (ended_round s.collecting s.granted q is) some;
        heard = k.is.heard;
        missing = k.is.missing;
      };
      tells = each_sent m b (set s.words i.0 word) s.bay g.round Over (others m.diagram s.bay) tt;
    })
sense_turn m before b s i word turn k lt (SenseStep.reads no_end end) =
    by_ends (TurnIs m before b (Sense i word)) turn (senses s i.0 word) Quiet [] end (record {
      node = record {
        granted = k.is.granted;
        collecting = k.is.collecting;
        read = λ j less is. set_is s.words i.0 word j (omega (arith, lt, k.sound.words))
            ∙ ap (λ (w : Dbpos). cond (i.0 == j) word w) (k.is.read j less is);
        last = k.is.last;
        round = k.is.round;
        heard = k.is.heard;
        missing = k.is.missing;
      };
      tells = nothing_sent m b (set s.words i.0 word);
    })

pub withdraw_turn : (m : Meaning) (before : List Line) (b : ℕ) (s : State) (turn : Turn) → Before m before b s →
    WithdrawStep m.diagram s turn → TurnIs m before b (Withdraw (record { 0 = b })) turn
withdraw_turn m before b s turn k (WithdrawStep.from_round g has end) =
    let none : s.granted ≡ None = (k.sound.collecting g has).no_grant in
    let shut : open_of before b ≡ None = sym k.is.granted ∙ none in
    by_ends (TurnIs m before b (Withdraw (record { 0 = b }))) turn (drops s) (Withdrawn g.round)
    (overs m.diagram s g.round) end (record {
      node = record {
        granted = rw shut none;
        collecting = refl;
        read = λ i lt is. rw shut (k.is.read i lt is);
        last = λ h got. absurd (cc (got, none));
        round = λ q is some. absurd (no_round s.granted q none is);
        heard = λ h x got. absurd (cc got);
        missing = λ h got. absurd (cc got);
      };
      tells = each_sent m b s.words s.bay g.round Over (others m.diagram s.bay) tt;
    })
withdraw_turn m before b s turn k (WithdrawStep.from_grant g none has end) =
    let is_open : open_of before b ≡ Some g = sym k.is.granted ∙ has in
    by_ends (TurnIs m before b (Withdraw (record { 0 = b }))) turn (ends (senses s g.op.switch.0 Lost))
    (Withdrawn g.round) (overs m.diagram s g.round) end (record {
      node = record {
        granted = sym (closes_it (open_of before b) g is_open);
        collecting = ap opened none;
        read = λ i lt is. set_is s.words g.op.switch.0 Lost i
            (omega (arith, (switch_of m s.bay g.op.switch.0 (k.sound.kept.granted g has).own).0, k.sound.words))
            ∙ ap (λ (w : Dbpos). cond (g.op.switch.0 == i) Lost w) (k.is.read i lt is)
            ∙ ap (λ (t : Bool). cond t Lost (reading_at m.diagram before i))
            (sym (of_it (open_of before b) g i is_open));
        last = λ h got. absurd (cc got);
        round = λ q is some. k.is.round q (ended_round s.collecting s.granted q is) some;
        heard = λ h x got. absurd (cc (got, none));
        missing = λ h got. absurd (cc (got, none));
      };
      tells = each_sent m b (set s.words g.op.switch.0 Lost) s.bay g.round Over (others m.diagram s.bay) tt;
    })
withdraw_turn m before b s turn k (WithdrawStep.no_round idle end) =
    by_ends (TurnIs m before b (Withdraw (record { 0 = b }))) turn s Quiet [] end (record {
      node = stays m before (Withdraw (record { 0 = b })) b s.collecting s.granted s.words k.is tt
          (λ g has x other. refl);
      tells = nothing_sent m b s.words;
    })

pub cut_turn : (m : Meaning) (before : List Line) (b : ℕ) (s : State) (i : SwitchId) (turn : Turn) →
    Before m before b s → i.0 < length m.diagram.switches → CutStep m.diagram s i.0 turn →
    TurnIs m before b (Cut i) turn
cut_turn m before b s i turn k lt (CutStep.stops g has at end) =
    let is_open : open_of before b ≡ Some g = sym k.is.granted ∙ has in
    by_ends (TurnIs m before b (Cut i)) turn (ends (senses s i.0 Lost)) (Stopped g.round) (overs m.diagram s g.round)
    end (record {
      node = record {
        granted = sym (closes_it (open_of before b) g is_open);
        collecting = k.is.collecting;
        read = λ j less is. set_is s.words i.0 Lost j (omega (arith, lt, k.sound.words))
            ∙ ap (λ (w : Dbpos). cond (i.0 == j) Lost w) (k.is.read j less is)
            ∙ ap (λ (t : Bool). cond t Lost (reading_at m.diagram before j)) (ap (λ x. x == j) (sym at)
            ∙ sym (of_it (open_of before b) g j is_open));
        last = λ h got. absurd (cc got);
        round = λ q is some. k.is.round q (ended_round s.collecting s.granted q is) some;
        heard = k.is.heard;
        missing = k.is.missing;
      };
      tells = each_sent m b (set s.words i.0 Lost) s.bay g.round Over (others m.diagram s.bay) tt;
    })
cut_turn m before b s i turn k lt (CutStep.other_switch g has other end) =
    by_ends (TurnIs m before b (Cut i)) turn s Quiet [] end (record {
      node = stays m before (Cut i) b s.collecting s.granted s.words k.is tt (λ h got x is. refl);
      tells = nothing_sent m b s.words;
    })
cut_turn m before b s i turn k lt (CutStep.no_grant none end) =
    by_ends (TurnIs m before b (Cut i)) turn s Quiet [] end (record {
      node = stays m before (Cut i) b s.collecting s.granted s.words k.is tt (λ h got x is. refl);
      tells = nothing_sent m b s.words;
    })

pub restart_turn : (m : Meaning) (before : List Line) (b : ℕ) (s : State) (turn : Turn) → Before m before b s →
    StepEnds turn (restarts s) Quiet [] → TurnIs m before b (Restart (record { 0 = b })) turn
restart_turn m before b s turn k end = by_ends (TurnIs m before b (Restart (record { 0 = b }))) turn (restarts s) Quiet
    [] end (record {
      node = record {
        granted = k.is.granted;
        collecting = rw (eqb_same b) refl;
        read = λ i lt is. get_lost (length s.words) i ∙ rw (eqb_same b) refl;
        last = k.is.last;
        round = λ q is some. k.is.round q (dropped_round s.collecting s.granted q
            (λ g has. (k.sound.collecting g has).no_grant) is) some;
        heard = λ g x has. absurd (cc has);
        missing = λ g has. absurd (cc has);
      };
      tells = nothing_sent m b (replicate (length s.words) Lost);
    })

-- the round that is collected was opened last
pub last_opened : (m : Meaning) (before : List Line) (b : ℕ) (s : State) (g : Collection) → Before m before b s →
    s.collecting ≡ Some g → others m.diagram b ≢ [] → last_round before b ≡ Some g.round
last_opened m before b s g k has some =
    k.is.round g.round (ap (λ (x : Option Collection). under_way_of x s.granted) has) some

ready_collecting : (m : Meaning) (before : List Line) (b : ℕ) (s : State) (g : Collection) (e : WorldEvent) →
    Before m before b s → s.collecting ≡ Some g → Harmless m.diagram e b → Ready m before b s g e
ready_collecting m before b s g e k has harmless = record {
  name = k.name;
  granted = k.is.granted;
  none = (k.sound.collecting g has).no_grant;
  read = k.is.read;
  long = k.sound.words;
  known = own_known m s g k.sound has;
  round = last_opened m before b s g k has;
  harmless = harmless;
}

pub tick_turn : (m : Meaning) (before : List Line) (b : ℕ) (s : State) (turn : Turn) → Before m before b s →
    TickStep m m.diagram s turn → TurnIs m before b (Tick (record { 0 = b })) turn
tick_turn m before b s turn k (TickStep.decides g has deciding) = decided_turn m before b s g (Tick (record { 0 = b }))
    turn (ready_collecting m before b s g (Tick (record { 0 = b })) k has tt) deciding
tick_turn m before b s turn k (TickStep.asks l none lock end) =
    by_ends (TurnIs m before b (Tick (record { 0 = b }))) turn s Quiet (frame s.bay l.holder.0 l.round Query ∷ [])
    end (record {
      node = stays m before (Tick (record { 0 = b })) b s.collecting s.granted s.words k.is tt (λ g has x other. refl);
      tells = one_sent m b s.words (frame s.bay l.holder.0 l.round Query) tt;
    })
tick_turn m before b s turn k (TickStep.rests none lock end) =
    by_ends (TurnIs m before b (Tick (record { 0 = b }))) turn s Quiet [] end (record {
      node = stays m before (Tick (record { 0 = b })) b s.collecting s.granted s.words k.is tt (λ g has x other. refl);
      tells = nothing_sent m b s.words;
    })
