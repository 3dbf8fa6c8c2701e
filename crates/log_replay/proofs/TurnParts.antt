-- What is known of a node before a turn, what is shown of the turn, and a turn that decides.
use Rattle.std.proofs.Common.{◌≡◌, ◌≢◌, ◌<◌, ◌==◌, ℕ, zero, suc, cond, List, [], ◌∷◌, length, get_or, set, replicate}
use Rattle.std.proofs.Common.{Option, Some, None, Contains, refl, sym, subst, ap, ◌∙◌, arith}
use Rattle.std.specs.Prelude.{⊤}
use Rattle.ilk_base.specs.declared.words.Dbpos.{Dbpos}
use Rattle.ilk_base.specs.declared.words.Dbpos.TheVariants.{Lost}
use Rattle.central_rules.specs.Meaning.{Meaning, Summarises, bay_of}
use Rattle.bay_frames.specs.declared.frame.Frame.{Frame}
use Rattle.bay_frames.specs.declared.frame.Body.{Body}
use Rattle.bay_frames.specs.declared.frame.Body.TheVariants.{Reserve, Answer, Busy, Query, Over}
use Rattle.bay_protocol.specs.declared.values.Grant.{Grant}
use Rattle.bay_protocol.specs.declared.values.Collection.{Collection}
use Rattle.bay_protocol.specs.declared.values.Outcome.{Outcome}
use Rattle.bay_protocol.specs.declared.values.Outcome.TheVariants.{UnderWay, HeldBy, There, Spent, Granted}
use Rattle.bay_protocol.specs.declared.values.Outcome.TheVariants.{Denied, Quiet}
use Rattle.bay_protocol.specs.Sends.{to_each, overs}
use Rattle.bay_protocol.specs.Fits.{IsNode}
use Rattle.bay_protocol.specs.State.{State, under_way_of, others, grants, drops}
use Rattle.bay_protocol.specs.Step.{Turn, StepEnds, Deciding}
use Rattle.reservation_core.specs.Lines.{Line, shown}
use Rattle.reservation_core.specs.History.{or_else, last_granted, open_of, reading_at, last_round}
use Rattle.reservation_core.specs.declared.values.WorldEvent.{WorldEvent}
use Rattle.reservation_core.proofs.AlikeNotes.{switch_of}
use Rattle.log_replay.proofs.Basic.{eqb_same, set_is, no_frame, one_frame, each_frame}
use Rattle.log_replay.proofs.Linked.{NodeIs, NodeAfter, Harmless, not_sensed, not_forgotten}

-- what is known of the node before the turn
pub record Before (m : Meaning) (lines : List Line) (b : ℕ) (s : State) : Type 0 where
  pub is : NodeIs m lines b s.collecting s.granted s.words
  pub sound : IsNode m.diagram s
  pub name : s.bay ≡ b

-- what is shown of the turn
pub record TurnIs (m : Meaning) (lines : List Line) (b : ℕ) (e : WorldEvent) (turn : Turn) : Type 0 where
  pub node : NodeAfter m lines b turn.new.collecting turn.new.granted turn.new.words (shown turn.outcome) e
  pub tells : (f : Frame) (summary : List ℕ) → Contains turn.frames f → f.body ≡ Answer summary → (f.from.0 ≡ b)
      × Summarises m b f.to.0 turn.new.words summary

pub by_ends : (P : Turn → Type 0) (turn : Turn) (new : State) (o : Outcome) (fs : List Frame) → StepEnds turn new o fs →
    P (record { new = new; outcome = o; frames = fs }) → P turn
by_ends P turn new o fs end p =
    subst (λ (x : State). P (record { new = x; outcome = turn.outcome; frames = turn.frames })) (sym end.state)
    (subst (λ (y : Outcome). P (record { new = new; outcome = y; frames = turn.frames })) (sym end.says)
    (subst (λ (z : List Frame). P (record { new = new; outcome = o; frames = z })) (sym end.sends) p))

-- ---- frames that are no answers

pub nothing_sent : (m : Meaning) (b : ℕ) (words : List Dbpos) → (f : Frame) (summary : List ℕ) → Contains [] f →
    f.body ≡ Answer summary → (f.from.0 ≡ b) × Summarises m b f.to.0 words summary
nothing_sent m b words f summary there body = absurd (no_frame f there)

abbrev pub NoAnswer : Body → Type 0
NoAnswer (Answer summary) = ⊥
NoAnswer Reserve = ⊤
NoAnswer (Busy holder q) = ⊤
NoAnswer Query = ⊤
NoAnswer Over = ⊤

no_answers : (m : Meaning) (b : ℕ) (words : List Dbpos) (fs : List Frame) → ((f : Frame) → Contains fs f →
    NoAnswer f.body) → (f : Frame) (summary : List ℕ) → Contains fs f → f.body ≡ Answer summary → (f.from.0 ≡ b)
    × Summarises m b f.to.0 words summary
no_answers m b words fs none f summary there body = absurd (subst NoAnswer body (none f there))

pub one_sent : (m : Meaning) (b : ℕ) (words : List Dbpos) (x : Frame) → NoAnswer x.body →
    (f : Frame) (summary : List ℕ) → Contains (x ∷ []) f → f.body ≡ Answer summary → (f.from.0 ≡ b)
    × Summarises m b f.to.0 words summary
one_sent m b words x none = no_answers m b words (x ∷ []) (λ f there. subst (λ (y : Frame). NoAnswer y.body)
    (one_frame x f there) none)

pub each_sent : (m : Meaning) (b : ℕ) (words : List Dbpos) (from round : ℕ) (body : Body) (tos : List ℕ) →
    NoAnswer body → (f : Frame) (summary : List ℕ) → Contains (to_each from round body tos) f →
    f.body ≡ Answer summary →
    (f.from.0 ≡ b) × Summarises m b f.to.0 words summary
each_sent m b words from round body tos none = no_answers m b words (to_each from round body tos)
    (λ f there. subst NoAnswer (sym (each_frame from round body tos f there)) none)

-- ---- options and lists

pub no_round : (y : Option Grant) (q : ℕ) → y ≡ None → under_way_of None y ≡ Some q → ⊥
no_round (Some g) q none is = absurd (cc none)
no_round None q none is = absurd (cc is)

abbrev pub nothing : Option (List ℕ)
nothing = None

pub get_none : (n i : ℕ) → get_or (replicate n nothing) i None ≡ None
get_none zero i = refl
get_none (suc n) zero = refl
get_none (suc n) (suc i) = get_none n i

-- the switch of a round that is collected is one of the station
pub own_known : (m : Meaning) (s : State) (g : Collection) → IsNode m.diagram s → s.collecting ≡ Some g →
    g.op.switch.0 < length m.diagram.switches
own_known m s g ok has = (switch_of m s.bay g.op.switch.0 (ok.collecting g has).own).0

-- ---- outcomes that change nothing

abbrev pub IsInert : Outcome → Type 0
IsInert (UnderWay q) = ⊤
IsInert (HeldBy b r) = ⊤
IsInert There = ⊤
IsInert Spent = ⊤
IsInert outcome = ⊥

pub inert : (m : Meaning) (before : List Line) (c : ℕ) (x : Option Collection) (y : Option Grant) (words : List Dbpos)
    (o : Outcome) (e : WorldEvent) → IsInert o → NodeAfter m before c x y words Quiet e →
    NodeAfter m before c x y words o e
inert m before c x y words (UnderWay q) e ok a = record {
  granted = a.granted;
  collecting = a.collecting;
  read = a.read;
  last = a.last;
  round = a.round;
  heard = a.heard;
  missing = a.missing;
}
inert m before c x y words (HeldBy b r) e ok a = record {
  granted = a.granted;
  collecting = a.collecting;
  read = a.read;
  last = a.last;
  round = a.round;
  heard = a.heard;
  missing = a.missing;
}
inert m before c x y words There e ok a = record {
  granted = a.granted;
  collecting = a.collecting;
  read = a.read;
  last = a.last;
  round = a.round;
  heard = a.heard;
  missing = a.missing;
}
inert m before c x y words Spent e ok a = record {
  granted = a.granted;
  collecting = a.collecting;
  read = a.read;
  last = a.last;
  round = a.round;
  heard = a.heard;
  missing = a.missing;
}
inert m before c x y words o e ok a = absurd ok

-- ---- deciding

pub record Ready (m : Meaning) (before : List Line) (b : ℕ) (t : State) (g : Collection) (e : WorldEvent) : Type 0 where
  pub name : t.bay ≡ b
  pub granted : t.granted ≡ open_of before b
  pub none : t.granted ≡ None
  pub read : (i : ℕ) → i < length m.diagram.switches → bay_of m.diagram i ≡ b →
      get_or t.words i Lost ≡ reading_at m.diagram before i
  pub long : length t.words ≡ length m.diagram.switches
  pub known : g.op.switch.0 < length m.diagram.switches
  pub round : others m.diagram b ≢ [] → last_round before b ≡ Some g.round
  pub harmless : Harmless m.diagram e b

pub decided_turn : (m : Meaning) (before : List Line) (b : ℕ) (t : State) (g : Collection) (e : WorldEvent)
    (turn : Turn) → Ready m before b t g e → Deciding m m.diagram t g turn → TurnIs m before b e turn
decided_turn m before b t g e turn k (Deciding.release verdict end) =
    by_ends (TurnIs m before b e) turn (grants t g) (Granted g.round g.op) [] end (record {
      node = record {
        granted = refl;
        collecting = sym (not_forgotten m.diagram e b None k.harmless);
        read = λ i lt is. set_is t.words g.op.switch.0 Lost i (omega (arith, k.long, k.known))
            ∙ ap (λ (w : Dbpos). cond (g.op.switch.0 == i) Lost w) (k.read i lt is
            ∙ sym (not_sensed m.diagram e b i (reading_at m.diagram before i) k.harmless is));
        last = λ h has.
            let e' : record { round = g.round; op = g.op } ≡ h = cc has in
            subst (λ (y : Grant). or_else (cond (g.op.switch.0 == y.op.switch.0) (Some g.op) None)
            (last_granted m.diagram before y.op.switch.0) ≡ Some y.op) e' (rw (eqb_same g.op.switch.0) refl);
        round = λ q is some. k.round some ∙ is;
        heard = λ h x has. absurd (cc has);
        missing = λ h has. absurd (cc has);
      };
      tells = nothing_sent m b (set t.words g.op.switch.0 Lost);
    })
decided_turn m before b t g e turn k (Deciding.denial rule v verdict end) =
    by_ends (TurnIs m before b e) turn (drops t) (Denied g.round g.op rule v) (overs m.diagram t g.round) end (record {
      node = record {
        granted = k.granted;
        collecting = sym (not_forgotten m.diagram e b None k.harmless);
        read = λ i lt is. k.read i lt is ∙ sym (not_sensed m.diagram e b i (reading_at m.diagram before i)
            k.harmless is);
        last = λ h has. absurd (cc (has, k.none));
        round = λ q is some. absurd (no_round t.granted q k.none is);
        heard = λ h x has. absurd (cc has);
        missing = λ h has. absurd (cc has);
      };
      tells = each_sent m b t.words t.bay g.round Over (others m.diagram t.bay) tt;
    })
