-- What is sent, and what the drives do.
use Rattle.std.proofs.Common.{◌≡◌, ◌≢◌, ◌<◌, ◌≤◌, ℕ, Bool, true, false, List, ◌++◌, length, get_or, set, Some, Contains}
use Rattle.std.proofs.Common.{sym, subst, ap, ◌∙◌, inl, inr, arith, length-set, get_or-set_same, get_or-set_other}
use Rattle.std.proofs.lemmas.List.Elements.{Contains-append_left, Contains-append_cases}
use Rattle.central_rules.specs.Meaning.{Meaning, bay_of}
use Rattle.bay_frames.specs.declared.frame.Frame.{Frame}
use Rattle.bay_protocol.specs.declared.values.Grant.{Grant}
use Rattle.bay_frames.specs.declared.frame.Body.TheVariants.{Answer, Over}
use Rattle.bay_protocol.specs.State.{under_way}
use Rattle.reservation_core.specs.Scene.{Scene, node, posts, moves, stops, runs}
use Rattle.reservation_core.specs.declared.values.Position.{Position}
use Rattle.reservation_core.specs.declared.values.Position.TheVariants.{Open, Between}
use Rattle.reservation_core.specs.RoundFacts.{RoundFacts, IsLockedFor, AnswerSent, FrameFits, round_bay}
use Rattle.reservation_core.proofs.Nodes.{get_set}
use Rattle.std.proofs.lemmas.Bool.{cases_eq}

-- a frame may be sent
pub record MaySend (m : Meaning) (w : Scene) (f : Frame) : Type 0 where
  pub fit : FrameFits m.diagram f
  pub bound : f.round ≤ (node m.diagram w (round_bay f f.body)).highest
  pub over : f.body ≡ Over → under_way (node m.diagram w f.from.0) ≢ Some f.round
  pub answer : (summary : List ℕ) → f.body ≡ Answer summary → under_way (node m.diagram w f.to.0) ≡ Some f.round →
      IsLockedFor m.diagram w f

still_sent : (sent frames : List Frame) (b c r : ℕ) (summary : List ℕ) → AnswerSent sent b c r summary →
    AnswerSent (sent ++ frames) b c r summary
still_sent sent frames b c r summary a = record {
  frame = a.frame;
  there = Contains-append_left sent frames a.frame a.there;
  from = a.from;
  to = a.to;
  round = a.round;
  body = a.body;
}

pub facts_posts : (m : Meaning) (w : Scene) (frames : List Frame) → RoundFacts m w →
    ((f : Frame) → Contains frames f → MaySend m w f) → RoundFacts m (posts w frames)
facts_posts m w frames facts may =
    let each : (P : Frame → Type 0) → ((f : Frame) → Contains w.sent f → P f) → ((f : Frame) → MaySend m w f → P f) →
    (f : Frame) → Contains (w.sent ++ frames) f → P f =
    λ P old new f there. elim (Contains-append_cases w.sent frames f there) [
      | inl a ↦ old f a
      | inr b ↦ new f (may f b)
    ] in
    record {
      shape = record {
        nodes = facts.shape.nodes;
        present = facts.shape.present;
        only = facts.shape.only;
        truth = facts.shape.truth;
        drives = facts.shape.drives;
        named = facts.shape.named;
      };
      rounds = facts.rounds;
      bounds = record {
        frames =
            each (λ f. f.round ≤ (node m.diagram w (round_bay f f.body)).highest) facts.bounds.frames (λ f s. s.bound);
        fit = each (λ f. FrameFits m.diagram f) facts.bounds.fit (λ f s. s.fit);
        locks = facts.bounds.locks;
      };
      overs =
          each (λ f. f.body ≡ Over → under_way (node m.diagram w f.from.0) ≢ Some f.round) facts.overs (λ f s. s.over);
      locks =
          λ f summary there. each (λ f. f.body ≡ Answer summary → under_way (node m.diagram w f.to.0) ≡ Some f.round →
          IsLockedFor m.diagram w f) (λ f t. facts.locks f summary t) (λ f s. s.answer summary) f there;
      drives = λ i lt on.
          let d = facts.drives i lt on in
          record { grant = d.grant; granted = d.granted; switch = d.switch; between = d.between };
      heard = λ c b g summary is got.
          let old = facts.heard c b g summary is got in
          record { fits = old.fits; answer = still_sent w.sent frames b c g.round summary old.answer };
    }

-- the switch of a granted operation moves or is moved
pub facts_moves : (m : Meaning) (w : Scene) (i : ℕ) (g : Grant) (at : Position) (running : Bool) → RoundFacts m w →
    i < length m.diagram.switches → (node m.diagram w (bay_of m.diagram i)).granted ≡ Some g → g.op.switch.0 ≡ i →
    (running ≡ true → at ≡ Between) → RoundFacts m (moves w i at running)
facts_moves m w i g at running facts lt has switch between =
    let inside : i < length w.truth = omega (arith, lt, facts.shape.truth) in
    let inside' : i < length w.drives = omega (arith, lt, facts.shape.drives) in
    record {
      shape = record {
        nodes = facts.shape.nodes;
        present = facts.shape.present;
        only = facts.shape.only;
        truth = length-set w.truth i at ∙ facts.shape.truth;
        drives = length-set w.drives i running ∙ facts.shape.drives;
        named = facts.shape.named;
      };
      rounds = facts.rounds;
      bounds = record { frames = facts.bounds.frames; fit = facts.bounds.fit; locks = facts.bounds.locks };
      overs = facts.overs;
      locks = facts.locks;
      drives = λ j jlt on. elim (cases_eq j i) [
        | inl same ↦
            let on' : running ≡ true =
            sym (get_or-set_same w.drives i running false inside')
            ∙ subst (λ (x : ℕ). get_or (set w.drives i running) x false ≡ true) same on in
            rw same (record {
              grant = g;
              granted = has;
              switch = switch;
              between = get_or-set_same w.truth i at Between inside ∙ between on';
            })
        | inr other ↦
            let d = facts.drives j jlt (sym (get_or-set_other w.drives i j running false other) ∙ on) in
            record {
              grant = d.grant;
              granted = d.granted;
              switch = d.switch;
              between = get_or-set_other w.truth i j at Between other ∙ d.between;
            }
      ];
      heard = facts.heard;
    }

-- a drive stops
pub facts_stops : (m : Meaning) (w : Scene) (i : ℕ) → RoundFacts m w → RoundFacts m (stops w i)
facts_stops m w i facts = record {
  shape = record {
    nodes = facts.shape.nodes;
    present = facts.shape.present;
    only = facts.shape.only;
    truth = facts.shape.truth;
    drives = length-set w.drives i false ∙ facts.shape.drives;
    named = facts.shape.named;
  };
  rounds = facts.rounds;
  bounds = record { frames = facts.bounds.frames; fit = facts.bounds.fit; locks = facts.bounds.locks };
  overs = facts.overs;
  locks = facts.locks;
  drives = λ j lt on. elim (get_set w.drives i false j false) [
    | inl p ↦ absurd (cc (on, p.1))
    | inr p ↦
        let d = facts.drives j lt (sym p ∙ on) in
        record { grant = d.grant; granted = d.granted; switch = d.switch; between = d.between }
  ];
  heard = facts.heard;
}

-- a switch is open from here, and its drive stands still
pub facts_opens : (m : Meaning) (w : Scene) (i : ℕ) → RoundFacts m w → RoundFacts m (moves w i Open false)
facts_opens m w i facts = record {
  shape = record {
    nodes = facts.shape.nodes;
    present = facts.shape.present;
    only = facts.shape.only;
    truth = length-set w.truth i Open ∙ facts.shape.truth;
    drives = length-set w.drives i false ∙ facts.shape.drives;
    named = facts.shape.named;
  };
  rounds = facts.rounds;
  bounds = record { frames = facts.bounds.frames; fit = facts.bounds.fit; locks = facts.bounds.locks };
  overs = facts.overs;
  locks = facts.locks;
  drives = λ j lt on. elim (cases_eq j i) [
    | inl same ↦
        let inside : i < length w.drives = omega (arith, lt, same, facts.shape.drives) in
        let off : runs (set w.drives i false) j ≡ false =
        ap (λ (x : ℕ). get_or (set w.drives i false) x false) same ∙ get_or-set_same w.drives i false false inside in
        absurd (cc (on, off))
    | inr other ↦
        let d = facts.drives j lt (sym (get_or-set_other w.drives i j false false other) ∙ on) in
        record {
          grant = d.grant;
          granted = d.granted;
          switch = d.switch;
          between = get_or-set_other w.truth i j Open Between other ∙ d.between;
        }
  ];
  heard = facts.heard;
}
