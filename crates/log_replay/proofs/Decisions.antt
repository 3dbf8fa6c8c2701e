-- A bay decides by the lines exactly where the line shows a verdict, at each event but a delivery.
use Rattle.std.proofs.Common.{◌≡◌, ◌+◌, ◌<◌, ℕ, cond, List, [], length, get_or, replicate, Option, Some, None, refl}
use Rattle.std.proofs.Common.{sym, subst, ap, ◌∙◌, inl, inr}
use Rattle.std.proofs.lemmas.List.{length-replicate}
use Rattle.ilk_base.specs.declared.words.SwitchId.{SwitchId}
use Rattle.ilk_base.specs.declared.words.Dbpos.{Dbpos}
use Rattle.ilk_base.specs.declared.words.Op.{Op}
use Rattle.station_graph.specs.Diagram.{IsStation, part_count}
use Rattle.central_rules.specs.Meaning.{Meaning, Laws, bay_of}
use Rattle.bay_protocol.specs.declared.values.Collection.{Collection}
use Rattle.bay_protocol.specs.declared.values.Outcome.{Outcome}
use Rattle.bay_protocol.specs.declared.values.Outcome.TheVariants.{UnderWay, HeldBy, There, Spent, Collecting}
use Rattle.bay_protocol.specs.declared.values.Outcome.TheVariants.{Finished, Withdrawn, Stopped, Quiet}
use Rattle.bay_protocol.specs.State.{State, is_another, others, opens, fresh}
use Rattle.bay_protocol.specs.Step.{Turn, StepEnds, OpenStep, CommandStep, TickStep, SenseStep, WithdrawStep, CutStep}
use Rattle.bay_protocol.proofs.Others.{another_no}
use Rattle.reservation_core.specs.declared.values.WorldEvent.TheVariants.{Command, Sense, Tick, Withdraw, Restart, Cut}
use Rattle.reservation_core.proofs.AlikeNotes.{switch_of}
use Rattle.reservation_core.specs.Lines.{Line, Shown, of_bay, shown}
use Rattle.reservation_core.specs.Hearing.{IsVerdictOn, DecidesRound, known_at}
use Rattle.log_replay.proofs.Basic.{in_or_past}
use Rattle.log_replay.proofs.Linked.{opened, HeardIs}
use Rattle.log_replay.proofs.TurnParts.{Before, get_none, own_known}
use Rattle.log_replay.proofs.Others.{other_of, another_past}
use Rattle.log_replay.proofs.Verdicts.{heard_now, opened_of, judged}
use Rattle.log_replay.proofs.RestingBays.{unheard, verdict_decided, not_decided, BayDecides, bay_rests, own_rests}

-- ---- the steps

nothing_heard : (m : Meaning) (x b : ℕ) (w : Option (List Dbpos)) → IsStation m.diagram → others m.diagram b ≡ [] →
    HeardIs m x b (get_or (replicate (part_count m.diagram) unheard) x None) (cond (is_another m.diagram b x) w None)
nothing_heard m x b w station none = elim (in_or_past x (part_count m.diagram)) [
  | inl lt ↦ rw (
    another_no m.diagram b x lt (λ other. absurd (other_of m.diagram b x other none)),
    get_none (part_count m.diagram) x,
  ) tt
  | inr past ↦ rw (another_past m.diagram b x station past, get_none (part_count m.diagram) x) tt
]

alone_bay : (m : Meaning) (before : List Line) (s : Shown) (b : ℕ) (old : State) (op : Op) (turn : Turn) →
    IsStation m.diagram → Laws m → Before m before b old → op.switch.0 < length m.diagram.switches →
    bay_of m.diagram op.switch.0 ≡ b → of_bay s b ≡ shown turn.outcome → OpenStep m m.diagram old op turn →
    BayDecides m before (record { event = Command op; shown = s }) b
alone_bay m before s b old op turn station laws k known own shows (OpenStep.reserves some end) =
    own_rests m before _ b old.collecting turn _ (Collecting (old.highest + 1)) _ k.is.collecting tt shows end tt
alone_bay m before s b old op turn station laws k known own shows (OpenStep.alone none deciding) =
    let g : Collection = fresh m.diagram old op in
    let l : Line = record { event = Command op; shown = s } in
    let nobody_else : others m.diagram b ≡ [] = subst (λ (x : ℕ). others m.diagram x ≡ []) k.name none in
    let v = judged m before l b (opens m.diagram old op) g turn station laws (record {
      name = k.name;
      known = known;
      own = own;
      read = k.is.read;
      words = k.sound.words;
      long = length-replicate (part_count m.diagram) None;
      heard = λ x. nothing_heard m x b (heard_now m.diagram before l b x) station nobody_else;
    }) shows deciding in
    BayDecides.decides (opened_of g) (DecidesRound.alone refl own nobody_else
    (verdict_decided m.diagram (known_at m.diagram before l b) (opened_of g) (of_bay s b) v)) v

pub command_bay : (m : Meaning) (before : List Line) (s : Shown) (b : ℕ) (old : State) (op : Op) (turn : Turn) →
    IsStation m.diagram → Laws m → Before m before b old → op.switch.0 < length m.diagram.switches →
    bay_of m.diagram op.switch.0 ≡ b → of_bay s b ≡ shown turn.outcome → CommandStep m m.diagram old op turn →
    BayDecides m before (record { event = Command op; shown = s }) b
command_bay m before s b old op turn station laws k known own shows (CommandStep.round_under_way q is end) =
    own_rests m before _ b old.collecting turn old (UnderWay q) [] k.is.collecting tt shows end tt
command_bay m before s b old op turn station laws k known own shows (CommandStep.held l is lock end) =
    own_rests m before _ b old.collecting turn old (HeldBy l.holder l.round) [] k.is.collecting tt shows end tt
command_bay m before s b old op turn station laws k known own shows (CommandStep.there free at end) =
    own_rests m before _ b old.collecting turn old There [] k.is.collecting tt shows end tt
command_bay m before s b old op turn station laws k known own shows (CommandStep.spent free at top end) =
    own_rests m before _ b old.collecting turn old Spent [] k.is.collecting tt shows end tt
command_bay m before s b old op turn station laws k known own shows (CommandStep.opens_round free at below step) =
    alone_bay m before s b old op turn station laws k known own shows step

pub own_of : (m : Meaning) (b : ℕ) (old : State) (g : Collection) → {before : List Line} → Before m before b old →
    old.collecting ≡ Some g → bay_of m.diagram g.op.switch.0 ≡ b
own_of m b old g k has = (switch_of m old.bay g.op.switch.0 (k.sound.collecting g has).own).1 ∙ k.name

pub tick_bay : (m : Meaning) (before : List Line) (s : Shown) (b : ℕ) (old : State) (turn : Turn) →
    IsStation m.diagram → Laws m → Before m before b old → of_bay s b ≡ shown turn.outcome →
    TickStep m m.diagram old turn → BayDecides m before (record { event = Tick (record { 0 = b }); shown = s }) b
tick_bay m before s b old turn station laws k shows (TickStep.decides g has deciding) =
    let l : Line = record { event = Tick (record { 0 = b }); shown = s } in
    let good = k.sound.collecting g has in
    BayDecides.decides (opened_of g) (DecidesRound.at_tick (sym k.is.collecting ∙ ap opened has) refl)
    (judged m before l b old g turn station laws (record {
      name = k.name;
      known = own_known m old g k.sound has;
      own = own_of m b old g k has;
      read = k.is.read;
      words = k.sound.words;
      long = good.places;
      heard = λ x. k.is.heard g x has;
    }) shows deciding)
tick_bay m before s b old turn station laws k shows (TickStep.asks l none lock end) =
    bay_rests m before _ b old.collecting k.is.collecting (λ p d. not_decided Quiet tt p
    (subst (λ (y : Outcome). IsVerdictOn y p) (shows ∙ ap shown end.says) d)) (λ e. none) (λ n e some all. some none)
tick_bay m before s b old turn station laws k shows (TickStep.rests none lock end) =
    bay_rests m before _ b old.collecting k.is.collecting (λ p d. not_decided Quiet tt p
    (subst (λ (y : Outcome). IsVerdictOn y p) (shows ∙ ap shown end.says) d)) (λ e. none) (λ n e some all. some none)

pub sense_bay : (m : Meaning) (before : List Line) (s : Shown) (b : ℕ) (i : SwitchId) (word : Dbpos) (old : State)
    (turn : Turn) → Before m before b old → of_bay s b ≡ shown turn.outcome → SenseStep m.diagram old i.0 word turn →
    BayDecides m before (record { event = Sense i word; shown = s }) b
sense_bay m before s b i word old turn k shows (SenseStep.finishes g at end) =
    own_rests m before _ b old.collecting turn _ (Finished g.round) _ k.is.collecting tt shows end tt
sense_bay m before s b i word old turn k shows (SenseStep.reads never end) = own_rests m before _ b old.collecting turn
    _ Quiet _ k.is.collecting tt shows end tt

pub withdraw_bay : (m : Meaning) (before : List Line) (s : Shown) (b : ℕ) (old : State) (turn : Turn) →
    Before m before b old → of_bay s b ≡ shown turn.outcome → WithdrawStep m.diagram old turn →
    BayDecides m before (record { event = Withdraw (record { 0 = b }); shown = s }) b
withdraw_bay m before s b old turn k shows (WithdrawStep.from_round g has end) =
    own_rests m before _ b old.collecting turn _ (Withdrawn g.round) _ k.is.collecting tt shows end tt
withdraw_bay m before s b old turn k shows (WithdrawStep.from_grant g none has end) =
    own_rests m before _ b old.collecting turn _ (Withdrawn g.round) _ k.is.collecting tt shows end tt
withdraw_bay m before s b old turn k shows (WithdrawStep.no_round idle end) = own_rests m before _ b old.collecting turn
    _ Quiet _ k.is.collecting tt shows end tt

pub cut_bay : (m : Meaning) (before : List Line) (s : Shown) (b : ℕ) (i : SwitchId) (old : State) (turn : Turn) →
    Before m before b old → of_bay s b ≡ shown turn.outcome → CutStep m.diagram old i.0 turn →
    BayDecides m before (record { event = Cut i; shown = s }) b
cut_bay m before s b i old turn k shows (CutStep.stops g has at end) = own_rests m before _ b old.collecting turn _
    (Stopped g.round) _ k.is.collecting tt shows end tt
cut_bay m before s b i old turn k shows (CutStep.other_switch g has at end) = own_rests m before _ b old.collecting turn
    _ Quiet _ k.is.collecting tt shows end tt
cut_bay m before s b i old turn k shows (CutStep.no_grant none end) = own_rests m before _ b old.collecting turn _ Quiet
    _ k.is.collecting tt shows end tt

pub restart_bay : (m : Meaning) (before : List Line) (s : Shown) (b : ℕ) (old : State) (turn : Turn) (new : State) →
    Before m before b old → of_bay s b ≡ shown turn.outcome → StepEnds turn new Quiet [] →
    BayDecides m before (record { event = Restart (record { 0 = b }); shown = s }) b
restart_bay m before s b old turn new k shows end = own_rests m before _ b old.collecting turn new Quiet []
    k.is.collecting tt shows end tt
