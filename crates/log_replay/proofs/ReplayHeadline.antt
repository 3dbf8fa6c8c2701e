-- The lines of a replay meet the headline, and facts of the station are those of its meaning.
use Rattle.std.proofs.Common.{◌≡◌, ◌∙◌, sym, ap, refl, subst, ℕ, zero, suc, Bool, false, List, [], length, Option, Some}
use Rattle.std.proofs.Common.{Result, Ok, Err, inl, inr}
use Rattle.std.specs.Prelude.{slice_get, unwrap_or, All, IfOk}
use Rattle.station_graph.specs.Diagram.{Diagram, IsStation}
use Rattle.central_rules.specs.Meaning.{Meaning, Laws}
use Rattle.reservation_core.specs.declared.values.LogEvent.{LogEvent}
use Rattle.reservation_core.specs.declared.values.WorldOutcome.{WorldOutcome}
use Rattle.reservation_core.specs.Scene.{Scene}
use Rattle.reservation_core.specs.World.{World, WorldFacts, IsNewWorld}
use Rattle.reservation_core.specs.Lines.{Shown}
use Rattle.reservation_core.specs.LogLines.{HasStart, told_at, start_of, lines_of}
use Rattle.reservation_core.specs.Hearing.{listed}
use Rattle.station_graph.specs.Alike.{IsVector}
use Rattle.reservation_core.specs.Headline.{Headline, IsUnderWay}
use Rattle.log_replay.specs.Records.{MayBeTold}
use Rattle.log_replay.specs.Following.{FitsAt}
use Rattle.log_replay.specs.Replay.{Replayed, IsRunOf, IsReplay}
use Rattle.log_replay.proofs.All.{run_headline}
use Rattle.log_replay.proofs.ReportLemmas.{each_at}
use Rattle.log_replay.proofs.Replaying.{Replaying, lines_none, start_replaying}

-- ---- the headline

pub nothing_under_way : (c : ℕ) → IsUnderWay [] c → ⊥
nothing_under_way c (inl some) = some refl
nothing_under_way c (inr some) = some refl

nothing_headline : (d : Diagram) (start : List Bool) → Headline d start []
nothing_headline d start = record {
  decisions = tt;
  granted = λ i lt on. absurd cc;
  obeys = λ c r op v opened may. absurd opened;
  sound = λ is. is;
  apart = λ c b differ one other. absurd (nothing_under_way c one);
}

run_of_headline : (m : Meaning) (log : List LogEvent) (out : List Shown) (w : Scene) → IsStation m.diagram → Laws m
    → IsRunOf m log out w → Headline m.diagram (start_of m.diagram log) (lines_of log out [])
run_of_headline m log out w station laws is = run_headline m (start_of m.diagram log)
    (lines_of log out []) w station laws is.run

-- the lines of a replay meet the headline
replay_headline : (m : Meaning) (log : List LogEvent) (r : Replayed) → IsStation m.diagram → Laws m
    → IsReplay m log r → Headline m.diagram (start_of m.diagram log) (lines_of log r.out [])
replay_headline m log r station laws (IsReplay.whole w is all none) = run_of_headline m log r.out w station laws is
replay_headline m log r station laws (IsReplay.stops w e which is got breaks broken) =
    run_of_headline m log r.out w station laws is
replay_headline m log r station laws (IsReplay.no_start none empty broken) =
    subst (Headline m.diagram (start_of m.diagram log)) (sym (ap (λ (ss : List Shown). lines_of log ss []) empty
    ∙ lines_none log [])) (nothing_headline m.diagram (start_of m.diagram log))

-- ---- of the station

start_long : (d : Diagram) (log : List LogEvent) → length (start_of d log) ≡ length d.switches
start_long d log = length-listed (λ s. unwrap_or (told_at log s) false) (length d.switches)
  where
    length-listed : (f : ℕ → Bool) (n : ℕ) → length (listed f n) ≡ n
    length-listed f zero = refl
    length-listed f (suc n) = ap suc (length-listed (λ i. f (suc i)) n)

pub start_is_vector : (d : Diagram) (log : List LogEvent) (start : List Bool) → start ≡ start_of d log
    → IsVector d start
start_is_vector d log start is = ap length is ∙ start_long d log

pub start_with : (m : Meaning) (d : Diagram) (log : List LogEvent) (start : List Bool) (w : World) → m.diagram ≡ d
    → start ≡ start_of d log → IsNewWorld d start w → ((s : List Bool) (v : World) → IsNewWorld m.diagram s v
    → WorldFacts m v) → Replaying m log [] w 0
start_with m d log start w same is new facts =
    let it : IsNewWorld m.diagram (start_of m.diagram log) w = subst (λ (x : Diagram). IsNewWorld x
    (start_of x log) w) (sym same) (subst (λ (s : List Bool). IsNewWorld d s w) is new) in
    start_replaying m log w it.scene (facts (start_of m.diagram log) w it)

pub told_in : (m : Meaning) (d : Diagram) (log : List LogEvent) (k : ℕ) (x : LogEvent) → m.diagram ≡ d
    → All (MayBeTold d) log → slice_get log k ≡ Some x → MayBeTold m.diagram x
told_in m d log k x same all got = subst (λ (y : Diagram). MayBeTold y x) (sym same) (each_at
    (MayBeTold d) log k x all got)

pub fits_in : (m : Meaning) (d : Diagram) (o : Option WorldOutcome) → m.diagram ≡ d → FitsAt d o → FitsAt m.diagram o
fits_in m d o same fits = subst (λ (y : Diagram). FitsAt y o) (sym same) fits

pub has_in : (m : Meaning) (d : Diagram) (log : List LogEvent) → m.diagram ≡ d → HasStart d log → HasStart m.diagram log
has_in m d log same has = subst (λ (y : Diagram). HasStart y log) (sym same) has

headline_in : (m : Meaning) (d : Diagram) (log : List LogEvent) (r : Replayed) → m.diagram ≡ d
    → IsStation m.diagram → Laws m → IsReplay m log r → Headline d (start_of d log) (lines_of log r.out [])
headline_in m d log r same station laws is = subst (λ (y : Diagram). Headline y (start_of y log)
    (lines_of log r.out [])) same (replay_headline m log r station laws is)

pub headline_if : {E : Type 0} (m : Meaning) (d : Diagram) (log : List LogEvent) (r : Result Replayed E)
    → m.diagram ≡ d → IsStation m.diagram → Laws m → IfOk r (IsReplay m log) → IfOk r (λ x. Headline d
    (start_of d log) (lines_of log x.out []))
headline_if m d log (Ok x) same station laws is = headline_in m d log x same station laws is
headline_if m d log (Err e) same station laws is = tt

pub empty_headline : (d : Diagram) (log : List LogEvent) (out : List Shown) → out ≡ []
    → Headline d (start_of d log) (lines_of log out [])
empty_headline d log out empty = subst (Headline d (start_of d log)) (sym (ap (λ
    (ss : List Shown). lines_of log ss []) empty ∙ lines_none log [])) (nothing_headline d (start_of d log))
