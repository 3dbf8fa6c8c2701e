-- A stop is a line of a restart.
use Rattle.std.proofs.Common.{◌≡◌, ◌+◌, ◌++◌, ◌∙◌, ℕ, Bool, List, [], ◌∷◌, length, append-nil, None, refl, sym, ap, subst}
use Rattle.ilk_base.specs.declared.words.BayId.{BayId}
use Rattle.station_graph.specs.Diagram.{Diagram, IsStation}
use Rattle.central_rules.specs.Meaning.{Meaning, Laws}
use Rattle.bay_frames.specs.declared.frame.Frame.{Frame}
use Rattle.bay_protocol.specs.declared.values.Kept.{Kept}
use Rattle.bay_protocol.specs.declared.values.Outcome.TheVariants.{Quiet}
use Rattle.bay_protocol.specs.Fits.{IsNode}
use Rattle.bay_protocol.specs.State.{State, kept_of, resumed, restarts}
use Rattle.node_store.specs.Image.{IsImageOf}
use Rattle.reservation_core.specs.Scene.{Scene, node, at_node, posts}
use Rattle.reservation_core.specs.RoundFacts.{RoundFacts}
use Rattle.reservation_core.specs.Lines.{Line}
use Rattle.reservation_core.specs.Runs.{Run, Leads}
use Rattle.reservation_core.specs.declared.values.WorldOutcome.TheVariants.{Node}
use Rattle.log_replay.proofs.Leading.{run_is}
use Rattle.stopped_puts.specs.Stops.{ComesBack, restart_line, StoppedRun}

-- what `stop_is_restart` of `node_store` says
abbrev pub IsLaw : Type 0
IsLaw = (d : Diagram) (s : State) (image : List ℕ) (read : Kept) → IsNode d s → IsImageOf image (kept_of s) →
    IsImageOf image read → resumed d s.bay read ≡ restarts s

sends_nothing : (w : Scene) (b : ℕ) (s : State) → posts (at_node w b s) [] ≡ at_node w b s
sends_nothing w b s =
    ap (λ (fs : List Frame). record {
      nodes = (at_node w b s).nodes;
      truth = w.truth;
      drives = w.drives;
      sent = fs;
    }) (append-nil w.sent)

module _ (m : Meaning) (law : IsLaw) where
  restart_leads : (old new : Scene) (b : BayId) (image : List ℕ) → RoundFacts m old →
      ComesBack m.diagram b.0 image old new → Leads m old (restart_line b) new
  restart_leads old new b image facts back =
      let same : resumed m.diagram b.0 back.read ≡ restarts (node m.diagram old b.0) =
      subst (λ (x : ℕ). resumed m.diagram x back.read ≡ restarts (node m.diagram old b.0)) (facts.shape.named b.0)
      (law m.diagram (node m.diagram old b.0) image back.read (facts.rounds b.0 back.bay) back.left back.stands) in
      record {
        range = back.bay;
        outcome = Node b (length old.sent + 1) (record { keep = None; frames = []; outcome = Quiet });
        happens = record {
          turn = record { new = restarts (node m.diagram old b.0); outcome = Quiet; frames = [] };
          step = record { state = refl; says = refl; sends = refl };
          world =
              back.world ∙ ap (λ (s : State). at_node old b.0 s) same
              ∙ sym (sends_nothing old b.0 (restarts (node m.diagram old b.0)));
          says = (refl, refl, refl, refl, refl);
        };
        shows = refl;
      }

  pub is_run : (start : List Bool) (lines : List Line) (w : Scene) → IsStation m.diagram → Laws m →
      StoppedRun m start lines w → Run m start lines w
  is_run start _ _ station laws (StoppedRun.begins w is) = is
  is_run start _ _ station laws (StoppedRun.goes_on before l old new run leads) =
      (old, is_run start before old station laws run, leads)
  is_run start _ _ station laws (StoppedRun.with_old before b image old new run back) =
      let was = is_run start before old station laws run in
      (old, was, restart_leads old new b image (run_is m start before old station laws was).facts.rounds back)
  is_run start _ _ station laws (StoppedRun.with_new before l b image old next new run leads back) =
      let was : Run m start (l ∷ before) next = (old, is_run start before old station laws run, leads) in
      (next, was, restart_leads next new b image (run_is m start (l ∷ before) next station laws was).facts.rounds back)
