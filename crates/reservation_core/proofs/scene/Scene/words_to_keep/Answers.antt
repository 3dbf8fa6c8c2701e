use Rattle.std.proofs.Common.{◌≡◌, List, length, Some, sym, subst, ap, ◌∙◌, arith}
use Rattle.station_graph.specs.Diagram.{Diagram}
use Rattle.ilk_base.specs.declared.words.Dbpos.{Dbpos}
use Rattle.double_points.specs.Words.{AreWords}
use Rattle.bay_frames.specs.declared.frame.Frame.{Frame}
use Rattle.bay_protocol.specs.State.{State}
use Rattle.reservation_core.specs.Scene.{node}
use Rattle.reservation_core.proofs.ForCode.{message_fits, placed, nobody, same_message}
use Rattle.reservation_core.proofs.scene.Scene.words_to_keep.Goals as goal

pub index-requires : goal.index-requires
index-requires g c =
    let bay =
    (message_fits (g.J.Judge.meaning c.args._judge.now) c.args.self.now c.in-Deliver.message c.in-Some.frame
    c.requires.facts c.in-Some.ensures).receiver.0 in
    omega (
      arith,
      bay.0,
      c.requires.facts.shape.nodes,
      ap (λ s. length s.nodes) c.self.view_is,
      c.from.ensures,
      c.self.inside.nodes.ok,
    )

pub words_of-requires : goal.words_of-requires
words_of-requires g c =
    subst (λ (d : Diagram). AreWords d c.in-Some-index.node.words) c.requires.same (placed
    (g.J.Judge.meaning c.args._judge.now) c.args.self.now c.in-Some.frame.to.0 c.from.result c.self.inside.nodes.items
    c.index.result.now c.in-Some-index.node c.requires.facts (message_fits (g.J.Judge.meaning c.args._judge.now)
    c.args.self.now c.in-Deliver.message c.in-Some.frame c.requires.facts c.in-Some.ensures).receiver.0
    (ap (λ s. s.nodes) c.self.view_is) c.from.ensures c.index.ensures c.in-Some-index.is).good.words

pub unreachable-requires : goal.unreachable-requires
unreachable-requires g c =
    nobody (g.J.Judge.meaning c.args._judge.now) c.args.self.now c.in-Some.frame.to.0 c.from.result
    c.self.inside.nodes.items c.index.result.now c.requires.facts (message_fits (g.J.Judge.meaning c.args._judge.now)
    c.args.self.now c.in-Deliver.message c.in-Some.frame c.requires.facts c.in-Some.ensures).receiver.0
    (ap (λ s. s.nodes) c.self.view_is) c.from.ensures c.index.ensures c.in-None.is

pub returns : goal.returns
returns g c = λ k f is message body.
    let number : c.in-Deliver.message ≡ k = cc (c.in-Deliver.is, is) in
    let same : c.in-Some.frame ≡ f =
    same_message c.args.self.now c.in-Deliver.message k c.in-Some.frame f number c.in-Some.ensures message in
    let here =
    (placed (g.J.Judge.meaning c.args._judge.now) c.args.self.now c.in-Some.frame.to.0 c.from.result
    c.self.inside.nodes.items c.index.result.now c.in-Some-index.node c.requires.facts (message_fits
    (g.J.Judge.meaning c.args._judge.now) c.args.self.now c.in-Deliver.message c.in-Some.frame c.requires.facts
    c.in-Some.ensures).receiver.0 (ap (λ s. s.nodes) c.self.view_is) c.from.ensures c.index.ensures
    c.in-Some-index.is).here in
    ap (λ (x : List Dbpos). Some x) (c.in_ok-words_of-in-Some-index.ensures
    ∙ (ap (λ (s : State). s.words) (sym here)
    ∙ (ap (λ (d : Diagram). (node d c.args.self.now c.in-Some.frame.to.0).words) c.requires.same
    ∙ ap (λ (x : Frame). (node c.args.station.now c.args.self.now x.to.0).words) same)))
