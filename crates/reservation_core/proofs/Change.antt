-- A change of one node keeps the facts.
use Rattle.std.proofs.Common.{◌⊎◌, ◌≡◌, ◌<◌, ◌≤◌, ℕ, true, List, length, slice_get, set, Some, None, Contains, sym}
use Rattle.std.proofs.Common.{subst, ap, ◌∙◌, inl, inr, arith, length-set, get_or-set_same}
use Rattle.std.proofs.lemmas.Bool.{cases_eq}
use Rattle.std.proofs.lemmas.Option.{slice_get-get_or}
use Rattle.station_graph.proofs.PositionLemmas.{slice_get-set_other}
use Rattle.central_rules.specs.Meaning.{Meaning, IsBay, bay_of}
use Rattle.bay_frames.specs.declared.frame.Frame.{Frame}
use Rattle.bay_protocol.specs.declared.values.Lock.{Lock}
use Rattle.bay_protocol.specs.declared.values.Grant.{Grant}
use Rattle.bay_protocol.specs.declared.values.Collection.{Collection}
use Rattle.bay_frames.specs.declared.frame.Body.TheVariants.{Answer}
use Rattle.bay_protocol.specs.State.{State, under_way}
use Rattle.bay_protocol.specs.Fits.{IsNode}
use Rattle.reservation_core.specs.Scene.{Scene, node, at_node, runs}
use Rattle.reservation_core.specs.RoundFacts.{RoundFacts, Shape, Bounds, IsLockedFor, Driven, HeardSent, round_bay}
use Rattle.reservation_core.proofs.Nodes.{each_node, got_set}

-- node b may become s
pub record MayBecome (m : Meaning) (w : Scene) (b : ℕ) (s : State) : Type 0 where
  pub within : b < length w.nodes
  pub name : s.bay ≡ b
  pub sound : IsNode m.diagram s
  -- the highest round does not fall
  pub highest : (node m.diagram w b).highest ≤ s.highest
  -- a lock is an old one, or its round is known to its holder
  pub locks : (l : Lock) → s.lock ≡ Some l → l.round ≤ (node m.diagram w l.holder.0).highest
  -- a round under way is an old one, or new
  pub rounds : (q : ℕ) → under_way s ≡ Some q →
      (under_way (node m.diagram w b) ≡ Some q) ⊎ ((node m.diagram w b).highest < q)
  -- a lock for a round under way stays
  pub locked : (l : Lock) → (node m.diagram w b).lock ≡ Some l →
      under_way (node m.diagram w l.holder.0) ≡ Some l.round → s.lock ≡ Some l
  -- a grant whose drive runs stays
  pub driven : (g : Grant) → (node m.diagram w b).granted ≡ Some g → runs w.drives g.op.switch.0 ≡ true →
      s.granted ≡ Some g
  pub heard : (g : Collection) (x : ℕ) (summary : List ℕ) → s.collecting ≡ Some g →
      slice_get g.heard x ≡ Some (Some summary) → HeardSent m w.sent b g.round x summary

-- the highest rounds do not fall
highest_up : (m : Meaning) (w : Scene) (b : ℕ) (s : State) → MayBecome m w b s → (c : ℕ) →
    (node m.diagram w c).highest ≤ (node m.diagram (at_node w b s) c).highest
highest_up m w b s may c =
    each_node m.diagram w b s (λ x n. (node m.diagram w x).highest ≤ n.highest) may.within may.highest
    (λ x other. omega arith) c

-- a round under way was so before, or is above all that was known
before : (m : Meaning) (w : Scene) (b : ℕ) (s : State) → MayBecome m w b s → (c q : ℕ) →
    under_way (node m.diagram (at_node w b s) c) ≡ Some q →
    (under_way (node m.diagram w c) ≡ Some q) ⊎ ((node m.diagram w c).highest < q)
before m w b s may c q =
    each_node m.diagram w b s
    (λ x n. under_way n ≡ Some q → (under_way (node m.diagram w x) ≡ Some q) ⊎ ((node m.diagram w x).highest < q))
    may.within (may.rounds q) (λ x other is. inl is) c

-- what was stored is there
pub stored : {X : Type 0} (xs : List X) (i : ℕ) (y d : X) → i < length xs → slice_get (set xs i y) i ≡ Some y
stored {X = X} xs i y d within =
    slice_get-get_or (set xs i y) i d (omega (arith, length-set xs i y, within))
    ∙ ap (λ (x : X). Some x) (get_or-set_same xs i y d within)

shape_at : (m : Meaning) (w : Scene) (b : ℕ) (s : State) → RoundFacts m w → MayBecome m w b s →
    Shape m.diagram (at_node w b s)
shape_at m w b s facts may = record {
  nodes = length-set w.nodes b (Some s) ∙ facts.shape.nodes;
  present = λ c bay. elim (cases_eq c b) [
    | inl same ↦ (
      s,
      subst (λ (x : ℕ). slice_get (set w.nodes b (Some s)) x ≡ Some (Some s)) (sym same)
          (stored w.nodes b (Some s) None may.within),
    )
    | inr other ↦ let old = facts.shape.present c bay in (old.0, slice_get-set_other w.nodes b c (Some s) other ∙ old.1)
  ];
  truth = facts.shape.truth;
  drives = facts.shape.drives;
  only = λ c n got. elim (got_set w.nodes b (Some s) c (Some n) got) [
    | inl p ↦ subst (IsBay m.diagram) (may.name ∙ sym p.0) may.sound.bay
    | inr was ↦ facts.shape.only c n was
  ];
  named = each_node m.diagram w b s (λ x n. n.bay ≡ x) may.within may.name (λ c other. facts.shape.named c);
}

bounds_at : (m : Meaning) (w : Scene) (b : ℕ) (s : State) → RoundFacts m w → MayBecome m w b s →
    Bounds m.diagram (at_node w b s)
bounds_at m w b s facts may = record {
  frames = λ f there.
      let old = facts.bounds.frames f there in
      let up = highest_up m w b s may (round_bay f f.body) in
      omega (arith, old, up);
  fit = facts.bounds.fit;
  locks =
      each_node m.diagram w b s
      (λ x n. (l : Lock) → n.lock ≡ Some l → l.round ≤ (node m.diagram (at_node w b s) l.holder.0).highest) may.within
      (λ l is. let old = may.locks l is in let up = highest_up m w b s may l.holder.0 in omega (arith, old, up))
      (λ c other l is.
      let old = facts.bounds.locks c l is in
      let up = highest_up m w b s may l.holder.0 in
      omega (arith, old, up));
}

-- a round that a frame of this bay's rounds names is no new one
not_new : (m : Meaning) (w : Scene) (b : ℕ) (s : State) → RoundFacts m w → MayBecome m w b s → (c : ℕ) (q : ℕ) →
    q ≤ (node m.diagram w c).highest → under_way (node m.diagram (at_node w b s) c) ≡ Some q →
    under_way (node m.diagram w c) ≡ Some q
not_new m w b s facts may c q low is = elim (before m w b s may c q is) [
  | inl old ↦ old
  | inr new ↦ absurd (omega (arith, low, new))
]

locks_at : (m : Meaning) (w : Scene) (b : ℕ) (s : State) → RoundFacts m w → MayBecome m w b s →
    (f : Frame) (summary : List ℕ) → Contains w.sent f → f.body ≡ Answer summary →
    under_way (node m.diagram (at_node w b s) f.to.0) ≡ Some f.round → IsLockedFor m.diagram (at_node w b s) f
locks_at m w b s facts may f summary there body is =
    let low : f.round ≤ (node m.diagram w f.to.0).highest =
    subst (λ x. f.round ≤ (node m.diagram w (round_bay f x)).highest) body (facts.bounds.frames f there) in
    let was : under_way (node m.diagram w f.to.0) ≡ Some f.round = not_new m w b s facts may f.to.0 f.round low is in
    each_node m.diagram w b s (λ x n. (node m.diagram w x).lock ≡ Some (record { holder = f.to; round = f.round }) →
    n.lock ≡ Some (record { holder = f.to; round = f.round })) may.within
    (λ lock. may.locked (record { holder = f.to; round = f.round }) lock was) (λ x other lock. lock) f.from.0
    (facts.locks f summary there body was)

driven_at : (m : Meaning) (w : Scene) (b : ℕ) (s : State) → RoundFacts m w → MayBecome m w b s → (i : ℕ) →
    i < length m.diagram.switches → runs w.drives i ≡ true → Driven m.diagram (at_node w b s) i
driven_at m w b s facts may i lt on =
    let old = facts.drives i lt on in
    record {
      grant = old.grant;
      granted =
          each_node m.diagram w b s (λ x n. (node m.diagram w x).granted ≡ Some old.grant → n.granted ≡ Some old.grant)
          may.within
          (λ is. may.driven old.grant is (subst (λ x. runs w.drives x ≡ true) (sym old.switch) on)) (λ x other is. is)
          (bay_of m.diagram i) old.granted;
      switch = old.switch;
      between = old.between;
    }

pub facts_at : (m : Meaning) (w : Scene) (b : ℕ) (s : State) → RoundFacts m w → MayBecome m w b s →
    RoundFacts m (at_node w b s)
facts_at m w b s facts may = record {
  shape = shape_at m w b s facts may;
  rounds =
      each_node m.diagram w b s (λ x n. IsBay m.diagram x → IsNode m.diagram n) may.within (λ bay. may.sound)
      (λ c other bay. facts.rounds c bay);
  bounds = bounds_at m w b s facts may;
  overs = λ f there body is.
      let low : f.round ≤ (node m.diagram w f.from.0).highest =
      subst (λ x. f.round ≤ (node m.diagram w (round_bay f x)).highest) body (facts.bounds.frames f there) in
      facts.overs f there body (not_new m w b s facts may f.from.0 f.round low is);
  locks = locks_at m w b s facts may;
  drives = driven_at m w b s facts may;
  heard =
      λ c x g summary. each_node m.diagram w b s (λ y n. n.collecting ≡ Some g →
      slice_get g.heard x ≡ Some (Some summary) → HeardSent m w.sent y g.round x summary) may.within
      (may.heard g x summary) (λ y other. facts.heard y x g summary) c;
}
