-- The ways of an explanation are walks along items that count.
use Rattle.std.proofs.Common.{◌≡◌, ◌<◌, ℕ, zero, suc, Bool, false, List, [], ◌∷◌, length, get_or, Option, Some, None, subst, sym}
use Rattle.std.proofs.Common.{◌∙◌, inl, inr, arith}
use Rattle.ilk_base.specs.declared.words.Op.{Op}
use Rattle.ilk_base.specs.declared.words.Kind.TheVariants.{Infeed}
use Rattle.ilk_base.specs.declared.words.Rule.{Rule}
use Rattle.ilk_base.specs.declared.words.Rule.TheVariants.{R1, R2, R3}
use Rattle.station_graph.specs.Diagram.{Diagram}
use Rattle.station_graph.specs.Connection.{LeadsTo, Touching}
use Rattle.denial_explain.specs.Ways.{IsWay}
use Rattle.denial_explain.specs.Chains.{LeadsToClosed}
use Rattle.denial_explain.specs.Explained.{Explains, ExplainsBy, LeadsLive}
use Rattle.denial_explain.specs.declared.chain.Chain.{Chain}
use Rattle.denial_explain.specs.declared.explanation.Explanation.{Explanation}
use Rattle.why_text.specs.Devices.{IsWalk}
use Rattle.why_text.specs.WhyText.{WalksIn, counted_in, shown_in}

leads_walk : (R : ℕ → ℕ → Type 0) (a : ℕ) (after : List ℕ) (b : ℕ) → LeadsTo R a after b → (i : ℕ) → suc i < length (a ∷ after)
    → R (get_or (a ∷ after) i 0) (get_or (a ∷ after) (suc i) 0)
leads_walk R a [] b leads i lt = absurd (omega arith)
leads_walk R a (c ∷ rest) b leads zero lt = leads.0
leads_walk R a (c ∷ rest) b leads (suc i) lt = leads_walk R c rest b leads.1 i (omega arith)

way_walk : (R : ℕ → ℕ → Type 0) (T : ℕ → Type 0) (a last : ℕ) (nodes : List ℕ) → IsWay R T a last nodes → IsWalk R nodes
way_walk R T a last nodes way =
    subst (λ (l : List ℕ). IsWalk R l) (sym way.begins) (leads_walk R a way.after last way.leads)

live_walk : (d : Diagram) (v : List Bool) (first second : ℕ) (c : Chain) → LeadsLive d v first second c →
    IsWalk (Touching false d v) c.nodes
live_walk d v first second c leads = elim leads [
  | inl one ↦ way_walk _ _ _ _ _ one.way
  | inr two ↦ way_walk _ _ _ _ _ two.1.way
]

-- both ways are walks, where there are two
abbrev BothWalk : (ℕ → ℕ → Type 0) → Option (Chain × Chain) → Type 0
BothWalk R (Some (a, b)) = IsWalk R a.nodes × IsWalk R b.nodes
BothWalk R None = Unit {0}

taps_walk : (R : ℕ → ℕ → Type 0) (taps : Option (Chain × Chain)) (a b c d : Chain) → taps ≡ Some (a, b) →
    taps ≡ Some (c, d) → IsWalk R a.nodes → IsWalk R b.nodes → IsWalk R c.nodes × IsWalk R d.nodes
taps_walk R taps a b c d one two first second =
    subst (λ (o : Option (Chain × Chain)). BothWalk R o) (sym one ∙ two) (first, second)

by_rule : (rule : Rule) (d : Diagram) (v : List Bool) (op : Op) (e : Explanation) → ExplainsBy rule d v op e →
    WalksIn d (counted_in rule d (shown_in rule v op)) e
by_rule R1 d v op e h = record {
  live = way_walk _ _ _ _ _ h.live.way;
  earthed = λ c is. absurd (cc (is, h.no_earthed));
  taps = λ a b is. absurd (cc (is, h.no_taps));
}
by_rule R2 d v op e h = record {
  live = way_walk _ _ _ _ _ h.live.way;
  earthed = λ c is.
      let same : h.earthed ≡ c = cc (is, h.has_earthed) in
      subst (λ (x : Chain). IsWalk (Touching false d (counted_in R2 d (shown_in R2 v op))) x.nodes) same
      (way_walk _ _ _ _ _ h.to_earth.way);
  taps = λ a b is. absurd (cc (is, h.no_taps));
}
by_rule R3 d v op e h = record {
  live = live_walk d (shown_in R3 v op) _ _ e.live h.live;
  earthed = λ c is. absurd (cc (is, h.no_earthed));
  taps = λ a b is.
      taps_walk (Touching false d (shown_in R3 v op)) e.taps h.first_tap h.second_tap a b h.has_taps is
      (way_walk _ _ _ _ _ h.to_first_tap.way) (way_walk _ _ _ _ _ h.to_second_tap.way);
}

pub walks_of : (d : Diagram) (v : List Bool) (op : Op) (e : Explanation) → Explains d v op e →
    WalksIn d (counted_in e.rule d (shown_in e.rule v e.op)) e
walks_of d v op e h =
    subst (λ (o : Op). WalksIn d (counted_in e.rule d (shown_in e.rule v o)) e) (sym h.op_is)
    (by_rule e.rule d v op e h.shows)
