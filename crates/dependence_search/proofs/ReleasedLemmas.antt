-- What the graph of an operation says is what its walk says.
use Rattle.std.proofs.Common.{◌≡◌, ◌≢◌, ℕ, ◌+◌, ◌<◌, zero, suc, List, [], ◌∷◌, ◌++◌, take, length, map, get_or, slice_get}
use Rattle.std.proofs.Common.{replicate, Option, Some, None, refl, sym, ap, ◌∙◌, subst, inl, inr, arith}
use Rattle.std.specs.Prelude.{slice_index}
use Rattle.std.proofs.lemmas.List.{get_or-map, length-map, map_more}
use Rattle.std.proofs.lemmas.Option.{slice_get_within, get_or_from_slice_get}
use Rattle.ilk_base.specs.declared.words.Direction.{Direction}
use Rattle.ilk_base.specs.declared.words.Rule.{Rule}
use Rattle.station_graph.specs.Diagram.{Diagram}
use Rattle.decision_graphs.specs.Label.{Layer, Layered, AreChoices, AreReduced, label_of}
use Rattle.graph_walks.specs.declared.codes.Codes.{Codes}
use Rattle.graph_walks.specs.Walks.{AreTwos, HasTwos, codes_of}
use Rattle.judge_pool.proofs.ChoiceLemmas.{choices_each, choices_on}
use Rattle.step_graphs.specs.declared.step.Step.{Step}
use Rattle.dependence_search.specs.RuleWalks.{IsRuleWalk, IsTurningChoice, OneIsNone, rule_of, turned_at}
use Rattle.dependence_search.specs.Released.{HasTwoChoices, IsReleasedOf, TurnsLabel, name_for, released_name}
use Rattle.dependence_search.proofs.GivenLemmas.{twos_turned}
use Rattle.dependence_search.proofs.ToldLemmas.{choices_listed, two_choices}

-- ---- names

names_differ : (x y : Option Rule) → OneIsNone x y → name_for x ≢ name_for y
names_differ None None (inl t) e = t.1 refl
names_differ None None (inr t) e = t.0 refl
names_differ None (Some r) t e = omega (arith, e)
names_differ (Some r) None t e = omega (arith, e)
names_differ (Some r) (Some q) (inl t) e = cc
names_differ (Some r) (Some q) (inr t) e = cc

one_is_none : (x y : Option Rule) → name_for x ≢ name_for y → OneIsNone x y
one_is_none None None ne = absurd (ne refl)
one_is_none None (Some r) ne = inl (refl, λ e. cc)
one_is_none (Some r) None ne = inr (λ e. cc, refl)
one_is_none (Some r) (Some q) ne = absurd (ne refl)

name_small : (x : Option Rule) → name_for x < 2
name_small None = omega arith
name_small (Some r) = omega arith

pub names_small : (direction : Direction) (codes : List Codes) (x : ℕ) → x < length codes →
    slice_index (map (released_name direction) codes) x < 2
names_small direction [] x lt = absurd (omega (arith, lt))
names_small direction (c ∷ codes) zero lt = name_small (rule_of direction c)
names_small direction (c ∷ codes) (suc x) lt = names_small direction codes x (omega (arith, lt))

-- the name of one more
pub names_more : (direction : Direction) (codes : List Codes) (names : List ℕ) (t name : ℕ) (d : Codes) →
    t < length codes → names ≡ map (released_name direction) (take t codes) →
    name ≡ released_name direction (get_or codes t d) →
    names ++ name ∷ [] ≡ map (released_name direction) (take (t + 1) codes)
names_more direction codes names t name d lt so is =
    ap (λ (y : ℕ). names ++ y ∷ []) is
    ∙ (ap (λ (ys : List ℕ). ys ++ released_name direction (get_or codes t d) ∷ []) so
    ∙ sym (map_more (released_name direction) codes t d lt))

-- ---- choices

pub two_allowed : (walk : Layered) (cs : List ℕ) → HasTwos (length walk.layers) walk →
    AreTwos (length walk.layers) cs → AreChoices walk.layers cs
two_allowed walk cs has two =
    choices_each walk.layers cs two.len (λ j c at.
    let lt : j < length walk.layers = omega (arith, slice_get_within cs j c at, two.len) in
    omega (arith, two.small j c at, has.choices j lt))

same_twos : (walk g : Layered) → HasTwos (length walk.layers) walk →
    map (λ (l : Layer). l.choices) g.layers ≡ map (λ (l : Layer). l.choices) walk.layers → HasTwos (length walk.layers) g
same_twos walk g has e = record {
  count =
      sym (length-map g.layers (λ (l : Layer). l.choices))
      ∙ (ap length e ∙ length-map walk.layers (λ (l : Layer). l.choices));
  choices = λ j lt.
      choices_listed g.layers j
      ∙ (ap (λ (ks : List ℕ). get_or ks j 0) e ∙ (sym (choices_listed walk.layers j) ∙ has.choices j lt));
}

-- ---- the graph of an operation

pub walk_has : (d : Diagram) (ss : List Step) (b m : ℕ) (walk : Layered) (codes : List Codes) →
    IsRuleWalk d ss b m walk codes → HasTwoChoices walk codes
walk_has d ss b m walk codes w = record {
  choices =
      two_choices (length walk.layers) walk refl
      (w.walked.choices ∙ ap (λ (n : ℕ). replicate n 2) (sym w.walked.count));
  labels = w.walked.labels;
}

module _ (walk named g : Layered) (codes : List Codes) (direction : Direction) (has : HasTwoChoices walk codes)
    (named_choices : map (λ (l : Layer). l.choices) named.layers ≡ map (λ (l : Layer). l.choices) walk.layers)
    (named_label : 0 < length walk.layers → (cs : List ℕ) → AreChoices walk.layers cs →
    label_of named cs ≡ slice_index (map (released_name direction) codes) (label_of walk cs))
    (choices : map (λ (l : Layer). l.choices) g.layers ≡ map (λ (l : Layer). l.choices) named.layers)
    (label : (cs : List ℕ) → AreChoices named.layers cs → label_of g cs ≡ label_of named cs)
    (reduced : AreReduced g.layers) where
  pub released_of : IsReleasedOf walk codes direction g
  released_of = record {
    choices = same_twos walk g has.choices (choices ∙ named_choices);
    label = λ cs c some two at.
        let allowed = two_allowed walk cs has.choices two in
        label cs (choices_on walk.layers named.layers cs named_choices allowed)
        ∙ (named_label some cs allowed
        ∙ (get_or-map (released_name direction) codes (label_of walk cs) c _ (slice_get_within codes (label_of walk cs) c at)
        ∙ ap (released_name direction) (get_or_from_slice_get codes (label_of walk cs) c c at)));
    reduced = reduced;
  }

module _ (d : Diagram) (ss : List Step) (b m : ℕ) (walk : Layered) (codes : List Codes)
    (w : IsRuleWalk d ss b m walk codes) (direction : Direction) (g : Layered)
    (r : IsReleasedOf walk codes direction g) (l : ℕ) (lt : l < w.others) where
  abbrev code : List ℕ → Codes
  code cs = codes_of w.old_gap w.new_gap w.old_load w.new_load cs

  said : (cs : List ℕ) → AreTwos w.others cs → label_of g cs ≡ released_name direction (code cs)
  said cs two =
      r.label cs (code cs) (omega (arith, lt, w.walked.count))
      (subst (λ (n : ℕ). AreTwos n cs) (sym w.walked.count) two) (w.walked.leads cs two)

  pub turning_of : (cs : List ℕ) → AreTwos w.others cs → TurnsLabel g l cs → IsTurningChoice walk codes l direction cs
  turning_of cs two turns =
      let other : AreTwos w.others (turned_at l cs) = twos_turned w.others l cs two in
      record {
        one = code cs;
        other = code (turned_at l cs);
        one_at = w.walked.leads cs two;
        other_at = w.walked.leads (turned_at l cs) other;
        turned =
            one_is_none (rule_of direction (code cs)) (rule_of direction (code (turned_at l cs)))
            (λ e. turns (said cs two ∙ (e ∙ sym (said (turned_at l cs) other))));
      }

-- where the release turns, the graph leads to another label
pub label_turns : (walk : Layered) (codes : List Codes) (direction : Direction) (g : Layered) →
    IsReleasedOf walk codes direction g → (l : ℕ) (cs : List ℕ) → 0 < length walk.layers →
    AreTwos (length walk.layers) cs → IsTurningChoice walk codes l direction cs → TurnsLabel g l cs
label_turns walk codes direction g r l cs some two t e =
    names_differ (rule_of direction t.one) (rule_of direction t.other) t.turned
    (sym (r.label cs t.one some two t.one_at)
    ∙ (e ∙ r.label (turned_at l cs) t.other some (twos_turned (length walk.layers) l cs two) t.other_at))
