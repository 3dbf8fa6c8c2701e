-- The verdict of the code.
use Rattle.std.proofs.Common.{◌≡◌, ◌≢◌, ℕ, ◌+◌, ◌<◌, ◌≤◌, ◌⊎◌, ◌↔◌, suc, Bool, true, false, not, List, length, drop}
use Rattle.std.proofs.Common.{slice_get, slice_set, Some, refl, sym, ap, ◌∙◌, subst, inl, inr, arith}
use Rattle.std.proofs.lemmas.Bool.{cases_lt, false≢true}
use Rattle.std.proofs.lemmas.Option.{same_Some}
use Rattle.ilk_base.specs.declared.words.Dbpos.{Dbpos}
use Rattle.ilk_base.specs.declared.words.Dbpos.TheVariants.{Intermediate, Off, On, Bad, Lost}
use Rattle.ilk_base.specs.declared.words.Direction.{Direction}
use Rattle.ilk_base.specs.declared.words.Rule.{Rule}
use Rattle.ilk_base.specs.declared.words.Rule.TheVariants.{R1, R2, R3}
use Rattle.double_points.specs.Words.{Agrees}
use Rattle.station_graph.specs.Connection.{a_switch}
use Rattle.station_graph.specs.Sharing.{OfPart}
use Rattle.station_graph.proofs.PositionLemmas.{slice_get-set_other}
use Rattle.contraction.proofs.MarkLemmas.{slice_get-set_same}
use Rattle.judge_pool.specs.Lettered.{Lettered}
use Rattle.decision_graphs.specs.Label.{AreAllowed}
use Rattle.decision_graphs.specs.Reaching.{IsSet, set_at}
use Rattle.judge_pool.specs.declared.view.View.TheVariants.{Gap, Load}
use Rattle.release_compile.specs.declared.search.Side.{Side}
use Rattle.judge_pool.specs.Folding.{AreChosen}
use Rattle.release_compile.specs.Chaining.{IsReady, IsChainOf, IsFound}
use Rattle.judge_pool.specs.Graphs.{other_of, PartChosen, SwitchChosen, IsOwn}
use Rattle.release_compile.specs.Allowed.{IsSide, Within, GivesChoices}
use Rattle.release_compile.specs.Deciding.{OthersAgree}
use Rattle.judge_intake.proofs.MoveLemmas.{index_moves}
use Rattle.judge_intake.proofs.OuterLemmas.{other_not}
use Rattle.judge_intake.proofs.OtherLemmas.{switch_not, length_after}
use Rattle.release_compile.proofs.VerdictLemmas.{allowed_length, allowed_at, within_of}
use Rattle.release_compile.proofs.WithinLemmas.{length_sets, set_after}

-- allowed choices that lead to a label are one for each layer
pub chain_fits : (s : Side) (sets : List (List Bool)) (others goal : ℕ) (cs all : List ℕ) → IsReady s sets →
    length s.inner.now.layers ≡ suc others → IsChainOf s sets goal cs all →
    AreAllowed sets cs × (length all ≡ suc others)
chain_fits s sets others goal cs all ready count c =
    let rest : length c.rest ≡ length (drop 1 s.inner_sets) =
    allowed_length (drop 1 s.inner_sets) c.rest c.leads.inner_allows in
    let own : length (drop 1 s.inner_sets) ≡ others =
    length_after others s.inner_sets (length_sets s.inner.now.layers s.inner_sets ready.inner_fits ∙ count) in
    (c.leads.outer_allows, ap length c.split ∙ ap suc (rest ∙ own))

-- what was found has a choice for each layer
pub found_fits : (direction : Direction) (gap load : Side) (sets : List (List Bool)) (others : ℕ) (rule : Rule)
    (cs all : List ℕ) → IsReady gap sets → IsReady load sets → length gap.inner.now.layers ≡ suc others →
    length load.inner.now.layers ≡ suc others → IsFound direction gap load sets rule cs all →
    AreAllowed sets cs × (length all ≡ suc others)
found_fits direction gap load sets others R1 cs all rg rl cg cl f = chain_fits gap sets others 1 cs all rg cg f.1
found_fits direction gap load sets others R2 cs all rg rl cg cl f = chain_fits gap sets others 2 cs all rg cg f.1
found_fits direction gap load sets others R3 cs all rg rl cg cl f = chain_fits load sets others 1 cs all rl cl f.1

-- choices behind the first are those that the sets allow
pub chain_small : (s : Side) (sets : List (List Bool)) (goal : ℕ) (cs all : List ℕ) → IsChainOf s sets goal cs all →
    ((i c : ℕ) → IsSet (set_at s.inner_sets (suc i)) c → c < 2) → (i c : ℕ) → slice_get (drop 1 all) i ≡ Some c → c < 2
chain_small s sets goal cs all chain small i c at =
    let rest : drop 1 all ≡ chain.rest = ap (drop 1) chain.split in
    small i c (subst (λ t. IsSet t c) (set_after s.inner_sets i)
    (allowed_at (drop 1 s.inner_sets) chain.rest i c chain.leads.inner_allows
    (ap (λ ds. slice_get ds i) (sym rest) ∙ at)))

pub found_small : (direction : Direction) (gap load : Side) (sets : List (List Bool)) (rule : Rule) (cs all : List ℕ) →
    IsFound direction gap load sets rule cs all → ((i c : ℕ) → IsSet (set_at gap.inner_sets (suc i)) c → c < 2) →
    ((i c : ℕ) → IsSet (set_at load.inner_sets (suc i)) c → c < 2) → (i c : ℕ) → slice_get (drop 1 all) i ≡ Some c →
    c < 2
found_small direction gap load sets R1 cs all f g l = chain_small gap sets 1 cs all f.1 g
found_small direction gap load sets R2 cs all f g l = chain_small gap sets 2 cs all f.1 g
found_small direction gap load sets R3 cs all f g l = chain_small load sets 1 cs all f.1 l

pub found_within : (a : Lettered) (b m first others : ℕ) (words : List Dbpos) (sets : List (List Bool))
    (gap load : Side) → IsOwn a.diagram b m first others → IsSide Gap a b m first others words sets gap →
    IsSide Load a b m first others words sets load →
    (direction : Direction) (rule : Rule) (cs all : List ℕ) (v : List Bool) →
    IsFound direction gap load sets rule cs all → GivesChoices a b m first words cs (drop 1 all) v →
    Within a b words sets v
found_within a b m first others words sets gap load own gs ls direction R1 cs all v f g =
    within_of Gap a b m first others words sets gap own gs 1 cs all v f.1 g
found_within a b m first others words sets gap load own gs ls direction R2 cs all v f g =
    within_of Gap a b m first others words sets gap own gs 2 cs all v f.1 g
found_within a b m first others words sets gap load own gs ls direction R3 cs all v f g =
    within_of Load a b m first others words sets load own ls 1 cs all v f.1 g

-- the position of the moved switch
pub moved_agrees : (word : Dbpos) (b : Bool) → (b ≡ true) ↔ Agrees word false → Agrees word (not b)
moved_agrees On true h = absurd (false≢true (h.0 refl))
moved_agrees On false h = refl
moved_agrees Off true h = refl
moved_agrees Off false h = absurd (false≢true (h.1 refl))
moved_agrees Intermediate true h = tt
moved_agrees Intermediate false h = tt
moved_agrees Bad true h = tt
moved_agrees Bad false h = tt
moved_agrees Lost true h = tt
moved_agrees Lost false h = tt

module _ (a : Lettered) (b m first others : ℕ) (words : List Dbpos) (cs all : List ℕ)
    (own : IsOwn a.diagram b m first others) (v1 v2 : List Bool) (closed : Bool)
    (whole : length v1 ≡ length a.diagram.switches) (len : length v2 ≡ length v1)
    (parts : AreChosen (PartChosen a b) v1 cs) (chosen : AreChosen (SwitchChosen first m) v2 (drop 1 all))
    (stay : (i : ℕ) → (i < first) ⊎ ((first + others < i) ⊎ (i ≡ m)) → slice_get v2 i ≡ slice_get v1 i) where
  m_in : m < length v2
  m_in = omega (arith, own.below, own.those.within, whole, len)

  -- a switch of another part stays
  pub part_stays : (p i : ℕ) → p ≢ b → OfPart a.diagram p (a_switch i) →
      slice_get v1 i ≡ slice_get (slice_set v2 m closed) i
  part_stays p i ne of_p =
      let out : first ≤ i → i < first + suc others → ⊥ =
      λ x y. ne (sym of_p.2 ∙ (own.those.those i of_p.0 of_p.1).1 (x, y)) in
      let not_m : i ≢ m = λ e. out (omega (arith, own.from, e)) (omega (arith, own.below, e)) in
      let same : slice_get v2 i ≡ slice_get v1 i = stay i (elim (cases_lt i first) [
        | inl before ↦ inl before
        | inr from ↦ elim (cases_lt i (first + suc others)) [
          | inl below ↦ absurd (out from below)
          | inr past ↦ inr (inl (omega (arith, past)))
        ]
      ]) in
      sym (slice_get-set_other v2 m i closed not_m ∙ same)

  pub gives : length (slice_set v2 m closed) ≡ length v2 →
      ((word : Dbpos) → slice_get words m ≡ Some word → Agrees word closed) →
      GivesChoices a b m first words cs (drop 1 all) (slice_set v2 m closed)
  gives set_len agrees = record {
    whole = set_len ∙ (len ∙ whole);
    parts =
        λ j c at. index_moves a (other_of 0 b j) c v1 (slice_set v2 m closed)
        (λ i of_p. part_stays (other_of 0 b j) i (other_not b j) of_p) (parts j c at);
    own = λ i c at. record {
      small = (chosen i c at).small;
      stands = slice_get-set_other v2 m (other_of first m i) closed (switch_not first m i) ∙ (chosen i c at).stands;
    };
    moved =
        λ word now at_w at_v. subst (λ t. Agrees word t)
        (same_Some closed now (sym (slice_get-set_same v2 m closed m_in) ∙ at_v)) (agrees word at_w);
  }

-- in the vector made each other part agrees with the words, as before the bay's own switches were moved
pub agree_after : (a : Lettered) (b m first others : ℕ) (words : List Dbpos) (cs all : List ℕ)
    (own : IsOwn a.diagram b m first others) (v1 v2 : List Bool) (closed : Bool)
    (whole : length v1 ≡ length a.diagram.switches) (len : length v2 ≡ length v1)
    (parts : AreChosen (PartChosen a b) v1 cs) (chosen : AreChosen (SwitchChosen first m) v2 (drop 1 all))
    (stay : (i : ℕ) → (i < first) ⊎ ((first + others < i) ⊎ (i ≡ m)) → slice_get v2 i ≡ slice_get v1 i) (n : ℕ) →
    OthersAgree a.diagram b words n v1 → OthersAgree a.diagram b words n (slice_set v2 m closed)
agree_after a b m first others words cs all own v1 v2 closed whole len parts chosen stay n agree j lt i word shut
    of_p at_w at_v =
    agree j lt i word shut of_p at_w (part_stays a b m first others words cs all own v1 v2 closed whole len parts chosen
    stay (other_of 0 b j) i (other_not b j) of_p ∙ at_v)
