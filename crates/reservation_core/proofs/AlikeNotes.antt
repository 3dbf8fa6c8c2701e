-- What is said of notes is said of notes that are alike, and small laws of words, bays and what was heard.
use Rattle.std.proofs.Common.{◌⊎◌, ◌≡◌, ◌≢◌, ◌<◌, ◌≤◌, ℕ, zero, suc, Bool, false, List, [], ◌∷◌, ◌++◌, length, get_or}
use Rattle.std.proofs.Common.{slice_get, Option, Some, None, Contains, refl, sym, subst, ap, ◌∙◌, inl, inr, arith}
use Rattle.std.proofs.lemmas.Bool.{cases_eq}
use Rattle.std.proofs.lemmas.Option.{slice_get-get_or, slice_get_within, same_Some}
use Rattle.std.proofs.lemmas.List.Elements.{Contains-append_left}
use Rattle.ilk_base.specs.declared.words.Dbpos.{Dbpos}
use Rattle.ilk_base.specs.declared.words.Dbpos.TheVariants.{Lost}
use Rattle.double_points.specs.Words.{Agrees, BayAgrees}
use Rattle.station_graph.specs.Connection.{a_switch}
use Rattle.station_graph.specs.Sharing.{OfPart}
use Rattle.station_graph.specs.Alike.{IsVector}
use Rattle.station_graph.specs.CentralRules.{Breaks}
use Rattle.central_rules.specs.Meaning.{Meaning, bay_of, IsBay}
use Rattle.bay_frames.specs.declared.frame.Frame.{Frame}
use Rattle.bay_protocol.specs.declared.values.Grant.{Grant}
use Rattle.bay_protocol.specs.declared.values.Collection.{Collection}
use Rattle.bay_protocol.specs.State.{State}
use Rattle.reservation_core.specs.Scene.{Scene, node, new_node}
use Rattle.reservation_core.specs.RoundFacts.{RoundFacts, NotGranted, AnswerSent}
use Rattle.reservation_core.specs.Held.{Made, AllowsAgreeing, HeardGood, KnownGood, Backed, IsSwitchOf, IsUnheard}
use Rattle.reservation_core.proofs.Nodes.{has_node}
use Rattle.reservation_core.proofs.Rounds.{unheard}
use Rattle.reservation_core.proofs.Steps.{switch_there}
use Rattle.reservation_core.proofs.Keeping.{got_there}

-- ---- small laws

pub got_or : {X : Type 0} (xs : List X) (i : ℕ) (x d : X) → slice_get xs i ≡ Some x → get_or xs i d ≡ x
got_or xs i x d is = same_Some (get_or xs i d) x (sym (slice_get-get_or xs i d (slice_get_within xs i x is)) ∙ is)

-- a switch of a part is one of its bay, and back
pub switch_of : (m : Meaning) (b i : ℕ) → OfPart m.diagram b (a_switch i) → IsSwitchOf m b i
switch_of m b i own = (slice_get_within m.diagram.switches i own.0 own.1, rw own.1 own.2)

pub of_part : (m : Meaning) (b i : ℕ) → IsSwitchOf m b i → OfPart m.diagram b (a_switch i)
of_part m b i is =
    let s = switch_there m.diagram i is.0 in
    let bay : bay_of m.diagram i ≡ s.0.bay.0 = rw s.1 refl in
    (s.0, s.1, sym bay ∙ is.1)

pub bay_agrees : (m : Meaning) (b : ℕ) (words : List Dbpos) (v : List Bool) →
    ((i : ℕ) → IsSwitchOf m b i → Agrees (get_or words i Lost) (get_or v i false)) → BayAgrees m.diagram b words v
bay_agrees m b words v agrees i word closed own at_word at_v =
    subst (λ (x : Dbpos). Agrees x closed) (got_or words i word Lost at_word) (subst
    (λ (x : Bool). Agrees (get_or words i Lost) x) (got_or v i closed false at_v) (agrees i (switch_of m b i own)))

pub there_or_new : (xs ys : List Frame) (j : ℕ) (f : Frame) → slice_get (xs ++ ys) j ≡ Some f →
    ((j < length xs) × (slice_get xs j ≡ Some f)) ⊎ ((length xs ≤ j) × Contains ys f)
there_or_new [] ys j f got = inr (omega arith, got_there ys j f got)
there_or_new (x ∷ xs) ys zero f got = inl (omega arith, got)
there_or_new (x ∷ xs) ys (suc j) f got = elim (there_or_new xs ys j f got) [
  | inl p ↦ inl (omega (arith, p.0), p.1)
  | inr p ↦ inr (omega (arith, p.0), p.1)
]

grants_it_at : (x : Option Grant) (i : ℕ) →
    ((g : Grant) × (x ≡ Some g) × (g.op.switch.0 ≡ i)) ⊎ ((g : Grant) → x ≡ Some g → g.op.switch.0 ≢ i)
grants_it_at None i = inr (λ g is. absurd (cc is))
grants_it_at (Some g) i = elim (cases_eq g.op.switch.0 i) [
  | inl at ↦ inl (g, refl, at)
  | inr other ↦ inr (λ k is. let e : g ≡ k = cc is in subst (λ (x : Grant). x.op.switch.0 ≢ i) e other)
]

pub grants_it : (s : State) (i : ℕ) → ((g : Grant) × (s.granted ≡ Some g) × (g.op.switch.0 ≡ i)) ⊎ NotGranted s i
grants_it s i = grants_it_at s.granted i

heard_at : (x : Option (Option (List ℕ))) → ((s : List ℕ) × (x ≡ Some (Some s))) ⊎ ((s : List ℕ) → x ≢ Some (Some s))
heard_at None = inr (λ s is. cc is)
heard_at (Some None) = inr (λ s is. cc is)
heard_at (Some (Some s)) = inl (s, refl)

-- a summary of the bay was heard, or none
pub heard_or_not : (heard : List (Option (List ℕ))) (b : ℕ) →
    ((s : List ℕ) × (slice_get heard b ≡ Some (Some s))) ⊎ IsUnheard heard b
heard_or_not heard b = heard_at (slice_get heard b)

-- a node that has granted an operation is that of a bay
pub granted_bay : (m : Meaning) (w : Scene) (c : ℕ) (g : Grant) → RoundFacts m w →
    (node m.diagram w c).granted ≡ Some g → IsBay m.diagram c
granted_bay m w c g rounds has =
    let s = has_node w.nodes c (new_node m.diagram c) g refl has in
    rounds.shape.only c s.0 s.1

module _ (m : Meaning) (N : Type 0) (word : N → Dbpos) where
  -- ---- what is said of notes is said of equal notes

  pub allows_same : (b : ℕ) (s : List ℕ) (x y : ℕ → N) → ((i : ℕ) → IsSwitchOf m b i → y i ≡ x i) →
      AllowsAgreeing m b (λ i. word (x i)) s → AllowsAgreeing m b (λ i. word (y i)) s
  allows_same b s x y same allows v whole agrees =
      allows v whole (λ i own. subst (λ (n : N). Agrees (word n) (get_or v i false)) (same i own) (agrees i own))

  pub made_same : (b c : ℕ) (s : List ℕ) (x y : ℕ → N) → ((i : ℕ) → i < length m.diagram.switches → y i ≡ x i) →
      Made m (λ i. word (x i)) b c s → Made m (λ i. word (y i)) b c s
  made_same b c s x y same made = record {
    fits = made.fits;
    allows = allows_same b s x y (λ i own. same i own.0) made.allows;
  }

  pub heard_same : (Good : ℕ → N → Type 0) (x y : ℕ → N) (b : ℕ) (s : List ℕ) →
      ((i : ℕ) → IsSwitchOf m b i → y i ≡ x i) → HeardGood m N word Good x b s →
      HeardGood m N word Good y b s
  heard_same Good x y b s same good = record {
    allows = allows_same b s x y same good.allows;
    good = λ i own. subst (Good i) (sym (same i own)) (good.good i own);
  }

  pub known_same : (Good : ℕ → N → Type 0) (x y : ℕ → N) (g : Collection) →
      ((i : ℕ) → i < length m.diagram.switches → y i ≡ x i) → KnownGood m N word Good x g → KnownGood m N word Good y g
  known_same Good x y g same good = record {
    heard = λ b s got. heard_same Good x y b s (λ i own. same i own.0) (good.heard b s got);
    unheard = λ i lt none. ap word (same i lt) ∙ good.unheard i lt none;
  }

  pub sent_still : (sent frames : List Frame) (b c r : ℕ) (s : List ℕ) → AnswerSent sent b c r s →
      AnswerSent (sent ++ frames) b c r s
  sent_still sent frames b c r s a = record {
    frame = a.frame;
    there = Contains-append_left sent frames a.frame a.there;
    from = a.from;
    to = a.to;
    round = a.round;
    body = a.body;
  }

  pub backed_same : (Good : ℕ → N → Type 0) (sent frames : List Frame) (x y : ℕ → N) (c : ℕ) (g : Grant) →
      ((i : ℕ) → i < length m.diagram.switches → y i ≡ x i) → Backed m N word Good sent x c g →
      Backed m N word Good (sent ++ frames) y c g
  backed_same Good sent frames x y c g same old = record {
    good = λ i lt other. subst (Good i) (sym (same i lt)) (old.good i lt other);
    heard = old.heard;
    answers = λ b s got. sent_still sent frames b c g.round s (old.answers b s got);
    allows = λ b s got. allows_same b s x y (λ i own. same i own.0) (old.allows b s got);
    unheard = λ i lt other none. ap word (same i lt) ∙ old.unheard i lt other none;
    none =
        λ v whole agrees allowed. old.none v whole
        (λ i own other. subst (λ (n : N). Agrees (word n) (get_or v i false)) (same i own.0) (agrees i own other))
        allowed;
  }

  -- no vector that agrees with what is known breaks a rule
  pub backed_agrees : (Good : ℕ → N → Type 0) (sent : List Frame) (known : ℕ → N) (c : ℕ) (g : Grant) →
      bay_of m.diagram g.op.switch.0 ≡ c → Backed m N word Good sent known c g → (v : List Bool) →
      IsVector m.diagram v →
      ((i : ℕ) → i < length m.diagram.switches → i ≢ g.op.switch.0 → Agrees (word (known i)) (get_or v i false)) →
      Breaks m.diagram v g.op None
  backed_agrees Good sent known c g mine backed v whole agrees =
      backed.none v whole (λ i own other. agrees i own.0 other) (λ b s other got. backed.allows b s got v whole
      (λ i own. agrees i own.0 (λ same. other (sym own.1 ∙ (ap (λ (x : ℕ). bay_of m.diagram x) same ∙ mine)))))
