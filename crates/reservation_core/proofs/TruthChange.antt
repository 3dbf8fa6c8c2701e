-- Good notes stay good where the truth changes, but for the switches of granted operations.
use Rattle.std.proofs.Common.{◌≡◌, ◌≢◌, ◌<◌, ℕ, Bool, List, length, Some, Contains, sym, subst, ap, ◌∙◌, inl, inr}
use Rattle.std.proofs.lemmas.Bool.{cases_eq}
use Rattle.ilk_base.specs.declared.words.Dbpos.{Dbpos}
use Rattle.ilk_base.specs.declared.words.Dbpos.TheVariants.{Lost}
use Rattle.central_rules.specs.Meaning.{Meaning, bay_of, IsBay}
use Rattle.bay_protocol.specs.declared.values.Lock.{Lock}
use Rattle.bay_protocol.specs.declared.values.Grant.{Grant}
use Rattle.bay_protocol.specs.State.{under_way, under_way_of}
use Rattle.reservation_core.specs.Scene.{Scene, node}
use Rattle.reservation_core.specs.declared.values.Position.{Position}
use Rattle.reservation_core.specs.RoundFacts.{RoundFacts, NotGranted, AnswerSent, IsLockedFor}
use Rattle.reservation_core.specs.Held.{Held, TruthFacts}
use Rattle.reservation_core.proofs.Nodes.{under_way-granted}
use Rattle.reservation_core.proofs.Rounds.{unheard}
use Rattle.reservation_core.proofs.Keeping.{got_there}
use Rattle.reservation_core.proofs.AlikeNotes.{heard_or_not, granted_bay}

module _ (m : Meaning) (N : Type 0) (word : N → Dbpos) where
  -- the bay of a used Answer is locked
  locked_by : (w : Scene) (b c r : ℕ) (s : List ℕ) → RoundFacts m w → under_way (node m.diagram w c) ≡ Some r →
      AnswerSent w.sent b c r s → (node m.diagram w b).lock ≡ Some (record { holder = record { 0 = c }; round = r })
  locked_by w b c r s rounds running a =
      let at : under_way (node m.diagram w a.frame.to.0) ≡ Some a.frame.round =
      subst (λ (x : ℕ). under_way (node m.diagram w x) ≡ Some a.frame.round) (sym a.to)
      (running ∙ ap (λ x. Some x) (sym a.round)) in
      let lock : IsLockedFor m.diagram w a.frame = rounds.locks a.frame s a.there a.body at in
      subst (λ (x : ℕ). (node m.diagram w x).lock ≡ Some (record { holder = record { 0 = c }; round = r })) a.from
      (subst (λ (x : ℕ). (node m.diagram w a.frame.from.0).lock ≡ Some (record {
        holder = record { 0 = x };
        round = r;
      })) a.to
      (subst (λ (x : ℕ). (node m.diagram w a.frame.from.0).lock ≡ Some (record { holder = a.frame.to; round = x }))
      a.round lock))

  -- the sender of an Answer is a bay
  answer_bay : (w : Scene) (b c r : ℕ) (s : List ℕ) → RoundFacts m w → AnswerSent w.sent b c r s → IsBay m.diagram b
  answer_bay w b c r s rounds a = subst (IsBay m.diagram) a.from (rounds.bounds.fit a.frame a.there).sender

  -- a bay that is locked has granted nothing
  locked_free : (w : Scene) (b i : ℕ) (l : Lock) → RoundFacts m w → IsBay m.diagram b →
      (node m.diagram w b).lock ≡ Some l → NotGranted (node m.diagram w b) i
  locked_free w b i l rounds bay lock g has = absurd (cc (((rounds.rounds b bay).kept.lock l lock).alone, has))

  -- a note stays good as long as its switch is not that of a granted operation
  pub facts_change : (Good After : ℕ → N → Type 0) (w : Scene) (truth : List Position) (drives : List Bool)
      (h : Held N) → RoundFacts m w →
      ((i : ℕ) (n : N) → i < length m.diagram.switches → NotGranted (node m.diagram w (bay_of m.diagram i)) i →
      Good i n → After i n) → ((i : ℕ) (n : N) → word n ≡ Lost → After i n) → TruthFacts m N word Good w h →
      TruthFacts m N word After (record { nodes = w.nodes; truth = truth; drives = drives; sent = w.sent }) h
  facts_change Good After w truth drives h rounds keep lost facts = record {
    words_are = facts.words_are;
    words = λ i lt free. keep i (h.own i) lt free (facts.words i lt free);
    made = facts.made;
    answers = λ k f s got body running i own.
        let there : Contains w.sent f = got_there w.sent k f got in
        let lock : IsLockedFor m.diagram w f = rounds.locks f s there body running in
        keep i (h.beside k i) own.0 (subst (λ (x : ℕ). NotGranted (node m.diagram w x) i) (sym own.1)
        (locked_free w f.from.0 i (record { holder = f.to; round = f.round }) rounds (rounds.bounds.fit f there).sender
        lock)) (facts.answers k f s got body running i own);
    heard = λ c g has.
        let old = facts.heard c g has in
        let running : under_way (node m.diagram w c) ≡ Some g.round =
        ap (λ x. under_way_of x (node m.diagram w c).granted) has in
        record {
          heard = λ b s got.
              let good = old.heard b s got in
              let answer = (rounds.heard c b g s has got).answer in
              let lock = locked_by w b c g.round s rounds running answer in
              record {
                allows = good.allows;
                good =
                    λ i own. keep i (h.known c i) own.0 (subst (λ (x : ℕ). NotGranted (node m.diagram w x) i)
                    (sym own.1) (locked_free w b i (record { holder = record { 0 = c }; round = g.round }) rounds
                    (answer_bay w b c g.round s rounds answer) lock)) (good.good i own);
              };
          unheard = old.unheard;
        };
    grants = λ c g has.
        let old = facts.grants c g has in
        let running : under_way (node m.diagram w c) ≡ Some g.round =
        under_way-granted m.diagram (node m.diagram w c) g (rounds.rounds c (granted_bay m w c g rounds has)) has in
        record {
          good = λ i lt other. elim (cases_eq (bay_of m.diagram i) c) [
            | inl own ↦
                keep i (h.known c i) lt (subst (λ (x : ℕ). NotGranted (node m.diagram w x) i) (sym own)
                (λ k is.
                let e : g ≡ k = cc (is, has) in
                subst (λ (y : Grant). y.op.switch.0 ≢ i) e (λ same. other (sym same)))) (old.good i lt other)
            | inr away ↦ elim (heard_or_not old.heard (bay_of m.diagram i)) [
              | inr none ↦ lost i (h.known c i) (old.unheard i lt away none)
              | inl p ↦
                  let answer = old.answers (bay_of m.diagram i) p.0 p.1 in
                  keep i (h.known c i) lt (locked_free w (bay_of m.diagram i) i
                  (record { holder = record { 0 = c }; round = g.round }) rounds
                  (answer_bay w (bay_of m.diagram i) c g.round p.0 rounds answer)
                  (locked_by w (bay_of m.diagram i) c g.round p.0 rounds running answer)) (old.good i lt other)
            ]
          ];
          heard = old.heard;
          answers = old.answers;
          allows = old.allows;
          unheard = old.unheard;
          none = old.none;
        };
  }
