-- Of which bay something is shown.
use Rattle.std.proofs.Common.{◌≡◌, ◌≢◌, ◌⊎◌, ◌∙◌, ℕ, List, [], Contains, refl, sym, subst, ap, inl, inr, arith}
use Rattle.bay_protocol.specs.declared.values.Outcome.{Outcome}
use Rattle.bay_protocol.specs.declared.values.Outcome.TheVariants.{Quiet}
use Rattle.reservation_core.specs.Lines.{Message, Shown, of_bay}
use Rattle.reservation_core.specs.Runs.{bay_shown, shown_by}
use Rattle.log_replay.proofs.Basic.{of_own, of_other, of_quiet}

-- the bay is told, or nothing is shown
told_or : (b : ℕ) (o : Outcome) (xs : List Message) → (bay_shown b o xs ≡ b) ⊎ ((o ≡ Quiet) × (xs ≡ []))
told_or b Quiet [] = inr (refl, refl)
told_or b outcome xs = inl refl

pub none_in : {X : Type 0} (xs : List X) (x : X) → xs ≡ [] → Contains xs x → ⊥
none_in {X} xs x none there = omega (arith, (subst (λ (ys : List X). Contains ys x) none there).1)

-- what bay b shows: its outcome for it, nothing for another bay, and its number beside messages
pub record ShownOf (b : ℕ) (o : Outcome) (s : Shown) : Type 0 where
  pub own : of_bay s b ≡ o
  pub other : (c : ℕ) → c ≢ b → of_bay s c ≡ Quiet
  pub bay : (x : Message) → Contains s.messages x → s.bay ≡ b

pub shown_is : (b : ℕ) (o : Outcome) (xs : List Message) (s : Shown) → s ≡ shown_by b o xs → ShownOf b o s
shown_is b o xs s is = elim (told_or b o xs) [
  | inl told ↦
      let bay : s.bay ≡ b = ap (λ (x : Shown). x.bay) is ∙ told in
      record {
        own = of_own s b bay ∙ ap (λ (x : Shown). x.outcome) is;
        other = λ c differ. of_other s c (λ e. differ (sym e ∙ bay));
        bay = λ x there. bay;
      }
  | inr nothing ↦
      let quiet : s.outcome ≡ Quiet = ap (λ (x : Shown). x.outcome) is ∙ nothing.0 in
      record {
        own = of_quiet s b quiet ∙ sym nothing.0;
        other = λ c differ. of_quiet s c quiet;
        bay = λ x there. absurd (none_in s.messages x (ap (λ (y : Shown). y.messages) is ∙ nothing.1) there);
      }
]

-- the bay is no greater number than its own, and 0 where nothing is shown
pub no_greater : (b : ℕ) (o : Outcome) (xs : List Message) → (bay_shown b o xs ≡ b) ⊎ (bay_shown b o xs ≡ 0)
no_greater b Quiet [] = inr refl
no_greater b outcome xs = inl refl

pub nothing_is_0 : (b : ℕ) (o : Outcome) (xs : List Message) → o ≡ Quiet → xs ≡ [] → bay_shown b o xs ≡ 0
nothing_is_0 b o xs quiet none =
    ap (λ (x : Outcome). bay_shown b x xs) quiet ∙ ap (λ (ys : List Message). bay_shown b Quiet ys) none
