-- A program of calls sets what the lines set for which its steps stand.
use Rattle.std.proofs.Common.{◌≡◌, ◌≢◌, ◌∙◌, ◌++◌, ℕ, List, [], ◌∷◌, true, Option, Some, None, slice_get, map}
use Rattle.std.proofs.Common.{refl, sym, ap, inl, inr}
use Rattle.std.proofs.lemmas.List.Elements.{Contains-push_cases}
use Rattle.structured_text.specs.declared.name.Name.{Name}
use Rattle.structured_text.specs.declared.line.Line.{Line}
use Rattle.structured_text.specs.Meaning.{Store, value, assign, after}
use Rattle.structured_text.proofs.StoreLemmas.{in_a_row}
use Rattle.structured_text.proofs.AgreeLemmas.{value_same}
use Rattle.program_blocks.specs.declared.block.Block.{Block}
use Rattle.program_blocks.specs.declared.block.BlockCall.{BlockCall}
use Rattle.program_blocks.specs.declared.block.Step.{Step}
use Rattle.program_blocks.specs.declared.block.Step.TheVariants.{Assign, Call}
use Rattle.program_blocks.specs.Calls.{State, call_after, step_after, next_instance, state_after, program_after}
use Rattle.program_blocks.specs.Calls.{bare, call_lines, step_lines, unfolded}
use Rattle.program_blocks.specs.Wiring.{IsGiven, IsCallWired, IsStepWired, call_names, step_names, AreWired, known_after}
use Rattle.program_blocks.proofs.CallLemmas.{block_same, both_assigned}

abbrev Agree : List Name → Store → Store → Type 0
Agree known s u = (m : Name) → IsGiven true known m → s m ≡ u m

call_same : (known : List Name) (c : BlockCall) (o : Option Block) (k : ℕ) (st : State) (u : Store) →
    IsCallWired known c o → Agree known st.variables u →
    Agree (known ++ call_names c o) (call_after c o k st).variables (after (call_lines c o) u)
call_same known c None k st u w agree m h = absurd w
call_same known c (Some b) k st u w agree m h = block_same c known b k st u w agree m h

step_same : (bs : List Block) (known : List Name) (x : Step) (k : ℕ) (st : State) (u : Store) →
    IsStepWired bs known x → Agree known st.variables u →
    Agree (known ++ step_names bs x) (step_after bs k x st).variables (after (step_lines bs x) u)
step_same bs known (Call c) k st u w agree m h = call_same known c (slice_get bs c.block) k st u w agree m h
step_same bs known (Assign x) k st u w agree m h =
    both_assigned st.variables u x.name (value st.variables x.formula) (value u x.formula) m
    (value_same (IsGiven true known) (IsGiven true known) st.variables u (λ n p q. agree n p) x.formula w.0 w.0)
    (λ other. agree m (still other h))
  where
    still : x.name ≢ m → IsGiven true (known ++ x.name ∷ []) m → IsGiven true known m
    still other (inl input) = inl input
    still other (inr there) = elim (Contains-push_cases known x.name m there) [
      | inl old ↦ inr old
      | inr new ↦ absurd (other new)
    ]

pub steps_same : (bs : List Block) (known : List Name) (steps : List Step) (k : ℕ) (st : State) (u : Store) →
    AreWired bs known steps → Agree known st.variables u →
    Agree (known_after bs known steps) (state_after bs k steps st).variables (after (unfolded bs steps) u)
steps_same bs known [] k st u w agree m h = agree m h
steps_same bs known (x ∷ xs) k st u w agree m h =
    steps_same bs (known ++ step_names bs x) xs (next_instance k x) (step_after bs k x st) (after (step_lines bs x) u) w.1
    (step_same bs known x k st u w.0 agree) m h
    ∙ sym (ap (λ (t : Store). t m) (in_a_row (step_lines bs x) (unfolded bs xs) u))

bare_same : (lines : List Line) (s : Store) → after (map (λ (x : Line). bare x) lines) s ≡ after lines s
bare_same [] s = refl
bare_same (x ∷ xs) s = bare_same xs (assign s x.name (value s x.formula))

-- what a program sets that is wired and stands for these lines
pub program_same : (bs : List Block) (steps : List Step) (lines : List Line) (stores : ℕ → Store) (s : Store) (m : Name) →
    AreWired bs [] steps → unfolded bs steps ≡ map (λ (x : Line). bare x) lines →
    IsGiven true (known_after bs [] steps) m → program_after bs steps stores s m ≡ after lines s m
program_same bs steps lines stores s m w e h =
    steps_same bs [] steps 0 (record { variables = s; instances = stores }) s w (λ n given. refl) m h
    ∙ (ap (λ xs. after xs s m) e ∙ ap (λ (t : Store). t m) (bare_same lines s))
