-- The lines of a part lead to its index, and write its indices.
use Rattle.std.proofs.Common.{◌≡◌, ◌∙◌, ℕ, ◌+◌, ◌-◌, ◌<◌, ◌≤◌, suc, Bool, true, false, List, [], ◌∷◌, ◌++◌, length}
use Rattle.std.proofs.Common.{refl, sym, ap, subst, arith, Some}
use Rattle.std.specs.Prelude.{slice_get}
use Rattle.std.specs.List.{flat_map}
use Rattle.std.proofs.lemmas.Option.{same_Some, slice_get_within}
use Rattle.station_graph.specs.Diagram.{Diagram}
use Rattle.station_graph.specs.Connection.{LeadsTo as Walks}
use Rattle.station_graph.specs.Alike.{IsVector}
use Rattle.station_graph.proofs.Decided.{element}
use Rattle.part_alphabets.specs.declared.fork.Fork.{Fork}
use Rattle.part_alphabets.specs.declared.fork.Target.{Target}
use Rattle.part_alphabets.specs.declared.fork.Target.TheVariants.{Step, Index}
use Rattle.part_alphabets.specs.declared.fork.PartStep.{PartStep}
use Rattle.part_alphabets.specs.Diagrams.{ForkGoes, branch}
use Rattle.part_alphabets.specs.PartAlphabets.{Alphabets, forks_of, size_of}
use Rattle.part_alphabets.specs.Alphabets.{IsAlphabet, HasIndex}
use Rattle.part_alphabets.specs.Targets.{number_of, IsTargetOf}
use Rattle.station_equations.specs.EquationLines.{PartLines, index_in, past_greatest, goal_count}
use Rattle.station_equations.specs.EquationMeaning.{Leads, step_target, StepLeads, NextTarget, LeadsToIndex}
use Rattle.station_equations.specs.EquationForm.{IsTarget, IsLaterTarget, PartLinesFit}
use Rattle.station_equations.specs.Compiling.{IsPartStep, AreStepsOf, IsExactPart}
use Rattle.station_equations.proofs.LeadsLemmas.{leads_here, leads_on}
use Rattle.station_equations.proofs.FollowLemmas.{index_written}

past_both : (is js : List ℕ) (n : ℕ) → past_greatest is ≤ n → past_greatest js ≤ n → past_greatest (is ++ js) ≤ n
past_both [] js n a b = b
past_both (i ∷ is) js n a b = let h = past_both is js n (omega (arith, a)) b in omega (arith, a, h)

past_steps : (steps : List PartStep) (n : ℕ) →
    ((m : ℕ) (s : PartStep) → slice_get steps m ≡ Some s →
    (past_greatest (index_in s.off) ≤ n) × (past_greatest (index_in s.on) ≤ n)) →
    past_greatest (flat_map (λ (s : PartStep). index_in s.off ++ index_in s.on) steps) ≤ n
past_steps [] n each = omega arith
past_steps (s ∷ steps) n each =
    let here = each 0 s refl in
    past_both (index_in s.off ++ index_in s.on) (flat_map (λ (x : PartStep). index_in x.off ++ index_in x.on) steps) n
    (past_both (index_in s.off) (index_in s.on) n here.0 here.1) (past_steps steps n (λ m t at. each (suc m) t at))

module _ (d : Diagram) (a : Alphabets) (part : ℕ) (al : IsAlphabet d a part) (x : PartLines)
    (are : AreStepsOf a part x) where
  -- one step on
  pub record Stepped (v : List Bool) (n c : ℕ) : Type 0 where
    pub target : Target
    pub leads : StepLeads x.steps v n target
    pub proper : IsTargetOf (length (forks_of a part)) target
    pub number : number_of (length (forks_of a part)) target ≡ c

  stepped : (v : List Bool) (n c : ℕ) → n < length (forks_of a part) → ForkGoes (forks_of a part) v n c → Stepped v n c
  stepped v n c lt goes =
      let s = element x.steps n (omega (arith, lt, are.count)) in
      let is = are.each n s.0 s.1 in
      let same : is.step.fork ≡ goes.fork = same_Some is.step.fork goes.fork (sym is.step.listed ∙ goes.listed) in
      let switch = is.step.step.switch ∙ ap (λ (f : Fork). f.switch) same in
      record {
        target = step_target s.0 goes.closed;
        leads = record {
          step = s.0;
          closed = goes.closed;
          listed = s.1;
          position = ap (λ w. slice_get v w.0) switch ∙ goes.position;
          to = refl;
        };
        proper = proper_of s.0 is goes.closed;
        number = number_is s.0 is goes.closed ∙ ap (λ (f : Fork). branch f goes.closed) same ∙ goes.to;
      }
    where
      proper_of : (s : PartStep) → IsPartStep a part n s → (b : Bool) →
          IsTargetOf (length (forks_of a part)) (step_target s b)
      proper_of s is false = is.off
      proper_of s is true = is.on

      number_is : (s : PartStep) (is : IsPartStep a part n s) (b : Bool) →
          number_of (length (forks_of a part)) (step_target s b) ≡ branch is.step.fork b
      number_is s is false = is.step.step.off
      number_is s is true = is.step.step.on

  along : (v : List Bool) (t : Target) (after : List ℕ) (i : ℕ) → IsTargetOf (length (forks_of a part)) t →
      Walks (ForkGoes (forks_of a part) v) (number_of (length (forks_of a part)) t) after
      (length (forks_of a part) + i) →
      Leads (NextTarget x.steps v) t (Index i)
  along v (Step n) [] i proper same = absurd (omega (arith, proper, same))
  along v (Index k) [] i proper same =
      let e : k ≡ i = omega (arith, same) in
      leads_here (NextTarget x.steps v) (Index k) (Index i) (ap (λ (n : ℕ). Index n) e)
  along v (Step n) (c ∷ after) i proper ways =
      let s = stepped v n c proper ways.0 in
      leads_on (NextTarget x.steps v) (Step n) s.target (Index i) s.leads (along v s.target after i s.proper
      (subst (λ k. Walks (ForkGoes (forks_of a part) v) k after (length (forks_of a part) + i)) (sym s.number) ways.1))
  along v (Index k) (c ∷ after) i proper ways =
      absurd (omega (
        arith,
        slice_get_within (forks_of a part) (length (forks_of a part) + k) ways.0.fork ways.0.listed,
      ))

  leads_index : (v : List Bool) (i : ℕ) → IsVector d v → HasIndex d a part i v → LeadsToIndex x v i
  leads_index v i whole has =
      let l = (al.leads v i whole).0 has in
      along v x.start l.after i are.target (subst
      (λ k. Walks (ForkGoes (forks_of a part) v) k l.after (length (forks_of a part) + i)) (sym are.first) l.leads)

  small_target : (t : Target) → number_of (length (forks_of a part)) t < length (forks_of a part) + size_of a part →
      past_greatest (index_in t) ≤ size_of a part
  small_target (Step n) lt = omega arith
  small_target (Index k) lt = omega (arith, lt)

  target_number : (m : ℕ) (s : PartStep) (is : IsPartStep a part m s) →
      (number_of (length (forks_of a part)) s.off < length (forks_of a part) + size_of a part)
      × (number_of (length (forks_of a part)) s.on < length (forks_of a part) + size_of a part)
  target_number m s is = (
    omega (arith, is.step.step.off, is.step.fits.off_within),
    omega (arith, is.step.step.on, is.step.fits.on_within),
  )

  no_more : goal_count x ≤ size_of a part
  no_more =
      past_both (index_in x.start) (flat_map (λ (s : PartStep). index_in s.off ++ index_in s.on) x.steps)
      (size_of a part)
      (small_target x.start (omega (arith, are.first, al.some)))
      (past_steps x.steps (size_of a part) (λ m s at.
      let is = are.each m s at in
      let lt = target_number m s is in
      (small_target s.off lt.0, small_target s.on lt.1)))

  last_index : size_of a part - 1 < size_of a part
  last_index = omega (arith, al.some)

  as_many : size_of a part ≤ goal_count x
  as_many =
      let v = al.given (size_of a part - 1) last_index in
      let has = (al.examples (size_of a part - 1) last_index).has v.0 v.1 v.2 in
      let written = index_written x v.0 (size_of a part - 1) (leads_index v.0 (size_of a part - 1) v.1 has) in
      omega (arith, written)

  pub part_exact : IsExactPart d a part x
  part_exact = record { leads = leads_index; count = omega (arith, no_more, as_many) }

  start_fits : (t : Target) → IsTargetOf (length (forks_of a part)) t →
      number_of (length (forks_of a part)) t < length (forks_of a part) + size_of a part → IsTarget (length x.steps) t
  start_fits (Step n) proper lt = omega (arith, proper, are.count)
  start_fits (Index k) proper lt = omega (arith, lt, al.few)

  target_fits : (m : ℕ) (t : Target) → IsTargetOf (length (forks_of a part)) t →
      m < number_of (length (forks_of a part)) t →
      number_of (length (forks_of a part)) t < length (forks_of a part) + size_of a part →
      IsLaterTarget (length x.steps) m t
  target_fits m (Step n) proper later lt = (later, omega (arith, proper, are.count))
  target_fits m (Index k) proper later lt = omega (arith, lt, al.few)

  pub part_fits : (switches : ℕ) → a.switches ≡ switches → PartLinesFit switches x
  part_fits switches same = record {
    start = start_fits x.start are.target (omega (arith, are.first, al.some));
    steps = λ m s at.
        let is = are.each m s at in
        let lt = target_number m s is in
        record {
          switch = omega (arith, is.step.fits.switch, ap (λ w. w.0) is.step.step.switch, same);
          off = target_fits m s.off is.off (omega (arith, is.step.step.off, is.step.fits.off_later)) lt.0;
          on = target_fits m s.on is.on (omega (arith, is.step.step.on, is.step.fits.on_later)) lt.1;
        };
  }
