-- From one layer to the next.
use Rattle.std.proofs.Common.{◌≡◌, ℕ, ◌+◌, ◌-◌, ◌*◌, ◌/◌, ◌%◌, ◌^◌, ◌<◌, ◌≤◌, ◌==◌, zero, suc, Bool, true, false}
use Rattle.std.proofs.Common.{List, [], ◌∷◌, length, slice_get, slice_index, Some, refl, sym, ◌∙◌, ap, subst, inl}
use Rattle.std.proofs.Common.{inr, arith, add-one}
use Rattle.std.specs.Prelude.{slice_set}
use Rattle.std.proofs.Math.Nat.{pow-le-pow_right}
use Rattle.std.proofs.lemmas.Bool.{cases_lt}
use Rattle.std.proofs.lemmas.Option.{slice_get_within}
use Rattle.std.proofs.Math.ListN.{replicate}
use Rattle.std.proofs.lemmas.List.{length-set, length-replicate}
use Rattle.station_graph.specs.declared.limits.TheConstants.{BAY_SWITCHES}
use Rattle.station_graph.specs.Diagram.{Diagram}
use Rattle.station_graph.specs.Connection.{a_switch}
use Rattle.station_graph.specs.Sharing.{OfPart}
use Rattle.station_graph.specs.Nodes.{Rises}
use Rattle.station_graph.specs.Alike.{IsVector}
use Rattle.station_graph.proofs.LinkedLemmas.{linked_one, linked_trans}
use Rattle.contraction.specs.Answers.{Answers}
use Rattle.contraction.specs.Stands.{StandsFor}
use Rattle.contraction.proofs.MarkLemmas.{slice_get-set_same}
use Rattle.part_alphabets.specs.declared.fork.Fork.{Fork}
use Rattle.part_alphabets.specs.Layers.{OfLayer, digit, rank}
use Rattle.part_alphabets.specs.Diagrams.{branch, ForkGoes, ForksLeadTo, ForkFits, ForksFit, AreStaged}
use Rattle.bay_contract.specs.Sorting.{IsSorted}
use Rattle.bay_contract.proofs.Layers.{AllKeepAt}
use Rattle.bay_contract.specs.Building.{Forked, Ranked}
use Rattle.bay_contract.proofs.Layers.{Stops, IsLayer}
use Rattle.bay_contract.proofs.RankLemmas.{digit_small, digit_of, rank_set, rank_below}
use Rattle.bay_contract.proofs.DiagramLemmas.{goes_more}
use Rattle.bay_contract.proofs.ForkLemmas.{fork_at}

pub some_at : {X : Type 0} (xs : List X) (i : ℕ) → i < length xs → (x : X) × (slice_get xs i ≡ Some x)
some_at [] i lt = absurd (omega arith)
some_at (x ∷ xs) zero lt = (x, refl)
some_at (x ∷ xs) (suc i) lt = some_at xs i (omega arith)

pub rank_more : (first j : ℕ) (v : List Bool) → rank first (j + 1) v ≡ 2 * rank first j v + digit (slice_get v
    (first + j))
rank_more first j v = ap (λ n. rank first n v) (add-one j)

module _ (d : Diagram) (part first j : ℕ) (own : OfPart d part (a_switch (first + j))) (values news : List Answers)
    (ranks newranks targets origins : List ℕ) (forks more : List Fork) (h : IsLayer d part first j values ranks forks)
    (s : IsSorted d part (first + j) values news targets origins (2 * length values)) (f : Forked (first + j)
    (length values) targets forks more) (r : Ranked ranks origins newranks) where
  in_station : first + j < length d.switches
  in_station = slice_get_within d.switches (first + j) own.0 own.1

  bound_next : (first + j) + 1 ≡ first + (j + 1)
  bound_next = omega arith

  position_at : (v : List Bool) → IsVector d v → (b : Bool) × (slice_get v (first + j) ≡ Some b)
  position_at v vec = some_at v (first + j) (omega (arith, in_station))

  -- the place to which an index leads
  place_in : (i p : ℕ) → i < length values → p < 2 → 2 * i + p < 2 * length values
  place_in i p lt sp = omega arith

  branch_to : (i : ℕ) (b : Bool) → branch (fork_at (first + j)
      (length more) targets i) b ≡ length more + slice_index targets (2 * i + digit (Some b))
  branch_to i true = refl
  branch_to i false = ap (λ n. length more + slice_index targets n) (omega arith)

  step_leads : (v : List Bool) (i : ℕ) → i < length values → ForksLeadTo forks v i → (b : Bool)
      → slice_get v (first + j) ≡ Some b → ForksLeadTo more v (slice_index targets (2 * i + digit (Some b)))
  step_leads v i lt leads b at =
      let there = goes_more forks more f.kept v 0 (length forks + i) leads in
      let step : ForkGoes more v (length forks + i)
      (length more + slice_index targets (2 * i + digit (Some b))) = record {
        fork = fork_at (first + j) (length more) targets i;
        closed = b;
        listed = f.added i lt;
        position = at;
        to = branch_to i b;
      } in
      linked_trans (ForkGoes more v) 0 (length forks + i) (length more + slice_index targets (2 * i + digit
      (Some b))) there (linked_one (ForkGoes more v) (length forks + i) (length more + slice_index targets
      (2 * i + digit (Some b))) step)

  half_place : (i p : ℕ) → p < 2 → (2 * i + p) / 2 ≡ i
  half_place i p sp = omega arith

  odd_place : (i : ℕ) (b : Bool) → ((2 * i + digit (Some b)) % 2 == 1) ≡ b
  odd_place i true = let e : (2 * i + 1) % 2 ≡ 1 = omega arith in ap (λ n. n == 1) e
  odd_place i false = let e : (2 * i + 0) % 2 ≡ 0 = omega arith in ap (λ n. n == 1) e

  -- the rank of a new value, by its first place
  new_rank : (n : ℕ) → n < length news → slice_index newranks n ≡ 2 * slice_index ranks
      (slice_index origins n / 2) + slice_index origins n % 2
  new_rank n lt = r.told n (omega (arith, s.origins_count))

  origin_half : (n : ℕ) → n < length news → slice_index origins n / 2 < length values
  origin_half n lt = omega (arith, s.origin_in n lt)

  ranks_rise : (i k : ℕ) → i < k → k < length values → slice_index ranks i < slice_index ranks k
  ranks_rise i k lt in_k = h.rises i k lt (omega (arith, h.ranks_count))

  order_le : (o i p : ℕ) → p < 2 → i < length values → o ≤ 2 * i + p → 2 * slice_index ranks
      (o / 2) + o % 2 ≤ 2 * slice_index ranks i + p
  order_le o i p sp lt le = elim (cases_lt (o / 2) i) [
    | inl less ↦ (let up = ranks_rise (o / 2) i less lt in omega arith)
    | inr same ↦ (let e : o / 2 ≡ i = omega arith in let f = ap (slice_index ranks) e in omega arith)
  ]

  least_here : (v : List Bool) (i : ℕ) (b : Bool) → i < length values → slice_get v (first + j) ≡ Some b
      → slice_index ranks i ≤ rank first j v → slice_index newranks (slice_index targets (2 * i + digit
      (Some b))) ≤ rank first (j + 1) v
  least_here v i b lt at le =
      let small : digit (Some b) < 2 = digit_small (Some b) in
      let p_in : 2 * i + digit (Some b) < 2 * length values = omega arith in
      let k_in = s.target_in (2 * i + digit (Some b)) p_in in
      let before = s.first (2 * i + digit (Some b)) p_in in
      let told = new_rank (slice_index targets (2 * i + digit (Some b))) k_in in
      let o = slice_index origins (slice_index targets (2 * i + digit (Some b))) in
      let here : digit (slice_get v (first + j)) ≡ digit (Some b) = ap digit at in
      let le2 : 2 * slice_index ranks (o / 2) + o % 2 ≤ 2 * slice_index ranks i + digit (Some b) = order_le o i (digit
      (Some b)) small lt before in
      omega (arith, rank_more first j v, told, here, le2)

  next_stops : (v : List Bool) → IsVector d v → Stops d part first (j + 1) news newranks more v
  next_stops v vec =
      let st = h.stops v vec in
      let (b, at) = position_at v vec in
      let i = st.index in
      let i_in : st.index < length values = slice_get_within values st.index st.value st.listed in
      let small : digit (Some b) < 2 = digit_small (Some b) in
      let p_in : 2 * st.index + digit (Some b) < 2 * length values = place_in st.index (digit (Some b)) i_in small in
      let k_in = s.target_in (2 * st.index + digit (Some b)) p_in in
      let (c, c_at) = some_at news (slice_index targets (2 * st.index + digit (Some b))) k_in in
      let x_at : slice_get values ((2 * st.index + digit (Some b)) / 2) ≡ Some st.value = ap (slice_get values)
      (half_place st.index (digit (Some b)) small) ∙ st.listed in
      let closed_at : slice_get v (first + j) ≡ Some ((2 * st.index + digit (Some b)) % 2 == 1) = at ∙ ap Some (sym
      (odd_place st.index b)) in
      let stands = s.continues (2 * st.index + digit (Some b)) c p_in c_at st.value x_at v st.stands closed_at in
      record {
        index = slice_index targets (2 * st.index + digit (Some b));
        value = c;
        listed = c_at;
        leads = step_leads v st.index i_in st.leads b at;
        stands = subst (λ n. StandsFor (OfLayer d part n) d v c) bound_next stands;
        least = least_here v st.index b i_in at st.least;
      }

  next_rises : Rises newranks
  next_rises a b lt b_in =
      let count : length newranks ≡ length news = r.len ∙ s.origins_count in
      let up = s.rises a b lt (omega (arith, s.origins_count)) in
      let ra = new_rank a (omega arith) in
      let rb = new_rank b (omega arith) in
      let hb = origin_half b (omega arith) in
      elim (cases_lt (slice_index origins a / 2) (slice_index origins b / 2)) [
        | inl less ↦ (let more_rank = ranks_rise (slice_index origins a / 2) (slice_index origins b / 2) less hb in
            omega arith)
        | inr same ↦ (let e : slice_index origins a / 2 ≡ slice_index origins b / 2 = omega arith in
            let f = ap (slice_index ranks) e in omega arith)
      ]

  next_ranked : (i : ℕ) → i < length news → (v : List Bool) → IsVector d v → rank first
      (j + 1) v ≡ slice_index newranks i → ForksLeadTo more v i
  next_ranked i lt v vec e =
      let (b, at) = position_at v vec in
      let o = slice_index origins i in
      let small : digit (Some b) < 2 = digit_small (Some b) in
      let here : digit (slice_get v (first + j)) ≡ digit (Some b) = ap digit at in
      let told = new_rank i lt in
      let wide = rank_more first j v in
      let r_is : rank first j v ≡ slice_index ranks (slice_index origins i / 2) = omega arith in
      let d_is : digit (Some b) ≡ slice_index origins i % 2 = omega arith in
      let before = h.ranked (slice_index origins i / 2) (origin_half i lt) v vec r_is in
      let now = step_leads v (slice_index origins i / 2) (origin_half i lt) before b at in
      let place : 2 * (slice_index origins i / 2) + digit (Some b) ≡ slice_index origins i = omega arith in
      subst (λ n. ForksLeadTo more v n) (ap (slice_index targets) place ∙ s.origin_leads i lt) now

  next_rank_in : (i : ℕ) → i < length news → (v : List Bool) × IsVector d v × (rank first
      (j + 1) v ≡ slice_index newranks i)
  next_rank_in i lt =
      let (w, w_vec, w_rank) = h.rank_in (slice_index origins i / 2) (origin_half i lt) in
      let b = slice_index origins i % 2 == 1 in
      let at : slice_get (slice_set w (first + j) (slice_index origins i % 2 == 1)) (first + j) ≡ Some
      (slice_index origins i % 2 == 1) = slice_get-set_same w (first + j) (slice_index origins i % 2 == 1) (omega
      (arith, in_station)) in
      let last = digit_of (slice_index origins i) (slice_get (slice_set w (first + j)
      (slice_index origins i % 2 == 1)) (first + j)) at in
      let before = rank_set first j (first + j) w (slice_index origins i % 2 == 1) (omega arith) in
      let wide = rank_more first j (slice_set w (first + j) (slice_index origins i % 2 == 1)) in
      let told = new_rank i lt in (
        slice_set w (first + j) (slice_index origins i % 2 == 1),
        length-set w (first + j)
            (slice_index origins i % 2 == 1) ∙ w_vec,
        omega arith,
      )

  fit_new : (a : ℕ) (g : Fork) → slice_get more a ≡ Some g → (i : ℕ) → a ≡ length forks + i → i < length values
      → ForkFits (length d.switches) (length more) (length news) a g
  fit_new a g at i e lt =
      let is : fork_at (first + j) (length more) targets i ≡ g = cc (f.added i lt, ap (slice_get more) e, at) in
      let off_in = s.target_in (2 * i) (omega arith) in
      let on_in = s.target_in (2 * i + 1) (omega arith) in
      subst (λ (k : Fork). ForkFits (length d.switches) (length more) (length news) a k) is (record {
        switch = in_station;
        off_later = omega (arith, f.len);
        off_within = omega arith;
        on_later = omega (arith, f.len);
        on_within = omega arith;
      })

  next_fit : ForksFit (length d.switches) (length news) more
  next_fit a g at = elim (f.none_else a g at) [
    | inl old ↦
        (let k = h.fit a g old in record {
          switch = k.switch;
          off_later = k.off_later;
          off_within = omega (arith, k.off_within, f.len);
          on_later = k.on_later;
          on_within = omega (arith, k.on_within, f.len);
        })
    | inr new ↦ fit_new a g at (a - length forks) (omega (arith, new.0)) (omega (arith, new.0, new.1, f.len))
  ]

  -- an old step leads to old steps, or to the new ones
  branch_within : (a : ℕ) (g : Fork) (closed : Bool) → slice_get forks a ≡ Some g → branch g closed < length more
  branch_within a g true at = let k = h.fit a g at in omega (arith, k.on_within, f.len)
  branch_within a g false at = let k = h.fit a g at in omega (arith, k.off_within, f.len)

  new_branch : (i : ℕ) (closed : Bool) → length more ≤ branch (fork_at (first + j) (length more) targets i) closed
  new_branch i true = omega arith
  new_branch i false = omega arith

  -- a new step tests the new switch, and leads past all steps
  new_step : (a : ℕ) (g : Fork) → slice_get more a ≡ Some g → length forks ≤ a → (g.switch.0 ≡ first + j)
      × ((closed : Bool) → length more ≤ branch g closed)
  new_step a g at past =
      let lt : a - length forks < length values = omega (arith, slice_get_within more a g at, f.len) in
      let place : length forks + (a - length forks) ≡ a = omega arith in
      let is : fork_at (first + j) (length more) targets (a - length forks) ≡ g = cc (
        f.added
            (a - length forks) lt,
        ap (slice_get more) place,
        at,
      ) in (
        sym (ap (λ (k : Fork). k.switch.0) is),
        λ closed. subst (λ (k : Fork). length more ≤ branch k closed) is
            (new_branch (a - length forks) closed),
      )

  -- it is an old step or a new one
  old_step : (a : ℕ) (g : Fork) → slice_get more a ≡ Some g → a < length forks → slice_get forks a ≡ Some g
  old_step a g at lt = elim (f.none_else a g at) [ inl old ↦ old | inr new ↦ absurd (omega (arith, new.0)) ]

  next_staged : AreStaged first (j + 1) more
  next_staged = record {
    start = λ g at. elim (cases_lt 0 (length forks)) [
      | inl less ↦ h.staged.start g (old_step 0 g at less)
      | inr none ↦ (let e = h.staged.none (omega arith) in let n = new_step 0 g at (omega arith) in omega (arith, n.0))
    ];
    none = λ e. absurd (omega (
      arith,
      f.len,
      slice_get_within values (h.stops (replicate (length d.switches) false)
          (length-replicate (length d.switches) false)).index (h.stops (replicate (length d.switches) false)
          (length-replicate (length d.switches) false)).value (h.stops (replicate (length d.switches) false)
          (length-replicate (length d.switches) false)).listed,
    ));
    inside = λ a g at. elim (cases_lt a (length forks)) [
      | inl less ↦ (let o = h.staged.inside a g (old_step a g at less) in (o.0, omega (arith, o.1)))
      | inr past ↦ (let n = new_step a g at past in (omega (arith, n.0), omega (arith, n.0)))
    ];
    next = λ a g k closed at at_next. elim (cases_lt a (length forks)) [
      | inl less ↦
          let old = old_step a g at less in
          elim (cases_lt (branch g closed) (length forks)) [
            | inl here ↦ h.staged.next a g k closed old (old_step (branch g closed) k at_next here)
            | inr past ↦ (let o = h.staged.last a g closed old past in let n = new_step
                (branch g closed) k at_next past in omega (arith, n.0))
          ]
      | inr past ↦ (let n = new_step a g at past in let far = n.1 closed in absurd (omega
          (arith, slice_get_within more (branch g closed) k at_next)))
    ];
    last = λ a g closed at past. elim (cases_lt a (length forks)) [
      | inl less ↦ absurd (omega (arith, branch_within a g closed (old_step a g at less)))
      | inr new ↦ (let n = new_step a g at new in omega (arith, n.0))
    ];
  }

  -- THE NEXT LAYER IS A LAYER
  pub next_is_layer : IsLayer d part first (j + 1) news newranks more
  next_is_layer = record {
    keep = subst (λ n. AllKeepAt d part n news) bound_next s.keep;
    apart = s.apart;
    stops = next_stops;
    ranks_count = r.len ∙ s.origins_count;
    rises = next_rises;
    ranked = next_ranked;
    rank_in = next_rank_in;
    fit = next_fit;
    staged = next_staged;
  }

-- ranks of few switches are small
pub ranks_small : (d : Diagram) (part first j : ℕ) (values : List Answers) (ranks : List ℕ) (forks : List Fork)
    → IsLayer d part first j values ranks forks → j < BAY_SWITCHES → (i : ℕ) → i < length values
    → slice_index ranks i < 2 ^ BAY_SWITCHES
ranks_small d part first j values ranks forks h low i lt =
    let (w, vec, r) = h.rank_in i lt in
    let below = rank_below first j w in
    let two : 0 < 2 = omega arith in
    let le : j ≤ BAY_SWITCHES = omega arith in
    let most : 2 ^ j ≤ 2 ^ BAY_SWITCHES = pow-le-pow_right {n = 2} two {i = j} {j = BAY_SWITCHES} le in
    omega arith
