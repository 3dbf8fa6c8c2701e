-- How a run of device calls goes on.
use Rattle.std.proofs.Common.{◌≡◌, ◌≤◌, ◌⊎◌, ◌↔◌, inl, inr, ⊎_elim, ℕ, List, Some, sym, subst, arith}
use Rattle.node_store.specs.Device.{LeavesFrom, KeepsPast, IsSettled, LeavesOnly}

pub one_content : {a b : List ℕ} → Some a ≡ Some b → a ≡ b
one_content h = cc

module _ {D : Type 0} (moment : D → ℕ) (between : D → ℕ → ℕ → List ℕ → Type 0) (since : D → ℕ → List ℕ → Type 0)
    (time : (d : D) (t u : ℕ) (c : List ℕ) → t ≤ u → (since d t c ↔ (between d t u c ⊎ since d u c))) where
  still : (d : D) → KeepsPast moment between d d
  still d = record { later = omega arith; same = λ t u c le left. left }

  pub goes_on : (old mid new : D) → KeepsPast moment between old mid → KeepsPast moment between mid new →
      KeepsPast moment between old new
  goes_on old mid new first second = record {
    later = omega (arith, first.later, second.later);
    same = λ t u c le left. first.same t u c le (second.same t u c (omega (arith, le, first.later)) left);
  }

  -- what a crash may have left by the end of two runs, it may have left in the first or in the second
  splits : (old mid new : D) (c : List ℕ) → KeepsPast moment between old mid → KeepsPast moment between mid new →
      since new (moment old) c → since mid (moment old) c ⊎ since new (moment mid) c
  splits old mid new c first second left = ⊎_elim
      (λ (h : between new (moment old) (moment mid) c). inl ((time mid (moment old) (moment mid) c first.later).1
      (inl (second.same (moment old) (moment mid) c (omega arith) h))))
      (λ (h : since new (moment mid) c). inr h)
      ((time new (moment old) (moment mid) c first.later).0 left)

  -- what it leaves now it may have left since an earlier moment
  pub is_since : (old new : D) (c : List ℕ) → moment old ≤ moment new → since new (moment new) c →
      since new (moment old) c
  is_since old new c le left = (time new (moment old) (moment new) c le).1 (inr left)

  -- no call yet
  pub begins : (d : D) (image : List ℕ) (P : List ℕ → Type 0) → IsSettled moment since d image → P image →
      LeavesOnly moment between since d d P
  begins d image P settled here = record { past = still d; each = λ c left. subst P (sym (settled c left)) here }

  -- one call from a settled device
  pub one_call : (old new : D) (image : List ℕ) (R : List ℕ → List ℕ → Type 0) (P : List ℕ → Type 0) →
      IsSettled moment since old image → LeavesFrom since (moment old) old new R → KeepsPast moment between old new
      → ((c : List ℕ) → R image c → P c) → LeavesOnly moment between since old new P
  one_call old new image R P settled follows past here = record {
    past = past;
    each = λ c left. let from = follows c left in here c (subst (λ (d : List ℕ). R d c) (settled from.0 from.1) from.2);
  }

  -- one run after the other
  pub then_more : (old mid new : D) (P : List ℕ → Type 0) → LeavesOnly moment between since old mid P →
      LeavesOnly moment between since mid new P → LeavesOnly moment between since old new P
  then_more old mid new P first second = record {
    past = goes_on old mid new first.past second.past;
    each = λ c left. ⊎_elim (first.each c) (second.each c) (splits old mid new c first.past second.past left);
  }

  pub weaker : (old new : D) (P Q : List ℕ → Type 0) → LeavesOnly moment between since old new P →
      ((c : List ℕ) → P c → Q c) → LeavesOnly moment between since old new Q
  weaker old new P Q run here = record { past = run.past; each = λ c left. here c (run.each c left) }

  -- then a call that changes nothing
  pub then_quiet : (old mid new : D) (P : List ℕ → Type 0) → LeavesOnly moment between since old mid P →
      LeavesFrom since (moment mid) mid new (λ c d. c ≡ d) → KeepsPast moment between mid new →
      LeavesOnly moment between since old new P
  then_quiet old mid new P run follows past = then_more old mid new P run record {
    past = past;
    each = λ c left.
        let from = follows c left in
        run.each c (is_since old mid c run.past.later (subst (λ (d : List ℕ). since mid (moment mid) d) from.2 from.1));
  }

  -- a settled device stays settled at a call that changes nothing
  pub stays_settled : (old new : D) (image : List ℕ) → IsSettled moment since old image →
      LeavesFrom since (moment old) old new (λ c d. c ≡ d) → KeepsPast moment between old new →
      IsSettled moment since new image
  stays_settled old new image settled follows past c left =
      let from = follows c (is_since old new c past.later left) in
      subst (λ (d : List ℕ). d ≡ image) from.2 (settled from.0 from.1)

  -- two calls that change nothing
  pub quiet_twice : (old mid new : D) → LeavesFrom since (moment old) old mid (λ c d. c ≡ d) →
      KeepsPast moment between old mid → LeavesFrom since (moment mid) mid new (λ c d. c ≡ d) →
      KeepsPast moment between mid new → LeavesFrom since (moment old) old new (λ c d. c ≡ d)
  quiet_twice old mid new first first_past second second_past c left = ⊎_elim
      (λ (h : since mid (moment old) c). first c h)
      (λ (h : since new (moment mid) c).
      let from = second c h in
      first c (is_since old mid c first_past.later (subst (λ (d : List ℕ). since mid (moment mid) d) from.2 from.1)))
      (splits old mid new c first_past second_past left)
