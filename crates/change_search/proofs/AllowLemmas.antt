-- Which choices sets of one or two choices allow.
use Rattle.std.proofs.Common.{◌≡◌, ℕ, ◌+◌, ◌<◌, zero, suc, Bool, true, false, List, [], ◌∷◌, length, map, replicate, get_or}
use Rattle.std.proofs.Common.{slice_get, Some, refl, sym, ap, ◌∙◌, ◌++◌, subst, inl, inr, not, arith}
use Rattle.std.specs.Prelude.{◌↔◌}
use Rattle.std.proofs.lemmas.Option.{slice_get_within, same_Some, slice_get-get_or}
use Rattle.decision_graphs.specs.Label.{AreAllowed}
use Rattle.graph_walks.specs.Walks.{set_for, AreTwos}
use Rattle.judge_pool.specs.Graphs.{other_of}
use Rattle.judge_intake.proofs.OtherLemmas.{element, other_in}
use Rattle.step_graphs.specs.declared.step.Step.{Step}
use Rattle.station_joints.specs.Together.{IsAlone}
use Rattle.station_graph.proofs.PathLemmas.{slice_get-push}
use Rattle.std.proofs.lemmas.List.{length_push}
use Rattle.change_search.specs.Showing.{AreFree, AllowIsolating, AllowAll}

-- where a place is not free, the choice is 0
AreHeld : List Bool → List ℕ → Type 0
AreHeld free cs = (j c : ℕ) → slice_get cs j ≡ Some c → slice_get free j ≡ Some false → c ≡ 0

one_to : (f : Bool) (c : ℕ) → get_or (set_for f) c false ≡ true → (c < 2) × (f ≡ false → c ≡ 0)
one_to f zero e = (omega arith, λ held. refl)
one_to f (suc zero) e = (omega arith, λ held. cc)
one_to f (suc (suc c)) e = cc

one_from : (f : Bool) (c : ℕ) → c < 2 → (f ≡ false → c ≡ 0) → get_or (set_for f) c false ≡ true
one_from f zero lt held = refl
one_from true (suc zero) lt held = refl
one_from false (suc zero) lt held = let e : 1 ≡ 0 = held refl in absurd (omega (arith, e))
one_from f (suc (suc c)) lt held = absurd (omega (arith, lt))

allowed_to : (free : List Bool) (cs : List ℕ) → AreAllowed (map set_for free) cs →
    AreTwos (length free) cs × AreHeld free cs
unfolding AreHeld
allowed_to [] [] t = (record { len = refl; small = λ j c e. cc }, λ j c e f. cc)
allowed_to [] (c ∷ cs) t = absurd t
allowed_to (f ∷ fs) [] t = absurd t
allowed_to (f ∷ fs) (c ∷ cs) t =
    let here = one_to f c t.0 in
    let rest = allowed_to fs cs t.1 in
    (record { len = ap suc rest.0.len; small = small here.0 rest.0.small }, held here.1 rest.1)
  where
    small : c < 2 → ((j x : ℕ) → slice_get cs j ≡ Some x → x < 2) → (j x : ℕ) → slice_get (c ∷ cs) j ≡ Some x → x < 2
    small lt more zero x e = let is : c ≡ x = same_Some c x e in omega (arith, lt, is)
    small lt more (suc j) x e = more j x e

    held : (f ≡ false → c ≡ 0) → ((j x : ℕ) → slice_get cs j ≡ Some x → slice_get fs j ≡ Some false → x ≡ 0) →
        (j x : ℕ) → slice_get (c ∷ cs) j ≡ Some x → slice_get (f ∷ fs) j ≡ Some false → x ≡ 0
    held one more zero x e g = sym (same_Some c x e) ∙ one (same_Some f false g)
    held one more (suc j) x e g = more j x e g

allowed_from : (free : List Bool) (cs : List ℕ) → AreTwos (length free) cs → AreHeld free cs →
    AreAllowed (map set_for free) cs
unfolding AreHeld
allowed_from [] [] two held = tt
allowed_from [] (c ∷ cs) two held = absurd (omega (arith, two.len))
allowed_from (f ∷ fs) [] two held = absurd (omega (arith, two.len))
allowed_from (f ∷ fs) (c ∷ cs) two held = (
  one_from f c (two.small 0 c refl) (λ e. held 0 c refl (ap Some e)),
  allowed_from fs cs (record { len = omega (arith, two.len); small = λ j x e. two.small (suc j) x e })
      (λ j x e g. held (suc j) x e g),
)

pub isolating_allowed : (ss ts : List Step) (b : ℕ) (free : List Bool) → length ss ≡ length ts →
    AreFree ss ts b free → AllowIsolating ss ts b (map set_for free)
unfolding AreHeld
isolating_allowed ss ts b free len is cs n count = (
  λ allowed.
      let t = allowed_to free cs allowed in (
        record { len = omega (arith, t.0.len, is.count, count); small = t.0.small },
        λ j c x y at at_x at_y alone.
            let (f, at_f) = element free j (omega (arith, slice_get_within cs j c at, t.0.len)) in
            t.1 j c at (at_f ∙ ap Some ((is.each j f x y at_f at_x at_y).1 alone)),
      ),
  λ h. allowed_from free cs (record { len = omega (arith, h.0.len, is.count, count); small = h.0.small })
      (λ j c at at_f.
      let lt = other_in 0 b (length free) j (slice_get_within free j false at_f) in
      let (x, at_x) = element ss (other_of 0 b j) (omega (arith, lt.1, is.count)) in
      let (y, at_y) = element ts (other_of 0 b j) (omega (arith, lt.1, is.count, len)) in
      h.1 j c x y at at_x at_y ((is.each j false x y at_f at_x at_y).0 refl)),
)

free_long : (n : ℕ) → length (replicate n true) ≡ n
free_long zero = refl
free_long (suc n) = ap suc (free_long n)

none_held : (n j : ℕ) → slice_get (replicate n true) j ≡ Some false → ⊥
none_held zero j e = cc
none_held (suc n) zero e = let is : true ≡ false = same_Some true false e in cc
none_held (suc n) (suc j) e = none_held n j e

pub all_allowed : (ss : List Step) (m : ℕ) → suc m ≡ length ss → AllowAll ss (map set_for (replicate m true))
unfolding AreHeld
all_allowed ss m whole cs n count = (
  λ allowed.
      let t = allowed_to (replicate m true) cs allowed in
      record { len = omega (arith, t.0.len, free_long m, whole, count); small = t.0.small },
  λ two. allowed_from (replicate m true) cs
      (record { len = omega (arith, two.len, free_long m, whole, count); small = two.small })
      (λ j c at at_f. absurd (none_held m j at_f)),
)

-- ---- free steps, one by one

pub record FreeUpto (ss ts : List Step) (b : ℕ) (free : List Bool) (n : ℕ) : Type 0 where
  pub len : length free ≡ n
  pub each : (j : ℕ) (f : Bool) (s t : Step) → slice_get free j ≡ Some f → slice_get ss (other_of 0 b j) ≡ Some s →
      slice_get ts (other_of 0 b j) ≡ Some t → (f ≡ false) ↔ IsAlone s t

free_more : (ss ts : List Step) (b : ℕ) (free : List Bool) (n : ℕ) (s t : Step) (f : Bool) →
    FreeUpto ss ts b free n → slice_get ss (other_of 0 b n) ≡ Some s → slice_get ts (other_of 0 b n) ≡ Some t →
    ((f ≡ false) ↔ IsAlone s t) → FreeUpto ss ts b (free ++ f ∷ []) (n + 1)
free_more ss ts b free n s t f h at_s at_t is = record {
  len = omega (arith, length_push free f, h.len);
  each = λ j g x y at at_x at_y. elim (slice_get-push free f g j at) [
    | inl before ↦ h.each j g x y before at_x at_y
    | inr here ↦ last j g x y (here.0 ∙ h.len) here.1 at_x at_y
  ];
}
  where
    last : (j : ℕ) (g : Bool) (x y : Step) → j ≡ n → f ≡ g → slice_get ss (other_of 0 b j) ≡ Some x →
        slice_get ts (other_of 0 b j) ≡ Some y → (g ≡ false) ↔ IsAlone x y
    last j g x y j_is g_is at_x at_y =
        let s_is : s ≡ x = same_Some s x (sym at_s ∙ ap (λ k. slice_get ss (other_of 0 b k)) (sym j_is) ∙ at_x) in
        let t_is : t ≡ y = same_Some t y (sym at_t ∙ ap (λ k. slice_get ts (other_of 0 b k)) (sym j_is) ∙ at_y) in
        subst (λ (z : Step). (g ≡ false) ↔ IsAlone z y) s_is
        (subst (λ (z : Step). (g ≡ false) ↔ IsAlone s z) t_is
        (subst (λ (z : Bool). (z ≡ false) ↔ IsAlone s t) g_is is))

negated : (c : Bool) (P : Type 0) → ((c ≡ true) ↔ P) → ((not c) ≡ false) ↔ P
negated true P h = (λ e. h.0 refl, λ p. refl)
negated false P h = (λ e. let x : true ≡ false = e in cc, λ p. let x : false ≡ true = h.1 p in cc)

pub free_next : (ss ts : List Step) (b n at : ℕ) (free : List Bool) (d e : Step) (c : Bool) → FreeUpto ss ts b free n →
    at ≡ other_of 0 b n → at < length ss → at < length ts → ((c ≡ true) ↔ IsAlone (get_or ss at d) (get_or ts at e)) →
    FreeUpto ss ts b (free ++ not c ∷ []) (n + 1)
free_next ss ts b n at free d e c h is old_in new_in alone =
    free_more ss ts b free n (get_or ss at d) (get_or ts at e) (not c) h
    (subst (λ (k : ℕ). slice_get ss k ≡ Some (get_or ss at d)) is (slice_get-get_or ss at d old_in))
    (subst (λ (k : ℕ). slice_get ts k ≡ Some (get_or ts at e)) is (slice_get-get_or ts at e new_in))
    (negated c (IsAlone (get_or ss at d) (get_or ts at e)) alone)
