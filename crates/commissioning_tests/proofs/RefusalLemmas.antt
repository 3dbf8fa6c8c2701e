-- Orders of taking in by which bays are narrow, and the first that is too wide.
use Rattle.std.proofs.Common.{◌≡◌, ◌≢◌, ℕ, ◌+◌, Bool, eqb, List, [], cond, sym, ap, subst, inl, inr, arith, eq-eqb, ne_eqb}
use Rattle.std.proofs.lemmas.Bool.{cases_eq}
use Rattle.station_graph.specs.Diagram.{Diagram}
use Rattle.step_graphs.specs.declared.step.Step.{Step}
use Rattle.dependence_search.specs.Width.{IsNarrow}
use Rattle.commissioning_tests.specs.declared.refusal.TestsRefusal.{TestsRefusal}
use Rattle.commissioning_tests.specs.declared.refusal.TestsRefusal.TheVariants.{Memory, Wide}
use Rattle.commissioning_tests.specs.Shared.{AreLeads, IsTested}
use Rattle.commissioning_tests.specs.Refusing.{AllAreNarrow, IsNarrowBy, IsWideBy, IsWideBeyond, IsWideBay, IsRefusal}
use Rattle.commissioning_tests.specs.Refusing.{AreNarrowBefore, AreNarrowUpto, station_limit}

-- one more switch
pub narrow_more : (d : Diagram) (steps : List Step) (first n limit : ℕ) → AllAreNarrow d steps first n limit →
    IsNarrow d steps (first + n) limit → AllAreNarrow d steps first (n + 1) limit
narrow_more d steps first n limit so is m after before = elim (cases_eq m (first + n)) [
  | inl equal ↦ subst (λ (k : ℕ). IsNarrow d steps k limit) (sym equal) is
  | inr other ↦ so m after (omega (arith, before, other))
]

-- ---- the orders, with that of one bay replaced

with_order : (ℕ → List Step) → ℕ → List Step → ℕ → List Step
with_order orders n steps p = cond (eqb p n) steps (orders p)

order_there : (orders : ℕ → List Step) (n : ℕ) (steps : List Step) (p : ℕ) → p ≡ n → with_order orders n steps p ≡ steps
unfolding with_order
order_there orders n steps p e = ap (λ (b : Bool). cond b steps (orders p)) (eq-eqb p n e)

order_elsewhere : (orders : ℕ → List Step) (n : ℕ) (steps : List Step) (p : ℕ) → p ≢ n →
    with_order orders n steps p ≡ orders p
unfolding with_order
order_elsewhere orders n steps p ne = ap (λ (b : Bool). cond b steps (orders p)) (ne_eqb p n ne)

before_stays : (d : Diagram) (leads : List ℕ) (orders : ℕ → List Step) (n : ℕ) (steps : List Step) →
    AreNarrowBefore d leads orders n → AreNarrowBefore d leads (with_order orders n steps) n
before_stays d leads orders n steps so p lt tested =
    subst (λ (l : List Step). IsNarrowBy d l p (station_limit d leads))
    (sym (order_elsewhere orders n steps p (omega (arith, lt))))
    (so p lt tested)

-- ---- the first so many parts

pub upto_none : (d : Diagram) (leads : List ℕ) → AreNarrowUpto d leads 0
upto_none d leads = record { orders = λ p. []; narrow = λ p lt tested. absurd (omega (arith, lt)) }

-- one more that has no tests of its own
pub upto_less : (d : Diagram) (leads : List ℕ) (n : ℕ) → AreNarrowUpto d leads n → ¬ IsTested d leads n →
    AreNarrowUpto d leads (n + 1)
upto_less d leads n so none = record {
  orders = so.orders;
  narrow = λ p lt tested. elim (cases_eq p n) [
    | inl equal ↦ absurd (none (subst (λ (k : ℕ). IsTested d leads k) equal tested))
    | inr other ↦ so.narrow p (omega (arith, lt, other)) tested
  ];
}

-- one more that is narrow
pub upto_more : (d : Diagram) (leads : List ℕ) (n : ℕ) → AreNarrowUpto d leads n →
    (steps : List Step) → IsNarrowBy d steps n (station_limit d leads) → AreNarrowUpto d leads (n + 1)
upto_more d leads n so steps is = record {
  orders = with_order so.orders n steps;
  narrow = λ p lt tested. elim (cases_eq p n) [
    | inl equal ↦
        subst (λ (l : List Step). IsNarrowBy d l p (station_limit d leads)) (sym (order_there so.orders n steps p equal))
        (subst (λ (k : ℕ). IsNarrowBy d steps k (station_limit d leads)) (sym equal) is)
    | inr other ↦ before_stays d leads so.orders n steps so.narrow p (omega (arith, lt, other)) tested
  ];
}

-- the next is too wide
first_wide : (d : Diagram) (leads : List ℕ) (n : ℕ) → AreLeads d leads → AreNarrowUpto d leads n → IsTested d leads n →
    (steps : List Step) → IsWideBy d steps n (station_limit d leads) → IsWideBay d n
first_wide d leads n are so tested steps wide = record {
  leads = leads;
  are = are;
  tested = tested;
  orders = with_order so.orders n steps;
  wide =
      subst (λ (l : List Step). IsWideBy d l n (station_limit d leads))
      (sym (order_there so.orders n steps n (let e : n ≡ n = omega arith in e))) wide;
  before = before_stays d leads so.orders n steps so.narrow;
}

pub refusal_of : (d : Diagram) (leads : List ℕ) (n limit : ℕ) → AreLeads d leads → AreNarrowUpto d leads n →
    IsTested d leads n → limit ≡ station_limit d leads → (e : TestsRefusal) → IsRefusal (IsWideBeyond d n limit) e →
    IsRefusal (IsWideBay d) e
refusal_of d leads n limit are so tested same Memory is = is
refusal_of d leads n limit are so tested same (Wide b) is =
    let (steps, wide) = is.1 in
    subst (λ (k : ℕ). IsWideBay d k) (sym is.0)
    (first_wide d leads n are so tested steps
    (subst (λ (l : ℕ). IsWideBy d steps n l) same (subst (λ (k : ℕ). IsWideBy d steps k limit) is.0 wide)))
