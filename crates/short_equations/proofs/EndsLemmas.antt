-- Where two nodes alone are left, what one sees is one step away, or two over the other.
use Rattle.std.proofs.Common.{◌≡◌, ◌≢◌, ◌⊎◌, ◌<◌, ℕ, List, [], ◌∷◌, refl, sym, ◌∙◌, subst, inl, inr}
use Rattle.std.proofs.lemmas.Bool.{cases_eq}
use Rattle.station_graph.specs.Connection.{Linked, LeadsTo}
use Rattle.short_equations.specs.Standing.{Replaces}

-- the relation leads from a and from b alone
abbrev pub FromTwo : (ℕ → ℕ → Type 0) → ℕ → ℕ → Type 0
FromTwo S a b = (c d : ℕ) → S c d → (c ≡ a) ⊎ (c ≡ b)

module _ (S : ℕ → ℕ → Type 0) (a b : ℕ) (two : FromTwo S a b) where
  -- a way onwards begins at a or b
  starts : (y z : ℕ) (ys : List ℕ) → LeadsTo S y ys z → y ≢ z → (y ≡ a) ⊎ (y ≡ b)
  starts y z [] k ne = absurd (ne k)
  starts y z (w ∷ ws) k ne = two y w k.0

  module _ (z : ℕ) (not_a : z ≢ a) (not_b : z ≢ b) where
    goes : (x : ℕ) (xs : List ℕ) → (x ≡ a) ⊎ ((x ≡ b) × S a b) → LeadsTo S x xs z → S a z ⊎ (S a b × S b z)
    goes x [] (inl e) k = absurd (not_a (sym k ∙ e))
    goes x [] (inr e) k = absurd (not_b (sym k ∙ e.0))
    goes x (y ∷ ys) (inl e) k =
        let s : S a y = subst (λ n. S n y) e k.0 in elim (cases_eq y z) [
          | inl q ↦ inl (subst (S a) q s)
          | inr ne ↦ elim (starts y z ys k.1 (λ q. ne (q))) [
            | inl r ↦ goes y ys (inl r) k.1
            | inr r ↦ goes y ys (inr (r, subst (S a) r s)) k.1
          ]
        ]
    goes x (y ∷ ys) (inr e) k =
        let s : S b y = subst (λ n. S n y) e.0 k.0 in elim (cases_eq y z) [
          | inl q ↦ inr (e.1, subst (S b) q s)
          | inr ne ↦ elim (starts y z ys k.1 (λ q. ne (q))) [
            | inl r ↦ goes y ys (inl r) k.1
            | inr r ↦ goes y ys (inr (r, e.1)) k.1
          ]
        ]

    pub seen_from : Linked S a z → S a z ⊎ (S a b × S b z)
    seen_from l = goes a l.after (inl refl) l.leads

  reaches : (x : ℕ) (xs : List ℕ) → a ≢ b → x ≡ a → LeadsTo S x xs b → S a b
  reaches x [] ne e k = absurd (ne (sym e ∙ k))
  reaches x (y ∷ ys) ne e k =
      let s : S a y = subst (λ n. S n y) e k.0 in elim (cases_eq y b) [
        | inl q ↦ subst (S a) q s
        | inr far ↦ elim (starts y b ys k.1 (λ q. far (q))) [
          | inl r ↦ reaches y ys ne r k.1
          | inr r ↦ absurd (far r)
        ]
      ]

  pub step_between : a ≢ b → Linked S a b → S a b
  step_between ne l = reaches a l.after ne refl l.leads

-- what leads from nodes of the station that are not gone leads from the ends
pub from_ends : (nodes : ℕ) (a b : ℕ) (Gone : ℕ → Type 0) (R S : ℕ → ℕ → Type 0) → Replaces Gone R S →
    ((c d : ℕ) → R c d → c < nodes) → ((n : ℕ) → n < nodes → n ≢ a → n ≢ b → Gone n) → FromTwo S a b
from_ends nodes a b Gone R S h within gone c d s = elim (cases_eq c a) [
  | inl e ↦ inl e
  | inr na ↦ elim (cases_eq c b) [
    | inl e ↦ inr e
    | inr nb ↦
        let r = h.from_end c d s in
        absurd (h.clear.from c d s (gone c (within c r.0 r.1) (λ e. na (e)) (λ e. nb (e))))
  ]
]
