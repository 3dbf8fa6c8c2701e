use Rattle.std.proofs.Common.{◌≡◌, ◌⊎◌, ◌↔◌, ℕ, List, Bool, get_or, true, false, ◌∙◌, arith, inl, inr}
use Rattle.judge_graphs.specs.PartnerLabels.{TellsOf}
use Rattle.judge_graphs.proofs.partners.told_layers.Goals as goal

joined : (A B : Type 0) (first second both : List Bool) (j : ℕ) → (get_or both j false ≡ true) ↔
    ((get_or first j false ≡ true) ⊎ (get_or second j false ≡ true)) → (get_or first j false ≡ true) ↔ A →
    (get_or second j false ≡ true) ↔ B → (get_or both j false ≡ true) ↔ (A ⊎ B)
joined A B first second both j h f g = (
  λ e. elim (h.0 e) [ inl p ↦ inl (f.0 p) | inr q ↦ inr (g.0 q) ],
  λ e. elim e [ inl p ↦ h.1 (inl (f.1 p)) | inr q ↦ h.1 (inr (g.1 q)) ],
)

pub returns : goal.returns
returns c =
    let count = rw (c.deref.ensures.value) at c.in_ok-told.ensures.count in
    let either = rw (c.deref.ensures.value, c.deref-2.ensures.value) at c.in_ok-told.ensures.each in
    record {
      count = count ∙ c.in_ok-by_gap.ensures.count;
      tells = λ j lt. joined (TellsOf c.args.gap.now.outer.value c.args.gap.now.inner.items j)
          (TellsOf c.args.load.now.outer.value c.args.load.now.inner.items j) c.in_ok-by_gap.by_gap.items
          c.in_ok-by_load.by_load.items c.in_ok-told.told.items j
          (either j (omega (arith, lt, c.in_ok-by_gap.ensures.count)))
          (c.in_ok-by_gap.ensures.told j lt)
          (c.in_ok-by_load.ensures.told j (omega (arith, lt, c.requires.same)));
    }
