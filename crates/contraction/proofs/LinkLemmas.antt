-- What a link joins and touches.
use Rattle.std.proofs.Common.{◌≡◌, ◌⊎◌, ◌↔◌, ℕ, Bool, true, false, List, slice_get, Some, refl, sym, inl, inr, subst}
use Rattle.station_graph.specs.declared.items.Link.{Link}
use Rattle.station_graph.specs.Diagram.{Diagram}
use Rattle.station_graph.specs.Connection.{a_link}
use Rattle.station_graph.specs.Sharing.{Touches, AtLink}
use Rattle.contraction.specs.Answers.{Keeps}
use Rattle.contraction.proofs.ItemLemmas.{JoinsWhere}

module _ (d : Diagram) (i : ℕ) (x : Link) (listed : slice_get d.links i ≡ Some x) where
  pub joins_always : (u : List Bool) → JoinsWhere false d u (a_link i) x.first.0 x.second.0 true
  joins_always u = record {
    only = λ a b h. refl;
    joins = λ e a b ends. record { link = x; listed = listed; counts = λ on. absurd (cc); ends = ends };
  }

  pub joins_bond : (u : List Bool) → JoinsWhere true d u (a_link i) x.first.0 x.second.0 x.bond
  joins_bond u = record {
    only = λ a b h.
        let same : h.link ≡ x = cc (h.listed, listed) in
        subst (λ (y : Link). y.bond ≡ true) same (h.counts refl);
    joins = λ e a b ends. record { link = x; listed = listed; counts = λ on. e; ends = ends };
  }

-- two ends that are kept are the nodes of the link
pub link_nodes : (d : Diagram) (i : ℕ) (x : Link) (kept : List ℕ) → slice_get d.links i ≡ Some x →
    ((n : ℕ) → Keeps kept n ↔ ((n ≡ x.first.0) ⊎ (n ≡ x.second.0))) → (n : ℕ) → Keeps kept n ↔ Touches d (a_link i) n
link_nodes d i x kept listed ends n = (
  λ k. (x, listed, elim ((ends n).0 k) [ inl e ↦ inl (sym e) | inr e ↦ inr (sym e) ]),
  λ (y, there, at).
      let same : y ≡ x = cc (there, listed) in
      (ends n).1 (elim (subst (λ (z : Link). AtLink z n) same at) [ inl e ↦ inl (sym e) | inr e ↦ inr (sym e) ]),
)
