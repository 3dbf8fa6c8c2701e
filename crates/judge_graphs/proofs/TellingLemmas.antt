-- What is merged of the graphs of a part serves those of the next where they are the same.
use Rattle.std.proofs.Common.{◌≡◌, ℕ, suc, List, [], ◌∷◌, ◌++◌, length, slice_get, Option, Some, refl, sym, ap}
use Rattle.std.proofs.Common.{◌∙◌, subst, inl, inr, arith}
use Rattle.station_graph.proofs.PathLemmas.{slice_get-push}
use Rattle.decision_graphs.specs.Label.{Layered}
use Rattle.judge_graphs.specs.declared.graphs.BayGraphs.{BayGraphs}
use Rattle.judge_graphs.specs.declared.graphs.ViewGraphs.{ViewGraphs}
use Rattle.judge_graphs.specs.declared.graphs.Unmerged.{Unmerged}
use Rattle.judge_pool.specs.declared.view.View.{View}
use Rattle.judge_pool.specs.Lettered.{Lettered}
use Rattle.judge_graphs.specs.Built.{AreUnmerged}
use Rattle.judge_graphs.specs.PartnerLabels.{AreInnersOf}
use Rattle.judge_graphs.specs.Telling.{HasMerged, HaveMerged, AreOf}

-- lists with the same entries are the same
pub same_lists : {X : Type 0} (xs ys : List X) → length xs ≡ length ys →
    ((k : ℕ) (v w : X) → slice_get xs k ≡ Some v → slice_get ys k ≡ Some w → v ≡ w) → xs ≡ ys
same_lists [] [] len h = refl
same_lists [] (y ∷ ys) len h = absurd (omega (arith, len))
same_lists (x ∷ xs) [] len h = absurd (omega (arith, len))
same_lists (x ∷ xs) (y ∷ ys) len h =
    ap (λ z. z ∷ xs) (h 0 x y refl refl)
    ∙ ap (λ zs. y ∷ zs) (same_lists xs ys (omega (arith, len)) (λ k v w a b. h (suc k) v w a b))

-- graphs of a view are what they are made of
pub unmerged_of : (view : View) (a : Lettered) (b first count : ℕ) (g : ViewGraphs) (u : Unmerged) → AreOf g u →
    AreUnmerged view a b first count u.outer.value u.inner.items →
    AreUnmerged view a b first count g.outer.value g.inner.items
unmerged_of view a b first count g u are h =
    subst (λ x. AreUnmerged view a b first count x g.inner.items) (sym are.outer_is)
    (subst (λ xs. AreUnmerged view a b first count u.outer.value xs) (sym are.inner_is) h)

pub inners_again : (g : ViewGraphs) (u : Unmerged) → AreOf g u → AreInnersOf u.outer.value.labels u.inner.items →
    AreInnersOf g.outer.value.labels g.inner.items
inners_again g u are h =
    subst (λ (x : Layered). AreInnersOf x.labels g.inner.items) (sym are.outer_is)
    (subst (λ (xs : List Layered). AreInnersOf u.outer.value.labels xs) (sym are.inner_is) h)

pub merged_more : (bays : List (Option BayGraphs)) (g : Option BayGraphs) → HaveMerged bays → HasMerged g →
    HaveMerged (bays ++ g ∷ [])
merged_more bays g have h b x at = elim (slice_get-push bays g x b at) [
  | inl before ↦ have b x before
  | inr here ↦ subst (λ y. HasMerged y) here.1 h
]
