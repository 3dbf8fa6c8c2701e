-- Labels that no inner graph tells apart have one name, and others do not.
use Rattle.std.proofs.Common.{◌≡◌, ◌≢◌, ℕ, ◌<◌, ◌⊎◌, ◌↔◌, zero, suc, List, [], ◌∷◌, length, drop, get_or, slice_get}
use Rattle.std.proofs.Common.{Some, refl, sym, ap, ◌∙◌, subst, inl, inr, arith}
use Rattle.std.proofs.lemmas.Bool.{cases_eq, cases_order}
use Rattle.std.proofs.lemmas.Option.{none-some, same_Some}
use Rattle.decision_graphs.specs.Label.{Layer, Layered, layer_at, step, leads, label_of, AreChoices, AreLayers}
use Rattle.decision_graphs.specs.Label.{AreReduced, DependsOn}
use Rattle.decision_graphs.proofs.ReducedLemmas.{differ}
use Rattle.judge_graphs.specs.PartnerLabels.{entry, IsInnerOf, AreInnersOf, TellsNot, AreOne, AreLeastLabels, IsRenamed}
use Rattle.judge_graphs.specs.PartnerLabels.{TellsOf}
use Rattle.judge_graphs.proofs.PartnerChoices.{choices_same, label_below}

same_from : (ls : List Layer) (x y : ℕ) (ds : List ℕ) → 0 < length ls →
    step (layer_at ls 0) 0 x ≡ step (layer_at ls 0) 0 y → leads ls 0 (x ∷ ds) ≡ leads ls 0 (y ∷ ds)
same_from [] x y ds some e = absurd (omega (arith, some))
same_from (l ∷ ls) x y ds some e = ap (λ n. leads ls n ds) e

told_from : (labels : ℕ) (ls : List Layer) (x y : ℕ) → AreLayers labels ls → AreReduced ls → 0 < length ls →
    x < (layer_at ls 0).choices → y < (layer_at ls 0).choices → step (layer_at ls 0) 0 x ≢ step (layer_at ls 0) 0 y →
    (ds : List ℕ) × (AreChoices (drop 1 ls) ds) × (leads ls 0 (x ∷ ds) ≢ leads ls 0 (y ∷ ds))
told_from labels [] x y fit reduced some in_x in_y ne = absurd (omega (arith, some))
told_from labels (l ∷ ls) x y fit reduced some in_x in_y ne =
    let d = differ labels ls (step l 0 x) (step l 0 y) fit.1 reduced.1 (fit.0.edges 0 x fit.0.nodes in_x)
    (fit.0.edges 0 y fit.0.nodes in_y) ne in
    (d.0, d.1.0, d.1.1)

-- some inner graph tells the two labels apart, with these other choices
pub record SomeTells (inners : List Layered) (x y : ℕ) : Type 0 where
  pub place : ℕ
  pub graph : Layered
  pub listed : slice_get inners place ≡ Some graph
  pub rest : List ℕ
  pub rest_fits : AreChoices (drop 1 graph.layers) rest
  pub apart : label_of graph (x ∷ rest) ≢ label_of graph (y ∷ rest)

-- A REDUCED INNER GRAPH TELLS TWO LABELS APART exactly where it leads them to different places
pub entries_tell : (labels : ℕ) (g : Layered) (x y : ℕ) → IsInnerOf labels g → x < labels → y < labels →
    entry g x ≢ entry g y →
    (ds : List ℕ) × (AreChoices (drop 1 g.layers) ds) × (label_of g (x ∷ ds) ≢ label_of g (y ∷ ds))
entries_tell labels g x y inner in_x in_y ne =
    told_from g.labels g.layers x y inner.fits inner.reduced inner.some (omega (arith, in_x, inner.outer))
    (omega (arith, in_y, inner.outer)) ne

pub tells_not : (labels : ℕ) (g : Layered) (x y : ℕ) → IsInnerOf labels g → x < labels → y < labels →
    (entry g x ≡ entry g y) ↔ TellsNot g x y
tells_not labels g x y inner in_x in_y = (λ e ds fit. same_from g.layers x y ds inner.some e, back) where
  back : TellsNot g x y → entry g x ≡ entry g y
  back same = elim (cases_eq (entry g x) (entry g y)) [
    | inl e ↦ e
    | inr ne ↦ (let t = entries_tell labels g x y inner in_x in_y ne in absurd (t.2 (same t.0 t.1)))
  ]

-- no inner graph tells the two apart, or some inner graph does
pub tells_cases : (labels : ℕ) (inners : List Layered) (x y : ℕ) → AreInnersOf labels inners → x < labels → y < labels →
    AreOne inners x y ⊎ SomeTells inners x y
tells_cases labels [] x y are in_x in_y = inl (λ i g at. absurd (none-some g at))
tells_cases labels (h ∷ hs) x y are in_x in_y = elim (cases_eq (entry h x) (entry h y)) [
  | inr ne ↦
      (let t = entries_tell labels h x y (are 0 h refl) in_x in_y ne in
      inr (record { place = 0; graph = h; listed = refl; rest = t.0; rest_fits = t.1; apart = t.2 }))
  | inl e ↦ elim (tells_cases labels hs x y (λ i g at. are (suc i) g at) in_x in_y) [
    | inl one ↦ inl (both e one)
    | inr t ↦
        inr (record {
          place = suc t.place;
          graph = t.graph;
          listed = t.listed;
          rest = t.rest;
          rest_fits = t.rest_fits;
          apart = t.apart;
        })
  ]
]
  where
    both : entry h x ≡ entry h y → AreOne hs x y → AreOne (h ∷ hs) x y
    both e one zero g at =
        subst (λ k. TellsNot k x y) (same_Some h g at) ((tells_not labels h x y (are 0 h refl) in_x in_y).0 e)
    both e one (suc i) g at = one i g at

pub one_sym : (inners : List Layered) (x y : ℕ) → AreOne inners x y → AreOne inners y x
one_sym inners x y one i g at ds fit = sym (one i g at ds fit)

pub one_trans : (inners : List Layered) (x y z : ℕ) → AreOne inners x y → AreOne inners y z → AreOne inners x z
one_trans inners x y z one two i g at ds fit = one i g at ds fit ∙ two i g at ds fit

-- TWO LABELS HAVE ONE NAME exactly where no inner graph tells them apart
module _ (inners : List Layered) (labels : ℕ) (names : List ℕ) (are : AreLeastLabels inners labels names) (x y : ℕ)
    (in_x : x < labels) (in_y : y < labels) where
  names_same : AreOne inners x y → get_or names x 0 ≡ get_or names y 0
  names_same one =
      let p = are.each x in_x in
      let q = are.each y in_y in
      elim (cases_order (get_or names x 0) (get_or names y 0)) [
        | inl e ↦ e
        | inr order ↦ elim order [
          | inl less ↦ absurd (q.least (get_or names x 0) less (one_trans inners (get_or names x 0) x y p.one one))
          | inr more ↦
              absurd (p.least (get_or names y 0) more
              (one_trans inners (get_or names y 0) y x q.one (one_sym inners x y one)))
        ]
      ]

  names_one : get_or names x 0 ≡ get_or names y 0 → AreOne inners x y
  names_one e =
      let p = are.each x in_x in
      let q = are.each y in_y in
      one_trans inners x (get_or names x 0) y (one_sym inners (get_or names x 0) x p.one)
      (subst (λ n. AreOne inners n y) (sym e) q.one)

  pub names_exact : (get_or names x 0 ≡ get_or names y 0) ↔ AreOne inners x y
  names_exact = (names_one, names_same)

-- THE COPY DEPENDS ON A LAYER exactly where the inner graphs tell of it
module _ (outer : Layered) (inners : List Layered) (fits : AreLayers outer.labels outer.layers)
    (are : AreInnersOf outer.labels inners) (names : List ℕ) (are_names : AreLeastLabels inners outer.labels names)
    (copy : Layered) (renamed : IsRenamed outer names copy) (j : ℕ) (j_in : j < length outer.layers) where
  some : 0 < length outer.layers
  some = omega (arith, j_in)

  tells_from_depends : DependsOn copy j → TellsOf outer inners j
  tells_from_depends dep =
      by (tells_cases outer.labels inners (label_of outer dep.one) (label_of outer dep.other) are in_one in_other) where
        fit_one : AreChoices outer.layers dep.one
        fit_one = choices_same copy.layers outer.layers dep.one (sym renamed.choices) dep.one_fits

        fit_other : AreChoices outer.layers dep.other
        fit_other = choices_same copy.layers outer.layers dep.other (sym renamed.choices) dep.other_fits

        in_one : label_of outer dep.one < outer.labels
        in_one = label_below outer dep.one fits fit_one

        in_other : label_of outer dep.other < outer.labels
        in_other = label_below outer dep.other fits fit_other

        by : AreOne inners (label_of outer dep.one) (label_of outer dep.other)
            ⊎ SomeTells inners (label_of outer dep.one) (label_of outer dep.other) → TellsOf outer inners j
        by (inl one) = absurd (dep.labels_differ (
            renamed.label some dep.one fit_one
            ∙ ((names_exact inners outer.labels names are_names (label_of outer dep.one)
            (label_of outer dep.other) in_one
            in_other).1 one
            ∙ sym (renamed.label some dep.other fit_other))))
        by (inr t) = record {
          one = dep.one;
          other = dep.other;
          one_fits = fit_one;
          other_fits = fit_other;
          agree = dep.agree;
          place = t.place;
          graph = t.graph;
          listed = t.listed;
          rest = t.rest;
          rest_fits = t.rest_fits;
          apart = t.apart;
        }

  depends_from_tells : TellsOf outer inners j → DependsOn copy j
  depends_from_tells t = record {
    one = t.one;
    other = t.other;
    one_fits = choices_same outer.layers copy.layers t.one renamed.choices t.one_fits;
    other_fits = choices_same outer.layers copy.layers t.other renamed.choices t.other_fits;
    agree = t.agree;
    labels_differ = λ q.
        let same : get_or names (label_of outer t.one) 0 ≡ get_or names (label_of outer t.other) 0 =
        sym (renamed.label some t.one t.one_fits) ∙ (q ∙ renamed.label some t.other t.other_fits) in
        let one : AreOne inners (label_of outer t.one) (label_of outer t.other) =
        (names_exact inners outer.labels names are_names (label_of outer t.one) (label_of outer t.other)
        (label_below outer t.one fits t.one_fits) (label_below outer t.other fits t.other_fits)).0 same in
        t.apart (one t.place t.graph t.listed t.rest t.rest_fits);
  }

  pub depends_exactly : DependsOn copy j ↔ TellsOf outer inners j
  depends_exactly = (tells_from_depends, depends_from_tells)
