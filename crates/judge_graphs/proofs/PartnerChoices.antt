-- Lists of choices, and where they lead.
use Rattle.std.proofs.Common.{◌≡◌, ℕ, ◌<◌, zero, suc, List, [], ◌∷◌, length, drop, map, get_or, set, slice_get, Some}
use Rattle.std.proofs.Common.{refl, ap, subst, arith}
use Rattle.std.proofs.lemmas.Option.{same_Some}
use Rattle.decision_graphs.specs.Label.{Layer, Layered, layer_at, step, leads, label_of, AreChoices, AreLayers, size_at}

pub count_choices : (ls : List Layer) (cs : List ℕ) → AreChoices ls cs → length cs ≡ length ls
count_choices [] [] fit = refl
count_choices [] (c ∷ cs) fit = absurd fit
count_choices (l ∷ ls) [] fit = absurd fit
count_choices (l ∷ ls) (c ∷ cs) fit = ap suc (count_choices ls cs fit.1)

pub choice_in : (ls : List Layer) (cs : List ℕ) (j : ℕ) → AreChoices ls cs → j < length ls →
    get_or cs j 0 < (layer_at ls j).choices
choice_in [] cs j fit lt = absurd (omega arith)
choice_in (l ∷ ls) [] j fit lt = absurd fit
choice_in (l ∷ ls) (c ∷ cs) zero fit lt = fit.0
choice_in (l ∷ ls) (c ∷ cs) (suc j) fit lt = choice_in ls cs j fit.1 (omega (arith, lt))

pub choices_set : (ls : List Layer) (cs : List ℕ) (j c : ℕ) → AreChoices ls cs → c < (layer_at ls j).choices →
    AreChoices ls (set cs j c)
choices_set [] [] j c fit lt = tt
choices_set [] (x ∷ cs) j c fit lt = absurd fit
choices_set (l ∷ ls) [] j c fit lt = absurd fit
choices_set (l ∷ ls) (x ∷ cs) zero c fit lt = (lt, fit.1)
choices_set (l ∷ ls) (x ∷ cs) (suc j) c fit lt = (fit.0, choices_set ls cs j c fit.1 lt)

pub choices_cons : (ls : List Layer) (x : ℕ) (ds : List ℕ) → 0 < length ls → x < (layer_at ls 0).choices →
    AreChoices (drop 1 ls) ds → AreChoices ls (x ∷ ds)
choices_cons [] x ds some lt fit = absurd (omega (arith, some))
choices_cons (l ∷ ls) x ds some lt fit = (lt, fit)

pub choices_same : (ls ms : List Layer) (cs : List ℕ) →
    map (λ (l : Layer). l.choices) ms ≡ map (λ (l : Layer). l.choices) ls → AreChoices ls cs → AreChoices ms cs
choices_same [] [] cs e fit = fit
choices_same [] (m ∷ ms) cs e fit = absurd (let h : ⊥ = cc in h)
choices_same (l ∷ ls) [] cs e fit = absurd (let h : ⊥ = cc in h)
choices_same (l ∷ ls) (m ∷ ms) [] e fit = absurd fit
choices_same (l ∷ ls) (m ∷ ms) (c ∷ cs) e fit =
    let head : m.choices ≡ l.choices = cc in
    let tail : map (λ (l : Layer). l.choices) ms ≡ map (λ (l : Layer). l.choices) ls = cc in
    (rw head fit.0, choices_same ls ms cs tail fit.1)

pub some_node : (labels : ℕ) (ls : List Layer) → AreLayers labels ls → 0 < size_at labels ls 0
some_node labels [] fit = fit
some_node labels (l ∷ ls) fit = fit.0.nodes

leads_below : (labels : ℕ) (ls : List Layer) (k : ℕ) (cs : List ℕ) → AreLayers labels ls → k < size_at labels ls 0 →
    AreChoices ls cs → leads ls k cs < labels
leads_below labels [] k cs fit lt choices = lt
leads_below labels (l ∷ ls) k [] fit lt choices = absurd choices
leads_below labels (l ∷ ls) k (c ∷ cs) fit lt choices =
    leads_below labels ls (step l k c) cs fit.1 (fit.0.edges k c lt choices.0) choices.1

pub label_below : (g : Layered) (cs : List ℕ) → AreLayers g.labels g.layers → AreChoices g.layers cs →
    label_of g cs < g.labels
label_below g cs fit choices = leads_below g.labels g.layers 0 cs fit (some_node g.labels g.layers fit) choices

-- one choice for each layer that has what is wanted, as a list
pub gather : (ls : List Layer) (Has : ℕ → ℕ → Type 0) →
    ((j : ℕ) → j < length ls → (c : ℕ) × (c < (layer_at ls j).choices) × Has j c) →
    (cs : List ℕ) × AreChoices ls cs × ((j c : ℕ) → slice_get cs j ≡ Some c → Has j c)
gather [] Has h = ([], tt, λ j c e. absurd (let no : ⊥ = cc in no))
gather (l ∷ ls) Has h =
    let x = h 0 (omega arith) in
    let r = gather ls (λ j c. Has (suc j) c) (λ j lt. h (suc j) (omega (arith, lt))) in
    (x.0 ∷ r.0, (x.1, r.1), entries x.0 r.0 x.2 r.2)
  where
    entries : (y : ℕ) (cs : List ℕ) → Has 0 y → ((j c : ℕ) → slice_get cs j ≡ Some c → Has (suc j) c) → (j c : ℕ) →
        slice_get (y ∷ cs) j ≡ Some c → Has j c
    entries y cs p q zero c e = subst (λ z. Has 0 z) (same_Some y c e) p
    entries y cs p q (suc j) c e = q j c e

pub some_label : (labels : ℕ) (ls : List Layer) → AreLayers labels ls → 0 < labels
some_label labels [] fit = fit
some_label labels (l ∷ ls) fit = some_label labels ls fit.1
