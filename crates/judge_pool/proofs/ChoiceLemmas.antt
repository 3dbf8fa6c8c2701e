-- How many choices layers have.
use Rattle.std.proofs.Common.{◌≡◌, ℕ, ◌<◌, zero, suc, List, [], ◌∷◌, length, get_or, map, drop, slice_get, Some, refl}
use Rattle.std.proofs.Common.{sym, ap, ◌∙◌, arith}
use Rattle.std.proofs.lemmas.List.{length-map}
use Rattle.std.proofs.lemmas.Option.{get_or_from_slice_get}
use Rattle.decision_graphs.specs.Label.{Layer, layer_at, AreChoices, AreLayers}

pub choices_each : (ls : List Layer) (cs : List ℕ) → length cs ≡ length ls →
    ((j c : ℕ) → slice_get cs j ≡ Some c → c < (layer_at ls j).choices) → AreChoices ls cs
choices_each [] [] len h = tt
choices_each [] (c ∷ cs) len h = absurd (omega (arith, len))
choices_each (l ∷ ls) [] len h = absurd (omega (arith, len))
choices_each (l ∷ ls) (c ∷ cs) len h = (h 0 c refl, choices_each ls cs (omega (arith, len)) (λ j x at. h (suc j) x at))

pub row_lengths : (rows : List (List ℕ)) (j : ℕ) → get_or (map length rows) j 0 ≡ length (get_or rows j [])
row_lengths [] zero = refl
row_lengths [] (suc j) = refl
row_lengths (r ∷ rs) zero = refl
row_lengths (r ∷ rs) (suc j) = row_lengths rs j

layers_choices : (ls : List Layer) (j : ℕ) → (layer_at ls j).choices ≡ get_or (map (λ (l : Layer). l.choices) ls) j 0
layers_choices [] zero = refl
layers_choices [] (suc j) = refl
layers_choices (l ∷ ls) zero = refl
layers_choices (l ∷ ls) (suc j) = layers_choices ls j

pub same_choices : (ls ms : List Layer) → map (λ (l : Layer). l.choices) ms ≡ map (λ (l : Layer). l.choices) ls →
    (j : ℕ) → (layer_at ms j).choices ≡ (layer_at ls j).choices
same_choices ls ms e j = layers_choices ms j ∙ (ap (λ xs. get_or xs j 0) e ∙ sym (layers_choices ls j))

pub same_count : (ls ms : List Layer) → map (λ (l : Layer). l.choices) ms ≡ map (λ (l : Layer). l.choices) ls →
    length ms ≡ length ls
same_count ls ms e =
    sym (length-map ms (λ (l : Layer). l.choices)) ∙ (ap length e ∙ length-map ls (λ (l : Layer). l.choices))

pub any_label : (labels : ℕ) (ls : List Layer) → AreLayers labels ls → 0 < labels
any_label labels [] fit = fit
any_label labels (l ∷ ls) fit = any_label labels ls fit.1

-- lists of choices depend on the numbers of choices alone
pub choices_on : (ls ms : List Layer) (cs : List ℕ) →
    map (λ (l : Layer). l.choices) ms ≡ map (λ (l : Layer). l.choices) ls → AreChoices ls cs → AreChoices ms cs
choices_on [] [] cs e h = h
choices_on [] (m ∷ ms) cs e h = cc
choices_on (l ∷ ls) [] cs e h = cc
choices_on (l ∷ ls) (m ∷ ms) [] e h = h
choices_on (l ∷ ls) (m ∷ ms) (c ∷ cs) e h =
    (omega (arith, h.0, ap (λ xs. get_or xs 0 0) e), choices_on ls ms cs (ap (λ xs. drop 1 xs) e) h.1)

-- plain layers too
pub plain_choices : (ls : List Layer) (rows : List (List ℕ)) (j : ℕ) (row : List ℕ) →
    map (λ (l : Layer). l.choices) ls ≡ map length rows → slice_get rows j ≡ Some row →
    (layer_at ls j).choices ≡ length row
plain_choices ls rows j row same at =
    layers_choices ls j
    ∙ (ap (λ xs. get_or xs j 0) same ∙ (row_lengths rows j ∙ ap length (get_or_from_slice_get rows j row [] at)))
