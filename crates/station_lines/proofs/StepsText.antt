-- The text of the lines of steps, step by step.
use Rattle.std.proofs.Common.{◌≡◌, ℕ, ◌<◌, ◌≤◌, ◌+◌, List, [], ◌∷◌, ◌++◌, length, take, map, get_or, refl, ap, ◌∙◌, sym}
use Rattle.std.proofs.Common.{append_assoc, Bool}
use Rattle.std.specs.List.{flat_map}
use Rattle.std.proofs.lemmas.List.{map-append, append-nil, take_more, take_all}
use Rattle.std.proofs.lemmas.List.Concat.{flat_map-append}
use Rattle.ssd_read.specs.Steps.{Step, tap_step, tap_steps, link_step, links_after}
use Rattle.ssd_read.proofs.Linked.{last_of, links_split}
use Rattle.station_lines.specs.Rows.{row_text, text_of}
use Rattle.station_lines.specs.Lines.{step_row, step_rows, steps_text, AddsSteps}

module _ (nodes : List (List ℕ)) (word path : List ℕ) where
  steps_both : (ss ts : List Step) → steps_text nodes word path (ss ++ ts)
      ≡ steps_text nodes word path ss ++ steps_text nodes word path ts
  steps_both ss ts =
      ap text_of (map-append (step_row nodes word path) ss ts)
      ∙ flat_map-append row_text (step_rows nodes word path ss) (step_rows nodes word path ts)

  pub adds_none : (old : List ℕ) → AddsSteps nodes word path [] old old
  adds_none old = sym (append-nil old)

  pub adds_both : (ss ts : List Step) (old mid new : List ℕ) → AddsSteps nodes word path ss old mid →
      AddsSteps nodes word path ts mid new → AddsSteps nodes word path (ss ++ ts) old new
  adds_both ss ts old mid new h g =
      g ∙ (ap (λ (l : List ℕ). l ++ steps_text nodes word path ts) h
      ∙ (append_assoc old (steps_text nodes word path ss) (steps_text nodes word path ts)
      ∙ ap (λ (l : List ℕ). old ++ l) (sym (steps_both ss ts))))

  pub taps_next : (part : ℕ) (ns : List ℕ) (i : ℕ) (old mid new : List ℕ) → i < length ns →
      AddsSteps nodes word path (tap_steps part (take i ns)) old mid →
      AddsSteps nodes word path (tap_step part (get_or ns i 0) ∷ []) mid new →
      AddsSteps nodes word path (tap_steps part (take (i + 1) ns)) old new
  taps_next part ns i old mid new l h g =
      adds_both (tap_steps part (take i ns)) (tap_step part (get_or ns i 0) ∷ []) old mid new h g
      ∙ ap (λ ss. old ++ steps_text nodes word path ss)
      (sym (ap (tap_steps part) (take_more ns i 0 l)
      ∙ flat_map-append (λ n. tap_step part n ∷ []) (take i ns) (get_or ns i 0 ∷ [])))

  pub taps_whole : (part : ℕ) (ns : List ℕ) (i : ℕ) (old new : List ℕ) → length ns ≤ i →
      AddsSteps nodes word path (tap_steps part (take i ns)) old new →
      AddsSteps nodes word path (tap_steps part ns) old new
  taps_whole part ns i old new l h =
      h ∙ ap (λ (ms : List ℕ). old ++ steps_text nodes word path (tap_steps part ms)) (take_all i ns l)

  pub links_next : (bond : Bool) (part a last : ℕ) (ns : List ℕ) (i : ℕ) (old mid new : List ℕ) → i < length ns →
      last ≡ last_of a (take i ns) → AddsSteps nodes word path (links_after bond part a (take i ns)) old mid →
      AddsSteps nodes word path (link_step bond part last (get_or ns i 0)) mid new →
      AddsSteps nodes word path (links_after bond part a (take (i + 1) ns)) old new
  links_next bond part a last ns i old mid new l e h g =
      let b : ℕ = get_or ns i 0 in
      let parts : links_after bond part a (take (i + 1) ns)
      ≡ links_after bond part a (take i ns) ++ link_step bond part last b =
      ap (links_after bond part a) (take_more ns i 0 l) ∙ (links_split bond part a (take i ns) (b ∷ [])
      ∙ (ap (λ (m : ℕ). links_after bond part a (take i ns) ++ (link_step bond part m b ++ [])) (sym e)
      ∙ ap (λ (ss : List Step). links_after bond part a (take i ns) ++ ss) (append-nil (link_step bond part last b)))) in
      adds_both (links_after bond part a (take i ns)) (link_step bond part last b) old mid new h g
      ∙ ap (λ ss. old ++ steps_text nodes word path ss) (sym parts)

  pub links_whole : (bond : Bool) (part a : ℕ) (ns : List ℕ) (i : ℕ) (old new : List ℕ) → length ns ≤ i →
      AddsSteps nodes word path (links_after bond part a (take i ns)) old new →
      AddsSteps nodes word path (links_after bond part a ns) old new
  links_whole bond part a ns i old new l h =
      h ∙ ap (λ (ms : List ℕ). old ++ steps_text nodes word path (links_after bond part a ms)) (take_all i ns l)

  -- the line of one step
  pub adds_row : (s : Step) (old new : List ℕ) → new ≡ old ++ row_text (step_row nodes word path s) →
      AddsSteps nodes word path (s ∷ []) old new
  adds_row s old new h =
      h ∙ ap (λ (l : List ℕ). old ++ l) (sym (append-nil (row_text (step_row nodes word path s))))
