-- One row more of the command line, and one word more that is read.
use Rattle.std.proofs.Common.{◌≡◌, ◌∙◌, ◌<◌, ◌+◌, ◌++◌, ap, sym, refl, ℕ, List, [], ◌∷◌, Option, Some, None, length}
use Rattle.std.proofs.Common.{map, fold, take, option_map, get_or}
use Rattle.std.specs.Prelude.{option_to_list}
use Rattle.std.specs.Borrow.{Bor}
use Rattle.std.specs.List.{cons_option, filter_map}
use Rattle.std.proofs.lemmas.List.{map-append, take_more}
use Rattle.std.proofs.lemmas.List.Sums.{fold-append}
use Rattle.std.proofs.lemmas.List.Elements.{filter_map-append}
use Rattle.clap.specs.Words.{App, Text, with_subcommand}
use Rattle.command_words.specs.Rows.{rows_from}
use Rattle.command_words.specs.App.{row_shape}

pub row_more : (rows : List (Bor Text × ℕ × ℕ)) (i : ℕ) (d : Bor Text × ℕ × ℕ) (old now new : App) → i < length rows
    → now ≡ fold with_subcommand old (map row_shape (rows_from (take i rows)))
    → new ≡ with_subcommand now (row_shape ((get_or rows i d).0.now, (get_or rows i d).1, (get_or rows i d).2))
    → new ≡ fold with_subcommand old (map row_shape (rows_from (take (i + 1) rows)))
row_more rows i d old now new within before added =
    let r = get_or rows i d in
    let shapes = map row_shape (rows_from (take i rows)) in
    let last = row_shape (r.0.now, r.1, r.2) ∷ [] in
    let more : map row_shape (rows_from (take (i + 1) rows)) ≡ shapes ++ last =
    ap (λ rs. map row_shape (rows_from rs)) (take_more rows i d within)
    ∙ ap (map row_shape) (map-append (λ (x : Bor Text × ℕ × ℕ). (x.0.now, x.1, x.2)) (take i rows) (r ∷ []))
    ∙ map-append row_shape (rows_from (take i rows)) ((r.0.now, r.1, r.2) ∷ []) in
    added
    ∙ ap (λ a. with_subcommand a (row_shape (r.0.now, r.1, r.2))) before
    ∙ sym (fold-append with_subcommand old shapes last)
    ∙ ap (fold with_subcommand old) (sym more)

pushed : (o : Option (Bor Text)) → map (λ w. w.now) (option_to_list o) ≡ cons_option (option_map (λ w. w.now) o) []
pushed None = refl
pushed (Some w) = refl

pub word_more : (first : Text → Option Text) (ids : List (Bor Text)) (i : ℕ) (d : Bor Text)
    (items more : List (Bor Text)) (o : Option (Bor Text)) → i < length ids
    → map (λ w. w.now) items ≡ filter_map first (map (λ id. id.now) (take i ids))
    → option_map (λ w. w.now) o ≡ first (get_or ids i d).now
    → more ≡ items ++ option_to_list o
    → map (λ w. w.now) more ≡ filter_map first (map (λ id. id.now) (take (i + 1) ids))
word_more first ids i d items more o within before found appended =
    let now = λ (w : Bor Text). w.now in
    ap (map now) appended
    ∙ map-append now items (option_to_list o)
    ∙ ap (λ t. t ++ map now (option_to_list o)) before
    ∙ ap (λ t. filter_map first (map now (take i ids)) ++ t) (pushed o ∙ ap (λ z. cons_option z []) found)
    ∙ sym (ap (λ t. filter_map first (map now t)) (take_more ids i d within)
    ∙ ap (filter_map first) (map-append now (take i ids) (get_or ids i d ∷ []))
    ∙ filter_map-append first (map now (take i ids)) ((get_or ids i d).now ∷ []))
