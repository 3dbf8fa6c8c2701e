use Rattle.std.proofs.Common.{◌≡◌, ◌∙◌, get_or, ap}
use Rattle.std.specs.Prelude.{unwrap_or}
use Rattle.std.proofs.lemmas.Option.{unwrap_or-slice_get}
use Rattle.interlock_terms.specs.declared.term.Term.{Term}
use Rattle.interlock_terms.specs.declared.term.Term.TheVariants.{Always}
use Rattle.program_text.specs.declared.place.Place.{Place}
use Rattle.program_text.specs.declared.place.Place.TheVariants.{Nowhere}
use Rattle.program_text.specs.TermLines.{operand_in}
use Rattle.program_text.proofs.term_lines.side_of.Goals as goal

pub returns : goal.returns
returns c =
    let terms = c.args.terms.now in
    let places = c.args.places.now in
    let n = c.args.number in
    let term : c.unwrap_or-term.result ≡ get_or terms n Always =
    c.unwrap_or-term.ensures ∙ (ap (λ o. unwrap_or o Always) c.term.ensures.value ∙ unwrap_or-slice_get terms n Always) in
    c.operand_of.ensures
    ∙ (ap (λ (p : Place). operand_in c.args.reading p c.unwrap_or-term.result n) c.place_at.ensures
    ∙ ap (λ (t : Term). operand_in c.args.reading (get_or places n Nowhere) t n) term)
