use Rattle.std.proofs.Common.{◌≡◌, ◌∙◌, sym}
use Rattle.program_text.specs.declared.place.Place.TheVariants.{Nowhere, Inside, Named}
use Rattle.program_text.proofs.PlaceLemmas.{at_place, place_is}
use Rattle.program_text.proofs.places.is_inside.Goals as goal

pub returns-in-Inside-clause-yes : goal.returns-in-Inside-clause-yes
returns-in-Inside-clause-yes c _ = at_place c.args.places.now c.args.number Inside (sym c.in-Inside.ensures) (λ e. cc e)

pub returns-in-Named-clause-no : goal.returns-in-Named-clause-no
returns-in-Named-clause-no c inside =
    let e : Named ≡ Inside = c.in-Named.ensures ∙ place_is c.args.places.now c.args.number Inside inside in absurd (cc e)

pub returns-in-Nowhere-clause-no : goal.returns-in-Nowhere-clause-no
returns-in-Nowhere-clause-no c inside =
    let e : Nowhere ≡ Inside = c.in-Nowhere.ensures ∙ place_is c.args.places.now c.args.number Inside inside in absurd (cc e)
