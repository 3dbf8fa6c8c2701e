use Rattle.std.proofs.Common.{◌≡◌, ◌∙◌, sym}
use Rattle.program_text.specs.declared.place.Place.TheVariants.{Nowhere, Inside, Named}
use Rattle.program_text.proofs.PlaceLemmas.{at_place, place_is}
use Rattle.program_text.proofs.places.is_named.Goals as goal

pub returns-in-Named-clause-yes : goal.returns-in-Named-clause-yes
returns-in-Named-clause-yes c _ = at_place c.args.places.now c.args.number Named (sym c.in-Named.ensures) (λ e. cc e)

pub returns-in-Inside-clause-no : goal.returns-in-Inside-clause-no
returns-in-Inside-clause-no c named =
    let e : Inside ≡ Named = c.in-Inside.ensures ∙ place_is c.args.places.now c.args.number Named named in absurd (cc e)

pub returns-in-Nowhere-clause-no : goal.returns-in-Nowhere-clause-no
returns-in-Nowhere-clause-no c named =
    let e : Nowhere ≡ Named = c.in-Nowhere.ensures ∙ place_is c.args.places.now c.args.number Named named in absurd (cc e)
