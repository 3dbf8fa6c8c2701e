use Rattle.std.proofs.Common.{◌≡◌, ◌∙◌, sym, inl, inr}
use Rattle.program_text.specs.declared.place.Place.TheVariants.{Nowhere, Inside, Named}
use Rattle.program_text.proofs.PlaceLemmas.{at_place, place_is}
use Rattle.program_text.proofs.places.is_read.Goals as goal

pub returns-in-Inside-clause-yes : goal.returns-in-Inside-clause-yes
returns-in-Inside-clause-yes c _ =
    inr (at_place c.args.places.now c.args.number Inside (sym c.in-Inside.ensures) (λ e. cc e))

pub returns-in-Named-clause-yes : goal.returns-in-Named-clause-yes
returns-in-Named-clause-yes c _ =
    inl (at_place c.args.places.now c.args.number Named (sym c.in-Named.ensures) (λ e. cc e))

pub returns-in-Nowhere-clause-no : goal.returns-in-Nowhere-clause-no
returns-in-Nowhere-clause-no c read =
    elim read [
      | inl named ↦
          let e : Nowhere ≡ Named = c.in-Nowhere.ensures ∙ place_is c.args.places.now c.args.number Named named in absurd (cc e)
      | inr inside ↦
          let e : Nowhere ≡ Inside = c.in-Nowhere.ensures ∙ place_is c.args.places.now c.args.number Inside inside in
          absurd (cc e)
    ]
