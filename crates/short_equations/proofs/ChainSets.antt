-- What stands for the parts before one, for one and for those after it, put together.
use Rattle.std.proofs.Common.{◌+◌, List, inl, inr, arith}
use Rattle.std.proofs.lemmas.Bool.{cases_eq, cases_lt}
use Rattle.ilk_base.specs.declared.words.BayId.{BayId}
use Rattle.station_graph.specs.Diagram.{Diagram, IsStation}
use Rattle.interlock_terms.specs.declared.term.Term.{Term}
use Rattle.short_equations.specs.declared.edge.Edge.{Edge}
use Rattle.short_equations.specs.declared.view.View.{View}
use Rattle.short_equations.specs.declared.part_set.PartSet.TheVariants.{Only, Below, From, But}
use Rattle.short_equations.specs.Fragments.{InParts, StandsForItems, ComposedOf}
use Rattle.short_equations.proofs.ChainLemmas.{stands_two}

module _ (view : View) (d : Diagram) (station : IsStation d) (terms : List Term) (here : BayId)
    (first second new : List Edge) where
  -- those before a part, and it
  pub one_more : StandsForItems view d terms (InParts d (Below here.0)) first →
      StandsForItems view d terms (InParts d (Only here)) second →
      ComposedOf d (Below (here.0 + 1)) terms first second new →
      StandsForItems view d terms (InParts d (Below (here.0 + 1))) new
  one_more = stands_two view d station terms (Below here.0) (Only here) (Below (here.0 + 1))
      (λ q h. omega (arith, h)) (λ q e. omega (arith, e))
      (λ q h. elim (cases_eq q here.0) [ inl e ↦ inr e | inr far ↦ inl (omega (arith, h, far)) ])
      (λ q h e. omega (arith, h, e)) first second new

  -- those before a part, and those after it
  pub all_others : StandsForItems view d terms (InParts d (Below here.0)) first →
      StandsForItems view d terms (InParts d (From (here.0 + 1))) second → ComposedOf d (But here) terms first second new →
      StandsForItems view d terms (InParts d (But here)) new
  all_others = stands_two view d station terms (Below here.0) (From (here.0 + 1)) (But here)
      (λ q h e. omega (arith, h, e)) (λ q h e. omega (arith, h, e))
      (λ q ne. elim (cases_lt q here.0) [ inl low ↦ inl low | inr high ↦ inr (omega (arith, high, ne)) ])
      (λ q h e. omega (arith, h, e)) first second new

  -- a part, and those after it
  pub from_here : StandsForItems view d terms (InParts d (Only here)) first →
      StandsForItems view d terms (InParts d (From (here.0 + 1))) second →
      ComposedOf d (From here.0) terms first second new → StandsForItems view d terms (InParts d (From here.0)) new
  from_here = stands_two view d station terms (Only here) (From (here.0 + 1)) (From here.0)
      (λ q e. omega (arith, e)) (λ q h. omega (arith, h))
      (λ q h. elim (cases_eq q here.0) [ inl e ↦ inl e | inr far ↦ inr (omega (arith, h, far)) ])
      (λ q e h. omega (arith, h, e)) first second new
