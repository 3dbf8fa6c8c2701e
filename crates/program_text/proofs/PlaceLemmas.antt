-- Places of formulas rise.
use Rattle.std.proofs.Common.{◌≡◌, ◌≢◌, ◌∙◌, ℕ, zero, suc, List, [], ◌∷◌, slice_get, get_or, Some}
use Rattle.std.proofs.Common.{sym, ap, arith}
use Rattle.std.proofs.lemmas.Option.{get_or_from_slice_get}
use Rattle.interlock_terms.specs.declared.term.Term.{Term}
use Rattle.interlock_terms.specs.declared.term.Term.TheVariants.{Always, Closed, Both, Either}
use Rattle.structured_text.specs.declared.name.Name.{Name}
use Rattle.program_text.specs.declared.place.Place.{Place}
use Rattle.program_text.specs.declared.place.Place.TheVariants.{Nowhere}
use Rattle.program_text.specs.declared.reading.Reading.{Reading}
use Rattle.program_text.specs.Places.{HaveRisen, EachNamed, IsOfTwo}
use Rattle.program_text.specs.Places.{IsSet}

pub risen_on : (xs ys zs : List Place) → HaveRisen xs ys → HaveRisen ys zs → HaveRisen xs zs
risen_on xs ys zs f g = record {
  len = g.len ∙ f.len;
  named = λ n h. g.named n (f.named n h);
  read = λ n h. g.read n (f.read n h);
}

-- ---- what a place that is read out says
pub at_place : (xs : List Place) (n : ℕ) (x : Place) → get_or xs n Nowhere ≡ x → x ≢ Nowhere → slice_get xs n ≡ Some x
at_place [] n x e ne = absurd (ne (sym e))
at_place (y ∷ rest) zero x e ne = ap Some e
at_place (y ∷ rest) (suc n) x e ne = at_place rest n x e ne

pub place_is : (xs : List Place) (n : ℕ) (x : Place) → slice_get xs n ≡ Some x → get_or xs n Nowhere ≡ x
place_is xs n x at = get_or_from_slice_get xs n x Nowhere at

-- ---- what terms name
pub each_risen : (P Q : ℕ → Type 0) → ((n : ℕ) → P n → Q n) → (t : Term) → EachNamed P t → EachNamed Q t
each_risen P Q f Always h = tt
each_risen P Q f (Closed s) h = tt
each_risen P Q f (Both a b) h = (f a h.0, f b h.1)
each_risen P Q f (Either a b) h = (f a h.0, f b h.1)

pub two_risen : (P Q : ℕ → Type 0) → ((n : ℕ) → P n → Q n) → (t : Term) → IsOfTwo P t → IsOfTwo Q t
two_risen P Q f Always h = absurd h
two_risen P Q f (Closed s) h = absurd h
two_risen P Q f (Both a b) h = (f a h.0, f b h.1)
two_risen P Q f (Either a b) h = (f a h.0, f b h.1)

pub set_risen_too : (r : Reading) (xs ys : List Place) → HaveRisen xs ys → (m : Name) → IsSet r xs m → IsSet r ys m
set_risen_too r xs ys f m h n is within =
    let len = f.len in f.named n (h n is (omega (arith, within, len)))
