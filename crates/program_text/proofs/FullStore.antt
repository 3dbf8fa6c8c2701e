-- The store in which each formula has its value, also where no line sets its variable.
use Rattle.std.proofs.Common.{◌≡◌, ◌↔◌, ◌∙◌, ◌<◌, ◌≤◌, ℕ, Bool, true, false, List}
use Rattle.std.proofs.Common.{slice_get, get_or, Some, refl, sym, arith}
use Rattle.std.specs.Prelude.{nat_lt, if◌then◌else◌}
use Rattle.std.proofs.lemmas.Bool.Decides.{nat_tests}
use Rattle.std.proofs.lemmas.Option.{get_or_from_slice_get}
use Rattle.interlock_terms.specs.Terms.{Values}
use Rattle.structured_text.specs.declared.name.Name.TheVariants.{Off as OffOf, On as OnOf, May, Sure, Opens, Closes}
use Rattle.structured_text.specs.Meaning.{Store}
use Rattle.structured_text.proofs.StoreLemmas.{chosen, passed}
use Rattle.program_text.proofs.ReleasedLemmas.{true_read}

abbrev pub full_of : Store → Values → Values → ℕ → ℕ → Store
full_of s v w may sure (OffOf i) = s (OffOf i)
full_of s v w may sure (OnOf i) = s (OnOf i)
full_of s v w may sure (May n) = if nat_lt n may then get_or v.terms n false else s (May n)
full_of s v w may sure (Sure n) = if nat_lt n sure then get_or w.terms n false else s (Sure n)
full_of s v w may sure (Opens i) = s (Opens i)
full_of s v w may sure (Closes i) = s (Closes i)

lt_true : (a b : ℕ) → a < b → nat_lt a b ≡ true
lt_true a b low = grind (arith, nat_tests)

lt_false : (a b : ℕ) → b ≤ a → nat_lt a b ≡ false
lt_false a b high = grind (arith, nat_tests)

pub same_bits : (a b : Bool) → (a ≡ true → b ≡ true) → (b ≡ true → a ≡ true) → a ≡ b
same_bits true b f g = sym (f refl)
same_bits false true f g = g refl
same_bits false false f g = refl

pub full_means : (terms : List Bool) (other : Bool) (n count : ℕ) → n < count →
    ((if nat_lt n count then get_or terms n false else other) ≡ true) ↔ (slice_get terms n ≡ Some true)
full_means terms other n count low =
    let e = chosen (nat_lt n count) (get_or terms n false) other (lt_true n count low) in (
      λ h. true_read terms n (sym e ∙ h),
      λ h. e ∙ get_or_from_slice_get terms n true false h,
    )

pub full_else : (terms : List Bool) (other : Bool) (n count : ℕ) → count ≤ n →
    (if nat_lt n count then get_or terms n false else other) ≡ other
full_else terms other n count high = passed (nat_lt n count) (get_or terms n false) other (lt_false n count high)
