-- An error that is passed on.
use Rattle.std.proofs.Common.{◌≡◌, Result, Ok, Err, sym, subst}
use Rattle.std.specs.Prelude.{IfErr, IsErrAnd}

-- what holds of the error holds of what is answered
pub passed : {T E : Type 0} (Q : E → Type 0) (e : E) (r : Result T E) → IsErrAnd r (λ x. x ≡ e) → Q e → IfErr r Q
passed Q e (Err x) is q = subst Q (sym is) q
passed Q e (Ok x) is q = absurd is
