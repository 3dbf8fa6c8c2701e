-- An error that is passed on.
use Rattle.std.specs.Prelude.{Result, Ok, Err, IfErr, IsErrAnd}

pub passed_on : {T E : Type 0} (P Q : E → Type 0) (r : Result T E) → IsErrAnd r P → ((e : E) → P e → Q e) → IfErr r Q
passed_on P Q (Err e) h through = through e h
passed_on P Q (Ok x) h through = absurd h
