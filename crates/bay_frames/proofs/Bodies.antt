-- What each body says of the payload and of the numbers in it.
use Rattle.std.proofs.Common.{◌≡◌, ◌≤◌, ◌<◌, ◌^◌, ◌⊎◌, ℕ, List, [], length, refl, sym, subst, inl, inr}
use Rattle.ilk_base.specs.declared.words.BayId.{BayId}
use Rattle.bay_frames.specs.declared.frame.Frame.{Frame}
use Rattle.bay_frames.specs.declared.frame.Body.{Body}
use Rattle.bay_frames.specs.declared.frame.Body.TheVariants.{Reserve, Answer, Busy, Query, Over}
use Rattle.bay_frames.specs.Row.{payload_row, FitsRow, FitsBody}

pub fits_answer : (f : Frame) (summary bytes : List ℕ) → f.body ≡ Answer summary → bytes ≡ summary → length bytes ≤ 32 →
    f.round < 2 ^ 32 → FitsRow f
fits_answer f summary bytes e same short round = record {
  round = round;
  body = subst FitsBody (sym e) (subst (λ (s : List ℕ). length s ≤ 32) same short);
}

pub fits_busy : (f : Frame) (holder : BayId) (q : ℕ) → f.body ≡ Busy holder q → q < 2 ^ 32 →
    f.round < 2 ^ 32 → FitsRow f
fits_busy f holder q e lt round = record { round = round; body = subst FitsBody (sym e) lt }

-- a body that carries nothing
pub record IsEmpty (body : Body) : Type 0 where
  pub payload : payload_row body ≡ []
  pub fits : FitsBody body

pub nothing_follows : (body : Body) → (body ≡ Reserve) ⊎ ((body ≡ Query) ⊎ (body ≡ Over)) → IsEmpty body
nothing_follows body (inl e) = subst IsEmpty (sym e) (record { payload = refl; fits = tt })
nothing_follows body (inr (inl e)) = subst IsEmpty (sym e) (record { payload = refl; fits = tt })
nothing_follows body (inr (inr e)) = subst IsEmpty (sym e) (record { payload = refl; fits = tt })
