-- What is left on the device where a changed record is put.
use Rattle.std.proofs.Common.{◌≡◌, ◌⊎◌, ℕ, List, Option, Some, None, sym, subst}
use Rattle.std.specs.Prelude.{IfNone}
use Rattle.bay_protocol.specs.declared.values.Kept.{Kept}
use Rattle.bay_protocol.specs.Output.{IsKeep}
use Rattle.node_store.specs.declared.store.Store.{Store}
use Rattle.node_store.specs.Device.{IsSettled, LeavesOnly}
use Rattle.node_store.specs.Image.{IsImageOf}
use Rattle.node_store.specs.Store.{MatchesStore}
use Rattle.stored_session.specs.Kept.{IsKept, LeavesNow}

-- the record that is to be kept is the new one
pub is_new : (old new kept : Kept) (keep : Option Kept) → keep ≡ Some kept → IsKeep old new keep → kept ≡ new
is_new old new kept keep is changed = (subst (λ (k : Option Kept). IsKeep old new k) is changed).0

-- nothing is to be kept
pub is_old : (old new : Kept) (keep : Option Kept) → keep ≡ None → IsKeep old new keep → new ≡ old
is_old old new keep is changed = subst (λ (k : Option Kept). IsKeep old new k) is changed

-- what is left alone where nothing is to be kept is so where nothing has changed
pub left_alone : (old new : Kept) (keep : Option Kept) (Alone : Type 0) → IsKeep old new keep → IfNone keep Alone
    → new ≡ old → Alone
left_alone old new None Alone changed alone same = alone
left_alone old new (Some kept) Alone changed alone same = absurd (changed.1 same)

module _ {D : Type 0} (moment : D → ℕ) (between : D → ℕ → ℕ → List ℕ → Type 0) (since : D → ℕ → List ℕ → Type 0) where
  -- a put that may be cut short
  pub may_put : (before after : D) (old new kept : Kept) → kept ≡ new
      → LeavesOnly moment between since before after (λ c. IsImageOf c old ⊎ IsImageOf c kept)
      → LeavesOnly moment between since before after (λ c. IsImageOf c old ⊎ IsImageOf c new)
  may_put before after old new kept is leaves = subst (λ (k : Kept). LeavesOnly moment between since before after
      (λ c. IsImageOf c old ⊎ IsImageOf c k)) is leaves

  -- a put that is done
  pub is_put : (after : D) (s : Store) (image : List ℕ) (new kept : Kept) → kept ≡ new
      → IsSettled moment since after image × IsImageOf image kept × MatchesStore image s
      → IsKept moment since after s image new
  is_put after s image new kept is done = record {
    settled = done.0;
    matches = done.2;
    stands = subst (λ (k : Kept). IsImageOf image k) is done.1;
  }

  -- what is kept is what a crash leaves
  pub leaves_now : (d : D) (s : Store) (image : List ℕ) (kept : Kept) → IsKept moment since d s image kept
      → LeavesNow moment since d kept
  leaves_now d s image kept is c left = subst (λ (i : List ℕ). IsImageOf i kept) (sym (is.settled c left)) is.stands
