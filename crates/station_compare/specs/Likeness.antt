-- Bays that are like each other in both stations.
use Rattle.std.specs.Prelude.{ℕ}
use Rattle.ilk_base.specs.declared.words.Op.{Op}
use Rattle.station_graph.specs.Diagram.{Diagram}
use Rattle.station_changes.specs.Compare.{SameSwitch}
use Rattle.release_dependence.specs.Exchange.{IsExchangedOp}
use Rattle.like_bays.specs.Like.{led_by, IsExchangeBy}
use Rattle.station_compare.specs.declared.likeness.LikeBays.{LikeBays}

-- The tables of an exchange of two bays in both stations, under which the same switches stay the same.
pub record AreExchanged (o n : Diagram) (x : LikeBays) : Type 0 where
  pub old : IsExchangeBy o x.old.items
  pub new : IsExchangeBy n x.new.items
  pub agree : (i k : ℕ) → SameSwitch o n i k →
      SameSwitch o n (led_by x.old.items i) (led_by x.new.items k)

-- The operations c and d are a of the old station and b of the new one, exchanged.
pub record AreExchangedOps (x : LikeBays) (a b c d : Op) : Type 0 where
  pub old : IsExchangedOp (led_by x.old.items) a c
  pub new : IsExchangedOp (led_by x.new.items) b d
