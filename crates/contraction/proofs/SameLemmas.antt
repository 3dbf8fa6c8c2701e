-- When two values have one view, and when items have one view in two positions: of itself, turned round,
-- one after another, and on fewer nodes.
use Rattle.std.proofs.Common.{ℕ, Bool, List, refl, sym, ◌∙◌}
use Rattle.station_graph.specs.Diagram.{Diagram}
use Rattle.station_graph.specs.Connection.{Item}
use Rattle.station_graph.specs.Views.{SameGapView, SameLoadView}
use Rattle.contraction.specs.Answers.{Answers, Keeps, SaysCoupled, SaysJoined, SaysBonded, SaysEnergisable}
use Rattle.contraction.specs.Answers.{SaysEarthable, SaysSupply, SameGap, SameLoad}
use Rattle.contraction.proofs.KeepLemmas.{via}
use Rattle.contraction.proofs.ViewLemmas.{back}
use Rattle.contraction.proofs.RisingLemmas.{keeps_on}

-- a view is its own
pub gap_self : (x : Answers) → SameGap x x
gap_self x = record {
  kept = refl;
  coupled = λ a b ka kb. (λ h. h, λ h. h);
  energisable = λ a ka. (λ h. h, λ h. h);
  earthable = λ a ka. (λ h. h, λ h. h);
}

pub load_self : (x : Answers) → SameLoad x x
load_self x = record {
  kept = refl;
  joined = λ a b ka kb. (λ h. h, λ h. h);
  bonded = λ a b ka kb. (λ h. h, λ h. h);
  supply = λ a ka s. (λ h. h, λ h. h);
}

-- turned round
pub gap_back : (x y : Answers) → SameGap x y → SameGap y x
gap_back x y h = record {
  kept = sym h.kept;
  coupled =
      λ a b ka kb. back (SaysCoupled x a b) (SaysCoupled y a b)
      (h.coupled a b ((keeps_on x.kept y.kept h.kept a).1 ka) ((keeps_on x.kept y.kept h.kept b).1 kb));
  energisable =
      λ a ka. back (SaysEnergisable x a) (SaysEnergisable y a)
      (h.energisable a ((keeps_on x.kept y.kept h.kept a).1 ka));
  earthable =
      λ a ka. back (SaysEarthable x a) (SaysEarthable y a) (h.earthable a ((keeps_on x.kept y.kept h.kept a).1 ka));
}

pub load_back : (x y : Answers) → SameLoad x y → SameLoad y x
load_back x y h = record {
  kept = sym h.kept;
  joined =
      λ a b ka kb. back (SaysJoined x a b) (SaysJoined y a b)
      (h.joined a b ((keeps_on x.kept y.kept h.kept a).1 ka) ((keeps_on x.kept y.kept h.kept b).1 kb));
  bonded =
      λ a b ka kb. back (SaysBonded x a b) (SaysBonded y a b)
      (h.bonded a b ((keeps_on x.kept y.kept h.kept a).1 ka) ((keeps_on x.kept y.kept h.kept b).1 kb));
  supply = λ a ka s. back (SaysSupply x a s) (SaysSupply y a s) (h.supply a ((keeps_on x.kept y.kept h.kept a).1 ka) s);
}

-- one after another
pub gap_then : (x y z : Answers) → SameGap x y → SameGap y z → SameGap x z
gap_then x y z g h =
    let on : (n : ℕ) → Keeps x.kept n → Keeps y.kept n = λ n. (keeps_on x.kept y.kept g.kept n).0 in
    record {
      kept = g.kept ∙ h.kept;
      coupled =
          λ a b ka kb. via (SaysCoupled x a b) (SaysCoupled y a b) (SaysCoupled z a b) (g.coupled a b ka kb)
          (h.coupled a b (on a ka) (on b kb));
      energisable =
          λ a ka. via (SaysEnergisable x a) (SaysEnergisable y a) (SaysEnergisable z a) (g.energisable a ka)
          (h.energisable a (on a ka));
      earthable =
          λ a ka. via (SaysEarthable x a) (SaysEarthable y a) (SaysEarthable z a) (g.earthable a ka)
          (h.earthable a (on a ka));
    }

pub load_then : (x y z : Answers) → SameLoad x y → SameLoad y z → SameLoad x z
load_then x y z g h =
    let on : (n : ℕ) → Keeps x.kept n → Keeps y.kept n = λ n. (keeps_on x.kept y.kept g.kept n).0 in
    record {
      kept = g.kept ∙ h.kept;
      joined =
          λ a b ka kb. via (SaysJoined x a b) (SaysJoined y a b) (SaysJoined z a b) (g.joined a b ka kb)
          (h.joined a b (on a ka) (on b kb));
      bonded =
          λ a b ka kb. via (SaysBonded x a b) (SaysBonded y a b) (SaysBonded z a b) (g.bonded a b ka kb)
          (h.bonded a b (on a ka) (on b kb));
      supply =
          λ a ka s. via (SaysSupply x a s) (SaysSupply y a s) (SaysSupply z a s) (g.supply a ka s)
          (h.supply a (on a ka) s);
    }

-- one view on some nodes is one view on fewer
pub gap_fewer : (K L : ℕ → Type 0) (These : Item → Type 0) (d : Diagram) (v w : List Bool) → ((n : ℕ) → L n → K n) →
    SameGapView K These d v w → SameGapView L These d v w
gap_fewer K L These d v w fewer h = record {
  coupled = λ a b ka kb. h.coupled a b (fewer a ka) (fewer b kb);
  energisable = λ a ka. h.energisable a (fewer a ka);
  earthable = λ a ka. h.earthable a (fewer a ka);
}

pub load_fewer : (K L : ℕ → Type 0) (These : Item → Type 0) (d : Diagram) (v w : List Bool) → ((n : ℕ) → L n → K n) →
    SameLoadView K These d v w → SameLoadView L These d v w
load_fewer K L These d v w fewer h = record {
  joined = λ a b ka kb. h.joined a b (fewer a ka) (fewer b kb);
  bonded = λ a b ka kb. h.bonded a b (fewer a ka) (fewer b kb);
  supply = λ a ka s. h.supply a (fewer a ka) s;
}
