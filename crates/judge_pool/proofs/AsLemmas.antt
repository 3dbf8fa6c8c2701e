-- Values that keep the same nodes and have the same rows in a view: each of them may stand in place of the other.
use Rattle.std.proofs.Common.{◌≡◌, ℕ, Bool, List, map, get_or, slice_get, Some, refl, sym, ap, ◌∙◌, subst, arith}
use Rattle.std.proofs.lemmas.List.{length-map}
use Rattle.std.proofs.lemmas.Option.{slice_get_within, slice_get-get_or, same_Some}
use Rattle.station_graph.specs.Diagram.{Diagram}
use Rattle.station_graph.specs.Connection.{Item}
use Rattle.contraction.specs.Answers.{Answers, SameGap, SameLoad}
use Rattle.contraction.specs.Renaming.{mapped}
use Rattle.contraction.specs.Stands.{GapStandsFor, LoadStandsFor}
use Rattle.judge_pool.specs.declared.view.View.{View}
use Rattle.judge_pool.specs.declared.view.View.TheVariants.{Gap, Load}
use Rattle.judge_pool.specs.Layering.{no_answers}
use Rattle.judge_pool.specs.Seen.{SameSeen, SeenFor}
use Rattle.judge_pool.specs.Shapes.{SameAs, AllAs}
use Rattle.judge_pool.proofs.MappedPools.{of_mapped}
use Rattle.judge_pool.proofs.ShapeLemmas.{shape_own, shape_back, shape_on, renamed_as, gap_part, load_part}
use Rattle.judge_pool.proofs.ShapeLemmas.{same_gap_part, same_load_part}

-- ---- one value as another

pub as_own : (view : View) (x : Answers) → SameAs view x x
as_own view x = record { kept = refl; shape = shape_own view x }

pub as_back : (view : View) (x y : Answers) → SameAs view x y → SameAs view y x
as_back view x y h = record { kept = sym h.kept; shape = shape_back view x y h.shape }

pub as_on : (view : View) (x y z : Answers) → SameAs view x y → SameAs view y z → SameAs view x z
as_on view x y z h g = record { kept = h.kept ∙ g.kept; shape = shape_on view x y z h.shape g.shape }

-- ---- what a value says, each that is as it says

gap_seen_part : (x y : Answers) → SameGap x y → SameGap (gap_part x) (gap_part y)
gap_seen_part x y h =
    record { kept = h.kept; coupled = h.coupled; energisable = h.energisable; earthable = h.earthable }

gap_seen_of : (x y : Answers) → SameGap (gap_part x) (gap_part y) → SameGap x y
gap_seen_of x y h =
    record { kept = h.kept; coupled = h.coupled; energisable = h.energisable; earthable = h.earthable }

load_seen_part : (x y : Answers) → SameLoad x y → SameLoad (load_part x) (load_part y)
load_seen_part x y h = record { kept = h.kept; joined = h.joined; bonded = h.bonded; supply = h.supply }

load_seen_of : (x y : Answers) → SameLoad (load_part x) (load_part y) → SameLoad x y
load_seen_of x y h = record { kept = h.kept; joined = h.joined; bonded = h.bonded; supply = h.supply }

both_in_place : (P : Answers → Answers → Type 0) (x x' y y' : Answers) → x ≡ x' → y ≡ y' → P x y → P x' y'
both_in_place P x x' y y' one two h = subst (λ b. P x' b) two (subst (λ a. P a y) one h)

-- VALUES THAT ARE AS TWO THAT LOOK THE SAME LOOK THE SAME
pub seen_as : (view : View) (x x' y y' : Answers) → SameAs view x x' → SameAs view y y' → SameSeen view x y →
    SameSeen view x' y'
seen_as Gap x x' y y' one two h =
    gap_seen_of x' y' (both_in_place SameGap (gap_part x) (gap_part x') (gap_part y) (gap_part y')
    (same_gap_part x x' one) (same_gap_part y y' two) (gap_seen_part x y h))
seen_as Load x x' y y' one two h =
    load_seen_of x' y' (both_in_place SameLoad (load_part x) (load_part x') (load_part y) (load_part y')
    (same_load_part x x' one) (same_load_part y y' two) (load_seen_part x y h))

module _ (These : Item → Type 0) (d : Diagram) (v : List Bool) where
  gap_stands_part : (x : Answers) → GapStandsFor These d v x → GapStandsFor These d v (gap_part x)
  gap_stands_part x h = record { coupled = h.coupled; energisable = h.energisable; earthable = h.earthable }

  gap_stands_of : (x : Answers) → GapStandsFor These d v (gap_part x) → GapStandsFor These d v x
  gap_stands_of x h = record { coupled = h.coupled; energisable = h.energisable; earthable = h.earthable }

  load_stands_part : (x : Answers) → LoadStandsFor These d v x → LoadStandsFor These d v (load_part x)
  load_stands_part x h = record { joined = h.joined; bonded = h.bonded; fed = h.fed; loaded = h.loaded }

  load_stands_of : (x : Answers) → LoadStandsFor These d v (load_part x) → LoadStandsFor These d v x
  load_stands_of x h = record { joined = h.joined; bonded = h.bonded; fed = h.fed; loaded = h.loaded }

-- WHAT A VALUE ANSWERS FOR, EACH THAT IS AS IT ANSWERS FOR
pub stands_as : (view : View) (These : Item → Type 0) (d : Diagram) (v : List Bool) (x x' : Answers) →
    SameAs view x x' → SeenFor view These d v x → SeenFor view These d v x'
stands_as Gap These d v x x' same h =
    gap_stands_of These d v x'
    (subst (GapStandsFor These d v) (same_gap_part x x' same) (gap_stands_part These d v x h))
stands_as Load These d v x x' same h =
    load_stands_of These d v x'
    (subst (LoadStandsFor These d v) (same_load_part x x' same) (load_stands_part These d v x h))

-- and so are they where their nodes are mapped
pub mapped_as : (f : ℕ → ℕ) (view : View) (x y : Answers) → SameAs view x y → SameAs view (mapped f x) (mapped f y)
mapped_as f view x y h =
    let one = renamed_as view x y (map f x.kept) (shape_back view x y h.shape) in
    record {
      kept = ap (map f) h.kept;
      shape =
          renamed_as view y (mapped f x) (map f y.kept) (shape_back view y (mapped f x) one);
    }

-- ---- lists of values, one by one as others

-- the value beside one of them
pub beside : (view : View) (xs ys : List Answers) → AllAs view xs ys → (k : ℕ) (x : Answers) →
    slice_get xs k ≡ Some x → (y : Answers) × (slice_get ys k ≡ Some y) × SameAs view x y
beside view xs ys h k x at =
    let at_y = slice_get-get_or ys k no_answers (omega (arith, slice_get_within xs k x at, h.len)) in
    (get_or ys k no_answers, at_y, h.same k x (get_or ys k no_answers) at at_y)

pub all_as_own : (view : View) (xs : List Answers) → AllAs view xs xs
all_as_own view xs = record {
  len = refl;
  same = λ k x y at_x at_y. subst (SameAs view x) (same_Some x y (sym at_x ∙ at_y)) (as_own view x);
}

pub all_as_back : (view : View) (xs ys : List Answers) → AllAs view xs ys → AllAs view ys xs
all_as_back view xs ys h =
    record { len = sym h.len; same = λ k y x at_y at_x. as_back view x y (h.same k x y at_x at_y) }

pub all_as_on : (view : View) (xs ys zs : List Answers) → AllAs view xs ys → AllAs view ys zs → AllAs view xs zs
all_as_on view xs ys zs h g = record {
  len = h.len ∙ g.len;
  same = λ k x z at_x at_z.
      let (y, at_y, one) = beside view xs ys h k x at_x in
      as_on view x y z one (g.same k y z at_y at_z);
}

pub all_mapped : (f : ℕ → ℕ) (view : View) (xs ys : List Answers) → AllAs view xs ys →
    AllAs view (map (mapped f) xs) (map (mapped f) ys)
all_mapped f view xs ys h = record {
  len = length-map xs (mapped f) ∙ (h.len ∙ sym (length-map ys (mapped f)));
  same = λ k x y at_x at_y.
      let (a, at_a, is_a) = of_mapped (mapped f) xs k x at_x in
      let (b, at_b, is_b) = of_mapped (mapped f) ys k y at_y in
      both_in_place (SameAs view) (mapped f a) x (mapped f b) y is_a is_b
      (mapped_as f view a b (h.same k a b at_a at_b));
}
