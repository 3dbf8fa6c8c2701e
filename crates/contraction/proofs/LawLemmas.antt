-- A composition and a restriction respect each view.
use Rattle.std.proofs.Common.{◌≡◌, ℕ, ◌⊎◌, ◌↔◌, Bool, List, sym, inl, inr}
use Rattle.station_graph.specs.Diagram.{Diagram}
use Rattle.station_graph.specs.Connection.{Item, Linked}
use Rattle.station_graph.specs.Views.{Supply, fed, CoupledBy, JoinedBy, BondedBy, EnergisableBy, EarthableBy, FedBy}
use Rattle.station_graph.specs.Views.{TappedBy}
use Rattle.station_graph.proofs.LinkedLemmas.{linked_weaker}
use Rattle.contraction.specs.Answers.{Answers, Keeps, SameAt, MarkedAt, SaysCoupled, SaysJoined, SaysBonded}
use Rattle.contraction.specs.Answers.{SaysEnergisable, SaysEarthable, SaysFed, SaysLoaded, SaysSupply, IsContraction}
use Rattle.contraction.specs.Answers.{SameGap, SameLoad}
use Rattle.contraction.specs.Stands.{GapStandsFor, LoadStandsFor}
use Rattle.contraction.specs.Composing.{SameInEither, LabelsCompose, MarksCompose, Composes, Restricts, ComposesGap}
use Rattle.contraction.specs.Composing.{ComposesLoad}
use Rattle.contraction.proofs.ComposeLemmas.{keeps_first, keeps_second, keeps_marked}
use Rattle.contraction.proofs.KeepLemmas.{via, gap_on_fewer, load_on_fewer}
use Rattle.contraction.proofs.StandsLemmas.{gap_half, load_half}
use Rattle.contraction.proofs.ViewLemmas.{back, supplies_say, loaded_same}
use Rattle.contraction.proofs.RisingLemmas.{keeps_on, kept_equal}
use Rattle.contraction.proofs.SameLemmas.{gap_self, load_self, gap_back, load_back}

-- compositions of values that keep the same keep the same
kept_same : (x1 y1 c1 x2 y2 c2 : Answers) → IsContraction c1 → IsContraction c2 → Composes x1 y1 c1 →
    Composes x2 y2 c2 → x1.kept ≡ x2.kept → y1.kept ≡ y2.kept → c1.kept ≡ c2.kept
kept_same x1 y1 c1 x2 y2 c2 w1 w2 m1 m2 ex ey = kept_equal c1 c2 w1 w2 (λ n. (
  λ k. (m2.kept n).1 (elim ((m1.kept n).0 k) [
    | inl a ↦ inl ((keeps_on x1.kept x2.kept ex n).0 a)
    | inr a ↦ inr ((keeps_on y1.kept y2.kept ey n).0 a)
  ]),
  λ k. (m1.kept n).1 (elim ((m2.kept n).0 k) [
    | inl a ↦ inl ((keeps_on x1.kept x2.kept ex n).1 a)
    | inr a ↦ inr ((keeps_on y1.kept y2.kept ey n).1 a)
  ]),
))

-- Labels and marks of one composition go over to the other, where those of its parts do.
module _ (xk1 xl1 yk1 yl1 ck1 cl1 xk2 xl2 yk2 yl2 ck2 cl2 : List ℕ) (m1 : LabelsCompose xk1 xl1 yk1 yl1 ck1 cl1)
    (m2 : LabelsCompose xk2 xl2 yk2 yl2 ck2 cl2) (sx : (a b : ℕ) → SameAt xk1 xl1 a b → SameAt xk2 xl2 a b)
    (sy : (a b : ℕ) → SameAt yk1 yl1 a b → SameAt yk2 yl2 a b) where
  linked_follow : (a b : ℕ) → Linked (SameInEither xk1 xl1 yk1 yl1) a b → Linked (SameInEither xk2 xl2 yk2 yl2) a b
  linked_follow =
      linked_weaker (SameInEither xk1 xl1 yk1 yl1) (SameInEither xk2 xl2 yk2 yl2)
      (λ a b h. elim h [ inl s ↦ inl (sx a b s) | inr s ↦ inr (sy a b s) ])

  labels_follow : (a b : ℕ) → Keeps ck1 a → Keeps ck1 b → Keeps ck2 a → Keeps ck2 b → SameAt ck1 cl1 a b →
      SameAt ck2 cl2 a b
  labels_follow a b ka kb la lb s = (m2 a b la lb).1 (linked_follow a b ((m1 a b ka kb).0 s))

  marks_follow : (xm1 ym1 cm1 xm2 ym2 cm2 : List Bool) → MarksCompose xk1 xl1 xm1 yk1 yl1 ym1 ck1 cm1 →
      MarksCompose xk2 xl2 xm2 yk2 yl2 ym2 ck2 cm2 → ((a : ℕ) → MarkedAt xk1 xm1 a → MarkedAt xk2 xm2 a) →
      ((a : ℕ) → MarkedAt yk1 ym1 a → MarkedAt yk2 ym2 a) → (a : ℕ) → Keeps ck1 a → Keeps ck2 a → MarkedAt ck1 cm1 a →
      MarkedAt ck2 cm2 a
  marks_follow xm1 ym1 cm1 xm2 ym2 cm2 n1 n2 mx my a ka la s =
      let r = (n1 a ka).0 s in
      (n2 a la).1 (r.0, linked_follow a r.0 r.1, elim r.2 [ inl m ↦ inl (mx r.0 m) | inr m ↦ inr (my r.0 m) ])

-- what is said of kept nodes is said of all
same_all : (k1 l1 k2 l2 : List ℕ) → ((a b : ℕ) → Keeps k1 a → Keeps k1 b → SameAt k1 l1 a b → SameAt k2 l2 a b) →
    (a b : ℕ) → SameAt k1 l1 a b → SameAt k2 l2 a b
same_all k1 l1 k2 l2 h a b s = h a b (keeps_first k1 l1 a b s) (keeps_second k1 l1 a b s) s

marked_all : (k1 : List ℕ) (m1 : List Bool) (k2 : List ℕ) (m2 : List Bool) →
    ((a : ℕ) → Keeps k1 a → MarkedAt k1 m1 a → MarkedAt k2 m2 a) → (a : ℕ) → MarkedAt k1 m1 a → MarkedAt k2 m2 a
marked_all k1 m1 k2 m2 h a s = h a (keeps_marked k1 m1 a s) s

-- one way, for each answer of the gap view
record GapFollows (x y : Answers) : Type 0 where
  coupled : (a b : ℕ) → Keeps x.kept a → Keeps x.kept b → SaysCoupled x a b → SaysCoupled y a b
  energisable : (a : ℕ) → Keeps x.kept a → SaysEnergisable x a → SaysEnergisable y a
  earthable : (a : ℕ) → Keeps x.kept a → SaysEarthable x a → SaysEarthable y a

gap_follows : (x1 y1 c1 x2 y2 c2 : Answers) → ComposesGap x1 y1 c1 → ComposesGap x2 y2 c2 → SameGap x1 x2 →
    SameGap y1 y2 → c1.kept ≡ c2.kept → GapFollows c1 c2
gap_follows x1 y1 c1 x2 y2 c2 m1 m2 gx gy kept =
    let on : (n : ℕ) → Keeps c1.kept n → Keeps c2.kept n = λ n. (keeps_on c1.kept c2.kept kept n).0 in
    let sx : (a b : ℕ) → SaysCoupled x1 a b → SaysCoupled x2 a b =
    same_all x1.kept x1.coupled x2.kept x2.coupled (λ a b ka kb. (gx.coupled a b ka kb).0) in
    let sy : (a b : ℕ) → SaysCoupled y1 a b → SaysCoupled y2 a b =
    same_all y1.kept y1.coupled y2.kept y2.coupled (λ a b ka kb. (gy.coupled a b ka kb).0) in
    record {
      coupled =
          λ a b ka kb. labels_follow x1.kept x1.coupled y1.kept y1.coupled c1.kept c1.coupled x2.kept x2.coupled y2.kept
          y2.coupled c2.kept c2.coupled m1.coupled m2.coupled sx sy a b ka kb (on a ka) (on b kb);
      energisable =
          λ a ka. marks_follow x1.kept x1.coupled y1.kept y1.coupled c1.kept c1.coupled x2.kept x2.coupled y2.kept
          y2.coupled c2.kept c2.coupled m1.coupled m2.coupled sx sy
          x1.energisable y1.energisable c1.energisable x2.energisable y2.energisable c2.energisable m1.energisable
          m2.energisable
          (marked_all x1.kept x1.energisable x2.kept x2.energisable (λ n k. (gx.energisable n k).0))
          (marked_all y1.kept y1.energisable y2.kept y2.energisable (λ n k. (gy.energisable n k).0)) a ka (on a ka);
      earthable =
          λ a ka. marks_follow x1.kept x1.coupled y1.kept y1.coupled c1.kept c1.coupled x2.kept x2.coupled y2.kept
          y2.coupled c2.kept c2.coupled m1.coupled m2.coupled sx sy
          x1.earthable y1.earthable c1.earthable x2.earthable y2.earthable c2.earthable m1.earthable m2.earthable
          (marked_all x1.kept x1.earthable x2.kept x2.earthable (λ n k. (gx.earthable n k).0))
          (marked_all y1.kept y1.earthable y2.kept y2.earthable (λ n k. (gy.earthable n k).0)) a ka (on a ka);
    }

-- A COMPOSITION RESPECTS THE GAP VIEWS
pub gap_respected : (x1 y1 c1 x2 y2 c2 : Answers) → c1.kept ≡ c2.kept → ComposesGap x1 y1 c1 → ComposesGap x2 y2 c2 →
    SameGap x1 x2 → SameGap y1 y2 → SameGap c1 c2
gap_respected x1 y1 c1 x2 y2 c2 kept m1 m2 gx gy =
    let on : (n : ℕ) → Keeps c1.kept n → Keeps c2.kept n = λ n. (keeps_on c1.kept c2.kept kept n).0 in
    let there : GapFollows c1 c2 = gap_follows x1 y1 c1 x2 y2 c2 m1 m2 gx gy kept in
    let again : GapFollows c2 c1 =
    gap_follows x2 y2 c2 x1 y1 c1 m2 m1 (gap_back x1 x2 gx) (gap_back y1 y2 gy) (sym kept) in
    record {
      kept = kept;
      coupled = λ a b ka kb. (there.coupled a b ka kb, again.coupled a b (on a ka) (on b kb));
      energisable = λ a ka. (there.energisable a ka, again.energisable a (on a ka));
      earthable = λ a ka. (there.earthable a ka, again.earthable a (on a ka));
    }

pub composition_gap : (x1 y1 c1 x2 y2 c2 : Answers) → IsContraction c1 → IsContraction c2 → Composes x1 y1 c1 →
    Composes x2 y2 c2 → SameGap x1 x2 → SameGap y1 y2 → SameGap c1 c2
composition_gap x1 y1 c1 x2 y2 c2 w1 w2 m1 m2 gx gy =
    gap_respected x1 y1 c1 x2 y2 c2 (kept_same x1 y1 c1 x2 y2 c2 w1 w2 m1 m2 gx.kept gy.kept) (gap_half x1 y1 c1 m1)
    (gap_half x2 y2 c2 m2) gx gy

record LoadFollows (x y : Answers) : Type 0 where
  joined : (a b : ℕ) → Keeps x.kept a → Keeps x.kept b → SaysJoined x a b → SaysJoined y a b
  bonded : (a b : ℕ) → Keeps x.kept a → Keeps x.kept b → SaysBonded x a b → SaysBonded y a b
  fed_too : (a : ℕ) → Keeps x.kept a → SaysFed x a → SaysFed y a
  loaded_too : (a : ℕ) → Keeps x.kept a → SaysLoaded x a → SaysLoaded y a

load_follows : (x1 y1 c1 x2 y2 c2 : Answers) → IsContraction x1 → IsContraction y1 → IsContraction x2 →
    IsContraction y2 → ComposesLoad x1 y1 c1 → ComposesLoad x2 y2 c2 → SameLoad x1 x2 → SameLoad y1 y2 →
    c1.kept ≡ c2.kept → LoadFollows c1 c2
load_follows x1 y1 c1 x2 y2 c2 wx1 wy1 wx2 wy2 m1 m2 gx gy kept =
    let on : (n : ℕ) → Keeps c1.kept n → Keeps c2.kept n = λ n. (keeps_on c1.kept c2.kept kept n).0 in
    let sx : (a b : ℕ) → SaysJoined x1 a b → SaysJoined x2 a b =
    same_all x1.kept x1.joined x2.kept x2.joined (λ a b ka kb. (gx.joined a b ka kb).0) in
    let sy : (a b : ℕ) → SaysJoined y1 a b → SaysJoined y2 a b =
    same_all y1.kept y1.joined y2.kept y2.joined (λ a b ka kb. (gy.joined a b ka kb).0) in
    let bx : (a b : ℕ) → SaysBonded x1 a b → SaysBonded x2 a b =
    same_all x1.kept x1.bonded x2.kept x2.bonded (λ a b ka kb. (gx.bonded a b ka kb).0) in
    let by_y : (a b : ℕ) → SaysBonded y1 a b → SaysBonded y2 a b =
    same_all y1.kept y1.bonded y2.kept y2.bonded (λ a b ka kb. (gy.bonded a b ka kb).0) in
    record {
      joined =
          λ a b ka kb. labels_follow x1.kept x1.joined y1.kept y1.joined c1.kept c1.joined x2.kept x2.joined y2.kept
          y2.joined c2.kept c2.joined m1.joined m2.joined sx sy a b ka kb (on a ka) (on b kb);
      bonded =
          λ a b ka kb. labels_follow x1.kept x1.bonded y1.kept y1.bonded c1.kept c1.bonded x2.kept x2.bonded y2.kept
          y2.bonded c2.kept c2.bonded m1.bonded m2.bonded bx by_y a b ka kb (on a ka) (on b kb);
      fed_too =
          λ a ka. marks_follow x1.kept x1.joined y1.kept y1.joined c1.kept c1.joined x2.kept x2.joined y2.kept y2.joined
          c2.kept c2.joined m1.joined m2.joined sx sy
          x1.fed y1.fed c1.fed x2.fed y2.fed c2.fed m1.fed m2.fed
          (marked_all x1.kept x1.fed x2.kept x2.fed (λ n k. (gx.supply n k fed).0))
          (marked_all y1.kept y1.fed y2.kept y2.fed (λ n k. (gy.supply n k fed).0)) a ka (on a ka);
      loaded_too =
          λ a ka. marks_follow x1.kept x1.joined y1.kept y1.joined c1.kept c1.joined x2.kept x2.joined y2.kept y2.joined
          c2.kept c2.joined m1.joined m2.joined sx sy
          x1.loaded y1.loaded c1.loaded x2.loaded y2.loaded c2.loaded m1.loaded m2.loaded
          (marked_all x1.kept x1.loaded x2.kept x2.loaded (λ n k. (loaded_same x1 x2 wx1 wx2 gx n k).0))
          (marked_all y1.kept y1.loaded y2.kept y2.loaded (λ n k. (loaded_same y1 y2 wy1 wy2 gy n k).0)) a ka (on a ka);
    }

-- A COMPOSITION RESPECTS THE LOAD VIEWS
pub load_respected : (x1 y1 c1 x2 y2 c2 : Answers) → IsContraction x1 → IsContraction y1 → IsContraction x2 →
    IsContraction y2 → c1.kept ≡ c2.kept → ComposesLoad x1 y1 c1 → ComposesLoad x2 y2 c2 → SameLoad x1 x2 →
    SameLoad y1 y2 → SameLoad c1 c2
load_respected x1 y1 c1 x2 y2 c2 wx1 wy1 wx2 wy2 kept m1 m2 gx gy =
    let on : (n : ℕ) → Keeps c1.kept n → Keeps c2.kept n = λ n. (keeps_on c1.kept c2.kept kept n).0 in
    let there : LoadFollows c1 c2 = load_follows x1 y1 c1 x2 y2 c2 wx1 wy1 wx2 wy2 m1 m2 gx gy kept in
    let again : LoadFollows c2 c1 =
    load_follows x2 y2 c2 x1 y1 c1 wx2 wy2 wx1 wy1 m2 m1 (load_back x1 x2 gx) (load_back y1 y2 gy) (sym kept) in
    record {
      kept = kept;
      joined = λ a b ka kb. (there.joined a b ka kb, again.joined a b (on a ka) (on b kb));
      bonded = λ a b ka kb. (there.bonded a b ka kb, again.bonded a b (on a ka) (on b kb));
      supply =
          λ a ka s. supplies_say c1 c2 a a (there.fed_too a ka, again.fed_too a (on a ka))
          (there.loaded_too a ka, again.loaded_too a (on a ka)) s;
    }

pub composition_load : (x1 y1 c1 x2 y2 c2 : Answers) → IsContraction x1 → IsContraction y1 → IsContraction c1 →
    IsContraction x2 → IsContraction y2 → IsContraction c2 → Composes x1 y1 c1 → Composes x2 y2 c2 → SameLoad x1 x2 →
    SameLoad y1 y2 → SameLoad c1 c2
composition_load x1 y1 c1 x2 y2 c2 wx1 wy1 w1 wx2 wy2 w2 m1 m2 gx gy =
    load_respected x1 y1 c1 x2 y2 c2 wx1 wy1 wx2 wy2 (kept_same x1 y1 c1 x2 y2 c2 w1 w2 m1 m2 gx.kept gy.kept)
    (load_half x1 y1 c1 m1) (load_half x2 y2 c2 m2) gx gy

-- ONE VIEW COMPOSED ALONE IS THAT OF THE COMPOSITION ON THE SAME NODES
pub gap_alone : (x y c r g : Answers) → Composes x y c → Restricts c r → ComposesGap x y g → r.kept ≡ g.kept →
    SameGap r g
gap_alone x y c r g composes restricts alone kept =
    gap_respected x y r x y g kept (gap_on_fewer x y c r restricts (gap_half x y c composes)) alone
    (gap_self x) (gap_self y)

pub load_alone : (x y c r l : Answers) → IsContraction x → IsContraction y → Composes x y c → Restricts c r →
    ComposesLoad x y l → r.kept ≡ l.kept → SameLoad r l
load_alone x y c r l wx wy composes restricts alone kept =
    load_respected x y r x y l wx wy wx wy kept (load_on_fewer x y c r restricts (load_half x y c composes)) alone
    (load_self x) (load_self y)

-- A RESTRICTION RESPECTS EACH VIEW
module _ (c1 r1 c2 r2 : Answers) (kept : r1.kept ≡ r2.kept) (h1 : Restricts c1 r1) (h2 : Restricts c2 r2) where
  on : (n : ℕ) → Keeps r1.kept n → Keeps r2.kept n
  on n = (keeps_on r1.kept r2.kept kept n).0

  pub restriction_gap : SameGap c1 c2 → SameGap r1 r2
  restriction_gap g = record {
    kept = kept;
    coupled =
        λ a b ka kb. via (SaysCoupled r1 a b) (SaysCoupled c1 a b) (SaysCoupled r2 a b) (h1.coupled a b ka kb) (via
        (SaysCoupled c1 a b) (SaysCoupled c2 a b) (SaysCoupled r2 a b) (g.coupled a b (h1.kept a ka) (h1.kept b kb))
        (back (SaysCoupled r2 a b) (SaysCoupled c2 a b) (h2.coupled a b (on a ka) (on b kb))));
    energisable =
        λ a ka. via (SaysEnergisable r1 a) (SaysEnergisable c1 a) (SaysEnergisable r2 a) (h1.energisable a ka) (via
        (SaysEnergisable c1 a) (SaysEnergisable c2 a) (SaysEnergisable r2 a) (g.energisable a (h1.kept a ka))
        (back (SaysEnergisable r2 a) (SaysEnergisable c2 a) (h2.energisable a (on a ka))));
    earthable =
        λ a ka. via (SaysEarthable r1 a) (SaysEarthable c1 a) (SaysEarthable r2 a) (h1.earthable a ka) (via
        (SaysEarthable c1 a) (SaysEarthable c2 a) (SaysEarthable r2 a) (g.earthable a (h1.kept a ka))
        (back (SaysEarthable r2 a) (SaysEarthable c2 a) (h2.earthable a (on a ka))));
  }

  supplied1 : (a : ℕ) → Keeps r1.kept a → (s : Supply) → SaysSupply r1 a s ↔ SaysSupply c1 a s
  supplied1 a k = supplies_say r1 c1 a a (h1.fed a k) (h1.loaded a k)

  supplied2 : (a : ℕ) → Keeps r2.kept a → (s : Supply) → SaysSupply r2 a s ↔ SaysSupply c2 a s
  supplied2 a k = supplies_say r2 c2 a a (h2.fed a k) (h2.loaded a k)

  pub restriction_load : SameLoad c1 c2 → SameLoad r1 r2
  restriction_load g = record {
    kept = kept;
    joined =
        λ a b ka kb. via (SaysJoined r1 a b) (SaysJoined c1 a b) (SaysJoined r2 a b) (h1.joined a b ka kb) (via
        (SaysJoined c1 a b) (SaysJoined c2 a b) (SaysJoined r2 a b) (g.joined a b (h1.kept a ka) (h1.kept b kb))
        (back (SaysJoined r2 a b) (SaysJoined c2 a b) (h2.joined a b (on a ka) (on b kb))));
    bonded =
        λ a b ka kb. via (SaysBonded r1 a b) (SaysBonded c1 a b) (SaysBonded r2 a b) (h1.bonded a b ka kb) (via
        (SaysBonded c1 a b) (SaysBonded c2 a b) (SaysBonded r2 a b) (g.bonded a b (h1.kept a ka) (h1.kept b kb))
        (back (SaysBonded r2 a b) (SaysBonded c2 a b) (h2.bonded a b (on a ka) (on b kb))));
    supply =
        λ a ka s. via (SaysSupply r1 a s) (SaysSupply c1 a s) (SaysSupply r2 a s) (supplied1 a ka s) (via
        (SaysSupply c1 a s) (SaysSupply c2 a s) (SaysSupply r2 a s) (g.supply a (h1.kept a ka) s)
        (back (SaysSupply r2 a s) (SaysSupply c2 a s) (supplied2 a (on a ka) s)));
  }

-- WHAT A VALUE STANDS FOR EACH WITH THE SAME VIEW STANDS FOR
pub gap_stands : (These : Item → Type 0) (d : Diagram) (v : List Bool) (x y : Answers) → SameGap x y →
    GapStandsFor These d v x → GapStandsFor These d v y
gap_stands These d v x y g s =
    let on : (n : ℕ) → Keeps y.kept n → Keeps x.kept n = λ n. (keeps_on x.kept y.kept g.kept n).1 in
    record {
      coupled =
          λ a b ka kb. via (SaysCoupled y a b) (SaysCoupled x a b) (CoupledBy These d v a b)
          (back (SaysCoupled x a b) (SaysCoupled y a b) (g.coupled a b (on a ka) (on b kb)))
          (s.coupled a b (on a ka) (on b kb));
      energisable =
          λ a ka. via (SaysEnergisable y a) (SaysEnergisable x a) (EnergisableBy These d v a)
          (back (SaysEnergisable x a) (SaysEnergisable y a) (g.energisable a (on a ka))) (s.energisable a (on a ka));
      earthable =
          λ a ka. via (SaysEarthable y a) (SaysEarthable x a) (EarthableBy These d v a)
          (back (SaysEarthable x a) (SaysEarthable y a) (g.earthable a (on a ka))) (s.earthable a (on a ka));
    }

pub load_stands : (These : Item → Type 0) (d : Diagram) (v : List Bool) (x y : Answers) → IsContraction x →
    IsContraction y → SameLoad x y → LoadStandsFor These d v x → LoadStandsFor These d v y
load_stands These d v x y wx wy g s =
    let on : (n : ℕ) → Keeps y.kept n → Keeps x.kept n = λ n. (keeps_on x.kept y.kept g.kept n).1 in
    record {
      joined =
          λ a b ka kb. via (SaysJoined y a b) (SaysJoined x a b) (JoinedBy These d v a b)
          (back (SaysJoined x a b) (SaysJoined y a b) (g.joined a b (on a ka) (on b kb)))
          (s.joined a b (on a ka) (on b kb));
      bonded =
          λ a b ka kb. via (SaysBonded y a b) (SaysBonded x a b) (BondedBy These d v a b)
          (back (SaysBonded x a b) (SaysBonded y a b) (g.bonded a b (on a ka) (on b kb)))
          (s.bonded a b (on a ka) (on b kb));
      fed =
          λ a ka. via (SaysFed y a) (SaysFed x a) (FedBy These d v a)
          (back (SaysFed x a) (SaysFed y a) (g.supply a (on a ka) fed)) (s.fed a (on a ka));
      loaded =
          λ a ka. via (SaysLoaded y a) (SaysLoaded x a) (FedBy These d v a ⊎ TappedBy These d v a)
          (back (SaysLoaded x a) (SaysLoaded y a) (loaded_same x y wx wy g a (on a ka))) (s.loaded a (on a ka));
    }
