-- The items of a part one after another, and all of them.
use Rattle.std.proofs.Common.{◌≡◌, ◌≢◌, ◌<◌, ◌+◌, ℕ, List, length, slice_get, Some, refl, sym, ◌∙◌}
use Rattle.std.proofs.Common.{ap, subst, inl, inr, arith}
use Rattle.std.proofs.lemmas.Bool.{cases_eq}
use Rattle.std.proofs.lemmas.Option.{slice_get_within}
use Rattle.station_graph.specs.declared.items.Switch.{Switch}
use Rattle.station_graph.specs.declared.items.Link.{Link}
use Rattle.station_graph.specs.declared.items.Tap.{Tap}
use Rattle.station_graph.specs.Diagram.{Diagram, IsStation, SwitchFits}
use Rattle.station_graph.specs.Connection.{Item, a_switch, a_link, a_tap}
use Rattle.station_graph.specs.Sharing.{OfPart}
use Rattle.station_graph.proofs.PartialEdges.{second_fits}
use Rattle.contraction.specs.Single.{Only}
use Rattle.contraction.proofs.ItemSets.{Either}
use Rattle.short_equations.specs.declared.edge.Edge.{Edge}
use Rattle.short_equations.specs.declared.view.View.{View}
use Rattle.interlock_terms.specs.declared.term.Term.{Term}
use Rattle.interlock_terms.specs.Terms.{Grew}
use Rattle.interlock_terms.proofs.TermLemmas.{grew_solves}
use Rattle.short_equations.specs.ItemEdges.{EndsFit, AddsSight, AddsSwitch, AddsLink, AddsTap}
use Rattle.short_equations.specs.PartItems.{SwitchesBelow, LinksBelow, TapsBelow, PartBut}
use Rattle.short_equations.proofs.ViewLemmas.{sight_fewer, sight_nothing, sight_either}
use Rattle.short_equations.proofs.ItemSights.{sight_of_switch, sight_of_link, sight_of_tap}

pub ends_fit : (d : Diagram) (x : Switch) → IsStation d → SwitchFits d x → EndsFit x
ends_fit d x station fits =
    let few = station.items.nodes_few in
    let f = fits.first_in in
    record {
      first = omega (arith, few, f);
      second = λ q has.
          let s = second_fits d x q fits has in
          let within = s.1 in
          (omega (arith, few, within), λ e. s.2 (sym e));
    }

module _ (view : View) (d : Diagram) where
  pub begins : (These : Item → Type 0) → ((item : Item) → These item → ⊥) → (terms : List Term) (old : List Edge) →
      AddsSight view terms old These d old
  begins These none terms old v a b fits solves = (
    λ s. inl s,
    λ s. elim s [ inl o ↦ o | inr k ↦ absurd (sight_nothing view These none d v.closed a b k) ],
  )

  -- one set of items after another
  pub then_more : (These More Those : Item → Type 0) → ((x : Item) → Those x → Either These More x) →
      ((x : Item) → Either These More x → Those x) → (before after : List Term) → Grew before after →
      (old mid new : List Edge) → AddsSight view before old These d mid → AddsSight view after mid More d new →
      AddsSight view after old Those d new
  then_more These More Those there back before after grew old mid new h adds v a b fits solves =
      let was = h v a b fits (grew_solves before after v grew solves) in
      let now = adds v a b fits solves in
      let two = sight_either view These More d v.closed a b in
      let to = sight_fewer (Either These More) Those d (λ x is. back x) view v.closed a b in
      let from = sight_fewer Those (Either These More) d (λ x is. there x) view v.closed a b in (
        λ s. elim (now.0 s) [
          | inl m ↦ elim (was.0 m) [ inl o ↦ inl o | inr g ↦ inr (to (two.1 (inl g))) ]
          | inr g ↦ inr (to (two.1 (inr g)))
        ],
        λ s. elim s [
          | inl o ↦ now.1 (inl (was.1 (inl o)))
          | inr g ↦ elim (two.0 (from g)) [
            | inl l ↦ now.1 (inl (was.1 (inr l)))
            | inr r ↦ now.1 (inr r)
          ]
        ],
      )

  -- the same items
  pub same_items : (These Those : Item → Type 0) → ((x : Item) → Those x → These x) →
      ((x : Item) → These x → Those x) → (terms : List Term) (old new : List Edge) →
      AddsSight view terms old These d new → AddsSight view terms old Those d new
  same_items These Those there back terms old new h v a b fits solves =
      let was = h v a b fits solves in (
        λ s. elim (was.0 s) [
          | inl o ↦ inl o
          | inr g ↦ inr (sight_fewer These Those d (λ x is. back x) view v.closed a b g)
        ],
        λ s. was.1 (elim s [
          | inl o ↦ inl o
          | inr g ↦ inr (sight_fewer Those These d (λ x is. there x) view v.closed a b g)
        ]),
      )

  pub switch_adds : (k : ℕ) (x : Switch) → slice_get d.switches k ≡ Some x → (terms : List Term) (mid new : List Edge) →
      AddsSwitch view terms mid k x new → AddsSight view terms mid (Only (a_switch k)) d new
  switch_adds k x listed terms mid new adds v a b fits solves =
      let now = adds v a b solves in
      let within : k < length v.closed = let w = slice_get_within d.switches k x listed in omega (arith, w, fits) in
      let one = sight_of_switch view d k x listed v.closed within a b in (
        λ s. elim (now.0 s) [ inl m ↦ inl m | inr g ↦ inr (one.1 g) ],
        λ s. now.1 (elim s [ inl m ↦ inl m | inr g ↦ inr (one.0 g) ]),
      )

  pub link_adds : (k : ℕ) (x : Link) → slice_get d.links k ≡ Some x → (terms : List Term) (mid new : List Edge) →
      AddsLink view terms mid x new → AddsSight view terms mid (Only (a_link k)) d new
  link_adds k x listed terms mid new adds v a b fits solves =
      let now = adds v a b solves in
      let one = sight_of_link view d k x listed v.closed a b in (
        λ s. elim (now.0 s) [ inl m ↦ inl m | inr g ↦ inr (one.1 g) ],
        λ s. now.1 (elim s [ inl m ↦ inl m | inr g ↦ inr (one.0 g) ]),
      )

  pub tap_adds : (k : ℕ) (x : Tap) → slice_get d.taps k ≡ Some x → (terms : List Term) (mid new : List Edge) →
      AddsTap view terms mid x new → AddsSight view terms mid (Only (a_tap k)) d new
  tap_adds k x listed terms mid new adds v a b fits solves =
      let now = adds v a b solves in
      let one = sight_of_tap view d k x listed v.closed a b in (
        λ s. elim (now.0 s) [ inl m ↦ inl m | inr g ↦ inr (one.1 g) ],
        λ s. now.1 (elim s [ inl m ↦ inl m | inr g ↦ inr (one.0 g) ]),
      )

-- ---- which items of a part stand below a number
module _ (d : Diagram) (part skip : ℕ) where
  abbrev Sw : ℕ → Item → Type 0
  Sw k = SwitchesBelow d part skip k

  abbrev Li : ℕ → Item → Type 0
  Li k = LinksBelow d part k

  abbrev Ta : ℕ → Item → Type 0
  Ta k = TapsBelow d part k

  pub no_switches : (item : Item) → Sw 0 item → ⊥
  no_switches item (i, is, low, ne, own) = omega (arith, low)

  pub no_links : (item : Item) → Li 0 item → ⊥
  no_links item (i, is, low, own) = omega (arith, low)

  pub no_taps : (item : Item) → Ta 0 item → ⊥
  no_taps item (i, is, low, own) = omega (arith, low)

  pub wide_switches : (k : ℕ) (item : Item) → Sw k item → Sw (k + 1) item
  wide_switches k item (i, is, low, ne, own) = (i, is, omega (arith, low), ne, own)

  pub wide_links : (k : ℕ) (item : Item) → Li k item → Li (k + 1) item
  wide_links k item (i, is, low, own) = (i, is, omega (arith, low), own)

  pub wide_taps : (k : ℕ) (item : Item) → Ta k item → Ta (k + 1) item
  wide_taps k item (i, is, low, own) = (i, is, omega (arith, low), own)

  module _ (k : ℕ) (x : Switch) (listed : slice_get d.switches k ≡ Some x) where
    pub more_switches : x.bay.0 ≡ part → k ≢ skip → (item : Item) → Either (Sw k) (Only (a_switch k)) item →
        Sw (k + 1) item
    more_switches own ne item (inl m) = wide_switches k item m
    more_switches own ne item (inr e) = (k, e, omega arith, ne, (x, listed, own))

    pub fewer_switches : (item : Item) → Sw (k + 1) item → Either (Sw k) (Only (a_switch k)) item
    fewer_switches item (i, is, low, ne, own) = elim (cases_eq i k) [
      | inl e ↦ inr (is ∙ ap a_switch e)
      | inr far ↦ inl (i, is, omega (arith, low, far), ne, own)
    ]

    pub same_switches : ((x.bay.0 ≡ part) × (k ≢ skip) → ⊥) → (item : Item) → Sw (k + 1) item → Sw k item
    same_switches none item (i, is, low, ne, own) = elim (cases_eq i k) [
      | inl e ↦
          let (y, at, bay) = own in
          let there : slice_get d.switches k ≡ Some y = subst (λ j. slice_get d.switches j ≡ Some y) e at in
          let same : y ≡ x = cc (there, listed) in
          absurd (none (subst (λ (s : Switch). s.bay.0 ≡ part) same bay, λ q. ne (e ∙ q)))
      | inr far ↦ (i, is, omega (arith, low, far), ne, own)
    ]

  module _ (k : ℕ) (x : Link) (listed : slice_get d.links k ≡ Some x) where
    pub more_links : x.part.0 ≡ part → (item : Item) → Either (Li k) (Only (a_link k)) item → Li (k + 1) item
    more_links own item (inl m) = wide_links k item m
    more_links own item (inr e) = (k, e, omega arith, (x, listed, own))

    pub fewer_links : (item : Item) → Li (k + 1) item → Either (Li k) (Only (a_link k)) item
    fewer_links item (i, is, low, own) = elim (cases_eq i k) [
      | inl e ↦ inr (is ∙ ap a_link e)
      | inr far ↦ inl (i, is, omega (arith, low, far), own)
    ]

    pub same_links : (x.part.0 ≡ part → ⊥) → (item : Item) → Li (k + 1) item → Li k item
    same_links none item (i, is, low, own) = elim (cases_eq i k) [
      | inl e ↦
          let (y, at, bay) = own in
          let there : slice_get d.links k ≡ Some y = subst (λ j. slice_get d.links j ≡ Some y) e at in
          let same : y ≡ x = cc (there, listed) in
          absurd (none (subst (λ (s : Link). s.part.0 ≡ part) same bay))
      | inr far ↦ (i, is, omega (arith, low, far), own)
    ]

  module _ (k : ℕ) (x : Tap) (listed : slice_get d.taps k ≡ Some x) where
    pub more_taps : x.part.0 ≡ part → (item : Item) → Either (Ta k) (Only (a_tap k)) item → Ta (k + 1) item
    more_taps own item (inl m) = wide_taps k item m
    more_taps own item (inr e) = (k, e, omega arith, (x, listed, own))

    pub fewer_taps : (item : Item) → Ta (k + 1) item → Either (Ta k) (Only (a_tap k)) item
    fewer_taps item (i, is, low, own) = elim (cases_eq i k) [
      | inl e ↦ inr (is ∙ ap a_tap e)
      | inr far ↦ inl (i, is, omega (arith, low, far), own)
    ]

    pub same_taps : (x.part.0 ≡ part → ⊥) → (item : Item) → Ta (k + 1) item → Ta k item
    same_taps none item (i, is, low, own) = elim (cases_eq i k) [
      | inl e ↦
          let (y, at, bay) = own in
          let there : slice_get d.taps k ≡ Some y = subst (λ j. slice_get d.taps j ≡ Some y) e at in
          let same : y ≡ x = cc (there, listed) in
          absurd (none (subst (λ (s : Tap). s.part.0 ≡ part) same bay))
      | inr far ↦ (i, is, omega (arith, low, far), own)
    ]

  -- ALL ITEMS OF THE PART BUT THE SWITCH
  abbrev All : Item → Type 0
  All = Either (Either (Sw (length d.switches)) (Li (length d.links))) (Ta (length d.taps))

  abbrev number_of : Item → ℕ
  number_of (a_switch k) = k
  number_of (a_link k) = k
  number_of (a_tap k) = k

  pub all_there : (item : Item) → PartBut d part skip item → All item
  all_there (a_switch i) (own, ne) =
      let (x, at, bay) = own in
      inl (inl (i, refl, slice_get_within d.switches i x at, λ e. ne (ap a_switch e), own))
  all_there (a_link i) (own, ne) = let (x, at, bay) = own in inl (inr (i, refl, slice_get_within d.links i x at, own))
  all_there (a_tap i) (own, ne) = let (x, at, bay) = own in inr (i, refl, slice_get_within d.taps i x at, own)

  own_switch : (item : Item) (i : ℕ) → item ≡ a_switch i → i ≢ skip → OfPart d part (a_switch i) → PartBut d part skip item
  own_switch item i is ne own =
      subst (PartBut d part skip) (sym is) (own, λ e. ne (ap number_of e))

  own_link : (item : Item) (i : ℕ) → item ≡ a_link i → OfPart d part (a_link i) → PartBut d part skip item
  own_link item i is own = subst (PartBut d part skip) (sym is) (own, λ e. cc)

  own_tap : (item : Item) (i : ℕ) → item ≡ a_tap i → OfPart d part (a_tap i) → PartBut d part skip item
  own_tap item i is own = subst (PartBut d part skip) (sym is) (own, λ e. cc)

  pub all_back : (item : Item) → All item → PartBut d part skip item
  all_back item (inl (inl (i, is, low, ne, own))) = own_switch item i is ne own
  all_back item (inl (inr (i, is, low, own))) = own_link item i is own
  all_back item (inr (i, is, low, own)) = own_tap item i is own

  pub part_added : (view : View) (one two three : List Term) → Grew one two → Grew two three →
      (old first second new : List Edge) → AddsSight view one old (Sw (length d.switches)) d first →
      AddsSight view two first (Li (length d.links)) d second →
      AddsSight view three second (Ta (length d.taps)) d new → AddsSight view three old (PartBut d part skip) d new
  part_added view one two three g h old first second new a b c =
      same_items view d All (PartBut d part skip) all_there all_back three old new
      (then_more view d (Either (Sw (length d.switches)) (Li (length d.links))) (Ta (length d.taps)) All (λ x k. k)
      (λ x k. k) two three h old second new
      (then_more view d (Sw (length d.switches)) (Li (length d.links))
      (Either (Sw (length d.switches)) (Li (length d.links))) (λ x k. k) (λ x k. k) one two g old first second a b) c)
