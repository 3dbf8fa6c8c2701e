-- What the items but one switch say of an operation of that switch.
use Rattle.std.proofs.Common.{◌≡◌, ◌≢◌, ℕ, ◌<◌, ◌⊎◌, ◌↔◌, Bool, true, false, List, [], ◌∷◌, length, slice_get}
use Rattle.std.proofs.Common.{slice_set, Some, refl, sym, ◌∙◌, ap, subst, inl, inr}
use Rattle.std.proofs.lemmas.Bool.{cases_eq}
use Rattle.ilk_base.specs.declared.words.Kind.{Kind}
use Rattle.ilk_base.specs.declared.words.Kind.TheVariants.{Breaker, Disconnector, Earthing, Infeed}
use Rattle.ilk_base.specs.declared.words.NodeId.{NodeId}
use Rattle.station_graph.specs.declared.items.Switch.{Switch}
use Rattle.station_graph.specs.Diagram.{Diagram, HasTap, InfeedsTapped, IsTwoEnded}
use Rattle.station_graph.specs.Connection.{Item, a_switch, a_link, a_tap, ItemBetween, ClosedBetween, TouchingBy}
use Rattle.station_graph.specs.Connection.{Touching, Linked, LeadsTo, unless_breaker, with_breakers_closed, Coupled}
use Rattle.station_graph.specs.Supply.{ClosedAt, Live, Quiet}
use Rattle.station_graph.proofs.LinkedLemmas.{linked_self, linked_one, linked_trans, linked_weaker}
use Rattle.station_graph.proofs.PartialEdges.{closed_ends}
use Rattle.station_graph.specs.Views.{CoupledBy, ClosedAtBy, FedBy, TappedBy}
use Rattle.station_graph.specs.Alike.{SamePositions}
use Rattle.contraction.specs.Stands.{AllBut}
use Rattle.station_graph.proofs.PositionLemmas.{slice_get-set_other, SamePositions-coupled, SamePositions-sym}
use Rattle.station_graph.proofs.PositionLemmas.{linked_same_positions, closed_same}
use Rattle.contraction.proofs.MarkLemmas.{slice_get-set_same}
use Rattle.contraction.proofs.SwitchLemmas.{close_breakers_entry}

item_cases : (m : ℕ) (item : Item) → (item ≡ a_switch m) ⊎ (item ≢ a_switch m)
item_cases m (a_switch i) = elim (cases_eq i m) [ inl e ↦ inl (ap a_switch e) | inr ne ↦ inr (λ e. ne (cc)) ]
item_cases m (a_link i) = inr (λ e. cc)
item_cases m (a_tap i) = inr (λ e. cc)

module _ (d : Diagram) (m : ℕ) where
  abbrev Rest : Item → Type 0
  Rest = AllBut (a_switch m)

  pub rest_same : (v : List Bool) (b : Bool) → SamePositions Rest (slice_set v m b) v
  rest_same v b i ne = slice_get-set_other v m i b (λ e. ne (ap a_switch e))

  -- where the switch joins nothing the other items join all
  module _ (bonds_only : Bool) (u v : List Bool) (same : SamePositions Rest u v) where
    pub rest_joins : ((a b : ℕ) → ClosedBetween d u m a b → ⊥) → (a b : ℕ) → Linked (Touching bonds_only d u) a b ↔
        Linked (TouchingBy Rest bonds_only d v) a b
    rest_joins none a b = (
      λ l. linked_same_positions Rest d u v same bonds_only a b
          (linked_weaker (Touching bonds_only d u) (TouchingBy Rest bonds_only d u)
          (λ x y h. elim (item_cases m h.item) [
            | inl e ↦ absurd (none x y (subst (λ i. ItemBetween bonds_only d u i x y) e h.between))
            | inr ne ↦ record { item = h.item; among = ne; between = h.between }
          ]) a b l),
      λ l. linked_weaker (TouchingBy Rest bonds_only d u) (Touching bonds_only d u)
          (λ x y h. record { item = h.item; among = tt; between = h.between }) a b
          (linked_same_positions Rest d v u (SamePositions-sym Rest u v same) bonds_only a b l),
    )

  module _ (x : Switch) (listed : slice_get d.switches m ≡ Some x) where
    -- a switch of another kind is among the rest
    pub closed_rest : (u v : List Bool) (kind : Kind) → SamePositions Rest u v → x.kind ≢ kind → (n : ℕ) →
        ClosedAt d u kind n ↔ ClosedAtBy Rest d v kind n
    closed_rest u v kind same other n = (
      λ h. closed_same Rest d u v same kind n (record {
        at = h;
        among = λ e.
            let number : h.number ≡ m = cc in
            let there : slice_get d.switches m ≡ Some h.switch =
            subst (λ k. slice_get d.switches k ≡ Some h.switch) number h.listed in
            let is : x ≡ h.switch = cc (there, listed) in
            other (ap (λ (s : Switch). s.kind) is ∙ h.is_kind);
      }),
      λ h. (closed_same Rest d v u (SamePositions-sym Rest u v same) kind n h).at,
    )

    one_ended : ¬ IsTwoEnded x.kind → (u : List Bool) (a b : ℕ) → ClosedBetween d u m a b → ⊥
    one_ended one u a b h =
        let is : h.switch ≡ x = cc (h.listed, listed) in
        one (subst (λ (s : Switch). IsTwoEnded s.kind) is h.two_ended)

    -- a switch with one end: what is coupled to a closed switch of another kind
    pub coupled_to_rest : (v : List Bool) (b : Bool) (kind : Kind) → ¬ IsTwoEnded x.kind → x.kind ≢ kind → (a : ℕ) →
        ((n : ℕ) × Coupled d (slice_set v m b) a n × ClosedAt d (slice_set v m b) kind n) ↔
        ((n : ℕ) × CoupledBy Rest d v a n × ClosedAtBy Rest d v kind n)
    coupled_to_rest v b kind one other a =
        let u : List Bool = slice_set v m b in
        let same : SamePositions Rest u v = rest_same v b in
        let joins = rest_joins false (with_breakers_closed d u) (with_breakers_closed d v)
        (SamePositions-coupled Rest d u v same) (one_ended one (with_breakers_closed d u)) in (
          λ (n, l, at). (n, (joins a n).0 l, (closed_rest u v kind same other n).0 at),
          λ (n, l, at). (n, (joins a n).1 l, (closed_rest u v kind same other n).1 at),
        )

    -- the switch open
    open_joins : (v : List Bool) → m < length v → (a b : ℕ) → ClosedBetween d (slice_set v m false) m a b → ⊥
    open_joins v m_in a b h =
        let off : slice_get (slice_set v m false) m ≡ Some false = slice_get-set_same v m false m_in in
        let on : slice_get (slice_set v m false) m ≡ Some true = h.closed in
        cc

    pub open_rest : (bonds_only : Bool) (v : List Bool) → m < length v → (a b : ℕ) →
        Linked (Touching bonds_only d (slice_set v m false)) a b ↔ Linked (TouchingBy Rest bonds_only d v) a b
    open_rest bonds_only v m_in = rest_joins bonds_only (slice_set v m false) v (rest_same v false) (open_joins v m_in)

    pub live_rest : (v : List Bool) → m < length v → x.kind ≢ Infeed → (a : ℕ) → Live d (slice_set v m false) a ↔
        FedBy Rest d v a
    live_rest v m_in other a = (
      λ (n, l, at). (
        n,
        (open_rest false v m_in a n).0 l,
        (closed_rest (slice_set v m false) v Infeed (rest_same v false) other n).0 at,
      ),
      λ (n, l, at). (
        n,
        (open_rest false v m_in a n).1 l,
        (closed_rest (slice_set v m false) v Infeed (rest_same v false) other n).1 at,
      ),
    )

    pub loaded_rest : (v : List Bool) → m < length v → InfeedsTapped d → (a : ℕ) →
        FedBy Rest d v a ⊎ TappedBy Rest d v a → ¬ Quiet d (slice_set v m false) a
    loaded_rest v m_in infeeds a (inl (n, l, h)) quiet =
        quiet n (let tapped : HasTap d h.at.switch.first.0 = infeeds h.at.number h.at.switch h.at.listed h.at.is_kind in
        subst (λ p. HasTap d p) h.at.stands tapped) ((open_rest false v m_in a n).1 l)
    loaded_rest v m_in infeeds a (inr (n, l, h)) quiet =
        quiet n (h.number, h.tap, h.listed, h.stands) ((open_rest false v m_in a n).1 l)

    pub quiet_rest : (v : List Bool) → m < length v → (a : ℕ) → ¬ (FedBy Rest d v a ⊎ TappedBy Rest d v a) →
        Quiet d (slice_set v m false) a
    quiet_rest v m_in a none n (i, t, t_listed, stands) l =
        none (inr (
          n,
          (open_rest false v m_in a n).0 l,
          record { number = i; tap = t; listed = t_listed; stands = stands; among = λ e. cc },
        ))

    -- the switch closed, with ends p and q
    module _ (v : List Bool) (m_in : m < length v) (q : NodeId) (second : x.second ≡ Some q)
        (two : IsTwoEnded x.kind) where
      abbrev p : ℕ
      p = x.first.0

      abbrev u : List Bool
      u = slice_set v m true

      abbrev J : ℕ → ℕ → Type 0
      J = CoupledBy Rest d v

      same_u : SamePositions Rest (with_breakers_closed d u) (with_breakers_closed d v)
      same_u = SamePositions-coupled Rest d u v (rest_same v true)

      on_at : (k : Kind) → unless_breaker k true ≡ true
      on_at Breaker = refl
      on_at Disconnector = refl
      on_at Earthing = refl
      on_at Infeed = refl

      closed_u : slice_get (with_breakers_closed d u) m ≡ Some true
      closed_u =
          close_breakers_entry d.switches u m x true listed (slice_get-set_same v m true m_in) ∙ ap Some (on_at x.kind)

      edge : Touching false d (with_breakers_closed d u) p q.0
      edge = record {
        item = a_switch m;
        among = tt;
        between = record {
          switch = x;
          second = q;
          listed = listed;
          two_ended = two;
          has_second = second;
          closed = closed_u;
          ends = inl (refl, refl);
        };
      }

      step_on : (n : ℕ) (a b : ℕ) → J n a → (item : Item) → Rest item →
          ItemBetween false d (with_breakers_closed d u) item a b → J n b
      step_on n a b l item among between =
          linked_trans (TouchingBy Rest false d (with_breakers_closed d v)) n a b l
          (linked_same_positions Rest d (with_breakers_closed d u) (with_breakers_closed d v) same_u false a b
          (linked_one (TouchingBy Rest false d (with_breakers_closed d u)) a b
          (record { item = item; among = among; between = between })))

      step : (a b : ℕ) → J p a ⊎ J q.0 a → Touching false d (with_breakers_closed d u) a b → J p b ⊎ J q.0 b
      step a b l h = elim (item_cases m h.item) [
        | inl e ↦
            let c : ClosedBetween d (with_breakers_closed d u) m a b =
            subst (λ i. ItemBetween false d (with_breakers_closed d u) i a b) e h.between in
            elim (closed_ends d (with_breakers_closed d u) m a b x q listed second c) [
              | inl w ↦
                  inr (subst (J q.0) (sym w.1) (linked_self (TouchingBy Rest false d (with_breakers_closed d v)) q.0))
              | inr w ↦ inl (subst (J p) (sym w.1) (linked_self (TouchingBy Rest false d (with_breakers_closed d v)) p))
            ]
        | inr ne ↦ elim l [
          | inl k ↦ inl (step_on p a b k h.item ne h.between)
          | inr k ↦ inr (step_on q.0 a b k h.item ne h.between)
        ]
      ]

      walk : (a b : ℕ) (xs : List ℕ) → J p a ⊎ J q.0 a → LeadsTo (Touching false d (with_breakers_closed d u)) a xs b →
          J p b ⊎ J q.0 b
      walk a b [] l e = subst (λ n. J p n ⊎ J q.0 n) e l
      walk a b (z ∷ zs) l h = walk z b zs (step a z l h.0) h.1

      into : (a b : ℕ) → J a b → Coupled d u a b
      into a b l =
          linked_weaker (TouchingBy Rest false d (with_breakers_closed d u))
          (Touching false d (with_breakers_closed d u))
          (λ y z h. record { item = h.item; among = tt; between = h.between }) a b
          (linked_same_positions Rest d (with_breakers_closed d v) (with_breakers_closed d u)
          (SamePositions-sym Rest (with_breakers_closed d u) (with_breakers_closed d v) same_u) false a b l)

      pub closed_coupled_to : (kind : Kind) → x.kind ≢ kind → ((n : ℕ) × Coupled d u p n × ClosedAt d u kind n) ↔
          (((n : ℕ) × J p n × ClosedAtBy Rest d v kind n) ⊎ ((n : ℕ) × J q.0 n × ClosedAtBy Rest d v kind n))
      closed_coupled_to kind other = (
        λ (n, l, at).
            let h = (closed_rest u v kind (rest_same v true) other n).0 at in
            elim (walk p n l.after (inl (linked_self (TouchingBy Rest false d (with_breakers_closed d v)) p)) l.leads) [
              | inl k ↦ inl (n, k, h)
              | inr k ↦ inr (n, k, h)
            ],
        λ e. elim e [
          | inl (n, l, h) ↦ (n, into p n l, (closed_rest u v kind (rest_same v true) other n).1 h)
          | inr (n, l, h) ↦ (
            n,
            linked_trans (Touching false d (with_breakers_closed d u)) p q.0 n
                (linked_one (Touching false d (with_breakers_closed d u)) p q.0 edge) (into q.0 n l),
            (closed_rest u v kind (rest_same v true) other n).1 h,
          )
        ],
      )
