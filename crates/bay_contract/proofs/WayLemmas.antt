-- What the noted positions say at the end.
use Rattle.std.proofs.Common.{◌≡◌, ℕ, zero, suc, ◌+◌, ◌-◌, ◌^◌, ◌<◌, ◌↔◌, Bool, Option, List, [], ◌∷◌, drop, length}
use Rattle.std.proofs.Common.{slice_get, refl, sym, ◌∙◌, ap, subst, arith}
use Rattle.std.proofs.lemmas.Option.{slice_get_within}
use Rattle.ilk_base.specs.declared.words.Dbpos.{Dbpos}
use Rattle.station_graph.specs.Connection.{LeadsTo as Chain, a_switch}
use Rattle.station_graph.specs.Sharing.{OfPart}
use Rattle.station_graph.specs.Alike.{IsVector}
use Rattle.station_graph.specs.Diagram.{Diagram}
use Rattle.double_points.specs.Words.{BayAgrees}
use Rattle.part_alphabets.specs.Diagrams.{ForkGoes}
use Rattle.part_alphabets.specs.PartAlphabets.{PartAlphabet, Alphabets, part_at, first_switch_of, count_of, StandsAt}
use Rattle.bay_contract.specs.Shapes.{IsShaped}
use Rattle.bay_contract.specs.Paths.{BeginsSo, TestedAgree, MayGo, LeadsBack, HasPath, PathsTo, MayLead, IsWay}
use Rattle.part_alphabets.specs.Alphabets.{CanHave, IsAgreeing, IsAlphabet, KeepsPosition, InSet}
use Rattle.bay_contract.proofs.NextLemmas.{some_at}
use Rattle.bay_contract.proofs.PutLemmas.{bits_some}

-- what stands behind the first n
get_behind : {X : Type 0} (n : ℕ) (xs : List X) (i : ℕ) → slice_get (drop n xs) i ≡ slice_get xs (n + i)
get_behind zero xs i = (let e : i ≡ 0 + i = omega arith in ap (slice_get xs) e)
get_behind (suc n) [] i = refl
get_behind (suc n) (x ∷ xs) i =
    (let e : suc (n + i) ≡ suc n + i = omega arith in get_behind n xs i ∙ ap (slice_get (x ∷ xs)) e)

module _ (x : PartAlphabet) (words : List Dbpos) (shaped : IsShaped x) (all : length words ≡ x.switches) (paths : List
    (Option ℕ)) (h : PathsTo x words (length x.forks) paths) where
  -- a noted position is a way
  noted_way : (i p : ℕ) → LeadsBack paths (length x.forks + i) p → IsWay x words i p
  noted_way i p n =
      let l = h.sound (length x.forks + i) p n in
      let e : l.tested ≡ x.count = l.before.index (omega arith) in
      let back : (v : List Bool) → BeginsSo x x.count p v → BeginsSo x l.tested p v = λ v b. subst
      (λ k. BeginsSo x k p v) (sym e) b in
      record {
        small = subst (λ k. p < 2 ^ k) e l.small;
        agrees = λ v b. subst (λ k. TestedAgree x words k v) e (l.agrees v (back v b));
        leads = λ v b. l.leads v (back v b);
      }

  may_go : (v : List Bool) → length v ≡ x.switches → TestedAgree x words x.count v → (a b : ℕ)
      → (g : ForkGoes x.forks v a b) → MayGo words g.fork b g.closed
  may_go v whole agree a b g =
      let inside = shaped.staged.inside a g.fork g.listed in
      let (word, told) = some_at words g.fork.switch.0 (omega (arith, shaped.within, inside.1)) in
      let place : x.first + (g.fork.switch.0 - x.first) ≡ g.fork.switch.0 = omega (arith, inside.0) in
      record {
        word = word;
        told = told;
        agrees = agree (g.fork.switch.0 - x.first) word g.closed (omega (arith, inside.0, inside.1)) (ap
            (slice_get words) place ∙ told) (ap (slice_get v) place ∙ g.position);
        to = g.to;
      }

  chain_noted : (v : List Bool) → length v ≡ x.switches → TestedAgree x words x.count v
      → (a : ℕ) (ns : List ℕ) (b : ℕ) → HasPath paths a → Chain (ForkGoes x.forks v) a ns b → HasPath paths b
  chain_noted v whole agree a [] b m c = subst (λ n. HasPath paths n) c m
  chain_noted v whole agree a (n ∷ ns) b m c =
      let g = c.0 in
      chain_noted v whole agree n ns b (h.done a n g.fork g.closed
      (slice_get_within x.forks a g.fork g.listed) m g.listed (may_go v whole agree a n g)) c.1

  -- WHERE A POSITION IS NOTED
  pub noted_exactly : (i : ℕ) → HasPath paths (length x.forks + i) ↔ MayLead x words i
  noted_exactly i = (
    λ n.
        let way = noted_way i n.0 n.1 in
        let (v, whole, stands) = bits_some x.switches x.first x.count n.0 way.small shaped.within in
        let begins : BeginsSo x x.count n.0 v = record { whole = whole; stands = stands } in
        record { vector = v; whole = whole; agrees = way.agrees v begins; leads = way.leads v begins },
    λ m. chain_noted m.vector m.whole m.agrees 0 m.leads.after (length x.forks + i) h.start m.leads.leads,
  )

  -- the places behind the steps
  module _ (set : List (Option ℕ)) (behind : set ≡ drop (length x.forks) paths) where
    place_of : (i : ℕ) → slice_get set i ≡ slice_get paths (length x.forks + i)
    place_of i = ap (λ l. slice_get l i) behind ∙ get_behind (length x.forks) paths i

    pub placed_way : (i p : ℕ) → KeepsPosition set i p → IsWay x words i p
    placed_way i p at = noted_way i p (sym (place_of i) ∙ at)

    pub held_exactly : (i : ℕ) → InSet set i ↔ MayLead x words i
    held_exactly i = (
      λ s. (noted_exactly i).0 (s.0, sym (place_of i) ∙ s.1),
      λ m. (let n = (noted_exactly i).1 m in (n.0, place_of i ∙ n.1)),
    )

-- in the words of the station
module _ (d : Diagram) (a : Alphabets) (part : ℕ) (is : IsAlphabet d a part) (words : List Dbpos) (switches :
    (part_at a part).switches ≡ length d.switches) where
  parts_own : (k : ℕ) → k < count_of a part → OfPart d part (a_switch (first_switch_of a part + k))
  parts_own k lt =
      let (x, at) = some_at d.switches (first_switch_of a part + k) (omega (arith, is.switches.within)) in
      (x, at, (is.switches.those (first_switch_of a part + k) x at).1 (omega arith, omega arith))

  agrees_in : (v : List Bool) → TestedAgree (part_at a part) words (count_of a part) v → BayAgrees d part words v
  agrees_in v agree i word closed own told at =
      let those = (is.switches.those i own.0 own.1).0 own.2 in
      let place : first_switch_of a part + (i - first_switch_of a part) ≡ i = omega (arith, those.0) in
      agree (i - first_switch_of a part) word closed (omega (arith, those.0, those.1)) (ap (slice_get words) place
      ∙ told) (ap (slice_get v) place ∙ at)

  agrees_out : (v : List Bool) → BayAgrees d part words v → TestedAgree (part_at a part) words (count_of a part) v
  agrees_out v agree k word closed lt told at = agree (first_switch_of a part + k) word closed (parts_own k lt) told at

  pub can_have : (i : ℕ) → MayLead (part_at a part) words i ↔ CanHave d a part words i
  can_have i = (
    λ m. record {
      vector = m.vector;
      whole = m.whole ∙ switches;
      agrees = agrees_in m.vector m.agrees;
      has = (is.leads m.vector i (m.whole ∙ switches)).1 m.leads;
    },
    λ c. record {
      vector = c.vector;
      whole = c.whole ∙ sym switches;
      agrees = agrees_out c.vector c.agrees;
      leads = (is.leads c.vector i c.whole).0 c.has;
    },
  )

  pub agreeing_way : (i p : ℕ) → IsWay (part_at a part) words i p → IsAgreeing d a part words i p
  agreeing_way i p w =
      let begins : (v : List Bool) → IsVector d v → StandsAt a part p v → BeginsSo (part_at a part)
      (count_of a part) p v = λ v vec s. record { whole = vec ∙ sym switches; stands = s } in
      record {
        position = w.small;
        agrees = λ v vec s. agrees_in v (w.agrees v (begins v vec s));
        has = λ v vec s. (is.leads v i vec).1 (w.leads v (begins v vec s));
      }
