-- Load compared with every earthing switch open.
use Rattle.std.proofs.Common.{◌≡◌, ◌≢◌, ◌⊎◌, ℕ, ◌<◌, zero, suc, Bool, true, false, List, [], ◌∷◌, length, slice_get, Some}
use Rattle.std.proofs.Common.{refl, sym, subst, ap, ◌∙◌, inl, inr, get_or, arith}
use Rattle.std.proofs.lemmas.Option.{same_Some, slice_get-get_or, slice_get_within}
use Rattle.ilk_base.specs.declared.words.Kind.{Kind}
use Rattle.ilk_base.specs.declared.words.Kind.TheVariants.{Breaker, Disconnector, Earthing, Infeed}
use Rattle.ilk_base.specs.declared.words.Op.{Op}
use Rattle.ilk_base.specs.declared.words.Rule.TheVariants.{R1, R2}
use Rattle.station_graph.specs.declared.items.Switch.{Switch}
use Rattle.station_graph.specs.Diagram.{Diagram}
use Rattle.station_graph.specs.CentralRules.{LoadBreaks, Applies}
use Rattle.station_changes.specs.Covers.{Covers, NoEarth, Moves, LoadChange}
use Rattle.station_changes.specs.Compare.{SameSwitch, IsJoint, IsIsolated, IsCommon}
use Rattle.station_changes.proofs.LoadLemmas.{load_between, no_gap}

-- a position, open at an earthing switch
abbrev opened : Kind → Bool → Bool
opened Breaker c = c
opened Disconnector c = c
opened Earthing c = false
opened Infeed c = c

-- the positions with every earthing switch open
abbrev open_in : List Switch → List Bool → List Bool
open_in [] v = v
open_in (x ∷ xs) [] = []
open_in (x ∷ xs) (c ∷ v) = opened x.kind c ∷ open_in xs v

opened_other : (k : Kind) (c : Bool) → k ≢ Earthing → opened k c ≡ c
opened_other Breaker c ne = refl
opened_other Disconnector c ne = refl
opened_other Earthing c ne = absurd (ne refl)
opened_other Infeed c ne = refl

opened_earth : (k : Kind) (c : Bool) → k ≡ Earthing → opened k c ≡ false
opened_earth Breaker c e = cc e
opened_earth Disconnector c e = cc e
opened_earth Earthing c e = refl
opened_earth Infeed c e = cc e

open_len : (xs : List Switch) (v : List Bool) → length (open_in xs v) ≡ length v
open_len [] v = refl
open_len (x ∷ xs) [] = refl
open_len (x ∷ xs) (c ∷ v) = ap suc (open_len xs v)

at_other : (xs : List Switch) (v : List Bool) (i : ℕ) (x : Switch) → slice_get xs i ≡ Some x → x.kind ≢ Earthing →
    slice_get (open_in xs v) i ≡ slice_get v i
at_other [] v i x at ne = refl
at_other (y ∷ xs) [] i x at ne = refl
at_other (y ∷ xs) (c ∷ v) zero x at ne =
    let same : y ≡ x = same_Some y x at in
    ap Some (opened_other y.kind c (subst (λ (z : Switch). z.kind ≢ Earthing) (sym same) ne))
at_other (y ∷ xs) (c ∷ v) (suc i) x at ne = at_other xs v i x at ne

at_earth : (xs : List Switch) (v : List Bool) (i : ℕ) (x : Switch) (c : Bool) → slice_get xs i ≡ Some x →
    x.kind ≡ Earthing → slice_get v i ≡ Some c → slice_get (open_in xs v) i ≡ Some false
at_earth [] v i x c at e there = cc at
at_earth (y ∷ xs) [] i x c at e there = cc there
at_earth (y ∷ xs) (b ∷ v) zero x c at e there =
    let same : y ≡ x = same_Some y x at in
    ap Some (opened_earth y.kind b (subst (λ (z : Switch). z.kind ≡ Earthing) (sym same) e))
at_earth (y ∷ xs) (b ∷ v) (suc i) x c at e there = at_earth xs v i x c at e there

no_true : (xs : List Switch) (v : List Bool) (i : ℕ) (x : Switch) → slice_get xs i ≡ Some x → x.kind ≡ Earthing →
    slice_get (open_in xs v) i ≢ Some true
no_true [] v i x at e h = cc at
no_true (y ∷ xs) [] i x at e h = cc h
no_true (y ∷ xs) (b ∷ v) zero x at e h =
    let same : y ≡ x = same_Some y x at in
    let f : Some (opened y.kind b) ≡ Some false =
    ap Some (opened_earth y.kind b (subst (λ (z : Switch). z.kind ≡ Earthing) (sym same) e)) in
    let g : Some false ≡ Some true = sym f ∙ h in
    cc g
no_true (y ∷ xs) (b ∷ v) (suc i) x at e h = no_true xs v i x at e h

-- a kind is that of an earthing switch, or it is another
earth_or : (k : Kind) → (k ≡ Earthing) ⊎ (k ≢ Earthing)
earth_or Breaker = inr (λ e. cc e)
earth_or Disconnector = inr (λ e. cc e)
earth_or Earthing = inl refl
earth_or Infeed = inr (λ e. cc e)

some_of : (xs : List Switch) (i : ℕ) → i < length xs → Switch
some_of [] i lt = absurd (omega (arith, lt))
some_of (x ∷ xs) i lt = x

abbrev open_earth : Diagram → List Bool → List Bool
open_earth d v = open_in d.switches v

module _ (d : Diagram) (v : List Bool) where
  fewer : Covers d (open_earth d v) v
  fewer i x listed ne closed = sym (at_other d.switches v i x listed ne) ∙ closed

  more : Covers d v (open_earth d v)
  more i x listed ne closed = at_other d.switches v i x listed ne ∙ closed

  none_closed : NoEarth d (open_earth d v)
  none_closed i x listed e = no_true d.switches v i x listed e

  still_open : (i : ℕ) → i < length d.switches → slice_get v i ≡ Some false →
      slice_get (open_earth d v) i ≡ Some false
  still_open i lt at =
      let some = some_of d.switches i lt in
      let x = get_or d.switches i some in
      let listed : slice_get d.switches i ≡ Some x = slice_get-get_or d.switches i some lt in
      elim (earth_or x.kind) [
        | inl e ↦ at_earth d.switches v i x false listed e at
        | inr ne ↦ at_other d.switches v i x listed ne ∙ at
      ]

-- the operation on a disconnector breaks neither of the first two rules
module _ (d : Diagram) (op : Op) (moves : Moves Disconnector d op) (v : List Bool) (none : NoEarth d v) where
  not_first : ¬ Applies R1 d v op
  not_first h =
      let same : h.switch ≡ moves.switch = same_Some h.switch moves.switch (sym h.moves ∙ moves.listed) in
      let e : Earthing ≡ Disconnector =
      sym h.is_earthing ∙ (ap (λ (x : Switch). x.kind) same ∙ moves.is_kind) in
      cc e

  not_second : ¬ Applies R2 d v op
  not_second h = elim h [
    | inl closing ↦ no_gap d v op none closing
    | inr feeding ↦
        let same : feeding.switch ≡ moves.switch =
        same_Some feeding.switch moves.switch (sym feeding.moves ∙ moves.listed) in
        let e : Infeed ≡ Disconnector =
        sym feeding.is_infeed ∙ (ap (λ (x : Switch). x.kind) same ∙ moves.is_kind) in
        cc e
  ]

module _ (o n : Diagram) (a b : Op) (u v : List Bool) (common : IsCommon o n a b) (moves : Moves Disconnector o a)
    (joint : IsJoint o n u v) where
  moves_new : Moves Disconnector n b
  moves_new =
      let s = common.switch in
      let same : s.old ≡ moves.switch = same_Some s.old moves.switch (sym s.old_at ∙ moves.listed) in
      record {
        switch = s.new;
        listed = s.new_at;
        is_kind = sym s.kind ∙ (ap (λ (x : Switch). x.kind) same ∙ moves.is_kind);
      }

  agree_open : (i k : ℕ) → SameSwitch o n i k → slice_get (open_earth o u) i ≡ slice_get (open_earth n v) k
  agree_open i k s =
      let i_in = slice_get_within o.switches i s.old s.old_at in
      let c = get_or u i false in
      let at_u : slice_get u i ≡ Some c = slice_get-get_or u i false (omega (arith, i_in, joint.old)) in
      let at_v : slice_get v k ≡ Some c = sym (joint.agree i k s) ∙ at_u in
      elim (earth_or s.old.kind) [
        | inl e ↦
            at_earth o.switches u i s.old c s.old_at e at_u
            ∙ sym (at_earth n.switches v k s.new c s.new_at (sym s.kind ∙ e) at_v)
        | inr ne ↦
            at_other o.switches u i s.old s.old_at ne
            ∙ (joint.agree i k s
            ∙ sym (at_other n.switches v k s.new s.new_at (λ e. ne (s.kind ∙ e))))
      ]

  joint_open : IsJoint o n (open_earth o u) (open_earth n v)
  joint_open = record {
    old = open_len o.switches u ∙ joint.old;
    new = open_len n.switches v ∙ joint.new;
    agree = agree_open;
  }

  isolated_open : IsIsolated o n u v → IsIsolated o n (open_earth o u) (open_earth n v)
  isolated_open h = record {
    old = λ i lt alone. still_open o u i lt (h.old i lt alone);
    new = λ k lt alone. still_open n v k lt (h.new k lt alone);
  }

  load_old : LoadBreaks o (open_earth o u) a → LoadBreaks o u a
  load_old h = load_between o (open_earth o u) u (open_earth o u) a (fewer o u) (more o u) h h

  load_new : LoadBreaks n (open_earth n v) b → LoadBreaks n v b
  load_new h = load_between n (open_earth n v) v (open_earth n v) b (fewer n v) (more n v) h h

  old_load : LoadBreaks o u a → LoadBreaks o (open_earth o u) a
  old_load h = load_between o u (open_earth o u) u a (more o u) (fewer o u) h h

  new_load : LoadBreaks n v b → LoadBreaks n (open_earth n v) b
  new_load h = load_between n v (open_earth n v) v b (more n v) (fewer n v) h h

  pub change_alone : LoadChange o n a b u v
  change_alone = record {
    stricter = λ no yes. record {
      old = open_earth o u;
      new = open_earth n v;
      joint = joint_open;
      isolated = isolated_open;
      shows = (
        (
          not_first o a moves (open_earth o u) (none_closed o u),
          not_second o a moves (open_earth o u) (none_closed o u),
          λ h. no (load_old h),
        ),
        (
          not_first n b moves_new (open_earth n v) (none_closed n v),
          not_second n b moves_new (open_earth n v) (none_closed n v),
          new_load yes,
        ),
      );
    };
    looser = λ yes no. record {
      old = open_earth o u;
      new = open_earth n v;
      joint = joint_open;
      isolated = isolated_open;
      shows = (
        (
          not_first o a moves (open_earth o u) (none_closed o u),
          not_second o a moves (open_earth o u) (none_closed o u),
          old_load yes,
        ),
        (
          not_first n b moves_new (open_earth n v) (none_closed n v),
          not_second n b moves_new (open_earth n v) (none_closed n v),
          λ h. no (load_new h),
        ),
      );
    };
  }
