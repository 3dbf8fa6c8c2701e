-- What the graphs of one view tell of an operation.
use Rattle.std.proofs.Common.{◌≡◌, ℕ, Bool, List, Option, Some, None, MatchOption, refl, sym, subst}
use Rattle.ilk_base.specs.declared.words.Dbpos.{Dbpos}
use Rattle.ilk_base.specs.declared.words.Direction.TheVariants.{ToOn}
use Rattle.ilk_base.specs.declared.words.Op.{Op}
use Rattle.ilk_base.specs.declared.words.Rule.{Rule}
use Rattle.ilk_base.specs.declared.words.Rule.TheVariants.{R1, R2, R3}
use Rattle.station_graph.specs.CentralRules.{Breaks}
use Rattle.judge_pool.specs.declared.view.View.{View}
use Rattle.judge_pool.specs.declared.view.View.TheVariants.{Gap, Load}
use Rattle.judge_pool.specs.Graphs.{IsOwn, LabelSays}
use Rattle.judge_pool.specs.Lettered.{Lettered}
use Rattle.release_compile.specs.Allowed.{Within, IsSide}
use Rattle.release_compile.specs.Chaining.{IsChainOf, IsGapFound, IsFound}
use Rattle.release_compile.specs.Denying.{IsDenial, IsGapFree}
use Rattle.release_compile.specs.declared.search.Found.{Found}
use Rattle.release_compile.specs.declared.search.Side.{Side}
use Rattle.release_compile.proofs.DecideLemmas.{chain_fits, chain_small}
use Rattle.release_compile.proofs.HeardLemmas.{two_choices}
use Rattle.release_compile.proofs.VerdictLemmas.{says_chain, within_of}

-- what follows from each case of an answer
pub match_both : {X : Type 0} (o : Option X) (P Q : Type 0) (R S : X → Type 0) → (P → Q) → ((x : X) → R x → S x) →
    MatchOption o P R → MatchOption o Q S
match_both None P Q R S none some h = none h
match_both (Some x) P Q R S none some h = some x h

-- what the gap graphs say of closing is what both views say
pub gap_found : (gap load : Side) (sets : List (List Bool)) (rule : Rule) (cs all : List ℕ) →
    IsGapFound gap sets rule cs all → IsFound ToOn gap load sets rule cs all
gap_found gap load sets R1 cs all chain = (refl, chain)
gap_found gap load sets R2 cs all chain = (refl, chain)
gap_found gap load sets R3 cs all none = absurd none

module _ (a : Lettered) (b m first others : ℕ) (words : List Dbpos) (sets : List (List Bool))
    (own : IsOwn a.diagram b m first others) (op : Op) (moves : op.switch.0 ≡ m) where
  -- choices that lead to a label which says that the rule is broken
  chain_denies : (view : View) (s : Side) → IsSide view a b m first others words sets s → (goal : ℕ) (f : Found) →
      IsChainOf s sets goal f.choices.outer f.choices.inner →
      ((v : List Bool) → Within a b words sets v → LabelSays view a.diagram m v goal →
      Breaks a.diagram v op (Some f.rule)) → IsDenial a b m first others words sets op f
  chain_denies view s side goal f chain says =
      let cs = f.choices.outer in
      let all = f.choices.inner in
      let fits = chain_fits s sets others goal cs all side.ready side.inner_is.count chain in
      record {
        allows = fits.0;
        count = fits.1;
        small =
            chain_small s sets goal cs all chain
            (two_choices view a b m first others s.outer.now s.inner.now s.inner_sets side.inner_is side.ready.inner_fits);
        denies = λ v g.
            let within = within_of view a b m first others words sets s own side goal cs all v chain g in (
              within,
              says v within (says_chain view a b m first others words sets s own side goal cs all chain v within.whole
                  g.parts g.own),
            );
      }

  -- the gap graphs lead to one of the first two rules
  pub gap_denies : (s : Side) → IsSide Gap a b m first others words sets s → op.direction ≡ ToOn → (f : Found) →
      IsGapFound s sets f.rule f.choices.outer f.choices.inner → IsDenial a b m first others words sets op f
  gap_denies s side closes f found = by f.rule refl found
    where
      by : (rule : Rule) → f.rule ≡ rule → IsGapFound s sets rule f.choices.outer f.choices.inner →
          IsDenial a b m first others words sets op f
      by R1 e chain = chain_denies Gap s side 1 f chain
          (λ v within says. subst (λ (r : Rule). Breaks a.diagram v op (Some r)) (sym e) (says op moves closes))
      by R2 e chain = chain_denies Gap s side 2 f chain
          (λ v within says. subst (λ (r : Rule). Breaks a.diagram v op (Some r)) (sym e) (says op moves closes))
      by R3 e none = absurd none

  -- the load graphs lead to the third rule, and the first two are not broken
  pub load_denies : (s : Side) → IsSide Load a b m first others words sets s → IsGapFree a b words sets op → (f : Found) →
      f.rule ≡ R3 → IsChainOf s sets 1 f.choices.outer f.choices.inner → IsDenial a b m first others words sets op f
  load_denies s side free f third chain = chain_denies Load s side 1 f chain
      (λ v within says. let g = free v within in
      subst (λ (r : Rule). Breaks a.diagram v op (Some r)) (sym third) (g.0, g.1, (says op moves).0 refl))
