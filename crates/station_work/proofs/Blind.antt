-- Where nothing was heard, what a bay knows are the words of its own switches.
use Rattle.std.proofs.Common.{◌≡◌, subst, ℕ, zero, suc, Bool, List, Option, Some, None, Result, Ok, Err}
use Rattle.std.specs.Prelude.{slice_get, IfOk}
use Rattle.std.proofs.Math.ListN.{replicate}
use Rattle.ilk_base.specs.declared.words.Dbpos.{Dbpos}
use Rattle.ilk_base.specs.declared.words.Memory.{Memory}
use Rattle.ilk_base.specs.declared.words.Op.{Op}
use Rattle.station_graph.specs.Diagram.{Diagram}
use Rattle.central_rules.specs.declared.verdict.Verdict.{Verdict}
use Rattle.central_rules.specs.declared.verdict.Verdict.TheVariants.{Release, Denied}
use Rattle.central_rules.specs.Readings.{Decides}
use Rattle.central_rules.specs.Knowledge.{IsReadingOf}
use Rattle.central_rules.specs.Meaning.{Meaning, CannotExclude, bay_of}
use Rattle.station_work.specs.declared.tally.Sight.TheVariants.{Blind}
use Rattle.station_work.specs.Tallying.{Sees, own_words}

abbrev Heard : Type 0
Heard = List (Option (List ℕ))

never_heard : (n b : ℕ) (s : List ℕ) → slice_get {X = Option (List ℕ)} (replicate n None) b ≡ Some (Some s) → ⊥
never_heard zero zero s at = cc at
never_heard zero (suc b) s at = cc at
never_heard (suc n) zero s at = cc at
never_heard (suc n) (suc b) s at = never_heard n b s at

nothing : (heard : Heard) (n b : ℕ) (s : List ℕ) → heard ≡ replicate n None → slice_get heard b ≡ Some (Some s) → ⊥
nothing heard n b s none at = never_heard n b s (subst (λ (h : Heard). slice_get h b ≡ Some (Some s)) none at)

module _ (m : Meaning) (words : List Dbpos) (n : ℕ) (heard : Heard) (none : heard ≡ replicate n None) (op : Op) where
  -- the vectors that cannot be excluded by what was heard, and those that agree with the own words
  abbrev IsNotExcluded : List Bool → Type 0
  IsNotExcluded = CannotExclude m (bay_of m.diagram op.switch.0) words heard

  abbrev IsOwn : List Bool → Type 0
  IsOwn = IsReadingOf m.diagram (own_words m.diagram words op)

  from_own : (v : List Bool) → IsOwn v → IsNotExcluded v
  from_own v r = record {
    whole = r.whole;
    own_agree = r.own;
    heard_allow = λ b s other at. absurd (nothing heard n b s none at);
  }

  to_own : (v : List Bool) → IsNotExcluded v → IsOwn v
  to_own v k = record { whole = k.whole; own = k.own_agree; heard = λ b ws other at. cc at }

  decides_own : (verdict : Verdict) → Decides m.diagram IsNotExcluded op verdict → Decides m.diagram IsOwn op verdict
  decides_own Release holds = λ v r. holds v (from_own v r)
  decides_own (Denied rule v) (known, breaks) = (to_own v known, breaks)

  -- what a judge answers with nothing heard is a verdict by the own words
  pub blind_result : (d : Diagram) → m.diagram ≡ d → (r : Result Verdict Memory)
      → IfOk r (λ v. Decides m.diagram IsNotExcluded op v) → IfOk r (λ v. Decides d (Sees Blind d words op) op v)
  blind_result d same (Ok verdict) decides =
      subst (λ (x : Diagram). Decides x (Sees Blind x words op) op verdict) same (decides_own verdict decides)
  blind_result d same (Err memory) decides = tt
