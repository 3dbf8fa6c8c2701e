-- The greatest index that lines write.
use Rattle.std.proofs.Common.{◌≡◌, ◌∙◌, ℕ, ◌+◌, suc, max, List, [], ◌∷◌, ◌++◌, take, sym, ap, add-one}
use Rattle.std.proofs.Common.{arith, append-nil, append_assoc, Some}
use Rattle.std.specs.Prelude.{slice_get}
use Rattle.std.specs.List.{flat_map}
use Rattle.std.proofs.lemmas.Grind.{flat_map-append}
use Rattle.part_alphabets.specs.declared.fork.PartStep.{PartStep}
use Rattle.station_equations.specs.EquationLines.{index_in, past_greatest}
use Rattle.station_equations.proofs.TextLemmas.{take-next}

-- the indices that steps write
abbrev pub written : List PartStep → List ℕ
written steps = flat_map (λ (s : PartStep). index_in s.off ++ index_in s.on) steps

pub past_all : (is js : List ℕ) → past_greatest (is ++ js) ≡ max (past_greatest is) (past_greatest js)
past_all [] js = omega arith
past_all (i ∷ is) js = let h = past_all is js in omega (arith, h)

pub past_next : (start : List ℕ) (steps : List PartStep) (k : ℕ) (s : PartStep) (count first last : ℕ)
    → slice_get steps k ≡ Some s → count ≡ past_greatest (start ++ written (take k steps))
    → first ≡ max count (past_greatest (index_in s.off)) → last ≡ max first (past_greatest (index_in s.on))
    → last ≡ past_greatest (start ++ written (take (k + 1) steps))
past_next start steps k s count first last at is one two =
    let more : written (take (suc k) steps) ≡ written (take k steps) ++ (index_in s.off ++ index_in s.on) =
    ap written (take-next steps k s at) ∙ flat_map-append (λ (x : PartStep). index_in x.off ++ index_in x.on)
    (take k steps) (s ∷ []) ∙ ap (λ (zs : List ℕ). written (take k steps) ++ zs) (append-nil
    (index_in s.off ++ index_in s.on)) in
    let all = ap (λ (zs : List ℕ). past_greatest (start ++ zs)) more ∙ ap past_greatest (sym (append_assoc start
    (written (take k steps)) (index_in s.off ++ index_in s.on))) in
    ap (λ n. n) (whole all)
  where
    whole : past_greatest (start ++ written (take (suc k) steps)) ≡ past_greatest (start ++ written (take k steps) ++
        (index_in s.off ++ index_in s.on)) → last ≡ past_greatest (start ++ written (take (k + 1) steps))
    whole all = omega (
      arith,
      all,
      ap (λ n. past_greatest (start ++ written (take n steps))) (add-one k),
      past_all
          (start ++ written (take k steps)) (index_in s.off ++ index_in s.on),
      past_all (index_in s.off)
          (index_in s.on),
      is,
      one,
      two,
    )
