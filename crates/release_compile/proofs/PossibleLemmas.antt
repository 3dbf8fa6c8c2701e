-- What each part can have by the words of all switches.
use Rattle.std.proofs.Common.{◌≡◌, ℕ, ◌+◌, ◌<◌, List, [], ◌∷◌, ◌++◌, Option, Some, slice_get, sym, ◌∙◌, subst, inl, inr}
use Rattle.std.proofs.Common.{arith}
use Rattle.std.proofs.lemmas.List.{length_push}
use Rattle.std.proofs.lemmas.Option.{slice_get_cases}
use Rattle.ilk_base.specs.declared.words.Dbpos.{Dbpos}
use Rattle.station_graph.specs.Diagram.{part_count}
use Rattle.station_graph.proofs.PathLemmas.{slice_get-push}
use Rattle.part_alphabets.specs.Alphabets.{CanHave, IsPossible}
use Rattle.release_compile.specs.declared.all_words.AllWords.{AllWords}
use Rattle.judge_pool.specs.Lettered.{Lettered}
use Rattle.release_compile.specs.Possible.{ArePossible, AreAllWords, SetHolds}

-- part by part
pub possible_none : (a : Lettered) (words : List Dbpos) → ArePossible a words [] 0
possible_none a words = record { len = omega arith; each = λ part set at. cc }

pub possible_more : (a : Lettered) (words : List Dbpos) (sets : List (List (Option ℕ))) (n : ℕ) (set : List (Option ℕ))
    → ArePossible a words sets n → IsPossible a.diagram a.alphabets n words set
    → ArePossible a words (sets ++ set ∷ []) (n + 1)
possible_more a words sets n set are new = record {
  len = omega (arith, length_push sets set, are.len);
  each = λ part x at. elim (slice_get-push sets set x part at) [
    | inl before ↦ are.each part x before
    | inr here ↦
        let e : n ≡ part = sym (here.0 ∙ are.len) in
        subst (λ s. IsPossible a.diagram a.alphabets part words s) here.1
        (subst (λ k. IsPossible a.diagram a.alphabets k words set) e new)
  ];
}

-- the set of a part
set_of_part : (a : Lettered) (words : List Dbpos) (sets : List (List (Option ℕ))) (n part : ℕ)
    → ArePossible a words sets n → part < n → (set : List (Option ℕ)) × (slice_get sets part ≡ Some set)
set_of_part a words sets n part are lt = elim ((slice_get_cases sets part).1) [
  | inl s ↦ (s.0, s.2)
  | inr past ↦ absurd (omega (arith, past.0, lt, are.len))
]

-- it holds what the part can have
pub holds_of : (a : Lettered) (w : AllWords) (part index : ℕ) → AreAllWords a w → part < part_count a.diagram
    → CanHave a.diagram a.alphabets part w.words.now index → SetHolds w.possible.items part index
holds_of a w part index all part_in can =
    let s = set_of_part a w.words.now w.possible.items (part_count a.diagram) part all.possible part_in in
    (s.0, s.1, ((all.possible.each part s.0 s.1).exact index).1 can)
