-- What an index says of the part, and that what is built is the alphabet.
use Rattle.std.proofs.Common.{◌≡◌, ℕ, ◌+◌, ◌^◌, ◌<◌, ◌≤◌, ◌⊎◌, ◌↔◌, Bool, List, length, slice_get, Some, refl, sym}
use Rattle.std.proofs.Common.{ap, subst, inl, inr, arith}
use Rattle.std.proofs.lemmas.Bool.{cases_lt}
use Rattle.station_graph.specs.Diagram.{Diagram, AreSwitchesOf}
use Rattle.station_graph.specs.Sharing.{OfPart, IsShared}
use Rattle.station_graph.specs.Alike.{IsVector, Alike, DifferInPart}
use Rattle.contraction.specs.Answers.{Answers, Keeps, SameGap, SameLoad}
use Rattle.contraction.specs.Stands.{StandsFor}
use Rattle.contraction.proofs.ViewLemmas.{gap_told, load_told}
use Rattle.part_alphabets.specs.Diagrams.{ForksLeadTo}
use Rattle.part_alphabets.specs.Counting.{AreStepSizes}
use Rattle.bay_contract.specs.Building.{IsBuiltFor}
use Rattle.part_alphabets.specs.PartAlphabets.{Alphabets, part_at, letters_of, size_of, forks_of, first_switch_of}
use Rattle.part_alphabets.specs.PartAlphabets.{count_of}
use Rattle.part_alphabets.specs.Alphabets.{IsLetter, HasIndex, IsAlphabet, AreAlphabets}
use Rattle.contraction.proofs.RisingLemmas.{rising_equal}
use Rattle.contraction.proofs.SameLemmas.{gap_self, load_self, gap_fewer, load_fewer}
use Rattle.bay_contract.proofs.NextLemmas.{some_at}
use Rattle.bay_contract.proofs.AlphabetLemmas.{bits_below}

pub alike_self : (d : Diagram) (part : ℕ) (v : List Bool) → Alike d part v v
alike_self d part v = record {
  gap = record {
    coupled = λ a b ka kb. (λ h. h, λ h. h);
    energisable = λ a ka. (λ h. h, λ h. h);
    earthable = λ a ka. (λ h. h, λ h. h);
  };
  load = record {
    joined = λ a b ka kb. (λ h. h, λ h. h);
    bonded = λ a b ka kb. (λ h. h, λ h. h);
    supply = λ a ka s. (λ h. h, λ h. h);
  };
}

-- letters that stand for the part in vectors in which it stands alike answer the same
letters_same : (d : Diagram) (part : ℕ) (v w : List Bool) (x y : Answers) → IsLetter d part x → IsLetter d part y
    → StandsFor (OfPart d part) d v x → StandsFor (OfPart d part) d w y → Alike d part v w → SameGap x y × SameLoad x y
letters_same d part v w x y lx ly sx sy a =
    let kept : x.kept ≡ y.kept = rising_equal x.kept y.kept lx.well.nodes.rises ly.well.nodes.rises (λ n. (
      λ k.
          (ly.kept n).1 ((lx.kept n).0 k),
      λ k. (lx.kept n).1 ((ly.kept n).0 k),
    )) in (
      (gap_told (OfPart d part) d v w x y kept sx.gap sy.gap).1 (gap_fewer (IsShared d part) (Keeps x.kept)
          (OfPart d part) d v w (λ n. (lx.kept n).0) a.gap),
      (load_told (OfPart d part) d v w x y kept sx.load sy.load).1 (load_fewer (IsShared d part) (Keeps x.kept)
          (OfPart d part) d v w (λ n. (lx.kept n).0) a.load),
    )

-- the part stands alike where one letter stands for it
one_letter : (d : Diagram) (part : ℕ) (v w : List Bool) (x : Answers) → IsLetter d part x
    → StandsFor (OfPart d part) d v x → StandsFor (OfPart d part) d w x → Alike d part v w
one_letter d part v w x l sv sw = record {
  gap = gap_fewer (Keeps x.kept) (IsShared d part) (OfPart d part) d v w (λ n. (l.kept n).1) ((gap_told
      (OfPart d part) d v w x x refl sv.gap sw.gap).0 (gap_self x));
  load = load_fewer (Keeps x.kept) (IsShared d part) (OfPart d part) d v w (λ n. (l.kept n).1) ((load_told
      (OfPart d part) d v w x x refl sv.load sw.load).0 (load_self x));
}

-- each letter is one, and no two answer the same
pub record AreLetters (d : Diagram) (a : Alphabets) (part : ℕ) : Type 0 where
  pub letters : (i : ℕ) (c : Answers) → slice_get (letters_of a part) i ≡ Some c → IsLetter d part c
  pub apart : (i k : ℕ) (x y : Answers) → slice_get (letters_of a part) i ≡ Some x
      → slice_get (letters_of a part) k ≡ Some y → SameGap x y → SameLoad x y → i ≡ k

pub letters_in : (d : Diagram) (a : Alphabets) (part : ℕ) → IsAlphabet d a part → AreLetters d a part
letters_in d a part is = record { letters = is.letters; apart = is.apart }

-- SAME INDEX EXACTLY WHERE ALIKE
pub index_alike : (d : Diagram) (a : Alphabets) (part : ℕ) → AreLetters d a part → (v w : List Bool) (i k : ℕ)
    → HasIndex d a part i v → HasIndex d a part k w → Alike d part v w ↔ (i ≡ k)
index_alike d a part is v w i k hv hw = (
  λ al.
      let same = letters_same d part v w hv.letter hw.letter (is.letters i hv.letter hv.listed)
      (is.letters k hw.letter hw.listed) hv.stands hw.stands al in
      is.apart i k hv.letter hw.letter hv.listed hw.listed same.0 same.1,
  λ e.
      let one : hw.letter ≡ hv.letter = cc (hw.listed, hv.listed, ap (slice_get (letters_of a part)) e) in
      one_letter d part v w hv.letter (is.letters i hv.letter hv.listed) hv.stands (subst (λ (c : Answers). StandsFor
      (OfPart d part) d w c) one hw.stands),
)

-- a vector has one index
pub one_index : (d : Diagram) (a : Alphabets) (part : ℕ) → AreLetters d a part → (v : List Bool) (i k : ℕ)
    → HasIndex d a part i v → HasIndex d a part k v → i ≡ k
one_index d a part is v i k h g = (index_alike d a part is v v i k h g).0 (alike_self d part v)

-- WHAT IS BUILT IS THE ALPHABET
module _ (d : Diagram) (a : Alphabets) (part : ℕ) (b : IsBuiltFor d part (part_at a part))
    (steps : AreStepSizes d part (length (forks_of a part))) where
  are_letters : AreLetters d a part
  are_letters = record {
    letters = λ i c at. record { well = b.built.contractions i c at; kept = b.built.kept i c at };
    apart = b.built.apart;
  }

  index_led : (v : List Bool) (i : ℕ) → IsVector d v → i < size_of a part → ForksLeadTo (forks_of a part) v i
      → HasIndex d a part i v
  index_led v i vec lt l =
      let (c, at) = some_at (letters_of a part) i lt in
      record { letter = c; listed = at; stands = b.built.stands v i c vec l at }

  leads_exactly : (v : List Bool) (i : ℕ) → IsVector d v → HasIndex d a part i v ↔ ForksLeadTo (forks_of a part) v i
  leads_exactly v i vec =
      let (k, lt, l) = b.built.leads v vec in (
        λ h. subst (λ n. ForksLeadTo (forks_of a part) v n) (one_index d a part are_letters v k i
            (index_led v k vec lt l) h) l,
        λ g. index_led v i vec (subst (λ n. n < size_of a part) (b.built.one v k i l g) lt) g,
      )

  pub built_alphabet : IsAlphabet d a part
  built_alphabet = record {
    switches = b.built.switches;
    some = b.built.size.0;
    few = b.built.size.1;
    letters = are_letters.letters;
    apart = b.built.apart;
    indexed = λ v vec. let (k, lt, l) = b.built.leads v vec in (k, index_led v k vec lt l);
    examples = λ i lt. record {
      position = (let (v, vec, s) = b.built.example_some i lt in subst (λ n. n < 2 ^ count_of a part) s (bits_below
          (first_switch_of a part) (count_of a part) v));
      has = λ v vec s. (leads_exactly v i vec).1 (b.built.example i v lt vec s);
      least = λ v w vec_v vec_w h s. b.built.least i v w vec_v vec_w ((leads_exactly v i vec_v).0 h) s;
    };
    ordered = λ i k v w lt in_k vec_v vec_w sv sw. b.built.ordered i k v w lt in_k vec_v vec_w sv sw;
    given = λ i lt. b.built.example_some i lt;
    leads = leads_exactly;
    steps = steps;
  }

-- the alphabet of a part of the station
pub alphabet_at : (d : Diagram) (a : Alphabets) (part : ℕ) → part < length a.parts → AreAlphabets d a
    → IsAlphabet d a part
alphabet_at d a part lt al = al.each part (omega (arith, al.parts))

-- switches past those of the part are not of it
pub put_others : (d : Diagram) (part first count : ℕ) (old new : List Bool) → AreSwitchesOf d part first count
    → ((i : ℕ) → i < first ⊎ first + count ≤ i → slice_get new i ≡ slice_get old i) → DifferInPart d part old new
put_others d part first count old new are stay i not_of = sym (stay i (elim (cases_lt i first) [
  | inl less ↦ inl less
  | inr more ↦ elim (cases_lt i (first + count)) [
    | inl before ↦
        let (x, at) = some_at d.switches i (omega (arith, are.within)) in
        absurd (not_of (x, at, (are.those i x at).1 (more, before)))
    | inr past ↦ inr past
  ]
]))
