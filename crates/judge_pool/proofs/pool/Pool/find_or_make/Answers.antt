use Rattle.std.proofs.Common.{◌≡◌, ◌⊎◌, ◌∙◌, ℕ, ◌↔◌, List, [], Some, None, get_or, slice_get}
use Rattle.std.proofs.Common.{refl, sym, ap, subst, rules}
use Rattle.std.specs.Prelude.{Contains}
use Rattle.std.specs.HashMap.Entry.{entry_value}
use Rattle.std.proofs.lemmas.Option.{slice_get_read, slice_get-get_or}
use Rattle.contraction.specs.Answers.{Answers, Keeps}
use Rattle.judge_pool.specs.Seen.{seen_row}
use Rattle.judge_pool.specs.Pooling.{HasSame, Selects, IsRowOfBoth, number_in}
use Rattle.judge_pool.proofs.BatchLemmas.{index_other, value_grew, value_same, made_new}
use Rattle.judge_pool.proofs.PoolLemmas.{made_same, has_found}
use Rattle.judge_pool.proofs.pool.Pool.find_or_make.Goals as goal

pub adds_nothing-requires-clause-first : goal.adds_nothing-requires-clause-first
adds_nothing-requires-clause-first c =
    let p = c.args.self.now in
    let k = c.args.key in
    let s = c.args.selection.now in
    let x : Answers = c.index-x.result.now in
    let y : Answers = c.index-y.result.now in
    let nodes : List ℕ = get_or p.keeps.items k.keep [] in
    let first : slice_get p.values.items k.first ≡ Some x =
    slice_get_read p.values.items _ k.first x refl c.requires.fits.first c.index-x.ensures in
    let second : slice_get p.values.items k.second ≡ Some y =
    slice_get_read p.values.items _ k.second y refl c.requires.fits.second c.index-y.ensures in
    let asked : slice_get p.keeps.items k.keep ≡ Some nodes =
    slice_get-get_or p.keeps.items k.keep [] c.requires.fits.keep in
    let sel : Selects x y nodes s = c.requires.selection x y nodes first second asked in
    sel.first

pub adds_nothing-requires-clause-second : goal.adds_nothing-requires-clause-second
adds_nothing-requires-clause-second c =
    let p = c.args.self.now in
    let k = c.args.key in
    let s = c.args.selection.now in
    let x : Answers = c.index-x.result.now in
    let y : Answers = c.index-y.result.now in
    let nodes : List ℕ = get_or p.keeps.items k.keep [] in
    let first : slice_get p.values.items k.first ≡ Some x =
    slice_get_read p.values.items _ k.first x refl c.requires.fits.first c.index-x.ensures in
    let second : slice_get p.values.items k.second ≡ Some y =
    slice_get_read p.values.items _ k.second y refl c.requires.fits.second c.index-y.ensures in
    let asked : slice_get p.keeps.items k.keep ≡ Some nodes =
    slice_get-get_or p.keeps.items k.keep [] c.requires.fits.keep in
    let sel : Selects x y nodes s = c.requires.selection x y nodes first second asked in
    sel.second

pub adds_nothing-requires-clause-nodes : goal.adds_nothing-requires-clause-nodes
adds_nothing-requires-clause-nodes c =
    let p = c.args.self.now in
    let k = c.args.key in
    let s = c.args.selection.now in
    let x : Answers = c.index-x.result.now in
    let y : Answers = c.index-y.result.now in
    let nodes : List ℕ = get_or p.keeps.items k.keep [] in
    let first : slice_get p.values.items k.first ≡ Some x =
    slice_get_read p.values.items _ k.first x refl c.requires.fits.first c.index-x.ensures in
    let second : slice_get p.values.items k.second ≡ Some y =
    slice_get_read p.values.items _ k.second y refl c.requires.fits.second c.index-y.ensures in
    let asked : slice_get p.keeps.items k.keep ≡ Some nodes =
    slice_get-get_or p.keeps.items k.keep [] c.requires.fits.keep in
    let sel : Selects x y nodes s = c.requires.selection x y nodes first second asked in
    subst (λ l. (n : ℕ) → Contains l n → Keeps x.kept n ⊎ Keeps y.kept n) (sym sel.asked)
    (c.requires.fits.either x y nodes first second asked)

pub returns-then-adds_nothing-clause-made : goal.returns-then-adds_nothing-clause-made
returns-then-adds_nothing-clause-made c =
    let p = c.args.self.now in
    let k = c.args.key in
    let s = c.args.selection.now in
    let x : Answers = c.index-x.result.now in
    let y : Answers = c.index-y.result.now in
    let nodes : List ℕ = get_or p.keeps.items k.keep [] in
    let first : slice_get p.values.items k.first ≡ Some x =
    slice_get_read p.values.items _ k.first x refl c.requires.fits.first c.index-x.ensures in
    let second : slice_get p.values.items k.second ≡ Some y =
    slice_get_read p.values.items _ k.second y refl c.requires.fits.second c.index-y.ensures in
    let asked : slice_get p.keeps.items k.keep ≡ Some nodes =
    slice_get-get_or p.keeps.items k.keep [] c.requires.fits.keep in
    let sel : Selects x y nodes s = c.requires.selection x y nodes first second asked in
    record {
      x = x;
      y = y;
      keep = nodes;
      first = first;
      second = second;
      nodes = asked;
      made = record {
        value = x;
        listed = first;
        composes = c.adds_nothing.ensures.composes c.if-adds_nothing.true;
        kept =
            subst (λ l. (n : ℕ) → Keeps x.kept n ↔ Contains l n) sel.asked
            (c.adds_nothing.ensures.kept c.if-adds_nothing.true);
      };
    }

pub composed_row-requires-clause-first : goal.composed_row-requires-clause-first
composed_row-requires-clause-first c =
    let p = c.args.self.now in
    let k = c.args.key in
    let s = c.args.selection.now in
    let x : Answers = c.index-x.result.now in
    let y : Answers = c.index-y.result.now in
    let nodes : List ℕ = get_or p.keeps.items k.keep [] in
    let first : slice_get p.values.items k.first ≡ Some x =
    slice_get_read p.values.items _ k.first x refl c.requires.fits.first c.index-x.ensures in
    let second : slice_get p.values.items k.second ≡ Some y =
    slice_get_read p.values.items _ k.second y refl c.requires.fits.second c.index-y.ensures in
    let asked : slice_get p.keeps.items k.keep ≡ Some nodes =
    slice_get-get_or p.keeps.items k.keep [] c.requires.fits.keep in
    let sel : Selects x y nodes s = c.requires.selection x y nodes first second asked in
    sel.first

pub composed_row-requires-clause-second : goal.composed_row-requires-clause-second
composed_row-requires-clause-second c =
    let p = c.args.self.now in
    let k = c.args.key in
    let s = c.args.selection.now in
    let x : Answers = c.index-x.result.now in
    let y : Answers = c.index-y.result.now in
    let nodes : List ℕ = get_or p.keeps.items k.keep [] in
    let first : slice_get p.values.items k.first ≡ Some x =
    slice_get_read p.values.items _ k.first x refl c.requires.fits.first c.index-x.ensures in
    let second : slice_get p.values.items k.second ≡ Some y =
    slice_get_read p.values.items _ k.second y refl c.requires.fits.second c.index-y.ensures in
    let asked : slice_get p.keeps.items k.keep ≡ Some nodes =
    slice_get-get_or p.keeps.items k.keep [] c.requires.fits.keep in
    let sel : Selects x y nodes s = c.requires.selection x y nodes first second asked in
    sel.second

pub composed_row-requires-clause-nodes : goal.composed_row-requires-clause-nodes
composed_row-requires-clause-nodes c =
    let p = c.args.self.now in
    let k = c.args.key in
    let s = c.args.selection.now in
    let x : Answers = c.index-x.result.now in
    let y : Answers = c.index-y.result.now in
    let nodes : List ℕ = get_or p.keeps.items k.keep [] in
    let first : slice_get p.values.items k.first ≡ Some x =
    slice_get_read p.values.items _ k.first x refl c.requires.fits.first c.index-x.ensures in
    let second : slice_get p.values.items k.second ≡ Some y =
    slice_get_read p.values.items _ k.second y refl c.requires.fits.second c.index-y.ensures in
    let asked : slice_get p.keeps.items k.keep ≡ Some nodes =
    slice_get-get_or p.keeps.items k.keep [] c.requires.fits.keep in
    let sel : Selects x y nodes s = c.requires.selection x y nodes first second asked in
    subst (λ l. (n : ℕ) → Contains l n → Keeps x.kept n ⊎ Keeps y.kept n) (sym sel.asked)
    (c.requires.fits.either x y nodes first second asked)

pub value_of-requires : goal.value_of-requires
value_of-requires c =
    let b = c.in_ok-row.ensures in
    let key : c.key.result.now ≡ c.in_ok-row.row = search rules in
    record { value = b.value; contraction = b.contraction; row = key ∙ b.row }

pub returns-in-Occupied-clause-grew : goal.returns-in-Occupied-clause-grew
returns-in-Occupied-clause-grew c = index_other c.args.self.now _ refl c.requires.pool (search rules)

pub returns-in-Occupied-clause-made : goal.returns-in-Occupied-clause-made
returns-in-Occupied-clause-made c =
    let p = c.args.self.now in
    let k = c.args.key in
    let s = c.args.selection.now in
    let x : Answers = c.index-x.result.now in
    let y : Answers = c.index-y.result.now in
    let nodes : List ℕ = get_or p.keeps.items k.keep [] in
    let first : slice_get p.values.items k.first ≡ Some x =
    slice_get_read p.values.items _ k.first x refl c.requires.fits.first c.index-x.ensures in
    let second : slice_get p.values.items k.second ≡ Some y =
    slice_get_read p.values.items _ k.second y refl c.requires.fits.second c.index-y.ensures in
    let asked : slice_get p.keeps.items k.keep ≡ Some nodes =
    slice_get-get_or p.keeps.items k.keep [] c.requires.fits.keep in
    let sel : Selects x y nodes s = c.requires.selection x y nodes first second asked in
    let b = c.in_ok-row.ensures in
    let t = c.get.result.now in
    let at : number_in p.index c.in_ok-row.row ≡ Some t =
    sym c.in_ok-entry.ensures.value ∙ (ap entry_value c.in-Occupied.is ∙ c.get.ensures) in
    let same : HasSame p b.value t =
    has_found p p b.value t refl c.requires.pool b.contraction (subst (λ r. number_in p.index r ≡ Some t) b.row at) in
    record {
      x = x;
      y = y;
      keep = nodes;
      first = first;
      second = second;
      nodes = asked;
      made =
          made_same p x y b.value nodes t same b.composes
          (subst (λ l. (n : ℕ) → Keeps b.value.kept n ↔ Contains l n) sel.asked b.kept);
    }

pub returns-in_ok-push-in-Vacant-clause-grew : goal.returns-in_ok-push-in-Vacant-clause-grew
returns-in_ok-push-in-Vacant-clause-grew c =
    let p = c.args.self.now in
    let value : Answers = c.in_ok-value-in-Vacant.value in
    let told = c.in_ok-value-in-Vacant.ensures in
    let key : c.key.result.now ≡ c.in_ok-row.row = search rules in
    let row : c.in_ok-row.row ≡ seen_row p.view value = sym key ∙ told.row in
    let none : number_in p.index c.in_ok-row.row ≡ None = search rules in
    value_grew p _ value refl c.in_ok-push-in-Vacant.ensures.items told.contraction c.requires.pool
    (subst (λ r. number_in p.index r ≡ None) row none) (search (rules, row))

pub returns-in_ok-push-in-Vacant-clause-made : goal.returns-in_ok-push-in-Vacant-clause-made
returns-in_ok-push-in-Vacant-clause-made c =
    let p = c.args.self.now in
    let k = c.args.key in
    let s = c.args.selection.now in
    let x : Answers = c.index-x.result.now in
    let y : Answers = c.index-y.result.now in
    let nodes : List ℕ = get_or p.keeps.items k.keep [] in
    let first : slice_get p.values.items k.first ≡ Some x =
    slice_get_read p.values.items _ k.first x refl c.requires.fits.first c.index-x.ensures in
    let second : slice_get p.values.items k.second ≡ Some y =
    slice_get_read p.values.items _ k.second y refl c.requires.fits.second c.index-y.ensures in
    let asked : slice_get p.keeps.items k.keep ≡ Some nodes =
    slice_get-get_or p.keeps.items k.keep [] c.requires.fits.keep in
    let sel : Selects x y nodes s = c.requires.selection x y nodes first second asked in
    let b = c.in_ok-row.ensures in
    let value : Answers = c.in_ok-value-in-Vacant.value in
    let told = c.in_ok-value-in-Vacant.ensures in
    let key : c.key.result.now ≡ c.in_ok-row.row = search rules in
    let both : IsRowOfBoth p.view s.nodes x y c.key.result.now =
    subst (λ r. IsRowOfBoth p.view s.nodes x y r) (sym key) b in
    let t = c.len-place.result in
    let g = returns-in_ok-push-in-Vacant-clause-grew c in
    let has = value_same p _ value refl c.in_ok-push-in-Vacant.ensures.items told.contraction t (search rules) in
    made_new p _ k t x y value nodes g has first second asked (told.composes s.nodes x y both)
    (subst (λ l. (n : ℕ) → Keeps value.kept n ↔ Contains l n) sel.asked (told.kept s.nodes x y both))
