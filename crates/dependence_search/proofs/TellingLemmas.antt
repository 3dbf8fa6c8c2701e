-- Choices with one more, which stay apart or do not.
use Rattle.std.proofs.Common.{◌≡◌, ◌≢◌, ℕ, ◌+◌, ◌-◌, ◌<◌, ◌≤◌, ◌⊎◌, zero, suc, Bool, List, [], ◌∷◌, ◌++◌, take, drop, length}
use Rattle.std.proofs.Common.{get_or, slice_get, slice_set, Some, refl, sym, ap, ◌∙◌, subst, inl, inr, arith}
use Rattle.std.proofs.Math.Seq.{drop-cons}
use Rattle.std.proofs.lemmas.Bool.{cases_eq}
use Rattle.std.proofs.lemmas.Grind.{same_number_lists}
use Rattle.std.proofs.lemmas.List.{take_more, take_all, length-take-le, length_push}
use Rattle.std.proofs.lemmas.Option.{same_Some}
use Rattle.decision_graphs.specs.Label.{Layer, Layered, layer_at, no_layer, leads, label_of, step, AreLayers, LayerFits, size_at}
use Rattle.decision_graphs.specs.Label.{AreReduced, HasDistinctRows}
use Rattle.graph_walks.specs.Walks.{AreTwos, HasTwos}
use Rattle.dependence_search.specs.RuleWalks.{turned_at}
use Rattle.dependence_search.specs.Released.{TurnsLabel}
use Rattle.dependence_search.specs.Parting.{IsParting, PartsFrom, LeadApart, LeadToParting}
use Rattle.graph_products.proofs.ListLemmas.{slice_get-push, leads_more, layer_fits, size_in}
use Rattle.dependence_search.proofs.PartingLemmas.{two_tail, two_more, no_twos, parts_here}

-- ---- one more choice

pub twos_push : (n : ℕ) (cs : List ℕ) (c : ℕ) → AreTwos n cs → c < 2 → AreTwos (suc n) (cs ++ c ∷ [])
twos_push n cs c two lt = record {
  len = omega (arith, length_push cs c, two.len);
  small = λ j d at. elim (slice_get-push cs c d j at) [
    | inl before ↦ two.small j d before
    | inr last ↦ omega (arith, lt, last.1)
  ];
}

pub leads_push : (ls : List Layer) (j : ℕ) (cs : List ℕ) (c : ℕ) → j < length ls → length cs ≡ j →
    leads (take (suc j) ls) 0 (cs ++ c ∷ []) ≡ step (layer_at ls j) (leads (take j ls) 0 cs) c
leads_push ls j cs c lt len =
    ap (λ (xs : List Layer). leads xs 0 (cs ++ c ∷ [])) (take_suc ls j lt)
    ∙ leads_more (take j ls) (layer_at ls j) 0 c cs (omega (arith, length-take-le j ls (omega (arith, lt)), len))
  where
    take_suc : (ls : List Layer) (j : ℕ) → j < length ls → take (suc j) ls ≡ take j ls ++ layer_at ls j ∷ []
    take_suc [] j lt = absurd (omega (arith, lt))
    take_suc (l ∷ ls) zero lt = refl
    take_suc (l ∷ ls) (suc j) lt = ap (λ xs. l ∷ xs) (take_suc ls j (omega (arith, lt)))

turned_long : (layer : ℕ) (cs : List ℕ) (x : ℕ) → length (slice_set cs layer x) ≡ length cs
turned_long layer [] x = refl
turned_long zero (c ∷ cs) x = refl
turned_long (suc layer) (c ∷ cs) x = ap suc (turned_long layer cs x)

turned_push : (layer : ℕ) (cs : List ℕ) (c : ℕ) → layer < length cs →
    turned_at layer (cs ++ c ∷ []) ≡ turned_at layer cs ++ c ∷ []
turned_push layer [] c lt = absurd (omega (arith, lt))
turned_push zero (d ∷ cs) c lt = refl
turned_push (suc layer) (d ∷ cs) c lt = ap (λ xs. d ∷ xs) (turned_push layer cs c (omega (arith, lt)))

turned_last : (layer : ℕ) (cs : List ℕ) → length cs ≡ layer → turned_at layer (cs ++ 0 ∷ []) ≡ cs ++ 1 ∷ []
turned_last zero [] len = refl
turned_last (suc layer) [] len = absurd (omega (arith, len))
turned_last zero (c ∷ cs) len = absurd (omega (arith, len))
turned_last (suc layer) (c ∷ cs) len = ap (λ xs. c ∷ xs) (turned_last layer cs (omega (arith, len)))

-- ---- the layers before

-- the choices so far lead to a node from which so many layers on two choices part
pub record IsOnWay (g : Layered) (layer j : ℕ) (cs : List ℕ) (node : ℕ) : Type 0 where
  pub twos : AreTwos j cs
  pub led : leads (take j g.layers) 0 cs ≡ node
  pub within : node < length (layer_at g.layers j).rows
  pub parts : PartsFrom (drop j g.layers) (layer - j) node

pub on_way : (g : Layered) (layer j : ℕ) (cs : List ℕ) (node c next : ℕ) → IsOnWay g layer j cs node →
    j < layer → layer < length g.layers → c < 2 → next ≡ step (layer_at g.layers j) node c →
    next < length (layer_at g.layers (suc j)).rows → PartsFrom (drop (suc j) g.layers) (layer - suc j) next →
    IsOnWay g layer (suc j) (cs ++ c ∷ []) next
on_way g layer j cs node c next w lt in_layers small is within parts = record {
  twos = twos_push j cs c w.twos small;
  led =
      leads_push g.layers j cs c (omega (arith, lt, in_layers)) w.twos.len
      ∙ (ap (λ (k : ℕ). step (layer_at g.layers j) k c) w.led ∙ sym is);
  within = within;
  parts = parts;
}

pub arrived : (g : Layered) (layer j : ℕ) (cs : List ℕ) (node : ℕ) → layer < length g.layers → j ≡ layer →
    IsOnWay g layer j cs node → LeadToParting g layer cs node
arrived g layer j cs node lt e way =
    let w : IsOnWay g layer layer cs node = subst (λ (k : ℕ). IsOnWay g layer k cs node) e way in
    let none : layer - layer ≡ 0 = omega arith in
    record {
      twos = w.twos;
      led = w.led;
      within = w.within;
      parts =
          (parts_here g.layers layer node lt).0
          (subst (λ (n : ℕ). PartsFrom (drop layer g.layers) n node) none w.parts);
    }

-- ---- the layers behind

reduced_at : (ls : List Layer) (j : ℕ) → AreReduced ls → j < length ls → HasDistinctRows (layer_at ls j)
reduced_at [] j reduced lt = absurd (omega (arith, lt))
reduced_at (l ∷ ls) zero reduced lt = reduced.0
reduced_at (l ∷ ls) (suc j) reduced lt = reduced_at ls j reduced.1 (omega (arith, lt))

-- two nodes with the same two edges are one
pub same_node : (g : Layered) (j one other : ℕ) → AreLayers g.labels g.layers → AreReduced g.layers → j < length g.layers →
    (layer_at g.layers j).choices ≡ 2 → one < length (layer_at g.layers j).rows → other < length (layer_at g.layers j).rows →
    step (layer_at g.layers j) one 0 ≡ step (layer_at g.layers j) other 0 →
    step (layer_at g.layers j) one 1 ≡ step (layer_at g.layers j) other 1 → one ≡ other
same_node g j one other fit reduced lt two one_in other_in first second =
    let l = layer_at g.layers j in
    let fits : LayerFits (size_at g.labels g.layers (suc j)) l = layer_fits g.labels g.layers j fit lt in
    let one_row : List ℕ = get_or l.rows one [] in
    let other_row : List ℕ = get_or l.rows other [] in
    let one_long : length one_row ≡ 2 = fits.rows one one_in ∙ two in
    let other_long : length other_row ≡ 2 = fits.rows other other_in ∙ two in
    reduced_at g.layers j reduced lt one other one_in other_in
    (two_same one_row other_row one_long other_long first second)
  where
    two_same : (xs ys : List ℕ) → length xs ≡ 2 → length ys ≡ 2 → get_or xs 0 0 ≡ get_or ys 0 0 →
        get_or xs 1 0 ≡ get_or ys 1 0 → xs ≡ ys
    two_same xs ys x_long y_long first second = same_number_lists xs ys (omega (arith, x_long, y_long)) (λ i lt.
        at i (omega (arith, lt, x_long)))
      where
        at : (i : ℕ) → i < 2 → get_or xs i 0 ≡ get_or ys i 0
        at zero lt = first
        at (suc zero) lt = second
        at (suc (suc i)) lt = absurd (omega (arith, lt))

step_in : (g : Layered) (j k c : ℕ) → AreLayers g.labels g.layers → j < length g.layers →
    (layer_at g.layers j).choices ≡ 2 → c < 2 → k < length (layer_at g.layers j).rows →
    step (layer_at g.layers j) k c < size_at g.labels g.layers (suc j)
step_in g j k c fit lt two small within =
    (layer_fits g.labels g.layers j fit lt).edges k c within (omega (arith, small, two))

-- from where the two choices of the layer part
pub apart_first : (g : Layered) (layer : ℕ) (cs : List ℕ) (node one other : ℕ) → AreLayers g.labels g.layers →
    layer < length g.layers → (layer_at g.layers layer).choices ≡ 2 → LeadToParting g layer cs node →
    one ≡ step (layer_at g.layers layer) node 0 → other ≡ step (layer_at g.layers layer) node 1 →
    LeadApart g layer (suc layer) (cs ++ 0 ∷ []) one other
apart_first g layer cs node one other fit lt two w one_is other_is =
    let l = layer_at g.layers layer in
    let zero_led : leads (take (suc layer) g.layers) 0 (cs ++ 0 ∷ []) ≡ one =
    leads_push g.layers layer cs 0 lt w.twos.len ∙ (ap (λ (k : ℕ). step l k 0) w.led ∙ sym one_is) in
    let one_led : leads (take (suc layer) g.layers) 0 (cs ++ 1 ∷ []) ≡ other =
    leads_push g.layers layer cs 1 lt w.twos.len ∙ (ap (λ (k : ℕ). step l k 1) w.led ∙ sym other_is) in
    record {
      twos = twos_push layer cs 0 w.twos (omega arith);
      one_led = zero_led;
      other_led = ap (λ (xs : List ℕ). leads (take (suc layer) g.layers) 0 xs) (turned_last layer cs w.twos.len) ∙ one_led;
      one_in = omega (arith, one_is, step_in g layer node 0 fit lt two (omega arith) w.within);
      other_in = omega (arith, other_is, step_in g layer node 1 fit lt two (omega arith) w.within);
      apart = λ e. w.parts (sym one_is ∙ (e ∙ other_is));
    }

pub apart_more : (g : Layered) (layer j : ℕ) (cs : List ℕ) (one other c to_one to_other : ℕ) →
    AreLayers g.labels g.layers → layer < j → j < length g.layers → (layer_at g.layers j).choices ≡ 2 → c < 2 →
    LeadApart g layer j cs one other → to_one ≡ step (layer_at g.layers j) one c →
    to_other ≡ step (layer_at g.layers j) other c →
    step (layer_at g.layers j) one c ≢ step (layer_at g.layers j) other c →
    LeadApart g layer (suc j) (cs ++ c ∷ []) to_one to_other
apart_more g layer j cs one other c to_one to_other fit before lt two small w one_is other_is apart =
    let l = layer_at g.layers j in
    let size = size_in g.labels g.layers j lt in
    let long : length (turned_at layer cs) ≡ j = turned_long layer cs (1 - get_or cs layer 0) ∙ w.twos.len in
    record {
      twos = twos_push j cs c w.twos small;
      one_led = leads_push g.layers j cs c lt w.twos.len ∙ (ap (λ (k : ℕ). step l k c) w.one_led ∙ sym one_is);
      other_led =
          ap (λ (xs : List ℕ). leads (take (suc j) g.layers) 0 xs)
          (turned_push layer cs c (omega (arith, before, w.twos.len)))
          ∙ (leads_push g.layers j (turned_at layer cs) c lt long
          ∙ (ap (λ (k : ℕ). step l k c) w.other_led ∙ sym other_is));
      one_in = omega (arith, one_is, step_in g j one c fit lt two small (omega (arith, w.one_in, size)));
      other_in = omega (arith, other_is, step_in g j other c fit lt two small (omega (arith, w.other_in, size)));
      apart = λ e. apart (sym one_is ∙ (e ∙ other_is));
    }

-- ---- all layers

pub apart_all : (g : Layered) (layer : ℕ) (cs : List ℕ) (one other : ℕ) → LeadApart g layer (length g.layers) cs one other →
    AreTwos (length g.layers) cs × TurnsLabel g layer cs
apart_all g layer cs one other w =
    let all : take (length g.layers) g.layers ≡ g.layers = take_all (length g.layers) g.layers (omega arith) in (
      w.twos,
      λ e. w.apart (sym w.one_led ∙ (ap (λ (ls : List Layer). leads ls 0 cs) all
          ∙ (e ∙ (ap (λ (ls : List Layer). leads ls 0 (turned_at layer cs)) (sym all) ∙ w.other_led)))),
    )

-- where nowhere two choices part, the other choice leads to the same label
pub no_parting : (ls : List Layer) (count k : ℕ) (cs : List ℕ) → ¬ PartsFrom ls count k → count < length ls →
    AreTwos (length ls) cs → leads ls k cs ≡ leads ls k (turned_at count cs)
no_parting [] count k cs none lt two = absurd (omega (arith, lt))
no_parting (l ∷ ls) count k [] none lt two = absurd (no_twos (length ls) two)
no_parting (l ∷ ls) zero k (c ∷ cs) none lt two =
    ap (λ (m : ℕ). leads ls m cs) (by c (two.small 0 c refl))
  where
    same : step l k 0 ≡ step l k 1
    same = elim (cases_eq (step l k 0) (step l k 1)) [
      | inl e ↦ e
      | inr ne ↦ absurd (none (record { before = []; twos = record { len = refl; small = λ j c at. cc }; parts = ne }))
    ]

    by : (c : ℕ) → c < 2 → step l k c ≡ step l k (1 - c)
    by zero lt = same
    by (suc zero) lt = sym same
    by (suc (suc c)) lt = absurd (omega (arith, lt))
no_parting (l ∷ ls) (suc count) k (c ∷ cs) none lt two =
    no_parting ls count (step l k c) cs
    (λ p. none (record {
      before = c ∷ p.before;
      twos = two_more_there p.before p.twos;
      parts = p.parts;
    })) (omega (arith, lt)) (two_tail (length ls) c cs two)
  where
    two_more_there : (ds : List ℕ) → AreTwos count ds → AreTwos (suc count) (c ∷ ds)
    two_more_there ds h = two_more count c ds (two.small 0 c refl) h
