-- Layers that are known, while the pool grows and another is made.
use Rattle.std.proofs.Common.{◌≡◌, ℕ, ◌*◌, List, [], ◌∷◌, ◌++◌, length, slice_get, Some, sym, ap, ◌∙◌, subst}
use Rattle.std.proofs.Common.{inl, inr}
use Rattle.std.proofs.lemmas.Option.{same_Some}
use Rattle.station_graph.proofs.PathLemmas.{slice_get-push}
use Rattle.contraction.specs.Answers.{Answers}
use Rattle.judge_pool.specs.declared.known.LayerKey.{LayerKey}
use Rattle.judge_pool.specs.declared.known.KnownLayer.{KnownLayer}
use Rattle.judge_pool.specs.declared.pool.Pool.{Pool}
use Rattle.judge_pool.specs.declared.view.View.{View}
use Rattle.judge_pool.specs.Numbered.{letter_lists}
use Rattle.judge_pool.specs.Pooling.{Extends, AreEdges, LeadsOn, IsKeyOf, SameKey, IsKnown, AreKnown}
use Rattle.judge_pool.proofs.LayeringLemmas.{Grows}

-- edges between values stay while there are more values
pub edges_grown : (view : View) (values more : List Answers) (keep states letters next edges : List ℕ) (n : ℕ) →
    Extends values more → AreEdges view values keep states letters next edges n →
    AreEdges view more keep states letters next edges n
edges_grown view values more keep states letters next edges n grown h = record {
  len = h.len;
  made = λ p i j lt at_i at_j.
      let l = h.made p i j lt at_i at_j in
      record {
        id = l.id;
        at = l.at;
        x = l.x;
        y = l.y;
        first = grown i l.x l.first;
        second = grown j l.y l.second;
        made = record {
          value = l.made.value;
          listed = grown l.id l.made.value l.made.listed;
          composes = l.made.composes;
          kept = l.made.kept;
        };
      };
  none_twice = h.none_twice;
  hit = h.hit;
}

pub leads_grown : (p q : Pool) (k : ℕ) (states row next edges : List ℕ) → Grows p q →
    LeadsOn p k states row next edges → LeadsOn q k states row next edges
leads_grown p q k states row next edges g h = record {
  nodes = h.nodes;
  kept = g.keeps k h.nodes h.kept;
  few = h.few;
  edges_lead = subst
      (λ view. AreEdges view q.values.items h.nodes states row next edges (length states * length row)) (sym g.view)
      (edges_grown p.view p.values.items q.values.items h.nodes states row next edges (length states * length row)
      g.values h.edges_lead);
}

pub key_stays : (p q : Pool) → Grows p q → (states row : List ℕ) (keep : ℕ) (k : LayerKey) →
    IsKeyOf p states row keep k → IsKeyOf q states row keep k
key_stays p q g states row keep k h = record {
  before = g.letters k.states states h.before;
  by = g.letters k.letters row h.by;
  behind = h.behind;
}

pub known_stays : (p q : Pool) → Grows p q → (l : KnownLayer) → IsKnown p l → IsKnown q l
known_stays p q g l h = record {
  states = h.states;
  row = h.row;
  next = h.next;
  key = key_stays p q g h.states h.row l.key.keep l.key h.key;
  listed = g.letters l.next h.next h.listed;
  leads = leads_grown p q l.key.keep h.states h.row h.next l.edges g h.leads;
}

pub layers_stay : (p q : Pool) → Grows p q → (layers : List KnownLayer) → AreKnown p layers → AreKnown q layers
layers_stay p q g layers known i l at = known_stays p q g l (known i l at)

pub layers_more : (p : Pool) (layers : List KnownLayer) (new : KnownLayer) → AreKnown p layers → IsKnown p new →
    AreKnown p (layers ++ new ∷ [])
layers_more p layers new known is i l at = elim (slice_get-push layers new l i at) [
  | inl before ↦ known i l before
  | inr here ↦ subst (IsKnown p) here.1 is
]

pub layers_none : (p : Pool) (layers : List KnownLayer) → layers ≡ [] → AreKnown p layers
layers_none p layers e i l at =
    absurd (let h : slice_get {X = KnownLayer} [] i ≡ Some l = ap (λ ls. slice_get ls i) (sym e) ∙ at in cc)

-- a layer that is made of the same lists leads as that one did
pub leads_again : (p : Pool) (l : KnownLayer) (k : LayerKey) (states row next edges : List ℕ) (keep : ℕ) →
    IsKnown p l → SameKey l.key k → IsKeyOf p states row keep k → slice_get (letter_lists p) l.next ≡ Some next →
    edges ≡ l.edges → LeadsOn p keep states row next edges
leads_again p l k states row next edges keep known same key at_next is_edges =
    let lists = letter_lists p in
    let is_states : known.states ≡ states =
    same_Some known.states states (sym known.key.before ∙ (ap (slice_get lists) same.states ∙ key.before)) in
    let is_row : known.row ≡ row =
    same_Some known.row row (sym known.key.by ∙ (ap (slice_get lists) same.letters ∙ key.by)) in
    let is_next : known.next ≡ next = same_Some known.next next (sym known.listed ∙ at_next) in
    let is_keep : l.key.keep ≡ keep = same.keep ∙ key.behind in
    subst (λ m. LeadsOn p m states row next edges) is_keep
    (subst (λ x. LeadsOn p l.key.keep x row next edges) is_states
    (subst (λ x. LeadsOn p l.key.keep known.states x next edges) is_row
    (subst (λ x. LeadsOn p l.key.keep known.states known.row x edges) is_next
    (subst (λ x. LeadsOn p l.key.keep known.states known.row known.next x) (sym is_edges) known.leads))))
