-- What the marks of a value say of the supply of a node.
use Rattle.std.proofs.Common.{◌≡◌, ◌≢◌, ℕ, ◌⊎◌, ◌↔◌, Bool, true, false, List, slice_get, Option, Some, None, refl, inl}
use Rattle.std.proofs.Common.{inr}
use Rattle.station_graph.specs.Diagram.{Diagram}
use Rattle.station_graph.specs.Connection.{Item}
use Rattle.station_graph.specs.Nodes.{Rises}
use Rattle.station_graph.specs.Views.{Supply, bare, tapped, fed, SupplyBy}
use Rattle.contraction.specs.Answers.{Answers, Keeps, MarkedAt, SaysFed, SaysLoaded, SaysSupply, IsContraction}
use Rattle.contraction.specs.Stands.{LoadStandsFor}
use Rattle.contraction.proofs.RestrictLemmas.{marked_at_place}

is_true_or_not : (o : Option Bool) → (o ≡ Some true) ⊎ (o ≢ Some true)
is_true_or_not None = inr (λ e. cc)
is_true_or_not (Some true) = inl refl
is_true_or_not (Some false) = inr (λ e. cc)

-- a kept node is marked or not
pub marked_or_not : (kept : List ℕ) (marks : List Bool) (n : ℕ) → Rises kept → Keeps kept n →
    MarkedAt kept marks n ⊎ ¬ MarkedAt kept marks n
marked_or_not kept marks n rises k = elim (is_true_or_not (slice_get marks k.place)) [
  | inl e ↦ inl (record { place = k.place; at = k.at; marked = e })
  | inr ne ↦ inr (λ m. ne (marked_at_place kept marks k.place n rises k.at m))
]

-- what is fed is loaded
pub fed_is_loaded : (c : Answers) (n : ℕ) → IsContraction c → SaysFed c n → SaysLoaded c n
fed_is_loaded c n w m = record { place = m.place; at = m.at; marked = w.fed_loaded m.place m.marked }

-- the marks tell the supply
pub supply_from_marks : (x y : Answers) (a b : ℕ) → SaysFed x a ↔ SaysFed y b → SaysLoaded x a ↔ SaysLoaded y b →
    (s : Supply) → SaysSupply x a s → SaysSupply y b s
supply_from_marks x y a b f l bare h = (λ m. h.0 (f.1 m), λ m. h.1 (l.1 m))
supply_from_marks x y a b f l tapped h = (λ m. h.0 (f.1 m), l.0 h.1)
supply_from_marks x y a b f l fed h = f.0 h

-- and the supply tells the marks
pub loaded_from_supply : (x y : Answers) (n : ℕ) → IsContraction x → IsContraction y → Keeps x.kept n →
    ((s : Supply) → SaysSupply x n s → SaysSupply y n s) → SaysLoaded x n → SaysLoaded y n
loaded_from_supply x y n wx wy k told m = elim (marked_or_not x.kept x.fed n wx.nodes.rises k) [
  | inl f ↦ fed_is_loaded y n wy (told fed f)
  | inr none ↦ (told tapped (none, m)).1
]

module _ (These : Item → Type 0) (d : Diagram) (v : List Bool) (c : Answers) (h : LoadStandsFor These d v c) (a : ℕ)
    (k : Keeps c.kept a) where
  pub supply_stands : (s : Supply) → SaysSupply c a s → SupplyBy These d v a s
  supply_stands bare s = (λ f. s.0 ((h.fed a k).1 f), λ t. s.1 ((h.loaded a k).1 (inr t)))
  supply_stands tapped s = (
    λ f. s.0 ((h.fed a k).1 f),
    elim ((h.loaded a k).0 s.1) [ inl f ↦ absurd (s.0 ((h.fed a k).1 f)) | inr t ↦ t ],
  )
  supply_stands fed s = (h.fed a k).0 s

  pub supply_said : (s : Supply) → SupplyBy These d v a s → SaysSupply c a s
  supply_said bare s = (λ f. s.0 ((h.fed a k).0 f), λ l. elim ((h.loaded a k).0 l) [ inl f ↦ s.0 f | inr t ↦ s.1 t ])
  supply_said tapped s = (λ f. s.0 ((h.fed a k).0 f), (h.loaded a k).1 (inr s.1))
  supply_said fed s = (h.fed a k).1 s
