-- Lists from one entry to another, each followed by the next.
use Rattle.std.proofs.Common.{◌≡◌, List, [], ◌∷◌, sym, ◌∙◌, ap, subst}
use Rattle.station_equations.specs.EquationMeaning.{PassesThrough, Leads}

module _ {X : Type 0} (Next : X → X → Type 0) where
  pub leads_here : (a b : X) → a ≡ b → Leads Next a b
  leads_here a b same = record { after = []; passes = same }

  pub leads_on : (a b c : X) → Next a b → Leads Next b c → Leads Next a c
  leads_on a b c next l = record { after = b ∷ l.after; passes = (next, l.passes) }

  leads_along : (a b c : X) (after : List X) → PassesThrough Next a after b → Leads Next b c → Leads Next a c
  leads_along a b c [] same l = subst (λ x. Leads Next x c) (sym same) l
  leads_along a b c (x ∷ after) ps l = leads_on a x c ps.0 (leads_along x b c after ps.1 l)

  pub leads_all : (a b c : X) → Leads Next a b → Leads Next b c → Leads Next a c
  leads_all a b c l m = leads_along a b c l.after l.passes m

  ends_alike : ((a b c : X) → Next a b → Next a c → b ≡ c) → (a b c : X) (after more : List X) →
      ((x : X) → ¬ Next b x) → ((x : X) → ¬ Next c x) → PassesThrough Next a after b
      → PassesThrough Next a more c → b ≡ c
  ends_alike one a b c [] [] last_b last_c p q = sym p ∙ q
  ends_alike one a b c [] (y ∷ more) last_b last_c p q = absurd (last_b y (subst (λ x. Next x y) p q.0))
  ends_alike one a b c (x ∷ after) [] last_b last_c p q = absurd (last_c x (subst (λ z. Next z x) q p.0))
  ends_alike one a b c (x ∷ after) (y ∷ more) last_b last_c p q =
      ends_alike one x b c after more last_b last_c p.1
      (subst (λ z. PassesThrough Next z more c) (sym (one a x y p.0 q.0)) q.1)

  -- where each entry is followed by one at most, an entry leads to one last entry at most
  pub one_end : ((a b c : X) → Next a b → Next a c → b ≡ c) → (a b c : X) → ((x : X) → ¬ Next b x) →
      ((x : X) → ¬ Next c x) → Leads Next a b → Leads Next a c → b ≡ c
  one_end one a b c last_b last_c l m = ends_alike one a b c l.after m.after last_b last_c l.passes m.passes

-- a list stays one where entries are followed by others too, under other names
passes_map : {X Y : Type 0} (f : X → Y) (N : X → X → Type 0) (M : Y → Y → Type 0) →
    ((a b : X) → N a b → M (f a) (f b)) → (a b : X) (after : List X) → PassesThrough N a after b → Leads M (f a) (f b)
passes_map f N M along a b [] same = leads_here M (f a) (f b) (ap f same)
passes_map f N M along a b (c ∷ after) ps =
    leads_on M (f a) (f c) (f b) (along a c ps.0) (passes_map f N M along c b after ps.1)

pub leads_map : {X Y : Type 0} (f : X → Y) (N : X → X → Type 0) (M : Y → Y → Type 0) →
    ((a b : X) → N a b → M (f a) (f b)) → (a b : X) → Leads N a b → Leads M (f a) (f b)
leads_map f N M along a b l = passes_map f N M along a b l.after l.passes

pub leads_stay : {X : Type 0} (N M : X → X → Type 0) → ((a b : X) → N a b → M a b) → (a b : X) → Leads N a b →
    Leads M a b
leads_stay N M along a b l = leads_map (λ x. x) N M along a b l
