use Rattle.std.proofs.Common.{ℕ, ◌-◌, ◌*◌, ◌/◌, ◌++◌, List, length, take, drop, refl, ap, ◌∙◌}
use Rattle.contraction.proofs.BothLemmas.{whole_is}
use Rattle.contraction.proofs.both_rows.BothRows.whole.Goals as goal

-- what is behind the kept nodes of a load row
abbrev behind : List ℕ → List ℕ
behind load = take (length load - 2 * (length load / 8)) (drop (2 * (length load / 8)) load)

pub returns : goal.returns
returns c v h =
    let load : List ℕ = c.args.self.now.load in
    c.in_ok-push-2.ensures.ok
    ∙ (ap (λ (l : List ℕ). c.push.new.self ++ behind l) c.bytes-load.ensures
    ∙ (ap (λ (l : List ℕ). l ++ behind load) (c.in_ok-push.ensures.ok
    ∙ (ap (λ (l : List ℕ). l ++ c.bytes.result.now) c.in_ok-text.ensures ∙ c.bytes.ensures))
    ∙ whole_is v c.args.self.now.gap load (length load / 8) h refl))
