use Rattle.std.proofs.Common.{◌≡◌, ◌∙◌, ℕ, ◌+◌, ◌<◌, ◌≤◌, ◌/◌, ◌%◌, ◌^◌, List, [], ◌∷◌, ◌++◌, sym, ap, append_assoc}
use Rattle.std.proofs.Common.{Result, Ok, Err, OnOk, decimal}
use Rattle.std.proofs.lemmas.Fmt.{decimal_step}
use Rattle.path_names.proofs.decimal.+push_decimal.Goals as goal

-- the digits before the last, and the last
whole : {A E : Type 0} (r : Result A E) (n : ℕ) (old front digit new : List ℕ) → 10 ≤ n → n < 2 ^ 64 →
    front ≡ old ++ decimal (n / 10) → digit ≡ (48 + n % 10) ∷ [] → OnOk r (new ≡ front ++ digit) →
    OnOk r (new ≡ old ++ decimal n)
whole (Err e) n old front digit new large fits is last pushed = tt
whole (Ok x) n old front digit new large fits is last pushed =
    pushed ∙ (ap (λ (t : List ℕ). t ++ digit) is ∙ (append_assoc old (decimal (n / 10)) digit
    ∙ (ap (λ (t : List ℕ). old ++ (decimal (n / 10) ++ t)) last
    ∙ ap (λ (t : List ℕ). old ++ t) (sym (decimal_step n large fits)))))

pub returns-clause-ok : goal.returns-clause-ok
returns-clause-ok t c =
    whole c.word-2.result c.args.number c.args.text.now.text c.push_decimal.new.text.text c.digit_word-2.result.now
    c.word-2.new.self.text c.if-number-lt10.false c.ranges.number.fits c.in_ok-push_decimal.ensures.ok
    c.digit_word-2.ensures c.word-2.ensures.ok
