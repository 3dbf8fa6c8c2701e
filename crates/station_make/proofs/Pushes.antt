-- A text to which pieces were appended one after another.
use Rattle.std.proofs.Common.{◌≡◌, ◌∙◌, ap, append_assoc, ℕ, List, ◌++◌}
use Rattle.std.specs.Prelude.{Result, Ok, Err, OnOk}

-- what follows from what holds of a call that answers Ok
pub on_ok : {T E P Q : Type 0} (r : Result T E) → (P → Q) → OnOk r P → OnOk r Q
on_ok (Ok x) f p = f p
on_ok (Err e) f p = tt

-- a piece that is called by another name
pub called : (a b x y : List ℕ) → x ≡ y → b ≡ a ++ x → b ≡ a ++ y
called a b x y same pushed = pushed ∙ ap (λ (s : List ℕ). a ++ s) same

-- two texts, one after the other
two : (t a b x y : List ℕ) → a ≡ t ++ x → b ≡ a ++ y → b ≡ t ++ (x ++ y)
two t a b x y first second = second ∙ ap (λ s. s ++ y) first ∙ append_assoc t x y

pub three : (t a b c x y z : List ℕ) → a ≡ t ++ x → b ≡ a ++ y → c ≡ b ++ z → c ≡ t ++ (x ++ y ++ z)
three t a b c x y z first second third = two t b c (x ++ y) z (two t a b x y first second) third

pub four : (t a b c d x y z v : List ℕ) → a ≡ t ++ x → b ≡ a ++ y → c ≡ b ++ z → d ≡ c ++ v →
    d ≡ t ++ (x ++ y ++ z ++ v)
four t a b c d x y z v first second third fourth =
    two t c d (x ++ y ++ z) v (three t a b c x y z first second third) fourth

pub five : (t a b c d e x y z v w : List ℕ) → a ≡ t ++ x → b ≡ a ++ y → c ≡ b ++ z → d ≡ c ++ v → e ≡ d ++ w →
    e ≡ t ++ (x ++ y ++ z ++ v ++ w)
five t a b c d e x y z v w first second third fourth fifth =
    two t d e (x ++ y ++ z ++ v) w (four t a b c d x y z v first second third fourth) fifth

pub six : (t a b c d e f x y z v w u : List ℕ) → a ≡ t ++ x → b ≡ a ++ y → c ≡ b ++ z → d ≡ c ++ v → e ≡ d ++ w →
    f ≡ e ++ u → f ≡ t ++ (x ++ y ++ z ++ v ++ w ++ u)
six t a b c d e f x y z v w u first second third fourth fifth sixth =
    two t e f (x ++ y ++ z ++ v ++ w) u (five t a b c d e x y z v w first second third fourth fifth) sixth
