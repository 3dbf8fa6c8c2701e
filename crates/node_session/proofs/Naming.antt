-- Which lines name which events.
use Rattle.std.proofs.Common.{◌≡◌, ◌∙◌, sym, ap, ℕ, List, ◌++◌, Some, subst}
use Rattle.std.specs.Prelude.{codes, slice_get}
use Rattle.station_graph.specs.Diagram.{Diagram, Differ}
use Rattle.ilk_base.specs.declared.words.Dbpos.{Dbpos}
use Rattle.ilk_base.specs.declared.words.Dbpos.TheVariants.{Intermediate, Off, On, Bad, Lost}
use Rattle.ilk_base.specs.declared.words.Direction.{Direction}
use Rattle.ilk_base.specs.declared.words.Direction.TheVariants.{ToOff, ToOn}
use Rattle.ilk_base.specs.declared.words.SwitchId.{SwitchId}
use Rattle.bay_protocol.specs.declared.values.NodeEvent.TheVariants.{Command, Sense}
use Rattle.bay_protocol.specs.Fits.{IsOwn}
use Rattle.node_session.specs.Requests.{NamesOwn, NamesEvent}
use Rattle.std.proofs.lemmas.List.{append_cancel_left}

-- a switch of another bay has another path
pub not_own : (d : Diagram) (b : ℕ) (head line path : List ℕ) (i : ℕ) → Differ d.switch_paths → line ≡ head ++ path →
    slice_get d.switch_paths i ≡ Some path → ¬ IsOwn d b i → (j : ℕ) → ¬ NamesOwn d b head j line
not_own d b head line path i differ is at other j names =
    let same : names.path ≡ path = append_cancel_left head names.path path (sym names.written ∙ is) in
    let number : j ≡ i = differ j i path (names.named ∙ ap Some same) at in
    other (subst (λ (k : ℕ). IsOwn d b k) number names.own)

-- a command of either direction
pub no_command : (d : Diagram) (b : ℕ) (line : List ℕ) → ((i : ℕ) → ¬ NamesOwn d b (codes "command open ") i line) →
    ((i : ℕ) → ¬ NamesOwn d b (codes "command close ") i line)
    → (direction : Direction) (id : SwitchId) →
    ¬ NamesEvent d b line (Command (record { switch = id; direction = direction }))
no_command d b line opening closing ToOff id names = opening id.0 names
no_command d b line opening closing ToOn id names = closing id.0 names

-- a reading of each word
pub no_sense : (d : Diagram) (b : ℕ) (line : List ℕ) → ((i : ℕ) → ¬ NamesOwn d b (codes "sense intermediate ") i line) →
    ((i : ℕ) → ¬ NamesOwn d b (codes "sense off ") i line)
    → ((i : ℕ) → ¬ NamesOwn d b (codes "sense on ") i line) → ((i : ℕ) → ¬ NamesOwn d b (codes "sense bad ") i line) →
    ((i : ℕ) → ¬ NamesOwn d b (codes "sense lost ") i line)
    → (id : SwitchId) (word : Dbpos) → ¬ NamesEvent d b line (Sense id word)
no_sense d b line intermediate off on bad lost id Intermediate names = intermediate id.0 names
no_sense d b line intermediate off on bad lost id Off names = off id.0 names
no_sense d b line intermediate off on bad lost id On names = on id.0 names
no_sense d b line intermediate off on bad lost id Bad names = bad id.0 names
no_sense d b line intermediate off on bad lost id Lost names = lost id.0 names
