use Rattle.std.proofs.Common.{arith, ◌≤◌, ℕ, List, [], Option, length, sym, ap, ◌∙◌, subst}
use Rattle.std.specs.Option.{option_map, unwrap_or}
use Rattle.std.specs.String.{string_bytes}
use Rattle.ssd_text.specs.Nesting.{entry_at}
use Rattle.ssd_read.specs.declared.role.Role.{Role}
use Rattle.ssd_read.specs.Elements.{path_in, unless_grounded}
use Rattle.ssd_read.specs.Decoded.{IsNameOf}
use Rattle.ssd_read.proofs.Placed.{place_root, place_inner}
use Rattle.ssd_read.proofs.Decoding.{name_kept}
use Rattle.ssd_read.proofs.drawing.place_of.Goals as goal

pub returns-in-None-clause-element : goal.returns-in-None-clause-element
returns-in-None-clause-element c =
    let few : length c.args.before.now ≤ length c.args.tree.now = omega arith in
    place_root c.args.front.now c.args.tree.now c.args.before.now (entry_at c.args.tree.now c.args.i)
    c.entry-entry.result.parent (string_bytes c.new.result) few c.entry-entry.ensures.parent c.in-None.ensures
    c.new.ensures.bytes

pub returns-in_ok-kind-in-Some-clause-element : goal.returns-in_ok-kind-in-Some-clause-element
returns-in_ok-kind-in-Some-clause-element c =
    let few : length c.args.before.now ≤ length c.args.tree.now = omega arith in
    let e = entry_at c.args.tree.now c.args.i in
    let named = c.role_in-named.ensures e (sym c.entry-entry.ensures.name) in
    let role = c.unless_grounded-role.ensures e (λ h. c.text_of-text.ensures ∙ c.in_ok-name-in-Some.ensures h) in
    let kept = subst (λ (r : Role). IsNameOf r e (option_map string_bytes c.in_ok-name-in-Some.name)) (sym role)
    (name_kept e c.role_in-named.result (option_map string_bytes c.in_ok-name-in-Some.name)
    c.in_ok-name-in-Some.ensures) in
    let path = c.in_ok-path-in-Some.ensures e (λ h. c.name_or_nothing.ensures ∙ ap (λ (o : Option (List ℕ)). unwrap_or
    o []) (c.text_of-text.ensures ∙ kept h)) ∙ ap (λ outer. path_in outer c.unless_grounded-role.result e)
    c.as_str.ensures.value in
    place_inner c.args.front.now c.args.tree.now c.args.before.now e c.entry-entry.result.parent c.in-Some.above.now
    c.unless_grounded-role.result (string_bytes c.in_ok-path-in-Some.path) few c.entry-entry.ensures.parent
    c.in-Some.ensures (role ∙ ap (unless_grounded e) named) path

pub returns-in_ok-kind-in-Some-clause-decoded : goal.returns-in_ok-kind-in-Some-clause-decoded
returns-in_ok-kind-in-Some-clause-decoded c =
    let e = entry_at c.args.tree.now c.args.i in
    let role = c.unless_grounded-role.ensures e (λ h. c.text_of-text.ensures ∙ c.in_ok-name-in-Some.ensures h) in
    record {
      name = subst (λ (r : Role). IsNameOf r e (option_map string_bytes c.in_ok-name-in-Some.name)) (sym role)
          (name_kept e c.role_in-named.result (option_map string_bytes c.in_ok-name-in-Some.name)
          c.in_ok-name-in-Some.ensures);
      kind = c.in_ok-kind-in-Some.ensures;
    }
