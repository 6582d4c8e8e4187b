use Rattle.std.proofs.Common.{◌≡◌, ◌&&◌, ◌∙◌, not, map, true, sym, ap}
use Rattle.std.specs.List.{list_all}
use Rattle.circuits.specs.Names.{is_name_byte}
use Rattle.spec_grammar.specs.Forms.{are_nets}
use Rattle.spec_reader.proofs.LineFaults.{has_some-map, list_all-map}
use Rattle.spec_reader.specs.Steps.{has_some}
use Rattle.spec_reader.proofs.nets.is_net_list.Goals as goal

pub returns-then-not-is_empty : goal.returns-then-not-is_empty
returns-then-not-is_empty c =
    let names = map (λ name. name.now) c.args.names.now in
    let some : has_some names ≡ true = sym (has_some-map (λ name. name.now) c.args.names.now) ∙ ap not (sym c.is_empty.ensures ∙ c.if-not-is_empty.true) in
    c.are_nets.ensures ∙ list_all-map (λ name. list_all is_name_byte name) (λ name. name.now) c.args.names.now ∙ sym (ap (λ b. b && are_nets names) some)
