use Rattle.std.proofs.Common.{◌++◌, ◌<◌, [], length, map, sym, ap, ◌∙◌, subst, arith}
use Rattle.std.proofs.lemmas.List.{get_or-map, length-map}
use Rattle.std.specs.String.{string_bytes}
use Rattle.circuits.specs.Circuit.{name_of}
use Rattle.report.proofs.Assignments.{text-more, assignment-all}
use Rattle.report.proofs.lines.push_assignment.Goals as goal

pub loop-place-preserved : goal.loop-place-preserved
loop-place-preserved c =
    let order = c.args.order.now in
    let name = name_of c.args.netlist.now in
    let place = c.loop-place.place in
    let in_order : place < length order = omega (arith, c.min-count.ensures) in
    text-more (map name order) c.args.at.now place c.name.result.now c.get.result
    (string_bytes c.args.text.now) (string_bytes c.loop-place.text) (string_bytes c.push_bit.new.text)
    (subst (λ n. place < n) (sym (length-map order name)) in_order)
    (c.name.ensures ∙ sym (get_or-map name order place 0 [] in_order))
    c.get.ensures c.loop-place.invariant c.in_ok-push_bit.ensures

pub returns : goal.returns
returns c =
    let order = c.args.order.now in
    let name = name_of c.args.netlist.now in
    c.loop-place.invariant ∙ ap (λ text. string_bytes c.args.text.now ++ text) (assignment-all (map name order) c.args.at.now c.loop-place.place (omega (arith, length-map order name)))
