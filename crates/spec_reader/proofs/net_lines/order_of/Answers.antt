use Rattle.std.proofs.Common.{◌||◌, ◌∙◌, true, false, map, sym, ap, option_map}
use Rattle.std.proofs.lemmas.Bool.{and_parts}
use Rattle.spec_grammar.specs.Faults.{numbers, has_unknown, is_no_order}
use Rattle.spec_grammar.specs.Forms.{are_nets}
use Rattle.spec_reader.specs.Steps.{has_some}
use Rattle.spec_reader.proofs.LineFaults.{order-bad, order-long, order-unknown, order-told, order-said, unknown_if, known_if}
use Rattle.spec_reader.proofs.net_lines.order_of.Goals as goal

pub returns-then-not-is_net_list : goal.returns-then-not-is_net_list
returns-then-not-is_net_list c =
    order-bad c.args.netlist.now c.args.given (map (λ net. net.now) c.args.nets.now) (sym c.is_net_list.ensures ∙ c.if-not-is_net_list.true)

pub returns-then-has_long_name : goal.returns-then-has_long_name
returns-then-has_long_name c =
    order-long c.args.netlist.now c.args.given (map (λ net. net.now) c.args.nets.now) (sym c.is_net_list.ensures ∙ c.if-not-is_net_list.false) (sym c.has_long_name.ensures ∙ c.if-has_long_name.true)

pub net_numbers-requires : goal.net_numbers-requires
net_numbers-requires c =
    let nets = map (λ net. net.now) c.args.nets.now in
    (and_parts (has_some nets) (are_nets nets) (sym c.is_net_list.ensures ∙ c.if-not-is_net_list.false)).1

pub returns-in_default : goal.returns-in_default
returns-in_default c =
    let nets = map (λ net. net.now) c.args.nets.now in
    order-unknown c.args.netlist.now c.args.given nets (sym c.is_net_list.ensures ∙ c.if-not-is_net_list.false) (sym c.has_long_name.ensures ∙ c.if-has_long_name.false)
    (unknown_if (has_unknown c.args.netlist.now nets) (numbers c.args.netlist.now nets) (sym (ap (option_map (λ numbers. numbers.items)) c.in_default.is) ∙ c.in_ok-numbers.ensures))

pub returns-then-is_bad_order : goal.returns-then-is_bad_order
returns-then-is_bad_order c =
    let nets = map (λ net. net.now) c.args.nets.now in
    let n = c.args.netlist.now in
    let known = known_if (has_unknown n nets) (numbers n nets) c.in-Some.numbers.items (sym (ap (option_map (λ numbers. numbers.items)) c.in-Some.is) ∙ c.in_ok-numbers.ensures) in
    order-told n c.args.given nets (sym c.is_net_list.ensures ∙ c.if-not-is_net_list.false) (sym c.has_long_name.ensures ∙ c.if-has_long_name.false) known.0 true
    (ap (λ i. c.args.given || is_no_order i (numbers n nets)) (sym c.inputs.ensures.inputs)
    ∙ ap (λ ns. c.args.given || is_no_order c.inputs.result ns) (sym (c.deref.ensures.value ∙ known.1))
    ∙ sym c.is_bad_order.ensures ∙ c.if-is_bad_order.true)

pub returns : goal.returns
returns c =
    let nets = map (λ net. net.now) c.args.nets.now in
    let n = c.args.netlist.now in
    let known = known_if (has_unknown n nets) (numbers n nets) c.in-Some.numbers.items (sym (ap (option_map (λ numbers. numbers.items)) c.in-Some.is) ∙ c.in_ok-numbers.ensures) in
    let is = sym c.is_net_list.ensures ∙ c.if-not-is_net_list.false in (
      order-told n c.args.given nets is (sym c.has_long_name.ensures ∙ c.if-has_long_name.false) known.0 false
          (ap (λ i. c.args.given || is_no_order i (numbers n nets)) (sym c.inputs.ensures.inputs)
          ∙ ap (λ ns. c.args.given || is_no_order c.inputs.result ns) (sym (c.deref.ensures.value ∙ known.1))
          ∙ sym c.is_bad_order.ensures ∙ c.if-is_bad_order.false),
      known.1 ∙ sym (order-said n c.args.given nets is),
    )
