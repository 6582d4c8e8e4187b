use Rattle.std.proofs.Common.{◌∙◌, sym, ap, map, drop, ◌+◌}
use Rattle.std.specs.List.{list_all}
use Rattle.circuits.specs.Names.{is_name_byte, net_of}
use Rattle.spec_reader.proofs.Lists.{at_all_seen}
use Rattle.spec_reader.proofs.NetLemmas.{all_numbers, all_numbers-known, behind, behind-nothing, numbers-none, numbers-more, numbers-end}
use Rattle.spec_reader.proofs.nets.net_numbers.Goals as goal

pub loop-name-init : goal.loop-name-init
loop-name-init c = ap (λ front. behind front (all_numbers c.args.netlist.now (map (λ name. name.now) c.args.names.now))) c.in_ok-numbers.ensures.items ∙ behind-nothing _

pub unwrap-requires : goal.unwrap-requires
unwrap-requires c = c.as_name.ensures.some ∙ at_all_seen (λ name. name.now) (λ name. list_all is_name_byte name) c.args.names.now c.loop-name.name-index _ c.loop-name-test.true c.requires

pub loop-name-preserved : goal.loop-name-preserved
loop-name-preserved c =
    let same = rw c.unwrap.ensures at c.as_name.ensures.same in
    ap (λ front. behind front (all_numbers c.args.netlist.now (drop (c.loop-name.name-index + 1) (map (λ name. name.now) c.args.names.now)))) c.in_ok-push.ensures.items
    ∙ numbers-more (λ name. name.now) c.args.netlist.now c.args.names.now c.loop-name.numbers.items c.in-Some.number c.loop-name.name-index _ _ c.loop-name-test.true c.loop-name.invariant
    (sym (c.find.ensures ∙ ap (net_of c.args.netlist.now) same) ∙ c.in-Some.is)

pub returns-in_default : goal.returns-in_default
returns-in_default c =
    let same = rw c.unwrap.ensures at c.as_name.ensures.same in
    numbers-none (λ name. name.now) c.args.netlist.now c.args.names.now c.loop-name.numbers.items c.loop-name.name-index _ _ c.loop-name-test.true c.loop-name.invariant
    (sym (c.find.ensures ∙ ap (net_of c.args.netlist.now) same) ∙ c.in_default.is)
    ∙ all_numbers-known c.args.netlist.now (map (λ name. name.now) c.args.names.now)

pub returns : goal.returns
returns c =
    numbers-end (λ name. name.now) c.args.netlist.now c.args.names.now c.loop-name.numbers.items c.loop-name.name-index _ c.loop-name-test.false c.loop-name.invariant
    ∙ all_numbers-known c.args.netlist.now (map (λ name. name.now) c.args.names.now)
