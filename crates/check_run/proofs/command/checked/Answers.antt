use Rattle.std.proofs.Common.{◌<◌, sym, subst, arith}
use Rattle.std.specs.Prelude.{All}
use Rattle.std.proofs.lemmas.List.Elements.{All-weaker}
use Rattle.circuits.specs.Circuit.{input_count, net_count}
use Rattle.cone_builder.proofs.NetLaws.{all_inputs}
use Rattle.check_run.proofs.command.checked.Goals as goal

pub verdict_lines-requires : goal.verdict_lines-requires
verdict_lines-requires g c =
    subst (All (λ net. net < net_count c.args.netlist.now)) (sym c.order.ensures.order)
    (All-weaker (λ net. net < input_count c.args.netlist.now) (λ net. net < net_count c.args.netlist.now) (λ net low. omega (arith, low)) c.args.spec.now.order
    (all_inputs c.args.netlist.now c.args.spec.now c.requires.read_for.over c.order.ensures.well_formed))
