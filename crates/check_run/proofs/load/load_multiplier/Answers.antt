use Rattle.std.proofs.Common.{◌∙◌}
use Rattle.check_run.proofs.LoadLaws.{made_netlist_stops, made_spec_stops, made_taken}
use Rattle.check_run.proofs.load.load_multiplier.Goals as goal

pub returns-in_err-netlist-2-clause-loads : goal.returns-in_err-netlist-2-clause-loads
returns-in_err-netlist-2-clause-loads c = λ shelf.
    made_netlist_stops c.args.kind c.args.size c.deref.result.now shelf c.in_err-netlist-2.field-0.0 c.from_residual-in_err-netlist-2.result
    (c.deref.ensures.value ∙ c.in_ok-netlist.ensures.netlist) c.in_err-netlist-2.ensures c.from_residual-in_err-netlist-2.ensures.1

pub returns-in_err-spec-clause-loads : goal.returns-in_err-spec-clause-loads
returns-in_err-spec-clause-loads c = λ shelf.
    made_spec_stops c.args.kind c.args.size c.deref.result.now c.deref-2.result.now shelf c.in_ok-netlist-2.netlist c.in_err-spec.field-0.0 c.from_residual-in_err-spec.result
    (c.deref.ensures.value ∙ c.in_ok-netlist.ensures.netlist) c.in_ok-netlist-2.ensures (c.deref-2.ensures.value ∙ c.in_ok-netlist.ensures.specification)
    c.in_err-spec.ensures.spec c.from_residual-in_err-spec.ensures.1

pub returns-clause-loads : goal.returns-clause-loads
returns-clause-loads c = λ shelf.
    made_taken c.args.kind c.args.size c.deref.result.now c.deref-2.result.now shelf c.in_ok-netlist-2.netlist c.in_ok-spec.spec
    (c.deref.ensures.value ∙ c.in_ok-netlist.ensures.netlist) c.in_ok-netlist-2.ensures (c.deref-2.ensures.value ∙ c.in_ok-netlist.ensures.specification)
    c.in_ok-spec.ensures.spec
