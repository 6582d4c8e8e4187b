use Rattle.std.proofs.Common.{◌≡◌, ◌∙◌, sym, map}
use Rattle.std.proofs.lemmas.List.{length-map}
use Rattle.std.proofs.lemmas.Result.{err_from_is_err_and}
use Rattle.std.specs.HashMap.{get_by_text}
use Rattle.std.specs.HashSet.{contains_text}
use Rattle.netlist.proofs.Makers.{gate_fault-is, IsKept-gate, drafted-gate}
use Rattle.netlist.proofs.Vecs.{vec_len-map, list_any-map}
use Rattle.netlist.specs.Draft.{Draft, gate_fault}
use Rattle.circuits.specs.Limits.{is_long}
use Rattle.netlist.specs.Inside.Maker.{drafted, gate_kept}
use Rattle.netlist.proofs.maker.NetlistMaker.add_gate.Goals as goal

-- what the code computes is the fault of the call
pub returns-in-Some-clause-fault : goal.returns-in-Some-clause-fault
returns-in-Some-clause-fault c =
    let d : Draft = drafted c.self.inside.calls c.self.inside.inputs.items c.self.inside.gates.items c.self.inside.outputs.items in
    let is : c.net_fault.result ≡ gate_fault d c.args.name.now (map (λ input. input.now) c.args.inputs.now) =
    gate_fault-is d (get_by_text c.self.inside.sources) (contains_text c.self.inside.named) c.self.invariant _ _ _ _ _ _ _ _ _ c.net_fault.ensures c.saturating_add-self-inside.ensures c.is_too_large_gate-too_large.ensures (list_any-map is_long (λ input. input.now) c.args.inputs.now) (sym (length-map c.args.inputs.now (λ input. input.now))) (c.len.ensures ∙ vec_len-map gate_kept c.self.inside.gates) c.contains_key.ensures
    in
    rw (← c.self.view_is) (sym is ∙ c.in-Some.is)

pub returns-in_err-gate-clause-fault : goal.returns-in_err-gate-clause-fault
returns-in_err-gate-clause-fault c =
    let d : Draft = drafted c.self.inside.calls c.self.inside.inputs.items c.self.inside.gates.items c.self.inside.outputs.items in
    let is : c.net_fault.result ≡ gate_fault d c.args.name.now (map (λ input. input.now) c.args.inputs.now) =
    gate_fault-is d (get_by_text c.self.inside.sources) (contains_text c.self.inside.named) c.self.invariant _ _ _ _ _ _ _ _ _ c.net_fault.ensures c.saturating_add-self-inside.ensures c.is_too_large_gate-too_large.ensures (list_any-map is_long (λ input. input.now) c.args.inputs.now) (sym (length-map c.args.inputs.now (λ input. input.now))) (c.len.ensures ∙ vec_len-map gate_kept c.self.inside.gates) c.contains_key.ensures
    in
    let p = err_from_is_err_and c.from_residual.result c.from_residual.ensures.1 in
    rw (p.1, p.2, ← c.self.view_is) (sym is ∙ c.in_default.is)

pub returns-in_err-put_gate-clause-fault : goal.returns-in_err-put_gate-clause-fault
returns-in_err-put_gate-clause-fault c =
    let d : Draft = drafted c.self.inside.calls c.self.inside.inputs.items c.self.inside.gates.items c.self.inside.outputs.items in
    let is : c.net_fault.result ≡ gate_fault d c.args.name.now (map (λ input. input.now) c.args.inputs.now) =
    gate_fault-is d (get_by_text c.self.inside.sources) (contains_text c.self.inside.named) c.self.invariant _ _ _ _ _ _ _ _ _ c.net_fault.ensures c.saturating_add-self-inside.ensures c.is_too_large_gate-too_large.ensures (list_any-map is_long (λ input. input.now) c.args.inputs.now) (sym (length-map c.args.inputs.now (λ input. input.now))) (c.len.ensures ∙ vec_len-map gate_kept c.self.inside.gates) c.contains_key.ensures
    in
    let p = err_from_is_err_and c.from_residual-in_err-put_gate.result c.from_residual-in_err-put_gate.ensures.1 in
    rw (p.1, p.2, ← c.self.view_is) (sym is ∙ c.in_default.is)

pub returns-clause-fault : goal.returns-clause-fault
returns-clause-fault c =
    let d : Draft = drafted c.self.inside.calls c.self.inside.inputs.items c.self.inside.gates.items c.self.inside.outputs.items in
    let is : c.net_fault.result ≡ gate_fault d c.args.name.now (map (λ input. input.now) c.args.inputs.now) =
    gate_fault-is d (get_by_text c.self.inside.sources) (contains_text c.self.inside.named) c.self.invariant _ _ _ _ _ _ _ _ _ c.net_fault.ensures c.saturating_add-self-inside.ensures c.is_too_large_gate-too_large.ensures (list_any-map is_long (λ input. input.now) c.args.inputs.now) (sym (length-map c.args.inputs.now (λ input. input.now))) (c.len.ensures ∙ vec_len-map gate_kept c.self.inside.gates) c.contains_key.ensures
    in
    rw (← c.self.view_is) (sym is ∙ c.in_default.is)

pub invariant_of-self-2 : goal.invariant_of-self-2
invariant_of-self-2 c =
    let d : Draft = drafted c.self.inside.calls c.self.inside.inputs.items c.self.inside.gates.items c.self.inside.outputs.items in
    let is : c.net_fault.result ≡ gate_fault d c.args.name.now (map (λ input. input.now) c.args.inputs.now) =
    gate_fault-is d (get_by_text c.self.inside.sources) (contains_text c.self.inside.named) c.self.invariant _ _ _ _ _ _ _ _ _ c.net_fault.ensures c.saturating_add-self-inside.ensures c.is_too_large_gate-too_large.ensures (list_any-map is_long (λ input. input.now) c.args.inputs.now) (sym (length-map c.args.inputs.now (λ input. input.now))) (c.len.ensures ∙ vec_len-map gate_kept c.self.inside.gates) c.contains_key.ensures
    in
    IsKept-gate d (get_by_text c.self.inside.sources) (contains_text c.self.inside.named) c.self.invariant c.args.name.now c.args.word (map (λ input. input.now) c.args.inputs.now) (get_by_text c.put_gate.new.sources) _
    (rw (length-map c.args.inputs.now (λ input. input.now)) c.requires)
    (drafted-gate c.self.inside.calls c.saturating_add-self-inside.result c.self.inside.inputs.items c.self.inside.gates.items _ c.self.inside.outputs.items c.in_ok-gate.gate c.args.name.now c.args.word _ c.saturating_add-self-inside.ensures c.in_ok-put_gate.ensures.gates c.in_ok-gate.ensures)
    (sym is ∙ c.in_default.is)
    _
    (sym (length-map c.self.inside.gates.items gate_kept))
    c.in_ok-put_gate.ensures.sources
