use Rattle.std.proofs.Common.{◌≡◌, ◌∙◌, sym, string_bytes}
use Rattle.std.proofs.lemmas.List.{length-map}
use Rattle.std.proofs.lemmas.Result.{err_from_is_err_and}
use Rattle.std.specs.HashMap.{get_by_text}
use Rattle.std.specs.HashSet.{contains_text}
use Rattle.netlist.proofs.Makers.{input_fault-is, IsKept-input}
use Rattle.netlist.proofs.Vecs.{vec_len-map}
use Rattle.netlist.specs.Draft.{Draft, input_fault}
use Rattle.netlist.specs.Inside.Maker.{drafted}
use Rattle.netlist.proofs.maker.NetlistMaker.add_input.Goals as goal

-- what the code computes is the fault of the call
pub returns-in-Some-clause-fault : goal.returns-in-Some-clause-fault
returns-in-Some-clause-fault c =
    let d : Draft = drafted c.self.inside.calls c.self.inside.inputs.items c.self.inside.gates.items c.self.inside.outputs.items in
    let is : c.net_fault.result ≡ input_fault d c.args.name.now =
    input_fault-is d (get_by_text c.self.inside.sources) (contains_text c.self.inside.named) c.self.invariant _ _ _ _ _ _ c.net_fault.ensures c.saturating_add-self-inside.ensures c.is_too_large_input-too_large.ensures (c.len.ensures ∙ vec_len-map string_bytes c.self.inside.inputs) c.contains_key.ensures
    in
    rw (← c.self.view_is) (sym is ∙ c.in-Some.is)

pub returns-in_err-put_input-clause-fault : goal.returns-in_err-put_input-clause-fault
returns-in_err-put_input-clause-fault c =
    let d : Draft = drafted c.self.inside.calls c.self.inside.inputs.items c.self.inside.gates.items c.self.inside.outputs.items in
    let is : c.net_fault.result ≡ input_fault d c.args.name.now =
    input_fault-is d (get_by_text c.self.inside.sources) (contains_text c.self.inside.named) c.self.invariant _ _ _ _ _ _ c.net_fault.ensures c.saturating_add-self-inside.ensures c.is_too_large_input-too_large.ensures (c.len.ensures ∙ vec_len-map string_bytes c.self.inside.inputs) c.contains_key.ensures
    in
    let p = err_from_is_err_and c.from_residual.result c.from_residual.ensures.1 in
    rw (p.1, p.2, ← c.self.view_is) (sym is ∙ c.in_default.is)

pub returns-clause-fault : goal.returns-clause-fault
returns-clause-fault c =
    let d : Draft = drafted c.self.inside.calls c.self.inside.inputs.items c.self.inside.gates.items c.self.inside.outputs.items in
    let is : c.net_fault.result ≡ input_fault d c.args.name.now =
    input_fault-is d (get_by_text c.self.inside.sources) (contains_text c.self.inside.named) c.self.invariant _ _ _ _ _ _ c.net_fault.ensures c.saturating_add-self-inside.ensures c.is_too_large_input-too_large.ensures (c.len.ensures ∙ vec_len-map string_bytes c.self.inside.inputs) c.contains_key.ensures
    in
    rw (← c.self.view_is) (sym is ∙ c.in_default.is)

pub invariant_of-self-2 : goal.invariant_of-self-2
invariant_of-self-2 c =
    let d : Draft = drafted c.self.inside.calls c.self.inside.inputs.items c.self.inside.gates.items c.self.inside.outputs.items in
    let is : c.net_fault.result ≡ input_fault d c.args.name.now =
    input_fault-is d (get_by_text c.self.inside.sources) (contains_text c.self.inside.named) c.self.invariant _ _ _ _ _ _ c.net_fault.ensures c.saturating_add-self-inside.ensures c.is_too_large_input-too_large.ensures (c.len.ensures ∙ vec_len-map string_bytes c.self.inside.inputs) c.contains_key.ensures
    in
    IsKept-input d (get_by_text c.self.inside.sources) (contains_text c.self.inside.named) c.self.invariant c.args.name.now (get_by_text c.put_input.new.sources) _
    (let e = c.in_ok-put_input.ensures.inputs in let f = c.saturating_add-self-inside.ensures in cc)
    (sym is ∙ c.in_default.is)
    _
    (sym (length-map c.self.inside.inputs.items string_bytes))
    c.in_ok-put_input.ensures.sources
