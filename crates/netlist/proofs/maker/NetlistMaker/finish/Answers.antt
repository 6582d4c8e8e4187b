use Rattle.std.proofs.Common.{◌≡◌, ◌∙◌, ℕ, Bool, List, Option, None, sym, ap, subst, map, string_bytes, refl}
use Rattle.std.proofs.lemmas.List.{length-map}
use Rattle.std.proofs.lemmas.Result.{err_from_is_err_and}
use Rattle.std.specs.HashMap.{get_by_text}
use Rattle.std.specs.HashSet.{contains_text}
use Rattle.std.specs.Option.{option_map}
use Rattle.netlist.proofs.CycleCalls.{accepted-from_none}
use Rattle.netlist.proofs.LeastCalls.{unknown-least}
use Rattle.netlist.proofs.LookUps.{undefined_is, circuit_is, small_nets, sources-kept, circuit-sound, finish_fault-undefined, finish_fault-defined, undefined_fault-none}
use Rattle.circuits.specs.Circuit.{Circuit, Gate}
use Rattle.netlist.specs.Draft.{Draft}
use Rattle.netlist.specs.Fault.{fault}
use Rattle.netlist.specs.Finish.{circuit_of, least, undefined_calls, undefined_fault, finish_fault, cycle_fault}
use Rattle.netlist.specs.Inside.LookUp.{HasSmallNets}
use Rattle.netlist.specs.Inside.Maker.{drafted, gate_kept}
use Rattle.circuits.specs.Sound.{IsSound}
use Rattle.netlist.specs.Inside.Source.{FindsNames}
use Rattle.netlist.specs.declared.fault.NetCause.TheVariants.{Cycle}
use Rattle.netlist.specs.declared.source.Source.{Source}
use Rattle.netlist.proofs.maker.NetlistMaker.finish.Goals as goal

pub returns-in-Some-clause-fault : goal.returns-in-Some-clause-fault
returns-in-Some-clause-fault c =
    let d : Draft = drafted c.self.inside.calls c.self.inside.inputs.items c.self.inside.gates.items c.self.inside.outputs.items in
    let found : List ℕ → Option Source = get_by_text c.self.inside.sources in
    let is_named : List ℕ → Bool = contains_text c.self.inside.named in
    let calls : c.first_unknown.result ≡ least (undefined_calls d) = rw (c.first_unknown.ensures, c.deref.ensures.value, c.deref-2.ensures.value) (unknown-least found c.self.inside.gates.items c.self.inside.outputs.items ∙ undefined_is d found is_named c.self.invariant) in
    ap finish_fault (sym c.self.view_is) ∙ finish_fault-undefined d c.in-Some.at (sym calls ∙ c.in-Some.is)

pub nets_of-requires-clause-small : goal.nets_of-requires-clause-small
nets_of-requires-clause-small c =
    let d : Draft = drafted c.self.inside.calls c.self.inside.inputs.items c.self.inside.gates.items c.self.inside.outputs.items in
    subst (λ n. HasSmallNets n (get_by_text c.self.inside.sources)) (length-map c.self.inside.inputs.items string_bytes) (small_nets d (get_by_text c.self.inside.sources) (contains_text c.self.inside.named) c.self.invariant)

pub nets_of-requires-clause-sound : goal.nets_of-requires-clause-sound
nets_of-requires-clause-sound c =
    let d : Draft = drafted c.self.inside.calls c.self.inside.inputs.items c.self.inside.gates.items c.self.inside.outputs.items in
    let found : List ℕ → Option Source = get_by_text c.self.inside.sources in
    let is_named : List ℕ → Bool = contains_text c.self.inside.named in
    let calls : c.first_unknown.result ≡ least (undefined_calls d) = rw (c.first_unknown.ensures, c.deref.ensures.value, c.deref-2.ensures.value) (unknown-least found c.self.inside.gates.items c.self.inside.outputs.items ∙ undefined_is d found is_named c.self.invariant) in
    let none : least (undefined_calls d) ≡ None = sym calls ∙ c.in_default.is in
    rw (c.deref-3.ensures.value, c.deref-4.ensures.value) (subst IsSound (sym (circuit_is d found is_named c.self.invariant)) (circuit-sound d found is_named c.self.invariant none))

pub returns-in_err-nets-clause-undefined : goal.returns-in_err-nets-clause-undefined
returns-in_err-nets-clause-undefined c = λ _.
    let d : Draft = drafted c.self.inside.calls c.self.inside.inputs.items c.self.inside.gates.items c.self.inside.outputs.items in
    let found : List ℕ → Option Source = get_by_text c.self.inside.sources in
    let is_named : List ℕ → Bool = contains_text c.self.inside.named in
    let calls : c.first_unknown.result ≡ least (undefined_calls d) = rw (c.first_unknown.ensures, c.deref.ensures.value, c.deref-2.ensures.value) (unknown-least found c.self.inside.gates.items c.self.inside.outputs.items ∙ undefined_is d found is_named c.self.invariant) in
    let none : least (undefined_calls d) ≡ None = sym calls ∙ c.in_default.is in
    ap undefined_fault (sym c.self.view_is) ∙ undefined_fault-none d none

pub without_cycle-requires-clause-sources : goal.without_cycle-requires-clause-sources
without_cycle-requires-clause-sources c =
    let d : Draft = drafted c.self.inside.calls c.self.inside.inputs.items c.self.inside.gates.items c.self.inside.outputs.items in
    let found : List ℕ → Option Source = get_by_text c.self.inside.sources in
    let is_named : List ℕ → Bool = contains_text c.self.inside.named in
    let made : c.in_ok-nets.nets ≡ circuit_of d = c.in_ok-nets.ensures ∙ rw (c.deref-3.ensures.value, c.deref-4.ensures.value) (circuit_is d found is_named c.self.invariant) in
    subst (λ (k : Circuit). FindsNames k.inputs (map (λ (gate : Gate). gate.name) k.gates) found) (sym made) (sources-kept d found is_named c.self.invariant)

pub returns-in_err-order-clause-undefined : goal.returns-in_err-order-clause-undefined
returns-in_err-order-clause-undefined c = λ _.
    let d : Draft = drafted c.self.inside.calls c.self.inside.inputs.items c.self.inside.gates.items c.self.inside.outputs.items in
    let found : List ℕ → Option Source = get_by_text c.self.inside.sources in
    let is_named : List ℕ → Bool = contains_text c.self.inside.named in
    let calls : c.first_unknown.result ≡ least (undefined_calls d) = rw (c.first_unknown.ensures, c.deref.ensures.value, c.deref-2.ensures.value) (unknown-least found c.self.inside.gates.items c.self.inside.outputs.items ∙ undefined_is d found is_named c.self.invariant) in
    let none : least (undefined_calls d) ≡ None = sym calls ∙ c.in_default.is in
    ap undefined_fault (sym c.self.view_is) ∙ undefined_fault-none d none

pub without_cycle-requires-clause-accepted : goal.without_cycle-requires-clause-accepted
without_cycle-requires-clause-accepted c = λ off.
    let d : Draft = drafted c.self.inside.calls c.self.inside.inputs.items c.self.inside.gates.items c.self.inside.outputs.items in
    let found : List ℕ → Option Source = get_by_text c.self.inside.sources in
    let is_named : List ℕ → Bool = contains_text c.self.inside.named in
    let calls : c.first_unknown.result ≡ least (undefined_calls d) = rw (c.first_unknown.ensures, c.deref.ensures.value, c.deref-2.ensures.value) (unknown-least found c.self.inside.gates.items c.self.inside.outputs.items ∙ undefined_is d found is_named c.self.invariant) in
    let none : least (undefined_calls d) ≡ None = sym calls ∙ c.in_default.is in
    let made : c.in_ok-nets.nets ≡ circuit_of d = c.in_ok-nets.ensures ∙ rw (c.deref-3.ensures.value, c.deref-4.ensures.value) (circuit_is d found is_named c.self.invariant) in
    accepted-from_none c.in_ok-nets.nets (map gate_kept c.deref-5.result.now) (subst IsSound (sym made) (circuit-sound d found is_named c.self.invariant none)) (sym c.in_ok-order.ensures.cycle ∙ off)

pub returns-in_err-without_cycle-clause-fault : goal.returns-in_err-without_cycle-clause-fault
returns-in_err-without_cycle-clause-fault c =
    let d : Draft = drafted c.self.inside.calls c.self.inside.inputs.items c.self.inside.gates.items c.self.inside.outputs.items in
    let found : List ℕ → Option Source = get_by_text c.self.inside.sources in
    let is_named : List ℕ → Bool = contains_text c.self.inside.named in
    let calls : c.first_unknown.result ≡ least (undefined_calls d) = rw (c.first_unknown.ensures, c.deref.ensures.value, c.deref-2.ensures.value) (unknown-least found c.self.inside.gates.items c.self.inside.outputs.items ∙ undefined_is d found is_named c.self.invariant) in
    let none : least (undefined_calls d) ≡ None = sym calls ∙ c.in_default.is in
    let made : c.in_ok-nets.nets ≡ circuit_of d = c.in_ok-nets.ensures ∙ rw (c.deref-3.ensures.value, c.deref-4.ensures.value) (circuit_is d found is_named c.self.invariant) in
    let cycles : option_map (λ at. fault at Cycle) c.in_ok-order.on_cycle ≡ cycle_fault d = ap (λ o. option_map (λ at. fault at Cycle) o) (c.in_ok-order.ensures.cycle ∙ rw (made, c.deref-5.ensures.value) refl) in
    let p = err_from_is_err_and c.from_residual-in_err-without_cycle.result c.from_residual-in_err-without_cycle.ensures.1 in
    rw (p.1, p.2) (ap finish_fault (sym c.self.view_is) ∙ (finish_fault-defined d none ∙ (sym cycles ∙ sym c.in_err-without_cycle.ensures.fault)))

pub returns-clause-circuit : goal.returns-clause-circuit
returns-clause-circuit c =
    let d : Draft = drafted c.self.inside.calls c.self.inside.inputs.items c.self.inside.gates.items c.self.inside.outputs.items in
    let found : List ℕ → Option Source = get_by_text c.self.inside.sources in
    let is_named : List ℕ → Bool = contains_text c.self.inside.named in
    let made : c.in_ok-nets.nets ≡ circuit_of d = c.in_ok-nets.ensures ∙ rw (c.deref-3.ensures.value, c.deref-4.ensures.value) (circuit_is d found is_named c.self.invariant) in
    c.in_ok-without_cycle.ensures.circuit ∙ (made ∙ ap circuit_of c.self.view_is)

pub returns-clause-fault : goal.returns-clause-fault
returns-clause-fault c =
    let d : Draft = drafted c.self.inside.calls c.self.inside.inputs.items c.self.inside.gates.items c.self.inside.outputs.items in
    let found : List ℕ → Option Source = get_by_text c.self.inside.sources in
    let is_named : List ℕ → Bool = contains_text c.self.inside.named in
    let calls : c.first_unknown.result ≡ least (undefined_calls d) = rw (c.first_unknown.ensures, c.deref.ensures.value, c.deref-2.ensures.value) (unknown-least found c.self.inside.gates.items c.self.inside.outputs.items ∙ undefined_is d found is_named c.self.invariant) in
    let none : least (undefined_calls d) ≡ None = sym calls ∙ c.in_default.is in
    let made : c.in_ok-nets.nets ≡ circuit_of d = c.in_ok-nets.ensures ∙ rw (c.deref-3.ensures.value, c.deref-4.ensures.value) (circuit_is d found is_named c.self.invariant) in
    let cycles : option_map (λ at. fault at Cycle) c.in_ok-order.on_cycle ≡ cycle_fault d = ap (λ o. option_map (λ at. fault at Cycle) o) (c.in_ok-order.ensures.cycle ∙ rw (made, c.deref-5.ensures.value) refl) in
    ap finish_fault (sym c.self.view_is) ∙ (finish_fault-defined d none ∙ (sym cycles ∙ sym c.in_ok-without_cycle.ensures.fault))
