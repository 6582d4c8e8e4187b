use Rattle.std.proofs.Common.{◌≡◌, ◌+◌, ◌<◌, ◌∙◌, ℕ, Bool, true, false, not, sym, ap, Some, slice_get, map, arith, refl}
use Rattle.std.proofs.lemmas.Bool.{false≢true}
use Rattle.std.proofs.lemmas.Option.{slice_get-get_or, slice_get-map}
use Rattle.std.specs.Option.{option_map}
use Rattle.netlist.proofs.LeastCalls.{cycles_more, earliest-none}
use Rattle.circuits.specs.Circuit.{input_count, net_count}
use Rattle.circuits.specs.Cone.{reaches_itself}
use Rattle.netlist.specs.Inside.LookUp.{earliest}
use Rattle.netlist.specs.Inside.Maker.{gate_kept}
use Rattle.circuits.specs.Valuation.{bit_of}
use Rattle.netlist.proofs.cycle.first_on_cycle.Goals.{then-not-alone-inputs, else-not-alone-inputs}
use Rattle.netlist.proofs.cycle.first_on_cycle.Goals as goal

is-from_not : (a b : Bool) → a ≡ not b → a ≡ false → b ≡ true
is-from_not a true e off = refl
is-from_not a false e off = absurd (false≢true (sym off ∙ e))

is_not-from_not : (a b : Bool) → a ≡ not b → a ≡ true → b ≡ false
is_not-from_not a true e on = absurd (false≢true (sym e ∙ on))
is_not-from_not a false e on = refl

pub loop-place-preserved : goal.loop-place-preserved
loop-place-preserved c =
    let at : slice_get (map gate_kept c.args.gates.now) c.loop-place.place ≡ Some (gate_kept c.index-gates-place.result) =
    slice_get-map gate_kept c.args.gates.now c.loop-place.place ∙ ap (λ o. option_map gate_kept o) (slice_get-get_or c.args.gates.now c.loop-place.place c.index-gates-place.result c.loop-place-test.true ∙ ap Some (sym c.index-gates-place.is))
    in
    let net : ℕ = input_count c.args.nets.now + c.loop-place.place in
    let low : net < net_count c.args.nets.now = omega (arith, c.requires.lines, c.loop-place-test.true) in
    let mark : bit_of c.args.alone.now (c.inputs-inputs.result + c.loop-place.place) ≡ not (reaches_itself c.args.nets.now net) = rw c.inputs-inputs.ensures.inputs (c.requires.marks net low) in
    let step = cycles_more (reaches_itself c.args.nets.now) (input_count c.args.nets.now) (map gate_kept c.args.gates.now) c.loop-place.place (gate_kept c.index-gates-place.result) in
    elim c.if-not-alone-inputs.branch [
      | then-not-alone-inputs w ↦ w.first-is ∙ (w.earliest-first.ensures ∙ (ap (λ o. earliest o (Some c.index-gates-place.result.call)) c.loop-place.invariant ∙ sym (step true at (is-from_not _ _ mark w.if-not-alone-inputs.true))))
      | else-not-alone-inputs w ↦ w.first-is ∙ (c.loop-place.invariant ∙ sym (step false at (is_not-from_not _ _ mark w.if-not-alone-inputs.false) ∙ earliest-none _))
    ]
