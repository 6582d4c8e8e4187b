use Rattle.std.proofs.Common.{◌≡◌, ◌∙◌, sym, ap, length}
use Rattle.circuits.proofs.Rounds.{valuation-only}
use Rattle.netlist.proofs.Counts.{refilled}
use Rattle.circuits.specs.Valuation.{bit_of}
use Rattle.netlist.proofs.values.values_of.Goals as goal

pub returns : goal.returns
returns c =
    let before : c.deref_mut.result.now ≡ c.in_ok-values.values.items = c.deref_mut.ensures.value in
    let same : length c.settle.new.values ≡ length c.in_ok-values.values.items = c.settle.ensures.length ∙ sym (c.in_ok-values.ensures.length ∙ c.count.ensures.count) in
    rw (refilled c.settle.new.values c.in_ok-values.values.items c.in_ok-values.values.len (c.in_ok-values.values.ok.0 ∙ sym same))
    (valuation-only c.args.nets.now c.args.bits.now c.requires.bits c.requires.accepted c.settle.new.values (record {
      one_each = c.settle.ensures.length;
      inputs = λ net low. c.settle.ensures.inputs net low ∙ (ap (λ xs. bit_of xs net) before ∙ c.in_ok-values.ensures.bits net (rw c.requires.bits low));
      gates = c.settle.ensures.gates;
    }))
