use Rattle.std.proofs.Common.{◌≡◌, ◌∙◌, sym, ap, subst, length, map, string_bytes}
use Rattle.std.specs.HashMap.{get_by_text}
use Rattle.netlist.proofs.Vecs.{vec_len-map}
use Rattle.netlist.specs.Draft.{OutputLine}
use Rattle.netlist.specs.Finish.{numbered_by}
use Rattle.netlist.specs.Inside.LookUp.{circuit_in, number_in}
use Rattle.netlist.specs.Inside.Kept.{circuit_kept, net_gate_kept}
use Rattle.netlist.specs.Inside.Maker.{drafted, gate_kept, output_kept}
use Rattle.circuits.specs.Sound.{IsSound}
use Rattle.netlist.proofs.finish.nets_of.Goals as goal

pub invariant_of-result : goal.invariant_of-result
invariant_of-result c =
    let same : c.len-count.result ≡ length (map string_bytes c.args.inputs.items) = c.len-count.ensures ∙ vec_len-map string_bytes c.args.inputs in
    let gates : map net_gate_kept c.in_ok-gates.gates.items ≡ map (numbered_by (number_in (length (map string_bytes c.args.inputs.items)) (get_by_text c.args.sources.now))) (map gate_kept c.args.gates.now) =
    c.in_ok-gates.ensures ∙ ap (λ n. map (numbered_by (number_in n (get_by_text c.args.sources.now))) (map gate_kept c.args.gates.now)) same
    in
    let outputs : c.in_ok-outputs.outputs.items ≡ map (λ (line : OutputLine). number_in (length (map string_bytes c.args.inputs.items)) (get_by_text c.args.sources.now) line.name) (map output_kept c.args.outputs.now) =
    c.in_ok-outputs.ensures ∙ ap (λ n. map (λ (line : OutputLine). number_in n (get_by_text c.args.sources.now) line.name) (map output_kept c.args.outputs.now)) same
    in
    let e : circuit_kept c.args.inputs.items c.in_ok-gates.gates.items c.in_ok-outputs.outputs.items ≡ circuit_in (drafted 0 c.args.inputs.items c.args.gates.now c.args.outputs.now) (get_by_text c.args.sources.now) = cc in
    subst IsSound (sym e) c.requires.sound
