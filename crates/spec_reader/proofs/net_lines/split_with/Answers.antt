use Rattle.std.proofs.Common.{◌∙◌, true, false, not, map, sym, ap, Some, option_map, refl}
use Rattle.std.proofs.lemmas.Bool.{and_parts}
use Rattle.spec_grammar.specs.Faults.{numbers, has_unknown, is_no_split}
use Rattle.spec_grammar.specs.Forms.{are_nets}
use Rattle.spec_grammar.specs.Names.{letter}
use Rattle.spec_reader.specs.Steps.{has_some}
use Rattle.spec_reader.proofs.LineFaults.{split-unnamed, split-bad, split-long, split-unknown, split-told, split-said, unknown_if, known_if}
use Rattle.spec_reader.proofs.net_lines.split_with.Goals as goal

pub returns-in_default : goal.returns-in_default
returns-in_default c =
    let nets = map (λ net. net.now) c.args.nets.now in
    let n = c.args.netlist.now in
    split-unnamed n c.args.kind c.args.letters.now (letter c.args.text.now) nets (sym c.letter_of.ensures ∙ c.in_default.is)

pub returns-then-not-is_net_list : goal.returns-then-not-is_net_list
returns-then-not-is_net_list c =
    let nets = map (λ net. net.now) c.args.nets.now in
    let n = c.args.netlist.now in
    split-bad n c.args.kind c.args.letters.now (letter c.args.text.now) nets (sym c.is_net_list.ensures ∙ c.if-not-is_net_list.true)

pub returns-then-has_long_name : goal.returns-then-has_long_name
returns-then-has_long_name c =
    let nets = map (λ net. net.now) c.args.nets.now in
    let n = c.args.netlist.now in
    split-long n c.args.kind c.args.letters.now (letter c.args.text.now) nets c.in-Some.letter (sym c.letter_of.ensures ∙ c.in-Some.is) (sym c.is_net_list.ensures ∙ c.if-not-is_net_list.false) (sym c.has_long_name.ensures ∙ c.if-has_long_name.true)

pub net_numbers-requires : goal.net_numbers-requires
net_numbers-requires c =
    let nets = map (λ net. net.now) c.args.nets.now in
    (and_parts (has_some nets) (are_nets nets) (sym c.is_net_list.ensures ∙ c.if-not-is_net_list.false)).1

pub returns-in_default-2 : goal.returns-in_default-2
returns-in_default-2 c =
    let nets = map (λ net. net.now) c.args.nets.now in
    let n = c.args.netlist.now in
    split-unknown n c.args.kind c.args.letters.now (letter c.args.text.now) nets c.in-Some.letter (sym c.letter_of.ensures ∙ c.in-Some.is) (sym c.is_net_list.ensures ∙ c.if-not-is_net_list.false) (sym c.has_long_name.ensures ∙ c.if-has_long_name.false)
    (unknown_if (has_unknown n nets) (numbers n nets) (sym (ap (option_map (λ numbers. numbers.items)) c.in_default-2.is) ∙ c.in_ok-numbers.ensures))

pub returns-then-is_no_split : goal.returns-then-is_no_split
returns-then-is_no_split c =
    let nets = map (λ net. net.now) c.args.nets.now in
    let n = c.args.netlist.now in
    let known = known_if (has_unknown n nets) (numbers n nets) c.in-Some-2.numbers.items (sym (ap (option_map (λ numbers. numbers.items)) c.in-Some-2.is) ∙ c.in_ok-numbers.ensures) in
    split-told n c.args.kind c.args.letters.now (letter c.args.text.now) nets c.in-Some.letter (sym c.letter_of.ensures ∙ c.in-Some.is) (sym c.is_net_list.ensures ∙ c.if-not-is_net_list.false) (sym c.has_long_name.ensures ∙ c.if-has_long_name.false) known.0 true _
    (ap (λ i. is_no_split i c.args.letters.now (numbers n nets)) (sym c.inputs.ensures.inputs)
    ∙ ap (is_no_split c.inputs.result c.args.letters.now) (sym (c.deref.ensures.value ∙ known.1))
    ∙ sym c.is_no_split.ensures ∙ c.if-is_no_split.true)
    refl

pub returns-then-not-allows : goal.returns-then-not-allows
returns-then-not-allows c =
    let nets = map (λ net. net.now) c.args.nets.now in
    let n = c.args.netlist.now in
    let known = known_if (has_unknown n nets) (numbers n nets) c.in-Some-2.numbers.items (sym (ap (option_map (λ numbers. numbers.items)) c.in-Some-2.is) ∙ c.in_ok-numbers.ensures) in
    split-told n c.args.kind c.args.letters.now (letter c.args.text.now) nets c.in-Some.letter (sym c.letter_of.ensures ∙ c.in-Some.is) (sym c.is_net_list.ensures ∙ c.if-not-is_net_list.false) (sym c.has_long_name.ensures ∙ c.if-has_long_name.false) known.0 false true
    (ap (λ i. is_no_split i c.args.letters.now (numbers n nets)) (sym c.inputs.ensures.inputs)
    ∙ ap (is_no_split c.inputs.result c.args.letters.now) (sym (c.deref.ensures.value ∙ known.1))
    ∙ sym c.is_no_split.ensures ∙ c.if-is_no_split.false)
    (ap not (sym c.allows.ensures ∙ c.if-not-allows.true))

pub returns : goal.returns
returns c =
    let nets = map (λ net. net.now) c.args.nets.now in
    let n = c.args.netlist.now in
    let known = known_if (has_unknown n nets) (numbers n nets) c.in-Some-2.numbers.items (sym (ap (option_map (λ numbers. numbers.items)) c.in-Some-2.is) ∙ c.in_ok-numbers.ensures) in (
      split-told n c.args.kind c.args.letters.now (letter c.args.text.now) nets c.in-Some.letter (sym c.letter_of.ensures ∙ c.in-Some.is) (sym c.is_net_list.ensures ∙ c.if-not-is_net_list.false) (sym c.has_long_name.ensures ∙ c.if-has_long_name.false) known.0 false false
          (ap (λ i. is_no_split i c.args.letters.now (numbers n nets)) (sym c.inputs.ensures.inputs)
          ∙ ap (is_no_split c.inputs.result c.args.letters.now) (sym (c.deref.ensures.value ∙ known.1))
          ∙ sym c.is_no_split.ensures ∙ c.if-is_no_split.false)
          (ap not (sym c.allows.ensures ∙ c.if-not-allows.false)),
      ap (λ ns. Some (c.in-Some.letter, ns)) known.1 ∙ sym (split-said n c.args.kind c.args.letters.now (letter c.args.text.now) nets c.in-Some.letter (sym c.letter_of.ensures ∙ c.in-Some.is) (sym c.is_net_list.ensures ∙ c.if-not-is_net_list.false)),
    )
