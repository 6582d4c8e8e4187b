use Rattle.std.proofs.Common.{◌≡◌, ◌∙◌, true, false, map, length, sym, ap, Some, option_map, get_or, arith, [], refl, nat_lt, nat_le, ◌||◌}
use Rattle.std.specs.List.{list_any}
use Rattle.std.proofs.lemmas.Bool.{and_parts, or_parts, ltb-false}
use Rattle.std.proofs.lemmas.List.{get_or-map, length-map}
use Rattle.circuits.specs.Limits.{is_long}
use Rattle.spec_grammar.specs.Faults.{numbers, has_unknown}
use Rattle.spec_grammar.specs.Forms.{are_nets}
use Rattle.spec_grammar.proofs.Good.{length-numbers}
use Rattle.spec_lang.specs.Specification.{named_word}
use Rattle.spec_lang.specs.declared.limits.TheConstants.{MOST_WORDS, MOST_NETS_OF_WORD}
use Rattle.spec_reader.specs.Steps.{has_some}
use Rattle.spec_reader.proofs.LineFaults.{word-names, word-unnamed, word-bad, word-large, word-duplicate, word-nets, word-said, unknown_if, known_if, some_length}
use Rattle.spec_reader.proofs.net_lines.word_of.Goals as goal

pub returns-then-names-ne1 : goal.returns-then-names-ne1
returns-then-names-ne1 c =
    word-names c.args.netlist.now c.args.words.now (map (λ name. name.now) c.args.names.now) (map (λ net. net.now) c.args.nets.now)
    (λ one. c.if-names-ne1.true (sym (length-map c.args.names.now (λ name. name.now)) ∙ one))

pub returns-then-not-is_word_name : goal.returns-then-not-is_word_name
returns-then-not-is_word_name c =
    let nets = map (λ net. net.now) c.args.nets.now in
    let names = map (λ name. name.now) c.args.names.now in
    let n = c.args.netlist.now in
    let one : length names ≡ 1 = length-map c.args.names.now (λ name. name.now) ∙ c.if-names-ne1.false in
    let at = get_or-map (λ name. name.now) c.args.names.now 0 _ [] (omega (arith, c.if-names-ne1.false)) in
    word-unnamed n c.args.words.now names nets _ one at (sym c.is_word_name.ensures ∙ c.if-not-is_word_name.true)

pub returns-then-not-is_net_list : goal.returns-then-not-is_net_list
returns-then-not-is_net_list c =
    let nets = map (λ net. net.now) c.args.nets.now in
    let names = map (λ name. name.now) c.args.names.now in
    let n = c.args.netlist.now in
    let one : length names ≡ 1 = length-map c.args.names.now (λ name. name.now) ∙ c.if-names-ne1.false in
    word-bad n c.args.words.now names nets (get_or names 0 []) one refl (sym c.is_net_list.ensures ∙ c.if-not-is_net_list.true)

pub returns-then-is_too_large : goal.returns-then-is_too_large
returns-then-is_too_large c =
    let nets = map (λ net. net.now) c.args.nets.now in
    let names = map (λ name. name.now) c.args.names.now in
    let n = c.args.netlist.now in
    let one : length names ≡ 1 = length-map c.args.names.now (λ name. name.now) ∙ c.if-names-ne1.false in
    let at = get_or-map (λ name. name.now) c.args.names.now 0 _ [] (omega (arith, c.if-names-ne1.false)) in
    word-large n c.args.words.now names nets _ one at (sym c.is_word_name.ensures ∙ c.if-not-is_word_name.false) (sym c.is_net_list.ensures ∙ c.if-not-is_net_list.false) (sym c.is_too_large.ensures ∙ c.if-is_too_large.true)

pub returns-then-is_word : goal.returns-then-is_word
returns-then-is_word c =
    let nets = map (λ net. net.now) c.args.nets.now in
    let names = map (λ name. name.now) c.args.names.now in
    let n = c.args.netlist.now in
    let one : length names ≡ 1 = length-map c.args.names.now (λ name. name.now) ∙ c.if-names-ne1.false in
    let at = get_or-map (λ name. name.now) c.args.names.now 0 _ [] (omega (arith, c.if-names-ne1.false)) in
    word-duplicate n c.args.words.now names nets _ one at (sym c.is_word_name.ensures ∙ c.if-not-is_word_name.false) (sym c.is_net_list.ensures ∙ c.if-not-is_net_list.false) (sym c.is_too_large.ensures ∙ c.if-is_too_large.false) (sym c.is_word.ensures ∙ c.if-is_word.true)

pub net_numbers-requires : goal.net_numbers-requires
net_numbers-requires c =
    let nets = map (λ net. net.now) c.args.nets.now in
    (and_parts (has_some nets) (are_nets nets) (sym c.is_net_list.ensures ∙ c.if-not-is_net_list.false)).1

pub returns-in_default : goal.returns-in_default
returns-in_default c =
    let nets = map (λ net. net.now) c.args.nets.now in
    let names = map (λ name. name.now) c.args.names.now in
    let n = c.args.netlist.now in
    let one : length names ≡ 1 = length-map c.args.names.now (λ name. name.now) ∙ c.if-names-ne1.false in
    let at = get_or-map (λ name. name.now) c.args.names.now 0 _ [] (omega (arith, c.if-names-ne1.false)) in
    word-nets n c.args.words.now names nets _ one at (sym c.is_word_name.ensures ∙ c.if-not-is_word_name.false) (sym c.is_net_list.ensures ∙ c.if-not-is_net_list.false) (sym c.is_too_large.ensures ∙ c.if-is_too_large.false) (sym c.is_word.ensures ∙ c.if-is_word.false) true
    (unknown_if (has_unknown n nets) (numbers n nets) (sym (ap (option_map (λ numbers. numbers.items)) c.in_default.is) ∙ c.in_ok-numbers.ensures))

pub made_word-requires-clause-name : goal.made_word-requires-clause-name
made_word-requires-clause-name c =
    sym c.is_word_name.ensures ∙ c.if-not-is_word_name.false

pub made_word-requires-clause-sized : goal.made_word-requires-clause-sized
made_word-requires-clause-sized c =
    let nets = map (λ net. net.now) c.args.nets.now in
    let n = c.args.netlist.now in
    let known = known_if (has_unknown n nets) (numbers n nets) c.in-Some.numbers.items (sym (ap (option_map (λ numbers. numbers.items)) c.in-Some.is) ∙ c.in_ok-numbers.ensures) in
    let large = or_parts (is_long _ || list_any is_long nets || nat_lt MOST_NETS_OF_WORD (length nets)) (nat_le MOST_WORDS (length c.args.words.now)) (sym c.is_too_large.ensures ∙ c.if-is_too_large.false) in
    let few = ltb-false MOST_NETS_OF_WORD (length nets) (or_parts (is_long _ || list_any is_long nets) (nat_lt MOST_NETS_OF_WORD (length nets)) large.0).1 in
    let some = some_length nets (and_parts (has_some nets) (are_nets nets) (sym c.is_net_list.ensures ∙ c.if-not-is_net_list.false)).0 in
    let len = ap length known.1 ∙ length-numbers n nets known.0 in
    record { some = omega arith; few = omega arith }

pub returns : goal.returns
returns c =
    let nets = map (λ net. net.now) c.args.nets.now in
    let names = map (λ name. name.now) c.args.names.now in
    let n = c.args.netlist.now in
    let one : length names ≡ 1 = length-map c.args.names.now (λ name. name.now) ∙ c.if-names-ne1.false in
    let at = get_or-map (λ name. name.now) c.args.names.now 0 _ [] (omega (arith, c.if-names-ne1.false)) in
    let known = known_if (has_unknown n nets) (numbers n nets) c.in-Some.numbers.items (sym (ap (option_map (λ numbers. numbers.items)) c.in-Some.is) ∙ c.in_ok-numbers.ensures) in (
      word-nets n c.args.words.now names nets _ one at (sym c.is_word_name.ensures ∙ c.if-not-is_word_name.false) (sym c.is_net_list.ensures ∙ c.if-not-is_net_list.false) (sym c.is_too_large.ensures ∙ c.if-is_too_large.false) (sym c.is_word.ensures ∙ c.if-is_word.false) false known.0,
      ap Some (c.in_ok-made_word.ensures ∙ ap (named_word _) known.1) ∙ sym (word-said n c.args.words.now names nets _ one at (sym c.is_word_name.ensures ∙ c.if-not-is_word_name.false) (sym c.is_net_list.ensures ∙ c.if-not-is_net_list.false)),
    )
