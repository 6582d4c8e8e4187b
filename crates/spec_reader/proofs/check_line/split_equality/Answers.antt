use Rattle.std.proofs.Common.{◌+◌, ◌∙◌, length, map, take, drop, sym, ap, arith}
use Rattle.std.specs.List.{position_or_len}
use Rattle.std.proofs.lemmas.List.{take_rest, drop_all}
use Rattle.spec_grammar.specs.Forms.{is_equality}
use Rattle.spec_reader.specs.Views.{seen_symbol}
use Rattle.spec_reader.proofs.CheckLines.{before-map, after-map, place_is}
use Rattle.texts.proofs.Places.{none_at_length}
use Rattle.spec_reader.proofs.check_line.split_equality.Goals as goal

pub returns-in-Some-clause-left : goal.returns-in-Some-clause-left
returns-in-Some-clause-left c =
    let xs = c.args.symbols.now in
    let at = place_is (λ s. is_equality (seen_symbol s)) xs c.in-Some.at (sym c.place_of_equality.ensures ∙ c.in-Some.is) in
    ap (λ n. map seen_symbol (take n xs)) (sym at) ∙ sym (before-map is_equality seen_symbol xs)

pub returns-in-Some-clause-right : goal.returns-in-Some-clause-right
returns-in-Some-clause-right c =
    let xs = c.args.symbols.now in
    let at = place_is (λ s. is_equality (seen_symbol s)) xs c.in-Some.at (sym c.place_of_equality.ensures ∙ c.in-Some.is) in
    ap (map seen_symbol) (take_rest xs (c.in-Some.at + 1)) ∙ ap (λ n. map seen_symbol (drop (n + 1) xs)) (sym at) ∙ sym (after-map is_equality seen_symbol xs)

pub returns-in-None-clause-left : goal.returns-in-None-clause-left
returns-in-None-clause-left c =
    let xs = c.args.symbols.now in
    let end = none_at_length (λ s. is_equality (seen_symbol s)) xs (sym c.place_of_equality.ensures ∙ c.in-None.is) in
    ap (map seen_symbol) c.split_at.ensures.front ∙ ap (λ n. map seen_symbol (take n xs)) end ∙ sym (before-map is_equality seen_symbol xs)

pub returns-in-None-clause-right : goal.returns-in-None-clause-right
returns-in-None-clause-right c =
    let xs = c.args.symbols.now in
    let end = none_at_length (λ s. is_equality (seen_symbol s)) xs (sym c.place_of_equality.ensures ∙ c.in-None.is) in
    ap (map seen_symbol) (c.split_at.ensures.back ∙ drop_all (length xs) xs (omega arith) ∙ sym (drop_all (position_or_len (λ s. is_equality (seen_symbol s)) xs + 1) xs (omega arith))) ∙ sym (after-map is_equality seen_symbol xs)
