use Rattle.std.proofs.Common.{◌∙◌, ◌+◌, map, true, false, sym, ap, option_map, is_some, refl}
use Rattle.std.specs.List.{list_all, before_first, after_first, position_or_len}
use Rattle.spec_grammar.specs.Forms.{is_equality}
use Rattle.spec_grammar.specs.Parsing.{parsed}
use Rattle.spec_grammar.specs.Trees.{nesting}
use Rattle.spec_reader.specs.Good.{is_good}
use Rattle.spec_reader.specs.Steps.{sides_said}
use Rattle.spec_reader.specs.Views.{seen_symbol}
use Rattle.spec_reader.proofs.CheckLines.{no_left, no_right, has_sides, check-told, all_good, front_good, back_good}
use Rattle.spec_reader.proofs.check_line.check_of.Goals as goal

pub returns-in_default : goal.returns-in_default
returns-in_default c =
    let line = map seen_symbol c.args.symbols.now in
    let a = parsed (before_first is_equality line) in
    let b = parsed (after_first is_equality line) in
    let w = c.args.words.now in
    no_left w c.args.checks line a b (sym c.in_default.is ∙ c.in_ok-left_nesting.ensures ∙ (ap (λ l. option_map nesting (parsed l)) c.split_equality.ensures.left))

pub returns-in_default-2 : goal.returns-in_default-2
returns-in_default-2 c =
    let line = map seen_symbol c.args.symbols.now in
    let a = parsed (before_first is_equality line) in
    let b = parsed (after_first is_equality line) in
    let w = c.args.words.now in
    no_right w c.args.checks line a b (sym c.in_default-2.is ∙ c.in_ok-right_nesting.ensures ∙ (ap (λ l. option_map nesting (parsed l)) c.split_equality.ensures.right))

pub returns-then-is_too_large : goal.returns-then-is_too_large
returns-then-is_too_large c =
    let line = map seen_symbol c.args.symbols.now in
    let a = parsed (before_first is_equality line) in
    let b = parsed (after_first is_equality line) in
    let w = c.args.words.now in
    let sides = has_sides w c.args.checks line a b c.in-Some.left_nesting c.in-Some-2.right_nesting
    (sym c.in-Some.is ∙ c.in_ok-left_nesting.ensures ∙ (ap (λ l. option_map nesting (parsed l)) c.split_equality.ensures.left)) (sym c.in-Some-2.is ∙ c.in_ok-right_nesting.ensures ∙ (ap (λ l. option_map nesting (parsed l)) c.split_equality.ensures.right)) in
    sides.fault ∙ check-told w c.args.checks line c.in-Some.left_nesting c.in-Some-2.right_nesting true _ _ (sym c.is_too_large.ensures ∙ c.if-is_too_large.true) refl refl

pub returns-then-has_great_number : goal.returns-then-has_great_number
returns-then-has_great_number c =
    let line = map seen_symbol c.args.symbols.now in
    let a = parsed (before_first is_equality line) in
    let b = parsed (after_first is_equality line) in
    let w = c.args.words.now in
    let sides = has_sides w c.args.checks line a b c.in-Some.left_nesting c.in-Some-2.right_nesting
    (sym c.in-Some.is ∙ c.in_ok-left_nesting.ensures ∙ (ap (λ l. option_map nesting (parsed l)) c.split_equality.ensures.left)) (sym c.in-Some-2.is ∙ c.in_ok-right_nesting.ensures ∙ (ap (λ l. option_map nesting (parsed l)) c.split_equality.ensures.right)) in
    sides.fault ∙ check-told w c.args.checks line c.in-Some.left_nesting c.in-Some-2.right_nesting false true _ (sym c.is_too_large.ensures ∙ c.if-is_too_large.false) (sym c.has_great_number.ensures ∙ c.if-has_great_number.true) refl

pub returns-then-has_unknown_name : goal.returns-then-has_unknown_name
returns-then-has_unknown_name c =
    let line = map seen_symbol c.args.symbols.now in
    let a = parsed (before_first is_equality line) in
    let b = parsed (after_first is_equality line) in
    let w = c.args.words.now in
    let sides = has_sides w c.args.checks line a b c.in-Some.left_nesting c.in-Some-2.right_nesting
    (sym c.in-Some.is ∙ c.in_ok-left_nesting.ensures ∙ (ap (λ l. option_map nesting (parsed l)) c.split_equality.ensures.left)) (sym c.in-Some-2.is ∙ c.in_ok-right_nesting.ensures ∙ (ap (λ l. option_map nesting (parsed l)) c.split_equality.ensures.right)) in
    sides.fault ∙ check-told w c.args.checks line c.in-Some.left_nesting c.in-Some-2.right_nesting false false true (sym c.is_too_large.ensures ∙ c.if-is_too_large.false) (sym c.has_great_number.ensures ∙ c.if-has_great_number.false) (sym c.has_unknown_name.ensures ∙ c.if-has_unknown_name.true)

pub sides-requires-clause-left : goal.sides-requires-clause-left
sides-requires-clause-left c =
    let line = map seen_symbol c.args.symbols.now in
    let a = parsed (before_first is_equality line) in
    let b = parsed (after_first is_equality line) in
    let w = c.args.words.now in
    let sides = has_sides w c.args.checks line a b c.in-Some.left_nesting c.in-Some-2.right_nesting
    (sym c.in-Some.is ∙ c.in_ok-left_nesting.ensures ∙ (ap (λ l. option_map nesting (parsed l)) c.split_equality.ensures.left)) (sym c.in-Some-2.is ∙ c.in_ok-right_nesting.ensures ∙ (ap (λ l. option_map nesting (parsed l)) c.split_equality.ensures.right)) in
    ap (λ l. is_some (parsed l)) c.split_equality.ensures.left ∙ sides.left_some

pub sides-requires-clause-right : goal.sides-requires-clause-right
sides-requires-clause-right c =
    let line = map seen_symbol c.args.symbols.now in
    let a = parsed (before_first is_equality line) in
    let b = parsed (after_first is_equality line) in
    let w = c.args.words.now in
    let sides = has_sides w c.args.checks line a b c.in-Some.left_nesting c.in-Some-2.right_nesting
    (sym c.in-Some.is ∙ c.in_ok-left_nesting.ensures ∙ (ap (λ l. option_map nesting (parsed l)) c.split_equality.ensures.left)) (sym c.in-Some-2.is ∙ c.in_ok-right_nesting.ensures ∙ (ap (λ l. option_map nesting (parsed l)) c.split_equality.ensures.right)) in
    ap (λ l. is_some (parsed l)) c.split_equality.ensures.right ∙ sides.right_some

pub sides-requires-clause-left_good : goal.sides-requires-clause-left_good
sides-requires-clause-left_good c =
    let line = map seen_symbol c.args.symbols.now in
    let w = c.args.words.now in
    let good = all_good w line c.requires.digits (sym c.has_great_number.ensures ∙ c.if-has_great_number.false) (sym c.has_unknown_name.ensures ∙ c.if-has_unknown_name.false) in
    ap (list_all (is_good w)) c.split_equality.ensures.left ∙ front_good (is_good w) (position_or_len is_equality line) line good

pub sides-requires-clause-right_good : goal.sides-requires-clause-right_good
sides-requires-clause-right_good c =
    let line = map seen_symbol c.args.symbols.now in
    let w = c.args.words.now in
    let good = all_good w line c.requires.digits (sym c.has_great_number.ensures ∙ c.if-has_great_number.false) (sym c.has_unknown_name.ensures ∙ c.if-has_unknown_name.false) in
    ap (list_all (is_good w)) c.split_equality.ensures.right ∙ back_good (is_good w) (position_or_len is_equality line + 1) line good

pub returns : goal.returns
returns c =
    let line = map seen_symbol c.args.symbols.now in
    let a = parsed (before_first is_equality line) in
    let b = parsed (after_first is_equality line) in
    let w = c.args.words.now in
    let sides = has_sides w c.args.checks line a b c.in-Some.left_nesting c.in-Some-2.right_nesting
    (sym c.in-Some.is ∙ c.in_ok-left_nesting.ensures ∙ (ap (λ l. option_map nesting (parsed l)) c.split_equality.ensures.left)) (sym c.in-Some-2.is ∙ c.in_ok-right_nesting.ensures ∙ (ap (λ l. option_map nesting (parsed l)) c.split_equality.ensures.right)) in (
      sides.fault ∙ check-told w c.args.checks line c.in-Some.left_nesting c.in-Some-2.right_nesting false false false (sym c.is_too_large.ensures ∙ c.if-is_too_large.false) (sym c.has_great_number.ensures ∙ c.if-has_great_number.false) (sym c.has_unknown_name.ensures ∙ c.if-has_unknown_name.false),
      sides.said ∙ ap (λ l. sides_said w (parsed l) b) (sym c.split_equality.ensures.left) ∙ ap (λ l. sides_said w (parsed (map seen_symbol c.split_equality.result.0.now)) (parsed l)) (sym c.split_equality.ensures.right) ∙ c.in_ok-sides.ensures,
    )
