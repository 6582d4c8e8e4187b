use Rattle.std.proofs.Common.{◌≡◌, ◌∙◌, length, nat_lt}
use Rattle.std.specs.Char.{is_ascii_digit}
use Rattle.std.specs.Int.{w128}
use Rattle.std.specs.List.{list_all}
use Rattle.std.specs.Str.Parse.{digits_value}
use Rattle.std.proofs.lemmas.Bool.{and_parts, ltb-true}
use Rattle.std.proofs.lemmas.Str.Parse.{parse_signed_digits}
use Rattle.spec_reader.proofs.Numbers.{digits_are_numerals, digits_are_utf8, ok_below}
use Rattle.texts.proofs.NameLemmas.{ok_since}
use Rattle.spec_reader.proofs.atom.value_of.Goals as goal

pub unwrap-requires : goal.unwrap-requires
unwrap-requires c =
    let parts = and_parts (nat_lt 0 (length c.args.digits.now)) (list_all is_ascii_digit c.args.digits.now) c.requires in
    ok_since c.from_utf8.result _ _ c.from_utf8.ensures.cases (λ e h. h.0 (digits_are_utf8 c.args.digits.now parts.1))

pub returns : goal.returns
returns c =
    let parts = and_parts (nat_lt 0 (length c.args.digits.now)) (list_all is_ascii_digit c.args.digits.now) c.requires in
    let same : c.unwrap.result.now ≡ c.args.digits.now = (rw c.unwrap.ensures at c.from_utf8.ensures.cases).0 in
    let parses = rw same at c.parse.ensures.value.0 in
    c.ok.ensures.value ∙ ok_below c.parse.result (digits_value 10 c.args.digits.now) (length c.args.digits.now) (ltb-true 0 (length c.args.digits.now) parts.0)
    (parse_signed_digits digits_are_numerals w128 c.args.digits.now c.parse.result parses parts.1)
