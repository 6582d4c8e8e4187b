use Rattle.std.proofs.Common.{◌∙◌, sym, ap}
use Rattle.settings.proofs.Numbers.{parsed}
use Rattle.settings.specs.Numbers.{is_number}
use Rattle.settings.proofs.number.number_of.Goals as goal

pub returns-then-is_number : goal.returns-then-is_number
returns-then-is_number c =
    let numeral = ap is_number (sym c.as_bytes.ensures.value) ∙ sym c.if-is_number.ensures in
    c.ok.ensures.value ∙ parsed c.args.word.now c.parse.result c.parse.ensures.value.0 numeral
