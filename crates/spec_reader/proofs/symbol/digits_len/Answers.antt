use Rattle.std.proofs.Common.{sym, ◌∙◌}
use Rattle.texts.proofs.Places.{none_at_length}
use Rattle.spec_reader.proofs.symbol.digits_len.Goals as goal

pub returns-in-None-clause-exact : goal.returns-in-None-clause-exact
returns-in-None-clause-exact c = none_at_length _ c.args.text.now (sym c.end_of_digits.ensures ∙ c.in-None.is)
