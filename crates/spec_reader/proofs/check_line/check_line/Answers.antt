use Rattle.std.proofs.Common.{◌≡◌, ◌∙◌, map, ap, subst, Some}
use Rattle.std.specs.List.{list_all}
use Rattle.spec_reader.specs.Good.{has_digits}
use Rattle.spec_reader.specs.Views.{seen_symbol}
use Rattle.spec_grammar.specs.Forms.{check_form}
use Rattle.spec_reader.specs.Steps.{Tells, check_fault, check_said}
use Rattle.spec_reader.proofs.SoundSymbols.{symbols_sound}
use Rattle.spec_reader.proofs.check_line.check_line.Goals as goal

pub check_of-requires-clause-digits : goal.check_of-requires-clause-digits
check_of-requires-clause-digits c =
    ap (λ xs. list_all has_digits (map seen_symbol xs)) c.deref.ensures.value ∙ ap (list_all has_digits) c.in_ok-symbols.ensures ∙ symbols_sound c.args.text.now

pub returns : goal.returns
returns c =
    let same = ap (map seen_symbol) c.deref.ensures.value ∙ c.in_ok-symbols.ensures in
    subst (λ line. Tells c.check_of.result (check_fault c.args.words.now c.args.checks (check_form line)) (λ check. check_said c.args.words.now (check_form line) ≡ Some check)) same c.check_of.ensures
