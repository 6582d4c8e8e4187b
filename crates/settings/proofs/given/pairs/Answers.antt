use Rattle.std.proofs.Common.{◌∙◌, length, drop, sym, ap, Some}
use Rattle.std.specs.Option.{option_and_then}
use Rattle.settings.proofs.PairLaws.{behind, takes_pair, takes_last}
use Rattle.settings.specs.Pairs.{pairs}
use Rattle.settings.specs.Words.{texts}
use Rattle.settings.proofs.given.pairs.Goals as goal

pub loop-rest-preserved : goal.loop-rest-preserved
loop-rest-preserved c =
    let rest = c.loop-rest.rest.now in
    ap (λ r. pairs c.in_ok-given.given (texts r)) (behind 2 rest)
    ∙ ap (option_and_then (λ g. pairs g (texts (drop 2 rest)))) (sym c.in_ok-given.was ∙ c.with_pair.ensures)
    ∙ sym (takes_pair c.loop-rest.given rest _ c.loop-rest-test.true)
    ∙ c.loop-rest.invariant

pub returns : goal.returns
returns c = sym (takes_last c.loop-rest.given c.loop-rest.rest.now c.loop-rest-test.false) ∙ c.loop-rest.invariant
