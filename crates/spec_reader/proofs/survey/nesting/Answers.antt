use Rattle.std.proofs.Common.{◌∙◌, map, refl, sym, ap, option_map}
use Rattle.spec_reader.specs.Surveys.{surveyed_from, survey_step}
use Rattle.spec_reader.specs.Views.{seen_symbol, seen_survey}
use Rattle.spec_reader.proofs.Nesting.{surveyed-parsed, step_largest}
use Rattle.spec_reader.proofs.Runs.{runs_on, runs_out, runs_to_end}
use Rattle.spec_reader.proofs.survey.nesting.Goals as goal

pub returns-in-None : goal.returns-in-None
returns-in-None c =
    runs_out surveyed_from survey_step (λ s y ys. refl) seen_symbol c.args.symbols.now (seen_survey c.loop-symbol.survey) c.loop-symbol.symbol-index _ _ c.loop-symbol-test.true c.loop-symbol.invariant.rest
    (sym c.in_ok-next.ensures ∙ ap (option_map seen_survey) c.in-None.is)
    ∙ surveyed-parsed (map seen_symbol c.args.symbols.now)

pub loop-symbol-preserved : goal.loop-symbol-preserved
loop-symbol-preserved c =
    let found = sym c.in_ok-next.ensures ∙ ap (option_map seen_survey) c.in-Some.is in
    record {
      rest = runs_on surveyed_from survey_step (λ s y ys. refl) seen_symbol c.args.symbols.now (seen_survey c.loop-symbol.survey) (seen_survey c.in-Some.next) c.loop-symbol.symbol-index _ _ c.loop-symbol-test.true c.loop-symbol.invariant.rest found;
      small = step_largest (seen_survey c.loop-symbol.survey) _ (seen_survey c.in-Some.next) c.loop-symbol.symbol-index c.loop-symbol.invariant.small found;
    }

pub returns : goal.returns
returns c =
    c.whole.ensures
    ∙ runs_to_end surveyed_from survey_step (λ s y ys. refl) seen_symbol c.args.symbols.now (seen_survey c.loop-symbol.survey) c.loop-symbol.symbol-index _ c.loop-symbol-test.false c.loop-symbol.invariant.rest
    ∙ surveyed-parsed (map seen_symbol c.args.symbols.now)
