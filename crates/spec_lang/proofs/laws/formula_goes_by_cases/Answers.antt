use Rattle.spec_lang.proofs.Formulas.{formula_goes_by_cases}
use Rattle.spec_lang.proofs.laws.formula_goes_by_cases.Goals as goal

pub returns : goal.returns
returns c = formula_goes_by_cases
