use Rattle.std.proofs.Common.{◌+◌, ◌∙◌, ◌∷◌, Some, reverse, ap}
use Rattle.spec_reader.specs.Surveys.{survey}
use Rattle.spec_reader.proofs.Lists.{reverse_push}
use Rattle.spec_reader.proofs.survey.at_factor.Goals as goal

pub returns-in_ok-push-in-Opening : goal.returns-in_ok-push-in-Opening
returns-in_ok-push-in-Opening c =
    let s = c.args.survey in
    ap (λ bases. Some (survey bases (s.depth + 1) (s.depth + 1) s.deepest s.wants)) (ap reverse c.in_ok-push-in-Opening.ensures.items ∙ reverse_push s.bases.items s.base)
    ∙ (rw c.in-Opening.is (ap (λ wants. Some (survey (s.base ∷ reverse s.bases.items) (s.depth + 1) (s.depth + 1) s.deepest wants)) c.requires.wants))
