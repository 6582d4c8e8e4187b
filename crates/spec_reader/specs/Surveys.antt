-- For proofs alone: how nested an expression is, as it is counted from left to right.
use Rattle.std.specs.Prelude.{ℕ, ◌+◌, Bool, true, false, List, [], ◌∷◌, Option, Some, None, max, if◌then◌else◌}
use Rattle.std.specs.Option.{option_and_then}
use Rattle.spec_grammar.specs.Symbols.{Symbol, digits, name, plus, minus, times, opening, closing}

-- The nesting of the place, of what its parentheses enclose, and of what encloses each of them, the innermost first;
-- the greatest nesting of a number or a name so far; whether a factor is to come.
pub record Survey : Type 0 where
  pub bases : List ℕ
  pub base : ℕ
  pub depth : ℕ
  pub deepest : ℕ
  pub wants : Bool

abbrev pub survey : List ℕ → ℕ → ℕ → ℕ → Bool → Survey
survey bases base depth deepest wants = record { bases = bases; base = base; depth = depth; deepest = deepest; wants = wants }

abbrev pub empty_survey : Survey
empty_survey = survey [] 0 0 0 true

abbrev pub at_factor : Survey → Symbol → Option Survey
at_factor s (digits ds) = Some (survey s.bases s.base s.base (max s.deepest s.depth) false)
at_factor s (name a) = Some (survey s.bases s.base s.base (max s.deepest s.depth) false)
at_factor s minus = Some (survey s.bases s.base (s.depth + 1) s.deepest true)
at_factor s opening = Some (survey (s.base ∷ s.bases) (s.depth + 1) (s.depth + 1) s.deepest true)
at_factor s _ = None

abbrev pub closed : List ℕ → ℕ → Option Survey
closed [] deepest = None
closed (base ∷ bases) deepest = Some (survey bases base base deepest false)

abbrev pub at_operator : Survey → Symbol → Option Survey
at_operator s plus = Some (survey s.bases s.base s.depth s.deepest true)
at_operator s minus = Some (survey s.bases s.base s.depth s.deepest true)
at_operator s times = Some (survey s.bases s.base s.depth s.deepest true)
at_operator s closing = closed s.bases s.deepest
at_operator s _ = None

abbrev pub survey_step : Survey → Symbol → Option Survey
survey_step s symbol = if s.wants then at_factor s symbol else at_operator s symbol

abbrev pub ended : List ℕ → Bool → ℕ → Option ℕ
ended [] false deepest = Some deepest
ended _ _ deepest = None

abbrev pub surveyed_from : Survey → List Symbol → Option ℕ
surveyed_from s [] = ended s.bases s.wants s.deepest
surveyed_from s (symbol ∷ line) = option_and_then (λ next. surveyed_from next line) (survey_step s symbol)

abbrev pub largest_of : List ℕ → ℕ
largest_of [] = 0
largest_of (n ∷ more) = max n (largest_of more)

-- the largest of the numbers that are counted up
abbrev pub largest : Survey → ℕ
largest s = max (largest_of s.bases) (max s.base s.depth)
