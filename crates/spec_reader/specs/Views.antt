-- For proofs alone: what the reader's own types stand for.
use Rattle.std.specs.Prelude.{ℕ, List, map, reverse, option_map}
use Rattle.spec_grammar.specs.Parsing as p
use Rattle.spec_grammar.specs.Symbols as s
use Rattle.spec_reader.specs.Surveys as Surveys
use Rattle.spec_lang.specs.Formula.{Formula, formula_of}
use Rattle.spec_grammar.specs.Faults as d
use Rattle.spec_reader.specs.declared.draft.Draft.{Draft}
use Rattle.spec_reader.specs.declared.expression.Front.{Front}
use Rattle.spec_reader.specs.declared.expression.Place.{Place}
use Rattle.spec_reader.specs.declared.expression.Place.TheVariants.{Wants, Has}
use Rattle.spec_reader.specs.declared.expression.State.{State}
use Rattle.spec_reader.specs.declared.expression.Sum.{Sum}
use Rattle.spec_reader.specs.declared.expression.Sum.TheVariants.{Nothing, AddsTo, SubtractsFrom}
use Rattle.spec_reader.specs.declared.survey.Survey.{Survey}
use Rattle.spec_reader.specs.declared.symbol.Symbol.{Symbol}
use Rattle.spec_reader.specs.declared.symbol.Symbol.TheVariants.{Digits, Name, Plus, Minus, Times, Opening, Closing, Equality, Keyword, Half, Stray}

abbrev pub seen_symbol : Symbol → s.Symbol
seen_symbol (Digits text) = s.digits text.now
seen_symbol (Name text) = s.name text.now
seen_symbol Plus = s.plus
seen_symbol Minus = s.minus
seen_symbol Times = s.times
seen_symbol Opening = s.opening
seen_symbol Closing = s.closing
seen_symbol Equality = s.equality
seen_symbol Keyword = s.keyword
seen_symbol Half = s.half
seen_symbol Stray = s.stray

-- of parentheses the innermost first
abbrev pub seen_survey : Survey → Surveys.Survey
seen_survey s = Surveys.survey (reverse s.bases.items) s.base s.depth s.deepest s.wants

abbrev pub seen_sum : Sum → p.Sum Formula
seen_sum Nothing = p.nothing
seen_sum (AddsTo e) = p.adds_to (formula_of e)
seen_sum (SubtractsFrom e) = p.subtracts_from (formula_of e)

abbrev pub seen_front : Front → p.Front Formula
seen_front f = p.front (seen_sum f.sum) (option_map formula_of f.product) f.minuses

-- the innermost first
abbrev pub seen_fronts : List Front → List (p.Front Formula)
seen_fronts fronts = reverse (map seen_front fronts)

abbrev pub seen_place : Place → p.Place Formula
seen_place (Wants f) = p.wants (seen_front f)
seen_place (Has s e) = p.has (seen_sum s) (formula_of e)

abbrev pub seen_state : State → p.State Formula
seen_state s = p.state (seen_fronts s.fronts.items) (seen_place s.place)

-- the unary minuses in front of the factor that is to come
abbrev pub minuses_at : Place → ℕ
minuses_at (Wants f) = f.minuses
minuses_at (Has s e) = 0

-- what lines say
abbrev pub seen_draft : Draft → d.Draft
seen_draft x = d.draft (option_map (λ order. order.items) x.order) x.letters.items x.words.items x.checks.items
