-- A step adds one unary minus at most.
use Rattle.std.proofs.Common.{◌≡◌, ℕ, suc, ◌+◌, ◌≤◌, List, [], ◌∷◌, Some, None, refl, arith}
use Rattle.spec_grammar.specs.Parsing.{Meaning, Sum, adds_to, subtracts_from, Front, front, Place, wants, has, State, state, empty_front, joined, after_factor, closed, at_front, at_term, at_place}
use Rattle.spec_grammar.specs.Symbols.{Symbol, digits, name, plus, minus, times, opening, closing, equality, keyword, half, stray, blank}
use Rattle.spec_lang.specs.Formula.{Formula}
use Rattle.spec_reader.specs.Views.{seen_place, minuses_at}
use Rattle.spec_reader.specs.declared.expression.Place as code
use Rattle.spec_reader.specs.declared.expression.Place.TheVariants.{Wants, Has}

abbrev pub place_minuses : {A : Type 0} → Place A → ℕ
place_minuses (wants f) = f.minuses
place_minuses (has s a) = 0

pub minuses-seen : (place : code.Place) → minuses_at place ≡ place_minuses (seen_place place)
minuses-seen (Wants f) = refl
minuses-seen (Has s e) = refl

module _ (m : Meaning Formula) where
  at_state : (s t : State Formula) (n : ℕ) → Some s ≡ Some t → place_minuses s.place ≤ n → place_minuses t.place ≤ n
  at_state s t n e h = let same : s ≡ t = cc in rw (← same) h

  front_minuses : (fronts : List (Front Formula)) (f : Front Formula) (symbol : Symbol) (t : State Formula) (n : ℕ) → f.minuses ≤ n → at_front m fronts f symbol ≡ Some t → place_minuses t.place ≤ n + 1
  front_minuses fronts f (digits ds) t n h e = at_state (after_factor m.operations fronts f (m.of_number ds)) t (n + 1) e (omega arith)
  front_minuses fronts f (name a) t n h e = at_state (after_factor m.operations fronts f (m.of_name a)) t (n + 1) e (omega arith)
  front_minuses fronts f plus t n h e = absurd (cc)
  front_minuses fronts f minus t n h e = at_state (state fronts (wants (front f.sum f.product (suc f.minuses)))) t (n + 1) e (omega arith)
  front_minuses fronts f times t n h e = absurd (cc)
  front_minuses fronts f opening t n h e = at_state (state (f ∷ fronts) (wants empty_front)) t (n + 1) e (omega arith)
  front_minuses fronts f closing t n h e = absurd (cc)
  front_minuses fronts f equality t n h e = absurd (cc)
  front_minuses fronts f keyword t n h e = absurd (cc)
  front_minuses fronts f half t n h e = absurd (cc)
  front_minuses fronts f stray t n h e = absurd (cc)
  front_minuses fronts f blank t n h e = absurd (cc)

  closed_minuses : (fronts : List (Front Formula)) (a : Formula) (t : State Formula) (n : ℕ) → closed m.operations fronts a ≡ Some t → place_minuses t.place ≤ n
  closed_minuses [] a t n e = absurd (cc)
  closed_minuses (f ∷ fronts) a t n e = at_state (after_factor m.operations fronts f (m.operations.of_parentheses a)) t n e (omega arith)

  term_minuses : (fronts : List (Front Formula)) (s : Sum Formula) (a : Formula) (symbol : Symbol) (t : State Formula) (n : ℕ) → at_term m.operations fronts s a symbol ≡ Some t → place_minuses t.place ≤ n
  term_minuses fronts s a (digits ds) t n e = absurd (cc)
  term_minuses fronts s a (name b) t n e = absurd (cc)
  term_minuses fronts s a plus t n e = at_state (state fronts (wants (front (adds_to (joined m.operations s a)) None 0))) t n e (omega arith)
  term_minuses fronts s a minus t n e = at_state (state fronts (wants (front (subtracts_from (joined m.operations s a)) None 0))) t n e (omega arith)
  term_minuses fronts s a times t n e = at_state (state fronts (wants (front s (Some a) 0))) t n e (omega arith)
  term_minuses fronts s a opening t n e = absurd (cc)
  term_minuses fronts s a closing t n e = closed_minuses fronts (joined m.operations s a) t n e
  term_minuses fronts s a equality t n e = absurd (cc)
  term_minuses fronts s a keyword t n e = absurd (cc)
  term_minuses fronts s a half t n e = absurd (cc)
  term_minuses fronts s a stray t n e = absurd (cc)
  term_minuses fronts s a blank t n e = absurd (cc)

  pub step_minuses : (fronts : List (Front Formula)) (place : Place Formula) (symbol : Symbol) (t : State Formula) (n : ℕ) → place_minuses place ≤ n → at_place m fronts place symbol ≡ Some t → place_minuses t.place ≤ n + 1
  step_minuses fronts (wants f) symbol t n h e = front_minuses fronts f symbol t n h e
  step_minuses fronts (has s a) symbol t n h e = term_minuses fronts s a symbol t (n + 1) e
