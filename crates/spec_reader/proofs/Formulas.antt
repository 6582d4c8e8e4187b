-- What is read as a formula is the formula of the tree that is parsed.
use Rattle.std.proofs.Common.{◌≡◌, ℕ, zero, suc, List, [], ◌∷◌, Option, Some, None, map, option_map, option_and_then, refl, ap, ◌∙◌}
use Rattle.spec_grammar.specs.Parsing.{Sum, nothing, adds_to, subtracts_from, Front, front, Place, wants, has, State, state, as_tree, on_trees, minused, times_before, joined, term_of, after_factor, closed, at_front, at_term, at_place, step, whole_at, parsed_from, empty_state, parsed}
use Rattle.spec_grammar.specs.Symbols.{Symbol, digits, name, plus, minus, times, opening, closing, equality, keyword, half, stray, blank}
use Rattle.spec_grammar.specs.Trees.{Tree, numeral, named, enclosed, formula}
use Rattle.spec_lang.specs.Formula.{Formula, negative}
use Rattle.spec_lang.specs.Specification.{Word}
use Rattle.spec_reader.specs.Meanings.{on_formulas, over, sum_map, front_map, place_map, state_map}

module _ (words : List Word) where
  abbrev h : Tree → Formula
  h a = formula words a

  minused-formula : (n : ℕ) (a : Tree) → h (minused on_trees n a) ≡ minused on_formulas n (h a)
  minused-formula zero a = refl
  minused-formula (suc n) a = ap negative (minused-formula n a)

  times-formula : (p : Option Tree) (a : Tree) → h (times_before on_trees p a) ≡ times_before on_formulas (option_map h p) (h a)
  times-formula None a = refl
  times-formula (Some b) a = refl

  joined-formula : (s : Sum Tree) (a : Tree) → h (joined on_trees s a) ≡ joined on_formulas (sum_map h s) (h a)
  joined-formula nothing a = refl
  joined-formula (adds_to b) a = refl
  joined-formula (subtracts_from b) a = refl

  term-formula : (f : Front Tree) (a : Tree) → h (term_of on_trees f a) ≡ term_of on_formulas (front_map h f) (h a)
  term-formula f a = times-formula f.product (minused on_trees f.minuses a) ∙ ap (times_before on_formulas (option_map h f.product)) (minused-formula f.minuses a)

  factor-formula : (fronts : List (Front Tree)) (f : Front Tree) (a : Tree) → state_map h (after_factor on_trees fronts f a) ≡ after_factor on_formulas (map (front_map h) fronts) (front_map h f) (h a)
  factor-formula fronts f a = ap (λ b. state (map (front_map h) fronts) (has (sum_map h f.sum) b)) (term-formula f a)

  closed-formula : (fronts : List (Front Tree)) (a : Tree) → option_map (state_map h) (closed on_trees fronts a) ≡ closed on_formulas (map (front_map h) fronts) (h a)
  closed-formula [] a = refl
  closed-formula (f ∷ fronts) a = ap Some (factor-formula fronts f (enclosed a))

  front-formula : (fronts : List (Front Tree)) (f : Front Tree) (symbol : Symbol) → option_map (state_map h) (at_front as_tree fronts f symbol) ≡ at_front (over words) (map (front_map h) fronts) (front_map h f) symbol
  front-formula fronts f (digits ds) = ap Some (factor-formula fronts f (numeral ds))
  front-formula fronts f (name a) = ap Some (factor-formula fronts f (named a))
  front-formula fronts f plus = refl
  front-formula fronts f minus = refl
  front-formula fronts f times = refl
  front-formula fronts f opening = refl
  front-formula fronts f closing = refl
  front-formula fronts f equality = refl
  front-formula fronts f keyword = refl
  front-formula fronts f half = refl
  front-formula fronts f stray = refl
  front-formula fronts f blank = refl

  operator-formula : (fronts : List (Front Tree)) (f : Formula → Sum Formula) (a b : Formula) → a ≡ b
      → state (map (front_map h) fronts) (wants (front (f a) None 0)) ≡ state (map (front_map h) fronts) (wants (front (f b) None 0))
  operator-formula fronts f a b e = ap (λ c. state (map (front_map h) fronts) (wants (front (f c) None 0))) e

  term_at-formula : (fronts : List (Front Tree)) (s : Sum Tree) (a : Tree) (symbol : Symbol) → option_map (state_map h) (at_term on_trees fronts s a symbol) ≡ at_term on_formulas (map (front_map h) fronts) (sum_map h s) (h a) symbol
  term_at-formula fronts s a (digits ds) = refl
  term_at-formula fronts s a (name b) = refl
  term_at-formula fronts s a plus = ap Some (operator-formula fronts adds_to _ _ (joined-formula s a))
  term_at-formula fronts s a minus = ap Some (operator-formula fronts subtracts_from _ _ (joined-formula s a))
  term_at-formula fronts s a times = refl
  term_at-formula fronts s a opening = refl
  term_at-formula fronts s a closing = closed-formula fronts (joined on_trees s a) ∙ ap (closed on_formulas (map (front_map h) fronts)) (joined-formula s a)
  term_at-formula fronts s a equality = refl
  term_at-formula fronts s a keyword = refl
  term_at-formula fronts s a half = refl
  term_at-formula fronts s a stray = refl
  term_at-formula fronts s a blank = refl

  step-formula : (fronts : List (Front Tree)) (place : Place Tree) (symbol : Symbol) → option_map (state_map h) (at_place as_tree fronts place symbol) ≡ at_place (over words) (map (front_map h) fronts) (place_map h place) symbol
  step-formula fronts (wants f) symbol = front-formula fronts f symbol
  step-formula fronts (has s a) symbol = term_at-formula fronts s a symbol

  whole-formula : (fronts : List (Front Tree)) (place : Place Tree) → option_map h (whole_at on_trees fronts place) ≡ whole_at on_formulas (map (front_map h) fronts) (place_map h place)
  whole-formula [] (wants f) = refl
  whole-formula [] (has s a) = ap Some (joined-formula s a)
  whole-formula (f ∷ fronts) (wants g) = refl
  whole-formula (f ∷ fronts) (has s a) = refl

  parsed_from-formula : (line : List Symbol) (s : State Tree) → option_map h (parsed_from as_tree s line) ≡ parsed_from (over words) (state_map h s) line
  parsed_from-formula [] s = whole-formula s.open_fronts s.place
  parsed_from-formula (symbol ∷ line) s =
      at (step as_tree s symbol) (λ t. parsed_from-formula line t)
      ∙ ap (option_and_then (λ next. parsed_from (over words) next line)) (step-formula s.open_fronts s.place symbol)
    where
      at : (o : Option (State Tree)) → ((t : State Tree) → option_map h (parsed_from as_tree t line) ≡ parsed_from (over words) (state_map h t) line) → option_map h (option_and_then (λ next. parsed_from as_tree next line) o) ≡ option_and_then (λ next. parsed_from (over words) next line) (option_map (state_map h) o)
      at None more = refl
      at (Some t) more = more t

pub parsed-formula : (words : List Word) (line : List Symbol) → option_map (formula words) (parsed line) ≡ parsed_from (over words) empty_state line
parsed-formula words line = parsed_from-formula words line empty_state
