-- The expression that symbols write, found from left to right. `Grammar` says what it is by the grammar, and that
-- there is no other. The result may be of any type that numbers, names and operations have a meaning in: trees, or
-- what is computed of a tree.
use Rattle.std.specs.Prelude.{◌≡◌, ℕ, suc, zero, List, [], ◌∷◌, Option, Some, None, codes, refl}
use Rattle.std.specs.Option.{option_and_then}
use Rattle.spec_grammar.specs.Symbols.{Symbol, digits, name, plus, minus, times, opening, closing, symbols}
use Rattle.spec_grammar.specs.Trees.{Tree, numeral, named, negated, enclosed, added, subtracted, multiplied}

-- what the operations mean
pub record Operations (A : Type 0) : Type 0 where
  pub of_minus : A → A
  pub of_parentheses : A → A
  pub of_sum : A → A → A
  pub of_difference : A → A → A
  pub of_product : A → A → A

-- what numbers, names and operations mean
pub record Meaning (A : Type 0) : Type 0 where
  pub of_number : List ℕ → A
  pub of_name : List ℕ → A
  pub operations : Operations A

abbrev pub on_trees : Operations Tree
on_trees = record {
  of_minus = negated;
  of_parentheses = enclosed;
  of_sum = added;
  of_difference = subtracted;
  of_product = multiplied;
}

abbrev pub as_tree : Meaning Tree
as_tree = record { of_number = numeral; of_name = named; operations = on_trees }

-- what the next term is joined to: nothing, the first summand, or what it is subtracted from
pub data Sum (A : Type 0) : Type 0 where
  nothing : Sum A
  adds_to : A → Sum A
  subtracts_from : A → Sum A

-- What stands in front of the next factor, within one pair of parentheses: what its term is joined to, what it is
-- multiplied by, and its unary minuses.
pub record Front (A : Type 0) : Type 0 where
  pub sum : Sum A
  pub product : Option A
  pub minuses : ℕ

-- a factor is to come, or a term may end here
pub data Place (A : Type 0) : Type 0 where
  wants : Front A → Place A
  has : Sum A → A → Place A

-- the place, and the fronts of the parentheses that are open there, the innermost first
pub record State (A : Type 0) : Type 0 where
  pub open_fronts : List (Front A)
  pub place : Place A

abbrev pub front : {A : Type 0} → Sum A → Option A → ℕ → Front A
front sum product minuses = record { sum = sum; product = product; minuses = minuses }

abbrev pub state : {A : Type 0} → List (Front A) → Place A → State A
state fronts place = record { open_fronts = fronts; place = place }

abbrev pub empty_front : {A : Type 0} → Front A
empty_front = front nothing None 0

module _ {A : Type 0} (o : Operations A) where
  abbrev pub minused : ℕ → A → A
  minused zero a = a
  minused (suc n) a = o.of_minus (minused n a)

  abbrev pub times_before : Option A → A → A
  times_before None a = a
  times_before (Some b) a = o.of_product b a

  abbrev pub joined : Sum A → A → A
  joined nothing a = a
  joined (adds_to b) a = o.of_sum b a
  joined (subtracts_from b) a = o.of_difference b a

  -- the term that ends with this factor
  abbrev pub term_of : Front A → A → A
  term_of f a = times_before f.product (minused f.minuses a)

  abbrev pub after_factor : List (Front A) → Front A → A → State A
  after_factor fronts f a = state fronts (has f.sum (term_of f a))

  -- behind a closing parenthesis
  abbrev pub closed : List (Front A) → A → Option (State A)
  closed [] a = None
  closed (f ∷ fronts) a = Some (after_factor fronts f (o.of_parentheses a))

  abbrev pub at_term : List (Front A) → Sum A → A → Symbol → Option (State A)
  at_term fronts sum a plus = Some (state fronts (wants (front (adds_to (joined sum a)) None 0)))
  at_term fronts sum a minus = Some (state fronts (wants (front (subtracts_from (joined sum a)) None 0)))
  at_term fronts sum a times = Some (state fronts (wants (front sum (Some a) 0)))
  at_term fronts sum a closing = closed fronts (joined sum a)
  at_term fronts sum a _ = None

  -- the whole expression, where no parenthesis is open and no factor is to come
  abbrev pub whole_at : List (Front A) → Place A → Option A
  whole_at [] (has sum a) = Some (joined sum a)
  whole_at _ _ = None

module _ {A : Type 0} (m : Meaning A) where
  abbrev pub at_front : List (Front A) → Front A → Symbol → Option (State A)
  at_front fronts f (digits ds) = Some (after_factor m.operations fronts f (m.of_number ds))
  at_front fronts f (name a) = Some (after_factor m.operations fronts f (m.of_name a))
  at_front fronts f minus = Some (state fronts (wants (front f.sum f.product (suc f.minuses))))
  at_front fronts f opening = Some (state (f ∷ fronts) (wants empty_front))
  at_front fronts f _ = None

  abbrev pub at_place : List (Front A) → Place A → Symbol → Option (State A)
  at_place fronts (wants f) symbol = at_front fronts f symbol
  at_place fronts (has sum a) symbol = at_term m.operations fronts sum a symbol

  abbrev pub step : State A → Symbol → Option (State A)
  step s symbol = at_place s.open_fronts s.place symbol

  abbrev pub parsed_from : State A → List Symbol → Option A
  parsed_from s [] = whole_at m.operations s.open_fronts s.place
  parsed_from s (symbol ∷ line) = option_and_then (λ next. parsed_from next line) (step s symbol)

abbrev pub empty_state : {A : Type 0} → State A
empty_state = state [] (wants empty_front)

abbrev pub parsed : List Symbol → Option Tree
parsed line = parsed_from as_tree empty_state line

abbrev a : Tree
a = named (codes "a")

abbrev b : Tree
b = named (codes "b")

abbrev two : Tree
two = numeral (codes "2")

-- left to right
differences : parsed (symbols (codes "a - b + 2 - a")) ≡ Some (subtracted (added (subtracted a b) two) a)
differences = refl

products_first : parsed (symbols (codes "a - b*2*a")) ≡ Some (subtracted a (multiplied (multiplied b two) a))
products_first = refl

minus_binds_most : parsed (symbols (codes "-a*-b - --2")) ≡ Some (subtracted (multiplied (negated a) (negated b)) (negated (negated two)))
minus_binds_most = refl

parentheses : parsed (symbols (codes "a*-(b - (2))")) ≡ Some (multiplied a (negated (enclosed (subtracted b (enclosed two)))))
parentheses = refl

two_factors : parsed (symbols (codes "2a")) ≡ None
two_factors = refl

no_factor : parsed (symbols (codes "a +")) ≡ None
no_factor = refl

no_plus_sign : parsed (symbols (codes "+ a")) ≡ None
no_plus_sign = refl

left_open : parsed (symbols (codes "(a")) ≡ None
left_open = refl

closed_twice : parsed (symbols (codes "(a))")) ≡ None
closed_twice = refl

nothing_enclosed : parsed (symbols (codes "()")) ≡ None
nothing_enclosed = refl
