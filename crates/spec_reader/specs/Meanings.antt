-- For proofs alone: expressions are read as formulas, as trees are.
use Rattle.std.specs.Prelude.{pos, List, map, option_map}
use Rattle.std.specs.Str.Parse.{digits_value}
use Rattle.spec_grammar.specs.Parsing.{Operations, Meaning, Sum, nothing, adds_to, subtracts_from, Front, front, Place, wants, has, State, state}
use Rattle.spec_grammar.specs.Trees.{word_number}
use Rattle.spec_lang.specs.Formula.{Formula, number, word, negative, sum, difference, product}
use Rattle.spec_lang.specs.Specification.{Word}

abbrev pub on_formulas : Operations Formula
on_formulas = record {
  of_minus = negative;
  of_parentheses = λ a. a;
  of_sum = sum;
  of_difference = difference;
  of_product = product;
}

abbrev pub over : List Word → Meaning Formula
over words = record {
  of_number = λ ds. number (pos (digits_value 10 ds));
  of_name = λ a. word (word_number words a);
  operations = on_formulas;
}

module _ {A B : Type 0} (h : A → B) where
  abbrev pub sum_map : Sum A → Sum B
  sum_map nothing = nothing
  sum_map (adds_to a) = adds_to (h a)
  sum_map (subtracts_from a) = subtracts_from (h a)

  abbrev pub front_map : Front A → Front B
  front_map f = front (sum_map f.sum) (option_map h f.product) f.minuses

  abbrev pub place_map : Place A → Place B
  place_map (wants f) = wants (front_map f)
  place_map (has s a) = has (sum_map s) (h a)

  abbrev pub state_map : State A → State B
  state_map s = state (map front_map s.open_fronts) (place_map s.place)
