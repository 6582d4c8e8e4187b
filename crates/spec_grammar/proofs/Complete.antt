-- What is written as an expression is parsed.
use Rattle.std.proofs.Common.{◌≡◌, ℕ, zero, suc, true, List, [], ◌∷◌, ◌++◌, Some, None, refl, sym, ap, ◌∙◌, append_assoc, append-nil}
use Rattle.std.proofs.lemmas.Bool.{and_parts}
use Rattle.spec_grammar.specs.Grammar.{written, factor, term, expression, stands_as, Writes}
use Rattle.spec_grammar.specs.Parsing.{Sum, nothing, adds_to, subtracts_from, Front, front, empty_front, wants, has, state, as_tree, on_trees, minused, times_before, joined, after_factor, parsed_from, parsed}
use Rattle.spec_grammar.specs.Symbols.{Symbol, plus, minus, times, closing}
use Rattle.spec_grammar.specs.Trees.{Tree, numeral, named, negated, enclosed, added, subtracted, multiplied}
use Rattle.spec_grammar.proofs.Sound.{expression_of_term}

-- an expression as what its last term is joined to, and that term
abbrev sum_of : Tree → Sum Tree
sum_of (added a b) = adds_to a
sum_of (subtracted a b) = subtracts_from a
sum_of _ = nothing

abbrev last_term : Tree → Tree
last_term (added a b) = b
last_term (subtracted a b) = b
last_term a = a

joined-parts : (a : Tree) → joined on_trees (sum_of a) (last_term a) ≡ a
joined-parts (numeral ds) = refl
joined-parts (named a) = refl
joined-parts (negated a) = refl
joined-parts (enclosed a) = refl
joined-parts (added a b) = refl
joined-parts (subtracted a b) = refl
joined-parts (multiplied a b) = refl

minused-negated : (n : ℕ) (a : Tree) → minused on_trees (suc n) a ≡ minused on_trees n (negated a)
minused-negated zero a = refl
minused-negated (suc n) a = ap negated (minused-negated n a)

abbrev ParsesFactor : Tree → Type 0
ParsesFactor a = (fronts : List (Front Tree)) (f : Front Tree) (rest : List Symbol) → parsed_from as_tree (state fronts (wants f)) (written a ++ rest) ≡ parsed_from as_tree (after_factor on_trees fronts f a) rest

abbrev ParsesTerm : Tree → Type 0
ParsesTerm a = (fronts : List (Front Tree)) (s : Sum Tree) (rest : List Symbol) → parsed_from as_tree (state fronts (wants (front s None 0))) (written a ++ rest) ≡ parsed_from as_tree (state fronts (has s a)) rest

abbrev ParsesExpression : Tree → Type 0
ParsesExpression a = (fronts : List (Front Tree)) (rest : List Symbol) → parsed_from as_tree (state fronts (wants empty_front)) (written a ++ rest) ≡ parsed_from as_tree (state fronts (has (sum_of a) (last_term a))) rest

record Parses (a : Tree) : Type 0 where
  as_factor : stands_as factor a ≡ true → ParsesFactor a
  as_term : stands_as term a ≡ true → ParsesTerm a
  as_expression : stands_as expression a ≡ true → ParsesExpression a

-- a tree that is a factor where it is an expression
of_factor : (a : Tree) → (stands_as expression a ≡ true → stands_as factor a ≡ true) → sum_of a ≡ nothing → last_term a ≡ a → (stands_as factor a ≡ true → ParsesFactor a) → Parses a
of_factor a down s t parses = record {
  as_factor = parses;
  as_term = λ is fronts s rest. parses (down (expression_of_term a is)) fronts (front s None 0) rest;
  as_expression = λ is fronts rest. parses (down is) fronts empty_front rest ∙ ap (λ p. parsed_from as_tree (state fronts p) rest) (sym (ap (λ s. has s (last_term a)) s ∙ ap (has nothing) t));
}

minus_parses : (a : Tree) → ParsesFactor a → ParsesFactor (negated a)
minus_parses a parses fronts f rest =
    parses fronts (front f.sum f.product (suc f.minuses)) rest
    ∙ ap (λ b. parsed_from as_tree (state fronts (has f.sum (times_before on_trees f.product b))) rest) (minused-negated f.minuses a)

enclosed_parses : (a : Tree) → ParsesExpression a → ParsesFactor (enclosed a)
enclosed_parses a parses fronts f rest =
    ap (λ line. parsed_from as_tree (state (f ∷ fronts) (wants empty_front)) line) (append_assoc (written a) (closing ∷ []) rest)
    ∙ parses (f ∷ fronts) (closing ∷ rest)
    ∙ ap (λ b. parsed_from as_tree (after_factor on_trees fronts f (enclosed b)) rest) (joined-parts a)

product_parses : (a b : Tree) → ParsesTerm a → ParsesFactor b → ParsesTerm (multiplied a b)
product_parses a b first second fronts s rest =
    ap (parsed_from as_tree (state fronts (wants (front s None 0)))) (append_assoc (written a) (times ∷ written b) rest)
    ∙ first fronts s (times ∷ (written b ++ rest))
    ∙ second fronts (front s (Some a) 0) rest

sum_parses : (a b : Tree) → ParsesExpression a → ParsesTerm b → ParsesExpression (added a b)
sum_parses a b first second fronts rest =
    ap (parsed_from as_tree (state fronts (wants empty_front))) (append_assoc (written a) (plus ∷ written b) rest)
    ∙ first fronts (plus ∷ (written b ++ rest))
    ∙ ap (λ c. parsed_from as_tree (state fronts (wants (front (adds_to c) None 0))) (written b ++ rest)) (joined-parts a)
    ∙ second fronts (adds_to a) rest

difference_parses : (a b : Tree) → ParsesExpression a → ParsesTerm b → ParsesExpression (subtracted a b)
difference_parses a b first second fronts rest =
    ap (parsed_from as_tree (state fronts (wants empty_front))) (append_assoc (written a) (minus ∷ written b) rest)
    ∙ first fronts (minus ∷ (written b ++ rest))
    ∙ ap (λ c. parsed_from as_tree (state fronts (wants (front (subtracts_from c) None 0))) (written b ++ rest)) (joined-parts a)
    ∙ second fronts (subtracts_from a) rest

complete : (a : Tree) → Parses a
complete (numeral ds) = of_factor (numeral ds) (λ is. refl) refl refl (λ is fronts f rest. refl)
complete (named a) = of_factor (named a) (λ is. refl) refl refl (λ is fronts f rest. refl)
complete (negated a) = of_factor (negated a) (λ is. is) refl refl (λ is. minus_parses a ((complete a).as_factor is))
complete (enclosed a) = of_factor (enclosed a) (λ is. is) refl refl (λ is. enclosed_parses a ((complete a).as_expression is))
complete (added a b) = record {
  as_factor = λ is. absurd (cc);
  as_term = λ is. absurd (cc);
  as_expression = λ is.
      let parts = and_parts (stands_as expression a) (stands_as term b) is in
      sum_parses a b ((complete a).as_expression parts.0) ((complete b).as_term parts.1);
}
complete (subtracted a b) = record {
  as_factor = λ is. absurd (cc);
  as_term = λ is. absurd (cc);
  as_expression = λ is.
      let parts = and_parts (stands_as expression a) (stands_as term b) is in
      difference_parses a b ((complete a).as_expression parts.0) ((complete b).as_term parts.1);
}
complete (multiplied a b) =
    let as_term : stands_as term (multiplied a b) ≡ true → ParsesTerm (multiplied a b) = λ is.
    let parts = and_parts (stands_as term a) (stands_as factor b) is in
    product_parses a b ((complete a).as_term parts.0) ((complete b).as_factor parts.1)
    in record {
      as_factor = λ is. absurd (cc);
      as_term = as_term;
      as_expression = λ is fronts rest. as_term is fronts nothing rest;
    }

pub written_is_parsed : (line : List Symbol) (a : Tree) → Writes a line → parsed line ≡ Some a
written_is_parsed line a w =
    ap parsed (sym w.symbols ∙ sym (append-nil (written a)))
    ∙ (complete a).as_expression w.is_expression [] []
    ∙ ap Some (joined-parts a)
