-- The nesting that is counted from left to right is that of the tree that is parsed.
use Rattle.std.proofs.Common.{◌≡◌, ℕ, zero, suc, ◌+◌, ◌≤◌, Bool, true, false, List, [], ◌∷◌, Option, Some, None, option_map, option_and_then, cond, max, refl, sym, ap, ◌∙◌, arith}
use Rattle.spec_grammar.specs.Parsing.{Sum, nothing, adds_to, subtracts_from, Front, front, empty_front, Place, wants, has, State, state, as_tree, on_trees, minused, times_before, joined, term_of, after_factor, at_front, at_term, at_place, step, whole_at, parsed_from, empty_state, parsed}
use Rattle.spec_grammar.specs.Symbols.{Symbol, digits, name, plus, minus, times, opening, closing, equality, keyword, half, stray, blank}
use Rattle.spec_grammar.specs.Trees.{Tree, numeral, named, enclosed, nesting}
use Rattle.spec_grammar.specs.Parsing as p
use Rattle.spec_reader.specs.Surveys.{Survey, survey, empty_survey, at_factor, at_operator, survey_step, closed, ended, surveyed_from, largest, largest_of}

abbrev base_of : List (Front Tree) → ℕ
base_of [] = 0
base_of (f ∷ fronts) = base_of fronts + f.minuses + 1

abbrev bases_of : List (Front Tree) → List ℕ
bases_of [] = []
bases_of (f ∷ fronts) = base_of fronts ∷ bases_of fronts

abbrev sum_depth : ℕ → Sum Tree → ℕ
sum_depth base nothing = 0
sum_depth base (adds_to a) = base + nesting a
sum_depth base (subtracts_from a) = base + nesting a

abbrev product_depth : ℕ → Option Tree → ℕ
product_depth base None = 0
product_depth base (Some a) = base + nesting a

abbrev front_depth : ℕ → Front Tree → ℕ
front_depth base f = max (sum_depth base f.sum) (product_depth base f.product)

abbrev fronts_depth : List (Front Tree) → ℕ
fronts_depth [] = 0
fronts_depth (f ∷ fronts) = max (fronts_depth fronts) (front_depth (base_of fronts) f)

-- the survey of what was read
abbrev surveyed_at : List (Front Tree) → Place Tree → Survey
surveyed_at fronts (wants f) =
    survey (bases_of fronts) (base_of fronts) (base_of fronts + f.minuses) (max (fronts_depth fronts) (front_depth (base_of fronts) f)) true
surveyed_at fronts (has s a) =
    survey (bases_of fronts) (base_of fronts) (base_of fronts) (max (fronts_depth fronts) (max (sum_depth (base_of fronts) s) (base_of fronts + nesting a))) false

abbrev surveyed : State Tree → Survey
surveyed s = surveyed_at s.open_fronts s.place

minused-nesting : (n : ℕ) (a : Tree) → nesting (minused on_trees n a) ≡ n + nesting a
minused-nesting zero a = omega arith
minused-nesting (suc n) a = let h = minused-nesting n a in omega arith

term-depth : (base n m : ℕ) (p : Option Tree) (a : Tree) → nesting a + n ≡ m → base + nesting (times_before on_trees p (minused on_trees n a)) ≡ max (product_depth base p) (base + m)
term-depth base n m None a e = let h = minused-nesting n a in omega arith
term-depth base n m (Some b) a e = let h = minused-nesting n a in omega arith

joined-depth : (base : ℕ) (s : Sum Tree) (a : Tree) → base + nesting (joined on_trees s a) ≡ max (sum_depth base s) (base + nesting a)
joined-depth base nothing a = omega arith
joined-depth base (adds_to b) a = omega arith
joined-depth base (subtracts_from b) a = omega arith

max_moved : (f s p x t : ℕ) → t ≡ max p x → max f (max s t) ≡ max (max f (max s p)) x
max_moved f s p x t e = omega arith

factor_surveyed : (fronts : List (Front Tree)) (f : Front Tree) (a : Tree) → nesting a ≡ 0
    → surveyed (after_factor on_trees fronts f a) ≡ survey (bases_of fronts) (base_of fronts) (base_of fronts) (max (max (fronts_depth fronts) (front_depth (base_of fronts) f)) (base_of fronts + f.minuses)) false
factor_surveyed fronts f a e =
    ap (λ d. survey (bases_of fronts) (base_of fronts) (base_of fronts) d false)
    (max_moved (fronts_depth fronts) (sum_depth (base_of fronts) f.sum) (product_depth (base_of fronts) f.product) (base_of fronts + f.minuses) (base_of fronts + nesting (term_of on_trees f a))
    (term-depth (base_of fronts) f.minuses f.minuses f.product a (omega (arith, e))))

front_surveyed : (fronts : List (Front Tree)) (f : Front Tree) (symbol : Symbol) → option_map surveyed (at_front as_tree fronts f symbol) ≡ at_factor (surveyed_at fronts (wants f)) symbol
front_surveyed fronts f (digits ds) = ap Some (factor_surveyed fronts f (numeral ds) refl)
front_surveyed fronts f (name a) = ap Some (factor_surveyed fronts f (named a) refl)
front_surveyed fronts f plus = refl
front_surveyed fronts f minus =
    ap (λ d. Some (survey (bases_of fronts) (base_of fronts) d (max (fronts_depth fronts) (front_depth (base_of fronts) f)) true)) (omega arith)
front_surveyed fronts f times = refl
front_surveyed fronts f opening =
    ap (λ d. Some (survey (base_of fronts ∷ bases_of fronts) (base_of fronts + f.minuses + 1) d (max (max (fronts_depth fronts) (front_depth (base_of fronts) f)) 0) true)) (omega arith)
    ∙ ap (λ d. Some (survey (base_of fronts ∷ bases_of fronts) (base_of fronts + f.minuses + 1) (base_of fronts + f.minuses + 1) d true)) (omega arith)
front_surveyed fronts f closing = refl
front_surveyed fronts f equality = refl
front_surveyed fronts f keyword = refl
front_surveyed fronts f half = refl
front_surveyed fronts f stray = refl
front_surveyed fronts f blank = refl

operator_surveyed : (fronts : List (Front Tree)) (s t : Sum Tree) (p : Option Tree) (a : Tree) → max (sum_depth (base_of fronts) s) (base_of fronts + nesting a) ≡ max (sum_depth (base_of fronts) t) (product_depth (base_of fronts) p)
    → surveyed (state fronts (wants (front t p 0)))
    ≡ survey (bases_of fronts) (base_of fronts) (base_of fronts) (max (fronts_depth fronts) (max (sum_depth (base_of fronts) s) (base_of fronts + nesting a))) true
operator_surveyed fronts s t p a e =
    ap (λ d. survey (bases_of fronts) (base_of fronts) d (max (fronts_depth fronts) (max (sum_depth (base_of fronts) t) (product_depth (base_of fronts) p))) true) (omega arith)
    ∙ ap (λ d. survey (bases_of fronts) (base_of fronts) (base_of fronts) (max (fronts_depth fronts) d) true) (sym e)

closing_surveyed : (fronts : List (Front Tree)) (s : Sum Tree) (a : Tree) → option_map surveyed (p.closed on_trees fronts (joined on_trees s a)) ≡ at_operator (surveyed_at fronts (has s a)) closing
closing_surveyed [] s a = refl
closing_surveyed (f ∷ fronts) s a =
    let base = base_of fronts in
    let inner = base + f.minuses + 1 in
    let j = joined on_trees s a in
    let whole : inner + nesting j ≡ base + (nesting (enclosed j) + f.minuses) = omega arith in
    let deep : base + nesting (term_of on_trees f (enclosed j)) ≡ max (product_depth base f.product) (max (sum_depth inner s) (inner + nesting a)) =
    term-depth base f.minuses (nesting (enclosed j) + f.minuses) f.product (enclosed j) refl
    ∙ ap (max (product_depth base f.product)) (sym whole ∙ joined-depth inner s a)
    in ap (λ d. Some (survey (bases_of fronts) base base d false))
    (max_moved (fronts_depth fronts) (sum_depth base f.sum) (product_depth base f.product) (max (sum_depth inner s) (inner + nesting a)) (base + nesting (term_of on_trees f (enclosed j))) deep)

term_surveyed : (fronts : List (Front Tree)) (s : Sum Tree) (a : Tree) (symbol : Symbol) → option_map surveyed (at_term on_trees fronts s a symbol) ≡ at_operator (surveyed_at fronts (has s a)) symbol
term_surveyed fronts s a (digits ds) = refl
term_surveyed fronts s a (name b) = refl
term_surveyed fronts s a plus = ap Some (operator_surveyed fronts s (adds_to (joined on_trees s a)) None a (let h = joined-depth (base_of fronts) s a in omega arith))
term_surveyed fronts s a minus = ap Some (operator_surveyed fronts s (subtracts_from (joined on_trees s a)) None a (let h = joined-depth (base_of fronts) s a in omega arith))
term_surveyed fronts s a times = ap Some (operator_surveyed fronts s s (Some a) a refl)
term_surveyed fronts s a opening = refl
term_surveyed fronts s a closing = closing_surveyed fronts s a
term_surveyed fronts s a equality = refl
term_surveyed fronts s a keyword = refl
term_surveyed fronts s a half = refl
term_surveyed fronts s a stray = refl
term_surveyed fronts s a blank = refl

step_surveyed : (fronts : List (Front Tree)) (place : Place Tree) (symbol : Symbol) → option_map surveyed (at_place as_tree fronts place symbol) ≡ survey_step (surveyed_at fronts place) symbol
step_surveyed fronts (wants f) symbol = front_surveyed fronts f symbol
step_surveyed fronts (has s a) symbol = term_surveyed fronts s a symbol

whole_surveyed : (fronts : List (Front Tree)) (place : Place Tree) → ended (surveyed_at fronts place).bases (surveyed_at fronts place).wants (surveyed_at fronts place).deepest ≡ option_map nesting (whole_at on_trees fronts place)
whole_surveyed [] (wants f) = refl
whole_surveyed [] (has s a) = ap Some (let h = joined-depth 0 s a in omega arith)
whole_surveyed (f ∷ fronts) (wants g) = refl
whole_surveyed (f ∷ fronts) (has s a) = refl

surveyed-parsed_from : (line : List Symbol) (s : State Tree) → surveyed_from (surveyed s) line ≡ option_map nesting (parsed_from as_tree s line)
surveyed-parsed_from [] s = whole_surveyed s.open_fronts s.place
surveyed-parsed_from (symbol ∷ line) s =
    ap (option_and_then (λ next. surveyed_from next line)) (sym (step_surveyed s.open_fronts s.place symbol))
    ∙ at (step as_tree s symbol) (λ t. surveyed-parsed_from line t)
  where
    at : (o : Option (State Tree)) → ((t : State Tree) → surveyed_from (surveyed t) line ≡ option_map nesting (parsed_from as_tree t line)) → option_and_then (λ next. surveyed_from next line) (option_map surveyed o) ≡ option_map nesting (option_and_then (λ next. parsed_from as_tree next line) o)
    at None more = refl
    at (Some t) more = more t

pub surveyed-parsed : (line : List Symbol) → surveyed_from empty_survey line ≡ option_map nesting (parsed line)
surveyed-parsed line = surveyed-parsed_from line empty_state

-- ---- no step counts by more than one

one_larger : (s t : Survey) → Some s ≡ Some t → (n : ℕ) → largest s ≤ n → largest t ≤ n
one_larger s t e n h = let same : s ≡ t = cc in rw (← same) h

closed_largest : (bases : List ℕ) (deepest : ℕ) (t : Survey) (n : ℕ) → largest_of bases ≤ n → closed bases deepest ≡ Some t → largest t ≤ n
closed_largest [] deepest t n h e = absurd (cc)
closed_largest (base ∷ bases) deepest t n h e = one_larger (survey bases base base deepest false) t e n (omega arith)

factor_largest : (s : Survey) (symbol : Symbol) (t : Survey) (n : ℕ) → largest s ≤ n → at_factor s symbol ≡ Some t → largest t ≤ n + 1
factor_largest s (digits ds) t n h e = one_larger _ t e (n + 1) (omega arith)
factor_largest s (name a) t n h e = one_larger _ t e (n + 1) (omega arith)
factor_largest s plus t n h e = absurd (cc)
factor_largest s minus t n h e = one_larger _ t e (n + 1) (omega arith)
factor_largest s times t n h e = absurd (cc)
factor_largest s opening t n h e = one_larger _ t e (n + 1) (omega arith)
factor_largest s closing t n h e = absurd (cc)
factor_largest s equality t n h e = absurd (cc)
factor_largest s keyword t n h e = absurd (cc)
factor_largest s half t n h e = absurd (cc)
factor_largest s stray t n h e = absurd (cc)
factor_largest s blank t n h e = absurd (cc)

operator_largest : (s : Survey) (symbol : Symbol) (t : Survey) (n : ℕ) → largest s ≤ n → at_operator s symbol ≡ Some t → largest t ≤ n + 1
operator_largest s (digits ds) t n h e = absurd (cc)
operator_largest s (name a) t n h e = absurd (cc)
operator_largest s plus t n h e = one_larger _ t e (n + 1) (omega arith)
operator_largest s minus t n h e = one_larger _ t e (n + 1) (omega arith)
operator_largest s times t n h e = one_larger _ t e (n + 1) (omega arith)
operator_largest s opening t n h e = absurd (cc)
operator_largest s closing t n h e = let k = closed_largest s.bases s.deepest t n (omega arith) e in omega arith
operator_largest s equality t n h e = absurd (cc)
operator_largest s keyword t n h e = absurd (cc)
operator_largest s half t n h e = absurd (cc)
operator_largest s stray t n h e = absurd (cc)
operator_largest s blank t n h e = absurd (cc)

pub step_largest : (s : Survey) (symbol : Symbol) (t : Survey) (n : ℕ) → largest s ≤ n → survey_step s symbol ≡ Some t → largest t ≤ n + 1
step_largest s symbol t n h e = at s.wants e
  where
    at : (b : Bool) → cond b (at_factor s symbol) (at_operator s symbol) ≡ Some t → largest t ≤ n + 1
    at true e = factor_largest s symbol t n h e
    at false e = operator_largest s symbol t n h e
