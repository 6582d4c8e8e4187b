-- What is parsed is an expression, and is written by the symbols.
use Rattle.std.proofs.Common.{◌≡◌, ℕ, zero, suc, true, List, [], ◌∷◌, ◌++◌, Option, Some, None, refl, sym, ap, ◌∙◌, append_assoc, append-nil, subst}
use Rattle.std.proofs.lemmas.Option.{same_Some, option_and_then_some}
use Rattle.spec_grammar.specs.Grammar.{written, factor, term, expression, stands_as, Writes}
use Rattle.spec_grammar.specs.Parsing.{Sum, nothing, adds_to, subtracts_from, Front, front, empty_front, Place, wants, has, State, state, as_tree, on_trees, minused, times_before, joined, term_of, after_factor, closed, at_front, at_term, at_place, step, whole_at, parsed_from, empty_state, parsed}
use Rattle.spec_grammar.specs.Symbols.{Symbol, digits, name, plus, minus, times, opening, closing, equality, keyword, half, stray, blank}
use Rattle.spec_grammar.specs.Trees.{Tree, numeral, named, negated, enclosed, added, subtracted, multiplied}

-- the symbols that were read, in front of others
abbrev pub sum_before : Sum Tree → List Symbol → List Symbol
sum_before nothing rest = rest
sum_before (adds_to a) rest = written a ++ plus ∷ rest
sum_before (subtracts_from a) rest = written a ++ minus ∷ rest

abbrev pub product_before : Option Tree → List Symbol → List Symbol
product_before None rest = rest
product_before (Some a) rest = written a ++ times ∷ rest

abbrev pub minuses_before : ℕ → List Symbol → List Symbol
minuses_before zero rest = rest
minuses_before (suc n) rest = minuses_before n (minus ∷ rest)

abbrev pub front_before : Front Tree → List Symbol → List Symbol
front_before f rest = sum_before f.sum (product_before f.product (minuses_before f.minuses rest))

abbrev pub fronts_before : List (Front Tree) → List Symbol → List Symbol
fronts_before [] rest = rest
fronts_before (f ∷ fronts) rest = fronts_before fronts (front_before f (opening ∷ rest))

abbrev pub place_before : Place Tree → List Symbol → List Symbol
place_before (wants f) rest = front_before f rest
place_before (has s a) rest = sum_before s (written a ++ rest)

abbrev pub all_before : State Tree → List Symbol → List Symbol
all_before s rest = fronts_before s.open_fronts (place_before s.place rest)

one_more : (n : ℕ) (rest : List Symbol) → minuses_before n (minus ∷ rest) ≡ minus ∷ minuses_before n rest
one_more zero rest = refl
one_more (suc n) rest = one_more n (minus ∷ rest)

minused-written : (n : ℕ) (a : Tree) (rest : List Symbol) → written (minused on_trees n a) ++ rest ≡ minuses_before n (written a ++ rest)
minused-written zero a rest = refl
minused-written (suc n) a rest = ap (λ more. minus ∷ more) (minused-written n a rest) ∙ sym (one_more n (written a ++ rest))

product-written : (p : Option Tree) (a : Tree) (rest : List Symbol) → written (times_before on_trees p a) ++ rest ≡ product_before p (written a ++ rest)
product-written None a rest = refl
product-written (Some b) a rest = append_assoc (written b) (times ∷ written a) rest

term-written : (f : Front Tree) (a : Tree) (rest : List Symbol) → written (term_of on_trees f a) ++ rest ≡ product_before f.product (minuses_before f.minuses (written a ++ rest))
term-written f a rest = product-written f.product (minused on_trees f.minuses a) rest ∙ ap (product_before f.product) (minused-written f.minuses a rest)

joined-written : (s : Sum Tree) (a : Tree) (rest : List Symbol) → written (joined on_trees s a) ++ rest ≡ sum_before s (written a ++ rest)
joined-written nothing a rest = refl
joined-written (adds_to b) a rest = append_assoc (written b) (plus ∷ written a) rest
joined-written (subtracts_from b) a rest = append_assoc (written b) (minus ∷ written a) rest

-- the symbol that a step reads comes next
abbrev Reads : State Tree → Symbol → State Tree → Type 0
Reads s symbol t = (rest : List Symbol) → all_before t rest ≡ all_before s (symbol ∷ rest)

reads_same : (s : State Tree) (symbol : Symbol) (t u : State Tree) → Reads s symbol t → Some t ≡ Some u → Reads s symbol u
reads_same s symbol t u reads e rest = ap (λ v. all_before v rest) (sym (same_Some t u e)) ∙ reads rest

reads_factor : (fronts : List (Front Tree)) (f : Front Tree) (a : Tree) (symbol : Symbol) (u : State Tree) → written a ≡ symbol ∷ [] → Some (after_factor on_trees fronts f a) ≡ Some u → Reads (state fronts (wants f)) symbol u
reads_factor fronts f a symbol u w e =
    reads_same (state fronts (wants f)) symbol (after_factor on_trees fronts f a) u
    (λ rest. ap (λ line. fronts_before fronts (sum_before f.sum line)) (term-written f a rest ∙ ap (λ line. product_before f.product (minuses_before f.minuses (line ++ rest))) w))
    e

step_reads_front : (fronts : List (Front Tree)) (f : Front Tree) (symbol : Symbol) (u : State Tree) → at_front as_tree fronts f symbol ≡ Some u → Reads (state fronts (wants f)) symbol u
step_reads_front fronts f (digits ds) u e = reads_factor fronts f (numeral ds) (digits ds) u refl e
step_reads_front fronts f (name a) u e = reads_factor fronts f (named a) (name a) u refl e
step_reads_front fronts f plus u e = absurd (cc)
step_reads_front fronts f minus u e = reads_same (state fronts (wants f)) minus (state fronts (wants (front f.sum f.product (suc f.minuses)))) u (λ rest. refl) e
step_reads_front fronts f times u e = absurd (cc)
step_reads_front fronts f opening u e = reads_same (state fronts (wants f)) opening (state (f ∷ fronts) (wants empty_front)) u (λ rest. refl) e
step_reads_front fronts f closing u e = absurd (cc)
step_reads_front fronts f equality u e = absurd (cc)
step_reads_front fronts f keyword u e = absurd (cc)
step_reads_front fronts f half u e = absurd (cc)
step_reads_front fronts f stray u e = absurd (cc)
step_reads_front fronts f blank u e = absurd (cc)

reads_closing : (fronts : List (Front Tree)) (s : Sum Tree) (a : Tree) (u : State Tree) → closed on_trees fronts (joined on_trees s a) ≡ Some u → Reads (state fronts (has s a)) closing u
reads_closing [] s a u e = absurd (cc)
reads_closing (f ∷ fronts) s a u e =
    reads_same (state (f ∷ fronts) (has s a)) closing (after_factor on_trees fronts f (enclosed (joined on_trees s a))) u
    (λ rest. ap (λ line. fronts_before fronts (sum_before f.sum line)) (term-written f (enclosed (joined on_trees s a)) rest)
    ∙ ap (λ line. fronts_before fronts (front_before f (opening ∷ line))) (append_assoc (written (joined on_trees s a)) (closing ∷ []) rest ∙ joined-written s a (closing ∷ rest)))
    e

step_reads_term : (fronts : List (Front Tree)) (s : Sum Tree) (a : Tree) (symbol : Symbol) (u : State Tree) → at_term on_trees fronts s a symbol ≡ Some u → Reads (state fronts (has s a)) symbol u
step_reads_term fronts s a (digits ds) u e = absurd (cc)
step_reads_term fronts s a (name b) u e = absurd (cc)
step_reads_term fronts s a plus u e =
    reads_same (state fronts (has s a)) plus (state fronts (wants (front (adds_to (joined on_trees s a)) None 0))) u
    (λ rest. ap (fronts_before fronts) (joined-written s a (plus ∷ rest))) e
step_reads_term fronts s a minus u e =
    reads_same (state fronts (has s a)) minus (state fronts (wants (front (subtracts_from (joined on_trees s a)) None 0))) u
    (λ rest. ap (fronts_before fronts) (joined-written s a (minus ∷ rest))) e
step_reads_term fronts s a times u e = reads_same (state fronts (has s a)) times (state fronts (wants (front s (Some a) 0))) u (λ rest. refl) e
step_reads_term fronts s a opening u e = absurd (cc)
step_reads_term fronts s a closing u e = reads_closing fronts s a u e
step_reads_term fronts s a equality u e = absurd (cc)
step_reads_term fronts s a keyword u e = absurd (cc)
step_reads_term fronts s a half u e = absurd (cc)
step_reads_term fronts s a stray u e = absurd (cc)
step_reads_term fronts s a blank u e = absurd (cc)

step_reads : (fronts : List (Front Tree)) (place : Place Tree) (symbol : Symbol) (u : State Tree) → at_place as_tree fronts place symbol ≡ Some u → Reads (state fronts place) symbol u
step_reads fronts (wants f) symbol u e = step_reads_front fronts f symbol u e
step_reads fronts (has s a) symbol u e = step_reads_term fronts s a symbol u e

-- the ranks of what was read
abbrev pub IsSum : Sum Tree → Type 0
IsSum nothing = Unit {0}
IsSum (adds_to a) = stands_as expression a ≡ true
IsSum (subtracts_from a) = stands_as expression a ≡ true

abbrev pub IsProduct : Option Tree → Type 0
IsProduct None = Unit {0}
IsProduct (Some a) = stands_as term a ≡ true

pub record IsFront (f : Front Tree) : Type 0 where
  pub sum : IsSum f.sum
  pub product : IsProduct f.product

abbrev pub AreFronts : List (Front Tree) → Type 0
AreFronts [] = Unit {0}
AreFronts (f ∷ fronts) = IsFront f × AreFronts fronts

abbrev pub IsPlace : Place Tree → Type 0
IsPlace (wants f) = IsFront f
IsPlace (has s a) = IsSum s × (stands_as term a ≡ true)

pub record IsRanked (s : State Tree) : Type 0 where
  pub fronts : AreFronts s.open_fronts
  pub place : IsPlace s.place

pub term_of_factor : (a : Tree) → stands_as factor a ≡ true → stands_as term a ≡ true
term_of_factor (numeral ds) e = refl
term_of_factor (named a) e = refl
term_of_factor (negated a) e = e
term_of_factor (enclosed a) e = e
term_of_factor (added a b) e = absurd (cc)
term_of_factor (subtracted a b) e = absurd (cc)
term_of_factor (multiplied a b) e = absurd (cc)

pub expression_of_term : (a : Tree) → stands_as term a ≡ true → stands_as expression a ≡ true
expression_of_term (numeral ds) e = refl
expression_of_term (named a) e = refl
expression_of_term (negated a) e = e
expression_of_term (enclosed a) e = e
expression_of_term (added a b) e = absurd (cc)
expression_of_term (subtracted a b) e = absurd (cc)
expression_of_term (multiplied a b) e = e

minused_rank : (n : ℕ) (a : Tree) → stands_as factor a ≡ true → stands_as factor (minused on_trees n a) ≡ true
minused_rank zero a e = e
minused_rank (suc n) a e = minused_rank n a e

product_rank : (p : Option Tree) (a : Tree) → IsProduct p → stands_as factor a ≡ true → stands_as term (times_before on_trees p a) ≡ true
product_rank None a p e = term_of_factor a e
product_rank (Some b) a p e = rw (p, e) refl

joined_rank : (s : Sum Tree) (a : Tree) → IsSum s → stands_as term a ≡ true → stands_as expression (joined on_trees s a) ≡ true
joined_rank nothing a s e = expression_of_term a e
joined_rank (adds_to b) a s e = rw (s, e) refl
joined_rank (subtracts_from b) a s e = rw (s, e) refl

ranked : (fronts : List (Front Tree)) (place : Place Tree) (u : State Tree) → AreFronts fronts → IsPlace place → Some (state fronts place) ≡ Some u → IsRanked u
ranked fronts place u are is e =
    let P : State Tree → Type 0 = IsRanked in
    subst P (same_Some (state fronts place) u e) (record { fronts = are; place = is })

after_rank : (fronts : List (Front Tree)) (f : Front Tree) (a : Tree) (u : State Tree) → AreFronts fronts → IsFront f → stands_as factor a ≡ true → Some (after_factor on_trees fronts f a) ≡ Some u → IsRanked u
after_rank fronts f a u are is r e =
    ranked fronts (has f.sum (term_of on_trees f a)) u are (is.sum, product_rank f.product (minused on_trees f.minuses a) is.product (minused_rank f.minuses a r)) e

ranks_front : (fronts : List (Front Tree)) (f : Front Tree) (symbol : Symbol) (u : State Tree) → AreFronts fronts → IsFront f → at_front as_tree fronts f symbol ≡ Some u → IsRanked u
ranks_front fronts f (digits ds) u are is e = after_rank fronts f (numeral ds) u are is refl e
ranks_front fronts f (name a) u are is e = after_rank fronts f (named a) u are is refl e
ranks_front fronts f plus u are is e = absurd (cc)
ranks_front fronts f minus u are is e = ranked fronts (wants (front f.sum f.product (suc f.minuses))) u are (record { sum = is.sum; product = is.product }) e
ranks_front fronts f times u are is e = absurd (cc)
ranks_front fronts f opening u are is e = ranked (f ∷ fronts) (wants empty_front) u (is, are) (record { sum = tt; product = tt }) e
ranks_front fronts f closing u are is e = absurd (cc)
ranks_front fronts f equality u are is e = absurd (cc)
ranks_front fronts f keyword u are is e = absurd (cc)
ranks_front fronts f half u are is e = absurd (cc)
ranks_front fronts f stray u are is e = absurd (cc)
ranks_front fronts f blank u are is e = absurd (cc)

ranks_closing : (fronts : List (Front Tree)) (a : Tree) (u : State Tree) → AreFronts fronts → stands_as expression a ≡ true → closed on_trees fronts a ≡ Some u → IsRanked u
ranks_closing [] a u are r e = absurd (cc)
ranks_closing (f ∷ fronts) a u are r e = after_rank fronts f (enclosed a) u are.1 are.0 r e

ranks_term : (fronts : List (Front Tree)) (s : Sum Tree) (a : Tree) (symbol : Symbol) (u : State Tree) → AreFronts fronts → IsSum s → stands_as term a ≡ true → at_term on_trees fronts s a symbol ≡ Some u → IsRanked u
ranks_term fronts s a (digits ds) u are is r e = absurd (cc)
ranks_term fronts s a (name b) u are is r e = absurd (cc)
ranks_term fronts s a plus u are is r e = ranked fronts (wants (front (adds_to (joined on_trees s a)) None 0)) u are (record { sum = joined_rank s a is r; product = tt }) e
ranks_term fronts s a minus u are is r e = ranked fronts (wants (front (subtracts_from (joined on_trees s a)) None 0)) u are (record { sum = joined_rank s a is r; product = tt }) e
ranks_term fronts s a times u are is r e = ranked fronts (wants (front s (Some a) 0)) u are (record { sum = is; product = r }) e
ranks_term fronts s a opening u are is r e = absurd (cc)
ranks_term fronts s a closing u are is r e = ranks_closing fronts (joined on_trees s a) u are (joined_rank s a is r) e
ranks_term fronts s a equality u are is r e = absurd (cc)
ranks_term fronts s a keyword u are is r e = absurd (cc)
ranks_term fronts s a half u are is r e = absurd (cc)
ranks_term fronts s a stray u are is r e = absurd (cc)
ranks_term fronts s a blank u are is r e = absurd (cc)

step_ranks : (fronts : List (Front Tree)) (place : Place Tree) (symbol : Symbol) (u : State Tree) → AreFronts fronts → IsPlace place → at_place as_tree fronts place symbol ≡ Some u → IsRanked u
step_ranks fronts (wants f) symbol u are is e = ranks_front fronts f symbol u are is e
step_ranks fronts (has s a) symbol u are is e = ranks_term fronts s a symbol u are is.0 is.1 e

whole_writes : (fronts : List (Front Tree)) (place : Place Tree) (a : Tree) → IsPlace place → whole_at on_trees fronts place ≡ Some a → Writes a (fronts_before fronts (place_before place []))
whole_writes [] (wants f) a is e = absurd (cc)
whole_writes (f ∷ fronts) (wants g) a is e = absurd (cc)
whole_writes (f ∷ fronts) (has s b) a is e = absurd (cc)
whole_writes [] (has s b) a is e =
    let P : Tree → Type 0 = λ a. Writes a (sum_before s (written b ++ [])) in
    subst P (same_Some (joined on_trees s b) a e) (record {
      is_expression = joined_rank s b is.0 is.1;
      symbols = sym (append-nil (written (joined on_trees s b))) ∙ joined-written s b [];
    })

pub parsed_writes : (line : List Symbol) (s : State Tree) (a : Tree) → IsRanked s → parsed_from as_tree s line ≡ Some a → Writes a (all_before s line)
parsed_writes [] s a is e = whole_writes s.open_fronts s.place a is.place e
parsed_writes (symbol ∷ line) s a is e =
    option_and_then_some (λ next. parsed_from as_tree next line) (step as_tree s symbol) a e (λ next found rest.
    let w = parsed_writes line next a (step_ranks s.open_fronts s.place symbol next is.fronts is.place found) rest in
    record { is_expression = w.is_expression; symbols = w.symbols ∙ step_reads s.open_fronts s.place symbol next found line })

pub parsed_is_written : (line : List Symbol) (a : Tree) → parsed line ≡ Some a → Writes a line
parsed_is_written line a e = parsed_writes line empty_state a (record { fronts = tt; place = record { sum = tt; product = tt } }) e
