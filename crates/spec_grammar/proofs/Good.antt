-- What is read is well formed.
use Rattle.std.proofs.Common.{◌≡◌, ℕ, suc, ◌+◌, ◌<◌, ◌≤◌, Bool, true, false, not, ◌||◌, List, [], ◌∷◌, ◌++◌, length, map, All, Option, Some, None, is_none, refl, sym, ap, subst, ◌∙◌, arith, cond, ltb}
use Rattle.std.specs.List.{cons_option, list_any, position_or_len}
use Rattle.std.specs.Str.{bytes_eq}
use Rattle.std.proofs.lemmas.Bool.{or_parts, ltb-true, not-false}
use Rattle.std.proofs.lemmas.List.{length-map, length-append}
use Rattle.std.proofs.lemmas.List.Elements.{All-nil, All-cons, All-append}
use Rattle.std.proofs.lemmas.List.Folds.{list_any-append}
use Rattle.std.proofs.lemmas.Option.{cond_some}
use Rattle.circuits.specs.Circuit.{Circuit, net_count}
use Rattle.circuits.specs.Names.{net_of, names_of}
use Rattle.spec_grammar.specs.Grammar.{written}
use Rattle.spec_grammar.specs.Faults.{is_word, is_unknown_name, has_unknown, numbers}
use Rattle.spec_grammar.specs.Symbols.{Symbol, plus, minus, times, closing}
use Rattle.spec_grammar.specs.Trees.{Tree, numeral, named, negated, enclosed, added, subtracted, multiplied, word_number, formula}
use Rattle.spec_lang.specs.Named.{namings}
use Rattle.spec_lang.specs.Size.{size}
use Rattle.spec_lang.specs.Specification.{Word}
use Rattle.spec_lang.specs.WellFormed.{NamesBelow}

-- ---- an expression is no larger than its symbols, and names words that are there

pub size-formula : (words : List Word) (a : Tree) → size (formula words a) ≤ length (written a)
size-formula words (numeral ds) = omega arith
size-formula words (named a) = omega arith
size-formula words (negated a) = let h = size-formula words a in omega arith
size-formula words (enclosed a) = let h = size-formula words a in omega (arith, length-append (written a) (closing ∷ []))
size-formula words (added a b) = let h = size-formula words a in let k = size-formula words b in omega (arith, length-append (written a) (plus ∷ written b))
size-formula words (subtracted a b) = let h = size-formula words a in let k = size-formula words b in omega (arith, length-append (written a) (minus ∷ written b))
size-formula words (multiplied a b) = let h = size-formula words a in let k = size-formula words b in omega (arith, length-append (written a) (times ∷ written b))

place_below : (p : Word → Bool) (words : List Word) → list_any p words ≡ true → position_or_len p words < length words
place_below p [] e = absurd (cc)
place_below p (w ∷ words) e = at (p w) refl e (place_below p words)
  where
    at : (b : Bool) → p w ≡ b → (b || list_any p words) ≡ true → (list_any p words ≡ true → position_or_len p words < length words) → position_or_len p (w ∷ words) < length (w ∷ words)
    at true is e more =
        let first : position_or_len p (w ∷ words) ≡ 0 = ap (λ v. cond (not v) (1 + position_or_len p words) 0) is in
        omega arith
    at false is e more =
        let later : position_or_len p (w ∷ words) ≡ 1 + position_or_len p words = ap (λ v. cond (not v) (1 + position_or_len p words) 0) is in
        let h = more e in
        omega arith

both_known : (words : List Word) (xs ys : List Symbol) → list_any (is_unknown_name words) (xs ++ ys) ≡ false → (list_any (is_unknown_name words) xs ≡ false) × (list_any (is_unknown_name words) ys ≡ false)
both_known words xs ys e = or_parts _ _ (sym (list_any-append (is_unknown_name words) xs ys) ∙ e)

two_names : (words : List Word) (a b : Tree) (sign : Symbol) → is_unknown_name words sign ≡ false → list_any (is_unknown_name words) (written a ++ sign ∷ written b) ≡ false
    → (list_any (is_unknown_name words) (written a) ≡ false) × (list_any (is_unknown_name words) (written b) ≡ false)
two_names words a b sign s e =
    let parts = both_known words (written a) (sign ∷ written b) e in
    (parts.0, (or_parts (is_unknown_name words sign) _ parts.1).1)

pub names-formula : (words : List Word) (a : Tree) → list_any (is_unknown_name words) (written a) ≡ false → NamesBelow (length words) (formula words a)
names-formula words (numeral ds) e = All-nil (λ w. w < length words)
names-formula words (named a) e =
    let known = not-false (is_word words a) (or_parts (not (is_word words a)) false e).0 in
    All-cons (λ w. w < length words) (word_number words a) [] (place_below (λ w. bytes_eq a w.name) words known) (All-nil (λ w. w < length words))
names-formula words (negated a) e = names-formula words a e
names-formula words (enclosed a) e = names-formula words a (both_known words (written a) (closing ∷ []) e).0
names-formula words (added a b) e =
    let parts = two_names words a b plus refl e in
    All-append (λ w. w < length words) (namings (formula words a)) (namings (formula words b)) (names-formula words a parts.0) (names-formula words b parts.1)
names-formula words (subtracted a b) e =
    let parts = two_names words a b minus refl e in
    All-append (λ w. w < length words) (namings (formula words a)) (namings (formula words b)) (names-formula words a parts.0) (names-formula words b parts.1)
names-formula words (multiplied a b) e =
    let parts = two_names words a b times refl e in
    All-append (λ w. w < length words) (namings (formula words a)) (namings (formula words b)) (names-formula words a parts.0) (names-formula words b parts.1)

-- ---- the numbers of nets that are there

place_within : (n len i : ℕ) → cond (ltb n len) (Some n) None ≡ Some i → i < len
place_within n len i e = let p = cond_some (ltb n len) n i e in subst (λ k. k < len) p.1 (ltb-true n len p.0)

net_within : (c : Circuit) (net : List ℕ) (n : ℕ) → net_of c net ≡ Some n → n < net_count c
net_within c net n e =
    let within : n < length (names_of c) = place_within (position_or_len (bytes_eq net) (names_of c)) (length (names_of c)) n e in
    omega (arith, length-append c.inputs (map (λ gate. gate.name) c.gates), length-map c.gates (λ gate. gate.name))

pub numbers_within : (c : Circuit) (nets : List (List ℕ)) → All (λ n. n < net_count c) (numbers c nets)
numbers_within c [] = All-nil (λ n. n < net_count c)
numbers_within c (net ∷ nets) = at (net_of c net) refl (numbers_within c nets)
  where
    at : (o : Option ℕ) → net_of c net ≡ o → All (λ n. n < net_count c) (numbers c nets) → All (λ n. n < net_count c) (cons_option o (numbers c nets))
    at None is more = more
    at (Some n) is more = All-cons (λ n. n < net_count c) n (numbers c nets) (net_within c net n is) more

pub length-numbers : (c : Circuit) (nets : List (List ℕ)) → has_unknown c nets ≡ false → length (numbers c nets) ≡ length nets
length-numbers c [] e = refl
length-numbers c (net ∷ nets) e =
    let parts = or_parts (is_none (net_of c net)) (has_unknown c nets) e in
    at (net_of c net) parts.0 (length-numbers c nets parts.1)
  where
    at : (o : Option ℕ) → is_none o ≡ false → length (numbers c nets) ≡ length nets → length (cons_option o (numbers c nets)) ≡ length (net ∷ nets)
    at None e more = absurd (cc)
    at (Some n) e more = ap suc more
