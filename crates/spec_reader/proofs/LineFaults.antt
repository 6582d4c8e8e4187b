-- The fault of a line of nets, test by test.
use Rattle.std.proofs.Common.{◌≡◌, ℕ, ◌<◌, Bool, true, false, not, ◌||◌, ◌&&◌, cond, List, [], ◌∷◌, length, map, get_or, nat_lt, nat_le, Option, Some, None, ◌==◌, refl, ap, ◌∙◌, arith}
use Rattle.std.specs.List.{list_all, list_any}
use Rattle.std.proofs.lemmas.Bool.Decides.{nat_tests}
use Rattle.circuits.specs.Circuit.{Circuit, input_count}
use Rattle.circuits.specs.Limits.{is_long}
use Rattle.spec_grammar.specs.declared.fault.SpecCause.{SpecCause}
use Rattle.spec_grammar.specs.declared.fault.SpecCause.TheVariants.{BadLine, UnknownNet, DuplicateWord, BadOrder, BadSplit, SplitNotForKind, TooLarge}
use Rattle.spec_grammar.specs.Faults.{numbers, has_unknown, is_no_order, is_no_split, is_word, first_cause}
use Rattle.spec_grammar.specs.Forms.{are_nets, order_line, split_line, word_line, no_form, order_form, split_with, split_form, word_form}
use Rattle.spec_grammar.specs.Names.{letter, is_word_name}
use Rattle.spec_lang.specs.Specification.{Word, named_word}
use Rattle.spec_lang.specs.declared.limits.TheConstants.{MOST_WORDS, MOST_NETS_OF_WORD}
use Rattle.spec_reader.specs.Steps.{has_some, is_net_list, split_named, order_fault, order_said, split_fault, split_said, word_fault, word_said}
use Rattle.word_base.specs.Kind.{is_allowed}
use Rattle.word_base.specs.declared.decomp.Decomp.{Decomp}
use Rattle.word_base.specs.declared.kind_name.KindName.{KindName}

pub has_some-map : {X : Type 0} (see : X → List ℕ) (xs : List X) → not (length xs == 0) ≡ has_some (map see xs)
has_some-map see [] = refl
has_some-map see (x ∷ xs) = grind (arith, nat_tests)

pub list_all-map : {X Y : Type 0} (p : Y → Bool) (f : X → Y) (xs : List X) → list_all (λ x. p (f x)) xs ≡ list_all p (map f xs)
list_all-map p f [] = refl
list_all-map p f (x ∷ xs) = ap (λ b. p (f x) && b) (list_all-map p f xs)

pub list_any-map : {X Y : Type 0} (p : Y → Bool) (f : X → Y) (xs : List X) → list_any (λ x. p (f x)) xs ≡ list_any p (map f xs)
list_any-map p f [] = refl
list_any-map p f (x ∷ xs) = ap (λ b. p (f x) || b) (list_any-map p f xs)

-- what the numbers of all nets tell
pub unknown_if : {A : Type 0} (b : Bool) (x : A) → None ≡ cond b None (Some x) → b ≡ true
unknown_if true x e = refl
unknown_if false x e = absurd (cc)

pub known_if : {A : Type 0} (b : Bool) (x y : A) → Some y ≡ cond b None (Some x) → (b ≡ false) × (y ≡ x)
known_if true x y e = absurd (cc)
known_if false x y e = (refl, cc)

-- ---- order

order_formed : (nets : List (List ℕ)) → is_net_list nets ≡ true → order_form nets ≡ order_line nets
order_formed [] e = absurd (cc)
order_formed (net ∷ more) e = ap (λ b. cond b (order_line (net ∷ more)) no_form) e

order_unformed : (nets : List (List ℕ)) → is_net_list nets ≡ false → order_form nets ≡ no_form
order_unformed [] e = refl
order_unformed (net ∷ more) e = ap (λ b. cond b (order_line (net ∷ more)) no_form) e

module _ (c : Circuit) (given : Bool) (nets : List (List ℕ)) where
  abbrev order_tests : Bool → Bool → Bool → Option SpecCause
  order_tests l u w = first_cause ((l, TooLarge) ∷ (u, UnknownNet) ∷ (w, BadOrder) ∷ [])

  at_order : is_net_list nets ≡ true → order_fault c given (order_form nets) ≡ order_tests (list_any is_long nets) (has_unknown c nets) (given || is_no_order (input_count c) (numbers c nets))
  at_order is = ap (order_fault c given) (order_formed nets is)

  pub order-bad : is_net_list nets ≡ false → order_fault c given (order_form nets) ≡ Some BadLine
  order-bad is = ap (order_fault c given) (order_unformed nets is)

  pub order-long : is_net_list nets ≡ true → list_any is_long nets ≡ true → order_fault c given (order_form nets) ≡ Some TooLarge
  order-long is l = at_order is ∙ ap (λ b. order_tests b (has_unknown c nets) (given || is_no_order (input_count c) (numbers c nets))) l

  shorter : (u w : Bool) → list_any is_long nets ≡ false → order_tests (list_any is_long nets) u w ≡ order_tests false u w
  shorter u w l = ap (λ b. order_tests b u w) l

  pub order-unknown : is_net_list nets ≡ true → list_any is_long nets ≡ false → has_unknown c nets ≡ true → order_fault c given (order_form nets) ≡ Some UnknownNet
  order-unknown is l u = at_order is ∙ shorter (has_unknown c nets) _ l ∙ ap (λ b. order_tests false b (given || is_no_order (input_count c) (numbers c nets))) u

  pub order-told : is_net_list nets ≡ true → list_any is_long nets ≡ false → has_unknown c nets ≡ false → (w : Bool) → (given || is_no_order (input_count c) (numbers c nets)) ≡ w → order_fault c given (order_form nets) ≡ order_tests false false w
  order-told is l u w e =
      at_order is ∙ shorter (has_unknown c nets) _ l ∙ ap (λ b. order_tests false b (given || is_no_order (input_count c) (numbers c nets))) u ∙ ap (order_tests false false) e

  pub order-said : is_net_list nets ≡ true → order_said c (order_form nets) ≡ numbers c nets
  order-said is = ap (order_said c) (order_formed nets is)

-- ---- split

split_parts : (l : Option Decomp) (net : List ℕ) (more : List (List ℕ)) → split_with l (net ∷ more) ≡ split_named l (net ∷ more)
split_parts None net more = refl
split_parts (Some l) net more = refl

split_empty : (l : Option Decomp) → no_form ≡ split_named l []
split_empty None = refl
split_empty (Some l) = refl

pub split-named : (text : List ℕ) (nets : List (List ℕ)) → split_form (text ∷ nets) ≡ split_named (letter text) nets
split-named text [] = split_empty (letter text)
split-named text (net ∷ more) = split_parts (letter text) net more

split_formed : (l : Option Decomp) (nets : List (List ℕ)) (letter : Decomp) → l ≡ Some letter → is_net_list nets ≡ true → split_named l nets ≡ split_line letter nets
split_formed None nets letter e is = absurd (cc)
split_formed (Some l) nets letter e is =
    let same : l ≡ letter = cc in
    ap (λ b. cond b (split_line l nets) no_form) is ∙ ap (λ l. split_line l nets) same

split_unformed : (l : Option Decomp) (nets : List (List ℕ)) → is_net_list nets ≡ false → split_named l nets ≡ no_form
split_unformed None nets is = refl
split_unformed (Some l) nets is = ap (λ b. cond b (split_line l nets) no_form) is

module _ (c : Circuit) (k : KindName) (letters : List (ℕ × Decomp)) (o : Option Decomp) (nets : List (List ℕ)) where
  abbrev split_tests : Bool → Bool → Bool → Bool → Option SpecCause
  split_tests l u w n = first_cause ((l, TooLarge) ∷ (u, UnknownNet) ∷ (w, BadSplit) ∷ (n, SplitNotForKind) ∷ [])

  pub split-unnamed : o ≡ None → split_fault c k letters (split_named o nets) ≡ Some BadLine
  split-unnamed e = ap (λ o. split_fault c k letters (split_named o nets)) e

  pub split-bad : is_net_list nets ≡ false → split_fault c k letters (split_named o nets) ≡ Some BadLine
  split-bad is = ap (split_fault c k letters) (split_unformed o nets is)

  module _ (l : Decomp) (e : o ≡ Some l) (is : is_net_list nets ≡ true) where
    abbrev long : Bool
    long = list_any is_long nets

    abbrev unknown : Bool
    unknown = has_unknown c nets

    abbrev wrong : Bool
    wrong = is_no_split (input_count c) letters (numbers c nets)

    abbrev other : Bool
    other = not (is_allowed k l)

    told : split_fault c k letters (split_named o nets) ≡ split_tests long unknown wrong other
    told = ap (split_fault c k letters) (split_formed o nets l e is)

    pub split-long : long ≡ true → split_fault c k letters (split_named o nets) ≡ Some TooLarge
    split-long h = told ∙ ap (λ b. split_tests b unknown wrong other) h

    pub split-unknown : long ≡ false → unknown ≡ true → split_fault c k letters (split_named o nets) ≡ Some UnknownNet
    split-unknown h u = told ∙ ap (λ b. split_tests b unknown wrong other) h ∙ ap (λ b. split_tests false b wrong other) u

    pub split-told : long ≡ false → unknown ≡ false → (w n : Bool) → wrong ≡ w → other ≡ n → split_fault c k letters (split_named o nets) ≡ split_tests false false w n
    split-told h u w n f g =
        told ∙ ap (λ b. split_tests b unknown wrong other) h ∙ ap (λ b. split_tests false b wrong other) u ∙ ap (λ b. split_tests false false b other) f ∙ ap (split_tests false false w) g

    pub split-said : split_said c (split_named o nets) ≡ Some (l, numbers c nets)
    split-said = ap (split_said c) (split_formed o nets l e is)

-- ---- word

pub word-names : (c : Circuit) (words : List Word) (names nets : List (List ℕ)) → (length names ≡ 1 → ⊥) → word_fault c words (word_form names nets) ≡ Some BadLine
word-names c words [] nets e = refl
word-names c words (name ∷ []) nets e = absurd (e refl)
word-names c words (name ∷ other ∷ names) [] e = refl
word-names c words (name ∷ other ∷ names) (net ∷ nets) e = refl

alone : (names : List (List ℕ)) → length names ≡ 1 → names ≡ get_or names 0 [] ∷ []
alone [] e = absurd (cc)
alone (name ∷ []) e = refl
alone (name ∷ other ∷ names) e = absurd (omega arith)

word_formed : (name : List ℕ) (nets : List (List ℕ)) → is_word_name name ≡ true → is_net_list nets ≡ true → word_form (name ∷ []) nets ≡ word_line name nets
word_formed name [] n is = absurd (cc)
word_formed name (net ∷ more) n is = ap (λ b. cond (b && are_nets (net ∷ more)) (word_line name (net ∷ more)) no_form) n ∙ ap (λ b. cond b (word_line name (net ∷ more)) no_form) is

word_unnamed : (name : List ℕ) (nets : List (List ℕ)) → is_word_name name ≡ false → word_form (name ∷ []) nets ≡ no_form
word_unnamed name [] n = refl
word_unnamed name (net ∷ more) n = ap (λ b. cond (b && are_nets (net ∷ more)) (word_line name (net ∷ more)) no_form) n

and_false : (a b : Bool) → b ≡ false → (a && b) ≡ false
and_false true b e = e
and_false false b e = refl

word_unformed : (name : List ℕ) (nets : List (List ℕ)) → is_net_list nets ≡ false → word_form (name ∷ []) nets ≡ no_form
word_unformed name [] is = refl
word_unformed name (net ∷ more) is = ap (λ b. cond b (word_line name (net ∷ more)) no_form) (and_false (is_word_name name) (are_nets (net ∷ more)) is)

module _ (c : Circuit) (words : List Word) (names nets : List (List ℕ)) (name : List ℕ) (one : length names ≡ 1) (at : get_or names 0 [] ≡ name) where
  abbrev word_tests : Bool → Bool → Bool → Option SpecCause
  word_tests l d u = first_cause ((l, TooLarge) ∷ (d, DuplicateWord) ∷ (u, UnknownNet) ∷ [])

  named_so : names ≡ name ∷ []
  named_so = alone names one ∙ ap (λ n. n ∷ []) at

  pub word-unnamed : is_word_name name ≡ false → word_fault c words (word_form names nets) ≡ Some BadLine
  word-unnamed n = ap (λ ns. word_fault c words (word_form ns nets)) named_so ∙ ap (word_fault c words) (word_unnamed name nets n)

  pub word-bad : is_net_list nets ≡ false → word_fault c words (word_form names nets) ≡ Some BadLine
  word-bad is = ap (λ ns. word_fault c words (word_form ns nets)) named_so ∙ ap (word_fault c words) (word_unformed name nets is)

  module _ (n : is_word_name name ≡ true) (is : is_net_list nets ≡ true) where
    abbrev large : Bool
    large = is_long name || list_any is_long nets || nat_lt MOST_NETS_OF_WORD (length nets) || nat_le MOST_WORDS (length words)

    at_word : word_form names nets ≡ word_line name nets
    at_word = ap (λ ns. word_form ns nets) named_so ∙ word_formed name nets n is

    word_told : word_fault c words (word_form names nets) ≡ word_tests large (is_word words name) (has_unknown c nets)
    word_told = ap (word_fault c words) at_word

    pub word-large : large ≡ true → word_fault c words (word_form names nets) ≡ Some TooLarge
    word-large h = word_told ∙ ap (λ b. word_tests b (is_word words name) (has_unknown c nets)) h

    pub word-duplicate : large ≡ false → is_word words name ≡ true → word_fault c words (word_form names nets) ≡ Some DuplicateWord
    word-duplicate h d = word_told ∙ ap (λ b. word_tests b (is_word words name) (has_unknown c nets)) h ∙ ap (λ b. word_tests false b (has_unknown c nets)) d

    pub word-nets : large ≡ false → is_word words name ≡ false → (u : Bool) → has_unknown c nets ≡ u → word_fault c words (word_form names nets) ≡ word_tests false false u
    word-nets h d u e =
        word_told ∙ ap (λ b. word_tests b (is_word words name) (has_unknown c nets)) h ∙ ap (λ b. word_tests false b (has_unknown c nets)) d ∙ ap (word_tests false false) e

    pub word-said : word_said c (word_form names nets) ≡ Some (named_word name (numbers c nets))
    word-said = ap (word_said c) at_word

pub some_length : (nets : List (List ℕ)) → has_some nets ≡ true → 0 < length nets
some_length [] e = absurd (cc)
some_length (net ∷ nets) e = omega arith
