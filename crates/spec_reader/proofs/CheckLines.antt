-- The fault of a check, by the nestings of its sides.
use Rattle.std.proofs.Common.{◌≡◌, ℕ, ◌+◌, Bool, true, false, not, ◌||◌, cond, List, [], ◌∷◌, length, map, take, drop, Option, Some, None, option_map, is_some, position, ltb, nat_lt, nat_le, refl, sym, ap, ◌∙◌}
use Rattle.std.specs.List.{list_all, list_any, position_or_len, before_first, after_first}
use Rattle.std.proofs.lemmas.Bool.{or_parts, and_parts}
use Rattle.std.proofs.lemmas.List.{take-append-drop, take-map, drop-map}
use Rattle.std.proofs.lemmas.List.Folds.{list_all-append}
use Rattle.std.proofs.lemmas.Option.{cond_some}
use Rattle.spec_grammar.specs.declared.fault.SpecCause.TheVariants.{BadLine, TooLarge, NumberTooLarge, UnknownWord}
use Rattle.spec_grammar.specs.Faults.{has_long_name, is_great, is_unknown_name, first_cause}
use Rattle.spec_grammar.specs.declared.limits.TheConstants.{MOST_NESTING}
use Rattle.spec_lang.specs.declared.limits.TheConstants.{MOST_CHECKS, MOST_SYMBOLS}
use Rattle.spec_grammar.specs.Forms.{check_of}
use Rattle.spec_grammar.specs.Symbols.{Symbol}
use Rattle.spec_grammar.specs.Trees.{Tree, nesting, formula}
use Rattle.spec_lang.specs.Formula.{Formula}
use Rattle.spec_lang.specs.Specification.{Word}
use Rattle.spec_reader.specs.Good.{has_digits, is_good}
use Rattle.spec_reader.specs.Steps.{check_tests, check_fault, check_said, sides_said}

pub no_left : (words : List Word) (checks : ℕ) (line : List Symbol) (a b : Option Tree) → None ≡ option_map nesting a → check_fault words checks (check_of line a b) ≡ Some BadLine
no_left words checks line None None e = refl
no_left words checks line None (Some b) e = refl
no_left words checks line (Some a) b e = absurd (cc)

pub no_right : (words : List Word) (checks : ℕ) (line : List Symbol) (a b : Option Tree) → None ≡ option_map nesting b → check_fault words checks (check_of line a b) ≡ Some BadLine
no_right words checks line None None e = refl
no_right words checks line (Some a) None e = refl
no_right words checks line a (Some b) e = absurd (cc)

-- both sides are expressions
pub record HasSides (words : List Word) (checks : ℕ) (line : List Symbol) (a b : Option Tree) (left right : ℕ) : Type 0 where
  pub fault : check_fault words checks (check_of line a b) ≡ check_tests words checks line left right
  pub said : check_said words (check_of line a b) ≡ sides_said words a b
  pub left_some : is_some a ≡ true
  pub right_some : is_some b ≡ true

pub has_sides : (words : List Word) (checks : ℕ) (line : List Symbol) (a b : Option Tree) (left right : ℕ) → Some left ≡ option_map nesting a → Some right ≡ option_map nesting b → HasSides words checks line a b left right
has_sides words checks line None b left right e f = absurd (cc)
has_sides words checks line (Some a) None left right e f = absurd (cc)
has_sides words checks line (Some a) (Some b) left right e f =
    let same : left ≡ nesting a = cc in
    let same_too : right ≡ nesting b = cc in
    record {
      fault = sym (ap (λ n. check_tests words checks line n right) same ∙ ap (check_tests words checks line (nesting a)) same_too);
      said = refl;
      left_some = refl;
      right_some = refl;
    }

-- symbols that no test finds anything wrong with
pub all_good : (words : List Word) (line : List Symbol) → list_all has_digits line ≡ true → list_any is_great line ≡ false → list_any (is_unknown_name words) line ≡ false → list_all (is_good words) line ≡ true
all_good words [] d g u = refl
all_good words (s ∷ line) d g u =
    let ds = and_parts (has_digits s) (list_all has_digits line) d in
    let gs = or_parts (is_great s) (list_any is_great line) g in
    let us = or_parts (is_unknown_name words s) (list_any (is_unknown_name words) line) u in
    rw (ds.0, gs.0, us.0) (all_good words line ds.1 gs.1 us.1)

both_parts : (p : Symbol → Bool) (n : ℕ) (line : List Symbol) → list_all p line ≡ true → (list_all p (take n line) ≡ true) × (list_all p (drop n line) ≡ true)
both_parts p n line e = and_parts (list_all p (take n line)) (list_all p (drop n line)) (sym (list_all-append p (take n line) (drop n line)) ∙ ap (list_all p) (take-append-drop n line) ∙ e)

pub front_good : (p : Symbol → Bool) (n : ℕ) (line : List Symbol) → list_all p line ≡ true → list_all p (take n line) ≡ true
front_good p n line e = (both_parts p n line e).0

pub back_good : (p : Symbol → Bool) (n : ℕ) (line : List Symbol) → list_all p line ≡ true → list_all p (drop n line) ≡ true
back_good p n line e = (both_parts p n line e).1

-- ---- of a list that is seen as another

place-map : {X Y : Type 0} (p : Y → Bool) (see : X → Y) (xs : List X) → position_or_len p (map see xs) ≡ position_or_len (λ x. p (see x)) xs
place-map p see [] = refl
place-map p see (x ∷ xs) = ap (λ n. cond (not (p (see x))) (1 + n) 0) (place-map p see xs)

pub before-map : {X Y : Type 0} (p : Y → Bool) (see : X → Y) (xs : List X) → before_first p (map see xs) ≡ map see (take (position_or_len (λ x. p (see x)) xs) xs)
before-map p see xs = ap (λ n. take n (map see xs)) (place-map p see xs) ∙ take-map see (position_or_len (λ x. p (see x)) xs) xs

pub after-map : {X Y : Type 0} (p : Y → Bool) (see : X → Y) (xs : List X) → after_first p (map see xs) ≡ map see (drop (position_or_len (λ x. p (see x)) xs + 1) xs)
after-map p see xs = ap (λ n. drop (n + 1) (map see xs)) (place-map p see xs) ∙ drop-map see (position_or_len (λ x. p (see x)) xs + 1) xs

pub place_is : {X : Type 0} (p : X → Bool) (xs : List X) (k : ℕ) → position p xs ≡ Some k → position_or_len p xs ≡ k
place_is p xs k e = (cond_some (ltb (position_or_len p xs) (length xs)) (position_or_len p xs) k e).1

-- ---- the sides of a check

pub some_since : {A B C : Type 0} (f : A → C) (g : B → C) (a : Option A) (b : Option B) → option_map f a ≡ option_map g b → is_some b ≡ true → is_some a ≡ true
some_since f g None None e is = absurd (cc)
some_since f g None (Some y) e is = absurd (cc)
some_since f g (Some x) b e is = refl

pub sides_since : (words : List Word) (l r : Formula) (a b : Option Tree) → Some l ≡ option_map (formula words) a → Some r ≡ option_map (formula words) b → sides_said words a b ≡ Some (record { left = l; right = r })
sides_since words l r None b e f = absurd (cc)
sides_since words l r (Some a) None e f = absurd (cc)
sides_since words l r (Some a) (Some b) e f =
    let left : l ≡ formula words a = cc in
    let right : r ≡ formula words b = cc in
    sym (ap (λ x. Some (record { left = x; right = r })) left ∙ ap (λ x. Some (record { left = formula words a; right = x })) right)

abbrev pub is_large : ℕ → List Symbol → ℕ → ℕ → Bool
is_large checks line left right =
    list_any has_long_name line || nat_lt MOST_SYMBOLS (length line) || nat_le MOST_CHECKS checks || nat_lt MOST_NESTING left || nat_lt MOST_NESTING right

pub check-told : (words : List Word) (checks : ℕ) (line : List Symbol) (left right : ℕ) (t g u : Bool) → is_large checks line left right ≡ t → list_any is_great line ≡ g → list_any (is_unknown_name words) line ≡ u
    → check_tests words checks line left right ≡ first_cause ((t, TooLarge) ∷ (g, NumberTooLarge) ∷ (u, UnknownWord) ∷ [])
check-told words checks line left right t g u e f h =
    ap (λ b. first_cause ((b, TooLarge) ∷ (list_any is_great line, NumberTooLarge) ∷ (list_any (is_unknown_name words) line, UnknownWord) ∷ [])) e
    ∙ ap (λ b. first_cause ((t, TooLarge) ∷ (b, NumberTooLarge) ∷ (list_any (is_unknown_name words) line, UnknownWord) ∷ [])) f
    ∙ ap (λ b. first_cause ((t, TooLarge) ∷ (g, NumberTooLarge) ∷ (b, UnknownWord) ∷ [])) h
