-- The words and the nets that a check names, in the order of naming.
use Rattle.std.specs.Prelude.{◌≡◌, ℕ, ◌==◌, not, List, [], ◌∷◌, ◌++◌, filter, flat_map, refl}
use Rattle.spec_lang.specs.Formula.{Formula, number, word, negative, sum, difference, product}
use Rattle.spec_lang.specs.Specification.{Word, Check, Specification, half_adder, half_adder_check}
use Rattle.spec_lang.specs.Value.{nets_of}

-- each number once, at its first place
abbrev pub each_once : List ℕ → List ℕ
each_once [] = []
each_once (x ∷ xs) = x ∷ filter (λ y. not (x == y)) (each_once xs)

-- the number of each word, as often as it is named, from left to right
abbrev pub namings : Formula → List ℕ
namings (number z) = []
namings (word w) = w ∷ []
namings (negative a) = namings a
namings (sum a b) = namings a ++ namings b
namings (difference a b) = namings a ++ namings b
namings (product a b) = namings a ++ namings b

-- the number of each word that the formula names, once, in the order of first naming
abbrev pub words_named : Formula → List ℕ
words_named formula = each_once (namings formula)

-- the number of each word that the check names, once, the left side first
abbrev pub words_of_check : Check → List ℕ
words_of_check check = each_once (words_named check.left ++ words_named check.right)

-- the nets of these words, each once, in the order of first naming, in a word the net of weight 1 first
abbrev pub nets_of_words : List Word → List ℕ → List ℕ
nets_of_words words numbers = each_once (flat_map (nets_of words) numbers)

-- the nets that the words of one side name
abbrev pub nets_of_side : Specification → Formula → List ℕ
nets_of_side spec side = nets_of_words spec.words (words_named side)

-- the nets that the check's words name, the left side first
abbrev pub nets_named : Specification → Check → List ℕ
nets_named spec check = nets_of_words spec.words (words_named check.left ++ words_named check.right)

each_once_first : each_once (3 ∷ 1 ∷ 3 ∷ 2 ∷ 1 ∷ []) ≡ 3 ∷ 1 ∷ 2 ∷ []
each_once_first = refl

-- w1 - w0 * -w1
namings_of_difference : namings (difference (word 1) (product (word 0) (negative (word 1)))) ≡ 1 ∷ 0 ∷ 1 ∷ []
namings_of_difference = refl

half_adder_words : words_named half_adder_check.left ≡ 2 ∷ 3 ∷ []
half_adder_words = refl

half_adder_nets : nets_named half_adder half_adder_check ≡ 2 ∷ 3 ∷ 0 ∷ 1 ∷ []
half_adder_nets = refl

half_adder_right_nets : nets_of_side half_adder half_adder_check.right ≡ 0 ∷ 1 ∷ []
half_adder_right_nets = refl

half_adder_check_words : words_of_check half_adder_check ≡ 2 ∷ 3 ∷ 0 ∷ 1 ∷ []
half_adder_check_words = refl
