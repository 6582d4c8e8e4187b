-- Sets of ids, as the list of whether each id from 1 on is in the set.
use Rattle.std.specs.Prelude.{◌≡◌, ℕ, ◌-◌, List, [], ◌∷◌, Bool, true, false, replicate, get_or, set, refl}
use Rattle.std.specs.List.{count_by}

-- no id from 1 to the number is in the set
abbrev pub none_of : ℕ → List Bool
none_of cells = replicate cells false

abbrev pub is_marked : List Bool → ℕ → Bool
is_marked marks id = get_or marks (id - 1) false

-- the id too, where it is from 1 to the number
abbrev pub with_mark : List Bool → ℕ → List Bool
with_mark marks id = set marks (id - 1) true

-- how many ids are in the set
abbrev pub marked_count : List Bool → ℕ
marked_count marks = count_by (λ b. b) marks

-- ---- examples
none-of_three : none_of 3 ≡ false ∷ false ∷ false ∷ []
none-of_three = refl

second-marked : with_mark (none_of 3) 2 ≡ false ∷ true ∷ false ∷ []
second-marked = refl

second-has : is_marked (with_mark (none_of 3) 2) 2 ≡ true
second-has = refl

first-has_not : is_marked (with_mark (none_of 3) 2) 1 ≡ false
first-has_not = refl

two-counted : marked_count (with_mark (with_mark (none_of 3) 3) 1) ≡ 2
two-counted = refl
