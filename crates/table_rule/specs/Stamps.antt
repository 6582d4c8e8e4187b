-- What a stamp tells. It begins with how many numbers name the table, has these, and then the number of the table's tokens.
-- Behind them stand how many cells were given up to the pass, how many passes have met in it, 1 where it was forked and else 0,
-- and its tokens.
use Rattle.std.specs.Prelude.{◌≡◌, ℕ, ◌+◌, List, [], ◌∷◌, slice_index, take, drop, refl}

-- how many of its numbers tell of the table
abbrev pub table_length : List ℕ → ℕ
table_length stamp = 2 + slice_index stamp 0

-- the numbers that tell of the table
abbrev pub table_part : List ℕ → List ℕ
table_part stamp = take (table_length stamp) stamp

abbrev pub pass_part : List ℕ → List ℕ
pass_part stamp = drop (table_length stamp) stamp

-- how many tokens the table has, the last of the numbers that tell of it
abbrev pub last_of : List ℕ → ℕ
last_of part = slice_index part (1 + slice_index part 0)

abbrev pub token_count : List ℕ → ℕ
token_count stamp = last_of (table_part stamp)

abbrev pub gone_count : List ℕ → ℕ
gone_count stamp = slice_index (pass_part stamp) 0

abbrev pub joined_count : List ℕ → ℕ
joined_count stamp = slice_index (pass_part stamp) 1

abbrev pub forked_mark : List ℕ → ℕ
forked_mark stamp = slice_index (pass_part stamp) 2

abbrev pub tokens_in : List ℕ → List ℕ
tokens_in stamp = drop 3 (pass_part stamp)

-- the numbers 7 and 9 name the table, which has 4 tokens
abbrev pub worked : List ℕ
worked = 2 ∷ 7 ∷ 9 ∷ 4 ∷ 256 ∷ 1 ∷ 0 ∷ 3 ∷ 0 ∷ []

worked_table : table_part worked ≡ 2 ∷ 7 ∷ 9 ∷ 4 ∷ []
worked_table = refl

worked_tokens : token_count worked ≡ 4
worked_tokens = refl

worked_gone : gone_count worked ≡ 256
worked_gone = refl

worked_joined : joined_count worked ≡ 1
worked_joined = refl

worked_mark : forked_mark worked ≡ 0
worked_mark = refl

worked_own : tokens_in worked ≡ 3 ∷ 0 ∷ []
worked_own = refl
