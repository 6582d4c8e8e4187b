-- Which buckets a body is looked for in.
use Rattle.std.specs.Prelude.{◌≡◌, ℕ, ◌+◌, ◌*◌, ◌/◌, ◌%◌, ◌^◌, List, [], ◌∷◌, map, bit_xor, fold, refl}

-- one word of a body goes into the hash
unfoldable pub mixed : ℕ → ℕ → ℕ
mixed h word =
    let product = bit_xor h word * 0x9E3779B97F4A7C15 % 2 ^ 64 in
    bit_xor product (product / 2 ^ 29)

-- the words go in one after another, from 0
abbrev pub hash_of : List ℕ → ℕ
hash_of body = fold mixed 0 body

-- the bucket at which the path of a body begins
abbrev pub start_of : List ℕ → ℕ → ℕ
start_of body buckets = hash_of body % buckets

-- the bucket at a distance on the path, which goes on from the last bucket to bucket 0
abbrev pub path_bucket : List ℕ → ℕ → ℕ → ℕ
path_bucket body buckets distance = (start_of body buckets + distance) % buckets

-- two nodes of a half adder
abbrev pub lower_node : List ℕ
lower_node = 2 ∷ 0 ∷ 0 ∷ 0 ∷ 0 ∷ 0 ∷ 1 ∷ 0 ∷ []

abbrev pub upper_node : List ℕ
upper_node = 1 ∷ 1 ∷ 1 ∷ 0 ∷ 0 ∷ 0 ∷ 1 ∷ 0 ∷ []

hash_of_lower : hash_of lower_node ≡ 14541201291830862274
unfolding mixed
hash_of_lower = refl

hash_of_upper : hash_of upper_node ≡ 17468116933202364791
unfolding mixed
hash_of_upper = refl

start_of_upper : map (start_of upper_node) (2 ∷ 16 ∷ 1000 ∷ 2097152 ∷ []) ≡ 1 ∷ 7 ∷ 791 ∷ 215415 ∷ []
unfolding mixed
start_of_upper = refl

path_of_upper : map (path_bucket upper_node 8) (0 ∷ 1 ∷ 2 ∷ 7 ∷ 8 ∷ []) ≡ 7 ∷ 0 ∷ 1 ∷ 6 ∷ 7 ∷ []
unfolding mixed
path_of_upper = refl
