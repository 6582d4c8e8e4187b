-- Where the words of a table stand: a word that is never written, the buckets, eight words for each cell, and a word for
-- each chunk of cells. A bucket holds 0 or an id, and the id k is that of the cell k - 1.
use Rattle.std.specs.Prelude.{◌≡◌, ℕ, ◌+◌, ◌-◌, ◌*◌, ◌/◌, ◌<◌, List, [], ◌∷◌, slice_index}
use Rattle.table_rule.specs.declared.layout.Layout.{Layout}

abbrev pub chunks : Layout → ℕ
chunks L = L.cells / L.chunk

-- the chunk that a cell belongs to
abbrev pub chunk_of : Layout → ℕ → ℕ
chunk_of L cell = cell / L.chunk

abbrev pub bucket_at : ℕ → ℕ
bucket_at b = 1 + b

abbrev pub word_at : Layout → ℕ → ℕ → ℕ
word_at L cell i = 1 + L.buckets + 8 * cell + i

abbrev pub chunk_at : Layout → ℕ → ℕ
chunk_at L h = 1 + L.buckets + 8 * L.cells + h

abbrev pub word_count : Layout → ℕ
word_count L = 1 + L.buckets + 8 * L.cells + chunks L

-- There is a bucket more than there are cells, and the cells fill whole chunks
pub record IsLayout (L : Layout) : Type 0 where
  pub some_cells : 0 < L.cells
  pub more_buckets : L.cells < L.buckets
  pub some_chunk : 0 < L.chunk
  pub whole_chunks : chunks L * L.chunk ≡ L.cells
  pub some_tokens : 0 < L.tokens

-- the eight numbers that a function gives
abbrev pub eight : (ℕ → ℕ) → List ℕ
eight f = f 0 ∷ f 1 ∷ f 2 ∷ f 3 ∷ f 4 ∷ f 5 ∷ f 6 ∷ f 7 ∷ []

module _ (L : Layout) (words : List ℕ) where
  abbrev pub bucket : ℕ → ℕ
  bucket b = slice_index words (bucket_at b)

  abbrev pub cell_word : ℕ → ℕ → ℕ
  cell_word cell i = slice_index words (word_at L cell i)

  -- 0 while the chunk is free, and 1 once a pass has taken it
  abbrev pub chunk_word : ℕ → ℕ
  chunk_word h = slice_index words (chunk_at L h)

  abbrev pub cell_body : ℕ → List ℕ
  cell_body cell = eight (cell_word cell)

  -- the body under an id
  abbrev pub body : ℕ → List ℕ
  body id = cell_body (id - 1)
