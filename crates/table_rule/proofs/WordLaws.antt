-- What a write of one word changes, and what it leaves.
use Rattle.std.proofs.Common.{◌≡◌, ◌≢◌, ℕ, zero, suc, ◌<◌, List, [], ◌∷◌, length, set, refl, ap, arith, get_or-set_same, get_or-set_other}
use Rattle.std.specs.Prelude.{slice_index}
use Rattle.table_rule.specs.Words.{eight, chunks, bucket_at, word_at, chunk_at, word_count, bucket, cell_word, chunk_word}
use Rattle.table_rule.specs.declared.layout.Layout.{Layout}

pub get_eight : (f : ℕ → ℕ) (i : ℕ) → i < 8 → slice_index (eight f) i ≡ f i
get_eight f zero h = refl
get_eight f (suc zero) h = refl
get_eight f (suc (suc zero)) h = refl
get_eight f (suc (suc (suc zero))) h = refl
get_eight f (suc (suc (suc (suc zero)))) h = refl
get_eight f (suc (suc (suc (suc (suc zero))))) h = refl
get_eight f (suc (suc (suc (suc (suc (suc zero)))))) h = refl
get_eight f (suc (suc (suc (suc (suc (suc (suc zero))))))) h = refl
get_eight f (suc (suc (suc (suc (suc (suc (suc (suc i)))))))) h = absurd (omega arith)

pub same_eight : (f g : ℕ → ℕ) → ((i : ℕ) → i < 8 → f i ≡ g i) → eight f ≡ eight g
same_eight f g same =
    let e0 : f 0 ≡ g 0 = same 0 (omega arith) in
    let e1 : f 1 ≡ g 1 = same 1 (omega arith) in
    let e2 : f 2 ≡ g 2 = same 2 (omega arith) in
    let e3 : f 3 ≡ g 3 = same 3 (omega arith) in
    let e4 : f 4 ≡ g 4 = same 4 (omega arith) in
    let e5 : f 5 ≡ g 5 = same 5 (omega arith) in
    let e6 : f 6 ≡ g 6 = same 6 (omega arith) in
    let e7 : f 7 ≡ g 7 = same 7 (omega arith) in
    λ i. e0 i ∷ e1 i ∷ e2 i ∷ e3 i ∷ e4 i ∷ e5 i ∷ e6 i ∷ e7 i ∷ []

pub eight_of : (xs : List ℕ) → length xs ≡ 8 → eight (slice_index xs) ≡ xs
eight_of (a ∷ b ∷ c ∷ d ∷ e ∷ f ∷ g ∷ h ∷ []) n = refl
eight_of (a ∷ b ∷ c ∷ d ∷ e ∷ f ∷ g ∷ h ∷ i ∷ xs) n = absurd (omega arith)
eight_of [] n = absurd (omega arith)
eight_of (a ∷ []) n = absurd (omega arith)
eight_of (a ∷ b ∷ []) n = absurd (omega arith)
eight_of (a ∷ b ∷ c ∷ []) n = absurd (omega arith)
eight_of (a ∷ b ∷ c ∷ d ∷ []) n = absurd (omega arith)
eight_of (a ∷ b ∷ c ∷ d ∷ e ∷ []) n = absurd (omega arith)
eight_of (a ∷ b ∷ c ∷ d ∷ e ∷ f ∷ []) n = absurd (omega arith)
eight_of (a ∷ b ∷ c ∷ d ∷ e ∷ f ∷ g ∷ []) n = absurd (omega arith)

-- a list is unchanged where it has this already
pub set_same : (xs : List ℕ) (i : ℕ) → set xs i (slice_index xs i) ≡ xs
set_same [] i = refl
set_same (x ∷ xs) zero = refl
set_same (x ∷ xs) (suc i) = ap (λ (ys : List ℕ). x ∷ ys) (set_same xs i)

module _ (L : Layout) (words : List ℕ) (size : length words ≡ word_count L) where
  -- a bucket is written
  module _ (b n : ℕ) (within : b < L.buckets) where
    pub bucket_set : bucket L (set words (bucket_at b) n) b ≡ n
    bucket_set = get_or-set_same words (bucket_at b) n 0 (omega arith)

    pub bucket_kept : (c : ℕ) → c ≢ b → bucket L (set words (bucket_at b) n) c ≡ bucket L words c
    bucket_kept c apart = get_or-set_other words (bucket_at b) (bucket_at c) n 0 (λ e. apart (omega arith))

    pub word_kept_by_bucket : (c i : ℕ) → cell_word L (set words (bucket_at b) n) c i ≡ cell_word L words c i
    word_kept_by_bucket c i = get_or-set_other words (bucket_at b) (word_at L c i) n 0 (λ e. omega arith)

    pub chunk_kept_by_bucket : (h : ℕ) → chunk_word L (set words (bucket_at b) n) h ≡ chunk_word L words h
    chunk_kept_by_bucket h = get_or-set_other words (bucket_at b) (chunk_at L h) n 0 (λ e. omega arith)

  -- a word of a cell is written
  module _ (cell i n : ℕ) (within : cell < L.cells) (short : i < 8) where
    pub word_set : cell_word L (set words (word_at L cell i) n) cell i ≡ n
    word_set = get_or-set_same words (word_at L cell i) n 0 (omega arith)

    pub word_kept : (c j : ℕ) → j < 8 → (c ≡ cell → j ≢ i) → cell_word L (set words (word_at L cell i) n) c j ≡ cell_word L words c j
    word_kept c j few apart = get_or-set_other words (word_at L cell i) (word_at L c j) n 0 (λ e. apart (omega arith) (omega arith))

    pub bucket_kept_by_word : (b : ℕ) → b < L.buckets → bucket L (set words (word_at L cell i) n) b ≡ bucket L words b
    bucket_kept_by_word b few = get_or-set_other words (word_at L cell i) (bucket_at b) n 0 (λ e. omega arith)

    pub chunk_kept_by_word : (h : ℕ) → chunk_word L (set words (word_at L cell i) n) h ≡ chunk_word L words h
    chunk_kept_by_word h = get_or-set_other words (word_at L cell i) (chunk_at L h) n 0 (λ e. omega arith)

  -- a chunk word is written
  module _ (h n : ℕ) (within : h < chunks L) where
    pub chunk_set : chunk_word L (set words (chunk_at L h) n) h ≡ n
    chunk_set = get_or-set_same words (chunk_at L h) n 0 (omega arith)

    pub chunk_kept : (j : ℕ) → j ≢ h → chunk_word L (set words (chunk_at L h) n) j ≡ chunk_word L words j
    chunk_kept j apart = get_or-set_other words (chunk_at L h) (chunk_at L j) n 0 (λ e. apart (omega arith))

    pub bucket_kept_by_chunk : (b : ℕ) → b < L.buckets → bucket L (set words (chunk_at L h) n) b ≡ bucket L words b
    bucket_kept_by_chunk b few = get_or-set_other words (chunk_at L h) (bucket_at b) n 0 (λ e. omega arith)

    pub word_kept_by_chunk : (c i : ℕ) → c < L.cells → i < 8 → cell_word L (set words (chunk_at L h) n) c i ≡ cell_word L words c i
    word_kept_by_chunk c i few short = get_or-set_other words (chunk_at L h) (word_at L c i) n 0 (λ e. omega arith)
