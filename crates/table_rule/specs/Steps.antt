-- The atomic steps on a table. Each is one event on its words, and changes the view of the pass that steps; a split and a
-- join change two views.
use Rattle.std.specs.Prelude.{◌≡◌, ◌≢◌, ◌⊎◌, ℕ, zero, suc, ◌+◌, ◌<◌, ◌≤◌, List, [], ◌∷◌, ◌++◌, Bool, true, false, length, slice_get, slice_index, slice_set, Some, ◌-◌}
use Rattle.std.specs.Option.{unwrap_or}
use Rattle.record_store.specs.Path.{path_bucket}
use Rattle.table_rule.specs.Counts.{IsIn}
use Rattle.table_rule.specs.Views.{fresh, see, read, know, write, publish, see_chunk, take_chunk, forked_left, forked_right, dealt_left, dealt_right, joined_view, ended_view}
use Rattle.table_rule.specs.Words.{chunks, bucket_at, word_at, chunk_at, bucket, cell_word, chunk_word, body}
use Rattle.table_rule.specs.declared.layout.Layout.{Layout}
use Rattle.table_rule.specs.declared.view.PassView.{PassView}

pub record State : Type 0 where
  pub words : List ℕ
  pub views : List PassView

pub data Event : Type 0 where
  -- of a bucket
  load_bucket : ℕ → Event
  -- of a bucket, from 0 to the draft's id
  exchange_bucket : ℕ → Event
  -- of a word of the body under an id, which may be known from then on
  load_word : ℕ → ℕ → Bool → Event
  -- of a word into the draft
  store_word : ℕ → ℕ → Event
  -- of a chunk word
  load_chunk : ℕ → Event
  -- of a chunk word, from 0 to 1
  exchange_chunk : ℕ → Event
  -- a split after which the new pass knows the same
  fork : Event
  -- a split by which the new pass gets a token
  deal : Event
  -- with another pass, which ends
  join : ℕ → Event

-- the id was read in a bucket, or is known
abbrev pub IsMet : PassView → ℕ → Type 0
IsMet v id = ((b : ℕ) × IsIn v.seen (b, id)) ⊎ ((node : List ℕ) × IsIn v.known (id, node))

-- each word of the body was read
abbrev pub HasRead : PassView → ℕ → List ℕ → Type 0
HasRead v id node = (i : ℕ) → i < 8 → IsIn v.words (id, i, slice_index node i)

-- the bucket was seen with an id, and a word was read in which the body under it differs from this one
abbrev pub Differs : PassView → List ℕ → ℕ → Type 0
Differs v node b = (id : ℕ) × (i : ℕ) × (word : ℕ) × IsIn v.seen (b, id) × IsIn v.words (id, i, word) × (word ≢ slice_index node i)

-- each bucket on the path of the body before this distance was seen, and its body differs
abbrev pub HasPassed : Layout → PassView → List ℕ → ℕ → Type 0
HasPassed L v node distance = (d : ℕ) → d < distance → Differs v node (path_bucket node L.buckets d)

-- the path of the body up to this bucket was passed
pub record IsCovered (L : Layout) (v : PassView) (node : List ℕ) (b : ℕ) : Type 0 where
  pub distance : ℕ
  pub here : path_bucket node L.buckets distance ≡ b
  pub passed : HasPassed L v node distance

-- the cell of the draft
abbrev pub draft_cell : PassView → ℕ
draft_cell v = slice_index v.held 0

abbrev pub view_of : List PassView → ℕ → PassView
view_of views p = unwrap_or (slice_get views p) ended_view

-- what a compare-exchange of a bucket tells, by the word found
abbrev pub exchanged : ℕ → ℕ → PassView → PassView
exchanged b zero v = publish b (draft_cell v + 1) v
exchanged b (suc id) v = see b (suc id) v

-- what a compare-exchange of a chunk word tells
abbrev pub chunk_exchanged : Layout → ℕ → ℕ → PassView → PassView
chunk_exchanged L h zero v = take_chunk L h v
chunk_exchanged L h (suc n) v = see_chunk h (suc n) v

-- the word at a place, with the new one where 0 was found
abbrev pub put_if_zero : List ℕ → ℕ → ℕ → ℕ → List ℕ
put_if_zero words at new zero = slice_set words at new
put_if_zero words at new (suc n) = words

module _ (L : Layout) (s : State) (p : ℕ) (v : PassView) where
  abbrev pub IsAllowed : Event → Type 0
  IsAllowed (load_bucket b) = b < L.buckets
  IsAllowed (exchange_bucket b) = (b < L.buckets) × (length v.draft ≡ 8) × IsCovered L v v.draft b
  IsAllowed (load_word id i false) = (i < 8) × IsMet v id
  IsAllowed (load_word id i true) = (i < 8) × IsMet v id × HasRead (read id i (cell_word L s.words (id - 1) i) v) id (body L s.words id)
  IsAllowed (store_word i word) = (i < 8) × (i ≤ length v.draft) × (0 < length v.held)
  IsAllowed (load_chunk h) = h < chunks L
  IsAllowed (exchange_chunk h) = (h < chunks L) × (v.held ≡ [])
  IsAllowed fork = Unit {0}
  IsAllowed deal = (v ≡ fresh v.tokens) × (2 ≤ length v.tokens)
  IsAllowed (join q) = (q ≢ p) × (u : PassView) × (slice_get s.views q ≡ Some u) × (u.ended ≡ false)

  abbrev pub words_after : Event → List ℕ
  words_after (exchange_bucket b) = put_if_zero s.words (bucket_at b) (draft_cell v + 1) (bucket L s.words b)
  words_after (store_word i word) = slice_set s.words (word_at L (draft_cell v) i) word
  words_after (exchange_chunk h) = put_if_zero s.words (chunk_at L h) 1 (chunk_word L s.words h)
  words_after _ = s.words

  -- the view of the pass that steps
  abbrev pub view_after : Event → PassView
  view_after (load_bucket b) = see b (bucket L s.words b) v
  view_after (exchange_bucket b) = exchanged b (bucket L s.words b) v
  view_after (load_word id i false) = read id i (cell_word L s.words (id - 1) i) v
  view_after (load_word id i true) = know id (body L s.words id) (read id i (cell_word L s.words (id - 1) i) v)
  view_after (store_word i word) = write i word v
  view_after (load_chunk h) = see_chunk h (chunk_word L s.words h) v
  view_after (exchange_chunk h) = chunk_exchanged L h (chunk_word L s.words h) v
  view_after fork = forked_left v
  view_after deal = dealt_left v
  view_after (join q) = joined_view v (view_of s.views q)

  abbrev pub views_after : Event → List PassView
  views_after fork = slice_set s.views p (forked_left v) ++ forked_right v ∷ []
  views_after deal = slice_set s.views p (dealt_left v) ++ dealt_right v ∷ []
  views_after (join q) = slice_set (slice_set s.views p (joined_view v (view_of s.views q))) q ended_view
  views_after e = slice_set s.views p (view_after e)

-- the pass p takes the step e, which leads from s to t
pub record IsStep (L : Layout) (p : ℕ) (e : Event) (s t : State) : Type 0 where
  pub view : PassView
  pub stands : slice_get s.views p ≡ Some view
  pub live : view.ended ≡ false
  pub allowed : IsAllowed L s p view e
  pub words : t.words ≡ words_after L s p view e
  pub views : t.views ≡ views_after L s p view e
