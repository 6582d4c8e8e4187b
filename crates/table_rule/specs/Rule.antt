-- The rule of the table, which holds between any two atomic steps, in eight parts.
use Rattle.std.specs.Prelude.{◌≡◌, ℕ, ◌+◌, ◌-◌, ◌*◌, ◌<◌, ◌≤◌, List, length, slice_get, slice_index, Some, true, false}
use Rattle.std.specs.List.{AllByRecursion as Each}
use Rattle.record_store.specs.Path.{path_bucket}
use Rattle.table_rule.specs.Counts.{times, holders, total, IsIn}
use Rattle.table_rule.specs.Views.{ended_view}
use Rattle.table_rule.specs.Words.{word_count, chunks, chunk_of, bucket, cell_word, chunk_word, body}
use Rattle.table_rule.specs.declared.layout.Layout.{Layout}
use Rattle.table_rule.specs.declared.view.PassView.{PassView}

-- a fact of each view
abbrev pub EachView : (PassView → Type 0) → List PassView → Type 0
EachView P views = (p : ℕ) (v : PassView) → slice_get views p ≡ Some v → P v

-- the cells that a pass owns, and those given up to it
abbrev pub spare : ℕ → PassView → ℕ
spare cell v = times cell v.held + times cell v.gone

module _ (L : Layout) where
  -- 7. A pass holds at most a chunk, and for each pass that met in it at most a chunk was given up
  abbrev pub CellsAreFew : List PassView → Type 0
  CellsAreFew views = EachView (λ v. (length v.held ≤ L.chunk) × (length v.gone ≤ L.chunk * v.joined)) views

  -- 8. Each token is gathered once. A pass that was never forked has more tokens than passes met in it, and where a pass
  -- was forked, so was one with a token
  pub record TokensAreGathered (views : List PassView) : Type 0 where
    pub numbers : EachView (λ v. Each (λ t. t < L.tokens) v.tokens) views
    pub once : (t : ℕ) → t < L.tokens → total (λ v. times t v.tokens) views ≡ 1
    pub enough : EachView (λ v. v.ended ≡ false → v.forked ≡ false → v.joined + 1 ≤ length v.tokens) views
    pub forked : EachView (λ v. v.forked ≡ true → (q : ℕ) × (u : PassView) × (slice_get views q ≡ Some u) × (u.forked ≡ true) × (0 < length u.tokens)) views

module _ (L : Layout) (words : List ℕ) where
  -- the bucket holds the id
  abbrev pub Holds : ℕ → ℕ → Type 0
  Holds b id = (b < L.buckets) × (0 < id) × (bucket L words b ≡ id)

  -- the id stands in a bucket
  abbrev pub IsPlaced : ℕ → Type 0
  IsPlaced id = (b : ℕ) × Holds b id

  -- the bucket is on the path of the body, behind taken buckets alone
  pub record IsReached (node : List ℕ) (b : ℕ) : Type 0 where
    pub distance : ℕ
    pub here : path_bucket node L.buckets distance ≡ b
    pub taken : (d : ℕ) → d < distance → 0 < bucket L words (path_bucket node L.buckets d)

  -- 1. A bucket holds 0, or an id of a cell in a taken chunk. Different taken buckets hold different ids
  pub record IdsAreOfTakenCells : Type 0 where
    pub within : (b id : ℕ) → Holds b id → (id ≤ L.cells) × (chunk_word L words (chunk_of L (id - 1)) ≡ 1)
    pub once : (b c id : ℕ) → Holds b id → Holds c id → b ≡ c

  -- 2. Different taken buckets hold ids with different bodies
  abbrev pub BodiesDiffer : Type 0
  BodiesDiffer = (b c id other : ℕ) → Holds b id → Holds c other → body L words id ≡ body L words other → b ≡ c

  -- 3. The buckets on the path of a body up to its bucket are taken
  abbrev pub PathsAreTaken : Type 0
  PathsAreTaken = (b id : ℕ) → Holds b id → IsReached (body L words id) b

  -- 4. A cell of a taken chunk stands in one bucket, or once among what one pass owns or was given up to it. A cell of a
  -- free chunk stands in neither
  pub record CellsStandOnce (views : List PassView) : Type 0 where
    pub flags : (h : ℕ) → h < chunks L → chunk_word L words h ≤ 1
    pub cells : (c : ℕ) → c < L.cells → holders (bucket L words) (c + 1) L.buckets + total (spare c) views ≡ chunk_word L words (chunk_of L c)

  -- the words that were written into the draft stand in its cell, the first that the pass holds
  pub record DraftAgrees (held draft : List ℕ) : Type 0 where
    pub short : length draft ≤ 8
    pub some_cell : 0 < length draft → 0 < length held
    pub written : (i : ℕ) → i < length draft → cell_word L words (slice_index held 0) i ≡ slice_index draft i

  -- 5. What a view keeps agrees with the words
  pub record Agrees (v : PassView) : Type 0 where
    pub seen : Each (λ s. Holds s.0 s.1) v.seen
    pub words_read : Each (λ r. IsPlaced r.0 × (r.1 < 8) × (cell_word L words (r.0 - 1) r.1 ≡ r.2)) v.words
    pub known : Each (λ k. IsPlaced k.0 × (body L words k.0 ≡ k.1)) v.known
    pub made : Each IsPlaced v.made
    pub held : Each (λ c. c < L.cells) v.held
    pub gone : Each (λ c. c < L.cells) v.gone
    pub draft : DraftAgrees v.held v.draft
    pub taken : Each (λ h. (h < chunks L) × (chunk_word L words h ≡ 1)) v.taken
    pub ended : v.ended ≡ true → v ≡ ended_view

  -- 6. Each id in a bucket stands once in the made list of one view, and is known there
  pub record IdsAreMadeOnce (views : List PassView) : Type 0 where
    pub once : (id : ℕ) → 0 < id → total (λ v. times id v.made) views ≡ holders (bucket L words) id L.buckets
    pub known : EachView (λ v. Each (λ id. (node : List ℕ) × IsIn v.known (id, node)) v.made) views

  pub record Rule (views : List PassView) : Type 0 where
    pub size : length words ≡ word_count L
    pub ids : IdsAreOfTakenCells
    pub bodies : BodiesDiffer
    pub paths : PathsAreTaken
    pub cells : CellsStandOnce views
    pub agree : EachView Agrees views
    pub made : IdsAreMadeOnce views
    pub few : CellsAreFew L views
    pub tokens : TokensAreGathered L views
