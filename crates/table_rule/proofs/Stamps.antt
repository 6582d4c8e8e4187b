-- What is read of the stamp of a pass.
use Rattle.std.proofs.Common.{◌≡◌, ℕ, suc, ◌+◌, List, [], ◌∷◌, ◌++◌, length, cond, take, drop, refl, sym, ap, ◌∙◌, arith}
use Rattle.std.specs.Prelude.{slice_index}
use Rattle.table_rule.specs.PassStore.{stamp_of}
use Rattle.table_rule.specs.Stamps.{table_part, pass_part, last_of, token_count, gone_count, joined_count, forked_mark, tokens_in}
use Rattle.table_rule.specs.declared.layout.Layout.{Layout}
use Rattle.table_rule.specs.declared.view.PassView.{PassView}

take_through : (xs : List ℕ) (y : ℕ) (ys : List ℕ) → take (suc (length xs)) (xs ++ y ∷ ys) ≡ xs ++ y ∷ []
take_through [] y ys = refl
take_through (x ∷ xs) y ys = ap (λ (zs : List ℕ). x ∷ zs) (take_through xs y ys)

drop_through : (xs : List ℕ) (y : ℕ) (ys : List ℕ) → drop (suc (length xs)) (xs ++ y ∷ ys) ≡ ys
drop_through [] y ys = refl
drop_through (x ∷ xs) y ys = drop_through xs y ys

take_whole : (xs ys : List ℕ) → take (length xs) (xs ++ ys) ≡ xs
take_whole [] ys = refl
take_whole (x ∷ xs) ys = ap (λ (zs : List ℕ). x ∷ zs) (take_whole xs ys)

last_is : (xs : List ℕ) (y : ℕ) → slice_index (xs ++ y ∷ []) (length xs) ≡ y
last_is [] y = refl
last_is (x ∷ xs) y = last_is xs y

-- the names in what a stamp tells of its table
pub names_in : List ℕ → List ℕ
names_in part = take (slice_index part 0) (drop 1 part)

module _ (names : List ℕ) (L : Layout) (v : PassView) where
  behind : List ℕ
  behind = length v.gone ∷ v.joined ∷ cond v.forked 1 0 ∷ v.tokens

  longer : 2 + length names ≡ suc (suc (length names))
  longer = omega arith

  more : 1 + length names ≡ suc (length names)
  more = omega arith

  pub table_part_is : table_part (stamp_of names L v) ≡ length names ∷ names ++ L.tokens ∷ []
  unfolding behind
  table_part_is =
      ap (λ (n : ℕ). take n (stamp_of names L v)) longer ∙ ap (λ (xs : List ℕ). length names ∷ xs) (take_through names L.tokens behind)

  pub names_read : names_in (table_part (stamp_of names L v)) ≡ names
  unfolding names_in
  names_read = ap names_in table_part_is ∙ take_whole names (L.tokens ∷ [])

  pub pass_part_is : pass_part (stamp_of names L v) ≡ length v.gone ∷ v.joined ∷ cond v.forked 1 0 ∷ v.tokens
  unfolding behind
  pass_part_is = ap (λ (n : ℕ). drop n (stamp_of names L v)) longer ∙ drop_through names L.tokens behind

  pub token_count_is : token_count (stamp_of names L v) ≡ L.tokens
  token_count_is =
      ap last_of table_part_is ∙ ap (λ (n : ℕ). slice_index (length names ∷ names ++ L.tokens ∷ []) n) more ∙ last_is names L.tokens

  pub gone_count_is : gone_count (stamp_of names L v) ≡ length v.gone
  gone_count_is = ap (λ (xs : List ℕ). slice_index xs 0) pass_part_is

  pub joined_count_is : joined_count (stamp_of names L v) ≡ v.joined
  joined_count_is = ap (λ (xs : List ℕ). slice_index xs 1) pass_part_is

  pub forked_mark_is : forked_mark (stamp_of names L v) ≡ cond v.forked 1 0
  forked_mark_is = ap (λ (xs : List ℕ). slice_index xs 2) pass_part_is

  pub tokens_in_is : tokens_in (stamp_of names L v) ≡ v.tokens
  tokens_in_is = ap (λ (xs : List ℕ). drop 3 xs) pass_part_is

-- a stamp tells its table's names and tokens
pub same_table : (m n : List ℕ) (L M : Layout) (v u : PassView) → table_part (stamp_of n M u) ≡ table_part (stamp_of m L v) → n ≡ m
same_table m n L M v u e = sym (names_read n M u) ∙ ap names_in e ∙ names_read m L v

pub same_tokens : (m n : List ℕ) (L M : Layout) (v u : PassView) → table_part (stamp_of n M u) ≡ table_part (stamp_of m L v) → M.tokens ≡ L.tokens
same_tokens m n L M v u e = sym (token_count_is n M u) ∙ ap last_of e ∙ token_count_is m L v
