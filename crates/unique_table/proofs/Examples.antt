-- The table of the examples: its layout, what a pass owns there, and how an id comes to be known.
use Rattle.std.proofs.Common.{[], ◌∷◌, refl, inr, arith}
use Rattle.table_rule.specs.Views.{fresh, know, publish}
use Rattle.unique_table.specs.Examples.{layout, drafting}
use Rattle.unique_table.specs.Exploring.{HasLearned}
use Rattle.unique_table.specs.Probing.{HasAdded, IsDrafted}
use Rattle.unique_table.specs.Stocked.{IsStock}
use Rattle.unique_table.specs.Values.{IsLayoutFor}
use Rattle.unique_table.specs.declared.stock.Stock.{Stock}
use Rattle.unique_table.proofs.Exploring.{read_same}

layout_is : IsLayoutFor 512 2 layout
layout_is = record { cells = refl; tokens = refl; chunk = refl; buckets = ((10, refl), omega arith, omega arith) }

-- chunk 1 has the cells from 256 up to 512
stock : Stock
stock = record { next = 256; end = 512; chunk = 0 }

stock_is : IsStock layout drafting stock
unfolding stock
stock_is = record { held = refl; order = omega arith; within = omega arith; few_chunks = omega arith; taken = λ h none. absurd (omega arith) }

stands_in_draft : IsDrafted drafting (1 ∷ 0 ∷ 0 ∷ 0 ∷ 0 ∷ 0 ∷ 1 ∷ 0 ∷ []) stock
unfolding stock
stands_in_draft = (refl, omega arith)

-- the draft is published under id 257
added : HasAdded (fresh (1 ∷ [])) 257 drafting.draft (publish 791 257 drafting)
added = record { known = refl; made = inr (refl, λ other none. none); gone = refl; tokens = refl; joined = refl; forked = refl; ended = refl }

-- another pass reads it, and knows it
learned : HasLearned (fresh (0 ∷ [])) 257 drafting.draft (know 257 drafting.draft (fresh (0 ∷ [])))
learned = record {
  before = fresh (0 ∷ []);
  read = read_same (fresh (0 ∷ []));
  known = refl;
}
