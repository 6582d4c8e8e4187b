-- The work of a sum by each of its walks. Private functions and proofs alone use this.
use Rattle.std.specs.Prelude.{◌≡◌, ℕ, ◌^◌, pos, false, List, [], ◌∷◌, refl}
use Rattle.word_base.specs.declared.kind_name.KindName.TheVariants.{Hdd}
use Rattle.tables.specs.Table.{Table, entry}
use Rattle.tables.specs.Tree.{leaf}
use Rattle.tables.specs.Canonical.{canonical}
use Rattle.tables.specs.Fits.{fits}
use Rattle.tables.specs.Pieces.{Piece, pieces, add_work}
use Rattle.diagram.specs.declared.walk.Walk.{Walk}
use Rattle.diagram.specs.declared.walk.Walk.TheVariants.{Stripping, Plain}

-- a piece that has no node, and does not fit
abbrev pub no_weight : Piece
no_weight = record { level = 0; table = entry (pos (2 ^ 127)) }

-- the walk without shifts makes the nodes of the sum's work alone, as the plain one, and may overflow whatever fits
abbrev pub sum_work : Walk → ℕ → Table → Table → List Piece
sum_work Stripping l t u = no_weight ∷ add_work l t u
sum_work Plain l t u = add_work l t u

-- ---- examples
no_weight-node : (canonical Hdd [] 0 no_weight.table).shape ≡ leaf
no_weight-node = refl

no_weight-fits : fits Hdd [] no_weight.table ≡ false
no_weight-fits = refl

plain-numbers : sum_work Plain 3 (entry (pos 4)) (entry (pos 6)) ≡ pieces 3 (entry (pos 4) ∷ entry (pos 6) ∷ entry (pos 10) ∷ [])
plain-numbers = refl

stripping-numbers : sum_work Stripping 3 (entry (pos 4)) (entry (pos 6)) ≡ no_weight ∷ pieces 3 (entry (pos 4) ∷ entry (pos 6) ∷ entry (pos 10) ∷ [])
stripping-numbers = refl
