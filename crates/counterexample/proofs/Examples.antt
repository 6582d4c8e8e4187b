-- Worked examples: constants over two levels, of which a store that knows no node has the edges.
use Rattle.std.proofs.Common.{◌≡◌, refl, sym, ◌∙◌, ap, ℕ, ◌-◌, ℤ, pos, List, [], ◌∷◌, arith}
use Rattle.std.specs.Prelude.{None, slice_index}
use Rattle.std.specs.Cmp.{nat_cmp_total}
use Rattle.std.specs.FinMap.{get-from_entries}
use Rattle.std.specs.Option.{option_map_or}
use Rattle.word_base.specs.declared.decomp.Decomp.TheVariants.{P, N}
use Rattle.word_base.specs.declared.kind_name.KindName.TheVariants.{Hdd}
use Rattle.tables.specs.Table.{Table, constant_table}
use Rattle.tables.specs.Tree.{Weights}
use Rattle.tables.specs.Canonical.{canonical}
use Rattle.record_store.specs.Solo.{solo_view}
use Rattle.record_store.specs.StoreView.{find_in}
use Rattle.kind_laws.specs.Plain.{PlainEdge, plain_edge}
use Rattle.diagram.specs.View.{View, StandsAt, top_of}
use Rattle.counterexample.specs.Walk.{LiesFrom, Differ}

abbrev two_levels : View
two_levels = record { store = solo_view (record { bodies = []; cells = 1 }); letters = N ∷ P ∷ [] }

found-none : (id : ℕ) → find_in two_levels.store id ≡ None
found-none id = get-from_entries nat_cmp_total [] id

top-of_leaf : top_of two_levels 0 ≡ 2
top-of_leaf = ap (λ found. option_map_or (λ (body : List ℕ). slice_index body 0 - 1) found 2) (found-none 0)

abbrev constant : ℤ → PlainEdge
constant c = plain_edge c (pos 0) 0

one-stands : StandsAt Hdd two_levels 0 (constant_table 2 (pos 1)) (constant (pos 1))
one-stands = record {
  allowed = refl;
  no_zero = found-none 0;
  within = omega arith;
  stands = record { over = ((tt, tt), (tt, tt)); root_is = refl; shape_is = refl };
}

-- it has no node above the end
one-lies : LiesFrom Hdd two_levels 2 (constant (pos 1))
one-lies = record { good = (constant_table 2 (pos 1), one-stands); not_above = let top = top-of_leaf in omega arith }

-- the edges of 0 and 1 stand for two tables
zero_and_one-differ : Differ Hdd two_levels 0 (constant (pos 0)) (constant (pos 1))
zero_and_one-differ t u h g same =
    let root : Table → Weights = λ x. (canonical Hdd two_levels.letters 0 x).root in
    let weights = h.stands.root_is ∙ ap root same ∙ sym g.stands.root_is in
    let numbers : pos 0 ≡ pos 1 = ap (λ (w : Weights). w.weight) weights in
    absurd (cc)

-- no edge differs from itself
one-itself : Differ Hdd two_levels 0 (constant (pos 1)) (constant (pos 1)) → ⊥
one-itself differ = differ _ _ one-stands one-stands refl
