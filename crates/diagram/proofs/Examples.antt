-- Worked examples: what an answer says of a store with no node, and with one.
use Rattle.std.proofs.Common.{◌≡◌, refl, ap, ◌∙◌, sym, ℕ, ◌-◌, zero, suc, List, [], ◌∷◌, true, false, pos, arith, drop, subst, inl}
use Rattle.std.specs.Prelude.{Ok, Err, Some, None, slice_index}
use Rattle.std.specs.Cmp.{nat_cmp_total}
use Rattle.std.specs.FinMap.{get-from_entries}
use Rattle.std.specs.List.{Contains, enumerate_from}
use Rattle.std.specs.Option.{option_map_or}
use Rattle.word_base.specs.declared.decomp.Decomp.TheVariants.{P}
use Rattle.word_base.specs.declared.kind_name.KindName.TheVariants.{Hdd}
use Rattle.tables.specs.Table.{Table, entry, halves}
use Rattle.tables.specs.Tree.{Shape, leaf, node, weights}
use Rattle.tables.specs.Fits.{fits}
use Rattle.tables.specs.Pieces.{Piece, pieces, InNodes}
use Rattle.record_store.specs.Solo.{solo_view}
use Rattle.record_store.specs.StoreView.{find_in}
use Rattle.kind_laws.specs.Body.{body_of, FitsBody}
use Rattle.kind_laws.specs.Plain.{PlainEdge, plain_edge}
use Rattle.kind_laws.specs.declared.fields.Fields.{Fields}
use Rattle.diagram.specs.declared.limit.Limit.TheVariants as limit
use Rattle.diagram.specs.Answers.{HasNodeShape, SomeUnknown, Answers}
use Rattle.diagram.specs.Calls.{ArePartsBy, LeadsTo, SplitsOne, upper}
use Rattle.diagram.specs.View.{View, top_of}

-- the variable of a single level
abbrev variable : Table
variable = halves (entry (pos 0)) (entry (pos 1))

abbrev work : List Piece
work = pieces 0 (variable ∷ [])

abbrev its_node : Shape
its_node = node 0 (weights (pos 0) (pos 0)) leaf (weights (pos 1) (pos 0)) leaf

its_node-in_work : InNodes Hdd (P ∷ []) work its_node
its_node-in_work = (record { level = 0; table = variable }, (0, omega arith, refl), inl refl)

abbrev fields : Fields
fields = record { level = 0; low = 0; high = 0; low_weight = pos 0; added = pos 0; high_weight = pos 1 }

abbrev with_bodies : List (List ℕ) → View
with_bodies bodies = record { store = solo_view (record { bodies = bodies; cells = 2 }); letters = P ∷ [] }

abbrev no_node : View
no_node = with_bodies []

abbrev one_node : View
one_node = with_bodies (body_of fields ∷ [])

fields-fit : FitsBody fields
fields-fit = record { level = omega arith; low = omega arith; high = omega arith; low_weight = omega arith; added = omega arith; high_weight = omega arith }

found-1 : find_in one_node.store 1 ≡ Some (body_of fields)
found-1 = get-from_entries nat_cmp_total (enumerate_from 1 (body_of fields ∷ [])) 1

found-none : (id : ℕ) → find_in no_node.store id ≡ None
found-none id = get-from_entries nat_cmp_total [] id

-- the variable's node stands at level 0, the leaf below the last level
top-of_node : top_of one_node 1 ≡ 0
top-of_node = ap (λ found. option_map_or (λ (body : List ℕ). slice_index body 0 - 1) found 1) found-1

top_of-leaf : top_of no_node 0 ≡ 1
top_of-leaf = ap (λ found. option_map_or (λ (body : List ℕ). slice_index body 0 - 1) found 1) (found-none 0)

-- the node is the upper one of it and the leaf
upper-of_both : upper one_node (plain_edge (pos 0) (pos 0) 1) (plain_edge (pos 0) (pos 0) 0) ≡ 0
upper-of_both = let top = top-of_node in omega arith

-- what is read of an edge to the node
node-read : LeadsTo Hdd one_node (plain_edge (pos 0) (pos 0) 1) 0 (body_of fields)
node-read = record { level_is = sym top-of_node; known = λ some. found-1; is_body = λ some. (fields, fields-fit, refl, refl) }

-- a constant has itself and 0 as its parts at a level above the leaf's
leaf-parts : ArePartsBy Hdd P 0 (plain_edge (pos 5) (pos 0) 0) 1 [] (Ok (plain_edge (pos 5) (pos 0) 0, plain_edge (pos 0) (pos 0) 0))
leaf-parts = record { here = λ same. absurd (omega arith); above = λ _. refl }

-- the node is split at its own level alone
split-elsewhere : (low high : PlainEdge) → SplitsOne Hdd one_node (plain_edge (pos 0) (pos 0) 1) (Ok (1, low, high)) → ⊥
split-elsewhere low high h = let clash = h.0 ∙ top-of_node in absurd (omega arith)

-- the id 1 has the variable's node
one_node-has : HasNodeShape Hdd one_node work 1
one_node-has = (
  its_node,
  its_node-in_work,
  record {
    fields = fields;
    fits = fields-fit;
    zeros = refl;
    known = found-1;
    level_is = refl;
    low_is = refl;
    high_is = refl;
    low = refl;
    high = refl;
  },
)

-- with no node it is unknown
no_node-lacks : SomeUnknown Hdd no_node work
no_node-lacks = (its_node, its_node-in_work, λ id h. let clash = sym (found-none id) ∙ h.known in absurd (cc))

-- a store that is not spent is not full
full-refused : (l : ℕ) (t : Table) → Answers Hdd no_node no_node work l t (Err limit.Full) → ⊥
full-refused l t h = let spent = (h.cause.full refl).0 in absurd (cc)

-- and no weight left its range
overflow-refused : (l : ℕ) (t : Table) → Answers Hdd no_node no_node work l t (Err limit.Overflow) → ⊥
overflow-refused l t h = let unfit = h.cause.overflow refl in none unfit.0 unfit.1 unfit.2
  where
    none : (p : Piece) → Contains work p → fits Hdd (drop p.level (P ∷ [])) p.table ≡ false → ⊥
    none p (zero, low, is) e = let fit : fits Hdd (drop p.level (P ∷ [])) p.table ≡ true = subst (λ (x : Piece). fits Hdd (drop x.level (P ∷ [])) x.table ≡ true) is refl in cc
    none p (suc n, low, is) e = absurd (omega arith)
