-- The files and the failing fetches of a shelf in memory, after a change.
use Rattle.std.proofs.Common.{◌≡◌, ℕ, Bool, true, false, List, [], ◌∷◌, Option, Some, map, refl, sym, ◌∙◌, ap, cond, ◌||◌}
use Rattle.std.specs.Option.{option_map}
use Rattle.std.specs.Ordering.{nat_cmp, is_eq, eq_by_cmp}
use Rattle.std.specs.Cmp.{eq_by_cmp_equiv, nat_cmp_total}
use Rattle.std.specs.Cmp.Lexicographic.{slice_cmp, nat_list_cmp_total}
use Rattle.std.specs.String.{string_bytes, string_cmp}
use Rattle.std.specs.declared.string.String.{String}
use Rattle.std.specs.declared.vec.Vec.{Vec}
use Rattle.std.specs.declared.alloc.Global.{Global}
use Rattle.std.specs.Map.{lookup}
use Rattle.std.specs.BTreeMap as tree
use Rattle.std.specs.BTreeSet as sorted
use Rattle.std.specs.FinMap as map
use Rattle.std.specs.FinSet as set
use Rattle.std.specs.Str.{bytes_eq}
use Rattle.std.proofs.lemmas.Map.Text.{is_eq-slice_cmp, btree_map_updates_text, text_cmp}
use Rattle.outside.specs.Count.{raised}
use Rattle.outside.specs.MemoryShelf.{ShelfState, fails_next, after_fetch}
use Rattle.outside.specs.declared.memory_shelf.MemoryShelf.TheInside.{Inside}

-- ---- what the fields stand for

-- an entry of the map, by the bytes of its name and of its file
abbrev pub by_bytes : String Global × Vec ℕ Global → List ℕ × List ℕ
by_bytes e = (string_bytes e.0, e.1.items)

-- the files by their names
abbrev pub named_files : tree.BTreeMap (String Global) (Vec ℕ Global) → map.FinMap (slice_cmp nat_cmp) (List ℕ)
named_files m = map.from_entries (map by_bytes m.entries)

-- the shelf as callers see it
abbrev pub shelf_state : Inside → ShelfState
shelf_state a = record {
  files = named_files a.files;
  failing = set.from_list a.failing.keys;
  fetches = a.fetches;
  faults = a.faults;
}

-- ---- files

-- the bytes of a file
abbrev pub bytes_of : Vec ℕ Global → List ℕ
bytes_of file = file.items

option_map-cond : {A B : Type 0} (f : A → B) (b : Bool) (x : A) (o : Option A) →
    option_map f (cond b (Some x) o) ≡ cond b (Some (f x)) (option_map f o)
option_map-cond f true x o = refl
option_map-cond f false x o = refl

-- a look-up by name among the bytes of the entries is one among the entries
pub find-by_bytes : (es : List (String Global × Vec ℕ Global)) (name : List ℕ) →
    map.find (slice_cmp nat_cmp) name (map by_bytes es) ≡ option_map bytes_of (lookup (tree.is_at (text_cmp name)) es)
find-by_bytes [] name = refl
find-by_bytes (e ∷ es) name =
    let here = is_eq (slice_cmp nat_cmp name (string_bytes e.0)) in
    ap (cond here (Some e.1.items)) (find-by_bytes es name)
    ∙ sym (option_map-cond bytes_of here e.1 (lookup (tree.is_at (text_cmp name)) es))

pub get-named_files : (m : tree.BTreeMap (String Global) (Vec ℕ Global)) (name : List ℕ) →
    map.get (named_files m) name ≡ option_map bytes_of (tree.get_by_text m name)
get-named_files m name = map.get-from_entries nat_list_cmp_total _ name ∙ find-by_bytes m.entries name

-- to insert a file is to insert its bytes at the bytes of its name
pub named_files-insert : (m n : tree.BTreeMap (String Global) (Vec ℕ Global)) (name : String Global) (file : Vec ℕ Global) →
    tree.Updates string_cmp m n name (Some file) → named_files n ≡ map.insert (named_files m) (string_bytes name) file.items
named_files-insert m n name file changed =
    map.same_map nat_list_cmp_total (map.slice_cmp-IsAntisymmetric map.nat_cmp-IsAntisymmetric) _ _ (λ q.
    let old = tree.get_by_text m q in
    let tied = eq_by_cmp (slice_cmp nat_cmp) q (string_bytes name) in
    get-named_files n q
    ∙ ap (option_map bytes_of) (btree_map_updates_text (string_bytes name) m n (Some file) changed q)
    ∙ option_map-cond bytes_of (bytes_eq (string_bytes name) q) file old
    ∙ ap (λ b. cond b (Some file.items) (option_map bytes_of old)) (sym (is_eq-slice_cmp (string_bytes name) q))
    ∙ ap (λ b. cond b (Some file.items) (option_map bytes_of old)) ((eq_by_cmp_equiv nat_list_cmp_total).symm (string_bytes name) q)
    ∙ ap (cond tied (Some file.items)) (sym (get-named_files m q))
    ∙ sym (map.get-insert nat_list_cmp_total (named_files m) (string_bytes name) file.items q))

-- ---- failing fetches

cond-true : (b c : Bool) → cond b true c ≡ (b || c)
cond-true true c = refl
cond-true false c = refl

-- to insert a number is to insert it into the set of numbers
pub from_list-insert : (m n : sorted.BTreeSet ℕ) (k : ℕ) → sorted.Updates nat_cmp m n k true →
    set.from_list {R = nat_cmp} n.keys ≡ set.insert (set.from_list m.keys) k
from_list-insert m n k changed =
    set.same_set nat_cmp_total set.nat_cmp-IsAntisymmetric _ _ (λ q.
    set.contains-from_list nat_cmp_total n.keys q
    ∙ changed.0 q
    ∙ cond-true (eq_by_cmp nat_cmp k q) (sorted.contains nat_cmp m q)
    ∙ ap (λ b. b || sorted.contains nat_cmp m q) ((eq_by_cmp_equiv nat_cmp_total).symm k q)
    ∙ ap (λ b. eq_by_cmp nat_cmp q k || b) (sym (set.contains-from_list nat_cmp_total m.keys q))
    ∙ sym (set.contains-insert nat_cmp_total (set.from_list m.keys) k q))

-- a look-up among the numbers answers whether the fetch that was counted is to fail
pub found-fails_next : (a : Inside) (count : ℕ) (found : Bool) → count ≡ raised a.fetches →
    found ≡ sorted.contains nat_cmp a.failing count → found ≡ fails_next (shelf_state a)
found-fails_next a count found counted looked =
    looked ∙ ap (sorted.contains nat_cmp a.failing) counted
    ∙ sym (set.contains-from_list nat_cmp_total a.failing.keys (raised a.fetches))

-- the counts after a fetch that is to fail
pub after_fetch-fails : (a : Inside) (fetches faults : ℕ) → fetches ≡ raised a.fetches → faults ≡ raised a.faults →
    fails_next (shelf_state a) ≡ true →
    record (shelf_state a) { fetches = fetches; faults = faults } ≡ after_fetch (shelf_state a)
after_fetch-fails a fetches faults counted risen fails =
    λ i. record (shelf_state a) { fetches = counted i; faults = (risen ∙ ap (λ b. cond b (raised a.faults) a.faults) (sym fails)) i }

-- the counts after another fetch
pub after_fetch-other : (a : Inside) (fetches : ℕ) → fetches ≡ raised a.fetches → fails_next (shelf_state a) ≡ false →
    record (shelf_state a) { fetches = fetches } ≡ after_fetch (shelf_state a)
after_fetch-other a fetches counted other =
    λ i. record (shelf_state a) { fetches = counted i; faults = ap (λ b. cond b (raised a.faults) a.faults) (sym other) i }
