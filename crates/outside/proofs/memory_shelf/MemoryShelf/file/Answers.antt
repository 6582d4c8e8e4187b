use Rattle.std.proofs.Common.{◌∙◌, ap, ℕ, List}
use Rattle.std.specs.Ordering.{nat_cmp}
use Rattle.std.specs.Cmp.Lexicographic.{slice_cmp}
use Rattle.std.specs.FinMap as map
use Rattle.outside.specs.MemoryShelf.{ShelfState}
use Rattle.outside.proofs.Files.{shelf_state, named_files, named_files-insert}
use Rattle.outside.proofs.memory_shelf.MemoryShelf.file.Goals as goal

pub returns-clause-ok : goal.returns-clause-ok
returns-clause-ok c =
    let inserted = named_files-insert c.self.inside.files c.insert.new.self c.in_ok-name.name c.in_ok-bytes.bytes c.in_ok-insert.ensures.updates in
    let with_files : map.FinMap (slice_cmp nat_cmp) (List ℕ) → ShelfState = λ files. record (shelf_state c.self.inside) { files = files } in
    ap with_files inserted
    ∙ ap (λ (name : List ℕ). with_files (map.insert (named_files c.self.inside.files) name c.in_ok-bytes.bytes.items)) c.in_ok-name.ensures.ok
    ∙ ap (λ (bytes : List ℕ). with_files (map.insert (named_files c.self.inside.files) c.args.name.now bytes)) c.in_ok-bytes.ensures.items
    ∙ ap (λ (shelf : ShelfState). record shelf { files = map.insert shelf.files c.args.name.now c.args.bytes.now }) c.self.view_is
