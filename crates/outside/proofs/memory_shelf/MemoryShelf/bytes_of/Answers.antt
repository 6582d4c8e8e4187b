use Rattle.std.proofs.Common.{◌≡◌, ◌∙◌, ap, sym, Some}
use Rattle.std.specs.Option.{option_map}
use Rattle.std.specs.BTreeMap as tree
use Rattle.outside.specs.MemoryShelf.{ShelfState, file_of}
use Rattle.outside.proofs.Files.{get-named_files}
use Rattle.outside.proofs.memory_shelf.MemoryShelf.bytes_of.Goals as goal

pub returns-in-Some : goal.returns-in-Some
returns-in-Some c =
    let found : Some c.in-Some.bytes.now ≡ tree.get_by_text c.self.inside.files c.args.name.now = c.in-Some.ensures.value in
    ap Some c.as_slice.ensures.value
    ∙ ap (option_map (λ v. v.items)) found
    ∙ sym (get-named_files c.self.inside.files c.args.name.now)
    ∙ ap (λ (shelf : ShelfState). file_of shelf c.args.name.now) c.self.view_is

pub returns-in-None : goal.returns-in-None
returns-in-None c =
    ap (option_map (λ v. v.items)) c.in-None.ensures.value
    ∙ sym (get-named_files c.self.inside.files c.args.name.now)
    ∙ ap (λ (shelf : ShelfState). file_of shelf c.args.name.now) c.self.view_is
