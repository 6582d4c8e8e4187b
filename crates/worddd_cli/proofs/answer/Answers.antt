use Rattle.std.proofs.Common.{◌≡◌, ◌∙◌, ℕ, List, [], ap, map, string_bytes, subst}
use Rattle.std.specs.Prelude.{IfErr, IfOk, Result, Ok, Err}
use Rattle.std.specs.Vec.Iter.{into_iter_items}
use Rattle.std.specs.declared.alloc.Global.{Global}
use Rattle.std.specs.declared.string.String.{String}
use Rattle.std.specs.declared.vec.IntoIter.{IntoIter}
use Rattle.check_run.specs.Outside.{seen, shelf_seen, sink_seen}
use Rattle.check_run.specs.Run.{IsRun}
use Rattle.worddd_cli.specs.CommandLine.{behind_name, words_in}
use Rattle.worddd_cli.proofs.answer.Goals as goal

-- the words of a command line that was read, and of one that was not
words_are : {E : Type 0} (arguments : Result (IntoIter (String Global) Global) E) (words : List (String Global)) →
    IfOk arguments (λ all. words ≡ behind_name (into_iter_items all)) → IfErr arguments (λ _. words ≡ []) → map string_bytes words ≡ words_in arguments
words_are (Ok all) words is none = ap (map string_bytes) is
words_are (Err error) words is none = ap (map string_bytes) none

pub returns : goal.returns
returns g c =
    let old = seen (shelf_seen g.F.Shelf.files g.F.Shelf.fetches g.F.Shelf.faults c.args.shelf.now) (sink_seen g.O.Sink.written g.O.Sink.faults c.args.out.now) in
    let new = seen (shelf_seen g.F.Shelf.files g.F.Shelf.fetches g.F.Shelf.faults c.run_words.new.shelf) (sink_seen g.O.Sink.written g.O.Sink.faults c.run_words.new.out) in
    let words = ap (map string_bytes) c.deref.ensures.value ∙ words_are c.args.arguments c.in_ok-words.words.items c.in_ok-words.ensures.words c.in_ok-words.ensures.none in
    subst (λ (texts : List (List ℕ)). IfOk c.run_words.result (IsRun texts old new)) words c.run_words.ensures
