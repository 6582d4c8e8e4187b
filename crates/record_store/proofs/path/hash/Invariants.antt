use Rattle.std.proofs.Common.{◌≡◌, take}
use Rattle.record_store.specs.Path.{hash_of}
use Rattle.record_store.proofs.path.hash.Given as goal

abbrev pub invariant-loop-word : goal.invariant-loop-word
invariant-loop-word l = l.hash ≡ hash_of (take l.word-index l.body)
