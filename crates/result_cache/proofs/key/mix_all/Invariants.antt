use Rattle.std.proofs.Common.{◌≡◌, take}
use Rattle.std.specs.List.{fold}
use Rattle.record_store.specs.Path.{mixed}
use Rattle.result_cache.proofs.key.mix_all.Given as goal

abbrev pub invariant-loop-word : goal.invariant-loop-word
invariant-loop-word l = l.all ≡ fold mixed l.fn.hash (take l.word-index l.words)
