use Rattle.std.proofs.Common.{◌≡◌, map, string_bytes, take}
use Rattle.settings.specs.Words.{texts}
use Rattle.worddd_cli.proofs.texts_of.Given as goal

abbrev pub invariant-loop-word : goal.invariant-loop-word
invariant-loop-word l = texts l.borrowed.items ≡ map string_bytes (take l.word-index l.words)
