use Rattle.std.proofs.Common.{◌≡◌, ◌==◌, drop, find}
use Rattle.std.specs.Option.{option_map_or}
use Rattle.word_base.specs.Kind.{usual_letter}
use Rattle.spec_reader.proofs.reader.letter_of.Given as goal

abbrev pub invariant-loop-given : goal.invariant-loop-given
invariant-loop-given l =
    option_map_or (λ p. p.1) (find (λ p. p.0 == l.net) (drop l.given-index l.letters)) (usual_letter l.kind)
    ≡ option_map_or (λ p. p.1) (find (λ p. p.0 == l.net) l.letters) (usual_letter l.kind)
