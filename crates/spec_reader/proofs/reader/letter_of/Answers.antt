use Rattle.std.proofs.Common.{◌∙◌, eq-eqb}
use Rattle.std.proofs.lemmas.Bool.{eqb-true, false_from_ne_true}
use Rattle.word_base.specs.Kind.{usual_letter}
use Rattle.spec_reader.proofs.Reading.{letter_hit, letter_miss, letter_none}
use Rattle.spec_reader.proofs.reader.letter_of.Goals as goal

pub loop-given-preserved : goal.loop-given-preserved
loop-given-preserved c =
    letter_miss c.args.letters.now c.args.net (usual_letter c.args.kind) c.loop-given.given-index _ _ c.loop-given-test.true c.loop-given.invariant
    (false_from_ne_true _ (λ e. c.if-given-net.false (eqb-true _ c.args.net e)))

pub returns-then-given-net : goal.returns-then-given-net
returns-then-given-net c =
    letter_hit c.args.letters.now c.args.net (usual_letter c.args.kind) c.loop-given.given-index _ _ c.loop-given-test.true c.loop-given.invariant (eq-eqb _ c.args.net c.if-given-net.true)

pub returns : goal.returns
returns c = c.usual.ensures ∙ letter_none c.args.letters.now c.args.net (usual_letter c.args.kind) c.loop-given.given-index _ c.loop-given-test.false c.loop-given.invariant
