use Rattle.std.proofs.Common.{rules}
use Rattle.kind_laws.specs.Plain.{plain}
use Rattle.diagram.proofs.HalfLaws.{half_good}
use Rattle.diagram_tests.proofs.halves.half_at.Goals as goal

pub returns : goal.returns
returns g c =
    half_good g.K.Kind.NAME c.top.new.self c.cofactor.new.self c.args.level c.args.bit (plain g.K.Kind.extra_of c.args.edge) (plain g.K.Kind.extra_of)
    c.cofactor.result (search rules) c.cofactor.ensures.half
