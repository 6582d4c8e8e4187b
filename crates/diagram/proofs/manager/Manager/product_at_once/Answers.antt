use Rattle.std.proofs.Common.{refl}
use Rattle.kind_laws.specs.Plain.{plain}
use Rattle.diagram.specs.declared.operation.Operation.TheVariants.{Product}
use Rattle.diagram.proofs.RememberedLaws.{swapped, product_with_one}
use Rattle.diagram.proofs.manager.Manager.product_at_once.Goals as goal

pub returns-then-is_constant : goal.returns-then-is_constant
returns-then-is_constant g c =
    product_with_one g.K.Kind.NAME c.args.self.now (plain g.K.Kind.extra_of c.args.a) (plain g.K.Kind.extra_of c.args.b) (c.if-is_constant.ensures.0 refl)

pub returns-then-is_constant-2 : goal.returns-then-is_constant-2
returns-then-is_constant-2 g c =
    let k = g.K.Kind.NAME in
    let v = c.args.self.now in
    let a = plain g.K.Kind.extra_of c.args.a in
    let b = plain g.K.Kind.extra_of c.args.b in
    swapped Product k v b a a (product_with_one k v b a (c.if-is_constant-2.ensures.0 refl))
