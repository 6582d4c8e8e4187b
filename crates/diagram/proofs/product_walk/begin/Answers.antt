use Rattle.std.proofs.Common.{refl, ◌*ℤ◌}
use Rattle.kind_laws.specs.Plain.{plain}
use Rattle.diagram.specs.ProductFrames.{products}
use Rattle.diagram.specs.Products.{product_work}
use Rattle.diagram.specs.declared.operation.Operation.TheVariants.{Product}
use Rattle.diagram.proofs.BothLaws.{constant_is, constants_answer}
use Rattle.diagram.proofs.ProductLaws.{product_covers_product}
use Rattle.diagram.proofs.RememberedLaws.{known_both, swapped, product_with_zero}
use Rattle.diagram.proofs.WalkSteps.{begins_refused}
use Rattle.diagram.proofs.product_walk.begin.Goals as goal

pub value-requires : goal.value-requires
value-requires g c =
    constant_is g.K.Kind.NAME c.args.manager.now (plain g.K.Kind.extra_of c.args.a) c.requires.a_good (c.are_constants.ensures.0 c.if-are_constants.true).0

pub value-requires-then-are_constants : goal.value-requires-then-are_constants
value-requires-then-are_constants g c =
    constant_is g.K.Kind.NAME c.args.manager.now (plain g.K.Kind.extra_of c.args.b) c.requires.b_good (c.are_constants.ensures.0 c.if-are_constants.true).1

pub returns-then-are_constants-clause-begins : goal.returns-then-are_constants-clause-begins
returns-then-are_constants-clause-begins g c =
    let k = g.K.Kind.NAME in
    let v = c.args.manager.now in
    let a = plain g.K.Kind.extra_of c.args.a in
    let b = plain g.K.Kind.extra_of c.args.b in (
      refl,
      λ l x y h e.
          constants_answer k v (λ m n. m *ℤ n) (product_work v.letters l x y) l x y a b c.value.result c.value-then-are_constants.result c.mul.result _
          c.value.ensures c.value-then-are_constants.ensures c.mul.ensures c.in_ok-product.ensures h e (product_covers_product k v.letters l x y),
    )

pub returns-in_err-product-clause-begins : goal.returns-in_err-product-clause-begins
returns-in_err-product-clause-begins g c =
    let k = g.K.Kind.NAME in
    let v = c.args.manager.now in
    let a = plain g.K.Kind.extra_of c.args.a in
    let b = plain g.K.Kind.extra_of c.args.b in
    begins_refused (products k g.K.Kind.extra_of) v (a, b) c.args.frames.now.items c.args.frames.now.items c.from_residual.result c.in_err-product.field-0.0 c.from_residual.ensures.1 (λ l x y h e.
    constants_answer k v (λ m n. m *ℤ n) (product_work v.letters l x y) l x y a b c.value.result c.value-then-are_constants.result c.mul.result _
    c.value.ensures c.value-then-are_constants.ensures c.mul.ensures c.in_err-product.ensures h e (product_covers_product k v.letters l x y))

pub returns-then-is_constant-clause-begins : goal.returns-then-is_constant-clause-begins
returns-then-is_constant-clause-begins g c =
    let k = g.K.Kind.NAME in
    let v = c.args.manager.now in
    let a = plain g.K.Kind.extra_of c.args.a in
    let b = plain g.K.Kind.extra_of c.args.b in
    (refl, known_both Product k (product_work v.letters) v a b a (product_with_zero k v a b (c.if-is_constant.ensures.0 refl)))

pub returns-then-is_constant-2-clause-begins : goal.returns-then-is_constant-2-clause-begins
returns-then-is_constant-2-clause-begins g c =
    let k = g.K.Kind.NAME in
    let v = c.args.manager.now in
    let a = plain g.K.Kind.extra_of c.args.a in
    let b = plain g.K.Kind.extra_of c.args.b in
    (refl, known_both Product k (product_work v.letters) v a b b (swapped Product k v b a b (product_with_zero k v b a (c.if-is_constant-2.ensures.0 refl))))
