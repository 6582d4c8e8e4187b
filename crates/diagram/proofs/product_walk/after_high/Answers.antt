use Rattle.std.proofs.Common.{◌≡◌, sym, ◌∙◌, rules}
use Rattle.word_base.specs.declared.decomp.Decomp.TheVariants.{S}
use Rattle.kind_laws.specs.Plain.{plain, answered}
use Rattle.diagram.specs.ProductFrames.{plain_product}
use Rattle.diagram.proofs.ProductWalk.{waiting_within, known_good, last_mixed_good, high_refuses, shannon_has_both, shannon_completes, davio_has_both, davio_completes, product_refused}
use Rattle.diagram.proofs.StoreLaws.{keeps_on}
use Rattle.diagram.proofs.product_walk.after_high.Goals as goal

pub letter-letter-requires-after_bounds : goal.letter-letter-requires-after_bounds
letter-letter-requires-after_bounds g c = λ lives bounds.
    waiting_within g.K.Kind.NAME (plain_product g.K.Kind.extra_of c.args.frame.now) c.args.manager.now (plain g.K.Kind.extra_of c.args.known) c.requires.waiting

pub complete-requires-after_bounds : goal.complete-requires-after_bounds
complete-requires-after_bounds g c κs within =
    let shannon : c.letter-letter.result ≡ S = search rules in
    shannon_has_both g.K.Kind.NAME (plain_product g.K.Kind.extra_of c.args.frame.now) c.args.manager.now (plain g.K.Kind.extra_of c.args.known) c.requires.stage
    (sym c.letter-letter.ensures.letter ∙ shannon) c.requires.waiting

pub returns-then-eq-clause-product : goal.returns-then-eq-clause-product
returns-then-eq-clause-product g c =
    let k = g.K.Kind.NAME in
    let shannon : c.letter-letter.result ≡ S = search rules in
    shannon_completes k (plain_product g.K.Kind.extra_of c.args.frame.now) c.args.manager.now c.complete.new.manager (plain g.K.Kind.extra_of c.args.known)
    (answered (plain g.K.Kind.extra_of) c.complete.result) c.requires.stage (sym c.letter-letter.ensures.letter ∙ shannon) c.complete.ensures.product

pub sum_of-requires-clause-a_good : goal.sum_of-requires-clause-a_good
sum_of-requires-clause-a_good g c κs within =
    let davio : c.letter-letter.result ≡ S → ⊥ = search rules in
    last_mixed_good g.K.Kind.NAME (plain_product g.K.Kind.extra_of c.args.frame.now) c.args.manager.now (plain g.K.Kind.extra_of c.args.known) c.requires.stage
    (λ shannon. davio (c.letter-letter.ensures.letter ∙ shannon)) c.requires.waiting

pub sum_of-requires-clause-b_good : goal.sum_of-requires-clause-b_good
sum_of-requires-clause-b_good g c κs within =
    known_good g.K.Kind.NAME (plain_product g.K.Kind.extra_of c.args.frame.now) c.args.manager.now (plain g.K.Kind.extra_of c.args.known) c.requires.waiting

pub returns-in_err-high-clause-product : goal.returns-in_err-high-clause-product
returns-in_err-high-clause-product g c = λ at.
    let k = g.K.Kind.NAME in
    let f = plain_product g.K.Kind.extra_of c.args.frame.now in
    let davio : c.letter-letter.result ≡ S → ⊥ = search rules in
    product_refused k at.outer.view c.sum_of.new.manager at.outer.operands.0 at.outer.operands.1 (plain g.K.Kind.extra_of) c.from_residual.result c.in_err-high.field-0.0
    c.from_residual.ensures.1
    (high_refuses k f c.args.manager.now c.sum_of.new.manager (plain g.K.Kind.extra_of c.args.known) c.in_err-high.field-0.0 c.requires.stage
    (λ shannon. davio (c.letter-letter.ensures.letter ∙ shannon)) at c.in_err-high.ensures.keeps c.in_err-high.ensures.sum)

pub complete-requires-2-after_bounds : goal.complete-requires-2-after_bounds
complete-requires-2-after_bounds g c κs within =
    let davio : c.letter-letter.result ≡ S → ⊥ = search rules in
    davio_has_both g.K.Kind.NAME (plain_product g.K.Kind.extra_of c.args.frame.now) c.args.manager.now c.sum_of.new.manager (plain g.K.Kind.extra_of c.args.known)
    (plain g.K.Kind.extra_of c.in_ok-high.high) c.requires.stage (λ shannon. davio (c.letter-letter.ensures.letter ∙ shannon)) c.requires.waiting c.in_ok-high.ensures.keeps
    c.in_ok-high.ensures.sum

pub returns-clause-keeps : goal.returns-clause-keeps
returns-clause-keeps g c =
    keeps_on c.args.manager.now c.sum_of.new.manager c.complete-2.new.manager c.in_ok-high.ensures.keeps c.complete-2.ensures.keeps

pub returns-clause-product : goal.returns-clause-product
returns-clause-product g c =
    let davio : c.letter-letter.result ≡ S → ⊥ = search rules in
    davio_completes g.K.Kind.NAME (plain_product g.K.Kind.extra_of c.args.frame.now) c.args.manager.now c.sum_of.new.manager c.complete-2.new.manager
    (plain g.K.Kind.extra_of c.args.known) (plain g.K.Kind.extra_of c.in_ok-high.high) (answered (plain g.K.Kind.extra_of) c.complete-2.result) c.requires.stage
    (λ shannon. davio (c.letter-letter.ensures.letter ∙ shannon)) c.in_ok-high.ensures.keeps c.in_ok-high.ensures.sum c.complete-2.ensures.product
