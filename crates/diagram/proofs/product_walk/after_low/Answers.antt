use Rattle.std.proofs.Common.{◌≡◌, refl, sym, ◌∙◌, arith, rules}
use Rattle.word_base.specs.declared.decomp.Decomp.TheVariants.{S}
use Rattle.kind_laws.specs.Plain.{plain}
use Rattle.diagram.specs.ProductFrames.{plain_product}
use Rattle.diagram.specs.declared.product_walk.Stage.TheVariants.{Low}
use Rattle.diagram.proofs.ProductWalk.{fewer_left, waiting_within, waits_for_low_high, waits_for_high_shannon}
use Rattle.diagram.proofs.product_walk.after_low.Goals as goal

pub letter-letter-requires-after_bounds : goal.letter-letter-requires-after_bounds
letter-letter-requires-after_bounds g c = λ lives bounds.
    let f = plain_product g.K.Kind.extra_of c.args.frame.now in
    waiting_within g.K.Kind.NAME f c.args.manager.now (plain g.K.Kind.extra_of c.args.known) c.requires.waiting

pub returns-then-eq : goal.returns-then-eq
returns-then-eq g c = λ at.
    let f = plain_product g.K.Kind.extra_of c.args.frame.now in
    let shannon : c.letter-letter.result ≡ S = search rules in (
      waits_for_high_shannon g.K.Kind.NAME f c.args.manager.now (plain g.K.Kind.extra_of c.args.known) at c.requires.stage (sym c.letter-letter.ensures.letter ∙ shannon),
      refl,
      fewer_left 0 f.stage Low c.requires.stage (omega arith),
    )

pub returns : goal.returns
returns g c = λ at.
    let f = plain_product g.K.Kind.extra_of c.args.frame.now in
    let davio : c.letter-letter.result ≡ S → ⊥ = search rules in (
      waits_for_low_high g.K.Kind.NAME f c.args.manager.now (plain g.K.Kind.extra_of c.args.known) at c.requires.stage
          (λ shannon. davio (c.letter-letter.ensures.letter ∙ shannon)),
      refl,
      fewer_left 2 f.stage Low c.requires.stage (omega arith),
    )
