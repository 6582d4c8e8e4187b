use Rattle.std.proofs.Common.{◌≡◌, refl, sym, ◌∙◌, subst, take, get_or, List, ℕ, arith}
use Rattle.std.proofs.lemmas.List.{take_all, length-map}
use Rattle.std.specs.Prelude.{Ok}
use Rattle.diagram.proofs.StoreLaws.{keeps_on}
use Rattle.kind_laws.specs.Plain.{plain}
use Rattle.word_apply.specs.Applied.{plain_edges}
use Rattle.word_apply.proofs.EdgeLists.{still_edges}
use Rattle.cone_builder.specs.Built.{AreBuilt, or_listed}
use Rattle.cone_builder.specs.Causes.{limit_met}
use Rattle.cone_builder.proofs.CauseLaws.{error_refused, next_word_causes}
use Rattle.cone_builder.proofs.WordLaws.{no_words, one_more_word}
use Rattle.cone_builder.proofs.words.build_words.Goals as goal

pub loop-number-init : goal.loop-number-init
loop-number-init g c =
    no_words g.K.Kind.NAME c.args.spec.now.words c.args.builder.now c.args.numbers.now (plain_edges g.K.Kind.extra_of c.args.nets.now)
    (plain_edges g.K.Kind.extra_of c.args.words.now) c.requires.nets_good c.requires.good

pub loop-number-preserved : goal.loop-number-preserved
loop-number-preserved g c =
    let k = g.K.Kind.NAME in
    let of = g.K.Kind.extra_of in
    let place = c.loop-number.number-index in
    let number = get_or c.args.numbers.now place 0 in
    let nets = plain_edges of c.args.nets.now in
    let old = plain_edges of c.args.words.now in
    let words = plain_edges of c.loop-number.words in
    let new = plain_edges of c.build_word.new.words in
    let long = length-map c.build_word.new.words (plain of) ∙ c.build_word.auto.words ∙ sym (length-map c.loop-number.words (plain of)) in
    one_more_word k c.args.spec.now.words c.args.builder.now c.loop-number.builder c.build_word.new.builder c.args.numbers.now place number nets old words new
    c.loop-number-test.true refl c.loop-number.invariant c.in_ok-build_word.ensures.keeps long
    (still_edges k c.loop-number.builder c.build_word.new.builder nets c.in_ok-build_word.ensures.keeps c.loop-number.invariant.nets_good)
    c.in_ok-build_word.ensures.good c.in_ok-build_word.ensures.built
    (next_word_causes k c.args.spec.now.words c.args.builder.now c.loop-number.builder c.build_word.new.builder c.args.numbers.now place number nets old words (Ok tt)
    c.loop-number-test.true refl c.loop-number.invariant c.in_ok-build_word.ensures.keeps c.in_ok-build_word.ensures.causes)

pub returns-clause-built : goal.returns-clause-built
returns-clause-built g c = λ of_net table built_nets built are nets_built h named.
    let all : take c.loop-number.number-index c.args.numbers.now ≡ c.args.numbers.now = take_all c.loop-number.number-index c.args.numbers.now (omega arith) in
    subst (λ (listed : List ℕ). AreBuilt g.K.Kind.NAME c.loop-number.builder table (or_listed built listed) (plain_edges g.K.Kind.extra_of c.loop-number.words)) all
    (c.loop-number.invariant.built of_net table built_nets built are nets_built h named)

pub returns-in_err-build_word-clause-causes : goal.returns-in_err-build_word-clause-causes
returns-in_err-build_word-clause-causes g c = λ of_net built_nets ps h named each_of.
    let k = g.K.Kind.NAME in
    let of = g.K.Kind.extra_of in
    let place = c.loop-number.number-index in
    error_refused k c.args.builder.now c.build_word.new.builder ps c.from_residual.result c.build_word.result c.in_err-build_word.field-0.0 c.in_err-build_word.was
    c.from_residual.ensures.1
    (next_word_causes k c.args.spec.now.words c.args.builder.now c.loop-number.builder c.build_word.new.builder c.args.numbers.now place (get_or c.args.numbers.now place 0)
    (plain_edges of c.args.nets.now) (plain_edges of c.args.words.now) (plain_edges of c.loop-number.words) (limit_met c.build_word.result) c.loop-number-test.true refl
    c.loop-number.invariant c.build_word.ensures.keeps c.build_word.ensures.causes of_net built_nets ps h named each_of)

pub returns-clause-causes : goal.returns-clause-causes
returns-clause-causes g c = c.loop-number.invariant.caused

pub returns-in_err-build_word-clause-keeps : goal.returns-in_err-build_word-clause-keeps
returns-in_err-build_word-clause-keeps g c = keeps_on c.args.builder.now c.loop-number.builder c.build_word.new.builder c.loop-number.invariant.keeps c.build_word.ensures.keeps
