use Rattle.std.proofs.Common.{◌≡◌, sym, subst, length, arith, rules}
use Rattle.diagram.proofs.LevelLaws.{still_edge, good_at}
use Rattle.diagram.proofs.StoreLaws.{keeps_itself, keeps_on}
use Rattle.kind_laws.specs.Plain.{plain, answered}
use Rattle.spec_lang.specs.Formula.{formula_of}
use Rattle.spec_lang.specs.declared.expr.Expr.TheVariants as variant
use Rattle.word_apply.specs.Applied.{plain_edges}
use Rattle.word_apply.proofs.EdgeLists.{still_edges, all_somewhere}
use Rattle.word_apply.proofs.ExpressionCalls.{number_answers, word_answers, operand_refuses, negative_answers, first_refuses, second_refuses, two_answers}
use Rattle.word_apply.proofs.ExpressionLaws.{IsOfTwo, names_word, names_negative, names_two, fewer_below, fewer_in_two}
use Rattle.word_apply.proofs.expressions.+expression.Goals as goal

-- where the call of an operand is within what may be called
pub expression-requires : goal.expression-requires
expression-requires g t c = λ lives bounds.
    let n = length c.args.words.now in
    let is = subst (λ a. c.args.expr.now ≡ variant.Neg a) (sym c.get.ensures) c.in-Neg.is in
    let named = names_negative n c.args.expr.now c.get.result.now is c.requires.named in
    (fewer_below c.args.expr.now c.get.result.now t (sym c.decreases) is, (bounds.0, (bounds.1.0, (bounds.1.1, (search rules, (search rules, (search rules, (search rules, (c.requires.good, named)))))))))

pub returns-in_err-a-in-Neg-clause-formula : goal.returns-in_err-a-in-Neg-clause-formula
returns-in_err-a-in-Neg-clause-formula g t c =
    let is = subst (λ a. c.args.expr.now ≡ variant.Neg a) (sym c.get.ensures) c.in-Neg.is in
    operand_refuses g.K.Kind.NAME c.args.builder.now c.expression.new.builder c.args.expr.now c.get.result.now (plain_edges g.K.Kind.extra_of c.args.words.now)
    (plain g.K.Kind.extra_of) c.from_residual.result c.in_err-a-in-Neg.field-0.0 is c.from_residual.ensures.1 c.in_err-a-in-Neg.ensures.keeps c.in_err-a-in-Neg.ensures.formula

pub neg-requires-after_bounds : goal.neg-requires-after_bounds
neg-requires-after_bounds g t c = λ lives bounds.
    let words = all_somewhere g.K.Kind.NAME c.args.builder.now (plain_edges g.K.Kind.extra_of c.args.words.now) c.requires.good in
    good_at g.K.Kind.NAME c.expression.new.builder (plain g.K.Kind.extra_of c.in_ok-a-in-Neg.a) 0 _ (c.in_ok-a-in-Neg.ensures.formula 0 words.0 (omega arith) words.1).stands

pub returns-in_ok-a-in-Neg-clause-keeps : goal.returns-in_ok-a-in-Neg-clause-keeps
returns-in_ok-a-in-Neg-clause-keeps g t c =
    keeps_on c.args.builder.now c.expression.new.builder c.neg.new.self c.in_ok-a-in-Neg.ensures.keeps c.neg.ensures.keeps

pub returns-in_ok-a-in-Neg-clause-formula : goal.returns-in_ok-a-in-Neg-clause-formula
returns-in_ok-a-in-Neg-clause-formula g t c =
    let is = subst (λ a. c.args.expr.now ≡ variant.Neg a) (sym c.get.ensures) c.in-Neg.is in
    negative_answers g.K.Kind.NAME c.args.builder.now c.expression.new.builder c.neg.new.self c.args.expr.now c.get.result.now
    (plain_edges g.K.Kind.extra_of c.args.words.now) (plain g.K.Kind.extra_of c.in_ok-a-in-Neg.a) (answered (plain g.K.Kind.extra_of) c.neg.result) is
    c.in_ok-a-in-Neg.ensures.keeps c.neg.ensures.keeps c.in_ok-a-in-Neg.ensures.formula c.neg.ensures.negative

pub expression-requires-in-Add : goal.expression-requires-in-Add
expression-requires-in-Add g t c = λ lives bounds.
    let n = length c.args.words.now in
    let is = subst (λ a. IsOfTwo c.args.expr.now a c.in-Add.b) (sym c.get-in-Add.ensures) c.in-Add.is in
    let fewer = (fewer_in_two c.args.expr.now c.get-in-Add.result.now c.in-Add.b t (sym c.decreases) is).0 in
    let named = (names_two n c.args.expr.now c.get-in-Add.result.now c.in-Add.b is c.requires.named).0 in
    (fewer, (bounds.0, (bounds.1.0, (bounds.1.1, (search rules, (search rules, (search rules, (search rules, (c.requires.good, named)))))))))

pub returns-in_err-a-in-Add-clause-formula : goal.returns-in_err-a-in-Add-clause-formula
returns-in_err-a-in-Add-clause-formula g t c =
    let is = subst (λ a. IsOfTwo c.args.expr.now a c.in-Add.b) (sym c.get-in-Add.ensures) c.in-Add.is in
    first_refuses g.K.Kind.NAME c.args.builder.now c.expression-in-Add.new.builder c.args.expr.now c.get-in-Add.result.now c.in-Add.b
    (plain_edges g.K.Kind.extra_of c.args.words.now) (plain g.K.Kind.extra_of) c.from_residual-in_err-a-in-Add.result c.in_err-a-in-Add.field-0.0 is
    c.from_residual-in_err-a-in-Add.ensures.1 c.in_err-a-in-Add.ensures.keeps c.in_err-a-in-Add.ensures.formula

pub expression-requires-in-Add-2 : goal.expression-requires-in-Add-2
expression-requires-in-Add-2 g t c = λ lives bounds.
    let n = length c.args.words.now in
    let is = subst (λ b. IsOfTwo c.args.expr.now c.in-Add.a b) (sym c.get-in-Add-2.ensures) c.in-Add.is in
    let fewer = (fewer_in_two c.args.expr.now c.in-Add.a c.get-in-Add-2.result.now t (sym c.decreases) is).1 in
    let named = (names_two n c.args.expr.now c.in-Add.a c.get-in-Add-2.result.now is c.requires.named).1 in
    let good = still_edges g.K.Kind.NAME c.args.builder.now c.expression-in-Add.new.builder (plain_edges g.K.Kind.extra_of c.args.words.now)
    c.in_ok-a-in-Add.ensures.keeps c.requires.good in
    (fewer, (bounds.0, (bounds.1.0, (bounds.1.1, (search rules, (search rules, (search rules, (search rules, (good, named)))))))))

pub returns-in_err-b-in-Add-clause-keeps : goal.returns-in_err-b-in-Add-clause-keeps
returns-in_err-b-in-Add-clause-keeps g t c =
    keeps_on c.args.builder.now c.expression-in-Add.new.builder c.expression-in-Add-2.new.builder c.in_ok-a-in-Add.ensures.keeps c.in_err-b-in-Add.ensures.keeps

pub returns-in_err-b-in-Add-clause-formula : goal.returns-in_err-b-in-Add-clause-formula
returns-in_err-b-in-Add-clause-formula g t c =
    let b = c.get-in-Add-2.result.now in
    let is = subst (λ x. IsOfTwo c.args.expr.now x b) (sym c.get-in-Add.ensures)
    (subst (λ x. IsOfTwo c.args.expr.now c.in-Add.a x) (sym c.get-in-Add-2.ensures) c.in-Add.is) in
    second_refuses g.K.Kind.NAME c.args.builder.now c.expression-in-Add.new.builder c.expression-in-Add-2.new.builder c.args.expr.now c.get-in-Add.result.now b
    (plain_edges g.K.Kind.extra_of c.args.words.now) (plain g.K.Kind.extra_of c.in_ok-a-in-Add.a) (plain g.K.Kind.extra_of) c.from_residual-in_err-b-in-Add.result
    c.in_err-b-in-Add.field-0.0 is c.from_residual-in_err-b-in-Add.ensures.1 c.in_ok-a-in-Add.ensures.keeps c.in_ok-a-in-Add.ensures.formula
    c.in_err-b-in-Add.ensures.keeps c.in_err-b-in-Add.ensures.formula

pub operation-requires-clause-a_good : goal.operation-requires-clause-a_good
operation-requires-clause-a_good g t c κs within =
    let k = g.K.Kind.NAME in
    let a = plain g.K.Kind.extra_of c.in_ok-a-in-Add.a in
    let words = all_somewhere k c.args.builder.now (plain_edges g.K.Kind.extra_of c.args.words.now) c.requires.good in
    still_edge k c.expression-in-Add.new.builder c.expression-in-Add-2.new.builder a c.in_ok-b-in-Add.ensures.keeps
    (good_at k c.expression-in-Add.new.builder a 0 _ (c.in_ok-a-in-Add.ensures.formula 0 words.0 (omega arith) words.1).stands)

pub operation-requires-clause-b_good : goal.operation-requires-clause-b_good
operation-requires-clause-b_good g t c κs within =
    let k = g.K.Kind.NAME in
    let v = c.expression-in-Add.new.builder in
    let edges = plain_edges g.K.Kind.extra_of c.args.words.now in
    let words = all_somewhere k v edges (still_edges k c.args.builder.now v edges c.in_ok-a-in-Add.ensures.keeps c.requires.good) in
    good_at k c.expression-in-Add-2.new.builder (plain g.K.Kind.extra_of c.in_ok-b-in-Add.b) 0 _ (c.in_ok-b-in-Add.ensures.formula 0 words.0 (omega arith) words.1).stands

pub returns-in_ok-b-in-Add-clause-keeps : goal.returns-in_ok-b-in-Add-clause-keeps
returns-in_ok-b-in-Add-clause-keeps g t c =
    keeps_on c.args.builder.now c.expression-in-Add-2.new.builder c.operation.new.builder
    (keeps_on c.args.builder.now c.expression-in-Add.new.builder c.expression-in-Add-2.new.builder c.in_ok-a-in-Add.ensures.keeps c.in_ok-b-in-Add.ensures.keeps)
    c.operation.ensures.keeps

pub returns-in_ok-b-in-Add-clause-formula : goal.returns-in_ok-b-in-Add-clause-formula
returns-in_ok-b-in-Add-clause-formula g t c =
    let a = c.get-in-Add.result.now in
    let b = c.get-in-Add-2.result.now in
    let is = subst (λ x. IsOfTwo c.args.expr.now x b) (sym c.get-in-Add.ensures)
    (subst (λ x. IsOfTwo c.args.expr.now c.in-Add.a x) (sym c.get-in-Add-2.ensures) c.in-Add.is) in
    two_answers g.K.Kind.NAME c.args.builder.now c.expression-in-Add.new.builder c.expression-in-Add-2.new.builder c.operation.new.builder c.args.expr.now a b
    (plain_edges g.K.Kind.extra_of c.args.words.now) (plain g.K.Kind.extra_of c.in_ok-a-in-Add.a) (plain g.K.Kind.extra_of c.in_ok-b-in-Add.b)
    (answered (plain g.K.Kind.extra_of) c.operation.result) is c.in_ok-a-in-Add.ensures.keeps c.in_ok-a-in-Add.ensures.formula
    c.in_ok-b-in-Add.ensures.keeps c.in_ok-b-in-Add.ensures.formula c.operation.ensures.keeps c.operation.ensures.operation

-- ---- numbers and words
pub bounds-words-word : goal.bounds-words-word
bounds-words-word g t c = names_word (length c.args.words.now) c.in-Word.word c.args.expr.now c.in-Word.is c.requires.named

pub returns-in-Number-clause-keeps : goal.returns-in-Number-clause-keeps
returns-in-Number-clause-keeps g t c = keeps_itself c.args.builder.now

pub returns-in-Number-clause-formula : goal.returns-in-Number-clause-formula
returns-in-Number-clause-formula g t c =
    number_answers g.K.Kind.NAME c.args.builder.now c.args.expr.now c.in-Number.number (plain_edges g.K.Kind.extra_of c.args.words.now)
    (plain g.K.Kind.extra_of c.constant.result) c.in-Number.is c.constant.ensures.table

pub returns-in-Word-clause-formula : goal.returns-in-Word-clause-formula
returns-in-Word-clause-formula g t c =
    word_answers g.K.Kind.NAME c.args.builder.now g.K.Kind.extra_of c.args.expr.now c.in-Word.word c.args.words.now c.index-words-word.result c.index-words-word.result
    c.in-Word.is (names_word (length c.args.words.now) c.in-Word.word c.args.expr.now c.in-Word.is c.requires.named) c.index-words-word.is
