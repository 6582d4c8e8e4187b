use Rattle.std.proofs.Common.{◌-◌, List, length, take, drop, subst, sym}
use Rattle.checks.specs.Work.{word_table, word_work}
use Rattle.kind_laws.specs.Plain.{plain, answered}
use Rattle.word_apply.specs.Applied.{plain_edges, IsOfAll}
use Rattle.word_apply.proofs.EdgeLists.{first_and_rest}
use Rattle.word_apply.proofs.WordCalls.{word_answers}
use Rattle.word_apply.proofs.words.word.Goals as goal

pub returns-clause-word : goal.returns-clause-word
returns-clause-word g c =
    let k = g.K.Kind.NAME in
    let of = g.K.Kind.extra_of in
    let v = c.args.builder.now in
    let w = c.add_multiples.new.builder in
    let bits = c.args.bits.now in
    let all = first_and_rest bits c.first-item.result c.in-len1-up.len_at_least c.first-item.is in
    let result = answered (plain of) c.add_multiples.result in
    subst (λ (es : List _). IsOfAll (λ l. word_table) word_work k v w (plain_edges of es) result) (sym all)
    (word_answers k v w (plain of c.first-item.result) (plain_edges of (take (length bits - 1) (drop 1 bits))) result c.add_multiples.ensures.keeps c.add_multiples.ensures.sum)
