use Rattle.std.proofs.Common.{◌≡◌, refl, ◌∙◌, ℕ, ◌<◌, sym, ap, subst, length, map, List, [], ◌∷◌, arith}
use Rattle.std.specs.Prelude.{All, Contains, slice_index_or, Ok, Err}
use Rattle.std.proofs.lemmas.List.{length-map}
use Rattle.std.proofs.lemmas.List.Elements.{All-contains}
use Rattle.diagram.proofs.LevelLaws.{good_at}
use Rattle.checks.specs.Work.{word_table, word_work}
use Rattle.kind_laws.specs.Plain.{PlainEdge, plain}
use Rattle.spec_lang.specs.Value.{nets_of}
use Rattle.word_apply.specs.Applied.{AreEdges, IsOfAll, plain_edges}
use Rattle.word_apply.proofs.EdgeLists.{still_edges, all_somewhere}
use Rattle.cone_builder.specs.Built.{AreBuilt, or_listed}
use Rattle.cone_builder.proofs.BuiltLaws.{gathered_good, with_edge, no_edge, plain_set}
use Rattle.cone_builder.proofs.CauseLaws.{causes_answered, limit_refused, word_causes}
use Rattle.cone_builder.proofs.WordLaws.{word_built}
use Rattle.cone_builder.proofs.words.build_word.Goals as goal

word_within : (nets : List ℕ) (many as_many : ℕ) → as_many ≡ many → All (λ n. n < many) nets → (net : ℕ) → Contains nets net → net < as_many
word_within nets many as_many same all net has = subst (λ (n : ℕ). net < n) (sym same) (All-contains (λ (n : ℕ). n < many) nets net all has)

pub word-requires-2-clause-good : goal.word-requires-2-clause-good
word-requires-2-clause-good g c κs within_bounds =
    let k = g.K.Kind.NAME in
    let of = g.K.Kind.extra_of in
    let v = c.args.builder.now in
    let all = c.args.spec.now.words in
    let number = c.args.number in
    let nets = plain_edges of c.args.nets.now in
    let listed = nets_of all number in
    let within = word_within listed (length c.args.nets.now) (length nets) (length-map c.args.nets.now (plain of)) c.requires.within in
    let is : plain_edges of c.as_slice.result.now ≡ map (λ net. slice_index_or nets net no_edge) listed =
    ap (plain_edges of) c.as_slice.ensures.value ∙ c.in_ok-gather.ensures no_edge ∙ ap (map (λ net. slice_index_or nets net no_edge)) c.word.ensures.nets in
    subst (AreEdges k v) (sym is) (gathered_good k v nets no_edge listed c.requires.nets_good within)

pub word-requires-2-clause-some : goal.word-requires-2-clause-some
word-requires-2-clause-some g c κs within_bounds =
    let k = g.K.Kind.NAME in
    let of = g.K.Kind.extra_of in
    let v = c.args.builder.now in
    let all = c.args.spec.now.words in
    let number = c.args.number in
    let nets = plain_edges of c.args.nets.now in
    let listed = nets_of all number in
    let within = word_within listed (length c.args.nets.now) (length nets) (length-map c.args.nets.now (plain of)) c.requires.within in
    let is : plain_edges of c.as_slice.result.now ≡ map (λ net. slice_index_or nets net no_edge) listed =
    ap (plain_edges of) c.as_slice.ensures.value ∙ c.in_ok-gather.ensures no_edge ∙ ap (map (λ net. slice_index_or nets net no_edge)) c.word.ensures.nets in
    let as_many : length c.as_slice.result.now ≡ length listed =
    sym (length-map c.as_slice.result.now (plain of)) ∙ ap length is ∙ length-map listed (λ net. slice_index_or nets net no_edge) in
    let same : length c.word.result.now ≡ length listed = ap length c.word.ensures.nets in
    omega (arith, as_many, same, c.word.ensures.some)

pub word-requires-2-clause-few : goal.word-requires-2-clause-few
word-requires-2-clause-few g c κs within_bounds =
    let k = g.K.Kind.NAME in
    let of = g.K.Kind.extra_of in
    let v = c.args.builder.now in
    let all = c.args.spec.now.words in
    let number = c.args.number in
    let nets = plain_edges of c.args.nets.now in
    let listed = nets_of all number in
    let within = word_within listed (length c.args.nets.now) (length nets) (length-map c.args.nets.now (plain of)) c.requires.within in
    let is : plain_edges of c.as_slice.result.now ≡ map (λ net. slice_index_or nets net no_edge) listed =
    ap (plain_edges of) c.as_slice.ensures.value ∙ c.in_ok-gather.ensures no_edge ∙ ap (map (λ net. slice_index_or nets net no_edge)) c.word.ensures.nets in
    let as_many : length c.as_slice.result.now ≡ length listed =
    sym (length-map c.as_slice.result.now (plain of)) ∙ ap length is ∙ length-map listed (λ net. slice_index_or nets net no_edge) in
    let same : length c.word.result.now ≡ length listed = ap length c.word.ensures.nets in
    omega (arith, as_many, same, c.word.ensures.few)

pub returns-clause-good : goal.returns-clause-good
returns-clause-good g c =
    let k = g.K.Kind.NAME in
    let of = g.K.Kind.extra_of in
    let v = c.args.builder.now in
    let all = c.args.spec.now.words in
    let number = c.args.number in
    let nets = plain_edges of c.args.nets.now in
    let listed = nets_of all number in
    let within = word_within listed (length c.args.nets.now) (length nets) (length-map c.args.nets.now (plain of)) c.requires.within in
    let is : plain_edges of c.as_slice.result.now ≡ map (λ net. slice_index_or nets net no_edge) listed =
    ap (plain_edges of) c.as_slice.ensures.value ∙ c.in_ok-gather.ensures no_edge ∙ ap (map (λ net. slice_index_or nets net no_edge)) c.word.ensures.nets in
    let w = c.word-2.new.builder in
    let edge = plain of c.in_ok-words.field-0 in
    let tables = all_somewhere k v (plain_edges of c.as_slice.result.now) (subst (AreEdges k v) (sym is) (gathered_good k v nets no_edge listed c.requires.nets_good within)) in
    let good = good_at k w edge 0 _ (c.in_ok-words.ensures.word 0 tables.0 (omega arith) tables.1).stands in
    let words = plain_edges of c.args.words.now in
    subst (AreEdges k w) (sym (plain_set of c.args.words.now number c.in_ok-words.field-0))
    (with_edge k w words number edge (still_edges k v w words c.in_ok-words.ensures.keeps c.requires.good) good)

pub returns-clause-built : goal.returns-clause-built
returns-clause-built g c = λ of_net table built_nets built are nets_built h named.
    let k = g.K.Kind.NAME in
    let of = g.K.Kind.extra_of in
    let v = c.args.builder.now in
    let all = c.args.spec.now.words in
    let number = c.args.number in
    let nets = plain_edges of c.args.nets.now in
    let listed = nets_of all number in
    let within = word_within listed (length c.args.nets.now) (length nets) (length-map c.args.nets.now (plain of)) c.requires.within in
    let is : plain_edges of c.as_slice.result.now ≡ map (λ net. slice_index_or nets net no_edge) listed =
    ap (plain_edges of) c.as_slice.ensures.value ∙ c.in_ok-gather.ensures no_edge ∙ ap (map (λ net. slice_index_or nets net no_edge)) c.word.ensures.nets in
    let w = c.word-2.new.builder in
    let edge = plain of c.in_ok-words.field-0 in
    let made = subst (λ (es : List PlainEdge). IsOfAll (λ l. word_table) word_work k v w es (Ok edge)) is c.in_ok-words.ensures.word in
    subst (AreBuilt k w table (or_listed built (number ∷ []))) (sym (plain_set of c.args.words.now number c.in_ok-words.field-0))
    (word_built k all v w number nets (plain_edges of c.args.words.now) no_edge edge c.requires.number c.in_ok-words.ensures.keeps within made
    of_net table built_nets built are nets_built h named)

pub returns-in_err-words-clause-causes : goal.returns-in_err-words-clause-causes
returns-in_err-words-clause-causes g c = λ of_net built_nets ps h named includes.
    let k = g.K.Kind.NAME in
    let of = g.K.Kind.extra_of in
    let v = c.args.builder.now in
    let all = c.args.spec.now.words in
    let number = c.args.number in
    let nets = plain_edges of c.args.nets.now in
    let listed = nets_of all number in
    let within = word_within listed (length c.args.nets.now) (length nets) (length-map c.args.nets.now (plain of)) c.requires.within in
    let is : plain_edges of c.as_slice.result.now ≡ map (λ net. slice_index_or nets net no_edge) listed =
    ap (plain_edges of) c.as_slice.ensures.value ∙ c.in_ok-gather.ensures no_edge ∙ ap (map (λ net. slice_index_or nets net no_edge)) c.word.ensures.nets in
    let w = c.word-2.new.builder in
    let e = c.in_err-words.field-0.0 in
    let made = subst (λ (es : List PlainEdge). IsOfAll (λ l. word_table) word_work k v w es (Err e)) is c.in_err-words.ensures.word in
    limit_refused {X = PlainEdge} k v w ps c.from_residual-in_err-words.result (Err e) e refl c.from_residual-in_err-words.ensures.1
    (word_causes k all v w number nets no_edge (Err e) c.in_err-words.ensures.keeps within made of_net built_nets ps h named includes)

pub returns-clause-causes : goal.returns-clause-causes
returns-clause-causes g c = λ of_net built_nets ps h named includes.
    let k = g.K.Kind.NAME in
    let of = g.K.Kind.extra_of in
    let v = c.args.builder.now in
    let all = c.args.spec.now.words in
    let number = c.args.number in
    let nets = plain_edges of c.args.nets.now in
    let listed = nets_of all number in
    let within = word_within listed (length c.args.nets.now) (length nets) (length-map c.args.nets.now (plain of)) c.requires.within in
    let is : plain_edges of c.as_slice.result.now ≡ map (λ net. slice_index_or nets net no_edge) listed =
    ap (plain_edges of) c.as_slice.ensures.value ∙ c.in_ok-gather.ensures no_edge ∙ ap (map (λ net. slice_index_or nets net no_edge)) c.word.ensures.nets in
    let w = c.word-2.new.builder in
    let edge = plain of c.in_ok-words.field-0 in
    let made = subst (λ (es : List PlainEdge). IsOfAll (λ l. word_table) word_work k v w es (Ok edge)) is c.in_ok-words.ensures.word in
    causes_answered k v w ps (Ok edge) tt
    (word_causes k all v w number nets no_edge (Ok edge) c.in_ok-words.ensures.keeps within made of_net built_nets ps h named includes)
