use Rattle.std.proofs.Common.{◌∙◌, ◌++◌, ◌∷◌, [], sym, ap, map, length, get_or, subst, ◌<◌, ℕ, arith}
use Rattle.std.specs.Prelude.{slice_index_or}
use Rattle.std.proofs.lemmas.List.{take_all, length-map, map-append}
use Rattle.kind_laws.specs.Plain.{plain}
use Rattle.word_apply.specs.Applied.{plain_edges}
use Rattle.cone_builder.proofs.BuiltLaws.{gathered_more, plain_at}
use Rattle.cone_builder.proofs.gates.gather.Goals as goal

pub loop-net-preserved : goal.loop-net-preserved
loop-net-preserved g c = λ d.
    let of = g.K.Kind.extra_of in
    let i = c.loop-net.net-index in
    let edge = c.index-edges-net.result in
    let edges = c.args.edges.now in
    let net = get_or c.args.nets.now i 0 in
    let within = subst (λ (n : ℕ). net < n) (sym (length-map edges (plain of))) (c.requires i 0 c.loop-net-test.true) in
    ap (plain_edges of) c.in_ok-push.ensures.items ∙ map-append (plain of) c.loop-net.into.items (edge ∷ [])
    ∙ gathered_more (plain_edges of edges) c.args.nets.now i d (plain of edge) (plain_edges of c.loop-net.into.items) c.loop-net-test.true
    within (c.loop-net.invariant d) (ap (plain of) c.index-edges-net.is ∙ sym (plain_at of edges net edge))

pub returns : goal.returns
returns g c = λ d.
    c.loop-net.invariant d
    ∙ ap (map (λ net. slice_index_or (plain_edges g.K.Kind.extra_of c.args.edges.now) net d)) (take_all c.loop-net.net-index c.args.nets.now (omega arith))
