use Rattle.std.proofs.Common.{◌∙◌, ap, filter, map}
use Rattle.std.proofs.lemmas.Result.{IfOk-weaker}
use Rattle.spec_grammar.specs.Fields.{has_bytes}
use Rattle.spec_reader.proofs.FieldLemmas.{not_empty-map}
use Rattle.spec_reader.proofs.fields.fields.Goals as goal

pub returns : goal.returns
returns c =
    IfOk-weaker c.with_bytes.result _ _
    (λ found e. ap (map (λ field. field.now)) e ∙ not_empty-map (λ field. field.now) c.deref.result.now ∙ ap (λ pieces. filter has_bytes (map (λ piece. piece.now) pieces)) c.deref.ensures.value ∙ ap (filter has_bytes) c.in_ok-pieces.ensures)
    c.with_bytes.ensures
