use Rattle.std.proofs.Common.{◌≡◌, ◌∙◌, ap, arith, ◌++◌, take}
use Rattle.std.proofs.lemmas.Grind.{common_steps}
use Rattle.outside.specs.Count.{raised}
use Rattle.outside.specs.MemorySink.{SinkState, after_put}
use Rattle.outside.proofs.Puts.{left_of, after_put-longer}
use Rattle.outside.proofs.memory_sink.MemorySinkSink.put.Goals as goal

pub returns-then-fitting-bytes-clause-after : goal.returns-then-fitting-bytes-clause-after
returns-then-fitting-bytes-clause-after c =
    let sink : SinkState = record { written = c.self.inside.bytes.items; room = c.self.inside.room; faults = c.self.inside.faults } in
    let appended : c.extend_from_slice.new.self.items ≡ sink.written ++ take (left_of sink) c.args.bytes.now = grind (arith, common_steps) in
    let risen : c.saturating_add-self-inside.result ≡ raised sink.faults = omega arith in
    after_put-longer sink c.args.bytes.now _ _ (omega arith) (omega arith) appended risen
    ∙ ap (λ (s : SinkState). after_put s c.args.bytes.now) c.self.view_is
