-- What is left after a put to a sink of some room.
use Rattle.std.proofs.Common.{◌≡◌, ℕ, ◌+◌, ◌-◌, ◌≤◌, ◌<◌, true, List, ◌++◌, length, take, sym, ◌∙◌, ap, cond, arith}
use Rattle.std.proofs.Math.Seq.{take-append-add}
use Rattle.std.proofs.lemmas.List.{length-append}
use Rattle.std.proofs.lemmas.Bool.Decides.{nat_tests}
use Rattle.outside.specs.Count.{raised}
use Rattle.outside.specs.MemorySink.{SinkState, passes, after_put}

-- how many bytes still fit
abbrev pub left_of : SinkState → ℕ
left_of sink = sink.room - length sink.written

-- more bytes than fit pass the room
pub passes-longer : (sink : SinkState) (bytes : List ℕ) → length sink.written ≤ sink.room → left_of sink < length bytes → passes sink bytes ≡ true
passes-longer sink bytes full longer = let size = length-append sink.written bytes in grind (arith, nat_tests)

-- as many bytes are appended as fit
pub take-room : (sink : SinkState) (bytes : List ℕ) → length sink.written ≤ sink.room →
    take sink.room (sink.written ++ bytes) ≡ sink.written ++ take (left_of sink) bytes
take-room sink bytes full =
    let split : sink.room ≡ length sink.written + left_of sink = omega arith in
    ap (λ n. take n (sink.written ++ bytes)) split ∙ take-append-add sink.written bytes (left_of sink)

-- what a put leaves where the bytes pass the room
pub after_put-longer : (sink : SinkState) (bytes written : List ℕ) (faults : ℕ) → length sink.written ≤ sink.room → left_of sink < length bytes →
    written ≡ sink.written ++ take (left_of sink) bytes → faults ≡ raised sink.faults →
    record { written = written; room = sink.room; faults = faults } ≡ after_put sink bytes
after_put-longer sink bytes written faults full longer appended risen =
    let passed = passes-longer sink bytes full longer in
    λ i. record {
      written = (appended ∙ sym (take-room sink bytes full)) i;
      room = sink.room;
      faults = (risen ∙ ap (λ b. cond b (raised sink.faults) sink.faults) (sym passed)) i;
    }
