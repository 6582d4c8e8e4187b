-- A sink in memory.
use Rattle.std.specs.Prelude.{◌≡◌, ℕ, Bool, nat_lt, List, [], ◌∷◌, ◌++◌, length, take, refl}
use Rattle.outside.specs.Count.{counted}

-- what was written, for how many bytes there is room in all, and how often a put passed the room
pub record SinkState : Type 0 where
  pub written : List ℕ
  pub room : ℕ
  pub faults : ℕ

-- the bytes pass the room
abbrev pub passes : SinkState → List ℕ → Bool
passes sink bytes = nat_lt sink.room (length (sink.written ++ bytes))

-- after a put: those that fit are appended, and the count rises where that is not all
abbrev pub after_put : SinkState → List ℕ → SinkState
after_put sink bytes = record {
  written = take sink.room (sink.written ++ bytes);
  room = sink.room;
  faults = counted (passes sink bytes) sink.faults;
}

after_put-room_for_two :
    after_put (record { written = 7 ∷ []; room = 2; faults = 0 }) (8 ∷ 9 ∷ []) ≡ record { written = 7 ∷ 8 ∷ []; room = 2; faults = 1 }
after_put-room_for_two = refl

after_put-room_for_three :
    after_put (record { written = 7 ∷ []; room = 3; faults = 0 }) (8 ∷ 9 ∷ []) ≡ record { written = 7 ∷ 8 ∷ 9 ∷ []; room = 3; faults = 0 }
after_put-room_for_three = refl
