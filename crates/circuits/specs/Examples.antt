-- Circuits that serve as examples.
use Rattle.std.specs.Prelude.{◌≡◌, ℕ, List, [], ◌∷◌, Some, None, codes, refl}
use Rattle.circuits.specs.Circuit.{Circuit, Gate, net_count, gate_of, fanin, name_of}
use Rattle.circuits.specs.declared.gate_word.GateWord.{GateWord}
use Rattle.circuits.specs.declared.gate_word.GateWord.TheVariants.{And, Nand, Xor, Not}

abbrev pub gate : List ℕ → GateWord → List ℕ → Gate
gate name word inputs = record { name = name; word = word; inputs = inputs }

-- the half adder: s = XOR(a, b) and c = AND(a, b)
abbrev pub half : Circuit
half = record {
  inputs = codes "a" ∷ codes "b" ∷ [];
  gates = gate (codes "s") Xor (0 ∷ 1 ∷ []) ∷ gate (codes "c") And (0 ∷ 1 ∷ []) ∷ [];
  outputs = 2 ∷ 3 ∷ [];
}

-- the circuit C17 of the ISCAS benchmarks
abbrev pub c17 : Circuit
c17 = record {
  inputs = codes "1" ∷ codes "2" ∷ codes "3" ∷ codes "6" ∷ codes "7" ∷ [];
  gates =
      gate (codes "10") Nand (0 ∷ 2 ∷ [])
      ∷ gate (codes "11") Nand (2 ∷ 3 ∷ [])
      ∷ gate (codes "16") Nand (1 ∷ 6 ∷ [])
      ∷ gate (codes "19") Nand (6 ∷ 4 ∷ [])
      ∷ gate (codes "22") Nand (5 ∷ 7 ∷ [])
      ∷ gate (codes "23") Nand (7 ∷ 8 ∷ [])
      ∷ [];
  outputs = 9 ∷ 10 ∷ [];
}

-- a net that is read before its line: z = AND(y, a) and y = NOT(a)
abbrev pub late : Circuit
late = record {
  inputs = codes "a" ∷ [];
  gates = gate (codes "z") And (2 ∷ 0 ∷ []) ∷ gate (codes "y") Not (0 ∷ []) ∷ [];
  outputs = 1 ∷ [];
}

-- a gate that reads itself: x = AND(x, a)
abbrev pub looped : Circuit
looped = record {
  inputs = codes "a" ∷ [];
  gates = gate (codes "x") And (1 ∷ 0 ∷ []) ∷ [];
  outputs = 1 ∷ [];
}

half-nets : net_count half ≡ 4
half-nets = refl

half-name : name_of half 2 ≡ codes "s"
half-name = refl

half-gate : gate_of half 3 ≡ Some (gate (codes "c") And (0 ∷ 1 ∷ []))
half-gate = refl

half-input : gate_of half 1 ≡ None
half-input = refl

c17-nets : net_count c17 ≡ 11
c17-nets = refl

c17-name : name_of c17 3 ≡ codes "6"
c17-name = refl

c17-fanin : fanin c17 9 ≡ 5 ∷ 7 ∷ []
c17-fanin = refl
