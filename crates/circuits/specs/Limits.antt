-- How large a netlist may be.
use Rattle.std.specs.Prelude.{◌≡◌, ℕ, ◌<◌, ◌≤◌, ◌==◌, Bool, true, false, List, [], ◌∷◌, length, All, IsTrue, IsFalse, nat_lt, codes, replicate, if◌then◌else◌, refl}
use Rattle.circuits.specs.Circuit.{Circuit, Gate}
use Rattle.circuits.specs.declared.gate_word.GateWord.{GateWord}
use Rattle.circuits.specs.declared.gate_word.GateWord.TheVariants.{And, Not, Buff}
use Rattle.circuits.specs.declared.limits.TheConstants.{MOST_INPUTS, MOST_GATES, MOST_FANIN, LONGEST_NAME}

abbrev pub takes_one : GateWord → Bool
takes_one Not = true
takes_one Buff = true
takes_one _ = false

-- NOT and BUFF take one input, and each other word takes one or more
abbrev pub takes : GateWord → ℕ → Bool
takes word n = if takes_one word then n == 1 else nat_lt 0 n

abbrev pub AcceptsArity : GateWord → ℕ → Type 0
AcceptsArity word n = IsTrue (takes word n)

abbrev pub is_long : List ℕ → Bool
is_long name = nat_lt LONGEST_NAME (length name)

abbrev pub IsShort : List ℕ → Type 0
IsShort name = IsFalse (is_long name)

-- a gate whose word takes its inputs, of which there are not too many
pub record IsSizedGate (gate : Gate) : Type 0 where
  pub name : IsShort gate.name
  pub arity : AcceptsArity gate.word (length gate.inputs)
  pub fanin : length gate.inputs ≤ MOST_FANIN

pub record IsWithinLimits (c : Circuit) : Type 0 where
  pub inputs : length c.inputs ≤ MOST_INPUTS
  pub gates : length c.gates ≤ MOST_GATES
  pub each_input : All IsShort c.inputs
  pub each_gate : All IsSizedGate c.gates

and-takes_one : takes And 1 ≡ true
and-takes_one = refl

and-takes_three : takes And 3 ≡ true
and-takes_three = refl

and-takes_none : takes And 0 ≡ false
and-takes_none = refl

not-takes_two : takes Not 2 ≡ false
not-takes_two = refl

name-of_64 : is_long (replicate 64 97) ≡ false
name-of_64 = refl

name-of_65 : is_long (replicate 65 97) ≡ true
name-of_65 = refl
