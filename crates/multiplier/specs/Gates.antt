-- Gates of two operands, and how they are written.
use Rattle.std.specs.Prelude.{◌≡◌, ℕ, List, ◌++◌, codes, refl}
use Rattle.std.specs.Fmt.{digits}
use Rattle.multiplier.specs.declared.gate.Gate.{Gate}
use Rattle.multiplier.specs.declared.gate.Operation.{Operation}
use Rattle.multiplier.specs.declared.gate.Operation.TheVariants.{And, Or, Xor}
use Rattle.multiplier.specs.declared.net.Net.{Net}
use Rattle.multiplier.specs.declared.net.Net.TheVariants.{A, B, Partial}
use Rattle.multiplier.specs.Nets.{net_text}

abbrev pub gate : Net → Operation → Net → Net → Gate
gate net operation left right = record { net = net; operation = operation; left = left; right = right }

abbrev pub operation_text : Operation → List ℕ
operation_text And = codes "AND"
operation_text Or = codes "OR"
operation_text Xor = codes "XOR"

abbrev pub gate_text : Gate → List ℕ
gate_text g =
    net_text g.net ++ codes " = " ++ operation_text g.operation ++ codes "(" ++ net_text g.left ++ codes ", " ++ net_text g.right ++ codes ")"

a_gate : gate_text (gate (Partial 1 0) And (A 1) (B 0)) ≡ codes "p1_0 = AND(a1, b0)"
unfolding digits
a_gate = refl
