-- Both texts of the check of a multiplier: its netlist, and that its product is that of its operands.
use Rattle.std.specs.Prelude.{◌≡◌, ℕ, List, [], ◌∷◌, ◌++◌, codes, refl}
use Rattle.std.specs.Fmt.{digits}
use Rattle.std.specs.List.{flat_map}
use Rattle.multiplier.specs.declared.gate.Gate.{Gate}
use Rattle.multiplier.specs.declared.net.Net.{Net}
use Rattle.multiplier.specs.Adders.{gates}
use Rattle.multiplier.specs.Gates.{gate_text}
use Rattle.multiplier.specs.Nets.{net_text, word_a, word_b, inputs, product}

abbrev pub line : List ℕ → List ℕ
line text = text ++ 10 ∷ []

-- a net between two texts
abbrev pub between : List ℕ → List ℕ → Net → List ℕ
between before after net = before ++ net_text net ++ after

abbrev pub input_line : Net → List ℕ
input_line = between (codes "INPUT(") (line (codes ")"))

abbrev pub output_line : Net → List ℕ
output_line = between (codes "OUTPUT(") (line (codes ")"))

abbrev pub gate_line : Gate → List ℕ
gate_line gate = line (gate_text gate)

abbrev pub netlist_text : ℕ → List ℕ
netlist_text size = flat_map input_line (inputs size) ++ flat_map output_line (product size) ++ flat_map gate_line (gates size)

-- a word by its name and its nets, lowest first
abbrev pub word_line : List ℕ → List Net → List ℕ
word_line name nets = line (codes "word " ++ name ++ codes " =" ++ flat_map (between (codes " ") []) nets)

abbrev pub spec_text : ℕ → List ℕ
spec_text size =
    word_line (codes "a") (word_a size) ++ word_line (codes "b") (word_b size) ++ word_line (codes "m") (product size)
    ++ line (codes "check m == a * b")

netlist_of_two : netlist_text 2
    ≡ line (codes "INPUT(a0)") ++ line (codes "INPUT(a1)") ++ line (codes "INPUT(b0)") ++ line (codes "INPUT(b1)")
    ++ line (codes "OUTPUT(p0_0)") ++ line (codes "OUTPUT(s1_0)") ++ line (codes "OUTPUT(s1_1)") ++ line (codes "OUTPUT(c1_1)")
    ++ line (codes "p0_0 = AND(a0, b0)")
    ++ line (codes "p1_0 = AND(a1, b0)")
    ++ line (codes "p0_1 = AND(a0, b1)")
    ++ line (codes "p1_1 = AND(a1, b1)")
    ++ line (codes "s1_0 = XOR(p0_1, p1_0)")
    ++ line (codes "c1_0 = AND(p0_1, p1_0)")
    ++ line (codes "s1_1 = XOR(p1_1, c1_0)")
    ++ line (codes "c1_1 = AND(p1_1, c1_0)")
unfolding digits
netlist_of_two = refl

spec_of_two : spec_text 2
    ≡ line (codes "word a = a0 a1") ++ line (codes "word b = b0 b1") ++ line (codes "word m = p0_0 s1_0 s1_1 c1_1") ++ line (codes "check m == a * b")
unfolding digits
spec_of_two = refl
