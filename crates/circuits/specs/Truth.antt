-- What a gate's word computes of bits.
use Rattle.std.specs.Prelude.{◌≡◌, ◌%◌, Bool, true, false, not, List, [], ◌∷◌, ◌==◌, count_by, slice_index_or, refl}
use Rattle.std.specs.List.{list_any, list_all}
use Rattle.circuits.specs.declared.gate_word.GateWord.{GateWord}
use Rattle.circuits.specs.declared.gate_word.GateWord.TheVariants.{And, Nand, Or, Nor, Xor, Xnor, Not, Buff}

abbrev pub all_are_1 : List Bool → Bool
all_are_1 bits = list_all (λ bit. bit) bits

abbrev pub some_is_1 : List Bool → Bool
some_is_1 bits = list_any (λ bit. bit) bits

abbrev pub an_odd_number_is_1 : List Bool → Bool
an_odd_number_is_1 bits = count_by (λ bit. bit) bits % 2 == 1

abbrev pub first : List Bool → Bool
first bits = slice_index_or bits 0 false

abbrev pub truth : GateWord → List Bool → Bool
truth And bits = all_are_1 bits
truth Nand bits = not (all_are_1 bits)
truth Or bits = some_is_1 bits
truth Nor bits = not (some_is_1 bits)
truth Xor bits = an_odd_number_is_1 bits
truth Xnor bits = not (an_odd_number_is_1 bits)
truth Not bits = not (first bits)
truth Buff bits = first bits

and-at : truth And (true ∷ true ∷ false ∷ []) ≡ false
and-at = refl

nand-at : truth Nand (true ∷ true ∷ false ∷ []) ≡ true
nand-at = refl

or-at : truth Or (false ∷ true ∷ false ∷ []) ≡ true
or-at = refl

nor-at : truth Nor (false ∷ false ∷ []) ≡ true
nor-at = refl

xor-at : truth Xor (true ∷ true ∷ true ∷ []) ≡ true
xor-at = refl

xnor-at : truth Xnor (true ∷ true ∷ true ∷ []) ≡ false
xnor-at = refl

not-at : truth Not (true ∷ []) ≡ false
not-at = refl

buff-at : truth Buff (true ∷ []) ≡ true
buff-at = refl
