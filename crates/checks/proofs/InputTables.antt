-- The table of an input's net is that of its level's variable.
use Rattle.std.specs.Prelude.{◌≡◌, ℕ, zero, suc, ◌<◌, Bool, false, List, map, length, replicate, refl}
use Rattle.std.proofs.Common.{◌∙◌, ap, arith}
use Rattle.std.proofs.lemmas.List.{get_or_append_left}
use Rattle.std.proofs.lemmas.List.FromFn.{get_or-map-range_with_len}
use Rattle.circuits.specs.Circuit.{Circuit, input_count}
use Rattle.circuits.specs.Polynomial.{number_of}
use Rattle.circuits.specs.Valuation.{bit_of, gate_value, after_rounds}
use Rattle.spec_lang.proofs.Placed.{length-placed}
use Rattle.spec_lang.specs.Placed.{place_in, placed, net_values}
use Rattle.tables.proofs.TableLaws.{both_halves}
use Rattle.tables.specs.Table.{tabulate, variable_table}
use Rattle.checks.proofs.Tabulated.{tabulate-same}
use Rattle.checks.specs.Laws.{InputTables}

-- after any rounds an input has its bit
input_at_bit : (c : Circuit) (bits : List Bool) (net rounds : ℕ) → length bits ≡ input_count c → net < input_count c →
    bit_of (after_rounds c bits rounds) net ≡ bit_of bits net
input_at_bit c bits net zero many low = get_or_append_left bits (replicate (length c.gates) false) false net (omega arith)
input_at_bit c bits net (suc rounds) many low =
    get_or_append_left bits (map (λ gate. gate_value gate (after_rounds c bits rounds)) c.gates) false net (omega arith)

-- the bit of a level, tabulated
bit-tabulate : (n l : ℕ) → tabulate n (λ bits. number_of (bit_of bits l)) ≡ variable_table n l
bit-tabulate zero l = refl
bit-tabulate (suc n) zero = refl
bit-tabulate (suc n) (suc l) = both_halves (bit-tabulate n l) (bit-tabulate n l)

pub input_tables : InputTables
input_tables c s net low =
    let place = place_in s.order net in
    tabulate-same (length s.order)
    (λ bits. number_of (bit_of (net_values c s bits) net))
    (λ bits. number_of (bit_of bits (place_in s.order net)))
    (λ bits many. ap number_of (
    input_at_bit c (placed (input_count c) s.order bits) net (length c.gates) (length-placed (input_count c) s.order bits) low
    ∙ get_or-map-range_with_len (λ n. bit_of bits (place_in s.order n)) 0 (input_count c) net net false low (omega arith)))
    ∙ bit-tabulate (length s.order) place
