-- Tables that are tabulated: functions of their entries are tabulated too.
use Rattle.std.specs.Prelude.{◌≡◌, ℕ, zero, suc, ◌<◌, ℤ, pos, ◌-ℤ◌, Bool, true, false, if◌then◌else◌, List, [], ◌∷◌, length, map, fold, refl}
use Rattle.std.proofs.Common.{◌∙◌, ap, arith}
use Rattle.circuits.specs.Polynomial.{negation, is_negated, step, polynomial}
use Rattle.circuits.specs.declared.gate_word.GateWord.{GateWord}
use Rattle.tables.proofs.TableLaws.{both_halves}
use Rattle.tables.specs.Table.{Table, entry, IsOver, each, zip_with, minus, tabulate}
use Rattle.tables.specs.Pieces.{like}
use Rattle.checks.specs.Work.{fold_table, gate_table}

-- functions that agree at as many bits as there are levels have one table
pub tabulate-same : (n : ℕ) (f g : List Bool → ℤ) → ((bits : List Bool) → length bits ≡ n → f bits ≡ g bits) → tabulate n f ≡ tabulate n g
tabulate-same zero f g same = ap entry (same [] refl)
tabulate-same (suc n) f g same = both_halves
    (tabulate-same n (λ bits. f (false ∷ bits)) (λ bits. g (false ∷ bits)) (λ bits many. same (false ∷ bits) (ap suc many)))
    (tabulate-same n (λ bits. f (true ∷ bits)) (λ bits. g (true ∷ bits)) (λ bits many. same (true ∷ bits) (ap suc many)))

pub IsOver-tabulate : (n : ℕ) (f : List Bool → ℤ) → IsOver n (tabulate n f)
IsOver-tabulate zero f = tt
IsOver-tabulate (suc n) f = (IsOver-tabulate n (λ bits. f (false ∷ bits)), IsOver-tabulate n (λ bits. f (true ∷ bits)))

pub each-tabulate : (op : ℤ → ℤ) (n : ℕ) (f : List Bool → ℤ) → each op (tabulate n f) ≡ tabulate n (λ bits. op (f bits))
each-tabulate op zero f = refl
each-tabulate op (suc n) f =
    both_halves (each-tabulate op n (λ bits. f (false ∷ bits))) (each-tabulate op n (λ bits. f (true ∷ bits)))

pub zip_with-tabulate : (op : ℤ → ℤ → ℤ) (n : ℕ) (f g : List Bool → ℤ) → zip_with op (tabulate n f) (tabulate n g) ≡ tabulate n (λ bits. op (f bits) (g bits))
zip_with-tabulate op zero f g = refl
zip_with-tabulate op (suc n) f g = both_halves
    (zip_with-tabulate op n (λ bits. f (false ∷ bits)) (λ bits. g (false ∷ bits)))
    (zip_with-tabulate op n (λ bits. f (true ∷ bits)) (λ bits. g (true ∷ bits)))

-- one minus each entry, or the entries as they are
pub negated-tabulate : (negated : Bool) (n : ℕ) (t : Table) (f : List Bool → ℤ) → t ≡ tabulate n f →
    (if negated then minus (like t (pos 1)) t else t) ≡ tabulate n (λ bits. if negated then negation (f bits) else f bits)
negated-tabulate false n t f e = e
negated-tabulate true n t f e =
    ap (λ u. minus (like u (pos 1)) u) e
    ∙ ap (λ ones. minus ones (tabulate n f)) (each-tabulate (λ x. pos 1) n f)
    ∙ zip_with-tabulate (λ x y. x -ℤ y) n (λ bits. pos 1) f

-- a fold of tables folds the entries at the same bits
pub fold-tabulate : (word : GateWord) (n : ℕ) (f : List Bool → ℤ) (g : ℕ → List Bool → ℤ) (nets : List ℕ) →
    fold_table word (tabulate n f) (map (λ net. tabulate n (g net)) nets)
    ≡ tabulate n (λ bits. fold (step word) (f bits) (map (λ net. g net bits) nets))
fold-tabulate word n f g [] = refl
fold-tabulate word n f g (net ∷ nets) =
    ap (λ t. fold_table word t (map (λ net. tabulate n (g net)) nets)) (zip_with-tabulate (step word) n f (g net))
    ∙ fold-tabulate word n (λ bits. step word (f bits) (g net bits)) g nets

-- the table of a gate has the gate's polynomial of the entries at the same bits
pub gate-tabulate : (word : GateWord) (n : ℕ) (g : ℕ → List Bool → ℤ) (nets : List ℕ) → 0 < length nets →
    gate_table word (map (λ net. tabulate n (g net)) nets) ≡ tabulate n (λ bits. polynomial word (map (λ net. g net bits) nets))
gate-tabulate word n g [] some = absurd (omega arith)
gate-tabulate word n g (net ∷ nets) some =
    negated-tabulate (is_negated word) n
    (fold_table word (tabulate n (g net)) (map (λ net. tabulate n (g net)) nets))
    (λ bits. fold (step word) (g net bits) (map (λ net. g net bits) nets))
    (fold-tabulate word n (g net) g nets)
