-- Passes of one table, by what their views as stores tell.
use Rattle.std.proofs.Common.{◌≡◌, ℕ, suc, ◌+◌, ◌*◌, ◌/◌, ◌<◌, ◌≤◌, ◌^◌, List, [], ◌∷◌, ◌++◌, length, sym, ap, subst, ◌∙◌, ⊎_elim, arith}
use Rattle.std.proofs.Math.Nat.{pow-le-pow_right, two-pow-succ}
use Rattle.std.proofs.lemmas.Bool.{cases_lt}
use Rattle.std.specs.Int.{IsNextPowerOfTwo}
use Rattle.table_rule.specs.Stores.{AreOfOneTable}
use Rattle.table_rule.specs.declared.layout.Layout.{Layout}
use Rattle.table_rule.proofs.Stamps.{table_part_is, same_table, same_tokens}
use Rattle.unique_table.specs.Passes.{pass_view, IsOneTable}
use Rattle.unique_table.specs.Values.{IsShape}
use Rattle.unique_table.specs.declared.token.PassValue.{PassValue}

-- a lower power of two is half of a higher one at most
half_is_more : (i j : ℕ) → i < j → 2 ^ i ≤ 2 ^ j / 2
half_is_more i j h =
    let two : 0 < 2 = omega arith in
    let next : suc i ≤ j = omega arith in
    let more : 2 ^ suc i ≤ 2 ^ j = pow-le-pow_right two next in
    let twice : 2 ^ suc i ≡ 2 ^ i + 2 ^ i = two-pow-succ i in
    omega arith

-- there is one least power of two
one_power : (n p q : ℕ) → 0 < n → IsNextPowerOfTwo n p → IsNextPowerOfTwo n q → p ≤ q
one_power n p q some a b =
    ⊎_elim
    (λ (above : b.0.0 < a.0.0).
    let half = half_is_more b.0.0 a.0.0 above in
    let half_is : 2 ^ a.0.0 / 2 ≡ p / 2 = ap (λ (x : ℕ). x / 2) (sym a.0.1) in
    let least = a.2 in
    let most = b.1 in
    let is = b.0.1 in
    absurd (omega arith))
    (λ (below : a.0.0 ≤ b.0.0).
    let two : 0 < 2 = omega arith in
    let more : 2 ^ a.0.0 ≤ 2 ^ b.0.0 = pow-le-pow_right two below in
    omega (arith, a.0.1, b.0.1))
    (cases_lt b.0.0 a.0.0)

-- the numbers tell the layout
pub same_layout : (L M : Layout) → IsShape L → IsShape M → M.cells ≡ L.cells → M.tokens ≡ L.tokens → M ≡ L
same_layout L M a b cells tokens =
    let some = a.layout.some_cells in
    let theirs : IsNextPowerOfTwo (2 * L.cells) M.buckets = subst (λ (n : ℕ). IsNextPowerOfTwo (2 * n) M.buckets) cells b.buckets in
    let buckets : M.buckets ≡ L.buckets = omega (arith, one_power (2 * L.cells) L.buckets M.buckets (omega arith) a.buckets theirs, one_power (2 * L.cells) M.buckets L.buckets (omega arith) theirs a.buckets) in
    let chunk : M.chunk ≡ L.chunk = b.chunk ∙ sym a.chunk in
    λ i. record { buckets = buckets i; cells = cells i; chunk = chunk i; tokens = tokens i }

-- passes of one table are so as stores
pub one_table : (p q : PassValue) → IsOneTable p q → AreOfOneTable (pass_view p) (pass_view q)
one_table p q h =
    record {
      room = ap (λ (L : Layout). L.cells) h.1;
      table = table_part_is q.names q.layout q.view ∙ ap (λ (x : List ℕ × ℕ). length x.0 ∷ x.0 ++ x.1 ∷ []) (λ i. (h.0 i, (h.1 i).tokens)) ∙ sym (table_part_is p.names p.layout p.view);
    }

-- and the other way round
pub one_layout : (p q : PassValue) → IsShape p.layout → IsShape q.layout → AreOfOneTable (pass_view p) (pass_view q) → IsOneTable p q
one_layout p q a b h =
    let names = same_table p.names q.names p.layout q.layout p.view q.view h.table in
    (names, same_layout p.layout q.layout a b h.room (same_tokens p.names q.names p.layout q.layout p.view q.view h.table))
