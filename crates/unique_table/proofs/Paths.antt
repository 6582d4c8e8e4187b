-- A path goes on by a mask, and ends.
use Rattle.std.proofs.Common.{◌≡◌, ◌≢◌, ℕ, ◌+◌, ◌-◌, ◌%◌, ◌^◌, ◌<◌, ◌≤◌, List, sym, ap, subst, ◌∙◌, ⊎_elim, arith, bit_and}
use Rattle.std.proofs.Math.Nat.{add-mod-mod, mod-mod, mod-mod_of_dvd, dvd-mul_right}
use Rattle.std.proofs.lemmas.Bool.{cases_eq, cases_lt}
use Rattle.std.proofs.lemmas.Nat.{and_mask, pow-add, pow_below}
use Rattle.std.specs.Int.{◌∣◌, IsPowerOfTwo}
use Rattle.record_store.specs.Path.{path_bucket, start_of, hash_of}
use Rattle.table_rule.specs.Laws.{IsViewOf}
use Rattle.table_rule.specs.Steps.{Differs, HasPassed}
use Rattle.table_rule.specs.Words.{IsLayout}
use Rattle.table_rule.specs.declared.layout.Layout.{Layout}
use Rattle.table_rule.specs.declared.view.PassView.{PassView}
use Rattle.table_rule.proofs.Passes.{path_ends}
use Rattle.table_rule.proofs.Publishing.{differs_from}
use Rattle.unique_table.specs.Exploring.{HasExplored}
use Rattle.unique_table.proofs.Probing.{still_differs}

pub next_on_path : (node : List ℕ) (b d at : ℕ) → IsPowerOfTwo b → path_bucket node b d ≡ at → path_bucket node b (d + 1) ≡ bit_and (at + 1) (b - 1)
next_on_path node b d at p here =
    let s : ℕ = start_of node b in
    let masked : bit_and (at + 1) (b - 1) ≡ (at + 1) % b = subst (λ (m : ℕ). bit_and (at + 1) (m - 1) ≡ (at + 1) % m) (sym p.1) (and_mask (at + 1) p.0) in
    let first : s + (d + 1) ≡ 1 + (s + d) = omega arith in
    let last : 1 + (s + d) % b ≡ (s + d) % b + 1 = omega arith in
    ap (λ (n : ℕ). n % b) first ∙ sym (add-mod-mod 1 (s + d) b) ∙ ap (λ (n : ℕ). n % b) last ∙ ap (λ (n : ℕ). (n + 1) % b) here ∙ sym masked

-- the start among more buckets tells the start among fewer, where both are powers of two
pub first_on_path : (node : List ℕ) (b k : ℕ) → IsPowerOfTwo b → b ≤ 2 ^ k → path_bucket node b 0 ≡ bit_and (start_of node (2 ^ k)) (b - 1)
first_on_path node b k p few =
    let i : ℕ = p.0 in
    let masked : bit_and (start_of node (2 ^ k)) (b - 1) ≡ start_of node (2 ^ k) % b = subst (λ (m : ℕ). bit_and (start_of node (2 ^ k)) (m - 1) ≡ start_of node (2 ^ k) % m) (sym p.1) (and_mask (start_of node (2 ^ k)) i) in
    let within : i ≤ k = ⊎_elim (λ (above : k < i). absurd (omega (arith, p.1, pow_below k i above))) (λ (below : i ≤ k). below) (cases_lt k i) in
    let whole : k ≡ i + (k - i) = omega arith in
    let divides : 2 ^ i ∣ 2 ^ k = subst (λ (n : ℕ). 2 ^ i ∣ n) (sym (ap (λ (n : ℕ). 2 ^ n) whole ∙ pow-add 2 i (k - i))) (dvd-mul_right (2 ^ i) (2 ^ (k - i))) in
    let reduced : start_of node (2 ^ k) % b ≡ start_of node b = subst (λ (m : ℕ). start_of node (2 ^ k) % m ≡ start_of node m) (sym p.1) (mod-mod_of_dvd (2 ^ i) (hash_of node) divides) in
    let none : start_of node b + 0 ≡ start_of node b = omega arith in
    ap (λ (n : ℕ). n % b) none ∙ ap (λ (n : ℕ). n % b) (sym reduced) ∙ mod-mod (start_of node (2 ^ k)) b ∙ sym masked

-- a bucket more has another body
pub passed_next : (L : Layout) (v w : PassView) (node : List ℕ) (d at : ℕ) → HasExplored v w → HasPassed L v node d → path_bucket node L.buckets d ≡ at → Differs w node at → HasPassed L w node (d + 1)
passed_next L v w node d at h passed here there x few =
    ⊎_elim
    (λ (last : x ≡ d). subst (Differs w node) (sym (ap (path_bucket node L.buckets) last ∙ here)) there)
    (λ (before : x ≢ d). still_differs v w node (path_bucket node L.buckets x) h (passed x (omega arith)))
    (cases_eq x d)

pub not_round : (L : Layout) → IsLayout L → (v : PassView) → IsViewOf L v → (node : List ℕ) (d : ℕ) → L.buckets ≤ d → HasPassed L v node d → ⊥
not_round L l v p node d far passed =
    let a = p.ruled.agree p.pass v p.stands in
    path_ends L l p.words p.views p.ruled node
    (λ x few. let there = differs_from L p.words v a node (path_bucket node L.buckets x) (passed x (omega arith)) in let some = there.1.1 in omega (arith, there.1.2))
