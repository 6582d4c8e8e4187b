use Rattle.std.proofs.Common.{◌≡◌, ℕ, ◌≤◌, ◌*◌, ◌%◌, ◌^◌, List, sym, subst, ap, ◌∙◌, arith, refl}
use Rattle.std.proofs.Math.Nat.{pow-le-pow_right}
use Rattle.std.proofs.lemmas.Nat.{one_shl}
use Rattle.std.specs.Vec.{vec_capacity}
use Rattle.result_cache.specs.CacheInside.{IsSound, places}
use Rattle.result_cache.specs.declared.cache.Entry.{Entry}
use Rattle.result_cache.proofs.CacheLaws.{zeros, empty_places, empty_sound}
use Rattle.result_cache.proofs.cache.ResultCache.create.Goals as goal

few : (log : ℕ) → log ≤ 20 → 2 ^ log ≤ 2 ^ 20
few log within = pow-le-pow_right (omega arith) within

count : (c : goal.In_ok-entries) → 1 * 2 ^ c.args.log % 2 ^ 64 ≡ 2 ^ c.args.log
count c = one_shl c.args.log 64 (omega (arith, c.requires))

items : (c : goal.In_ok-entries) → c.in_ok-index.index.items ≡ zeros (1 * 2 ^ c.args.log % 2 ^ 64)
items c = c.in_ok-index.ensures.items_if_clones_equal (λ y h. h)

pub invariant_of-result : goal.invariant_of-result
invariant_of-result c =
    let n = 2 ^ c.args.log in
    let capacious : n ≤ vec_capacity c.in_ok-entries.entries = omega (arith, count c, c.in_ok-entries.ensures.capacity) in
    let sound = empty_sound n (vec_capacity c.in_ok-entries.entries) (c.args.log, refl) (few c.args.log c.requires) capacious in
    subst (λ (index : List ℕ). IsSound index c.in_ok-entries.entries.items (vec_capacity c.in_ok-entries.entries)) (ap zeros (sym (count c)) ∙ sym (items c))
    (subst (λ (es : List Entry). IsSound (zeros n) es (vec_capacity c.in_ok-entries.entries)) (sym c.in_ok-entries.ensures.items) sound)

pub returns : goal.returns
returns c =
    let n = 2 ^ c.args.log in
    ap (λ (index : List ℕ). places index c.in_ok-entries.entries.items) (items c ∙ ap zeros (count c))
    ∙ empty_places n c.in_ok-entries.entries.items
