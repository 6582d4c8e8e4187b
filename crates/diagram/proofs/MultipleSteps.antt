-- What the walk over multiples rests on: the part for which a frame waits lies below it.
use Rattle.std.proofs.Common.{◌≡◌, refl, sym, subst, ℕ, ◌<◌, ℤ, Bool, true, false}
use Rattle.word_base.specs.declared.kind_name.KindName.{KindName}
use Rattle.kind_laws.specs.Plain.{PlainEdge}
use Rattle.diagram.specs.Multiples.{MultipleCall, PlainMultiple, plain_multiple, IsAt, Waits, multiples}
use Rattle.diagram.specs.View.{View, IsEdge, top_of}
use Rattle.diagram.proofs.LevelLaws.{still_edge, same_top}
use Rattle.diagram.proofs.MultipleWalk.{waiting_refuses}
use Rattle.diagram.proofs.WalkSteps.{Laws}

inner_at : (c : ℤ) (k : KindName) (outer inner : MultipleCall) (f : PlainMultiple) (b : Bool) → f.has_low ≡ b → (w : Waits c k outer f inner) →
    IsEdge k inner.view inner.operands × (f.level < top_of inner.view inner.operands.node)
inner_at c k outer inner f false is w =
    let at = subst (IsAt c k outer f inner w.low w.high) is w.at in
    let lies = w.below.low_lies in (
      subst (IsEdge k inner.view) (sym at.1) (subst (λ (v : View). IsEdge k v w.low) (sym at.0) lies.good),
      subst (λ (e : PlainEdge). f.level < top_of inner.view e.node) (sym at.1) (subst (λ (v : View). f.level < top_of v w.low.node) (sym at.0) lies.below),
    )
inner_at c k outer inner f true is w =
    let at = subst (IsAt c k outer f inner w.low w.high) is w.at in
    let lies = w.below.high_lies in (
      subst (IsEdge k inner.view) (sym at.0) (still_edge k outer.view inner.view w.high w.keeps lies.good),
      subst (λ (e : PlainEdge). f.level < top_of inner.view e.node) (sym at.0)
          (subst (λ (n : ℕ). f.level < n) (sym (same_top k outer.view inner.view w.high w.keeps lies.good)) lies.below),
    )

inner_good : (c : ℤ) (k : KindName) (outer inner : MultipleCall) (f : PlainMultiple) → Waits c k outer f inner → IsEdge k inner.view inner.operands
inner_good c k outer inner f w = (inner_at c k outer inner f f.has_low refl w).0

inner_deeper : (c : ℤ) (k : KindName) (outer inner : MultipleCall) (f : PlainMultiple) → Waits c k outer f inner → f.level < top_of inner.view inner.operands.node
inner_deeper c k outer inner f w = (inner_at c k outer inner f f.has_low refl w).1

pub multiple_laws : {K X E : Type 0} (c : ℤ) (k : KindName) (of : X → ℤ) → Laws (multiples {K = K} {X = X} {E = E} c k of)
multiple_laws c k of = record {
  keeps = λ outer inner f waits. waits.keeps;
  refuses = λ outer inner f x e waits keeps refused. waiting_refuses c k outer inner (plain_multiple of f) x e waits keeps refused;
  good = λ outer inner f waits. inner_good c k outer inner (plain_multiple of f) waits;
  within = λ outer inner f waits. waits.below.within;
  deeper = λ outer inner f waits. inner_deeper c k outer inner (plain_multiple of f) waits;
}
