-- Two edges that stand for tables from one level are equal where the tables are.
use Rattle.std.proofs.Common.{◌≡◌, ◌∙◌, ap, subst, ℕ, drop}
use Rattle.std.specs.Prelude.{◌↔◌}
use Rattle.word_base.specs.declared.kind_name.KindName.{KindName}
use Rattle.record_store.specs.StoreView.{find_in}
use Rattle.tables.specs.Table.{Table}
use Rattle.tables.specs.Tree.{Weights}
use Rattle.kind_laws.specs.Plain.{PlainEdge}
use Rattle.kind_laws.proofs.GraphLaws.{same_edge, same_table_of_edge}
use Rattle.diagram.specs.View.{View, StandsAt, IsGood}
use Rattle.diagram.proofs.LevelLaws.{allowed_from}

pub same_tells : (k : KindName) (v : View) (a b : PlainEdge) → IsGood k v → (l : ℕ) (t u : Table) → StandsAt k v l t a → StandsAt k v l u b → (a ≡ b) ↔ (t ≡ u)
same_tells k v a b good l t u h g =
    let ds = drop l v.letters in
    let make : Weights → ℕ → PlainEdge = λ w n. record { root = w; node = n } in (
      λ e. same_table_of_edge k (find_in v.store) ds l t u b.root b.node (allowed_from k v.letters l h.allowed) h.no_zero (subst (λ (x : PlainEdge). StandsAt k v l t x) e h).stands g.stands,
      λ e.
          let both = same_edge k (find_in v.store) ds l u a.root b.root a.node b.node good.store.distinct (subst (λ (x : Table). StandsAt k v l x a) e h).stands g.stands in
          ap (λ (w : Weights). make w a.node) both.0 ∙ ap (make b.root) both.1,
    )
