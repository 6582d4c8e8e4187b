-- Edges without their scales, and with them put back: what they stand for.
use Rattle.std.proofs.Common.{◌≡◌, refl, sym, ◌∙◌, ap, subst, ℕ, ℤ, pos, ◌*ℤ◌, length, drop}
use Rattle.std.specs.Prelude.{◌≢◌}
use Rattle.word_base.specs.declared.kind_name.KindName.{KindName}
use Rattle.word_base.specs.declared.kind_name.KindName.TheVariants.{Evbdd, StarBmd, Hdd, KStarBmd}
use Rattle.record_store.specs.StoreView.{find_in}
use Rattle.tables.specs.Table.{Table, multiple}
use Rattle.tables.specs.Tree.{Weights, Tree}
use Rattle.tables.specs.Canonical.{canonical}
use Rattle.tables.specs.Factors.{IsFactor, factor_of, scaled_weights, unscaled_weights}
use Rattle.tables.proofs.CanonicalLaws.{rule_of}
use Rattle.tables.proofs.FactorLaws.{factors_go_through, factors_are_taken, factor_is_zero}
use Rattle.tables.proofs.KindLaws.{constant-leaf, canonical_stands}
use Rattle.tables.proofs.TableLaws.{IsOver-each}
use Rattle.kind_laws.specs.Graph.{HasShape}
use Rattle.kind_laws.specs.Plain.{PlainEdge, constant_edge}
use Rattle.kind_laws.specs.Scale.{scale_of, unscaled, MayScale, scaled}
use Rattle.kind_laws.proofs.ScaleLaws.{scaled-keeps_node, unscaled-keeps_node}
use Rattle.diagram.specs.View.{View, StandsAt, IsEdge}
use Rattle.diagram.proofs.LevelLaws.{allowed_from}

-- ---- factors of edges
pub is_factor : (k : KindName) (s : ℤ) → MayScale k s → s ≢ pos 0 → IsFactor k s
is_factor Evbdd s may some = may
is_factor StarBmd s may some = some
is_factor Hdd s may some = may
is_factor KStarBmd s may some = some

scale_is_factor : (k : KindName) (w : Weights) → scale_of k w ≡ factor_of k w
scale_is_factor Evbdd w = refl
scale_is_factor StarBmd w = refl
scale_is_factor Hdd w = refl
scale_is_factor KStarBmd w = refl

unscaled_root : (k : KindName) (e : PlainEdge) → (unscaled k e).root ≡ unscaled_weights k e.root
unscaled_root Evbdd e = refl
unscaled_root StarBmd e = refl
unscaled_root Hdd e = refl
unscaled_root KStarBmd e = refl

scaled_root : (k : KindName) (s : ℤ) (e : PlainEdge) → (scaled k s e).root ≡ scaled_weights k s e.root
scaled_root Evbdd s e = refl
scaled_root StarBmd s e = refl
scaled_root Hdd s e = refl
scaled_root KStarBmd s e = refl

-- ---- what they stand for
pub scaled_stands : (k : KindName) (v : View) (l : ℕ) (s : ℤ) (t : Table) (e : PlainEdge) → MayScale k s → s ≢ pos 0 → StandsAt k v l t e →
    StandsAt k v l (multiple s t) (scaled k s e)
scaled_stands k v l s t e may some h =
    let ds = drop l v.letters in
    let find = find_in v.store in
    let through = factors_go_through k ds l s t (is_factor k s may some) in
    record {
      allowed = h.allowed;
      no_zero = h.no_zero;
      within = h.within;
      stands = record {
        over = IsOver-each (length ds) (λ x. s *ℤ x) t h.stands.over;
        root_is = scaled_root k s e ∙ ap (scaled_weights k s) h.stands.root_is ∙ ap (λ (x : Tree). x.root) (sym through);
        shape_is = subst (λ (n : ℕ). HasShape k find n (canonical k ds l (multiple s t)).shape) (sym (scaled-keeps_node k s e some))
            (subst (λ (x : Tree). HasShape k find e.node x.shape) (sym through) h.stands.shape_is);
      };
    }

-- the table that is left without the scale, for which the edge without it stands
pub record IsUnscaled (k : KindName) (v : View) (l : ℕ) (t : Table) (e : PlainEdge) : Type 0 where
  pub rest : Table
  pub is_multiple : t ≡ multiple (scale_of k e.root) rest
  pub stands : StandsAt k v l rest (unscaled k e)

pub unscaled_stands : (k : KindName) (v : View) (l : ℕ) (t : Table) (e : PlainEdge) → scale_of k e.root ≢ pos 0 → StandsAt k v l t e → IsUnscaled k v l t e
unscaled_stands k v l t e some h =
    let ds = drop l v.letters in
    let find = find_in v.store in
    let root = (canonical k ds l t).root in
    let same : scale_of k e.root ≡ factor_of k root = scale_is_factor k e.root ∙ ap (factor_of k) h.stands.root_is in
    let taken = factors_are_taken k ds l t (allowed_from k v.letters l h.allowed) h.stands.over (λ z. some (same ∙ z)) in
    record {
      rest = taken.rest;
      is_multiple = taken.is_multiple ∙ ap (λ (s : ℤ). multiple s taken.rest) (sym same);
      stands = record {
        allowed = h.allowed;
        no_zero = h.no_zero;
        within = h.within;
        stands = record {
          over = taken.over;
          root_is = unscaled_root k e ∙ ap (unscaled_weights k) h.stands.root_is ∙ ap (λ (x : Tree). x.root) (sym taken.is_left);
          shape_is = subst (λ (n : ℕ). HasShape k find n (canonical k ds l taken.rest).shape) (sym (unscaled-keeps_node k e))
              (subst (λ (x : Tree). HasShape k find e.node x.shape) (sym taken.is_left) h.stands.shape_is);
        };
      };
    }

-- the scale is 0 for the constant 0 alone
pub some_scale : (k : KindName) (v : View) (l : ℕ) (t : Table) (e : PlainEdge) → StandsAt k v l t e → (e ≡ constant_edge k (pos 0) → ⊥) → scale_of k e.root ≢ pos 0
some_scale k v l t e h other none =
    let ds = drop l v.letters in
    let allowed = allowed_from k v.letters l h.allowed in
    let tree = canonical k ds l t in
    let made = (canonical_stands k (rule_of k) ds l t allowed h.stands.over).0 in
    let is = factor_is_zero k ds l tree allowed made (sym (scale_is_factor k e.root ∙ ap (factor_of k) h.stands.root_is) ∙ none) in
    let leaf_shape = ap (λ (x : Tree). x.shape) is ∙ constant-leaf k (pos 0) in
    let node : e.node ≡ 0 = subst (HasShape k (find_in v.store) e.node) leaf_shape h.stands.shape_is in
    let root = h.stands.root_is ∙ ap (λ (x : Tree). x.root) is in
    let make : Weights → ℕ → PlainEdge = λ w n. record { root = w; node = n } in
    other (ap (λ (n : ℕ). make e.root n) node ∙ ap (λ (w : Weights). make w 0) root)

pub unscaled_good : (k : KindName) (v : View) (e : PlainEdge) → IsEdge k v e → (e ≡ constant_edge k (pos 0) → ⊥) → IsEdge k v (unscaled k e)
unscaled_good k v e h other = let left = unscaled_stands k v 0 h.0 e (some_scale k v 0 h.0 e h.1 other) h.1 in (left.rest, left.stands)
