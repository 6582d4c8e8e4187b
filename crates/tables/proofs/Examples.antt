-- Worked examples: node counts of small circuits' words, and canonical diagrams of small tables that another
-- program computed from the same definitions.
use Rattle.std.specs.Prelude.{◌≡◌, ℕ, ◌+◌, ◌*◌, ℤ, pos, negsuc, List, [], ◌∷◌, Bool, true, false, refl}
use Rattle.word_base.specs.declared.decomp.Decomp.TheVariants.{S, P, N}
use Rattle.word_base.specs.declared.kind_name.KindName.TheVariants.{Evbdd, StarBmd, Hdd, KStarBmd}
use Rattle.tables.specs.Table.{Table, entry, halves, tabulate}
use Rattle.tables.specs.Tree.{leaf, node, weights, tree}
use Rattle.tables.specs.Canonical.{canonical, node_count}
use Rattle.tables.specs.Fits.{fits, content}
use Rattle.tables.specs.Pieces.{Piece, InNodes, SomeUnfit}
use Rattle.std.proofs.Common.{arith, inl}

-- the value of a bit
abbrev bit : Bool → ℕ
bit false = 0
bit true = 1

-- the product of two words of two bits, the bit of weight 1 first
abbrev product2 : List Bool → ℤ
product2 (a ∷ b ∷ c ∷ d ∷ []) = pos ((bit a + 2 * bit b) * (bit c + 2 * bit d))
product2 bits = pos 0

-- the sum of two bits
abbrev sum2 : List Bool → ℤ
sum2 (a ∷ b ∷ []) = pos (bit a + bit b)
sum2 bits = pos 0

sum2-star_bmd : node_count StarBmd (P ∷ P ∷ []) (tabulate 2 sum2) ≡ 2
sum2-star_bmd = refl

product2-star_bmd : node_count StarBmd (P ∷ P ∷ P ∷ P ∷ []) (tabulate 4 product2) ≡ 4
product2-star_bmd = refl

product2-evbdd : node_count Evbdd (S ∷ S ∷ S ∷ S ∷ []) (tabulate 4 product2) ≡ 9
product2-evbdd = refl

product2-hdd : node_count Hdd (P ∷ P ∷ P ∷ P ∷ []) (tabulate 4 product2) ≡ 6
product2-hdd = refl

product2-k_star_bmd : node_count KStarBmd (P ∷ P ∷ P ∷ P ∷ []) (tabulate 4 product2) ≡ 4
product2-k_star_bmd = refl

abbrev evbdd_ss_1 : Table
evbdd_ss_1 = halves (halves (entry (pos 0)) (entry (pos 1))) (halves (entry (pos 2)) (entry (pos 0)))

evbdd_ss_1-diagram : canonical Evbdd (S ∷ S ∷ []) 0 evbdd_ss_1 ≡ tree (pos 0) (pos 0) (node 0 (weights (pos 0) (pos 0)) (node 1 (weights (pos 0) (pos 0)) leaf (weights (pos 1) (pos 0)) leaf) (weights (pos 2) (pos 0)) (node 1 (weights (pos 0) (pos 0)) leaf (weights (negsuc 1) (pos 0)) leaf))
evbdd_ss_1-diagram = refl

evbdd_ss_1-nodes : node_count Evbdd (S ∷ S ∷ []) evbdd_ss_1 ≡ 3
evbdd_ss_1-nodes = refl

evbdd_ss_1-fits : fits Evbdd (S ∷ S ∷ []) evbdd_ss_1 ≡ true
evbdd_ss_1-fits = refl

evbdd_ss_1-content : content evbdd_ss_1 ≡ 1
evbdd_ss_1-content = refl

abbrev evbdd_sss_5 : Table
evbdd_sss_5 = halves (halves (halves (entry (pos 3)) (entry (pos 0))) (halves (entry (pos 12)) (entry (pos 6)))) (halves (halves (entry (pos 12)) (entry (negsuc 0))) (halves (entry (negsuc 3)) (entry (pos 1))))

evbdd_sss_5-diagram : canonical Evbdd (S ∷ S ∷ S ∷ []) 0 evbdd_sss_5 ≡ tree (pos 3) (pos 0) (node 0 (weights (pos 0) (pos 0)) (node 1 (weights (pos 0) (pos 0)) (node 2 (weights (pos 0) (pos 0)) leaf (weights (negsuc 2) (pos 0)) leaf) (weights (pos 9) (pos 0)) (node 2 (weights (pos 0) (pos 0)) leaf (weights (negsuc 5) (pos 0)) leaf)) (weights (pos 9) (pos 0)) (node 1 (weights (pos 0) (pos 0)) (node 2 (weights (pos 0) (pos 0)) leaf (weights (negsuc 12) (pos 0)) leaf) (weights (negsuc 15) (pos 0)) (node 2 (weights (pos 0) (pos 0)) leaf (weights (pos 5) (pos 0)) leaf)))
evbdd_sss_5-diagram = refl

evbdd_sss_5-nodes : node_count Evbdd (S ∷ S ∷ S ∷ []) evbdd_sss_5 ≡ 7
evbdd_sss_5-nodes = refl

evbdd_sss_5-fits : fits Evbdd (S ∷ S ∷ S ∷ []) evbdd_sss_5 ≡ true
evbdd_sss_5-fits = refl

evbdd_sss_5-content : content evbdd_sss_5 ≡ 1
evbdd_sss_5-content = refl

abbrev evbdd_ss_7 : Table
evbdd_ss_7 = halves (halves (entry (pos 170141183460469231731687303715884105727)) (entry (negsuc 0))) (halves (entry (pos 0)) (entry (pos 0)))

evbdd_ss_7-diagram : canonical Evbdd (S ∷ S ∷ []) 0 evbdd_ss_7 ≡ tree (pos 170141183460469231731687303715884105727) (pos 0) (node 0 (weights (pos 0) (pos 0)) (node 1 (weights (pos 0) (pos 0)) leaf (weights (negsuc 170141183460469231731687303715884105727) (pos 0)) leaf) (weights (negsuc 170141183460469231731687303715884105726) (pos 0)) leaf)
evbdd_ss_7-diagram = refl

evbdd_ss_7-nodes : node_count Evbdd (S ∷ S ∷ []) evbdd_ss_7 ≡ 2
evbdd_ss_7-nodes = refl

evbdd_ss_7-fits : fits Evbdd (S ∷ S ∷ []) evbdd_ss_7 ≡ false
evbdd_ss_7-fits = refl

evbdd_ss_7-content : content evbdd_ss_7 ≡ 1
evbdd_ss_7-content = refl

abbrev evbdd_ss_10 : Table
evbdd_ss_10 = halves (halves (entry (pos 170141183460469231731687303715884105727)) (entry (pos 170141183460469231731687303715884105727))) (halves (entry (negsuc 170141183460469231731687303715884105726)) (entry (negsuc 170141183460469231731687303715884105726)))

evbdd_ss_10-diagram : canonical Evbdd (S ∷ S ∷ []) 0 evbdd_ss_10 ≡ tree (pos 170141183460469231731687303715884105727) (pos 0) (node 0 (weights (pos 0) (pos 0)) leaf (weights (negsuc 340282366920938463463374607431768211453) (pos 0)) leaf)
evbdd_ss_10-diagram = refl

evbdd_ss_10-nodes : node_count Evbdd (S ∷ S ∷ []) evbdd_ss_10 ≡ 1
evbdd_ss_10-nodes = refl

evbdd_ss_10-fits : fits Evbdd (S ∷ S ∷ []) evbdd_ss_10 ≡ false
evbdd_ss_10-fits = refl

evbdd_ss_10-content : content evbdd_ss_10 ≡ 170141183460469231731687303715884105727
evbdd_ss_10-content = refl

abbrev star_bmd_pp_13 : Table
star_bmd_pp_13 = halves (halves (entry (negsuc 0)) (entry (pos 1))) (halves (entry (pos 0)) (entry (negsuc 0)))

star_bmd_pp_13-diagram : canonical StarBmd (P ∷ P ∷ []) 0 star_bmd_pp_13 ≡ tree (negsuc 0) (pos 0) (node 0 (weights (pos 1) (pos 0)) (node 1 (weights (pos 1) (pos 0)) leaf (weights (negsuc 1) (pos 0)) leaf) (weights (negsuc 0) (pos 0)) (node 1 (weights (pos 1) (pos 0)) leaf (weights (negsuc 2) (pos 0)) leaf))
star_bmd_pp_13-diagram = refl

star_bmd_pp_13-nodes : node_count StarBmd (P ∷ P ∷ []) star_bmd_pp_13 ≡ 3
star_bmd_pp_13-nodes = refl

star_bmd_pp_13-fits : fits StarBmd (P ∷ P ∷ []) star_bmd_pp_13 ≡ true
star_bmd_pp_13-fits = refl

star_bmd_pp_13-content : content star_bmd_pp_13 ≡ 1
star_bmd_pp_13-content = refl

abbrev star_bmd_ppp_15 : Table
star_bmd_ppp_15 = halves (halves (halves (entry (negsuc 0)) (entry (pos 6))) (halves (entry (negsuc 3)) (entry (pos 6)))) (halves (halves (entry (negsuc 3)) (entry (pos 6))) (halves (entry (pos 6)) (entry (pos 3))))

star_bmd_ppp_15-diagram : canonical StarBmd (P ∷ P ∷ P ∷ []) 0 star_bmd_ppp_15 ≡ tree (negsuc 0) (pos 0) (node 0 (weights (pos 1) (pos 0)) (node 1 (weights (pos 1) (pos 0)) (node 2 (weights (pos 1) (pos 0)) leaf (weights (negsuc 6) (pos 0)) leaf) (weights (pos 3) (pos 0)) (node 2 (weights (pos 1) (pos 0)) leaf (weights (negsuc 0) (pos 0)) leaf)) (weights (pos 1) (pos 0)) (node 1 (weights (pos 3) (pos 0)) (node 2 (weights (pos 1) (pos 0)) leaf (weights (negsuc 0) (pos 0)) leaf) (weights (negsuc 0) (pos 0)) (node 2 (weights (pos 13) (pos 0)) leaf (weights (negsuc 15) (pos 0)) leaf)))
star_bmd_ppp_15-diagram = refl

star_bmd_ppp_15-nodes : node_count StarBmd (P ∷ P ∷ P ∷ []) star_bmd_ppp_15 ≡ 6
star_bmd_ppp_15-nodes = refl

star_bmd_ppp_15-fits : fits StarBmd (P ∷ P ∷ P ∷ []) star_bmd_ppp_15 ≡ true
star_bmd_ppp_15-fits = refl

star_bmd_ppp_15-content : content star_bmd_ppp_15 ≡ 1
star_bmd_ppp_15-content = refl

abbrev star_bmd_pp_18 : Table
star_bmd_pp_18 = halves (halves (entry (pos 170141183460469231731687303715884105727)) (entry (pos 0))) (halves (entry (pos 0)) (entry (pos 1)))

star_bmd_pp_18-diagram : canonical StarBmd (P ∷ P ∷ []) 0 star_bmd_pp_18 ≡ tree (pos 1) (pos 0) (node 0 (weights (pos 170141183460469231731687303715884105727) (pos 0)) (node 1 (weights (pos 1) (pos 0)) leaf (weights (negsuc 0) (pos 0)) leaf) (weights (negsuc 0) (pos 0)) (node 1 (weights (pos 170141183460469231731687303715884105727) (pos 0)) leaf (weights (negsuc 170141183460469231731687303715884105727) (pos 0)) leaf))
star_bmd_pp_18-diagram = refl

star_bmd_pp_18-nodes : node_count StarBmd (P ∷ P ∷ []) star_bmd_pp_18 ≡ 3
star_bmd_pp_18-nodes = refl

star_bmd_pp_18-fits : fits StarBmd (P ∷ P ∷ []) star_bmd_pp_18 ≡ false
star_bmd_pp_18-fits = refl

star_bmd_pp_18-content : content star_bmd_pp_18 ≡ 1
star_bmd_pp_18-content = refl

abbrev star_bmd_pp_19 : Table
star_bmd_pp_19 = halves (halves (entry (pos 170141183460469231731687303715884105727)) (entry (negsuc 0))) (halves (entry (pos 0)) (entry (pos 0)))

star_bmd_pp_19-diagram : canonical StarBmd (P ∷ P ∷ []) 0 star_bmd_pp_19 ≡ tree (pos 1) (pos 0) (node 0 (weights (pos 1) (pos 0)) (node 1 (weights (pos 170141183460469231731687303715884105727) (pos 0)) leaf (weights (negsuc 170141183460469231731687303715884105727) (pos 0)) leaf) (weights (negsuc 0) (pos 0)) (node 1 (weights (pos 170141183460469231731687303715884105727) (pos 0)) leaf (weights (negsuc 170141183460469231731687303715884105727) (pos 0)) leaf))
star_bmd_pp_19-diagram = refl

star_bmd_pp_19-nodes : node_count StarBmd (P ∷ P ∷ []) star_bmd_pp_19 ≡ 2
star_bmd_pp_19-nodes = refl

star_bmd_pp_19-fits : fits StarBmd (P ∷ P ∷ []) star_bmd_pp_19 ≡ false
star_bmd_pp_19-fits = refl

star_bmd_pp_19-content : content star_bmd_pp_19 ≡ 1
star_bmd_pp_19-content = refl

abbrev hdd_sn_25 : Table
hdd_sn_25 = halves (halves (entry (negsuc 0)) (entry (pos 6))) (halves (entry (pos 0)) (entry (negsuc 0)))

hdd_sn_25-diagram : canonical Hdd (S ∷ N ∷ []) 0 hdd_sn_25 ≡ tree (pos 0) (pos 0) (node 0 (weights (pos 0) (pos 0)) (node 1 (weights (pos 6) (pos 0)) leaf (weights (negsuc 6) (pos 0)) leaf) (weights (pos 0) (pos 0)) (node 1 (weights (negsuc 0) (pos 0)) leaf (weights (pos 1) (pos 0)) leaf))
hdd_sn_25-diagram = refl

hdd_sn_25-nodes : node_count Hdd (S ∷ N ∷ []) hdd_sn_25 ≡ 3
hdd_sn_25-nodes = refl

hdd_sn_25-fits : fits Hdd (S ∷ N ∷ []) hdd_sn_25 ≡ true
hdd_sn_25-fits = refl

hdd_sn_25-content : content hdd_sn_25 ≡ 1
hdd_sn_25-content = refl

abbrev hdd_snp_28 : Table
hdd_snp_28 = halves (halves (halves (entry (pos 0)) (entry (negsuc 0))) (halves (entry (pos 12)) (entry (negsuc 3)))) (halves (halves (entry (pos 3)) (entry (pos 12))) (halves (entry (pos 2)) (entry (pos 12))))

hdd_snp_28-diagram : canonical Hdd (S ∷ N ∷ P ∷ []) 0 hdd_snp_28 ≡ tree (pos 0) (pos 0) (node 0 (weights (pos 0) (pos 0)) (node 1 (weights (pos 0) (pos 0)) (node 2 (weights (pos 12) (pos 0)) leaf (weights (negsuc 15) (pos 0)) leaf) (weights (pos 0) (pos 0)) (node 2 (weights (negsuc 11) (pos 0)) leaf (weights (pos 15) (pos 0)) leaf)) (weights (pos 0) (pos 0)) (node 1 (weights (pos 0) (pos 0)) (node 2 (weights (pos 2) (pos 0)) leaf (weights (pos 10) (pos 0)) leaf) (weights (pos 0) (pos 0)) (node 2 (weights (pos 1) (pos 0)) leaf (weights (negsuc 0) (pos 0)) leaf)))
hdd_snp_28-diagram = refl

hdd_snp_28-nodes : node_count Hdd (S ∷ N ∷ P ∷ []) hdd_snp_28 ≡ 7
hdd_snp_28-nodes = refl

hdd_snp_28-fits : fits Hdd (S ∷ N ∷ P ∷ []) hdd_snp_28 ≡ true
hdd_snp_28-fits = refl

hdd_snp_28-content : content hdd_snp_28 ≡ 1
hdd_snp_28-content = refl

abbrev hdd_sn_31 : Table
hdd_sn_31 = halves (halves (entry (pos 170141183460469231731687303715884105727)) (entry (negsuc 0))) (halves (entry (pos 0)) (entry (pos 0)))

hdd_sn_31-diagram : canonical Hdd (S ∷ N ∷ []) 0 hdd_sn_31 ≡ tree (pos 0) (pos 0) (node 0 (weights (pos 0) (pos 0)) (node 1 (weights (negsuc 0) (pos 0)) leaf (weights (pos 170141183460469231731687303715884105728) (pos 0)) leaf) (weights (pos 0) (pos 0)) leaf)
hdd_sn_31-diagram = refl

hdd_sn_31-nodes : node_count Hdd (S ∷ N ∷ []) hdd_sn_31 ≡ 2
hdd_sn_31-nodes = refl

hdd_sn_31-fits : fits Hdd (S ∷ N ∷ []) hdd_sn_31 ≡ false
hdd_sn_31-fits = refl

hdd_sn_31-content : content hdd_sn_31 ≡ 1
hdd_sn_31-content = refl

abbrev hdd_np_33 : Table
hdd_np_33 = halves (halves (entry (pos 85070591730234615865843651857942052864)) (entry (pos 85070591730234615865843651857942052864))) (halves (entry (pos 0)) (entry (pos 85070591730234615865843651857942052864)))

hdd_np_33-diagram : canonical Hdd (N ∷ P ∷ []) 0 hdd_np_33 ≡ tree (pos 0) (pos 0) (node 0 (weights (pos 0) (pos 0)) (node 1 (weights (pos 0) (pos 0)) leaf (weights (pos 85070591730234615865843651857942052864) (pos 0)) leaf) (weights (pos 0) (pos 0)) (node 1 (weights (pos 85070591730234615865843651857942052864) (pos 0)) leaf (weights (negsuc 85070591730234615865843651857942052863) (pos 0)) leaf))
hdd_np_33-diagram = refl

hdd_np_33-nodes : node_count Hdd (N ∷ P ∷ []) hdd_np_33 ≡ 3
hdd_np_33-nodes = refl

hdd_np_33-fits : fits Hdd (N ∷ P ∷ []) hdd_np_33 ≡ true
hdd_np_33-fits = refl

hdd_np_33-content : content hdd_np_33 ≡ 85070591730234615865843651857942052864
hdd_np_33-content = refl

abbrev k_star_bmd_s_36 : Table
k_star_bmd_s_36 = halves (entry (pos 6)) (entry (negsuc 3))

k_star_bmd_s_36-diagram : canonical KStarBmd (S ∷ []) 0 k_star_bmd_s_36 ≡ tree (negsuc 9) (pos 6) (node 0 (weights (pos 0) (pos 0)) leaf (weights (pos 0) (pos 1)) leaf)
k_star_bmd_s_36-diagram = refl

k_star_bmd_s_36-nodes : node_count KStarBmd (S ∷ []) k_star_bmd_s_36 ≡ 1
k_star_bmd_s_36-nodes = refl

k_star_bmd_s_36-fits : fits KStarBmd (S ∷ []) k_star_bmd_s_36 ≡ true
k_star_bmd_s_36-fits = refl

k_star_bmd_s_36-content : content k_star_bmd_s_36 ≡ 2
k_star_bmd_s_36-content = refl

abbrev k_star_bmd_nss_39 : Table
k_star_bmd_nss_39 = halves (halves (halves (entry (pos 1)) (entry (pos 3))) (halves (entry (pos 0)) (entry (negsuc 3)))) (halves (halves (entry (pos 2)) (entry (pos 6))) (halves (entry (pos 12)) (entry (pos 1))))

k_star_bmd_nss_39-diagram : canonical KStarBmd (N ∷ S ∷ S ∷ []) 0 k_star_bmd_nss_39 ≡ tree (pos 1) (pos 2) (node 0 (weights (pos 1) (pos 0)) (node 1 (weights (pos 4) (pos 0)) (node 2 (weights (pos 0) (pos 0)) leaf (weights (pos 0) (pos 1)) leaf) (weights (negsuc 10) (pos 10)) (node 2 (weights (pos 0) (pos 0)) leaf (weights (pos 0) (pos 1)) leaf)) (weights (negsuc 0) (negsuc 0)) (node 1 (weights (pos 2) (pos 0)) (node 2 (weights (pos 0) (pos 0)) leaf (weights (pos 0) (pos 1)) leaf) (weights (negsuc 6) (pos 11)) (node 2 (weights (pos 0) (pos 0)) leaf (weights (pos 0) (pos 1)) leaf)))
k_star_bmd_nss_39-diagram = refl

k_star_bmd_nss_39-nodes : node_count KStarBmd (N ∷ S ∷ S ∷ []) k_star_bmd_nss_39 ≡ 4
k_star_bmd_nss_39-nodes = refl

k_star_bmd_nss_39-fits : fits KStarBmd (N ∷ S ∷ S ∷ []) k_star_bmd_nss_39 ≡ true
k_star_bmd_nss_39-fits = refl

k_star_bmd_nss_39-content : content k_star_bmd_nss_39 ≡ 1
k_star_bmd_nss_39-content = refl

abbrev k_star_bmd_np_42 : Table
k_star_bmd_np_42 = halves (halves (entry (pos 170141183460469231731687303715884105727)) (entry (pos 0))) (halves (entry (pos 0)) (entry (pos 1)))

k_star_bmd_np_42-diagram : canonical KStarBmd (N ∷ P ∷ []) 0 k_star_bmd_np_42 ≡ tree (pos 1) (pos 0) (node 0 (weights (pos 1) (pos 0)) (node 1 (weights (pos 0) (pos 0)) leaf (weights (pos 0) (pos 1)) leaf) (weights (negsuc 170141183460469231731687303715884105727) (pos 170141183460469231731687303715884105727)) (node 1 (weights (pos 0) (pos 0)) leaf (weights (pos 0) (pos 1)) leaf))
k_star_bmd_np_42-diagram = refl

k_star_bmd_np_42-nodes : node_count KStarBmd (N ∷ P ∷ []) k_star_bmd_np_42 ≡ 2
k_star_bmd_np_42-nodes = refl

k_star_bmd_np_42-fits : fits KStarBmd (N ∷ P ∷ []) k_star_bmd_np_42 ≡ false
k_star_bmd_np_42-fits = refl

k_star_bmd_np_42-content : content k_star_bmd_np_42 ≡ 1
k_star_bmd_np_42-content = refl

abbrev k_star_bmd_sp_46 : Table
k_star_bmd_sp_46 = halves (halves (entry (pos 170141183460469231731687303715884105727)) (entry (pos 170141183460469231731687303715884105727))) (halves (entry (negsuc 170141183460469231731687303715884105726)) (entry (negsuc 170141183460469231731687303715884105726)))

k_star_bmd_sp_46-diagram : canonical KStarBmd (S ∷ P ∷ []) 0 k_star_bmd_sp_46 ≡ tree (negsuc 340282366920938463463374607431768211453) (pos 170141183460469231731687303715884105727) (node 0 (weights (pos 0) (pos 0)) leaf (weights (pos 0) (pos 1)) leaf)
k_star_bmd_sp_46-diagram = refl

k_star_bmd_sp_46-nodes : node_count KStarBmd (S ∷ P ∷ []) k_star_bmd_sp_46 ≡ 1
k_star_bmd_sp_46-nodes = refl

k_star_bmd_sp_46-fits : fits KStarBmd (S ∷ P ∷ []) k_star_bmd_sp_46 ≡ false
k_star_bmd_sp_46-fits = refl

k_star_bmd_sp_46-content : content k_star_bmd_sp_46 ≡ 170141183460469231731687303715884105727
k_star_bmd_sp_46-content = refl

-- ---- nodes of pieces, and pieces that do not fit
abbrev variable_at : ℕ → Piece
variable_at l = record { level = l; table = halves (entry (pos 0)) (entry (pos 1)) }

variable-node : InNodes Hdd (P ∷ []) (variable_at 0 ∷ []) (node 0 (weights (pos 0) (pos 0)) leaf (weights (pos 1) (pos 0)) leaf)
variable-node = (variable_at 0, (0, omega arith, refl), inl refl)

-- 2^127 is no weight
abbrev too_great : Piece
too_great = record { level = 1; table = entry (pos 170141183460469231731687303715884105728) }

too_great-unfit : SomeUnfit Hdd (P ∷ []) (variable_at 0 ∷ too_great ∷ [])
too_great-unfit = (too_great, (1, omega arith, refl), refl)
