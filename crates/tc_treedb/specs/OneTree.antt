-- The records of a tree file are one map with one region, whoever tells them.
use Rattle.std.proofs.Common.{◌≡◌, ◌∙◌, ℕ, Bool, true, false, List, Option, Some, None, refl, sym, ap, subst}
use Rattle.std.specs.Cmp.Lexicographic.{nat_list_cmp_total}
use Rattle.std.specs.FinMap.{get, same_map}
use Rattle.std.proofs.lemmas.Map.Lookups.{exact_bytes}
use Rattle.tc_base.specs.Maps.{Map}
use Rattle.tc_base.specs.Orders.{order}
use Rattle.tc_base.specs.declared.kind.Rule.{Rule}
use Rattle.tc_base.specs.declared.seq.Pair.{Pair}
use Rattle.hf_block.specs.Pieces.{Piece}
use Rattle.hf_head.specs.declared.head.Head.{Head}
use Rattle.hf_layout.specs.Layout.{record_at}
use Rattle.hf_tree.specs.Links.{HasBlocks}
use Rattle.hf_tree.specs.Rules.{Records}
use Rattle.hf_tree.specs.Standing.{IsMapOf, StandsFor}
use Rattle.bt_check.proofs.Unbroken.{trees_break_no_rule}
use Rattle.bt_check.specs.Verdicts.{IsFirstBroken}
use Rattle.bt_rows.proofs.Held.{records_give_pairs}
use Rattle.bt_rows.specs.Heads.{head_of}
use Rattle.bt_rows.specs.Orders.{before_by}
use Rattle.bt_rows.specs.Standing.{TreeStands, tree_pairs}
use Rattle.tc_hash.proofs.Unique.{one_blocks}
use Rattle.tc_hash.specs.Standing.{StandsWith}
use Rattle.tc_treedb.specs.Holding.{BreaksTree, Held, StandsTree, code_of, is_decimal}

-- the order of its byte
pub order_back : (decimal : Bool) → is_decimal (code_of decimal) ≡ decimal
order_back true = refl
order_back false = refl

same_value : (a b : Option (List ℕ)) → ((v : List ℕ) → a ≡ Some v → b ≡ Some v) → ((v : List ℕ) → b ≡ Some v → a ≡ Some v) → a ≡ b
same_value None None to from = refl
same_value None (Some w) to from = from w refl
same_value (Some v) b to from = sym (to v refl)

-- records are those of one map
one_map : (records : Records) (m n : Map) → IsMapOf records (get m) → IsMapOf records (get n) → m ≡ n
one_map records m n p q = same_map nat_list_cmp_total exact_bytes m n (λ key.
    same_value (get m key) (get n key) (λ v e. (q key v).1 ((p key v).0 e)) (λ v e. (p key v).1 ((q key v).0 e)))

module _ (kind : ℕ) (bytes : List ℕ) where
  heads : (m n : Map) (a : StandsFor kind bytes (get m)) (b : StandsFor kind bytes (get n)) → a.head ≡ b.head
  heads m n a b = sym a.opens.spells.fields ∙ b.opens.spells.fields

  blocks : (m n : Map) (a : StandsFor kind bytes (get m)) (b : StandsFor kind bytes (get n)) → a.pieces ≡ b.pieces
  blocks m n a b = one_blocks b.head b.head.size a.pieces b.pieces bytes (subst (λ (h : Head). HasBlocks h h.size a.pieces bytes) (heads m n a b) a.opens.blocks) b.opens.blocks

  pub one_file : (m n : Map) → StandsFor kind bytes (get m) → StandsFor kind bytes (get n) → m ≡ n
  one_file m n a b =
      let first : ℕ = b.head.first in
      let moved : IsMapOf (record_at first b.pieces) (get m) =
      subst (λ (ps : List Piece). IsMapOf (record_at first ps) (get m)) (blocks m n a b) (subst (λ (h : Head). IsMapOf (record_at h.first a.pieces) (get m)) (heads m n a b) a.is) in
      one_map (record_at first b.pieces) m n moved b.is

  pub one_region : (m n : Map) (r q : List ℕ) → StandsWith kind bytes m r → StandsWith kind bytes n q → r ≡ q
  one_region m n r q a b = sym a.region_is ∙ (ap (λ (h : Head). h.opaque) (heads m n a.is b.is) ∙ b.region_is)

-- the pairs that stand under a region
record Told (decimal : Bool) (region : List ℕ) (m : Map) (ps : List Pair) : Type 0 where
  stands : TreeStands (before_by (order decimal)) (head_of region) false (get m)
  are : ps ≡ tree_pairs stands

-- a file that stands for pairs breaks no rule of trees
pub tree_unbroken : (bytes : List ℕ) (m : Held) (rule : Rule) → StandsTree bytes m → BreaksTree bytes rule → ⊥
tree_unbroken bytes m rule s b =
    let maps : b.records ≡ s.records = one_file 1 bytes b.records s.records b.file.is s.file.is in
    let regions : b.region ≡ s.region = one_region 1 bytes b.records s.records b.region s.region b.file s.file in
    let told : is_decimal (head_of s.region).order ≡ m.0 = ap is_decimal s.code ∙ order_back m.0 in
    let broken : IsFirstBroken (before_by (order m.0)) (head_of s.region) false (get s.records) rule =
    subst (λ (decimal : Bool). IsFirstBroken (before_by (order decimal)) (head_of s.region) false (get s.records) rule) told
    (subst (λ (n : Map). IsFirstBroken (before_by (order (is_decimal (head_of s.region).order))) (head_of s.region) false (get n) rule) maps
    (subst (λ (r : List ℕ). IsFirstBroken (before_by (order (is_decimal (head_of r).order))) (head_of r) false (get b.records) rule) regions b.broken)) in
    trees_break_no_rule (before_by (order m.0)) (head_of s.region) false (get s.records) rule s.stands broken

-- a file stands for one list of pairs, in one order
pub one_tree : (bytes : List ℕ) (m n : Held) → StandsTree bytes m → StandsTree bytes n → m ≡ n
one_tree bytes m n s t =
    let maps : s.records ≡ t.records = one_file 1 bytes s.records t.records s.file.is t.file.is in
    let regions : s.region ≡ t.region = one_region 1 bytes s.records t.records s.region t.region s.file t.file in
    let first : m.0 ≡ n.0 = sym (order_back m.0) ∙ (ap is_decimal (sym s.code ∙ (ap (λ (r : List ℕ). (head_of r).order) regions ∙ t.code)) ∙ order_back n.0) in
    let moved : Told n.0 t.region t.records m.1 =
    subst (λ (r : List ℕ). Told n.0 r t.records m.1) regions (subst (λ (k : Map). Told n.0 s.region k m.1) maps (subst (λ (d : Bool). Told d s.region s.records m.1) first (record { stands = s.stands; are = s.are }))) in
    let second : m.1 ≡ n.1 = moved.are ∙ (records_give_pairs (before_by (order n.0)) (head_of t.region) false (get t.records) moved.stands t.stands ∙ sym t.are) in
    λ i. (first i, second i)
