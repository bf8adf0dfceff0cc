-- A file that stands for a map breaks no rule.
use Rattle.std.proofs.Common.{◌≡◌, ◌∙◌, inl, inr, ℕ, ◌≤◌, List, length, sym, subst, arith}
use Rattle.tc_base.specs.declared.kind.Rule.{Rule}
use Rattle.hf_head.specs.declared.head.Head.{Head}
use Rattle.hf_head.specs.Heads.{unit}
use Rattle.hf_block.specs.Pieces.{Piece}
use Rattle.hf_layout.specs.Layout.{frees_of, record_at}
use Rattle.hf_tree.specs.Links.{HasBlocks, links_of, width}
use Rattle.hf_tree.specs.Rules.{AreAtHome, AreInOrder, IsFirstBroken, Links, NamesRecords, ReachedOnce, Records}
use Rattle.hf_tree.specs.Standing.{Map, Opens, StandsFor, count_of}
use Rattle.hf_survey.specs.Holding.{Breaks}
use Rattle.tc_hash.specs.Opening.{FillsUp, HasHead, IsBroken, bad_links, bad_section, no_blocks, no_head, too_short}
use Rattle.tc_hash.specs.Sections.{IsListOf, section_of}
use Rattle.tc_hash.proofs.Unique.{one_blocks, widths_listed}

-- ---- one head, and one list of blocks

one_head : (kind : ℕ) (bytes : List ℕ) (h k : Head) → HasHead kind bytes h → HasHead kind bytes k → h ≡ k
one_head kind bytes h k a b = sym a.spells.fields ∙ b.spells.fields

head_of : (kind : ℕ) (bytes : List ℕ) (h : Head) (ps : List Piece) → Opens kind bytes h ps → HasHead kind bytes h
head_of kind bytes h ps o = record { long = o.long; valid = o.valid; spells = o.spells; kind_is = o.kind_is }

fills_of : (kind : ℕ) (bytes : List ℕ) (h : Head) (ps : List Piece) → Opens kind bytes h ps → FillsUp h bytes ps
fills_of kind bytes h ps o = record { whole = o.blocks.filled.whole; widths = widths_listed (width h) (unit h) h.first ps o.blocks.filled.whole o.blocks.widths; is = o.blocks.filled.is }

-- what holds of a file's head and blocks holds of all that it has
of_all : (P : Head → List Piece → Type 0) (kind : ℕ) (bytes : List ℕ) (h k : Head) (ps qs : List Piece) → Opens kind bytes h ps → Opens kind bytes k qs → P h ps → P k qs
of_all P kind bytes h k ps qs a b holds =
    let heads = one_head kind bytes h k (head_of kind bytes h ps a) (head_of kind bytes k qs b) in
    let blocks : HasBlocks k k.size ps bytes = subst (λ (x : Head). HasBlocks x x.size ps bytes) heads a.blocks in
    subst (P k) (one_blocks k k.size ps qs bytes blocks b.blocks) (subst (λ (x : Head). P x ps) heads holds)

-- ---- the rules of links and records

none_first : (links : Links) (records : Records) (n claimed count : ℕ) (rule : Rule) → NamesRecords links records n → ReachedOnce links records n → AreAtHome links records n → AreInOrder links records n → claimed ≡ count → IsFirstBroken links records n claimed count rule → ⊥
none_first links records n claimed count rule names once home order same broken = elim broken [
  | inl fourth ↦ fourth.1 names
  | inr from5 ↦ elim from5.1 [
    | inl fifth ↦ fifth.1 once
    | inr from6 ↦ elim from6.1 [
      | inl sixth ↦ sixth.1 home
      | inr from7 ↦ elim from7.1 [
        | inl seventh ↦ seventh.1 order
        | inr eighth ↦ eighth.2 same
      ]
    ]
  ]
]

links_hold : (kind : ℕ) (bytes : List ℕ) (map : Map) (rule : Rule) (s : StandsFor kind bytes map) → Breaks s.head s.pieces bytes rule → ⊥
links_hold kind bytes map rule s broken = none_first (links_of s.head s.pieces bytes) (record_at s.head.first s.pieces) s.head.buckets s.head.records (count_of s.pieces) rule s.names s.once s.home s.order s.count broken

-- ---- all rules

pub stands_unbroken : (kind : ℕ) (bytes : List ℕ) (map : Map) (rule : Rule) → StandsFor kind bytes map → IsBroken kind bytes rule → ⊥
stands_unbroken kind bytes map rule s (no_head none) = none s.head (head_of kind bytes s.head s.pieces s.opens)
stands_unbroken kind bytes map rule s (too_short h head short) =
    let heads = one_head kind bytes s.head h (head_of kind bytes s.head s.pieces s.opens) head in
    let long : h.size ≤ length bytes = subst (λ (x : Head). x.size ≤ length bytes) heads s.opens.blocks.within in
    omega (arith, long, short)
stands_unbroken kind bytes map rule s (no_blocks h head long none) =
    let heads = one_head kind bytes s.head h (head_of kind bytes s.head s.pieces s.opens) head in
    none s.pieces (subst (λ (x : Head). FillsUp x bytes s.pieces) heads (fills_of kind bytes s.head s.pieces s.opens))
stands_unbroken kind bytes map rule s (bad_links h ps r opens first) =
    links_hold kind bytes map r s (of_all (λ k qs. Breaks k qs bytes r) kind bytes h s.head ps s.pieces opens s.opens first)
stands_unbroken kind bytes map rule s (bad_section h ps opens hold none) =
    none (of_all (λ k qs. IsListOf (unit k) (frees_of k.first qs) (section_of k bytes)) kind bytes s.head h s.pieces ps s.opens opens s.pool)
