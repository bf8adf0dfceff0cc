-- What an inspection tells.
use Rattle.std.proofs.Common.{◌≡◌, ◌∙◌, ℕ, Bool, true, false, List, [], ◌++◌, length, sym, ap, subst, append_assoc, ⊎_elim, arith}
use Rattle.std.specs.Prelude.{Option, Some, unwrap_or, codes, take}
use Rattle.tc_base.specs.Files.{Files}
use Rattle.tc_base.specs.declared.seq.Pair.{Pair}
use Rattle.bt_rows.specs.Heads.{head_of}
use Rattle.bt_rows.specs.declared.head.TreeHead.{TreeHead}
use Rattle.bt_tree.specs.declared.tree.Tree.{Tree}
use Rattle.hf_head.specs.declared.head.Head.{Head}
use Rattle.hf_head.specs.Heads.{head_in, is_large, unit}
use Rattle.ty_wire.specs.Prefixes.{IsPrefix}
use Rattle.tc_hash.specs.declared.hash.Hash.{Hash}
use Rattle.tc_hash.specs.Opening.{HasHead}
use Rattle.tc_model.specs.Contents.{Contents, fixed, hash, table, tree}
use Rattle.tc_engine.specs.Lines.{line}
use Rattle.tc_treedb.specs.Filling.{HasTree}
use Rattle.tc_treedb.specs.Holding.{Held, HoldsKept, HoldsOver, HoldsPairs, IsFileOf, Reopens, StandsTree}
use Rattle.tc_treedb.specs.Informing.{Lines, form_line, head_lines, lines_of, tree_lines}
use Rattle.tc_treedb.specs.Kept.{height_of}
use Rattle.tc_treedb.specs.Laying.{kept_some}
use Rattle.tc_treedb.specs.declared.holding.TreeEngine.{TreeEngine}
use Rattle.tc_treedb.specs.declared.kept.Kept.{Kept}
use Rattle.tc_treedb.specs.declared.kept.Kept.TheVariants.{Lexical, Decimal}

-- ---- lines one behind the other

pub then : (a b c x y : List ℕ) → b ≡ a ++ x → c ≡ b ++ y → c ≡ a ++ (x ++ y)
then a b c x y first second = second ∙ (ap (λ t. t ++ y) first ∙ append_assoc a x y)

pub fronts_then : (a b c : List ℕ) → IsPrefix a b → IsPrefix b c → IsPrefix a c
fronts_then a b c first second = (first.0 ++ second.0, then a b c first.0 second.0 first.1 second.1)

pub head_added : (a b c d e f : List ℕ) (h : Head) (one power : ℕ) → one ≡ unit h → power ≡ h.fpow → b ≡ a ++ line (codes "bucket number: ") h.buckets → c ≡ b ++ line (codes "alignment: ") one → d ≡ c ++ line (codes "free pool power: ") power → e ≡ d ++ line (codes "file size: ") h.size
    → f ≡ e ++ line (codes "first record: ") h.first → f ≡ a ++ head_lines h
head_added a b c d e f h one power one_is power_is first second third fourth fifth =
    then a b f _ _ first
    (then b c f _ _ (second ∙ ap (λ n. b ++ line (codes "alignment: ") n) one_is)
    (then c d f _ _ (third ∙ ap (λ n. c ++ line (codes "free pool power: ") n) power_is)
    (then d e f _ _ fourth fifth)))

pub five_front : (a b c d e f : List ℕ) → IsPrefix a b → IsPrefix b c → IsPrefix c d → IsPrefix d e → IsPrefix e f → IsPrefix a f
five_front a b c d e f first second third fourth fifth = fronts_then a b f first (fronts_then b c f second (fronts_then c d f third (fronts_then d e f fourth fifth)))

pub tree_added : (a b c d : List ℕ) (t : TreeHead) (height leaf node : ℕ) → leaf ≡ t.leaf_limit → node ≡ t.node_limit → b ≡ a ++ line (codes "leaf limit: ") leaf → c ≡ b ++ line (codes "node limit: ") node → d ≡ c ++ line (codes "height: ") height → d ≡ a ++ tree_lines t height
tree_added a b c d t height leaf node leaf_is node_is first second third =
    then a b d _ _ (first ∙ ap (λ n. a ++ line (codes "leaf limit: ") n) leaf_is) (then b c d _ _ (second ∙ ap (λ n. b ++ line (codes "node limit: ") n) node_is) third)

pub three_front : (a b c d : List ℕ) → IsPrefix a b → IsPrefix b c → IsPrefix c d → IsPrefix a d
three_front a b c d first second third = fronts_then a b d first (fronts_then b c d second third)

pub all_added : (a b c d : List ℕ) (h : Head) (t : TreeHead) (height : ℕ) (large : Bool) → t ≡ head_of h.opaque → large ≡ is_large h → b ≡ a ++ head_lines h → c ≡ b ++ tree_lines t height → d ≡ c ++ form_line large → d ≡ a ++ lines_of h height
all_added a b c d h t height large tree_is large_is first second third =
    then a b d _ _ first (then b c d _ _ (second ∙ ap (λ n. b ++ tree_lines n height) tree_is) (third ∙ ap (λ l. c ++ form_line l) large_is))

-- ---- what is told of the file

-- the file of what is held has a head, where it stands for it
pub head_there : {S : Type 0} (e : TreeEngine S) (files : Files) (c : Contents) → HoldsPairs e files c → Reopens files c → (h : Head) × HasHead 1 (files 0) h
head_there e files c h reopens = ⊎_elim
    (λ none. absurd (let long = kept_some e.kept (files 0) h.held h.holds_it in let empty_file : length (files 0) ≡ 0 = ap length none.0 in omega (arith, long, empty_file)))
    (λ file. let is = file.stands.file.is in (is.head, record { long = is.opens.long; valid = is.opens.valid; spells = is.opens.spells; kind_is = is.opens.kind_is }))
    reopens

has_tree : {S O : Type 0} (decimal : Bool) (t : Tree (Hash S) O) (bytes : List ℕ) (m : Held) → m.0 ≡ decimal → HoldsOver decimal t bytes m.1 → HasTree m.0 m.1 t.head t.height bytes
has_tree decimal t bytes m d h = subst (λ (x : Bool). HasTree x m.1 t.head t.height bytes) (sym d) (record { head = t.store.body.head; told = h.store.numbers; own = t.store.body.pool; held = h.records; has = h.store.map.has; code = h.code; is = h.is })

-- in the rows that are known in memory
kept_tree : {S : Type 0} (kept : Kept S) (bytes : List ℕ) (m : Held) → HoldsKept kept bytes m → (numbers : TreeHead) × HasTree m.0 m.1 numbers (height_of kept) bytes
kept_tree (Lexical t) bytes m h = (t.head, has_tree false t bytes m h.0 h.1)
kept_tree (Decimal t) bytes m h = (t.head, has_tree true t bytes m h.0 h.1)

abbrev decimal_in : Contents → Bool
decimal_in (tree a d ps) = d
decimal_in (hash a m) = false
decimal_in (fixed width most ids) = false
decimal_in (table rows indexes) = false

abbrev pairs_in : Contents → List Pair
pairs_in (tree a d ps) = ps
pairs_in (hash a m) = []
pairs_in (fixed width most ids) = []
pairs_in (table rows indexes) = []

same_held : (a b : Held) → tree false a.0 a.1 ≡ tree false b.0 b.1 → a ≡ b
same_held a b e = λ i. (decimal_in (e i), pairs_in (e i))

pub told_is : {S : Type 0} (e : TreeEngine S) (files : Files) (c : Contents) (a b : List ℕ) (head : Head) (found : Option Head) (height : ℕ) → HoldsPairs e files c → Reopens files c → height ≡ height_of e.kept → found ≡ Some head → ((h : Head) × (found ≡ Some h) × (head_in (take 256 (files 0)) ≡ h))
    → b ≡ a ++ lines_of head height → (text : List ℕ) × Lines files text × (b ≡ a ++ text)
told_is e files c a b head found height h reopens high is other added =
    let file : IsFileOf files c = ⊎_elim (λ none. absurd (let long = kept_some e.kept (files 0) h.held h.holds_it in let empty_file : length (files 0) ≡ 0 = ap length none.0 in omega (arith, long, empty_file))) (λ f. f) reopens in
    let same : file.held ≡ h.held = same_held file.held h.held (sym file.is ∙ h.is) in
    let rows = kept_tree e.kept (files 0) h.held h.holds_it in
    let head_is : head_in (take 256 (files 0)) ≡ head = other.2 ∙ ap (λ o. unwrap_or o head) (sym other.1 ∙ is) in (
      lines_of head height,
      record {
        held = h.held;
        stands = subst (λ (m : Held). StandsTree (files 0) m) same file.stands;
        numbers = rows.0;
        rows = height_of e.kept;
        tree = rows.1;
        are = λ i. lines_of (sym head_is i) (high i);
      },
      added,
    )
