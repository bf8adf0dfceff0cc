-- When a limit is reached, and in which of the files of a table.
use Rattle.std.specs.Prelude.{◌≡◌, ◌⊎◌, ℕ, ◌+◌, ◌<◌, ◌^◌, Bool, true, false, List, [], ◌∷◌, length, take, Option, Some, None, if◌then◌else◌}
use Rattle.std.specs.FinMap.{empty, get, insert}
use Rattle.std.proofs.Common.{subst, sym}
use Rattle.std.specs.declared.cmp.Ordering.{Ordering}
use Rattle.tc_base.specs.Files.{Files}
use Rattle.tc_base.specs.Maps.{Map}
use Rattle.tc_base.specs.Orders.{order}
use Rattle.tc_base.specs.declared.seq.Pair.{Pair}
use Rattle.tc_space.specs.Changes.{out_of}
use Rattle.tc_space.specs.declared.space.Space.{Ghosts}
use Rattle.hf_block.specs.Written.{block_len}
use Rattle.hf_head.specs.declared.head.Head.{Head}
use Rattle.hf_head.specs.Heads.{head_in, sections, unit}
use Rattle.hf_pool.specs.declared.pool.Pool.{Pool}
use Rattle.hf_pool.specs.Pools.{frees}
use Rattle.hf_record.specs.Fields.{HasFields}
use Rattle.hf_record.specs.Holding.{HasMap}
use Rattle.hf_tree.specs.Links.{width}
use Rattle.bt_page.specs.Keys.{key_of}
use Rattle.bt_page.specs.Pages.{leaf_bytes}
use Rattle.bt_rows.specs.Heads.{head_of}
use Rattle.bt_rows.specs.Orders.{before_by}
use Rattle.bt_rows.specs.Pages.{IsPage}
use Rattle.bt_rows.specs.Rules.{column as column_key}
use Rattle.bt_rows.specs.declared.head.TreeHead.{TreeHead}
use Rattle.bt_rows.specs.declared.page.Page.{Page}
use Rattle.bt_ways.specs.Changes.{inserted}
use Rattle.bt_ways.specs.Removals.{no_items}
use Rattle.bt_tree.specs.Inserting.{RunsOut}
use Rattle.bt_tree.specs.Paging.{HoldsOnly, IsOwn, OldOr, page_bytes}
use Rattle.bt_tree.specs.Trees.{HoldsPairs, IsTree}
use Rattle.tc_hash.specs.Creating.{IsNew}
use Rattle.tc_hash.specs.Holding.{IsNumbered}
use Rattle.tc_hash.specs.Keeping.{HasNoBlock}
use Rattle.tc_hash.specs.Packing.{blocks_long}
use Rattle.tc_hash.specs.Standing.{numbers_in}
use Rattle.tc_hashdb.specs.Filling.{LacksLargeAt, WantsKey, WantsRecord}
use Rattle.tc_model.specs.Contents.{Contents, Rows, fixed, hash, table, tree}
use Rattle.tc_model.specs.declared.query.IndexKind.{IndexKind}
use Rattle.tc_model.specs.declared.query.IndexKind.TheVariants as kinds
use Rattle.td_index.specs.Entries.{Firsts, keys_of, owed, parted, times}
use Rattle.tc_table.specs.Parts.{AreSpelled, parts_of}
use Rattle.tc_table.specs.Sides.{asks_decimal}
use Rattle.tc_treedb.specs.Filling.{IsWritten}
use Rattle.tc_tabledb.specs.Files.{IsIndexPlace, column_bytes, order_code}

-- ---- what contents give an index

abbrev pub is_same : IndexKind → IndexKind → Bool
is_same kinds.Lexical kinds.Lexical = true
is_same kinds.Decimal kinds.Decimal = true
is_same kinds.Token kinds.Token = true
is_same _ _ = false

abbrev pub given_as : Rows → IndexKind → List ℕ → Option IndexKind → Firsts
given_as rows kind name None k = []
given_as rows kind name (Some other) k = if is_same other kind then parts_of kind name rows k else []

-- nothing, where they have no index of that column and type
abbrev pub given : Contents → IndexKind → List ℕ → Firsts
given (table rows indexes) kind name k = given_as rows kind name (get indexes name) k
given _ kind name k = []

abbrev pub HasIndex : Contents → IndexKind → List ℕ → Type 0
HasIndex (table rows indexes) kind name = get indexes name ≡ Some kind
HasIndex _ kind name = ⊥

-- the tree's key is one of a primary key's
abbrev pub IsOf : List ℕ → List ℕ → Type 0
IsOf key x = (first : List ℕ) × (parted x ≡ Some (first, key))

-- on the way from one to the other: each tree key is held as often as the one owes it or the other; and of the row of one key, which is in hand, some may be gone for a while
abbrev pub AreMid : Firsts → Firsts → List ℕ → List Pair → Type 0
AreMid before after key ps = (x : List ℕ) → (times x (keys_of ps) ≡ owed before x) ⊎ ((times x (keys_of ps) ≡ owed after x) ⊎ (IsOf key x × (times x (keys_of ps) ≡ 0)))

-- ---- a page of an index's tree

-- a map holds the pages of the tree of an index with these pairs, under these numbers and in so many rows, and beside them its record `column`
pub record IsTreeOf (kind : IndexKind) (name : List ℕ) (ps : List Pair) (numbers : TreeHead) (rows : ℕ) : Type 0 where
  pub held : Map
  pub code : numbers.order ≡ order_code kind
  pub is : HoldsPairs (before_by (order (asks_decimal kind))) numbers rows (Some (column_bytes kind name)) (get held) ps

-- so does a hash file with these bytes
pub record HasTree (kind : IndexKind) (name : List ℕ) (ps : List Pair) (numbers : TreeHead) (rows : ℕ) (bytes : List ℕ) : Type 0 where
  pub head : Head
  pub told : IsNumbered head bytes
  pub own : Pool
  pub held : Map
  pub has : HasMap head own.size (frees own) held bytes
  pub code : numbers.order ≡ order_code kind
  pub is : HoldsPairs (before_by (order (asks_decimal kind))) numbers rows (Some (column_bytes kind name)) (get held) ps

-- it was to have a record under an id that has a page or is one of the next, in a store that held pages of the tree and such pages under such ids, its record `column`, and nothing else
pub record IsWanted (cmp : List ℕ → List ℕ → Ordering) (column : List ℕ) {h : TreeHead} {n : ℕ} {m : List ℕ → Option (List ℕ)} (t : IsTree (before_by cmp) h n m) (ps qs : List Pair) (id : ℕ) (page : Page) (held : Map) : Type 0 where
  pub own : IsOwn h 2 n t.pages id
  pub fine : IsWritten cmp t ps qs page
  pub only : HoldsOnly (Some column) (OldOr t.pages (IsOwn h 2 n t.pages) (IsWritten cmp t ps qs)) held

-- with these bytes a hash file holds records among which no block is to be had for that of a page, which is written on the way from a tree of some pairs to some others
pub record WantsPage (limit : ℕ) (bytes : List ℕ) (kind : IndexKind) (name : List ℕ) (before after : Firsts) : Type 0 where
  pub key : List ℕ
  pub was : List Pair
  pub was_mid : AreMid before after key was
  pub numbers : TreeHead
  pub rows : ℕ
  pub had : IsTreeOf kind name was numbers rows
  pub next : List Pair
  pub next_mid : AreMid before after key next
  pub id : ℕ
  pub page : Page
  pub spelled : IsPage id (page_bytes page) page
  pub held : Map
  pub wanted : IsWanted (order (asks_decimal kind)) (column_bytes kind name) had.is.tree was next id page held
  pub wants : WantsKey limit bytes held (key_of id) (page_bytes page)

-- with these bytes a hash file holds the pages of a tree of pairs on the way, and its region tells the numbers of that tree: a leaf where a key belongs has no room for the pair that comes
-- next, and fewer ids are left than pages come where it is parted
pub record UsesIds (bytes : List ℕ) (kind : IndexKind) (name : List ℕ) (before after : Firsts) : Type 0 where
  pub key : List ℕ
  pub was : List Pair
  pub was_mid : AreMid before after key was
  pub numbers : TreeHead
  pub told : head_of (head_in (take 256 bytes)).opaque ≡ numbers
  pub rows : ℕ
  pub had : HasTree kind name was numbers rows bytes
  pub last : Bool
  pub new : List ℕ
  pub value : List ℕ
  pub next_mid : AreMid before after key (inserted (order (asks_decimal kind)) last new value was)
  pub used : RunsOut (order (asks_decimal kind)) last new value had.is.tree

-- ---- the first records of an index's file

-- no record
abbrev pub nothing : Map
nothing = empty

abbrev pub column_pair : IndexKind → List ℕ → Pair
column_pair kind name = record { key = column_key; value = column_bytes kind name }

-- `column` in a file without records, and behind it a leaf with no keys, under an id
pub data IsFirst (kind : IndexKind) (name : List ℕ) (id : ℕ) : List Pair → Map → Pair → Type 0 where
  first_column : IsFirst kind name id [] nothing (column_pair kind name)
  first_leaf : IsFirst kind name id (column_pair kind name ∷ []) (insert nothing column_key (column_bytes kind name)) (record { key = key_of id; value = leaf_bytes no_items })

-- with these bytes a hash file holds no more than stands in front of such a record, and beside that no block is to be had for it
pub record LacksFirst (limit : ℕ) (bytes : List ℕ) (kind : IndexKind) (name : List ℕ) (id : ℕ) : Type 0 where
  pub head : Head
  pub fields : HasFields head
  pub least : head.first < sections head + unit head
  pub pairs : List Pair
  pub records : Map
  pub pair : Pair
  pub first : IsFirst kind name id pairs records pair
  pub held : Map
  pub kept : (held ≡ records) ⊎ (held ≡ out_of pair.key records)
  pub none : HasNoBlock limit bytes head held (block_len (width head) pair.key pair.value (unit head))

-- besides, its blocks end behind those of these records, and none is free
pub record LacksBare (limit : ℕ) (bytes : List ℕ) (kind : IndexKind) (name : List ℕ) (id : ℕ) : Type 0 where
  pub lacks : LacksFirst limit bytes kind name id
  pub ends : lacks.none.own.size ≡ lacks.head.first + blocks_long lacks.head lacks.pairs
  pub free : (q : ℕ) → frees lacks.none.own q ≡ None

-- the index was emptied, and the first records of its tree, which has a leaf of some id first, had no room
pub record WantsBare (limit : ℕ) (bytes : List ℕ) (kind : IndexKind) (name : List ℕ) (before after : Firsts) : Type 0 where
  pub none : (k : List ℕ) → after k ≡ []
  pub was : List Pair
  pub numbers : TreeHead
  pub rows : ℕ
  pub had : IsTreeOf kind name was numbers rows
  pub lacks : LacksBare limit bytes kind name numbers.first

-- ---- an index that is made

-- the head of a file that is made for one
abbrev pub IsIndexHead : Head → Type 0
IsIndexHead h = IsNew 1 8 10 8191 false h

-- the numbers of such a head: no options, alignment power 8, pool power 10 and 8191 buckets
abbrev pub index_numbers : List ℕ
index_numbers = 0 ∷ 8 ∷ 10 ∷ 8191 ∷ []

-- there is no block for one of the first records, in a tree file with these numbers
pub record LacksMade (limit : ℕ) (bytes : List ℕ) (kind : IndexKind) (name : List ℕ) : Type 0 where
  pub lacks : LacksFirst limit bytes kind name 1
  pub sort : lacks.head.kind ≡ 1
  pub numbers : numbers_in lacks.head ≡ index_numbers

-- the file of an index that is made, of a column that has none of that type before, passes its limit with its sections, or what a head can name
pub record LacksSections (limit : ℕ → ℕ) (c d : Contents) : Type 0 where
  pub file : ℕ
  pub place : IsIndexPlace file
  pub kind : IndexKind
  pub name : List ℕ
  pub new : HasIndex c kind name → ⊥
  pub has : HasIndex d kind name
  pub head : Head
  pub is_new : IsIndexHead head
  pub passes : (limit file < head.first) ⊎ (2 ^ 40 < head.first)

-- or it has no room for its first records
pub record LacksNew (limit : ℕ) (bytes : List ℕ) (kind : IndexKind) (name : List ℕ) (c d : Contents) : Type 0 where
  pub new : HasIndex c kind name → ⊥
  pub has : HasIndex d kind name
  pub lacks : LacksMade limit bytes kind name

-- ---- all files

-- in the file of an index that contents have before or after
pub record LacksIndex (limit : ℕ → ℕ) (files : Files) (c d : Contents) : Type 0 where
  pub file : ℕ
  pub place : IsIndexPlace file
  pub kind : IndexKind
  pub name : List ℕ
  pub some : HasIndex c kind name ⊎ HasIndex d kind name
  pub lacks : WantsPage (limit file) (files file) kind name (given c kind name) (given d kind name)
      ⊎ (UsesIds (files file) kind name (given c kind name) (given d kind name)
      ⊎ (WantsBare (limit file) (files file) kind name (given c kind name) (given d kind name)
      ⊎ LacksNew (limit file) (files file) kind name c d))

-- in file 0, at the record of a row
pub record LacksRowOf (limit : ℕ) (bytes : List ℕ) (before after : Rows) : Type 0 where
  pub from : Map
  pub from_is : AreSpelled from before
  pub to : Map
  pub to_is : AreSpelled to after
  pub wants : WantsRecord limit bytes from to

abbrev pub LacksRow : ℕ → List ℕ → Contents → Contents → Type 0
LacksRow limit bytes (table before i) (table after j) = LacksRowOf limit bytes before after
LacksRow limit bytes _ _ = ⊥

-- the undo log is full; or the sections of a new file pass a limit; or in a file, as it was brought to where it is kept, a block or an id was wanted
abbrev pub FillsWith : (ℕ → ℕ) → Type 0 → Type 0 → Files → Contents → Contents → Type 0
FillsWith limit log_is_full brought files c d = log_is_full ⊎ (LacksSections limit c d ⊎ (brought × (LacksRow (limit 0) (files 0) c d ⊎ LacksIndex limit files c d)))

-- with the limits and the files as the space stands
abbrev pub Fills : {S : Type 0} → Ghosts S → S → Contents → Contents → Type 0
Fills s space c d = FillsWith (s.limit space) (s.log_full space) (s.brought space) (s.now space) c d

-- ---- in the large form

-- written anew in the large form, with the records of the rows that these bytes hold, file 0 has no room for its sections, or for one of them
pub record LacksLargeRows (limit long : ℕ) (brought : Type 0) (bytes : List ℕ) (rows : Rows) : Type 0 where
  pub held : Map
  pub spelled : AreSpelled held rows
  pub lacks : LacksLargeAt limit long brought bytes held

abbrev pub LacksLargeWith : ℕ → ℕ → Type 0 → List ℕ → Contents → Type 0
LacksLargeWith limit long brought bytes (table rows indexes) = LacksLargeRows limit long brought bytes rows
LacksLargeWith limit long brought bytes _ = ⊥

-- with the bytes that file 0 had as the call began, and the length that it has now
abbrev pub LacksLarge : {S : Type 0} → Ghosts S → S → S → Contents → Type 0
LacksLarge s old space c = LacksLargeWith (s.limit space 0) (length (s.now space 0)) (s.brought space) (s.now old 0) c

-- whatever it is by, and from wherever on
abbrev pub fills_of : {S E : Type 0} → Ghosts S → E → S → S → Contents → Contents → Type 0
fills_of s e old space c d = Fills s space c d

-- it looks at the bytes of the call's beginning alone
pub large_from : (limit long : ℕ) (brought : Type 0) (f g : Files) (c : Contents) → f ≡ g → LacksLargeWith limit long brought (g 0) c → LacksLargeWith limit long brought (f 0) c
large_from limit long brought f g c same lacks = subst (λ (files : Files). LacksLargeWith limit long brought (files 0) c) (sym same) lacks
