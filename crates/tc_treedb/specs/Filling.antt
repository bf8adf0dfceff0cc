-- When a limit is reached.
use Rattle.std.specs.Prelude.{◌≡◌, ◌⊎◌, ℕ, ◌+◌, ◌<◌, Bool, true, List, [], length, take, Option, None}
use Rattle.std.specs.FinMap.{empty, get}
use Rattle.std.specs.declared.cmp.Ordering.{Ordering}
use Rattle.std.proofs.Common.{inl, inr, ⊎_elim, subst, sym}
use Rattle.tc_base.specs.Files.{Files}
use Rattle.tc_base.specs.Maps.{Map}
use Rattle.tc_base.specs.Orders.{order}
use Rattle.tc_base.specs.declared.seq.Pair.{Pair}
use Rattle.tc_space.specs.Changes.{has_pair, out_of}
use Rattle.tc_space.specs.declared.space.Space.{Ghosts}
use Rattle.hf_block.specs.Written.{block_len}
use Rattle.hf_head.specs.declared.head.Head.{Head}
use Rattle.hf_head.specs.Heads.{head_in, sections, unit}
use Rattle.hf_pool.specs.declared.pool.Pool.{Pool}
use Rattle.hf_pool.specs.Pools.{frees}
use Rattle.hf_record.specs.Fields.{HasFields}
use Rattle.hf_record.specs.Holding.{HasMap}
use Rattle.hf_tree.specs.Links.{width}
use Rattle.bt_page.specs.Keys.{key_of}
use Rattle.bt_page.specs.Pages.{leaf_bytes}
use Rattle.bt_rows.specs.Heads.{head_of}
use Rattle.bt_rows.specs.declared.head.TreeHead.{TreeHead}
use Rattle.bt_rows.specs.declared.page.Page.{Page}
use Rattle.bt_rows.specs.Orders.{before_by}
use Rattle.bt_rows.specs.Pages.{IsPage}
use Rattle.bt_ways.specs.Changes.{inserted, removed}
use Rattle.bt_ways.specs.Removals.{no_items}
use Rattle.bt_tree.specs.Inserting.{IsMorePage, IsPutPage, RunsOut}
use Rattle.bt_tree.specs.Paging.{HoldsOnly, IsOwn, OldOr, page_bytes}
use Rattle.bt_tree.specs.Removing.{IsLessPage}
use Rattle.bt_tree.specs.Trees.{HoldsPairs, IsTree}
use Rattle.tc_hash.specs.Holding.{IsNumbered}
use Rattle.tc_hash.specs.Keeping.{HasNoBlock}
use Rattle.tc_hashdb.specs.Filling.{LacksLargeAt, WantsKey}
use Rattle.tc_model.specs.Contents.{Contents, fixed, hash, table, tree}
use Rattle.tc_treedb.specs.Between.{IsBetween}
use Rattle.tc_treedb.specs.Holding.{code_of}

-- ---- a page that is written on the way from some pairs to others

module _ (cmp : List ℕ → List ℕ → Ordering) where
  -- a pair comes in, and a node comes along the way to a leaf that has no room for it
  pub record IsAbove {h : TreeHead} {n : ℕ} {m : List ℕ → Option (List ℕ)} (t : IsTree (before_by cmp) h n m) (ps qs : List Pair) (p : Page) : Type 0 where
    pub last : Bool
    pub key : List ℕ
    pub value : List ℕ
    pub makes : inserted cmp last key value ps ≡ qs
    pub more : IsMorePage cmp last key value t p

  -- values of a key that is held go out, and a node stood and is without one of its places
  pub record IsBelow {h : TreeHead} {n : ℕ} {m : List ℕ → Option (List ℕ)} (t : IsTree (before_by cmp) h n m) (ps qs : List Pair) (p : Page) : Type 0 where
    pub all : Bool
    pub key : List ℕ
    pub makes : removed cmp all key ps ≡ qs
    pub held : has_pair key ps ≡ true
    pub less : IsLessPage t.pages p

  -- it is a page of a tree as it was, or as it is to be; a node comes where a pair comes in, or is less where values go out
  abbrev pub IsWritten : {h : TreeHead} {n : ℕ} {m : List ℕ → Option (List ℕ)} → IsTree (before_by cmp) h n m → List Pair → List Pair → Page → Type 0
  IsWritten {h} t ps qs p = IsPutPage cmp h t.pages ps qs p × (IsBelow t ps qs p ⊎ IsAbove t ps qs p)

  -- it was to have a record under an id that has a page or is one of the next, in a store that held pages of the tree and such pages under such ids, and nothing else
  pub record IsWanted {h : TreeHead} {n : ℕ} {m : List ℕ → Option (List ℕ)} (t : IsTree (before_by cmp) h n m) (ps qs : List Pair) (id : ℕ) (page : Page) (held : Map) : Type 0 where
    pub own : IsOwn h 2 n t.pages id
    pub fine : IsWritten t ps qs page
    pub only : HoldsOnly None (OldOr t.pages (IsOwn h 2 n t.pages) (IsWritten t ps qs)) held

-- ---- trees in files

-- with these bytes a hash file holds the pages of a tree of these pairs, under these numbers and in so many rows
pub record HasTree (decimal : Bool) (ps : List Pair) (numbers : TreeHead) (rows : ℕ) (bytes : List ℕ) : Type 0 where
  pub head : Head
  pub told : IsNumbered head bytes
  pub own : Pool
  pub held : Map
  pub has : HasMap head own.size (frees own) held bytes
  pub code : numbers.order ≡ code_of decimal
  pub is : HoldsPairs (before_by (order decimal)) numbers rows None (get held) ps

-- a map holds the pages of a tree of these pairs, under these numbers and in so many rows
pub record IsTreeOf (decimal : Bool) (ps : List Pair) (numbers : TreeHead) (rows : ℕ) : Type 0 where
  pub held : Map
  pub code : numbers.order ≡ code_of decimal
  pub is : HoldsPairs (before_by (order decimal)) numbers rows None (get held) ps

-- with these bytes a hash file holds records among which no block is to be had for that of a page, which is written on the way from a tree of some pairs to some
-- further on; the records are pages of that tree, or such ones, and may be without that of the page itself
pub record WantsPage (limit : ℕ) (bytes : List ℕ) (decimal : Bool) (before after : List Pair) : Type 0 where
  pub was : List Pair
  pub was_between : IsBetween before was after
  pub numbers : TreeHead
  pub rows : ℕ
  pub had : IsTreeOf decimal was numbers rows
  pub next : List Pair
  pub on : IsBetween was next after
  pub id : ℕ
  pub page : Page
  pub spelled : IsPage id (page_bytes page) page
  pub held : Map
  pub wanted : IsWanted (order decimal) had.is.tree was next id page held
  pub wants : WantsKey limit bytes held (key_of id) (page_bytes page)

-- with these bytes a hash file holds the pages of a tree of pairs on the way, and its region tells the numbers of that tree: a leaf where a key belongs has no room for a pair that leads
-- further on, and fewer ids are left than pages come where it is parted
pub record UsesIds (bytes : List ℕ) (decimal : Bool) (before after : List Pair) : Type 0 where
  pub was : List Pair
  pub was_between : IsBetween before was after
  pub numbers : TreeHead
  pub told : head_of (head_in (take 256 bytes)).opaque ≡ numbers
  pub rows : ℕ
  pub had : HasTree decimal was numbers rows bytes
  pub last : Bool
  pub key : List ℕ
  pub value : List ℕ
  pub on : IsBetween was (inserted (order decimal) last key value was) after
  pub used : RunsOut (order decimal) last key value had.is.tree

-- no record
abbrev pub nothing : Map
nothing = empty

-- with these bytes a hash file has nothing in front of its first block but its sections, it holds no record, its blocks end where the first one would stand and none is
-- free, and it has no room for that of a leaf with no keys of this id
pub record LacksLeafAt (limit : ℕ) (bytes : List ℕ) (id : ℕ) : Type 0 where
  pub head : Head
  pub fields : HasFields head
  pub least : head.first < sections head + unit head
  pub held : Map
  pub kept : (held ≡ nothing) ⊎ (held ≡ out_of (key_of id) nothing)
  pub none : HasNoBlock limit bytes head held (block_len (width head) (key_of id) (leaf_bytes no_items) (unit head))
  pub ends : none.own.size ≡ head.first
  pub free : (q : ℕ) → frees none.own q ≡ None

-- all pairs of a tree were to go, and there is no room for its first leaf, with no keys, in the file with nothing else in it
pub record WantsLeaf (limit : ℕ) (bytes : List ℕ) (decimal : Bool) (before after : List Pair) : Type 0 where
  pub none : after ≡ []
  pub numbers : TreeHead
  pub rows : ℕ
  pub had : IsTreeOf decimal before numbers rows
  pub lacks : LacksLeafAt limit bytes numbers.first

-- one of these, in the file as it was brought to where it is kept
abbrev pub Lacks : ℕ → Type 0 → List ℕ → Bool → List Pair → List Pair → Type 0
Lacks limit brought bytes decimal before after = brought × (WantsPage limit bytes decimal before after ⊎ (UsesIds bytes decimal before after ⊎ WantsLeaf limit bytes decimal before after))

-- ---- of contents

abbrev pub FillsLists : ℕ → Type 0 → Type 0 → List ℕ → Bool → List Pair → List Pair → Type 0
FillsLists limit log_is_full brought bytes decimal before after = log_is_full ⊎ Lacks limit brought bytes decimal before after

abbrev pub FillsAny : ℕ → Type 0 → List ℕ → Contents → Contents → Type 0
FillsAny limit brought bytes (tree a decimal ps) (tree b other qs) = Lacks limit brought bytes decimal ps qs
FillsAny limit brought bytes _ _ = ⊥

-- the undo log is full, or one of these
abbrev pub FillsWith : ℕ → Type 0 → Type 0 → List ℕ → Contents → Contents → Type 0
FillsWith limit log_is_full brought bytes before after = log_is_full ⊎ FillsAny limit brought bytes before after

-- with the limit and the bytes of file 0 as the space stands
abbrev pub Fills : {S : Type 0} → Ghosts S → S → Contents → Contents → Type 0
Fills s space before after = FillsWith (s.limit space 0) (s.log_full space) (s.brought space) (s.now space 0) before after

-- ---- in the large form

-- the records of a map are the pages of a tree that holds these pairs
pub record ArePagesOf (decimal : Bool) (held : Map) (ps : List Pair) : Type 0 where
  pub head : TreeHead
  pub height : ℕ
  pub holds : HoldsPairs (before_by (order decimal)) head height None (get held) ps

-- written anew in the large form, with the pages that these bytes hold, the file has no room for its sections, or for one of them
pub record LacksLargeLists (limit long : ℕ) (brought : Type 0) (bytes : List ℕ) (decimal : Bool) (ps : List Pair) : Type 0 where
  pub held : Map
  pub pages : ArePagesOf decimal held ps
  pub lacks : LacksLargeAt limit long brought bytes held

abbrev pub LacksLargeWith : ℕ → ℕ → Type 0 → List ℕ → Contents → Type 0
LacksLargeWith limit long brought bytes (tree a decimal ps) = LacksLargeLists limit long brought bytes decimal ps
LacksLargeWith limit long brought bytes _ = ⊥

-- with the bytes that file 0 had as the call began, and the length that it has now
abbrev pub LacksLarge : {S : Type 0} → Ghosts S → S → S → Contents → Type 0
LacksLarge s old space c = LacksLargeWith (s.limit space 0) (length (s.now space 0)) (s.brought space) (s.now old 0) c

-- it looks at the bytes of the call's beginning alone
pub large_from : (limit long : ℕ) (brought : Type 0) (f g : Files) (c : Contents) → f ≡ g → LacksLargeWith limit long brought (g 0) c → LacksLargeWith limit long brought (f 0) c
large_from limit long brought f g c same lacks = subst (λ (files : Files). LacksLargeWith limit long brought (files 0) c) (sym same) lacks

-- ---- in a file that the bytes were brought to

module _ (limit : ℕ) (brought other : Type 0) (bytes shown : List ℕ) (too : brought → other) (same : brought → bytes ≡ shown) where
  lists_moved : (decimal : Bool) (ps qs : List Pair) → Lacks limit brought bytes decimal ps qs → Lacks limit other shown decimal ps qs
  lists_moved decimal ps qs full = (too full.0, subst (λ (b : List ℕ). WantsPage limit b decimal ps qs ⊎ (UsesIds b decimal ps qs ⊎ WantsLeaf limit b decimal ps qs)) (same full.0) full.1)

  any_moved : (c d : Contents) → FillsAny limit brought bytes c d → FillsAny limit other shown c d
  any_moved (tree a decimal ps) (tree b more qs) full = lists_moved decimal ps qs full
  any_moved (tree a decimal ps) (hash b n) full = absurd full
  any_moved (tree a decimal ps) (fixed width most ids) full = absurd full
  any_moved (tree a decimal ps) (table rows indexes) full = absurd full
  any_moved (hash a m) d full = absurd full
  any_moved (fixed width most ids) d full = absurd full
  any_moved (table rows indexes) d full = absurd full

-- the same with the undo log
pub fills_moved : (limit : ℕ) (log_is_full brought other : Type 0) (bytes shown : List ℕ) → (brought → other) → (brought → bytes ≡ shown) → (c d : Contents) → FillsWith limit log_is_full brought bytes c d → FillsWith limit log_is_full other shown c d
fills_moved limit log_is_full brought other bytes shown too same c d full = ⊎_elim (λ log. inl log) (λ w. inr (any_moved limit brought other bytes shown too same c d w)) full
