-- When a limit is reached on the way from a list of pairs to another.
use Rattle.std.specs.Prelude.{◌≡◌, ◌⊎◌, ℕ, List, Bool, true}
use Rattle.tc_base.specs.declared.order.Order.{Ghosts as Orders}
use Rattle.tc_base.specs.declared.seq.Pair.{Pair}
use Rattle.tc_space.specs.Changes.{has_pair}
use Rattle.tc_space.specs.declared.records.Records.{Ghosts as Stores}
use Rattle.tc_space.specs.declared.space.Space.{Ghosts}
use Rattle.bt_rows.specs.declared.page.Page.{Page}
use Rattle.bt_ways.specs.Changes.{inserted, removed}
use Rattle.bt_tree.specs.declared.tree.Tree.{Tree}
use Rattle.bt_tree.specs.Inserting.{IsMorePage, IsPutPage, RunsOut}
use Rattle.bt_tree.specs.Meaning.{Means}
use Rattle.bt_tree.specs.Paging.{IsOwn, LacksRoom, TellsNumbers}
use Rattle.bt_tree.specs.Removing.{IsLessPage}
use Rattle.tc_btree.specs.declared.btree.Btree.{Btree}

module _ {S V O : Type 0} (s : Ghosts S) (R : Stores V S) (o : Orders O) where
  -- the tree means the pairs before, and its file is that of the tree then and tells its numbers; the leaf where a key belongs has no room for the pair that comes in, and fewer ids are left than pages come where it is parted
  pub record IsParted (t : Tree V O) (old new : S) (ps qs : List Pair) : Type 0 where
    pub means : Means s R o t old ps
    pub tells : TellsNumbers s R t old new
    pub last : Bool
    pub key : List ℕ
    pub value : List ℕ
    pub makes : inserted o.cmp last key value ps ≡ qs
    pub used : RunsOut o.cmp last key value means.1.is.tree

  -- a node comes along the way to a leaf that has no room for the pair that comes in
  pub record IsAbove (t : Tree V O) (old : S) (ps qs : List Pair) (means : Means s R o t old ps) (p : Page) : Type 0 where
    pub last : Bool
    pub key : List ℕ
    pub value : List ℕ
    pub makes : inserted o.cmp last key value ps ≡ qs
    pub more : IsMorePage o.cmp last key value means.1.is.tree p

  -- values of a key that is held go out, and a node stood and is without one of its places
  pub record IsBelow (t : Tree V O) (old : S) (ps qs : List Pair) (means : Means s R o t old ps) (p : Page) : Type 0 where
    pub all : Bool
    pub key : List ℕ
    pub makes : removed o.cmp all key ps ≡ qs
    pub held : has_pair key ps ≡ true
    pub less : IsLessPage means.1.is.tree.pages p

  -- it is a page of the tree as it was, or as it is to be; a node comes where a pair comes in, or is less where values go out
  abbrev pub IsListPage : (t : Tree V O) (old : S) (ps qs : List Pair) → Means s R o t old ps → Page → Type 0
  IsListPage t old ps qs h p = IsPutPage o.cmp t.head h.1.is.tree.pages ps qs p × (IsBelow t old ps qs h p ⊎ IsAbove t old ps qs h p)

  -- the store, which holds the pages of the tree before and such pages alone, has no room for such a page, under an id that has a page or is one of the next, or the undo log is full
  abbrev pub LacksListed : Tree V O → S → S → List Pair → List Pair → Type 0
  LacksListed t old new ps qs = LacksRoom s R (Means s R o t old ps) (λ h i. IsOwn t.head 2 t.height h.1.is.tree.pages i) (λ h. h.1.is.tree.pages) (IsListPage t old ps qs) t old new

  -- a leaf is to be parted and ids are used up; or the tree means the pairs before, and so it is
  abbrev pub fills_list : Btree V O → S → S → List Pair → List Pair → Type 0
  fills_list b old new ps qs = IsParted b.tree old new ps qs ⊎ (Means s R o b.tree old ps × LacksListed b.tree old new ps qs)
