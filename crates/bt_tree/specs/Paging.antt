-- What a tree shows as pages, with none of the rules of rows, and what calls on single pages leave.
use Rattle.std.specs.Prelude.{◌≡◌, ◌⊎◌, ℕ, ◌+◌, ◌<◌, ◌≤◌, List, Option, Some, None, Result}
use Rattle.std.specs.FinMap.{get}
use Rattle.tc_base.specs.Maps.{Map}
use Rattle.std.proofs.Common.{inl, inr, ⊎_elim, subst, sym}
use Rattle.tc_space.specs.Frames.{GivenUp, In, Keeps, Others, Writes, keeps_then}
use Rattle.tc_space.specs.Stores.{IsReady, Only}
use Rattle.tc_space.specs.declared.records.Records.{Ghosts as Stores}
use Rattle.tc_space.specs.declared.space.Space.{Ghosts}
use Rattle.bt_page.specs.Keys.{node_offset, key_of}
use Rattle.bt_page.specs.Pages.{leaf_bytes, node_bytes}
use Rattle.bt_page.specs.declared.page.Leaf.{Leaf}
use Rattle.bt_page.specs.declared.page.Node.{Node}
use Rattle.bt_rows.specs.declared.head.TreeHead.{TreeHead}
use Rattle.bt_rows.specs.declared.page.Page.{Page}
use Rattle.bt_rows.specs.declared.page.Page.TheVariants.{Leaf as leaf_page, Node as node_page}
use Rattle.bt_rows.specs.Heads.{head_of}
use Rattle.bt_rows.specs.Pages.{PageMap, AreHeld, IsGiven, IsPage}
use Rattle.bt_rows.specs.Rules.{B1, column as column_key}
use Rattle.bt_cache.specs.Effects.{LacksKey, Looks, RefusesBeside, SameStore}
use Rattle.bt_cache.specs.Held.{AreSame, Beside, Holds}
use Rattle.bt_ways.specs.Writes.{put_at}
use Rattle.bt_tree.specs.declared.tree.Tree.{Tree}
use Rattle.bt_tree.specs.Meaning.{file_in}
use Rattle.bt_tree.specs.Trees.{HasKeys}

-- with these bytes in its file the store holds a map whose pages these are, and each page in memory is the map's
pub record ShowsIn {S V O : Type 0} (R : Stores V S) (t : Tree V O) (bytes : List ℕ) (pages : PageMap) : Type 0 where
  pub records : Map
  pub store : R.holds t.store bytes records
  pub same : AreSame records t.cache.pages.entries
  pub head : B1 t.head
  pub keys : HasKeys t.head t.column (get records)
  pub held : AreHeld t.head (get records) pages

abbrev pub Shows : {S V O : Type 0} → Ghosts S → Stores V S → Tree V O → S → PageMap → Type 0
Shows s R t space pages = In s (file_in R) (ShowsIn R) t space pages

-- the id of a leaf that was given, and of a node
abbrev pub IsLeafId : TreeHead → ℕ → Type 0
IsLeafId h id = (1 ≤ id) × (id ≤ h.leaf_ids)

abbrev pub IsNodeId : TreeHead → ℕ → Type 0
IsNodeId h id = (node_offset < id) × (id ≤ node_offset + h.node_ids)

-- each page that comes has an id that wasn't given before
abbrev pub ComesAnew : TreeHead → PageMap → PageMap → Type 0
ComesAnew h old new = (id : ℕ) → IsGiven h id → old id ≡ None → new id ≡ None

-- each id that was given since has a page
abbrev pub FillsIds : TreeHead → TreeHead → PageMap → Type 0
FillsIds h k pages = (id : ℕ) → IsGiven k id → (IsGiven h id → ⊥) → pages id ≡ None → ⊥

-- no page goes
abbrev pub ComesFrom : PageMap → PageMap → Type 0
ComesFrom old new = (id : ℕ) → new id ≡ None → old id ≡ None

-- no page comes
abbrev pub ComesNone : PageMap → PageMap → Type 0
ComesNone old new = (id : ℕ) → old id ≡ None → new id ≡ None

-- the tree's numbers and way stay, and its store's file, type and region; what is kept stays
pub record StaysStill {S V O : Type 0} (s : Ghosts S) (R : Stores V S) (t u : Tree V O) (old new : S) : Type 0 where
  pub keeps : Keeps s old new
  pub made : SameStore R t.store u.store
  pub head : u.head ≡ t.head
  pub height : u.height ≡ t.height
  pub column : u.column ≡ t.column
  pub path : u.path ≡ t.path

-- besides, nothing is written
pub record Peeks {S V O : Type 0} (s : Ghosts S) (R : Stores V S) (t u : Tree V O) (old new : S) : Type 0 where
  pub looks : Looks s R t.cache u.cache t.store u.store old new
  pub still : StaysStill s R t u old new

-- what was meant becomes what stands in this relation to it, in its own files
pub record Turns {S V M : Type 0} (s : Ghosts S) (own : ℕ → Type 0) (Before After : V → S → M → Type 0) (Rel : M → M → Type 0) (v v' : V) (old new : S) : Type 0 where
  pub sound : s.sound new
  pub means : (m : M) → Before v old m → (n : M) × After v' new n × Rel m n
  pub others : Others s own old new

module _ {S V O : Type 0} (s : Ghosts S) (R : Stores V S) where
  -- pages may be asked for
  abbrev pub IsShown : Tree V O → S → Type 0
  IsShown t space = IsReady s (Shows s R) t space

  -- where files are told, such a leaf or node is there
  abbrev pub HasLeafAt : ℕ → Tree V O → S → Type 0
  HasLeafAt id t space = s.tells → (pages : PageMap) × (l : Leaf) × Shows s R t space pages × (pages id ≡ Some (leaf_page l))

  abbrev pub HasNodeAt : ℕ → Tree V O → S → Type 0
  HasNodeAt id t space = s.tells → (pages : PageMap) × (n : Node) × Shows s R t space pages × (pages id ≡ Some (node_page n))

  -- where a page of this sort stands under an id, it is this one
  abbrev pub IsPageOf : {X : Type 0} → (X → Page) → ℕ → Tree V O → S → X → Type 0
  IsPageOf {X} page id t space x = (pages : PageMap) (y : X) → Shows s R t space pages → pages id ≡ Some (page y) → x ≡ y

  -- the pages became others
  abbrev pub Rewrites : (PageMap → PageMap) → Tree V O → Tree V O → S → S → Type 0
  Rewrites f t u old new = Writes s (Only (file_in R t)) (Shows s R) f t u old new

  -- a page was written
  abbrev pub PutsAt : ℕ → Page → Tree V O → Tree V O → S → S → Type 0
  PutsAt id page t u old new = Rewrites (put_at id page) t u old new

  -- the space may not be used any more, or nothing has changed
  abbrev pub RefusesPages : {T E : Type 0} → Result T E → Tree V O → Tree V O → S → S → Type 0
  RefusesPages result t u old new = RefusesBeside s R result t.cache u.cache t.store u.store old new

-- ---- the numbers in the file

module _ {S V O : Type 0} (s : Ghosts S) (R : Stores V S) where
  -- in its file the store has the map that was held with the pages in memory, and its region tells the tree's numbers
  pub record BringsNumbers (t : Tree V O) (old new : S) : Type 0 where
    pub store : V
    pub region : List ℕ
    pub numbers : head_of region ≡ t.head
    pub holds : (m : Map) → Beside s R (t.cache.pages, t.store) old m → R.holds store (s.now new (file_in R t)) m
    pub stands : (m : Map) → Beside s R (t.cache.pages, t.store) old m → R.stands (R.sort t.store) (R.numbers t.store) (s.now new (file_in R t)) m region

  -- besides, all of the file is where it is kept
  abbrev pub TellsNumbers : Tree V O → S → S → Type 0
  TellsNumbers t old new = s.brought new × BringsNumbers t old new

  -- so it is, or the undo log is full
  abbrev pub TellsFull : Tree V O → S → S → Type 0
  TellsFull t old new = TellsNumbers t old new ⊎ (s.tells → s.log_full new)

  -- over the same bytes
  pub brings_over : (t : Tree V O) (old mid new : S) → (s.tells → s.now new (file_in R t) ≡ s.now mid (file_in R t)) → BringsNumbers t old mid → BringsNumbers t old new
  brings_over t old mid new same b = record {
    store = b.store;
    region = b.region;
    numbers = b.numbers;
    holds = λ m h. subst (λ (bytes : List ℕ). R.holds b.store bytes m) (sym (same h.0.0)) (b.holds m h);
    stands = λ m h. subst (λ (bytes : List ℕ). R.stands (R.sort t.store) (R.numbers t.store) bytes m b.region) (sym (same h.0.0)) (b.stands m h);
  }

  -- in a space that was given up since
  pub tells_given : (t : Tree V O) (old mid new : S) → GivenUp s mid new → TellsNumbers t old mid → TellsNumbers t old new
  tells_given t old mid new given tells = (given.brought tells.0, brings_over t old mid new (λ told. given.files told (file_in R t)) tells.1)

-- ---- when the store has no room for a page

abbrev pub page_bytes : Page → List ℕ
page_bytes (leaf_page l) = leaf_bytes l
page_bytes (node_page n) = node_bytes n

-- a record of the map is `column`, with the bytes of the tree, or the page of an id that is one of these
pub record IsFinePage (Fine : ℕ → Page → Type 0) (key bytes : List ℕ) : Type 0 where
  pub id : ℕ
  pub page : Page
  pub key_is : key ≡ key_of id
  pub is : IsPage id bytes page
  pub fine : Fine id page

abbrev pub HoldsOnly : Option (List ℕ) → (ℕ → Page → Type 0) → Map → Type 0
HoldsOnly column Fine m = (key bytes : List ℕ) → get m key ≡ Some bytes → ((key ≡ column_key) × (column ≡ Some bytes)) ⊎ IsFinePage Fine key bytes

-- an id has a page
abbrev pub Stood : PageMap → ℕ → Type 0
Stood pages id = pages id ≡ None → ⊥

-- it is one of the next ids, so many of leaves and of nodes
abbrev pub IsNext : TreeHead → ℕ → ℕ → ℕ → Type 0
IsNext h leaves nodes id = ((h.leaf_ids < id) × (id ≤ h.leaf_ids + leaves)) ⊎ ((node_offset + h.node_ids < id) × (id ≤ node_offset + (h.node_ids + nodes)))

-- or has a page
abbrev pub IsOwn : TreeHead → ℕ → ℕ → PageMap → ℕ → Type 0
IsOwn h leaves nodes pages id = Stood pages id ⊎ IsNext h leaves nodes id

-- a page that stood, or that may be asked for
abbrev pub OldOr : PageMap → (ℕ → Type 0) → (Page → Type 0) → ℕ → Page → Type 0
OldOr old Own Fine id p = (old id ≡ Some p) ⊎ (Own id × Fine p)

-- the store, as it was at some moment since, had no room for a record that is such a page, of the sort of its id, which is one of these, as the space stands; of what is seen at first, whatever it is, the store held then its pages, such pages under such ids, and `column`, and nothing else
pub record LacksPage {S V O : Type 0} (s : Ghosts S) (R : Stores V S) (W : Type 0) (Own : W → ℕ → Type 0) (At : W → PageMap) (Fine : W → Page → Type 0) (t : Tree V O) (old new : S) : Type 0 where
  pub store : V
  pub moment : S
  pub id : ℕ
  pub page : Page
  pub made : SameStore R t.store store
  pub since : Keeps s old moment
  pub until : Keeps s moment new
  pub held : (w : W) → (m : Map) × Holds s R store moment m × HoldsOnly t.column (OldOr (At w) (Own w) (Fine w)) m
  pub own : (w : W) → Own w id
  pub fine : (w : W) → Fine w page
  pub spelled : IsPage id (page_bytes page) page
  pub by : LacksKey s R id (page_bytes page) store moment new

-- pages that are seen
abbrev pub Seen : (PageMap → Type 0) → Type 0
Seen Shown = (pages : PageMap) × Shown pages

-- so it is, of the pages that are seen at first
abbrev pub LacksSeen : {S V O : Type 0} → Ghosts S → Stores V S → (PageMap → Type 0) → (PageMap → ℕ → Type 0) → (PageMap → Page → Type 0) → Tree V O → S → S → Type 0
LacksSeen s R Shown Own Fine t old new = LacksPage s R (Seen Shown) (λ w i. Own w.0 i) (λ w. w.0) (λ w p. Fine w.0 p) t old new

-- of this page under this id
abbrev pub LacksThis : {S V O : Type 0} → Ghosts S → Stores V S → ℕ → Page → Tree V O → S → S → Type 0
LacksThis s R id page t old new = LacksSeen s R (Shows s R t old) (λ pages i. i ≡ id) (λ pages p. p ≡ page) t old new

-- so it is in a space that was given up since
module _ {S V O : Type 0} (s : Ghosts S) (R : Stores V S) (still : (v : V) (a b c : S) (key value : List ℕ) → GivenUp s b c → R.lacks v a b key value → R.lacks v a c key value) where
  pub lacks_given : (W : Type 0) (Own : W → ℕ → Type 0) (At : W → PageMap) (Fine : W → Page → Type 0) (t : Tree V O) (old mid new : S) → GivenUp s mid new → LacksPage s R W Own At Fine t old mid → LacksPage s R W Own At Fine t old new
  lacks_given W Own At Fine t old mid new given l = record {
    store = l.store;
    moment = l.moment;
    id = l.id;
    page = l.page;
    made = l.made;
    since = l.since;
    until = keeps_then s l.moment mid new l.until given.keeps;
    held = l.held;
    own = l.own;
    fine = l.fine;
    spelled = l.spelled;
    by = record {
      free = l.by.free;
      by = λ m h. ⊎_elim (λ log. inl (given.log log)) (λ lacks. inr (still l.store l.moment mid new _ _ given lacks)) (l.by.by m h);
    };
  }

-- it has no room for such a page, or the undo log is full
abbrev pub LacksRoom : {S V O : Type 0} → Ghosts S → Stores V S → (W : Type 0) → (W → ℕ → Type 0) → (W → PageMap) → (W → Page → Type 0) → Tree V O → S → S → Type 0
LacksRoom s R W Own At Fine t old new = LacksPage s R W Own At Fine t old new ⊎ (s.tells → s.log_full new)

-- so it is in a space that was given up since
pub room_given : {S V O : Type 0} (s : Ghosts S) (R : Stores V S) (still : (v : V) (a b c : S) (key value : List ℕ) → GivenUp s b c → R.lacks v a b key value → R.lacks v a c key value)
    → (W : Type 0) (Own : W → ℕ → Type 0) (At : W → PageMap) (Fine : W → Page → Type 0) (t : Tree V O) (old mid new : S) → GivenUp s mid new → LacksRoom s R W Own At Fine t old mid → LacksRoom s R W Own At Fine t old new
room_given s R still W Own At Fine t old mid new given room = ⊎_elim (λ l. inl (lacks_given s R still W Own At Fine t old mid new given l)) (λ log. inr (λ told. given.log (log told))) room
