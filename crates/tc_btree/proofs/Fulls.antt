-- When a call on a tree is refused for want of room, a limit is reached between the list before and the one after.
use Rattle.std.proofs.Common.{◌≡◌, ℕ, List, Bool, false, None, Option, ap, subst, sym, ◌∙◌, inl, inr, ⊎_elim, refl}
use Rattle.std.specs.FinMap.{get}
use Rattle.std.specs.declared.cmp.Ordering.{Ordering}
use Rattle.tc_base.specs.Lists.{first}
use Rattle.tc_base.specs.declared.kind.Mode.{Mode}
use Rattle.tc_base.specs.declared.kind.Mode.TheVariants.{Keep}
use Rattle.tc_base.specs.declared.order.Order.{Ghosts as Orders}
use Rattle.tc_base.specs.declared.seq.Pair.{Pair}
use Rattle.tc_space.specs.Frames.{In, keeps_refl}
use Rattle.tc_space.specs.Changes.{first_in, put_first}
use Rattle.tc_space.specs.Lists.{FullFrom, FullPutFrom}
use Rattle.tc_space.specs.Stores.{FullClear}
use Rattle.tc_space.specs.declared.records.Records.{Ghosts as Stores}
use Rattle.tc_space.specs.declared.space.Space.{Ghosts}
use Rattle.bt_cache.specs.Effects.{same_store_refl}
use Rattle.bt_rows.specs.Orders.{before_by}
use Rattle.bt_rows.specs.Pages.{Map as Bytes, PageMap}
use Rattle.bt_rows.specs.declared.head.TreeHead.{TreeHead}
use Rattle.bt_rows.specs.declared.page.Page.{Page}
use Rattle.bt_ways.specs.Changes.{inserted, removed}
use Rattle.bt_tree.specs.Clearing.{LacksBare, LacksCleared}
use Rattle.bt_tree.specs.Inserting.{IsFull, IsMorePage, IsPutPage, IsWritten, RunsOut}
use Rattle.bt_tree.specs.Meaning.{Means, Meant}
use Rattle.bt_tree.specs.Paging.{IsOwn, Stood}
use Rattle.bt_tree.specs.Removing.{IsLeftPage, IsRefusedRoom}
use Rattle.bt_tree.specs.Trees.{HoldsPairs, IsTree}
use Rattle.bt_tree.proofs.Droppings.{room_after}
use Rattle.bt_tree.proofs.Pagings.{ComesOf}
use Rattle.bt_tree.proofs.Tellings.{tells_looked}
use Rattle.tc_btree.specs.Filling.{IsListPage, fills_list}
use Rattle.tc_btree.specs.Meaning.{file_list, holds_list}
use Rattle.tc_btree.specs.Putting.{Looked}
use Rattle.tc_btree.specs.declared.btree.Btree.{Btree}

-- ---- the same pages under numbers that stayed

record SameTree (cmp : List ℕ → List ℕ → Ordering) {h h' : TreeHead} {n n' : ℕ} {m m' : Bytes} (x : IsTree (before_by cmp) h n m) (y : IsTree (before_by cmp) h' n' m') : Type 0 where
  pages : y.pages ≡ x.pages
  out : (last : Bool) (key value : List ℕ) → RunsOut cmp last key value y → RunsOut cmp last key value x
  more : (last : Bool) (key value : List ℕ) (p : Page) → IsMorePage cmp last key value y p → IsMorePage cmp last key value x p

record Carried (cmp : List ℕ → List ℕ → Ordering) {h : TreeHead} {n : ℕ} {c : Option (List ℕ)} {m : Bytes} {ps : List Pair} (is : HoldsPairs (before_by cmp) h n c m ps) (h' : TreeHead) (n' : ℕ) (c' : Option (List ℕ)) : Type 0 where
  there : HoldsPairs (before_by cmp) h' n' c' m ps
  same : SameTree cmp is.tree there.tree

carry : (cmp : List ℕ → List ℕ → Ordering) (h h' : TreeHead) (n n' : ℕ) (c c' : Option (List ℕ)) (m : Bytes) (ps : List Pair) → h ≡ h' → n ≡ n' → c ≡ c' → (is : HoldsPairs (before_by cmp) h n c m ps) → Carried cmp is h' n' c'
carry cmp h h' n n' c c' m ps eh en ec is =
    subst (λ (x : TreeHead). Carried cmp is x n' c') eh
    (subst (λ (x : ℕ). Carried cmp is h x c') en
    (subst (λ (x : Option (List ℕ)). Carried cmp is h n x) ec
    (record { there = is; same = record { pages = refl; out = λ last key value out. out; more = λ last key value p more. more } })))

module _ {S V O : Type 0} (s : Ghosts S) (R : Stores V S) (o : Orders O) where
  abbrev InList : Btree V O → S → List Pair → Type 0
  InList = In s (file_list R) (holds_list R o)

  record Again (b c : Btree V O) (old mid : S) (ps : List Pair) (h : Means s R o b.tree old ps) : Type 0 where
    now : Means s R o c.tree mid ps
    same : SameTree o.cmp h.1.is.tree now.1.is.tree

  -- what is meant after the tree was looked at is the same tree
  again : (b c : Btree V O) (old mid : S) → Looked s R o b c old mid → (ps : List Pair) (h : Means s R o b.tree old ps) → Again b c old mid ps h
  again b c old mid looked ps h =
      let beside = looked.looks.reads.means h.1.records ((h.0, h.1.store), h.1.same) in
      let is = carry o.cmp b.tree.head c.tree.head b.tree.height c.tree.height b.tree.column c.tree.column (get h.1.records) ps (sym looked.stays.head) (sym looked.stays.height) (sym looked.stays.column) h.1.is in
      record {
        now = (h.0, record { records = h.1.records; store = beside.0.1; same = beside.1; order = ap (λ (x : TreeHead). x.order) looked.stays.head ∙ h.1.order; is = is.there });
        same = is.same;
      }

  insert_fills : (last : Bool) (key value : List ℕ) (b c : Btree V O) (old mid new : S) (ps qs : List Pair) → Looked s R o b c old mid → inserted o.cmp last key value ps ≡ qs → Means s R o b.tree old ps
      → IsFull s R o last key value c.tree mid new → fills_list s R o b old new ps qs
  insert_fills last key value b c old mid new ps qs looked makes means full = ⊎_elim
      (λ used. let a = again b c old mid looked ps means in inl (record {
        means = means;
        last = last;
        key = key;
        value = value;
        makes = makes;
        tells = tells_looked s R b.tree c.tree old mid new looked.looks looked.stays.head used.0;
        used = a.same.out last key value (used.1 ps a.now);
      }))
      (λ lacks. inr (
        means,
        room_after s R (Meant s R o c.tree mid) (Means s R o b.tree old ps) (λ w i. IsOwn c.tree.head 2 c.tree.height w.1.1.is.tree.pages i) (λ h i. IsOwn b.tree.head 2 b.tree.height h.1.is.tree.pages i) (λ w. w.1.1.is.tree.pages) (λ h. h.1.is.tree.pages) (IsWritten s R o last key value c.tree mid) (IsListPage s R o b.tree old ps qs)
            b.tree c.tree old mid new looked.looks.keeps looked.looks.made looked.stays.column (λ h. listed h) lacks,
      ))
      full
    where
      listed : (h : Means s R o b.tree old ps) → ComesOf (Meant s R o c.tree mid) (λ w i. IsOwn c.tree.head 2 c.tree.height w.1.1.is.tree.pages i) (λ w. w.1.1.is.tree.pages) (IsWritten s R o last key value c.tree mid) (IsOwn b.tree.head 2 b.tree.height h.1.is.tree.pages) h.1.is.tree.pages (IsListPage s R o b.tree old ps qs h)
      listed h =
          let a = again b c old mid looked ps h in
          record {
            seen = (ps, a.now);
            own = λ i own. subst (λ (n : ℕ). IsOwn b.tree.head 2 n h.1.is.tree.pages i) looked.stays.height
                (subst (λ (x : TreeHead). IsOwn x 2 c.tree.height h.1.is.tree.pages i) looked.stays.head
                (subst (λ (pages : PageMap). IsOwn c.tree.head 2 c.tree.height pages i) a.same.pages own));
            was = λ id p is. inl (sym (ap (λ (pages : PageMap). pages id) a.same.pages) ∙ is);
            fine = λ p k. (
              subst (λ (x : TreeHead). IsPutPage o.cmp x h.1.is.tree.pages ps qs p) looked.stays.head
                  (subst (λ (pages : PageMap). IsPutPage o.cmp c.tree.head pages ps qs p) a.same.pages
                  (subst (λ (rs : List Pair). IsPutPage o.cmp c.tree.head a.now.1.is.tree.pages ps rs p) makes k.0)),
              inr (record { last = last; key = key; value = value; makes = makes; more = a.same.more last key value p k.1 }),
            );
          }

  -- an insertion into the tree as it was looked at, which makes of the pairs held what this does
  pub insert_full : (last : Bool) (key value : List ℕ) (f : List Pair → List Pair) (b c : Btree V O) (old mid new : S) → Looked s R o b c old mid
      → ((ps : List Pair) → Means s R o b.tree old ps → inserted o.cmp last key value ps ≡ f ps) → IsFull s R o last key value c.tree mid new → FullFrom InList (fills_list s R o) f b old new
  insert_full last key value f b c old mid new looked are full = record { by = λ ps h. insert_fills last key value b c old mid new ps (f ps) looked (are ps h) h full }

  -- so it is of a put, where with Keep the key isn't held
  pub put_full : (mode : Mode) (key value given : List ℕ) (b c : Btree V O) (old mid new : S) → Looked s R o b c old mid
      → ((ps : List Pair) → Means s R o b.tree old ps → inserted o.cmp false key given ps ≡ put_first o.cmp mode key value ps) → (mode ≡ Keep → (ps : List Pair) → Means s R o b.tree old ps → first ps key ≡ None) → IsFull s R o false key given c.tree mid new
      → FullPutFrom InList (fills_list s R o) mode (first_in key) (put_first o.cmp mode key value) b old new
  put_full mode key value given b c old mid new looked are absent full = record {
    free = λ keep ps h. absent keep ps h;
    by = (insert_full false key given (put_first o.cmp mode key value) b c old mid new looked are full).by;
  }

  pub remove_full : (all : Bool) (key : List ℕ) (b : Btree V O) (old new : S) → IsRefusedRoom s R o all key b.tree old new → FullFrom InList (fills_list s R o) (removed o.cmp all key) b old new
  remove_full all key b old new full = record {
    by = λ ps h. inr (
      h,
      room_after s R (Meant s R o b.tree old) (Means s R o b.tree old ps) (λ w i. Stood w.1.1.is.tree.pages i) (λ k i. IsOwn b.tree.head 2 b.tree.height k.1.is.tree.pages i) (λ w. w.1.1.is.tree.pages) (λ k. k.1.is.tree.pages) (IsLeftPage s R o all key b.tree old) (IsListPage s R o b.tree old ps (removed o.cmp all key ps)) b.tree b.tree old old new
          (keeps_refl s old) (same_store_refl R b.tree.store) refl
          (λ k. record { seen = (ps, k); own = λ i stood. inl stood; was = λ id p is. inl is; fine = λ p left. (left.0, inl (record { all = all; key = key; makes = refl; held = left.2; less = left.1 })) })
          full,
    );
  }

  -- an emptying had no room for what an empty list has
  pub clear_full : (b : Btree V O) (old new : S) → LacksCleared s R b.tree old new → FullClear s (λ x. LacksBare s R x.tree) b old new
  clear_full b old new full = λ told. ⊎_elim (λ bare. inr bare) (λ log. inl (log told)) full
