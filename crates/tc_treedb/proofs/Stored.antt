-- What puts and outs make of a tree.
use Rattle.std.proofs.Common.{◌≡◌, ◌∙◌, inl, inr, ⊎_elim, ℕ, ◌<◌, ◌≤◌, Bool, true, false, cond, List, [], ◌++◌, ◌+◌, length, length-append, refl, sym, ap, subst, arith}
use Rattle.std.specs.Prelude.{Option, Some, None, Result, Ok, Err, IfSome, IsTrue, ◌↔◌, ◌⊎◌, is_some, nat_le, not, option_map, unwrap_or}
use Rattle.std.specs.Result.{IsErrAnd}
use Rattle.std.proofs.lemmas.Result.{err_from_is_err_and}
use Rattle.std.specs.declared.cmp.Ordering.{Ordering}
use Rattle.std.proofs.lemmas.Bool.Decides.{nat_tests}
use Rattle.tc_base.specs.Lists.{first, with_first, with_last}
use Rattle.tc_base.specs.declared.kind.Mode.TheVariants.{Over, Keep, Cat}
use Rattle.tc_base.specs.declared.order.Order.{Ghosts as Orders}
use Rattle.tc_base.specs.declared.seq.Pair.{Pair}
use Rattle.tc_space.specs.Changes.{has_pair}
use Rattle.tc_space.specs.Frames.{Keeps, Refuses, keeps_refl, keeps_then, reads_refl, reads_then, refuses_then}
use Rattle.tc_space.specs.Stores.{Only, TakesOut}
use Rattle.tc_space.specs.declared.records.Records.{Ghosts as Stores}
use Rattle.tc_space.specs.declared.space.Space.{Ghosts}
use Rattle.bt_cache.specs.Effects.{same_store_refl, same_store_then}
use Rattle.bt_rows.specs.Pages.{IsGiven, PageMap}
use Rattle.bt_rows.specs.declared.head.TreeHead.{TreeHead}
use Rattle.bt_ways.specs.Changes.{inserted, removed}
use Rattle.bt_tree.proofs.Inserts.{means_shown}
use Rattle.bt_tree.specs.Inserting.{Gains, IsFull, StaysMade, WritesPages}
use Rattle.bt_tree.specs.Meaning.{Changes, Means, RefusesPairs, file_in}
use Rattle.bt_tree.specs.Paging.{FillsIds}
use Rattle.bt_tree.specs.Removing.{AddsNone, IsRefusedRoom}
use Rattle.bt_tree.specs.Visits.{StaysTree}
use Rattle.bt_tree.specs.declared.tree.Tree.{Tree}
use Rattle.tc_btree.specs.declared.btree.Btree.{Btree}
use Rattle.tc_btree.proofs.Fulls.{insert_full, remove_full}
use Rattle.tc_btree.proofs.Looking.{looked_refl}
use Rattle.tc_model.specs.Values.{allowed}
use Rattle.tc_treedb.specs.Between.{IsBetween}
use Rattle.tc_treedb.specs.Changing.{AreLengths, FillsAlong, FillsOn, FillsPairs, StaysGrown, StaysLess, Step, Takes, put_in, pushed_in, stored_in, taken_in}
use Rattle.tc_treedb.specs.Reading.{LooksAt}
use Rattle.tc_treedb.specs.declared.storing.Change.{Change}

-- ---- values that may be stored

nat_test : (a b : ℕ) → (a ≤ b) → nat_le a b ≡ true
nat_test a b le = grind (arith, nat_tests)

nat_fails : (a b : ℕ) → (b < a) → nat_le a b ≡ false
nat_fails a b lt = grind (arith, nat_tests)

pub allowed_short : (value : List ℕ) → length value ≤ 16777216 → allowed value ≡ Some value
allowed_short value le = ap (λ (b : Bool). cond b (Some value) None) (nat_test (length value) 16777216 le)

pub allowed_none : (value : List ℕ) → 16777216 < length value → allowed value ≡ None
allowed_none value lt = ap (λ (b : Bool). cond b (Some value) None) (nat_fails (length value) 16777216 lt)

held_told : (o : Option ℕ) (v : Option (List ℕ)) → o ≡ option_map length v → is_some v ≡ is_some o
held_told o None is = ap is_some (sym is)
held_told o (Some x) is = ap is_some (sym is)

module _ (cmp : List ℕ → List ℕ → Ordering) where
  pub put_short : (key value : List ℕ) (ps : List Pair) → length value ≤ 16777216 → put_in cmp key value ps ≡ Some (with_first cmp ps key value)
  put_short key value ps le = ap (option_map (λ v. with_first cmp ps key v)) (allowed_short value le)

  pub put_long : (key value : List ℕ) (ps : List Pair) → 16777216 < length value → put_in cmp key value ps ≡ None
  put_long key value ps lt = ap (option_map (λ v. with_first cmp ps key v)) (allowed_none value lt)

  pub pushed_short : (key value : List ℕ) (ps : List Pair) → length value ≤ 16777216 → pushed_in cmp key value ps ≡ Some (with_last cmp ps key value)
  pushed_short key value ps le = ap (option_map (λ v. with_last cmp ps key v)) (allowed_short value le)

  pub pushed_long : (key value : List ℕ) (ps : List Pair) → 16777216 < length value → pushed_in cmp key value ps ≡ None
  pushed_long key value ps lt = ap (option_map (λ v. with_last cmp ps key v)) (allowed_none value lt)

  -- a key that is held isn't given a value by Keep, another is
  pub kept_held : (key value : List ℕ) (ps : List Pair) (old : Option ℕ) → old ≡ option_map length (first ps key) → is_some old ≡ true → stored_in cmp Keep key value ps ≡ None
  kept_held key value ps old is some = ap (λ (b : Bool). cond b None (put_in cmp key value ps)) (held_told old (first ps key) is ∙ some)

  pub kept_free : (key value : List ℕ) (ps : List Pair) (old : Option ℕ) → old ≡ option_map length (first ps key) → is_some old ≡ false → put_in cmp key value ps ≡ stored_in cmp Keep key value ps
  kept_free key value ps old is none = sym (ap (λ (b : Bool). cond b None (put_in cmp key value ps)) (held_told old (first ps key) is ∙ none))

  pub joined_is : (key more all : List ℕ) (ps : List Pair) (found : Option (List ℕ)) → found ≡ first ps key → all ≡ unwrap_or found [] ++ more → put_in cmp key all ps ≡ stored_in cmp Cat key more ps
  joined_is key more all ps found is are = ap (λ (v : List ℕ). put_in cmp key v ps) (are ∙ ap (λ (o : Option (List ℕ)). unwrap_or o [] ++ more) is)

  pub joined_long : (key more : List ℕ) (ps : List Pair) (found : Option (List ℕ)) → found ≡ first ps key → 16777216 < length (unwrap_or found [] ++ more) → stored_in cmp Cat key more ps ≡ None
  joined_long key more ps found is long = ap (λ (o : Option (List ℕ)). put_in cmp key (unwrap_or o [] ++ more) ps) (sym is) ∙ put_long key (unwrap_or found [] ++ more) ps long

  pub taken_held : (key : List ℕ) (ps : List Pair) (len : Option ℕ) → len ≡ option_map length (first ps key) → is_some len ≡ true → taken_in cmp key ps ≡ Some (removed cmp false key ps)
  taken_held key ps len is some = ap (λ (b : Bool). cond b (Some (removed cmp false key ps)) None) (held_told len (first ps key) is ∙ some)

  pub taken_none : (key : List ℕ) (ps : List Pair) (len : Option ℕ) → len ≡ option_map length (first ps key) → is_some len ≡ false → taken_in cmp key ps ≡ None
  taken_none key ps len is none = ap (λ (b : Bool). cond b (Some (removed cmp false key ps)) None) (held_told len (first ps key) is ∙ none)

pub none_is : (len : Option ℕ) (b : Bool) → is_some len ≡ not b → b ≡ true → is_some len ≡ false
none_is len b is e = is ∙ ap not e

pub some_is : (len : Option ℕ) (b : Bool) → is_some len ≡ not b → b ≡ false → is_some len ≡ true
some_is len b is e = is ∙ ap not e

pub none_at : (len : Option ℕ) (b : Bool) → is_some len ≡ not b → b ≡ true → None ≡ len
none_at None b is e = refl
none_at (Some n) b is e = absurd (let bad : true ≡ false = is ∙ ap not e in cc)

pub has_it : (key : List ℕ) (ps : List Pair) (len : Option ℕ) → len ≡ option_map length (first ps key) → is_some len ≡ true → has_pair key ps ≡ true
has_it key ps len is some = held_told len (first ps key) is ∙ some

pub lengths_over : (key value : List ℕ) (ps : List Pair) (l : Change) (old : Option ℕ) → old ≡ option_map length (first ps key) → (l.old ≡ old) × (l.len ≡ length value) → AreLengths Over key value l ps
lengths_over key value ps l old is told = (told.0 ∙ is, told.1)

pub lengths_kept : (key value : List ℕ) (ps : List Pair) (l : Change) (old : Option ℕ) → old ≡ option_map length (first ps key) → (l.old ≡ old) × (l.len ≡ length value) → AreLengths Keep key value l ps
lengths_kept key value ps l old is told = (told.0 ∙ is, told.1)

pub lengths_joined : (key more all : List ℕ) (ps : List Pair) (l : Change) (old : Option ℕ) (found : Option (List ℕ)) → found ≡ first ps key → old ≡ option_map length found → all ≡ unwrap_or found [] ++ more → (l.old ≡ old) × (l.len ≡ length all) → AreLengths Cat key more l ps
lengths_joined key more all ps l old found is old_is are told = (told.0 ∙ (old_is ∙ ap (option_map length) is), told.1 ∙ (ap length are ∙ ap (λ (o : Option (List ℕ)). length (unwrap_or o [] ++ more)) is))

-- the lengths that a put tells, of whatever is held
pub lengths_all : {A : Type 0} {B : A → Type 0} {P : Change → Type 0} {Q : A → Change → Type 0} (done : Option Change) → ((l : Change) → P l → (x : A) → B x → Q x l) → IfSome done P → IfSome done (λ l. (x : A) → B x → Q x l)
lengths_all None f told = tt
lengths_all (Some l) f told = f l told

pub lengths_given : {P Q : Change → Type 0} (done : Option Change) → ((l : Change) → P l → Q l) → IfSome done P → IfSome done Q
lengths_given None f told = tt
lengths_given (Some l) f told = f l told

-- bytes that have no room behind a value
pub no_room : (found : Option (List ℕ)) (more : List ℕ) (b : Bool) → IsTrue b ↔ (length (unwrap_or found []) + length more ≤ 16777216) → b ≡ false → 16777216 < length (unwrap_or found [] ++ more)
no_room found more b room none =
    let lacks : length (unwrap_or found []) + length more ≤ 16777216 → ⊥ = λ le. let yes : IsTrue b = room.1 le in let never = yes in absurd cc in
    let sum = length-append (unwrap_or found []) more in
    omega (arith, lacks, sum)

pub between_first : (ps qs : List Pair) → IsBetween ps ps qs
between_first ps qs key = inl refl

pub between_last : (ps qs : List Pair) → IsBetween ps qs qs
between_last ps qs key = inr (inl refl)

-- ---- ids

same_least : (a b : ℕ) → b ≡ a → a ≤ b
same_least a b is = omega (arith, is)

same_most : (a b more : ℕ) → b ≡ a → b ≤ a + more
same_most a b more is = omega (arith, is)

-- none is given since
given_none : (h k : TreeHead) (pages : PageMap) → k ≡ h → FillsIds h k pages
given_none h k pages same id now was none = was (subst (λ (x : TreeHead). IsGiven x id) same now)

module _ {V O : Type 0} where
  gains_none : (t u : Tree V O) → StaysTree t u → Gains 2 t.height 1 t u
  gains_none t u st =
      let leaves : u.head.leaf_ids ≡ t.head.leaf_ids = ap (λ (h : TreeHead). h.leaf_ids) st.head in
      let nodes : u.head.node_ids ≡ t.head.node_ids = ap (λ (h : TreeHead). h.node_ids) st.head in
      record {
        leaves_least = same_least t.head.leaf_ids u.head.leaf_ids leaves;
        leaves_most = same_most t.head.leaf_ids u.head.leaf_ids 2 leaves;
        nodes_least = same_least t.head.node_ids u.head.node_ids nodes;
        nodes_most = same_most t.head.node_ids u.head.node_ids t.height nodes;
        rows_least = same_least t.height u.height st.height;
        rows_most = same_most t.height u.height 1 st.height;
      }

  gains_behind : (t u v : Tree V O) → StaysTree t u → Gains 2 u.height 1 u v → Gains 2 t.height 1 t v
  gains_behind t u v st g =
      let leaves : u.head.leaf_ids ≡ t.head.leaf_ids = ap (λ (h : TreeHead). h.leaf_ids) st.head in
      let nodes : u.head.node_ids ≡ t.head.node_ids = ap (λ (h : TreeHead). h.node_ids) st.head in
      let high : u.height ≡ t.height = st.height in
      record {
        leaves_least = let least = g.leaves_least in omega (arith, least, leaves);
        leaves_most = let most = g.leaves_most in omega (arith, most, leaves);
        nodes_least = let least = g.nodes_least in omega (arith, least, nodes);
        nodes_most = let most = g.nodes_most in omega (arith, most, nodes, high);
        rows_least = let least = g.rows_least in omega (arith, least, high);
        rows_most = let most = g.rows_most in omega (arith, most, high);
      }

  none_same : (t u : Tree V O) → StaysTree t u → AddsNone t u
  none_same t u st = record { leaf_ids = ap (λ (h : TreeHead). h.leaf_ids) st.head; node_ids = ap (λ (h : TreeHead). h.node_ids) st.head; rows = let high : u.height ≡ t.height = st.height in omega (arith, high) }

  pub none_refl : (t : Tree V O) → AddsNone t t
  none_refl t = record { leaf_ids = refl; node_ids = refl; rows = omega arith }

  pub none_then : (t u v : Tree V O) → AddsNone t u → AddsNone u v → AddsNone t v
  none_then t u v first second = record {
    leaf_ids = second.leaf_ids ∙ first.leaf_ids;
    node_ids = second.node_ids ∙ first.node_ids;
    rows = let one = first.rows in let two = second.rows in omega (arith, one, two);
  }

module _ {S V O : Type 0} (s : Ghosts S) (R : Stores V S) (o : Orders O) where
  -- ---- what stays

  pub made_refl : (t : Tree V O) → StaysMade R t t
  made_refl t = record { made = same_store_refl R t.store; column = refl; order = refl; leaf_limit = refl; node_limit = refl }

  pub made_then : (t u v : Tree V O) → StaysMade R t u → StaysMade R u v → StaysMade R t v
  made_then t u v first second = record {
    made = same_store_then R t.store u.store v.store first.made second.made;
    column = second.column ∙ first.column;
    order = second.order ∙ first.order;
    leaf_limit = second.leaf_limit ∙ first.leaf_limit;
    node_limit = second.node_limit ∙ first.node_limit;
  }

  pub made_looked : (t u : Tree V O) (a b : S) → LooksAt s R o t u a b → StaysMade R t u
  made_looked t u a b l = record {
    made = l.made;
    column = l.stays.column;
    order = ap (λ (h : TreeHead). h.order) l.stays.head;
    leaf_limit = ap (λ (h : TreeHead). h.leaf_limit) l.stays.head;
    node_limit = ap (λ (h : TreeHead). h.node_limit) l.stays.head;
  }

  pub made_behind : (t u v : Tree V O) (a b : S) → LooksAt s R o t u a b → StaysMade R u v → StaysMade R t v
  made_behind t u v a b l second = made_then t u v (made_looked t u a b l) second

  -- an out behind a look, and a look alone
  pub less_behind : (t u v : Tree V O) (a b : S) → LooksAt s R o t u a b → StaysMade R u v → AddsNone u v → StaysLess R t v
  less_behind t u v a b l made ids = record { made = made_behind t u v a b l made; ids = none_then t u v (none_same t u l.stays) ids }

  pub less_looked : (t u : Tree V O) (a b : S) → LooksAt s R o t u a b → StaysLess R t u
  less_looked t u a b l = record { made = made_looked t u a b l; ids = none_same t u l.stays }

  -- a put that gives none, whatever it answers
  grown_still : {T E : Type 0} (r : Result T E) (t u : Tree V O) (a b : S) → StaysMade R t u → StaysTree t u → ((ps : List Pair) → Means s R o t a ps → Means s R o u b ps) → StaysGrown s R o r t u a b
  grown_still (Ok x) t u a b made st means = record {
    made = made;
    ids = record { most = gains_none t u st; kept = tt };
    pages = λ ps h. let now = means ps h in (now.1.is.tree.pages, means_shown s R o u b ps now, given_none t.head u.head now.1.is.tree.pages st.head);
  }
  grown_still (Err e) t u a b made st means = record { made = made; ids = record { most = gains_none t u st; kept = inr (st.head, st.height) }; pages = tt }

  pub grown_refl : {T E : Type 0} (r : Result T E) (t : Tree V O) (a : S) → StaysGrown s R o r t t a a
  grown_refl r t a = grown_still r t t a a (made_refl t) (record { head = refl; height = refl; column = refl }) (λ ps h. h)

  pub grown_looked : {T E : Type 0} (r : Result T E) (t u : Tree V O) (a b : S) → LooksAt s R o t u a b → StaysGrown s R o r t u a b
  grown_looked r t u a b l = grown_still r t u a b (made_looked t u a b l) l.stays l.reads.means

  -- a put that is done, and one that is refused
  pub grown_done : {T E : Type 0} (r : Result T E) (x : T) (f : List Pair → List Pair) (t u : Tree V O) (a b : S) → r ≡ Ok x → StaysMade R t u → Gains 2 t.height 1 t u → WritesPages s R o f t u a b → StaysGrown s R o r t u a b
  grown_done {T} {E} r x f t u a b is made most writes =
      subst (λ (q : Result T E). StaysGrown s R o q t u a b) (sym is) (record { made = made; ids = record { most = most; kept = tt }; pages = λ ps h. let w = writes ps h in (w.0, w.1, w.3) })

  pub grown_refused : {T E : Type 0} (r : Result T E) (w : E) (t u : Tree V O) (a b : S) → IsErrAnd r (λ e. e ≡ w) → StaysMade R t u → Gains 2 t.height 1 t u → (s.flag b ≡ false) ⊎ ((u.head ≡ t.head) × (u.height ≡ t.height)) → StaysGrown s R o r t u a b
  grown_refused {T} {E} r w t u a b is made most kept =
      let p = err_from_is_err_and r is in
      subst (λ (q : Result T E). StaysGrown s R o q t u a b) (sym p.1) (record { made = made; ids = record { most = most; kept = kept }; pages = tt })

  -- a put behind a look
  pub grown_behind : {T E : Type 0} (r : Result T E) (t u v : Tree V O) (a b c : S) → LooksAt s R o t u a b → StaysGrown s R o r u v b c → StaysGrown s R o r t v a c
  grown_behind (Ok x) t u v a b c l g = record {
    made = made_behind t u v a b l g.made;
    ids = record { most = gains_behind t u v l.stays g.ids.most; kept = tt };
    pages = λ ps h. let w = g.pages ps (l.reads.means ps h) in (w.0, w.1, subst (λ (x : TreeHead). FillsIds x v.head w.0) l.stays.head w.2);
  }
  grown_behind (Err e) t u v a b c l g = record {
    made = made_behind t u v a b l g.made;
    ids = record { most = gains_behind t u v l.stays g.ids.most; kept = ⊎_elim (λ spoiled. inl spoiled) (λ same. inr (same.0 ∙ l.stays.head, same.1 ∙ l.stays.height)) g.ids.kept };
    pages = tt;
  }

  -- ---- steps

  pub takes_none : (f : Step) (t : Tree V O) (a : S) → s.sound a → ((ps : List Pair) → Means s R o t a ps → f ps ≡ None) → Takes s R o f false t t a a
  takes_none f t a sound fails = record {
    sound = sound;
    others = record { same = λ told g other. refl };
    made = λ yes. absurd cc;
    fails = λ none. fails;
    same = λ none. reads_refl s (Means s R o) t a sound;
  }

  pub takes_some : (f : Step) (g : List Pair → List Pair) (t u : Tree V O) (a b : S) → ((ps : List Pair) → Means s R o t a ps → f ps ≡ Some (g ps)) → Changes s R o g t u a b → Takes s R o f true t u a b
  takes_some f g t u a b is writes = record {
    sound = writes.sound;
    others = writes.others;
    made = λ yes ps h. (g ps, is ps h, writes.means ps h);
    fails = λ none. absurd cc;
    same = λ none. absurd cc;
  }

  -- the tree was looked at before
  pub takes_behind : (f : Step) (done : Bool) (t u v : Tree V O) (a b c : S) → LooksAt s R o t u a b → Takes s R o f done u v b c → Takes s R o f done t v a c
  takes_behind f done t u v a b c l takes = record {
    sound = takes.sound;
    others = record { same = λ told g other. takes.others.same told g (λ is. other (is ∙ l.made.file)) ∙ l.reads.now told g };
    made = λ yes ps h. takes.made yes ps (l.reads.means ps h);
    fails = λ none ps h. takes.fails none ps (l.reads.means ps h);
    same = λ none. reads_then s (Means s R o) t u v a b c l.reads (takes.same none);
  }

  -- nothing was done behind it
  pub takes_looked : (f : Step) (t u : Tree V O) (a b : S) → LooksAt s R o t u a b → ((ps : List Pair) → Means s R o t a ps → f ps ≡ None) → Takes s R o f false t u a b
  takes_looked f t u a b l fails = record {
    sound = l.reads.sound;
    others = record { same = λ told g other. l.reads.now told g };
    made = λ yes. absurd cc;
    fails = λ none. fails;
    same = λ none. l.reads;
  }

  -- a step that makes the same of what is held
  pub takes_as : (f g : Step) (done : Bool) (t u : Tree V O) (a b : S) → ((ps : List Pair) → Means s R o t a ps → f ps ≡ g ps) → Takes s R o f done t u a b → Takes s R o g done t u a b
  takes_as f g done t u a b same takes = record {
    sound = takes.sound;
    others = takes.others;
    made = λ yes ps h. let m = takes.made yes ps h in (m.0, sym (same ps h) ∙ m.1, m.2);
    fails = λ none ps h. sym (same ps h) ∙ takes.fails none ps h;
    same = takes.same;
  }

  -- the first value of a key went, or all of them, behind a look that found some
  pub takes_removed : (all : Bool) (key : List ℕ) (taken : Bool) (t u v : Tree V O) (a b c : S) (f : Step) → LooksAt s R o t u a b → TakesOut s (Only (file_in R u)) (Means s R o) (has_pair key) (removed o.cmp all key) taken u v b c
      → ((ps : List Pair) → Means s R o t a ps → (has_pair key ps ≡ true) × (f ps ≡ Some (removed o.cmp all key ps))) → Takes s R o f true t v a c
  takes_removed all key true t u v a b c f l out is =
      let w = out.out refl in record {
        sound = w.sound;
        others = record { same = λ told g other. w.others.same told g (λ is. other (is ∙ l.made.file)) ∙ l.reads.now told g };
        made = λ yes ps h. (removed o.cmp all key ps, (is ps h).1, w.means ps (l.reads.means ps h));
        fails = λ none. absurd cc;
        same = λ none. absurd cc;
      }
  takes_removed all key false t u v a b c f l out is =
      let r = out.none refl in record {
        sound = r.sound;
        others = record { same = λ told g other. r.now told g ∙ l.reads.now told g };
        made = λ yes ps h. absurd (let bad : false ≡ true = out.held ps (l.reads.means ps h) ∙ (is ps h).0 in cc);
        fails = λ none. absurd cc;
        same = λ none. absurd cc;
      }

  -- ---- refusals

  pub refuses_behind : (t u v : Tree V O) (a b c : S) → LooksAt s R o t u a b → Refuses s (Means s R o) u v b c → Refuses s (Means s R o) t v a c
  refuses_behind t u v a b c l refused = refuses_then s (Means s R o) t u v a b c l.reads refused

  pub refused_behind : {T E : Type 0} (r : Result T E) (t u v : Tree V O) (a b c : S) → LooksAt s R o t u a b → RefusesPairs s R o r u v b c → RefusesPairs s R o r t v a c
  refused_behind (Ok x) t u v a b c l refused = tt
  refused_behind (Err e) t u v a b c l refused = refuses_behind t u v a b c l refused

  -- ---- limits

  abbrev as_list : Tree V O → Btree V O
  as_list t = record { alloc = t.alloc; tree = t }

  pub fills_insert : (last : Bool) (key value : List ℕ) (t : Tree V O) (a b : S) → s.sound a → IsFull s R o last key value t a b → (ps : List Pair) → Means s R o t a ps → FillsPairs s R o t a b ps (inserted o.cmp last key value ps)
  fills_insert last key value t a b sound full ps h = (insert_full s R o last key value (inserted o.cmp last key value) (as_list t) (as_list t) a a b (looked_refl s R o (as_list t) a sound) (λ qs k. refl) full).by ps h

  pub fills_remove : (all : Bool) (key : List ℕ) (t : Tree V O) (a b : S) → IsRefusedRoom s R o all key t a b → (ps : List Pair) → Means s R o t a ps → FillsPairs s R o t a b ps (removed o.cmp all key ps)
  fills_remove all key t a b full ps h = (remove_full s R o all key (as_list t) a b full).by ps h

  -- of the tree as it was
  pub fills_here : (f : List Pair → List Pair) (t : Tree V O) (a b : S) → Keeps s a b → ((ps : List Pair) → Means s R o t a ps → FillsPairs s R o t a b ps (f ps)) → FillsAlong s R o f t a b
  fills_here f t a b keeps fills ps h = record {
    tree = t;
    moment = a;
    made = made_refl t;
    since = keeps_refl s a;
    until = keeps;
    mid = ps;
    next = f ps;
    mid_between = between_first ps (f ps);
    on = between_last ps (f ps);
    fills = fills ps h;
  }

  -- of the tree as it was looked at
  pub fills_behind : (f : List Pair → List Pair) (t u : Tree V O) (a b c : S) → LooksAt s R o t u a b → FillsAlong s R o f u b c → FillsAlong s R o f t a c
  fills_behind f t u a b c l fills ps h =
      let w : FillsOn s R o f u b c ps = fills ps (l.reads.means ps h) in record {
        tree = w.tree;
        moment = w.moment;
        made = made_behind t u w.tree a b l w.made;
        since = keeps_then s a b w.moment l.keeps w.since;
        until = w.until;
        mid = w.mid;
        next = w.next;
        mid_between = w.mid_between;
        on = w.on;
        fills = w.fills;
      }

  -- on the way to what makes the same of what is held
  pub fills_as : (f g : List Pair → List Pair) (t : Tree V O) (a b : S) → ((ps : List Pair) → Means s R o t a ps → f ps ≡ g ps) → FillsAlong s R o f t a b → FillsAlong s R o g t a b
  fills_as f g t a b same fills ps h =
      let w : FillsOn s R o f t a b ps = fills ps h in record {
        tree = w.tree;
        moment = w.moment;
        made = w.made;
        since = w.since;
        until = w.until;
        mid = w.mid;
        next = w.next;
        mid_between = subst (λ (qs : List Pair). IsBetween ps w.mid qs) (same ps h) w.mid_between;
        on = subst (λ (qs : List Pair). IsBetween w.mid w.next qs) (same ps h) w.on;
        fills = w.fills;
      }
