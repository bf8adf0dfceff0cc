-- What calls on a tree make of the list that it is.
use Rattle.std.proofs.Common.{◌≡◌, ◌⊎◌, ℕ, List, [], ◌∷◌, Bool, false, Option, None, Ok, Err, ap, subst, ◌∙◌, refl, ⊎_elim, inl, inr}
use Rattle.std.specs.Prelude.{Result, IfOk, OnErr, OnOk, unwrap_or}
use Rattle.std.proofs.lemmas.Result.{on_err_weaker, on_ok_weaker}
use Rattle.tc_base.specs.Lists.{first, with_first}
use Rattle.tc_base.specs.declared.kind.Form.{Form}
use Rattle.tc_base.specs.declared.kind.Mode.{Mode}
use Rattle.tc_base.specs.declared.kind.Mode.TheVariants.{Keep}
use Rattle.tc_base.specs.declared.order.Order.{Ghosts as Orders}
use Rattle.tc_base.specs.declared.seq.Pair.{Pair}
use Rattle.tc_space.specs.Changes.{first_in, put_first}
use Rattle.tc_space.specs.Frames.{In, Reads, Refuses, Writes, reads_then}
use Rattle.tc_space.specs.Lists.{PacksList, StaysList, StaysPacked, made_in}
use Rattle.tc_space.specs.Stores.{KeepsTight, Only, PacksIn, Puts, TakesOut, TightIn, TrimsIn, in_form}
use Rattle.tc_space.specs.declared.records.Records.{Ghosts as Stores}
use Rattle.tc_space.specs.declared.space.Space.{Ghosts}
use Rattle.bt_cache.specs.Effects.{SameStore}
use Rattle.bt_ways.specs.Changes.{inserted}
use Rattle.bt_ways.specs.Items.{item_of}
use Rattle.bt_tree.specs.Inserting.{StaysMade}
use Rattle.bt_tree.specs.Meaning.{Means, file_in}
use Rattle.bt_tree.specs.Settling.{BringsPacked, BringsPairs, StaysFormed, StaysSettled, TightTree}
use Rattle.bt_tree.specs.Standing.{FileStands}
use Rattle.bt_tree.specs.Visits.{StaysTree}
use Rattle.bt_tree.specs.declared.tree.Tree.{Tree}
use Rattle.tc_btree.specs.Meaning.{ListStands, file_list, holds_list, item_values, made_of}
use Rattle.tc_btree.specs.Putting.{IsGiven}
use Rattle.tc_btree.specs.declared.btree.Btree.{Btree}

pub values_of_item : (key : List ℕ) (vs : List (List ℕ)) → item_values (item_of key vs) ≡ vs
values_of_item key [] = refl
values_of_item key (v ∷ vs) = refl

-- ---- what a list was made with

module _ {S V O : Type 0} (R : Stores V S) (b c : Btree V O) where
  pub list_stays : StaysMade R b.tree c.tree → StaysList (file_list R) (made_of R) (λ d. R.lead d.tree.store) b c
  list_stays m = record {
    file = m.made.file;
    made_same = λ i. record { sort = m.made.sort i; numbers = m.made.numbers i; code = m.order i; leaf = m.leaf_limit i; node = m.node_limit i; column = m.column i };
    leads = m.made.lead;
  }

  made_same : R.sort c.tree.store ≡ R.sort b.tree.store → R.numbers c.tree.store ≡ R.numbers b.tree.store → StaysTree b.tree c.tree → made_of R c ≡ made_of R b
  made_same sort numbers stays = λ i. record { sort = sort i; numbers = numbers i; code = (stays.head i).order; leaf = (stays.head i).leaf_limit; node = (stays.head i).node_limit; column = stays.column i }

  pub list_packed : SameStore R b.tree.store c.tree.store → StaysTree b.tree c.tree → KeepsTight R.tight b.tree.store c.tree.store → StaysPacked (file_list R) (made_of R) (λ d. R.lead d.tree.store) (λ d. R.tight d.tree.store) b c
  list_packed same stays tight = record { file = same.file; made_same = made_same same.sort same.numbers stays; leads = same.lead; stays_tight = tight }

  -- in the form of a packing
  made_formed : (form : Form) → R.sort c.tree.store ≡ R.sort b.tree.store → R.numbers c.tree.store ≡ in_form form (R.numbers b.tree.store) → StaysTree b.tree c.tree → made_of R c ≡ made_in form (made_of R b)
  made_formed form sort numbers stays = λ i. record { sort = sort i; numbers = numbers i; code = (stays.head i).order; leaf = (stays.head i).leaf_limit; node = (stays.head i).node_limit; column = stays.column i }

  pub list_formed : {T E : Type 0} (s : Ghosts S) (form : Form) (r : Result T E) (new : S) → StaysFormed s R form r b.tree c.tree new → PacksList s.flag (file_list R) (made_of R) (λ d. R.lead d.tree.store) form r b c new
  list_formed s form r new st = record {
    file = st.store.file;
    formed = on_ok_weaker r (λ (numbers : R.numbers c.tree.store ≡ in_form form (R.numbers b.tree.store)). made_formed form st.store.sort_same numbers st.stays) st.store.formed;
    leads = st.store.leads;
    left = on_err_weaker r (λ (was : (s.flag new ≡ false) ⊎ (R.numbers c.tree.store ≡ R.numbers b.tree.store)). ⊎_elim (λ spoiled. inl spoiled) (λ numbers. inr (made_same st.store.sort_same numbers st.stays)) was) st.store.left;
  }

  pub list_settled : StaysSettled R b.tree c.tree → StaysList (file_list R) (made_of R) (λ d. R.lead d.tree.store) b c
  list_settled st = record { file = st.file; made_same = made_same st.sort st.fixed st.stays; leads = st.lead }

pub list_stands : {S V O : Type 0} (R : Stores V S) (o : Orders O) (b : Btree V O) (bytes : List ℕ) (ps : List Pair) → FileStands R o (R.sort b.tree.store) (R.numbers b.tree.store) b.tree.head b.tree.height b.tree.column bytes ps → ListStands R o (made_of R b) bytes ps
list_stands R o b bytes ps file = record { head = b.tree.head; code_is = refl; leaf_is = refl; node_is = refl; height = b.tree.height; file = file }

-- ---- its pairs

module _ {S V O : Type 0} (s : Ghosts S) (R : Stores V S) (o : Orders O) where
  abbrev InTree : Tree V O → S → List Pair → Type 0
  InTree = Means s R o

  abbrev InList : Btree V O → S → List Pair → Type 0
  InList = In s (file_list R) (holds_list R o)

  pub list_reads : (b c : Btree V O) (old new : S) → Reads s InTree b.tree c.tree old new → Reads s InList b c old new
  list_reads b c old new r = record { now = r.now; touched = r.touched; sound = r.sound; means = λ ps h. r.means ps h }

  pub list_writes : (f : List Pair → List Pair) (b c : Btree V O) (old new : S) → Writes s (Only (file_in R b.tree)) InTree f b.tree c.tree old new → Writes s (Only (file_list R b)) InList f b c old new
  list_writes f b c old new w = record { sound = w.sound; means = λ ps h. w.means ps h; others = w.others }

  pub list_takes : (has : List Pair → Bool) (f : List Pair → List Pair) (taken : Bool) (b c : Btree V O) (old new : S) → TakesOut s (Only (file_in R b.tree)) InTree has f taken b.tree c.tree old new → TakesOut s (Only (file_list R b)) InList has f taken b c old new
  list_takes has f taken b c old new t = record { held = λ ps h. t.held ps h; out = λ e. list_writes f b c old new (t.out e); none = λ e. list_reads b c old new (t.none e) }

  pub list_refused : (b c : Btree V O) (old new : S) → Refuses s InTree b.tree c.tree old new → Refuses s InList b c old new
  list_refused b c old new refused = ⊎_elim (λ spoiled. inl spoiled) (λ reads. inr (list_reads b c old new reads)) refused

  -- a refusal after the tree was looked at
  pub list_refuses : (b c d : Btree V O) (old mid new : S) → Reads s InTree b.tree c.tree old mid → Refuses s InTree c.tree d.tree mid new → Refuses s InList b d old new
  list_refuses b c d old mid new looked refused = ⊎_elim (λ spoiled. inl spoiled) (λ reads. inr (list_reads b d old new (reads_then s InTree b.tree c.tree d.tree old mid new looked reads))) refused

  -- a put after the tree was looked at, which makes of the pairs held what this does
  pub list_puts : (mode : Mode) (key : List ℕ) (f g : List Pair → List Pair) (b c d : Btree V O) (old mid new : S) → R.file_of c.tree.store ≡ R.file_of b.tree.store → Reads s InTree b.tree c.tree old mid
      → Writes s (Only (file_in R c.tree)) InTree g c.tree d.tree mid new → ((ps : List Pair) → InTree b.tree old ps → g ps ≡ f ps) → (mode ≡ Keep → (ps : List Pair) → InTree b.tree old ps → first ps key ≡ None)
      → Puts s (Only (file_list R b)) InList mode (first_in key) f b d old new
  list_puts mode key f g b c d old mid new file looked writes are absent = record {
    writes = record {
      sound = writes.sound;
      means = λ ps h. subst (λ (qs : List Pair). InTree d.tree new qs) (are ps h) (writes.means ps (looked.means ps h));
      others = record { same = λ t g other. writes.others.same t g (λ is. other (is ∙ file)) ∙ looked.now t g };
    };
    absent = λ keep ps h. absent keep ps h;
  }

  -- what is given in place of the value makes of the pairs what the put is to
  pub put_given : (mode : Mode) (key value given : List ℕ) (joined : Option (List ℕ)) (ps : List Pair) → given ≡ unwrap_or joined value → IsGiven mode key value joined ps → inserted o.cmp false key given ps ≡ put_first o.cmp mode key value ps
  put_given mode key value given joined ps chosen is = ap (λ (v : List ℕ). with_first o.cmp ps key v) (chosen ∙ is.is)

  -- ---- what a call on the tree answered, handed on as it is

  pub written_up : {T E : Type 0} (r : Result T E) (f : List Pair → List Pair) (b c : Btree V O) (old new : S) → OnOk r (Writes s (Only (file_in R b.tree)) InTree f b.tree c.tree old new) → OnOk r (Writes s (Only (file_list R b)) InList f b c old new)
  written_up (Ok x) f b c old new writes = list_writes f b c old new writes
  written_up (Err e) f b c old new writes = tt

  pub taken_up : {E : Type 0} (r : Result Bool E) (has : List Pair → Bool) (f : List Pair → List Pair) (b c : Btree V O) (old new : S) → IfOk r (λ taken. TakesOut s (Only (file_in R b.tree)) InTree has f taken b.tree c.tree old new)
      → IfOk r (λ taken. TakesOut s (Only (file_list R b)) InList has f taken b c old new)
  taken_up (Ok taken) has f b c old new takes = list_takes has f taken b c old new takes
  taken_up (Err e) has f b c old new takes = tt

  pub refused_up : {T E : Type 0} (r : Result T E) (b c : Btree V O) (old new : S) → OnErr r (Refuses s InTree b.tree c.tree old new) → OnErr r (Refuses s InList b c old new)
  refused_up (Ok x) b c old new refused = tt
  refused_up (Err e) b c old new refused = list_refused b c old new refused

  pub stands_up : {T E : Type 0} (r : Result T E) (b : Btree V O) (old new : S) → OnOk r (BringsPairs s R o b.tree old new) → OnOk r ((ps : List Pair) → InList b old ps → ListStands R o (made_of R b) (s.now new (file_list R b)) ps)
  stands_up (Ok x) b old new brings = λ ps h. list_stands R o b (s.now new (file_list R b)) ps (brings ps h)
  stands_up (Err e) b old new brings = tt

  pub packs_up : {T E : Type 0} (r : Result T E) (b : Btree V O) (old new : S) → OnOk r (BringsPacked s R o b.tree old new) → OnOk r (PacksIn s (file_list R) (holds_list R o) (λ d. R.tight d.tree.store) R.packed b old new)
  packs_up (Ok x) b old new brings = λ from form ps tight h. brings.packs from form ps tight h
  packs_up (Err e) b old new brings = tt

  pub trims_up : {T E : Type 0} (r : Result T E) (b : Btree V O) (old new : S) → OnOk r (BringsPacked s R o b.tree old new) → OnOk r (TrimsIn s (file_list R) (holds_list R o) R.slack b old new)
  trims_up (Ok x) b old new brings = λ ps h. brings.trims ps h
  trims_up (Err e) b old new brings = tt

  pub tight_up : {T E : Type 0} (r : Result T E) (form : Form) (b c : Btree V O) (old new : S) → OnOk r (TightTree s R o form b.tree c.tree old new) → OnOk r (TightIn s (file_list R) (holds_list R o) (λ d. R.tight d.tree.store) form b c old new)
  tight_up (Ok x) form b c old new tight = λ ps h. tight ps h
  tight_up (Err e) form b c old new tight = tt
