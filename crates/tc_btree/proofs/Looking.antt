-- What looking for a put tells.
use Rattle.std.proofs.Common.{◌≡◌, ◌++◌, ℕ, List, [], Bool, true, false, Option, Some, None, refl, sym, ◌∙◌, Ok, Err}
use Rattle.std.specs.Prelude.{Result, IfOk, IsErrOf, is_some, unwrap_or}
use Rattle.std.specs.Result.{IsErrAnd}
use Rattle.std.proofs.lemmas.Result.{err_from_is_err_and}
use Rattle.tc_base.specs.Lists.{first}
use Rattle.tc_base.specs.declared.kind.Mode.{Mode}
use Rattle.tc_base.specs.declared.kind.Mode.TheVariants.{Over, Keep, Cat}
use Rattle.tc_base.specs.declared.order.Order.{Ghosts as Orders}
use Rattle.tc_base.specs.declared.seq.Pair.{Pair}
use Rattle.tc_space.specs.Changes.{has_pair}
use Rattle.tc_space.specs.Errors.{put_of}
use Rattle.tc_space.specs.Frames.{reads_refl}
use Rattle.tc_space.specs.Lists.{StaysList}
use Rattle.tc_space.specs.Refusals.{Blames}
use Rattle.tc_space.specs.declared.errors.PutErr.{PutErr}
use Rattle.tc_space.specs.declared.errors.PutErr.TheVariants as put
use Rattle.tc_space.specs.declared.errors.RecErr.{RecErr}
use Rattle.tc_space.specs.declared.errors.RecErr.TheVariants as rec
use Rattle.tc_space.specs.declared.records.Records.{Ghosts as Stores}
use Rattle.tc_space.specs.declared.space.Space.{Ghosts}
use Rattle.bt_tree.specs.Costs.{looks_refl}
use Rattle.bt_tree.specs.Meaning.{AnswersPairs, Means}
use Rattle.bt_tree.specs.Visits.{Asks}
use Rattle.tc_btree.specs.Meaning.{file_list, made_of}
use Rattle.tc_btree.specs.Putting.{BlamesLook, IsGiven, IsKept, Looked, TellsPut}
use Rattle.tc_btree.specs.declared.btree.Btree.{Btree}

-- ---- what is given

pub given_over : (mode : Mode) (key value : List ℕ) (ps : List Pair) → mode ≡ Over → IsGiven mode key value None ps
given_over Over key value ps is = record { is = refl; absent = λ keep. absurd cc }
given_over Keep key value ps is = absurd cc
given_over Cat key value ps is = absurd cc

none_there : (o : Option (List ℕ)) → is_some o ≡ false → o ≡ None
none_there None is = refl
none_there (Some x) is = absurd cc

pub given_keep : (mode : Mode) (key value : List ℕ) (ps : List Pair) → mode ≡ Keep → false ≡ has_pair key ps → IsGiven mode key value None ps
given_keep Keep key value ps is not = record { is = refl; absent = λ keep. none_there (first ps key) (sym not) }
given_keep Over key value ps is not = absurd cc
given_keep Cat key value ps is not = absurd cc

pub given_cat : (mode : Mode) (key value joined : List ℕ) (ps : List Pair) → mode ≡ Cat → joined ≡ unwrap_or (first ps key) [] ++ value → IsGiven mode key value (Some joined) ps
given_cat Cat key value joined ps is are = record { is = are; absent = λ keep. absurd cc }
given_cat Over key value joined ps is are = absurd cc
given_cat Keep key value joined ps is are = absurd cc

-- ---- an error that is told of a put

told_as : {A : Type 0} (r : Result A PutErr) (e : RecErr) (p : PutErr) → IsErrAnd r (λ y. y ≡ put_of e) → IsErrOf r p → put_of e ≡ p
told_as r e p is named =
    let w = err_from_is_err_and r is in
    let both : Err w.0 ≡ Err p = sym w.1 ∙ named in
    let same : w.0 ≡ p = cc in
    sym w.2 ∙ same

-- that a key is held is told of no other call
pub never_exists : {A : Type 0} (r : Result A PutErr) (e : RecErr) → IsErrAnd r (λ y. y ≡ put_of e) → IsErrOf r put.Exists → ⊥
never_exists r rec.Full is named = let bad = told_as r rec.Full put.Exists is named in cc
never_exists r rec.Fault is named = let bad = told_as r rec.Fault put.Exists is named in cc
never_exists r rec.Memory is named = let bad = told_as r rec.Memory put.Exists is named in cc

pub full_told : {A B : Type 0} (r : Result A PutErr) (e : RecErr) → IsErrAnd r (λ y. y ≡ put_of e) → IsErrOf r put.Full → IsErrOf {T = B} (Err e) rec.Full
full_told r rec.Full is named = refl
full_told r rec.Fault is named = absurd (let bad = told_as r rec.Fault put.Full is named in cc)
full_told r rec.Memory is named = absurd (let bad = told_as r rec.Memory put.Full is named in cc)

pub fault_told : {A B : Type 0} (r : Result A PutErr) (e : RecErr) → IsErrAnd r (λ y. y ≡ put_of e) → IsErrOf r put.Fault → IsErrOf {T = B} (Err e) rec.Fault
fault_told r rec.Full is named = absurd (let bad = told_as r rec.Full put.Fault is named in cc)
fault_told r rec.Fault is named = refl
fault_told r rec.Memory is named = absurd (let bad = told_as r rec.Memory put.Fault is named in cc)

none_told : {A : Type 0} (r : Result A PutErr) (e : RecErr) (P : A → Type 0) → IsErrAnd r (λ y. y ≡ put_of e) → IfOk r P
none_told (Ok x) e P is = absurd is
none_told (Err y) e P is = tt

-- ---- the list that was looked at

module _ {S V O : Type 0} (s : Ghosts S) (R : Stores V S) (o : Orders O) where
  pub looked_refl : (b : Btree V O) (a : S) → s.sound a → Looked s R o b b a a
  looked_refl b a sound = record { looks = looks_refl s R b.tree.cache b.tree.store a sound; stays = record { head = refl; height = refl; column = refl }; reads = reads_refl s (Means s R o) b.tree a sound }

  pub looked_asks : (b c : Btree V O) (most steps steps' : ℕ) (old new : S) → Asks s R o most b.tree c.tree steps steps' old new → Looked s R o b c old new
  looked_asks b c most steps steps' old new asks = record { looks = asks.looks; stays = asks.stays; reads = asks.reads }

  pub looked_stays : (b c : Btree V O) (old new : S) → Looked s R o b c old new → StaysList (file_list R) (made_of R) (λ d. R.lead d.tree.store) b c
  looked_stays b c old new looked = record {
    file = looked.looks.made.file;
    made_same = λ i. record { sort = looked.looks.made.sort i; numbers = looked.looks.made.numbers i; code = (looked.stays.head i).order; leaf = (looked.stays.head i).leaf_limit; node = (looked.stays.head i).node_limit; column = looked.stays.column i };
    leads = looked.looks.made.lead;
  }

  -- ---- what is told of it

  pub tells_err : (mode : Mode) (key value : List ℕ) (r : Result (Option (List ℕ)) PutErr) (e : RecErr) (b : Btree V O) (a : S) → IsErrAnd r (λ y. y ≡ put_of e) → TellsPut s R o mode key value r b a
  tells_err mode key value r e b a is = (none_told r e (λ joined. (ps : List Pair) → Means s R o b.tree a ps → IsGiven mode key value joined ps) is, λ named. absurd (never_exists r e is named))

  pub kept : (mode : Mode) (key : List ℕ) (b : Btree V O) (a : S) (hit : Bool) → mode ≡ Keep → hit ≡ true → AnswersPairs s R o (has_pair key) b.tree a hit → IsKept s R o mode key b a
  kept mode key b a hit is true_is answers = record { keep = is; there = λ ps h. sym (answers ps h) ∙ true_is }

-- the cause that the call on the tree names
pub blames_err : {S A B : Type 0} (s : Ghosts S) (r : Result A PutErr) (e : RecErr) (old new : S) → IsErrAnd r (λ y. y ≡ put_of e) → Blames {T = B} s (Err e) old new → BlamesLook s r old new
blames_err {B = B} s r e old new is blames = (λ named. blames.0 (fault_told {B = B} r e is named), λ named. blames.1 (full_told {B = B} r e is named))
