-- A request that failed changes nothing.
use Rattle.std.proofs.Common.{◌≡◌, ℕ, Bool, true, false, cond, List, refl}
use Rattle.std.specs.Prelude.{◌&&◌, Option, Some, None}
use Rattle.tc_base.specs.declared.request.Request.{Request}
use Rattle.tc_base.specs.declared.request.Request.TheVariants.{Put, PutKeep, PutCat, PutShl, PutNr, Out, Get, MGet, Vsiz, IterInit, IterNext, FwmKeys, AddInt, AddDouble, Ext, Sync, Optimize, Vanish, Copy, Restore, SetMst, Rnum, Size, Stat, Misc, Repl}
use Rattle.tc_base.specs.declared.request.Reply.{Reply}
use Rattle.tc_base.specs.declared.request.Reply.TheVariants as reply
use Rattle.tc_model.specs.Contents.{Contents, Walk}
use Rattle.tc_model.specs.Stores.{all_keys}
use Rattle.tc_model.specs.Apply.{Step, Effect, apply, applied, effect, refused, fits, told, took, stepped, next_in, updates}

-- contents and walk are as they were
abbrev pub Stays : Contents → Walk → Step → Type 0
Stays c w s = s.ok ≡ false → (s.contents ≡ c) × (s.walk ≡ w)

told_stays : (r : Request) (a : Reply) (after : Contents) (walk : Walk) (c : Contents) (w : Walk) → Stays c w (told r a after walk c w)
told_stays r a after walk c w = go (fits a)
  where
    go : (b : Bool) → Stays c w (cond b (record { contents = after; walk = walk; reply = a; ok = true }) (refused r c w))
    go true e = absurd cc
    go false e = (refl, refl)

took_stays : (r : Request) (e : Effect) (c : Contents) (w : Walk) → Stays c w (took r e c w)
took_stays r None c w e = (refl, refl)
took_stays r (Some x) c w e = told_stays r x.1 x.0 w c w e

stepped_stays : (r : Request) (n : Option (List ℕ × List (List ℕ))) (c : Contents) (w : Walk) → Stays c w (stepped r n c w)
stepped_stays r None c w e = (refl, refl)
stepped_stays r (Some n) c w e = told_stays r (reply.Value n.0) c (Some n.1) c w e

applied_stays : (r : Request) (c : Contents) (w : Walk) → Stays c w (applied r c w)
applied_stays IterInit c w e = told_stays IterInit reply.Done c (Some (all_keys c)) c w e
applied_stays IterNext c w e = stepped_stays IterNext (next_in c w) c w e
applied_stays (Repl timestamp server) c w e = absurd cc
applied_stays (Put key value) c w e = took_stays (Put key value) (effect (Put key value) c) c w e
applied_stays (PutKeep key value) c w e = took_stays (PutKeep key value) (effect (PutKeep key value) c) c w e
applied_stays (PutCat key value) c w e = took_stays (PutCat key value) (effect (PutCat key value) c) c w e
applied_stays (PutShl key value width) c w e = took_stays (PutShl key value width) (effect (PutShl key value width) c) c w e
applied_stays (PutNr key value) c w e = took_stays (PutNr key value) (effect (PutNr key value) c) c w e
applied_stays (Out key) c w e = took_stays (Out key) (effect (Out key) c) c w e
applied_stays (Get key) c w e = took_stays (Get key) (effect (Get key) c) c w e
applied_stays (MGet keys) c w e = took_stays (MGet keys) (effect (MGet keys) c) c w e
applied_stays (Vsiz key) c w e = took_stays (Vsiz key) (effect (Vsiz key) c) c w e
applied_stays (FwmKeys prefix maximum) c w e = took_stays (FwmKeys prefix maximum) (effect (FwmKeys prefix maximum) c) c w e
applied_stays (AddInt key number) c w e = took_stays (AddInt key number) (effect (AddInt key number) c) c w e
applied_stays Sync c w e = took_stays Sync (effect Sync c) c w e
applied_stays (Optimize text) c w e = took_stays (Optimize text) (effect (Optimize text) c) c w e
applied_stays Vanish c w e = took_stays Vanish (effect Vanish c) c w e
applied_stays Rnum c w e = took_stays Rnum (effect Rnum c) c w e
applied_stays Size c w e = took_stays Size (effect Size c) c w e
applied_stays Stat c w e = took_stays Stat (effect Stat c) c w e
applied_stays (Misc name options args) c w e = took_stays (Misc name options args) (effect (Misc name options args) c) c w e
applied_stays (AddDouble key integer fraction) c w e = (refl, refl)
applied_stays (Ext name options key value) c w e = (refl, refl)
applied_stays (Copy path) c w e = took_stays (Copy path) (effect (Copy path) c) c w e
applied_stays (Restore path timestamp options) c w e = (refl, refl)
applied_stays (SetMst host port timestamp options) c w e = (refl, refl)

pub apply_failed : (replica : Bool) (r : Request) (c : Contents) (w : Walk) → Stays c w (apply replica r c w)
unfolding apply
apply_failed replica r c w = go (replica && updates r)
  where
    go : (b : Bool) → Stays c w (cond b (refused r c w) (applied r c w))
    go true e = (refl, refl)
    go false e = applied_stays r c w e
