-- A reply to a request has at most 67,108,864 bytes.
use Rattle.std.proofs.Common.{◌≡◌, ◌≤◌, ℕ, Bool, true, false, cond, List, length, refl, arith}
use Rattle.std.specs.Prelude.{◌&&◌, Option, Some, None}
use Rattle.std.proofs.lemmas.Bool.{leb-true}
use Rattle.tc_base.specs.declared.request.Request.{Request}
use Rattle.tc_base.specs.declared.request.Request.TheVariants.{Put, PutKeep, PutCat, PutShl, PutNr, Out, Get, MGet, Vsiz, IterInit, IterNext, FwmKeys, AddInt, AddDouble, Ext, Sync, Optimize, Vanish, Copy, Restore, SetMst, Rnum, Size, Stat, Misc, Repl}
use Rattle.tc_base.specs.declared.request.Reply.{Reply}
use Rattle.tc_base.specs.declared.request.Reply.TheVariants as reply
use Rattle.ty_wire.specs.Spelling.{reply_bytes}
use Rattle.tc_model.specs.Contents.{Contents, Walk}
use Rattle.tc_model.specs.Stores.{all_keys}
use Rattle.tc_model.specs.Apply.{Step, Effect, apply, applied, effect, refused, told, took, next_in, stepped, fits, updates}

abbrev pub Small : Step → Type 0
Small s = length (reply_bytes s.reply) ≤ 67108864

refused_small : (r : Request) (c : Contents) (w : Walk) → Small (refused r c w)
refused_small (PutNr key value) c w = omega arith
refused_small (Misc name options args) c w = omega arith
refused_small _ c w = omega arith

told_small : (r : Request) (answer : Reply) (after : Contents) (walk : Walk) (c : Contents) (w : Walk) → Small (told r answer after walk c w)
told_small r answer after walk c w = go (fits answer) refl
  where
    go : (b : Bool) → fits answer ≡ b → Small (cond b (record { contents = after; walk = walk; reply = answer; ok = true }) (refused r c w))
    go true is = leb-true (length (reply_bytes answer)) 67108864 is
    go false is = refused_small r c w

took_small : (r : Request) (e : Effect) (c : Contents) (w : Walk) → Small (took r e c w)
took_small r None c w = refused_small r c w
took_small r (Some e) c w = told_small r e.1 e.0 w c w

stepped_small : (r : Request) (next : Option (List ℕ × List (List ℕ))) (c : Contents) (w : Walk) → Small (stepped r next c w)
stepped_small r None c w = refused_small r c w
stepped_small r (Some next) c w = told_small r (reply.Value next.0) c (Some next.1) c w

applied_small : (r : Request) (c : Contents) (w : Walk) → Small (applied r c w)
applied_small IterInit c w = told_small IterInit reply.Done c (Some (all_keys c)) c w
applied_small IterNext c w = stepped_small IterNext (next_in c w) c w
applied_small (Repl timestamp server) c w = omega arith
applied_small (Put key value) c w = took_small (Put key value) (effect (Put key value) c) c w
applied_small (PutKeep key value) c w = took_small (PutKeep key value) (effect (PutKeep key value) c) c w
applied_small (PutCat key value) c w = took_small (PutCat key value) (effect (PutCat key value) c) c w
applied_small (PutShl key value width) c w = took_small (PutShl key value width) (effect (PutShl key value width) c) c w
applied_small (PutNr key value) c w = took_small (PutNr key value) (effect (PutNr key value) c) c w
applied_small (Out key) c w = took_small (Out key) (effect (Out key) c) c w
applied_small (Get key) c w = took_small (Get key) (effect (Get key) c) c w
applied_small (MGet keys) c w = took_small (MGet keys) (effect (MGet keys) c) c w
applied_small (Vsiz key) c w = took_small (Vsiz key) (effect (Vsiz key) c) c w
applied_small (FwmKeys prefix maximum) c w = took_small (FwmKeys prefix maximum) (effect (FwmKeys prefix maximum) c) c w
applied_small (AddInt key number) c w = took_small (AddInt key number) (effect (AddInt key number) c) c w
applied_small (AddDouble key integer fraction) c w = omega arith
applied_small (Ext name options key value) c w = omega arith
applied_small Sync c w = took_small Sync (effect Sync c) c w
applied_small (Optimize text) c w = took_small (Optimize text) (effect (Optimize text) c) c w
applied_small Vanish c w = took_small Vanish (effect Vanish c) c w
applied_small (Copy path) c w = took_small (Copy path) (effect (Copy path) c) c w
applied_small (Restore path timestamp options) c w = omega arith
applied_small (SetMst host port timestamp options) c w = omega arith
applied_small Rnum c w = took_small Rnum (effect Rnum c) c w
applied_small Size c w = took_small Size (effect Size c) c w
applied_small Stat c w = took_small Stat (effect Stat c) c w
applied_small (Misc name options args) c w = took_small (Misc name options args) (effect (Misc name options args) c) c w

pub apply_small : (replica : Bool) (r : Request) (c : Contents) (w : Walk) → Small (apply replica r c w)
unfolding apply
apply_small replica r c w = go (replica && updates r)
  where
    go : (b : Bool) → Small (cond b (refused r c w) (applied r c w))
    go true = refused_small r c w
    go false = applied_small r c w
