-- What one request makes of the database, and what it is answered.
use Rattle.std.specs.Prelude.{ℕ, ℤ, pos, negsuc, ◌^◌, ◌%◌, ◌==◌, ◌&&◌, Bool, true, false, List, [], ◌∷◌, length, take, filter, flat_map, nat_eq, Option, Some, None, option_map, option_and_then, nat_le, nat_lt, if◌then◌else◌}
use Rattle.std.specs.List.{starts_with}
use Rattle.tc_base.specs.declared.request.Request.{Request}
use Rattle.tc_base.specs.declared.request.Request.TheVariants.{Put, PutKeep, PutCat, PutShl, PutNr, Out, Get, MGet, Vsiz, IterInit, IterNext, FwmKeys, AddInt, Sync, Optimize, Vanish, Copy, Rnum, Size, Stat, Misc, Repl}
use Rattle.tc_base.specs.declared.request.Reply.{Reply}
use Rattle.tc_base.specs.declared.request.Reply.TheVariants as reply
use Rattle.tc_base.specs.declared.kind.Mode.TheVariants.{Over, Keep, Cat}
use Rattle.tc_base.specs.Labels.{is_label}
use Rattle.ty_wire.specs.Spelling.{reply_bytes}
pub use Rattle.ty_wire.specs.Updating.{updates}
use Rattle.tc_model.specs.Contents.{Contents, kind_of, is_stored, emptied, Walk}
use Rattle.tc_model.specs.Stores.{held, is_held, first_pair, all_keys, count, size_of, store, shift, add, out}
use Rattle.tc_model.specs.Stats.{stat_text}
use Rattle.tc_model.specs.Misc.{misc_of, updates_call}
use Rattle.tc_model.specs.Meaning.{done}

-- the contents and the walk after a request, its reply, and whether it succeeded
pub record Step : Type 0 where
  pub contents : Contents
  pub walk : Walk
  pub reply : Reply
  pub ok : Bool

-- the reply to a request that failed
abbrev pub refusal_of : Request → Reply
refusal_of (PutNr key value) = reply.Silent
refusal_of (Misc name options args) = reply.FailMisc
refusal_of _ = reply.Fail

-- a request that failed changes nothing
abbrev pub refused : Request → Contents → Walk → Step
refused r c w = record { contents = c; walk = w; reply = refusal_of r; ok = false }

-- a reply of more than 67,108,864 bytes is a failure
abbrev pub fits : Reply → Bool
fits answer = nat_le (length (reply_bytes answer)) 67108864

-- ---- what a request makes of contents, and its reply; none where it fails

abbrev pub Effect : Type 0
Effect = Option (Contents × Reply)

abbrev pub changes : Reply → Option Contents → Effect
changes answer o = option_map (λ c. (c, answer)) o

abbrev pub tells : Contents → Option Reply → Effect
tells c o = option_map (λ answer. (c, answer)) o

-- a length that has no room in four bytes is none
abbrev pub length_reply : List ℕ → Option Reply
length_reply value = if nat_lt (length value) (2 ^ 32) then Some (reply.Four (length value)) else None

-- at most so many, all where the number is negative
abbrev pub at_most : ℤ → List (List ℕ) → List (List ℕ)
at_most (pos n) xs = take n xs
at_most (negsuc n) xs = xs

-- the keys that begin with the prefix, in the database's order
abbrev pub keys_from : Contents → List ℕ → List (List ℕ)
keys_from c prefix = filter (λ key. starts_with nat_eq key prefix) (all_keys c)

-- an odd number of options asks for the omission of the update log, and fails an updating request
abbrev pub called : List ℕ → ℕ → List (List ℕ) → Contents → Effect
called name options args c =
    if options % 2 == 1 && updates_call name args
    then None
    else option_map (λ o. (o.0, reply.List o.1)) (option_and_then (λ m. done m c) (misc_of name args (kind_of c)))

-- a copy is made of a database in files, under a label
abbrev pub copied : List ℕ → Contents → Option Reply
copied text c = if is_label text && is_stored (kind_of c) then Some reply.Done else None

abbrev pub effect : Request → Contents → Effect
effect (Put key value) c = changes reply.Done (store Over c key value)
effect (PutKeep key value) c = changes reply.Done (store Keep c key value)
effect (PutCat key value) c = changes reply.Done (store Cat c key value)
effect (PutShl key value width) c = changes reply.Done (shift c key value width)
effect (PutNr key value) c = changes reply.Silent (store Over c key value)
effect (Out key) c = changes reply.Done (out c key)
effect (Get key) c = tells c (option_map (λ value. reply.Value value) (held c key))
effect (MGet wanted) c = tells c (Some (reply.Pairs (flat_map (first_pair c) wanted)))
effect (Vsiz key) c = tells c (option_and_then length_reply (held c key))
effect (FwmKeys prefix maximum) c = tells c (Some (reply.List (at_most maximum (keys_from c prefix))))
effect (AddInt key number) c = option_map (λ sum. (sum.1, reply.Four sum.0)) (add c key number)
effect Sync c = tells c (Some reply.Done)
effect (Optimize text) c = tells c (Some reply.Done)
effect Vanish c = changes reply.Done (Some (emptied c))
effect (Copy text) c = tells c (copied text c)
effect Rnum c = tells c (Some (reply.Eight (count c)))
effect Size c = tells c (Some (reply.Eight (size_of c)))
effect Stat c = tells c (Some (reply.Value (stat_text c)))
effect (Misc name options args) c = called name options args c
-- the others fail: adddouble, ext, restore and setmst; those of the walk and repl are said below
effect _ c = None

-- ---- the walk

-- the first key that is still held, and those behind it
abbrev pub next_of : Contents → List (List ℕ) → Option (List ℕ × List (List ℕ))
next_of c [] = None
next_of c (key ∷ rest) = if is_held c key then Some (key, rest) else next_of c rest

abbrev pub next_in : Contents → Walk → Option (List ℕ × List (List ℕ))
next_in c None = None
next_in c (Some keys) = next_of c keys

-- ---- the step

abbrev pub told : Request → Reply → Contents → Walk → Contents → Walk → Step
told r answer after walk c w = if fits answer then record { contents = after; walk = walk; reply = answer; ok = true } else refused r c w

abbrev pub took : Request → Effect → Contents → Walk → Step
took r None c w = refused r c w
took r (Some e) c w = told r e.1 e.0 w c w

-- a walk that has no key left that is held stays as it is
abbrev pub stepped : Request → Option (List ℕ × List (List ℕ)) → Contents → Walk → Step
stepped r None c w = refused r c w
stepped r (Some next) c w = told r (reply.Value next.0) c (Some next.1) c w

abbrev pub applied : Request → Contents → Walk → Step
applied IterInit c w = told IterInit reply.Done c (Some (all_keys c)) c w
applied IterNext c w = stepped IterNext (next_in c w) c w
-- whether it succeeds, and what it is answered, is said where the connection is; here it changes nothing
applied (Repl timestamp server) c w = record { contents = c; walk = w; reply = reply.Silent; ok = true }
applied r c w = took r (effect r c) c w

-- on a replica each updating request of a client fails
unfoldable pub apply : Bool → Request → Contents → Walk → Step
apply replica r c w = if replica && updates r then refused r c w else applied r c w

abbrev pub is_updated : Request → Step → Bool
is_updated r s = s.ok && updates r
