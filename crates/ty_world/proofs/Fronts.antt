-- The one record of a list that follows a front of it.
use Rattle.std.proofs.Common.{◌≡◌, ◌⊎◌, inl, inr, ℕ, ◌<◌, ◌≤◌, Bool, true, false, cond, List, [], ◌∷◌, ◌++◌, refl, sym, ap, subst, ◌∙◌, arith, ⊎_elim}
use Rattle.std.specs.Prelude.{Some, None}
use Rattle.std.proofs.lemmas.List.{append_assoc}
use Rattle.tc_base.specs.declared.request.Request.{Request}
use Rattle.tc_base.specs.declared.request.Request.TheVariants.{Put, PutKeep, PutCat, PutShl, PutNr, Out, AddInt, Vanish, Misc, IterInit, IterNext, Repl}
use Rattle.tc_base.specs.declared.request.Reply.{Reply}
use Rattle.tc_model.specs.Contents.{Contents, Walk}
use Rattle.tc_model.specs.Apply.{Effect, apply, applied, effect, told, took, fits, refused, updates}
use Rattle.ty_ulog.specs.declared.record.Record.{Record}
use Rattle.ty_ulog.specs.Updates.{update_in}
use Rattle.ty_ulog.specs.Log.{Follow, last_of}
use Rattle.ty_world.specs.Fold.{redo, fold, IsIn}

pub behind : (held : ℕ) (log rest : List Record) → Follow held (log ++ rest) → Follow (last_of held log) rest
behind held [] rest f = f
behind held (r ∷ log) rest f = behind r.stamp log rest f.2

-- none of the front is later than its last
not_later : (held : ℕ) (log rest : List Record) → Follow held (log ++ rest) → held ≤ last_of held log
not_later held [] rest f = omega arith
not_later held (r ∷ log) rest f = omega (arith, f.1, not_later r.stamp log rest f.2)

in_front : (held : ℕ) (log rest : List Record) (r : Record) → Follow held (log ++ rest) → IsIn r (log ++ rest) → (r.stamp ≤ last_of held log) ⊎ IsIn r rest
in_front held [] rest r f is = inr is
in_front held (q ∷ log) rest r f (inl e) = inl (omega (arith, ap (λ (x : Record). x.stamp) e, not_later q.stamp log rest f.2))
in_front held (q ∷ log) rest r f (inr is) = in_front q.stamp log rest r f.2 is

-- those behind the first follow a later timestamp
follows_later : (held : ℕ) (rest : List Record) (r : Record) → Follow held rest → IsIn r rest → held ≤ r.before
follows_later held [] r f is = absurd is
follows_later held (q ∷ rest) r f (inl e) = omega (arith, ap (λ (x : Record). x.before) e, f.0)
follows_later held (q ∷ rest) r f (inr is) = omega (arith, f.1, follows_later q.stamp rest r f.2 is)

is_first : (held : ℕ) (rest : List Record) (r : Record) → Follow held rest → IsIn r rest → r.before ≡ held → (more : List Record) × (rest ≡ r ∷ more)
is_first held [] r f is e = absurd is
is_first held (q ∷ rest) r f (inl same) e = (rest, ap (λ (x : Record). x ∷ rest) (sym same))
is_first held (q ∷ rest) r f (inr is) e = absurd (omega (arith, f.1, follows_later q.stamp rest r f.2 is, e))

pub next_is : (m log rest : List Record) (r : Record) → Follow 0 m → m ≡ log ++ rest → IsIn r m → r.before ≡ last_of 0 log → last_of 0 log < r.stamp → (more : List Record) × (m ≡ (log ++ r ∷ []) ++ more)
next_is m log rest r f parts is e later =
    let g : Follow 0 (log ++ rest) = subst (Follow 0) parts f in
    ⊎_elim (λ old. absurd (omega (arith, old, later)))
    (λ new. let first = is_first (last_of 0 log) rest r (behind 0 log rest g) new e in (first.0, parts ∙ ap (λ (l : List Record). log ++ l) first.1 ∙ sym (append_assoc log (r ∷ []) first.0)))
    (in_front 0 log rest r g (subst (λ (l : List Record). IsIn r l) parts is))

-- ---- what records make of contents

pub fold_more : (c : Contents) (rs : List Record) (r : Record) → fold c (rs ++ r ∷ []) ≡ redo (update_in r.request) (fold c rs)
fold_more c [] r = refl
fold_more c (q ∷ rs) r = fold_more (redo (update_in q.request) c) rs r

told_any : (r : Request) (answer : Reply) (after : Contents) (c : Contents) (w v : Walk) → (told r answer after w c w).contents ≡ (told r answer after v c v).contents
told_any r answer after c w v = go (fits answer)
  where
    go : (b : Bool) → (cond b (record { contents = after; walk = w; reply = answer; ok = true }) (refused r c w)).contents ≡ (cond b (record { contents = after; walk = v; reply = answer; ok = true }) (refused r c v)).contents
    go true = refl
    go false = refl

took_any : (r : Request) (e : Effect) (c : Contents) (w v : Walk) → (took r e c w).contents ≡ (took r e c v).contents
took_any r None c w v = refl
took_any r (Some e) c w v = told_any r e.1 e.0 c w v

-- an update knows nothing of the walk
applied_any : (q : Request) (c : Contents) (w v : Walk) → updates q ≡ true → (applied q c w).contents ≡ (applied q c v).contents
applied_any IterInit c w v e = absurd cc
applied_any IterNext c w v e = absurd cc
applied_any (Repl timestamp server) c w v e = refl
applied_any (Put key value) c w v e = took_any (Put key value) (effect (Put key value) c) c w v
applied_any (PutKeep key value) c w v e = took_any (PutKeep key value) (effect (PutKeep key value) c) c w v
applied_any (PutCat key value) c w v e = took_any (PutCat key value) (effect (PutCat key value) c) c w v
applied_any (PutShl key value width) c w v e = took_any (PutShl key value width) (effect (PutShl key value width) c) c w v
applied_any (PutNr key value) c w v e = took_any (PutNr key value) (effect (PutNr key value) c) c w v
applied_any (Out key) c w v e = took_any (Out key) (effect (Out key) c) c w v
applied_any (AddInt key number) c w v e = took_any (AddInt key number) (effect (AddInt key number) c) c w v
applied_any Vanish c w v e = took_any Vanish (effect Vanish c) c w v
applied_any (Misc name options args) c w v e = took_any (Misc name options args) (effect (Misc name options args) c) c w v
applied_any _ c w v e = absurd cc

pub apply_any : (q : Request) (c : Contents) (w v : Walk) → updates q ≡ true → (apply false q c w).contents ≡ (apply false q c v).contents
unfolding apply
apply_any q c w v e = applied_any q c w v e
