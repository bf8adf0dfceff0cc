-- The records of a round, one write behind the other.
use Rattle.std.proofs.Common.{◌≡◌, ◌⊎◌, ◌≤◌, ◌<◌, ◌+◌, inl, inr, ⊎_elim, ℕ, List, [], ◌∷◌, ◌++◌, length, refl, sym, ap, subst, ◌∙◌, arith, append_assoc, length-append}
use Rattle.std.specs.Prelude.{All, Some, Result, Ok, Err, OnOk, IsErrOf, Option}
use Rattle.std.proofs.lemmas.Grind.{flat_map-append}
use Rattle.std.proofs.lemmas.List.{append-nil}
use Rattle.tc_space.specs.Frames.{others_then}
use Rattle.tc_space.specs.Stores.{Only}
use Rattle.tc_space.specs.declared.errors.RecErr.{RecErr}
use Rattle.tc_space.specs.declared.errors.RecErr.TheVariants.{Full}
use Rattle.tc_space.specs.declared.space.Space.{Ghosts}
use Rattle.ty_ulog.specs.Holding.{Means}
use Rattle.ty_ulog.specs.Log.{last_of, log_bytes}
use Rattle.ty_ulog.specs.Noting.{Asks, EndLacks, Lacks, MayAppend, Notes, Overflows, records_of}
use Rattle.ty_ulog.specs.Records.{record_bytes}
use Rattle.ty_ulog.specs.declared.log.Ulog.{Ulog}
use Rattle.ty_ulog.specs.declared.record.Record.{Record}
use Rattle.ty_ulog.proofs.Marking.{last_parts}
use Rattle.ty_rounds.specs.Logging.{LacksRoom}
use Rattle.ty_rounds.specs.Works.{IsFit, Work}
use Rattle.ty_rounds.specs.Writing.{AreWritten, Writes}
use Rattle.ty_rounds.specs.declared.logging.Logged.{Logged}
use Rattle.ty_rounds.proofs.KeepingRound.{records_front}

-- the words stay
abbrev with_log : Logged → Ulog → Logged
with_log l v = record l { ulog = v }

module _ {S : Type 0} (s : Ghosts S) where
  -- the same requests
  pub asks_same : (r : Result (Unit {0}) RecErr) (x y : Option (List ℕ)) (own : ℕ) (us vs : List (List ℕ)) (u v : Ulog) (old new : S) → us ≡ vs → Asks s r x y own us u v old new → Asks s r x y own vs u v old new
  asks_same r x y own us vs u v old new same a = subst (λ (ts : List (List ℕ)). Asks s r x y own ts u v old new) same a

  -- one of the first had no room
  lacks_front : (held : ℕ) (new : S) (long : ℕ) (rs more : List Record) → Overflows s held new long rs → s.tells → LacksRoom (Lacks s new) long (rs ++ more)
  lacks_front held new long rs more (inl x) t = record { front = x.front; next = x.next; behind = x.behind ++ more; parts = ap (λ (l : List Record). l ++ more) x.parts ∙ append_assoc x.front (x.next ∷ x.behind) more; full = inl x.late }
  lacks_front held new long rs more (inr f) t = let x = f t in record { front = x.front; next = x.next; behind = x.behind ++ more; parts = ap (λ (l : List Record). l ++ more) x.parts ∙ append_assoc x.front (x.next ∷ x.behind) more; full = inr x.lacks }

  -- those of the requests failed
  pub updates_fail : (o : Work) (x y : Option (List ℕ)) (l : Logged) (v : Ulog) (old new : S) (r : Result (Unit {0}) RecErr) (e : RecErr) → (IsErrOf {T = Unit {0}} (Err e) Full → IsErrOf r Full) → Asks s r x y l.own o.updates l.ulog v old new → Writes s o x y l (with_log l v) old new (Err e)
  updates_fail o x y l v old new r e same a = record {
    ticks = a.ticks;
    told = a.told;
    small = a.small;
    few = a.few;
    own_is = refl;
    master_is = refl;
    wrote = tt;
    full = λ is t later. lacks_front v.last new (length (s.now old 2)) (records_of l.own l.ulog.last (a.ticks ++ later) o.updates) o.taken (a.full (same is) later) t;
  }

  -- no record was taken
  pub updates_alone : (o : Work) (x y : Option (List ℕ)) (l : Logged) (v : Ulog) (old new : S) (u : Unit {0}) → o.taken ≡ [] → Asks s (Ok u) x y l.own o.updates l.ulog v old new → Writes s o x y l (with_log l v) old new (Ok tt)
  updates_alone o x y l v old new u untaken a = record {
    ticks = a.ticks;
    told = a.told;
    small = a.small;
    few = a.few;
    own_is = refl;
    master_is = refl;
    wrote = record {
      each = a.each;
      notes = subst (Notes s l.ulog v old new) (sym (ap (λ (rs : List Record). records_of l.own l.ulog.last a.ticks o.updates ++ rs) untaken ∙ append-nil (records_of l.own l.ulog.last a.ticks o.updates))) a.notes;
      sound = a.notes.writes.sound;
      others = a.notes.writes.others;
    };
    full = λ is. absurd cc;
  }

  -- ---- and the one that was taken

  some_taken : (o : Work) (r : Record) → o.taken ≡ r ∷ [] → (o.taken ≡ []) ⊎ (o.updates ≡ []) → o.updates ≡ []
  some_taken o r is (inl none) = absurd (let e = sym is ∙ none in cc)
  some_taken o r is (inr none) = none

  pub may_append : (o : Work) (x y : Option (List ℕ)) (l : Logged) (v : Ulog) (old mid : S) (r : Record) (u : Unit {0}) → IsFit (Some l) o → o.taken ≡ r ∷ [] → Asks s (Ok u) x y l.own o.updates l.ulog v old mid → MayAppend v r
  may_append o x y l v old mid r u fit is a =
      let none = some_taken o r is fit.alone in
      let same : v.last ≡ l.ulog.last = a.notes.last_is ∙ ap (λ (us : List (List ℕ)). last_of l.ulog.last (records_of l.own l.ulog.last a.ticks us)) none in
      let may : MayAppend l.ulog r = (subst (All (MayAppend l.ulog)) is fit.may) 0 r (omega arith) in
      record { update = may.update; before = may.before ∙ sym same; later = subst (λ (n : ℕ). n < r.stamp) (sym same) may.later }

  notes_then : (u v w : Ulog) (a b c : S) (xs ys : List Record) → Notes s u v a b xs → Notes s v w b c ys → Notes s u w a c (xs ++ ys)
  notes_then u v w a b c xs ys first second = record {
    writes = record {
      sound = second.writes.sound;
      means = λ rs m. subst (Means s w c) (append_assoc rs xs ys) (second.writes.means (rs ++ xs) (first.writes.means rs m));
      others = others_then s (Only 2) a b c first.writes.others second.writes.others;
    };
    bytes = λ t. second.bytes t ∙ ap (λ (l : List ℕ). l ++ log_bytes ys) (first.bytes t) ∙ append_assoc (s.now a 2) (log_bytes xs) (log_bytes ys) ∙ ap (λ (l : List ℕ). s.now a 2 ++ l) (sym (flat_map-append record_bytes xs ys));
    last_is = second.last_is ∙ ap (λ (n : ℕ). last_of n ys) first.last_is ∙ sym (last_parts u.last xs ys);
  }

  -- a record at the end has no room
  end_lacks : (a b : S) (size : ℕ) → s.limit b ≡ s.limit a → EndLacks s a b size → s.tells → Lacks s b (length (s.now a 2)) size
  end_lacks a b size same lacks t = ⊎_elim (λ over. inl (omega (arith, ap (λ (f : ℕ → ℕ). f 2) same, over))) (λ full. inr full.1) (lacks t).by

  pub record_too : (o : Work) (x y : Option (List ℕ)) (l : Logged) (v w : Ulog) (old mid new : S) (r : Record) (result : Result (Unit {0}) RecErr) (u : Unit {0}) → o.taken ≡ r ∷ [] → Asks s (Ok u) x y l.own o.updates l.ulog v old mid → OnOk result (Notes s v w mid new (r ∷ [])) → (IsErrOf result Full → EndLacks s mid new (length (record_bytes r))) → s.limit new ≡ s.limit mid
      → Writes s o x y l (with_log l w) old new result
  record_too o x y l v w old mid new r result u is a noted lacks same = record {
    ticks = a.ticks;
    told = a.told;
    small = a.small;
    few = a.few;
    own_is = refl;
    master_is = refl;
    wrote = wrote result noted;
    full = λ full t later.
        let first = records_of l.own l.ulog.last (a.ticks ++ later) o.updates in
        let front : first ≡ records_of l.own l.ulog.last a.ticks o.updates = records_front l.own l.ulog.last a.ticks later o.updates a.each in
        let long : length (s.now mid 2) ≡ length (s.now old 2) + length (log_bytes first) = ap length (a.notes.bytes t) ∙ length-append (s.now old 2) _ ∙ ap (λ (rs : List Record). length (s.now old 2) + length (log_bytes rs)) (sym front) in
        record {
          front = first;
          next = r;
          behind = [];
          parts = ap (λ (rs : List Record). first ++ rs) is;
          full = inr (subst (λ (n : ℕ). Lacks s new n (length (record_bytes r))) long (end_lacks mid new (length (record_bytes r)) same (lacks full) t));
        };
  }
    where
      wrote : (z : Result (Unit {0}) RecErr) → OnOk z (Notes s v w mid new (r ∷ [])) → OnOk z (AreWritten s o a.ticks l (with_log l w) old new)
      wrote (Err e) n = tt
      wrote (Ok z) n =
          let both = notes_then l.ulog v w old mid new (records_of l.own l.ulog.last a.ticks o.updates) (r ∷ []) a.notes n in
          record {
            each = a.each;
            notes = subst (Notes s l.ulog w old new) (ap (λ (rs : List Record). records_of l.own l.ulog.last a.ticks o.updates ++ rs) (sym is)) both;
            sound = both.writes.sound;
            others = both.writes.others;
          }
