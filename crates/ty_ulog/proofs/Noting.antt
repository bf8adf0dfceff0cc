-- Records of requests that updated.
use Rattle.std.proofs.Common.{◌≡◌, inl, inr, ℕ, suc, ◌+◌, ◌-◌, ◌^◌, ◌≤◌, ◌<◌, List, [], ◌∷◌, ◌++◌, length, drop, refl, sym, ap, subst, ◌∙◌, arith, length-append, append_assoc, length-drop, take}
use Rattle.std.specs.Prelude.{max, Result, Ok, Err, OnErr, OnOk}
use Rattle.std.proofs.lemmas.List.{append-nil, nil_from_length}
use Rattle.std.proofs.Math.Seq.{take-length}
use Rattle.std.proofs.lemmas.Bool.{cases_lt}
use Rattle.tc_base.specs.Files.{wrote}
use Rattle.tc_space.specs.declared.space.Space.{Ghosts}
use Rattle.tc_space.specs.Frames.{OnlyWrites, Others, Reads, Refuses, reads_refl, only_writes_refl, only_writes_then, others_refl, others_then}
use Rattle.tc_space.specs.Stores.{Only}
use Rattle.ty_ulog.specs.declared.index.Index.{Index}
use Rattle.ty_ulog.specs.declared.index.Mark.{Mark}
use Rattle.ty_ulog.specs.declared.log.Batch.{Batch}
use Rattle.ty_ulog.specs.declared.log.Ulog.{Ulog}
use Rattle.ty_ulog.specs.declared.record.Record.{Record}
use Rattle.ty_ulog.specs.Records.{record_bytes}
use Rattle.ty_ulog.specs.Log.{log_bytes, AreUpdates, Follow, IsLog, last_of}
use Rattle.ty_ulog.specs.Holding.{Marked, Means, Spread}
use Rattle.ty_ulog.specs.Noting.{record_for, records_of, Notes, MayAppend, EndLacks, Lacks, LacksAt, HasNoStamp, HasNoPlace, Overflows, IsNoted, Gathers, GathersOne, StaysGathered}
use Rattle.ty_ulog.proofs.Marking.{but_last_more, last_parts, log_parts, long_parts, one_few}
use Rattle.ty_ulog.proofs.Rows.{log_grows, log_more, updates_join, follow_join}
use Rattle.ty_ulog.proofs.Taken.{long}

-- records of requests, and of more requests
pub records_more : (own last : ℕ) (ticks later : List ℕ) (asked more : List (List ℕ)) → length ticks ≡ length asked
    → records_of own last (ticks ++ later) (asked ++ more) ≡ records_of own last ticks asked ++ records_of own (last_of last (records_of own last ticks asked)) later more
records_more own last [] later [] more e = refl
records_more own last (t ∷ ticks) later [] more e = absurd (omega (arith, e))
records_more own last [] later (x ∷ asked) more e = absurd (omega (arith, e))
records_more own last (t ∷ ticks) later (x ∷ asked) more e = ap (λ (l : List Record). record_for own last t x ∷ l) (records_more own (max (suc last) t) ticks later asked more (omega (arith, e)))

-- ---- where one of them lacks room

pub stamp_lacks : (held : ℕ) (rs : List Record) (r : Record) → 2 ^ 64 ≤ r.stamp → r.before ≡ held → held ≡ 2 ^ 64 - 1 → HasNoStamp held (rs ++ r ∷ [])
stamp_lacks held rs r late before most = record { front = rs; next = r; behind = []; parts = refl; late = late; before = before; most = most }

-- the first that passes a limit
pub record FirstOver (limit long : ℕ) (rs : List Record) : Type 0 where
  pub front : List Record
  pub next : Record
  pub behind : List Record
  pub parts : rs ≡ front ++ next ∷ behind
  pub over : limit < long + length (log_bytes front) + length (record_bytes next)

pub first_over : (limit long : ℕ) (r : Record) (rs : List Record) → limit < long + length (log_bytes (r ∷ rs)) → FirstOver limit long (r ∷ rs)
first_over limit long r [] over = record { front = []; next = r; behind = []; parts = refl; over = omega (arith, over, length-append (record_bytes r) []) }
first_over limit long r (q ∷ rs) over = elim (cases_lt limit (long + length (record_bytes r))) [
  | inl lt ↦ record { front = []; next = r; behind = q ∷ rs; parts = refl; over = omega (arith, lt) }
  | inr le ↦
      let f = first_over limit (long + length (record_bytes r)) q rs (omega (arith, over, length-append (record_bytes r) (log_bytes (q ∷ rs)))) in
      record { front = r ∷ f.front; next = f.next; behind = f.behind; parts = ap (λ (l : List Record). r ∷ l) f.parts; over = omega (arith, f.over, length-append (record_bytes r) (log_bytes f.front)) }
]

module _ {S : Type 0} (s : Ghosts S) where
  -- behind others
  pub overflows_behind : (held : ℕ) (new : S) (long : ℕ) (rs more : List Record) → Overflows s held new long rs → Overflows s held new long (rs ++ more)
  overflows_behind held new long rs more o = elim o [
    | inl h ↦ inl (record { front = h.front; next = h.next; behind = h.behind ++ more; parts = ap (λ (l : List Record). l ++ more) h.parts ∙ append_assoc h.front (h.next ∷ h.behind) more; late = h.late; before = h.before; most = h.most })
    | inr h ↦ inr (λ t. let p = h t in record { front = p.front; next = p.next; behind = p.behind ++ more; parts = ap (λ (l : List Record). l ++ more) p.parts ∙ append_assoc p.front (p.next ∷ p.behind) more; lacks = p.lacks })
  ]

  -- and in front of others
  pub place_lacks : (new : S) (long : ℕ) (rs more : List Record) → HasNoPlace s new (long + length (log_bytes rs)) more → HasNoPlace s new long (rs ++ more)
  place_lacks new long rs more p = record {
    front = rs ++ p.front;
    next = p.next;
    behind = p.behind;
    parts = ap (λ (l : List Record). rs ++ l) p.parts ∙ sym (append_assoc rs p.front (p.next ∷ p.behind));
    lacks = subst (λ (n : ℕ). Lacks s new n (length (record_bytes p.next))) (omega (arith, long_parts rs p.front)) p.lacks;
  }

  -- bytes that were to come at the end
  pub end_lacks : (old new : S) (at size n : ℕ) → (s.tells → at ≡ length (s.now old 2)) → size ≡ n → LacksAt s old new at size → EndLacks s old new n
  end_lacks old new at size n is e lacks = λ t. subst (λ (k : ℕ). LacksAt s old new k n) (is t) (subst (λ (k : ℕ). LacksAt s old new at k) e lacks)

  -- what waits has no room
  pub room_lacks : (old new : S) (r : Record) (rs : List Record) → s.limit new ≡ s.limit old → EndLacks s old new (length (log_bytes (r ∷ rs))) → s.tells → HasNoPlace s new (length (s.now old 2)) (r ∷ rs)
  room_lacks old new r rs same lacks t = elim (lacks t).by [
    | inl over ↦
        let limit : s.limit new 2 ≡ s.limit old 2 = ap (λ (f : ℕ → ℕ). f 2) same in
        let f = first_over (s.limit old 2) (length (s.now old 2)) r rs over in
        record { front = f.front; next = f.next; behind = f.behind; parts = f.parts; lacks = inl (omega (arith, limit, f.over)) }
    | inr full ↦ record { front = []; next = r; behind = rs; parts = refl; lacks = inr full.1 }
  ]

  -- nothing has changed
  pub index_kept : (u : Ulog) (i : Index) (a : S) → i ≡ u.index → s.sound a → Refuses s (Means s) u (record u { index = i }) a a
  index_kept u i a same sound = inr (subst (λ (k : Index). Reads s (Means s) u (record u { index = k }) a a) (sym same) (reads_refl s (Means s) u a sound))

  pub refused_kept : {A E : Type 0} (r : Result A E) (u : Ulog) (i : Index) (a : S) → i ≡ u.index → s.sound a → OnErr r (Refuses s (Means s) u (record u { index = i }) a a)
  refused_kept (Ok x) u i a same sound = tt
  refused_kept (Err e) u i a same sound = index_kept u i a same sound

  -- ---- from one record to the next

  pub gathers_none : (own : ℕ) (u : Ulog) (a : S) (b : Batch) → b.bytes ≡ [] → b.before ≡ u.last → s.sound a → Gathers s own [] [] u u a a b
  gathers_none own u a b none before sound = record {
    written = [];
    waiting = [];
    parts = refl;
    each = refl;
    bytes_are = none;
    before_is = before;
    few = omega arith;
    updates = tt;
    follow = tt;
    last_is = refl;
    wrote = λ t. sym (append-nil (s.now a 2));
    spread = λ t rs h. subst (λ (l : List Record). Spread u.index.marks 0 0 l) (sym (append-nil rs)) h.spread;
    others = others_refl s (Only 2) a;
    frame = only_writes_refl s a;
    sound = sound;
  }

  -- the records behind one more
  more_parts : (own now : ℕ) (ticks : List ℕ) (asked : List (List ℕ)) (request : List ℕ) (u v : Ulog) (old new : S) (b : Batch) → (g : Gathers s own ticks asked u v old new b)
      → records_of own u.last (ticks ++ now ∷ []) (asked ++ request ∷ []) ≡ (g.written ++ g.waiting) ++ record_for own v.last now request ∷ []
  more_parts own now ticks asked request u v old new b g =
      records_more own u.last ticks (now ∷ []) asked (request ∷ []) g.each
      ∙ ap (λ (l : List Record). l ++ record_for own (last_of u.last l) now request ∷ []) g.parts
      ∙ ap (λ (n : ℕ). (g.written ++ g.waiting) ++ record_for own n now request ∷ []) (sym g.last_is)

  pub gathers_noted : (own now : ℕ) (ticks : List ℕ) (asked : List (List ℕ)) (request : List ℕ) (u v w : Ulog) (old new : S) (b b' : Batch) → Gathers s own ticks asked u v old new b → length b.bytes < 524288
      → IsNoted v w own now request b.bytes b'.bytes → b'.before ≡ b.before → Gathers s own (ticks ++ now ∷ []) (asked ++ request ∷ []) u w old new b'
  gathers_noted own now ticks asked request u v w old new b b' g few n before =
      let r : Record = record_for own v.last now request in
      let joined : (g.written ++ g.waiting) ++ r ∷ [] ≡ g.written ++ (g.waiting ++ r ∷ []) = append_assoc g.written g.waiting (r ∷ []) in
      let later : v.last < max (suc v.last) now = omega arith in
      record {
        written = g.written;
        waiting = g.waiting ++ r ∷ [];
        parts = more_parts own now ticks asked request u v old new b g ∙ joined;
        each = omega (arith, length-append ticks (now ∷ []), length-append asked (request ∷ []), g.each);
        bytes_are = n.bytes ∙ ap (λ (l : List ℕ). l ++ record_bytes r) g.bytes_are ∙ sym (log_more g.waiting r);
        before_is = before ∙ g.before_is;
        few = subst (λ (l : List Record). length (log_bytes l) < 524288) (sym (but_last_more g.waiting r)) (omega (arith, few, ap length g.bytes_are));
        updates = subst AreUpdates joined (updates_join (g.written ++ g.waiting) (r ∷ []) g.updates (n.update, tt));
        follow = subst (Follow u.last) joined (follow_join u.last (g.written ++ g.waiting) (r ∷ []) g.follow (g.last_is, omega (arith, later, g.last_is), tt));
        last_is = n.last_is ∙ sym (last_parts u.last (g.written ++ g.waiting) (r ∷ [])) ∙ ap (last_of u.last) joined;
        wrote = g.wrote;
        spread = λ t rs h. subst (λ (ms : List Mark). Spread ms 0 0 (rs ++ g.written)) (sym (ap (λ (i : Index). i.marks) n.index_is)) (g.spread t rs h);
        others = g.others;
        frame = g.frame;
        sound = g.sound;
      }

  pub note_lacks : (held own now : ℕ) (ticks : List ℕ) (asked : List (List ℕ)) (request : List ℕ) (u v : Ulog) (old a new : S) (b : Batch) → Gathers s own ticks asked u v old a b
      → v.last ≡ 2 ^ 64 - 1 → held ≡ v.last → Overflows s held new (length (s.now old 2)) (records_of own u.last (ticks ++ now ∷ []) (asked ++ request ∷ []))
  note_lacks held own now ticks asked request u v old a new b g most same =
      let late : 2 ^ 64 ≤ max (suc v.last) now = omega (arith, most) in
      inl (subst (HasNoStamp held) (sym (more_parts own now ticks asked request u v old a b g)) (stamp_lacks held (g.written ++ g.waiting) (record_for own v.last now request) late (sym same) (same ∙ most)))

  -- what was gathered stays so behind one more
  pub gathers_one : {A E : Type 0} (r : Result A E) (own now : ℕ) (request : List ℕ) (v w x : Ulog) (old new : S) (b b' c : Batch) → OnOk r (StaysGathered s w x old new b' c) → length b.bytes < 524288
      → IsNoted v w own now request b.bytes b'.bytes → b'.before ≡ b.before → OnOk r (GathersOne s own now request v x old new b c)
  gathers_one (Ok y) own now request v w x old new b b' c keep few n before = λ ticks asked u a h.
      keep own (ticks ++ now ∷ []) (asked ++ request ∷ []) u a (gathers_noted own now ticks asked request u v w a old b b' h few n before)
  gathers_one (Err e) own now request v w x old new b b' c keep few n before = tt

  -- what waits is written
  pub gathers_written : (own : ℕ) (ticks : List ℕ) (asked : List (List ℕ)) (u v w : Ulog) (old a new : S) (b b' : Batch) → Gathers s own ticks asked u v old a b → w.last ≡ v.last
      → (at : ℕ) → (s.tells → at ≡ length (s.now a 2)) → Marked v.index.marks w.index.marks at b.before → (s.tells → s.now new 2 ≡ s.now a 2 ++ b.bytes) → Others s (Only 2) a new → OnlyWrites s a new → s.sound new → b'.bytes ≡ [] → b'.before ≡ w.last → Gathers s own ticks asked u w old new b'
  gathers_written own ticks asked u v w old a new b b' g last at is marked wrote others frame sound none before =
      let all : records_of own u.last ticks asked ≡ (g.written ++ g.waiting) ++ [] = g.parts ∙ sym (append-nil (g.written ++ g.waiting)) in
      let same : g.written ++ g.waiting ≡ (g.written ++ g.waiting) ++ [] = sym (append-nil (g.written ++ g.waiting)) in
      record {
        written = g.written ++ g.waiting;
        waiting = [];
        parts = all;
        each = g.each;
        bytes_are = none;
        before_is = before ∙ last ∙ g.last_is;
        few = omega arith;
        updates = subst AreUpdates same g.updates;
        follow = subst (Follow u.last) same g.follow;
        last_is = last ∙ g.last_is ∙ ap (last_of u.last) same;
        wrote = λ t. wrote t ∙ ap (λ (l : List ℕ). l ++ b.bytes) (g.wrote t) ∙ append_assoc (s.now old 2) (log_bytes g.written) b.bytes
            ∙ ap (λ (l : List ℕ). s.now old 2 ++ l) (ap (λ (l : List ℕ). log_bytes g.written ++ l) g.bytes_are ∙ sym (log_parts g.written g.waiting));
        spread = λ t rs h.
            let long_is : length (s.now a 2) ≡ length (log_bytes (rs ++ g.written)) =
            ap length (g.wrote t) ∙ length-append (s.now old 2) (log_bytes g.written) ∙ omega (arith, ap length h.log.row.parts, long_parts rs g.written) in
            let last_is : b.before ≡ last_of 0 (rs ++ g.written) = g.before_is ∙ ap (λ (n : ℕ). last_of n g.written) h.last_is ∙ sym (last_parts 0 rs g.written) in
            subst (λ (l : List Record). Spread w.index.marks 0 0 l) (append_assoc rs g.written g.waiting)
            (marked (rs ++ g.written) g.waiting (is t ∙ long_is) last_is g.few (g.spread t rs h));
        others = others_then s (Only 2) old a new g.others others;
        frame = only_writes_then s old a new g.frame frame;
        sound = sound;
      }

  pub write_lacks : (held own : ℕ) (ticks : List ℕ) (asked : List (List ℕ)) (u v : Ulog) (old a new : S) (b : Batch) → Gathers s own ticks asked u v old a b → s.limit new ≡ s.limit a
      → (b.bytes ≡ [] → ⊥) → EndLacks s a new (length b.bytes) → Overflows s held new (length (s.now old 2)) (records_of own u.last ticks asked)
  write_lacks held own ticks asked u v old a new b g same some lacks = inr (λ t. subst (HasNoPlace s new (length (s.now old 2))) (sym g.parts) (place_lacks new (length (s.now old 2)) g.written g.waiting (go g.waiting g.bytes_are t)))
    where
      go : (waiting : List Record) → b.bytes ≡ log_bytes waiting → s.tells → HasNoPlace s new (length (s.now old 2) + length (log_bytes g.written)) waiting
      go [] e t = absurd (some e)
      go (r ∷ rs) e t =
          let long_is : length (s.now a 2) ≡ length (s.now old 2) + length (log_bytes g.written) = ap length (g.wrote t) ∙ length-append (s.now old 2) (log_bytes g.written) in
          subst (λ (n : ℕ). HasNoPlace s new n (r ∷ rs)) long_is (room_lacks a new r rs same (subst (EndLacks s a new) (ap length e) lacks) t)

  -- ---- at the end

  pub noted_all : (own : ℕ) (ticks : List ℕ) (asked : List (List ℕ)) (u v : Ulog) (old new : S) (b : Batch) → Gathers s own ticks asked u v old new b → b.bytes ≡ [] → Notes s u v old new (records_of own u.last ticks asked)
  noted_all own ticks asked u v old new b g none = go g.waiting refl
    where
      go : (waiting : List Record) → waiting ≡ g.waiting → Notes s u v old new (records_of own u.last ticks asked)
      go (r ∷ rs) e = absurd (omega (arith, ap length (sym none ∙ g.bytes_are ∙ ap log_bytes (sym e)), length-append (record_bytes r) (log_bytes rs), long r))
      go [] e =
          let all : records_of own u.last ticks asked ≡ g.written = g.parts ∙ ap (λ (l : List Record). g.written ++ l) (sym e) ∙ append-nil g.written in
          let same : g.written ++ g.waiting ≡ g.written = ap (λ (l : List Record). g.written ++ l) (sym e) ∙ append-nil g.written in
          subst (Notes s u v old new) (sym all) (record {
            writes = record {
              sound = g.sound;
              means = λ rs m. (
                m.0,
                record {
                  log = subst (λ (file : List ℕ). IsLog file (rs ++ g.written)) (sym (g.wrote m.0)) (log_grows (s.now old 2) rs g.written m.1.log (subst AreUpdates same g.updates) (subst (λ (n : ℕ). Follow n g.written) m.1.last_is (subst (Follow u.last) same g.follow)));
                  last_is = g.last_is ∙ ap (last_of u.last) same ∙ ap (λ (n : ℕ). last_of n g.written) m.1.last_is ∙ sym (last_parts 0 rs g.written);
                  spread = g.spread m.0 rs m.1;
                },
              );
              others = g.others;
            };
            bytes = λ t. g.wrote t;
            last_is = g.last_is ∙ ap (last_of u.last) same;
          })

  -- one record alone
  pub noted_one : (u v : Ulog) (old new : S) (r : Record) → MayAppend u r → (at : ℕ) → (s.tells → at ≡ length (s.now old 2)) → Marked u.index.marks v.index.marks at u.last
      → v.last ≡ r.stamp → (s.tells → s.now new 2 ≡ s.now old 2 ++ record_bytes r) → Others s (Only 2) old new → s.sound new → Notes s u v old new (r ∷ [])
  noted_one u v old new r may at is marked last wrote others sound =
      let bytes : s.tells → s.now new 2 ≡ s.now old 2 ++ log_bytes (r ∷ []) = λ t. wrote t ∙ ap (λ (l : List ℕ). s.now old 2 ++ l) (sym (append-nil (record_bytes r))) in
      record {
        writes = record {
          sound = sound;
          means = λ rs m. (
            m.0,
            record {
              log = subst (λ (file : List ℕ). IsLog file (rs ++ r ∷ [])) (sym (bytes m.0)) (log_grows (s.now old 2) rs (r ∷ []) m.1.log (may.update, tt) (may.before ∙ m.1.last_is, omega (arith, may.later, m.1.last_is), tt));
              last_is = last ∙ sym (last_parts 0 rs (r ∷ []));
              spread = marked rs (r ∷ []) (is m.0 ∙ ap length m.1.log.row.parts) m.1.last_is (one_few r) m.1.spread;
            },
          );
          others = others;
        };
        bytes = bytes;
        last_is = last;
      }

-- ---- a write at the end

pub wrote_end : (file bytes : List ℕ) (end : ℕ) → end ≡ length file → wrote end bytes file ≡ file ++ bytes
unfolding wrote
wrote_end file bytes end is =
    let behind : length (drop (end + length bytes) file) ≡ 0 = omega (arith, is, length-drop (end + length bytes) file) in
    ap (λ (l : List ℕ). take end file ++ bytes ++ l) (nil_from_length (drop (end + length bytes) file) behind)
    ∙ ap (λ (l : List ℕ). l ++ bytes ++ []) (ap (λ (n : ℕ). take n file) is ∙ take-length file)
    ∙ append-nil (file ++ bytes)
