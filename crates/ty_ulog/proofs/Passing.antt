-- Finding the first record above a timestamp.
use Rattle.std.proofs.Common.{◌≡◌, ℕ, ◌+◌, ◌-◌, ◌≤◌, ◌<◌, List, [], ◌∷◌, ◌++◌, length, drop, refl, sym, ap, subst, ◌∙◌, arith, length-append, length-drop}
use Rattle.std.specs.Prelude.{Option, Some, None}
use Rattle.std.proofs.lemmas.List.{nil_from_length, drop-drop, drop_at}
use Rattle.std.proofs.Math.Seq.{drop-append_seam}
use Rattle.std.proofs.lemmas.Bool.{cond-true, cond-false, lt-ltb, le-ltb}
use Rattle.ty_ulog.specs.declared.reading.Head.{Head}
use Rattle.ty_ulog.specs.declared.record.Record.{Record}
use Rattle.ty_ulog.specs.Records.{record_bytes}
use Rattle.ty_ulog.specs.Log.{log_bytes, AreUpdates, Follow, IsLog, last_of, above}
use Rattle.ty_ulog.specs.Pieces.{Heads}
use Rattle.ty_ulog.specs.Steps.{IsPassed, StartsAt}
use Rattle.ty_ulog.proofs.Marking.{follow_parts, last_grows, log_parts}
use Rattle.ty_ulog.proofs.Taken.{long}

updates_behind : (rs qs : List Record) → AreUpdates (rs ++ qs) → AreUpdates qs
updates_behind [] qs u = u
updates_behind (r ∷ rs) qs u = updates_behind rs qs u.1

-- records up to one that is passed are none above
above_behind : (stamp held : ℕ) (front back : List Record) → Follow held front → last_of held front ≤ stamp → above stamp (front ++ back) ≡ above stamp back
above_behind stamp held [] back f le = refl
above_behind stamp held (r ∷ front) back f le =
    cond-false _ _ _ (le-ltb stamp r.stamp (omega (arith, le, last_grows r.stamp front f.2))) ∙ above_behind stamp r.stamp front back f.2 le

-- from a start
pub passed_start : (file : List ℕ) (rs : List Record) (stamp start : ℕ) → IsLog file rs → StartsAt rs stamp start → IsPassed file rs stamp start start
passed_start file rs stamp start h s =
    let f = follow_parts 0 s.front s.back (subst (Follow 0) s.parts h.follow) in
    let parts : file ≡ log_bytes s.front ++ log_bytes s.back = h.row.parts ∙ ap log_bytes s.parts ∙ log_parts s.front s.back in
    record {
      todo = s.back;
      held = last_of 0 s.front;
      updates = updates_behind s.front s.back (subst AreUpdates s.parts h.row.updates);
      follow = f.1;
      parts = ap (drop start) parts ∙ drop_at (log_bytes s.front) (log_bytes s.back) start (sym s.place_is);
      same = ap (above stamp) s.parts ∙ above_behind stamp 0 s.front s.back f.0 s.passed;
      passed = s.passed;
      near = λ front r behind e le. omega (arith, s.near front r behind e le);
    }

-- it lies inside the file
pub start_inside : (file : List ℕ) (rs : List Record) (stamp start : ℕ) → IsLog file rs → StartsAt rs stamp start → start ≤ length file
start_inside file rs stamp start h s =
    omega (arith, ap length (h.row.parts ∙ ap log_bytes s.parts ∙ log_parts s.front s.back), length-append (log_bytes s.front) (log_bytes s.back), s.place_is)

-- those behind one with a greater timestamp have greater ones
pub all_above : (stamp held : ℕ) (rs : List Record) → stamp ≤ held → Follow held rs → above stamp rs ≡ rs
all_above stamp held [] le f = refl
all_above stamp held (r ∷ rs) le f = cond-true _ _ _ (lt-ltb stamp r.stamp (omega (arith, le, f.1))) ∙ ap (λ (l : List Record). r ∷ l) (all_above stamp r.stamp rs (omega (arith, le, f.1)) f.2)

above_stop : (stamp held : ℕ) (rs : List Record) (r : Record) → stamp < r.stamp → Follow held (r ∷ rs) → above stamp (r ∷ rs) ≡ r ∷ rs
above_stop stamp held rs r lt f = cond-true _ _ _ (lt-ltb stamp r.stamp lt) ∙ ap (λ (l : List Record). r ∷ l) (all_above stamp r.stamp rs (omega (arith, lt)) f.2)

abbrev pub size_in : Option Head → ℕ
size_in (Some x) = x.size
size_in None = 0

abbrev pub stamp_in : Option Head → ℕ
stamp_in (Some x) = x.stamp
stamp_in None = 0

-- a record begins at each place inside the file, and near the start
pub is_near : (file : List ℕ) (rs : List Record) (stamp start at : ℕ) → IsPassed file rs stamp start at → at < length file → at < start + 1048576
is_near file rs stamp start at h inside = go h.todo refl
  where
    go : (todo : List Record) → todo ≡ h.todo → at < start + 1048576
    go [] e = absurd (omega (arith, inside, length-drop at file, ap length (h.parts ∙ ap log_bytes (sym e))))
    go (r ∷ todo) e = omega (arith, h.near [] r todo (sym e) h.passed)

pub passed_more : (file : List ℕ) (rs : List Record) (stamp start at : ℕ) (head : Head) → IsPassed file rs stamp start at → at < length file → Heads (drop at file) (Some head) → head.stamp ≤ stamp → IsPassed file rs stamp start (at + head.size)
passed_more file rs stamp start at head h inside says le = go h.todo refl
  where
    go : (todo : List Record) → todo ≡ h.todo → IsPassed file rs stamp start (at + head.size)
    go [] e = absurd (omega (arith, inside, length-drop at file, ap length (h.parts ∙ ap log_bytes (sym e))))
    go (r ∷ todo) e =
        let u : AreUpdates (r ∷ todo) = subst AreUpdates (sym e) h.updates in
        let f : Follow h.held (r ∷ todo) = subst (Follow h.held) (sym e) h.follow in
        let parts : drop at file ≡ record_bytes r ++ log_bytes todo = h.parts ∙ ap log_bytes (sym e) in
        let is = says r (log_bytes todo) u.0.fits parts in
        let size : head.size ≡ 25 + length r.request = ap size_in is in
        let long_is : head.size ≡ length (record_bytes r) = size ∙ sym (long r) in
        let not_more : r.stamp ≤ stamp = omega (arith, le, ap stamp_in is) in
        record {
          todo = todo;
          held = r.stamp;
          updates = u.1;
          follow = f.2;
          parts = sym (drop-drop head.size at file) ∙ ap (drop head.size) parts ∙ ap (λ (n : ℕ). drop n (record_bytes r ++ log_bytes todo)) long_is ∙ drop-append_seam (record_bytes r) (log_bytes todo);
          same = h.same ∙ ap (above stamp) (sym e) ∙ cond-false _ _ _ (le-ltb stamp r.stamp not_more);
          passed = not_more;
          near = λ front q behind split passed.
              omega (arith, long_is, length-append (record_bytes r) (log_bytes front), h.near (r ∷ front) q behind (sym e ∙ ap (λ (l : List Record). r ∷ l) split) passed);
        }

pub passed_stop : (file : List ℕ) (rs : List Record) (stamp start at : ℕ) (head : Head) → IsPassed file rs stamp start at → at < length file → Heads (drop at file) (Some head) → stamp < head.stamp → drop at file ≡ log_bytes (above stamp rs)
passed_stop file rs stamp start at head h inside says lt = go h.todo refl
  where
    go : (todo : List Record) → todo ≡ h.todo → drop at file ≡ log_bytes (above stamp rs)
    go [] e = absurd (omega (arith, inside, length-drop at file, ap length (h.parts ∙ ap log_bytes (sym e))))
    go (r ∷ todo) e =
        let u : AreUpdates (r ∷ todo) = subst AreUpdates (sym e) h.updates in
        let f : Follow h.held (r ∷ todo) = subst (Follow h.held) (sym e) h.follow in
        let parts : drop at file ≡ log_bytes (r ∷ todo) = h.parts ∙ ap log_bytes (sym e) in
        let is = says r (log_bytes todo) u.0.fits parts in
        parts ∙ ap log_bytes (sym (above_stop stamp h.held todo r (omega (arith, lt, ap stamp_in is)) f) ∙ ap (above stamp) e ∙ sym h.same)

-- where no head is read there are no more records
pub passed_end : (file : List ℕ) (rs : List Record) (stamp start at : ℕ) → IsPassed file rs stamp start at → Heads (drop at file) None → [] ≡ log_bytes (above stamp rs)
passed_end file rs stamp start at h says = go h.todo refl
  where
    go : (todo : List Record) → todo ≡ h.todo → [] ≡ log_bytes (above stamp rs)
    go [] e = ap (λ (l : List Record). log_bytes (above stamp l)) e ∙ ap log_bytes (sym h.same)
    go (r ∷ todo) e =
        let u : AreUpdates (r ∷ todo) = subst AreUpdates (sym e) h.updates in
        let is = says r (log_bytes todo) u.0.fits (h.parts ∙ ap log_bytes (sym e)) in
        absurd cc

-- and none at the end
pub passed_all : (file : List ℕ) (rs : List Record) (stamp start at : ℕ) → IsPassed file rs stamp start at → length file ≤ at → [] ≡ log_bytes (above stamp rs)
passed_all file rs stamp start at h end = go h.todo refl
  where
    go : (todo : List Record) → todo ≡ h.todo → [] ≡ log_bytes (above stamp rs)
    go [] e = ap (λ (l : List Record). log_bytes (above stamp l)) e ∙ ap log_bytes (sym h.same)
    go (r ∷ todo) e = absurd (omega (arith, end, length-drop at file, ap length (h.parts ∙ ap log_bytes (sym e)), length-append (record_bytes r) (log_bytes todo), long r))

pub drop_end : (file : List ℕ) → drop (length file) file ≡ []
drop_end file = let none : length (drop (length file) file) ≡ 0 = omega (arith, length-drop (length file) file) in nil_from_length (drop (length file) file) none
