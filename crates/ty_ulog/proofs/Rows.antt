-- Records in a row, and a file that is read through.
use Rattle.std.proofs.Common.{◌≡◌, ℕ, zero, suc, ◌+◌, ◌-◌, ◌≤◌, ◌<◌, Bool, true, false, List, [], ◌∷◌, ◌++◌, length, drop, refl, sym, ap, subst, ◌∙◌, arith, length-append, append_assoc, length-drop, inl, inr}
use Rattle.std.specs.Prelude.{◌&&◌}
use Rattle.std.proofs.lemmas.List.{append-nil, length-take, nil_from_length}
use Rattle.std.proofs.lemmas.Bool.{and_parts}
use Rattle.tc_base.proofs.Exact.{same_whole}
use Rattle.tc_base.specs.Reading.{Front}
use Rattle.tc_base.specs.declared.kind.Rule.{Rule}
use Rattle.tc_space.specs.declared.errors.OpenErr.TheVariants as open_err
use Rattle.tc_reach.specs.declared.errors.ReadErr.{ReadErr}
use Rattle.tc_reach.specs.declared.errors.ReadErr.TheVariants as read_err
use Rattle.tc_reach.specs.Errors.{open_of}
use Rattle.ty_ulog.specs.Errors.{broken_at}
use Rattle.ty_ulog.specs.declared.ahead.Ahead.{Ahead}
use Rattle.ty_ulog.specs.declared.index.Mark.{Mark}
use Rattle.ty_ulog.specs.declared.log.Ulog.{Ulog}
use Rattle.ty_ulog.specs.declared.reading.Head.{Head}
use Rattle.ty_ulog.specs.declared.record.Record.{Record}
use Rattle.ty_ulog.specs.Records.{record_at, record_bytes, Fits}
use Rattle.ty_ulog.specs.Log.{log_bytes, AreUpdates, Follow, IsLog, Breaks, BreaksG, no_row, no_order, rule_g, last_of, next_of, records_from, records_in}
use Rattle.ty_ulog.specs.Holding.{Holds, Marked, Spread}
use Rattle.ty_ulog.specs.Pieces.{upto, HasNoUpdate, IsAhead, IsUpdateAt}
use Rattle.ty_ulog.specs.Steps.{IsReadTo}
use Rattle.ty_ulog.proofs.Marking.{log_parts, none_near, one_few}
use Rattle.ty_ulog.proofs.Taken.{whole, long}

pub log_more : (rs : List Record) (r : Record) → log_bytes (rs ++ r ∷ []) ≡ log_bytes rs ++ record_bytes r
log_more rs r = log_parts rs (r ∷ []) ∙ ap (λ (l : List ℕ). log_bytes rs ++ l) (append-nil (record_bytes r))

pub updates_join : (rs qs : List Record) → AreUpdates rs → AreUpdates qs → AreUpdates (rs ++ qs)
updates_join [] qs u v = v
updates_join (r ∷ rs) qs u v = (u.0, updates_join rs qs u.1 v)

pub follow_join : (held : ℕ) (rs qs : List Record) → Follow held rs → Follow (last_of held rs) qs → Follow held (rs ++ qs)
follow_join held [] qs f g = g
follow_join held (r ∷ rs) qs f g = (f.0, f.1, follow_join r.stamp rs qs f.2 g)

-- a log with more records is one
pub log_grows : (file : List ℕ) (rs qs : List Record) → IsLog file rs → AreUpdates qs → Follow (last_of 0 rs) qs → IsLog (file ++ log_bytes qs) (rs ++ qs)
log_grows file rs qs h u f = record {
  row = record { parts = ap (λ (l : List ℕ). l ++ log_bytes qs) h.row.parts ∙ sym (log_parts rs qs); updates = updates_join rs qs h.row.updates u };
  follow = follow_join 0 rs qs h.follow f;
}

last_more : (held : ℕ) (rs : List Record) (r : Record) → last_of held (rs ++ r ∷ []) ≡ r.stamp
last_more held [] r = refl
last_more held (q ∷ rs) r = last_more q.stamp rs r

follow_front : (held : ℕ) (rs : List Record) (r : Record) → Follow held (rs ++ r ∷ []) → Follow held rs × (r.before ≡ last_of held rs) × (last_of held rs < r.stamp)
follow_front held [] r f = (tt, f.0, f.1)
follow_front held (q ∷ rs) r f = let t = follow_front q.stamp rs r f.2 in ((f.0, f.1, t.0), t.1, t.2)

-- two rows that begin alike
pub same_front : (a b : Record) (x y : List ℕ) → Fits a → Fits b → record_bytes a ++ x ≡ record_bytes b ++ y → (a ≡ b) × (x ≡ y)
same_front a b x y f g e =
    let p = whole (record_bytes a ++ x) a x f refl in
    let q = whole (record_bytes a ++ x) b y g e in
    same_whole a b x y (sym p ∙ q)

-- what is left of a whole row behind records of it is a whole row
left_over : (rs qs : List Record) (rest : List ℕ) → AreUpdates rs → AreUpdates qs → log_bytes rs ++ rest ≡ log_bytes qs → (more : List Record) × AreUpdates more × (rest ≡ log_bytes more)
left_over [] qs rest u v e = (qs, v, e)
left_over (r ∷ rs) [] rest u v e = absurd (omega (arith, ap length e, length-append (record_bytes r ++ log_bytes rs) rest, length-append (record_bytes r) (log_bytes rs), long r))
left_over (r ∷ rs) (q ∷ qs) rest u v e =
    let s = same_front r q (log_bytes rs ++ rest) (log_bytes qs) u.0.fits v.0.fits (sym (append_assoc (record_bytes r) (log_bytes rs) rest) ∙ e) in
    left_over rs qs rest u.1 v.1 s.1

-- ---- the records of a file

counted : (rs : List Record) → length rs ≤ length (log_bytes rs)
counted [] = omega arith
counted (r ∷ rs) = omega (arith, counted rs, length-append (record_bytes r) (log_bytes rs), long r)

records_go : (n : ℕ) (rs : List Record) → AreUpdates rs → length rs ≤ n → records_from n (log_bytes rs) ≡ rs
unfolding records_from record_at
records_go zero [] u le = refl
records_go zero (r ∷ rs) u le = absurd (omega (arith, le))
records_go (suc n) [] u le = refl
records_go (suc n) (r ∷ rs) u le =
    ap (λ (f : Front Record). next_of f (records_from n)) (whole (log_bytes (r ∷ rs)) r (log_bytes rs) u.0.fits refl) ∙ ap (λ (l : List Record). r ∷ l) (records_go n rs u.1 (omega (arith, le)))

-- the records of a log are those of which it is one
pub in_once : (file : List ℕ) (rs : List Record) → IsLog file rs → records_in file ≡ rs
unfolding records_in
in_once file rs h = ap (λ (l : List ℕ). records_from (length l) l) h.row.parts ∙ records_go (length (log_bytes rs)) rs h.row.updates (counted rs)

-- ---- reading a file through

none_left : (front file : List ℕ) (at : ℕ) → length file ≤ at → front ++ drop at file ≡ front
none_left front file at end =
    let none : length (drop at file) ≡ 0 = omega (arith, end, length-drop at file) in
    ap (λ (l : List ℕ). front ++ l) (nil_from_length (drop at file) none) ∙ append-nil front

pub read_none : (file : List ℕ) (u : Ulog) → u.last ≡ 0 → u.index.marks ≡ [] → IsReadTo file 0 u true
read_none file u last marks = record { done = []; updates = tt; parts = refl; long = refl; last_is = last; spread = subst (λ (ms : List Mark). Spread ms 0 0 []) (sym marks) none_near; good = λ e. tt; bad = λ e. absurd cc }

pub read_more : (file : List ℕ) (at : ℕ) (u v : Ulog) (head : Head) (b in_order : Bool) → IsReadTo file at u in_order → IsUpdateAt file at head → v.last ≡ head.stamp → Marked u.index.marks v.index.marks at u.last
    → (b ≡ true → (head.before ≡ u.last) × (u.last < head.stamp)) → ((head.before ≡ u.last) × (u.last < head.stamp) → b ≡ true) → IsReadTo file (at + head.size) v (in_order && b)
read_more file at u v head b in_order h here last marked good bad =
    let stamp : head.stamp ≡ here.it.stamp = ap (λ (k : Head). k.stamp) here.head_is in
    let before : head.before ≡ here.it.before = ap (λ (k : Head). k.before) here.head_is in
    let size : head.size ≡ 25 + length here.it.request = ap (λ (k : Head). k.size) here.head_is in
    record {
      done = h.done ++ here.it ∷ [];
      updates = updates_join h.done (here.it ∷ []) h.updates (here.update, tt);
      parts = h.parts ∙ ap (λ (l : List ℕ). log_bytes h.done ++ l) here.parts ∙ sym (append_assoc (log_bytes h.done) (record_bytes here.it) (drop (at + head.size) file)) ∙ ap (λ (l : List ℕ). l ++ drop (at + head.size) file) (sym (log_more h.done here.it));
      long = ap length (log_more h.done here.it) ∙ length-append (log_bytes h.done) (record_bytes here.it) ∙ omega (arith, h.long, long here.it, size);
      last_is = last ∙ stamp ∙ sym (last_more 0 h.done here.it);
      spread = marked h.done (here.it ∷ []) (sym h.long) h.last_is (one_few here.it) h.spread;
      good = λ e.
          let p = and_parts in_order b e in
          let g = good p.1 in
          follow_join 0 h.done (here.it ∷ []) (h.good p.0) (sym before ∙ g.0 ∙ h.last_is, omega (arith, stamp, g.1, h.last_is), tt);
      bad = λ e f. go in_order refl e f stamp before;
    }
  where
    go : (i : Bool) → in_order ≡ i → (i && b) ≡ false → Follow 0 (h.done ++ here.it ∷ []) → head.stamp ≡ here.it.stamp → head.before ≡ here.it.before → ⊥
    go false is e f stamp before = h.bad is (follow_front 0 h.done here.it f).0
    go true is e f stamp before =
        let t = follow_front 0 h.done here.it f in
        let yes : b ≡ true = bad (before ∙ t.1 ∙ sym h.last_is, omega (arith, stamp, t.2, h.last_is)) in
        absurd cc

pub read_moved : (file : List ℕ) (at to : ℕ) (u : Ulog) (b : Bool) → to ≡ at → IsReadTo file at u b → IsReadTo file to u b
read_moved file at to u b is h = subst (λ (n : ℕ). IsReadTo file n u b) (sym is) h

pub read_as : (file : List ℕ) (at : ℕ) (u : Ulog) (b c : Bool) → b ≡ c → IsReadTo file at u b → IsReadTo file at u c
read_as file at u b c is h = subst (IsReadTo file at u) is h

pub read_all : (file : List ℕ) (at : ℕ) (u : Ulog) → length file ≤ at → IsReadTo file at u true → Holds u file (records_in file)
read_all file at u end h =
    let log : IsLog file h.done = record { row = record { parts = h.parts ∙ none_left (log_bytes h.done) file at end; updates = h.updates }; follow = h.good refl } in
    subst (Holds u file) (sym (in_once file h.done log)) (record { log = log; last_is = h.last_is; spread = h.spread })

-- no more bytes are held than the file has
pub upto_inside : (a : Ahead) (file : List ℕ) (u : Ulog) (b : Bool) → IsAhead a file → IsReadTo file a.at u b → upto a ≤ length file
upto_inside a file u b h r =
    omega (arith, ap length h.shows, length-take (length a.held.items) (drop a.at file), length-drop a.at file, ap length r.parts, length-append (log_bytes r.done) (drop a.at file), r.long)

pub read_unordered : (file : List ℕ) (at : ℕ) (u : Ulog) → length file ≤ at → IsReadTo file at u false → BreaksG file (rule_g 2)
read_unordered file at u end h = no_order h.done (record { parts = h.parts ∙ none_left (log_bytes h.done) file at end; updates = h.updates }) (h.bad refl)

pub read_stop : (file : List ℕ) (at : ℕ) (u : Ulog) (b : Bool) → at < length file → IsReadTo file at u b → HasNoUpdate (drop at file) → BreaksG file (rule_g 1)
read_stop file at u b inside h none = no_row (λ rs row. let l = left_over h.done rs (drop at file) h.updates row.updates (sym h.parts ∙ row.parts) in go l.0 l.1 l.2)
  where
    go : (more : List Record) → AreUpdates more → drop at file ≡ log_bytes more → ⊥
    go [] u e = omega (arith, inside, ap length e, length-drop at file)
    go (q ∷ qs) u e = none q (log_bytes qs) u.0 e

-- ---- what a refusal names

names_rule : (n f : ℕ) (rule : Rule) → broken_at n ≡ open_err.Broken f rule → (f ≡ 2) × (rule ≡ rule_g n)
names_rule n f rule e =
    let file : f ≡ 2 = cc in
    let same : rule ≡ rule_g n = cc in
    (file, same)

pub breaks_first : (T : Type 0) (file : List ℕ) → (T → BreaksG file (rule_g 1)) → Breaks T file (broken_at 1)
breaks_first T file b = λ f rule e. let p = names_rule 1 f rule e in (p.0, inl p.1, λ t. subst (BreaksG file) (sym p.1) (b t))

pub breaks_second : (T : Type 0) (file : List ℕ) → (T → BreaksG file (rule_g 2)) → Breaks T file (broken_at 2)
breaks_second T file b = λ f rule e. let p = names_rule 2 f rule e in (p.0, inr p.1, λ t. subst (BreaksG file) (sym p.1) (b t))

-- a fault, or want of memory, names none
pub not_broken : (T : Type 0) (file : List ℕ) (e : ReadErr) → Breaks T file (open_of e)
not_broken T file read_err.Fault = λ f rule e. absurd cc
not_broken T file read_err.Memory = λ f rule e. absurd cc

pub memory_not_broken : (T : Type 0) (file : List ℕ) → Breaks T file open_err.Memory
memory_not_broken T file = λ f rule e. absurd cc
