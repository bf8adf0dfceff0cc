-- Bytes of a file that are read in pieces.
use Rattle.std.proofs.Common.{Err, ◌≡◌, ℕ, ◌+◌, ◌-◌, ◌≤◌, ◌<◌, inl, inr, List, [], ◌∷◌, ◌++◌, length, take, drop, refl, sym, ap, subst, ◌∙◌, arith, length-append, length-drop}
use Rattle.std.specs.Prelude.{Option, Some, None, IfSome, min}
use Rattle.std.proofs.lemmas.List.{take-append-le, take-append-drop, take-take, drop-take, drop-drop, length-take}
use Rattle.std.proofs.Math.Seq.{take-add, take-append_seam}
use Rattle.tc_base.specs.declared.fields.NotWhole.TheVariants as not_whole
use Rattle.ty_wire.specs.Reading.{request_at}
use Rattle.ty_wire.proofs.Requests.{exact_request}
use Rattle.ty_ulog.specs.declared.ahead.Ahead.{Ahead}
use Rattle.ty_ulog.specs.declared.heads.Piece.{Piece}
use Rattle.ty_ulog.specs.declared.reading.Head.{Head}
use Rattle.ty_ulog.specs.declared.record.Record.{Record}
use Rattle.ty_ulog.specs.Records.{record_bytes}
use Rattle.ty_ulog.specs.Log.{IsUpdate}
use Rattle.ty_ulog.specs.Ongoing.{IsNoPart}
use Rattle.ty_ulog.specs.Updates.{IsUpdating}
use Rattle.ty_ulog.specs.Pieces.{head_of, AreUpdate, HasNone, HasNoUpdate, Heads, IsAhead, IsUpdateAt, MovesOn, Shows}
use Rattle.ty_ulog.proofs.Taken.{long}

-- what is true of what was found
pub some_in : {A : Type 0} (o : Option A) (x : A) (P : A → Type 0) → o ≡ Some x → IfSome o P → P x
some_in {A} o x P e h = subst (λ (q : Option A). IfSome q P) e h

-- ---- what is read behind what is held

pub held_more : (file held new : List ℕ) (at n : ℕ) → held ≡ take (length held) (drop at file) → new ≡ held ++ take n (drop (at + length held) file) → new ≡ take (length held + n) (drop at file)
held_more file held new at n is e =
    e ∙ ap (λ (l : List ℕ). l ++ take n (drop (at + length held) file)) is
    ∙ ap (λ (l : List ℕ). take (length held) (drop at file) ++ take n l) (sym (drop-drop (length held) at file))
    ∙ sym (take-add (length held) n (drop at file))

take_none : (l : List ℕ) → [] ≡ take 0 l
take_none [] = refl
take_none (b ∷ l) = refl

-- nothing was read yet
pub ahead_none : (a : Ahead) (file : List ℕ) → a.held.items ≡ [] → a.end ≡ length file → IsAhead a file
ahead_none a file none end = record { end_is = end; shows = none ∙ take_none (drop a.at file) ∙ ap (λ (k : ℕ). take k (drop a.at file)) (sym (ap (λ (l : List ℕ). length l) none)) }

-- the bytes that are held are those of a file that is the same
pub ahead_same : (a : Ahead) (f h : List ℕ) → h ≡ f → IsAhead a f → IsAhead a h
ahead_same a f h e is = subst (IsAhead a) (sym e) is

pub ahead_more : (a b : Ahead) (file : List ℕ) (n : ℕ) → IsAhead a file → b.at ≡ a.at → b.end ≡ a.end → b.held.items ≡ a.held.items ++ take n (drop (a.at + length a.held.items) file) → a.at + length a.held.items + n ≤ length file → IsAhead b file
ahead_more a b file n h at end is inside =
    let rest : List ℕ = drop (a.at + length a.held.items) file in
    let long : length b.held.items ≡ length a.held.items + n = omega (arith, ap length is, length-append a.held.items (take n rest), length-take n rest, length-drop (a.at + length a.held.items) file, inside) in
    record {
      end_is = end ∙ h.end_is;
      shows = held_more file a.held.items b.held.items a.at n h.shows is ∙ ap (λ (k : ℕ). take k (drop a.at file)) (sym long) ∙ ap (λ (k : ℕ). take (length b.held.items) (drop k file)) (sym at);
    }

pub read_as : (piece : List ℕ) (from k n : ℕ) (file : List ℕ) → piece ≡ take k (drop from file) → k ≡ n → piece ≡ take n (drop from file)
read_as piece from k n file e is = e ∙ ap (λ (i : ℕ). take i (drop from file)) is

-- what was read is added to them
pub added : (file held src new piece : List ℕ) (at from n : ℕ) → new ≡ held ++ src → src ≡ piece → piece ≡ take n (drop from file) → from ≡ at + length held → new ≡ held ++ take n (drop (at + length held) file)
added file held src new piece at from n e is read place =
    e ∙ ap (λ (l : List ℕ). held ++ l) (is ∙ read) ∙ ap (λ (k : ℕ). held ++ take n (drop k file)) place

pub added_long : (held src new piece : List ℕ) (n : ℕ) → new ≡ held ++ src → src ≡ piece → length piece ≡ n → length new ≡ length held + n
added_long held src new piece n e is long = omega (arith, ap length e, length-append held src, ap length is, long)

-- what is held, at the place and of the file of before
pub shows_from : (a b : Ahead) (f h : List ℕ) → b.at ≡ a.at → f ≡ h → IsAhead b f → b.held.items ≡ take (length b.held.items) (drop a.at h)
shows_from a b f h at same is = is.shows ∙ (λ i. take (length b.held.items) (drop (at i) (same i)))

-- so many are passed
pub ahead_passed : (a b : Ahead) (file : List ℕ) (n : ℕ) → IsAhead a file → b.at ≡ a.at + n → b.end ≡ a.end → b.held.items ≡ drop n a.held.items → n ≤ length a.held.items → IsAhead b file
ahead_passed a b file n h at end is le =
    let sum : length a.held.items ≡ n + length b.held.items = omega (arith, ap length is, length-drop n a.held.items) in
    record {
      end_is = end ∙ h.end_is;
      shows = is ∙ ap (drop n) h.shows ∙ ap (λ (k : ℕ). drop n (take k (drop a.at file))) sum ∙ drop-take n (length b.held.items) (drop a.at file)
          ∙ ap (take (length b.held.items)) (drop-drop n a.at file) ∙ ap (λ (k : ℕ). take (length b.held.items) (drop k file)) (sym at);
    }

-- ---- a record's head

-- the first 25 bytes of what is held
pub front_is : (file held : List ℕ) (at : ℕ) → held ≡ take (length held) (drop at file) → 25 ≤ length held → take 25 held ≡ take 25 (drop at file)
front_is file held at is le = ap (take 25) is ∙ take-take 25 (length held) (drop at file) le

-- are the record's
pub head_is : (bytes rest front : List ℕ) (r : Record) → bytes ≡ record_bytes r ++ rest → front ≡ take 25 bytes → front ≡ take 25 (record_bytes r)
head_is bytes rest front r parts read =
    let le : 25 ≤ length (record_bytes r) = omega (arith, long r) in
    read ∙ ap (take 25) parts ∙ take-append-le 25 (record_bytes r) rest le

-- what is held shows them
pub head_held : (a b : Ahead) (file bytes : List ℕ) → b.at ≡ a.at → IsAhead b file → 25 ≤ length b.held.items → bytes ≡ b.held.items → (r : Record) (rest : List ℕ) → drop a.at file ≡ record_bytes r ++ rest → take 25 bytes ≡ take 25 (record_bytes r)
head_held a b file bytes at h le is r rest parts =
    ap (take 25) is ∙ head_is (drop b.at file) rest (take 25 b.held.items) r (ap (λ (n : ℕ). drop n file) at ∙ parts) (front_is file b.held.items b.at h.shows le)

-- it ends inside the file
pub inside_is : (file rest : List ℕ) (at : ℕ) (r : Record) → drop at file ≡ record_bytes r ++ rest → 25 + length r.request ≤ length file - at
inside_is file rest at r parts = omega (arith, ap length parts, length-drop at file, length-append (record_bytes r) rest, long r)

-- where too few bytes are left no record stands
pub none_short : (file : List ℕ) (at end : ℕ) → end ≡ length file → end - at < 25 → Heads (drop at file) None
none_short file at end is lt r rest f parts = absurd (omega (arith, inside_is file rest at r parts, is, lt))

abbrev size_in : Option Head → ℕ
size_in (Some h) = h.size
size_in None = 0

-- nor where the record would pass the end
pub none_long : (file : List ℕ) (at end : ℕ) (head : Head) → end ≡ length file → Heads (drop at file) (Some head) → end - at < head.size → Heads (drop at file) None
none_long file at end head is heads lt r rest f parts = absurd (omega (arith, ap size_in (heads r rest f parts), inside_is file rest at r parts, is, lt))

-- ---- a request that is there in part

-- bytes of a record behind its head
behind_head : (bytes rest : List ℕ) (r : Record) → bytes ≡ record_bytes r ++ rest → drop 25 bytes ≡ r.request ++ rest
unfolding record_bytes
behind_head bytes rest r parts = ap (drop 25) parts

-- what is held of a request that isn't there in full is read as a part
part_is : (q : List ℕ) (k : ℕ) → IsUpdating q → k < length q → request_at (take k q) ≡ Err not_whole.Part
part_is q k u lt = exact_request.cut u.request (take k q) (drop k q) (omega (arith, length-drop k q, lt)) (u.fits, take-append-drop k q ∙ u.spells)

-- so where it isn't, no update of that size stands there
pub none_so : (file held : List ℕ) (at size : ℕ) → held ≡ take (length held) (drop at file) → 25 ≤ length held → length held < size → IsNoPart (drop 25 held) → HasNone (drop at file) size
none_so file held at size is le lt other r rest u long_is parts =
    let few : length held - 25 ≤ length r.request = omega (arith, lt, long_is) in
    let sum : length held ≡ 25 + (length held - 25) = omega (arith, le) in
    let part : drop 25 held ≡ take (length held - 25) r.request =
    ap (drop 25) (is ∙ ap (λ (n : ℕ). take n (drop at file)) sum) ∙ drop-take 25 (length held - 25) (drop at file)
    ∙ ap (take (length held - 25)) (behind_head (drop at file) rest r parts) ∙ take-append-le (length held - 25) r.request rest few in
    other (ap request_at part ∙ part_is r.request (length held - 25) u.updating (omega (arith, lt, long_is, le)))

-- ---- one update

-- its head says how many bytes it has
pub size_of : (bytes : List ℕ) (u : Head) → AreUpdate bytes u → u.size ≡ length bytes
size_of bytes u are = ap (λ (h : Head). h.size) are.head_is ∙ sym (long are.it) ∙ ap length (sym are.is)

-- as many bytes as the record's head says are the record
pub is_there : (file held bytes : List ℕ) (at : ℕ) (head : Head) → held ≡ take (length held) (drop at file) → bytes ≡ take head.size held → head.size ≤ length held → AreUpdate bytes head → IsUpdateAt file at head
is_there file held bytes at head is front le u =
    let read : bytes ≡ take head.size (drop at file) = front ∙ ap (take head.size) is ∙ take-take head.size (length held) (drop at file) le in
    record {
      it = u.it;
      update = u.update;
      parts = sym (take-append-drop head.size (drop at file)) ∙ ap (λ (l : List ℕ). l ++ drop head.size (drop at file)) (sym read ∙ u.is) ∙ ap (λ (l : List ℕ). record_bytes u.it ++ l) (drop-drop head.size at file);
      head_is = u.head_is;
    }

pub update_there : (file held bytes : List ℕ) (at n : ℕ) (u : Head) → held ≡ take (length held) (drop at file) → bytes ≡ take n held → n ≤ length held → AreUpdate bytes u → IsUpdateAt file at u
update_there file held bytes at n u is front le are =
    let size : u.size ≡ n = omega (arith, size_of bytes u are, ap length front, length-take n held, le) in
    is_there file held bytes at u is (front ∙ ap (λ (k : ℕ). take k held) (sym size)) (omega (arith, size, le)) are

-- where the bytes that the head announces aren't an update, none stands there
pub is_none : (file held bytes : List ℕ) (at : ℕ) (head : Head) → held ≡ take (length held) (drop at file) → bytes ≡ take head.size held → head.size ≤ length held → Heads (drop at file) (Some head)
    → ((r : Record) → IsUpdate r → bytes ≡ record_bytes r → ⊥) → HasNoUpdate (drop at file)
is_none file held bytes at head is front le heads none r rest u parts =
    let same : head ≡ head_of r = some_is (heads r rest u.fits parts) in
    let size : head.size ≡ length (record_bytes r) = ap (λ (h : Head). h.size) same ∙ sym (long r) in
    let read : bytes ≡ take head.size (drop at file) = front ∙ ap (take head.size) is ∙ take-take head.size (length held) (drop at file) le in
    none r u (read ∙ ap (λ (n : ℕ). take n (drop at file)) size ∙ ap (take (length (record_bytes r))) parts ∙ take-append_seam (record_bytes r) rest)
  where
    some_is : {a b : Head} → Some a ≡ Some b → a ≡ b
    some_is e = cc

-- where none of that size stands there, none does
pub none_of_size : (file : List ℕ) (at : ℕ) (head : Head) → Heads (drop at file) (Some head) → HasNone (drop at file) head.size → HasNoUpdate (drop at file)
none_of_size file at head heads none r rest u parts =
    let is = heads r rest u.fits parts in
    let same : head ≡ head_of r = cc in
    none r rest u (sym (ap (λ (h : Head). h.size) same)) parts

-- ---- a piece

-- so many bytes of it are the file's
pub piece_shows : (bytes file : List ℕ) (at end len : ℕ) → len ≡ min 4096 (end - at) → take len bytes ≡ take len (drop at file) → take (min 4096 (end - at)) bytes ≡ take (min 4096 (end - at)) (drop at file)
piece_shows bytes file at end len is shows = subst (λ (n : ℕ). take n bytes ≡ take n (drop at file)) is shows

-- the piece is one of a file that is the same
pub shows_same : (p : Piece) (f h : List ℕ) → h ≡ f → Shows p f → Shows p h
shows_same p f h e is = subst (Shows p) (sym e) is

-- the bytes of a head that lies in it
pub head_in : (file piece : List ℕ) (from len at skip : ℕ) → take len piece ≡ take len (drop from file) → at ≡ from + skip → skip + 25 ≤ len → take 25 (drop skip piece) ≡ take 25 (drop at file)
head_in file piece from len at skip shows is le =
    let same : (l : List ℕ) → take 25 (drop skip (take (skip + (len - skip)) l)) ≡ take 25 (drop skip l) =
    λ l. ap (take 25) (drop-take skip (len - skip) l) ∙ take-take 25 (len - skip) (drop skip l) (omega (arith, le)) in
    let sum : len ≡ skip + (len - skip) = omega (arith, le) in
    sym (same piece) ∙ ap (λ (n : ℕ). take 25 (drop skip (take n piece))) (sym sum) ∙ ap (λ (l : List ℕ). take 25 (drop skip l)) shows
    ∙ ap (λ (n : ℕ). take 25 (drop skip (take n (drop from file)))) sum ∙ same (drop from file) ∙ ap (take 25) (drop-drop skip from file ∙ ap (λ (n : ℕ). drop n file) (sym is))

pub moved_low : (p q : Piece) (at : ℕ) → MovesOn p q at → p.at ≤ at → q.at ≤ at
moved_low p q at moves le = elim moves.0 [ inl e ↦ omega (arith, e, le) | inr e ↦ omega (arith, e) ]

pub moved_below : (p q : Piece) (at limit : ℕ) → MovesOn p q at → p.at < limit → at < limit → q.at < limit
moved_below p q at limit moves lt here = elim moves.0 [ inl e ↦ omega (arith, e, lt) | inr e ↦ omega (arith, e, here) ]

-- the head that a piece shows
pub head_shown : (p : Piece) (file bytes : List ℕ) (at skip : ℕ) → Shows p file → bytes ≡ take 25 (drop skip p.bytes) → at ≡ p.at + skip → at + 25 ≤ p.at + min 4096 (p.end - p.at) → (r : Record) (rest : List ℕ) → drop at file ≡ record_bytes r ++ rest → bytes ≡ take 25 (record_bytes r)
head_shown p file bytes at skip h is place le r rest parts =
    head_is (drop at file) rest bytes r parts (is ∙ head_in file p.bytes p.at (min 4096 (p.end - p.at)) at skip h.shows place (omega (arith, place, le)))
