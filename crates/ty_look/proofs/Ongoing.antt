-- A request that is read in pieces.
use Rattle.std.proofs.Common.{◌≡◌, inl, inr, ℕ, suc, ◌+◌, ◌-◌, ◌*◌, ◌/◌, ◌<◌, ◌≤◌, min, List, [], ◌∷◌, ◌++◌, length, take, drop, Ok, Err, refl, sym, ap, subst, ◌∙◌, append_assoc, arith, length-append, length-drop}
use Rattle.std.specs.Prelude.{Option, Some, None, MatchOption, max}
use Rattle.std.proofs.lemmas.Bool.{le-ltb, lt-ltb, cases_lt, cond-false, cond-true}
use Rattle.std.proofs.lemmas.List.{append-nil, drop-drop}
use Rattle.tc_base.specs.declared.request.Request.{Request}
use Rattle.tc_base.specs.declared.request.Request.TheVariants.{MGet, Misc}
use Rattle.tc_base.specs.declared.fields.NotWhole.{NotWhole}
use Rattle.tc_base.specs.declared.fields.NotWhole.TheVariants.{Part}
use Rattle.tc_base.specs.Reading.{Front, ◌>>=◌, size_at, bytes_at}
use Rattle.tc_base.specs.Bytes.{IsBytes}
use Rattle.ty_wire.specs.declared.reading.Front.{Front as Answer}
use Rattle.ty_wire.specs.declared.reading.Front.TheVariants as front
use Rattle.ty_look.specs.declared.looking.Place.{Place}
use Rattle.ty_look.specs.declared.looking.Seen.{Seen}
use Rattle.ty_wire.specs.Form.{Field, Values, word}
use Rattle.ty_wire.specs.Spelling.{form as form_of, key_text, spelling, Fits}
use Rattle.ty_wire.specs.Prefixes.{IsPart}
use Rattle.ty_wire.specs.Items.{item_at}
use Rattle.ty_wire.specs.Reading.{room, items_at, fields_at, request_at}
use Rattle.ty_wire.specs.Taking.{Takes, IsRead}
use Rattle.ty_look.specs.Seen.{announced_at, GoesOn, ArePart, IsSeen, IsLeast}
use Rattle.ty_wire.proofs.ItemLoops.{one_read, none_read}
use Rattle.ty_wire.proofs.Stays.{Stays, size_stays, bytes_stay, item_stays, rest_is, stays_at}
use Rattle.ty_look.proofs.FieldEnds.{announced_part}
use Rattle.ty_look.proofs.WholeEnds.{lists_at, spelled_exactly, announced_exactly, list_announces, none_announced}
use Rattle.ty_wire.proofs.Answered.{taken, partly, badly, whole}

-- ---- where a list begins

abbrev built : (List (List ℕ) → Request) → Front (List (List ℕ)) → Front Request
built build r = r >>= λ ys. Ok (build ys.0, ys.1)

abbrev Lists : List Field → Type 0
Lists fs = Values fs × List (List ℕ)

abbrev with_values : (fs : List Field) → Values fs → List (List ℕ) → List ℕ → Front (Lists fs)
with_values fs v xs rest = Ok ((v, xs), rest)

build_then : (fs : List Field) (v : Values fs) (build : Lists fs → Request) (r : Front (List (List ℕ))) → ((r >>= λ xs. with_values fs v xs.0 xs.1) >>= λ l. Ok (build l.0, l.1)) ≡ built (λ ys. build (v, ys)) r
build_then fs v build (Ok x) = refl
build_then fs v build (Err e) = refl

pub keys_go_on : (bytes : List ℕ) (n : ℕ) (rest : List ℕ) → size_at 8388606 bytes ≡ Ok (n, rest) → n ≤ 8388606 → GoesOn (record { at = 6; count = n; most = 1048576; left = 33554426 }) (0xC8 ∷ 0x31 ∷ bytes)
unfolding request_at fields_at
keys_go_on bytes n rest e le =
    let s = size_stays 8388606 bytes n rest e in
    record {
      inside = omega (arith, s.inside);
      room = omega (arith, le);
      lists = lists_at 0x31 bytes refl;
      build = λ ys. MGet ys;
      reads = λ more.
          ap (λ (r : Front ℕ). (r >>= λ n. items_at 1048576 n.0 33554426 n.1 >>= λ xs. with_values [] tt xs.0 xs.1) >>= λ l. Ok (MGet l.0.1, l.1)) (s.reads more)
          ∙ build_then [] tt (λ l. MGet l.1) (items_at 1048576 n 33554426 (drop 4 (bytes ++ more)));
    }

-- the fields in front of a misc's arguments
abbrev misc_fields : List Field
misc_fields = key_text ∷ word ∷ []

abbrev name_then : ℕ → ℕ → ℕ → List ℕ → List ℕ → Front (Lists misc_fields)
name_then n o count x rest = items_at 16777216 count (room misc_fields (n, (o, tt))) rest >>= λ xs. with_values misc_fields (x, (o, tt)) xs.0 xs.1

abbrev count_then : ℕ → ℕ → ℕ → List ℕ → Front (Lists misc_fields)
count_then n o count rest = bytes_at n rest >>= λ x. name_then n o count x.0 x.1

abbrev options_then : ℕ → ℕ → List ℕ → Front (Lists misc_fields)
options_then n o rest = size_at (room misc_fields (n, (o, tt)) / 4) rest >>= λ c. count_then n o c.0 c.1

abbrev size_then : ℕ → List ℕ → Front (Lists misc_fields)
size_then n rest = size_at 4294967295 rest >>= λ o. options_then n o.0 o.1

abbrev misc_of : Front (Lists misc_fields) → Front Request
misc_of r = r >>= λ l. Ok (Misc l.0.0.0 l.0.0.1.0 l.0.1, l.1)

-- the numbers in front of a misc's name
record MiscHeads (bytes r3 : List ℕ) (n o count : ℕ) : Type 0 where
  pub inside : 12 ≤ length bytes
  pub behind : r3 ≡ drop 12 bytes
  pub reads : (more : List ℕ) → request_at (0xC8 ∷ 0x90 ∷ (bytes ++ more)) ≡ misc_of (count_then n o count (drop 12 (bytes ++ more)))

misc_heads : (bytes r1 r2 r3 : List ℕ) (n o count left : ℕ) → size_at 1048576 bytes ≡ Ok (n, r1) → size_at 4294967295 r1 ≡ Ok (o, r2) → left ≡ room misc_fields (n, (o, tt)) → size_at (left / 4) r2 ≡ Ok (count, r3) → MiscHeads bytes r3 n o count
unfolding request_at fields_at
misc_heads bytes r1 r2 r3 n o count left e1 e2 room_is e3 =
    let s1 = size_stays 1048576 bytes n r1 e1 in
    let d1 = rest_is (size_at 1048576) bytes n 4 r1 s1 e1 in
    let s2 = stays_at (size_at 4294967295) 4 bytes o 4 s1.inside (subst (λ (l : List ℕ). Stays (size_at 4294967295) l o 4) d1 (size_stays 4294967295 r1 o r2 e2)) in
    let d2 : r2 ≡ drop 8 bytes = rest_is (size_at 4294967295) r1 o 4 r2 (size_stays 4294967295 r1 o r2 e2) e2 ∙ ap (drop 4) d1 ∙ drop-drop 4 4 bytes in
    let s3 = stays_at (size_at (left / 4)) 8 bytes count 4 s2.inside (subst (λ (l : List ℕ). Stays (size_at (left / 4)) l count 4) d2 (size_stays (left / 4) r2 count r3 e3)) in
    record {
      inside = s3.inside;
      behind = rest_is (size_at (left / 4)) r2 count 4 r3 (size_stays (left / 4) r2 count r3 e3) e3 ∙ ap (drop 4) d2 ∙ drop-drop 4 8 bytes;
      reads = λ more.
          let b = bytes ++ more in
          let third : size_at (room misc_fields (n, (o, tt)) / 4) (drop 8 b) ≡ Ok (count, drop 12 b) = ap (λ (k : ℕ). size_at (k / 4) (drop 8 b)) (sym room_is) ∙ s3.reads more in
          ap (λ (r : Front ℕ). misc_of (r >>= λ x. size_then x.0 x.1)) (s1.reads more)
          ∙ ap (λ (r : Front ℕ). misc_of (r >>= λ x. options_then n x.0 x.1)) (s2.reads more)
          ∙ ap (λ (r : Front ℕ). misc_of (r >>= λ x. count_then n o x.0 x.1)) third;
    }

pub arguments_go_on : (bytes r1 r2 r3 : List ℕ) (n o count left : ℕ) → size_at 1048576 bytes ≡ Ok (n, r1) → size_at 4294967295 r1 ≡ Ok (o, r2) → left ≡ 33554418 - n → size_at (left / 4) r2 ≡ Ok (count, r3) → n ≤ length r3 → count ≤ left / 4
    → GoesOn (record { at = 14 + n; count = count; most = 16777216; left = left }) (0xC8 ∷ 0x90 ∷ bytes)
arguments_go_on bytes r1 r2 r3 n o count left e1 e2 is e3 there le =
    let room_is : left ≡ room misc_fields (n, (o, tt)) = omega (arith, is) in
    let h = misc_heads bytes r1 r2 r3 n o count left e1 e2 room_is e3 in
    let all : bytes_at n r3 ≡ Ok (take n r3, drop n r3) = cond-false _ _ _ (le-ltb _ _ there) in
    let s = stays_at (bytes_at n) 12 bytes (take n r3) n h.inside (subst (λ (l : List ℕ). Stays (bytes_at n) l (take n r3) n) h.behind (bytes_stay n r3 (take n r3) (drop n r3) all)) in
    let at : suc (suc (12 + n)) ≡ 14 + n = omega arith in
    record {
      inside = omega (arith, s.inside);
      room = omega (arith, le);
      lists = lists_at 0x90 bytes refl;
      build = λ ys. Misc (take n r3) o ys;
      reads = λ more.
          let b = bytes ++ more in
          h.reads more
          ∙ ap (λ (r : Front (List ℕ)). misc_of (r >>= λ x. name_then n o count x.0 x.1)) (s.reads more)
          ∙ build_then misc_fields (take n r3, (o, tt)) (λ l. Misc l.0.0 l.0.1.0 l.1) (items_at 16777216 count (room misc_fields (n, (o, tt))) (drop (12 + n) b))
          ∙ ap (λ (k : ℕ). built (λ ys. Misc (take n r3) o ys) (items_at 16777216 count k (drop (12 + n) b))) (sym room_is)
          ∙ ap (λ (l : List ℕ). built (λ ys. Misc (take n r3) o ys) (items_at 16777216 count left l)) (ap (λ (k : ℕ). drop k (0xC8 ∷ 0x90 ∷ b)) at);
    }

-- ---- one text further on

regrouped : (build : List (List ℕ) → Request) (x : List ℕ) (r : Front (List (List ℕ))) → built build (r >>= λ xs. Ok (x ∷ xs.0, xs.1)) ≡ built (λ ys. build (x ∷ ys)) r
regrouped build x (Ok y) = refl
regrouped build x (Err e) = refl

pub passed : (p q : Place) (bytes : List ℕ) (n limit : ℕ) (x rest : List ℕ) → GoesOn p bytes → p.count ≡ suc n → limit ≡ min p.most (p.left - 4 * p.count) → item_at limit (drop p.at bytes) ≡ Ok (x, rest)
    → q.at ≡ p.at + 4 + length x → q.left ≡ p.left - 4 - length x → q.count ≡ n → q.most ≡ p.most → length x ≤ limit → GoesOn q bytes
passed p q bytes n limit x rest g is small e at left count most short =
    let s = stays_at (item_at limit) p.at bytes x (4 + length x) g.inside (item_stays limit (drop p.at bytes) x rest e) in
    let limit_is : limit ≡ min p.most (p.left - 4 * suc n) = small ∙ ap (λ (k : ℕ). min p.most (p.left - 4 * k)) is in
    let at_is : p.at + (4 + length x) ≡ q.at = omega (arith, at) in
    record {
      inside = omega (arith, s.inside, at);
      room = omega (arith, g.room, small, is, count, left, short);
      lists = g.lists;
      build = λ ys. g.build (x ∷ ys);
      reads = λ more.
          let b = bytes ++ more in
          let read : item_at (min p.most (p.left - 4 * suc n)) (drop p.at b) ≡ Ok (x, drop q.at b) = ap (λ (k : ℕ). item_at k (drop p.at b)) (sym limit_is) ∙ s.reads more ∙ ap (λ (k : ℕ). Ok (x, drop k b)) at_is in
          g.reads more ∙ ap (λ (k : ℕ). built g.build (items_at p.most k p.left (drop p.at b))) is
          ∙ ap (built g.build) (one_read p.most n p.left (drop p.at b) x (drop q.at b) read)
          ∙ regrouped g.build x (items_at p.most n (p.left - 4 - length x) (drop q.at b))
          ∙ ap (λ (k : ℕ). built (λ ys. g.build (x ∷ ys)) (items_at p.most n k (drop q.at b))) (sym left)
          ∙ ap (λ (k : ℕ). built (λ ys. g.build (x ∷ ys)) (items_at p.most k q.left (drop q.at b))) (sym count)
          ∙ ap (λ (k : ℕ). built (λ ys. g.build (x ∷ ys)) (items_at k q.count q.left (drop q.at b))) (sym most);
    }

-- ---- what stands at the front

now_reads : (p : Place) (bytes : List ℕ) (g : GoesOn p bytes) → request_at bytes ≡ built g.build (items_at p.most p.count p.left (drop p.at bytes))
now_reads p bytes g =
    ap request_at (sym (append-nil bytes)) ∙ g.reads [] ∙ ap (λ (l : List ℕ). built g.build (items_at p.most p.count p.left (drop p.at l))) (append-nil bytes)

pub all_passed : (p : Place) (bytes : List ℕ) → GoesOn p bytes → p.count ≡ 0 → IsRead bytes (front.Whole p.at)
all_passed p bytes g none = (g.build [], g.inside, now_reads p bytes g ∙ ap (λ (k : ℕ). built g.build (items_at p.most k p.left (drop p.at bytes))) none)

pub stopped : (p : Place) (bytes : List ℕ) (n limit : ℕ) (d : NotWhole) → GoesOn p bytes → p.count ≡ suc n → limit ≡ min p.most (p.left - 4 * p.count) → item_at limit (drop p.at bytes) ≡ Err d → request_at bytes ≡ Err d
stopped p bytes n limit d g is small e =
    let limit_is : limit ≡ min p.most (p.left - 4 * suc n) = small ∙ ap (λ (k : ℕ). min p.most (p.left - 4 * k)) is in
    let read : item_at (min p.most (p.left - 4 * suc n)) (drop p.at bytes) ≡ Err d = ap (λ (k : ℕ). item_at k (drop p.at bytes)) (sym limit_is) ∙ e in
    now_reads p bytes g ∙ ap (λ (k : ℕ). built g.build (items_at p.most k p.left (drop p.at bytes))) is
    ∙ ap (built g.build) (none_read p.most n p.left (drop p.at bytes) d read)

-- ---- whatever comes behind

part_front : (bytes more all : List ℕ) → IsPart (bytes ++ more) all → IsPart bytes all
part_front bytes more all p = (more ++ p.0, omega (arith, p.1, length-append more p.0), p.2 ∙ append_assoc bytes more p.0)

pub going_more : (p : Place) (bytes more : List ℕ) → GoesOn p bytes → GoesOn p (bytes ++ more)
going_more p bytes more g = record {
  inside = omega (arith, g.inside, length-append bytes more);
  room = g.room;
  lists = λ r fits p. g.lists r fits (part_front bytes more (spelling r) p);
  build = g.build;
  reads = λ rest.
      let e = append_assoc bytes more rest in
      ap request_at e ∙ g.reads (more ++ rest) ∙ ap (λ (l : List ℕ). built g.build (items_at p.most p.count p.left (drop p.at l))) (sym e);
}

part_more : (n : ℕ) (bytes more : List ℕ) → ArePart n bytes → ArePart n (bytes ++ more)
part_more n bytes more part rest short =
    let e = append_assoc bytes more rest in
    ap request_at e ∙ part (more ++ rest) (omega (arith, short, ap length e))

goes_on_more : (list : Option Place) (bytes more : List ℕ) → MatchOption list (Unit {0}) (λ p. GoesOn p bytes) → MatchOption list (Unit {0}) (λ p. GoesOn p (bytes ++ more))
goes_on_more None bytes more g = tt
goes_on_more (Some p) bytes more g = going_more p bytes more g

pub seen_more : (seen : Seen) (bytes more : List ℕ) → IsSeen seen bytes → IsSeen seen (bytes ++ more)
seen_more seen bytes more s = record { part = part_more seen.least bytes more s.part; exact = λ r fits p. s.exact r fits (part_front bytes more (spelling r) p); goes_on = goes_on_more seen.list bytes more s.goes_on }

-- ---- how many bytes a text needs

short_text : (p : Place) (bytes : List ℕ) (n limit s : ℕ) (rest more : List ℕ) → GoesOn p bytes → p.count ≡ suc n → limit ≡ min p.most (p.left - 4 * p.count) → size_at limit (drop p.at bytes) ≡ Ok (s, rest)
    → length (bytes ++ more) < p.at + 4 + s → request_at (bytes ++ more) ≡ Err Part
short_text p bytes n limit s rest more g is small e short =
    let b = bytes ++ more in
    let a = stays_at (size_at limit) p.at bytes s 4 g.inside (size_stays limit (drop p.at bytes) s rest e) in
    let lack : length (drop (p.at + 4) b) < s = omega (arith, short, length-drop (p.at + 4) b, a.inside, length-append bytes more) in
    let lacks : bytes_at s (drop (p.at + 4) b) ≡ Err Part = cond-true _ _ _ (lt-ltb _ _ lack) in
    let item : item_at limit (drop p.at b) ≡ Err Part = ap (λ (r : Front ℕ). r >>= λ x. bytes_at x.0 x.1) (a.reads more) ∙ lacks in
    stopped p b n limit Part (going_more p bytes more g) is small item

-- one more byte than there are, or more
pub next_or : (bytes : List ℕ) (n least : ℕ) → request_at bytes ≡ Err Part → ArePart n bytes → least ≤ max (length bytes + 1) n → ArePart least bytes
next_or bytes n least now part le [] short = ap request_at (append-nil bytes) ∙ now
next_or bytes n least now part le (y ∷ more) short = part (y ∷ more) (omega (arith, short, le, length-append bytes (y ∷ more)))

pub text_ends : (p : Place) (bytes : List ℕ) (n limit s least : ℕ) (rest : List ℕ) → GoesOn p bytes → request_at bytes ≡ Err Part → p.count ≡ suc n → limit ≡ min p.most (p.left - 4 * p.count) → size_at limit (drop p.at bytes) ≡ Ok (s, rest)
    → least ≡ max (length bytes + 1) (p.at + 4 + s) → ArePart least bytes
text_ends p bytes n limit s least rest g part is small e at = next_or bytes (p.at + 4 + s) least part (λ more short. short_text p bytes n limit s rest more g is small e short) (omega (arith, at))

-- ---- what `look` answers

pub still_part : (n : ℕ) (bytes : List ℕ) → ArePart n bytes → length bytes < n → request_at bytes ≡ Err Part
still_part n bytes part short = ap request_at (sym (append-nil bytes)) ∙ part [] (omega (arith, short, ap length (append-nil bytes)))

pub is_taken : (bytes : List ℕ) (f : Answer) → IsBytes bytes → IsRead bytes f → Takes bytes f
is_taken bytes (front.Whole n) fits e =
    let t = taken bytes e.0 (drop n bytes) fits e.2 in
    (e.0, t.fits, omega (arith, t.len, length-drop n bytes, e.1), (drop n bytes, t.parts))
is_taken bytes front.Part fits e = partly bytes fits e
is_taken bytes front.Bad fits e = badly bytes e

needed : (n : ℕ) (bytes : List ℕ) → ArePart n bytes → (r : Request) → Fits r → IsPart bytes (spelling r) → n ≤ length (spelling r)
needed n bytes part r fits begins = elim (cases_lt (length (spelling r)) n) [
  | inl short ↦
      let lacks : request_at (bytes ++ begins.0) ≡ Err Part = part begins.0 (omega (arith, short, ap length begins.2)) in
      let there : request_at (bytes ++ begins.0) ≡ Ok (r, []) = whole (bytes ++ begins.0) r [] fits (sym begins.2 ∙ sym (append-nil (spelling r))) in
      absurd cc
  | inr enough ↦ enough
]

pub least_is : (seen : Seen) (bytes : List ℕ) (f : Answer) → IsSeen seen bytes → (f ≡ front.Part → length bytes < seen.least) → IsLeast seen.least bytes f
least_is seen bytes (front.Whole m) s more = tt
least_is seen bytes front.Part s more =
    (more refl, λ r fits p. (needed seen.least bytes s.part r fits p, λ sizes. spelled_exactly seen.least (length bytes) r (s.exact r fits p) sizes (more refl)))
least_is seen bytes front.Bad s more = tt

-- what was announced is seen
pub seen_anew : (seen : Seen) (bytes : List ℕ) (least : ℕ) (f : Answer) → IsSeen seen bytes → IsRead bytes f → f ≡ front.Part → least ≡ max (announced_at bytes) (length bytes + 1) → IsSeen (record seen { least = least }) bytes
seen_anew seen bytes least f s e is at = record {
  part = next_or bytes (announced_at bytes) least (subst (IsRead bytes) is e) (announced_part bytes) (omega (arith, at));
  exact = λ r fits p. announced_exactly r fits bytes p least at;
  goes_on = s.goes_on;
}

-- a list was gone on with
pub seen_on : (seen : Seen) (bytes : List ℕ) (p : Place) (least : ℕ) → GoesOn p bytes → ArePart least bytes → IsSeen (record seen { least = least; list = Some p }) bytes
seen_on seen bytes p least g part = record {
  part = part;
  exact = λ r fits q. list_announces least (form_of r) (g.lists r fits q);
  goes_on = g;
}

pub seen_new : (bytes : List ℕ) → IsSeen (record { least = 0; list = None }) bytes
seen_new bytes = record {
  part = λ more short. absurd (omega (arith, short));
  exact = λ r fits q. none_announced (form_of r);
  goes_on = tt;
}
