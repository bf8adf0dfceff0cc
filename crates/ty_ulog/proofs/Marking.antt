-- Marks in a log: one more, and the one from which a timestamp is looked for.
use Rattle.std.proofs.Common.{◌≡◌, ℕ, zero, suc, ◌+◌, ◌-◌, ◌≤◌, ◌<◌, ◌⊎◌, inl, inr, Bool, false, List, [], ◌∷◌, ◌++◌, length, refl, sym, ap, subst, ◌∙◌, arith, length-append, append_assoc}
use Rattle.std.specs.Prelude.{IsTrue, Some, None, take, slice_get, slice_index_or}
use Rattle.std.proofs.lemmas.Bool.{cases_lt}
use Rattle.std.specs.List.{AllWithin}
use Rattle.std.specs.List.Sorted.{IsNonDecreasingBy}
use Rattle.ty_ulog.specs.declared.index.Mark.{Mark}
use Rattle.ty_ulog.specs.declared.record.Record.{Record}
use Rattle.ty_ulog.specs.Records.{record_bytes}
use Rattle.ty_ulog.specs.Log.{log_bytes, last_of, Follow}
use Rattle.ty_ulog.specs.Holding.{but_last, AreFew, AreNear, Marked, Marks, Spread}
use Rattle.ty_ulog.specs.Steps.{last_place, IsParted, NearTo, StartsAt}

-- ---- rows in two parts

pub log_parts : (rs qs : List Record) → log_bytes (rs ++ qs) ≡ log_bytes rs ++ log_bytes qs
log_parts [] qs = refl
log_parts (r ∷ rs) qs = ap (λ (l : List ℕ). record_bytes r ++ l) (log_parts rs qs) ∙ sym (append_assoc (record_bytes r) (log_bytes rs) (log_bytes qs))

pub long_parts : (rs qs : List Record) → length (log_bytes (rs ++ qs)) ≡ length (log_bytes rs) + length (log_bytes qs)
long_parts rs qs = ap length (log_parts rs qs) ∙ length-append (log_bytes rs) (log_bytes qs)

pub last_parts : (held : ℕ) (rs qs : List Record) → last_of held (rs ++ qs) ≡ last_of (last_of held rs) qs
last_parts held [] qs = refl
last_parts held (r ∷ rs) qs = last_parts r.stamp rs qs

pub follow_parts : (held : ℕ) (rs qs : List Record) → Follow held (rs ++ qs) → Follow held rs × Follow (last_of held rs) qs
follow_parts held [] qs f = (tt, f)
follow_parts held (r ∷ rs) qs f = let t = follow_parts r.stamp rs qs f.2 in ((f.0, f.1, t.0), t.1)

pub last_grows : (held : ℕ) (rs : List Record) → Follow held rs → held ≤ last_of held rs
last_grows held [] f = omega arith
last_grows held (r ∷ rs) f = omega (arith, f.1, last_grows r.stamp rs f.2)

-- ---- all but the last

pub but_last_more : (rs : List Record) (r : Record) → but_last (rs ++ r ∷ []) ≡ rs
but_last_more [] r = refl
but_last_more (x ∷ []) r = refl
but_last_more (x ∷ y ∷ rs) r = ap (λ (l : List Record). x ∷ l) (but_last_more (y ∷ rs) r)

but_last_parts : (rs qs : List Record) → length (log_bytes (but_last (rs ++ qs))) ≤ length (log_bytes rs) + length (log_bytes (but_last qs))
but_last_parts [] qs = omega arith
but_last_parts (x ∷ []) [] = omega arith
but_last_parts (x ∷ []) (q ∷ qs) = omega (arith, length-append (record_bytes x) [], length-append (record_bytes x) (log_bytes (but_last (q ∷ qs))))
but_last_parts (x ∷ y ∷ rs) qs =
    omega (arith, but_last_parts (y ∷ rs) qs, length-append (record_bytes x) (log_bytes (y ∷ rs)), length-append (record_bytes x) (log_bytes (but_last (y ∷ rs ++ qs))))

in_front : (front : List Record) (r : Record) (behind : List Record) → length (log_bytes front) ≤ length (log_bytes (but_last (front ++ r ∷ behind)))
in_front [] r behind = omega arith
in_front (x ∷ []) r behind = omega (arith, length-append (record_bytes x) [], length-append (record_bytes x) (log_bytes (but_last (r ∷ behind))))
in_front (x ∷ y ∷ front) r behind =
    omega (arith, in_front (y ∷ front) r behind, length-append (record_bytes x) (log_bytes (y ∷ front)), length-append (record_bytes x) (log_bytes (but_last (y ∷ front ++ r ∷ behind))))

-- of near records each begins near
near_begins : (rs front : List Record) (r : Record) (behind : List Record) → AreNear rs → rs ≡ front ++ r ∷ behind → length (log_bytes front) < 1048576
near_begins rs front r behind near e =
    let h : AreNear (front ++ r ∷ behind) = subst AreNear e near in
    omega (arith, in_front front r behind, h)

pub none_near : AreNear []
none_near = omega arith

pub one_few : (r : Record) → AreFew (r ∷ [])
one_few r = omega arith

few_near : (rs : List Record) → AreFew rs → AreNear rs
few_near rs few = omega (arith, few)

-- ---- more records

abbrev last_in : Mark → List Mark → Mark
last_in m [] = m
last_in m (n ∷ ms) = last_in n ms

last_got : (m : Mark) (ms : List Mark) → slice_get (m ∷ ms) (length ms) ≡ Some (last_in m ms)
last_got m [] = refl
last_got m (n ∷ ms) = last_got n ms

last_placed : (m : Mark) (ms : List Mark) (place : ℕ) → (last_in m ms).place ≡ last_place place (m ∷ ms)
last_placed m [] place = refl
last_placed m (n ∷ ms) place = last_placed n ms m.place

-- the last one's place is the place of the last
pub marks_last : (ms : List Mark) (m : Mark) → Some m ≡ slice_get ms (length ms - 1) → m.place ≡ last_place 0 ms
marks_last [] m e = absurd cc
marks_last (n ∷ ms) m e =
    let at : length (n ∷ ms) - 1 ≡ length ms = omega arith in
    let is : Some m ≡ Some (last_in n ms) = e ∙ ap (λ (i : ℕ). slice_get (n ∷ ms) i) at ∙ last_got n ms in
    let same : m ≡ last_in n ms = cc in
    ap (λ (k : Mark). k.place) same ∙ last_placed n ms 0

pub marks_none : (ms : List Mark) → None ≡ slice_get ms (length ms - 1) → 0 ≡ last_place 0 ms
marks_none [] e = refl
marks_none (n ∷ ms) e =
    let at : length (n ∷ ms) - 1 ≡ length ms = omega arith in
    let is : None ≡ Some (last_in n ms) = e ∙ ap (λ (i : ℕ). slice_get (n ∷ ms) i) at ∙ last_got n ms in
    absurd cc

-- the same mark with more records behind it
abbrev with_more : (m : Mark) (place held : ℕ) (rs more : List Record) → (p : Marks m place held rs) → Marks m place held (rs ++ more)
with_more m place held rs more p = record {
  front = p.front;
  later = p.later ++ more;
  parts = ap (λ (l : List Record). l ++ more) p.parts ∙ append_assoc p.front p.later more;
  near = p.near;
  far = p.far;
  place_is = p.place_is;
  last_is = p.last_is;
}

-- a mark in front of them
pub marked : (ms : List Mark) (m : Mark) (place held : ℕ) (rs more : List Record) → m.place ≡ place + length (log_bytes rs) → m.last ≡ last_of held rs → last_place place ms + 524288 ≤ m.place → AreFew more
    → Spread ms place held rs → Spread (ms ++ m ∷ []) place held (rs ++ more)
marked [] m place held rs more at is far few near = (record { front = rs; later = more; parts = refl; near = near; far = far; place_is = at; last_is = is }, few_near more few)
marked (n ∷ ms) m place held rs more at is far few (p, spread) = (
  with_more n place held rs more p,
  marked ms m n.place n.last p.later more (omega (arith, at, ap (λ (l : List Record). length (log_bytes l)) p.parts, long_parts p.front p.later, p.place_is))
      (is ∙ ap (last_of held) p.parts ∙ last_parts held p.front p.later ∙ ap (λ (h : ℕ). last_of h p.later) (sym p.last_is)) far few spread,
)

-- at the same place
pub marked_at : (ms ns : List Mark) (at place last : ℕ) → at ≡ place → Marked ms ns at last → Marked ms ns place last
marked_at ms ns at place last is m = subst (λ (n : ℕ). Marked ms ns n last) is m

-- none where the last one is near
pub unmarked : (ms : List Mark) (place held : ℕ) (rs more : List Record) → place + length (log_bytes rs) - last_place place ms < 524288 → AreFew more → Spread ms place held rs → Spread ms place held (rs ++ more)
unmarked [] place held rs more short few near = omega (arith, short, few, but_last_parts rs more)
unmarked (n ∷ ms) place held rs more short few (p, spread) = (
  with_more n place held rs more p,
  unmarked ms n.place n.last p.later more (omega (arith, short, ap (λ (l : List Record). length (log_bytes l)) p.parts, long_parts p.front p.later, p.place_is)) few spread,
)

-- where the last one isn't near it is far
pub beyond_near : (place last : ℕ) (near : Bool) → (place - last < 524288 → IsTrue near) → near ≡ false → last + 524288 ≤ place
beyond_near place last near says isnt = elim (cases_lt (place - last) 524288) [
  | inl lt ↦ let t = says lt in absurd cc
  | inr le ↦ omega (arith, le)
]

-- what adding records at a place does to marks
pub marked_near : (ms : List Mark) (place last : ℕ) → place - last_place 0 ms < 524288 → Marked ms ms place last
marked_near ms place last lt = λ rs more at is few spread. unmarked ms 0 0 rs more (omega (arith, at, lt)) few spread

pub marked_pushed : (old new : List Mark) (place last : ℕ) → last_place 0 old + 524288 ≤ place → new ≡ old ++ (record { place = place; last = last }) ∷ [] → Marked old new place last
marked_pushed old new place last far e = λ rs more at is few spread.
    let m : Mark = record { place = place; last = last } in
    subst (λ (ms : List Mark). Spread ms 0 0 (rs ++ more)) (sym e) (marked old m 0 0 rs more (omega (arith, at)) is far few spread)

-- ---- finding a place

-- the place of the mark in front of so many, or this one
abbrev place_at : ℕ → List Mark → ℕ → ℕ
place_at place ms zero = place
place_at place [] (suc i) = place
place_at place (m ∷ ms) (suc i) = place_at m.place ms i

-- it is the last of them
place_taken : (ms : List Mark) (i place : ℕ) → i ≤ length ms → last_place place (take i ms) ≡ place_at place ms i
place_taken [] zero place le = refl
place_taken [] (suc i) place le = absurd (omega (arith, le))
place_taken (m ∷ ms) zero place le = refl
place_taken (m ∷ ms) (suc i) place le = place_taken ms i m.place (omega (arith, le))

-- the timestamps of marks ascend
rises_to : (m : Mark) (place held : ℕ) (rs : List Record) → Marks m place held rs → Follow held rs → held ≤ m.last
rises_to m place held rs p f = omega (arith, last_grows held p.front (follow_parts held p.front p.later (subst (Follow held) p.parts f)).0, p.last_is)

later_follow : (m : Mark) (place held : ℕ) (rs : List Record) → (p : Marks m place held rs) → Follow held rs → Follow m.last p.later
later_follow m place held rs p f = subst (λ (h : ℕ). Follow h p.later) (sym p.last_is) (follow_parts held p.front p.later (subst (Follow held) p.parts f)).1

lasts_from : (ms : List Mark) (place held : ℕ) (rs : List Record) → Follow held rs → Spread ms place held rs → (j : ℕ) (d : Mark) → j < length ms → held ≤ (slice_index_or ms j d).last
lasts_from [] place held rs f spread j d lt = absurd (omega (arith, lt))
lasts_from (m ∷ ms) place held rs f (p, spread) zero d lt = rises_to m place held rs p f
lasts_from (m ∷ ms) place held rs f (p, spread) (suc j) d lt =
    omega (arith, rises_to m place held rs p f, lasts_from ms m.place m.last p.later (later_follow m place held rs p f) spread j d (omega (arith, lt)))

lasts_rise : (ms : List Mark) (place held : ℕ) (rs : List Record) → Follow held rs → Spread ms place held rs → (i j : ℕ) (d : Mark) → i ≤ j → j < length ms → (slice_index_or ms i d).last ≤ (slice_index_or ms j d).last
lasts_rise [] place held rs f spread i j d le lt = absurd (omega (arith, lt))
lasts_rise (m ∷ ms) place held rs f (p, spread) zero zero d le lt = omega arith
lasts_rise (m ∷ ms) place held rs f (p, spread) zero (suc j) d le lt = lasts_from ms m.place m.last p.later (later_follow m place held rs p f) spread j d (omega (arith, lt))
lasts_rise (m ∷ ms) place held rs f (p, spread) (suc i) zero d le lt = absurd (omega (arith, le))
lasts_rise (m ∷ ms) place held rs f (p, spread) (suc i) (suc j) d le lt = lasts_rise ms m.place m.last p.later (later_follow m place held rs p f) spread i j d (omega (arith, le)) (omega (arith, lt))

-- two ways to part a list: the one's front ends first, or the other's
two_parts : (a b front : List Record) (r : Record) (behind : List Record) → a ++ b ≡ front ++ r ∷ behind → ((more : List Record) × (a ≡ front ++ r ∷ more)) ⊎ ((more : List Record) × (front ≡ a ++ more))
two_parts [] b front r behind e = inr (front, refl)
two_parts (x ∷ a) b [] r behind e = let h : x ≡ r = cc in inl (a, ap (λ (q : Record). q ∷ a) h)
two_parts (x ∷ a) b (y ∷ front) r behind e =
    let h : x ≡ y = cc in
    let t : a ++ b ≡ front ++ r ∷ behind = cc in
    elim (two_parts a b front r behind t) [
      | inl s ↦ inl (s.0, λ i. h i ∷ s.1 i)
      | inr s ↦ inr (s.0, λ i. sym h i ∷ s.1 i)
    ]

-- records up to a mark whose timestamp is greater
near_to : (m : Mark) (place held stamp : ℕ) (rs : List Record) → (p : Marks m place held rs) → Follow held rs → stamp < m.last → NearTo stamp held rs
near_to m place held stamp rs p f lt front r behind e passed =
    elim (two_parts p.front p.later front r behind (sym p.parts ∙ e)) [
      | inl s ↦ near_begins p.front front r s.0 p.near s.1
      | inr s ↦ absurd (beyond s.0 s.1)
    ]
  where
    beyond : (more : List Record) → front ≡ p.front ++ more → ⊥
    beyond more is =
        let own = (follow_parts held front (r ∷ behind) (subst (Follow held) e f)).0 in
        let parts = follow_parts held p.front more (subst (Follow held) is own) in
        omega (arith, last_grows (last_of held p.front) more parts.1, last_parts held p.front more, ap (last_of held) is, passed, lt, p.last_is)

-- where records begin at a place behind a timestamp
pub record Starts (rs : List Record) (stamp place held start : ℕ) : Type 0 where
  pub front : List Record
  pub back : List Record
  pub parts : rs ≡ front ++ back
  pub place_is : start ≡ place + length (log_bytes front)
  pub passed : last_of held front ≤ stamp
  pub near : NearTo stamp (last_of held front) back

here : (rs : List Record) (stamp place held : ℕ) → held ≤ stamp → NearTo stamp held rs → Starts rs stamp place held place
here rs stamp place held le near = record { front = []; back = rs; parts = refl; place_is = omega arith; passed = le; near = near }

starts : (ms : List Mark) (i place held stamp : ℕ) (rs : List Record) → held ≤ stamp → Follow held rs → Spread ms place held rs
    → AllWithin (λ (m : Mark). m.last ≤ stamp) ms 0 i → AllWithin (λ (m : Mark). stamp < m.last) ms i (length ms) → Starts rs stamp place held (place_at place ms i)
starts [] zero place held stamp rs le f spread low high = here rs stamp place held le (λ front r behind e passed. near_begins rs front r behind spread e)
starts [] (suc i) place held stamp rs le f spread low high = here rs stamp place held le (λ front r behind e passed. near_begins rs front r behind spread e)
starts (m ∷ ms) zero place held stamp rs le f (p, spread) low high = here rs stamp place held le (near_to m place held stamp rs p f (high 0 m (omega arith) (omega arith)))
starts (m ∷ ms) (suc i) place held stamp rs le f (p, spread) low high =
    let later : Follow m.last p.later = later_follow m place held rs p f in
    let s = starts ms i m.place m.last stamp p.later (low 0 m (omega arith) (omega arith)) later spread (λ k d le lt. low (suc k) d (omega arith) (omega (arith, lt))) (λ k d le lt. high (suc k) d (omega (arith, le)) (omega (arith, lt))) in
    let same : last_of m.last s.front ≡ last_of held (p.front ++ s.front) = ap (λ (h : ℕ). last_of h s.front) p.last_is ∙ sym (last_parts held p.front s.front) in
    record {
      front = p.front ++ s.front;
      back = s.back;
      parts = p.parts ∙ ap (λ (l : List Record). p.front ++ l) s.parts ∙ sym (append_assoc p.front s.front s.back);
      place_is = omega (arith, s.place_is, p.place_is, long_parts p.front s.front);
      passed = omega (arith, s.passed, same);
      near = subst (λ (h : ℕ). NearTo stamp h s.back) same s.near;
    }

starts_at : (rs : List Record) (stamp start : ℕ) → Starts rs stamp 0 0 start → StartsAt rs stamp start
starts_at rs stamp start s = record { front = s.front; back = s.back; parts = s.parts; place_is = omega (arith, s.place_is); passed = s.passed; near = s.near }

-- from the last of the marks that have no greater timestamp on
pub found : (ms : List Mark) (i stamp place : ℕ) → i ≤ length ms → (IsNonDecreasingBy (λ (m : Mark). m.last) ms → IsParted ms stamp i) → place ≡ last_place 0 (take i ms) → (rs : List Record) → Follow 0 rs → Spread ms 0 0 rs → StartsAt rs stamp place
found ms i stamp place le parted is rs f spread =
    let p = parted (λ j k d up lt. lasts_rise ms 0 0 rs f spread j k d up lt) in
    subst (StartsAt rs stamp) (sym (is ∙ place_taken ms i 0 le)) (starts_at rs stamp (place_at 0 ms i) (starts ms i 0 0 stamp rs (omega arith) f spread p.0 p.1))
