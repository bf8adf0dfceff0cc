-- What pages show of a file that changes.
use Rattle.std.proofs.Common.{◌≡◌, ◌∙◌, ◌⊎◌, inl, inr, ℕ, ◌+◌, ◌-◌, ◌*◌, ◌/◌, ◌%◌, ◌<◌, ◌≤◌, min, List, [], ◌∷◌, ◌++◌, length, take, drop, set, get_or, refl, sym, ap, subst, append_assoc, take-add, arith}
use Rattle.std.proofs.lemmas.List.{places, same_lists, append-nil, length-append, length-drop, length-set, length-take, length-take-le, length_push, take-take, take_at, take-append-drop, drop-drop, drop-take, drop_at, get_or-set_same, get_or-set_other, get_or_append_left, get_or_push}
use Rattle.std.proofs.lemmas.Bool.{cases_lt, cases_eq, cases_order}
use Rattle.tc_base.specs.Files.{wrote}
use Rattle.tc_realfs.specs.Changes.{PutsOver, SameOutside}
use Rattle.tc_realfs.specs.declared.pages.Page.{Page}
use Rattle.tc_realfs.specs.declared.pages.Pages.{Pages}
use Rattle.tc_realfs.specs.declared.pages.Spot.{Spot}
use Rattle.tc_realfs.specs.Paging.{number, IsIn, ShowsIn, Shows, Lacks, IsSpot, IsPut}

-- bytes in front of a change
front_same : (p v from : ℕ) (old new : List ℕ) → p + v ≤ from → take from new ≡ take from old → take v (drop p old) ≡ take v (drop p new)
front_same p v from old new le e =
    sym (drop-take p v old)
    ∙ ap (λ (l : List ℕ). drop p l) (sym (take-take (p + v) from old le) ∙ ap (λ (l : List ℕ). take (p + v) l) (sym e) ∙ take-take (p + v) from new le)
    ∙ drop-take p v new

-- bytes behind a change
behind_same : (p until : ℕ) (old new : List ℕ) → until ≤ p → drop until new ≡ drop until old → drop p old ≡ drop p new
behind_same p until old new le e =
    let parts : until + (p - until) ≡ p = omega arith in
    ap (λ n. drop n old) (sym parts)
    ∙ sym (drop-drop (p - until) until old)
    ∙ ap (λ (l : List ℕ). drop (p - until) l) (sym e)
    ∙ drop-drop (p - until) until new
    ∙ ap (λ n. drop n new) parts

-- a page outside of a change
pub shown_outside : (slot from until : ℕ) (page : Page) (old new : List ℕ) → SameOutside from until old new → ((number slot page * 4096 + 4096 ≤ from) ⊎ (until ≤ number slot page * 4096)) → ShowsIn slot page old → ShowsIn slot page new
shown_outside slot from until page old new so (inl low) s = record { same = s.same ∙ front_same (number slot page * 4096) (length page.bytes.items) from old new (omega (arith, low, page.short)) so.before }
shown_outside slot from until page old new so (inr high) s = record { same = s.same ∙ ap (λ (l : List ℕ). take (length page.bytes.items) l) (behind_same (number slot page * 4096) until old new high so.behind) }

pub none_shown : (slot : ℕ) (page : Page) (file : List ℕ) → page.bytes.items ≡ [] → ShowsIn slot page file
none_shown slot page file none = record { same = none ∙ ap (λ (l : List ℕ). take (length l) (drop (number slot page * 4096) file)) (sym none) }

pub wrote_before : (at : ℕ) (bytes file : List ℕ) → at ≤ length file → take at (wrote at bytes file) ≡ take at file
unfolding wrote
wrote_before at bytes file fits = same_lists _ _ (grind (arith, places)) (λ i d h. grind (arith, places))

wrote_behind : (at : ℕ) (bytes file : List ℕ) → at ≤ length file → drop (at + length bytes) (wrote at bytes file) ≡ drop (at + length bytes) file
unfolding wrote
wrote_behind at bytes file fits = same_lists _ _ (grind (arith, places)) (λ i d h. grind (arith, places))

pub wrote_outside : (at : ℕ) (bytes file : List ℕ) → at ≤ length file → SameOutside at (at + length bytes) file (wrote at bytes file)
wrote_outside at bytes file fits = record { before = wrote_before at bytes file fits; behind = wrote_behind at bytes file fits }

-- a write seen in a part of a file
pub wrote_in : (p v skip : ℕ) (bytes file : List ℕ) → v ≤ length file - p → skip ≤ v → 0 < v → wrote skip bytes (take v (drop p file)) ≡ take (length (wrote skip bytes (take v (drop p file)))) (drop p (wrote (p + skip) bytes file))
unfolding wrote
wrote_in p v skip bytes file fits le some = same_lists _ _ (grind (arith, places)) (λ i d h. grind (arith, places))

length_wrote : (at n : ℕ) (bytes old : List ℕ) → at ≤ length old → length old ≤ n → at + length bytes ≤ n → length (wrote at bytes old) ≤ n
unfolding wrote
length_wrote at n bytes old le short fits = simp (length-append, length-take, length-drop) (omega arith)

-- bytes put over those of a page are no more than a page
pub put_short : (skip : ℕ) (bytes old new : List ℕ) → PutsOver skip bytes old new → length old ≤ 4096 → skip + length bytes ≤ 4096 → length new ≤ 4096
put_short skip bytes old new (inl none) short fits = let e : length new ≡ 0 = ap length none in omega arith
put_short skip bytes old new (inr put) short fits =
    let e : length new ≡ length (wrote skip bytes old) = ap length put.2 in
    let le : length (wrote skip bytes old) ≤ 4096 = length_wrote skip 4096 bytes old put.1 short fits in
    omega arith

same_slot : (t u s r : ℕ) → s < 24576 → r < 24576 → t * 24576 + s ≡ u * 24576 + r → s ≡ r
same_slot t u s r low high e = omega arith

same_turn : (t u s : ℕ) → t * 24576 + s ≡ u * 24576 + s → t ≡ u
same_turn t u s e = omega arith

beside : (m n at l : ℕ) → n * 4096 ≤ at → at + l ≤ n * 4096 + 4096 → (m ≡ n → ⊥) → (m * 4096 + 4096 ≤ at) ⊎ (at + l ≤ m * 4096)
beside m n at l low high other = elim (cases_order m n) [
  | inl e ↦ absurd (other e)
  | inr ne ↦ elim ne [
    | inl below ↦ inl (omega arith)
    | inr above ↦ inr (omega arith)
  ]
]

-- a page beside the one that is written
other_shown : (slot : ℕ) (page : Page) (n at : ℕ) (bytes file : List ℕ) → n * 4096 ≤ at → at + length bytes ≤ n * 4096 + 4096 → (number slot page ≡ n → ⊥) → at ≤ length file → ShowsIn slot page file → ShowsIn slot page (wrote at bytes file)
other_shown slot page n at bytes file low high other inside s =
    shown_outside slot at (at + length bytes) page file (wrote at bytes file) (wrote_outside at bytes file inside) (beside (number slot page) n at (length bytes) low high other) s

-- the page that is written, if it is the one of that turn
page_written : (spot : Spot) (at : ℕ) (bytes file : List ℕ) (page new : Page) → IsSpot spot at → spot.skip + length bytes ≤ 4096 → IsPut spot.turn spot.skip bytes page new → at ≤ length file → ShowsIn spot.slot page file → ShowsIn spot.slot new (wrote at bytes file)
page_written spot at bytes file page new is fits put inside s = elim (cases_eq page.turn spot.turn) [
  | inl here ↦ elim (put.here here) [
    | inl none ↦ none_shown spot.slot new (wrote at bytes file) none
    | inr w ↦
        let start : ℕ = number spot.slot page * 4096 in
        let there : number spot.slot page * 4096 + spot.skip ≡ at = omega (arith, here, is.at_is) in
        let turn : number spot.slot page ≡ number spot.slot new = omega (arith, put.turn_is) in
        let some : length page.bytes.items ≡ min (length page.bytes.items) (length (drop (number spot.slot page * 4096) file)) = ap length s.same ∙ length-take (length page.bytes.items) (drop (number spot.slot page * 4096) file) in
        let most : length page.bytes.items ≤ length file - number spot.slot page * 4096 = omega (arith, some, length-drop (number spot.slot page * 4096) file) in
        let e : new.bytes.items ≡ wrote spot.skip bytes (take (length page.bytes.items) (drop (number spot.slot page * 4096) file)) = w.2 ∙ ap (λ (l : List ℕ). wrote spot.skip bytes l) s.same in
        record {
          same =
              e
              ∙ wrote_in (number spot.slot page * 4096) (length page.bytes.items) spot.skip bytes file most w.1 w.0
              ∙ (λ i. take (length (sym e i)) (drop (turn i * 4096) (wrote (there i) bytes file)));
        }
  ]
  | inr other ↦
      let turn : number spot.slot page ≡ number spot.slot new = omega (arith, put.turn_is) in
      let e : new.bytes.items ≡ page.bytes.items = put.elsewhere other in
      let kept : ShowsIn spot.slot new file = record { same = e ∙ s.same ∙ (λ i. take (length (sym e i)) (drop (turn i * 4096) file)) } in
      other_shown spot.slot new (spot.turn * 24576 + spot.slot) at bytes file (omega (arith, is.at_is)) (omega (arith, is.at_is)) (λ e. other (same_turn page.turn spot.turn spot.slot (turn ∙ e))) inside kept
]

-- a write where its slot isn't there
pub put_absent : (spot : Spot) (at : ℕ) (bytes file : List ℕ) (old now : Pages) → IsSpot spot at → at % 4096 + length bytes ≤ 4096 → length old.slots.items ≤ spot.slot → now.slots.items ≡ old.slots.items → at ≤ length file → Shows old file → Shows now (wrote at bytes file)
put_absent spot at bytes file old now is fits far same inside s = record {
  each = λ slot page i.
      let low : slot < length old.slots.items = omega (arith, i.low, ap length same) in
      let there : page ≡ get_or old.slots.items slot page = i.is ∙ ap (λ (l : List Page). get_or l slot page) same in
      let skip : at % 4096 ≡ spot.skip = omega (arith, is.at_is, is.skip) in
      let few : slot < 24576 = omega (arith, low, old.few) in
      other_shown slot page (spot.turn * 24576 + spot.slot) at bytes file (omega (arith, is.at_is)) (omega (arith, is.at_is, skip, fits))
      (λ e. let same_one : slot ≡ spot.slot = same_slot page.turn spot.turn slot spot.slot few is.slot e in omega (arith, same_one, low, far))
      inside (s.each slot page (record { low = low; is = there }));
}

-- a page of a slot that was set, or one that was there before
set_cases : (at slot : ℕ) (new page : Page) (old now : Pages) → now.slots.items ≡ set old.slots.items at new → at < length old.slots.items → IsIn slot page now → ((slot ≡ at) × (page ≡ new)) ⊎ ((slot ≡ at → ⊥) × IsIn slot page old)
set_cases at slot new page old now is low i = elim (cases_eq slot at) [
  | inl e ↦ inl (e, i.is ∙ (λ k. get_or (is k) (e k) page) ∙ get_or-set_same old.slots.items at new page low)
  | inr ne ↦ inr (
    ne,
    record {
      low = omega (arith, i.low, ap length is, length-set old.slots.items at new);
      is = i.is ∙ ap (λ (l : List Page). get_or l slot page) is ∙ get_or-set_other old.slots.items at slot new page ne;
    },
  )
]

-- a write into the slot of its page
pub put_there : (spot : Spot) (at : ℕ) (bytes file : List ℕ) (old now : Pages) (page new : Page) → IsSpot spot at → at % 4096 + length bytes ≤ 4096 → IsIn spot.slot page old → now.slots.items ≡ set old.slots.items spot.slot new → IsPut spot.turn spot.skip bytes page new → at ≤ length file → Shows old file → Shows now (wrote at bytes file)
put_there spot at bytes file old now page new is fits there set put inside s =
    let skip : at % 4096 ≡ spot.skip = omega (arith, is.at_is, is.skip) in
    record {
      each = λ slot p i. elim (set_cases spot.slot slot new p old now set there.low i) [
        | inl here ↦
            let written : ShowsIn spot.slot new (wrote at bytes file) = page_written spot at bytes file page new is (omega (arith, skip, fits)) put inside (s.each spot.slot page there) in
            subst (λ (q : ℕ × Page). ShowsIn q.0 q.1 (wrote at bytes file)) (λ k. (sym here.0 k, sym here.1 k)) written
        | inr other ↦
            let few : slot < 24576 = omega (arith, other.1.low, old.few) in
            other_shown slot p (spot.turn * 24576 + spot.slot) at bytes file (omega (arith, is.at_is)) (omega (arith, is.at_is, skip, fits))
            (λ e. other.0 (same_slot p.turn spot.turn slot spot.slot few is.slot e)) inside (s.each slot p other.1)
      ];
    }

pub put_none : (at : ℕ) (bytes file : List ℕ) → wrote at (take 0 bytes) file ≡ file
unfolding wrote
put_none at bytes file = grind (arith, append-nil (take at file), take-append-drop at file)

pub put_reaches : (at k : ℕ) (bytes file : List ℕ) → at ≤ length file → k ≤ length bytes → at + k ≤ length (wrote at (take k bytes) file)
unfolding wrote
put_reaches at k bytes file inside le = simp (length-append, length-take, length-drop) (omega arith)

-- a write goes on where it stands
pub put_more : (at k n : ℕ) (bytes file : List ℕ) → at ≤ length file → k + n ≤ length bytes → wrote (at + k) (take n (drop k bytes)) (wrote at (take k bytes) file) ≡ wrote at (take (k + n) bytes) file
unfolding wrote
put_more at k n bytes file inside le =
    let a : List ℕ = take k bytes in
    let b : List ℕ = take n (drop k bytes) in
    let la : length (take k bytes) ≡ k = length-take-le k bytes (omega arith) in
    let lb : length (take n (drop k bytes)) ≡ n = length-take-le n (drop k bytes) (omega (arith, length-drop k bytes)) in
    let lc : length (take (k + n) bytes) ≡ k + n = length-take-le (k + n) bytes le in
    let front_long : length (take at file ++ take k bytes) ≡ at + k = length-append (take at file) (take k bytes) ∙ omega (arith, length-take-le at file inside, la) in
    let front : take (at + k) (take at file ++ take k bytes ++ drop (at + length (take k bytes)) file) ≡ take at file ++ take k bytes = take_at (take at file ++ take k bytes) (drop (at + length (take k bytes)) file) (at + k) front_long in
    let behind : drop (at + k + length (take n (drop k bytes))) (take at file ++ take k bytes ++ drop (at + length (take k bytes)) file) ≡ drop (at + length (take (k + n) bytes)) file =
    sym (drop-drop (length (take n (drop k bytes))) (at + k) (take at file ++ take k bytes ++ drop (at + length (take k bytes)) file))
    ∙ ap (λ (l : List ℕ). drop (length (take n (drop k bytes))) l) (drop_at (take at file ++ take k bytes) (drop (at + length (take k bytes)) file) (at + k) front_long)
    ∙ drop-drop (length (take n (drop k bytes))) (at + length (take k bytes)) file
    ∙ ap (λ m. drop m file) (omega (arith, la, lb, lc)) in
    (λ i. front i ++ take n (drop k bytes) ++ behind i)
    ∙ ap (λ (l : List ℕ). l ++ drop (at + length (take (k + n) bytes)) file) (append_assoc (take at file) (take k bytes) (take n (drop k bytes)) ∙ ap (λ (l : List ℕ). take at file ++ l) (sym (take-add k n bytes)))

-- a slot more, without bytes
pub push_shows : (page : Page) (old now : Pages) (file : List ℕ) → page.bytes.items ≡ [] → now.slots.items ≡ old.slots.items ++ page ∷ [] → Shows old file → Shows now file
push_shows page old now file none is s = record {
  each = λ slot p i. elim (cases_lt slot (length old.slots.items)) [
    | inl low ↦ s.each slot p (record { low = low; is = i.is ∙ ap (λ (l : List Page). get_or l slot p) is ∙ get_or_append_left old.slots.items (page ∷ []) p slot low })
    | inr high ↦
        let long : length old.slots.items ≡ slot = omega (arith, i.low, high, ap length is, length_push old.slots.items page) in
        let e : p ≡ page = i.is ∙ ap (λ (l : List Page). get_or l slot p) is ∙ get_or_push old.slots.items page p slot long in
        none_shown slot p file (ap (λ (q : Page). q.bytes.items) e ∙ none)
  ];
}

-- pages of which none lies in a change
pub shown_but : (from until first end : ℕ) (now : Pages) (old new : List ℕ) → first ≡ from / 4096 → until ≤ end * 4096 → SameOutside from until old new → Shows now old → ((n : ℕ) → first ≤ n → n < end → Lacks n now) → Shows now new
shown_but from until first end now old new is far so s gone = record {
  each = λ slot page i. elim (cases_lt (number slot page) first) [
    | inl below ↦ shown_outside slot from until page old new so (inl (omega (arith, is, below))) (s.each slot page i)
    | inr low ↦ elim (cases_lt (number slot page) end) [
      | inl high ↦ none_shown slot page new ((gone (number slot page) low high).each slot page i refl)
      | inr above ↦ shown_outside slot from until page old new so (inr (omega (arith, far, above))) (s.each slot page i)
    ]
  ];
}

-- bytes read in two parts
pub joined : (at here : ℕ) (into first second a b file : List ℕ) → into ≡ first ++ second → length first ≡ here → a ≡ take (length first) (drop at file) → b ≡ take (length second) (drop (at + here) file) → a ++ b ≡ take (length into) (drop at file)
joined at here into first second a b file is long front behind =
    (λ i. front i ++ behind i)
    ∙ ap (λ n. take (length first) (drop at file) ++ take (length second) (drop (at + n) file)) (sym long)
    ∙ ap (λ (l : List ℕ). take (length first) (drop at file) ++ take (length second) l) (sym (drop-drop (length first) at file))
    ∙ sym (take-add (length first) (length second) (drop at file))
    ∙ ap (λ n. take n (drop at file)) (sym (ap length is ∙ length-append first second))

-- the front of bytes that were read
pub read_front : (start n : ℕ) (bytes front file : List ℕ) → front ≡ take n bytes → length front ≡ n → n ≤ length bytes → bytes ≡ take (length bytes) (drop start file) → front ≡ take (length front) (drop start file)
read_front start n bytes front file is long le e =
    is
    ∙ ap (λ (l : List ℕ). take n l) e
    ∙ take-take n (length bytes) (drop start file) le
    ∙ ap (λ m. take m (drop start file)) (sym long)

read_from : (start k : ℕ) (bytes file : List ℕ) → k ≤ length bytes → bytes ≡ take (length bytes) (drop start file) → drop k bytes ≡ take (length bytes - k) (drop (start + k) file)
read_from start k bytes file le e =
    let parts : length bytes ≡ k + (length bytes - k) = omega arith in
    ap (λ (l : List ℕ). drop k l) (e ∙ ap (λ m. take m (drop start file)) parts)
    ∙ drop-take k (length bytes - k) (drop start file)
    ∙ ap (λ (l : List ℕ). take (length bytes - k) l) (drop-drop k start file)

-- the bytes behind it
pub read_behind : (start k : ℕ) (bytes behind file : List ℕ) → behind ≡ drop k bytes → k ≤ length bytes → bytes ≡ take (length bytes) (drop start file) → behind ≡ take (length behind) (drop (start + k) file)
read_behind start k bytes behind file is le e =
    is
    ∙ read_from start k bytes file le e
    ∙ ap (λ m. take m (drop (start + k) file)) (sym (ap length is ∙ length-drop k bytes))

-- bytes from the middle of those
pub read_within : (start at n : ℕ) (bytes file : List ℕ) → start ≤ at → at + n ≤ start + length bytes → bytes ≡ take (length bytes) (drop start file) → take n (drop (at - start) bytes) ≡ take n (drop at file)
read_within start at n bytes file low high e =
    ap (λ (l : List ℕ). take n l) (read_from start (at - start) bytes file (omega arith) e)
    ∙ take-take n (length bytes - (at - start)) (drop (start + (at - start)) file) (omega arith)
    ∙ ap (λ m. take n (drop m file)) (omega arith)

-- a piece of bytes that were read from a place of a file
pub piece_of : (at skip n : ℕ) (bytes file : List ℕ) → skip + n ≤ length bytes → bytes ≡ take (length bytes) (drop at file) → take n (drop skip bytes) ≡ take (length (take n (drop skip bytes))) (drop (at + skip) file)
piece_of at skip n bytes file inside read =
    let long : length (take n (drop skip bytes)) ≡ n = simp (length-take, length-drop) (omega (arith, inside)) in
    ap (λ (l : List ℕ). take n l) (read_from at skip bytes file (omega (arith, inside)) read)
    ∙ take-take n (length bytes - skip) (drop (at + skip) file) (omega (arith, inside))
    ∙ ap (λ k. take k (drop (at + skip) file)) (sym long)

-- ---- bytes filled one part behind the other

pub length_part : (done here : ℕ) (into : List ℕ) → done + here ≤ length into → length (take (done + here - done) (drop done into)) ≡ here
length_part done here into fits = simp (length-take, length-drop) (omega (arith, fits))

pub length_filled : (done here : ℕ) (into part : List ℕ) → done + here ≤ length into → length part ≡ here → length (wrote done part into) ≡ length into
unfolding wrote
length_filled done here into part fits long = simp (length-append, length-take, length-drop) (omega (arith, fits, long))

pub filled : (at done here : ℕ) (into part file : List ℕ) → done + here ≤ length into → length part ≡ here → take done into ≡ take done (drop at file) → part ≡ take here (drop (at + done) file) → take (done + here) (wrote done part into) ≡ take (done + here) (drop at file)
unfolding wrote
filled at done here into part file fits long front is =
    let front_long : length (take done into ++ part) ≡ done + here = length-append (take done into) part ∙ omega (arith, length-take-le done into (omega (arith, fits)), long) in
    take_at (take done into ++ part) (drop (done + length part) into) (done + here) front_long
    ∙ (λ i. front i ++ is i)
    ∙ ap (λ (l : List ℕ). take done (drop at file) ++ take here l) (sym (drop-drop done at file))
    ∙ sym (take-add done here (drop at file))

-- bytes of which the front was filled before the others
pub joined_front : (at done n : ℕ) (into first second b file : List ℕ) → into ≡ first ++ second → length first ≡ done → length into ≡ n → take done into ≡ take done (drop at file) → b ≡ take (length second) (drop (at + done) file) → first ++ b ≡ take n (drop at file)
joined_front at done n into first second b file is long all front behind =
    let first_is : first ≡ take (length first) (drop at file) =
    sym (take_at first second done long)
    ∙ ap (λ (l : List ℕ). take done l) (sym is)
    ∙ front
    ∙ ap (λ k. take k (drop at file)) (sym long) in
    joined at done into first second first b file is long first_is behind ∙ ap (λ k. take k (drop at file)) all
