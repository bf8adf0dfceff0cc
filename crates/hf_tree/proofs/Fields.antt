-- Records and links in the bytes of a file.
use Rattle.std.proofs.Common.{◌≡◌, ◌≢◌, ◌∙◌, ◌⊎◌, inl, inr, ℕ, ◌+◌, ◌-◌, ◌*◌, ◌^◌, ◌<◌, ◌≤◌, refl, sym, ap, subst, Option, Some, None, arith, List, ◌∷◌, ◌++◌, length, take, drop, append_assoc, length-append, length-drop, Bool, true, false, cond}
use Rattle.std.specs.Prelude.{◌==◌, option_map, if◌then◌else◌}
use Rattle.std.proofs.lemmas.Bool.{cases_eq, cases_lt, eq-eqb, ne_eqb}
use Rattle.std.proofs.lemmas.List.{drop_at, take-append-drop, places, same_lists, drop-drop}
use Rattle.tc_base.specs.Endian.{le_number, le_bytes}
use Rattle.tc_base.specs.Files.{wrote}
use Rattle.tc_base.proofs.Endians.{length-le_bytes, le_number-le_bytes}
use Rattle.hf_head.specs.declared.head.Head.{Head}
use Rattle.hf_head.specs.Heads.{IsValid, is_large, unit, wide}
use Rattle.hf_block.specs.Pieces.{Record, Piece, held, spell, size_of, AllWhole, spell_all, AreBlocks}
use Rattle.hf_block.specs.Walks.{between}
use Rattle.hf_block.proofs.Listing.{spell-append, between_long}
use Rattle.hf_block.proofs.Padding.{length-held}
use Rattle.hf_layout.specs.Frees.{Frees}
use Rattle.hf_layout.specs.Layout.{piece_at, record_of, record_at, HaveWidth, LaidOut, Writes}
use Rattle.hf_layout.proofs.Places.{long, whole_parts, parted_at, below}
use Rattle.hf_layout.proofs.Shares.{record_is, ends, ends_within}
use Rattle.hf_layout.proofs.Segments.{wrote_between, wrote_long}
use Rattle.hf_layout.proofs.Chains.{sets_left, sets_right}
use Rattle.hf_tree.specs.declared.parent.Parent.{Parent}
use Rattle.hf_tree.specs.declared.parent.Parent.TheVariants.{Bucket, Left, Right}
use Rattle.hf_tree.specs.Links.{width, HasBlocks, place_of, array, entry, left_of, right_of, key_of, links_of, IsAt, unlinked, Relinked, IsThere}
use Rattle.hf_tree.proofs.Ways.{IsBare}

-- ---- blocks and records in the bytes

pub blocks_of : (h : Head) (end : ℕ) (ps : List Piece) (frees lent : Frees) (bytes : List ℕ) → LaidOut (unit h) h.first end ps frees lent bytes → HaveWidth (width h) h.first ps → HasBlocks h end ps bytes
blocks_of h end ps frees lent bytes l widths = record { on = l.on; within = l.within; filled = l.filled; widths = widths }

-- where a record lies
pub record Lies (h : Head) (end : ℕ) (r : Record) (p : ℕ) (bytes : List ℕ) : Type 0 where
  pub at : IsAt (unit h) r p bytes
  pub low : h.first ≤ p
  pub high : p + size_of (held r) ≤ end

pub record_lies : (h : Head) (end : ℕ) (ps : List Piece) (bytes : List ℕ) (p : ℕ) (r : Record) → HasBlocks h end ps bytes → record_at h.first ps p ≡ Some r → Lies h end r p bytes
record_lies h end ps bytes p r b at =
    let s = parted_at h.first ps p (held r) (record_is (piece_at h.first ps p) r at) in
    let inner : List ℕ = between h.first end bytes in
    let behind : List ℕ = drop (end - h.first) (drop h.first bytes) in
    let parts : inner ≡ spell_all s.xs ++ (spell (held r) ++ spell_all s.ys) = b.filled.is ∙ ap spell_all s.is ∙ spell-append s.xs (held r ∷ s.ys) in
    let all : drop h.first bytes ≡ spell_all s.xs ++ (spell (held r) ++ (spell_all s.ys ++ behind)) = sym (take-append-drop (end - h.first) (drop h.first bytes)) ∙ ap (λ (l : List ℕ). l ++ behind) parts ∙ regroup (spell_all s.xs) (spell (held r)) (spell_all s.ys) behind in
    let step : drop p bytes ≡ drop (long s.xs) (drop h.first bytes) = sym (drop-drop (long s.xs) h.first bytes ∙ ap (λ (n : ℕ). drop n bytes) s.place) in
    let whole = (whole_parts (unit h) s.xs (held r ∷ s.ys) (subst (λ (l : List Piece). AllWhole (unit h) l) s.is b.filled.whole)).1.0 in
    record {
      at = record { rest = spell_all s.ys ++ behind; is = step ∙ ap (λ (l : List ℕ). drop (long s.xs) l) all ∙ drop_at (spell_all s.xs) (spell (held r) ++ (spell_all s.ys ++ behind)) (long s.xs) refl; whole = whole };
      low = omega (arith, s.place);
      high = omega (arith, s.place, ap length parts, between_long h.first end bytes b.on b.within, length-append (spell_all s.xs) (spell (held r) ++ spell_all s.ys), length-append (spell (held r)) (spell_all s.ys));
    }
  where
    regroup : (a b c d : List ℕ) → (a ++ (b ++ c)) ++ d ≡ a ++ (b ++ (c ++ d))
    regroup a b c d = simp append_assoc

-- a record ends inside the bytes
pub at_inside : (u : ℕ) (r : Record) (p : ℕ) (bytes : List ℕ) → IsAt u r p bytes → p + size_of (held r) ≤ length bytes
at_inside u r p bytes a = omega (arith, a.whole.size.some, ap length a.is, length-drop p bytes, length-append (spell (held r)) a.rest)

-- ---- the bucket array

pub sections_first : (h : Head) → IsValid h → 256 + width h * h.buckets + 64 ≤ h.first
sections_first h v = omega (arith, v.numbers.first_behind)

before_kept : (from to at : ℕ) (new bytes : List ℕ) → to ≤ at → at + length new ≤ length bytes → between from to (wrote at new bytes) ≡ between from to bytes
unfolding wrote
before_kept from to at new bytes low fits = same_lists _ _ (grind (arith, places)) (λ i d g. grind (arith, places))

pub array_kept : (h : Head) (at : ℕ) (new bytes : List ℕ) → 256 + width h * h.buckets ≤ at → at + length new ≤ length bytes → array h (wrote at new bytes) ≡ array h bytes
array_kept h at new bytes low fits = before_kept 256 (256 + width h * h.buckets) at new bytes low fits

blocks_kept : (first end at : ℕ) (new bytes : List ℕ) → at + length new ≤ first → first ≤ length bytes → between first end (wrote at new bytes) ≡ between first end bytes
unfolding wrote
blocks_kept first end at new bytes low fits = same_lists _ _ (grind (arith, places)) (λ i d g. grind (arith, places))

part_same : (w at : ℕ) (new bytes : List ℕ) → at + w ≤ length bytes → length new ≡ w → take w (drop at (wrote at new bytes)) ≡ new
unfolding wrote
part_same w at new bytes fits size = same_lists _ _ (grind (arith, places)) (λ i d g. grind (arith, places))

part_low : (w at to : ℕ) (new bytes : List ℕ) → to + w ≤ length bytes → length new ≡ w → at + w ≤ to → take w (drop at (wrote to new bytes)) ≡ take w (drop at bytes)
unfolding wrote
part_low w at to new bytes fits size low = same_lists _ _ (grind (arith, places)) (λ i d g. grind (arith, places))

part_high : (w at to : ℕ) (new bytes : List ℕ) → to + w ≤ length bytes → length new ≡ w → to + w ≤ at → take w (drop at (wrote to new bytes)) ≡ take w (drop at bytes)
unfolding wrote
part_high w at to new bytes fits size high = same_lists _ _ (grind (arith, places)) (λ i d g. grind (arith, places))

-- an entry lies in the array, and two entries don't meet
entry_inside : (large : Bool) (b n : ℕ) → b < n → wide large * b + wide large ≤ wide large * n
entry_inside true b n less = omega (arith, less)
entry_inside false b n less = omega (arith, less)

apart_fields : (large : Bool) (b d : ℕ) → d ≢ b → (wide large * d + wide large ≤ wide large * b) ⊎ (wide large * b + wide large ≤ wide large * d)
apart_fields large b d ne = elim (cases_lt d b) [ inl low ↦ inl (entry_inside large d b low) | inr high ↦ inr (entry_inside large b d (omega (arith, high, ne))) ]

-- ---- a link set

array_long : (h : Head) (bytes : List ℕ) → 256 + width h * h.buckets ≤ length bytes → length (array h bytes) ≡ width h * h.buckets
array_long h bytes fits = omega (arith, between_long 256 (256 + width h * h.buckets) bytes (omega arith) fits)

array_set : (h : Head) (b : ℕ) (new bytes : List ℕ) → b < h.buckets → length new ≡ width h → 256 + width h * h.buckets ≤ length bytes → array h (wrote (256 + width h * b) new bytes) ≡ wrote (width h * b) new (array h bytes)
array_set h b new bytes low size fits =
    wrote_between 256 (256 + width h * h.buckets) (256 + width h * b) new bytes (omega arith) (omega (arith, entry_inside (is_large h) b h.buckets low, size)) fits
    ∙ ap (λ (n : ℕ). wrote n new (array h bytes)) (omega arith)

entry_same : (large : Bool) (b n : ℕ) (entries : List ℕ) → wide large * b + wide large ≤ length entries → n < 256 ^ wide large → entry (wide large) b (wrote (wide large * b) (le_bytes (wide large) n) entries) ≡ n
entry_same large b n entries fits low =
    let w : ℕ = wide large in
    ap le_number (part_same w (w * b) (le_bytes w n) entries fits (length-le_bytes w n)) ∙ le_number-le_bytes w n low

entry_other : (large : Bool) (b d n : ℕ) (entries : List ℕ) → wide large * b + wide large ≤ length entries → d ≢ b → entry (wide large) d (wrote (wide large * b) (le_bytes (wide large) n) entries) ≡ entry (wide large) d entries
entry_other large b d n entries fits ne =
    let w : ℕ = wide large in
    elim (apart_fields large b d ne) [
      | inl low ↦ ap le_number (part_low w (w * d) (w * b) (le_bytes w n) entries fits (length-le_bytes w n) low)
      | inr high ↦ ap le_number (part_high w (w * d) (w * b) (le_bytes w n) entries fits (length-le_bytes w n) high)
    ]

set_entry : (h : Head) (end : ℕ) (ps : List Piece) (frees lent : Frees) (bytes : List ℕ) (b n : ℕ) → IsValid h → LaidOut (unit h) h.first end ps frees lent bytes → HaveWidth (width h) h.first ps → b < h.buckets → n < 256 ^ width h → Relinked h end ps frees lent bytes (Bucket b) n (wrote (256 + width h * b) (le_bytes (width h) n) bytes)
unfolding links_of
set_entry h end ps frees lent bytes b n v l widths low fits =
    let w : ℕ = width h in
    let at : ℕ = 256 + w * b in
    let size = length-le_bytes w n in
    let first = sections_first h v in
    let last = entry_inside (is_large h) b h.buckets low in
    let inside : at + w ≤ length bytes = omega (arith, first, l.on, l.within, last) in
    let whole : 256 + w * h.buckets ≤ length bytes = omega (arith, first, l.on, l.within) in
    let now = array_set h b (le_bytes w n) bytes low size whole in
    let room : w * b + w ≤ length (array h bytes) = omega (arith, array_long h bytes whole, last) in
    record {
      pieces = ps;
      is = record {
        room = l.room;
        on = l.on;
        within = omega (arith, l.within, wrote_long at (le_bytes w n) bytes (omega (arith, inside, size)));
        filled = subst (λ (x : List ℕ). AreBlocks (unit h) x ps) (sym (blocks_kept h.first end at (le_bytes w n) bytes (omega (arith, size, first, last)) (omega (arith, l.on, l.within)))) l.filled;
        shared = l.shared;
      };
      widths = widths;
      kept = λ p. refl;
      linked = record {
        keys = λ p. refl;
        here = ap (λ (z : ℕ). unit h * z) (ap (entry w b) now ∙ entry_same (is_large h) b n (array h bytes) room fits);
        others = others now room;
      };
    }
  where
    others : array h (wrote (256 + width h * b) (le_bytes (width h) n) bytes) ≡ wrote (width h * b) (le_bytes (width h) n) (array h bytes) → width h * b + width h ≤ length (array h bytes) → (c : Parent) → c ≢ Bucket b → links_of h ps (wrote (256 + width h * b) (le_bytes (width h) n) bytes) c ≡ links_of h ps bytes c
    others now room (Bucket d) ne = ap (λ (z : ℕ). unit h * z) (ap (entry (width h) d) now ∙ entry_other (is_large h) b d n (array h bytes) room (λ e. ne (ap Bucket e)))
    others now room (Left p) ne = refl
    others now room (Right p) ne = refl

-- ---- a record that has another chain

abbrev IsRewritten : Head → List Piece → List Piece → ℕ → Record → Type 0
IsRewritten h old new p s = (q : ℕ) → record_at h.first new q ≡ (if q == p then Some s else record_at h.first old q)

at_p : (h : Head) (old new : List Piece) (p q : ℕ) (s : Record) → record_at h.first new q ≡ (if q == p then Some s else record_at h.first old q) → q ≡ p → record_at h.first new q ≡ Some s
at_p h old new p q s is e = is ∙ ap (λ (z : Bool). cond z (Some s) (record_at h.first old q)) (eq-eqb q p e)

off_p : (h : Head) (old new : List Piece) (p q : ℕ) (s : Record) → record_at h.first new q ≡ (if q == p then Some s else record_at h.first old q) → q ≢ p → record_at h.first new q ≡ record_at h.first old q
off_p h old new p q s is ne = is ∙ ap (λ (z : Bool). cond z (Some s) (record_at h.first old q)) (ne_eqb q p ne)

-- what a change that keeps something of each record keeps
same_of : {A : Type 0} (f : Option Record → A) (h : Head) (old new : List Piece) (p : ℕ) (r s : Record) → IsRewritten h old new p s → record_at h.first old p ≡ Some r → f (Some s) ≡ f (Some r) → (q : ℕ) → f (record_at h.first new q) ≡ f (record_at h.first old q)
same_of f h old new p r s records was e q = elim (cases_eq q p) [
  | inl is ↦ ap f (at_p h old new p q s (records q) is) ∙ e ∙ sym (ap f (ap (record_at h.first old) is ∙ was))
  | inr ne ↦ ap f (off_p h old new p q s (records q) ne)
]

widths_kept : (h : Head) (old new : List Piece) (p : ℕ) (s : Record) → IsRewritten h old new p s → s.wide ≡ width h → HaveWidth (width h) h.first old → HaveWidth (width h) h.first new
widths_kept h old new p s records wide_is widths q r at = elim (cases_eq q p) [
  | inl is ↦ let e : Some s ≡ Some r = sym (at_p h old new p q s (records q) is) ∙ at in let same : s ≡ r = cc in sym (ap (λ (x : Record). x.wide) same) ∙ wide_is
  | inr ne ↦ widths q r (sym (off_p h old new p q s (records q) ne) ∙ at)
]

chain_inside : (h : Head) (end : ℕ) (ps : List Piece) (frees lent : Frees) (bytes : List ℕ) (p k : ℕ) (r : Record) → LaidOut (unit h) h.first end ps frees lent bytes → record_at h.first ps p ≡ Some r → k ≤ size_of (held r) → (h.first ≤ p) × (p + k ≤ length bytes)
chain_inside h end ps frees lent bytes p k r l at few =
    let far = ends_within (unit h) h.first ps (held r) p (record_is (piece_at h.first ps p) r at) in
    (far.0, omega (arith, far.1, ends (unit h) h.first end ps frees lent bytes l, l.within, few))

chains_fit : (r : Record) → 2 + r.wide + r.wide ≤ size_of (held r)
chains_fit r = omega (arith, length-held r)

set_left : (h : Head) (end : ℕ) (ps : List Piece) (frees lent : Frees) (bytes : List ℕ) (p n : ℕ) (r : Record) → IsValid h → LaidOut (unit h) h.first end ps frees lent bytes → HaveWidth (width h) h.first ps → record_at h.first ps p ≡ Some r → n < 256 ^ width h → Relinked h end ps frees lent bytes (Left p) n (wrote (p + 2) (le_bytes (width h) n) bytes)
unfolding links_of
set_left h end ps frees lent bytes p n r v l widths at low =
    subst (λ (w : ℕ). Relinked h end ps frees lent bytes (Left p) n (wrote (p + 2) (le_bytes w n) bytes)) (widths p r at)
    (done (sets_left (unit h) h.first end p n ps frees lent bytes r l at (subst (λ (w : ℕ). n < 256 ^ w) (sym (widths p r at)) low)))
  where
    s : Record
    s = record r { left = n }

    bytes' : List ℕ
    bytes' = wrote (p + 2) (le_bytes r.wide n) bytes

    done : Writes (unit h) h.first end ps frees lent p s bytes' → Relinked h end ps frees lent bytes (Left p) n bytes'
    done f = record {
      pieces = f.pieces;
      is = f.is;
      widths = widths_kept h ps f.pieces p s f.records (widths p r at) widths;
      kept = same_of (option_map unlinked) h ps f.pieces p r s f.records at refl;
      linked = record {
        keys = same_of key_of h ps f.pieces p r s f.records at refl;
        here = ap (λ (o : Option Record). unit h * left_of o) (at_p h ps f.pieces p p s (f.records p) refl);
        others = others;
      };
    }
      where
        entries : array h bytes' ≡ array h bytes
        entries =
            let c = chain_inside h end ps frees lent bytes p (2 + r.wide) r l at (omega (arith, chains_fit r)) in
            array_kept h (p + 2) (le_bytes r.wide n) bytes (omega (arith, sections_first h v, c.0)) (omega (arith, c.1, length-le_bytes r.wide n))

        others : (c : Parent) → c ≢ Left p → links_of h f.pieces bytes' c ≡ links_of h ps bytes c
        others (Bucket d) ne = ap (λ (z : List ℕ). unit h * entry (width h) d z) entries
        others (Left q) ne = ap (λ (o : Option Record). unit h * left_of o) (off_p h ps f.pieces p q s (f.records q) (λ e. ne (ap Left e)))
        others (Right q) ne = ap (λ (z : ℕ). unit h * z) (same_of right_of h ps f.pieces p r s f.records at refl q)

set_right : (h : Head) (end : ℕ) (ps : List Piece) (frees lent : Frees) (bytes : List ℕ) (p n : ℕ) (r : Record) → IsValid h → LaidOut (unit h) h.first end ps frees lent bytes → HaveWidth (width h) h.first ps → record_at h.first ps p ≡ Some r → n < 256 ^ width h → Relinked h end ps frees lent bytes (Right p) n (wrote (p + 2 + width h) (le_bytes (width h) n) bytes)
unfolding links_of
set_right h end ps frees lent bytes p n r v l widths at low =
    subst (λ (w : ℕ). Relinked h end ps frees lent bytes (Right p) n (wrote (p + 2 + w) (le_bytes w n) bytes)) (widths p r at)
    (done (sets_right (unit h) h.first end p n ps frees lent bytes r l at (subst (λ (w : ℕ). n < 256 ^ w) (sym (widths p r at)) low)))
  where
    s : Record
    s = record r { right = n }

    bytes' : List ℕ
    bytes' = wrote (p + 2 + r.wide) (le_bytes r.wide n) bytes

    done : Writes (unit h) h.first end ps frees lent p s bytes' → Relinked h end ps frees lent bytes (Right p) n bytes'
    done f = record {
      pieces = f.pieces;
      is = f.is;
      widths = widths_kept h ps f.pieces p s f.records (widths p r at) widths;
      kept = same_of (option_map unlinked) h ps f.pieces p r s f.records at refl;
      linked = record {
        keys = same_of key_of h ps f.pieces p r s f.records at refl;
        here = ap (λ (o : Option Record). unit h * right_of o) (at_p h ps f.pieces p p s (f.records p) refl);
        others = others;
      };
    }
      where
        entries : array h bytes' ≡ array h bytes
        entries =
            let c = chain_inside h end ps frees lent bytes p (2 + r.wide + r.wide) r l at (chains_fit r) in
            array_kept h (p + 2 + r.wide) (le_bytes r.wide n) bytes (omega (arith, sections_first h v, c.0)) (omega (arith, c.1, length-le_bytes r.wide n))

        others : (c : Parent) → c ≢ Right p → links_of h f.pieces bytes' c ≡ links_of h ps bytes c
        others (Bucket d) ne = ap (λ (z : List ℕ). unit h * entry (width h) d z) entries
        others (Right q) ne = ap (λ (o : Option Record). unit h * right_of o) (off_p h ps f.pieces p q s (f.records q) (λ e. ne (ap Right e)))
        others (Left q) ne = ap (λ (z : ℕ). unit h * z) (same_of left_of h ps f.pieces p r s f.records at refl q)

-- a link set to a stored place
pub relinked : (h : Head) (end : ℕ) (ps : List Piece) (frees lent : Frees) (bytes : List ℕ) (c : Parent) (n : ℕ) → IsValid h → LaidOut (unit h) h.first end ps frees lent bytes → HaveWidth (width h) h.first ps → IsThere h ps c → n < 256 ^ width h → Relinked h end ps frees lent bytes c n (wrote (place_of (width h) c) (le_bytes (width h) n) bytes)
relinked h end ps frees lent bytes (Bucket b) n v l widths there low = set_entry h end ps frees lent bytes b n v l widths there low
relinked h end ps frees lent bytes (Left p) n v l widths there low = set_left h end ps frees lent bytes p n there.0 v l widths there.1 low
relinked h end ps frees lent bytes (Right p) n v l widths there low = set_right h end ps frees lent bytes p n there.0 v l widths there.1 low

-- nothing is at place 0
pub is_bare : (h : Head) (end : ℕ) (ps : List Piece) (bytes : List ℕ) → IsValid h → HasBlocks h end ps bytes → IsBare (links_of h ps bytes) (record_at h.first ps)
unfolding links_of
is_bare h end ps bytes v b =
    let none : record_at h.first ps 0 ≡ None = ap record_of (below h.first ps 0 (omega (arith, sections_first h v))) in
    record {
      none = none;
      lefts = ap (λ (o : Option Record). unit h * left_of o) none ∙ omega arith;
      rights = ap (λ (o : Option Record). unit h * right_of o) none ∙ omega arith;
    }
