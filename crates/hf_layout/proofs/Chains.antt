-- Records and the bytes in which they stand.
use Rattle.std.proofs.Common.{◌≡◌, ◌∙◌, ℕ, ◌+◌, ◌%◌, ◌≤◌, List, [], ◌∷◌, ◌++◌, length, take, drop, Some, None, inl, inr, refl, sym, ap, subst, arith, append_assoc, length-append}
use Rattle.std.proofs.lemmas.List.{take-append-drop, length-take-le, places, same_lists}
use Rattle.std.proofs.lemmas.Bool.{cases_eq}
use Rattle.tc_base.specs.Endian.{le_bytes}
use Rattle.tc_base.specs.Files.{wrote}
use Rattle.tc_base.specs.Vnum.{vnum}
use Rattle.tc_base.proofs.Endians.{length-le_bytes}
use Rattle.hf_block.specs.Heads.{rec_head}
use Rattle.hf_block.specs.Pieces.{Record, Piece, held, free, spell, size_of, IsSize, IsWhole, AllWhole, HasWidth}
use Rattle.std.proofs.Math.Nat.{mod-add-mod}
use Rattle.hf_block.proofs.Padding.{length-held}
use Rattle.hf_layout.specs.Frees.{Frees, without}
use Rattle.hf_layout.specs.Laws.{RecordHasBytes, SetsLeft, SetsRight, FreeIsBlock, PlacesAreAligned, FrontStays, ListedHaveWidth}
use Rattle.hf_layout.specs.Layout.{piece_at, record_of, record_at, frees_of, LaidOut, Writes}
use Rattle.hf_layout.proofs.Bytes.{piece_bytes, whole_at}
use Rattle.hf_layout.proofs.Places.{long, parted_at, aligned, here, later, whole_parts}
use Rattle.hf_layout.proofs.Records.{fills}
use Rattle.hf_layout.proofs.Segments.{wrote_mid}
use Rattle.hf_layout.proofs.Shares.{record_is, known, shared_as, without_off, without_at, ends_within, ends}
use Rattle.hf_layout.proofs.Standing.{record_is_block}

pub record_has_bytes : RecordHasBytes
record_has_bytes unit first end place ps frees lent bytes r h is = piece_bytes unit first end ps frees lent bytes (held r) place h (record_is (piece_at first ps place) r is)

pub free_is_block : FreeIsBlock
free_is_block unit first end place size ps frees lent bytes h there = let k = known unit first end ps frees lent bytes place size h there in (k.piece, k.at, k.size)

whole_front : (unit : ℕ) (ps xs ys : List Piece) → ps ≡ xs ++ ys → AllWhole unit ps → AllWhole unit xs
whole_front unit ps xs ys is whole = (whole_parts unit xs ys (subst (λ (l : List Piece). AllWhole unit l) is whole)).0

sum_aligned : (unit a b : ℕ) → a % unit ≡ 0 → b % unit ≡ 0 → (a + b) % unit ≡ 0
sum_aligned unit a b x y = sym (mod-add-mod a unit b) ∙ ap (λ (n : ℕ). (n + b) % unit) x ∙ ap (λ (n : ℕ). n % unit) (omega arith) ∙ y

pub places_are_aligned : PlacesAreAligned
places_are_aligned unit first end place size ps frees lent bytes h multiple block =
    let s = parted_at first ps place block.0 block.1 in
    let w = whole_front unit ps s.xs (block.0 ∷ s.ys) s.is h.filled.whole in
    subst (λ (n : ℕ). n % unit ≡ 0) s.place (sum_aligned unit first (long s.xs) multiple (aligned unit s.xs (omega (arith, h.room)) w))

pub front_stays : FrontStays
unfolding wrote
front_stays first place x bytes low within = same_lists _ _ (grind (arith, places)) (λ i d h. grind (arith, places))

has_width : (wide : ℕ) (p : Piece) (r : Record) → HasWidth wide p → record_of (Some p) ≡ Some r → r.wide ≡ wide
has_width wide (held r) s has is = let e : r ≡ s = cc in sym (ap (λ (x : Record). x.wide) e) ∙ has
has_width wide (free size tail) s has is = absurd cc

pub listed_have_width : ListedHaveWidth
listed_have_width wide first [] all q r is = absurd cc
listed_have_width wide first (p ∷ ps) all q r is = elim (cases_eq q first) [
  | inl e ↦ has_width wide p r all.0 (sym (ap record_of (here first p ps q e)) ∙ is)
  | inr ne ↦ listed_have_width wide (first + size_of p) ps all.1 q r (sym (ap record_of (later first p ps q ne)) ∙ is)
]

-- ---- a field of a record written

-- in the middle of bytes that stand there
set_field : (at n : ℕ) (a z y c bytes : List ℕ) → at ≤ length bytes → n ≡ length (a ++ (z ++ c)) → take n (drop at bytes) ≡ a ++ (z ++ c) → length y ≡ length z → wrote (at + length a) y bytes ≡ wrote at (a ++ (y ++ c)) bytes
set_field at n a z y c bytes within long is same =
    let front : List ℕ = take at bytes in
    let back : List ℕ = drop n (drop at bytes) in
    let fl : length front ≡ at = length-take-le at bytes within in
    let all : bytes ≡ front ++ ((a ++ (z ++ c)) ++ back) = sym (take-append-drop at bytes) ∙ ap (λ (l : List ℕ). front ++ l) (sym (take-append-drop n (drop at bytes)) ∙ ap (λ (l : List ℕ). l ++ back) is) in
    let left : bytes ≡ (front ++ a) ++ (z ++ (c ++ back)) = all ∙ simp append_assoc in
    ap (λ (l : List ℕ). wrote (at + length a) y l) left
    ∙ wrote_mid (front ++ a) z (c ++ back) y (at + length a) (omega (arith, length-append front a, fl)) same
    ∙ seam front a y c back
    ∙ sym (ap (λ (l : List ℕ). wrote at (a ++ (y ++ c)) l) all ∙ wrote_mid front (a ++ (z ++ c)) back (a ++ (y ++ c)) at (sym fl) (omega (arith, length-append a (y ++ c), length-append y c, length-append a (z ++ c), length-append z c, same)))
  where
    seam : (f a y c b : List ℕ) → (f ++ a) ++ (y ++ (c ++ b)) ≡ f ++ ((a ++ (y ++ c)) ++ b)
    seam f a y c b = simp append_assoc

-- behind the chains
behind : Record → List ℕ
behind r = (le_bytes 2 (length r.pad) ++ (vnum (length r.key) ++ vnum (length r.value))) ++ (r.key ++ (r.value ++ r.pad))

left_parts : (r : Record) → spell (held r) ≡ (0xC8 ∷ le_bytes 1 r.hash) ++ (le_bytes r.wide r.left ++ (le_bytes r.wide r.right ++ behind r))
unfolding spell rec_head behind
left_parts r = simp append_assoc

right_parts : (r : Record) → spell (held r) ≡ ((0xC8 ∷ le_bytes 1 r.hash) ++ le_bytes r.wide r.left) ++ (le_bytes r.wide r.right ++ behind r)
right_parts r = left_parts r ∙ sym (append_assoc (0xC8 ∷ le_bytes 1 r.hash) (le_bytes r.wide r.left) (le_bytes r.wide r.right ++ behind r))

-- a record with the same key, value and padding over one that stands there
over : (unit first end place : ℕ) (ps : List Piece) (frees lent : Frees) (bytes : List ℕ) (r s : Record) → LaidOut unit first end ps frees lent bytes → record_at first ps place ≡ Some r → IsWhole unit (held s) → size_of (held s) ≡ size_of (held r) → Writes unit first end ps frees lent place s (wrote place (spell (held s)) bytes)
over unit first end place ps frees lent bytes r s h is whole same =
    let b = record_is_block unit first end place ps frees lent bytes r h is in
    let f = fills unit first end place ps frees lent bytes s h whole (b.0.0, b.0.1, b.0.2 ∙ sym same) b.1 in
    record {
      pieces = f.pieces;
      is = record { room = f.is.room; on = f.is.on; within = f.is.within; filled = f.is.filled; shared = λ q. shared_as (frees_of first f.pieces q) (frees_of first f.pieces q) (frees q) (frees q) (without lent place q) (lent q) refl refl (unlent q b.2) (f.is.shared q) };
      records = f.records;
    }
  where
    unlent : (q : ℕ) → lent place ≡ None → lent q ≡ without lent place q
    unlent q none = elim (cases_eq q place) [ inl e ↦ ap lent e ∙ none ∙ sym (without_at lent place q e) | inr ne ↦ sym (without_off lent place q ne) ]

inside : (unit first end place : ℕ) (ps : List Piece) (frees lent : Frees) (bytes : List ℕ) (r : Record) → LaidOut unit first end ps frees lent bytes → record_at first ps place ≡ Some r → place ≤ length bytes
inside unit first end place ps frees lent bytes r h is =
    let w = ends_within unit first ps (held r) place (record_is (piece_at first ps place) r is) in
    omega (arith, w.1, ends unit first end ps frees lent bytes h, h.within)

whole_record : (unit first end place : ℕ) (ps : List Piece) (frees lent : Frees) (bytes : List ℕ) (r : Record) → LaidOut unit first end ps frees lent bytes → record_at first ps place ≡ Some r → IsWhole unit (held r)
whole_record unit first end place ps frees lent bytes r h is = whole_at unit first ps (held r) place h.filled.whole (record_is (piece_at first ps place) r is)

pub sets_left : SetsLeft
unfolding behind
sets_left unit first end place x ps frees lent bytes r h is fits =
    let s : Record = record r { left = x } in
    let w = whole_record unit first end place ps frees lent bytes r h is in
    let same : size_of (held s) ≡ size_of (held r) = length-held s ∙ sym (length-held r) in
    let whole : IsWhole unit (held s) = record { fits = (w.fits.0, fits, w.fits.2, w.fits.3); size = subst (λ (n : ℕ). IsSize unit n) (sym same) w.size } in
    let a : List ℕ = 0xC8 ∷ le_bytes 1 r.hash in
    let c : List ℕ = le_bytes r.wide r.right ++ behind r in
    let e : place + 2 ≡ place + length a = omega (arith, length-le_bytes 1 r.hash) in
    let set = set_field place (size_of (held r)) a (le_bytes r.wide r.left) (le_bytes r.wide x) c bytes (inside unit first end place ps frees lent bytes r h is) (ap length (left_parts r)) (record_has_bytes unit first end place ps frees lent bytes r h is ∙ left_parts r) (length-le_bytes r.wide x ∙ sym (length-le_bytes r.wide r.left)) in
    subst (λ (b : List ℕ). Writes unit first end ps frees lent place s b) (sym (ap (λ (n : ℕ). wrote n (le_bytes r.wide x) bytes) e ∙ set ∙ ap (λ (l : List ℕ). wrote place l bytes) (sym (left_parts s))))
    (over unit first end place ps frees lent bytes r s h is whole same)

pub sets_right : SetsRight
unfolding behind
sets_right unit first end place x ps frees lent bytes r h is fits =
    let s : Record = record r { right = x } in
    let w = whole_record unit first end place ps frees lent bytes r h is in
    let same : size_of (held s) ≡ size_of (held r) = length-held s ∙ sym (length-held r) in
    let whole : IsWhole unit (held s) = record { fits = (w.fits.0, w.fits.1, fits, w.fits.3); size = subst (λ (n : ℕ). IsSize unit n) (sym same) w.size } in
    let a : List ℕ = (0xC8 ∷ le_bytes 1 r.hash) ++ le_bytes r.wide r.left in
    let e : place + 2 + r.wide ≡ place + length a = omega (arith, length-le_bytes 1 r.hash, length-le_bytes r.wide r.left, length-append (0xC8 ∷ le_bytes 1 r.hash) (le_bytes r.wide r.left)) in
    let set = set_field place (size_of (held r)) a (le_bytes r.wide r.right) (le_bytes r.wide x) (behind r) bytes (inside unit first end place ps frees lent bytes r h is) (ap length (right_parts r)) (record_has_bytes unit first end place ps frees lent bytes r h is ∙ right_parts r) (length-le_bytes r.wide x ∙ sym (length-le_bytes r.wide r.right)) in
    subst (λ (b : List ℕ). Writes unit first end ps frees lent place s b) (sym (ap (λ (n : ℕ). wrote n (le_bytes r.wide x) bytes) e ∙ set ∙ ap (λ (l : List ℕ). wrote place l bytes) (sym (right_parts s))))
    (over unit first end place ps frees lent bytes r s h is whole same)
