-- Blocks are listed one after the other.
use Rattle.std.proofs.Common.{◌≡◌, ◌∙◌, ℕ, ◌+◌, ◌-◌, ◌≤◌, Bool, List, [], ◌∷◌, ◌++◌, length, take, drop, refl, sym, ap, subst, arith, append_assoc, length-append, length-drop}
use Rattle.std.proofs.lemmas.List.{append-nil, length-take-le, drop-drop, drop-take, take-take, take_all, take_rest}
use Rattle.std.proofs.Math.Seq.{take-add}
use Rattle.hf_block.specs.declared.block.BlockAt.{BlockAt}
use Rattle.hf_block.specs.Pieces.{Piece, spell, size_of, is_free, IsSize, AllWhole, AllHaveWidth, spell_all, IsFilled, placed}
use Rattle.hf_block.specs.Rows.{StandInRow}
use Rattle.hf_block.specs.Walks.{Walked, IsNext, between}

pub whole-append : (unit : ℕ) (ps qs : List Piece) → AllWhole unit ps → AllWhole unit qs → AllWhole unit (ps ++ qs)
whole-append unit [] qs h k = k
whole-append unit (p ∷ ps) qs h k = (h.0, whole-append unit ps qs h.1 k)

pub widths-append : (w : ℕ) (ps qs : List Piece) → AllHaveWidth w ps → AllHaveWidth w qs → AllHaveWidth w (ps ++ qs)
widths-append w [] qs h k = k
widths-append w (p ∷ ps) qs h k = (h.0, widths-append w ps qs h.1 k)

pub spell-append : (ps qs : List Piece) → spell_all (ps ++ qs) ≡ spell_all ps ++ spell_all qs
spell-append [] qs = refl
spell-append (p ∷ ps) qs = ap (λ (l : List ℕ). spell p ++ l) (spell-append ps qs) ∙ sym (append_assoc (spell p) (spell_all ps) (spell_all qs))

placed-append : (at : ℕ) (ps qs : List Piece) → placed at (ps ++ qs) ≡ placed at ps ++ placed (at + length (spell_all ps)) qs
placed-append at [] qs = ap (λ (n : ℕ). placed n qs) (omega arith)
placed-append at (p ∷ ps) qs =
    ap (λ (l : List BlockAt). record { place = at; size = size_of p; free = is_free p } ∷ l)
    (placed-append (at + size_of p) ps qs ∙ ap (λ (n : ℕ). placed (at + size_of p) ps ++ placed n qs) (omega (arith, length-append (spell p) (spell_all ps))))

-- one more block in a row
pub row_more : (unit first at : ℕ) (b : BlockAt) (bs : List BlockAt) → b.place ≡ at → IsSize unit b.size → StandInRow unit first at bs → StandInRow unit first (at + b.size) (bs ++ b ∷ [])
row_more unit first at b [] place is h = (place ∙ sym h, is, ap (λ (n : ℕ). n + b.size) h)
row_more unit first at b (c ∷ bs) place is h = (h.0, h.1, row_more unit (first + c.size) at b bs place is h.2)

pub walked_none : (w unit at : ℕ) (bytes : List ℕ) (old : List BlockAt) → Walked w unit at at bytes old old
walked_none w unit at bytes old =
    let z : at - at ≡ 0 = omega arith in
    record {
      pieces = [];
      whole = tt;
      widths = tt;
      is = rw z refl;
      listed = sym (append-nil old);
      on = omega arith;
      within = omega arith;
      rest = λ ps filled. (ps, rw z filled);
    }

pub walked_one : (w unit at n : ℕ) (kind : Bool) (bytes : List ℕ) (old : List BlockAt) → n ≤ length bytes → IsNext w unit n kind bytes → Walked w unit at (at + n) bytes old (old ++ record { place = at; size = n; free = kind } ∷ [])
walked_one w unit at n kind bytes old le h =
    let e : at + n - at ≡ n = omega arith in
    record {
      pieces = h.piece ∷ [];
      whole = (h.whole, tt);
      widths = (h.width, tt);
      is = rw e (h.is ∙ sym (append-nil (spell h.piece)));
      listed = ap (λ (b : BlockAt). old ++ b ∷ []) (λ i. record { place = at; size = sym h.size i; free = sym h.kind i });
      on = omega arith;
      within = omega (arith, le);
      rest = λ ps filled. rw e (h.rest ps filled);
    }

pub walked_then : (w unit at mid next : ℕ) (bytes : List ℕ) (old half new : List BlockAt) → Walked w unit at mid bytes old half → Walked w unit mid next (drop (mid - at) bytes) half new → Walked w unit at next bytes old new
walked_then w unit at mid next bytes old half new a b =
    let sum : next - at ≡ (mid - at) + (next - mid) = omega (arith, a.on, b.on) in
    let long : length (spell_all a.pieces) ≡ mid - at = sym (ap length a.is) ∙ length-take-le (mid - at) bytes a.within in
    let place : at + length (spell_all a.pieces) ≡ mid = omega (arith, long, a.on) in
    record {
      pieces = a.pieces ++ b.pieces;
      whole = whole-append unit a.pieces b.pieces a.whole b.whole;
      widths = widths-append w a.pieces b.pieces a.widths b.widths;
      is = rw (sum, take-add (mid - at) (next - mid) bytes, a.is, b.is) (sym (spell-append a.pieces b.pieces));
      listed = b.listed ∙ ap (λ (l : List BlockAt). l ++ placed mid b.pieces) a.listed ∙ append_assoc old (placed at a.pieces) (placed mid b.pieces)
          ∙ ap (λ (l : List BlockAt). old ++ l) (sym (placed-append at a.pieces b.pieces ∙ ap (λ (n : ℕ). placed at a.pieces ++ placed n b.pieces) place));
      on = omega (arith, a.on, b.on);
      within = omega (arith, a.on, b.on, a.within, b.within, length-drop (mid - at) bytes);
      rest = λ ps filled.
          let q = a.rest ps filled in
          let r = b.rest q.0 q.1 in
          (r.0, subst (λ (l : List ℕ). IsFilled w unit l r.0) (drop-drop (next - mid) (mid - at) bytes ∙ ap (λ (n : ℕ). drop n bytes) (sym sum)) r.1);
    }

-- a part of the chunk is the front of what is left
pub part_of : (chunk bytes : List ℕ) (k : ℕ) → k ≤ length chunk → chunk ≡ take (length chunk) bytes → take (length chunk - k) (drop k chunk) ≡ take (length (take (length chunk - k) (drop k chunk))) (drop k bytes)
part_of chunk bytes k le part =
    let m : ℕ = length chunk - k in
    let sum : length chunk ≡ k + m = omega (arith, le) in
    let same : drop k chunk ≡ take m (drop k bytes) = ap (λ (l : List ℕ). drop k l) (part ∙ ap (λ (n : ℕ). take n bytes) sum) ∙ drop-take k m bytes in
    let whole : take m (drop k chunk) ≡ drop k chunk = take_rest chunk k in
    let long : length (take m (drop k chunk)) ≡ m = ap length whole ∙ length-drop k chunk in
    whole ∙ same ∙ ap (λ (n : ℕ). take n (drop k bytes)) (sym long)

-- what is left of the bytes between two places
pub between_on : (first at end : ℕ) (file : List ℕ) → first ≤ at → at ≤ end → between at end file ≡ drop (at - first) (between first end file)
between_on first at end file low high =
    let sum : end - first ≡ (at - first) + (end - at) = omega (arith, low, high) in
    let place : first + (at - first) ≡ at = omega (arith, low) in
    sym (ap (λ (n : ℕ). drop (at - first) (take n (drop first file))) sum ∙ drop-take (at - first) (end - at) (drop first file)
    ∙ ap (λ (l : List ℕ). take (end - at) l) (drop-drop (at - first) first file ∙ ap (λ (n : ℕ). drop n file) place))

pub between_long : (at end : ℕ) (file : List ℕ) → at ≤ end → end ≤ length file → at + length (between at end file) ≡ end
between_long at end file high inside =
    let l = length-take-le (end - at) (drop at file) (omega (arith, inside, length-drop at file)) in
    omega (arith, l, high)

pub between_part : (at end len : ℕ) (file part : List ℕ) → at + len ≤ end → length part ≡ len → part ≡ take len (drop at file) → part ≡ take (length part) (between at end file)
between_part at end len file part within long is =
    is ∙ sym (take-take len (end - at) (drop at file) (omega (arith, within))) ∙ ap (λ (n : ℕ). take n (between at end file)) (sym long)

-- all was listed
pub filled : (w unit first end : ℕ) (bytes : List ℕ) (new : List BlockAt) → first + length bytes ≡ end → Walked w unit first end bytes [] new → (ps : List Piece) × IsFilled w unit bytes ps × (new ≡ placed first ps)
filled w unit first end bytes new long k =
    let all : take (end - first) bytes ≡ bytes = take_all (end - first) bytes (omega (arith, long)) in
    (k.pieces, record { whole = k.whole; widths = k.widths; is = sym all ∙ k.is }, k.listed)
