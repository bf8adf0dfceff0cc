-- The blocks of bytes are the only ones.
use Rattle.std.proofs.Common.{◌≡◌, ◌∙◌, ℕ, ◌+◌, ◌≤◌, List, [], ◌∷◌, ◌++◌, length, take, drop, refl, sym, ap, arith, append_assoc, length-append, Option, Some, None, Ok}
use Rattle.std.proofs.lemmas.List.{take_at, drop_at}
use Rattle.tc_base.specs.Reading.{Front}
use Rattle.hf_head.specs.declared.head.Head.{Head}
use Rattle.hf_head.specs.Heads.{unit}
use Rattle.hf_block.specs.declared.block.Block.{Block}
use Rattle.hf_block.specs.Fronts.{block_front}
use Rattle.hf_block.specs.Heads.{head_bytes, rec_head, free_head}
use Rattle.hf_block.specs.Pieces.{Record, Piece, held, free, spell, size_of, IsWhole, AllWhole, HasWidth, AllHaveWidth, IsFilled, spell_all}
use Rattle.hf_block.specs.Walks.{between, total, block_of}
use Rattle.hf_block.proofs.Blocking.{whole, wide_most}
use Rattle.hf_block.proofs.NextBlock.{headed}
use Rattle.hf_layout.specs.Layout.{HaveWidth, piece_at, record_of}
use Rattle.hf_layout.proofs.Places.{here, later}
use Rattle.hf_layout.proofs.Shares.{ends_within}
use Rattle.hf_tree.specs.Links.{HasBlocks, width}

prefixed : (w unit : ℕ) (p : Piece) (x bytes : List ℕ) → w ≤ 8 → IsWhole unit p → HasWidth w p → bytes ≡ spell p ++ x → (rest : List ℕ) × (block_front w bytes ≡ Ok (block_of p, rest))
prefixed w unit p x bytes most is has e =
    let h = headed w unit p most is has in
    let head : List ℕ = head_bytes w (block_of p) in
    whole w bytes (block_of p) h.fits (h.front.0 ++ x, e ∙ ap (λ (l : List ℕ). l ++ x) h.front.1 ∙ append_assoc head h.front.0 x)

-- the head of the block at the front is the only one
one_head : (w unit : ℕ) (p q : Piece) (x y bytes : List ℕ) → w ≤ 8 → IsWhole unit p → HasWidth w p → IsWhole unit q → HasWidth w q → bytes ≡ spell p ++ x → bytes ≡ spell q ++ y → block_of p ≡ block_of q
one_head w unit p q x y bytes most a b c d e f =
    let g = prefixed w unit p x bytes most a b e in
    let h = prefixed w unit q y bytes most c d f in
    let s : ◌≡◌ {A = Front Block} (Ok (block_of p, g.0)) (Ok (block_of q, h.0)) = sym g.1 ∙ h.1 in
    let t : ◌≡◌ {A = Block × List ℕ} (block_of p, g.0) (block_of q, h.0) = cc in
    ap (λ (z : Block × List ℕ). z.0) t

one_spelling : (w unit : ℕ) (p q : Piece) (x y bytes : List ℕ) → w ≤ 8 → IsWhole unit p → HasWidth w p → IsWhole unit q → HasWidth w q → bytes ≡ spell p ++ x → bytes ≡ spell q ++ y → spell p ≡ spell q
one_spelling w unit p q x y bytes most a b c d e f =
    let same = one_head w unit p q x y bytes most a b c d e f in
    let n : size_of q ≡ size_of p = sym (headed w unit q most c d).size ∙ ap total (sym same) ∙ (headed w unit p most a b).size in
    sym (take_at (spell p) x (size_of p) refl) ∙ ap (take (size_of p)) (sym e ∙ f) ∙ take_at (spell q) y (size_of p) n

-- the parts of two lists that are one
fronts : (a b x y : List ℕ) → length a ≡ length b → a ++ x ≡ b ++ y → (a ≡ b) × (x ≡ y)
fronts a b x y n e = (sym (take_at a x (length a) refl) ∙ ap (take (length a)) e ∙ take_at b y (length a) (sym n), sym (drop_at a x (length a) refl) ∙ ap (drop (length a)) e ∙ drop_at b y (length a) (sym n))

one_record : (r s : Record) → r.wide ≡ s.wide → block_of (held r) ≡ block_of (held s) → spell (held r) ≡ spell (held s) → held r ≡ held s
unfolding spell
one_record r s w same e =
    let hash : r.hash ≡ s.hash = cc in
    let left : r.left ≡ s.left = cc in
    let right : r.right ≡ s.right = cc in
    let pads : length r.pad ≡ length s.pad = cc in
    let keys : length r.key ≡ length s.key = cc in
    let values : length r.value ≡ length s.value = cc in
    let heads : rec_head r.wide r.hash r.left r.right (length r.pad) (length r.key) (length r.value) ≡ rec_head s.wide s.hash s.left s.right (length s.pad) (length s.key) (length s.value) = cc in
    let a = fronts (rec_head r.wide r.hash r.left r.right (length r.pad) (length r.key) (length r.value)) (rec_head s.wide s.hash s.left s.right (length s.pad) (length s.key) (length s.value)) (r.key ++ (r.value ++ r.pad)) (s.key ++ (s.value ++ s.pad)) (ap length heads) e in
    let b = fronts r.key s.key (r.value ++ r.pad) (s.value ++ s.pad) keys a.1 in
    let c = fronts r.value s.value r.pad s.pad values b.1 in
    λ i. held (record { wide = w i; hash = hash i; left = left i; right = right i; key = b.0 i; value = c.0 i; pad = c.1 i })

one_free : (n m : ℕ) (t u : List ℕ) → block_of (free n t) ≡ block_of (free m u) → spell (free n t) ≡ spell (free m u) → free n t ≡ free m u
unfolding spell
one_free n m t u same e =
    let sizes : n ≡ m = cc in
    let a = fronts (free_head n) (free_head m) t u (ap (λ (k : ℕ). length (free_head k)) sizes) e in
    λ i. free (sizes i) (a.1 i)

one_piece : (w : ℕ) (p q : Piece) → HasWidth w p → HasWidth w q → block_of p ≡ block_of q → spell p ≡ spell q → p ≡ q
one_piece w (held r) (held s) a b same e = one_record r s (a ∙ sym b) same e
one_piece w (held r) (free m u) a b same e = absurd cc
one_piece w (free n t) (held s) a b same e = absurd cc
one_piece w (free n t) (free m u) a b same e = one_free n m t u same e

pub one_filling : (w unit : ℕ) (ps qs : List Piece) (bytes : List ℕ) → w ≤ 8 → IsFilled w unit bytes ps → IsFilled w unit bytes qs → ps ≡ qs
one_filling w unit [] [] bytes most a b = refl
one_filling w unit [] (q ∷ qs) bytes most a b = absurd (omega (arith, ap length a.is, ap length b.is, length-append (spell q) (spell_all qs), b.whole.0.size.some))
one_filling w unit (p ∷ ps) [] bytes most a b = absurd (omega (arith, ap length a.is, ap length b.is, length-append (spell p) (spell_all ps), a.whole.0.size.some))
one_filling w unit (p ∷ ps) (q ∷ qs) bytes most a b =
    let same = one_head w unit p q (spell_all ps) (spell_all qs) bytes most a.whole.0 a.widths.0 b.whole.0 b.widths.0 a.is b.is in
    let spelled = one_spelling w unit p q (spell_all ps) (spell_all qs) bytes most a.whole.0 a.widths.0 b.whole.0 b.widths.0 a.is b.is in
    let first = one_piece w p q a.widths.0 b.widths.0 same spelled in
    let rest = fronts (spell p) (spell q) (spell_all ps) (spell_all qs) (ap length spelled) (sym a.is ∙ b.is) in
    let more = one_filling w unit ps qs (spell_all ps) most (record { whole = a.whole.1; widths = a.widths.1; is = refl }) (record { whole = b.whole.1; widths = b.widths.1; is = rest.1 }) in
    λ i. first i ∷ more i

-- records of one width were listed with it
pub widths_listed : (w unit at : ℕ) (ps : List Piece) → AllWhole unit ps → HaveWidth w at ps → AllHaveWidth w ps
widths_listed w unit at [] whole h = tt
widths_listed w unit at (p ∷ ps) whole h = (
  first p (λ r e. h at r (ap record_of (here at p ps at refl) ∙ e)),
  widths_listed w unit (at + size_of p) ps whole.1 (λ q r e.
      let f = found (piece_at (at + size_of p) ps q) r e in
      let low = (ends_within unit (at + size_of p) ps f.0 q f.1).0 in
      h q r (ap record_of (later at p ps q (omega (arith, low, whole.0.size.some))) ∙ e)),
)
  where
    first : (p : Piece) → ((r : Record) → record_of (Some p) ≡ Some r → r.wide ≡ w) → HasWidth w p
    first (held r) h = h r refl
    first (free size tail) h = tt

    found : (o : Option Piece) (r : Record) → record_of o ≡ Some r → (p : Piece) × (o ≡ Some p)
    found None r e = absurd cc
    found (Some p) r e = (p, refl)

-- the blocks of a file are the only ones
pub one_blocks : (h : Head) (end : ℕ) (ps qs : List Piece) (bytes : List ℕ) → HasBlocks h end ps bytes → HasBlocks h end qs bytes → ps ≡ qs
one_blocks h end ps qs bytes a b = one_filling (width h) (unit h) ps qs (between h.first end bytes) (wide_most _) (filling ps a) (filling qs b)
  where
    filling : (rs : List Piece) → HasBlocks h end rs bytes → IsFilled (width h) (unit h) (between h.first end bytes) rs
    filling rs c = record { whole = c.filled.whole; widths = widths_listed (width h) (unit h) h.first rs c.filled.whole c.widths; is = c.filled.is }
