-- The next block, from its head.
use Rattle.std.proofs.Common.{◌≡◌, ◌∙◌, ◌⊎◌, inl, inr, ℕ, ◌+◌, ◌*◌, ◌-◌, ◌^◌, ◌<◌, ◌≤◌, List, [], ◌∷◌, ◌++◌, length, take, drop, Result, Ok, refl, sym, ap, subst, arith, append_assoc, length-append, length-drop}
use Rattle.std.proofs.lemmas.List.{take_at, drop_at, take-append-drop, length-take-le}
use Rattle.std.proofs.lemmas.Bool.{cases_lt}
use Rattle.std.proofs.Math.Nat.{mod-eq_of_lt}
use Rattle.std.proofs.Math.Seq.{take-add}
use Rattle.tc_base.specs.Vnum.{vnum}
use Rattle.tc_base.proofs.Endians.{length-le_bytes}
use Rattle.hf_block.specs.declared.block.Block.{Block}
use Rattle.hf_block.specs.declared.block.Block.TheVariants.{Rec, Free}
use Rattle.hf_block.specs.declared.reading.BlockErr.{BlockErr}
use Rattle.hf_block.specs.Heads.{rec_head, free_head, head_bytes, Fits, IsPrefix}
use Rattle.hf_block.specs.Pieces.{Record, Piece, held, free, spell, size_of, is_free, IsSize, IsWhole, HasWidth, spell_all, IsFilled}
use Rattle.hf_block.specs.Walks.{total, is_free_block, block_of, HasNext}
use Rattle.hf_block.proofs.Blocking.{vnum_most}
use Rattle.hf_block.proofs.Padding.{length-rec_head, length-held}

-- ---- lists

pub take_behind : (head rest : List ℕ) (n m : ℕ) → n ≡ length head + m → take n (head ++ rest) ≡ head ++ take m rest
take_behind head rest n m e =
    ap (λ (k : ℕ). take k (head ++ rest)) e ∙ take-add (length head) m (head ++ rest) ∙ rw (take_at head rest (length head) refl, drop_at head rest (length head) refl) refl

three_parts : (a b c : ℕ) (r : List ℕ) → take a r ++ (take b (drop a r) ++ take c (drop (a + b) r)) ≡ take (a + b + c) r
three_parts a b c r =
    sym (take-add (a + b) c r ∙ ap (λ (l : List ℕ). l ++ take c (drop (a + b) r)) (take-add a b r) ∙ append_assoc (take a r) (take b (drop a r)) (take c (drop (a + b) r)))

-- ---- from a head to a block

pub record Cut (w unit n : ℕ) (b : Block) (bytes : List ℕ) : Type 0 where
  pub piece : Piece
  pub whole : IsWhole unit piece
  pub width : HasWidth w piece
  pub is : take n bytes ≡ spell piece
  pub size : size_of piece ≡ n
  pub of_kind : is_free piece ≡ is_free_block b
  pub head : b ≡ block_of piece

length-free_head : (size : ℕ) → length (free_head size) ≡ 5
unfolding free_head
length-free_head size = omega (arith, length-le_bytes 4 size)

sized : (unit n : ℕ) (p : Piece) → size_of p ≡ n → IsSize unit n → IsSize unit (size_of p)
sized unit n p e h = subst (λ (m : ℕ). IsSize unit m) (sym e) h

cut_rec : (w unit hash left right pad key value head : ℕ) (bytes : List ℕ) → Fits w (Rec hash left right pad key value head) → IsPrefix (rec_head w hash left right pad key value) bytes → IsSize unit (head + key + value + pad) → head + key + value + pad ≤ length bytes → Cut w unit (head + key + value + pad) (Rec hash left right pad key value head) bytes
unfolding spell
cut_rec w unit hash left right pad key value head bytes fits pre is le =
    let h : List ℕ = rec_head w hash left right pad key value in
    let rest : List ℕ = pre.0 in
    let hl : length h ≡ head = length-rec_head w hash left right pad key value ∙ sym fits.6 in
    let room : key + value + pad ≤ length rest = omega (arith, ap length pre.1, length-append h rest, hl, le) in
    let k : List ℕ = take key rest in
    let v : List ℕ = take value (drop key rest) in
    let p : List ℕ = take pad (drop (key + value) rest) in
    let kl : length k ≡ key = length-take-le key rest (omega (arith, room)) in
    let vl : length v ≡ value = length-take-le value (drop key rest) (omega (arith, room, length-drop key rest)) in
    let pl : length p ≡ pad = length-take-le pad (drop (key + value) rest) (omega (arith, room, length-drop (key + value) rest)) in
    let r : Record = record { wide = w; hash = hash; left = left; right = right; key = k; value = v; pad = p } in
    let spelled : take (head + key + value + pad) bytes ≡ spell (held r) =
    ap (λ (l : List ℕ). take (head + key + value + pad) l) pre.1
    ∙ take_behind h rest (head + key + value + pad) (key + value + pad) (omega (arith, hl))
    ∙ rw (kl, vl, pl) (ap (λ (l : List ℕ). h ++ l) (sym (three_parts key value pad rest))) in
    let size : size_of (held r) ≡ head + key + value + pad = sym (ap length spelled) ∙ length-take-le (head + key + value + pad) bytes le in
    record {
      piece = held r;
      whole = record { fits = (fits.0, fits.1, fits.2, subst (λ (n : ℕ). n < 2 ^ 16) (sym pl) fits.3); size = sized unit (head + key + value + pad) (held r) size is };
      width = refl;
      is = spelled;
      size = size;
      of_kind = refl;
      head = λ i. Rec hash left right (sym pl i) (sym kl i) (sym vl i) ((fits.6 ∙ (λ j. 4 + 2 * w + length (vnum (sym kl j)) + length (vnum (sym vl j)))) i);
    }

cut_free : (w unit size : ℕ) (bytes : List ℕ) → 5 ≤ unit → Fits w (Free size) → IsPrefix (free_head size) bytes → IsSize unit size → size ≤ length bytes → Cut w unit size (Free size) bytes
unfolding spell
cut_free w unit size bytes some fits pre is le =
    let rest : List ℕ = pre.0 in
    let hl = length-free_head size in
    let large : 5 ≤ size = aligned_large unit size some is in
    let tail : List ℕ = take (size - 5) rest in
    let spelled : take size bytes ≡ spell (free size tail) =
    ap (λ (l : List ℕ). take size l) pre.1 ∙ take_behind (free_head size) rest size (size - 5) (omega (arith, hl, large)) in
    let long : size_of (free size tail) ≡ size = sym (ap length spelled) ∙ length-take-le size bytes le in
    record { piece = free size tail; whole = record { fits = long; size = sized unit size (free size tail) long is }; width = tt; is = spelled; size = long; of_kind = refl; head = refl }
  where
    aligned_large : (unit size : ℕ) → 5 ≤ unit → IsSize unit size → 5 ≤ size
    aligned_large unit size some is = elim (cases_lt size unit) [
      | inl less ↦ absurd (omega (arith, is.some, is.aligned, mod-eq_of_lt less))
      | inr more ↦ omega (arith, some, more)
    ]

pub cut : (w unit : ℕ) (b : Block) (bytes : List ℕ) → 5 ≤ unit → Fits w b → IsPrefix (head_bytes w b) bytes → IsSize unit (total b) → total b ≤ length bytes → Cut w unit (total b) b bytes
cut w unit (Rec hash left right pad key value head) bytes some fits pre is le = cut_rec w unit hash left right pad key value head bytes fits pre is le
cut w unit (Free size) bytes some fits pre is le = cut_free w unit size bytes some fits pre is le

-- ---- from a block to its head

pub record Headed (w : ℕ) (p : Piece) : Type 0 where
  pub fits : Fits w (block_of p)
  pub front : IsPrefix (head_bytes w (block_of p)) (spell p)
  pub short : length (head_bytes w (block_of p)) ≤ 40
  pub size : total (block_of p) ≡ size_of p

headed_record : (unit : ℕ) (r : Record) → r.wide ≤ 8 → IsWhole unit (held r) → Headed r.wide (held r)
unfolding spell
headed_record unit r most w =
    let l = length-held r in
    let b = w.size.below in
    let k = vnum_most (length r.key) (omega (arith, l, b)) in
    let v = vnum_most (length r.value) (omega (arith, l, b)) in
    record {
      fits = (w.fits.0, w.fits.1, w.fits.2, w.fits.3, omega (arith, l, b), omega (arith, l, b), refl);
      front = (r.key ++ (r.value ++ r.pad), refl);
      short = omega (arith, k, v, most, length-rec_head r.wide r.hash r.left r.right (length r.pad) (length r.key) (length r.value));
      size = omega (arith, l);
    }

pub headed : (wide unit : ℕ) (p : Piece) → wide ≤ 8 → IsWhole unit p → HasWidth wide p → Headed wide p
unfolding spell
headed wide unit (held r) most w is = subst (λ (n : ℕ). Headed n (held r)) is (headed_record unit r (subst (λ (n : ℕ). n ≤ 8) (sym is) most) w)
headed wide unit (free size tail) most w is = record {
  fits = (omega (arith, w.fits, w.size.some), omega (arith, w.fits, w.size.below));
  front = (tail, refl);
  short = omega (arith, length-free_head size);
  size = sym w.fits;
}

-- the front of the bytes has the head of the first block
pub front_headed : (wide unit : ℕ) (q : Piece) (more bytes front : List ℕ) → wide ≤ 8 → IsWhole unit q → HasWidth wide q → bytes ≡ spell q ++ more → front ≡ take (length front) bytes → (length front ≡ length bytes) ⊎ (40 ≤ length front) → IsPrefix (head_bytes wide (block_of q)) front
front_headed wide unit q more bytes front most w width is part enough =
    let h = headed wide unit q most w width in
    let head : List ℕ = head_bytes wide (block_of q) in
    let all : bytes ≡ head ++ (h.front.0 ++ more) = is ∙ ap (λ (l : List ℕ). l ++ more) h.front.1 ∙ append_assoc head h.front.0 more in
    let long : length head ≤ length front = elim enough [
      | inl same ↦ omega (arith, same, ap length all, length-append head (h.front.0 ++ more))
      | inr much ↦ omega (arith, much, h.short)
    ] in
    (take (length front - length head) (h.front.0 ++ more), part ∙ ap (λ (l : List ℕ). take (length front) l) all ∙ take_behind head (h.front.0 ++ more) (length front) (length front - length head) (omega (arith, long)))

-- ---- what reading the front says of the rest

abbrev Again : ℕ → List ℕ → Result Block BlockErr → Type 0
Again wide front r = (b : Block) → Fits wide b → IsPrefix (head_bytes wide b) front → r ≡ Ok b

some_head : (wide : ℕ) (b : Block) → 0 < length (head_bytes wide b)
unfolding rec_head free_head
some_head wide (Rec hash left right pad key value head) = omega arith
some_head wide (Free size) = omega arith

-- the first of whole blocks is the one that was read
first_is : (wide unit : ℕ) (r : Result Block BlockErr) (bytes front : List ℕ) → wide ≤ 8 → Again wide front r → front ≡ take (length front) bytes → (length front ≡ length bytes) ⊎ (40 ≤ length front) → (q : Piece) (qs : List Piece) → IsFilled wide unit bytes (q ∷ qs) → r ≡ Ok (block_of q)
first_is wide unit r bytes front most again part enough q qs filled =
    again (block_of q) (headed wide unit q most filled.whole.0 filled.widths.0).fits (front_headed wide unit q (spell_all qs) bytes front most filled.whole.0 filled.widths.0 filled.is part enough)

pub is_next : (wide unit : ℕ) (b : Block) (bytes front : List ℕ) → wide ≤ 8 → 5 ≤ unit → Again wide front (Ok b) → Fits wide b → IsPrefix (head_bytes wide b) front → front ≡ take (length front) bytes → (length front ≡ length bytes) ⊎ (40 ≤ length front) → IsSize unit (total b) → total b ≤ length bytes → HasNext wide unit (total b) b bytes
is_next wide unit b bytes front most some again fits pre part enough is le =
    let whole : bytes ≡ head_bytes wide b ++ (pre.0 ++ drop (length front) bytes) =
    sym (take-append-drop (length front) bytes) ∙ ap (λ (l : List ℕ). l ++ drop (length front) bytes) (sym part ∙ pre.1) ∙ append_assoc (head_bytes wide b) pre.0 (drop (length front) bytes) in
    let c = cut wide unit b bytes some fits (pre.0 ++ drop (length front) bytes, whole) is le in
    record { next = record { piece = c.piece; whole = c.whole; width = c.width; is = c.is; size = c.size; kind = c.of_kind; rest = behind }; head = c.head }
  where
    behind : (ps : List Piece) → IsFilled wide unit bytes ps → (qs : List Piece) × IsFilled wide unit (drop (total b) bytes) qs
    behind [] filled = absurd (omega (arith, ap length filled.is, is.some, le))
    behind (q ∷ qs) filled =
        let e = first_is wide unit (Ok b) bytes front most again part enough q qs filled in
        let same : b ≡ block_of q = cc in
        let n : total b ≡ size_of q = ap total same ∙ (headed wide unit q most filled.whole.0 filled.widths.0).size in
        (qs, record { whole = filled.whole.1; widths = filled.widths.1; is = ap (λ (l : List ℕ). drop (total b) l) filled.is ∙ drop_at (spell q) (spell_all qs) (total b) (sym n) })

pub no_blocks : (wide unit : ℕ) (r : Result Block BlockErr) (bytes front : List ℕ) → 0 < length bytes → wide ≤ 8 → Again wide front r → front ≡ take (length front) bytes → (length front ≡ length bytes) ⊎ (40 ≤ length front) → ((b : Block) → r ≡ Ok b → IsSize unit (total b) → total b ≤ length bytes → ⊥) → (ps : List Piece) → IsFilled wide unit bytes ps → ⊥
no_blocks wide unit r bytes front some most again part enough bad [] filled = omega (arith, ap length filled.is, some)
no_blocks wide unit r bytes front some most again part enough bad (q ∷ qs) filled =
    let h = headed wide unit q most filled.whole.0 filled.widths.0 in
    let e = first_is wide unit r bytes front most again part enough q qs filled in
    bad (block_of q) e (subst (λ (n : ℕ). IsSize unit n) (sym h.size) filled.whole.0.size) (omega (arith, h.size, ap length filled.is, length-append (spell q) (spell_all qs)))
