-- A file's free blocks are the pool's and those lent out, step by step.
use Rattle.std.proofs.Common.{◌≡◌, ◌≢◌, ◌∙◌, ◌⊎◌, inl, inr, ℕ, ◌+◌, ◌-◌, ◌<◌, ◌≤◌, Bool, cond, List, [], ◌∷◌, ◌++◌, length, drop, Option, Some, None, refl, sym, ap, subst, arith, length-drop}
use Rattle.std.proofs.lemmas.Bool.{cases_eq, eq-eqb, ne_eqb}
use Rattle.std.proofs.lemmas.List.{length-take-le}
use Rattle.hf_block.specs.Pieces.{Record, Piece, held, free, size_of, AllWhole}
use Rattle.hf_layout.specs.Frees.{Frees, IsThere, MeetsNone, with_block, without}
use Rattle.hf_layout.specs.Layout.{piece_at, record_of, free_of, record_at, frees_of, IsShared, LaidOut, HasBlock}
use Rattle.hf_layout.proofs.Segments.{large}
use Rattle.hf_layout.proofs.Places.{long, long-append, long-cons, whole_parts, later, behind, in_middle, parted_at}

-- ---- at one place

pub with_at : (frees : Frees) (place size q : ℕ) → q ≡ place → with_block frees place size q ≡ Some size
with_at frees place size q e = ap (λ (b : Bool). cond b (Some size) (frees q)) (eq-eqb q place e)

pub with_off : (frees : Frees) (place size q : ℕ) → q ≢ place → with_block frees place size q ≡ frees q
with_off frees place size q ne = ap (λ (b : Bool). cond b (Some size) (frees q)) (ne_eqb q place ne)

pub without_at : (frees : Frees) (place q : ℕ) → q ≡ place → without frees place q ≡ None
without_at frees place q e = ap (λ (b : Bool). cond b None (frees q)) (eq-eqb q place e)

pub without_off : (frees : Frees) (place q : ℕ) → q ≢ place → without frees place q ≡ frees q
without_off frees place q ne = ap (λ (b : Bool). cond b None (frees q)) (ne_eqb q place ne)

-- a pool's block is the file's, and isn't lent out
pub pools : (there pool lent : Option ℕ) (t : ℕ) → IsShared there pool lent → pool ≡ Some t → (there ≡ Some t) × (lent ≡ None)
pools there pool lent t (inl h) e = (sym h.0 ∙ e, h.1)
pools there pool lent t (inr h) e = absurd (let f = sym h.0 ∙ e in cc)

pub nothing : (there pool lent : Option ℕ) → IsShared there pool lent → there ≡ None → (pool ≡ None) × (lent ≡ None)
nothing there pool lent (inl h) e = (h.0 ∙ e, h.1)
nothing there pool lent (inr h) e = (h.0, h.1 ∙ e)

pub shared_as : (there there' pool pool' lent lent' : Option ℕ) → there' ≡ there → pool' ≡ pool → lent' ≡ lent → IsShared there pool lent → IsShared there' pool' lent'
shared_as there there' pool pool' lent lent' e f g (inl h) = inl (f ∙ h.0 ∙ sym e, g ∙ h.1)
shared_as there there' pool pool' lent lent' e f g (inr h) = inr (f ∙ h.0, g ∙ h.1 ∙ sym e)

-- a free block's size is what it measures, and it is no record
pub free_is : (o : Option Piece) (t : ℕ) → free_of o ≡ Some t → (p : Piece) × (o ≡ Some p) × (size_of p ≡ t) × (record_of o ≡ None)
free_is None t h = absurd cc
free_is (Some (held r)) t h = absurd cc
free_is (Some (free size tail)) t h = (free size tail, refl, cc, refl)

pub record_is : (o : Option Piece) (r : Record) → record_of o ≡ Some r → o ≡ Some (held r)
record_is None r h = absurd cc
record_is (Some (held s)) r h = let e : s ≡ r = cc in ap (λ (x : Record). Some (held x)) e
record_is (Some (free size tail)) r h = absurd cc

-- ---- where the blocks end

pub ends : (unit first end : ℕ) (ps : List Piece) (frees lent : Frees) (bytes : List ℕ) → LaidOut unit first end ps frees lent bytes → first + long ps ≡ end
ends unit first end ps frees lent bytes h =
    omega (arith, ap length h.filled.is, length-take-le (end - first) (drop first bytes) (omega (arith, h.within, length-drop first bytes)), h.on)

-- the blocks of a list in which one begins at a place
pub whole_around : (unit : ℕ) (xs seg ys ps : List Piece) → ps ≡ xs ++ (seg ++ ys) → AllWhole unit ps → AllWhole unit xs × AllWhole unit seg × AllWhole unit ys
whole_around unit xs seg ys ps is whole =
    let a = whole_parts unit xs (seg ++ ys) (subst (λ (l : List Piece). AllWhole unit l) is whole) in
    let b = whole_parts unit seg ys a.1 in
    (a.0, b.0, b.1)

-- no block begins inside another
pub inner : (unit first : ℕ) (ps : List Piece) (p : Piece) (q r : ℕ) → AllWhole unit ps → piece_at first ps q ≡ Some p → q < r → r < q + size_of p → piece_at first ps r ≡ None
inner unit first ps p q r whole at low high =
    let s = parted_at first ps q p at in
    let w = whole_around unit s.xs (p ∷ []) s.ys ps s.is whole in
    ap (λ (l : List Piece). piece_at first l r) s.is
    ∙ in_middle unit first s.xs (p ∷ []) s.ys r w.0 (omega (arith, s.place, low)) (omega (arith, s.place, high, long-cons p []))
    ∙ later (first + long s.xs) p [] r (omega (arith, s.place, low))

-- a block ends where all do, or before
pub ends_within : (unit first : ℕ) (ps : List Piece) (p : Piece) (q : ℕ) → piece_at first ps q ≡ Some p → (first ≤ q) × (q + size_of p ≤ first + long ps)
ends_within unit first ps p q at =
    let s = parted_at first ps q p at in
    (omega (arith, s.place), omega (arith, s.place, ap long s.is, long-append s.xs (p ∷ s.ys), long-cons p s.ys))

-- a free block of the pool
pub record Known (first : ℕ) (ps : List Piece) (lent : Frees) (q t : ℕ) : Type 0 where
  pub piece : Piece
  pub at : piece_at first ps q ≡ Some piece
  pub size : size_of piece ≡ t
  pub unlent : lent q ≡ None
  pub no_record : record_at first ps q ≡ None

pub known : (unit first end : ℕ) (ps : List Piece) (frees lent : Frees) (bytes : List ℕ) (q t : ℕ) → LaidOut unit first end ps frees lent bytes → IsThere frees q t → Known first ps lent q t
known unit first end ps frees lent bytes q t h there =
    let s = pools (frees_of first ps q) (frees q) (lent q) t (h.shared q) there in
    let f = free_is (piece_at first ps q) t s.0 in
    record { piece = f.0; at = f.1; size = f.2; unlent = s.1; no_record = f.3 }

-- inside a block there is nothing
pub inside_none : (unit first end : ℕ) (ps : List Piece) (frees lent : Frees) (bytes : List ℕ) (p : Piece) (q r : ℕ) → LaidOut unit first end ps frees lent bytes → piece_at first ps q ≡ Some p → q < r → r < q + size_of p → (frees r ≡ None) × (lent r ≡ None) × (record_at first ps r ≡ None)
inside_none unit first end ps frees lent bytes p q r h at low high =
    let e = inner unit first ps p q r h.filled.whole at low high in
    let n = nothing (frees_of first ps r) (frees r) (lent r) (h.shared r) (ap free_of e) in
    (n.0, n.1, ap record_of e)

-- a block holds a free block's head
pub block_large : (unit first end : ℕ) (ps : List Piece) (frees lent : Frees) (bytes : List ℕ) (at size : ℕ) → LaidOut unit first end ps frees lent bytes → HasBlock first ps at size → 5 ≤ size
block_large unit first end ps frees lent bytes at size h block =
    let s = parted_at first ps at block.0 block.1 in
    let w = (whole_around unit s.xs (block.0 ∷ []) s.ys ps s.is h.filled.whole).1.0 in
    omega (arith, large unit (size_of block.0) w.size.some w.size.aligned, block.2, h.room)

-- ---- blocks gathered in a row, to be one free block

pub record Gathered (first : ℕ) (ps : List Piece) (frees lent now : Frees) (at start total : ℕ) : Type 0 where
  pub xs : List Piece
  pub seg : List Piece
  pub ys : List Piece
  pub is : ps ≡ xs ++ (seg ++ ys)
  pub place : first + long xs ≡ start
  pub size : long seg ≡ total
  pub low : start ≤ at
  pub high : at < start + total
  pub gone : (q : ℕ) → start ≤ q → q < start + total → now q ≡ None
  pub unlent : (q : ℕ) → start ≤ q → q < start + total → q ≢ at → lent q ≡ None
  pub no_record : (q : ℕ) → start ≤ q → q < start + total → q ≢ at → record_at first ps q ≡ None
  pub off : (q : ℕ) → (q < start) ⊎ (start + total ≤ q) → now q ≡ frees q

pub gather_one : (unit first end : ℕ) (ps : List Piece) (frees lent : Frees) (bytes : List ℕ) (at size : ℕ) → LaidOut unit first end ps frees lent bytes → HasBlock first ps at size → 0 < size → MeetsNone frees at size → Gathered first ps frees lent frees at at size
gather_one unit first end ps frees lent bytes at size h block some apart =
    let p : Piece = block.0 in
    let s = parted_at first ps at p block.1 in
    record {
      xs = s.xs;
      seg = p ∷ [];
      ys = s.ys;
      is = s.is;
      place = s.place;
      size = omega (arith, long-cons p [], block.2);
      low = omega arith;
      high = omega (arith, some);
      gone = λ q low high. elim (cases_eq q at) [
        | inl e ↦ ap frees e ∙ mine (frees at) refl
        | inr ne ↦ (inside_none unit first end ps frees lent bytes p at q h block.1 (omega (arith, low, ne)) (omega (arith, high, block.2))).0
      ];
      unlent = λ q low high ne. (inside_none unit first end ps frees lent bytes p at q h block.1 (omega (arith, low, ne)) (omega (arith, high, block.2))).1;
      no_record = λ q low high ne. (inside_none unit first end ps frees lent bytes p at q h block.1 (omega (arith, low, ne)) (omega (arith, high, block.2))).2;
      off = λ q out. refl;
    }
  where
    mine : (o : Option ℕ) → frees at ≡ o → o ≡ None
    mine None e = refl
    mine (Some t) e =
        let k = known unit first end ps frees lent bytes at t h e in
        let same : block.0 ≡ k.piece = (let f = sym block.1 ∙ k.at in cc) in
        absurd (elim (apart at t e) [
          | inl before ↦ omega (arith, before, k.size, ap size_of same, block.2, some)
          | inr behind ↦ omega (arith, behind, some)
        ])

pub gather_same : (first : ℕ) (ps : List Piece) (frees lent now new : Frees) (at start total start' total' : ℕ) → start' ≡ start → total' ≡ total → ((q : ℕ) → new q ≡ now q) → Gathered first ps frees lent now at start total → Gathered first ps frees lent new at start' total'
gather_same first ps frees lent now new at start total start' total' es et same h = record {
  xs = h.xs;
  seg = h.seg;
  ys = h.ys;
  is = h.is;
  place = h.place ∙ sym es;
  size = h.size ∙ sym et;
  low = omega (arith, h.low, es);
  high = omega (arith, h.high, es, et);
  gone = λ q low high. same q ∙ h.gone q (omega (arith, low, es)) (omega (arith, high, es, et));
  unlent = λ q low high. h.unlent q (omega (arith, low, es)) (omega (arith, high, es, et));
  no_record = λ q low high. h.no_record q (omega (arith, low, es)) (omega (arith, high, es, et));
  off = λ q out. same q ∙ h.off q (elim out [ inl low ↦ inl (omega (arith, low, es)) | inr high ↦ inr (omega (arith, high, es, et)) ]);
}
