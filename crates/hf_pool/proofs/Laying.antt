-- The pool's free blocks stay those of the file.
use Rattle.std.proofs.Common.{◌≡◌, ◌∙◌, inl, inr, ℕ, ◌+◌, ◌-◌, ◌%◌, ◌^◌, ◌<◌, ◌≤◌, ◌==◌, Bool, cond, List, [], ◌∷◌, ◌++◌, length, take, drop, Some, None, refl, sym, ap, subst, arith}
use Rattle.std.proofs.lemmas.Bool.{cases_eq, cases_lt, eq-eqb, ne_eqb}
use Rattle.std.proofs.lemmas.List.{append-nil, take-take, take_at}
use Rattle.hf_block.specs.Heads.{free_head}
use Rattle.hf_block.specs.Pieces.{Piece, AllWhole, spell_all}
use Rattle.hf_layout.specs.Frees.{Frees, IsThere, IsBest, MeetsNone, with_block, without}
use Rattle.hf_layout.specs.Layout.{piece_at, record_of, free_of, record_at, frees_of, LaidOut, Keeps, TakesBack, HasBlock}
use Rattle.hf_layout.proofs.Bytes.{head_stands, wrote_apart, whole_at}
use Rattle.hf_layout.proofs.Segments.{length-free_head, wrote_nothing, large, rest_aligned}
use Rattle.hf_block.proofs.Listing.{spell-append}
use Rattle.hf_layout.proofs.Places.{long, whole_parts, behind, in_front, parted_at}
use Rattle.hf_layout.proofs.Shares.{nothing, shared_as, ends, ends_within, known, inside_none, block_large, Gathered, gather_one, gather_same}
use Rattle.hf_layout.proofs.Gathers.{gather_front, gather_back, given_back, lent_whole, lent_front}
use Rattle.hf_pool.specs.Marks.{marked, parted}
use Rattle.hf_pool.specs.Trims.{Row, row_end, row_block}
use Rattle.hf_pool.specs.Joins.{FrontJoined, BackJoined, GivesBack}

-- what a pool holds once the front of a free block is taken
abbrev pub Left : Frees → Frees → ℕ → ℕ → ℕ → Type 0
Left old new size place found = (q : ℕ) → new q ≡ cond (found == size) (without old place q) (with_block (without old place) (place + size) (found - size) q)

pub parted_front : (place size found : ℕ) (bytes : List ℕ) → size < found → parted place size found bytes ≡ marked (place + size) (found - size) bytes
parted_front place size found bytes less = ap (λ (b : Bool). cond b bytes (marked (place + size) (found - size) bytes)) (ne_eqb found size (omega arith))

pub parted_whole : (place size found : ℕ) (bytes : List ℕ) → found ≡ size → parted place size found bytes ≡ bytes
parted_whole place size found bytes e = ap (λ (b : Bool). cond b bytes (marked (place + size) (found - size) bytes)) (eq-eqb found size e)

-- what is left over holds a head, and lies in the file
rest_inside : (unit first end : ℕ) (ps : List Piece) (frees lent : Frees) (bytes : List ℕ) (place size found : ℕ) → LaidOut unit first end ps frees lent bytes → IsThere frees place found → size < found → 0 < size → size % unit ≡ 0 → (5 ≤ size) × (place + size + 5 ≤ length bytes)
rest_inside unit first end ps frees lent bytes place size found h there less some multiple =
    let k = known unit first end ps frees lent bytes place found h there in
    let w = whole_at unit first ps k.piece place h.filled.whole k.at in
    let far = ends_within unit first ps k.piece place k.at in
    let e = ends unit first end ps frees lent bytes h in
    let whole : found % unit ≡ 0 = subst (λ (n : ℕ). n % unit ≡ 0) k.size w.size.aligned in
    let front = large unit size some multiple in
    let rest = large unit (found - size) (omega (arith, less)) (rest_aligned unit size found less multiple whole) in
    (omega (arith, front, h.room), omega (arith, rest, h.room, far.1, k.size, e, h.within, less))

-- a block is lent out: with a head of its size it is one of the file's
pub taken : (most unit first end : ℕ) (ps : List Piece) (frees new lent : Frees) (bytes after : List ℕ) (place size found : ℕ) → LaidOut unit first end ps frees lent bytes → IsBest frees most size place found → 0 < size → size % unit ≡ 0 → Left frees new size place found → after ≡ parted place size found bytes → Keeps unit first end ps new (with_block lent place size) (marked place size after)
taken most unit first end ps frees new lent bytes after place size found h best some multiple left is = elim (cases_eq found size) [
  | inl e ↦
      let t = eq-eqb found size e in
      let there : IsThere frees place size = best.there ∙ ap (λ (n : ℕ). Some n) e in
      subst (λ (b : List ℕ). Keeps unit first end ps new (with_block lent place size) b) (sym (ap (marked place size) (is ∙ parted_whole place size found bytes e) ∙ head_stands unit first end ps frees lent bytes place size h there))
      (lent_whole unit first end ps frees lent new bytes place size h there (λ q. left q ∙ ap (λ (b : Bool). cond b (without frees place q) (with_block (without frees place) (place + size) (found - size) q)) t))
  | inr ne ↦
      let less : size < found = omega (arith, best.enough, ne) in
      let t = ne_eqb found size ne in
      let room = rest_inside unit first end ps frees lent bytes place size found h best.there less some multiple in
      subst (λ (b : List ℕ). Keeps unit first end ps new (with_block lent place size) b) (sym (ap (marked place size) (is ∙ parted_front place size found bytes less) ∙ wrote_apart place (place + size) (free_head size) (free_head (found - size)) bytes (omega (arith, length-free_head size, room.0)) (omega (arith, length-free_head (found - size), room.1))))
      (lent_front unit first end ps frees lent new bytes place size found h best.there some multiple less (λ q. left q ∙ ap (λ (b : Bool). cond b (without frees place q) (with_block (without frees place) (place + size) (found - size) q)) t))
]

-- ---- given back

gathered : (unit first end : ℕ) (ps : List Piece) (frees lent new : Frees) (bytes : List ℕ) (at size start total : ℕ) → LaidOut unit first end ps frees lent bytes → HasBlock first ps at size → 0 < size → MeetsNone frees at size → (g : GivesBack frees new at size start total) → Gathered first ps frees lent g.rest at start total × (at + size ≤ start + total)
gathered unit first end ps frees lent new bytes at size start total h block some apart g = back g.back (front g.front)
  where
    one : Gathered first ps frees lent frees at at size
    one = gather_one unit first end ps frees lent bytes at size h block some apart

    front : FrontJoined frees at size start g.half g.middle → Gathered first ps frees lent g.middle at start g.half × (start + g.half ≡ at + size)
    front (inl (n, j)) = (gather_front unit first end ps frees lent frees g.middle bytes at start n at size g.half h j.there j.ends j.sum j.gone (λ q. refl) one, omega (arith, j.ends, j.sum))
    front (inr k) = (gather_same first ps frees lent frees g.middle at at size start g.half k.start_is k.total_is k.same one, omega (arith, k.start_is, k.total_is))

    back : BackJoined g.middle (at + size) g.half total g.rest → Gathered first ps frees lent g.middle at start g.half × (start + g.half ≡ at + size) → Gathered first ps frees lent g.rest at start total × (at + size ≤ start + total)
    back (inl (n, j)) f = (gather_back unit first end ps frees lent g.middle g.rest bytes at start g.half (at + size) n total h j.there f.1 j.sum j.gone f.0, omega (arith, f.1, j.sum))
    back (inr k) f = (gather_same first ps frees lent g.middle g.rest at start g.half start total refl k.total_is k.same f.0, omega (arith, f.1, k.total_is))

few_total : (frees new : Frees) (at size start total : ℕ) → size < 2 ^ 32 → GivesBack frees new at size start total → total < 2 ^ 32
few_total frees new at size start total few g = back g.back (front g.front)
  where
    front : FrontJoined frees at size start g.half g.middle → g.half < 2 ^ 32
    front (inl (n, j)) = j.below
    front (inr k) = omega (arith, k.total_is, few)

    back : BackJoined g.middle (at + size) g.half total g.rest → g.half < 2 ^ 32 → total < 2 ^ 32
    back (inl (n, j)) f = j.below
    back (inr k) f = omega (arith, k.total_is, f)

-- a block that stands in the file
pub given : (unit first end : ℕ) (ps : List Piece) (frees new lent : Frees) (bytes after : List ℕ) (at size start total : ℕ) → LaidOut unit first end ps frees lent bytes → HasBlock first ps at size → 0 < size → size < 2 ^ 32 → at + size ≤ length bytes → MeetsNone frees at size → GivesBack frees new at size start total → after ≡ marked start total bytes → TakesBack unit first end ps new lent at after
given unit first end ps frees new lent bytes after at size start total h block some few inside apart g is =
    let row = gathered unit first end ps frees lent new bytes at size start total h block some apart g in
    subst (λ (b : List ℕ). TakesBack unit first end ps new lent at b) (sym is)
    (given_back unit first end ps frees lent g.rest new [] bytes at start total (subst (λ (b : List ℕ). LaidOut unit first end ps frees lent b) (sym (wrote_nothing at bytes)) h) row.0
    (omega (arith, row.1)) (omega (arith, inside)) (few_total frees new at size start total few g) g.with)

-- a block that would, once its head were written
pub given_rest : (unit first end : ℕ) (ps : List Piece) (frees new lent : Frees) (bytes after : List ℕ) (at size start total : ℕ) → LaidOut unit first end ps frees lent (marked at size bytes) → HasBlock first ps at size → 0 < size → size < 2 ^ 32 → at + size ≤ length bytes → MeetsNone frees at size → GivesBack frees new at size start total → after ≡ marked start total bytes → TakesBack unit first end ps new lent at after
given_rest unit first end ps frees new lent bytes after at size start total h block some few inside apart g is =
    let row = gathered unit first end ps frees lent new (marked at size bytes) at size start total h block some apart g in
    let five = length-free_head size in
    let big = block_large unit first end ps frees lent (marked at size bytes) at size h block in
    subst (λ (b : List ℕ). TakesBack unit first end ps new lent at b) (sym is)
    (given_back unit first end ps frees lent g.rest new (free_head size) bytes at start total h row.0 (omega (arith, row.1, five, big)) (omega (arith, inside, five, big)) (few_total frees new at size start total few g) g.with)

-- ---- free blocks at the end dropped

record Fronted (first : ℕ) (ps : List Piece) (lent : Frees) (at : ℕ) : Type 0 where
  pub xs : List Piece
  pub ys : List Piece
  pub is : ps ≡ xs ++ ys
  pub place : first + long xs ≡ at
  pub behind_none : (q : ℕ) → at ≤ q → (record_at first ps q ≡ None) × (lent q ≡ None)

fronted : (unit first : ℕ) (ps : List Piece) (frees lent : Frees) (bytes : List ℕ) (end at : ℕ) → LaidOut unit first end ps frees lent bytes → Row frees at end → Fronted first ps lent at
fronted unit first ps frees lent bytes end at h (row_end _) = record {
  xs = ps;
  ys = [];
  is = sym (append-nil ps);
  place = e;
  behind_none = λ q high.
      let n = behind unit first ps q h.filled.whole (omega (arith, high, e)) in
      (ap record_of n, (nothing (frees_of first ps q) (frees q) (lent q) (h.shared q) (ap free_of n)).1);
}
  where
    e : first + long ps ≡ at
    e = ends unit first at ps frees lent bytes h
fronted unit first ps frees lent bytes end at h (row_block _ size _ there rest) =
    let k = known unit first end ps frees lent bytes at size h there in
    let s = parted_at first ps at k.piece k.at in
    let more = fronted unit first ps frees lent bytes end (at + size) h rest in
    record {
      xs = s.xs;
      ys = k.piece ∷ s.ys;
      is = s.is;
      place = s.place;
      behind_none = λ q high. elim (cases_lt q (at + size)) [
        | inr past ↦ more.behind_none q past
        | inl low ↦ elim (cases_eq q at) [
          | inl e ↦ (ap (λ (n : ℕ). record_at first ps n) e ∙ k.no_record, ap lent e ∙ k.unlent)
          | inr ne ↦ let i = inside_none unit first end ps frees lent bytes k.piece at q h k.at (omega (arith, high, ne)) (omega (arith, low, k.size)) in (i.2, i.1)
        ]
      ];
    }

pub trimmed : (unit first end new_end : ℕ) (ps : List Piece) (frees new lent : Frees) (bytes : List ℕ) → LaidOut unit first end ps frees lent bytes → new_end ≤ end → ((q : ℕ) → q < new_end → new q ≡ frees q) → ((q : ℕ) → new_end ≤ q → new q ≡ None) → Row frees new_end end → Keeps unit first new_end ps new lent bytes
trimmed unit first end new_end ps frees new lent bytes h lower kept gone row =
    let f = fronted unit first ps frees lent bytes end new_end h row in
    let w = whole_parts unit f.xs f.ys (subst (λ (l : List Piece). AllWhole unit l) f.is h.filled.whole) in
    let low : first ≤ new_end = omega (arith, f.place) in
    let n : new_end - first ≡ long f.xs = omega (arith, f.place) in
    let front : (q : ℕ) → q < new_end → piece_at first f.xs q ≡ piece_at first ps q = (λ q less. sym (ap (λ (l : List Piece). piece_at first l q) f.is ∙ in_front first f.xs f.ys q (omega (arith, less, f.place)))) in
    let past : (q : ℕ) → new_end ≤ q → piece_at first f.xs q ≡ None = (λ q high. behind unit first f.xs q w.0 (omega (arith, high, f.place))) in
    record {
      pieces = f.xs;
      is = record {
        room = h.room;
        on = low;
        within = omega (arith, h.within, lower);
        filled = record {
          whole = w.0;
          is = sym (take-take (new_end - first) (end - first) (drop first bytes) (omega (arith, lower))) ∙ ap (λ (l : List ℕ). take (new_end - first) l) (h.filled.is ∙ ap spell_all f.is ∙ spell-append f.xs f.ys) ∙ take_at (spell_all f.xs) (spell_all f.ys) (new_end - first) (sym n);
        };
        shared = λ q. elim (cases_lt q new_end) [
          | inl less ↦ shared_as (frees_of first ps q) (frees_of first f.xs q) (frees q) (new q) (lent q) (lent q) (ap free_of (front q less)) (kept q less) refl (h.shared q)
          | inr high ↦ inl (gone q high ∙ sym (ap free_of (past q high)), (f.behind_none q high).1)
        ];
      };
      records = λ q. elim (cases_lt q new_end) [
        | inl less ↦ ap record_of (front q less)
        | inr high ↦ ap record_of (past q high) ∙ sym (f.behind_none q high).0
      ];
    }
