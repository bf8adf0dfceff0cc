-- Records written over blocks and behind them.
use Rattle.std.proofs.Common.{◌≡◌, ◌≢◌, ◌∙◌, ◌⊎◌, inl, inr, ℕ, ◌+◌, ◌-◌, ◌%◌, ◌^◌, ◌<◌, ◌≤◌, Bool, cond, List, [], ◌∷◌, ◌++◌, length, drop, Option, Some, None, refl, sym, ap, subst, arith, append_assoc, length-drop}
use Rattle.std.specs.Prelude.{◌==◌, if◌then◌else◌}
use Rattle.std.proofs.lemmas.Bool.{cases_eq, cases_lt, eq-eqb, ne_eqb}
use Rattle.std.proofs.lemmas.List.{append-nil, places, same_lists}
use Rattle.tc_base.specs.Files.{wrote}
use Rattle.hf_block.specs.Heads.{free_head}
use Rattle.hf_block.specs.Walks.{between}
use Rattle.hf_block.specs.Pieces.{Record, Piece, held, free, spell, size_of, IsWhole, AllWhole, spell_all, AreBlocks}
use Rattle.hf_block.proofs.Listing.{spell-append, whole-append}
use Rattle.hf_layout.specs.Frees.{Frees, with_block, without}
use Rattle.hf_layout.specs.Layout.{piece_at, record_of, free_of, record_at, frees_of, IsShared, LaidOut, HasBlock, Writes}
use Rattle.hf_layout.specs.Laws.{FillsBlock, FillsFront, StandsBehind, LentIsBlock}
use Rattle.hf_layout.proofs.Places.{long, long-append, long-cons, here, later, behind, in_front, in_back, parted_at}
use Rattle.hf_layout.proofs.Segments.{length-free_head, large, wrote_between, wrote_long, wrote_front, parts, replaced, rest_aligned, one_free, one_whole, one_long, fused}
use Rattle.hf_layout.proofs.Shares.{with_at, with_off, without_at, without_off, nothing, shared_as, free_is, ends, ends_within, whole_around, inside_none}
use Rattle.hf_layout.proofs.Gathers.{Swapped, swapped, sides}

record_here : (q place : ℕ) (r : Record) (o : Option Record) → q ≡ place → (if q == place then Some r else o) ≡ Some r
record_here q place r o e = ap (λ (b : Bool). cond b (Some r) o) (eq-eqb q place e)

record_off : (q place : ℕ) (r : Record) (o : Option Record) → q ≢ place → (if q == place then Some r else o) ≡ o
record_off q place r o ne = ap (λ (b : Bool). cond b (Some r) o) (ne_eqb q place ne)

-- a record and what is left over in the place of a block
put_row : (unit first end place size : ℕ) (ps more xs ys : List Piece) (p : Piece) (frees lent lent' : Frees) (bytes bytes' : List ℕ) (r : Record)
    → LaidOut unit first end ps frees lent bytes → ps ≡ xs ++ ((p ∷ []) ++ ys) → first + long xs ≡ place → piece_at first ps place ≡ Some p → size_of p ≡ size → frees place ≡ None
    → AllWhole unit (held r ∷ more) → long (held r ∷ more) ≡ size → end ≤ length bytes' → AreBlocks unit (between first end bytes') (xs ++ ((held r ∷ more) ++ ys))
    → ((q : ℕ) → (q < place) ⊎ (place + size ≤ q) → lent' q ≡ lent q) → lent' place ≡ None
    → ((q : ℕ) → place < q → q < place + size → lent' q ≡ free_of (piece_at (place + size_of (held r)) more q)) → ((q : ℕ) → record_of (piece_at (place + size_of (held r)) more q) ≡ None)
    → Writes unit first end ps frees lent' place r bytes'
put_row unit first end place size ps more xs ys p frees lent lent' bytes bytes' r h is at there measure unpooled whole same within filled outer unlent inner no_record =
    record {
      pieces = new_ps;
      is = record {
        room = h.room;
        on = h.on;
        within = within;
        filled = filled;
        shared = λ q. elim (sides q place size) [
          | inl out ↦ shared_as (frees_of first ps q) (frees_of first new_ps q) (frees q) (frees q) (lent q) (lent' q) (ap free_of (sw.out q out)) refl (outer q out) (h.shared q)
          | inr row ↦ elim (cases_eq q place) [
            | inl e ↦ inl (ap frees e ∙ unpooled ∙ sym (ap free_of (at_place q row e)), ap lent' e ∙ unlent)
            | inr ne ↦ inr ((inside q row ne).0, inner q (omega (arith, row.0, ne)) row.1 ∙ sym (ap free_of (past q row ne)))
          ]
        ];
      };
      records = λ q. elim (sides q place size) [
        | inl out ↦ ap record_of (sw.out q out) ∙ sym (record_off q place r (record_at first ps q) (apart q out))
        | inr row ↦ elim (cases_eq q place) [
          | inl e ↦ ap record_of (at_place q row e) ∙ sym (record_here q place r (record_at first ps q) e)
          | inr ne ↦ ap record_of (past q row ne) ∙ no_record q ∙ sym (record_off q place r (record_at first ps q) ne ∙ (inside q row ne).2)
        ]
      ];
    }
  where
    new_ps : List Piece
    new_ps = xs ++ ((held r ∷ more) ++ ys)

    sw : Swapped first place size ps new_ps (held r ∷ more)
    sw = swapped unit first place size xs (p ∷ []) (held r ∷ more) ys ps is h.filled.whole whole at (omega (arith, long-cons p [], measure)) same

    some : 0 < size
    some = omega (arith, same, long-cons (held r) more, whole.0.size.some)

    apart : (q : ℕ) → (q < place) ⊎ (place + size ≤ q) → q ≢ place
    apart q (inl low) e = omega arith
    apart q (inr high) e = omega (arith, some)

    inside : (q : ℕ) → (place ≤ q) × (q < place + size) → q ≢ place → (frees q ≡ None) × (lent q ≡ None) × (record_at first ps q ≡ None)
    inside q row ne = inside_none unit first end ps frees lent bytes p place q h there (omega (arith, row.0, ne)) (omega (arith, row.1, measure))

    at_place : (q : ℕ) → (place ≤ q) × (q < place + size) → q ≡ place → piece_at first new_ps q ≡ Some (held r)
    at_place q row e = sw.within q row.0 row.1 ∙ here place (held r) more q e

    past : (q : ℕ) → (place ≤ q) × (q < place + size) → q ≢ place → piece_at first new_ps q ≡ piece_at (place + size_of (held r)) more q
    past q row ne = sw.within q row.0 row.1 ∙ later place (held r) more q ne

-- where a block stands in the bytes
record Found (unit first end : ℕ) (ps : List Piece) (bytes : List ℕ) (place size : ℕ) : Type 0 where
  pub piece : Piece
  pub xs : List Piece
  pub ys : List Piece
  pub is : ps ≡ xs ++ ((piece ∷ []) ++ ys)
  pub place_is : first + long xs ≡ place
  pub at : piece_at first ps place ≡ Some piece
  pub size_is : size_of piece ≡ size
  pub last : place + size ≤ end
  pub filled : AreBlocks unit (between first end bytes) (xs ++ ((piece ∷ []) ++ ys))

stands : (unit first end place size : ℕ) (ps : List Piece) (frees lent : Frees) (bytes : List ℕ) → LaidOut unit first end ps frees lent bytes → HasBlock first ps place size → Found unit first end ps bytes place size
stands unit first end place size ps frees lent bytes h block =
    let s = parted_at first ps place block.0 block.1 in
    record {
      piece = block.0;
      xs = s.xs;
      ys = s.ys;
      is = s.is;
      place_is = s.place;
      at = block.1;
      size_is = block.2;
      last = omega (arith, (ends_within unit first ps block.0 place block.1).1, block.2, ends unit first end ps frees lent bytes h);
      filled = subst (λ (l : List Piece). AreBlocks unit (between first end bytes) l) s.is h.filled;
    }

pub fills : (unit first end place : ℕ) (ps : List Piece) (frees lent : Frees) (bytes : List ℕ) (r : Record) → LaidOut unit first end ps frees lent bytes → IsWhole unit (held r) → HasBlock first ps place (size_of (held r)) → frees place ≡ None
    → Writes unit first end ps frees (without lent place) place r (wrote place (spell (held r)) bytes)
fills unit first end place ps frees lent bytes r h whole block unpooled =
    let s = stands unit first end place (size_of (held r)) ps frees lent bytes h block in
    let n : place - first ≡ long s.xs = omega (arith, s.place_is) in
    let same : long (held r ∷ []) ≡ size_of (held r) = omega (arith, long-cons (held r) []) in
    let bytes_same : between first end (wrote place (spell (held r)) bytes) ≡ wrote (long s.xs) (spell_all (held r ∷ [])) (between first end bytes) =
    wrote_between first end place (spell (held r)) bytes (omega (arith, s.place_is)) s.last h.within ∙ ap (λ (k : ℕ). wrote k (spell (held r)) (between first end bytes)) n ∙ ap (λ (l : List ℕ). wrote (long s.xs) l (between first end bytes)) (sym (append-nil (spell (held r)))) in
    put_row unit first end place (size_of (held r)) ps [] s.xs s.ys s.piece frees lent (without lent place) bytes (wrote place (spell (held r)) bytes) r h s.is s.place_is s.at s.size_is unpooled (whole, tt) same
    (omega (arith, h.within, wrote_long place (spell (held r)) bytes (omega (arith, s.last, h.within))))
    (subst (λ (b : List ℕ). AreBlocks unit b (s.xs ++ ((held r ∷ []) ++ s.ys))) (sym bytes_same) (replaced unit s.xs (s.piece ∷ []) (held r ∷ []) s.ys (between first end bytes) (whole, tt) (omega (arith, same, s.size_is, long-cons s.piece [])) s.filled))
    (λ q out. without_off lent place q (elim out [ inl low ↦ (λ e. omega (arith, low, e)) | inr high ↦ (λ e. omega (arith, high, e, whole.size.some)) ]))
    (without_at lent place place refl)
    (λ q low high. without_off lent place q (λ e. omega (arith, low, e)) ∙ (inside_none unit first end ps frees lent bytes s.piece place q h s.at low (omega (arith, high, s.size_is))).1)
    (λ q. refl)

pub fills_block : FillsBlock
fills_block unit first end place ps frees lent bytes r h may = fills unit first end place ps frees lent bytes r h may.whole may.block may.unpooled

seam : (a b c d : List ℕ) → a ++ ((b ++ c) ++ d) ≡ (a ++ b) ++ (c ++ d)
seam a b c d = simp append_assoc

pub fills_front : (unit first end place size : ℕ) (ps : List Piece) (frees lent : Frees) (bytes : List ℕ) (r : Record) → LaidOut unit first end ps frees lent bytes → IsWhole unit (held r) → HasBlock first ps place size → frees place ≡ None → size_of (held r) < size
    → Writes unit first end ps frees (with_block (without lent place) (place + size_of (held r)) (size - size_of (held r))) place r (wrote (place + size_of (held r)) (free_head (size - size_of (held r))) (wrote place (spell (held r)) bytes))
fills_front unit first end place size ps frees lent bytes r h whole block unpooled less =
    put_row unit first end place size ps more s.xs s.ys s.piece frees lent lent' bytes after r h s.is s.place_is s.at s.size_is unpooled (whole, one) row_long within filled
    (λ q out. with_off (without lent place) (place + n) rest q (elim out [ inl low ↦ (λ e. omega (arith, low, e)) | inr high ↦ (λ e. omega (arith, high, e, less)) ]) ∙ without_off lent place q (elim out [ inl low ↦ (λ e. omega (arith, low, e)) | inr high ↦ (λ e. omega (arith, high, e, less)) ]))
    (with_off (without lent place) (place + n) rest place (omega (arith, whole.size.some)) ∙ without_at lent place place refl)
    (λ q low high. elim (cases_eq q (place + n)) [
      | inl e ↦ with_at (without lent place) (place + n) rest q e ∙ sym (ap free_of (here (place + n) (free rest (drop 5 mid)) [] q e) ∙ ap (λ (k : ℕ). Some k) one.0.fits)
      | inr ne ↦ with_off (without lent place) (place + n) rest q ne ∙ without_off lent place q (λ e. omega (arith, low, e)) ∙ (inside_none unit first end ps frees lent bytes s.piece place q h s.at low (omega (arith, high, s.size_is))).1 ∙ sym (ap free_of (later (place + n) (free rest (drop 5 mid)) [] q ne))
    ])
    (λ q. elim (cases_eq q (place + n)) [ inl e ↦ ap record_of (here (place + n) (free rest (drop 5 mid)) [] q e) | inr ne ↦ ap record_of (later (place + n) (free rest (drop 5 mid)) [] q ne) ])
  where
    s : Found unit first end ps bytes place size
    s = stands unit first end place size ps frees lent bytes h block

    n : ℕ
    n = size_of (held r)

    rest : ℕ
    rest = size - n

    w : AllWhole unit s.xs × AllWhole unit (s.piece ∷ []) × AllWhole unit s.ys
    w = whole_around unit s.xs (s.piece ∷ []) s.ys ps s.is h.filled.whole

    mid : List ℕ
    mid = drop n (spell s.piece)

    mid_long : length mid ≡ rest
    mid_long = omega (arith, length-drop n (spell s.piece), s.size_is)

    multiple : rest % unit ≡ 0
    multiple = rest_aligned unit n size less whole.size.aligned (sym (ap (λ (k : ℕ). k % unit) s.size_is) ∙ w.1.0.size.aligned)

    few : rest < 2 ^ 32
    few = omega (arith, s.size_is, w.1.0.size.below)

    some : 0 < rest
    some = omega (arith, less)

    big : 5 ≤ rest
    big = omega (arith, large unit rest some multiple, h.room)

    more : List Piece
    more = one_free rest mid

    one : AllWhole unit more
    one = one_whole unit rest mid h.room mid_long some multiple few

    row_long : long (held r ∷ more) ≡ size
    row_long = omega (arith, long-cons (held r) more, one_long unit rest mid h.room mid_long some multiple few, less)

    lent' : Frees
    lent' = with_block (without lent place) (place + n) rest

    range : List ℕ
    range = between first end bytes

    one_written : List ℕ
    one_written = wrote place (spell (held r)) bytes

    after : List ℕ
    after = wrote (place + n) (free_head rest) one_written

    long_one : length one_written ≡ length bytes
    long_one = wrote_long place (spell (held r)) bytes (omega (arith, s.last, h.within, less))

    long_after : length after ≡ length one_written
    long_after = wrote_long (place + n) (free_head rest) one_written (omega (arith, s.last, h.within, long_one, length-free_head rest, big, less))

    within : end ≤ length after
    within = omega (arith, h.within, long_one, long_after)

    place_off : place - first ≡ long s.xs
    place_off = omega (arith, s.place_is)

    front : List Piece
    front = s.xs ++ (held r ∷ [])

    front_long : long front ≡ long s.xs + n
    front_long = omega (arith, long-append s.xs (held r ∷ []), long-cons (held r) [])

    first_range : between first end one_written ≡ spell_all front ++ (mid ++ spell_all s.ys)
    first_range =
        wrote_between first end place (spell (held r)) bytes (omega (arith, s.place_is)) (omega (arith, s.last, less)) h.within
        ∙ ap (λ (k : ℕ). wrote k (spell (held r)) range) place_off
        ∙ ap (λ (b : List ℕ). wrote (long s.xs) (spell (held r)) b) (s.filled.is ∙ parts s.xs (s.piece ∷ []) s.ys ∙ ap (λ (l : List ℕ). spell_all s.xs ++ (l ++ spell_all s.ys)) (append-nil (spell s.piece)))
        ∙ wrote_front (spell_all s.xs) (spell s.piece) (spell_all s.ys) (spell (held r)) (long s.xs) refl (omega (arith, s.size_is, less))
        ∙ seam (spell_all s.xs) (spell (held r)) mid (spell_all s.ys)
        ∙ ap (λ (l : List ℕ). l ++ (mid ++ spell_all s.ys)) (ap (λ (l : List ℕ). spell_all s.xs ++ l) (sym (append-nil (spell (held r)))) ∙ sym (spell-append s.xs (held r ∷ [])))

    after_range : between first end after ≡ wrote (long front) (free_head rest) (between first end one_written)
    after_range =
        wrote_between first end (place + n) (free_head rest) one_written (omega (arith, s.place_is)) (omega (arith, s.last, length-free_head rest, big, less)) (omega (arith, h.within, long_one))
        ∙ ap (λ (k : ℕ). wrote k (free_head rest) (between first end one_written)) (omega (arith, s.place_is, front_long))

    filled : AreBlocks unit (between first end after) (s.xs ++ ((held r ∷ more) ++ s.ys))
    filled =
        subst (λ (l : List Piece). AreBlocks unit (between first end after) l) (append_assoc s.xs (held r ∷ []) (more ++ s.ys))
        (subst (λ (b : List ℕ). AreBlocks unit b (front ++ (more ++ s.ys))) (sym after_range)
        (fused unit rest front s.ys mid (between first end one_written) h.room (whole-append unit s.xs (held r ∷ []) w.0 (whole, tt)) w.2 mid_long some multiple few first_range))

pub fills_part : FillsFront
fills_part unit first end place size ps frees lent bytes r h may less = fills_front unit first end place size ps frees lent bytes r h may.whole may.block may.unpooled less

-- the bytes up to behind what was written at an end
range_more : (first end : ℕ) (new bytes : List ℕ) → first ≤ end → end ≤ length bytes → between first (end + length new) (wrote end new bytes) ≡ between first end bytes ++ new
unfolding wrote
range_more first end new bytes on within = same_lists _ _ (grind (arith, places)) (λ i d h. grind (arith, places))

range_within : (end : ℕ) (new bytes : List ℕ) → end ≤ length bytes → end + length new ≤ length (wrote end new bytes)
unfolding wrote
range_within end new bytes within = grind (arith, places)

pub stands_behind : StandsBehind
stands_behind unit first end ps frees lent bytes r h whole =
    record {
      pieces = ps ++ (held r ∷ []);
      is = record {
        room = h.room;
        on = omega (arith, h.on);
        within = range_within end (spell (held r)) bytes h.within;
        filled = record {
          whole = whole-append unit ps (held r ∷ []) h.filled.whole (whole, tt);
          is = range_more first end (spell (held r)) bytes h.on h.within ∙ ap (λ (l : List ℕ). l ++ spell (held r)) h.filled.is ∙ ap (λ (l : List ℕ). spell_all ps ++ l) (sym (append-nil (spell (held r)))) ∙ sym (spell-append ps (held r ∷ []));
        };
        shared = λ q. elim (cases_lt q end) [
          | inl less ↦ shared_as (frees_of first ps q) (frees_of first (ps ++ (held r ∷ [])) q) (frees q) (frees q) (lent q) (lent q) (ap free_of (front q less)) refl refl (h.shared q)
          | inr high ↦ let none = nothing (frees_of first ps q) (frees q) (lent q) (h.shared q) (ap free_of (past q high)) in elim (cases_eq q end) [
            | inl e ↦ inl (none.0 ∙ sym (ap free_of (at_end q e)), none.1)
            | inr ne ↦ inl (none.0 ∙ sym (ap free_of (beyond q high ne)), none.1)
          ]
        ];
      };
      records = λ q. elim (cases_lt q end) [
        | inl less ↦ ap record_of (front q less) ∙ sym (record_off q end r (record_at first ps q) (omega (arith, less)))
        | inr high ↦ elim (cases_eq q end) [
          | inl e ↦ ap record_of (at_end q e) ∙ sym (record_here q end r (record_at first ps q) e)
          | inr ne ↦ ap record_of (beyond q high ne) ∙ sym (record_off q end r (record_at first ps q) ne ∙ ap record_of (past q high))
        ]
      ];
    }
  where
    last : first + long ps ≡ end
    last = ends unit first end ps frees lent bytes h

    front : (q : ℕ) → q < end → piece_at first (ps ++ (held r ∷ [])) q ≡ piece_at first ps q
    front q less = in_front first ps (held r ∷ []) q (omega (arith, less, last))

    past : (q : ℕ) → end ≤ q → piece_at first ps q ≡ None
    past q high = behind unit first ps q h.filled.whole (omega (arith, high, last))

    back : (q : ℕ) → end ≤ q → piece_at first (ps ++ (held r ∷ [])) q ≡ piece_at end (held r ∷ []) q
    back q high = in_back unit first ps (held r ∷ []) q h.filled.whole (omega (arith, high, last)) ∙ ap (λ (k : ℕ). piece_at k (held r ∷ []) q) last

    at_end : (q : ℕ) → q ≡ end → piece_at first (ps ++ (held r ∷ [])) q ≡ Some (held r)
    at_end q e = back q (omega (arith, e)) ∙ here end (held r) [] q e

    beyond : (q : ℕ) → end ≤ q → q ≢ end → piece_at first (ps ++ (held r ∷ [])) q ≡ None
    beyond q high ne = back q high ∙ later end (held r) [] q ne

pub lent_is_block : LentIsBlock
lent_is_block unit first end place size ps frees lent bytes h there = go (h.shared place)
  where
    go : IsShared (frees_of first ps place) (frees place) (lent place) → HasBlock first ps place size
    go (inl s) = absurd (let e = sym s.1 ∙ there in cc)
    go (inr s) = let f = free_is (piece_at first ps place) size (sym s.1 ∙ there) in (f.0, f.1, f.2)
