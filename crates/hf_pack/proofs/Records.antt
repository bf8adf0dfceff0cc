-- Records streamed to where they go.
use Rattle.std.proofs.Common.{◌≡◌, ◌∙◌, ℕ, ◌+◌, ◌-◌, ◌*◌, ◌%◌, ◌<◌, ◌≤◌, true, false, List, [], ◌∷◌, ◌++◌, length, take, drop, Some, refl, sym, ap, arith, append_assoc, append-nil, length-append}
use Rattle.std.specs.Prelude.{slice_get}
use Rattle.std.proofs.lemmas.List.{take_at, drop_at, drop-drop}
use Rattle.tc_base.specs.Endian.{le_bytes}
use Rattle.tc_base.specs.Vnum.{vnum}
use Rattle.tc_base.proofs.Endians.{length-le_bytes}
use Rattle.hf_head.specs.declared.head.Head.{Head}
use Rattle.hf_head.specs.Heads.{unit}
use Rattle.hf_block.specs.declared.block.BlockAt.{BlockAt}
use Rattle.hf_block.specs.Heads.{rec_head}
use Rattle.hf_block.specs.Pieces.{Record, Piece, held, free, spell, size_of, is_free, AllWhole, spell_all, placed}
use Rattle.hf_block.proofs.Listing.{between_long, spell-append}
use Rattle.hf_block.proofs.Padding.{length-held}
use Rattle.hf_layout.specs.Layout.{record_at, record_of}
use Rattle.hf_layout.proofs.Places.{here, in_back, long}
use Rattle.hf_tree.specs.Links.{IsAt}
use Rattle.hf_tree.proofs.Fields.{at_inside}
use Rattle.hf_chain.specs.declared.heads.RecHead.{RecHead}
use Rattle.hf_chain.specs.Heads.{HasRecord, head_of}
use Rattle.hf_tree.specs.Listing.{AreListed}
use Rattle.hf_chain.proofs.Fronts.{stands}
use Rattle.hf_pack.specs.declared.stream.Stream.{Stream}
use Rattle.hf_pack.specs.Moving.{moved, rechained}
use Rattle.hf_pack.specs.Streams.{Pushed, end_of}
use Rattle.hf_pack.proofs.Moved.{Row, Next, moved-append, moved_less, next_of, row_end, row_on, row_start, row_whole}
use Rattle.hf_pack.proofs.Streaming.{pushed_as, pushed_none, pushed_then}

-- ---- the bytes of a record

-- up to behind the chains, and from there on
abbrev pub chains : Record → List ℕ
chains r = (0xC8 ∷ le_bytes 1 r.hash) ++ (le_bytes r.wide r.left ++ le_bytes r.wide r.right)

abbrev pub rest_of : Record → List ℕ
rest_of r = (le_bytes 2 (length r.pad) ++ (vnum (length r.key) ++ vnum (length r.value))) ++ (r.key ++ (r.value ++ r.pad))

in_row : (r : Record) → spell (held r) ≡ (0xC8 ∷ le_bytes 1 r.hash) ++ (le_bytes r.wide r.left ++ (le_bytes r.wide r.right ++ rest_of r))
unfolding spell rec_head
in_row r = simp append_assoc

pub parts : (r : Record) → spell (held r) ≡ chains r ++ rest_of r
parts r =
    in_row r
    ∙ sym (append_assoc (0xC8 ∷ le_bytes 1 r.hash) (le_bytes r.wide r.left ++ le_bytes r.wide r.right) (rest_of r)
    ∙ ap (λ (l : List ℕ). (0xC8 ∷ le_bytes 1 r.hash) ++ l) (append_assoc (le_bytes r.wide r.left) (le_bytes r.wide r.right) (rest_of r)))

pub chains_long : (r : Record) → length (chains r) ≡ 2 + 2 * r.wide
chains_long r = omega (arith, length-le_bytes 1 r.hash, length-append (0xC8 ∷ le_bytes 1 r.hash) (le_bytes r.wide r.left ++ le_bytes r.wide r.right), length-append (le_bytes r.wide r.left) (le_bytes r.wide r.right), length-le_bytes r.wide r.left, length-le_bytes r.wide r.right)

one_byte : (n : ℕ) → n < 256 → n ∷ [] ≡ le_bytes 1 n
unfolding le_bytes
one_byte n small = let h : n % 256 ≡ n = omega arith in rw h refl

-- what is written in their place
pub front_is : (f : ℕ → ℕ) (r : Record) (rec : RecHead) (w : ℕ) (front : List ℕ) → r.hash < 256 → r.wide ≡ w → rec ≡ head_of r → front ≡ 0xC8 ∷ rec.hash ∷ (le_bytes w (f rec.left) ++ le_bytes w (f rec.right)) → front ≡ chains (rechained f r)
front_is f r rec w front small wide is e =
    e ∙ (λ i. 0xC8 ∷ (is i).hash ∷ (le_bytes (sym wide i) (f (is i).left) ++ le_bytes (sym wide i) (f (is i).right)))
    ∙ ap (λ (l : List ℕ). 0xC8 ∷ (l ++ (le_bytes r.wide (f r.left) ++ le_bytes r.wide (f r.right)))) (one_byte r.hash small)

pub front_long : (f : ℕ → ℕ) (r : Record) (front : List ℕ) → front ≡ chains (rechained f r) → length front ≤ size_of (held r)
front_long f r front e = omega (arith, ap length e, chains_long (rechained f r), length-held r)

-- a record was read, and stands elsewhere with other chains
pub record_moved : (f : ℕ → ℕ) (u : ℕ) (r : Record) (place size at count : ℕ) (front old mid new : List ℕ) (s t v : Stream) → IsAt u r place old → size ≡ size_of (held r) → front ≡ chains (rechained f r) → end_of s ≤ place → at ≡ place + length front → count ≡ size - length front → Pushed s t old mid front → Pushed t v mid new (take count (drop at mid)) → Pushed s v old new (spell (held (rechained f r)))
record_moved f u r place size at count front old mid new s t v there sized e low at_is count_is first second =
    pushed_as s v old new (front ++ take count (drop at mid)) (spell (held (rechained f r))) (parts (rechained f r) ∙ (λ i. sym e i ++ sym tail i)) (pushed_then s t v old mid new front (take count (drop at mid)) first second)
  where
    same_long : length front ≡ length (chains r)
    same_long = omega (arith, ap length e, chains_long r, chains_long (rechained f r))

    fits : length (chains r) ≤ size_of (held r)
    fits = omega (arith, chains_long r, length-held r)

    dropped : drop at mid ≡ rest_of r ++ there.rest
    dropped =
        first.behind at (omega (arith, first.ends, low, at_is))
        ∙ ap (λ (n : ℕ). drop n old) (at_is ∙ omega arith)
        ∙ sym (drop-drop (length front) place old)
        ∙ ap (drop (length front)) (there.is ∙ ap (λ (l : List ℕ). l ++ there.rest) (parts r) ∙ append_assoc (chains r) (rest_of r) there.rest)
        ∙ drop_at (chains r) (rest_of r ++ there.rest) (length front) (sym same_long)

    rest_long : count ≡ length (rest_of r)
    rest_long = omega (arith, count_is, sized, same_long, ap length (parts r), length-append (chains r) (rest_of r))

    tail : take count (drop at mid) ≡ rest_of r
    tail = ap (take count) dropped ∙ take_at (rest_of r) there.rest count (sym rest_long)

-- ---- one record after the other

pub has_still : (h : Head) (r : Record) (at : ℕ) (old new : List ℕ) → drop at new ≡ drop at old → HasRecord h r at old → HasRecord h r at new
has_still h r at old new same has = record { is = record { rest = has.is.rest; is = same ∙ has.is.is; whole = has.is.whole }; wide = has.wide }

pub record MovedSo (f : ℕ → ℕ) (ps : List Piece) (i : ℕ) (s s' : Stream) (old new : List ℕ) : Type 0 where
  pub row : Row ps i
  pub pushed : Pushed s s' old new (spell_all (moved f row.front))

pub moved_start : (f : ℕ → ℕ) (ps : List Piece) (s : Stream) (old : List ℕ) → MovedSo f ps 0 s s old old
moved_start f ps s old = record { row = row_start ps; pushed = pushed_none s old [] refl }

module _ (f : ℕ → ℕ) (h : Head) (ps : List Piece) (i : ℕ) (s s' : Stream) (old new : List ℕ) (blocks : List BlockAt) (b : BlockAt) (m : MovedSo f ps i s s' old new) (l : AreListed h ps old blocks) (starts : end_of s ≡ h.first) (at : slice_get blocks i ≡ Some b) where
  abbrev nx : Next h.first m.row.front m.row.back b
  nx = next_of h.first ps blocks i b m.row l.listed at

  grown : (p : Piece) → p ≡ nx.piece → spell_all (moved f (m.row.front ++ nx.piece ∷ [])) ≡ spell_all (moved f m.row.front) ++ spell_all (moved f (p ∷ []))
  grown p e = ap (λ (x : Piece). spell_all (moved f (m.row.front ++ x ∷ []))) (sym e) ∙ ap spell_all (moved-append f m.row.front (p ∷ [])) ∙ spell-append (moved f m.row.front) (moved f (p ∷ []))

  pub moved_free : b.free ≡ true → MovedSo f ps (i + 1) s s' old new
  moved_free is = go nx.piece refl
    where
      go : (p : Piece) → p ≡ nx.piece → MovedSo f ps (i + 1) s s' old new
      go (held r) e = absurd (let f : true ≡ false = sym is ∙ nx.kind ∙ ap is_free (sym e) in cc)
      go (free size tail) e = record {
        row = row_on h.first ps i b m.row nx;
        pushed = pushed_as s s' old new (spell_all (moved f m.row.front)) (spell_all (moved f (m.row.front ++ nx.piece ∷ []))) (grown (free size tail) e ∙ append-nil (spell_all (moved f m.row.front))) m.pushed;
      }

  pub record Here : Type 0 where
    pub r : Record
    pub piece_is : held r ≡ nx.piece
    pub has : HasRecord h r b.place new
    pub sized : b.size ≡ size_of (held r)
    pub low : end_of s' ≤ b.place

  pub moved_here : b.free ≡ false → Here
  moved_here is = go nx.piece refl
    where
      low : end_of s' ≤ b.place
      low = omega (arith, m.pushed.ends, starts, moved_less f m.row.front, nx.place)

      go : (p : Piece) → p ≡ nx.piece → Here
      go (free size tail) e = absurd (let f : false ≡ true = sym is ∙ nx.kind ∙ ap is_free (sym e) in cc)
      go (held r) e = record {
        r = r;
        piece_is = e;
        has = has_still h r b.place old new (m.pushed.behind b.place low) (stands h h.size ps old b.place r l.has there);
        sized = nx.size ∙ ap size_of (sym e);
        low = low;
      }
        where
          whole : AllWhole (unit h) m.row.front
          whole = (row_whole (unit h) ps i m.row l.has.filled.whole).0

          there : record_at h.first ps b.place ≡ Some r
          there =
              ap (λ (qs : List Piece). record_at h.first qs b.place) (m.row.is ∙ ap (λ (qs : List Piece). m.row.front ++ qs) nx.is)
              ∙ ap record_of (in_back (unit h) h.first m.row.front (nx.piece ∷ nx.rest) b.place whole (omega (arith, nx.place)))
              ∙ ap record_of (here (h.first + long m.row.front) nx.piece nx.rest b.place nx.place)
              ∙ ap (λ (p : Piece). record_of (Some p)) (sym e)

  pub moved_more : (s'' : Stream) (new' : List ℕ) (w : Here) → Pushed s' s'' new new' (spell (held (rechained f w.r))) → MovedSo f ps (i + 1) s s'' old new'
  moved_more s'' new' w p = record {
    row = row_on h.first ps i b m.row nx;
    pushed = pushed_as s s'' old new' (spell_all (moved f m.row.front) ++ spell (held (rechained f w.r))) (spell_all (moved f (m.row.front ++ nx.piece ∷ [])))
        (grown (held w.r) w.piece_is ∙ ap (λ (l : List ℕ). spell_all (moved f m.row.front) ++ l) (append-nil (spell (held (rechained f w.r)))))
        (pushed_then s s' s'' old new new' (spell_all (moved f m.row.front)) (spell (held (rechained f w.r))) m.pushed p);
  }

pub moved_all : (f : ℕ → ℕ) (first : ℕ) (ps : List Piece) (i : ℕ) (s s' : Stream) (old new : List ℕ) (blocks : List BlockAt) → MovedSo f ps i s s' old new → blocks ≡ placed first ps → length blocks ≤ i → Pushed s s' old new (spell_all (moved f ps))
moved_all f first ps i s s' old new blocks m listed far =
    let none = row_end first ps blocks i m.row listed far in
    pushed_as s s' old new (spell_all (moved f m.row.front)) (spell_all (moved f ps)) (ap (λ (qs : List Piece). spell_all (moved f qs)) (m.row.is ∙ ap (λ (qs : List Piece). m.row.front ++ qs) none ∙ append-nil m.row.front)) m.pushed

-- a record's block ends inside the file
pub ends_inside : (h : Head) (r : Record) (at : ℕ) (bytes : List ℕ) → HasRecord h r at bytes → at + size_of (held r) ≤ length bytes
ends_inside h r at bytes has = at_inside (unit h) r at bytes has.is

-- where blocks that were listed end
pub listed_end : (h : Head) (ps : List Piece) (old : List ℕ) (blocks : List BlockAt) → AreListed h ps old blocks → h.first + long ps ≡ h.size
listed_end h ps old blocks l = omega (arith, ap length l.has.filled.is, between_long h.first h.size old l.has.on l.has.within, l.has.on)

pub moved_inside : (f : ℕ → ℕ) (h : Head) (ps : List Piece) (old : List ℕ) (blocks : List BlockAt) → AreListed h ps old blocks → h.first + long (moved f ps) ≤ length old
moved_inside f h ps old blocks l = omega (arith, listed_end h ps old blocks l, moved_less f ps, l.has.within)
