-- What is free at the end of a file, by its blocks.
use Rattle.std.proofs.Common.{◌≡◌, ◌∙◌, ℕ, zero, suc, ◌+◌, ◌-◌, ◌<◌, ◌≤◌, List, [], ◌∷◌, ◌++◌, length, drop, Some, None, Ok, refl, sym, ap, arith, append_assoc, length-append}
use Rattle.std.proofs.lemmas.List.{drop_at}
use Rattle.hf_head.specs.declared.head.Head.{Head}
use Rattle.hf_head.specs.Heads.{is_large, unit}
use Rattle.hf_block.specs.declared.block.Block.{Block}
use Rattle.hf_block.specs.Fronts.{block_front}
use Rattle.hf_block.specs.Heads.{head_bytes}
use Rattle.hf_block.specs.Pieces.{Piece, held, free, size_of, spell, spell_all, AllWhole, IsFilled, IsWhole, HasWidth}
use Rattle.hf_block.specs.Walks.{between, block_of, total}
use Rattle.hf_block.proofs.Blocking.{whole, wide_most}
use Rattle.hf_block.proofs.Listing.{between_long}
use Rattle.hf_block.proofs.NextBlock.{headed}
use Rattle.hf_layout.specs.Layout.{frees_of, free_of}
use Rattle.hf_layout.proofs.Places.{below, here, later, long, long-cons}
use Rattle.hf_tree.specs.Links.{HasBlocks, width}
use Rattle.tc_hash.specs.Packing.{EndsInRecord}
use Rattle.tc_hash.proofs.Unique.{widths_listed}
use Rattle.tc_hash.specs.Ending.{behind, block_in, free_at_end, free_end, free_up_to, next_block, slack_in}
use Rattle.tc_hash.specs.Keeping.{file_of, holds}
use Rattle.tc_hash.specs.Settling.{Settles}
use Rattle.tc_hash.specs.declared.hash.Hash.{Hash}
use Rattle.tc_hash.proofs.Tight.{ends_of}
use Rattle.tc_space.specs.Frames.{In}
use Rattle.tc_space.specs.declared.space.Space.{Ghosts}
use Rattle.tc_base.specs.Maps.{Map}
use Rattle.hf_pool.specs.Pools.{frees as frees_in}
use Rattle.hf_pool.specs.Trims.{Trimmed}

-- ---- the walk goes from block to block

-- how many bytes are free up to the end of one more block
abbrev free_on : ℕ → Piece → ℕ
free_on run (held r) = 0
free_on run (free size tail) = run + size_of (free size tail)

-- and of several
abbrev free_behind : ℕ → List Piece → ℕ
free_behind run [] = run
free_behind run (p ∷ ps) = free_behind (free_on run p) ps

walk_nothing : (most w run : ℕ) → free_at_end most w run [] ≡ run
walk_nothing zero w run = refl
walk_nothing (suc most) w run = walk_nothing most w run

-- the block that is read at the front is the first one
first_front : (w unit : ℕ) (p : Piece) (more bytes : List ℕ) → w ≤ 8 → IsWhole unit p → HasWidth w p → bytes ≡ spell p ++ more → (rest : List ℕ) × (block_front w bytes ≡ Ok (block_of p, rest))
first_front w unit p more bytes most is has e =
    let h = headed w unit p most is has in
    let head : List ℕ = head_bytes w (block_of p) in
    whole w bytes (block_of p) h.fits (h.front.0 ++ more, e ∙ ap (λ (l : List ℕ). l ++ more) h.front.1 ∙ append_assoc head h.front.0 more)

next_is : (w : ℕ) (bytes rest : List ℕ) (b : Block) → 0 < length bytes → block_front w bytes ≡ Ok (b, rest) → next_block w bytes ≡ Some b
next_is w [] rest b some is = absurd (omega (arith, some))
next_is w (x ∷ bytes) rest b some is = ap block_in is

free_next : (run : ℕ) (p : Piece) → total (block_of p) ≡ size_of p → free_up_to run (Some (block_of p)) ≡ free_on run p
free_next run (held r) size = refl
free_next run (free n tail) size = ap (λ (k : ℕ). run + k) size

walked : (w unit : ℕ) (ps : List Piece) (most run : ℕ) (bytes : List ℕ) → w ≤ 8 → IsFilled w unit bytes ps → length bytes ≤ most → free_at_end most w run bytes ≡ free_behind run ps
walked w unit [] most run bytes wide filled le = ap (free_at_end most w run) filled.is ∙ walk_nothing most w run
walked w unit (p ∷ ps) zero run bytes wide filled le = absurd (omega (arith, le, ap length filled.is, length-append (spell p) (spell_all ps), filled.whole.0.size.some))
walked w unit (p ∷ ps) (suc most) run bytes wide filled le =
    let some : 0 < size_of p = filled.whole.0.size.some in
    let parts : length bytes ≡ size_of p + length (spell_all ps) = ap length filled.is ∙ length-append (spell p) (spell_all ps) in
    let size : total (block_of p) ≡ size_of p = (headed w unit p wide filled.whole.0 filled.widths.0).size in
    let front = first_front w unit p (spell_all ps) bytes wide filled.whole.0 filled.widths.0 filled.is in
    let next : next_block w bytes ≡ Some (block_of p) = next_is w bytes front.0 (block_of p) (omega (arith, some, parts)) front.1 in
    let more : drop (total (block_of p)) bytes ≡ spell_all ps = ap (drop (total (block_of p))) filled.is ∙ drop_at (spell p) (spell_all ps) (total (block_of p)) (sym size) in
    let step : free_at_end (suc most) w run bytes ≡ free_at_end most w (free_up_to run (Some (block_of p))) (drop (total (block_of p)) bytes) = λ i. free_at_end most w (free_up_to run (next i)) (behind (next i) bytes) in
    let same : free_at_end most w (free_up_to run (Some (block_of p))) (drop (total (block_of p)) bytes) ≡ free_at_end most w (free_on run p) (spell_all ps) = λ i. free_at_end most w (free_next run p size i) (more i) in
    step
    ∙ (same
    ∙ walked w unit ps most (free_on run p) (spell_all ps) wide (record { whole = filled.whole.1; widths = filled.widths.1; is = refl }) (omega (arith, le, parts, some)))

-- ---- behind the last block nothing is free, where it is a record

-- none of the free blocks reaches the end
abbrev NoneLast : ℕ → List Piece → Type 0
NoneLast at ps = (q t : ℕ) → frees_of at ps q ≡ Some t → q + t ≡ at + long ps → 0 < t → ⊥

none_later : (unit at : ℕ) (p : Piece) (ps : List Piece) → IsWhole unit p → NoneLast at (p ∷ ps) → NoneLast (at + size_of p) ps
none_later unit at p ps is none q t there ends some =
    let size : 0 < size_of p = is.size.some in
    let longer : long (p ∷ ps) ≡ size_of p + long ps = long-cons p ps in
    none q t (ap free_of (later at p ps q (λ same. absurd (let never : None ≡ Some t = sym (ap free_of (below (at + size_of p) ps q (omega (arith, same, size)))) ∙ there in cc))) ∙ there) (omega (arith, ends, longer)) some

none_behind_last : (unit at : ℕ) (p : Piece) (ps : List Piece) (run : ℕ) → AllWhole unit (p ∷ ps) → NoneLast at (p ∷ ps) → free_behind run (p ∷ ps) ≡ 0
none_behind_last unit at (held r) [] run is none = refl
none_behind_last unit at (free n tail) [] run is none =
    let alone : long (free n tail ∷ []) ≡ size_of (free n tail) + long [] = long-cons (free n tail) [] in
    absurd (none at (size_of (free n tail)) (ap free_of (here at (free n tail) [] at refl)) (omega (arith, alone)) is.0.size.some)
none_behind_last unit at p (x ∷ xs) run is none = none_behind_last unit (at + size_of p) x xs (free_on run p) is.1 (none_later unit at p (x ∷ xs) is.0 none)

none_in : (unit at : ℕ) (ps : List Piece) → AllWhole unit ps → NoneLast at ps → free_behind 0 ps ≡ 0
none_in unit at [] is none = refl
none_in unit at (p ∷ ps) is none = none_behind_last unit at p ps 0 is none

-- ---- the file

none_past : (long size : ℕ) → long ≡ size → long - size ≡ 0
none_past long size same = omega (arith, same)

none_at_end : (h : Head) (pieces : List Piece) (bytes : List ℕ) → HasBlocks h h.size pieces bytes → ((q t : ℕ) → frees_of h.first pieces q ≡ Some t → q + t ≡ h.size → 0 < t → ⊥) → free_end h bytes ≡ 0
none_at_end h pieces bytes blocks last =
    let filled = blocks.filled in
    let reach : h.first + length (between h.first h.size bytes) ≡ h.size = between_long h.first h.size bytes blocks.on blocks.within in
    let all : length (between h.first h.size bytes) ≡ long pieces = ap length filled.is in
    walked (width h) (unit h) pieces (h.size - h.first) 0 (between h.first h.size bytes) (wide_most (is_large h))
    (record { whole = filled.whole; widths = widths_listed (width h) (unit h) h.first pieces filled.whole blocks.widths; is = filled.is })
    (omega (arith, reach))
    ∙ none_in (unit h) h.first pieces filled.whole (λ q t there ends some. last q t there (omega (arith, ends, all, reach)) some)

-- a file that ends in a record has nothing behind it
pub ended_slack : (bytes : List ℕ) → EndsInRecord bytes → slack_in bytes ≡ 0
ended_slack [] ends = refl
ended_slack (b ∷ bytes) ends =
    let file : List ℕ = b ∷ bytes in
    let past : length file - ends.head.size ≡ 0 = none_past (length file) ends.head.size ends.long in
    let free_bytes : free_end ends.head file ≡ 0 = none_at_end ends.head ends.pieces file ends.blocks ends.last in
    ap (λ (g : Head). (length file - g.size) + free_end g file) ends.in_front ∙ omega (arith, past, free_bytes)

-- nor has one that was settled
pub settled_trims : {S : Type 0} (s : Ghosts S) (v v' : Hash S) (a b : S) → Trimmed (frees_in v.body.pool) (frees_in v'.body.pool) v.body.pool.size v'.body.pool.size → Settles s v v' a b → (m : Map) → In s file_of holds v a m → slack_in (s.now b (file_of v)) ≡ 0
settled_trims s v v' a b dropped done m w =
    ended_slack (s.now b v.body.file)
    (ends_of v'.body.head v'.body.pool.size (frees_in v.body.pool) (frees_in v'.body.pool) v.body.pool.size v'.records v'.region m (s.now b v.body.file) (done.brought w.0 m w.1) (done.front w.0).long dropped)
