-- Which puts are full, computed at two small hash files: three buckets, and blocks of 16 bytes from 336 on.
use Rattle.std.proofs.Common.{◌≡◌, ◌∙◌, ℕ, ◌+◌, ◌-◌, ◌%◌, ◌^◌, ◌<◌, ◌≤◌, List, [], ◌∷◌, ◌++◌, zero, suc, length, take, drop, refl, sym, ap, subst, inl, inr, ⊎_elim, arith, Some, None}
use Rattle.std.proofs.lemmas.List.{take-append-drop}
use Rattle.std.proofs.lemmas.Bool.{cases_eq}
use Rattle.std.specs.Prelude.{◌==◌, ◌↔◌, false, Option, replicate, unwrap_or, if◌then◌else◌}
use Rattle.std.specs.Ordering.{nat_cmp}
use Rattle.std.specs.Cmp.Lexicographic.{slice_cmp}
use Rattle.std.specs.FinMap.{empty, get, get-empty, insert}
use Rattle.tc_base.specs.Endian.{le_bytes, le_number}
use Rattle.tc_base.specs.Hashes.{back_hash, front_hash}
use Rattle.tc_base.specs.Maps.{Map}
use Rattle.tc_base.specs.Vnum.{groups, vnum}
use Rattle.tc_base.proofs.Endians.{le_number-le_bytes}
use Rattle.hf_head.specs.declared.head.Head.{Head}
use Rattle.hf_head.specs.Heads.{head_in, spelled, unit, wide}
use Rattle.hf_block.specs.Heads.{free_head, rec_head}
use Rattle.hf_block.specs.Pieces.{Piece, Record, free, held, size_of, spell, spell_all}
use Rattle.hf_block.specs.Walks.{between}
use Rattle.hf_block.specs.Written.{block_len, sized_len}
use Rattle.hf_layout.specs.Frees.{Frees, none}
use Rattle.hf_layout.specs.Layout.{LaidOut, free_of, frees_of, piece_at, record_at, record_of}
use Rattle.hf_layout.proofs.Places.{here, later}
use Rattle.hf_pool.specs.Indexing.{found_in}
use Rattle.hf_pool.specs.declared.index.Index.{Index}
use Rattle.hf_pool.specs.declared.pool.Pool.{Pool}
use Rattle.hf_pool.specs.Pools.{frees}
use Rattle.hf_record.specs.Filling.{IsTooLong, reach}
use Rattle.hf_record.specs.Holding.{HasMap}
use Rattle.hf_record.specs.Moves.{IsRefusedFor}
use Rattle.hf_record.proofs.Maps.{insert_here, insert_other, same_or_not}
use Rattle.hf_tree.specs.Keys.{bucket_of, key_cmp}
use Rattle.hf_tree.specs.Links.{links_of, seen, width}
use Rattle.hf_tree.specs.Trees.{Tree, leaf, look, node}
use Rattle.hf_tree.specs.Views.{Hung}
use Rattle.tc_model.specs.Contents.{hash}
use Rattle.tc_hashdb.specs.Filling.{FillsWith, WantsBlock, WantsRecord}

-- ---- the files

-- their heads
abbrev head_of : ℕ → ℕ → Head
head_of records size = record { kind = 0; apow = 4; fpow = 0; options = 0; buckets = 3; records = records; size = size; first = 336; opaque = replicate 128 0 }

-- the record of a key and a value of one byte each, with its key's second hash, from which no chain leads on
abbrev lone : ℕ → ℕ → ℕ → List ℕ
lone second key value = 0xC8 ∷ second ∷ 0 ∷ 0 ∷ 0 ∷ 0 ∷ 0 ∷ 0 ∷ 0 ∷ 0 ∷ 0 ∷ 0 ∷ 1 ∷ 1 ∷ key ∷ value ∷ []

-- `a` has `1`
unfoldable pub one : List ℕ
one = spelled (head_of 1 352) ++ ((21 ∷ replicate 11 0) ++ (replicate 68 0 ++ lone 0x90 97 49))

-- `b` has `2`, and `a` was taken out, whose block is free: so much is left of its record
abbrev left_over : List ℕ
left_over = 0 ∷ 0 ∷ 0 ∷ 0 ∷ 0 ∷ 0 ∷ 0 ∷ 1 ∷ 1 ∷ 97 ∷ 49 ∷ []

abbrev blocks_behind : List ℕ
blocks_behind = 0xB0 ∷ 16 ∷ 0 ∷ 0 ∷ 0 ∷ (left_over ++ lone 0x93 98 50)

unfoldable pub gap : List ℕ
gap = spelled (head_of 1 368) ++ ((replicate 4 0 ++ (22 ∷ replicate 7 0)) ++ ((21 ∷ 1 ∷ replicate 66 0) ++ blocks_behind))

one_head : head_in (take 256 one) ≡ head_of 1 352
unfolding one spelled head_in le_bytes le_number
one_head = refl

one_long : length one ≡ 352
unfolding one spelled le_bytes
one_long = refl

gap_head : head_in (take 256 gap) ≡ head_of 1 368
unfolding gap spelled head_in le_bytes le_number
gap_head = refl

gap_long : length gap ≡ 368
unfolding gap spelled le_bytes
gap_long = refl

gap_blocks : drop 336 gap ≡ blocks_behind
unfolding gap spelled le_bytes
gap_blocks = refl

-- ---- what they hold, and puts

abbrev nothing : Map
nothing = empty

abbrev with_a : Map
with_a = insert empty (97 ∷ []) (49 ∷ [])

abbrev with_ab : Map
with_ab = insert with_a (98 ∷ []) (50 ∷ [])

abbrev with_b : Map
with_b = insert empty (98 ∷ []) (50 ∷ [])

abbrev with_bc : Map
with_bc = insert with_b (99 ∷ []) (51 ∷ [])

-- one byte each
record IsShort (key value : List ℕ) : Type 0 where
  key_one : length key ≡ 1
  value_one : length value ≡ 1

one_byte : (k v : ℕ) → IsShort (k ∷ []) (v ∷ [])
one_byte k v = record { key_one = refl; value_one = refl }

short_in : (m : Map) (k v key value : List ℕ) → IsShort k v → (get m key ≡ Some value → IsShort key value) → get (insert m k v) key ≡ Some value → IsShort key value
short_in m k v key value short old is = ⊎_elim
    (λ same.
    let found : Some v ≡ Some value = sym (insert_here m k v) ∙ ap (get (insert m k v)) (sym same) ∙ is in
    let both : IsShort key value = record { key_one = ap length same ∙ short.key_one; value_one = ap length (sym (ap (λ o. unwrap_or o v) found)) ∙ short.value_one } in
    both)
    (λ other. old (sym (insert_other m k v key other) ∙ is))
    (same_or_not key k)

not_empty : (key value : List ℕ) → get nothing key ≡ Some value → ⊥
not_empty key value is = let e : None ≡ Some value = sym (get-empty (slice_cmp nat_cmp) key) ∙ is in cc

none_in : (key value : List ℕ) → get nothing key ≡ Some value → IsShort key value
none_in key value is = absurd (not_empty key value is)

short_ab : (key value : List ℕ) → get with_ab key ≡ Some value → IsShort key value
short_ab key value = short_in with_a (98 ∷ []) (50 ∷ []) key value (one_byte 98 50) (short_in empty (97 ∷ []) (49 ∷ []) key value (one_byte 97 49) (none_in key value))

short_bc : (key value : List ℕ) → get with_bc key ≡ Some value → IsShort key value
short_bc key value = short_in with_b (99 ∷ []) (51 ∷ []) key value (one_byte 99 51) (short_in empty (98 ∷ []) (50 ∷ []) key value (one_byte 98 50) (none_in key value))

-- ---- a block of 16 bytes

block_16 : (h : Head) (key value : List ℕ) → h.options ≡ 0 → h.apow ≡ 4 → IsShort key value → block_len (width h) key value (unit h) ≡ 16
unfolding vnum groups
block_16 h key value options apow short = λ i. sized_len (wide (options i == 1)) (short.key_one i) (short.value_one i) (2 ^ apow i)

reach_here : (h : Head) → h.options ≡ 0 → h.apow ≡ 4 → reach h ≡ 2 ^ 36
reach_here h options apow = λ i. if options i == 1 then 2 ^ 64 - 1 else 2 ^ (32 + apow i)

-- where one is wanted in vain in a file with such a head and so few bytes, it grows too long
too_long : (limit records size : ℕ) (bytes : List ℕ) (m : Map) (key value : List ℕ) → head_in (take 256 bytes) ≡ head_of records size → length bytes < 2 ^ 36 → IsShort key value → (w : WantsBlock limit bytes m key value) → IsTooLong w.head limit w.none.own.size 16 (frees w.none.own)
too_long limit records size bytes m key value front few short w =
    let n = w.none in
    let options : w.head.options ≡ 0 = sym n.numbers.options ∙ ap (λ (x : Head). x.options) front in
    let apow : w.head.apow ≡ 4 = sym n.numbers.apow ∙ ap (λ (x : Head). x.apow) front in
    let refused : IsRefusedFor w.head n.own.size (frees n.own) limit (length bytes) 16 = subst (λ (b : ℕ). IsRefusedFor w.head n.own.size (frees n.own) limit (length bytes) b) (block_16 w.head key value options apow short) n.refused in
    ⊎_elim
    (λ large. absurd (omega (arith, large)))
    (λ x. ⊎_elim (λ far. let most : 2 ^ 36 ≤ n.own.size = subst (λ (a : ℕ). 2 ^ (32 + a) ≤ n.own.size) apow far.far in absurd (omega (arith, most, x.0, few))) (λ long. long) x.1)
    refused

-- ---- the file that ends at its limit, right behind an out

-- its first block is free
no_take : (n x : ℕ) (xs : List ℕ) → 0 < n → take n (x ∷ xs) ≡ [] → ⊥
no_take zero x xs some is = omega (arith, some)
no_take (suc n) x xs some is = cc

front : (end : ℕ) (ps : List Piece) → between 336 end gap ≡ spell_all ps → blocks_behind ≡ spell_all ps ++ drop (end - 336) (drop 336 gap)
front end ps is = sym gap_blocks ∙ sym (take-append-drop (end - 336) (drop 336 gap)) ∙ ap (λ l. l ++ drop (end - 336) (drop 336 gap)) is

first_free : (u end : ℕ) (ps : List Piece) (fs : Frees) → LaidOut u 336 end ps fs none gap → 336 < end → fs 336 ≡ Some 16
unfolding spell rec_head free_head le_bytes le_number
first_free u end [] fs laid some =
    let is : take (end - 336) blocks_behind ≡ [] = ap (take (end - 336)) (sym gap_blocks) ∙ laid.filled.is in
    absurd (no_take (end - 336) 0xB0 (16 ∷ 0 ∷ 0 ∷ 0 ∷ (left_over ++ lone 0x93 98 50)) (omega (arith, some)) is)
first_free u end (held r ∷ ps) fs laid some =
    let first : 0xB0 ≡ 0xC8 = ap (λ l. le_number (take 1 l)) (front end (held r ∷ ps) laid.filled.is) in
    absurd (omega (arith, first))
first_free u end (free size tail ∷ ps) fs laid some =
    let whole = laid.filled.whole.0 in
    let below : size < 256 ^ 4 = subst (λ (n : ℕ). n < 2 ^ 32) whole.fits whole.size.below in
    let is : 16 ≡ size = ap (λ l. le_number (take 4 (drop 1 l))) (front end (free size tail ∷ ps) laid.filled.is) ∙ le_number-le_bytes 4 size below in
    ⊎_elim (λ pool. pool.0 ∙ ap Some (whole.fits ∙ sym is)) (λ lent. let e : None ≡ Some (size_of (free size tail)) = lent.1 in absurd cc) (laid.shared 336)

gap_wants : (m : Map) (key value : List ℕ) → IsShort key value → WantsBlock 368 gap m key value → ⊥
gap_wants m key value short w =
    let n = w.none in
    let long = too_long 368 1 368 gap m key value gap_head (omega (arith, gap_long)) short w in
    let options : w.head.options ≡ 0 = sym n.numbers.options ∙ ap (λ (x : Head). x.options) gap_head in
    let apow : w.head.apow ≡ 4 = sym n.numbers.apow ∙ ap (λ (x : Head). x.apow) gap_head in
    let first : w.head.first ≡ 336 = sym n.numbers.first ∙ ap (λ (x : Head). x.first) gap_head in
    let laid : LaidOut (unit w.head) 336 n.own.size n.has.pieces (frees n.own) none gap = subst (λ (f : ℕ). LaidOut (unit w.head) f n.own.size n.has.pieces (frees n.own) none gap) first n.has.is.laid in
    let there : 336 < n.own.size → frees n.own 336 ≡ Some 16 = first_free (unit w.head) n.own.size n.has.pieces (frees n.own) laid in
    let low : 336 < reach w.head = subst (λ (n : ℕ). 336 < n) (sym (reach_here w.head options apow)) (omega arith) in
    ⊎_elim
    (λ past. let small = long.none 336 16 (there (omega (arith, past))) low in omega (arith, small))
    (λ wide. omega (arith, wide, laid.within, gap_long))
    long.past

gap_record : WantsRecord 368 gap with_b with_bc → ⊥
gap_record w = gap_wants w.held w.key w.value (short_bc w.key w.value w.there) w.wants

-- a put of a record of 16 bytes is full there only where the undo log is
pub taken_block_serves : (log brought : Type 0) → FillsWith 368 log brought gap (hash false with_b) (hash false with_bc) → log
taken_block_serves log brought full = ⊎_elim (λ is. is) (λ x. absurd (gap_record x.1)) full

-- ---- the file of one record

one_wants : (m : Map) (key value : List ℕ) → IsShort key value → WantsBlock 368 one m key value → ⊥
one_wants m key value short w =
    let long = too_long 368 1 352 one m key value one_head (omega (arith, one_long)) short w in
    ⊎_elim (λ past. omega (arith, past, w.none.has.is.laid.within, one_long)) (λ wide. omega (arith, wide, w.none.has.is.laid.within, one_long)) long.past

one_record : WantsRecord 368 one with_a with_ab → ⊥
one_record w = one_wants w.held w.key w.value (short_ab w.key w.value w.there) w.wants

-- 16 bytes more are no more than a limit of 368
pub last_block_fits : (log brought : Type 0) → FillsWith 368 log brought one (hash false with_a) (hash false with_ab) → log
last_block_fits log brought full = ⊎_elim (λ is. is) (λ x. absurd (one_record x.1)) full

-- ---- a file that is emptied

emptied : (limit : ℕ) (bytes : List ℕ) (m : Map) → WantsRecord limit bytes m empty → ⊥
emptied limit bytes m w = not_empty w.key w.value w.there

-- that is full at no limit, whatever the file is, but where the undo log is
pub emptying_fits : (limit : ℕ) (log brought : Type 0) (bytes : List ℕ) (m : Map) → FillsWith limit log brought bytes (hash false m) (hash false empty) → log
emptying_fits limit log brought bytes m full = ⊎_elim (λ is. is) (λ x. absurd (emptied limit bytes m x.1)) full

-- ---- a limit of a byte less

-- the record of `a`, and no other
abbrev record_a : Record
record_a = record { wide = 4; hash = 0x90; left = 0; right = 0; key = 97 ∷ []; value = 49 ∷ []; pad = [] }

abbrev pieces_a : List Piece
pieces_a = held record_a ∷ []

size_a : size_of (held record_a) ≡ 16
unfolding spell rec_head le_bytes vnum groups
size_a = refl

one_blocks : between 336 352 one ≡ spell_all pieces_a
unfolding one spelled le_bytes spell rec_head vnum groups
one_blocks = refl

there_a : (q : ℕ) → q ≡ 336 → piece_at 336 pieces_a q ≡ Some (held record_a)
there_a q is = here 336 (held record_a) [] q is

else_none : (q : ℕ) → (q ≡ 336 → ⊥) → piece_at 336 pieces_a q ≡ None
else_none q other = later 336 (held record_a) [] q other

not_free : (q : ℕ) → frees_of 336 pieces_a q ≡ None
not_free q = ⊎_elim (λ is. ap free_of (there_a q is)) (λ other. ap free_of (else_none q other)) (cases_eq q 336)

-- a record there is that one
record IsA (q : ℕ) (r : Record) : Type 0 where
  at : q ≡ 336
  is : record_a ≡ r

only_a : (q : ℕ) (r : Record) → record_at 336 pieces_a q ≡ Some r → IsA q r
only_a q r found = ⊎_elim
    (λ same.
    let e : Some record_a ≡ Some r = sym (ap record_of (there_a q same)) ∙ found in
    let a : IsA q r = record { at = same; is = ap (λ o. unwrap_or o record_a) e } in
    a)
    (λ other. let e : None ≡ Some r = sym (ap record_of (else_none q other)) ∙ found in absurd cc)
    (cases_eq q 336)

-- its tree is that of the first bucket
abbrev tree_in : ℕ → Tree
tree_in b = if b == 0 then node 336 (97 ∷ []) leaf leaf else leaf

hung_a : (b : ℕ) → b < 3 → Hung (seen (links_of (head_of 1 352) pieces_a one) (record_at 336 pieces_a)) 3 b (tree_in b)
unfolding links_of one spelled le_bytes le_number bucket_of front_hash back_hash
hung_a zero few = record { hangs = (refl, λ e. omega (arith, e), refl, refl, refl); ordered = (tt, tt, tt, tt); home = (refl, tt, tt) }
hung_a (suc zero) few = record { hangs = refl; ordered = tt; home = tt }
hung_a (suc (suc zero)) few = record { hangs = refl; ordered = tt; home = tt }
hung_a (suc (suc (suc b))) few = absurd (omega (arith, few))

abbrev places_a : List ℕ → Option ℕ
places_a k = look (tree_in (bucket_of 3 k)) k

here_a : places_a (97 ∷ []) ≡ Some 336
unfolding bucket_of front_hash back_hash key_cmp
here_a = refl

map_a : (key value : List ℕ) → (get with_a key ≡ Some value) ↔ ((p : ℕ) × (r : Record) × (record_at 336 pieces_a p ≡ Some r) × (r.key ≡ key) × (r.value ≡ value))
map_a key value = (
  λ found. ⊎_elim
      (λ same.
      let e : Some (49 ∷ []) ≡ Some value = sym (insert_here empty (97 ∷ []) (49 ∷ [])) ∙ ap (get with_a) (sym same) ∙ found in
      (336, record_a, refl, sym same, ap (λ o. unwrap_or o []) e))
      (λ other. absurd (not_empty key value (sym (insert_other empty (97 ∷ []) (49 ∷ []) key other) ∙ found)))
      (same_or_not key (97 ∷ [])),
  λ x.
      let a = only_a x.0 x.1 x.2 in
      let k : key ≡ 97 ∷ [] = sym (ap (λ (r : Record). r.key) a.is ∙ x.3) in
      let v : 49 ∷ [] ≡ value = ap (λ (r : Record). r.value) a.is ∙ x.4 in
      ap (get with_a) k ∙ insert_here empty (97 ∷ []) (49 ∷ []) ∙ ap Some v,
)

-- with an index of no free blocks
module _ (index : Index) (bare : (q : ℕ) → found_in index q ≡ None) where
  no_free : (q t : ℕ) → found_in index q ≡ Some t → ⊥
  no_free q t is = let e : None ≡ Some t = sym (bare q) ∙ is in cc

  abbrev no_pool : Pool
  no_pool = record { index = index; unit = 16; size = 352; changed = false; some = omega arith; aligned = refl; within = λ q t is. absurd (no_free q t is); multiples = λ q t is. absurd (no_free q t is) }

  laid_a : LaidOut 16 336 352 pieces_a (frees no_pool) none one
  laid_a = record {
    room = omega arith;
    on = omega arith;
    within = omega (arith, one_long);
    filled = record {
      whole = (record { fits = (omega arith, omega arith, omega arith, omega arith); size = record { some = omega (arith, size_a); aligned = ap (λ (n : ℕ). n % 16) size_a; below = omega (arith, size_a) } }, tt);
      is = one_blocks;
    };
    shared = λ q. inl (bare q ∙ sym (not_free q), refl);
  }

  holds_a : HasMap (head_of 1 352) 352 (frees no_pool) with_a one
  holds_a = record {
    pieces = pieces_a;
    places = places_a;
    is = record {
      laid = laid_a;
      widths = λ q r found. sym (ap (λ (x : Record). x.wide) (only_a q r found).is);
      hang = record {
        holds = record { trees = tree_in; hung = hung_a; map = λ k. refl };
        all = λ p r found. let a = only_a p r found in sym (ap (λ (x : Record). places_a x.key) a.is) ∙ here_a ∙ ap Some (sym a.at);
      };
      map = map_a;
    };
    short = omega arith;
  }

  one_full : WantsRecord 367 one with_a with_ab
  one_full = record {
    held = with_a;
    key = 98 ∷ [];
    value = 50 ∷ [];
    between = λ k. inl refl;
    there = insert_here with_a (98 ∷ []) (50 ∷ []);
    wants = record {
      head = head_of 1 352;
      fields = record {
        kind_most = omega arith;
        kind_known = λ e. omega (arith, e);
        powers = (omega arith, omega arith, omega arith);
        options = omega arith;
        numbers = record { some_buckets = omega arith; few_buckets = omega arith; first_aligned = refl; first_behind = omega arith; size_aligned = refl; size_least = omega arith; size_most = omega arith };
      };
      none = record {
        own = no_pool;
        has = holds_a;
        numbers = record {
          kind = ap (λ (x : Head). x.kind) one_head;
          apow = ap (λ (x : Head). x.apow) one_head;
          fpow = ap (λ (x : Head). x.fpow) one_head;
          buckets = ap (λ (x : Head). x.buckets) one_head;
          options = ap (λ (x : Head). x.options) one_head;
          first = ap (λ (x : Head). x.first) one_head;
        };
        refused = subst (λ (b : ℕ). IsRefusedFor (head_of 1 352) 352 (frees no_pool) 367 (length one) b) (sym (block_16 (head_of 1 352) (98 ∷ []) (50 ∷ []) refl refl (one_byte 98 50)))
            (inr (omega (arith, one_long), inr (record { none = λ q t is low. absurd (no_free q t is); past = inl (omega arith) })));
      };
    };
  }

  -- the same put is full there in a file that was brought to where it is kept
  pub byte_less_is_full : (log brought : Type 0) → brought → FillsWith 367 log brought one (hash false with_a) (hash false with_ab)
  byte_less_is_full log brought is = inr (is, one_full)
