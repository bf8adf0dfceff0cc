-- A record's head and key in the bytes.
use Rattle.std.proofs.Common.{◌≡◌, ◌≢◌, ◌∙◌, ◌⊎◌, inl, inr, ℕ, ◌+◌, ◌*◌, ◌-◌, ◌^◌, ◌<◌, ◌≤◌, refl, sym, ap, subst, arith, List, ◌++◌, length, take, drop, append_assoc, length-append, length-drop, Bool, Some, Result, Ok, Err}
use Rattle.std.proofs.lemmas.List.{take_at, drop_at, drop-drop, length-take-le, take-take, take-append-drop}
use Rattle.std.specs.Prelude.{IfOk}
use Rattle.std.specs.Ordering.{nat_cmp, on, then_cmp, ordering_then}
use Rattle.std.specs.declared.cmp.Ordering.{Ordering}
use Rattle.std.specs.declared.cmp.Ordering.TheVariants.{Less, Equal, Greater}
use Rattle.std.specs.Cmp.Lexicographic.{slice_cmp}
use Rattle.std.proofs.lemmas.Cmp.{ranked}
use Rattle.tc_base.specs.Hashes.{second}
use Rattle.tc_base.specs.Vnum.{vnum}
use Rattle.hf_head.specs.declared.head.Head.{Head}
use Rattle.hf_head.specs.Heads.{unit, wide, is_large}
use Rattle.hf_block.specs.declared.block.Block.{Block}
use Rattle.hf_block.specs.declared.block.Block.TheVariants.{Rec}
use Rattle.hf_block.specs.declared.reading.BlockErr.{BlockErr}
use Rattle.hf_block.specs.Heads.{rec_head, head_bytes, Fits, IsPrefix}
use Rattle.hf_block.specs.Pieces.{Piece, Record, held, spell, IsWhole}
use Rattle.hf_block.proofs.Blocking.{vnum_most, wide_most}
use Rattle.hf_block.proofs.Padding.{length-held, length-rec_head}
use Rattle.hf_layout.specs.Layout.{record_at}
use Rattle.hf_tree.specs.Keys.{key_cmp}
use Rattle.hf_tree.specs.Links.{HasBlocks, IsAt}
use Rattle.hf_tree.proofs.Fields.{at_inside, record_lies}
use Rattle.hf_chain.specs.declared.heads.RecHead.{RecHead}
use Rattle.hf_chain.specs.Heads.{head_of, head_block, head_size, HasRecord, IsInBounds}
use Rattle.hf_chain.proofs.Pieces.{piece_of}

-- a record of the file stands in its bytes
pub stands : (h : Head) (end : ℕ) (ps : List Piece) (bytes : List ℕ) (p : ℕ) (r : Record) → HasBlocks h end ps bytes → record_at h.first ps p ≡ Some r → HasRecord h r p bytes
stands h end ps bytes p r b at = record { is = (record_lies h end ps bytes p r b at).at; wide = b.widths p r at }

-- what the reader of blocks answers on a record's front
abbrev pub block_of : Record → Block
block_of r = Rec r.hash r.left r.right (length r.pad) (length r.key) (length r.value) (head_size r)

pub rec_fits : (w u : ℕ) (r : Record) → r.wide ≡ w → IsWhole u (held r) → Fits w (block_of r)
rec_fits w u r is whole =
    let l = length-held r in
    let b = whole.size.below in
    subst (λ (z : ℕ). Fits z (block_of r)) is (whole.fits.0, whole.fits.1, whole.fits.2, whole.fits.3, omega (arith, l, b), omega (arith, l, b), refl)

head_small : (large : Bool) (u : ℕ) (r : Record) → r.wide ≡ wide large → IsWhole u (held r) → head_size r ≤ 40
head_small large u r is whole =
    let l = length-held r in
    let b = whole.size.below in
    let k = vnum_most (length r.key) (omega (arith, l, b)) in
    let v = vnum_most (length r.value) (omega (arith, l, b)) in
    omega (arith, k, v, is, wide_most large)

pub in_bounds : (h : Head) (r : Record) (p : ℕ) (bytes : List ℕ) → HasRecord h r p bytes → IsInBounds r
in_bounds h r p bytes has = (head_small (is_large h) (unit h) r has.wide has.is.whole, omega (arith, length-held r, has.is.whole.size.below))

prefix : (a b front : List ℕ) → front ≡ take (length front) (a ++ b) → length a ≤ length front → IsPrefix a front
prefix a b front is le = (drop (length a) front, sym (take-append-drop (length a) front) ∙ ap (λ (l : List ℕ). l ++ drop (length a) front) (sym e))
  where
    e : a ≡ take (length a) front
    e = sym (ap (λ (l : List ℕ). take (length a) l) is ∙ take-take (length a) (length front) (a ++ b) le ∙ take_at a b (length a) refl)

-- the front of a record, as it was cut off
abbrev pub IsCut : Record → List ℕ → List ℕ → Type 0
IsCut r more front = (front ≡ take (length front) (spell (held r) ++ more)) × ((length front ≡ length (spell (held r) ++ more)) ⊎ (40 ≤ length front))

pub front_read : (large : Bool) (u : ℕ) (r : Record) (more front : List ℕ) → r.wide ≡ wide large → IsWhole u (held r) → front ≡ take (length front) (spell (held r) ++ more) → (length front ≡ length (spell (held r) ++ more)) ⊎ (40 ≤ length front) → IsPrefix (head_bytes (wide large) (block_of r)) front
unfolding spell
front_read large u r more front is whole part enough =
    let head : List ℕ = rec_head r.wide r.hash r.left r.right (length r.pad) (length r.key) (length r.value) in
    let hl : length head ≡ head_size r = length-rec_head r.wide r.hash r.left r.right (length r.pad) (length r.key) (length r.value) in
    let tail : List ℕ = r.key ++ (r.value ++ r.pad) in
    subst (λ (z : ℕ). IsPrefix (head_bytes z (block_of r)) front) is (prefix head (tail ++ more) front (part ∙ ap (λ (l : List ℕ). take (length front) l) (append_assoc head tail more)) (fits hl enough))
  where
    fits : length (rec_head r.wide r.hash r.left r.right (length r.pad) (length r.key) (length r.value)) ≡ head_size r → (length front ≡ length (spell (held r) ++ more)) ⊎ (40 ≤ length front) → length (rec_head r.wide r.hash r.left r.right (length r.pad) (length r.key) (length r.value)) ≤ length front
    fits hl (inl e) = omega (arith, hl, e, length-append (spell (held r)) more, length-held r)
    fits hl (inr e) = omega (arith, hl, e, head_small large u r is whole)

-- the key stands behind the head
pub key_at : (u : ℕ) (r : Record) (p : ℕ) (bytes : List ℕ) → IsAt u r p bytes → take (length r.key) (drop (p + head_size r) bytes) ≡ r.key
unfolding spell
key_at u r p bytes a =
    let head : List ℕ = rec_head r.wide r.hash r.left r.right (length r.pad) (length r.key) (length r.value) in
    let tail : List ℕ = (r.value ++ r.pad) ++ a.rest in
    let e : drop p bytes ≡ head ++ (r.key ++ tail) = a.is ∙ regroup head r.key (r.value ++ r.pad) a.rest in
    ap (λ (l : List ℕ). take (length r.key) l) (sym (drop-drop (head_size r) p bytes) ∙ ap (λ (l : List ℕ). drop (head_size r) l) e ∙ drop_at head (r.key ++ tail) (head_size r) (length-rec_head r.wide r.hash r.left r.right (length r.pad) (length r.key) (length r.value)))
    ∙ take_at r.key tail (length r.key) refl
  where
    regroup : (h k v d : List ℕ) → (h ++ (k ++ v)) ++ d ≡ h ++ (k ++ (v ++ d))
    regroup h k v d = simp append_assoc

pub key_inside : (u : ℕ) (r : Record) (p : ℕ) (bytes : List ℕ) → IsAt u r p bytes → p + head_size r + length r.key ≤ length bytes
key_inside u r p bytes a = omega (arith, at_inside u r p bytes a, length-held r)

pub heads_same : (res : Result Block BlockErr) (hash left right pad key value head : ℕ) (r : Record) → res ≡ Ok (Rec hash left right pad key value head) → res ≡ Ok (block_of r) → ◌≡◌ {A = RecHead} (record { hash = hash; left = left; right = right; pad = pad; key = key; value = value; head = head }) (head_of r)
heads_same res hash left right pad key value head r is at =
    let e : ◌≡◌ {A = Result Block BlockErr} (Ok (Rec hash left right pad key value head)) (Ok (block_of r)) = sym is ∙ at in
    let a : hash ≡ r.hash = cc in
    let b : left ≡ r.left = cc in
    let c : right ≡ r.right = cc in
    let d : pad ≡ length r.pad = cc in
    let f : key ≡ length r.key = cc in
    let g : value ≡ length r.value = cc in
    let h : head ≡ head_size r = cc in
    λ i. record { hash = a i; left = b i; right = c i; pad = d i; key = f i; value = g i; head = h i }

pub head_is : (x : RecHead) (b : Block) (r : Record) → b ≡ head_block x → b ≡ block_of r → x ≡ head_of r
head_is x b r is at = heads_same (Ok b) x.hash x.left x.right x.pad x.key x.value x.head r (ap (λ (z : Block). Ok z) is) (ap (λ (z : Block). Ok z) at)

-- the front that is read
pub front_cut : (n at : ℕ) (u : ℕ) (r : Record) (bytes front : List ℕ) (a : IsAt u r at bytes) → front ≡ take n (drop at bytes) → at + n ≤ length bytes → (at + n ≡ length bytes) ⊎ (40 ≤ n) → IsCut r a.rest front
front_cut n at u r bytes front a is fits which =
    let long : length front ≡ n = ap length is ∙ length-take-le n (drop at bytes) (omega (arith, length-drop at bytes, fits)) in
    (is ∙ (λ i. take (sym long i) (a.is i)), pick long which)
  where
    pick : length front ≡ n → (at + n ≡ length bytes) ⊎ (40 ≤ n) → (length front ≡ length (spell (held r) ++ a.rest)) ⊎ (40 ≤ length front)
    pick long (inl e) = inl (omega (arith, long, e, length-drop at bytes, ap length a.is))
    pick long (inr e) = inr (omega (arith, long, e))

-- bytes among those that were read before
pub near_is : (n at skip len : ℕ) (front bytes : List ℕ) → front ≡ take n (drop at bytes) → skip + len ≤ n → take (skip + len - skip) (drop skip front) ≡ take len (drop (at + skip) bytes)
near_is n at skip len front bytes is le =
    let m : skip + len - skip ≡ len = omega arith in
    (λ i. take (m i) (drop skip (is i))) ∙ piece_of n at skip len bytes le

-- ---- the order of keys

then_first : (a b : Ordering) → a ≢ Equal → a ≡ ordering_then a b
then_first Less b ne = refl
then_first Equal b ne = absurd (ne refl)
then_first Greater b ne = refl

-- by hash
pub by_hash : (rec : RecHead) (key : List ℕ) (hash : ℕ) (o : Ordering) (r : Record) → hash ≡ second key → rec ≡ head_of r → r.hash ≡ second r.key → o ≡ nat_cmp hash rec.hash → o ≢ Equal → o ≡ key_cmp key r.key
unfolding key_cmp
by_hash rec key hash o r hk is its same ne =
    let e : o ≡ nat_cmp (second key) (second r.key) = same ∙ (λ j. nat_cmp (hk j) ((ap (λ (x : RecHead). x.hash) is ∙ its) j)) in
    e ∙ then_first (nat_cmp (second key) (second r.key)) (then_cmp (on length nat_cmp) (slice_cmp nat_cmp) key r.key) (λ f. ne (e ∙ f))

rest : (key x : List ℕ) (h i : ℕ) (o : Ordering) → h ≡ second key → i ≡ second x → Equal ≡ nat_cmp h i → o ≡ ordering_then (nat_cmp (length key) (length x)) (slice_cmp nat_cmp key x) → o ≡ key_cmp key x
unfolding key_cmp
rest key x h i o hk ix is is_rest =
    let e : nat_cmp (second key) (second x) ≡ Equal = sym (is ∙ (λ j. nat_cmp (hk j) (ix j))) in
    is_rest ∙ ap (λ (z : Ordering). ordering_then z (ordering_then (nat_cmp (length key) (length x)) (slice_cmp nat_cmp key x))) (sym e)

-- by length
pub by_length : (rec : RecHead) (key : List ℕ) (hash : ℕ) (o : Ordering) (r : Record) → hash ≡ second key → rec ≡ head_of r → r.hash ≡ second r.key → Equal ≡ nat_cmp hash rec.hash → o ≡ nat_cmp (length key) rec.key → o ≢ Equal → o ≡ key_cmp key r.key
by_length rec key hash o r hk is its same len ne =
    let e : o ≡ nat_cmp (length key) (length r.key) = len ∙ (λ j. nat_cmp (length key) (is j).key) in
    rest key r.key hash rec.hash o hk (ap (λ (x : RecHead). x.hash) is ∙ its) same (e ∙ then_first (nat_cmp (length key) (length r.key)) (slice_cmp nat_cmp key r.key) (λ f. ne (e ∙ f)))

-- by bytes
pub by_bytes : {E : Type 0} (res : Result Ordering E) (T : Type 0) (h : Head) (at : ℕ) (rec : RecHead) (key : List ℕ) (hash : ℕ) (bytes : List ℕ) → hash ≡ second key → Equal ≡ nat_cmp hash rec.hash → Equal ≡ nat_cmp (length key) rec.key → IfOk res (λ o. T → o ≡ slice_cmp nat_cmp key (take (length key) (drop (at + rec.head) bytes))) → IfOk res (λ o. T → (r : Record) → HasRecord h r at bytes → rec ≡ head_of r → r.hash ≡ second r.key → o ≡ key_cmp key r.key)
by_bytes (Err e) T h at rec key hash bytes hk same len is = tt
by_bytes (Ok o) T h at rec key hash bytes hk same len is = λ t r a head its.
    let long : length key ≡ length r.key = ranked (length key) rec.key Equal len ∙ ap (λ (x : RecHead). x.key) head in
    let b : take (length key) (drop (at + rec.head) bytes) ≡ r.key = (λ i. take (long i) (drop (at + (head i).head) bytes)) ∙ key_at (unit h) r at bytes a.is in
    let e : nat_cmp (length key) (length r.key) ≡ Equal = ap (λ (n : ℕ). nat_cmp (length key) n) (sym (ap (λ (x : RecHead). x.key) head)) ∙ sym len in
    rest key r.key hash rec.hash o hk (ap (λ (x : RecHead). x.hash) head ∙ its) same
    (is t ∙ ap (λ (l : List ℕ). slice_cmp nat_cmp key l) b ∙ ap (λ (z : Ordering). ordering_then z (slice_cmp nat_cmp key r.key)) (sym e))

pub vnums_small : (large : Bool) (key value head : ℕ) → key < 2 ^ 64 → value < 2 ^ 64 → head ≡ 4 + 2 * wide large + length (vnum key) + length (vnum value) → head ≤ 40
vnums_small large key value head k v is = omega (arith, is, vnum_most key k, vnum_most value v, wide_most large)
