-- A block is no smaller than the least one that holds its record.
use Rattle.std.proofs.Common.{◌≡◌, ◌∙◌, inl, inr, ℕ, ◌+◌, ◌-◌, ◌*◌, ◌/◌, ◌%◌, ◌≤◌, List, length, Some, refl, sym, ap, subst, arith}
use Rattle.std.proofs.Math.Nat.{add-mul-mod_self_right, mod-add-div', mod-eq_of_lt, mod-le, mod_self}
use Rattle.std.proofs.lemmas.Bool.{cases_lt}
use Rattle.std.specs.FinMap.{get}
use Rattle.tc_base.specs.Maps.{Map}
use Rattle.hf_head.specs.declared.head.Head.{Head}
use Rattle.hf_head.specs.Heads.{unit}
use Rattle.hf_block.specs.Pieces.{Record, held, size_of}
use Rattle.hf_block.specs.Written.{block_len, content, padding}
use Rattle.hf_block.proofs.Padding.{length-held}
use Rattle.hf_layout.specs.Frees.{Frees}
use Rattle.hf_layout.specs.Layout.{piece_at}
use Rattle.hf_layout.proofs.Bytes.{whole_at}
use Rattle.hf_layout.proofs.Shares.{record_is}
use Rattle.hf_tree.specs.Links.{width}
use Rattle.hf_record.specs.Allocating.{HoldsAt}

-- what fills a number up to some multiple of the unit
pads_most : (u n p : ℕ) → (n + p) % u ≡ 0 → (u - n % u) % u ≤ p
pads_most u n p whole = elim (cases_lt (n % u + p) u) [
  | inl less ↦
      let parts : n + p ≡ (n % u + p) + (n / u) * u = omega (arith, mod-add-div' n u) in
      let bare : n % u + p ≡ 0 = sym (mod-eq_of_lt less) ∙ sym (add-mul-mod_self_right (n % u + p) (n / u) u) ∙ sym (ap (λ (k : ℕ). k % u) parts) ∙ whole in
      let all : u - n % u ≡ u = omega (arith, bare) in
      let gone : (u - n % u) % u ≡ 0 = ap (λ (k : ℕ). k % u) all ∙ mod_self u in
      omega (arith, gone)
  | inr more ↦ omega (arith, mod-le (u - n % u) u, more)
]

add_most : (a b c : ℕ) → b ≤ c → a + b ≤ a + c
add_most a b c le = omega (arith, le)

block_most : (w u : ℕ) (r : Record) → r.wide ≡ w → size_of (held r) % u ≡ 0 → block_len w r.key r.value u ≤ size_of (held r)
block_most w u r wide whole =
    let n : ℕ = content w r.key r.value in
    let long : size_of (held r) ≡ n + length r.pad = subst (λ (x : ℕ). size_of (held r) ≡ content x r.key r.value + length r.pad) wide (length-held r) in
    let pads : padding u n ≤ length r.pad = pads_most u n (length r.pad) (ap (λ (k : ℕ). k % u) (sym long) ∙ whole) in
    subst (λ (k : ℕ). block_len w r.key r.value u ≤ k) (sym long) (add_most n (padding u n) (length r.pad) pads)

-- the block of a key's record is large enough for the value that the key has
pub own_most : (h : Head) (end : ℕ) (free : Frees) (m : Map) (key value : List ℕ) (at size : ℕ) (bytes : List ℕ) → HoldsAt h end free m key at size bytes → get m key ≡ Some value → block_len (width h) key value (unit h) ≤ size
own_most h end free m key value at size bytes stood there =
    let r : Record = stood.r in
    let is = stood.has.is in
    let both : Some value ≡ Some r.value = sym there ∙ (is.map key r.value).1 (at, r, stood.there, stood.key_is, refl) in
    let same : value ≡ r.value = cc in
    let whole = whole_at (unit h) h.first stood.has.pieces (held r) at is.laid.filled.whole (record_is (piece_at h.first stood.has.pieces at) r stood.there) in
    subst (λ (v : List ℕ). block_len (width h) key v (unit h) ≤ size) (sym same)
    (subst (λ (k : List ℕ). block_len (width h) k r.value (unit h) ≤ size) stood.key_is
    (subst (λ (n : ℕ). block_len (width h) r.key r.value (unit h) ≤ n) stood.size_is (block_most (width h) (unit h) r (is.widths at r stood.there) whole.size.aligned)))
