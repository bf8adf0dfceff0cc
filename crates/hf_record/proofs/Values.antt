-- Values and blocks of records, from their heads.
use Rattle.std.proofs.Common.{◌≡◌, ◌∙◌, ℕ, ◌+◌, ◌-◌, ◌^◌, ◌<◌, ◌≤◌, List, ◌++◌, length, take, drop, refl, sym, ap, arith, append_assoc, length-append}
use Rattle.std.specs.Prelude.{min}
use Rattle.std.proofs.lemmas.List.{take_at, drop_at, drop-drop}
use Rattle.hf_head.specs.declared.head.Head.{Head}
use Rattle.hf_block.specs.Heads.{rec_head}
use Rattle.hf_block.specs.Pieces.{Record, held, spell, size_of}
use Rattle.hf_block.proofs.Padding.{length-held, length-rec_head}
use Rattle.hf_tree.specs.Links.{IsAt}
use Rattle.hf_tree.proofs.Fields.{at_inside}
use Rattle.hf_chain.specs.declared.heads.RecHead.{RecHead}
use Rattle.hf_chain.specs.Heads.{head_of, head_size, HasRecord, IsHeadOf}
use Rattle.hf_record.specs.Moves.{IsBlockAt}

-- the value stands behind the key
pub value_in_bytes : (u : ℕ) (r : Record) (p : ℕ) (bytes : List ℕ) → IsAt u r p bytes → take (length r.value) (drop (p + head_size r + length r.key) bytes) ≡ r.value
unfolding spell
value_in_bytes u r p bytes a =
    let head : List ℕ = rec_head r.wide r.hash r.left r.right (length r.pad) (length r.key) (length r.value) in
    let front : List ℕ = head ++ r.key in
    let tail : List ℕ = r.pad ++ a.rest in
    let e : drop p bytes ≡ front ++ (r.value ++ tail) = a.is ∙ regroup head r.key r.value r.pad a.rest in
    let long : length front ≡ head_size r + length r.key = omega (arith, length-append head r.key, length-rec_head r.wide r.hash r.left r.right (length r.pad) (length r.key) (length r.value)) in
    ap (λ (l : List ℕ). take (length r.value) l) (ap (λ (n : ℕ). drop n bytes) (omega arith) ∙ sym (drop-drop (head_size r + length r.key) p bytes) ∙ ap (λ (l : List ℕ). drop (head_size r + length r.key) l) e ∙ drop_at front (r.value ++ tail) (head_size r + length r.key) long)
    ∙ take_at r.value tail (length r.value) refl
  where
    regroup : (h k v p d : List ℕ) → (h ++ (k ++ (v ++ p))) ++ d ≡ (h ++ k) ++ (v ++ (p ++ d))
    regroup h k v p d = simp append_assoc

pub value_inside : (u : ℕ) (r : Record) (p : ℕ) (bytes : List ℕ) → IsAt u r p bytes → p + head_size r + length r.key + length r.value ≤ length bytes
value_inside u r p bytes a = omega (arith, at_inside u r p bytes a, length-held r)

-- where the value of a record begins, from its head
pub value_start : (u : ℕ) (r : Record) (rec : RecHead) (p a b : ℕ) (bytes : List ℕ) → IsAt u r p bytes → rec ≡ head_of r → length bytes < 2 ^ 64 → a ≡ min (p + rec.head) (2 ^ 64 - 1) → b ≡ min (a + rec.key) (2 ^ 64 - 1) → b ≡ p + head_size r + length r.key
value_start u r rec p a b bytes at head room first second =
    omega (arith, value_inside u r p bytes at, ap (λ (x : RecHead). x.head) head, ap (λ (x : RecHead). x.key) head, room, first, second)

-- the bytes of a record's block
pub block_is : (h : Head) (at : ℕ) (bytes : List ℕ) (rec : RecHead) (a b size : ℕ) → a ≡ min (rec.head + rec.key) (2 ^ 64 - 1) → b ≡ min (a + rec.value) (2 ^ 64 - 1) → size ≡ min (b + rec.pad) (2 ^ 64 - 1) → IsHeadOf h at bytes rec → IsBlockAt h at size bytes
block_is h at bytes rec a b size first second third head = record { is = λ r has. sum r has (head r has) }
  where
    sum : (r : Record) → HasRecord h r at bytes → rec ≡ head_of r → size ≡ size_of (held r)
    sum r has e = omega (arith, first, second, third, length-held r, has.is.whole.size.below, ap (λ (x : RecHead). x.head) e, ap (λ (x : RecHead). x.key) e, ap (λ (x : RecHead). x.value) e, ap (λ (x : RecHead). x.pad) e)
