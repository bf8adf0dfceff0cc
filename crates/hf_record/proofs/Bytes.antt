-- The bytes of a record that is written.
use Rattle.std.proofs.Common.{◌≡◌, ◌∙◌, ℕ, ◌%◌, ◌^◌, ◌<◌, ◌≤◌, List, [], ◌++◌, length, replicate, sym, ap, arith, lit<, Bool}
use Rattle.std.proofs.lemmas.List.{length-replicate}
use Rattle.hf_head.specs.declared.head.Head.{Head}
use Rattle.hf_head.specs.Heads.{IsValid, is_large, wide, unit}
use Rattle.hf_block.specs.Pieces.{held, spell, size_of, IsWhole}
use Rattle.hf_block.specs.Written.{written, record_bytes, padding, content, block_len}
use Rattle.hf_block.proofs.Padding.{length-held, record_aligned, record_long}
use Rattle.hf_tree.specs.Links.{width}
use Rattle.std.proofs.Math.Nat.{pow-le-pow_right}
use Rattle.std.proofs.lemmas.Nat.{pow_pos}

pub unit_small : (h : Head) → IsValid h → unit h ≤ 2 ^ 16
unit_small h v = pow-le-pow_right (lit< tt) v.powers.1

pub unit_some : (h : Head) → 0 < unit h
unit_some h = pow_pos h.apow

pub its_bytes : (h : Head) (large : Bool) (u hash left right : ℕ) (key value old bytes : List ℕ) → large ≡ is_large h → u ≡ unit h → old ≡ [] → bytes ≡ old ++ record_bytes (wide large) hash left right key value u → bytes ≡ spell (held (written (width h) hash left right key value (unit h)))
unfolding record_bytes
its_bytes h large u hash left right key value old bytes form units none is = is ∙ (λ i. none i ++ spell (held (written (wide (form i)) hash left right key value (units i))))

-- its padding is zeros
pub written_zeros : (w hash left right : ℕ) (key value : List ℕ) (u : ℕ) → (written w hash left right key value u).pad ≡ replicate (length (written w hash left right key value u).pad) 0
written_zeros w hash left right key value u = ap (λ (n : ℕ). replicate n 0) (sym (length-replicate {A = ℕ} (padding u (content w key value)) 0))

pub written_long : (w hash left right : ℕ) (key value : List ℕ) (u : ℕ) → size_of (held (written w hash left right key value u)) ≡ block_len w key value u
unfolding record_bytes
written_long w hash left right key value u = record_long w hash left right key value u

written_aligned : (w hash left right : ℕ) (key value : List ℕ) (u : ℕ) → 1 ≤ u → size_of (held (written w hash left right key value u)) % u ≡ 0
unfolding record_bytes
written_aligned w hash left right key value u some = record_aligned w hash left right key value u some

pub written_whole : (h : Head) (hash left right : ℕ) (key value : List ℕ) → IsValid h → hash < 256 → left < 256 ^ width h → right < 256 ^ width h → block_len (width h) key value (unit h) ≤ 2 ^ 30 → IsWhole (unit h) (held (written (width h) hash left right key value (unit h)))
written_whole h hash left right key value v low l r few =
    let w = written (width h) hash left right key value (unit h) in
    let some = unit_some h in
    let small = unit_small h v in
    record {
      fits = (low, l, r, (let n = length-replicate {A = ℕ} (padding (unit h) (content (width h) key value)) 0 in omega (arith, n, some, small)));
      size = record {
        some = omega (arith, length-held w);
        aligned = written_aligned (width h) hash left right key value (unit h) some;
        below = omega (arith, written_long (width h) hash left right key value (unit h), few);
      };
    }
