-- The bytes of a head, field by field.
use Rattle.std.proofs.Common.{◌≡◌, ◌∙◌, ℕ, List, length, take, set, replicate, refl, arith}
use borrow.Rule.Slice.PartMut.{put_mid}
use Rattle.std.proofs.lemmas.List.{take_all, append-nil}
use Rattle.tc_base.specs.Endian.{le_number, le_bytes}
use Rattle.tc_base.specs.Files.{wrote}
use Rattle.hf_head.specs.declared.head.Head.{Head}
use Rattle.hf_head.specs.Layout.{magic}
use Rattle.hf_head.specs.declared.fixed.FixedHead.{FixedHead}
use Rattle.hf_head.specs.FixedHeads.{fixed_in, fixed_spelled, SpellsFixed}
use Rattle.hf_head.specs.Heads.{head_in, spelled, Spells}

pub written : (h : Head) (m o a1 a2 a3 a4 : List ℕ) → m ≡ magic
    → a1 ≡ wrote 40 (le_bytes 8 h.buckets) (set (set (set (set (put_mid 0 13 (replicate 256 0) m) 32 h.kind) 34 h.apow) 35 h.fpow) 36 h.options)
    → a2 ≡ wrote 48 (le_bytes 8 h.records) a1 → a3 ≡ wrote 56 (le_bytes 8 h.size) a2 → a4 ≡ wrote 64 (le_bytes 8 h.first) a3 → o ≡ h.opaque
    → put_mid 128 128 a4 o ≡ spelled h
unfolding wrote le_bytes spelled
written h m o a1 a2 a3 a4 em e1 e2 e3 e4 eo = rw (eo, e4, e3, e2, e1, em, append-nil h.opaque) refl

pub spells : (h : Head) → length h.opaque ≡ 128 → le_number (le_bytes 8 h.buckets) ≡ h.buckets → le_number (le_bytes 8 h.records) ≡ h.records → le_number (le_bytes 8 h.size) ≡ h.size → le_number (le_bytes 8 h.first) ≡ h.first → Spells h (spelled h)
unfolding le_bytes spelled head_in
spells h long eb er es ef =
    let o : take 128 h.opaque ≡ h.opaque = take_all 128 h.opaque (omega (arith, long)) in
    record {
      marked = refl;
      fields = λ i. record { kind = h.kind; apow = h.apow; fpow = h.fpow; options = h.options; buckets = eb i; records = er i; size = es i; first = ef i; opaque = o i };
    }

pub fixed_written : (h : FixedHead) (m a1 a2 a3 a4 a5 a6 : List ℕ) → m ≡ magic
    → a1 ≡ wrote 48 (le_bytes 8 h.records) (set (put_mid 0 13 (replicate 256 0) m) 32 2)
    → a2 ≡ wrote 56 (le_bytes 8 h.size) a1 → a3 ≡ wrote 64 (le_bytes 4 h.width) a2 → a4 ≡ wrote 72 (le_bytes 8 h.limit) a3
    → a5 ≡ wrote 80 (le_bytes 8 h.least) a4 → a6 ≡ wrote 88 (le_bytes 8 h.greatest) a5
    → a6 ≡ fixed_spelled h
unfolding wrote le_bytes fixed_spelled
fixed_written h m a1 a2 a3 a4 a5 a6 em e1 e2 e3 e4 e5 e6 = e6 ∙ rw (e5, e4, e3, e2, e1, em) refl

pub fixed_spells : (h : FixedHead) → le_number (le_bytes 8 h.records) ≡ h.records → le_number (le_bytes 8 h.size) ≡ h.size → le_number (le_bytes 4 h.width) ≡ h.width → le_number (le_bytes 8 h.limit) ≡ h.limit → le_number (le_bytes 8 h.least) ≡ h.least → le_number (le_bytes 8 h.greatest) ≡ h.greatest → SpellsFixed h (fixed_spelled h)
unfolding le_bytes fixed_spelled fixed_in
fixed_spells h er es ew em el eg = record {
  marked = refl;
  is_fixed = refl;
  no_option = refl;
  fields = λ i. record { records = er i; size = es i; width = ew i; limit = em i; least = el i; greatest = eg i };
}
