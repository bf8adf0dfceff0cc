-- What a block of the file is to the pool.
use Rattle.std.proofs.Common.{◌≡◌, ◌∙◌, inl, inr, ℕ, ◌+◌, [], ◌∷◌, Some, None, refl, sym, ap, subst, arith}
use Rattle.std.proofs.lemmas.Bool.{cases_eq, cases_lt}
use Rattle.hf_block.specs.Pieces.{held, IsSize}
use Rattle.hf_layout.specs.Layout.{piece_at, free_of, frees_of}
use Rattle.hf_layout.specs.Laws.{BlockStands, RecordIsBlock, PoolLiesInside}
use Rattle.hf_layout.proofs.Places.{parted_at}
use Rattle.hf_layout.proofs.Shares.{nothing, record_is, ends, ends_within, whole_around, inner, known, inside_none}
use Rattle.hf_layout.proofs.Listed.{lie_inside}

pub block_stands : BlockStands
block_stands unit first end place size ps frees lent bytes h block =
    let s = parted_at first ps place block.0 block.1 in
    let w = (whole_around unit s.xs (block.0 ∷ []) s.ys ps s.is h.filled.whole).1.0 in
    let e = ends_within unit first ps block.0 place block.1 in
    record {
      sized = subst (λ (n : ℕ). IsSize unit n) block.2 w.size;
      low = e.0;
      high = omega (arith, e.1, block.2, ends unit first end ps frees lent bytes h);
      apart = λ unpooled q t there.
          let k = known unit first end ps frees lent bytes q t h there in
          elim (cases_lt q place) [
            | inl low ↦ elim (cases_lt place (q + t)) [
              | inl over ↦ absurd (let n = inner unit first ps k.piece q place h.filled.whole k.at low (omega (arith, over, k.size)) in let b = block.1 in cc)
              | inr before ↦ inl before
            ]
            | inr more ↦ elim (cases_lt q (place + size)) [
              | inr behind ↦ inr behind
              | inl less ↦ absurd (elim (cases_eq q place) [
                | inl same ↦ let n : None ≡ Some t = sym unpooled ∙ ap frees (sym same) ∙ there in cc
                | inr ne ↦ let n : None ≡ Some t = sym (inside_none unit first end ps frees lent bytes block.0 place q h block.1 (omega (arith, more, ne)) (omega (arith, less, block.2))).0 ∙ there in cc
              ])
            ]
          ];
    }

pub record_is_block : RecordIsBlock
record_is_block unit first end place ps frees lent bytes r h is =
    let at = record_is (piece_at first ps place) r is in
    let n = nothing (frees_of first ps place) (frees place) (lent place) (h.shared place) (ap free_of at) in
    ((held r, at, refl), n.0, n.1)

pub pool_lies_inside : PoolLiesInside
pool_lies_inside unit first end ps frees lent bytes h = lie_inside unit first end ps frees lent bytes h
