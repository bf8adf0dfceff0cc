-- Reading a block's head is exact.
use Rattle.std.proofs.Common.{◌≡◌, ◌∙◌, ◌↔◌, ℕ, Bool, true, false, ◌^◌, ◌<◌, ◌≤◌, List, [], ◌∷◌, ◌++◌, length, Result, Ok, Err, refl, sym, ap, subst, arith, inl, inr}
use Rattle.tc_base.specs.declared.fields.NotWhole.TheVariants.{Part, Bad}
use Rattle.tc_base.specs.Reading.{Front, ◌>>=◌, both}
use Rattle.tc_base.specs.Endian.{le_bytes, le_front}
use Rattle.tc_base.specs.Vnum.{vnum, vnum_front}
use Rattle.tc_base.proofs.Vnums.{reads}
use Rattle.tc_base.proofs.Exact.{IsBytes, IsExact, Cases, Tagged, exact_as, exact_none, exact_case, exact_tagged, same_whole, bind_ok}
use Rattle.tc_base.proofs.ExactNumbers.{exact_vnum, exact_le}
use Rattle.tc_base.proofs.ExactPairs.{Is, exact_both, exact_mapped}
use Rattle.hf_head.specs.Heads.{wide}
use Rattle.hf_block.specs.declared.block.Block.{Block}
use Rattle.hf_block.specs.declared.block.Block.TheVariants.{Rec, Free}
use Rattle.hf_block.specs.declared.reading.BlockErr.{BlockErr}
use Rattle.hf_block.specs.declared.reading.BlockErr.TheVariants as block_err
use Rattle.hf_block.specs.Heads.{rec_head, free_head, head_bytes, Fits, IsPrefix, IsPart}
use Rattle.hf_block.proofs.FreeHeads.{SpellsFree, some_room, sized_some, sized_ok, sized_part, short, less_than_four}
use Rattle.hf_block.specs.Fronts.{Fields, rec_of, fields_front, rec_front, sized, free_front, kind_front, block_front}

pub wide_most : (large : Bool) → wide large ≤ 8
wide_most true = omega arith
wide_most false = omega arith

pub vnum_most : (n : ℕ) → n < 2 ^ 64 → length (vnum n) ≤ 10
unfolding vnum
vnum_most n h = (reads 9 n [] (omega (arith, h))).most

abbrev F5 : ℕ × ℕ → Type 0
F5 z = (z.0 < 2 ^ 64) × (z.1 < 2 ^ 64)

abbrev s5 : ℕ × ℕ → List ℕ
s5 z = vnum z.0 ++ vnum z.1

abbrev F4 : ℕ × (ℕ × ℕ) → Type 0
F4 z = (z.0 < 256 ^ 2) × F5 z.1

abbrev s4 : ℕ × (ℕ × ℕ) → List ℕ
s4 z = le_bytes 2 z.0 ++ s5 z.1

abbrev F3 : ℕ → ℕ × (ℕ × (ℕ × ℕ)) → Type 0
F3 w z = (z.0 < 256 ^ w) × F4 z.1

abbrev s3 : ℕ → ℕ × (ℕ × (ℕ × ℕ)) → List ℕ
s3 w z = le_bytes w z.0 ++ s4 z.1

abbrev F2 : ℕ → ℕ × (ℕ × (ℕ × (ℕ × ℕ))) → Type 0
F2 w z = (z.0 < 256 ^ w) × F3 w z.1

abbrev s2 : ℕ → ℕ × (ℕ × (ℕ × (ℕ × ℕ))) → List ℕ
s2 w z = le_bytes w z.0 ++ s3 w z.1

abbrev F1 : ℕ → Fields → Type 0
F1 w z = (z.0 < 256 ^ 1) × F2 w z.1

abbrev s1 : ℕ → Fields → List ℕ
s1 w z = le_bytes 1 z.0 ++ s2 w z.1

exact5 : IsExact (Is F5 s5) (both vnum_front vnum_front)
exact5 = exact_both (λ n. n < 2 ^ 64) vnum vnum_front (λ n. n < 2 ^ 64) vnum vnum_front exact_vnum exact_vnum (0, omega arith)

exact4 : IsExact (Is F4 s4) (both (le_front 2) (both vnum_front vnum_front))
exact4 = exact_both (λ n. n < 256 ^ 2) (le_bytes 2) (le_front 2) F5 s5 (both vnum_front vnum_front) (exact_le 2) exact5 ((0, 0), (omega arith, omega arith))

exact3 : (w : ℕ) → IsExact (Is (F3 w) (s3 w)) (both (le_front w) (both (le_front 2) (both vnum_front vnum_front)))
exact3 w = exact_both (λ n. n < 256 ^ w) (le_bytes w) (le_front w) F4 s4 (both (le_front 2) (both vnum_front vnum_front)) (exact_le w) exact4 ((0, (0, 0)), (omega arith, (omega arith, omega arith)))

exact2 : (w : ℕ) → IsExact (Is (F2 w) (s2 w)) (both (le_front w) (both (le_front w) (both (le_front 2) (both vnum_front vnum_front))))
exact2 w = exact_both (λ n. n < 256 ^ w) (le_bytes w) (le_front w) (F3 w) (s3 w) (both (le_front w) (both (le_front 2) (both vnum_front vnum_front))) (exact_le w) (exact3 w) ((0, (0, (0, 0))), (some_room w, (omega arith, (omega arith, omega arith))))

exact1 : (w : ℕ) → IsExact (Is (F1 w) (s1 w)) (fields_front w)
exact1 w = exact_both (λ n. n < 256 ^ 1) (le_bytes 1) (le_front 1) (F2 w) (s2 w) (both (le_front w) (both (le_front w) (both (le_front 2) (both vnum_front vnum_front)))) (exact_le 1) (exact2 w) ((0, (0, (0, (0, 0)))), (some_room w, (some_room w, (omega arith, (omega arith, omega arith)))))

abbrev SpellsRec : ℕ → Block → List ℕ → Type 0
SpellsRec w b text = (f : Fields) × (b ≡ rec_of w f) × F1 w f × (text ≡ s1 w f)

exact_rec : (w : ℕ) → IsExact (SpellsRec w) (rec_front w)
unfolding rec_front
exact_rec w = exact_mapped (F1 w) (s1 w) (fields_front w) (rec_of w) (exact1 w)

-- ---- a free block, whose size isn't 0

exact_free : IsExact SpellsFree free_front
unfolding free_front
exact_free = record {
  found = λ bytes b rest are e.
      let a = bind_ok (le_front 4 bytes) (λ x. sized x.0 x.1) (b, rest) e in
      let g = (exact_le 4).found bytes a.0.0 a.0.1 are a.1 in
      let k = sized_ok a.0.0 a.0.1 b rest a.2 in
      (g.0, (a.0.0, k.0, (k.1, g.1.0), g.1.1), g.2 ∙ ap (λ (l : List ℕ). g.0 ++ l) k.2);
  again = λ b text rest i.
      ap (λ (r : Front ℕ). r >>= λ x. sized x.0 x.1) ((exact_le 4).again i.0 text rest (i.2.1, i.3)) ∙ sized_some i.0 rest i.2.0 ∙ ap (λ (c : Block). Ok (c, rest)) (sym i.1);
  part = λ bytes are e. short bytes are (less_than_four bytes (sized_part (le_front 4 bytes) e));
  cut = λ b bytes more some i.
      ap (λ (r : Front ℕ). r >>= λ x. sized x.0 x.1) ((exact_le 4).cut i.0 bytes more some (i.2.1, i.3));
}

abbrev None : Block → List ℕ → Type 0
None b text = ⊥

abbrev Kind : ℕ → ℕ → Block → List ℕ → Type 0
Kind w tag = Cases tag 200 (SpellsRec w) (Cases tag 176 SpellsFree None)

exact_kind : (w tag : ℕ) → IsExact (Kind w tag) (kind_front w tag)
exact_kind w tag = exact_case tag 200 (SpellsRec w) (Cases tag 176 SpellsFree None) (rec_front w) _ (exact_rec w) (exact_case tag 176 SpellsFree None free_front (λ rest. Err Bad) exact_free exact_none)

abbrev pub Spells : ℕ → Block → List ℕ → Type 0
Spells w b text = Fits w b × (text ≡ head_bytes w b)

rec_spells : (w : ℕ) (f : Fields) (text : List ℕ) → F1 w f → text ≡ 200 ∷ s1 w f → Spells w (rec_of w f) text
unfolding rec_head
rec_spells w f text h e = ((h.0, h.1.0, h.1.1.0, h.1.1.1.0, h.1.1.1.1.0, h.1.1.1.1.1, refl), e)

free_spells : (w n : ℕ) (text : List ℕ) → (0 < n) × (n < 256 ^ 4) → text ≡ 176 ∷ le_bytes 4 n → Spells w (Free n) text
unfolding free_head
free_spells w n text h e = ((h.0, h.1), e)

kind_to : (w tag : ℕ) (b : Block) (text back : List ℕ) → Kind w tag b back → text ≡ tag ∷ back → Spells w b text
kind_to w tag b text back (inl r) e =
    let s = r.1 in
    subst (λ (c : Block). Spells w c text) (sym s.1) (rec_spells w s.0 text s.2 (e ∙ ap (λ (n : ℕ). n ∷ back) r.0 ∙ ap (λ (l : List ℕ). 200 ∷ l) s.3))
kind_to w tag b text back (inr (_, inl r)) e =
    let s = r.1 in
    subst (λ (c : Block). Spells w c text) (sym s.1) (free_spells w s.0 text s.2 (e ∙ ap (λ (n : ℕ). n ∷ back) r.0 ∙ ap (λ (l : List ℕ). 176 ∷ l) s.3))
kind_to w tag b text back (inr (_, inr nothing)) e = absurd nothing.1

spells_to : (w : ℕ) (b : Block) (text : List ℕ) → Tagged (Kind w) b text → Spells w b text
spells_to w b text h = kind_to w h.0 b text h.1 h.2 h.3

spells_back : (w : ℕ) (b : Block) (text : List ℕ) → Spells w b text → Tagged (Kind w) b text
unfolding rec_head free_head
spells_back w (Rec hash left right pad key value head) text h =
    let f : Fields = (hash, (left, (right, (pad, (key, value))))) in
    (200, s1 w f, inl (refl, (f, ap (λ (n : ℕ). Rec hash left right pad key value n) h.0.6, (h.0.0, (h.0.1, (h.0.2, (h.0.3, (h.0.4, h.0.5))))), refl)), h.1)
spells_back w (Free size) text h = (176, le_bytes 4 size, inr (λ e. absurd (omega (arith, e)), inl (refl, (size, refl, (h.0.0, h.0.1), refl))), h.1)

some_free : (w : ℕ) → (b : Block) × (text : List ℕ) × Kind w 176 b text
some_free w = (Free 1, le_bytes 4 1, inr (λ e. absurd (omega (arith, e)), inl (refl, (1, refl, (omega arith, omega arith), refl))))

pub exact_block : (w : ℕ) → IsExact (Spells w) (block_front w)
unfolding block_front
exact_block w = exact_as (Tagged (Kind w)) (Spells w) _ (spells_to w) (spells_back w) (exact_tagged (Kind w) (kind_front w) 176 (exact_kind w) (some_free w))

-- ---- what the answers say

pub found : (w : ℕ) (bytes rest : List ℕ) (b : Block) → IsBytes bytes → block_front w bytes ≡ Ok (b, rest) → Fits w b × IsPrefix (head_bytes w b) bytes
found w bytes rest b are e = let f = (exact_block w).found bytes b rest are e in (f.1.0, (rest, f.2 ∙ ap (λ (l : List ℕ). l ++ rest) f.1.1))

pub whole : (w : ℕ) (bytes : List ℕ) (b : Block) → Fits w b → IsPrefix (head_bytes w b) bytes → (rest : List ℕ) × (block_front w bytes ≡ Ok (b, rest))
whole w bytes b fits h = (h.0, ap (block_front w) h.1 ∙ (exact_block w).again b (head_bytes w b) h.0 (fits, refl))

pub part : (w : ℕ) (bytes : List ℕ) → IsBytes bytes → block_front w bytes ≡ Err Part → (b : Block) × Fits w b × IsPart bytes (head_bytes w b)
part w bytes are e = let f = (exact_block w).part bytes are e in (f.0, f.3.0, (f.1, f.2, sym f.3.1))

pub cut : (w : ℕ) (bytes : List ℕ) (b : Block) → Fits w b → IsPart bytes (head_bytes w b) → block_front w bytes ≡ Err Part
cut w bytes b fits h = (exact_block w).cut b bytes h.0 h.1 (fits, sym h.2)

abbrev Answer : Type 0
Answer = Result Block BlockErr

pub ok_again : (w : ℕ) (bytes rest : List ℕ) (c : Block) → block_front w bytes ≡ Ok (c, rest) → (b : Block) → Fits w b → IsPrefix (head_bytes w b) bytes → ◌≡◌ {A = Answer} (Ok c) (Ok b)
ok_again w bytes rest c e b fits h = let w = whole w bytes b fits h in let s = same_whole c b rest w.0 (sym e ∙ w.1) in ap (λ (x : Block). Ok x) s.0

pub ok_short : (w : ℕ) (bytes rest : List ℕ) (c : Block) → block_front w bytes ≡ Ok (c, rest) → (◌≡◌ {A = Answer} (Ok c) (Err block_err.Short)) ↔ ((b : Block) × Fits w b × IsPart bytes (head_bytes w b))
ok_short w bytes rest c e = (λ s. absurd cc, λ k. absurd (let d = cut w bytes k.0 k.1 k.2 in cc))

pub ok_bad : (w : ℕ) (bytes rest : List ℕ) (c : Block) → IsBytes bytes → block_front w bytes ≡ Ok (c, rest) → (◌≡◌ {A = Answer} (Ok c) (Err block_err.Bad)) ↔ ((b : Block) → Fits w b → (IsPrefix (head_bytes w b) bytes → ⊥) × (IsPart bytes (head_bytes w b) → ⊥))
ok_bad w bytes rest c are e = (λ s. absurd cc, λ k. absurd (let f = found w bytes rest c are e in (k c f.0).0 f.1))

pub part_again : (w : ℕ) (bytes : List ℕ) → block_front w bytes ≡ Err Part → (b : Block) → Fits w b → IsPrefix (head_bytes w b) bytes → ◌≡◌ {A = Answer} (Err block_err.Short) (Ok b)
part_again w bytes e b fits h = absurd (let w = (whole w bytes b fits h).1 in cc)

pub part_short : (w : ℕ) (bytes : List ℕ) → IsBytes bytes → block_front w bytes ≡ Err Part → (◌≡◌ {A = Answer} (Err block_err.Short) (Err block_err.Short)) ↔ ((b : Block) × Fits w b × IsPart bytes (head_bytes w b))
part_short w bytes are e = (λ s. part w bytes are e, λ k. refl)

pub part_bad : (w : ℕ) (bytes : List ℕ) → IsBytes bytes → block_front w bytes ≡ Err Part → (◌≡◌ {A = Answer} (Err block_err.Short) (Err block_err.Bad)) ↔ ((b : Block) → Fits w b → (IsPrefix (head_bytes w b) bytes → ⊥) × (IsPart bytes (head_bytes w b) → ⊥))
part_bad w bytes are e = (λ s. absurd cc, λ k. absurd (let p = part w bytes are e in (k p.0 p.1).1 p.2))

pub bad_again : (w : ℕ) (bytes : List ℕ) → block_front w bytes ≡ Err Bad → (b : Block) → Fits w b → IsPrefix (head_bytes w b) bytes → ◌≡◌ {A = Answer} (Err block_err.Bad) (Ok b)
bad_again w bytes e b fits h = absurd (let w = (whole w bytes b fits h).1 in cc)

pub bad_short : (w : ℕ) (bytes : List ℕ) → block_front w bytes ≡ Err Bad → (◌≡◌ {A = Answer} (Err block_err.Bad) (Err block_err.Short)) ↔ ((b : Block) × Fits w b × IsPart bytes (head_bytes w b))
bad_short w bytes e = (λ s. absurd cc, λ k. absurd (let d = cut w bytes k.0 k.1 k.2 in cc))

pub bad_bad : (w : ℕ) (bytes : List ℕ) → block_front w bytes ≡ Err Bad → (◌≡◌ {A = Answer} (Err block_err.Bad) (Err block_err.Bad)) ↔ ((b : Block) → Fits w b → (IsPrefix (head_bytes w b) bytes → ⊥) × (IsPart bytes (head_bytes w b) → ⊥))
bad_bad w bytes e = (λ s b fits. (λ h. let w = (whole w bytes b fits h).1 in cc, λ h. let d = cut w bytes b fits h in cc), λ k. refl)
