-- A list of blocks names the free ones of a file.
use Rattle.std.proofs.Common.{◌≡◌, ◌∙◌, ◌↔◌, inl, inr, ℕ, zero, suc, ◌+◌, ◌≤◌, Bool, true, List, [], ◌∷◌, length, Option, Some, None, refl, sym, ap, arith}
use Rattle.std.specs.Prelude.{slice_get}
use Rattle.std.proofs.lemmas.Bool.{cases_eq}
use Rattle.hf_block.specs.declared.block.BlockAt.{BlockAt}
use Rattle.hf_block.specs.Rows.{IsListed}
use Rattle.hf_block.specs.Walks.{between}
use Rattle.hf_block.specs.Pieces.{Piece, held, free, size_of, is_free, AllWhole, AreBlocks, placed}
use Rattle.hf_layout.specs.Frees.{Frees, IsThere, LieInside, none}
use Rattle.hf_layout.specs.Layout.{piece_at, free_of, frees_of, LaidOut}
use Rattle.hf_layout.proofs.Places.{here, later}
use Rattle.hf_layout.proofs.Shares.{free_is, pools, ends_within, ends}

abbrev block : ℕ → ℕ → Bool → BlockAt
block place size kind = record { place = place; size = size; free = kind }

free_piece : (p : Piece) (t : ℕ) → free_of (Some p) ≡ Some t → (size_of p ≡ t) × (is_free p ≡ true)
free_piece (held r) t h = absurd cc
free_piece (free size tail) t h = (cc, refl)

piece_free : (p : Piece) → is_free p ≡ true → free_of (Some p) ≡ Some (size_of p)
piece_free (held r) h = absurd cc
piece_free (free size tail) h = refl

pub listed_to : (at : ℕ) (ps : List Piece) (q t : ℕ) → frees_of at ps q ≡ Some t → IsListed (placed at ps) q t
listed_to at [] q t h = absurd cc
listed_to at (p ∷ ps) q t h = elim (cases_eq q at) [
  | inl e ↦ let f = free_piece p t (sym (ap free_of (here at p ps q e)) ∙ h) in (0, ap (λ (b : BlockAt). Some b) (λ i. record { place = sym e i; size = f.0 i; free = f.1 i }))
  | inr ne ↦ let k = listed_to (at + size_of p) ps q t (sym (ap free_of (later at p ps q ne)) ∙ h) in (suc k.0, k.1)
]

pub listed_from : (unit at : ℕ) (ps : List Piece) (k q t : ℕ) → AllWhole unit ps → slice_get (placed at ps) k ≡ Some (block q t true) → frees_of at ps q ≡ Some t
listed_from unit at [] k q t whole h = absurd cc
listed_from unit at (p ∷ ps) zero q t whole h =
    let e : block at (size_of p) (is_free p) ≡ block q t true = cc in
    let place : at ≡ q = ap (λ (b : BlockAt). b.place) e in
    let size : size_of p ≡ t = ap (λ (b : BlockAt). b.size) e in
    let kind : is_free p ≡ true = ap (λ (b : BlockAt). b.free) e in
    ap free_of (here at p ps q (sym place)) ∙ piece_free p kind ∙ ap (λ (n : ℕ). Some n) size
listed_from unit at (p ∷ ps) (suc k) q t whole h =
    let r = listed_from unit (at + size_of p) ps k q t whole.1 h in
    let f = free_is (piece_at (at + size_of p) ps q) t r in
    let low = (ends_within unit (at + size_of p) ps f.0 q f.1).0 in
    ap free_of (later at p ps q (omega (arith, low, whole.0.size.some))) ∙ r

same_option : (o p : Option ℕ) → ((t : ℕ) → (o ≡ Some t) ↔ (p ≡ Some t)) → o ≡ p
same_option None None h = refl
same_option None (Some t) h = (h t).1 refl
same_option (Some t) p h = sym ((h t).0 refl)

-- a pool of the listed free blocks is the file's, with nothing lent out
pub listed_pool : (unit first end : ℕ) (ps : List Piece) (blocks : List BlockAt) (frees : Frees) (bytes : List ℕ) → 5 ≤ unit → first ≤ end → end ≤ length bytes → AreBlocks unit (between first end bytes) ps → blocks ≡ placed first ps → ((q t : ℕ) → IsThere frees q t ↔ IsListed blocks q t) → LaidOut unit first end ps frees none bytes
listed_pool unit first end ps blocks frees bytes room on within filled is all = record {
  room = room;
  on = on;
  within = within;
  filled = filled;
  shared = λ q. inl (
    same_option (frees q) (frees_of first ps q) (λ t. (
      λ there. let k = (all q t).0 there in listed_from unit first ps k.0 q t filled.whole (sym (ap (λ (l : List BlockAt). slice_get l k.0) is) ∙ k.1),
      λ e. let k = listed_to first ps q t e in (all q t).1 (k.0, ap (λ (l : List BlockAt). slice_get l k.0) is ∙ k.1),
    )),
    refl,
  );
}

-- the pool's free blocks lie in the file
pub lie_inside : (unit first end : ℕ) (ps : List Piece) (frees lent : Frees) (bytes : List ℕ) → LaidOut unit first end ps frees lent bytes → LieInside frees (length bytes)
lie_inside unit first end ps frees lent bytes h q t there =
    let s = pools (frees_of first ps q) (frees q) (lent q) t (h.shared q) there in
    let f = free_is (piece_at first ps q) t s.0 in
    omega (arith, (ends_within unit first ps f.0 q f.1).1, f.2, ends unit first end ps frees lent bytes h, h.within)
