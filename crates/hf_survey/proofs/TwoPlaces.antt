-- Bytes of a file from two places on, compared in pieces.
use Rattle.std.proofs.Common.{◌≡◌, ◌≢◌, ◌∙◌, ℕ, ◌+◌, ◌≤◌, List, length, take, drop, length-take, length-drop, sym, ap, arith}
use Rattle.std.proofs.lemmas.List.{take_all}
use Rattle.std.specs.Ordering.{nat_cmp}
use Rattle.std.specs.declared.cmp.Ordering.{Ordering}
use Rattle.std.specs.declared.cmp.Ordering.TheVariants.{Equal}
use Rattle.std.specs.Cmp.Lexicographic.{slice_cmp}
use Rattle.std.proofs.lemmas.Cmp.{nat_list_cmp_total, tied_itself}
use Rattle.hf_tree.proofs.Orders.{slice_equal}
use Rattle.hf_chain.proofs.Pieces.{piece_of, piece_other, piece_same}

module _ (f : List ℕ) (a b all : ℕ) where
  -- the first bytes are the same
  abbrev pub Same : ℕ → Type 0
  Same d = take d (take all (drop a f)) ≡ take d (take all (drop b f))

  pub same_more : (d n : ℕ) → d + n ≤ all → Same d → Equal ≡ slice_cmp nat_cmp (take n (drop (a + d) f)) (take n (drop (b + d) f)) → Same (d + n)
  same_more d n le shared is = piece_same (take all (drop a f)) (take all (drop b f)) d n shared
      (piece_of all a d n f le ∙ slice_equal (take n (drop (a + d) f)) (take n (drop (b + d) f)) (sym is) ∙ sym (piece_of all b d n f le))

  pub order_stops : (d n : ℕ) (o : Ordering) → d + n ≤ all → a + all ≤ length f → b + all ≤ length f → Same d → o ≡ slice_cmp nat_cmp (take n (drop (a + d) f)) (take n (drop (b + d) f)) → o ≢ Equal → o ≡ slice_cmp nat_cmp (take all (drop a f)) (take all (drop b f))
  order_stops d n o le first second shared is ne =
      let h : o ≡ slice_cmp nat_cmp (take n (drop d (take all (drop a f)))) (take n (drop d (take all (drop b f)))) = is ∙ (λ i. slice_cmp nat_cmp (sym (piece_of all a d n f le) i) (sym (piece_of all b d n f le) i)) in
      let long : length (take all (drop a f)) ≡ length (take all (drop b f)) = simp (length-take, length-drop) (omega (arith, first, second)) in
      h ∙ sym (piece_other (take all (drop a f)) (take all (drop b f)) d n long shared (λ eq. ne (h ∙ eq)))

  pub all_same : (d : ℕ) → all ≤ d → Same d → Equal ≡ slice_cmp nat_cmp (take all (drop a f)) (take all (drop b f))
  all_same d far shared =
      let ka = take all (drop a f) in
      let kb = take all (drop b f) in
      let la : length ka ≤ d = simp (length-take) (omega (arith, far)) in
      let lb : length kb ≤ d = simp (length-take) (omega (arith, far)) in
      let e : ka ≡ kb = sym (take_all d ka la) ∙ shared ∙ take_all d kb lb in
      sym (ap (λ (l : List ℕ). slice_cmp nat_cmp ka l) (sym e) ∙ tied_itself nat_list_cmp_total ka)
