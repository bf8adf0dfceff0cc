-- Bytes streamed over those of a file.
use Rattle.std.proofs.Common.{◌≡◌, ◌∙◌, ℕ, ◌+◌, ◌≤◌, List, [], ◌++◌, length, take, drop, refl, sym, ap, subst, arith, append_assoc, append-nil, length-append, length-drop}
use Rattle.std.proofs.lemmas.List.{take_at, places, same_lists, length-take-le, drop-drop}
use Rattle.tc_base.specs.Files.{wrote}
use Rattle.hf_layout.proofs.Segments.{wrote_long}
use Rattle.hf_pack.specs.declared.stream.Stream.{Stream}
use Rattle.hf_pack.specs.Streams.{Pushed, Written, front_of, end_of}

back_kept : (k n : ℕ) (x bytes : List ℕ) → n + length x ≤ k → n + length x ≤ length bytes → drop k (wrote n x bytes) ≡ drop k bytes
unfolding wrote
back_kept k n x bytes le fits = same_lists _ _ (grind (arith, places)) (λ i d h. grind (arith, places))

front_wrote : (n : ℕ) (x bytes : List ℕ) → n + length x ≤ length bytes → take (n + length x) (wrote n x bytes) ≡ take n bytes ++ x
unfolding wrote
front_wrote n x bytes fits = take_at (take n bytes ++ x) (drop (n + length x) bytes) (n + length x) (omega (arith, length-append (take n bytes) x, length-take-le n bytes (omega (arith, fits))))

-- what it holds was written
pub flushed : (s s' : Stream) (old new : List ℕ) → end_of s ≤ length old → s'.at ≡ end_of s → s'.out ≡ [] → new ≡ wrote s.at s.out old → Pushed s s' old new []
flushed s s' old new inside at none is = record {
  front = (λ i. take (at i) (is i) ++ none i) ∙ append-nil (take (end_of s) (wrote s.at s.out old)) ∙ front_wrote s.at s.out old inside ∙ sym (append-nil (take s.at old ++ s.out));
  behind = λ n high. ap (drop n) is ∙ back_kept n s.at s.out old (omega (arith, high, at, ap length none)) inside;
  ends = omega (arith, at, ap length none);
  long = ap length is ∙ wrote_long s.at s.out old inside;
}

-- a stream that stands where another does, and holds the same
pub pushed_from : (s t u : Stream) (old new xs : List ℕ) → t.at ≡ s.at → t.out ≡ s.out → Pushed t u old new xs → Pushed s u old new xs
pushed_from s t u old new xs at out p = record {
  front = p.front ∙ (λ i. (take (at i) old ++ out i) ++ xs);
  behind = p.behind;
  ends = omega (arith, p.ends, at, ap length out);
  long = p.long;
}

-- bytes are held
pub holding : (s s' : Stream) (old new xs : List ℕ) → s'.at ≡ s.at → s'.out ≡ s.out ++ xs → new ≡ old → Pushed s s' old new xs
holding s s' old new xs at out same = record {
  front = (λ i. take (at i) (same i) ++ out i) ∙ sym (append_assoc (take s.at old) s.out xs);
  behind = λ n high. ap (drop n) same;
  ends = omega (arith, at, ap length out, length-append s.out xs);
  long = ap length same;
}

pub pushed_none : (s : Stream) (old xs : List ℕ) → xs ≡ [] → Pushed s s old old xs
pushed_none s old xs e = record {
  front = sym (append-nil (front_of s old)) ∙ ap (λ (l : List ℕ). front_of s old ++ l) (sym e);
  behind = λ n high. refl;
  ends = omega (arith, ap length e);
  long = refl;
}

pub pushed_as : (s s' : Stream) (old new xs ys : List ℕ) → ys ≡ xs → Pushed s s' old new xs → Pushed s s' old new ys
pushed_as s s' old new xs ys e p = subst (λ (l : List ℕ). Pushed s s' old new l) (sym e) p

pub pushed_then : (s t u : Stream) (a b c xs ys : List ℕ) → Pushed s t a b xs → Pushed t u b c ys → Pushed s u a c (xs ++ ys)
pushed_then s t u a b c xs ys first second = record {
  front = second.front ∙ ap (λ (l : List ℕ). l ++ ys) first.front ∙ append_assoc (front_of s a) xs ys;
  behind = λ n high. second.behind n high ∙ first.behind n (omega (arith, high, second.ends));
  ends = omega (arith, first.ends, second.ends, length-append xs ys);
  long = second.long ∙ first.long;
}

-- a stream is flushed, and stands where its bytes end
pub written : (s s' : Stream) (from end : ℕ) (old new xs : List ℕ) → s.at ≡ from → s.out ≡ [] → s'.out ≡ [] → end ≡ end_of s' → Pushed s s' old new xs → Written from end old new xs
written s s' from end old new xs at none none' is p = record {
  front = (λ i. take (is_at i) new) ∙ sym (append-nil (take s'.at new)) ∙ ap (λ (l : List ℕ). take s'.at new ++ l) (sym none') ∙ p.front ∙ ap (λ (l : List ℕ). l ++ xs) ((λ i. take (at i) old ++ none i) ∙ append-nil (take from old));
  behind = λ n high. p.behind n (omega (arith, high, is));
  ends = omega (arith, is, p.ends, at, ap length none);
  long = p.long;
}
  where
    is_at : end ≡ s'.at
    is_at = omega (arith, is, ap length none')

-- ---- bytes read further on

take_more : (m n : ℕ) (l : List ℕ) → take m l ++ take n (drop m l) ≡ take (m + n) l
take_more m n l = same_lists _ _ (grind (arith, places)) (λ i d h. grind (arith, places))

-- bytes copied behind others that were
pub copied_more : (s t u : Stream) (a b c : List ℕ) (from done n at : ℕ) → end_of s ≤ from → at ≡ from + done → from + done ≤ length a → Pushed s t a b (take done (drop from a)) → Pushed t u b c (take n (drop at b)) → Pushed s u a c (take (done + n) (drop from a))
copied_more s t u a b c from done n at low is inside first second =
    let l : length (take done (drop from a)) ≡ done = length-take-le done (drop from a) (omega (arith, length-drop from a, inside)) in
    let e : drop at b ≡ drop done (drop from a) = first.behind at (omega (arith, first.ends, l, low, is)) ∙ ap (λ (k : ℕ). drop k a) (is ∙ omega arith) ∙ sym (drop-drop done from a) in
    pushed_as s u a c (take done (drop from a) ++ take n (drop done (drop from a))) (take (done + n) (drop from a)) (sym (take_more done n (drop from a)))
    (subst (λ (l : List ℕ). Pushed s u a c (take done (drop from a) ++ take n l)) e (pushed_then s t u a b c (take done (drop from a)) (take n (drop at b)) first second))

-- bytes that were pushed, and flushed then
pub flushed_then : (s t u : Stream) (from end : ℕ) (a b c xs : List ℕ) → s.at ≡ from → s.out ≡ [] → u.out ≡ [] → end ≡ from + length xs → Pushed s t a b xs → Pushed t u b c [] → Written from end a c xs
flushed_then s t u from end a b c xs at none none' is first second =
    let both = pushed_as s u a c (xs ++ []) xs (sym (append-nil xs)) (pushed_then s t u a b c xs [] first second) in
    written s u from end a c xs at none none' (omega (arith, is, both.ends, at, ap length none)) both
