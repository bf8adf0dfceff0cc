-- How many bytes of a file calls change.
use Rattle.std.proofs.Common.{◌≡◌, ◌∙◌, ◌⊎◌, inl, inr, ℕ, ◌+◌, ◌<◌, ◌≤◌, sym, ap, subst, arith, List, [], ◌∷◌, ◌++◌, length, get_or}
use Rattle.std.proofs.lemmas.List.{places}
use Rattle.tc_base.specs.Files.{wrote}
use Rattle.hf_chain.specs.Differs.{Ranges, Outside, total}
use Rattle.tc_space.specs.Effects.{Changes}
use Rattle.tc_space.specs.Frames.{OnlyReads, others_then}
use Rattle.tc_space.specs.Stores.{Only}
use Rattle.tc_space.specs.declared.space.Space.{Ghosts}
use Rattle.hf_record.specs.Costs.{FewBeside, FewDiffer, Edits}

byte_low : (p i : ℕ) (x bytes : List ℕ) → p ≤ length bytes → i < p → get_or (wrote p x bytes) i 0 ≡ get_or bytes i 0
unfolding wrote
byte_low p i x bytes fits low = grind (arith, places)

byte_high : (p i : ℕ) (x bytes : List ℕ) → p ≤ length bytes → p + length x ≤ i → get_or (wrote p x bytes) i 0 ≡ get_or bytes i 0
unfolding wrote
byte_high p i x bytes fits high = grind (arith, places)

total-append : (a b : Ranges) → total (a ++ b) ≡ total a + total b
total-append [] b = omega arith
total-append (r ∷ a) b = omega (arith, total-append a b)

outside_parts : (a b : Ranges) (i : ℕ) → Outside (a ++ b) i → Outside a i × Outside b i
outside_parts [] b i o = (tt, o)
outside_parts (r ∷ a) b i o = let p = outside_parts a b i o.1 in ((o.0, p.0), p.1)

-- outside what was written
outside_wrote : (p : ℕ) (x bytes : List ℕ) → p ≤ length bytes → (i : ℕ) → (i < p) ⊎ (p + length x ≤ i) → get_or (wrote p x bytes) i 0 ≡ get_or bytes i 0
outside_wrote p x bytes low i (inl less) = byte_low p i x bytes low less
outside_wrote p x bytes low i (inr more) = byte_high p i x bytes low more

pub few_wrote : (p most : ℕ) (x bytes : List ℕ) → p ≤ length bytes → length x ≤ most → FewDiffer most bytes (wrote p x bytes)
few_wrote p most x bytes low few = record { ranges = (p, length x) ∷ []; few = omega (arith, few); differ = λ i out. outside_wrote p x bytes low i out.0 }

pub few_same : (most : ℕ) (old new : List ℕ) → new ≡ old → FewDiffer most old new
few_same most old new e = record { ranges = []; few = omega arith; differ = λ i out. ap (λ (l : List ℕ). get_or l i 0) e }

pub few_then : (m n most : ℕ) (x y z : List ℕ) → m + n ≤ most → FewDiffer m x y → FewDiffer n y z → FewDiffer most x z
few_then m n most x y z le first second = record {
  ranges = first.ranges ++ second.ranges;
  few = omega (arith, first.few, second.few, le, total-append first.ranges second.ranges);
  differ = λ i out. (let p = outside_parts first.ranges second.ranges i out in second.differ i p.1 ∙ first.differ i p.0);
}

-- ---- besides bytes at a place

pub beside_wrote : (p : ℕ) (x bytes new : List ℕ) → p ≤ length bytes → new ≡ wrote p x bytes → FewBeside p (length x) 0 bytes new
beside_wrote p x bytes new low e = record { ranges = []; few = omega arith; differ = λ i out. ap (λ (l : List ℕ). get_or l i 0) e ∙ outside_wrote p x bytes low i out.0 }

pub beside_more : (p size m most : ℕ) (x y : List ℕ) → m ≤ most → FewBeside p size m x y → FewBeside p size most x y
beside_more p size m most x y le first = record { ranges = first.ranges; few = omega (arith, first.few, le); differ = first.differ }

pub beside_then : (p size m n most : ℕ) (x y z : List ℕ) → m + n ≤ most → FewBeside p size m x y → FewDiffer n y z → FewBeside p size most x z
beside_then p size m n most x y z le first second = record {
  ranges = first.ranges ++ second.ranges;
  few = omega (arith, first.few, second.few, le, total-append first.ranges second.ranges);
  differ = λ i out. (let q = outside_parts first.ranges second.ranges i out.1 in second.differ i q.1 ∙ first.differ i (out.0, q.0));
}

pub beside_after : (p size m n most : ℕ) (x y z : List ℕ) → m + n ≤ most → FewDiffer m x y → FewBeside p size n y z → FewBeside p size most x z
beside_after p size m n most x y z le first second = record {
  ranges = first.ranges ++ second.ranges;
  few = omega (arith, first.few, second.few, le, total-append first.ranges second.ranges);
  differ = λ i out. (let q = outside_parts first.ranges second.ranges i out.1 in second.differ i (out.0, q.1) ∙ first.differ i q.0);
}

module _ {S : Type 0} (s : Ghosts S) (file : ℕ) where
  pub edits_then : (m n most : ℕ) (a b c : S) → m + n ≤ most → Edits s file m a b → Edits s file n b c → Edits s file most a c
  edits_then m n most a b c le first second = record { others = others_then s (Only file) a b c first.others second.others; few = λ t. few_then m n most (s.now a file) (s.now b file) (s.now c file) le (first.few t) (second.few t) }

  pub edits_more : (m most : ℕ) (a b : S) → m ≤ most → Edits s file m a b → Edits s file most a b
  edits_more m most a b le first = record { others = first.others; few = λ t. record { ranges = (first.few t).ranges; few = omega (arith, (first.few t).few, le); differ = (first.few t).differ } }

  -- one write
  pub edits_wrote : (p most : ℕ) (x : List ℕ) (a b : S) → (s.tells → p ≤ length (s.now a file)) → length x ≤ most → (s.tells → Changes s.now file (wrote p x (s.now a file)) a b) → Edits s file most a b
  edits_wrote p most x a b low few w = record {
    others = record { same = λ t g other. (w t).others g other };
    few = λ t. subst (λ (l : List ℕ). FewDiffer most (s.now a file) l) (sym (w t).here) (few_wrote p most x (s.now a file) (low t) few);
  }

  -- nothing is written
  pub edits_none : (a b : S) → OnlyReads s a b → Edits s file 0 a b
  edits_none a b r = record { others = record { same = λ t g other. r.files t g }; few = λ t. few_same 0 (s.now a file) (s.now b file) (r.files t file) }

  pub edits_after : (most : ℕ) (a b c : S) → OnlyReads s a b → Edits s file most b c → Edits s file most a c
  edits_after most a b c r e = edits_then 0 most most a b c (omega arith) (edits_none a b r) e
