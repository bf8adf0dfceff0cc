-- What changes of records leave: the head, the pool section, and the length of the file.
use Rattle.std.proofs.Common.{◌≡◌, ◌∙◌, ℕ, ◌+◌, ◌-◌, ◌*◌, ◌≤◌, List, [], ◌++◌, length, take, drop, refl, sym, ap, subst, arith, length-append, length-drop, max}
use Rattle.std.proofs.lemmas.List.{places, same_lists, length-take-le}
use Rattle.tc_base.specs.Files.{wrote}
use Rattle.tc_space.specs.Frames.{OnlyReads}
use Rattle.tc_space.specs.declared.space.Space.{Ghosts}
use Rattle.hf_head.specs.declared.head.Head.{Head}
use Rattle.hf_head.specs.Heads.{IsValid}
use Rattle.hf_tree.specs.Links.{width}
use Rattle.hf_tree.proofs.Fields.{sections_first}
use Rattle.hf_chain.specs.Differs.{OnlyLinks}
use Rattle.hf_record.specs.declared.body.Body.{Body}
use Rattle.hf_record.specs.Costs.{LeavesFront, Spares}
use Rattle.hf_record.proofs.Differ.{edits_after, edits_then}
use Rattle.hf_record.proofs.Fronts.{between_same}

-- ---- the front

pub leaves_then : (h : Head) (a b c : List ℕ) → LeavesFront h a b → LeavesFront h b c → LeavesFront h a c
leaves_then h a b c first second = record { head = second.head ∙ first.head; behind_array = second.behind_array ∙ first.behind_array }

pub leaves_same : (h : Head) (a b : List ℕ) → b ≡ a → LeavesFront h a b
leaves_same h a b e = record { head = ap (take 256) e; behind_array = ap (λ (l : List ℕ). take (h.first - (256 + width h * h.buckets)) (drop (256 + width h * h.buckets) l)) e }

front_front : (n first : ℕ) (bytes : List ℕ) → n ≤ first → take n (take first bytes) ≡ take n bytes
front_front n first bytes low = same_lists _ _ (grind (arith, places)) (λ i d g. grind (arith, places))

-- what stands before the blocks stays
pub leaves_first : (h : Head) (a b : List ℕ) → IsValid h → take h.first b ≡ take h.first a → LeavesFront h a b
leaves_first h a b v e = record {
  head = (let low : 256 ≤ h.first = omega (arith, sections_first h v) in sym (front_front 256 h.first b low) ∙ ap (take 256) e ∙ front_front 256 h.first a low);
  behind_array = between_same (256 + width h * h.buckets) h.first h.first a b (omega arith) e;
}

pub leaves_links : (h : Head) (n : ℕ) (a b : List ℕ) → OnlyLinks h n a b → LeavesFront h a b
leaves_links h n a b l = record { head = l.head; behind_array = l.section }

-- ---- lengths

pub length_wrote : (at : ℕ) (x a : List ℕ) → at ≤ length a → length (wrote at x a) ≡ max (length a) (at + length x)
unfolding wrote
length_wrote at x a low = omega (arith, length-append (take at a ++ x) (drop (at + length x) a), length-append (take at a) x, length-take-le at a low, length-drop (at + length x) a)

pub length_over : (at : ℕ) (x a : List ℕ) → at + length x ≤ length a → length (wrote at x a) ≡ length a
length_over at x a fits = omega (arith, length_wrote at x a (omega (arith, fits)), fits)

-- ---- both

module _ {S : Type 0} (s : Ghosts S) where
  pub spares_more : (m most : ℕ) (b c : Body) (x y : S) → m ≤ most → Spares s m b c x y → Spares s most b c x y
  spares_more m most b c x y le p = record {
    edits = edits_then s b.file m 0 most x y y (omega (arith, le)) p.edits (record { others = record { same = λ t g other. refl }; few = λ t. record { ranges = []; few = omega arith; differ = λ i out. refl } });
    front = p.front;
    notes = p.notes;
  }

  pub spares_after : (most : ℕ) (b c : Body) (x y z : S) → OnlyReads s x y → Spares s most b c y z → Spares s most b c x z
  spares_after most b c x y z r p = record {
    edits = edits_after s b.file most x y z r p.edits;
    front = λ t. subst (λ (l : List ℕ). LeavesFront b.head l (s.now z b.file)) (r.files t b.file) (p.front t);
    notes = p.notes;
  }
