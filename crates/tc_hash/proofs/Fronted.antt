-- What is known of the front of a file, once its records were changed.
use Rattle.std.proofs.Common.{◌≡◌, ◌∙◌, ℕ, ◌+◌, ◌-◌, ◌*◌, ◌≤◌, List, take, refl, sym, ap, subst, arith, Option, None, Some, true, false}
use Rattle.std.proofs.lemmas.List.{places, same_lists}
use Rattle.hf_head.specs.declared.head.Head.{Head}
use Rattle.hf_head.specs.Heads.{IsValid, head_in, sections}
use Rattle.hf_block.specs.Walks.{between}
use Rattle.hf_layout.specs.Frees.{Frees}
use Rattle.hf_pool.specs.declared.pool.Pool.{Pool}
use Rattle.hf_pool.specs.Pools.{Notes, frees}
use Rattle.hf_tree.specs.Links.{width}
use Rattle.hf_record.specs.Costs.{LeavesFront}
use Rattle.tc_base.specs.Maps.{Map}
use Rattle.tc_hash.specs.declared.front.Front.{Front}
use Rattle.tc_hash.specs.declared.hash.Hash.{Hash}
use Rattle.tc_hash.specs.Fronts.{ShowsFrees, ShowsFront}
use Rattle.tc_hash.specs.Holding.{Holds, HoldsFile, IsNumbered, SameNumbers}
use Rattle.tc_hash.specs.Sections.{IsSectionOf, section_of}
use Rattle.tc_hash.specs.Settling.{head_now}

between_less : (from to end : ℕ) (bytes : List ℕ) → to ≤ end → between from to bytes ≡ take (to - from) (between from end bytes)
between_less from to end bytes low = same_lists _ _ (grind (arith, places)) (λ i d g. grind (arith, places))

pub section_same : (h : Head) (a b : List ℕ) → IsValid h → LeavesFront h a b → section_of h b ≡ section_of h a
section_same h a b v l =
    let at : ℕ = 256 + width h * h.buckets in
    between_less at (sections h) h.first b v.numbers.first_behind ∙ ap (take (sections h - at)) l.behind_array ∙ sym (between_less at (sections h) h.first a v.numbers.first_behind)

pub shows_same : (h : Head) (o : Option Front) (a b : List ℕ) → IsValid h → LeavesFront h a b → ShowsFront h o a → ShowsFront h o b
shows_same h None a b v l shows = tt
shows_same h (Some f) a b v l shows = record { head = l.head ∙ shows.head; few = shows.few; section = section_same h a b v l ∙ shows.section }

-- the section of free blocks that are the same
pub section_frees : (h : Head) (u : ℕ) (free free' : Frees) (bytes : List ℕ) → ((q : ℕ) → free' q ≡ free q) → IsSectionOf h u free bytes → IsSectionOf h u free' bytes
section_frees h u free free' bytes same is = (is.0, record { each = λ q. same q ∙ is.1.each q; ascending = is.1.ascending }, is.2)

pub frees_shown : (h : Head) (old new : Pool) (a b : List ℕ) → Notes old new → section_of h b ≡ section_of h a → ShowsFrees h old a → ShowsFrees h new b
frees_shown h old new a b notes e shows = λ no.
    subst (λ (u : ℕ). IsSectionOf h u (frees new) (section_of h b)) (sym notes.unit)
    (subst (λ (l : List ℕ). IsSectionOf h old.unit (frees new) l) (sym e)
    (section_frees h old.unit (frees old) (frees new) (section_of h a) (notes.same no) (shows (notes.kept no))))

-- ---- the numbers of a head that stay

pub numbers_is : (h g : Head) → g ≡ h → SameNumbers h g
numbers_is h g is = record {
  kind = ap (λ (x : Head). x.kind) is;
  apow = ap (λ (x : Head). x.apow) is;
  fpow = ap (λ (x : Head). x.fpow) is;
  buckets = ap (λ (x : Head). x.buckets) is;
  options = ap (λ (x : Head). x.options) is;
  first = ap (λ (x : Head). x.first) is;
}

-- with other counts and another region they are the same
pub numbers_now : (h g : Head) (records size : ℕ) (region : List ℕ) → g ≡ head_now h records size region → SameNumbers h g
numbers_now h g records size region is = subst (λ (x : Head). SameNumbers h x) (sym is) (record { kind = refl; apow = refl; fpow = refl; buckets = refl; options = refl; first = refl })

pub numbers_left : (h : Head) (a b : List ℕ) → take 256 b ≡ take 256 a → IsNumbered h a → IsNumbered h b
numbers_left h a b e numbers = subst (λ (l : List ℕ). SameNumbers h (head_in l)) (sym e) numbers

-- nothing is known of the front, and a change of free blocks is noted
pub anew_as : {S : Type 0} (v : Hash S) (h : Head) (p : Pool) (r : ℕ) (bytes : List ℕ) (m : Map) → v.body.head ≡ h → v.body.pool ≡ p → v.records ≡ r → v.front ≡ None → p.changed ≡ true → Holds h p.size (frees p) r m bytes → IsNumbered h bytes → HoldsFile v bytes m
anew_as v h p r bytes m eh ep er ef noted held numbers = record {
  map =
      subst (λ (x : Head). Holds x v.body.pool.size (frees v.body.pool) v.records m bytes) (sym eh)
      (subst (λ (x : Pool). Holds h x.size (frees x) v.records m bytes) (sym ep)
      (subst (λ (n : ℕ). Holds h p.size (frees p) n m bytes) (sym er) held));
  front = subst (λ (o : Option Front). ShowsFront v.body.head o bytes) (sym ef) tt;
  listed = λ no. absurd (let e : true ≡ false = sym (ap (λ (x : Pool). x.changed) ep ∙ noted) ∙ no in cc);
  numbers = subst (λ (x : Head). IsNumbered x bytes) (sym eh) numbers;
}
