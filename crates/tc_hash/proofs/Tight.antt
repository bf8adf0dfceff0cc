-- A packed file once it is settled.
use Rattle.std.proofs.Common.{◌≡◌, ◌∙◌, ◌⊎◌, inl, inr, ℕ, ◌<◌, ◌≤◌, true, false, List, length, Option, None, Some, refl, sym, ap, subst}
use Rattle.std.proofs.lemmas.Bool.{cases_lt, eq-eqb}
use Rattle.tc_base.specs.Maps.{Map}
use Rattle.tc_base.specs.declared.kind.Form.{Form}
use Rattle.tc_base.specs.declared.kind.Form.TheVariants as form
use Rattle.hf_head.specs.declared.head.Head.{Head}
use Rattle.hf_head.specs.Heads.{head_in, is_large}
use Rattle.hf_layout.specs.Frees.{Frees}
use Rattle.hf_layout.specs.Layout.{IsShared}
use Rattle.hf_pool.specs.Pools.{frees}
use Rattle.hf_pool.specs.Trims.{Trimmed}
use Rattle.hf_record.specs.declared.body.Body.{Body}
use Rattle.tc_hash.specs.declared.hash.Hash.{Hash}
use Rattle.tc_space.specs.declared.space.Space.{Ghosts}
use Rattle.tc_hash.specs.Keeping.{SameMap, ShowsRegion, StaysOpen}
use Rattle.tc_hash.specs.Packing.{EndsInRecord, IsPacked, IsTight, LacksAnew, LacksLarge, MovesRecords, Packs, PacksAs, StaysNumbered, WritesLarge, options_for}
use Rattle.tc_hash.specs.Repacking.{IsTightFrom}
use Rattle.tc_hash.specs.Settling.{Brought, head_now}

-- the free blocks at the end were dropped, of none
pub still_none : (old new : Frees) (end new_end : ℕ) → Trimmed old new end new_end → ((q : ℕ) → old q ≡ None) → (q : ℕ) → new q ≡ None
still_none old new end new_end trimmed nothing q = at (cases_lt q new_end)
  where
    at : (q < new_end) ⊎ (new_end ≤ q) → new q ≡ None
    at (inl low) = trimmed.kept q low ∙ nothing q
    at (inr high) = trimmed.gone q high

-- what is there is the pool's, which has none, and nothing is lent out
none_there : (there pool lent : Option ℕ) → pool ≡ None → lent ≡ None → IsShared there pool lent → there ≡ None
none_there there pool lent nothing unlent (inl pools) = sym pools.0 ∙ nothing
none_there there pool lent nothing unlent (inr lents) = sym lents.1 ∙ unlent

pub tight_of : {S : Type 0} (f : Form) (old new : Hash S) → Packs (options_for f old) new → IsTight f new.body
tight_of form.Keep old new packs = record { nothing = packs.nothing; large = λ is. absurd cc }
tight_of form.Large old new packs = record { nothing = packs.nothing; large = λ is. packs.options_is }

pub packed_of : (f : Form) (h : Head) (end : ℕ) (frees : Frees) (records : ℕ) (region : List ℕ) (m : Map) (bytes : List ℕ) → Brought h end frees records region m bytes → length bytes ≡ end → ((q : ℕ) → frees q ≡ None) → (f ≡ form.Large → h.options ≡ 1) → IsPacked f bytes
packed_of f h end frees records region m bytes brought long nothing large =
    let is = brought.holds.has.is in record {
      head = head_now h records end region;
      pieces = brought.holds.has.pieces;
      in_front = brought.head;
      long = long;
      blocks = record { on = is.laid.on; within = is.laid.within; filled = is.laid.filled; widths = is.widths };
      none_free = λ q. none_there _ _ _ (nothing q) refl (is.laid.shared q);
      large = large;
    }

-- what was packed is so as long as its free blocks and its form stay
pub tight_same : (old new : Body) → new ≡ old → (from : List ℕ) (f : Form) (bytes : List ℕ) → IsTightFrom from f old bytes → IsTightFrom from f new bytes
tight_same old new e from f bytes tight = subst (λ (b : Body). IsTightFrom from f b bytes) (sym e) tight

-- and once free blocks at its end were dropped
pub tight_trimmed : (old new : Body) → new.head ≡ old.head → Trimmed (frees old.pool) (frees new.pool) old.pool.size new.pool.size → (f : Form) → IsTight f old → IsTight f new
tight_trimmed old new head trimmed f tight = record {
  nothing = still_none (frees old.pool) (frees new.pool) old.pool.size new.pool.size trimmed tight.nothing;
  large = λ is. ap (λ (h : Head). h.options) head ∙ tight.large is;
}

-- ---- how it was packed

is_small : (h : Head) → is_large h ≡ false → h.options ≡ 1 → ⊥
is_small h small one = let e : true ≡ false = sym (eq-eqb h.options 1 one) ∙ small in cc

-- a small file had no room in the large form
pub lacks_large : {S : Type 0} (s : Ghosts S) (v : Hash S) (a b : S) → is_large v.body.head ≡ false → LacksAnew s v a b → LacksLarge s v a b
lacks_large s v a b small lacks = record { small = is_small v.body.head small; anew = lacks }

module _ {S : Type 0} (s : Ghosts S) (f : Form) (v v' : Hash S) (a b : S) where
  -- in the form that it has
  pub kept_as : options_for f v ≡ v.body.head.options → SameMap v v' → Packs v.body.head.options v' → MovesRecords s v v' a b → PacksAs f s v v' a b
  kept_as same map packs moves = record {
    packs = record { nothing = packs.nothing; options_is = packs.options_is ∙ sym same };
    fills = inl moves;
    region = λ t shows. subst (λ (n : ℕ). ShowsRegion v' (s.now b n)) (sym map.file) (ap (λ (l : List ℕ). (head_in l).opaque) (moves.front t) ∙ shows ∙ sym map.region_same);
  }

  -- or anew
  pub enlarged_as : f ≡ form.Large → is_large v.body.head ≡ false → WritesLarge s v v' a b → PacksAs f s v v' a b
  enlarged_as asked small writes = record {
    packs = record { nothing = writes.packs.nothing; options_is = writes.packs.options_is ∙ sym (ap (λ (x : Form). options_for x v) asked) };
    fills = inr (record { asked = asked; small = is_small v.body.head small; writes = writes });
    region = λ t shows. writes.region t;
  }

-- where the head stays its numbers do
pub numbered_open : {S : Type 0} (v w : Hash S) → StaysOpen v w → StaysNumbered v w
numbered_open v w stays = record {
  map = stays.map;
  apow = ap (λ (h : Head). h.apow) stays.head;
  fpow = ap (λ (h : Head). h.fpow) stays.head;
  buckets = ap (λ (h : Head). h.buckets) stays.head;
}

-- a settled file ends in the block of a record, where it has one
pub ends_of : (h : Head) (end : ℕ) (old new : Frees) (old_end records : ℕ) (region : List ℕ) (m : Map) (bytes : List ℕ) → Brought h end new records region m bytes → length bytes ≡ end → Trimmed old new old_end end → EndsInRecord bytes
ends_of h end old new old_end records region m bytes brought long trimmed =
    let is = brought.holds.has.is in record {
      head = head_now h records end region;
      pieces = brought.holds.has.pieces;
      in_front = brought.head;
      long = long;
      blocks = record { on = is.laid.on; within = is.laid.within; filled = is.laid.filled; widths = is.widths };
      last = λ q t there at some. trimmed.last q t (pooled _ _ t (is.laid.shared q) there) at some;
    }
  where
    pooled : (there pool : Option ℕ) (t : ℕ) → IsShared there pool None → there ≡ Some t → pool ≡ Some t
    pooled there pool t (inl pools) e = pools.0 ∙ e
    pooled there pool t (inr lents) e = absurd (let f : None ≡ Some t = lents.1 ∙ e in cc)
