-- The record of a key in whatever map is held.
use Rattle.std.proofs.Common.{◌≡◌, ◌∙◌, ℕ, ◌+◌, ◌-◌, List, length, sym, ap, subst, refl, Option, Some, None, Bool, true, cond, is_some}
use Rattle.std.specs.Prelude.{IsSome, option_map}
use Rattle.std.specs.Cmp.Lexicographic.{nat_list_cmp_total}
use Rattle.std.specs.FinMap.{get, insert, remove, len, len-insert, len-remove}
use Rattle.tc_base.specs.Maps.{Map}
use Rattle.tc_space.specs.Frames.{OnlyReads}
use Rattle.tc_space.specs.declared.space.Space.{Ghosts}
use Rattle.hf_head.specs.declared.head.Head.{Head}
use Rattle.hf_head.specs.Heads.{IsValid}
use Rattle.hf_layout.specs.Frees.{Frees}
use Rattle.hf_tree.specs.declared.parent.Parent.{Parent}
use Rattle.hf_tree.specs.declared.parent.Found.TheVariants.{Here, Gap}
use Rattle.hf_tree.specs.Keys.{Key}
use Rattle.hf_chain.specs.declared.heads.RecHead.{RecHead}
use Rattle.hf_chain.specs.Heads.{IsHeadAt, IsHeadOf, IsRecordAt}
use Rattle.hf_record.specs.declared.body.Body.{Body}
use Rattle.hf_record.specs.Allocating.{HoldsAt}
use Rattle.hf_record.specs.Changing.{CanChange}
use Rattle.hf_record.specs.Holding.{Has, HasMap, IsSearched}
use Rattle.hf_record.specs.Moves.{IsBlockAt}
use Rattle.hf_record.proofs.Finding.{gap_none, here_record}

module _ (h : Head) (end : ℕ) (free : Frees) (m : Map) (bytes : List ℕ) (key : Key) (v : IsValid h) (g : HasMap h end free m bytes) where
  pub no_value : (to : Parent) → IsSearched h key (Gap to) bytes → get m key ≡ None
  no_value to s = gap_none h end g.pieces free g.places m bytes key v g.is to s

  -- ---- how many keys are held

  held_value : (at : ℕ) (from : Parent) → IsSearched h key (Here at from) bytes → is_some (get m key) ≡ true
  held_value at from s = ap (λ (o : Option (List ℕ)). is_some o) (here_record h end g.pieces free g.places m bytes key v g.is at from s).value_is

  pub count_out : (at : ℕ) (from : Parent) (records : ℕ) → IsSearched h key (Here at from) bytes → records ≡ len m → records - 1 ≡ len (remove m key)
  count_out at from records s same = ap (λ (n : ℕ). n - 1) same ∙ sym (len-remove nat_list_cmp_total m key ∙ ap (λ (b : Bool). cond b (len m - 1) (len m)) (held_value at from s))

  pub count_in : (to : Parent) (value : List ℕ) (records : ℕ) → IsSearched h key (Gap to) bytes → records ≡ len m → records + 1 ≡ len (insert m key value)
  count_in to value records s same = ap (λ (n : ℕ). n + 1) same ∙ sym (len-insert nat_list_cmp_total m key value ∙ ap (λ (o : Option (List ℕ)). cond (is_some o) (len m) (len m + 1)) (no_value to s))

  pub count_same : (at : ℕ) (from : Parent) (value : List ℕ) (records : ℕ) → IsSearched h key (Here at from) bytes → records ≡ len m → records ≡ len (insert m key value)
  count_same at from value records s same = same ∙ sym (len-insert nat_list_cmp_total m key value ∙ ap (λ (b : Bool). cond b (len m) (len m + 1)) (held_value at from s))

-- ---- the record there

module _ (h : Head) (end : ℕ) (free : Frees) (m : Map) (bytes : List ℕ) (key : Key) (v : IsValid h) (g : HasMap h end free m bytes) (at : ℕ) (from : Parent) (s : IsSearched h key (Here at from) bytes) where
  pub record_there : IsRecordAt h at bytes
  record_there = let it = here_record h end g.pieces free g.places m bytes key v g.is at from s in record { r = it.r; has = it.has }

  pub stood : (size : ℕ) → IsBlockAt h at size bytes → HoldsAt h end free m key at size bytes
  stood size block =
      let it = here_record h end g.pieces free g.places m bytes key v g.is at from s in
      record { has = g; r = it.r; there = it.is; key_is = it.key_is; size_is = sym (block.is it.r it.has) }

  pub is_there : IsSome (get m key)
  is_there = subst IsSome (sym (here_record h end g.pieces free g.places m bytes key v g.is at from s).value_is) refl

  module _ (rec : RecHead) (head : IsHeadOf h at bytes rec) where
    pub head_there : IsHeadAt h rec at bytes
    head_there = let it = here_record h end g.pieces free g.places m bytes key v g.is at from s in record { r = it.r; has = it.has; head = head it.r it.has }

    -- its value is the key's
    pub value_there : get m key ≡ Some (here_record h end g.pieces free g.places m bytes key v g.is at from s).r.value
    value_there = (here_record h end g.pieces free g.places m bytes key v g.is at from s).value_is

    pub len_there : Some rec.value ≡ option_map length (get m key)
    len_there =
        let it = here_record h end g.pieces free g.places m bytes key v g.is at from s in
        ap (λ (x : RecHead). Some x.value) (head it.r it.has) ∙ sym (ap (λ (o : Option (List ℕ)). option_map length o) it.value_is)

-- ---- it may be changed again

pub can_after : {S : Type 0} (s : Ghosts S) (b : Body) (x y : S) → OnlyReads s x y → CanChange s b x → CanChange s b y
can_after s b x y r can = record { sound = r.is_sound; held = λ t. let w = can.held t in (w.0, subst (λ (l : List ℕ). Has b l w.0) (sym (r.files t b.file)) w.1) }
