-- What calls make of the pairs of a tree.
use Rattle.std.specs.Prelude.{◌≡◌, ◌⊎◌, ℕ, Bool, true, false, List, [], ◌++◌, length, fold, nat_le, Option, Some, None, is_some, option_map, unwrap_or, Result, OnOk, if◌then◌else◌}
use Rattle.std.specs.declared.cmp.Ordering.{Ordering}
use Rattle.tc_base.specs.Lists.{first, with_first, with_last, without_all, without_first}
use Rattle.tc_base.specs.declared.kind.Mode.{Mode}
use Rattle.tc_base.specs.declared.kind.Mode.TheVariants.{Over, Keep, Cat}
use Rattle.tc_base.specs.declared.order.Order.{Ghosts as Orders}
use Rattle.tc_base.specs.declared.seq.Pair.{Pair}
use Rattle.tc_space.specs.Changes.{put_value}
use Rattle.tc_space.specs.Frames.{Keeps, Others, Reads}
use Rattle.tc_space.specs.Stores.{Only}
use Rattle.tc_space.specs.declared.records.Records.{Ghosts as Stores}
use Rattle.tc_space.specs.declared.space.Space.{Ghosts}
use Rattle.tc_model.specs.Values.{allowed}
use Rattle.bt_rows.specs.Pages.{PageMap}
use Rattle.bt_tree.specs.declared.tree.Tree.{Tree}
use Rattle.bt_tree.specs.Inserting.{GivesIds, StaysMade}
use Rattle.bt_tree.specs.Meaning.{Means, file_in}
use Rattle.bt_tree.specs.Paging.{FillsIds, Shows}
use Rattle.bt_tree.specs.Removing.{AddsNone}
use Rattle.tc_btree.specs.Filling.{IsParted, LacksListed}
use Rattle.tc_treedb.specs.Between.{IsBetween}
use Rattle.tc_treedb.specs.Reading.{bytes_in}
use Rattle.tc_treedb.specs.declared.storing.Change.{Change}

-- the pairs after, or none where it fails
abbrev pub Step : Type 0
Step = List Pair → Option (List Pair)

-- the pairs after, or as they were where it fails
abbrev pub after : Step → List Pair → List Pair
after f ps = unwrap_or (f ps) ps

module _ (cmp : List ℕ → List ℕ → Ordering) where
  abbrev pub put_in : List ℕ → List ℕ → Step
  put_in key value ps = option_map (λ v. with_first cmp ps key v) (allowed value)

  abbrev pub stored_in : Mode → List ℕ → List ℕ → Step
  stored_in Over key value ps = put_in key value ps
  stored_in Keep key value ps = if is_some (first ps key) then None else put_in key value ps
  stored_in Cat key value ps = put_in key (unwrap_or (first ps key) [] ++ value) ps

  abbrev pub pushed_in : List ℕ → List ℕ → Step
  pushed_in key value ps = option_map (λ v. with_last cmp ps key v) (allowed value)

  abbrev pub taken_in : List ℕ → Step
  taken_in key ps = if is_some (first ps key) then Some (without_first cmp ps key) else None

  -- whatever the length of a value
  abbrev pub set_in : Pair → List Pair → List Pair
  set_in p ps = with_first cmp ps p.key p.value

  abbrev pub push_in : Pair → List Pair → List Pair
  push_in p ps = with_last cmp ps p.key p.value

  abbrev pub cleared_in : List ℕ → List Pair → List Pair
  cleared_in key ps = without_all cmp ps key

  abbrev pub each_set : List Pair → List Pair → List Pair
  each_set pairs ps = fold (λ qs p. set_in p qs) ps pairs

  abbrev pub each_pushed : List Pair → List Pair → List Pair
  each_pushed pairs ps = fold (λ qs p. push_in p qs) ps pairs

  abbrev pub each_cleared : List (List ℕ) → List Pair → List Pair
  each_cleared keys ps = fold (λ qs key. cleared_in key qs) ps keys

-- a value that may be stored
abbrev pub is_short : Pair → Bool
is_short p = nat_le (length p.value) 16777216

-- the length of the first value of a key before a put, and behind it
abbrev pub AreLengths : Mode → List ℕ → List ℕ → Change → List Pair → Type 0
AreLengths mode key value l ps = (l.old ≡ option_map length (first ps key)) × (l.len ≡ length (put_value mode (first ps key) value))

-- ---- calls

-- what an out leaves of a tree, whatever it answers: what the tree was made with stays, and no id is given
pub record StaysLess {S V O : Type 0} (R : Stores V S) (t u : Tree V O) : Type 0 where
  pub made : StaysMade R t u
  pub ids : AddsNone t u

module _ {S V O : Type 0} (s : Ghosts S) (R : Stores V S) (o : Orders O) where
  -- each id that was given since has a page
  abbrev pub GivesPages : Tree V O → Tree V O → S → S → Type 0
  GivesPages t u old new = (ps : List Pair) → Means s R o t old ps → (pages : PageMap) × Shows s R u new pages × FillsIds t.head u.head pages

  -- and what one put leaves: ids are given as one put gives them, each to a page
  pub record StaysGrown {T E : Type 0} (result : Result T E) (t u : Tree V O) (old new : S) : Type 0 where
    pub made : StaysMade R t u
    pub ids : GivesIds s 2 t.height 1 result t u new
    pub pages : OnOk result (GivesPages t u old new)

  -- the step was made in the tree's file; or it fails, and nothing has changed
  pub record Takes (f : Step) (done : Bool) (t u : Tree V O) (old new : S) : Type 0 where
    pub sound : s.sound new
    pub others : Others s (Only (file_in R t)) old new
    pub made : done ≡ true → (ps : List Pair) → Means s R o t old ps → (qs : List Pair) × (f ps ≡ Some qs) × Means s R o u new qs
    pub fails : done ≡ false → (ps : List Pair) → Means s R o t old ps → f ps ≡ None
    pub same : done ≡ false → Reads s (Means s R o) t u old new

  abbrev pub TellsLengths : Mode → List ℕ → List ℕ → Change → Tree V O → S → Type 0
  TellsLengths mode key value l t old = (ps : List Pair) → Means s R o t old ps → AreLengths mode key value l ps

  -- the bytes of all pairs were counted before, and they are so many behind the change
  abbrev pub CountsTo : (List Pair → List Pair) → Option ℕ → Tree V O → S → ℕ → Type 0
  CountsTo f total t old n = (k : ℕ) × (total ≡ Some k) × ((ps : List Pair) → Means s R o t old ps → k ≡ bytes_in ps → n ≡ bytes_in (f ps))

  -- a limit is reached on the way from these pairs, which the tree means, to those
  abbrev pub FillsPairs : Tree V O → S → S → List Pair → List Pair → Type 0
  FillsPairs t old new ps qs = IsParted s R o t old new ps qs ⊎ (Means s R o t old ps × LacksListed s R o t old new ps qs)

  -- so it was of the tree at some moment since, in a space that may have been given up then, between a list on the way and one further on
  pub record FillsOn (f : List Pair → List Pair) (t : Tree V O) (old new : S) (ps : List Pair) : Type 0 where
    pub tree : Tree V O
    pub moment : S
    pub made : StaysMade R t tree
    pub since : Keeps s old moment
    pub until : Keeps s moment new
    pub mid : List Pair
    pub next : List Pair
    pub mid_between : IsBetween ps mid (f ps)
    pub on : IsBetween mid next (f ps)
    pub fills : FillsPairs tree moment new mid next

  abbrev pub FillsAlong : (List Pair → List Pair) → Tree V O → S → S → Type 0
  FillsAlong f t old new = (ps : List Pair) → Means s R o t old ps → FillsOn f t old new ps

  -- so it was on the way to what a step makes
  abbrev pub FillsFor : Step → Tree V O → S → S → Type 0
  FillsFor f t old new = FillsAlong (after f) t old new
