-- Links that are followed behind whatever was reached before, which is no longer listed.
use Rattle.std.specs.Prelude.{ℕ, ◌+◌, ◌*◌, ◌≤◌, Bool, List, ◌++◌, length}
use Rattle.hf_tree.specs.Rules.{Links, Records}
use Rattle.hf_survey.specs.declared.facts.Fact.{Fact}
use Rattle.hf_survey.specs.declared.reaching.Item.{Item}
use Rattle.hf_survey.specs.Entries.{AreRoots}
use Rattle.hf_survey.specs.Reaching.{Marked, Follows, Stops, AreRead, Reach, IsNotOnce, all_seen}

-- some records that were reached before, and these, are what is marked
pub record AreMarked (items : List Item) (marks : List Bool) : Type 0 where
  pub before : List Item
  pub is : Marked (before ++ items) marks

-- so is what was reached since
pub record StayMarked (old : List Item) (was : List Bool) (new : List Item) (now : List Bool) : Type 0 where
  pub is : (before : List Item) → Marked (before ++ old) was → Marked (before ++ new) now

-- a link was followed
pub record FollowsOn (facts : List Fact) (p : ℕ) (from : Item) (old : List Item) (was : List Bool) (new : List Item) : Type 0 where
  pub is : (before : List Item) → Marked (before ++ old) was → Follows facts p from (before ++ old) (before ++ new)

-- it can't be
pub record StopsOn (facts : List Fact) (p : ℕ) (old : List Item) (was : List Bool) : Type 0 where
  pub is : (before : List Item) → Marked (before ++ old) was → Stops facts p (before ++ old)

-- the chains of records from one of these to before another were followed, behind all chains of those before them
pub record ChainsOn (facts : List Fact) (old : List Item) (was : List Bool) (new : List Item) (now : List Bool) (from to : ℕ) : Type 0 where
  pub long : length old ≤ length new
  pub marked : StayMarked old was new now
  pub reached : (before : List Item) (links : Links) (records : Records) (n roots : ℕ) → Marked (before ++ old) was → AreRead links records facts → Reach links records n (all_seen facts (before ++ old)) roots (2 * (length before + from)) → Reach links records n (all_seen facts (before ++ new)) roots (2 * (length before + to))

-- they can't be
pub record ChainsStop (facts : List Fact) (old : List Item) (was : List Bool) (from : ℕ) : Type 0 where
  pub is : (before : List Item) (links : Links) (records : Records) (n roots : ℕ) → Marked (before ++ old) was → AreRead links records facts → Reach links records n (all_seen facts (before ++ old)) roots (2 * (length before + from)) → IsNotOnce links records n

-- the entries of so many buckets from one of them on, which name these places, were followed, behind those of all buckets before
pub record RootsOn (facts : List Fact) (first : ℕ) (places : List ℕ) (old : List Item) (was : List Bool) (new : List Item) (now : List Bool) (count : ℕ) : Type 0 where
  pub long : length old ≤ length new
  pub marked : StayMarked old was new now
  pub reached : (before : List Item) (links : Links) (records : Records) (n : ℕ) → Marked (before ++ old) was → AreRead links records facts → AreRoots links n first places → Reach links records n (all_seen facts (before ++ old)) first (2 * length (before ++ old)) → Reach links records n (all_seen facts (before ++ new)) (first + count) (2 * length (before ++ old))

-- they can't be
pub record RootsStop (facts : List Fact) (first : ℕ) (places : List ℕ) (old : List Item) (was : List Bool) : Type 0 where
  pub is : (before : List Item) (links : Links) (records : Records) (n : ℕ) → Marked (before ++ old) was → AreRead links records facts → AreRoots links n first places → Reach links records n (all_seen facts (before ++ old)) first (2 * length (before ++ old)) → IsNotOnce links records n

-- these are what the trees of those buckets reach, behind all that the buckets before reach
pub record TreesOn (facts : List Fact) (first : ℕ) (places : List ℕ) (was : List Bool) (items : List Item) (now : List Bool) : Type 0 where
  pub marked : (before : List Item) → Marked before was → Marked (before ++ items) now
  pub reached : (before : List Item) (links : Links) (records : Records) (n : ℕ) → Marked before was → AreRead links records facts → AreRoots links n first places → Reach links records n (all_seen facts before) first (2 * length before) → Reach links records n (all_seen facts (before ++ items)) (first + length places) (2 * length (before ++ items))

-- they can't be followed
pub record TreesStop (facts : List Fact) (first : ℕ) (places : List ℕ) (was : List Bool) : Type 0 where
  pub is : (before : List Item) (links : Links) (records : Records) (n : ℕ) → Marked before was → AreRead links records facts → AreRoots links n first places → Reach links records n (all_seen facts before) first (2 * length before) → IsNotOnce links records n
