-- What a hash file's bytes say of its records: links and keys.
use Rattle.std.specs.Prelude.{◌≡◌, ◌≢◌, ℕ, ◌<◌, ◌⊎◌, Option, Some, None}
use Rattle.hf_tree.specs.declared.parent.Parent.{Parent}
use Rattle.hf_tree.specs.declared.parent.Parent.TheVariants.{Bucket, Left, Right}
use Rattle.hf_tree.specs.declared.parent.Found.{Found}
use Rattle.hf_tree.specs.declared.parent.Found.TheVariants.{Here, Gap}
use Rattle.hf_tree.specs.Keys.{Key, key_cmp, bucket_of}
use Rattle.hf_tree.specs.Trees.{Tree, leaf, node, AllOf, Ordered, seek, look, by_order}

pub record View : Type 0 where
  pub links : Parent → ℕ
  pub keys : ℕ → Option Key

-- the records from this place on form this tree
abbrev pub Hangs : View → ℕ → Tree → Type 0
Hangs v at leaf = at ≡ 0
Hangs v at (node p q l r) = (at ≡ p) × (p ≢ 0) × (v.keys p ≡ Some q) × Hangs v (v.links (Left p)) l × Hangs v (v.links (Right p)) r

-- one link was written
pub record Linked (old new : View) (to : Parent) (x : ℕ) : Type 0 where
  pub keys : (p : ℕ) → new.keys p ≡ old.keys p
  pub here : new.links to ≡ x
  pub others : (q : Parent) → q ≢ to → new.links q ≡ old.links q

-- only these links were written
pub record Changed (old new : View) (D : Parent → Type 0) : Type 0 where
  pub keys : (p : ℕ) → new.keys p ≡ old.keys p
  pub others : (q : Parent) → (D q → ⊥) → new.links q ≡ old.links q

-- what names the place where a search ended
abbrev pub parent_of : Found → Parent
parent_of (Here at from) = from
parent_of (Gap to) = to

abbrev pub owner : Parent → Option ℕ
owner (Bucket b) = None
owner (Left p) = Some p
owner (Right p) = Some p

-- the link is one of this tree's
abbrev pub Owned : Parent → Tree → Type 0
Owned to leaf = ⊥
Owned to (node p q l r) = (owner to ≡ Some p) ⊎ (Owned to l ⊎ Owned to r)

-- the link is none of this tree's
abbrev pub Apart : Parent → Tree → Type 0
Apart to t = AllOf (λ p k. owner to ≢ Some p) t

-- the bucket's records hang in order, and are at home
pub record Hung (v : View) (n b : ℕ) (t : Tree) : Type 0 where
  pub hangs : Hangs v (v.links (Bucket b)) t
  pub ordered : Ordered t
  pub home : AllOf (λ p k. bucket_of n k ≡ b) t

-- the trees of all buckets, and the map from key to place
pub record Stands (v : View) (n : ℕ) (trees : ℕ → Tree) : Type 0 where
  pub hung : (b : ℕ) → b < n → Hung v n b (trees b)

-- what the search for a key finds
pub record Finds (v : View) (n : ℕ) (k : Key) (f : Found) : Type 0 where
  pub tree : Tree
  pub hung : Hung v n (bucket_of n k) tree
  pub is : seek (Bucket (bucket_of n k)) tree k ≡ f

-- the map with one key changed
abbrev pub with_key : (Key → Option ℕ) → Key → Option ℕ → Key → Option ℕ
with_key m k o j = by_order (key_cmp j k) (m j) o (m j)

-- each bucket's records hang in order and at home, and these are their places by key
pub record Holds (v : View) (n : ℕ) (m : Key → Option ℕ) : Type 0 where
  pub trees : ℕ → Tree
  pub hung : (b : ℕ) → b < n → Hung v n b (trees b)
  pub map : (k : Key) → m k ≡ look (trees (bucket_of n k)) k

-- nothing changed but the record at one place
pub record Besides (old new : View) (p : ℕ) : Type 0 where
  pub keys : (q : ℕ) → q ≢ p → new.keys q ≡ old.keys q
  pub links : (c : Parent) → owner c ≢ Some p → new.links c ≡ old.links c

abbrev pub found_place : Found → Option ℕ
found_place (Here at from) = Some at
found_place (Gap to) = None
