-- The order of the keys of one bucket.
use Rattle.std.specs.Prelude.{ℕ, List, length}
use Rattle.std.specs.Ordering.{nat_cmp, on, then_cmp}
use Rattle.std.specs.declared.cmp.Ordering.{Ordering}
use Rattle.std.specs.Cmp.Lexicographic.{slice_cmp}
use Rattle.tc_base.specs.Hashes.{bucket, second}

abbrev pub Key : Type 0
Key = List ℕ

-- by second hash, then by length, then by bytes
unfoldable pub key_cmp : Key → Key → Ordering
key_cmp = then_cmp (on second nat_cmp) (then_cmp (on length nat_cmp) (slice_cmp nat_cmp))

-- the bucket of a key among so many
unfoldable pub bucket_of : ℕ → Key → ℕ
bucket_of buckets key = bucket key buckets
