-- A file that has the least blocks for pairs and nothing else.
use Rattle.std.proofs.Common.{◌≡◌, ℕ, ◌+◌, ◌<◌, List, [], ◌∷◌, ◌++◌, None, sym, ap, subst, arith}
use Rattle.std.specs.FinMap.{get}
use Rattle.tc_base.specs.declared.kind.Mode.{Mode}
use Rattle.tc_base.specs.declared.seq.Pair.{Pair}
use Rattle.tc_space.specs.Changes.{put_in, put_value}
use Rattle.tc_space.specs.Stores.{FillsMore}
use Rattle.tc_space.specs.declared.space.Space.{Ghosts}
use Rattle.hf_head.specs.declared.head.Head.{Head}
use Rattle.hf_head.specs.Heads.{sections, unit}
use Rattle.hf_pool.specs.Pools.{Takes, frees as frees_in}
use Rattle.hf_record.specs.Filling.{reach}
use Rattle.tc_hash.specs.declared.hash.Hash.{Hash}
use Rattle.tc_hash.specs.Keeping.{GivesValue, file_of, holds, size_for}
use Rattle.tc_hash.specs.Packing.{IsFilledWith, blocks_long}
use Rattle.tc_hash.proofs.Enlarged.{blocks_one, ends_behind, still_nothing}
use Rattle.tc_hash.proofs.Stored.{put_fresh, takes_fresh}

at_first : (size first : ℕ) → size ≡ first → size ≡ first + 0
at_first size first e = omega (arith, e)

one_more : (first long all b c size new : ℕ) → size ≡ first + long → new ≡ size + b → b ≡ c → all ≡ long + c → new ≡ first + all
one_more first long all b c size new is grows same more = omega (arith, is, grows, same, more)

-- without records
pub none_filled : {S : Type 0} (h : Hash S) → ((q : ℕ) → frees_in h.body.pool q ≡ None) → h.body.head.first < sections h.body.head + unit h.body.head → h.body.pool.size ≡ h.body.head.first → IsFilledWith h []
none_filled h nothing least ends = record { nothing = nothing; least = least; ends = at_first h.body.pool.size h.body.head.first ends }

pub filled_more : {S : Type 0} (s : Ghosts S) (mode : Mode) (key value : List ℕ) (v v' : Hash S) (a b : S) → v'.body.head ≡ v.body.head → GivesValue s mode key value 512 v v' a b → FillsMore s file_of holds (λ h qs. IsFilledWith h qs) key value v v' a
filled_more s mode key value v v' a b head given m ps w none filled =
    let x = given.placed m w in
    let h : Head = v.body.head in
    let p : Pair = record { key = key; value = value } in
    let size : ℕ = size_for v key (put_value mode (get m key) value) in
    let takes : Takes (reach h) v.body.pool v'.body.pool size x.place = takes_fresh s key size 512 m (put_in mode key value m) v v' a b none x in
    record {
      nothing = still_nothing (reach h) size x.place v.body.pool v'.body.pool takes filled.nothing;
      least = subst (λ (g : Head). g.first < sections g + unit g) (sym head) filled.least;
      ends = subst (λ (g : Head). v'.body.pool.size ≡ g.first + blocks_long g (ps ++ p ∷ [])) (sym head)
          (one_more h.first (blocks_long h ps) (blocks_long h (ps ++ p ∷ [])) size (size_for v key value) v.body.pool.size v'.body.pool.size filled.ends
          (ends_behind (reach h) size x.place v.body.pool v'.body.pool takes filled.nothing)
          (ap (λ (l : List ℕ). size_for v key l) (sym (put_fresh mode (get m key) value none)))
          (blocks_one h ps p));
    }
