-- Where a search ended, as the space stands then.
use Rattle.std.proofs.Common.{◌≡◌, ◌+◌, ◌^◌, ◌<◌, ◌≤◌, ℕ, List, length, Result, Ok, Err, sym, subst, arith, Option, Some, None}
use Rattle.std.specs.Prelude.{option_map}
use Rattle.std.specs.Result.{IfOk}
use Rattle.std.specs.FinMap.{get}
use Rattle.tc_base.specs.Maps.{Map}
use Rattle.tc_base.specs.declared.fault.Fault.{Fault}
use Rattle.tc_space.specs.Frames.{OnlyReads}
use Rattle.tc_space.specs.declared.space.Space.{Ghosts}
use Rattle.hf_tree.specs.declared.parent.Parent.{Parent}
use Rattle.hf_tree.specs.declared.parent.Found.TheVariants.{Gap}
use Rattle.hf_tree.specs.Keys.{Key}
use Rattle.hf_chain.specs.Chains.{EndsAt}
use Rattle.hf_chain.specs.Heads.{IsHeadAt, IsHeadOf}
use Rattle.hf_chain.specs.Searches.{KnowsHead, found_of}
use Rattle.hf_chain.specs.declared.finding.Place.{Place}
use Rattle.hf_chain.specs.declared.finding.Search.{Search}
use Rattle.hf_chain.specs.declared.finding.Search.TheVariants as search
use Rattle.hf_pool.specs.Pools.{frees}
use Rattle.hf_record.specs.declared.body.Body.{Body}
use Rattle.hf_record.specs.Asking.{value_most}
use Rattle.hf_record.specs.Holding.{Has, IsSearched}
use Rattle.hf_record.specs.Searching.{EndsSo, IsFound}
use Rattle.hf_record.proofs.Finding.{searched}
use Rattle.hf_record.proofs.Records.{head_there, len_there, no_value}
use Rattle.hf_record.proofs.Valid.{is_valid}

module _ {S : Type 0} (s : Ghosts S) (b : Body) (key : Key) where
  ended : (x y : S) (f : Search) → OnlyReads s x y → (s.tells → EndsAt b.head key (s.now x b.file) (found_of f)) → KnowsHead s b.head b.file x f → EndsSo s b key y f
  ended x y (search.Here p) r found head = record {
    known = record {
      fits = head.fits;
      is = λ t. subst (λ (l : List ℕ). IsHeadOf b.head p.at l p.rec) (sym (r.files t b.file)) (head.is t);
      long = λ t. subst (λ (l : List ℕ). length l < 2 ^ 64) (sym (r.files t b.file)) (head.long t);
    };
    here = λ t. subst (λ (l : List ℕ). IsSearched b.head key (found_of (search.Here p)) l) (sym (r.files t b.file)) (searched b.head (s.now x b.file) key (found_of (search.Here p)) (is_valid b.head b.valid) (found t));
  }
  ended x y (search.Gap to) r found head = λ t. subst (λ (l : List ℕ). IsSearched b.head key (found_of (search.Gap to)) l) (sym (r.files t b.file)) (searched b.head (s.now x b.file) key (found_of (search.Gap to)) (is_valid b.head b.valid) (found t))

  pub ends_so : (x y : S) (o : Result Search Fault) → OnlyReads s x y → IfOk o (λ f. s.tells → EndsAt b.head key (s.now x b.file) (found_of f)) → IfOk o (KnowsHead s b.head b.file x) → IfOk o (EndsSo s b key y)
  ends_so x y (Ok f) r found head = ended x y f r found head
  ends_so x y (Err e) r found head = tt

  -- the head of the record that was found
  pub found_head : (x : S) (m : Map) (p : Place) → s.tells → Has b (s.now x b.file) m → IsFound s b key x p → IsHeadAt b.head p.rec p.at (s.now x b.file)
  found_head x m p t has f = head_there b.head b.pool.size (frees b.pool) m (s.now x b.file) key (is_valid b.head b.valid) has p.at p.from (f.here t) p.rec (f.known.is t)

  pub found_so : (x : S) (f : Search) (p : Place) → f ≡ search.Here p → EndsSo s b key x f → IsFound s b key x p
  found_so x f p e ends = subst (λ (z : Search). EndsSo s b key x z) e ends

  pub gap_so : (x : S) (f : Search) (to : Parent) → f ≡ search.Gap to → EndsSo s b key x f → s.tells → IsSearched b.head key (Gap to) (s.now x b.file)
  gap_so x f to e ends = subst (λ (z : Search). EndsSo s b key x z) e ends

  -- ---- the map that was held before the search

  pub found_len : (x y : S) (p : Place) (m : Map) → s.tells → OnlyReads s x y → Has b (s.now x b.file) m → IsFound s b key y p → Some p.rec.value ≡ option_map length (get m key)
  found_len x y p m t r has f =
      let held = subst (λ (l : List ℕ). Has b l m) (sym (r.files t b.file)) has in
      len_there b.head b.pool.size (frees b.pool) m (s.now y b.file) key (is_valid b.head b.valid) held p.at p.from (f.here t) p.rec (f.known.is t)

  pub gap_value : (x y : S) (to : Parent) (m : Map) → s.tells → OnlyReads s x y → Has b (s.now x b.file) m → (s.tells → IsSearched b.head key (Gap to) (s.now y b.file)) → get m key ≡ None
  gap_value x y to m t r has gap =
      let held = subst (λ (l : List ℕ). Has b l m) (sym (r.files t b.file)) has in
      no_value b.head b.pool.size (frees b.pool) m (s.now y b.file) key (is_valid b.head b.valid) held to (gap t)

  -- no more bytes were read than its value has
  pub read_most : (x y : S) (p : Place) (m : Map) (r r' : ℕ) → s.tells → OnlyReads s x y → Has b (s.now x b.file) m → IsFound s b key y p → r' ≤ r + p.rec.value → r' ≤ r + value_most (get m key)
  read_most x y p m r r' t reads has f le = go (get m key) (found_len x y p m t reads has f)
    where
      go : (o : Option (List ℕ)) → Some p.rec.value ≡ option_map length o → r' ≤ r + value_most o
      go None e = absurd (let n : Some p.rec.value ≡ None = e in cc)
      go (Some v) e = let n : p.rec.value ≡ length v = cc in omega (arith, le, n)
