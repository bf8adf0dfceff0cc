-- A packing keeps what is held, and a limit that it meets is one of the database.
use Rattle.std.proofs.Common.{◌≡◌, ◌⊎◌, ◌+◌, ◌<◌, ◌≤◌, ℕ, List, length, take, sym, ap, subst, inl, inr, ⊎_elim}
use Rattle.std.specs.FinMap.{keys}
use Rattle.tc_base.specs.Maps.{Map}
use Rattle.tc_base.specs.declared.seq.Pair.{Pair}
use Rattle.tc_base.specs.declared.kind.Form.{Form}
use Rattle.tc_base.specs.declared.kind.Form.TheVariants as forms
use Rattle.tc_space.specs.Changes.{same}
use Rattle.tc_space.specs.Frames.{In, Refuses, Writes}
use Rattle.tc_space.specs.Stores.{Only}
use Rattle.tc_space.specs.declared.space.Space.{Ghosts}
use Rattle.hf_head.specs.declared.head.Head.{Head}
use Rattle.hf_head.specs.Heads.{unit}
use Rattle.hf_block.specs.Written.{block_len}
use Rattle.hf_pool.specs.Pools.{frees}
use Rattle.hf_tree.specs.Links.{width}
use Rattle.hf_record.specs.Holding.{HasMap}
use Rattle.hf_record.specs.Moves.{IsRefusedFor}
use Rattle.ty_base.specs.Holding.{FormsLayout, Held, IsReady}
use Rattle.tc_hash.specs.Holding.{IsNumbered}
use Rattle.tc_hash.specs.Keeping.{file_of, holds}
use Rattle.tc_hash.specs.Packing.{ArePairs, Enlarges, LacksLarge as LacksIts, LacksOne, LacksPacking, MovesRecords, PacksAs, StaysNumbered, blocks_long}
use Rattle.tc_hash.specs.Repacking.{IsTightFrom}
use Rattle.tc_hash.proofs.Repacked.{packed_tight}
use Rattle.tc_model.specs.Contents.{Contents}
use Rattle.tc_hashdb.specs.declared.holding.HashEngine.{HashEngine}
use Rattle.tc_hashdb.specs.Filling.{LacksLarge, LacksLargeAt, LacksOne as LacksOneOf}
use Rattle.tc_hashdb.specs.Holding.{HoldsKeys, Means}
use Rattle.tc_hashdb.specs.Changing.{no_more}
use Rattle.tc_hashdb.specs.Layouts.{layout_of, lead_of}
use Rattle.tc_hashdb.specs.Laying.{formed_layout, formed_numbers, none_leads}
use Rattle.tc_hashdb.specs.Lifting.{held_again, means_of, ready_down, refuses_up}
use Rattle.tc_hashdb.proofs.Kept.{Counts, Shows, in_of, means_again, shows_by, shows_still, writes_again}

module _ {S : Type 0} (s : Ghosts S) where
  pub packed_up : (e e' : HashEngine S) (a b : S) → IsReady s HoldsKeys e a → Writes s (Only (file_of e.hash)) (In s file_of holds) same e.hash e'.hash a b → StaysNumbered e.hash e'.hash → Shows s e.hash e'.hash a b → e'.total ≡ e.total → (c : Contents) → Held s HoldsKeys e a c → Held s HoldsKeys e' b c
  packed_up e e' a b ready writes stays shows total c h =
      let again = writes_again s same e e' a b (ready_down s e a ready) writes stays.map.file stays.map.sort_same (λ m means. subst (λ o. Counts o m) (sym total) means.1.counted)
      (λ m means. shows_by s e e'.hash a b m means stays.map.file shows) in
      subst (λ d. Held s HoldsKeys e' b d) (sym h.1.is) (held_again s e' b h.1.map (again.means h.1.map (means_of s e a c h)))

  -- by the file that it was
  pub pack_tight : (form : Form) (e e' : HashEngine S) (a b : S) → Writes s (Only (file_of e.hash)) (In s file_of holds) same e.hash e'.hash a b → StaysNumbered e.hash e'.hash → PacksAs form s e.hash e'.hash a b → (c : Contents) → Held s HoldsKeys e a c → IsTightFrom (s.now a 0) form e'.hash.body (s.now b 0)
  pack_tight form e e' a b writes stays packs c h =
      let means : Means s e a h.1.map = means_of s e a c h in
      subst (λ (f : ℕ). IsTightFrom (s.now a f) form e'.hash.body (s.now b f)) means.1.file (packed_tight s form e.hash e'.hash a b writes stays.map.file packs h.1.map (in_of s e a h.1.map means))

  -- the head stays, or the file was made anew
  packed_lead : (form : Form) (e e' : HashEngine S) (a b : S) → PacksAs form s e.hash e'.hash a b → lead_of e'.hash.body.head ≤ lead_of e.hash.body.head
  packed_lead form e e' a b packs = ⊎_elim
      (λ (moves : MovesRecords s e.hash e'.hash a b). no_more (lead_of e.hash.body.head) (lead_of e'.hash.body.head) (ap lead_of moves.head))
      (λ (anew : Enlarges form s e.hash e'.hash a b). none_leads e'.hash.body.head (lead_of e.hash.body.head) anew.writes.is_new)
      packs.fills

  pub pack_formed : (form : Form) (e e' : HashEngine S) (a b : S) → ((c : Contents) → Held s HoldsKeys e a c → Held s HoldsKeys e' b c) → StaysNumbered e.hash e'.hash → PacksAs form s e.hash e'.hash a b
      → (c : Contents) → Held s HoldsKeys e a c → FormsLayout form (layout_of (s.now a)) (layout_of (s.now b))
  pack_formed form e e' a b remains stays packs c h =
      let now = remains c h in
      formed_layout form e e' (s.now a 0) (s.now b 0) h.1.map now.1.map h.1.holds_map now.1.holds_map (formed_numbers form e.hash e'.hash stays packs.packs) (packed_lead form e e' a b packs)

  pub pack_refused : (e e' : HashEngine S) (a b : S) → Refuses s (In s file_of holds) e.hash e'.hash a b → StaysNumbered e.hash e'.hash → e'.total ≡ e.total → Refuses s (Held s HoldsKeys) e e' a b
  pack_refused e e' a b refused stays total = refuses_up s e e' a b (⊎_elim
      (λ spoiled. inl spoiled)
      (λ reads. inr (record {
        now = reads.now;
        touched = reads.touched;
        sound = reads.sound;
        means = λ m means. means_again s e e' a b m m means stays.map.file stays.map.sort_same (reads.means m (in_of s e a m means)) (subst (λ o. Counts o m) (sym total) means.1.counted)
            (shows_still s e e'.hash a b m means stays.map.region_same (λ t. ap (take 256) (reads.now t e.hash.body.file)));
      }))
      refused)

  lacks_one : (limit long f : ℕ) (b : S) (head : Head) (m : Map) (pairs : List Pair) → s.limit b f ≡ limit → length (s.now b f) ≡ long → ArePairs m (keys m) pairs → LacksOne s head f head.first b pairs → LacksOneOf limit long head m
  lacks_one limit long f b head m pairs is_limit is_long are one = record {
    pairs = pairs;
    are = are;
    before = one.before;
    pair = one.pair;
    after = one.after;
    parts = one.are;
    free = one.lacks.free;
    nothing = one.lacks.nothing;
    refused = subst (λ (n : ℕ). IsRefusedFor head (head.first + blocks_long head one.before) one.lacks.free n long (block_len (width head) one.pair.key one.pair.value (unit head))) is_limit
        (subst (λ (n : ℕ). IsRefusedFor head (head.first + blocks_long head one.before) one.lacks.free (s.limit b f) n (block_len (width head) one.pair.key one.pair.value (unit head))) is_long one.lacks.refused);
  }

  -- written anew in the large form it had no room
  large_up : (e : HashEngine S) (a b : S) (m : Map) → e.hash.body.file ≡ 0 → Means s e a m → LacksIts s e.hash a b → LacksLargeAt (s.limit b 0) (length (s.now b 0)) (s.brought b) (s.now a 0) m
  large_up e a b m file means lacks =
      let has = subst (λ (f : ℕ). HasMap e.hash.body.head e.hash.body.pool.size (frees e.hash.body.pool) m (s.now a f)) file (in_of s e a m means).1.map.has in
      let numbers = subst (λ (f : ℕ). IsNumbered e.hash.body.head (s.now a f)) file (in_of s e a m means).1.numbers in
      ⊎_elim
      (λ x. record { own = e.hash.body.head; numbers = numbers; small = lacks.small; pool = e.hash.body.pool; has = has; head = x.head; is_new = x.is_new; lacks = ⊎_elim (λ less. inl (subst (λ (f : ℕ). s.limit b f < x.head.first) file less)) (λ wide. inr (inl wide)) x.lacks })
      (λ x. record {
        own = e.hash.body.head;
        numbers = numbers;
        small = lacks.small;
        pool = e.hash.body.pool;
        has = has;
        head = x.head;
        is_new = x.is_new;
        lacks = inr (inr (x.one.lacks.brought, lacks_one (s.limit b 0) (length (s.now b 0)) e.hash.body.file b x.head m x.pairs (ap (λ (f : ℕ). s.limit b f) file) (ap (λ (f : ℕ). length (s.now b f)) file) (x.are m (in_of s e a m means)) x.one));
      })
      lacks.anew

  pub pack_full : (form : Form) (e : HashEngine S) (a b : S) → (s.tells → LacksPacking form s e.hash a b) → (c : Contents) → Held s HoldsKeys e a c → s.log_full b ⊎ ((form ≡ forms.Large) × LacksLarge s a b c)
  pack_full form e a b full c h = ⊎_elim
      (λ log. inl log)
      (λ large. inr (large.0, subst (λ d. LacksLarge s a b d) (sym h.1.is) (large_up e a b h.1.map h.1.holds_map.file (means_of s e a c h) large.1)))
      (full h.0)
