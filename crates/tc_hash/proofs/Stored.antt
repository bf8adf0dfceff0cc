-- Values given to keys, made of steps.
use Rattle.std.proofs.Common.{◌≡◌, ◌∙◌, ◌⊎◌, inl, inr, ⊎_elim, ℕ, ◌+◌, ◌-◌, ◌^◌, ◌<◌, ◌≤◌, List, [], ◌++◌, length, max, take, refl, sym, ap, subst, arith, false, Option, None, Some}
use Rattle.std.specs.Prelude.{unwrap_or, Result, Ok, Err, IfOk, OnErr, OnOk}
use Rattle.std.specs.Result.{IsErrAnd}
use Rattle.std.proofs.lemmas.Result.{err_from_is_err_and}
use Rattle.std.specs.FinMap.{get, insert, remove}
use Rattle.tc_base.specs.Maps.{Map}
use Rattle.tc_base.specs.declared.kind.Mode.{Mode}
use Rattle.tc_base.specs.declared.kind.Mode.TheVariants.{Over, Keep, Cat}
use Rattle.tc_space.specs.Changes.{out_of, put_in, put_value}
use Rattle.tc_space.specs.Frames.{Brought, OnlyReads, Others, others_then}
use Rattle.tc_space.specs.Stores.{FullPut, Only}
use Rattle.tc_space.specs.declared.space.Space.{Ghosts}
use Rattle.hf_head.specs.declared.head.Head.{Head}
use Rattle.hf_head.specs.Heads.{IsValid, unit}
use Rattle.hf_block.specs.Written.{block_len}
use Rattle.hf_chain.specs.declared.finding.Place.{Place}
use Rattle.hf_pool.specs.declared.pool.Pool.{Pool}
use Rattle.hf_pool.specs.Pools.{frees, Takes}
use Rattle.hf_tree.specs.declared.parent.Parent.{Parent}
use Rattle.hf_tree.specs.Links.{width}
use Rattle.hf_record.specs.Allocating.{Allocates, HoldsAt, HoldsWritten, Shortens, Stands}
use Rattle.hf_record.specs.Changing.{MapsBy, PutsAt, PutsNew, StaysBody}
use Rattle.hf_record.specs.Costs.{Edits, FewBeside}
use Rattle.hf_record.specs.Holding.{Has, HasMap}
use Rattle.hf_record.specs.Filling.{reach}
use Rattle.hf_record.specs.Moves.{Gives, HasRoom, IsRefusedFor, LacksRoom}
use Rattle.hf_record.specs.Searching.{IsFound, IsGap}
use Rattle.hf_record.proofs.Differ.{beside_after, beside_more, edits_after, edits_more, edits_then}
use Rattle.hf_record.proofs.Maps.{insert_again, remove_here}
use Rattle.hf_record.proofs.Records.{count_in, count_out, count_same, no_value, stood}
use Rattle.hf_record.proofs.Valid.{is_valid}
use Rattle.tc_hash.specs.declared.hash.Hash.{Hash}
use Rattle.tc_hash.specs.Holding.{IsNumbered}
use Rattle.tc_hash.specs.Keeping.{GivesNew, GivesValue, IsPlaced, HasNoBlock, LacksBlock, LacksIts, LacksRecordOf, Means, StaysOpen, TakesRecord, WantsAsHeld, WantsFrom, WantsLarger, size_for}
use Rattle.tc_hash.specs.Putting.{LacksFor}
use Rattle.tc_hash.proofs.Records.{looks_again, turned, turns_after}

-- a key that isn't held is given the same value in each mode
pub put_fresh : (mode : Mode) (o : Option (List ℕ)) (value : List ℕ) → o ≡ None → value ≡ put_value mode o value
put_fresh Over o value e = refl
put_fresh Keep o value e = refl
put_fresh Cat o value e = ap (λ (x : Option (List ℕ)). unwrap_or x [] ++ value) (sym e)

-- what a fact of a call makes, where its result is handed on
pub from_ok : {A E : Type 0} {P Q : A → Type 0} (r : Result A E) → IfOk r P → ((x : A) → P x → Q x) → IfOk r Q
from_ok (Ok x) p f = f x p
from_ok (Err e) p f = tt

pub from_done : {A E P Q : Type 0} (r : Result A E) → OnOk r P → (P → Q) → OnOk r Q
from_done (Ok x) p f = f p
from_done (Err e) p f = tt

pub from_refused : {A E P Q : Type 0} (r : Result A E) → OnErr r P → (P → Q) → OnErr r Q
from_refused (Ok x) p f = tt
from_refused (Err e) p f = f p

-- what is true of each answer
pub any_ok : {A E : Type 0} {P : A → Type 0} (r : Result A E) → ((x : A) → P x) → IfOk r P
any_ok (Ok x) p = p x
any_ok (Err e) p = tt

-- nothing is done where an error came
pub not_done : {A E : Type 0} (Q : Type 0) (P : E → Type 0) (r : Result A E) → IsErrAnd r P → OnOk r Q
not_done {A} {E} Q P r is = let p = err_from_is_err_and r is in subst (λ (x : Result A E). OnOk x Q) (sym p.1) tt

-- what two facts of a call that was done make
pub both_ok : {A E P Q R : Type 0} (r : Result A E) → (P → Q → R) → OnOk r P → OnOk r Q → OnOk r R
both_ok (Ok x) f p q = f p q
both_ok (Err e) f p q = tt

pub both_if_ok : {A E : Type 0} {P Q R : A → Type 0} (r : Result A E) → ((x : A) → P x → Q x → R x) → IfOk r P → IfOk r Q → IfOk r R
both_if_ok (Ok x) f p q = f x p q
both_if_ok (Err e) f p q = tt

module _ {S : Type 0} (s : Ghosts S) where
  -- bytes behind the value that was read are what Cat makes of it
  pub joined_as : (key more x y old : List ℕ) (v : Hash S) (a b : S) → OnlyReads s a b → (s.tells → (m : Map) → Has v.body (s.now a v.body.file) m → get m key ≡ Some old) → y ≡ x → x ≡ old ++ more → (m : Map) → Means s v b m → y ≡ put_value Cat (get m key) more
  joined_as key more x y old v a b r read same is m w =
      let has = subst (λ (l : List ℕ). Has v.body l m) (r.files w.0 v.body.file) w.1.map.has in
      same ∙ is ∙ ap (λ (o : Option (List ℕ)). unwrap_or o [] ++ more) (sym (read w.0 m has))

  pub gives_more : (mode : Mode) (key value : List ℕ) (most more : ℕ) (v v' : Hash S) (a b : S) → most ≤ more → GivesValue s mode key value most v v' a b → GivesValue s mode key value more v v' a b
  gives_more mode key value most more v v' a b le g = record {
    writes = g.writes;
    front = g.front;
    edits = λ m w. (let n : ℕ = size_for v key (put_value mode (get m key) value) in edits_more s v.body.file (n + most) (n + more) a b (omega (arith, le)) (g.edits m w));
    placed = λ m w. (let p = g.placed m w in record { was = p.was; stood = p.stood; place = p.place; allocates = p.allocates; stands = p.stands; beside = beside_more p.place _ most more _ _ le p.beside; long = p.long });
  }

  -- what was read before
  pub gives_after : (mode : Mode) (key value : List ℕ) (most : ℕ) (v v' : Hash S) (a b c : S) → OnlyReads s a b → GivesValue s mode key value most v v' b c → GivesValue s mode key value most v v' a c
  gives_after mode key value most v v' a b c r g =
      let reads = looks_again s v a b r in
      record {
        writes = turns_after s (put_in mode key value) v v' a b c r g.writes;
        front = λ t. g.front t ∙ ap (take 256) (r.files t v.body.file);
        edits = λ m w. edits_after s v.body.file (size_for v key (put_value mode (get m key) value) + most) a b c r (g.edits m (reads.means m w));
        placed = λ m w.
            let p = g.placed m (reads.means m w) in
            record {
              was = p.was;
              stood = subst (λ (l : List ℕ). Stands v.body.head v.body.pool.size (frees v.body.pool) m key l p.was) (r.files w.0 v.body.file) p.stood;
              place = p.place;
              allocates = p.allocates;
              stands = p.stands;
              beside = subst (λ (l : List ℕ). FewBeside p.place (size_for v key (put_value mode (get m key) value)) most l (s.now c v.body.file)) (r.files w.0 v.body.file) p.beside;
              long = p.long ∙ ap (λ (l : List ℕ). max (length l) (p.place + size_for v key (put_value mode (get m key) value))) (r.files w.0 v.body.file);
            };
      }

  pub new_after : (key value : List ℕ) (v v' : Hash S) (a b c : S) → OnlyReads s a b → GivesNew s key value v v' b c → GivesNew s key value v v' a c
  new_after key value v v' a b c r g = record { gives = gives_after Over key value 13 v v' a b c r g.gives; place = g.place; takes = g.takes }

  its_after : (key : List ℕ) (v : Hash S) (a b c : S) (m : Map) (size : ℕ) → s.tells → OnlyReads s a b → LacksIts s v key m b c size → LacksIts s v key m a c size
  its_after key v a b c m size t r its = record {
    brought = its.brought;
    held = its.held;
    none = its.none;
    since = subst (λ (bytes : List ℕ). WantsFrom v key m bytes size its.held its.none.own) (r.files t v.body.file) its.since;
  }

  pub lacks_after : (mode : Mode) (key value : List ℕ) (v : Hash S) (a b c : S) → OnlyReads s a b → LacksBlock s mode key value v b c → LacksBlock s mode key value v a c
  lacks_after mode key value v a b c r l = record {
    spoiled = l.spoiled;
    wants = λ m w. ⊎_elim (λ log. inl log) (λ its. inr (its_after key v a b c m (size_for v key (put_value mode (get m key) value)) w.0 r its)) (l.wants m ((looks_again s v a b r).means m w));
  }

  -- the value that was given is the one that the mode makes
  pub gives_as : (mode : Mode) (key value x : List ℕ) (most : ℕ) (v v' : Hash S) (a b : S) → ((m : Map) → Means s v a m → x ≡ put_value mode (get m key) value) → GivesValue s Over key x most v v' a b → GivesValue s mode key value most v v' a b
  gives_as mode key value x most v v' a b each g = record {
    writes = record {
      sound = g.writes.sound;
      means = λ m w. subst (λ (y : List ℕ). Means s v' b (insert m key y)) (each m w) (g.writes.means m w);
      others = g.writes.others;
    };
    front = g.front;
    edits = λ m w. subst (λ (y : List ℕ). Edits s v.body.file (size_for v key y + most) a b) (each m w) (g.edits m w);
    placed = λ m w. subst (λ (y : List ℕ). IsPlaced s key (size_for v key y) most m (insert m key y) v v' a b) (each m w) (g.placed m w);
  }

  pub lacks_as : (mode : Mode) (key value x : List ℕ) (v : Hash S) (a b : S) → ((m : Map) → Means s v a m → x ≡ put_value mode (get m key) value) → LacksBlock s Over key x v a b → LacksBlock s mode key value v a b
  lacks_as mode key value x v a b each l = record { spoiled = l.spoiled; wants = λ m w. subst (λ (y : List ℕ). s.log_full b ⊎ LacksIts s v key m a b (size_for v key y)) (each m w) (l.wants m w) }

  -- none is to be had in a file beside a map, with these free blocks
  abbrev HasNoneOf : S → Pool → Map → Head → ℕ → ℕ → Type 0
  HasNoneOf b pool m head file size = (x : HasNoBlock (s.limit b file) (s.now b file) head m size) × (x.own ≡ pool)

  -- in one that is as it was, with those that are held in memory
  no_block : (h : Hash S) (a b : S) (m : Map) (size : ℕ) → Means s h a m → s.now b h.body.file ≡ s.now a h.body.file → IsRefusedFor h.body.head h.body.pool.size (frees h.body.pool) (s.limit b h.body.file) (length (s.now b h.body.file)) size
      → HasNoneOf b h.body.pool m h.body.head h.body.file size
  no_block h a b m size w same why =
      let x : HasNoBlock (s.limit b h.body.file) (s.now b h.body.file) h.body.head m size = record {
        own = h.body.pool;
        has = subst (λ (bytes : List ℕ). HasMap h.body.head h.body.pool.size (frees h.body.pool) m bytes) (sym same) w.1.map.has;
        numbers = subst (λ (bytes : List ℕ). IsNumbered h.body.head bytes) (sym same) w.1.numbers;
        refused = why;
      } in (x, refl)

  -- with the map and the free blocks that are held
  lacks_as_held : (key : List ℕ) (h : Hash S) (a b : S) (m : Map) (size : ℕ) → Means s h a m → (get m key ≡ None) ⊎ (2 ^ 30 < size) → Brought s h.body.file a b → IsRefusedFor h.body.head h.body.pool.size (frees h.body.pool) (s.limit b h.body.file) (length (s.now b h.body.file)) size
      → LacksIts s h key m a b size
  lacks_as_held key h a b m size w so still why =
      let none = no_block h a b m size w (still.same w.0) why in
      record { brought = still.brought; held = m; none = none.0; since = inl (record { why = so; map = refl; pool = none.1 }) }

  -- no block for a key that isn't held
  pub lacks_fresh : (key value : List ℕ) (v : Hash S) (a b : S) → s.flag b ≡ false → ((m : Map) → Means s v a m → get m key ≡ None) → (s.tells → LacksRoom s v.body a b (size_for v key value)) → LacksBlock s Over key value v a b
  lacks_fresh key value v a b spoiled fresh l = record {
    spoiled = spoiled;
    wants = λ m w. ⊎_elim (λ log. inl log) (λ why. inr (lacks_as_held key v a b m (size_for v key value) w (inl (fresh m w)) why.0 why.1)) (l w.0);
  }

  -- the block would be too large
  pub lacks_large : (mode : Mode) (key value : List ℕ) (v : Hash S) (a b : S) → s.flag b ≡ false → Brought s v.body.file a b → ((m : Map) → Means s v a m → 2 ^ 30 < size_for v key (put_value mode (get m key) value)) → LacksBlock s mode key value v a b
  lacks_large mode key value v a b spoiled still big = record {
    spoiled = spoiled;
    wants = λ m w. inr (lacks_as_held key v a b m (size_for v key (put_value mode (get m key) value)) w (inr (big m w)) still (inl (big m w)));
  }

  -- the log is full
  pub lacks_log : (mode : Mode) (key value : List ℕ) (v : Hash S) (a b : S) → s.flag b ≡ false → (s.tells → s.log_full b) → LacksBlock s mode key value v a b
  lacks_log mode key value v a b spoiled full = record { spoiled = spoiled; wants = λ m w. inl (full w.0) }

  -- as the trait has it
  pub full_put : (mode : Mode) (key value : List ℕ) (v : Hash S) (a b : S) → LacksFor s mode key value v a b → FullPut s (Means s) (LacksRecordOf s) mode key value v a b
  full_put mode key value v a b l = record {
    free = l.free;
    by = λ m w. ⊎_elim (λ log. inl log) (λ wants. inr (record { held = m; means = w; wants = wants })) (l.block.wants m w);
  }

  -- ---- of the steps on a record

  -- a record was hung
  pub gives_new : (key value : List ℕ) (to : Parent) (v v' : Hash S) (a b : S) → StaysBody v.body v'.body → v'.front ≡ v.front → v'.records ≡ v.records + 1 → IsGap s v.body key a to → PutsNew s key value v.body v'.body a b → GivesValue s Over key value 13 v v' a b
  gives_new key value to v v' a b stays ef counted gap p = record {
    writes = turned s (put_in Over key value) (size_for v key value + 13) v v' a b stays ef p.puts.sound p.puts.spares (λ t m has. (p.puts.map t m has).holds.has)
        (λ m w. counted ∙ count_in v.body.head v.body.pool.size (frees v.body.pool) m (s.now a v.body.file) key valid w.1.map.has to value v.records (gap w.0) w.1.map.count);
    front = λ t. (p.puts.spares.front t).head;
    edits = λ m w. p.puts.spares.edits;
    placed = λ m w. record {
      was = None;
      stood = no_value v.body.head v.body.pool.size (frees v.body.pool) m (s.now a v.body.file) key valid w.1.map.has to (gap w.0);
      place = p.place;
      allocates = p.takes;
      stands = p.puts.map w.0 m w.1.map.has;
      beside = p.puts.beside w.0;
      long = p.puts.long w.0;
    };
  }
    where
      valid : IsValid v.body.head
      valid = is_valid v.body.head v.body.valid

  -- a record was written over in its block
  pub gives_over : (key value : List ℕ) (place : Place) (room : ℕ) (v v' : Hash S) (a b : S) → StaysBody v.body v'.body → v'.front ≡ v.front → v'.records ≡ v.records → IsFound s v.body key a place → HasRoom s v.body place.at room a → size_for v key value ≤ room
      → PutsAt s key value place.at 5 v.body v'.body a b → Shortens (size_for v key value) place.at room v.body.pool v'.body.pool → GivesValue s Over key value 5 v v' a b
  gives_over key value place room v v' a b stays ef counted found block enough p shortens = record {
    writes = turned s (put_in Over key value) (size_for v key value + 5) v v' a b stays ef p.sound p.spares (λ t m has. (p.map t m has).holds.has)
        (λ m w. counted ∙ count_same v.body.head v.body.pool.size (frees v.body.pool) m (s.now a v.body.file) key valid w.1.map.has place.at place.from value v.records (found.here w.0) w.1.map.count);
    front = λ t. (p.spares.front t).head;
    edits = λ m w. p.spares.edits;
    placed = λ m w. record {
      was = Some (place.at, room);
      stood = stood v.body.head v.body.pool.size (frees v.body.pool) m (s.now a v.body.file) key valid w.1.map.has place.at place.from (found.here w.0) room (block w.0);
      place = place.at;
      allocates = inl (record { enough = enough; same = refl; shortens = shortens });
      stands = p.map w.0 m w.1.map.has;
      beside = p.beside w.0;
      long = p.long w.0;
    };
  }
    where
      valid : IsValid v.body.head
      valid = is_valid v.body.head v.body.valid

  -- a record was taken out
  pub takes_out : (key : List ℕ) (place : Place) (room : ℕ) (v v' : Hash S) (a b : S) → StaysBody v.body v'.body → v'.front ≡ v.front → v'.records ≡ v.records - 1 → IsFound s v.body key a place → MapsBy s (out_of key) 21 v.body v'.body a b → Gives place.at room v.body.pool v'.body.pool
      → TakesRecord s key place.at room v v' a b
  takes_out key place room v v' a b stays ef counted found maps gives = record {
    writes = turned s (out_of key) 21 v v' a b stays ef maps.sound maps.spares maps.map
        (λ m w. counted ∙ count_out v.body.head v.body.pool.size (frees v.body.pool) m (s.now a v.body.file) key (is_valid v.body.head v.body.valid) w.1.map.has place.at place.from v.records (found.here w.0) w.1.map.count);
    edits = maps.spares.edits;
    gives = gives;
    head = stays.head;
    front = λ t. (maps.spares.front t).head;
    long = maps.long;
  }

  -- ---- a record taken out, and the key put again

  pub sized_same : (key value : List ℕ) (v v' : Hash S) → v'.body.head ≡ v.body.head → size_for v' key value ≡ size_for v key value
  sized_same key value v v' e = ap (λ (h : Head). block_len (width h) key value (unit h)) e

  -- a key that isn't held gets a block from the pool as it is
  pub takes_fresh : (key : List ℕ) (size most : ℕ) (m n : Map) (v v' : Hash S) (a b : S) → get m key ≡ None → (p : IsPlaced s key size most m n v v' a b) → Takes (reach v.body.head) v.body.pool v'.body.pool size p.place
  takes_fresh key size most m n v v' a b none p = go p.was p.stood p.allocates
    where
      go : (was : Option (ℕ × ℕ)) → Stands v.body.head v.body.pool.size (frees v.body.pool) m key (s.now a v.body.file) was → Allocates (reach v.body.head) size p.place was v.body.pool v'.body.pool → Takes (reach v.body.head) v.body.pool v'.body.pool size p.place
      go None stands takes = takes
      go (Some is) at takes = absurd (let e : None ≡ Some at.r.value = sym none ∙ (at.has.is.map key at.r.value).1 (is.0, at.r, at.there, at.key_is, refl) in cc)

  pub gives_again : (key value : List ℕ) (at size : ℕ) (v w u : Hash S) (a b c : S) → w.body.file ≡ v.body.file → size < size_for v key value → ((m : Map) → Means s v a m → HoldsAt v.body.head v.body.pool.size (frees v.body.pool) m key at size (s.now a v.body.file))
      → TakesRecord s key at size v w a b → GivesValue s Over key value 13 w u b c → GivesValue s Over key value 34 v u a c
  gives_again key value at size v w u a b c same few stood t g = record {
    writes = record {
      sound = g.writes.sound;
      means = λ m h. subst (λ (x : Map). Means s u c x) (insert_again m key value) (g.writes.means (remove m key) (t.writes.means m h));
      others = others_then s (Only v.body.file) a b c t.writes.others (subst (λ (f : ℕ). Others s (Only f) b c) same g.writes.others);
    };
    front = λ x. subst (λ (f : ℕ). take 256 (s.now c f) ≡ take 256 (s.now b f)) same (g.front x) ∙ t.front x;
    edits = λ m h.
        let n : ℕ = size_for v key value in
        let e = subst (λ (k : ℕ). Edits s w.body.file (k + 13) b c) (sized_same key value v w t.head) (g.edits (remove m key) (t.writes.means m h)) in
        edits_then s v.body.file 21 (n + 13) (n + 34) a b c (omega arith) t.edits (subst (λ (f : ℕ). Edits s f (n + 13) b c) same e);
    placed = λ m h.
        let k : Map = remove m key in
        let long = sized_same key value v w t.head in
        let p = g.placed k (t.writes.means m h) in
        record {
          was = Some (at, size);
          stood = stood m h;
          place = p.place;
          allocates = inr (record {
            few = few;
            middle = w.body.pool;
            gives = t.gives;
            takes = subst (λ (x : Head). Takes (reach x) w.body.pool u.body.pool (size_for v key value) p.place) t.head (subst (λ (n : ℕ). Takes (reach w.body.head) w.body.pool u.body.pool n p.place) long (takes_fresh key (size_for w key value) 13 k (insert k key value) w u b c (remove_here m key) p));
          });
          stands =
              subst (λ (x : Map). HoldsWritten v.body.head u.body.pool.size (frees u.body.pool) x key p.place (size_for v key value) (s.now c v.body.file)) (insert_again m key value)
              (subst (λ (f : ℕ). HoldsWritten v.body.head u.body.pool.size (frees u.body.pool) (insert k key value) key p.place (size_for v key value) (s.now c f)) same
              (subst (λ (n : ℕ). HoldsWritten v.body.head u.body.pool.size (frees u.body.pool) (insert k key value) key p.place n (s.now c w.body.file)) long
              (subst (λ (x : Head). HoldsWritten x u.body.pool.size (frees u.body.pool) (insert k key value) key p.place (size_for w key value) (s.now c w.body.file)) t.head p.stands)));
          beside = beside_after p.place (size_for v key value) 21 13 34 (s.now a v.body.file) (s.now b v.body.file) (s.now c v.body.file) (omega arith) (t.edits.few h.0)
              (subst (λ (f : ℕ). FewBeside p.place (size_for v key value) 13 (s.now b f) (s.now c f)) same
              (subst (λ (n : ℕ). FewBeside p.place n 13 (s.now b w.body.file) (s.now c w.body.file)) long p.beside));
          long =
              subst (λ (l : ℕ). length (s.now c v.body.file) ≡ max l (p.place + size_for v key value)) (t.long h.0)
              (subst (λ (f : ℕ). length (s.now c f) ≡ max (length (s.now b f)) (p.place + size_for v key value)) same
              (subst (λ (n : ℕ). length (s.now c w.body.file) ≡ max (length (s.now b w.body.file)) (p.place + n)) long p.long));
        };
  }

  -- nor behind the one that gave its block back
  pub lacks_again : (key value : List ℕ) (at size : ℕ) (v w : Hash S) (a b c : S) → w.body.file ≡ v.body.file → s.flag c ≡ false → size < size_for v key value → ((m : Map) → Means s v a m → HoldsAt v.body.head v.body.pool.size (frees v.body.pool) m key at size (s.now a v.body.file))
      → TakesRecord s key at size v w a b → (s.tells → LacksRoom s w.body b c (size_for w key value)) → LacksBlock s Over key value v a c
  lacks_again key value at size v w a b c same spoiled few stood t l = record {
    spoiled = spoiled;
    wants = λ m h. ⊎_elim
        (λ log. inl log)
        (λ why.
        let none = moved (out_of key m) (no_block w b c (out_of key m) (size_for w key value) (t.writes.means m h) (why.0.same h.0) why.1) in
        inr (record {
          brought = why.0.brought;
          held = out_of key m;
          none = none.0;
          since = inr (record { at = at; room = size; stood = stood m h; few = few; map = refl; gives = subst (λ (p : Pool). Gives at size v.body.pool p) (sym none.1) t.gives });
        }))
        (l h.0);
  }
    where
      moved : (m : Map) → HasNoneOf c w.body.pool m w.body.head w.body.file (size_for w key value) → HasNoneOf c w.body.pool m v.body.head v.body.file (size_for v key value)
      moved m none =
          subst (λ (x : Head). HasNoneOf c w.body.pool m x v.body.file (block_len (width x) key value (unit x))) t.head
          (subst (λ (f : ℕ). HasNoneOf c w.body.pool m w.body.head f (size_for w key value)) same none)

pub stays_then : {S : Type 0} (u v w : Hash S) → StaysOpen u v → StaysOpen v w → StaysOpen u w
stays_then u v w first second = record {
  map = record { file = second.map.file ∙ first.map.file; sort_same = second.map.sort_same ∙ first.map.sort_same; region_same = second.map.region_same ∙ first.map.region_same; gets_same = second.map.gets_same ∙ first.map.gets_same };
  head = second.head ∙ first.head;
}

-- a key without a record wants its block as the file is held
pub its_fresh : {S : Type 0} (s : Ghosts S) (h : Hash S) (key : List ℕ) (m : Map) (a b : S) (size : ℕ) (its : LacksIts s h key m a b size) → get m key ≡ None → WantsAsHeld h key m size its.held its.none.own
its_fresh s h key m a b size its fresh = ⊎_elim
    (λ (is : WantsAsHeld h key m size its.held its.none.own). is)
    (λ (larger : WantsLarger h key m (s.now a h.body.file) size its.held its.none.own).
    absurd (let x = larger.stood in let e : None ≡ Some x.r.value = sym fresh ∙ (x.has.is.map key x.r.value).1 (larger.at, x.r, x.there, x.key_is, refl) in cc))
    its.since
