-- What a put and an out answer.
use Rattle.std.proofs.Common.{◌≡◌, ◌∙◌, inl, inr, Bool, IsTrue, ◌↔◌, ℕ, ◌+◌, ◌^◌, ◌<◌, ◌≤◌, List, length, length-append, take, sym, ap, subst, arith, refl, Option, None, Some}
use Rattle.std.specs.Prelude.{option_map, is_some, true, false}
use Rattle.std.specs.FinMap.{get}
use Rattle.std.proofs.lemmas.Bool.{cases_lt}
use Rattle.tc_base.specs.Maps.{Map}
use Rattle.tc_base.specs.declared.kind.Mode.{Mode}
use Rattle.tc_base.specs.declared.kind.Mode.TheVariants.{Over, Keep, Cat}
use Rattle.tc_space.specs.Changes.{out_of, put_in, put_value, value_in}
use Rattle.tc_space.specs.Stores.{Only, Puts}
use Rattle.tc_space.specs.Frames.{Brought, OnlyReads, only_reads_refl, reads_then}
use Rattle.tc_space.specs.declared.space.Space.{Ghosts}
use Rattle.hf_chain.specs.declared.finding.Place.{Place}
use Rattle.hf_tree.specs.declared.parent.Parent.{Parent}
use Rattle.hf_record.specs.Searching.{IsFound, IsGap}
use Rattle.hf_pool.specs.Pools.{frees}
use Rattle.hf_record.specs.Allocating.{HoldsAt}
use Rattle.hf_record.specs.Moves.{HasRoom, LacksRoom}
use Rattle.hf_record.proofs.Differ.{edits_after}
use Rattle.hf_record.proofs.Records.{is_there, no_value, stood}
use Rattle.hf_record.proofs.Searched.{found_len}
use Rattle.hf_record.proofs.Valid.{is_valid}
use Rattle.tc_hash.specs.declared.hash.Hash.{Hash}
use Rattle.tc_hash.specs.declared.put.Put.{Put}
use Rattle.tc_hash.specs.declared.put.Put.TheVariants as put
use Rattle.tc_hash.specs.Keeping.{GivesValue, LacksBlock, Means, TakesRecord, file_of, size_for}
use Rattle.tc_hash.specs.Putting.{Answers, IsKept, IsValueTooLong, LacksFor, LacksWithin, PutsValue, StoresWithin, TakesLen}
use Rattle.tc_hash.proofs.Records.{looks_again, means_after, turns_after}
use Rattle.tc_hash.proofs.Stored.{gives_after, gives_as, gives_more, lacks_after, lacks_as, lacks_fresh, lacks_large, put_fresh}

-- the bytes of a value with more behind it
pub joined_long : (mode : Mode) (was : ℕ) (o : Option (List ℕ)) (value : List ℕ) → mode ≡ Cat → Some was ≡ option_map length o → length (put_value mode o value) ≡ was + length value
joined_long Over was o value e is = absurd cc
joined_long Keep was o value e is = absurd cc
joined_long Cat was None value e is = absurd (let f : Some was ≡ None = is in cc)
joined_long Cat was (Some old) value e is = let f : Some was ≡ Some (length old) = is in let g : was ≡ length old = cc in omega (arith, g, length-append old value)

pub over_long : (mode : Mode) (o : Option (List ℕ)) (value : List ℕ) → mode ≡ Over → length (put_value mode o value) ≡ length value
over_long Over o value e = refl
over_long Keep o value e = absurd cc
over_long Cat o value e = absurd cc

pub not_fitting : (b : Bool) (n most : ℕ) → b ≡ false → (IsTrue b ↔ (n ≤ most)) → most < n
not_fitting b n most e iff = elim (cases_lt most n) [
  | inl past ↦ past
  | inr fits ↦ absurd (let t : b ≡ true = iff.1 fits in let f : true ≡ false = sym t ∙ e in cc)
]

module _ {S : Type 0} (s : Ghosts S) (mode : Mode) (key value : List ℕ) (most : ℕ) where
  -- ---- where the key would hang

  module _ (v v' : Hash S) (a b : S) (to : Parent) (gap : IsGap s v.body key a to) where
    none : (m : Map) → Means s v a m → get m key ≡ None
    none m w = no_value v.body.head v.body.pool.size _ m (s.now a v.body.file) key (is_valid v.body.head v.body.valid) w.1.map.has to (gap w.0)

    pub stores_new : length value ≤ most → GivesValue s Over key value 13 v v' a b → StoresWithin s mode key value most None v v' a b
    stores_new few g =
        let all = gives_as s mode key value value 512 v v' a b (λ m w. put_fresh mode (get m key) value (none m w)) (gives_more s Over key value 13 512 v v' a b (omega arith) g) in
        record {
          puts = (record { writes = all.writes; absent = λ keep m w. none m w }, all);
          was_is = λ m w. sym (ap (λ (o : Option (List ℕ)). option_map length o) (none m w));
          fits = λ m w. subst (λ (x : List ℕ). length x ≤ most) (put_fresh mode (get m key) value (none m w)) few;
        }

    pub past_new : s.sound a → most < length value → IsValueTooLong s mode key value most v v a a
    past_new sound past = record {
      long = λ m w. subst (λ (x : List ℕ). most < length x) (put_fresh mode (get m key) value (none m w)) past;
      free = λ keep m w. none m w;
      looks = looks_again s v a a (only_reads_refl s a sound);
    }

    pub lacks_there : s.flag b ≡ false → (s.tells → LacksRoom s v.body a b (size_for v key value)) → LacksBlock s Over key value v a b
    lacks_there spoiled l = lacks_fresh s key value v a b spoiled none l

    pub lacks_new : length value ≤ most → LacksBlock s Over key value v a b → LacksWithin s mode key value most v a b
    lacks_new few l = record {
      lacks = record { free = λ keep m w. none m w; block = lacks_as s mode key value value v a b (λ m w. put_fresh mode (get m key) value (none m w)) l };
      fits = λ m w. subst (λ (x : List ℕ). length x ≤ most) (put_fresh mode (get m key) value (none m w)) few;
    }

  -- ---- where it was found

  module _ (v v' : Hash S) (a b : S) (place : Place) (found : IsFound s v.body key a place) where
    pub was_len : s.sound a → (m : Map) → Means s v a m → Some place.rec.value ≡ option_map length (get m key)
    was_len sound m w = found_len s v.body key a a place m w.0 (only_reads_refl s a sound) w.1.map.has found

    -- it is kept
    pub keeps_held : s.sound a → mode ≡ Keep → IsKept s mode key v v a a
    keeps_held sound keep = record {
      keep = keep;
      there = λ m w. is_there v.body.head v.body.pool.size _ m (s.now a v.body.file) key (is_valid v.body.head v.body.valid) w.1.map.has place.at place.from (found.here w.0);
      reads = looks_again s v a a (only_reads_refl s a sound);
    }

    -- or it was given a value that has so many bytes
    pub stores_held : s.sound a → (mode ≡ Keep → ⊥) → ((m : Map) → Means s v a m → length (put_value mode (get m key) value) ≤ most) → GivesValue s mode key value 34 v v' a b → StoresWithin s mode key value most (Some place.rec.value) v v' a b
    stores_held sound other fits g =
        let all = gives_more s mode key value 34 512 v v' a b (omega arith) g in
        record {
          puts = (record { writes = all.writes; absent = λ keep. absurd (other keep) }, all);
          was_is = was_len sound;
          fits = fits;
        }

    pub lacks_held : (mode ≡ Keep → ⊥) → ((m : Map) → Means s v a m → length (put_value mode (get m key) value) ≤ most) → LacksBlock s mode key value v a b → LacksWithin s mode key value most v a b
    lacks_held other fits l = record { lacks = record { free = λ keep. absurd (other keep); block = l }; fits = fits }

    pub past_held : s.sound a → (mode ≡ Keep → ⊥) → ((m : Map) → Means s v a m → most < length (put_value mode (get m key) value)) → IsValueTooLong s mode key value most v v a a
    past_held sound other past = record { long = past; free = λ keep. absurd (other keep); looks = looks_again s v a a (only_reads_refl s a sound) }

  -- ---- by what it did

  pub stored_so : (p : Put) (was : Option ℕ) (v v' : Hash S) (a b : S) → p ≡ put.Stored was → Answers s mode key value most p v v' a b → StoresWithin s mode key value most was v v' a b
  stored_so p was v v' a b e x = subst (λ (q : Put). Answers s mode key value most q v v' a b) e x

  pub held_so : (p : Put) (v v' : Hash S) (a b : S) → p ≡ put.Held → Answers s mode key value most p v v' a b → IsKept s mode key v v' a b
  held_so p v v' a b e x = subst (λ (q : Put). Answers s mode key value most q v v' a b) e x

  pub long_so : (p : Put) (v v' : Hash S) (a b : S) → p ≡ put.TooLong → Answers s mode key value most p v v' a b → IsValueTooLong s mode key value most v v' a b
  long_so p v v' a b e x = subst (λ (q : Put). Answers s mode key value most q v v' a b) e x

  -- no block has so many bytes
  pub lacks_long : (v v' : Hash S) (a b c : S) → most ≡ 2 ^ 30 → s.flag c ≡ false → Brought s v.body.file b c → IsValueTooLong s mode key value most v v' a b → LacksFor s mode key value v a c
  lacks_long v v' a b c e spoiled still x = record {
    free = x.free;
    block = lacks_large s mode key value v a c spoiled (record { brought = still.brought; same = λ t. still.same t ∙ x.looks.now t v.body.file }) (λ m w. omega (arith, e, x.long m w));
  }

  -- ---- behind what only reads

  pub lacks_behind : (v : Hash S) (a b c : S) → OnlyReads s a b → LacksWithin s mode key value most v b c → LacksWithin s mode key value most v a c
  lacks_behind v a b c r x = record {
    lacks = record { free = λ keep m w. x.lacks.free keep m (means_after s v a b m r w); block = lacks_after s mode key value v a b c r x.lacks.block };
    fits = λ m w. x.fits m (means_after s v a b m r w);
  }

  pub answers_after : (p : Put) (v v' : Hash S) (a b c : S) → OnlyReads s a b → Answers s mode key value most p v v' b c → Answers s mode key value most p v v' a c
  answers_after (put.Stored was) v v' a b c r x = record {
    puts = (record { writes = turns_after s (put_in mode key value) v v' a b c r x.puts.0.writes; absent = λ keep m w. x.puts.0.absent keep m (means_after s v a b m r w) }, gives_after s mode key value 512 v v' a b c r x.puts.1);
    was_is = λ m w. x.was_is m (means_after s v a b m r w);
    fits = λ m w. x.fits m (means_after s v a b m r w);
  }
  answers_after put.Held v v' a b c r x = record {
    keep = x.keep;
    there = λ m w. x.there m (means_after s v a b m r w);
    reads = reads_then s (Means s) v v v' a b c (looks_again s v a b r) x.reads;
  }
  answers_after put.TooLong v v' a b c r x = record {
    long = λ m w. x.long m (means_after s v a b m r w);
    free = λ keep m w. x.free keep m (means_after s v a b m r w);
    looks = reads_then s (Means s) v v v' a b c (looks_again s v a b r) x.looks;
  }

-- ---- a key taken out

module _ {S : Type 0} (s : Ghosts S) (key : List ℕ) where
  pub takes_len : (place : Place) (room : ℕ) (v v' : Hash S) (a b c : S) → OnlyReads s a b → IsFound s v.body key b place → HasRoom s v.body place.at room b → TakesRecord s key place.at room v v' b c → TakesLen s key (Some place.rec.value) v v' a c
  takes_len place room v v' a b c r found block t =
      let was : (m : Map) → Means s v a m → Some place.rec.value ≡ option_map length (get m key) = λ m w. found_len s v.body key a b place m w.0 r w.1.map.has found in
      record {
        was_is = was;
        out = record {
          held = λ m w. is_length (get m key) (was m w);
          out = λ is. turns_after s (out_of key) v v' a b c r t.writes;
          none = λ is. absurd cc;
        };
        own = λ is m w. record {
          at = place.at;
          size = room;
          stood = subst (λ (l : List ℕ). HoldsAt v.body.head v.body.pool.size (frees v.body.pool) m key place.at room l) (r.files w.0 v.body.file)
              (stood v.body.head v.body.pool.size (frees v.body.pool) m (s.now b v.body.file) key (is_valid v.body.head v.body.valid) (means_after s v a b m r w).1.map.has place.at place.from (found.here w.0) room (block w.0));
          takes = record {
            writes = turns_after s (out_of key) v v' a b c r t.writes;
            edits = edits_after s v.body.file 21 a b c r t.edits;
            gives = t.gives;
            head = t.head;
            front = λ tells. t.front tells ∙ ap (take 256) (r.files tells v.body.file);
            long = λ tells. t.long tells ∙ ap length (r.files tells v.body.file);
          };
        };
      }
    where
      is_length : (o : Option (List ℕ)) → Some place.rec.value ≡ option_map length o → true ≡ is_some o
      is_length None e = absurd (let f : Some place.rec.value ≡ None = e in cc)
      is_length (Some x) e = refl

  pub takes_none : (to : Parent) (v : Hash S) (a b : S) → OnlyReads s a b → IsGap s v.body key b to → TakesLen s key None v v a b
  takes_none to v a b r gap =
      let none : (m : Map) → Means s v a m → get m key ≡ None = λ m w. no_value v.body.head v.body.pool.size _ m (s.now b v.body.file) key (is_valid v.body.head v.body.valid) (means_after s v a b m r w).1.map.has to (gap w.0) in
      record {
        was_is = λ m w. sym (ap (λ (o : Option (List ℕ)). option_map length o) (none m w));
        out = record {
          held = λ m w. sym (ap (λ (o : Option (List ℕ)). is_some o) (none m w));
          out = λ is. absurd cc;
          none = λ is. looks_again s v a b r;
        };
        own = λ is. absurd cc;
      }

-- as the trait has it
module _ {S : Type 0} (s : Ghosts S) where
  pub puts_of : (mode : Mode) (key value : List ℕ) (v v' : Hash S) (a b : S) → PutsValue s mode key value v v' a b → Puts s (Only (file_of v)) (Means s) mode (value_in key) (put_in mode key value) v v' a b
  puts_of mode key value v v' a b given = given.0
