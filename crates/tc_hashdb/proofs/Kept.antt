-- What a call on the hash file does to what the engine holds.
use Rattle.std.proofs.Common.{◌≡◌, ◌∙◌, ℕ, List, take, sym, ap, subst, inl, inr, ⊎_elim}
use Rattle.std.specs.Prelude.{Option, IfSome}
use Rattle.tc_base.specs.Maps.{Map}
use Rattle.tc_maps.specs.Sizes.{size_of}
use Rattle.tc_space.specs.Frames.{In, OnlyReads, Reads, Refuses, Writes}
use Rattle.tc_space.specs.Stores.{IsReady, Only}
use Rattle.tc_space.specs.declared.space.Space.{Ghosts}
use Rattle.hf_head.specs.Heads.{head_in}
use Rattle.tc_hash.specs.declared.hash.Hash.{Hash}
use Rattle.tc_hash.specs.Keeping.{KeepsHead, ShowsRegion, file_of, holds}
use Rattle.tc_hashdb.specs.declared.holding.HashEngine.{HashEngine}
use Rattle.tc_hashdb.specs.Holding.{Means}

-- what was counted of a map
abbrev pub Counts : Option ℕ → Map → Type 0
Counts total m = IfSome total (λ n. n ≡ size_of m)

module _ {S : Type 0} (s : Ghosts S) where
  pub in_of : (e : HashEngine S) (a : S) (m : Map) → Means s e a m → In s file_of holds e.hash a m
  in_of e a m means = (means.0, subst (λ f. holds e.hash (s.now a f) m) (sym means.1.file) means.1.holds_it)

  -- the region that is held stands in the head of its file
  pub shown : (e : HashEngine S) (a : S) (m : Map) → Means s e a m → ShowsRegion e.hash (s.now a e.hash.body.file)
  shown e a m means = subst (λ f. ShowsRegion e.hash (s.now a f)) (sym means.1.file) means.1.region

  -- so it does where that head stays
  pub shows_still : (e : HashEngine S) (h : Hash S) (a b : S) (m : Map) → Means s e a m → h.region ≡ e.hash.region → KeepsHead s e.hash.body.file a b → ShowsRegion h (s.now b 0)
  shows_still e h a b m means region front = subst (λ f. ShowsRegion h (s.now b f)) means.1.file (ap (λ (l : List ℕ). (head_in l).opaque) (front means.0) ∙ (shown e a m means ∙ sym region))

  -- the head in front of one shows its region, where that of the other showed its own
  abbrev pub Shows : Hash S → Hash S → S → S → Type 0
  Shows h h' a b = s.tells → ShowsRegion h (s.now a h.body.file) → ShowsRegion h' (s.now b h'.body.file)

  -- and where it is written with it
  pub shows_by : (e : HashEngine S) (h : Hash S) (a b : S) (m : Map) → Means s e a m → h.body.file ≡ e.hash.body.file → Shows e.hash h a b → ShowsRegion h (s.now b 0)
  shows_by e h a b m means file keeps = subst (λ f. ShowsRegion h (s.now b f)) (file ∙ means.1.file) (keeps means.0 (shown e a m means))

  pub means_again : (e e' : HashEngine S) (a b : S) (m n : Map) → Means s e a m → e'.hash.body.file ≡ e.hash.body.file → e'.hash.body.head.kind ≡ e.hash.body.head.kind → In s file_of holds e'.hash b n → Counts e'.total n → ShowsRegion e'.hash (s.now b 0) → Means s e' b n
  means_again e e' a b m n means file kind held counted region = (
    held.0,
    record {
      file = file ∙ means.1.file;
      kind = kind ∙ means.1.kind;
      holds_it = subst (λ f. holds e'.hash (s.now b f) n) (file ∙ means.1.file) held.1;
      counted = counted;
      region = region;
    },
  )

  pub ready_hash : (e : HashEngine S) (a : S) → IsReady s (Means s) e a → IsReady s (In s file_of holds) e.hash a
  ready_hash e a ready = record { sound = ready.sound; held = λ t. let h = ready.held t in (h.0, in_of e a h.0 h.1) }

  pub main_file : (e : HashEngine S) (a : S) → IsReady s (Means s) e a → s.tells → e.hash.body.file ≡ 0
  main_file e a ready t = (ready.held t).1.1.file

  pub reads_again : (e e' : HashEngine S) (a b : S) → Reads s (In s file_of holds) e.hash e'.hash a b → e'.hash.body.file ≡ e.hash.body.file → e'.hash.body.head.kind ≡ e.hash.body.head.kind → e'.hash.region ≡ e.hash.region → e'.total ≡ e.total → Reads s (Means s) e e' a b
  reads_again e e' a b reads file kind region total = record {
    now = reads.now;
    touched = reads.touched;
    sound = reads.sound;
    means = λ m means. means_again e e' a b m m means file kind (reads.means m (in_of e a m means)) (subst (λ o. Counts o m) (sym total) means.1.counted)
        (shows_still e e'.hash a b m means region (λ t. ap (take 256) (reads.now t e.hash.body.file)));
  }

  pub refuses_again : (e e' : HashEngine S) (a b : S) → Refuses s (In s file_of holds) e.hash e'.hash a b → e'.hash.body.file ≡ e.hash.body.file → e'.hash.body.head.kind ≡ e.hash.body.head.kind → e'.hash.region ≡ e.hash.region → e'.total ≡ e.total → Refuses s (Means s) e e' a b
  refuses_again e e' a b refuses file kind region total = ⊎_elim (λ spoiled. inl spoiled) (λ reads. inr (reads_again e e' a b reads file kind region total)) refuses

  -- the bytes were counted
  pub reads_counted : (e e' : HashEngine S) (a b : S) → OnlyReads s a b → e'.hash ≡ e.hash → ((m : Map) → Means s e a m → Counts e'.total m) → Reads s (Means s) e e' a b
  reads_counted e e' a b reads same counted = record {
    now = reads.files;
    touched = reads.untouched;
    sound = reads.is_sound;
    means = λ m means. means_again e e' a b m m means (ap (λ h. h.body.file) same) (ap (λ h. h.body.head.kind) same)
        (means.0, subst (λ (h : Hash S). holds h (s.now b h.body.file) m) (sym same) (subst (λ bytes. holds e.hash bytes m) (sym (reads.files means.0 e.hash.body.file)) (in_of e a m means).1))
        (counted m means)
        (shows_still e e'.hash a b m means (ap (λ (h : Hash S). h.region) same) (λ t. ap (take 256) (reads.files t e.hash.body.file)));
  }

  pub writes_again : (f : Map → Map) (e e' : HashEngine S) (a b : S) → IsReady s (Means s) e a → Writes s (Only (file_of e.hash)) (In s file_of holds) f e.hash e'.hash a b → e'.hash.body.file ≡ e.hash.body.file → e'.hash.body.head.kind ≡ e.hash.body.head.kind → ((m : Map) → Means s e a m → Counts e'.total (f m)) → ((m : Map) → Means s e a m → ShowsRegion e'.hash (s.now b 0)) → Writes s (Only 0) (Means s) f e e' a b
  writes_again f e e' a b ready writes file kind counted region = record {
    sound = writes.sound;
    means = λ m means. means_again e e' a b m (f m) means file kind (writes.means m (in_of e a m means)) (counted m means) (region m means);
    others = record { same = λ t g other. writes.others.same t g (λ is. other (is ∙ main_file e a ready t)) };
  }
