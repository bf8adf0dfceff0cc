-- Calls on the records of a hash file that is held open, made of steps.
use Rattle.std.proofs.Common.{◌≡◌, ◌∙◌, ◌⊎◌, inl, inr, ⊎_elim, ℕ, ◌^◌, ◌<◌, List, length, refl, sym, ap, subst, Option, false}
use Rattle.std.specs.FinMap.{get, len}
use Rattle.tc_base.specs.Maps.{Map}
use Rattle.tc_space.specs.Frames.{OnlyReads, reads_writes, refuses_then}
use Rattle.tc_space.specs.Stores.{Only, ready_reads}
use Rattle.tc_space.specs.declared.space.Space.{Ghosts}
use Rattle.hf_head.specs.declared.head.Head.{Head}
use Rattle.hf_pool.specs.Pools.{frees as frees_in}
use Rattle.hf_record.specs.declared.body.Body.{Body}
use Rattle.hf_record.specs.Changing.{CanChange, StaysBody}
use Rattle.hf_record.specs.Costs.{Spares}
use Rattle.hf_record.specs.Holding.{Has, HasMap, IsSearched}
use Rattle.hf_record.specs.Searching.{IsFound}
use Rattle.hf_tree.specs.declared.parent.Found.TheVariants.{Here}
use Rattle.hf_chain.specs.Heads.{IsHeadOf}
use Rattle.hf_chain.specs.declared.finding.Place.{Place}
use Rattle.hf_record.proofs.Valid.{is_valid}
use Rattle.tc_hash.specs.declared.front.Front.{Front}
use Rattle.tc_hash.specs.declared.hash.Hash.{Hash}
use Rattle.tc_hash.specs.Fronts.{ShowsFrees, ShowsFront}
use Rattle.tc_hash.specs.Holding.{Holds, HoldsFile, IsNumbered}
use Rattle.tc_hash.specs.Keeping.{CanCall, Looks, Means, Refused, Turns, holds}
use Rattle.tc_hash.proofs.Fronted.{frees_shown, numbers_left, section_same, shows_same}

-- ---- what is held

-- by its parts
abbrev Parts : Body → ℕ → Option Front → List ℕ → Map → Type 0
Parts b r f bytes m = Holds b.head b.pool.size (frees_in b.pool) r m bytes × ShowsFront b.head f bytes × ShowsFrees b.head b.pool bytes × IsNumbered b.head bytes

module _ {S : Type 0} (s : Ghosts S) where
  pub same_holds : (v v' : Hash S) (x y : List ℕ) (m : Map) → v'.body ≡ v.body → v'.records ≡ v.records → v'.front ≡ v.front → y ≡ x → holds v x m → holds v' y m
  same_holds v v' x y m eb er ef e h =
      let p : Parts v.body v.records v.front x m = (h.map, h.front, h.listed, h.numbers) in
      let q = subst (λ (z : Body). Parts z v'.records v'.front y m) (sym eb) (subst (λ (z : ℕ). Parts v.body z v'.front y m) (sym er) (subst (λ (z : Option Front). Parts v.body v.records z y m) (sym ef) (subst (λ (z : List ℕ). Parts v.body v.records v.front z m) (sym e) p))) in
      record { map = q.0; front = q.1; listed = q.2; numbers = q.3 }

  -- nothing is written, and what is held in memory stays
  pub looks_only : (v v' : Hash S) (a b : S) → v'.body ≡ v.body → v'.records ≡ v.records → v'.front ≡ v.front → OnlyReads s a b → Looks s v v' a b
  looks_only v v' a b eb er ef r = record {
    now = r.files;
    touched = r.untouched;
    sound = r.is_sound;
    means = λ m w. (w.0, same_holds v v' (s.now a v.body.file) (s.now b v'.body.file) m eb er ef (ap (λ (z : Body). s.now b z.file) eb ∙ r.files w.0 v.body.file) w.1);
  }

  pub looks_again : (v : Hash S) (a b : S) → OnlyReads s a b → Looks s v v a b
  looks_again v a b r = looks_only v v a b refl refl refl r

  pub from_looks : (v : Hash S) (a b : S) → (s.flag b ≡ false) ⊎ OnlyReads s a b → Refused s v v a b
  from_looks v a b r = ⊎_elim (λ f. inl f) (λ o. inr (looks_again v a b o)) r

  pub refuses_only : (v v' : Hash S) (a b : S) → v'.records ≡ v.records → v'.front ≡ v.front → (s.flag b ≡ false) ⊎ (OnlyReads s a b × (v'.body ≡ v.body)) → Refused s v v' a b
  refuses_only v v' a b er ef r = ⊎_elim (λ f. inl f) (λ o. inr (looks_only v v' a b o.1 er ef o.0)) r

  -- what is answered of the map of the records is so of the map that is held
  pub asked : (v : Hash S) (a : S) (key : List ℕ) (found : Option (List ℕ)) → (s.tells → (m : Map) → Has v.body (s.now a v.body.file) m → found ≡ get m key) → (m : Map) → Means s v a m → found ≡ get m key
  asked v a key found is m w = is w.0 m w.1.map.has

  -- its records may be changed
  pub can_change : (v : Hash S) (a : S) → CanCall s v a → CanChange s v.body a
  can_change v a ready = record { sound = ready.sound; held = λ t. let w = ready.held t in (w.0, w.1.1.map.has) }

  -- it may be called again
  pub still_ready : (v : Hash S) (a b : S) → OnlyReads s a b → CanCall s v a → CanCall s v b
  still_ready v a b r ready = ready_reads s (Means s) v v a b (looks_again v a b r) ready

  -- a record that was found stands there behind what only reads
  pub found_after : (b : Body) (key : List ℕ) (x y : S) (p : Place) → OnlyReads s x y → IsFound s b key x p → IsFound s b key y p
  found_after b key x y p r f = record {
    known = record {
      fits = f.known.fits;
      is = λ t. subst (λ (l : List ℕ). IsHeadOf b.head p.at l p.rec) (sym (r.files t b.file)) (f.known.is t);
      long = λ t. subst (λ (l : List ℕ). length l < 2 ^ 64) (sym (r.files t b.file)) (f.known.long t);
    };
    here = λ t. subst (λ (l : List ℕ). IsSearched b.head key (Here p.at p.from) l) (sym (r.files t b.file)) (f.here t);
  }

  pub turns_after : (f : Map → Map) (v v' : Hash S) (a b c : S) → OnlyReads s a b → Turns s f v v' b c → Turns s f v v' a c
  turns_after f v v' a b c r w = reads_writes s (Means s) (Only v.body.file) f v v v' a b c (looks_again v a b r) w

  pub refuses_after : (v v' : Hash S) (a b c : S) → OnlyReads s a b → Refused s v v' b c → Refused s v v' a c
  refuses_after v v' a b c r x = refuses_then s (Means s) v v v' a b c (looks_again v a b r) x

  -- what is held before what only reads
  pub means_after : (v : Hash S) (a b : S) (m : Map) → OnlyReads s a b → Means s v a m → Means s v b m
  means_after v a b m r w = (looks_again v a b r).means m w

  -- records were changed in the file, and the map by it
  pub turned : (f : Map → Map) (most : ℕ) (v v' : Hash S) (a b : S) → StaysBody v.body v'.body → v'.front ≡ v.front → s.sound b → Spares s most v.body v'.body a b
      → (s.tells → (m : Map) → Has v.body (s.now a v.body.file) m → HasMap v.body.head v'.body.pool.size (frees_in v'.body.pool) (f m) (s.now b v.body.file))
      → ((m : Map) → Means s v a m → v'.records ≡ len (f m)) → Turns s f v v' a b
  turned f most v v' a b stays ef sound spares map count = record {
    sound = sound;
    others = spares.edits.others;
    means = λ m w.
        let h : Head = v.body.head in
        let old : List ℕ = s.now a v.body.file in
        let new : List ℕ = s.now b v.body.file in
        let valid = is_valid h v.body.valid in
        let left = spares.front w.0 in
        let all : Holds h v'.body.pool.size (frees_in v'.body.pool) v'.records (f m) new = record { has = map w.0 m w.1.map.has; count = count m w } in
        let front : ShowsFront h v'.front new = subst (λ (o : Option Front). ShowsFront h o new) (sym ef) (shows_same h v.front old new valid left w.1.front) in
        let listed : ShowsFrees h v'.body.pool new = frees_shown h v.body.pool v'.body.pool old new spares.notes (section_same h old new valid left) w.1.listed in
        let P : Head → Type 0 = λ x. Holds x v'.body.pool.size (frees_in v'.body.pool) v'.records (f m) new × ShowsFront x v'.front new × ShowsFrees x v'.body.pool new × IsNumbered x new in
        let p : P v'.body.head = subst P (sym stays.head) (all, front, listed, numbers_left h old new left.head w.1.numbers) in
        let here : HoldsFile v' new (f m) = record { map = p.0; front = p.1; listed = p.2; numbers = p.3 } in
        (w.0, subst (λ (n : ℕ). HoldsFile v' (s.now b n) (f m)) (sym stays.file) here);
  }
