-- What is held in memory, brought to the file.
use Rattle.std.proofs.Common.{◌≡◌, ◌∙◌, ◌⊎◌, inl, inr, ℕ, ◌+◌, ◌*◌, ◌≤◌, List, length, take, drop, replicate, refl, sym, ap, subst, arith, Option, Some, None, length-append}
use Rattle.std.specs.Prelude.{unwrap_or, false, IsSome}
use Rattle.std.proofs.lemmas.List.{length-replicate}
use Rattle.tc_base.specs.Files.{wrote}
use Rattle.tc_base.specs.Maps.{Map}
use Rattle.tc_space.specs.Effects.{Changes}
use Rattle.tc_space.specs.Frames.{OnlyReads, only_reads_refl}
use Rattle.tc_space.specs.Stores.{ready_reads}
use Rattle.tc_space.specs.declared.space.Space.{Ghosts}
use Rattle.hf_head.specs.declared.head.Head.{Head}
use Rattle.hf_head.specs.Heads.{Spells, head_in, sections, spelled}
use Rattle.hf_block.specs.Walks.{HoldsUpTo}
use Rattle.hf_pool.specs.declared.pool.Pool.{Pool}
use Rattle.hf_pool.specs.Pools.{KeepsLaid, Notes, frees}
use Rattle.hf_pool.specs.Trims.{Trimmed}
use Rattle.hf_tree.specs.Links.{width}
use Rattle.hf_record.specs.declared.body.Body.{Body}
use Rattle.hf_record.proofs.Valid.{is_data}
use Rattle.tc_hash.specs.declared.front.Front.{Front}
use Rattle.tc_hash.specs.declared.hash.Hash.{Hash}
use Rattle.tc_hash.specs.Bringing.{IsNewSection, MayWriteFront, StandsUnder, WritesFront, WritesSection, whole}
use Rattle.tc_hash.specs.Fronts.{IsFront, ShowsFrees, ShowsFront}
use Rattle.tc_hash.specs.Holding.{Holds, HoldsFile, HoldsMap, IsNumbered}
use Rattle.tc_hash.specs.Keeping.{CanCall, Looks, Means}
use Rattle.tc_hash.specs.Sections.{IsSectionOf, filled, section_at, section_len, section_of}
use Rattle.tc_hash.specs.Settling.{Brought, ChangesFront, DropsEnd, IsBrought, Settles, head_now, patched}
use Rattle.tc_hash.proofs.Fronted.{frees_shown, numbers_now}
use Rattle.tc_hash.proofs.Kept.{Settles as SettlesBytes, between_behind, brought, front_few, front_shows, length_over, reaches, settled, settles, trimmed_holds, whole_lists, whole_suits}
use Rattle.tc_hash.proofs.Sectioned.{filled_zeros, old_stands, wrote_whole}

-- ---- free blocks at the end dropped

pub record Trims {S : Type 0} (v t : Hash S) : Type 0 where
  pub file : t.body.file ≡ v.body.file
  pub head : t.body.head ≡ v.body.head
  pub records : t.records ≡ v.records
  pub lower : t.body.pool.size ≤ v.body.pool.size
  pub laid : KeepsLaid v.body.pool t.body.pool
  pub notes : Notes v.body.pool t.body.pool

-- what is known of the front stays, or isn't known any more
abbrev pub Forgets : {S : Type 0} → Hash S → Hash S → Type 0
Forgets v t = (t.front ≡ v.front) ⊎ (t.front ≡ None)

pub trims_map : {S : Type 0} (v t : Hash S) (bytes : List ℕ) (m : Map) → Trims v t → HoldsMap v bytes m → HoldsMap t bytes m
trims_map v t bytes m trims held =
    subst (λ (h : Head). Holds h t.body.pool.size (frees t.body.pool) t.records m bytes) (sym trims.head)
    (subst (λ (n : ℕ). Holds v.body.head t.body.pool.size (frees t.body.pool) n m bytes) (sym trims.records)
    (trimmed_holds v.body.head v.body.pool.unit v.body.pool.size t.body.pool.size (frees v.body.pool) (frees t.body.pool) v.records m bytes v.body.unit_is trims.laid trims.lower held))

pub trims_file : {S : Type 0} (v t : Hash S) (bytes : List ℕ) (m : Map) → Trims v t → Forgets v t → HoldsFile v bytes m → HoldsFile t bytes m
trims_file v t bytes m trims forgets held = record {
  map = trims_map v t bytes m trims held.map;
  front = shown forgets;
  listed = subst (λ (h : Head). ShowsFrees h t.body.pool bytes) (sym trims.head) (frees_shown v.body.head v.body.pool t.body.pool bytes bytes trims.notes refl held.listed);
  numbers = subst (λ (h : Head). IsNumbered h bytes) (sym trims.head) held.numbers;
}
  where
    shown : Forgets v t → ShowsFront t.body.head t.front bytes
    shown (inl e) = subst (λ (o : Option Front). ShowsFront t.body.head o bytes) (sym e) (subst (λ (h : Head). ShowsFront h v.front bytes) (sym trims.head) held.front)
    shown (inr e) = subst (λ (o : Option Front). ShowsFront t.body.head o bytes) (sym e) tt

module _ {S : Type 0} (s : Ghosts S) where
  pub trims_looks : (v t : Hash S) (a b : S) → Trims v t → Forgets v t → OnlyReads s a b → Looks s v t a b
  trims_looks v t a b trims forgets r = record {
    now = r.files;
    touched = r.untouched;
    sound = r.is_sound;
    means = λ m w. (w.0, subst (λ (l : List ℕ). HoldsFile t l m) (sym (ap (s.now b) trims.file ∙ r.files w.0 v.body.file)) (trims_file v t (s.now a v.body.file) m trims forgets w.1));
  }

  pub trims_ready : (v t : Hash S) (a : S) → Trims v t → Forgets v t → CanCall s v a → CanCall s t a
  trims_ready v t a trims forgets ready = ready_reads s (Means s) v t a a (trims_looks v t a a trims forgets (only_reads_refl s a ready.sound)) ready

  -- the file reaches up to the first block
  pub up_to_first : (v : Hash S) (a : S) → CanCall s v a → HoldsUpTo s a v.body.file v.body.head.first
  up_to_first v a ready = record {
    sound = ready.sound;
    data_file = is_data v.body.file v.body.data;
    inside = λ t. let w = ready.held t in reaches v.body.head v.body.pool.size v.records (frees v.body.pool) w.0 (s.now a v.body.file) w.1.1.map;
  }

  -- ---- a section and a head to be written

  pub under_new : (b : Body) (f : Front) (old : List ℕ) (o : Option (List ℕ)) (a : S) → (s.tells → IsFront b.head f (s.now a b.file)) → IsNewSection b f.section old o → StandsUnder s b old o a
  under_new b f old None a front is = tt
  under_new b f old (Some new) a front is = (
    sym is.long,
    λ t. (
      is.few (front t).few,
      (front t).section ∙ sym (ap (filled (section_len b.head)) is.zeros.1
          ∙ filled_zeros (section_len b.head) is.zeros.0 f.section (omega (arith, is.few (front t).few, is.long, ap length is.zeros.1, length-append f.section (replicate is.zeros.0 0), length-replicate {A = ℕ} is.zeros.0 0))),
    ),
  )

-- ---- what was taken is trimmed

pub trims_taken : {S : Type 0} (v t u : Hash S) → u ≡ t → Trims v t → Trims v u
trims_taken {S} v t u e trims = subst (λ (x : Hash S). Trims v x) (sym e) trims

pub none_taken : {S : Type 0} (t u : Hash S) → u ≡ t → t.front ≡ None → u.front ≡ None
none_taken {S} t u e none = ap (λ (x : Hash S). x.front) e ∙ none

marked_map : (h : Head) (p p' : Pool) (r : ℕ) (m : Map) (bytes : List ℕ) → p' ≡ record p { changed = p'.changed } → Holds h p.size (frees p) r m bytes → Holds h p'.size (frees p') r m bytes
marked_map h p p' r m bytes e held = subst (λ (x : Pool). Holds h x.size (frees x) r m bytes) (sym e) held

pub drops_end : {S : Type 0} (v t u : Hash S) → Trims v t → Trimmed (frees v.body.pool) (frees t.body.pool) v.body.pool.size t.body.pool.size → u ≡ t → DropsEnd v u
drops_end {S} v t u trims dropped e = subst (λ (x : Hash S). DropsEnd v x) (sym e) (record { same = λ m bytes held. trims_map v t bytes m trims held; dropped = dropped })

-- once it is noted that the section was written
pub drops_marked : {S : Type 0} (v t v' : Hash S) → v'.body.head ≡ t.body.head → v'.records ≡ t.records → v'.body.pool ≡ record t.body.pool { changed = v'.body.pool.changed } → DropsEnd v t → DropsEnd v v'
drops_marked v t v' eh er ep drops = record {
  same = λ m bytes held.
      subst (λ (h : Head). Holds h v'.body.pool.size (frees v'.body.pool) v'.records m bytes) (sym eh)
      (subst (λ (n : ℕ). Holds t.body.head v'.body.pool.size (frees v'.body.pool) n m bytes) (sym er) (marked_map t.body.head t.body.pool v'.body.pool t.records m bytes ep (drops.same m bytes held)));
  dropped = subst (λ (p : Pool). Trimmed (frees v.body.pool) (frees p) v.body.pool.size p.size) (sym ep) drops.dropped;
}

module _ {S : Type 0} (s : Ghosts S) where
  -- what stands in front of the blocks, by what was held before
  pub front_of : (v t : Hash S) (f : Front) (a : S) → ((m : Map) → Means s t a m → IsFront t.body.head f (s.now a t.body.file)) → Trims v t → t.front ≡ v.front → (m : Map) → Means s v a m → IsFront v.body.head f (s.now a v.body.file)
  front_of v t f a front trims known m w =
      let held = subst (λ (n : ℕ). HoldsFile t (s.now a n) m) (sym trims.file) (trims_file v t (s.now a v.body.file) m trims (inl known) w.1) in
      subst (λ (h : Head). IsFront h f (s.now a v.body.file)) trims.head (subst (λ (n : ℕ). IsFront t.body.head f (s.now a n)) trims.file (front m (w.0, held)))

  pub may_write : (v t : Hash S) (f : Front) (old : List ℕ) (o : Option (List ℕ)) (a b : S) → CanCall s v a → Trims v t → OnlyReads s a b → ((m : Map) → Means s v a m → IsFront v.body.head f (s.now a v.body.file)) → IsNewSection t.body f.section old o
      → MayWriteFront s t.body (record { head = f.head; section = old }) o b
  may_write v t f old o a b ready trims reads front is = record {
    section_may = record {
      sound = reads.is_sound;
      inside = λ tells. omega (arith, (up_to_first s v a ready).inside tells, ap (λ (h : Head). h.first) trims.head, ap length (same tells));
      under = under_new s t.body f old o b there is;
    };
    head = λ tells. (there tells).head;
  }
    where
      same : (tells : s.tells) → s.now b t.body.file ≡ s.now a v.body.file
      same tells = ap (s.now b) trims.file ∙ reads.files tells v.body.file

      there : s.tells → IsFront t.body.head f (s.now b t.body.file)
      there tells = (let w = ready.held tells in subst (λ (h : Head). IsFront h f (s.now b t.body.file)) (sym trims.head) (subst (λ (l : List ℕ). IsFront v.body.head f l) (sym (same tells)) (front w.0 w.1)))

-- ---- the file

module _ {S : Type 0} (t : Hash S) (f : Front) (old : List ℕ) (o : Option (List ℕ)) (a : List ℕ) (m : Map) (held : HoldsFile t a m) (front : IsFront t.body.head f a) (is : IsNewSection t.body f.section old o) (long : length (spelled (head_now t.body.head t.records t.body.pool.size t.region)) ≡ 256) where
  abbrev now : Head
  now = head_now t.body.head t.records t.body.pool.size t.region

  abbrev section : Option (List ℕ)
  section = whole t.body o

  abbrev new : List ℕ
  new = settled now section a

  it : SettlesBytes now section a new
  it = settles now section a long t.body.valid.numbers.first_behind held.map.has.is.laid.on held.map.has.is.laid.within (whole_suits t.body f.section old a front.few front.section held.listed o is)

  pub brings : Spells now (spelled now) → IsBrought t m new
  brings spells = brought t.body.head t.body.pool.unit t.body.pool.size t.records (frees t.body.pool) m t.region section a new t.body.valid t.body.unit_is t.body.pool.aligned t.body.pool.multiples spells (whole_lists t.body f.section old a front.few front.section held.listed o is) it held.map

  pub shows : (g : Front) → g.head ≡ spelled now → g.section ≡ unwrap_or o old → IsFront t.body.head g new
  shows g eh es = record {
    head = it.head ∙ sym eh;
    few = omega (arith, ap length es, front_few t.body f.section old a front.few front.section held.listed o is);
    section = it.section ∙ front_shows t.body f.section old a front.few front.section held.listed o is ∙ ap (filled (section_len t.body.head)) (sym es);
  }

  pub lists : IsSectionOf t.body.head t.body.pool.unit (frees t.body.pool) (section_of t.body.head new)
  lists = subst (λ (l : List ℕ). IsSectionOf t.body.head t.body.pool.unit (frees t.body.pool) l) (sym it.section) (whole_lists t.body f.section old a front.few front.section held.listed o is)

  pub changes : ChangesFront t.body.head t.body.pool.size a new
  changes = record { long = it.long; entries = it.entries; gap = it.gap; blocks = it.blocks }

-- ---- what is held then

abbrev All : Head → Pool → ℕ → List ℕ → Option Front → Map → List ℕ → Type 0
All h p r g o m bytes = Brought h p.size (frees p) r g m bytes × ShowsFront h o bytes × IsSectionOf h p.unit (frees p) (section_of h bytes)

all_as : (h h' : Head) (p p' : Pool) (r r' : ℕ) (g g' : List ℕ) (o o' : Option Front) (m : Map) (x y : List ℕ) → h' ≡ h → p' ≡ p → r' ≡ r → g' ≡ g → o' ≡ o → y ≡ x → All h p r g o m x → All h' p' r' g' o' m y
all_as h h' p p' r r' g g' o o' m x y eh ep er eg eo e all =
    subst (λ (z : Head). All z p' r' g' o' m y) (sym eh)
    (subst (λ (z : Pool). All h z r' g' o' m y) (sym ep)
    (subst (λ (z : ℕ). All h p z g' o' m y) (sym er)
    (subst (λ (z : List ℕ). All h p r z o' m y) (sym eg)
    (subst (λ (z : Option Front). All h p r g z m y) (sym eo)
    (subst (λ (z : List ℕ). All h p r g o m z) (sym e) all)))))

-- free blocks were dropped, the front was taken, and the file was written with a head, up to an end
pub record Writes {S : Type 0} (s : Ghosts S) (v t v' : Hash S) (f g : Front) (now : Head) (old : List ℕ) (o : Option (List ℕ)) (end : ℕ) (a b c : S) : Type 0 where
  pub trims : Trims v t
  pub forgets : t.front ≡ None
  pub reads : OnlyReads s a b
  pub front : (m : Map) → Means s v a m → IsFront v.body.head f (s.now a v.body.file)
  pub is : IsNewSection t.body f.section old o
  pub now_is : now ≡ head_now t.body.head t.records t.body.pool.size t.region
  pub long : length (spelled now) ≡ 256
  pub spells : Spells now (spelled now)
  pub sound : s.sound c
  pub end_is : end ≡ t.body.pool.size
  pub head_is : g.head ≡ spelled now
  pub section_is : g.section ≡ unwrap_or o old
  pub wrote : WritesFront s t.body g.head o end b c
  pub head : v'.body.head ≡ t.body.head
  pub records : v'.records ≡ t.records
  pub region : v'.region ≡ t.region
  pub same : v'.body.pool ≡ record t.body.pool { changed = v'.body.pool.changed }
  pub known : v'.front ≡ Some g
  pub written : v'.body.pool.changed ≡ false

module _ {S : Type 0} (s : Ghosts S) (v t v' : Hash S) (f g : Front) (now : Head) (old : List ℕ) (o : Option (List ℕ)) (end : ℕ) (a b c : S) (w : Writes s v t v' f g now old o end a b c) where
  abbrev it_is : Head
  it_is = head_now t.body.head t.records t.body.pool.size t.region

  spelled_is : g.head ≡ spelled it_is
  spelled_is = w.head_is ∙ ap spelled w.now_is

  long_is : length (spelled it_is) ≡ 256
  long_is = subst (λ (h : Head). length (spelled h) ≡ 256) w.now_is w.long

  spells_is : Spells it_is (spelled it_is)
  spells_is = subst (λ (h : Head). Spells h (spelled h)) w.now_is w.spells

  -- the file after it
  after : (tells : s.tells) → s.now c t.body.file ≡ settled it_is (whole t.body o) (s.now a t.body.file)
  after tells =
      (w.wrote tells).here
      ∙ ap (λ (n : ℕ). take n (patched (section_at t.body.head) (whole t.body o) (wrote 0 g.head (s.now b t.body.file)))) w.end_is
      ∙ ap (λ (x : List ℕ). take t.body.pool.size (patched (section_at t.body.head) (whole t.body o) (wrote 0 x (s.now b t.body.file)))) spelled_is
      ∙ ap (λ (l : List ℕ). settled it_is (whole t.body o) l) (w.reads.files tells t.body.file)

  old_held : (m : Map) → HoldsFile v (s.now a v.body.file) m → HoldsFile t (s.now a t.body.file) m
  old_held m held = subst (λ (n : ℕ). HoldsFile t (s.now a n) m) (sym w.trims.file) (trims_file v t (s.now a v.body.file) m w.trims (inr w.forgets) held)

  old_front : (tells : s.tells) (m : Map) → HoldsFile v (s.now a v.body.file) m → IsFront t.body.head f (s.now a t.body.file)
  old_front tells m held =
      subst (λ (h : Head). IsFront h f (s.now a t.body.file)) (sym w.trims.head)
      (subst (λ (n : ℕ). IsFront v.body.head f (s.now a n)) (sym w.trims.file) (w.front m (tells, held)))

  all : (tells : s.tells) (m : Map) → HoldsFile v (s.now a v.body.file) m → All v'.body.head v'.body.pool v'.records v'.region v'.front m (s.now c v.body.file)
  all tells m held =
      let x = old_held m held in
      let is_front = old_front tells m held in
      let l : List ℕ = s.now a t.body.file in
      all_as t.body.head v'.body.head (record t.body.pool { changed = v'.body.pool.changed }) v'.body.pool t.records v'.records t.region v'.region (Some g) v'.front m (settled it_is (whole t.body o) l) (s.now c v.body.file)
      w.head w.same w.records w.region w.known (ap (s.now c) (sym w.trims.file) ∙ after tells)
      (brings t f old o l m x is_front w.is long_is spells_is, shows t f old o l m x is_front w.is long_is g spelled_is w.section_is, lists t f old o l m x is_front w.is long_is)

  pub all_settled : (s.tells → (m : Map) × Means s v a m) → Settles s v v' a c
  all_settled some = record {
    sound = w.sound;
    others = record { same = λ tells n other. (w.wrote tells).others n (λ e. other (e ∙ w.trims.file)) ∙ w.reads.files tells n };
    brought = λ tells m held. (all tells m held).0;
    held = λ tells m held. (let x = all tells m held in record { map = x.0.holds; front = x.1; listed = λ no. x.2; numbers = numbers_now v'.body.head (head_in (take 256 (s.now c v.body.file))) v'.records v'.body.pool.size v'.region x.0.head });
    front = λ tells. (let h = some tells in front_as tells (changes t f old o (s.now a t.body.file) h.0 (old_held h.0 h.1.1) (old_front tells h.0 h.1.1) w.is long_is));
    known = subst IsSome (sym w.known) refl;
    noted = w.written;
  }
    where
      front_as : (tells : s.tells) → ChangesFront t.body.head t.body.pool.size (s.now a t.body.file) (settled it_is (whole t.body o) (s.now a t.body.file)) → ChangesFront v.body.head v'.body.pool.size (s.now a v.body.file) (s.now c v.body.file)
      front_as tells e =
          subst (λ (n : ℕ). ChangesFront v.body.head v'.body.pool.size (s.now a n) (s.now c n)) w.trims.file
          (subst (λ (h : Head). ChangesFront h v'.body.pool.size (s.now a t.body.file) (s.now c t.body.file)) w.trims.head
          (subst (λ (p : Pool). ChangesFront t.body.head p.size (s.now a t.body.file) (s.now c t.body.file)) (sym w.same)
          (subst (λ (l : List ℕ). ChangesFront t.body.head t.body.pool.size (s.now a t.body.file) l) (sym (after tells)) e)))

-- ---- the section and the head written

module _ {S : Type 0} (s : Ghosts S) (b : Body) (old : List ℕ) where
  -- behind the head the section is as before
  pub under_wrote : (o : Option (List ℕ)) (x : List ℕ) (a c : S) → (s.tells → s.now c b.file ≡ wrote 0 x (s.now a b.file)) → length x ≡ 256 → (s.tells → b.head.first ≤ length (s.now a b.file)) → StandsUnder s b old o a → StandsUnder s b old o c
  under_wrote None x a c here long inside under = tt
  under_wrote (Some new) x a c here long inside under = (
    under.0,
    λ t. (
      (under.1 t).0,
      ap (λ (l : List ℕ). section_of b.head l) (here t) ∙ between_behind (256 + width b.head * b.head.buckets) (sections b.head) 0 x (s.now a b.file) (omega (arith, long)) (omega (arith, long, inside t, b.valid.numbers.first_behind)) ∙ (under.1 t).1,
    ),
  )

  pub long_wrote : (x : List ℕ) (a c : S) → (s.tells → s.now c b.file ≡ wrote 0 x (s.now a b.file)) → length x ≡ 256 → (s.tells → b.head.first ≤ length (s.now a b.file)) → s.tells → b.head.first ≤ length (s.now c b.file)
  long_wrote x a c here long inside t = omega (arith, ap length (here t), length_over 0 x (s.now a b.file) (omega (arith, long, inside t, b.valid.numbers.first_behind)), inside t)

  -- bytes that are written over others of a section are written with the zeros behind them
  module _ (new : List ℕ) (a : S) (under : StandsUnder s b old (Some new) a) where
    pub under_there : s.tells → old ≡ take (length new) (drop (section_at b.head) (s.now a b.file))
    under_there t = old_stands (section_at b.head) (section_len b.head) old (s.now a b.file) (under.1 t).1 (length new) under.0

    pub under_whole : (t : s.tells) → wrote (section_at b.head) new (s.now a b.file) ≡ patched (section_at b.head) (whole b (Some new)) (s.now a b.file)
    under_whole t = wrote_whole (section_at b.head) (section_len b.head) old (s.now a b.file) (under.1 t).1 new under.0 (under.1 t).0

  -- the section was written, if there was one
  pub section_wrote : (o : Option (List ℕ)) (new bytes : List ℕ) (at : ℕ) (a c : S) → o ≡ Some new → bytes ≡ new → at ≡ section_at b.head → StandsUnder s b old o a → (s.tells → Changes s.now b.file (wrote at bytes (s.now a b.file)) a c) → WritesSection s b o a c
  section_wrote o new bytes at a c some same place under write t =
      let there = subst (λ (x : Option (List ℕ)). StandsUnder s b old x a) some under in
      record {
        here = (write t).here ∙ (λ i. wrote (place i) (same i) (s.now a b.file)) ∙ under_whole new a there t ∙ ap (λ (x : Option (List ℕ)). patched (section_at b.head) (whole b x) (s.now a b.file)) (sym some);
        others = (write t).others;
      }
