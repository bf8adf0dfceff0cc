-- The numbers of a tree, brought to its file.
use Rattle.std.proofs.Common.{◌≡◌, ◌+◌, ◌≤◌, ◌∙◌, List, ℕ, ap, sym, subst, arith}
use Rattle.std.specs.Prelude.{min}
use Rattle.tc_base.specs.Maps.{Map}
use Rattle.tc_io.specs.Causes.{Rose}
use Rattle.tc_space.specs.Changes.{same}
use Rattle.tc_space.specs.Stores.{ReadyIn, SetsRegion, StaysMap, WritesIn}
use Rattle.tc_space.specs.declared.records.Records.{Ghosts as Stores}
use Rattle.tc_space.specs.declared.space.Space.{Ghosts}
use Rattle.bt_cache.specs.Effects.{SameStore}
use Rattle.bt_cache.specs.Held.{Holds}
use Rattle.bt_rows.specs.Heads.{head_of}
use Rattle.bt_tree.specs.declared.tree.Tree.{Tree}
use Rattle.bt_tree.specs.Paging.{BringsNumbers, IsShown, TellsNumbers}
use Rattle.bt_tree.specs.Visits.{LooksAt}

rose_by : (a b c n : ℕ) → a ≤ b → min (b + 1) n ≤ c → min (a + 1) n ≤ c
rose_by a b c n later rose = omega (arith, later, rose)

-- the count of faults rose, also since an earlier time
pub rose_since : (a b c : ℕ) → a ≤ b → Rose b c → Rose a c
rose_since a b c later rose = rose_by a b c _ later rose

-- the store of t has another region in v
module _ {S V O : Type 0} (s : Ghosts S) (R : Stores V S) (t : Tree V O) (v : V) (opaque : List ℕ) (sets : SetsRegion R.file_of R.sort R.numbers R.region R.lead R.gets opaque t.store v)
    (on : (bytes : List ℕ) (m : Map) → R.holds t.store bytes m → R.holds v bytes m) where
  held_on : (a : S) (m : Map) → Holds s R t.store a m → Holds s R v a m
  held_on a m h = (h.0, subst (λ (f : ℕ). R.holds v (s.now a f) m) (sym sets.file) (on (s.now a (R.file_of t.store)) m h.1))

  pub bring_ready : (a : S) → IsShown s R t a → ReadyIn s R.file_of R.holds v a
  bring_ready a ready = record { sound = ready.sound; held = λ told. let h = ready.held told in (h.1.1.records, held_on a h.1.1.records (told, h.1.1.store)) }

  -- that is settled in w
  module _ (w : V) (stays : StaysMap R.file_of R.sort R.numbers R.region R.lead R.gets v w) where
    pub settle_brings : (a b : S) → head_of opaque ≡ t.head → WritesIn s R.file_of R.holds same v w a b → ((m : Map) → Holds s R v a m → R.stands (R.sort v) (R.numbers v) (s.now b (R.file_of v)) m (R.region v)) → BringsNumbers s R t a b
    settle_brings a b is writes stood_for = record {
      store = w;
      region = R.region v;
      numbers = ap head_of sets.region_is ∙ is;
      holds = λ m h. subst (λ (f : ℕ). R.holds w (s.now b f) m) (stays.file ∙ sets.file) (writes.means m (held_on a m h.0)).1;
      stands = λ m h. subst (λ (k : ℕ). R.stands k (R.numbers t.store) (s.now b (R.file_of t.store)) m (R.region v)) sets.sort_same
          (subst (λ (ns : List ℕ). R.stands (R.sort v) ns (s.now b (R.file_of t.store)) m (R.region v)) sets.numbers_same
          (subst (λ (f : ℕ). R.stands (R.sort v) (R.numbers v) (s.now b f) m (R.region v)) sets.file (stood_for m (held_on a m h.0))));
    }

    -- and has the region that it had in x
    pub same_back : (x : V) (was : List ℕ) → SetsRegion R.file_of R.sort R.numbers R.region R.lead R.gets was w x → was ≡ R.region t.store → SameStore R t.store x
    same_back x was back is = record {
      file = back.file ∙ (stays.file ∙ sets.file);
      sort = back.sort_same ∙ (stays.sort_same ∙ sets.sort_same);
      numbers = back.numbers_same ∙ (stays.numbers_same ∙ sets.numbers_same);
      region = back.region_is ∙ is;
      lead = omega (arith, back.leads, stays.leads, sets.leads);
    }

-- told of the tree as it was before it was looked at
module _ {S V O : Type 0} (s : Ghosts S) (R : Stores V S) (t u : Tree V O) (a b d : S) (looks : LooksAt s R t u a b) (head : u.head ≡ t.head) where
  brings_looked : BringsNumbers s R u b d → BringsNumbers s R t a d
  brings_looked l = record {
    store = l.store;
    region = l.region;
    numbers = l.numbers ∙ head;
    holds = λ m h. subst (λ (f : ℕ). R.holds l.store (s.now d f) m) looks.made.file (l.holds m (looks.reads.means m h));
    stands = λ m h. subst (λ (k : ℕ). R.stands k (R.numbers t.store) (s.now d (R.file_of t.store)) m l.region) looks.made.sort
        (subst (λ (ns : List ℕ). R.stands (R.sort u.store) ns (s.now d (R.file_of t.store)) m l.region) looks.made.numbers
        (subst (λ (f : ℕ). R.stands (R.sort u.store) (R.numbers u.store) (s.now d f) m l.region) looks.made.file (l.stands m (looks.reads.means m h))));
  }

  pub tells_looked : TellsNumbers s R u b d → TellsNumbers s R t a d
  tells_looked tells = (tells.0, brings_looked tells.1)
