-- What reading pages counts.
use Rattle.std.specs.Prelude.{ℕ, ◌+◌, ◌≤◌}
use Rattle.std.proofs.Common.{◌∙◌, refl, arith, inl}
use Rattle.tc_space.specs.Frames.{keeps_refl, keeps_then, reads_refl, reads_then}
use Rattle.tc_space.specs.Stores.{Ticks, ticks_then}
use Rattle.tc_space.specs.declared.records.Records.{Ghosts as Stores}
use Rattle.tc_space.specs.declared.space.Space.{Ghosts}
use Rattle.bt_cache.specs.Effects.{Looks, same_store_refl, same_store_then}
use Rattle.bt_cache.specs.Held.{Beside}
use Rattle.bt_cache.specs.declared.cache.Cache.{Cache}

-- at most so many pages are read: the counter rises by no more, and by at least as much as the store was asked
pub record ReadsPages {S V : Type 0} (R : Stores V S) (most : ℕ) (old new : V) (steps steps' : ℕ) : Type 0 where
  pub ticks : Ticks (R.gets old) (R.gets new) steps steps'
  pub within : steps' ≤ steps + most

module _ {S V : Type 0} (R : Stores V S) where
  pub pages_refl : (v : V) (steps : ℕ) → ReadsPages R 0 v v steps steps
  pages_refl v steps = record { ticks = record { rises = omega arith; enough = inl (omega arith) }; within = omega arith }

  pub pages_then : (j k : ℕ) (u v w : V) (s t r : ℕ) → ReadsPages R j u v s t → ReadsPages R k v w t r → ReadsPages R (j + k) u w s r
  pages_then j k u v w s t r first second = record { ticks = ticks_then _ _ _ _ _ _ first.ticks second.ticks; within = omega (arith, first.within, second.within) }

module _ {S V : Type 0} (s : Ghosts S) (R : Stores V S) where
  pub looks_refl : (c : Cache V) (v : V) (a : S) → s.sound a → Looks s R c c v v a a
  looks_refl c v a sound = record { reads = reads_refl s (Beside s R) (c.pages, v) a sound; keeps = keeps_refl s a; room = refl; made = same_store_refl R v; tight = λ from form bytes t. t }

  pub looks_then : (c d e : Cache V) (u v w : V) (x y z : S) → Looks s R c d u v x y → Looks s R d e v w y z → Looks s R c e u w x z
  looks_then c d e u v w x y z first second = record {
    reads = reads_then s (Beside s R) (c.pages, u) (d.pages, v) (e.pages, w) x y z first.reads second.reads;
    keeps = keeps_then s x y z first.keeps second.keeps;
    room = second.room ∙ first.room;
    made = same_store_then R u v w first.made second.made;
    tight = λ from form bytes t. second.tight from form bytes (first.tight from form bytes t);
  }
