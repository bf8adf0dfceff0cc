-- The file stands for the contents once they are settled.
use Rattle.std.proofs.Common.{◌≡◌, ◌∙◌, ℕ, inr, length, sym, ap, subst}
use Rattle.std.specs.FinMap.{get}
use Rattle.tc_base.specs.Files.{Files}
use Rattle.tc_base.specs.Maps.{Map}
use Rattle.tc_base.specs.declared.kind.Form.{Form}
use Rattle.tc_space.specs.Frames.{Refuses}
use Rattle.tc_space.specs.declared.space.Space.{Ghosts}
use Rattle.ty_base.specs.Holding.{Held, IsTrimmed}
use Rattle.hf_pool.specs.Pools.{frees}
use Rattle.hf_pool.specs.Trims.{Trimmed}
use Rattle.hf_tree.specs.Standing.{StandsFor}
use Rattle.tc_hash.specs.declared.hash.Hash.{Hash}
use Rattle.tc_hash.specs.Keeping.{Refused, holds}
use Rattle.tc_hash.specs.Settling.{Brought, Settles}
use Rattle.tc_model.specs.Contents.{Contents}
use Rattle.hf_head.specs.declared.head.Head.{Head}
use Rattle.tc_hash.specs.Keeping.{ShowsRegion, StaysOpen}
use Rattle.tc_hash.proofs.Ended.{ended_slack}
use Rattle.tc_hash.proofs.Tight.{ends_of}
use Rattle.tc_hashdb.specs.declared.holding.HashEngine.{HashEngine}
use Rattle.tc_hashdb.specs.Holding.{HoldsKeys, Means, Reopens}
use Rattle.tc_hashdb.specs.Layouts.{layout_of}
use Rattle.tc_hashdb.specs.Lifting.{held_again, means_of, refuses_up}
use Rattle.tc_hash.specs.Repacking.{IsPackedFrom, IsTightFrom}
use Rattle.tc_hashdb.specs.Laying.{settled_layout, slack_layout}
use Rattle.tc_hashdb.proofs.Kept.{Counts, in_of, means_again, refuses_again}
use Rattle.tc_hash.proofs.Repacked.{settled_packs}

module _ {S : Type 0} (s : Ghosts S) where
  pub settled_up : (e e' : HashEngine S) (a b : S) → e'.hash.body.file ≡ e.hash.body.file → e'.hash.body.head ≡ e.hash.body.head → e'.total ≡ e.total
      → Settles s e.hash e'.hash a b → (c : Contents) → Held s HoldsKeys e a c → Held s HoldsKeys e' b c × Reopens (s.now b) c
  settled_up e e' a b file head total done c h =
      let m : Map = h.1.map in
      let means : Means s e a m = means_of s e a c h in
      let now = done.brought h.0 m (in_of s e a m means).1 in
      let means_now : Means s e' b m = means_again s e e' a b m m means file (ap (λ x. x.kind) head) (h.0, subst (λ f. holds e'.hash (s.now b f) m) (sym file) (done.held h.0 m (in_of s e a m means).1)) (subst (λ o. Counts o m) (sym total) means.1.counted)
      (subst (λ f. ShowsRegion e'.hash (s.now b f)) means.1.file (ap (λ (g : Head). g.opaque) now.head)) in (
        subst (λ d. Held s HoldsKeys e' b d) (sym h.1.is) (held_again s e' b m means_now),
        inr (record { map = m; is = h.1.is; stands = subst (λ f. StandsFor 0 (s.now b f) (get m)) means.1.file (subst (λ k. StandsFor k (s.now b e.hash.body.file) (get m)) (ap (λ x. x.kind) head ∙ means.1.kind) now.stands.is) }),
      )

  -- a packed file that is settled
  pub settle_packs : (e : HashEngine S) (h : Hash S) (a b : S) → h.body.head ≡ e.hash.body.head → Trimmed (frees e.hash.body.pool) (frees h.body.pool) e.hash.body.pool.size h.body.pool.size → Settles s e.hash h a b
      → (from : Files) (form : Form) (c : Contents) → IsTightFrom (from 0) form e.hash.body (s.now a 0) → Held s HoldsKeys e a c → IsPackedFrom (from 0) form (s.now b 0)
  settle_packs e h a b head trimmed done from form c tight held =
      let m : Map = held.1.map in
      let means : Means s e a m = means_of s e a c held in
      let was : IsTightFrom (from 0) form e.hash.body (s.now a e.hash.body.file) = subst (λ (f : ℕ). IsTightFrom (from 0) form e.hash.body (s.now a f)) (sym means.1.file) tight in
      subst (λ (f : ℕ). IsPackedFrom (from 0) form (s.now b f)) means.1.file (settled_packs s e.hash h a b head trimmed done (from 0) form m was (in_of s e a m means))

  pub settle_trims : (e : HashEngine S) (h : Hash S) (a b : S) → StaysOpen e.hash h → Trimmed (frees e.hash.body.pool) (frees h.body.pool) e.hash.body.pool.size h.body.pool.size
      → (s.tells → (m : Map) → holds e.hash (s.now a e.hash.body.file) m → Brought h.body.head h.body.pool.size (frees h.body.pool) h.records h.region m (s.now b e.hash.body.file))
      → (s.tells → length (s.now b e.hash.body.file) ≡ h.body.pool.size) → (c : Contents) → Held s HoldsKeys e a c → IsTrimmed (layout_of (s.now a)) (layout_of (s.now b))
  settle_trims e h a b stays trimmed brought long c held =
      let m : Map = held.1.map in
      let means : Means s e a m = means_of s e a c held in
      let is : Brought h.body.head h.body.pool.size (frees h.body.pool) h.records h.region m (s.now b 0) = subst (λ f. Brought h.body.head h.body.pool.size (frees h.body.pool) h.records h.region m (s.now b f)) means.1.file (brought held.0 m (in_of s e a m means).1) in
      let end : length (s.now b 0) ≡ h.body.pool.size = subst (λ f. length (s.now b f) ≡ h.body.pool.size) means.1.file (long held.0) in
      settled_layout e h (s.now a 0) (s.now b 0) m stays.head stays.map.region_same means.1 is
      (slack_layout (s.now b 0) ∙ ended_slack (s.now b 0) (ends_of h.body.head h.body.pool.size (frees e.hash.body.pool) (frees h.body.pool) e.hash.body.pool.size h.records h.region m (s.now b 0) is end trimmed))

  pub settle_refused : (e e' : HashEngine S) (a b : S) → StaysOpen e.hash e'.hash → e'.total ≡ e.total → Refused s e.hash e'.hash a b → Refuses s (Held s HoldsKeys) e e' a b
  settle_refused e e' a b stays total refused = refuses_up s e e' a b (refuses_again s e e' a b refused stays.map.file stays.map.sort_same stays.map.region_same total)
