-- A key taken out: its record is unhung, and its block given back.
use Rattle.std.proofs.Common.{◌≡◌, ◌≢◌, ◌∙◌, inl, inr, ℕ, ◌*◌, ◌≤◌, ◌%◌, List, length, take, refl, sym, ap, arith, Option, Some, None, Bool, cond}
use Rattle.std.proofs.lemmas.Bool.{cases_eq, eq-eqb, ne_eqb}
use Rattle.std.specs.declared.cmp.Ordering.TheVariants.{Equal}
use Rattle.std.specs.FinMap.{get, remove}
use Rattle.tc_base.specs.Maps.{Map}
use Rattle.hf_head.specs.declared.head.Head.{Head}
use Rattle.hf_head.specs.Heads.{IsValid, unit}
use Rattle.hf_block.specs.Heads.{free_head}
use Rattle.hf_block.specs.Pieces.{Record, Piece, held, size_of}
use Rattle.hf_layout.specs.Frees.{Frees, without, none}
use Rattle.hf_layout.specs.Layout.{record_at, frees_of, HasBlock, LaidOut, TakesBack}
use Rattle.hf_layout.proofs.Chains.{front_stays, places_are_aligned}
use Rattle.hf_layout.proofs.Shares.{ends_within, known, shared_as, without_at, without_off}
use Rattle.hf_layout.proofs.Standing.{block_stands, record_is_block}
use Rattle.hf_pool.specs.Joins.{GivesBack, FrontJoined}
use Rattle.hf_pool.specs.Pools.{GoesBack}
use Rattle.hf_tree.specs.declared.parent.Parent.{Parent}
use Rattle.hf_tree.specs.declared.parent.Parent.TheVariants.{Bucket, Left, Right}
use Rattle.hf_tree.specs.declared.parent.Found.TheVariants.{Here}
use Rattle.hf_tree.specs.Keys.{Key, key_cmp}
use Rattle.hf_tree.specs.Views.{Besides, owner, with_key}
use Rattle.hf_tree.specs.Links.{width, entry, left_of, right_of, key_of, links_of, view_of}
use Rattle.hf_tree.specs.Standing.{IsMapOf}
use Rattle.hf_tree.proofs.Orders.{three, same_key, equal_same}
use Rattle.hf_tree.proofs.Off.{holds_off}
use Rattle.hf_tree.proofs.Ways.{has_key}
use Rattle.hf_chain.specs.Chains.{IsHere, MayUnhang, Rehung}
use Rattle.hf_record.specs.Holding.{HasMap, IsSearched}
use Rattle.hf_record.specs.Moves.{IsWithin, IsGiven}
use Rattle.hf_record.proofs.Finding.{HasHere, here_record, has_blocks}
use Rattle.hf_record.proofs.Fronts.{array_same}
use Rattle.hf_record.proofs.Maps.{remove_here, remove_other}
use Rattle.hf_record.proofs.Puts.{Alike, is_now, same_size, was}

-- a block that isn't the pool's may be given back
pub is_within : (unit first end : ℕ) (ps : List Piece) (free lent : Frees) (at size : ℕ) (bytes : List ℕ) → first % unit ≡ 0 → LaidOut unit first end ps free lent bytes → HasBlock first ps at size → free at ≡ None → IsWithin unit end free at size (length bytes)
is_within unit first end ps free lent at size bytes aligned l block unpooled =
    let s = block_stands unit first end at size ps free lent bytes l block in
    record {
      sized = s.sized;
      aligned = places_are_aligned unit first end at size ps free lent bytes l aligned block;
      high = s.high;
      apart = s.apart unpooled;
      inside = omega (arith, s.high, l.within);
    }

-- what is given back lies in the blocks, and so does what it becomes
pub start_low : (unit first end : ℕ) (ps : List Piece) (free free' lent : Frees) (at size start total : ℕ) (bytes : List ℕ) → LaidOut unit first end ps free lent bytes → first ≤ at → GivesBack free free' at size start total → (first ≤ start) × (start ≤ at)
start_low unit first end ps free free' lent at size start total bytes l low g = go g.half g.middle g.front
  where
    go : (half : ℕ) (middle : Frees) → FrontJoined free at size start half middle → (first ≤ start) × (start ≤ at)
    go half middle (inl j) =
        let k = known unit first end ps free lent bytes start j.0 l j.1.there in
        ((ends_within unit first ps k.piece start k.at).0, omega (arith, j.1.ends))
    go half middle (inr k) = (omega (arith, low, k.start_is), omega (arith, k.start_is))

pub given_front : (unit first end : ℕ) (ps : List Piece) (free free' lent : Frees) (at size : ℕ) (tells : Type 0) (bytes bytes' : List ℕ) → tells → LaidOut unit first end ps free lent bytes → first ≤ at → at ≤ length bytes → IsGiven tells free free' at size bytes bytes' → take first bytes' ≡ take first bytes
given_front unit first end ps free free' lent at size tells bytes bytes' t l low inside g =
    let s = start_low unit first end ps free free' lent at size g.start g.total bytes l low g.back in
    ap (take first) (g.marked_so t) ∙ front_stays first g.start (free_head g.total) bytes s.0 (omega (arith, s.1, inside))

only_none : (place q : ℕ) → without none place q ≡ none q
only_none place q = elim (cases_eq q place) [ inl e ↦ without_at none place q e | inr ne ↦ without_off none place q ne ]

pub unlent : (u first end : ℕ) (ps : List Piece) (free : Frees) (at : ℕ) (bytes : List ℕ) → LaidOut u first end ps free (without none at) bytes → LaidOut u first end ps free none bytes
unlent u first end ps free at bytes l = record {
  room = l.room;
  on = l.on;
  within = l.within;
  filled = l.filled;
  shared = λ q. shared_as (frees_of first ps q) (frees_of first ps q) (free q) (free q) (without none at q) (none q) refl refl (sym (only_none at q)) (l.shared q);
}

module _ (h : Head) (end : ℕ) (free : Frees) (m : Map) (key : Key) (at size : ℕ) (from : Parent) (before : List ℕ) (v : IsValid h) (s : IsSearched h key (Here at from) before) (g : HasMap h end free m before) where
  abbrev it : HasHere h g.pieces g.places m key at end before
  it = here_record h end g.pieces free g.places m before key v g.is at from s

  pub is_here : IsHere (view_of h g.pieces before) h.buckets g.places key at from
  is_here = record { holds = g.is.hang.holds; here = s.ends end g.pieces free g.places m g.is }

  pub may_unhang : MayUnhang h at from before
  may_unhang = record { end = end; pieces = g.pieces; blocks = has_blocks h end g.pieces free g.places m before g.is; places = g.places; key = key; is = is_here }

  module _ (middle : List ℕ) (x : Rehung h end g.pieces free none (with_key g.places key None) 2 before middle) (sized : size ≡ size_of (held it.r)) where
    abbrev still : Alike (record_at h.first x.pieces) at it.r
    still = is_now (record_at h.first g.pieces) (record_at h.first x.pieces) x.kept at it.r it.is

    block : HasBlock h.first x.pieces at size × (free at ≡ None)
    block =
        let b = record_is_block (unit h) h.first end at x.pieces free none middle still.rec x.is still.at in
        ((b.0.0, b.0.1, b.0.2 ∙ same_size still.rec it.r still.same ∙ sym sized), b.1)

    pub within : IsWithin (unit h) end free at size (length middle)
    within = is_within (unit h) h.first end x.pieces free none at size middle v.numbers.first_aligned x.is block.0 block.1

    module _ (free' : Frees) (tells : Type 0) (bytes : List ℕ) (t : tells) (given : IsGiven tells free free' at size middle bytes) (back : GoesBack (unit h) free free' at size middle bytes) where
      abbrev b : TakesBack (unit h) h.first end x.pieces free' none at bytes
      b = back.block h.first end x.pieces none x.is block.0

      off : (q : ℕ) → q ≢ at → record_at h.first b.pieces q ≡ record_at h.first x.pieces q
      off q ne = b.records q ∙ ap (λ (z : Bool). cond z None (record_at h.first x.pieces q)) (ne_eqb q at ne)

      gone : record_at h.first b.pieces at ≡ None
      gone = b.records at ∙ ap (λ (z : Bool). cond z None (record_at h.first x.pieces at)) (eq-eqb at at refl)

      besides : Besides (view_of h x.pieces middle) (view_of h b.pieces bytes) at
      unfolding links_of
      besides = record { keys = λ q ne. ap key_of (off q ne); links = links }
        where
          front : take h.first bytes ≡ take h.first middle
          front = given_front (unit h) h.first end x.pieces free free' none at size tells middle bytes t x.is it.lies.low (omega (arith, within.inside)) given

          links : (c : Parent) → owner c ≢ Some at → links_of h b.pieces bytes c ≡ links_of h x.pieces middle c
          links (Bucket d) ne = ap (λ (z : List ℕ). unit h * entry (width h) d z) (array_same h middle bytes v front)
          links (Left q) ne = ap (λ (o : Option Record). unit h * left_of o) (off q (λ e. ne (ap (λ (z : ℕ). Some z) e)))
          links (Right q) ne = ap (λ (o : Option Record). unit h * right_of o) (off q (λ e. ne (ap (λ (z : ℕ). Some z) e)))

      -- the record there has the key that was taken out
      not_there : (k : Key) → key_of (record_at h.first x.pieces at) ≡ Some k → with_key g.places key None k ≢ Some at
      not_there k e f =
          let hk = has_key (record_at h.first x.pieces) at k e in
          let same : hk.rec ≡ still.rec = (let i : Some hk.rec ≡ Some still.rec = sym hk.at ∙ still.at in cc) in
          let is : k ≡ key = sym hk.key ∙ ap (λ (z : Record). z.key) same ∙ still.key ∙ it.key_is in
          let o : key_cmp k key ≡ Equal = ap (λ (z : Key). key_cmp z key) is ∙ same_key key in
          let i : None ≡ Some at = rw o at f in cc

      -- what is left was there before
      left_over : (p : ℕ) (r : Record) → record_at h.first b.pieces p ≡ Some r → Alike (record_at h.first g.pieces) p r × (p ≢ at) × (r.key ≢ key)
      left_over p r is =
          let ne : p ≢ at = λ e. (let f : None ≡ Some r = sym gone ∙ ap (record_at h.first b.pieces) (sym e) ∙ is in cc) in
          let o = was (record_at h.first g.pieces) (record_at h.first x.pieces) x.kept p r (sym (off p ne) ∙ is) in
          let apart : r.key ≢ key = λ e. ne (let f : Some p ≡ Some at = sym (g.is.hang.all p o.rec o.at) ∙ ap g.places (o.key ∙ e) ∙ it.place_is in cc) in
          (o, ne, apart)

      all : (p : ℕ) (r : Record) → record_at h.first b.pieces p ≡ Some r → with_key g.places key None r.key ≡ Some p
      all p r is =
          let o = left_over p r is in
          let f : g.places r.key ≡ Some p = ap g.places (sym o.0.key) ∙ g.is.hang.all p o.0.rec o.0.at in
          three (key_cmp r.key key) (λ t. rw t f) (λ t. absurd (o.2 (equal_same r.key key t))) (λ t. rw t f)

      map_without : IsMapOf (record_at h.first b.pieces) (get (remove m key))
      map_without k val = (there, back_again)
        where
          there : get (remove m key) k ≡ Some val → (p : ℕ) × (r : Record) × (record_at h.first b.pieces p ≡ Some r) × (r.key ≡ k) × (r.value ≡ val)
          there e =
              let ne : k ≢ key = λ i. (let f : None ≡ Some val = sym (remove_here m key) ∙ ap (get (remove m key)) (sym i) ∙ e in cc) in
              let o = (g.is.map k val).0 (sym (remove_other m key k ne) ∙ e) in
              let far : o.0 ≢ at = λ i. (let f : Some o.1 ≡ Some it.r = sym o.2 ∙ ap (record_at h.first g.pieces) i ∙ it.is in let j : o.1 ≡ it.r = cc in ne (sym o.3 ∙ ap (λ (z : Record). z.key) j ∙ it.key_is)) in
              let y = is_now (record_at h.first g.pieces) (record_at h.first x.pieces) x.kept o.0 o.1 o.2 in
              (o.0, y.rec, off o.0 far ∙ y.at, y.key ∙ o.3, y.value ∙ o.4)

          back_again : (p : ℕ) × (r : Record) × (record_at h.first b.pieces p ≡ Some r) × (r.key ≡ k) × (r.value ≡ val) → get (remove m key) k ≡ Some val
          back_again o =
              let y = left_over o.0 o.1 o.2 in
              remove_other m key k (λ i. y.2 (o.3 ∙ i)) ∙ (g.is.map k val).1 (o.0, y.0.rec, y.0.at, y.0.key ∙ o.3, y.0.value ∙ o.4)

      pub out_done : HasMap h end free' (remove m key) bytes
      out_done = record {
        pieces = b.pieces;
        places = with_key g.places key None;
        is = record {
          laid = unlent (unit h) h.first end b.pieces free' at bytes b.is;
          widths = λ q r is. (let ne : q ≢ at = λ e. (let f : None ≡ Some r = sym gone ∙ ap (record_at h.first b.pieces) (sym e) ∙ is in cc) in x.widths q r (sym (off q ne) ∙ is));
          hang = record { holds = holds_off (view_of h x.pieces middle) (view_of h b.pieces bytes) h.buckets at (with_key g.places key None) besides not_there x.holds; all = all };
          map = map_without;
        };
        short = g.short;
      }
