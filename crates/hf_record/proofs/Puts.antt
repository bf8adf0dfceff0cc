-- A new key put: a record is written where none was, and hung in the gap of its key.
use Rattle.std.proofs.Common.{◌≡◌, ◌≢◌, ◌∙◌, inl, inr, ℕ, ◌*◌, ◌≤◌, ◌^◌, List, length, replicate, refl, sym, ap, subst, arith, Option, Some, None, Bool, cond}
use Rattle.std.specs.Prelude.{option_map}
use Rattle.std.proofs.lemmas.Bool.{cases_eq, eq-eqb, ne_eqb}
use Rattle.std.specs.declared.cmp.Ordering.TheVariants.{Less, Equal, Greater}
use Rattle.std.specs.FinMap.{get, insert}
use Rattle.tc_base.specs.Hashes.{second}
use Rattle.tc_base.specs.Maps.{Map}
use Rattle.tc_base.specs.Vnum.{vnum}
use Rattle.hf_head.specs.declared.head.Head.{Head}
use Rattle.hf_head.specs.Heads.{IsValid, unit}
use Rattle.hf_block.specs.Pieces.{Record, Piece, held, size_of}
use Rattle.hf_block.proofs.Padding.{length-held}
use Rattle.hf_layout.specs.Frees.{Frees, none}
use Rattle.hf_layout.specs.Layout.{record_at, HaveWidth, LaidOut}
use Rattle.hf_tree.specs.declared.parent.Parent.{Parent}
use Rattle.hf_tree.specs.declared.parent.Parent.TheVariants.{Bucket, Left, Right}
use Rattle.hf_tree.specs.declared.parent.Found.TheVariants.{Gap}
use Rattle.hf_tree.specs.Keys.{Key, key_cmp, bucket_of}
use Rattle.hf_tree.specs.Trees.{Tree, seek}
use Rattle.hf_tree.specs.Views.{Holds, Besides, owner, with_key, found_place}
use Rattle.hf_tree.specs.Links.{width, entry, left_of, right_of, key_of, links_of, view_of, unlinked, AreKept}
use Rattle.hf_tree.specs.Standing.{IsMapOf, AllHang}
use Rattle.hf_tree.proofs.Orders.{three, same_key, equal_same}
use Rattle.hf_tree.proofs.Off.{holds_off_same, seek_look}
use Rattle.hf_tree.proofs.Ways.{key_is}
use Rattle.hf_tree.proofs.Fields.{blocks_of}
use Rattle.hf_chain.specs.Chains.{CanHang, MayHang, Rehung}
use Rattle.hf_record.specs.Allocating.{HoldsWritten}
use Rattle.hf_record.specs.Holding.{HasMap, IsSearched}
use Rattle.hf_record.specs.Moves.{Added}
use Rattle.hf_record.proofs.Maps.{insert_here, insert_other}
use Rattle.hf_record.proofs.Fronts.{array_same}

-- ---- records that were kept but for their chains

-- the record there is another's key and value
pub record Alike (now : ℕ → Option Record) (p : ℕ) (s : Record) : Type 0 where
  pub rec : Record
  pub at : now p ≡ Some rec
  pub same : unlinked rec ≡ unlinked s
  pub key : rec.key ≡ s.key
  pub value : rec.value ≡ s.value

alike : (now : ℕ → Option Record) (p : ℕ) (s : Record) (o : Option Record) → now p ≡ o → option_map unlinked o ≡ Some (unlinked s) → Alike now p s
alike now p s None e is = absurd cc
alike now p s (Some x) e is = let g : unlinked x ≡ unlinked s = cc in record { rec = x; at = e; same = g; key = ap (λ (z : Record). z.key) g; value = ap (λ (z : Record). z.value) g }

pub was : (old now : ℕ → Option Record) → AreKept old now → (p : ℕ) (s : Record) → now p ≡ Some s → Alike old p s
was old now kept p s at = alike old p s (old p) refl (sym (kept p) ∙ ap (option_map unlinked) at)

pub is_now : (old now : ℕ → Option Record) → AreKept old now → (p : ℕ) (s : Record) → old p ≡ Some s → Alike now p s
is_now old now kept p s at = alike now p s (now p) refl (kept p ∙ ap (option_map unlinked) at)

-- the bytes of a record whose links alone changed are as many
pub same_size : (r s : Record) → unlinked r ≡ unlinked s → size_of (held r) ≡ size_of (held s)
same_size r s e =
    let w = ap (λ (z : Record). z.wide) e in
    let k = ap (λ (z : Record). length z.key) e in
    let val = ap (λ (z : Record). length z.value) e in
    let p = ap (λ (z : Record). length z.pad) e in
    let kk = ap (λ (z : Record). length (vnum (length z.key))) e in
    let vv = ap (λ (z : Record). length (vnum (length z.value))) e in
    omega (arith, length-held r, length-held s)

-- ---- a record more

module _ (h : Head) (end : ℕ) (old : List Piece) (free : Frees) (place : ℕ) (r : Record) (before bytes : List ℕ) (v : IsValid h) (a : Added (unit h) h.first end old free place r before bytes) where
  abbrev ps : List Piece
  ps = a.now.pieces

  added_here : record_at h.first ps place ≡ Some r
  added_here = a.now.records place ∙ ap (λ (b : Bool). cond b (Some r) (record_at h.first old place)) (eq-eqb place place refl)

  added_off : (q : ℕ) → q ≢ place → record_at h.first ps q ≡ record_at h.first old q
  added_off q ne = a.now.records q ∙ ap (λ (b : Bool). cond b (Some r) (record_at h.first old q)) (ne_eqb q place ne)

  pub added_widths : r.wide ≡ width h → HaveWidth (width h) h.first old → HaveWidth (width h) h.first a.now.pieces
  added_widths its widths q s at = elim (cases_eq q place) [
    | inl e ↦ (let f : Some r ≡ Some s = sym added_here ∙ ap (record_at h.first ps) (sym e) ∙ at in let g : r ≡ s = cc in sym (ap (λ (z : Record). z.wide) g) ∙ its)
    | inr ne ↦ widths q s (sym (added_off q ne) ∙ at)
  ]

  besides : Besides (view_of h old before) (view_of h ps bytes) place
  unfolding links_of
  besides = record { keys = λ q ne. ap key_of (added_off q ne); links = links }
    where
      links : (c : Parent) → owner c ≢ Some place → links_of h ps bytes c ≡ links_of h old before c
      links (Bucket b) ne = ap (λ (z : List ℕ). unit h * entry (width h) b z) (array_same h before bytes v a.now.front)
      links (Left q) ne = ap (λ (o : Option Record). unit h * left_of o) (added_off q (λ e. ne (ap (λ (z : ℕ). Some z) e)))
      links (Right q) ne = ap (λ (o : Option Record). unit h * right_of o) (added_off q (λ e. ne (ap (λ (z : ℕ). Some z) e)))

  -- it may be hung in the gap of its key
  pub can_hang : (places : Key → Option ℕ) (key : Key) (to : Parent) (w : Holds (view_of h old before) h.buckets places) → seek (Bucket (bucket_of h.buckets key)) (w.trees (bucket_of h.buckets key)) key ≡ Gap to → r.key ≡ key → r.hash ≡ second key → r.left ≡ 0 → r.right ≡ 0 → CanHang (view_of h a.now.pieces bytes) h.buckets places key place to
  unfolding links_of
  can_hang places key to w gap its hash left right =
      let off = holds_off_same (view_of h old before) (view_of h ps bytes) h.buckets place places besides (λ k e. absurd (let f : None ≡ Some k = sym (ap key_of a.fresh) ∙ e in cc)) w in
      record {
        holds = off.0;
        gap = ap (λ (f : ℕ → Tree). seek (Bucket (bucket_of h.buckets key)) (f (bucket_of h.buckets key)) key) off.1 ∙ gap;
        key = key_is (record_at h.first ps) place r added_here (hash ∙ ap second (sym its)) ∙ ap (λ (k : Key). Some k) its;
        left = ap (λ (o : Option Record). unit h * left_of o) added_here ∙ ap (λ (n : ℕ). unit h * n) left ∙ omega arith;
        right = ap (λ (o : Option Record). unit h * right_of o) added_here ∙ ap (λ (n : ℕ). unit h * n) right ∙ omega arith;
      }

  -- ---- once it hangs

  module _ (now : ℕ → Option Record) (kept : AreKept (record_at h.first a.now.pieces) now) (places : Key → Option ℕ) (key : Key) (to : Parent) (w : AllHang (links_of h old before) (record_at h.first old) h.buckets places) (gap : seek (Bucket (bucket_of h.buckets key)) (w.holds.trees (bucket_of h.buckets key)) key ≡ Gap to) (its : r.key ≡ key) where
    -- in the gap of a key no record has it
    no_place : places key ≡ None
    no_place = w.holds.map key ∙ seek_look (Bucket (bucket_of h.buckets key)) (w.holds.trees (bucket_of h.buckets key)) key ∙ ap found_place gap

    pub all_placed : (p : ℕ) (s : Record) → now p ≡ Some s → with_key places key (Some place) s.key ≡ Some p
    all_placed p s at =
        let o = was (record_at h.first ps) now kept p s at in
        elim (cases_eq p place) [
          | inl e ↦ (let same : o.rec ≡ r = (let f : Some o.rec ≡ Some r = sym o.at ∙ ap (record_at h.first ps) e ∙ added_here in cc) in
              let k : s.key ≡ key = sym o.key ∙ ap (λ (z : Record). z.key) same ∙ its in
              let t : key_cmp s.key key ≡ Equal = ap (λ (z : Key). key_cmp z key) k ∙ same_key key in
              rw t (ap (λ (z : ℕ). Some z) (sym e)))
          | inr ne ↦ (let f : places s.key ≡ Some p = ap places (sym o.key) ∙ w.all p o.rec (sym (added_off p ne) ∙ o.at) in
              three (key_cmp s.key key)
              (λ t. rw t f)
              (λ t. absurd (let k = equal_same s.key key t in let g : None ≡ Some p = sym no_place ∙ ap places (sym k) ∙ f in cc))
              (λ t. rw t f))
        ]

    -- and the map has one key more
    pub map_with : (m : Map) → IsMapOf (record_at h.first old) (get m) → IsMapOf now (get (insert m key r.value))
    map_with m is k v = (there, back)
      where
        n : Map
        n = insert m key r.value

        other : get n k ≡ Some v → k ≢ key → (p : ℕ) × (s : Record) × (now p ≡ Some s) × (s.key ≡ k) × (s.value ≡ v)
        other e ne =
            let o = (is k v).0 (sym (insert_other m key r.value k ne) ∙ e) in
            let off : o.0 ≢ place = λ i. (let f : None ≡ Some o.1 = sym a.fresh ∙ ap (record_at h.first old) (sym i) ∙ o.2 in cc) in
            let x = is_now (record_at h.first ps) now kept o.0 o.1 (added_off o.0 off ∙ o.2) in
            (o.0, x.rec, x.at, x.key ∙ o.3, x.value ∙ o.4)

        there : get n k ≡ Some v → (p : ℕ) × (s : Record) × (now p ≡ Some s) × (s.key ≡ k) × (s.value ≡ v)
        there e = three (key_cmp k key) (λ t. other e (λ i. (let f : Less ≡ Equal = sym t ∙ ap (λ (z : Key). key_cmp z key) i ∙ same_key key in cc)))
            (λ t. (let i = equal_same k key t in let x = is_now (record_at h.first ps) now kept place r added_here in
            (place, x.rec, x.at, x.key ∙ its ∙ sym i, x.value ∙ (let f : Some r.value ≡ Some v = sym (insert_here m key r.value) ∙ ap (get n) (sym i) ∙ e in cc))))
            (λ t. other e (λ i. (let f : Greater ≡ Equal = sym t ∙ ap (λ (z : Key). key_cmp z key) i ∙ same_key key in cc)))

        back : (p : ℕ) × (s : Record) × (now p ≡ Some s) × (s.key ≡ k) × (s.value ≡ v) → get n k ≡ Some v
        back o =
            let x = was (record_at h.first ps) now kept o.0 o.1 o.2 in
            elim (cases_eq o.0 place) [
              | inl e ↦ (let same : x.rec ≡ r = (let f : Some x.rec ≡ Some r = sym x.at ∙ ap (record_at h.first ps) e ∙ added_here in cc) in
                  let i : k ≡ key = sym o.3 ∙ sym x.key ∙ ap (λ (z : Record). z.key) same ∙ its in
                  let j : r.value ≡ v = sym (ap (λ (z : Record). z.value) same) ∙ x.value ∙ o.4 in
                  ap (get n) i ∙ insert_here m key r.value ∙ ap (λ (z : List ℕ). Some z) j)
              | inr ne ↦ (let at = sym (added_off o.0 ne) ∙ x.at in
                  let mine : get m k ≡ Some v = (is k v).1 (o.0, x.rec, at, x.key ∙ o.3, x.value ∙ o.4) in
                  let off : k ≢ key = λ i. (let f = w.all o.0 x.rec at in let e : None ≡ Some o.0 = sym no_place ∙ ap places (sym i ∙ sym o.3 ∙ sym x.key) ∙ f in cc) in
                  insert_other m key r.value k off ∙ mine)
            ]

-- a new key put, on the whole
module _ (h : Head) (end end' : ℕ) (free free' : Frees) (place : ℕ) (r : Record) (before middle bytes : List ℕ) (key : Key) (to : Parent) (v : IsValid h) (s : IsSearched h key (Gap to) before) (its : r.key ≡ key) (hash : r.hash ≡ second key) (left : r.left ≡ 0) (right : r.right ≡ 0) (wide : r.wide ≡ width h) where
  gap_in : (m : Map) (g : HasMap h end free m before) → seek (Bucket (bucket_of h.buckets key)) (g.is.hang.holds.trees (bucket_of h.buckets key)) key ≡ Gap to
  gap_in m g = s.ends end g.pieces free g.places m g.is

  pub may_hang : (m : Map) (g : HasMap h end free m before) → Added (unit h) h.first end' g.pieces free' place r before middle → MayHang h place to middle
  may_hang m g a = record {
    end = end';
    pieces = a.now.pieces;
    blocks = blocks_of h end' a.now.pieces free' none middle a.now.is (added_widths h end' g.pieces free' place r before middle v a wide g.is.widths);
    places = g.places;
    key = key;
    can = can_hang h end' g.pieces free' place r before middle v a g.places key to g.is.hang.holds (gap_in m g) its hash left right;
  }

  -- what hanging it does
  pub rehung : (m : Map) (g : HasMap h end free m before) (a : Added (unit h) h.first end' g.pieces free' place r before middle)
      → ((e : ℕ) (qs : List Piece) (f lent : Frees) (places : Key → Option ℕ) (k : Key) → LaidOut (unit h) h.first e qs f lent middle → HaveWidth (width h) h.first qs → CanHang (view_of h qs middle) h.buckets places k place to → Rehung h e qs f lent (with_key places k (Some place)) 1 middle bytes)
      → Rehung h end' a.now.pieces free' none (with_key g.places key (Some place)) 1 middle bytes
  rehung m g a hung = hung end' a.now.pieces free' none g.places key a.now.is (added_widths h end' g.pieces free' place r before middle v a wide g.is.widths) (can_hang h end' g.pieces free' place r before middle v a g.places key to g.is.hang.holds (gap_in m g) its hash left right)

  pub put_done : (m : Map) (g : HasMap h end free m before) (a : Added (unit h) h.first end' g.pieces free' place r before middle) → end' ≤ 2 ^ 40
      → ((e : ℕ) (qs : List Piece) (f lent : Frees) (places : Key → Option ℕ) (k : Key) → LaidOut (unit h) h.first e qs f lent middle → HaveWidth (width h) h.first qs → CanHang (view_of h qs middle) h.buckets places k place to → Rehung h e qs f lent (with_key places k (Some place)) 1 middle bytes)
      → r.pad ≡ replicate (length r.pad) 0 → HoldsWritten h end' free' (insert m key r.value) key place (size_of (held r)) bytes
  put_done m g a short hung zeros =
      let widths = added_widths h end' g.pieces free' place r before middle v a wide g.is.widths in
      let x = hung end' a.now.pieces free' none g.places key a.now.is widths (can_hang h end' g.pieces free' place r before middle v a g.places key to g.is.hang.holds (gap_in m g) its hash left right) in
      let here = is_now (record_at h.first a.now.pieces) (record_at h.first x.pieces) x.kept place r (added_here h end' g.pieces free' place r before middle v a) in
      record {
        holds = record {
          has = record {
            pieces = x.pieces;
            places = with_key g.places key (Some place);
            is = record {
              laid = x.is;
              widths = x.widths;
              hang = record { holds = x.holds; all = all_placed h end' g.pieces free' place r before middle v a (record_at h.first x.pieces) x.kept g.places key to g.is.hang (gap_in m g) its };
              map = map_with h end' g.pieces free' place r before middle v a (record_at h.first x.pieces) x.kept g.places key to g.is.hang (gap_in m g) its m g.is.map;
            };
            short = short;
          };
          r = here.rec;
          there = here.at;
          key_is = here.key ∙ its;
          size_is = same_size here.rec r here.same;
        };
        padded = subst (λ (l : List ℕ). l ≡ replicate (length l) 0) (sym (ap (λ (z : Record). z.pad) here.same)) zeros;
      }
