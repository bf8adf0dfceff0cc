-- Links set, and the trees that hang then.
use Rattle.std.proofs.Common.{◌≡◌, ◌≢◌, ◌∙◌, ⊎_elim, ℕ, ◌+◌, ◌*◌, ◌/◌, ◌^◌, ◌<◌, ◌≤◌, List, length, refl, sym, ap, subst, arith, Option, Some, None}
use Rattle.std.specs.Prelude.{option_map}
use Rattle.std.proofs.lemmas.Nat.{pow_pos}
use Rattle.std.proofs.Math.Nat.{mul-pos, div-add-mod}
use Rattle.tc_base.specs.Endian.{le_bytes}
use Rattle.tc_base.specs.Files.{wrote}
use Rattle.hf_head.specs.declared.head.Head.{Head}
use Rattle.hf_head.specs.Heads.{IsValid, unit}
use Rattle.hf_block.specs.Pieces.{Record, Piece}
use Rattle.hf_layout.specs.Frees.{Frees}
use Rattle.hf_layout.specs.Layout.{record_at, HaveWidth, LaidOut}
use Rattle.hf_tree.specs.declared.parent.Parent.{Parent}
use Rattle.hf_tree.specs.declared.parent.Parent.TheVariants.{Bucket, Left, Right}
use Rattle.hf_tree.specs.declared.parent.Found.{Found}
use Rattle.hf_tree.specs.Keys.{Key, key_cmp, bucket_of}
use Rattle.hf_tree.specs.Trees.{Tree, leaf, node, nodes, seek, last, part}
use Rattle.hf_tree.specs.Views.{View, Hangs, Linked, Holds, with_key, parent_of}
use Rattle.hf_tree.specs.Links.{width, HasBlocks, place_of, links_of, view_of, unlinked, AreKept, Relinked, IsThere}
use Rattle.hf_tree.proofs.Orders.{three}
use Rattle.hf_tree.proofs.Hanging.{Keyed, hangs_keys, OwnedBy, owned_all, seek_owner, last_all}
use Rattle.hf_tree.proofs.Calls.{Out, hang_holds, out_of, unhang_left, unhang_right, unhang_both}
use Rattle.hf_tree.proofs.Ways.{none_zero}
use Rattle.hf_tree.proofs.Fields.{blocks_of, relinked, is_bare}
use Rattle.hf_chain.specs.declared.heads.RecHead.{RecHead}
use Rattle.hf_chain.specs.Heads.{head_of, HasRecord, capped}
use Rattle.hf_chain.specs.Costs.{Within}
use Rattle.hf_chain.specs.Differs.{OnlyLinks}
use Rattle.hf_chain.specs.Chains.{CanName, CanHang, IsHere, MayHang, MayUnhang, HasSubtree, IsLast, Rehung, around}
use Rattle.hf_chain.proofs.Descents.{Held, held_at, lefts, rights, hangs_inside, few_inside, capped_same}
use Rattle.hf_chain.proofs.Differing.{link_inside, links_one, links_then, links_fewer}
use Rattle.hf_chain.proofs.Paying.{within_by}
use Rattle.hf_layout.proofs.Segments.{wrote_long}
use Rattle.tc_base.proofs.Endians.{length-le_bytes}

pub bucket_low : (h : Head) (k : Key) → IsValid h → bucket_of h.buckets k < h.buckets
unfolding bucket_of
bucket_low h k v = omega (arith, v.numbers.some_buckets)

pub unit_some : (h : Head) → 0 < unit h
unit_some h = pow_pos h.apow

-- ---- links that are there

-- a link of a record that has a key is there
there_owned : (h : Head) (end : ℕ) (ps : List Piece) (bytes : List ℕ) (c : Parent) → HasBlocks h end ps bytes → OwnedBy (Keyed (view_of h ps bytes)) c → IsThere h ps c
there_owned h end ps bytes (Bucket b) w o = absurd (let e : None ≡ Some o.at = o.owns in cc)
there_owned h end ps bytes (Left p) w o = let e : Some p ≡ Some o.at = o.owns in let f : o.at ≡ p = cc in let x = held_at h end ps bytes p o.key w (subst (λ z. Keyed (view_of h ps bytes) z o.key) f o.has) in (x.r, x.at)
there_owned h end ps bytes (Right p) w o = let e : Some p ≡ Some o.at = o.owns in let f : o.at ≡ p = cc in let x = held_at h end ps bytes p o.key w (subst (λ z. Keyed (view_of h ps bytes) z o.key) f o.has) in (x.r, x.at)

-- where a search in a bucket ends, a link is there
pub parent_there : (h : Head) (end : ℕ) (ps : List Piece) (bytes : List ℕ) (places : Key → Option ℕ) (k : Key) (w : Holds (view_of h ps bytes) h.buckets places) → IsValid h → HasBlocks h end ps bytes → IsThere h ps (parent_of (seek (Bucket (bucket_of h.buckets k)) (w.trees (bucket_of h.buckets k)) k))
parent_there h end ps bytes places k w v blocks =
    let b = bucket_of h.buckets k in
    let t = w.trees b in
    let low = bucket_low h k v in
    let hung = w.hung b low in
    ⊎_elim (λ i. subst (λ (c : Parent). IsThere h ps c) (sym i) low)
    (λ i. there_owned h end ps bytes (parent_of (seek (Bucket b) t k)) blocks (owned_all (Keyed (view_of h ps bytes)) (parent_of (seek (Bucket b) t k)) t (hangs_keys (view_of h ps bytes) (links_of h ps bytes (Bucket b)) t hung.hangs) i))
    (seek_owner (Bucket b) t k)

-- ---- a record hung

pub gap_there : (h : Head) (end : ℕ) (ps : List Piece) (bytes : List ℕ) (places : Key → Option ℕ) (k : Key) (at : ℕ) (to : Parent) → IsValid h → HasBlocks h end ps bytes → CanHang (view_of h ps bytes) h.buckets places k at to → IsThere h ps to
gap_there h end ps bytes places k at to v w can = subst (λ (f : Found). IsThere h ps (parent_of f)) can.gap (parent_there h end ps bytes places k can.holds v w)

pub gap_inside : (h : Head) (at : ℕ) (to : Parent) (bytes : List ℕ) → IsValid h → MayHang h at to bytes → place_of (width h) to + width h ≤ length bytes
gap_inside h at to bytes v m = link_inside h m.end m.pieces bytes to v m.blocks (gap_there h m.end m.pieces bytes m.places m.key at to v m.blocks m.can)

pub name_fits : (h : Head) (at u : ℕ) → u ≡ unit h → CanName h at → at / u < 256 ^ width h
name_fits h at u ue can = subst (λ (z : ℕ). at / z < 256 ^ width h) (sym ue) can.fits

pub hung : (h : Head) (end : ℕ) (ps : List Piece) (frees lent : Frees) (old new : List ℕ) (places : Key → Option ℕ) (k : Key) (at u : ℕ) (to : Parent) → IsValid h → LaidOut (unit h) h.first end ps frees lent old → HaveWidth (width h) h.first ps → CanHang (view_of h ps old) h.buckets places k at to → u ≡ unit h → CanName h at → new ≡ wrote (place_of (width h) to) (le_bytes (width h) (at / u)) old → Rehung h end ps frees lent (with_key places k (Some at)) 1 old new
hung h end ps frees lent old new places k at u to v l widths can ue named is =
    let w = blocks_of h end ps frees lent old l widths in
    let x = held_at h end ps old at k w can.key in
    let n : ℕ = at / unit h in
    let there = gap_there h end ps old places k at to v w can in
    let same : wrote (place_of (width h) to) (le_bytes (width h) n) old ≡ new = sym (is ∙ ap (λ (z : ℕ). wrote (place_of (width h) to) (le_bytes (width h) (at / z)) old) ue) in
    let r = subst (λ (b : List ℕ). Relinked h end ps frees lent old to n b) same (relinked h end ps frees lent old to n v l widths there named.fits) in
    let e : unit h * n ≡ at = omega (arith, div-add-mod at (unit h), named.aligned) in
    record {
      pieces = r.pieces;
      is = r.is;
      widths = r.widths;
      kept = r.kept;
      holds = hang_holds (view_of h ps old) (view_of h r.pieces new) h.buckets places k at to can.holds (bucket_low h k v) can.gap can.key (none_zero (record_at h.first ps) at x.r (is_bare h end ps old v w).none x.at) can.left can.right
          (subst (λ (z : ℕ). Linked (view_of h ps old) (view_of h r.pieces new) to z) e r.linked);
      rest = subst (λ (b : List ℕ). OnlyLinks h 1 old b) same (links_one h end ps old to n v w there);
    }

-- ---- the way to the rightmost record of a tree

pub record Walk (h : Head) (end : ℕ) (ps : List Piece) (bytes : List ℕ) (t : Tree) (at p i : ℕ) : Type 0 where
  pub key : Key
  pub l : Tree
  pub r : Tree
  pub hangs : Hangs (view_of h ps bytes) p (node p key l r)
  pub same : last p r ≡ last at t
  pub few : i + nodes r < nodes t

rooted_at : (v : View) (a p : ℕ) (q : Key) (l r : Tree) → a ≡ p → Hangs v p (node p q l r) → Hangs v a (node a q l r)
rooted_at v a p q l r e h = subst (λ z. Hangs v z (node z q l r)) (sym e) h

pub walk_start : (h : Head) (end : ℕ) (ps : List Piece) (bytes : List ℕ) (t : Tree) (at : ℕ) → Hangs (view_of h ps bytes) at t → at ≢ 0 → Walk h end ps bytes t at at 0
walk_start h end ps bytes leaf at hang some = absurd (some hang)
walk_start h end ps bytes (node p q l r) at hang some = record { key = q; l = l; r = r; hangs = rooted_at (view_of h ps bytes) at p q l r hang.0 (subst (λ z. Hangs (view_of h ps bytes) z (node p q l r)) hang.0 hang); same = ap (λ z. last z r) hang.0; few = omega arith }

pub walk_held : (h : Head) (end : ℕ) (ps : List Piece) (bytes : List ℕ) (t : Tree) (at p i : ℕ) → HasBlocks h end ps bytes → (w : Walk h end ps bytes t at p i) → Held h end ps bytes p w.key
walk_held h end ps bytes t at p i b w = held_at h end ps bytes p w.key b w.hangs.2

pub walk_more : (h : Head) (end : ℕ) (ps : List Piece) (bytes : List ℕ) (t : Tree) (at p i u next : ℕ) (rec : RecHead) (b : HasBlocks h end ps bytes) (w : Walk h end ps bytes t at p i) → u ≡ unit h → rec ≡ head_of (walk_held h end ps bytes t at p i b w).r → rec.right ≢ 0 → next ≡ capped (u * rec.right) → length bytes < 2 ^ 64 → Walk h end ps bytes t at next (i + 1)
walk_more h end ps bytes t at p i u next rec b w ue is ne named room =
    let x = walk_held h end ps bytes t at p i b w in
    let e : links_of h ps bytes (Right p) ≡ u * rec.right = rights h end ps bytes p w.key x ∙ (λ j. sym ue j * (sym is j).right) in
    let inside = hangs_inside h end ps bytes (links_of h ps bytes (Right p)) w.r b w.hangs.4 in
    let f : links_of h ps bytes (Right p) ≡ next = e ∙ sym (named ∙ capped_same (u * rec.right) (length bytes) (omega (arith, e, inside)) room) in
    let pos : 0 < u * rec.right = mul-pos (omega (arith, ue, unit_some h)) (omega (arith, ne)) in
    go w.r w.hangs.4 w.same w.few f (omega (arith, pos, e, f))
  where
    go : (r : Tree) → Hangs (view_of h ps bytes) (links_of h ps bytes (Right p)) r → last p r ≡ last at t → i + nodes r < nodes t → links_of h ps bytes (Right p) ≡ next → next ≢ 0 → Walk h end ps bytes t at next (i + 1)
    go leaf hang same few e ne2 = absurd (ne2 (sym e ∙ hang))
    go (node q k l r) hang same few e ne2 =
        let f : next ≡ q = sym e ∙ hang.0 in
        record { key = k; l = l; r = r; hangs = rooted_at (view_of h ps bytes) next q k l r f (subst (λ z. Hangs (view_of h ps bytes) z (node q k l r)) hang.0 hang); same = ap (λ z. last z r) f ∙ same; few = omega (arith, few) }

pub walk_done : (h : Head) (end : ℕ) (ps : List Piece) (bytes : List ℕ) (t : Tree) (at p i : ℕ) (rec : RecHead) (b : HasBlocks h end ps bytes) (w : Walk h end ps bytes t at p i) → rec ≡ head_of (walk_held h end ps bytes t at p i b w).r → rec.right ≡ 0 → p ≡ last at t
walk_done h end ps bytes t at p i rec b w is none =
    let x = walk_held h end ps bytes t at p i b w in
    go w.r w.hangs.4 w.same (rights h end ps bytes p w.key x ∙ (λ j. unit h * (sym is j).right) ∙ ap (λ z. unit h * z) none ∙ omega arith)
  where
    go : (r : Tree) → Hangs (view_of h ps bytes) (links_of h ps bytes (Right p)) r → last p r ≡ last at t → links_of h ps bytes (Right p) ≡ 0 → p ≡ last at t
    go leaf hang same z = same
    go (node q k l r) hang same z = absurd (hang.1 (sym hang.0 ∙ z))

-- ---- a record taken out

-- what is known where the search for a key ended at its record
pub record AtHand (h : Head) (end : ℕ) (ps : List Piece) (bytes : List ℕ) (places : Key → Option ℕ) (k : Key) (at : ℕ) (from : Parent) (w : IsHere (view_of h ps bytes) h.buckets places k at from) : Type 0 where
  pub out : Out (view_of h ps bytes) h.buckets places k at from w.holds
  pub held : Held h end ps bytes at k
  pub from_there : IsThere h ps from
  pub left : links_of h ps bytes (Left at) ≡ unit h * held.r.left
  pub right : links_of h ps bytes (Right at) ≡ unit h * held.r.right
  pub few : nodes out.l + 1 ≤ around (view_of h ps bytes) h.buckets places k at from w

part_few : (t : Tree) (k : Key) → nodes (part t k) ≤ nodes t
part_few leaf k = omega arith
part_few (node p q l r) k = three (key_cmp k q) (λ e. rw e (omega (arith, part_few r k))) (λ e. rw e (omega arith)) (λ e. rw e (omega (arith, part_few l k)))

pub at_hand : (h : Head) (end : ℕ) (ps : List Piece) (bytes : List ℕ) (places : Key → Option ℕ) (k : Key) (at : ℕ) (from : Parent) → IsValid h → HasBlocks h end ps bytes → (w : IsHere (view_of h ps bytes) h.buckets places k at from) → AtHand h end ps bytes places k at from w
at_hand h end ps bytes places k at from v b w =
    let o = out_of (view_of h ps bytes) h.buckets places k at from w.holds (bucket_low h k v) w.here in
    let x = held_at h end ps bytes at k b o.hangs.2 in
    record {
      out = o;
      held = x;
      from_there = subst (λ (f : Found). IsThere h ps (parent_of f)) w.here (parent_there h end ps bytes places k w.holds v b);
      left = lefts h end ps bytes at k x;
      right = rights h end ps bytes at k x;
      few = omega (arith, part_few (w.holds.trees (bucket_of h.buckets k)) k, ap nodes o.part_is);
    }

pub some_around : (h : Head) (end : ℕ) (ps : List Piece) (bytes : List ℕ) (places : Key → Option ℕ) (k : Key) (at : ℕ) (from : Parent) → IsValid h → HasBlocks h end ps bytes → (w : IsHere (view_of h ps bytes) h.buckets places k at from) → 1 ≤ around (view_of h ps bytes) h.buckets places k at from w
some_around h end ps bytes places k at from v b w = let x = at_hand h end ps bytes places k at from v b w in omega (arith, x.few)

pub here_inside : (h : Head) (at : ℕ) (from : Parent) (bytes : List ℕ) → IsValid h → MayUnhang h at from bytes → at ≤ length bytes
here_inside h at from bytes v m = let x = at_hand h m.end m.pieces bytes m.places m.key at from v m.blocks m.is in omega (arith, x.held.lies.high, m.blocks.within)

pub from_inside : (h : Head) (at : ℕ) (from : Parent) (bytes now : List ℕ) → IsValid h → MayUnhang h at from bytes → now ≡ bytes → place_of (width h) from + width h ≤ length now
from_inside h at from bytes now v m same = let x = at_hand h m.end m.pieces bytes m.places m.key at from v m.blocks m.is in subst (λ (l : List ℕ). place_of (width h) from + width h ≤ length l) (sym same) (link_inside h m.end m.pieces bytes from v m.blocks x.from_there)

-- what was read of the record that is to be taken out
abbrev pub IsReadAs : Head → RecHead → ℕ → List ℕ → Type 0
IsReadAs h rec at bytes = (r : Record) → HasRecord h r at bytes → rec ≡ head_of r

set_now : (h : Head) (end : ℕ) (ps : List Piece) (frees lent : Frees) (old now new : List ℕ) (c : Parent) (n : ℕ) → IsValid h → LaidOut (unit h) h.first end ps frees lent old → HaveWidth (width h) h.first ps → IsThere h ps c → n < 256 ^ width h → now ≡ old → new ≡ wrote (place_of (width h) c) (le_bytes (width h) n) now → Relinked h end ps frees lent old c n new × OnlyLinks h 1 old new
set_now h end ps frees lent old now new c n v l widths there fits same is =
    let e = is ∙ ap (λ (b : List ℕ). wrote (place_of (width h) c) (le_bytes (width h) n) b) same in (
      subst (λ (b : List ℕ). Relinked h end ps frees lent old c n b) (sym e) (relinked h end ps frees lent old c n v l widths there fits),
      subst (λ (b : List ℕ). OnlyLinks h 1 old b) (sym e) (links_one h end ps old c n v (blocks_of h end ps frees lent old l widths) there),
    )

zero_of : (u n x : ℕ) → x ≡ u * n → n ≡ 0 → x ≡ 0
zero_of u n x is z = is ∙ ap (λ k. u * k) z ∙ omega arith

pub out_right : (h : Head) (end : ℕ) (ps : List Piece) (frees lent : Frees) (old now new : List ℕ) (places : Key → Option ℕ) (k : Key) (at : ℕ) (from : Parent) (rec : RecHead) → IsValid h → LaidOut (unit h) h.first end ps frees lent old → HaveWidth (width h) h.first ps → IsHere (view_of h ps old) h.buckets places k at from → IsReadAs h rec at old → rec.left ≡ 0 → rec.right < 256 ^ width h → now ≡ old → new ≡ wrote (place_of (width h) from) (le_bytes (width h) rec.right) now → Rehung h end ps frees lent (with_key places k None) 2 old new
out_right h end ps frees lent old now new places k at from rec v l widths w read none fits same is =
    let b = blocks_of h end ps frees lent old l widths in
    let x = at_hand h end ps old places k at from v b w in
    let e = read x.held.r x.held.has in
    let both = set_now h end ps frees lent old now new from rec.right v l widths x.from_there fits same is in
    let r = both.0 in
    let left : links_of h ps old (Left at) ≡ 0 = zero_of (unit h) rec.left (links_of h ps old (Left at)) (x.left ∙ (λ j. unit h * (sym e j).left)) none in
    let right : unit h * rec.right ≡ links_of h ps old (Right at) = (λ j. unit h * (e j).right) ∙ sym x.right in
    record {
      pieces = r.pieces;
      is = r.is;
      widths = r.widths;
      kept = r.kept;
      holds = unhang_right (view_of h ps old) (view_of h r.pieces new) h.buckets places k at from w.holds (bucket_low h k v) w.here left (subst (λ z. Linked (view_of h ps old) (view_of h r.pieces new) from z) right r.linked);
      rest = links_fewer h 1 2 old new (omega arith) both.1;
    }

pub out_left : (h : Head) (end : ℕ) (ps : List Piece) (frees lent : Frees) (old now new : List ℕ) (places : Key → Option ℕ) (k : Key) (at : ℕ) (from : Parent) (rec : RecHead) → IsValid h → LaidOut (unit h) h.first end ps frees lent old → HaveWidth (width h) h.first ps → IsHere (view_of h ps old) h.buckets places k at from → IsReadAs h rec at old → rec.right ≡ 0 → rec.left < 256 ^ width h → now ≡ old → new ≡ wrote (place_of (width h) from) (le_bytes (width h) rec.left) now → Rehung h end ps frees lent (with_key places k None) 2 old new
out_left h end ps frees lent old now new places k at from rec v l widths w read none fits same is =
    let b = blocks_of h end ps frees lent old l widths in
    let x = at_hand h end ps old places k at from v b w in
    let e = read x.held.r x.held.has in
    let both = set_now h end ps frees lent old now new from rec.left v l widths x.from_there fits same is in
    let r = both.0 in
    let right : links_of h ps old (Right at) ≡ 0 = zero_of (unit h) rec.right (links_of h ps old (Right at)) (x.right ∙ (λ j. unit h * (sym e j).right)) none in
    let left : unit h * rec.left ≡ links_of h ps old (Left at) = (λ j. unit h * (e j).left) ∙ sym x.left in
    record {
      pieces = r.pieces;
      is = r.is;
      widths = r.widths;
      kept = r.kept;
      holds = unhang_left (view_of h ps old) (view_of h r.pieces new) h.buckets places k at from w.holds (bucket_low h k v) w.here right (subst (λ z. Linked (view_of h ps old) (view_of h r.pieces new) from z) left r.linked);
      rest = links_fewer h 1 2 old new (omega arith) both.1;
    }

-- ---- two children

some_of : (o p : Option Record) (r : Record) → option_map unlinked o ≡ option_map unlinked p → p ≡ Some r → (s : Record) × (o ≡ Some s)
some_of None p r e is = absurd (let f : None ≡ Some (unlinked r) = e ∙ ap (option_map unlinked) is in cc)
some_of (Some s) p r e is = (s, refl)

there_kept : (h : Head) (old new : List Piece) (c : Parent) → AreKept (record_at h.first old) (record_at h.first new) → IsThere h old c → IsThere h new c
there_kept h old new (Bucket b) kept there = there
there_kept h old new (Left p) kept there = some_of (record_at h.first new p) (record_at h.first old p) there.0 (kept p) there.1
there_kept h old new (Right p) kept there = some_of (record_at h.first new p) (record_at h.first old p) there.0 (kept p) there.1

last_there : (h : Head) (end : ℕ) (ps : List Piece) (bytes : List ℕ) (a : ℕ) (t : Tree) → HasBlocks h end ps bytes → Hangs (view_of h ps bytes) a t → a ≢ 0 → IsThere h ps (Right (last a t))
last_there h end ps bytes a leaf b hang some = absurd (some hang)
last_there h end ps bytes a (node p q l r) b hang some =
    let w = last_all (Keyed (view_of h ps bytes)) p q r hang.2 (hangs_keys (view_of h ps bytes) (links_of h ps bytes (Right p)) r hang.4) in
    let x = held_at h end ps bytes (last p r) w.key b w.has in
    (x.r, x.at)

-- the place that a chain names isn't 0
pub top_some : (h : Head) (u n top : ℕ) → u ≡ unit h → n ≢ 0 → top ≡ capped (u * n) → top ≢ 0
top_some h u n top ue some named = let pos : 0 < u * n = mul-pos (omega (arith, ue, unit_some h)) (omega (arith, some)) in omega (arith, pos, named)

-- the left tree of the record that is taken out hangs where its head says
pub top_is : (h : Head) (end : ℕ) (ps : List Piece) (bytes : List ℕ) (places : Key → Option ℕ) (k : Key) (at : ℕ) (from : Parent) (rec : RecHead) (u top : ℕ) → IsValid h → u ≡ unit h → HasBlocks h end ps bytes → IsHere (view_of h ps bytes) h.buckets places k at from → IsReadAs h rec at bytes → top ≡ capped (u * rec.left) → length bytes < 2 ^ 64 → links_of h ps bytes (Left at) ≡ top
top_is h end ps bytes places k at from rec u top v ue b w read named room =
    let x = at_hand h end ps bytes places k at from v b w in
    let e = read x.held.r x.held.has in
    let f : links_of h ps bytes (Left at) ≡ u * rec.left = x.left ∙ (λ j. sym ue j * (sym e j).left) in
    let inside = hangs_inside h end ps bytes (links_of h ps bytes (Left at)) x.out.l b x.out.hangs.3 in
    f ∙ sym (named ∙ capped_same (u * rec.left) (length bytes) (omega (arith, f, inside)) room)

pub left_tree : (h : Head) (at : ℕ) (from : Parent) (bytes now : List ℕ) (rec : RecHead) (u top : ℕ) → IsValid h → u ≡ unit h → (m : MayUnhang h at from bytes) → IsReadAs h rec at bytes → top ≡ capped (u * rec.left) → length bytes < 2 ^ 64 → rec.left ≢ 0 → now ≡ bytes → HasSubtree h top now
left_tree h at from bytes now rec u top v ue m read named room some same =
    let x = at_hand h m.end m.pieces bytes m.places m.key at from v m.blocks m.is in
    let place = top_is h m.end m.pieces bytes m.places m.key at from rec u top v ue m.blocks m.is read named room in
    let few = few_inside h m.end m.pieces bytes (links_of h m.pieces bytes (Left at)) x.out.l m.blocks x.out.hangs.3 x.out.ordered.2 in
    subst (λ (l : List ℕ). HasSubtree h top l) (sym same) (record { some = top_some h u rec.left top ue some named; end = m.end; pieces = m.pieces; blocks = m.blocks; tree = x.out.l; hangs = subst (λ z. Hangs (view_of h m.pieces bytes) z x.out.l) place x.out.hangs.3; few = few })

-- the right link of the rightmost record of a tree
pub last_inside : (h : Head) (top e : ℕ) (mid now : List ℕ) → IsValid h → HasSubtree h top mid → now ≡ mid → IsLast h e top mid → place_of (width h) (Right e) + width h ≤ length now
last_inside h top e mid now v s same is =
    let there = last_there h s.end s.pieces mid top s.tree s.blocks s.hangs s.some in
    subst (λ (l : List ℕ). place_of (width h) (Right e) + width h ≤ length l) (sym same) (link_inside h s.end s.pieces mid (Right e) v s.blocks (subst (λ z. IsThere h s.pieces (Right z)) (sym (is s.end s.pieces s.tree s.blocks s.hangs)) there))

pub out_both : (h : Head) (end : ℕ) (ps : List Piece) (frees lent : Frees) (old mid now half new : List ℕ) (places : Key → Option ℕ) (k : Key) (at : ℕ) (from : Parent) (rec : RecHead) (u top y : ℕ) → IsValid h → u ≡ unit h → LaidOut (unit h) h.first end ps frees lent old → HaveWidth (width h) h.first ps → IsHere (view_of h ps old) h.buckets places k at from → IsReadAs h rec at old → top ≡ capped (u * rec.left) → length old < 2 ^ 64 → rec.left ≢ 0 → rec.left < 256 ^ width h → rec.right < 256 ^ width h → mid ≡ old → IsLast h y top mid → now ≡ old → half ≡ wrote (place_of (width h) (Right y)) (le_bytes (width h) rec.right) now → new ≡ wrote (place_of (width h) from) (le_bytes (width h) rec.left) half → Rehung h end ps frees lent (with_key places k None) 2 old new
out_both h end ps frees lent old mid now half new places k at from rec u top y v ue l widths w read named room some low_left low_right was is same one two =
    let b = blocks_of h end ps frees lent old l widths in
    let x = at_hand h end ps old places k at from v b w in
    let e = read x.held.r x.held.has in
    let is2 : IsLast h y top old = subst (λ (z : List ℕ). IsLast h y top z) was is in
    let place : links_of h ps old (Left at) ≡ top = top_is h end ps old places k at from rec u top v ue b w read named room in
    let whole : links_of h ps old (Left at) ≡ unit h * rec.left = x.left ∙ (λ j. unit h * (sym e j).left) in
    let right : unit h * rec.right ≡ links_of h ps old (Right at) = (λ j. unit h * (e j).right) ∙ sym x.right in
    let ne = top_some h u rec.left top ue some named in
    let hang : Hangs (view_of h ps old) top x.out.l = subst (λ z. Hangs (view_of h ps old) z x.out.l) place x.out.hangs.3 in
    let there = subst (λ z. IsThere h ps (Right z)) (sym (is2 end ps x.out.l b hang)) (last_there h end ps old top x.out.l b hang ne) in
    let first = set_now h end ps frees lent old now half (Right y) rec.right v l widths there low_right same one in
    let r = first.0 in
    let second = set_now h end r.pieces frees lent half half new from rec.left v r.is r.widths (there_kept h ps r.pieces from r.kept x.from_there) low_left refl two in
    let s = second.0 in
    record {
      pieces = s.pieces;
      is = s.is;
      widths = s.widths;
      kept = λ p. s.kept p ∙ r.kept p;
      holds = unhang_both (view_of h ps old) (view_of h r.pieces half) (view_of h s.pieces new) h.buckets places k at y top from w.holds (bucket_low h k v) w.here
          (λ z. ne (sym place ∙ z)) (λ t ht. is2 end ps t b (subst (λ z. Hangs (view_of h ps old) z t) place ht))
          (subst (λ z. Linked (view_of h ps old) (view_of h r.pieces half) (Right y) z) right r.linked)
          (subst (λ z. Linked (view_of h r.pieces half) (view_of h s.pieces new) from z) (sym whole) s.linked);
      rest = links_then h 1 1 old half new first.1 second.1;
    }

-- the file is as long as before the first of two links
pub second_long : (h : Head) (at : ℕ) (from : Parent) (bytes mid now half : List ℕ) (rec : RecHead) (u top e : ℕ) → IsValid h → u ≡ unit h → (m : MayUnhang h at from bytes) → IsReadAs h rec at bytes → top ≡ capped (u * rec.left) → length bytes < 2 ^ 64 → rec.left ≢ 0 → mid ≡ bytes → now ≡ mid → IsLast h e top mid → half ≡ wrote (place_of (width h) (Right e)) (le_bytes (width h) rec.right) now → length half ≡ length bytes
second_long h at from bytes mid now half rec u top e v ue m read named room some was same is wrote_is =
    let s = left_tree h at from bytes mid rec u top v ue m read named room some was in
    let inside = last_inside h top e mid now v s same is in
    ap length wrote_is ∙ wrote_long (place_of (width h) (Right e)) (le_bytes (width h) rec.right) now (omega (arith, inside, length-le_bytes (width h) rec.right)) ∙ ap length (same ∙ was)

-- what is read on the way to the rightmost record
pub left_within : (h : Head) (end : ℕ) (ps : List Piece) (bytes now : List ℕ) (places : Key → Option ℕ) (k : Key) (at : ℕ) (from : Parent) (rec : RecHead) (u top s s1 s2 r r1 r2 : ℕ) → IsValid h → u ≡ unit h → HasBlocks h end ps bytes → (w : IsHere (view_of h ps bytes) h.buckets places k at from) → IsReadAs h rec at bytes → top ≡ capped (u * rec.left) → length bytes < 2 ^ 64 → now ≡ bytes → s1 ≤ s + 1 → r1 ≤ r + 40
    → ((end : ℕ) (ps : List Piece) (t : Tree) → HasBlocks h end ps now → Hangs (view_of h ps now) top t → Within (nodes t) 40 s1 s2 r1 r2)
    → Within (around (view_of h ps bytes) h.buckets places k at from w) 40 s s2 r r2
left_within h end ps bytes now places k at from rec u top s s1 s2 r r1 r2 v ue b w read named room same few short walked =
    let x = at_hand h end ps bytes places k at from v b w in
    let place = top_is h end ps bytes places k at from rec u top v ue b w read named room in
    let f = subst (λ (l : List ℕ). (end : ℕ) (ps : List Piece) (t : Tree) → HasBlocks h end ps l → Hangs (view_of h ps l) top t → Within (nodes t) 40 s1 s2 r1 r2) same walked in
    let i = f end ps x.out.l b (subst (λ z. Hangs (view_of h ps bytes) z x.out.l) place x.out.hangs.3) in
    within_by (around (view_of h ps bytes) h.buckets places k at from w) (nodes x.out.l + 1) 40 s s2 r r2 (omega (arith, few, i.few)) (omega (arith, short, i.short)) x.few
