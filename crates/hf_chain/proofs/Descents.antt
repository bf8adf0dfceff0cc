-- A search down a bucket's tree.
use Rattle.std.proofs.Common.{◌≡◌, ◌≢◌, ◌∙◌, ℕ, ◌+◌, ◌-◌, ◌*◌, ◌^◌, ◌<◌, ◌≤◌, List, length, take, drop, refl, sym, ap, subst, arith, lit<, Bool, true, false, Option, Some, None}
use Rattle.std.proofs.Math.Nat.{mul_comm, mul-le-mul_left, pow-le-pow_right}
use Rattle.std.specs.declared.cmp.Ordering.TheVariants.{Less, Equal, Greater}
use Rattle.tc_base.specs.Endian.{le_number}
use Rattle.tc_base.specs.Hashes.{second}
use Rattle.hf_head.specs.declared.head.Head.{Head}
use Rattle.hf_head.specs.Heads.{IsValid, unit, wide, is_large}
use Rattle.hf_block.specs.Pieces.{Record, Piece}
use Rattle.hf_layout.specs.Layout.{record_at}
use Rattle.hf_tree.specs.declared.parent.Parent.{Parent}
use Rattle.hf_tree.specs.declared.parent.Parent.TheVariants.{Bucket, Left, Right}
use Rattle.hf_tree.specs.declared.parent.Found.TheVariants.{Here, Gap}
use Rattle.hf_tree.specs.Keys.{Key, key_cmp}
use Rattle.hf_tree.specs.Trees.{Tree, leaf, node, nodes, seek, AllOf, Ordered}
use Rattle.hf_tree.specs.Views.{View, Hangs}
use Rattle.hf_tree.specs.Links.{width, HasBlocks, entry_at, left_of, right_of, links_of, view_of}
use Rattle.hf_tree.proofs.Orders.{three}
use Rattle.hf_tree.proofs.Few.{few_nodes}
use Rattle.hf_tree.proofs.Ways.{has_key}
use Rattle.hf_tree.proofs.Fields.{Lies, record_lies, sections_first}
use Rattle.hf_chain.specs.Heads.{HasRecord, IsRecordAt, capped}
use Rattle.hf_chain.specs.Chains.{InTree, step_of}
use Rattle.hf_chain.proofs.Pieces.{piece_of}

pub unit_small : (h : Head) → IsValid h → unit h ≤ 2 ^ 16
unit_small h v = pow-le-pow_right (lit< tt) v.powers.1

-- a product of a unit and a number of 64 bits
pub place_low : (u n : ℕ) → u ≤ 2 ^ 16 → n < 2 ^ 64 → u * n < 2 ^ 80
place_low u n few low = let e : u * n ≡ n * u = mul_comm u n in let le : n * u ≤ n * 2 ^ 16 = mul-le-mul_left n few in omega (arith, e, le, low)

pub capped_same : (x n : ℕ) → x ≤ n → n < 2 ^ 64 → capped x ≡ x
capped_same x n le low = omega (arith, le, low)

-- ---- links as they are read

-- an entry lies in the array
pub slot_inside : (large : Bool) (b n : ℕ) → b < n → wide large * b + wide large ≤ wide large * n
slot_inside true b n less = omega (arith, less)
slot_inside false b n less = omega (arith, less)

pub entry_is : (h : Head) (ps : List Piece) (bytes : List ℕ) (b : ℕ) → b < h.buckets → links_of h ps bytes (Bucket b) ≡ unit h * entry_at (width h) b bytes
unfolding links_of
entry_is h ps bytes b low =
    let w : ℕ = width h in
    let span : 256 + w * h.buckets - 256 ≡ w * h.buckets = omega arith in
    ap (λ (n : ℕ). unit h * n) (ap le_number (ap (λ (n : ℕ). take w (drop (w * b) (take n (drop 256 bytes)))) span ∙ piece_of (w * h.buckets) 256 (w * b) w bytes (slot_inside (is_large h) b h.buckets low)))

pub entry_inside : (h : Head) (end : ℕ) (ps : List Piece) (bytes : List ℕ) (b : ℕ) → IsValid h → HasBlocks h end ps bytes → b < h.buckets → 256 + width h * b + width h ≤ length bytes
entry_inside h end ps bytes b v w low = omega (arith, sections_first h v, w.on, w.within, slot_inside (is_large h) b h.buckets low)

-- ---- a record that hangs

-- the record with a key
pub record Held (h : Head) (end : ℕ) (ps : List Piece) (bytes : List ℕ) (p : ℕ) (k : Key) : Type 0 where
  pub r : Record
  pub at : record_at h.first ps p ≡ Some r
  pub key : r.key ≡ k
  pub hash : r.hash ≡ second r.key
  pub lies : Lies h end r p bytes
  pub has : HasRecord h r p bytes

pub held_at : (h : Head) (end : ℕ) (ps : List Piece) (bytes : List ℕ) (p : ℕ) (k : Key) → HasBlocks h end ps bytes → (view_of h ps bytes).keys p ≡ Some k → Held h end ps bytes p k
held_at h end ps bytes p k w has =
    let it = has_key (record_at h.first ps) p k has in
    let lies = record_lies h end ps bytes p it.rec w it.at in
    record { r = it.rec; at = it.at; key = it.key; hash = it.hash ∙ ap second (sym it.key); lies = lies; has = record { is = lies.at; wide = w.widths p it.rec it.at } }

pub held_inside : (h : Head) (end : ℕ) (ps : List Piece) (bytes : List ℕ) (p : ℕ) (k : Key) → HasBlocks h end ps bytes → Held h end ps bytes p k → p < length bytes
held_inside h end ps bytes p k w x = omega (arith, x.lies.high, x.lies.at.whole.size.some, w.within)

pub lefts : (h : Head) (end : ℕ) (ps : List Piece) (bytes : List ℕ) (p : ℕ) (k : Key) (x : Held h end ps bytes p k) → links_of h ps bytes (Left p) ≡ unit h * x.r.left
unfolding links_of
lefts h end ps bytes p k x = ap (λ (o : Option Record). unit h * left_of o) x.at

pub rights : (h : Head) (end : ℕ) (ps : List Piece) (bytes : List ℕ) (p : ℕ) (k : Key) (x : Held h end ps bytes p k) → links_of h ps bytes (Right p) ≡ unit h * x.r.right
unfolding links_of
rights h end ps bytes p k x = ap (λ (o : Option Record). unit h * right_of o) x.at

-- what hangs lies inside the file
pub hangs_inside : (h : Head) (end : ℕ) (ps : List Piece) (bytes : List ℕ) (a : ℕ) (t : Tree) → HasBlocks h end ps bytes → Hangs (view_of h ps bytes) a t → a ≤ length bytes
hangs_inside h end ps bytes a leaf w hang = omega (arith, hang)
hangs_inside h end ps bytes a (node p q l r) w hang = omega (arith, hang.0, held_inside h end ps bytes p q w (held_at h end ps bytes p q w hang.2))

pub all_inside : (h : Head) (end : ℕ) (ps : List Piece) (bytes : List ℕ) (a : ℕ) (t : Tree) → HasBlocks h end ps bytes → Hangs (view_of h ps bytes) a t → AllOf (λ p k. p < length bytes) t
all_inside h end ps bytes a leaf w hang = tt
all_inside h end ps bytes a (node p q l r) w hang = (
  held_inside h end ps bytes p q w (held_at h end ps bytes p q w hang.2),
  all_inside h end ps bytes (links_of h ps bytes (Left p)) l w hang.3,
  all_inside h end ps bytes (links_of h ps bytes (Right p)) r w hang.4,
)

-- a tree has no more records than the file has bytes
pub few_inside : (h : Head) (end : ℕ) (ps : List Piece) (bytes : List ℕ) (a : ℕ) (t : Tree) → HasBlocks h end ps bytes → Hangs (view_of h ps bytes) a t → Ordered t → nodes t ≤ length bytes
few_inside h end ps bytes a t w hang o = few_nodes (view_of h ps bytes) a (length bytes) t hang o (all_inside h end ps bytes a t w hang)

-- a search at a link that names a place, so many records down
pub record Spot (h : Head) (end : ℕ) (ps : List Piece) (bytes : List ℕ) (b : ℕ) (t : Tree) (key : Key) (from : Parent) (at i : ℕ) : Type 0 where
  pub sub : Tree
  pub hangs : Hangs (view_of h ps bytes) at sub
  pub same : seek from sub key ≡ seek (Bucket b) t key
  pub few : i + nodes sub ≤ nodes t
  pub most : nodes t ≤ length bytes

pub spot_start : (h : Head) (end : ℕ) (ps : List Piece) (bytes : List ℕ) (b : ℕ) (t : Tree) (key : Key) (c u n at : ℕ) → c < h.buckets → InTree h end ps bytes b t → c ≡ b → u ≡ unit h → n ≡ entry_at (width h) c bytes → at ≡ capped (u * n) → length bytes < 2 ^ 64 → Spot h end ps bytes b t key (Bucket c) at 0
spot_start h end ps bytes b t key c u n at low w cb uh is named room =
    let e : links_of h ps bytes (Bucket b) ≡ u * n = ap (λ (z : ℕ). links_of h ps bytes (Bucket z)) (sym cb) ∙ entry_is h ps bytes c low ∙ (λ i. sym uh i * sym is i) in
    let inside = hangs_inside h end ps bytes (links_of h ps bytes (Bucket b)) t w.blocks w.hung.hangs in
    let f : links_of h ps bytes (Bucket b) ≡ at = e ∙ sym (named ∙ capped_same (u * n) (length bytes) (omega (arith, e, inside)) room) in
    record {
      sub = t;
      hangs = subst (λ (z : ℕ). Hangs (view_of h ps bytes) z t) f w.hung.hangs;
      same = ap (λ (z : ℕ). seek (Bucket z) t key) cb;
      few = omega arith;
      most = few_inside h end ps bytes (links_of h ps bytes (Bucket b)) t w.blocks w.hung.hangs w.hung.ordered;
    }

hangs_leaf : (v : View) (a : ℕ) (t : Tree) → Hangs v a t → a ≡ 0 → t ≡ leaf
hangs_leaf v a leaf h z = refl
hangs_leaf v a (node p q l r) h z = absurd (h.1 (sym h.0 ∙ z))

pub spot_gap : (h : Head) (end : ℕ) (ps : List Piece) (bytes : List ℕ) (b : ℕ) (t : Tree) (key : Key) (from : Parent) (at i : ℕ) → Spot h end ps bytes b t key from at i → at ≡ 0 → Gap from ≡ seek (Bucket b) t key
spot_gap h end ps bytes b t key from at i w z = ap (λ (u : Tree). seek from u key) (sym (hangs_leaf (view_of h ps bytes) at w.sub w.hangs z)) ∙ w.same

-- after as many records as the file has bytes no more is left
pub spot_end : (h : Head) (end : ℕ) (ps : List Piece) (bytes : List ℕ) (b : ℕ) (t : Tree) (key : Key) (from : Parent) (at i : ℕ) → Spot h end ps bytes b t key from at i → length bytes ≤ i → at ≡ 0
spot_end h end ps bytes b t key from at i w far = go w.sub w.hangs (omega (arith, w.few, w.most, far))
  where
    go : (s : Tree) → Hangs (view_of h ps bytes) at s → nodes s ≡ 0 → at ≡ 0
    go leaf hang none = hang
    go (node p q l r) hang none = absurd (omega (arith, none))

-- the record there
pub record Next (h : Head) (end : ℕ) (ps : List Piece) (bytes : List ℕ) (b : ℕ) (t : Tree) (key : Key) (from : Parent) (at i : ℕ) : Type 0 where
  pub its : Key
  pub l : Tree
  pub r : Tree
  pub held : Held h end ps bytes at its
  pub left : Hangs (view_of h ps bytes) (unit h * held.r.left) l
  pub right : Hangs (view_of h ps bytes) (unit h * held.r.right) r
  pub same : seek from (node at its l r) key ≡ seek (Bucket b) t key
  pub few : i + (nodes l + nodes r + 1) ≤ nodes t
  pub most : nodes t ≤ length bytes

pub spot_next : (h : Head) (end : ℕ) (ps : List Piece) (bytes : List ℕ) (b : ℕ) (t : Tree) (key : Key) (from : Parent) (at i : ℕ) → HasBlocks h end ps bytes → Spot h end ps bytes b t key from at i → at ≢ 0 → Next h end ps bytes b t key from at i
spot_next h end ps bytes b t key from at i w s ne = go s.sub s.hangs s.same s.few
  where
    go : (sub : Tree) → Hangs (view_of h ps bytes) at sub → seek from sub key ≡ seek (Bucket b) t key → i + nodes sub ≤ nodes t → Next h end ps bytes b t key from at i
    go leaf hang same few = absurd (ne hang)
    go (node p q l r) hang same few =
        let x = held_at h end ps bytes at q w (subst (λ z. (view_of h ps bytes).keys z ≡ Some q) (sym hang.0) hang.2) in
        record {
          its = q;
          l = l;
          r = r;
          held = x;
          left = subst (λ z. Hangs (view_of h ps bytes) z l) (ap (λ z. links_of h ps bytes (Left z)) (sym hang.0) ∙ lefts h end ps bytes at q x) hang.3;
          right = subst (λ z. Hangs (view_of h ps bytes) z r) (ap (λ z. links_of h ps bytes (Right z)) (sym hang.0) ∙ rights h end ps bytes at q x) hang.4;
          same = ap (λ z. seek from (node z q l r) key) hang.0 ∙ same;
          few = few;
          most = s.most;
        }

pub next_there : (h : Head) (end : ℕ) (ps : List Piece) (bytes : List ℕ) (b : ℕ) (t : Tree) (key : Key) (from : Parent) (at i : ℕ) → Next h end ps bytes b t key from at i → IsRecordAt h at bytes
next_there h end ps bytes b t key from at i n = record { r = n.held.r; has = n.held.has }

pub next_here : (h : Head) (end : ℕ) (ps : List Piece) (bytes : List ℕ) (b : ℕ) (t : Tree) (key : Key) (from : Parent) (at i : ℕ) (n : Next h end ps bytes b t key from at i) → None ≡ step_of (unit h) at n.held.r (key_cmp key n.held.r.key) → Here at from ≡ seek (Bucket b) t key
next_here h end ps bytes b t key from at i n is = three (key_cmp key n.its)
    (λ e. absurd (let f : ◌≡◌ {A = Option (Parent × ℕ)} None (Some (Right at, capped (unit h * n.held.r.right))) = is ∙ (let g : key_cmp key n.held.r.key ≡ Less = ap (λ (k : Key). key_cmp key k) n.held.key ∙ e in rw g refl) in cc))
    (λ e. (let g : seek from (node at n.its n.l n.r) key ≡ Here at from = rw e in sym g ∙ n.same))
    (λ e. absurd (let f : ◌≡◌ {A = Option (Parent × ℕ)} None (Some (Left at, capped (unit h * n.held.r.left))) = is ∙ (let g : key_cmp key n.held.r.key ≡ Greater = ap (λ (k : Key). key_cmp key k) n.held.key ∙ e in rw g refl) in cc))

pub next_down : (h : Head) (end : ℕ) (ps : List Piece) (bytes : List ℕ) (b : ℕ) (t : Tree) (key : Key) (from : Parent) (at i : ℕ) (w : HasBlocks h end ps bytes) (room : length bytes < 2 ^ 64) (n : Next h end ps bytes b t key from at i) (link : Parent) (place : ℕ) → Some (link, place) ≡ step_of (unit h) at n.held.r (key_cmp key n.held.r.key) → Spot h end ps bytes b t key link place (i + 1)
next_down h end ps bytes b t key from at i w room n link place is = three (key_cmp key n.its)
    (λ e. let f : ◌≡◌ {A = Option (Parent × ℕ)} (Some (link, place)) (Some (Right at, capped (unit h * n.held.r.right))) = is ∙ (let g : key_cmp key n.held.r.key ≡ Less = ap (λ (k : Key). key_cmp key k) n.held.key ∙ e in rw g refl) in
    let z : ◌≡◌ {A = Parent × ℕ} (link, place) (Right at, capped (unit h * n.held.r.right)) = cc in let x : link ≡ Right at = ap (λ (d : Parent × ℕ). d.0) z in
    let y : place ≡ unit h * n.held.r.right = ap (λ (d : Parent × ℕ). d.1) z ∙ capped_same (unit h * n.held.r.right) (length bytes) (hangs_inside h end ps bytes (unit h * n.held.r.right) n.r w n.right) room in
    let g : seek from (node at n.its n.l n.r) key ≡ seek (Right at) n.r key = rw e in
    record { sub = n.r; hangs = subst (λ z. Hangs (view_of h ps bytes) z n.r) (sym y) n.right; same = ap (λ (c : Parent). seek c n.r key) x ∙ sym g ∙ n.same; few = omega (arith, n.few); most = n.most })
    (λ e. absurd (let f : ◌≡◌ {A = Option (Parent × ℕ)} (Some (link, place)) None = is ∙ (let g : key_cmp key n.held.r.key ≡ Equal = ap (λ (k : Key). key_cmp key k) n.held.key ∙ e in rw g refl) in cc))
    (λ e. let f : ◌≡◌ {A = Option (Parent × ℕ)} (Some (link, place)) (Some (Left at, capped (unit h * n.held.r.left))) = is ∙ (let g : key_cmp key n.held.r.key ≡ Greater = ap (λ (k : Key). key_cmp key k) n.held.key ∙ e in rw g refl) in
    let z : ◌≡◌ {A = Parent × ℕ} (link, place) (Left at, capped (unit h * n.held.r.left)) = cc in let x : link ≡ Left at = ap (λ (d : Parent × ℕ). d.0) z in
    let y : place ≡ unit h * n.held.r.left = ap (λ (d : Parent × ℕ). d.1) z ∙ capped_same (unit h * n.held.r.left) (length bytes) (hangs_inside h end ps bytes (unit h * n.held.r.left) n.l w n.left) room in
    let g : seek from (node at n.its n.l n.r) key ≡ seek (Left at) n.l key = rw e in
    record { sub = n.l; hangs = subst (λ z. Hangs (view_of h ps bytes) z n.l) (sym y) n.left; same = ap (λ (c : Parent). seek c n.l key) x ∙ sym g ∙ n.same; few = omega (arith, n.few); most = n.most })
