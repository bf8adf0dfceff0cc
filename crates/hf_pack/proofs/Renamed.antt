-- Trees whose places are others, and files whose records were moved.
use Rattle.std.proofs.Common.{◌≡◌, ◌≢◌, ◌∙◌, inl, inr, ℕ, zero, suc, ◌+◌, ◌-◌, ◌*◌, ◌^◌, ◌<◌, ◌≤◌, List, [], ◌∷◌, ◌++◌, length, take, drop, Option, Some, None, refl, sym, ap, subst, arith, length-append, lit<}
use Rattle.std.specs.Prelude.{option_map, unwrap_or}
use Rattle.std.proofs.lemmas.Bool.{cases_eq}
use Rattle.std.proofs.Math.Nat.{pow-le-pow_right}
use Rattle.std.proofs.lemmas.List.{take_at, drop_at, drop-drop, drop-take, take_all, places as places_, same_lists, length-take-le}
use Rattle.std.proofs.lemmas.Nat.{pow_pos}
use Rattle.tc_base.specs.Endian.{field, le_bytes, le_number}
use Rattle.tc_base.proofs.Endians.{length-le_bytes, le_number-le_bytes}
use Rattle.hf_head.specs.declared.head.Head.{Head}
use Rattle.hf_head.specs.Heads.{IsValid, unit}
use Rattle.hf_block.specs.Pieces.{Record, Piece, held, free, size_of, spell_all}
use Rattle.hf_block.specs.Walks.{between}
use Rattle.hf_block.proofs.Listing.{between_long}
use Rattle.hf_layout.specs.Layout.{record_at, frees_of, free_of}
use Rattle.hf_layout.proofs.Places.{here, later, long}
use Rattle.hf_tree.specs.declared.parent.Parent.TheVariants.{Bucket, Left, Right}
use Rattle.hf_tree.specs.Keys.{Key, key_cmp, bucket_of}
use Rattle.hf_tree.specs.Trees.{Tree, leaf, node, AllOf, Above, Below, Ordered, look}
use Rattle.hf_tree.specs.Views.{View, Hangs, Holds}
use Rattle.hf_tree.specs.Links.{HasBlocks, array, entry, key_of, left_of, right_of, links_of, seen, width}
use Rattle.hf_tree.specs.Standing.{AllHang}
use Rattle.hf_tree.proofs.Orders.{three}
use Rattle.hf_tree.proofs.Hanging.{hangs_at}
use Rattle.hf_tree.proofs.Fields.{sections_first}
use Rattle.hf_pack.specs.Moving.{AllFit, Repacked, entries_as, moved, new_place, rechained, renamed}
use Rattle.hf_pack.specs.Streams.{Written}
use Rattle.hf_pack.proofs.Moved.{Back, Forth, goes, moved_less, moved_long, moved_whole, mul_more, placed_in, renamed_is, renamed_low, there_back, there_forth}

-- ---- trees

abbrev pub renumbered : (ℕ → ℕ) → Tree → Tree
renumbered g leaf = leaf
renumbered g (node p q l r) = node (g p) q (renumbered g l) (renumbered g r)

all_renumbered : (g : ℕ → ℕ) (P Q : ℕ → Key → Type 0) → ((p : ℕ) (k : Key) → P p k → Q (g p) k) → (t : Tree) → AllOf P t → AllOf Q (renumbered g t)
all_renumbered g P Q f leaf h = tt
all_renumbered g P Q f (node p q l r) h = (f p q h.0, all_renumbered g P Q f l h.1, all_renumbered g P Q f r h.2)

ordered_renumbered : (g : ℕ → ℕ) (t : Tree) → Ordered t → Ordered (renumbered g t)
ordered_renumbered g leaf h = tt
ordered_renumbered g (node p q l r) h = (all_renumbered g (Above q) (Above q) (λ p k a. a) l h.0, all_renumbered g (Below q) (Below q) (λ p k b. b) r h.1, ordered_renumbered g l h.2, ordered_renumbered g r h.3)

look_renumbered : (g : ℕ → ℕ) (t : Tree) (k : Key) → look (renumbered g t) k ≡ option_map g (look t k)
look_renumbered g leaf k = refl
look_renumbered g (node p q l r) k = three (key_cmp k q) (λ e. rw e (look_renumbered g r k)) (λ e. rw e) (λ e. rw e (look_renumbered g l k))

-- each record that has a key stands at another place, and its links name the new places
record Renames (v w : View) (g : ℕ → ℕ) : Type 0 where
  pub zero_is : g 0 ≡ 0
  pub keys : (p : ℕ) (k : Key) → v.keys p ≡ Some k → (w.keys (g p) ≡ Some k) × (g p ≢ 0)
  pub lefts : (p : ℕ) (k : Key) → v.keys p ≡ Some k → w.links (Left (g p)) ≡ g (v.links (Left p))
  pub rights : (p : ℕ) (k : Key) → v.keys p ≡ Some k → w.links (Right (g p)) ≡ g (v.links (Right p))

hangs_renumbered : (v w : View) (g : ℕ → ℕ) (a : ℕ) (t : Tree) → Renames v w g → Hangs v a t → Hangs w (g a) (renumbered g t)
hangs_renumbered v w g a leaf n h = ap g h ∙ n.zero_is
hangs_renumbered v w g a (node p q l r) n h = (
  ap g h.0,
  (n.keys p q h.2).1,
  (n.keys p q h.2).0,
  hangs_at w (g (v.links (Left p))) (w.links (Left (g p))) (renumbered g l) (n.lefts p q h.2) (hangs_renumbered v w g (v.links (Left p)) l n h.3),
  hangs_at w (g (v.links (Right p))) (w.links (Right (g p))) (renumbered g r) (n.rights p q h.2) (hangs_renumbered v w g (v.links (Right p)) r n h.4),
)

holds_renumbered : (v w : View) (g : ℕ → ℕ) (n : ℕ) (m : Key → Option ℕ) → Renames v w g → ((b : ℕ) → b < n → w.links (Bucket b) ≡ g (v.links (Bucket b))) → Holds v n m → Holds w n (λ k. option_map g (m k))
holds_renumbered v w g n m names buckets h = record {
  trees = λ b. renumbered g (h.trees b);
  hung = λ b low. record {
    hangs = hangs_at w (g (v.links (Bucket b))) (w.links (Bucket b)) (renumbered g (h.trees b)) (buckets b low) (hangs_renumbered v w g (v.links (Bucket b)) (h.trees b) names (h.hung b low).hangs);
    ordered = ordered_renumbered g (h.trees b) (h.hung b low).ordered;
    home = all_renumbered g (λ p k. bucket_of n k ≡ b) (λ p k. bucket_of n k ≡ b) (λ p k e. e) (h.trees b) (h.hung b low).home;
  };
  map = λ k. ap (option_map g) (h.map k) ∙ sym (look_renumbered g (h.trees (bucket_of n k)) k);
}

-- ---- bytes

-- what was written from one place up to another
pub between_is : (first end : ℕ) (old new xs : List ℕ) → first ≤ length old → Written first end old new xs → between first end new ≡ xs
between_is first end old new xs fits w =
    let n : end - first ≡ length xs = omega (arith, w.ends) in
    ap (λ (k : ℕ). take k (drop first new)) n
    ∙ sym (drop-take first (length xs) new)
    ∙ ap (drop first) (ap (λ (k : ℕ). take k new) (sym w.ends) ∙ w.front)
    ∙ drop_at (take first old) xs first (length-take-le first old fits)

cut : (k w m : ℕ) (l : List ℕ) → k + w ≤ m → take w (drop k (take m l)) ≡ take w (drop k l)
cut k w m l low = same_lists _ _ (grind (arith, places_)) (λ i d h. grind (arith, places_))

same_front : (k w m : ℕ) (a b : List ℕ) → k + w ≤ m → take m a ≡ take m b → take w (drop k a) ≡ take w (drop k b)
same_front k w m a b low e = sym (cut k w m a low) ∙ ap (λ (l : List ℕ). take w (drop k l)) e ∙ cut k w m b low

array_field : (n k w : ℕ) (bytes : List ℕ) → k + w ≤ n → take w (drop k (take n (drop 256 bytes))) ≡ take w (drop (256 + k) bytes)
array_field n k w bytes low = cut k w n (drop 256 bytes) low ∙ ap (take w) (drop-drop k 256 bytes ∙ ap (λ (j : ℕ). drop j bytes) (omega arith))

shorter : (m n : ℕ) (l : List ℕ) → m ≤ n → take m l ≡ take m (take n l)
shorter m n l le = same_lists _ _ (grind (arith, places_)) (λ i d h. grind (arith, places_))

inside : (k w : ℕ) (a x : List ℕ) → k + w ≤ length a → take w (drop k (a ++ x)) ≡ take w (drop k a)
inside k w a x low = same_lists _ _ (grind (arith, places_)) (λ i d h. grind (arith, places_))

pub length-entries : (f : ℕ → ℕ) (w n : ℕ) (bytes : List ℕ) → length (entries_as f w n bytes) ≡ w * n
length-entries f w zero bytes = omega arith
length-entries f w (suc n) bytes =
    let l = length-entries f w n bytes in
    let x : List ℕ = le_bytes w (f (le_number (field (w * n) w bytes))) in
    omega (arith, length-append (entries_as f w n bytes) x, l, length-le_bytes w (f (le_number (field (w * n) w bytes))), suc_mul w n)
  where
    suc_mul : (w n : ℕ) → w * suc n ≡ w * n + w
    suc_mul w n = omega arith

-- an entry of those
entry_of : (f : ℕ → ℕ) (w n b : ℕ) (bytes : List ℕ) → b < n → AllFit f w n bytes → le_number (field (w * b) w (entries_as f w n bytes)) ≡ f (le_number (field (w * b) w bytes))
entry_of f w zero b bytes low fit = absurd (omega (arith, low))
entry_of f w (suc n) b bytes low fit = elim (cases_eq b n) [
  | inl e ↦ (
      let x : List ℕ = le_bytes w (f (le_number (field (w * b) w bytes))) in
      let at : entries_as f w (suc n) bytes ≡ entries_as f w n bytes ++ x = ap (λ (k : ℕ). entries_as f w n bytes ++ le_bytes w (f (le_number (field (w * k) w bytes)))) (sym e) in
      ap (λ (l : List ℕ). le_number (take w (drop (w * b) l))) at
      ∙ ap (λ (l : List ℕ). le_number (take w l)) (drop_at (entries_as f w n bytes) x (w * b) (length-entries f w n bytes ∙ ap (λ (k : ℕ). w * k) (sym e)))
      ∙ ap le_number (take_all w x (omega (arith, length-le_bytes w (f (le_number (field (w * b) w bytes))))))
      ∙ le_number-le_bytes w (f (le_number (field (w * b) w bytes))) (fit b low))
  | inr ne ↦ (
      let less : b < n = omega (arith, low, ne) in
      ap le_number (inside (w * b) w (entries_as f w n bytes) (le_bytes w (f (le_number (field (w * n) w bytes)))) (omega (arith, length-entries f w n bytes, mul_more w b n less)))
      ∙ entry_of f w n b bytes less (λ d l. fit d (omega (arith, l))))
]

-- ---- a file

key_record : (o : Option Record) (k : Key) → key_of o ≡ Some k → (r : Record) × (o ≡ Some r)
key_record None k e = absurd (let g : None ≡ Some k = e in cc)
key_record (Some r) k e = (r, refl)

all_held : (f : ℕ → ℕ) (at : ℕ) (ps : List Piece) (q : ℕ) → frees_of at (moved f ps) q ≡ None
all_held f at [] q = refl
all_held f at (held r ∷ ps) q = elim (cases_eq q at) [
  | inl e ↦ ap free_of (here at (held (rechained f r)) (moved f ps) q e)
  | inr ne ↦ ap free_of (later at (held (rechained f r)) (moved f ps) q ne) ∙ all_held f (at + size_of (held (rechained f r))) ps q
]
all_held f at (free size tail ∷ ps) q = all_held f at ps q

unit_room : (h : Head) → IsValid h → 5 ≤ unit h
unit_room h v = let le : 2 ^ 4 ≤ 2 ^ h.apow = pow-le-pow_right (lit< tt) v.powers.0 in omega (arith, le)

module _ (h : Head) (ps : List Piece) (old new : List ℕ) (end : ℕ) (v : IsValid h) (has : HasBlocks h h.size ps old) where
  abbrev to : ℕ → Option ℕ
  to = new_place h.first h.first ps

  abbrev f : ℕ → ℕ
  f = renamed (unit h) to

  abbrev g : ℕ → ℕ
  g = placed_in to

  abbrev qs : List Piece
  qs = moved f ps

  first_some : 0 < h.first
  first_some = omega (arith, sections_first h v)

  ends : h.first + long ps ≡ h.size
  ends = omega (arith, ap length has.filled.is, between_long h.first h.size old has.on has.within, has.on)

  f_is : (n : ℕ) → unit h * f n ≡ g (unit h * n)
  f_is n = renamed_is (unit h) h.first ps n (pow_pos h.apow) has.filled.whole v.numbers.first_aligned (omega (arith, ends, v.numbers.size_most))

  g_at : (q t : ℕ) → to q ≡ Some t → g q ≡ t
  g_at q t e = ap (λ (o : Option ℕ). unwrap_or o 0) e

  forth : (q : ℕ) (r : Record) → record_at h.first ps q ≡ Some r → Forth f h.first h.first ps q r
  forth q r e = there_forth f (unit h) h.first h.first ps q r has.filled.whole e

  back : (t : ℕ) (s : Record) → record_at h.first qs t ≡ Some s → Back f h.first h.first ps t s
  back t s e = there_back f (unit h) h.first h.first ps t s has.filled.whole e

  -- the record that was moved
  moved_there : (q : ℕ) (r : Record) → record_at h.first ps q ≡ Some r → record_at h.first qs (g q) ≡ Some (rechained f r)
  moved_there q r e = let w = forth q r e in ap (record_at h.first qs) (g_at q w.place w.goes) ∙ w.there

  zero_is : g 0 ≡ 0
  zero_is = go (to 0) refl
    where
      go : (o : Option ℕ) → to 0 ≡ o → g 0 ≡ 0
      go None e = ap (λ (o : Option ℕ). unwrap_or o 0) e
      go (Some t) e = absurd (let w = goes (unit h) h.first h.first ps 0 t has.filled.whole (omega arith) v.numbers.first_aligned e in omega (arith, w.from, first_some))

  names : Renames (seen (links_of h ps old) (record_at h.first ps)) (seen (links_of h qs new) (record_at h.first qs)) g
  unfolding links_of
  names = record {
    zero_is = zero_is;
    keys = λ p k e. (
        let r = key_record (record_at h.first ps p) k e in
        let w = forth p r.0 r.1 in
        (ap key_of (moved_there p r.0 r.1) ∙ ap key_of (sym r.1) ∙ e, λ z. absurd (omega (arith, g_at p w.place w.goes, w.low, first_some, z))));
    lefts = λ p k e. (
        let r = key_record (record_at h.first ps p) k e in
        ap (λ (o : Option Record). unit h * left_of o) (moved_there p r.0 r.1) ∙ f_is r.0.left ∙ ap (λ (o : Option Record). g (unit h * left_of o)) (sym r.1));
    rights = λ p k e. (
        let r = key_record (record_at h.first ps p) k e in
        ap (λ (o : Option Record). unit h * right_of o) (moved_there p r.0 r.1) ∙ f_is r.0.right ∙ ap (λ (o : Option Record). g (unit h * right_of o)) (sym r.1));
  }

  buckets : ((b : ℕ) → b < h.buckets → entry (width h) b (array h new) ≡ f (entry (width h) b (array h old))) → (b : ℕ) → b < h.buckets → links_of h qs new (Bucket b) ≡ g (links_of h ps old (Bucket b))
  unfolding links_of
  buckets entries b low = ap (λ (n : ℕ). unit h * n) (entries b low) ∙ f_is (entry (width h) b (array h old))

  pub packed : (places : Key → Option ℕ) → AllHang (links_of h ps old) (record_at h.first ps) h.buckets places → ((b : ℕ) → b < h.buckets → entry (width h) b (array h new) ≡ f (entry (width h) b (array h old))) → between h.first end new ≡ spell_all qs → end ≡ h.first + long qs → length new ≡ length old → Repacked h end ps new
  packed places hang entries bytes end_is same = record {
    pieces = qs;
    links = f;
    are = refl;
    ends = omega (arith, end_is, moved_long f ps);
    is = record {
      room = unit_room h v;
      on = omega (arith, end_is);
      within = omega (arith, end_is, moved_less f ps, ends, has.within, same);
      filled = record { whole = moved_whole f (unit h) ps (renamed_low (unit h) to) has.filled.whole; is = bytes };
      shared = λ q. inl (sym (all_held f h.first ps q), refl);
    };
    widths = λ q r e. (let w = back q r e in ap (λ (x : Record). x.wide) w.is ∙ has.widths w.place w.r w.there);
    places = λ k. option_map g (places k);
    hang = record {
      holds = holds_renumbered (seen (links_of h ps old) (record_at h.first ps)) (seen (links_of h qs new) (record_at h.first qs)) g h.buckets places names (buckets entries) hang.holds;
      all = λ p r e. (
          let w = back p r e in
          ap (λ (x : Record). option_map g (places x.key)) w.is ∙ ap (option_map g) (hang.all w.place w.r w.there) ∙ ap (λ (n : ℕ). Some n) (g_at w.place p w.goes));
    };
    map = λ m is key value. (
      λ e. (let x = (is key value).0 e in let w = forth x.0 x.1 x.2 in (w.place, rechained f x.1, w.there, x.3, x.4)),
      λ x. (let w = back x.0 x.1 x.2 in (is key value).1 (w.place, w.r, w.there, ap (λ (z : Record). z.key) (sym w.is) ∙ x.3, ap (λ (z : Record). z.value) (sym w.is) ∙ x.4)),
    );
    short = omega (arith, end_is, moved_less f ps, ends);
  }

-- what stands in front of what was written stays
front_left : (n first end : ℕ) (old new xs : List ℕ) → n ≤ first → first ≤ length old → Written first end old new xs → take n new ≡ take n old
front_left n first end old new xs low fits w =
    let all : take first new ≡ take first old = shorter first end new (omega (arith, w.ends)) ∙ ap (take first) w.front ∙ take_at (take first old) xs first (length-take-le first old fits) in
    shorter n first new low ∙ ap (take n) all ∙ sym (shorter n first old low)

-- and so does the head, where records were moved and entries were renamed
pub head_left : (h : Head) (ps : List Piece) (old mid new xs ys : List ℕ) (end array_end : ℕ) → IsValid h → HasBlocks h h.size ps old → Written h.first end old mid xs → Written 256 array_end mid new ys → take 256 new ≡ take 256 old
head_left h ps old mid new xs ys end array_end v has first second =
    let low : 256 ≤ h.first = omega (arith, sections_first h v) in
    let fits : h.first ≤ length old = omega (arith, has.on, has.within) in
    front_left 256 256 array_end mid new ys (omega arith) (omega (arith, first.long, low, fits)) second ∙ front_left 256 h.first end old mid xs low fits first

-- a file whose records were moved and whose entries were renamed
pub repacked : (h : Head) (ps : List Piece) (places : Key → Option ℕ) (old mid new : List ℕ) (end : ℕ) (f : ℕ → ℕ) → IsValid h → HasBlocks h h.size ps old → AllHang (links_of h ps old) (record_at h.first ps) h.buckets places → f ≡ renamed (unit h) (new_place h.first h.first ps) → Written h.first end old mid (spell_all (moved f ps))
    → Written 256 (256 + width h * h.buckets) mid new (entries_as f (width h) h.buckets (drop 256 mid)) → AllFit f (width h) h.buckets (drop 256 mid) → Repacked h end ps new
repacked h ps places old mid new end f v has hang is first second fit =
    packed h ps old new end v has places hang
    (subst (λ (k : ℕ → ℕ). (b : ℕ) → b < h.buckets → entry (width h) b (array h new) ≡ k (entry (width h) b (array h old))) is entries)
    (subst (λ (k : ℕ → ℕ). between h.first end new ≡ spell_all (moved k ps)) is blocks)
    (subst (λ (k : ℕ → ℕ). end ≡ h.first + long (moved k ps)) is first.ends)
    (second.long ∙ first.long)
  where
    low : 256 + width h * h.buckets ≤ h.first
    low = omega (arith, sections_first h v)

    fits : h.first ≤ length old
    fits = omega (arith, has.on, has.within)

    blocks : between h.first end new ≡ spell_all (moved f ps)
    blocks = ap (λ (l : List ℕ). take (end - h.first) l) (second.behind h.first low) ∙ between_is h.first end old mid (spell_all (moved f ps)) fits first

    array_is : array h new ≡ entries_as f (width h) h.buckets (drop 256 mid)
    array_is = between_is 256 (256 + width h * h.buckets) mid new (entries_as f (width h) h.buckets (drop 256 mid)) (omega (arith, first.long, fits, low)) second

    front_is : take h.first mid ≡ take h.first old
    front_is = shorter h.first end mid (omega (arith, first.ends)) ∙ ap (take h.first) first.front ∙ take_at (take h.first old) (spell_all (moved f ps)) h.first (length-take-le h.first old fits)

    entries : (b : ℕ) → b < h.buckets → entry (width h) b (array h new) ≡ f (entry (width h) b (array h old))
    entries b less =
        let w : ℕ = width h in
        let n : ℕ = h.buckets in
        let room : w * b + w ≤ w * n = mul_more w b n less in
        let mid_is : take w (drop (w * b) (drop 256 mid)) ≡ take w (drop (256 + w * b) old) = ap (take w) (drop-drop (w * b) 256 mid ∙ ap (λ (k : ℕ). drop k mid) (omega arith)) ∙ same_front (256 + w * b) w h.first mid old (omega (arith, room, low)) front_is in
        let old_is : take w (drop (w * b) (array h old)) ≡ take w (drop (256 + w * b) old) = ap (λ (k : ℕ). take w (drop (w * b) (take k (drop 256 old)))) (omega arith) ∙ array_field (w * n) (w * b) w old room in
        ap (λ (l : List ℕ). entry w b l) array_is ∙ entry_of f w n b (drop 256 mid) less fit ∙ ap (λ (l : List ℕ). f (le_number l)) (mid_is ∙ sym old_is)
