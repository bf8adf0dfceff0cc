-- The map of the records of blocks.
use Rattle.std.proofs.Common.{◌≡◌, ◌∙◌, inl, inr, ℕ, ◌+◌, ◌<◌, Bool, true, cond, List, [], ◌∷◌, refl, sym, ap, subst, arith, Option, Some, None, is_some}
use Rattle.std.specs.Ordering.{nat_cmp, eq_by_cmp}
use Rattle.std.specs.Cmp.{eq_by_cmp_equiv, Equal-is}
use Rattle.std.specs.Cmp.Lexicographic.{slice_cmp, nat_list_cmp_total}
use Rattle.std.specs.FinMap.{empty, get, insert, len, get-empty, get-insert, len-empty, len-insert, same_map}
use Rattle.std.proofs.lemmas.Bool.{cases_eq}
use Rattle.std.proofs.lemmas.Map.Lookups.{exact_bytes}
use Rattle.tc_base.specs.Maps.{Map}
use Rattle.hf_block.specs.Pieces.{Record, Piece, held, free, size_of, AllWhole}
use Rattle.hf_layout.specs.Frees.{Frees, none}
use Rattle.hf_layout.specs.Layout.{record_at, record_of, piece_at, frees_of, LaidOut, IsShared}
use Rattle.hf_layout.proofs.Places.{here, later}
use Rattle.hf_layout.proofs.Shares.{ends_within}
use Rattle.hf_tree.specs.Keys.{Key}
use Rattle.hf_tree.specs.Rules.{Links}
use Rattle.hf_tree.specs.Standing.{AllHang, IsMapOf, count_of}
use Rattle.hf_tree.proofs.Ways.{two}
use Rattle.tc_hash.specs.Sections.{IsListOf}

-- the records of blocks, by key
unfoldable pub map_of : List Piece → Map
map_of [] = empty
map_of (held r ∷ ps) = insert (map_of ps) r.key r.value
map_of (free size tail ∷ ps) = map_of ps

-- no key stands in two records
abbrev pub AreSingle : ℕ → List Piece → Type 0
AreSingle at ps = (p q : ℕ) (r s : Record) → record_at at ps p ≡ Some r → record_at at ps q ≡ Some s → r.key ≡ s.key → p ≡ q

pub single : (links : Links) (h : ℕ) (ps : List Piece) (n : ℕ) (places : Key → Option ℕ) → AllHang links (record_at h ps) n places → AreSingle h ps
single links h ps n places hang p q r s a b e = let f : Some p ≡ Some q = sym (hang.all p r a) ∙ ap places e ∙ hang.all q s b in cc

found : (o : Option Piece) (r : Record) → record_of o ≡ Some r → (p : Piece) × (o ≡ Some p)
found None r e = absurd cc
found (Some p) r e = (p, refl)

-- a record behind the first block
pub behind : (u at : ℕ) (p : Piece) (ps : List Piece) (q : ℕ) (r : Record) → AllWhole u (p ∷ ps) → record_at (at + size_of p) ps q ≡ Some r → (record_at at (p ∷ ps) q ≡ Some r) × (at < q)
behind u at p ps q r whole e =
    let f = found (piece_at (at + size_of p) ps q) r e in
    let low = (ends_within u (at + size_of p) ps f.0 q f.1).0 in
    (ap record_of (later at p ps q (omega (arith, low, whole.0.size.some))) ∙ e, omega (arith, low, whole.0.size.some))

same_key : (k q : List ℕ) → eq_by_cmp (slice_cmp nat_cmp) k q ≡ true → k ≡ q
same_key k q e = exact_bytes k q ((Equal-is (slice_cmp nat_cmp k q)).0 e)

abbrev pub HasValue : ℕ → List Piece → List ℕ → List ℕ → Type 0
HasValue at ps key value = (p : ℕ) × (r : Record) × (record_at at ps p ≡ Some r) × (r.key ≡ key) × (r.value ≡ value)

-- each record's value is got by its key, and nothing else is
pub map_of-to : (u at : ℕ) (ps : List Piece) (key value : List ℕ) → AllWhole u ps → get (map_of ps) key ≡ Some value → HasValue at ps key value
unfolding map_of
map_of-to u at [] key value whole e = absurd (let f : None ≡ Some value = sym (get-empty (slice_cmp nat_cmp) key) ∙ e in cc)
map_of-to u at (held r ∷ ps) key value whole e =
    let g = get-insert nat_list_cmp_total (map_of ps) r.key r.value key in
    two (eq_by_cmp (slice_cmp nat_cmp) key r.key)
    (λ y. (at, r, ap record_of (here at (held r) ps at refl), sym (same_key key r.key y), let s : Some r.value ≡ Some value = sym (ap (λ (b : Bool). cond b (Some r.value) (get (map_of ps) key)) y) ∙ sym g ∙ e in cc))
    (λ n.
    let f = map_of-to u (at + size_of (held r)) ps key value whole.1 (sym (ap (λ (b : Bool). cond b (Some r.value) (get (map_of ps) key)) n) ∙ sym g ∙ e) in
    (f.0, f.1, (behind u at (held r) ps f.0 f.1 whole f.2).0, f.3, f.4))
map_of-to u at (free size tail ∷ ps) key value whole e =
    let f = map_of-to u (at + size_of (free size tail)) ps key value whole.1 e in
    (f.0, f.1, (behind u at (free size tail) ps f.0 f.1 whole f.2).0, f.3, f.4)

-- none of the later blocks' places is the first's
pub tail_single : (u at : ℕ) (p : Piece) (ps : List Piece) → AllWhole u (p ∷ ps) → AreSingle at (p ∷ ps) → AreSingle (at + size_of p) ps
tail_single u at p ps whole h a b r s e f same = h a b r s (behind u at p ps a r whole e).0 (behind u at p ps b s whole f).0 same

pub map_of-from : (u at : ℕ) (ps : List Piece) (key value : List ℕ) → AllWhole u ps → AreSingle at ps → HasValue at ps key value → get (map_of ps) key ≡ Some value
unfolding map_of
map_of-from u at [] key value whole h (p, r, e, k, v) = absurd cc
map_of-from u at (held s ∷ ps) key value whole h (p, r, e, k, v) =
    let g = get-insert nat_list_cmp_total (map_of ps) s.key s.value key in
    elim (cases_eq p at) [
      | inl is ↦
          let same : Some s ≡ Some r = sym (ap record_of (here at (held s) ps p is)) ∙ e in
          let one : s ≡ r = cc in
          let keys : key ≡ s.key = sym k ∙ ap (λ (x : Record). x.key) (sym one) in
          let tied : eq_by_cmp (slice_cmp nat_cmp) key s.key ≡ true = ap (λ (x : List ℕ). eq_by_cmp (slice_cmp nat_cmp) x s.key) keys ∙ (eq_by_cmp_equiv nat_list_cmp_total).refl s.key in
          g ∙ ap (λ (b : Bool). cond b (Some s.value) (get (map_of ps) key)) tied ∙ ap (λ (x : Record). Some x.value) one ∙ ap (λ (x : List ℕ). Some x) v
      | inr other ↦
          let tail : record_at (at + size_of (held s)) ps p ≡ Some r = sym (ap record_of (later at (held s) ps p other)) ∙ e in
          let rest = map_of-from u (at + size_of (held s)) ps key value whole.1 (tail_single u at (held s) ps whole h) (p, r, tail, k, v) in
          two (eq_by_cmp (slice_cmp nat_cmp) key s.key)
          (λ y. absurd (other (h p at r s e (ap record_of (here at (held s) ps at refl)) (k ∙ same_key key s.key y))))
          (λ n. g ∙ ap (λ (b : Bool). cond b (Some s.value) (get (map_of ps) key)) n ∙ rest)
    ]
map_of-from u at (free size tail ∷ ps) key value whole h (p, r, e, k, v) = elim (cases_eq p at) [
  | inl is ↦ absurd (let f : None ≡ Some r = sym (ap record_of (here at (free size tail) ps p is)) ∙ e in cc)
  | inr other ↦ map_of-from u (at + size_of (free size tail)) ps key value whole.1 (tail_single u at (free size tail) ps whole h) (p, r, sym (ap record_of (later at (free size tail) ps p other)) ∙ e, k, v)
]

pub map_of_is : (u at : ℕ) (ps : List Piece) → AllWhole u ps → AreSingle at ps → IsMapOf (record_at at ps) (get (map_of ps))
map_of_is u at ps whole h key value = (λ e. map_of-to u at ps key value whole e, λ f. map_of-from u at ps key value whole h f)

same_value : (a b : Option (List ℕ)) → ((v : List ℕ) → a ≡ Some v → b ≡ Some v) → ((v : List ℕ) → b ≡ Some v → a ≡ Some v) → a ≡ b
same_value None None to from = refl
same_value None (Some w) to from = from w refl
same_value (Some v) b to from = sym (to v refl)

-- a map of the records is the one that they make
pub map_same : (u at : ℕ) (ps : List Piece) (m : Map) → AllWhole u ps → AreSingle at ps → IsMapOf (record_at at ps) (get m) → m ≡ map_of ps
map_same u at ps m whole h is = same_map nat_list_cmp_total exact_bytes m (map_of ps) (λ key.
    let other = map_of_is u at ps whole h in
    same_value (get m key) (get (map_of ps) key) (λ v e. (other key v).1 ((is key v).0 e)) (λ v e. (is key v).1 ((other key v).0 e)))

-- none of the later records has the first one's key
pub not_behind : (u at : ℕ) (r : Record) (ps : List Piece) → AllWhole u (held r ∷ ps) → AreSingle at (held r ∷ ps) → get (map_of ps) r.key ≡ None
not_behind u at r ps whole h = none (get (map_of ps) r.key) refl
  where
    none : (o : Option (List ℕ)) → get (map_of ps) r.key ≡ o → o ≡ None
    none None e = refl
    none (Some v) e =
        let f = map_of-to u (at + size_of (held r)) ps r.key v whole.1 e in
        let b = behind u at (held r) ps f.0 f.1 whole f.2 in
        absurd (omega (arith, b.1, h f.0 at f.1 r b.0 (ap record_of (here at (held r) ps at refl)) f.3))

-- so many keys as records
pub map_of-len : (u at : ℕ) (ps : List Piece) → AllWhole u ps → AreSingle at ps → len (map_of ps) ≡ count_of ps
unfolding map_of
map_of-len u at [] whole h = len-empty (slice_cmp nat_cmp) (List ℕ)
map_of-len u at (held r ∷ ps) whole h =
    len-insert nat_list_cmp_total (map_of ps) r.key r.value
    ∙ ap (λ (o : Option (List ℕ)). cond (is_some o) (len (map_of ps)) (len (map_of ps) + 1)) (not_behind u at r ps whole h)
    ∙ ap (λ (n : ℕ). n + 1) (map_of-len u (at + size_of (held r)) ps whole.1 (tail_single u at (held r) ps whole h)) ∙ omega arith
map_of-len u at (free size tail ∷ ps) whole h = map_of-len u (at + size_of (free size tail)) ps whole.1 (tail_single u at (free size tail) ps whole h)

-- with nothing lent out the pool's blocks are all the free ones
pub all_shared : (there pool lent : Option ℕ) → lent ≡ None → IsShared there pool lent → pool ≡ there
all_shared there pool lent e (inl s) = s.0
all_shared there pool lent e (inr s) = s.0 ∙ sym e ∙ s.1

pub frees_same : (u first end : ℕ) (ps : List Piece) (frees : Frees) (bytes : List ℕ) → LaidOut u first end ps frees none bytes → (q : ℕ) → frees q ≡ frees_of first ps q
frees_same u first end ps frees bytes laid q = all_shared (frees_of first ps q) (frees q) None refl (laid.shared q)

pub list_same : (u : ℕ) (a b : Frees) (section : List ℕ) → ((q : ℕ) → a q ≡ b q) → IsListOf u a section → IsListOf u b section
list_same u a b section same l = subst (λ (f : Frees). IsListOf u f section) (λ i q. same q i) l
