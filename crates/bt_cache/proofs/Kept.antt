-- Pages that stay the store's.
use Rattle.std.proofs.Common.{◌≡◌, ◌≢◌, ℕ, ◌<◌, ◌≤◌, ◌^◌, List, [], ◌∷◌, Option, Some, None, Bool, true, false, cond, nat_eq, refl, sym, ap, subst, ◌∙◌, arith}
use Rattle.std.specs.declared.cmp.Ordering.TheVariants.{Less, Equal, Greater}
use Rattle.std.specs.declared.cmp.Ordering.{Ordering}
use Rattle.std.specs.Ordering.{nat_cmp, eq_by_cmp}
use Rattle.std.specs.Cmp.Lexicographic.{slice_cmp, nat_list_cmp_total}
use Rattle.std.specs.FinMap.{get, insert, remove, get-insert, get-remove, same_map}
use Rattle.std.proofs.lemmas.Cmp.{tied_itself}
use Rattle.std.proofs.lemmas.Bool.{eq-eqb}
use Rattle.std.proofs.lemmas.Map.Lookups.{exact_bytes}
use Rattle.tc_base.specs.Maps.{Map}
use Rattle.bt_page.specs.declared.page.Leaf.{Leaf}
use Rattle.bt_page.specs.declared.page.Node.{Node}
use Rattle.bt_page.specs.Keys.{key_of, node_offset}
use Rattle.bt_page.specs.Pages.{LeafFits, NodeFits, leaf_bytes, node_bytes}
use Rattle.bt_page.specs.Spelled.{Spells}
use Rattle.bt_page.proofs.AtFronts.{leaf_only, node_only}
use Rattle.bt_rows.specs.declared.page.Page.{Page}
use Rattle.bt_rows.specs.declared.page.Page.TheVariants.{Leaf as leaf_page, Node as node_page}
use Rattle.bt_rows.specs.Pages.{IsPage, IsHeldAs}
use Rattle.bt_cache.specs.declared.shared.SharedPage.{SharedPage}
use Rattle.bt_cache.specs.Shared.{page_of}
use Rattle.bt_cache.specs.Held.{HasPage, AreSame}
use Rattle.bt_cache.proofs.Entries.{Others}
use Rattle.bt_cache.proofs.PageKeys.{keys_apart}

-- ---- a map with one key changed

same_test : (k : List ℕ) → eq_by_cmp (slice_cmp nat_cmp) k k ≡ true
same_test k = rw (tied_itself nat_list_cmp_total k) refl

other_test : (q k : List ℕ) → q ≢ k → eq_by_cmp (slice_cmp nat_cmp) q k ≡ false
other_test q k ne = go (slice_cmp nat_cmp q k) refl
  where
    go : (o : Ordering) → slice_cmp nat_cmp q k ≡ o → eq_by_cmp (slice_cmp nat_cmp) q k ≡ false
    go Less e = rw e refl
    go Equal e = absurd (ne (exact_bytes q k e))
    go Greater e = rw e refl

pub insert_here : (m : Map) (k v : List ℕ) → get (insert m k v) k ≡ Some v
insert_here m k v = get-insert nat_list_cmp_total m k v k ∙ ap (λ (b : Bool). cond b (Some v) (get m k)) (same_test k)

pub insert_other : (m : Map) (k v q : List ℕ) → q ≢ k → get (insert m k v) q ≡ get m q
insert_other m k v q ne = get-insert nat_list_cmp_total m k v q ∙ ap (λ (b : Bool). cond b (Some v) (get m q)) (other_test q k ne)

pub remove_other : (m : Map) (k q : List ℕ) → q ≢ k → get (remove m k) q ≡ get m q
remove_other m k q ne = get-remove nat_list_cmp_total m k q ∙ ap (λ (b : Bool). cond b None (get m q)) (other_test q k ne)

-- a key that isn't held is taken out
pub remove_none : (m : Map) (k : List ℕ) → get m k ≡ None → remove m k ≡ m
remove_none m k none = same_map nat_list_cmp_total exact_bytes (remove m k) m (λ q. at q (eq_by_cmp (slice_cmp nat_cmp) q k) refl)
  where
    equal : (q : List ℕ) → eq_by_cmp (slice_cmp nat_cmp) q k ≡ true → q ≡ k
    equal q t = go (slice_cmp nat_cmp q k) refl
      where
        go : (o : Ordering) → slice_cmp nat_cmp q k ≡ o → q ≡ k
        go Less e = absurd (let bad = rw e at t in cc)
        go Equal e = exact_bytes q k e
        go Greater e = absurd (let bad = rw e at t in cc)

    at : (q : List ℕ) (b : Bool) → eq_by_cmp (slice_cmp nat_cmp) q k ≡ b → get (remove m k) q ≡ get m q
    at q true t = get-remove nat_list_cmp_total m k q ∙ ap (λ (b : Bool). cond b None (get m q)) t ∙ sym (ap (get m) (equal q t) ∙ none)
    at q false f = get-remove nat_list_cmp_total m k q ∙ ap (λ (b : Bool). cond b None (get m q)) f

-- ---- one page an id

page_one : (id : ℕ) (bytes : List ℕ) (p q : Page) → IsPage id bytes p → IsPage id bytes q → p ≡ q
page_one id bytes (leaf_page l) (leaf_page k) f g = ap leaf_page (leaf_only bytes k l g.1 f.1)
page_one id bytes (leaf_page l) (node_page n) f g = absurd (omega (arith, f.0, g.0))
page_one id bytes (node_page n) (leaf_page l) f g = absurd (omega (arith, f.0, g.0))
page_one id bytes (node_page n) (node_page k) f g = ap node_page (node_only bytes k n g.1 f.1)

-- what was read of the bytes is their page
pub leaf_one : (id : ℕ) (bytes : List ℕ) (l k : Leaf) (p : Page) → id < node_offset → Spells LeafFits leaf_bytes bytes l → k ≡ l → IsPage id bytes p → leaf_page k ≡ p
leaf_one id bytes l k p low f is g = ap leaf_page is ∙ page_one id bytes (leaf_page l) p (low, f) g

pub node_one : (id : ℕ) (bytes : List ℕ) (n k : Node) (p : Page) → node_offset ≤ id → Spells NodeFits node_bytes bytes n → k ≡ n → IsPage id bytes p → node_page k ≡ p
node_one id bytes n k p high f is g = ap node_page is ∙ page_one id bytes (node_page n) p (high, f) g

held_one : (id : ℕ) (o : Option (List ℕ)) (p q : Page) → IsHeldAs id o (Some p) → IsHeldAs id o (Some q) → p ≡ q
held_one id None p q f g = absurd f
held_one id (Some bytes) p q f g = page_one id bytes p q f g

pub one_page : (m : Map) (id : ℕ) (p q : Page) → HasPage m id p → HasPage m id q → p ≡ q
one_page m id p q f g = held_one id (get m (key_of id)) p q f.page g.page

-- ---- entries of other ids

other_same : (m n : Map) (id : ℕ) (e : ℕ × SharedPage) → id < 2 ^ 64 → ((k : List ℕ) → k ≢ key_of id → get n k ≡ get m k) → nat_eq id e.0 ≡ false → HasPage m e.0 (page_of e.1) → HasPage n e.0 (page_of e.1)
other_same m n id e fits stays ne h = record {
  fits = h.fits;
  page = subst (λ (o : Option (List ℕ)). IsHeldAs e.0 o (Some (page_of e.1))) (sym (stays (key_of e.0) (λ same. let is : e.0 ≡ id = keys_apart e.0 id h.fits fits same in (let bad = sym ne ∙ eq-eqb id e.0 (sym is) in cc)))) h.page;
}

pub others_same : (m n : Map) (id : ℕ) (es : List (ℕ × SharedPage)) → id < 2 ^ 64 → ((k : List ℕ) → k ≢ key_of id → get n k ≡ get m k) → Others id es → AreSame m es → AreSame n es
others_same m n id [] fits stays o a = tt
others_same m n id (e ∷ es) fits stays o a = (other_same m n id e fits stays o.0 a.0, others_same m n id es fits stays o.1 a.1)
