-- The pages that records hold: there are such, and no others.
use Rattle.std.proofs.Common.{◌≡◌, ℕ, zero, suc, ◌+◌, ◌-◌, ◌<◌, ◌≤◌, ◌^◌, ◌⊎◌, Bool, List, [], ◌∷◌, ◌++◌, Option, Some, None, get_or, refl, sym, ap, subst, ◌∙◌, inl, inr, ⊎_elim, arith}
use Rattle.std.proofs.lemmas.Bool.{cases_lt}
use Rattle.bt_page.specs.Keys.{node_offset, hex_number, hex_in, key_of}
use Rattle.bt_page.proofs.IdKeys.{Names, names, key_free}
use Rattle.bt_page.proofs.AtFronts.{leaf_only, node_only}
use Rattle.bt_rows.specs.declared.head.TreeHead.{TreeHead}
use Rattle.bt_rows.specs.declared.page.LeafAt.{LeafAt}
use Rattle.bt_rows.specs.declared.page.Page.{Page}
use Rattle.bt_rows.specs.declared.page.Page.TheVariants.{Leaf as leaf_page, Node as node_page}
use Rattle.bt_rows.specs.declared.page.Slot.{Slot}
use Rattle.bt_rows.specs.Pages.{Map, PageMap, IsGiven, IsPage, IsHeldAs, AreHeld}
use Rattle.bt_rows.specs.Rows.{root_slot, next_row, leaves_among, row, leaves_in}
use Rattle.bt_rows.specs.Rules.{B1, B2, column, pairs_of}
use Rattle.bt_rows.specs.Standing.{PagesStand, leaves_of}
use Rattle.bt_rows.specs.Laws.{RecordsGivePages, RecordsGivePairs}
use Rattle.bt_rows.proofs.Building.{leaves_nil}

-- ---- ids

pub given_small : (h : TreeHead) (id : ℕ) → B1 h → IsGiven h id → id < 2 ^ 49
given_small h id b (inl g) = omega (arith, g.1, b.leaf_ids)
given_small h id b (inr g) = omega (arith, g.1, b.node_ids)

pub decided : (h : TreeHead) (id : ℕ) → IsGiven h id ⊎ (IsGiven h id → ⊥)
decided h id = ⊎_elim
    (λ (none : id < 1). inr (not_given (λ z. omega (arith, none, z.0)) (λ z. omega (arith, none, z.0))))
    (λ (some : 1 ≤ id). ⊎_elim
    (λ (leaf : id < h.leaf_ids + 1). inl (inl (some, omega (arith, leaf))))
    (λ (more : h.leaf_ids + 1 ≤ id). ⊎_elim
    (λ (low : id < node_offset + 1). inr (not_given (λ z. omega (arith, more, z.1)) (λ z. omega (arith, low, z.0))))
    (λ (high : node_offset + 1 ≤ id). ⊎_elim
    (λ (node : id < node_offset + h.node_ids + 1). inl (inr (omega (arith, high), omega (arith, node))))
    (λ (past : node_offset + h.node_ids + 1 ≤ id). inr (not_given (λ z. omega (arith, more, z.1)) (λ z. omega (arith, past, z.1))))
    (cases_lt id (node_offset + h.node_ids + 1)))
    (cases_lt id (node_offset + 1)))
    (cases_lt id (h.leaf_ids + 1)))
    (cases_lt id 1)
  where
    not_given : ((1 ≤ id) × (id ≤ h.leaf_ids) → ⊥) → ((node_offset < id) × (id ≤ node_offset + h.node_ids) → ⊥) → IsGiven h id → ⊥
    not_given f g (inl z) = f z
    not_given f g (inr z) = g z

named_column : key_of (hex_number column) ≡ column → ⊥
unfolding key_of hex_in
named_column e = omega (arith, ap (λ (l : List ℕ). get_or l 1 0) e)

pub column_free : (id : ℕ) → id < 2 ^ 49 → column ≡ key_of id → ⊥
column_free id lt e =
    let n : Names id column = subst (Names id) (sym e) (names id lt) in
    named_column (ap key_of (n.leaf (λ z. omega (arith, z))) ∙ sym e)

-- ---- there are such pages

module _ (h : TreeHead) (index : Bool) (m : Map) (b : B1 h) (rule : B2 h index m) where
  page_there : (id : ℕ) (o : Option (List ℕ)) → m (key_of id) ≡ o → IsGiven h id → (p : Option Page) × IsHeldAs id o p
  page_there id None e g = (None, tt)
  page_there id (Some bytes) e g = elim (rule (key_of id) bytes e) [
    | inl p ↦ let same : p.id ≡ id = key_free p.id id (given_small h p.id b p.given) (given_small h id b g) (sym p.key_is) in (Some p.page, subst (λ (i : ℕ). IsPage i bytes p.page) same p.is)
    | inr col ↦ absurd (column_free id (given_small h id b g) (sym col.1))
  ]

  page_at : (id : ℕ) → IsGiven h id ⊎ (IsGiven h id → ⊥) → Option Page
  page_at id (inl g) = (page_there id (m (key_of id)) refl g).0
  page_at id (inr not) = None

  pub the_pages : PageMap
  the_pages id = page_at id (decided h id)

  given_at : (id : ℕ) (d : IsGiven h id ⊎ (IsGiven h id → ⊥)) → IsGiven h id → IsHeldAs id (m (key_of id)) (page_at id d)
  unfolding page_at
  given_at id (inl g) k = (page_there id (m (key_of id)) refl g).1
  given_at id (inr not) k = absurd (not k)

  others_at : (id : ℕ) (d : IsGiven h id ⊎ (IsGiven h id → ⊥)) → (IsGiven h id → ⊥) → page_at id d ≡ None
  unfolding page_at
  others_at id (inl g) not = absurd (not g)
  others_at id (inr k) not = refl

  pub are_held : AreHeld h m the_pages
  unfolding the_pages
  are_held = record { given = λ id g. given_at id (decided h id) g; others = λ id not. others_at id (decided h id) not }

-- ---- and no others

page_one : (id : ℕ) (bytes : List ℕ) (p q : Page) → IsPage id bytes p → IsPage id bytes q → p ≡ q
page_one id bytes (leaf_page l) (leaf_page k) f g = ap leaf_page (leaf_only bytes k l g.1 f.1)
page_one id bytes (leaf_page l) (node_page n) f g = absurd (omega (arith, f.0, g.0))
page_one id bytes (node_page n) (leaf_page l) f g = absurd (omega (arith, f.0, g.0))
page_one id bytes (node_page n) (node_page k) f g = ap node_page (node_only bytes k n g.1 f.1)

held_one : (id : ℕ) (o : Option (List ℕ)) (p q : Option Page) → IsHeldAs id o p → IsHeldAs id o q → p ≡ q
held_one id None None None f g = refl
held_one id None None (Some q) f g = absurd g
held_one id None (Some p) q f g = absurd f
held_one id (Some bytes) None q f g = absurd f
held_one id (Some bytes) (Some p) None f g = absurd g
held_one id (Some bytes) (Some p) (Some q) f g = ap Some (page_one id bytes p q f g)

pub pages_one : (h : TreeHead) (m : Map) (p q : PageMap) → AreHeld h m p → AreHeld h m q → p ≡ q
pages_one h m p q f g = λ i id. at id (decided h id) i
  where
    at : (id : ℕ) → IsGiven h id ⊎ (IsGiven h id → ⊥) → p id ≡ q id
    at id (inl k) = held_one id (m (key_of id)) (p id) (q id) (f.given id k) (g.given id k)
    at id (inr not) = f.others id not ∙ sym (g.others id not)

pub records_give_pages : RecordsGivePages
records_give_pages h index m b rule = (the_pages h index m b rule, are_held h index m b rule, λ other held. pages_one h m other (the_pages h index m b rule) held (are_held h index m b rule))

-- rows past the last have no leaves
leaves_past : (pages : PageMap) (k more : ℕ) (slots : List Slot) → row pages k slots ≡ [] → leaves_in pages (k + more) slots ≡ leaves_in pages k slots
leaves_past pages zero more slots e = let none : zero + more ≡ more = omega arith in ap (λ (n : ℕ). leaves_in pages n slots) none ∙ ap (leaves_in pages more) e ∙ leaves_nil pages more
leaves_past pages (suc k) more slots e =
    let next : suc k + more ≡ suc (k + more) = omega arith in
    ap (λ (n : ℕ). leaves_in pages n slots) next ∙ ap (λ (t : List LeafAt). leaves_among pages slots ++ t) (leaves_past pages k more (next_row pages slots) e)

-- whichever row is the last, the leaves are the same
pub depth_free : (pages : PageMap) (j k : ℕ) (slots : List Slot) → row pages j slots ≡ [] → row pages k slots ≡ [] → leaves_in pages j slots ≡ leaves_in pages k slots
depth_free pages j k slots e f = ⊎_elim
    (λ (low : j < k). let is : j + (k - j) ≡ k = omega (arith, low) in sym (ap (λ (n : ℕ). leaves_in pages n slots) (sym is) ∙ leaves_past pages j (k - j) slots e))
    (λ (high : k ≤ j). let is : k + (j - k) ≡ j = omega (arith, high) in ap (λ (n : ℕ). leaves_in pages n slots) (sym is) ∙ leaves_past pages k (j - k) slots f)
    (cases_lt j k)

leaves_one : (h : TreeHead) (index : Bool) (m : Map) (s t : PagesStand h index m) → leaves_of s ≡ leaves_of t
leaves_one h index m s t =
    let same : s.pages ≡ t.pages = pages_one h m s.pages t.pages s.held t.held in
    let slots : List Slot = root_slot h.root ∷ [] in
    ap (λ (p : PageMap). leaves_in p s.depth slots) same ∙ depth_free t.pages s.depth t.depth slots (subst (λ (p : PageMap). row p s.depth slots ≡ []) same s.reach.ends) t.reach.ends

pub records_give_pairs : RecordsGivePairs
records_give_pairs before h index m s t = ap pairs_of (leaves_one h index m s.stand t.stand)
