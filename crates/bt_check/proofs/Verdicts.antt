-- What the parts of the check say together.
use Rattle.std.proofs.Common.{◌≡◌, ◌↔◌, ℕ, List, length, Some, Bool, true, false, inl, inr, refl, sym, ◌∙◌, subst}
use Rattle.std.specs.Prelude.{IsTrue}
use Rattle.std.specs.BTreeSet.{BTreeSet}
use Rattle.std.specs.FinMap.{get}
use Rattle.tc_base.specs.Maps.{Map as stored}
use Rattle.tc_base.specs.declared.kind.Rule.{Rule}
use Rattle.tc_space.specs.declared.errors.OpenErr.{OpenErr}
use Rattle.tc_space.specs.declared.errors.OpenErr.TheVariants.{Broken}
use Rattle.tc_space.specs.declared.errors.RecErr.{RecErr}
use Rattle.tc_space.specs.declared.errors.RecErr.TheVariants as rec
use Rattle.bt_rows.specs.declared.head.TreeHead.{TreeHead}
use Rattle.bt_rows.specs.declared.page.LeafAt.{LeafAt}
use Rattle.bt_rows.specs.Orders.{Before}
use Rattle.bt_rows.specs.Pages.{Map, PageMap, AreHeld}
use Rattle.bt_rows.specs.Rows.{held, leaves_among}
use Rattle.bt_rows.specs.Rules.{B1, B3, B7, pairs_of}
use Rattle.bt_rows.specs.Standing.{PagesStand, TreeStands, leaves_of}
use Rattle.bt_rows.proofs.Held.{the_pages, are_held}
use Rattle.bt_check.specs.Collected.{has, IsCollected}
use Rattle.bt_check.specs.Leaves.{last_at, IsSeen, IsClosed}
use Rattle.bt_check.specs.Walks.{IsHigh, IsWalked}
use Rattle.bt_check.specs.Verdicts.{Breaks, IsFirstBroken, LeavesHold, LeavesBreak, Gathered, HasPlaces, broken_at, open_of, rule_b}
use Rattle.bt_check.specs.declared.leaves.Seen.{Seen}
use Rattle.bt_check.specs.declared.rows.Walked.{Walked}
use Rattle.bt_check.proofs.Seen.{rule_to, rule_from, less_all, less_self}

-- a refusal at a rule
pub breaks_at : (before : Before) (h : TreeHead) (index : Bool) (file : ℕ) (Holds : stored → Type 0) (e : OpenErr) (here n : ℕ) → e ≡ broken_at here n → here ≡ file → ((m : stored) → Holds m → IsFirstBroken before h index (get m) (rule_b n)) → Breaks before h index file Holds e
breaks_at before h index file Holds e here n is same first f rule broken =
    let both : Broken here (rule_b n) ≡ Broken f rule = sym is ∙ broken in
    let place : here ≡ f = cc in
    let named : rule_b n ≡ rule = cc in
    (sym place ∙ same, λ m holds. subst (IsFirstBroken before h index (get m)) named (first m holds))

-- a refusal that names no rule
pub names_none : (before : Before) (h : TreeHead) (index : Bool) (file : ℕ) (Holds : stored → Type 0) (e : RecErr) (o : OpenErr) → o ≡ open_of e → Breaks before h index file Holds o
names_none before h index file Holds rec.Full o is f rule broken = absurd (let bad = sym is ∙ broken in cc)
names_none before h index file Holds rec.Fault o is f rule broken = absurd (let bad = sym is ∙ broken in cc)
names_none before h index file Holds rec.Memory o is f rule broken = absurd (let bad = sym is ∙ broken in cc)

-- ---- pages

abbrev pub Whenever : Map → BTreeSet ℕ → (PageMap → Type 0) → Type 0
Whenever m ids P = (h : TreeHead) (pages : PageMap) → AreHeld h m pages → ((id : ℕ) → has ids id ≡ held pages id) → P pages

module _ (h : TreeHead) (index : Bool) (m : Map) (ids : BTreeSet ℕ) (within : Bool) (b : B1 h) (c : Gathered h index m ids within) where
  pages : PageMap
  pages = the_pages h index m b c.0

  are : AreHeld h m pages
  unfolding pages
  are = are_held h index m b c.0

  whole : IsCollected h m ids within pages
  whole = c.1 pages are

  pub third_broken : (before : Before) → Whenever m ids (λ pages. B3 pages h.root → ⊥) → IsFirstBroken before h index m (rule_b 3)
  third_broken before w = inr (b, inr (c.0, pages, are, inl (refl, w h pages are whole.all)))

  pub fourth_broken : (before : Before) (x : Walked) → Whenever m ids (λ pages. IsWalked pages h.root x) → x.uneven ≡ true → IsFirstBroken before h index m (rule_b 4)
  fourth_broken before x w e = let r = w h pages are whole.all in inr (b, inr (c.0, pages, are, inr (x.height, r.reach, inl (refl, r.odd e))))

  pub fifth_broken : (before : Before) (x : Walked) → Whenever m ids (λ pages. IsWalked pages h.root x) → x.uneven ≡ false → within ≡ false → IsFirstBroken before h index m (rule_b 5)
  fifth_broken before x w e f = let r = w h pages are whole.all in inr (b, inr (c.0, pages, are, inr (x.height, r.reach, inr (r.even e, inl (refl, whole.outside f)))))

  pub pages_stand : (x : Walked) → Whenever m ids (λ pages. IsWalked pages h.root x) → x.uneven ≡ false → within ≡ true → (s : PagesStand h index m) × HasPlaces h index m s x
  pages_stand x w e f = let r = w h pages are whole.all in (record { head = b; keys = c.0; pages = pages; held = are; depth = x.height; reach = r.reach; even = r.even e; limits = whole.inside f }, record { high = r.high; placed = r.placed; leaves_are = r.leaves_are })

-- ---- leaves

module _ (before : Before) (h : TreeHead) (ls : List LeafAt) (x : Seen) (v : IsSeen before h ls x) where
  pub sixth_fails : x.ordered ≡ false → LeavesBreak before h ls (rule_b 6)
  sixth_fails e = inl (refl, λ o. let bad = sym e ∙ v.in_order.1 o in cc)

  pub tied_fails : x.ordered ≡ true → x.linked ≡ false → LeavesBreak before h ls (rule_b 7)
  tied_fails o e = inr (v.in_order.0 o, inl (refl, λ b. let bad = sym e ∙ v.tied.1 (rule_from h ls b).0 in cc))

  module _ (closed : Bool) (iff : IsTrue closed ↔ IsClosed h (last_at x.last)) where
    pub closed_fails : x.ordered ≡ true → closed ≡ false → LeavesBreak before h ls (rule_b 7)
    closed_fails o e = inr (v.in_order.0 o, inl (refl, λ b. let bad = sym e ∙ iff.1 (subst (IsClosed h) (sym v.last_is) (rule_from h ls b).1) in cc))

    all_linked : x.linked ≡ true → closed ≡ true → B7 h ls
    all_linked l e = rule_to h ls (v.tied.0 l) (subst (IsClosed h) v.last_is (iff.0 e))

    pub eighth_fails : x.ordered ≡ true → x.linked ≡ true → closed ≡ true → (x.left ≡ Some 0 → ⊥) → LeavesBreak before h ls (rule_b 8)
    eighth_fails o l e not = inr (v.in_order.0 o, inr (all_linked l e, refl, λ b. not (v.rest ∙ less_self h.pairs (length (pairs_of ls)) b)))

    pub leaves_hold : x.ordered ≡ true → x.linked ≡ true → closed ≡ true → x.left ≡ Some 0 → LeavesHold before h ls
    leaves_hold o l e none = record { order = v.in_order.0 o; links = all_linked l e; count = less_all h.pairs (length (pairs_of ls)) (sym v.rest ∙ none) }

-- ---- all

-- what was seen of the places of leaves was seen of all leaves
pub seen_as : (before : Before) (h : TreeHead) (index : Bool) (m : Map) (s : PagesStand h index m) (x : Walked) (seen : Seen) → HasPlaces h index m s x → IsSeen before h (leaves_among s.pages x.leaves) seen → IsSeen before h (leaves_of s) seen
seen_as before h index m s x seen b v = subst (λ (ls : List LeafAt). IsSeen before h ls seen) (sym b.leaves_are) v

pub leaves_broken : (before : Before) (h : TreeHead) (index : Bool) (m : Map) (rule : Rule) (s : PagesStand h index m) → LeavesBreak before h (leaves_of s) rule → IsFirstBroken before h index m rule
leaves_broken before h index m rule s b = inr (s.head, inr (s.keys, s.pages, s.held, inr (s.depth, s.reach, inr (s.even, inr (s.limits, b)))))

pub tree_stands : (before : Before) (h : TreeHead) (index : Bool) (m : Map) (s : PagesStand h index m) (height : ℕ) → LeavesHold before h (leaves_of s) → IsHigh s.pages h.root height → (t : TreeStands before h index m) × IsHigh t.stand.pages h.root height
tree_stands before h index m s height l high = (record { stand = s; order = l.order; links = l.links; count = l.count }, high)
