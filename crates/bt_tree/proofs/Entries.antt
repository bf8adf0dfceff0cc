-- Keys of entries, sections of nodes, and pages once one was put.
use Rattle.std.proofs.Common.{◌≡◌, ℕ, ◌+◌, ◌-◌, ◌≤◌, List, [], ◌∷◌, ◌++◌, Option, Some, None, refl, sym, ap, ◌∙◌, subst, arith, append_assoc, ◌⊎◌, inl, inr, ⊎_elim}
use Rattle.std.proofs.lemmas.List.{append-nil}
use Rattle.std.proofs.lemmas.Bool.{cases_eq}
use Rattle.std.specs.List.{AllByRecursion}
use Rattle.bt_page.specs.declared.page.NodeEntry.{NodeEntry}
use Rattle.bt_page.specs.declared.page.Node.{Node}
use Rattle.bt_rows.specs.declared.page.Page.{Page}
use Rattle.bt_rows.specs.declared.page.Page.TheVariants.{Node as node_page}
use Rattle.bt_rows.specs.Pages.{PageMap}
use Rattle.bt_ways.specs.Climbs.{OnlyNodes}
use Rattle.bt_ways.specs.Writes.{put_at}
use Rattle.bt_ways.proofs.Keys.{all_part}
use Rattle.bt_tree.specs.Climbing.{IsAmong, IsSection, IsWayOf, entry_key, last_below}
use Rattle.bt_tree.specs.Paging.{ComesFrom}
use Rattle.bt_tree.proofs.Pagings.{put_here, put_other}

-- ---- keys of entries

pub among_front : {X : Type 0} (f : X → List ℕ) (key : List ℕ) (xs ys : List X) → IsAmong f key xs → IsAmong f key (xs ++ ys)
among_front f key [] ys a = absurd a
among_front f key (x ∷ xs) ys (inl e) = inl e
among_front f key (x ∷ xs) ys (inr a) = inr (among_front f key xs ys a)

pub among_back : {X : Type 0} (f : X → List ℕ) (key : List ℕ) (xs ys : List X) → IsAmong f key ys → IsAmong f key (xs ++ ys)
among_back f key [] ys a = a
among_back f key (x ∷ xs) ys a = inr (among_back f key xs ys a)

pub among_join : {X : Type 0} (f : X → List ℕ) (key : List ℕ) (xs ys : List X) → IsAmong f key (xs ++ ys) → IsAmong f key xs ⊎ IsAmong f key ys
among_join f key [] ys a = inr a
among_join f key (x ∷ xs) ys (inl e) = inl (inl e)
among_join {X} f key (x ∷ xs) ys (inr a) = ⊎_elim (λ (l : IsAmong f key xs). inl (inr l)) (λ (r : IsAmong f key ys). inr r) (among_join f key xs ys a)

-- each has a key among them all
pub keys_in : (xs es : List NodeEntry) → AllByRecursion (λ e. IsAmong entry_key e.key (xs ++ es)) es
keys_in xs [] = tt
keys_in xs (e ∷ es) = (
  among_back entry_key e.key xs (e ∷ es) (inl refl),
  subst (λ (t : List NodeEntry). AllByRecursion (λ d. IsAmong entry_key d.key t) es) (append_assoc xs (e ∷ []) es) (keys_in (xs ++ e ∷ []) es),
)

pub keys_cut : (entries front back : List NodeEntry) (up : NodeEntry) → entries ≡ front ++ up ∷ back
    → AllByRecursion (λ e. IsAmong entry_key e.key entries) front × (IsAmong entry_key up.key entries × AllByRecursion (λ e. IsAmong entry_key e.key entries) back)
keys_cut entries front back up cut =
    let all : AllByRecursion (λ e. IsAmong entry_key e.key entries) (front ++ up ∷ back) = subst (λ (t : List NodeEntry). AllByRecursion (λ e. IsAmong entry_key e.key entries) t) cut (keys_in [] entries) in
    let parts = all_part (λ (e : NodeEntry). IsAmong entry_key e.key entries) front (up ∷ back) all in
    (parts.0, parts.1)

-- ---- sections of the places below a node

pub section_whole : (heir : ℕ) (entries : List NodeEntry) → IsSection heir entries (record { heir = heir; entries = entries })
section_whole heir entries = record { front = []; back = []; are = sym (append-nil entries); heir_is = refl }

pub section_front : (heir : ℕ) (entries front back : List NodeEntry) (up : NodeEntry) → entries ≡ front ++ up ∷ back → IsSection heir entries (record { heir = heir; entries = front })
section_front heir entries front back up cut = record { front = []; back = up ∷ back; are = cut; heir_is = refl }

below_up : (heir : ℕ) (front : List NodeEntry) (up : NodeEntry) → last_below heir (front ++ up ∷ []) ≡ up.child
below_up heir [] up = refl
below_up heir (e ∷ es) up = below_up e.child es up

pub section_back : (heir : ℕ) (entries front back : List NodeEntry) (up : NodeEntry) → entries ≡ front ++ up ∷ back → IsSection heir entries (record { heir = up.child; entries = back })
section_back heir entries front back up cut = record {
  front = front ++ up ∷ [];
  back = [];
  are = cut ∙ ap (λ (t : List NodeEntry). front ++ up ∷ t) (sym (append-nil back)) ∙ sym (append_assoc front (up ∷ []) (back ++ []));
  heir_is = sym (below_up heir front up);
}

-- ---- pages that agree along a way

pub way_back : (limit most : ℕ) (old new : PageMap) (root : ℕ) (path : List (ℕ × ℕ)) (added : List NodeEntry) (n : Node) → AllByRecursion (λ (step : ℕ × ℕ). new step.0 ≡ old step.0) path → IsWayOf limit most new root path added n → IsWayOf limit most old root path added n
way_back limit most old new root [] added n same is = is
way_back limit most old new root (step ∷ path) added n same is = (is.0, sym same.0 ∙ is.1, ⊎_elim (λ own. inl own) (λ up. inr (up.0, up.1, up.2, up.3, way_back limit most old new root path (up.0 ∷ []) n same.1 up.4)) is.2)

-- and where more ids may be given
pub way_more : (limit a b : ℕ) (pages : PageMap) (root : ℕ) (path : List (ℕ × ℕ)) (added : List NodeEntry) (n : Node) → a ≤ b → IsWayOf limit a pages root path added n → IsWayOf limit b pages root path added n
way_more limit a b pages root [] added n le is = is
way_more limit a b pages root (step ∷ path) added n le is = (is.0, is.1, ⊎_elim (λ own. inl own) (λ up. inr (up.0, up.1, up.2, (up.3.0, omega (arith, up.3.1, le)), way_more limit a b pages root path (up.0 ∷ []) n le up.4)) is.2)

-- what has no page once one came had none before
pub put_was : (pages : PageMap) (id j : ℕ) (page : Page) → put_at id page pages j ≡ None → pages j ≡ None
put_was pages id j page none = ⊎_elim (λ (same : j ≡ id). absurd (clash (sym (put_here pages id page) ∙ ap (put_at id page pages) (sym same) ∙ none)))
    (λ (other : j ≡ id → ⊥). sym (put_other pages id page j other) ∙ none)
    (cases_eq j id)
  where
    clash : Some page ≡ None → ⊥
    clash e = cc

-- where nodes alone were written no page goes
pub nodes_stay : (limit : ℕ) (old new : PageMap) → OnlyNodes limit old new → ComesFrom old new
nodes_stay limit old new only j none = ⊎_elim
    (λ (same : new j ≡ old j). sym same ∙ none)
    (λ node. absurd (clash node.0 (sym none ∙ node.1)))
    (only j)
  where
    clash : (n : Node) → ◌≡◌ {A = Option Page} None (Some (node_page n)) → ⊥
    clash n e = cc

-- a page once one was put
pub put_where : (pages : PageMap) (id j : ℕ) (page p : Page) → put_at id page pages j ≡ Some p → ((j ≡ id) × (p ≡ page)) ⊎ (pages j ≡ Some p)
put_where pages id j page p is = ⊎_elim
    (λ (here : j ≡ id). inl (here, same (sym is ∙ ap (put_at id page pages) here ∙ put_here pages id page)))
    (λ (other : j ≡ id → ⊥). inr (sym (put_other pages id page j other) ∙ is))
    (cases_eq j id)
  where
    same : Some p ≡ Some page → p ≡ page
    same e = cc

pub put_either : (pages : PageMap) (id j : ℕ) (page p : Page) → put_at id page pages j ≡ Some p → (p ≡ page) ⊎ (pages j ≡ Some p)
put_either pages id j page p is = ⊎_elim
    (λ (same : j ≡ id). inl (one (sym is ∙ ap (put_at id page pages) same ∙ put_here pages id page)))
    (λ (other : j ≡ id → ⊥). inr (sym (put_other pages id page j other) ∙ is))
    (cases_eq j id)
  where
    one : Some p ≡ Some page → p ≡ page
    one e = cc
