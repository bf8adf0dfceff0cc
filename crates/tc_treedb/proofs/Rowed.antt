-- Rows of the first value of a key, as the trait of engines says them.
use Rattle.std.proofs.Common.{◌≡◌, ◌∙◌, ℕ, Bool, true, false, List, sym, ap, subst}
use Rattle.std.specs.Prelude.{IfOk, Option, Result, Ok, Err, map, option_to_list}
use Rattle.tc_base.specs.Lists.{first, pair}
use Rattle.tc_space.specs.declared.space.Space.{Ghosts}
use Rattle.tc_model.specs.Contents.{Contents}
use Rattle.tc_model.specs.Stores.{first_pair, held}
use Rattle.ty_base.specs.Holding.{Held as HeldNow}
use Rattle.tc_engine.specs.Rows.{Adds, IsItem, pair_rows}
use Rattle.tc_engine.specs.declared.rows.Rows.{Rows}
use Rattle.tc_treedb.specs.Holding.{Held, HoldsPairs, Means}
use Rattle.tc_treedb.specs.Lifting.{means_of}
use Rattle.tc_treedb.specs.Reading.{AddsFirstOf}
use Rattle.tc_treedb.specs.declared.holding.TreeEngine.{TreeEngine}

module _ {S : Type 0} (s : Ghosts S) (e : TreeEngine S) (a : S) (key text : List ℕ) (found : Bool) (old new : Rows) (same : text ≡ key) where
  pub item_up : ((m : Held) → Means s e.kept a m → AddsFirstOf false text found m.1 old new) → (c : Contents) → HeldNow s HoldsPairs e a c → IsItem (held c key) found old new
  item_up added c h = subst (λ (o : Option (List ℕ)). IsItem o found old new) (ap (first h.1.held.1) same ∙ ap (λ (d : Contents). held d key) (sym h.1.is)) (added h.1.held (means_of s e a c h))

  pub pair_up : ((m : Held) → Means s e.kept a m → AddsFirstOf true text found m.1 old new) → (c : Contents) → HeldNow s HoldsPairs e a c → Adds old new (pair_rows (first_pair c key))
  pair_up added c h = subst (λ (rows : List (List ℕ)). Adds old new rows)
      (ap (λ (k : List ℕ). pair_rows (map (pair k) (option_to_list (first h.1.held.1 k)))) same ∙ ap (λ (d : Contents). pair_rows (first_pair d key)) (sym h.1.is)) (added h.1.held (means_of s e a c h)).1

pub item_all : {S E : Type 0} (s : Ghosts S) (r : Result Bool E) (e : TreeEngine S) (a : S) (key text : List ℕ) (old new : Rows) → text ≡ key → IfOk r (λ found. (m : Held) → Means s e.kept a m → AddsFirstOf false text found m.1 old new)
    → IfOk r (λ found. (c : Contents) → HeldNow s HoldsPairs e a c → IsItem (held c key) found old new)
item_all s (Ok found) e a key text old new same added = item_up s e a key text found old new same added
item_all s (Err x) e a key text old new same added = tt
