-- One change after the other, where none fails.
use Rattle.std.proofs.Common.{◌≡◌, true, false, ◌&&◌, cond, List, [], ◌∷◌, refl, sym, ap, ◌∙◌}
use Rattle.std.specs.Prelude.{Option, Some, None, option_map, option_and_then, fold}
use Rattle.std.specs.List.{list_all}
use Rattle.std.specs.FinMap.{insert}
use Rattle.tc_base.specs.declared.seq.Pair.{Pair}
use Rattle.tc_base.specs.declared.kind.Mode.TheVariants.{Over}
use Rattle.tc_base.specs.Maps.{Map}
use Rattle.tc_base.specs.Lists.{with_first, with_last}
use Rattle.tc_base.specs.Orders.{order}
use Rattle.tc_model.specs.Contents.{Contents, hash, tree}
use Rattle.tc_model.specs.Stores.{store, put_last}
use Rattle.tc_engine.specs.Changes.{all_stored, all_pushed}
use Rattle.tc_memdb.specs.declared.data.Data.{Data}
use Rattle.tc_memdb.specs.declared.data.Data.TheVariants as held
use Rattle.tc_memdb.specs.Holding.{contents_of, set, push, is_short, can_push}
use Rattle.tc_memdb.specs.Made.{Made}

abbrev set_all : Contents → List Pair → Contents
set_all c ps = fold (λ c p. set c p.key p.value) c ps

abbrev push_all : Contents → List Pair → Contents
push_all c ps = fold (λ c p. push c p.key p.value) c ps

-- the rest, behind a change that may have failed
abbrev storing : Option Contents → List Pair → Option Contents
storing o ps = fold (λ o p. option_and_then (λ c. store Over c p.key p.value) o) o ps

abbrev pushing : Option Contents → List Pair → Option Contents
pushing o ps = fold (λ o p. option_and_then (λ c. put_last c p.key p.value) o) o ps

storing_none : (ps : List Pair) → storing None ps ≡ None
storing_none [] = refl
storing_none (p ∷ ps) = storing_none ps

pushing_none : (ps : List Pair) → pushing None ps ≡ None
pushing_none [] = refl
pushing_none (p ∷ ps) = pushing_none ps

stored_map : (m : Map) (ps : List Pair) → storing (Some (hash true m)) ps ≡ cond (list_all is_short ps) (Some (set_all (hash true m) ps)) None
stored_map m [] = refl
stored_map m (p ∷ ps) =
    elim (is_short p) as (λ b. storing (option_map (hash true) (option_map (insert m p.key) (cond b (Some p.value) None))) ps ≡ cond (b && list_all is_short ps) (Some (set_all (hash true (insert m p.key p.value)) ps)) None) [
      | true ↦ stored_map (insert m p.key p.value) ps
      | false ↦ storing_none ps
    ]

stored_tree : (qs : List Pair) (ps : List Pair) → storing (Some (tree true false qs)) ps ≡ cond (list_all is_short ps) (Some (set_all (tree true false qs) ps)) None
stored_tree qs [] = refl
stored_tree qs (p ∷ ps) =
    elim (is_short p) as (λ b. storing (option_map (λ v. tree true false (with_first (order false) qs p.key v)) (cond b (Some p.value) None)) ps ≡ cond (b && list_all is_short ps) (Some (set_all (tree true false (with_first (order false) qs p.key p.value)) ps)) None) [
      | true ↦ stored_tree (with_first (order false) qs p.key p.value) ps
      | false ↦ storing_none ps
    ]

pushed_tree : (qs : List Pair) (ps : List Pair) → pushing (Some (tree true false qs)) ps ≡ cond (list_all is_short ps) (Some (push_all (tree true false qs) ps)) None
pushed_tree qs [] = refl
pushed_tree qs (p ∷ ps) =
    elim (is_short p) as (λ b. pushing (option_map (λ v. tree true false (with_last (order false) qs p.key v)) (cond b (Some p.value) None)) ps ≡ cond (b && list_all is_short ps) (Some (push_all (tree true false (with_last (order false) qs p.key p.value)) ps)) None) [
      | true ↦ pushed_tree (with_last (order false) qs p.key p.value) ps
      | false ↦ pushing_none ps
    ]

stored_is : (d : Data) (ps : List Pair) → all_stored ps (contents_of d) ≡ cond (list_all is_short ps) (Some (set_all (contents_of d) ps)) None
stored_is (held.Map m) ps = stored_map m ps
stored_is (held.Tree qs) ps = stored_tree qs ps

pushed_is : (d : Data) (ps : List Pair) → all_pushed ps (contents_of d) ≡ cond (can_push (contents_of d) ps) (Some (push_all (contents_of d) ps)) None
pushed_is (held.Map m) [] = refl
pushed_is (held.Map m) (p ∷ ps) = pushing_none ps
pushed_is (held.Tree qs) ps = pushed_tree qs ps

pub not_stored : (d : Data) (ps : List Pair) → list_all is_short ps ≡ false → Made (all_stored ps (contents_of d)) false (contents_of d) (contents_of d)
not_stored d ps long = record { made = λ never. absurd cc; fails = λ f. stored_is d ps ∙ ap (λ b. cond b (Some (set_all (contents_of d) ps)) None) long; same = λ f. refl }

pub all_set : (d e : Data) (ps : List Pair) → list_all is_short ps ≡ true → contents_of e ≡ set_all (contents_of d) ps → Made (all_stored ps (contents_of d)) true (contents_of d) (contents_of e)
all_set d e ps short is = record { made = λ y. stored_is d ps ∙ ap (λ b. cond b (Some (set_all (contents_of d) ps)) None) short ∙ ap (λ c. Some c) (sym is); fails = λ never. absurd cc; same = λ never. absurd cc }

pub not_pushed : (d : Data) (ps : List Pair) → can_push (contents_of d) ps ≡ false → Made (all_pushed ps (contents_of d)) false (contents_of d) (contents_of d)
not_pushed d ps long = record { made = λ never. absurd cc; fails = λ f. pushed_is d ps ∙ ap (λ b. cond b (Some (push_all (contents_of d) ps)) None) long; same = λ f. refl }

pub all_added : (d e : Data) (ps : List Pair) → can_push (contents_of d) ps ≡ true → contents_of e ≡ push_all (contents_of d) ps → Made (all_pushed ps (contents_of d)) true (contents_of d) (contents_of e)
all_added d e ps short is = record { made = λ y. pushed_is d ps ∙ ap (λ b. cond b (Some (push_all (contents_of d) ps)) None) short ∙ ap (λ c. Some c) (sym is); fails = λ never. absurd cc; same = λ never. absurd cc }
