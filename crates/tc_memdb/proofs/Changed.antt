-- Calls on the maps, as changes of contents.
use Rattle.std.proofs.Common.{◌≡◌, ℕ, ◌+◌, Bool, true, false, List, [], ◌∷◌, length, refl, sym, ap, ◌∙◌, cond, arith}
use Rattle.std.specs.Prelude.{Option, Some, None, option_map, unwrap_or, is_some}
use Rattle.std.specs.Ordering.{nat_cmp, is_eq, eq_by_cmp}
use Rattle.std.specs.declared.cmp.Ordering.TheVariants.{Less, Equal, Greater}
use Rattle.std.specs.Cmp.Lexicographic.{slice_cmp, nat_list_cmp_total}
use Rattle.std.specs.FinMap.{get, remove, same_map, get-remove}
use Rattle.std.proofs.lemmas.Map.Lookups.{exact_bytes}
use Rattle.std.proofs.lemmas.List.Sums.{sum_by-cons}
use Rattle.tc_base.specs.declared.seq.Pair.{Pair}
use Rattle.tc_base.specs.Maps.{Map}
use Rattle.tc_base.specs.Lists.{first, without_first}
use Rattle.tc_base.specs.Orders.{lexical}
use Rattle.tc_maps.specs.Totals.{sizes}
use Rattle.tc_model.specs.Contents.{hash, tree}
use Rattle.tc_model.specs.Rows.{texts_of}
use Rattle.tc_model.specs.Stores.{bytes_of, out, clear}
use Rattle.tc_memdb.specs.Made.{Made}

pub same_size : (ps : List Pair) → sizes ps ≡ bytes_of (texts_of ps)
same_size [] = refl
same_size (p ∷ ps) =
    let texts : List (List ℕ) = texts_of ps in
    omega (arith, same_size ps, sum_by-cons (λ (p : Pair). length p.key + length p.value) p ps, sum_by-cons (λ (t : List ℕ). length t) p.key (p.value ∷ texts), sum_by-cons (λ (t : List ℕ). length t) p.value texts)

-- to take out what isn't held changes nothing
absent : (m : Map) (k : List ℕ) → get m k ≡ None → remove m k ≡ m
absent m k none = same_map nat_list_cmp_total exact_bytes _ _ (λ q. get-remove nat_list_cmp_total m k q ∙ one q)
  where
    one : (q : List ℕ) → cond (eq_by_cmp (slice_cmp nat_cmp) q k) None (get m q) ≡ get m q
    one q = elim (slice_cmp nat_cmp q k) as (λ r. slice_cmp nat_cmp q k ≡ r → cond (is_eq r) None (get m q) ≡ get m q) [
      | Less ↦ λ e. refl
      | Equal ↦ λ e. sym none ∙ ap (get m) (sym (exact_bytes q k e))
      | Greater ↦ λ e. refl
    ] refl

pub map_cleared : (m n : Map) (k : List ℕ) → n ≡ remove m k → hash true n ≡ clear (hash true m) k
map_cleared m n k e =
    ap (hash true) e
    ∙ elim (get m k) as (λ o. get m k ≡ o → hash true (remove m k) ≡ unwrap_or (option_map (hash true) (cond (is_some o) (Some (remove m k)) None)) (hash true m)) [
      | None ↦ λ o. ap (hash true) (absent m k o)
      | Some v ↦ λ o. refl
    ] refl

none : (o : Option (List ℕ)) → false ≡ is_some o → o ≡ None
none None e = refl
none (Some v) e = absurd cc

pub map_out : (m n : Map) (k : List ℕ) (b : Bool) → n ≡ remove m k → b ≡ is_some (get m k) → Made (out (hash true m) k) b (hash true m) (hash true n)
map_out m n k b e held = record {
  made = λ yes. ap (λ t. option_map (hash true) (cond t (Some (remove m k)) None)) (sym held ∙ yes) ∙ ap (λ x. Some (hash true x)) (sym e);
  fails = λ not. ap (λ t. option_map (hash true) (cond t (Some (remove m k)) None)) (sym held ∙ not);
  same = λ not. ap (hash true) (e ∙ absent m k (none (get m k) (sym not ∙ held)));
}

pub tree_out : (ps qs : List Pair) (k : List ℕ) (b : Bool) → qs ≡ without_first lexical ps k → b ≡ is_some (first ps k) → (b ≡ false → qs ≡ ps) → Made (out (tree true false ps) k) b (tree true false ps) (tree true false qs)
tree_out ps qs k b e held absent = record {
  made = λ yes. ap (λ t. cond t (Some (tree true false (without_first lexical ps k))) None) (sym held ∙ yes) ∙ ap (λ x. Some (tree true false x)) (sym e);
  fails = λ not. ap (λ t. cond t (Some (tree true false (without_first lexical ps k))) None) (sym held ∙ not);
  same = λ not. ap (tree true false) (absent not);
}
