-- A change of contents is a step of the pairs.
use Rattle.std.proofs.Common.{◌≡◌, ◌∙◌, ℕ, Bool, true, false, List, [], ◌∷◌, ◌++◌, Option, Some, None, is_some, refl, ap}
use Rattle.std.specs.Prelude.{fold, option_map, unwrap_or, if◌then◌else◌}
use Rattle.tc_base.specs.Lists.{first, with_first, with_last}
use Rattle.tc_base.specs.Orders.{order}
use Rattle.tc_base.specs.declared.kind.Mode.{Mode}
use Rattle.tc_base.specs.declared.kind.Mode.TheVariants.{Over, Keep, Cat}
use Rattle.tc_base.specs.declared.seq.Pair.{Pair}
use Rattle.tc_model.specs.Contents.{Contents, tree}
use Rattle.tc_model.specs.Stores.{clear}
use Rattle.tc_model.specs.Values.{allowed}
use Rattle.tc_engine.specs.Changes.{all_cleared, all_gone, pushed, stored, taken}
use Rattle.tc_treedb.specs.Changing.{cleared_in, each_cleared, pushed_in, put_in, stored_in, taken_in}
use Rattle.tc_treedb.specs.Holding.{Held}

twice : {A B C : Type 0} (f : B → C) (g : A → B) (o : Option A) → option_map (λ x. f (g x)) o ≡ option_map f (option_map g o)
twice f g None = refl
twice f g (Some x) = refl

either : {A B : Type 0} (b : Bool) (f : A → B) (x y : Option A) → (if b then option_map f x else option_map f y) ≡ option_map f (if b then x else y)
either true f x y = refl
either false f x y = refl

abbrev pub of_pairs : Held → List Pair → Contents
of_pairs m ps = tree false m.0 ps

puts : (key value : List ℕ) (m : Held) → option_map (λ v. tree false m.0 (with_first (order m.0) m.1 key v)) (allowed value) ≡ option_map (of_pairs m) (put_in (order m.0) key value m.1)
puts key value m = twice (of_pairs m) (λ v. with_first (order m.0) m.1 key v) (allowed value)

pub stores : (mode : Mode) (key value : List ℕ) (m : Held) → stored mode key value (tree false m.0 m.1) ≡ option_map (of_pairs m) (stored_in (order m.0) mode key value m.1)
stores Over key value m = puts key value m
stores Keep key value m = ap (λ (o : Option Contents). if is_some (first m.1 key) then None else o) (puts key value m) ∙ either (is_some (first m.1 key)) (of_pairs m) None (put_in (order m.0) key value m.1)
stores Cat key value m = puts key (unwrap_or (first m.1 key) [] ++ value) m

pub pushes : (key value : List ℕ) (m : Held) → pushed key value (tree false m.0 m.1) ≡ option_map (of_pairs m) (pushed_in (order m.0) key value m.1)
pushes key value m = twice (of_pairs m) (λ v. with_last (order m.0) m.1 key v) (allowed value)

taken_either : (b : Bool) (m : Held) (ps : List Pair) → (if b then Some (of_pairs m ps) else None) ≡ option_map (of_pairs m) (if b then Some ps else None)
taken_either true m ps = refl
taken_either false m ps = refl

pub takes : (key : List ℕ) (m : Held) → taken key (tree false m.0 m.1) ≡ option_map (of_pairs m) (taken_in (order m.0) key m.1)
takes key m = taken_either (is_some (first m.1 key)) m _

clears_from : (keys : List (List ℕ)) (m : Held) (ps : List Pair) → fold clear (tree false m.0 ps) keys ≡ tree false m.0 (each_cleared (order m.0) keys ps)
clears_from [] m ps = refl
clears_from (key ∷ keys) m ps = clears_from keys m (cleared_in (order m.0) key ps)

pub clears : (keys : List (List ℕ)) (m : Held) → all_cleared keys (tree false m.0 m.1) ≡ Some (tree false m.0 (each_cleared (order m.0) keys m.1))
clears keys m = ap (λ (c : Contents). Some c) (clears_from keys m m.1)

pub empties : (m : Held) → all_gone (tree false m.0 m.1) ≡ Some (tree false m.0 [])
empties m = refl
