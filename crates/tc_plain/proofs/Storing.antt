-- What is stored, whatever the kind.
use Rattle.std.proofs.Common.{◌≡◌, ℕ, true, false, List, ◌++◌, refl}
use Rattle.std.specs.Prelude.{None}
use Rattle.tc_base.specs.declared.kind.Mode.{Mode}
use Rattle.tc_base.specs.declared.kind.Mode.TheVariants.{Over, Keep, Cat}
use Rattle.tc_model.specs.Contents.{Contents, hash, tree, fixed, table, is_table, is_narrow}
use Rattle.tc_model.specs.Values.{last}
use Rattle.tc_model.specs.Stores.{store, shift, add, with_sum, put, value_of}
use Rattle.tc_plain.specs.Bodies.{store_text, store_value}

pub stored_text : (mode : Mode) (c : Contents) (key text : List ℕ) → is_table c ≡ true → store_text mode c key text ≡ store mode c key text
stored_text mode (table rows indexes) key text e = refl
stored_text mode (hash memory m) key text e = absurd cc
stored_text mode (tree memory decimal ps) key text e = absurd cc
stored_text mode (fixed width most ids) key text e = absurd cc

pub stored_value : (mode : Mode) (c : Contents) (key value : List ℕ) → is_table c ≡ false → store_value mode c key value ≡ store mode c key value
stored_value mode (table rows indexes) key value e = absurd cc
stored_value Over (hash memory m) key value e = refl
stored_value Keep (hash memory m) key value e = refl
stored_value Cat (hash memory m) key value e = refl
stored_value Over (tree memory decimal ps) key value e = refl
stored_value Keep (tree memory decimal ps) key value e = refl
stored_value Cat (tree memory decimal ps) key value e = refl
stored_value Over (fixed width most ids) key value e = refl
stored_value Keep (fixed width most ids) key value e = refl
stored_value Cat (fixed width most ids) key value e = refl

pub shifted : (c : Contents) (key value : List ℕ) (width : ℕ) → is_table c ≡ false → put c key (last width (value_of c key ++ value)) ≡ shift c key value width
shifted (table rows indexes) key value width e = absurd cc
shifted (hash memory m) key value width e = refl
shifted (tree memory decimal ps) key value width e = refl
shifted (fixed width' most ids) key value width e = refl

pub unshifted : (c : Contents) (key value : List ℕ) (width : ℕ) → is_table c ≡ true → None ≡ shift c key value width
unshifted (table rows indexes) key value width e = refl
unshifted (hash memory m) key value width e = absurd cc
unshifted (tree memory decimal ps) key value width e = absurd cc
unshifted (fixed width' most ids) key value width e = absurd cc

pub summed : (c : Contents) (key : List ℕ) (number : ℕ) → is_narrow c ≡ false → with_sum c key number ≡ add c key number
summed (table rows indexes) key number e = absurd cc
summed (hash memory m) key number e = refl
summed (tree memory decimal ps) key number e = refl
summed (fixed width most ids) key number e = rw e refl

pub unsummed : (c : Contents) (key : List ℕ) (number : ℕ) → is_narrow c ≡ true → None ≡ add c key number
unsummed (table rows indexes) key number e = refl
unsummed (hash memory m) key number e = absurd cc
unsummed (tree memory decimal ps) key number e = absurd cc
unsummed (fixed width most ids) key number e = rw e refl
