-- The misc requests that change contents are those whose names do.
use Rattle.std.proofs.Common.{◌≡◌, ℕ, Bool, true, false, cond, List, [], ◌∷◌, Option, Some, None, option_map, unwrap_or, refl, sym, ap, subst}
use Rattle.std.proofs.lemmas.Bool.{and_parts}
use Rattle.std.specs.Prelude.{◌&&◌, codes}
use Rattle.std.specs.Cmp.Lexicographic.{same_text}
use Rattle.tc_base.specs.Texts.{is_text}
use Rattle.tc_base.specs.declared.kind.Kind.{Kind}
use Rattle.tc_base.specs.declared.kind.Mode.TheVariants.{Over, Keep, Cat}
use Rattle.tc_base.specs.declared.seq.Pair.{Pair}
use Rattle.tc_model.specs.declared.misc.Misc.{Misc}
use Rattle.tc_model.specs.declared.misc.Misc.TheVariants as misc
use Rattle.tc_model.specs.Misc.{Entry, any, bounds, entries, key_and_twos, misc_of, none, one, paired, pick, two, twos, updates_call}
use Rattle.ty_answers.specs.Calls.{misc_updates}

abbrev Args : Type 0
Args = List (List ℕ)

inner : {A : Type 0} (x y : A) → Some x ≡ Some y → x ≡ y
inner x y e = ap (λ o. unwrap_or o x) e

-- ---- what each form of arguments gives

read_none : (P : Misc → Type 0) (m : Misc) (args : Args) (r : Misc) → none m args ≡ Some r → P m → P r
read_none P m [] r is p = subst P (inner m r is) p
read_none P m (x ∷ xs) r is p = absurd cc

read_one : (P : Misc → Type 0) (f : List ℕ → Misc) (args : Args) (r : Misc) → one f args ≡ Some r → ((x : List ℕ) → P (f x)) → P r
read_one P f [] r is p = absurd cc
read_one P f (x ∷ []) r is p = subst P (inner (f x) r is) (p x)
read_one P f (x ∷ y ∷ rest) r is p = absurd cc

read_two : (P : Misc → Type 0) (f : List ℕ → List ℕ → Misc) (args : Args) (r : Misc) → two f args ≡ Some r → ((x y : List ℕ) → P (f x y)) → P r
read_two P f [] r is p = absurd cc
read_two P f (x ∷ []) r is p = absurd cc
read_two P f (x ∷ y ∷ []) r is p = subst P (inner (f x y) r is) (p x y)
read_two P f (x ∷ y ∷ z ∷ rest) r is p = absurd cc

read_any : (P : Misc → Type 0) (f : Args → Misc) (args : Args) (r : Misc) → any f args ≡ Some r → ((xs : Args) → P (f xs)) → P r
read_any P f args r is p = subst P (inner (f args) r is) (p args)

mapped : {A : Type 0} (P : Misc → Type 0) (f : A → Misc) (o : Option A) (r : Misc) → option_map f o ≡ Some r → ((x : A) → P (f x)) → P r
mapped P f None r is p = absurd cc
mapped P f (Some x) r is p = subst P (inner (f x) r is) (p x)

read_twos : (P : Misc → Type 0) (f : List Pair → Misc) (args : Args) (r : Misc) → twos f args ≡ Some r → ((ps : List Pair) → P (f ps)) → P r
read_twos P f args r is p = mapped P f (paired args) r is p

read_keyed : (P : Misc → Type 0) (f : List ℕ → List Pair → Misc) (args : Args) (r : Misc) → key_and_twos f args ≡ Some r → ((key : List ℕ) (ps : List Pair) → P (f key ps)) → P r
read_keyed P f [] r is p = absurd cc
read_keyed P f (key ∷ rest) r is p = mapped P (f key) (paired rest) r is (p key)

read_bounds : (P : Misc → Type 0) (args : Args) (r : Misc) → bounds args ≡ Some r → ((key maximum : List ℕ) (end : Option (List ℕ)) → P (misc.Range key maximum end)) → P r
read_bounds P [] r is p = absurd cc
read_bounds P (x ∷ []) r is p = absurd cc
read_bounds P (x ∷ y ∷ []) r is p = subst P (inner (misc.Range x y None) r is) (p x y None)
read_bounds P (x ∷ y ∷ z ∷ []) r is p = subst P (inner (misc.Range x y (Some z)) r is) (p x y (Some z))
read_bounds P (w ∷ x ∷ y ∷ z ∷ rest) r is p = absurd cc

-- ---- the table

-- what a line of the table gives is quiet, or its name updates
abbrev Named : List ℕ → Args → Misc → Type 0
Named name args m = misc_updates m ≡ true → updates_call name args ≡ true

abbrev IsNamed : Entry → Type 0
IsNamed e = (args : Args) (m : Misc) → e.2 args ≡ Some m → Named e.0 args m

abbrev AreNamed : List Entry → Type 0
AreNamed [] = Unit {0}
AreNamed (e ∷ es) = IsNamed e × AreNamed es

pick_named : (es : List Entry) → AreNamed es → (name : List ℕ) (k : Kind) (args : Args) (m : Misc) → pick es name k args ≡ Some m → Named name args m
pick_named [] all name k args m is = absurd cc
pick_named (e ∷ es) all name k args m is = go (is_text name e.0 && e.1 k) refl (λ there. pick_named es all.1 name k args m there) is
  where
    go : (b : Bool) → b ≡ (is_text name e.0 && e.1 k) → (pick es name k args ≡ Some m → Named name args m) → cond b (e.2 args) (pick es name k args) ≡ Some m → Named name args m
    go true t rest here = subst (λ n. Named n args m) (sym (same_text name e.0 (sym (and_parts (is_text name e.0) (e.1 k) (sym t)).0))) (all.0 args m here)
    go false t rest there = rest there

table_named : AreNamed entries
table_named = (
  (λ args m is. read_two (Named (codes "put") args) (λ key value. misc.Put Over key value) args m is (λ x y u. refl)),
  (
    (λ args m is. read_two (Named (codes "putkeep") args) (λ key value. misc.Put Keep key value) args m is (λ x y u. refl)),
    (
      (λ args m is. read_two (Named (codes "putcat") args) (λ key value. misc.Put Cat key value) args m is (λ x y u. refl)),
      (
        (λ args m is. read_one (Named (codes "get") args) (λ key. misc.Get key) args m is (λ x u. absurd cc)),
        (
          (λ args m is. read_one (Named (codes "out") args) (λ key. misc.Out key) args m is (λ x u. refl)),
          (
            (λ args m is. read_keyed (Named (codes "put") args) (λ key columns. misc.PutRow Over key columns) args m is (λ x y u. refl)),
            (
              (λ args m is. read_keyed (Named (codes "putkeep") args) (λ key columns. misc.PutRow Keep key columns) args m is (λ x y u. refl)),
              (
                (λ args m is. read_keyed (Named (codes "putcat") args) (λ key columns. misc.PutRow Cat key columns) args m is (λ x y u. refl)),
                (
                  (λ args m is. read_one (Named (codes "get") args) (λ key. misc.GetRow key) args m is (λ x u. absurd cc)),
                  (
                    (λ args m is. read_twos (Named (codes "putlist") args) (λ pairs. misc.PutList pairs) args m is (λ x u. refl)),
                    (
                      (λ args m is. read_twos (Named (codes "putlist") args) (λ pairs. misc.PutDups pairs) args m is (λ x u. refl)),
                      (
                        (λ args m is. read_any (Named (codes "outlist") args) (λ keys. misc.OutList keys) args m is (λ x u. refl)),
                        (
                          (λ args m is. read_any (Named (codes "getlist") args) (λ keys. misc.GetList keys) args m is (λ x u. absurd cc)),
                          (
                            (λ args m is. read_two (Named (codes "putdup") args) (λ key value. misc.PutDup key value) args m is (λ x y u. refl)),
                            (
                              (λ args m is. read_bounds (Named (codes "range") args) args m is (λ x y z u. absurd cc)),
                              (
                                (λ args m is. read_none (Named (codes "vanish") args) misc.Vanish args m is (λ u. refl)),
                                (
                                  (λ args m is. read_two (Named (codes "setindex") args) (λ column code. misc.SetIndex column code) args m is (λ x y u. refl)),
                                  (
                                    (λ args m is. subst (Named (codes "search") args) (inner (misc.Search args) m is) (λ u. u)),
                                    tt,
                                  ),
                                ),
                              ),
                            ),
                          ),
                        ),
                      ),
                    ),
                  ),
                ),
              ),
            ),
          ),
        ),
      ),
    ),
  ),
)

-- a misc that changes contents has a name that updates
pub updates_named : (name : List ℕ) (args : Args) (k : Kind) (m : Misc) → misc_of name args k ≡ Some m → misc_updates m ≡ true → updates_call name args ≡ true
unfolding misc_of
updates_named name args k m is = pick_named entries table_named name k args m is
