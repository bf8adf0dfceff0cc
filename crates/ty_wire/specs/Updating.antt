-- Which requests change contents where they succeed.
use Rattle.std.specs.Prelude.{◌≡◌, ◌⊎◌, ◌&&◌, ◌||◌, ℕ, Bool, true, false, List, [], ◌∷◌, Contains, codes}
use Rattle.std.specs.List.{list_any}
use Rattle.tc_base.specs.Texts.{is_text}
use Rattle.tc_base.specs.declared.request.Request.{Request}
use Rattle.tc_base.specs.declared.request.Request.TheVariants.{Put, PutKeep, PutCat, PutShl, PutNr, Out, AddInt, Vanish, Misc}

-- a misc of this name stores
abbrev pub IsUpdatingName : List ℕ → Type 0
IsUpdatingName name =
    (name ≡ codes "put") ⊎ ((name ≡ codes "putkeep") ⊎ ((name ≡ codes "putcat") ⊎ ((name ≡ codes "out") ⊎ ((name ≡ codes "putlist")
    ⊎ ((name ≡ codes "outlist") ⊎ ((name ≡ codes "putdup") ⊎ ((name ≡ codes "vanish") ⊎ (name ≡ codes "setindex"))))))))

-- a search removes what it finds where `out` is among its arguments
abbrev pub IsUpdatingCall : List ℕ → List (List ℕ) → Type 0
IsUpdatingCall name args = IsUpdatingName name ⊎ ((name ≡ codes "search") × Contains args (codes "out"))

abbrev pub IsUpdating : Request → Type 0
IsUpdating (Put key value) = Unit {0}
IsUpdating (PutKeep key value) = Unit {0}
IsUpdating (PutCat key value) = Unit {0}
IsUpdating (PutShl key value width) = Unit {0}
IsUpdating (PutNr key value) = Unit {0}
IsUpdating (Out key) = Unit {0}
IsUpdating (AddInt key number) = Unit {0}
IsUpdating Vanish = Unit {0}
IsUpdating (Misc name options args) = IsUpdatingCall name args
IsUpdating _ = ⊥

-- ---- the same as a test

abbrev pub updating_names : List (List ℕ)
updating_names =
    codes "put" ∷ codes "putkeep" ∷ codes "putcat" ∷ codes "out" ∷ codes "putlist" ∷ codes "outlist" ∷ codes "putdup" ∷ codes "vanish" ∷ codes "setindex" ∷ []

abbrev pub updates_call : List ℕ → List (List ℕ) → Bool
updates_call name args = list_any (is_text name) updating_names || (is_text name (codes "search") && list_any (is_text (codes "out")) args)

abbrev pub updates : Request → Bool
updates (Put key value) = true
updates (PutKeep key value) = true
updates (PutCat key value) = true
updates (PutShl key value width) = true
updates (PutNr key value) = true
updates (Out key) = true
updates (AddInt key number) = true
updates Vanish = true
updates (Misc name options args) = updates_call name args
updates _ = false
