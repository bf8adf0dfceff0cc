-- Which misc request a name, a kind and arguments are.
use Rattle.std.specs.Prelude.{ℕ, Bool, true, false, ◌&&◌, ◌||◌, List, [], ◌∷◌, codes, Option, Some, None, option_map, if◌then◌else◌}
use Rattle.tc_base.specs.declared.seq.Pair.{Pair}
use Rattle.tc_base.specs.declared.kind.Kind.{Kind}
use Rattle.tc_base.specs.declared.kind.Kind.TheVariants.{Hash, Tree, Fixed, Table, MemHash, MemTree}
use Rattle.tc_base.specs.declared.kind.Mode.TheVariants.{Over, Keep, Cat}
use Rattle.tc_model.specs.declared.misc.Misc.{Misc}
use Rattle.tc_model.specs.declared.misc.Misc.TheVariants as misc
use Rattle.tc_base.specs.Texts.{is_text}
use Rattle.tc_base.specs.Lists.{pair}
pub use Rattle.ty_wire.specs.Updating.{updates_call, updating_names}

-- ---- the kinds that a name stands for

abbrev pub Kinds : Type 0
Kinds = Kind → Bool

abbrev pub trees : Kinds
trees Tree = true
trees MemTree = true
trees _ = false

abbrev pub tables : Kinds
tables Table = true
tables _ = false

-- hash and fixed
abbrev pub maps : Kinds
maps Hash = true
maps MemHash = true
maps Fixed = true
maps _ = false

-- all but tables
abbrev pub value_kinds : Kinds
value_kinds k = maps k || trees k

abbrev pub all : Kinds
all k = true

-- ---- the arguments that it takes

abbrev pub Reads : Type 0
Reads = List (List ℕ) → Option Misc

abbrev pub none : Misc → Reads
none m [] = Some m
none m _ = None

abbrev pub one : (List ℕ → Misc) → Reads
one f (x ∷ []) = Some (f x)
one f _ = None

abbrev pub two : (List ℕ → List ℕ → Misc) → Reads
two f (x ∷ y ∷ []) = Some (f x y)
two f _ = None

abbrev pub any : (List (List ℕ) → Misc) → Reads
any f xs = Some (f xs)

-- two by two, an even number
abbrev pub paired : List (List ℕ) → Option (List Pair)
paired [] = Some []
paired (x ∷ []) = None
paired (x ∷ y ∷ rest) = option_map (λ ps. pair x y ∷ ps) (paired rest)

abbrev pub twos : (List Pair → Misc) → Reads
twos f xs = option_map f (paired xs)

-- a key and then two by two
abbrev pub key_and_twos : (List ℕ → List Pair → Misc) → Reads
key_and_twos f [] = None
key_and_twos f (key ∷ rest) = option_map (f key) (paired rest)

-- a key, a maximum, and an end key or none
abbrev pub bounds : Reads
bounds (key ∷ maximum ∷ []) = Some (misc.Range key maximum None)
bounds (key ∷ maximum ∷ end ∷ []) = Some (misc.Range key maximum (Some end))
bounds _ = None

-- ---- the table

abbrev pub Entry : Type 0
Entry = List ℕ × Kinds × Reads

abbrev pub other_entries : List Entry
other_entries =
    (codes "putdup", trees, two (λ key value. misc.PutDup key value))
    ∷ (codes "range", trees, bounds)
    ∷ (codes "vanish", all, none misc.Vanish)
    ∷ (codes "setindex", tables, two (λ column code. misc.SetIndex column code))
    ∷ (codes "search", tables, any (λ conditions. misc.Search conditions))
    ∷ []

abbrev pub list_entries : List Entry
list_entries =
    (codes "putlist", maps, twos (λ pairs. misc.PutList pairs))
    ∷ (codes "putlist", trees, twos (λ pairs. misc.PutDups pairs))
    ∷ (codes "outlist", all, any (λ keys. misc.OutList keys))
    ∷ (codes "getlist", value_kinds, any (λ keys. misc.GetList keys))
    ∷ other_entries

abbrev pub row_entries : List Entry
row_entries =
    (codes "put", tables, key_and_twos (λ key columns. misc.PutRow Over key columns))
    ∷ (codes "putkeep", tables, key_and_twos (λ key columns. misc.PutRow Keep key columns))
    ∷ (codes "putcat", tables, key_and_twos (λ key columns. misc.PutRow Cat key columns))
    ∷ (codes "get", tables, one (λ key. misc.GetRow key))
    ∷ list_entries

abbrev pub entries : List Entry
entries =
    (codes "put", value_kinds, two (λ key value. misc.Put Over key value))
    ∷ (codes "putkeep", value_kinds, two (λ key value. misc.Put Keep key value))
    ∷ (codes "putcat", value_kinds, two (λ key value. misc.Put Cat key value))
    ∷ (codes "get", value_kinds, one (λ key. misc.Get key))
    ∷ (codes "out", all, one (λ key. misc.Out key))
    ∷ row_entries

abbrev pub pick : List Entry → List ℕ → Kind → List (List ℕ) → Option Misc
pick [] name k args = None
pick (e ∷ es) name k args = if is_text name e.0 && e.1 k then e.2 args else pick es name k args

-- the request that name and arguments are at a kind; none where the table has no such name, kind or number of arguments
unfoldable pub misc_of : List ℕ → List (List ℕ) → Kind → Option Misc
misc_of name args k = pick entries name k args
