-- Names of databases: what they end in says the kind.
use Rattle.std.specs.Prelude.{◌-◌, ◌&&◌, ◌||◌, Bool, length, drop, nat_lt, codes}
use Rattle.tc_base.specs.declared.kind.Kind.{Kind}
use Rattle.tc_base.specs.declared.kind.Kind.TheVariants.{Hash, Tree, Fixed, Table, MemHash, MemTree}
use Rattle.tk_words.specs.Words.{Word, is_word}

-- a word ends so, with something before
abbrev pub ends_in : Word → Word → Bool
ends_in ending w = nat_lt (length ending) (length w) && is_word (drop (length w - length ending) w) ending

abbrev pub is_name : Kind → Word → Bool
is_name Hash w = ends_in (codes ".tch") w
is_name Tree w = ends_in (codes ".tcb") w
is_name Fixed w = ends_in (codes ".tcf") w
is_name Table w = ends_in (codes ".tct") w
is_name MemHash w = is_word w (codes "*")
is_name MemTree w = is_word w (codes "+")

abbrev pub is_file : Word → Bool
is_file w = is_name Hash w || (is_name Tree w || (is_name Fixed w || is_name Table w))

abbrev pub is_memory : Word → Bool
is_memory w = is_name MemHash w || is_name MemTree w

abbrev pub is_any_name : Word → Bool
is_any_name w = is_file w || is_memory w
