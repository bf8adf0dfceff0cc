-- Rows of words, each with its order.
use Rattle.std.proofs.Common.{◌≡◌, refl, [], ◌∷◌, Some, None, true, false}
use Rattle.std.specs.Prelude.{codes}
use Rattle.tc_base.specs.Decimal.{decimal}
use Rattle.tc_base.specs.declared.kind.Kind.TheVariants.{Hash, Tree, Fixed, Table}
use Rattle.tk_words.specs.declared.order.CommandLine.TheVariants as order
use Rattle.tk_words.specs.declared.order.PutWord.TheVariants.{Over, Cat, Dup}
use Rattle.tk_words.specs.Options.{options_of}
use Rattle.tk_words.specs.Commands.{order_of}

pub no_words : order_of [] ≡ None
unfolding order_of options_of decimal
no_words = refl

pub pipe_txt : order_of (codes "pipe" ∷ codes "x.txt" ∷ []) ≡ None
unfolding order_of options_of decimal
pipe_txt = refl

pub port_zero : order_of (codes "serve" ∷ codes "-port" ∷ codes "0" ∷ codes "x.tch" ∷ []) ≡ None
unfolding order_of options_of decimal
port_zero = refl

pub log_in_memory : order_of (codes "serve" ∷ codes "-ulog" ∷ codes "*" ∷ []) ≡ None
unfolding order_of options_of decimal
log_in_memory = refl

pub hash_of_tree : order_of (codes "hash" ∷ codes "get" ∷ codes "x.tcb" ∷ codes "a" ∷ []) ≡ None
unfolding order_of options_of decimal
hash_of_tree = refl

pub bare_ending : order_of (codes "pipe" ∷ codes ".tch" ∷ []) ≡ None
unfolding order_of options_of decimal
bare_ending = refl

pub flag_twice : order_of (codes "hash" ∷ codes "list" ∷ codes "-pv" ∷ codes "-pv" ∷ codes "x.tch" ∷ []) ≡ None
unfolding order_of options_of decimal
flag_twice = refl

pub master_without_log : order_of (codes "serve" ∷ codes "-mhost" ∷ codes "h" ∷ codes "-mport" ∷ codes "1" ∷ codes "x.tch" ∷ []) ≡ None
unfolding order_of options_of decimal
master_without_log = refl

pub both_prints : order_of (codes "table" ∷ codes "search" ∷ codes "-pv" ∷ codes "-rm" ∷ codes "x.tct" ∷ []) ≡ None
unfolding order_of options_of decimal
both_prints = refl

pub fixed_large : order_of (codes "fixed" ∷ codes "optimize" ∷ codes "-tl" ∷ codes "f.tcf" ∷ []) ≡ None
unfolding order_of options_of decimal
fixed_large = refl

pub odd_columns : order_of (codes "table" ∷ codes "put" ∷ codes "x.tct" ∷ codes "k" ∷ codes "a" ∷ []) ≡ None
unfolding order_of options_of decimal
odd_columns = refl

pub one_word_too_many : order_of (codes "pipe" ∷ codes "x.tch" ∷ codes "y" ∷ []) ≡ None
unfolding order_of options_of decimal
one_word_too_many = refl

pub pipe_memory : order_of (codes "pipe" ∷ codes "*" ∷ []) ≡ Some (order.Pipe (codes "*"))
unfolding order_of options_of decimal
pipe_memory = refl

pub serve_bare : order_of (codes "serve" ∷ codes "casket.tch" ∷ []) ≡ Some (order.Serve (codes "casket.tch") (codes "127.0.0.1") 1978 false 0 None 0 1099511627776 18446744073709551615)
unfolding order_of options_of decimal
serve_bare = refl

pub serve_slave : order_of (codes "serve" ∷ codes "-mport" ∷ codes "7" ∷ codes "-sid" ∷ codes "3" ∷ codes "-ulog" ∷ codes "-mhost" ∷ codes "h" ∷ codes "-port" ∷ codes "65535" ∷ codes "-lim" ∷ codes "352" ∷ codes "-turns" ∷ codes "2" ∷ codes "x.tcb" ∷ []) ≡ Some (order.Serve (codes "x.tcb") (codes "127.0.0.1") 65535 true 3 (Some (codes "h")) 7 352 2)
unfolding order_of options_of decimal
serve_slave = refl

pub create_hash : order_of (codes "hash" ∷ codes "create" ∷ codes "h.tch" ∷ codes "3" ∷ codes "4" ∷ codes "0" ∷ []) ≡ Some (order.Create Hash (codes "h.tch") 3 4 0 false 0 0 0 0 false)
unfolding order_of options_of decimal
create_hash = refl

pub create_hash_large : order_of (codes "hash" ∷ codes "create" ∷ codes "-tl" ∷ codes "h.tch" ∷ codes "3" ∷ []) ≡ Some (order.Create Hash (codes "h.tch") 3 4 10 false 0 0 0 0 true)
unfolding order_of options_of decimal
create_hash_large = refl

pub create_tree_decimal : order_of (codes "tree" ∷ codes "create" ∷ codes "-tl" ∷ codes "-cd" ∷ codes "b.tcb" ∷ codes "4" ∷ codes "4" ∷ []) ≡ Some (order.Create Tree (codes "b.tcb") 32749 8 10 true 4 4 0 0 true)
unfolding order_of options_of decimal
create_tree_decimal = refl

pub create_fixed_width : order_of (codes "fixed" ∷ codes "create" ∷ codes "f.tcf" ∷ codes "3" ∷ []) ≡ Some (order.Create Fixed (codes "f.tcf") 0 0 0 false 0 0 3 268435456 false)
unfolding order_of options_of decimal
create_fixed_width = refl

pub create_table : order_of (codes "table" ∷ codes "create" ∷ codes "t.tct" ∷ []) ≡ Some (order.Create Table (codes "t.tct") 131071 4 10 false 0 0 0 0 false)
unfolding order_of options_of decimal
create_table = refl

pub inform_tree : order_of (codes "tree" ∷ codes "inform" ∷ codes "b.tcb" ∷ []) ≡ Some (order.Inform Tree (codes "b.tcb"))
unfolding order_of options_of decimal
inform_tree = refl

pub put_hash : order_of (codes "hash" ∷ codes "put" ∷ codes "h.tch" ∷ codes "a" ∷ codes "1" ∷ []) ≡ Some (order.Put Hash (codes "h.tch") Over (codes "a") (codes "1" ∷ []))
unfolding order_of options_of decimal
put_hash = refl

pub put_tree : order_of (codes "tree" ∷ codes "put" ∷ codes "-dd" ∷ codes "b.tcb" ∷ codes "-dd" ∷ codes "-dk" ∷ []) ≡ Some (order.Put Tree (codes "b.tcb") Dup (codes "-dd") (codes "-dk" ∷ []))
unfolding order_of options_of decimal
put_tree = refl

pub put_row : order_of (codes "table" ∷ codes "put" ∷ codes "-dc" ∷ codes "t.tct" ∷ codes "k" ∷ codes "n" ∷ codes "1" ∷ []) ≡ Some (order.Put Table (codes "t.tct") Cat (codes "k") (codes "n" ∷ codes "1" ∷ []))
unfolding order_of options_of decimal
put_row = refl

pub out_fixed : order_of (codes "fixed" ∷ codes "out" ∷ codes "f.tcf" ∷ codes "1" ∷ []) ≡ Some (order.Out Fixed (codes "f.tcf") (codes "1"))
unfolding order_of options_of decimal
out_fixed = refl

pub get_hash : order_of (codes "hash" ∷ codes "get" ∷ codes "a/.tch" ∷ codes "a" ∷ []) ≡ Some (order.Get Hash (codes "a/.tch") (codes "a"))
unfolding order_of options_of decimal
get_hash = refl

pub list_hash : order_of (codes "hash" ∷ codes "list" ∷ codes "-pv" ∷ codes "-m" ∷ codes "0010" ∷ codes "h.tch" ∷ []) ≡ Some (order.List Hash (codes "h.tch") (Some 10) true)
unfolding order_of options_of decimal
list_hash = refl

pub optimize_hash : order_of (codes "hash" ∷ codes "optimize" ∷ codes "-tl" ∷ codes "h.tch" ∷ []) ≡ Some (order.Optimize Hash (codes "h.tch") true)
unfolding order_of options_of decimal
optimize_hash = refl

pub setindex_void : order_of (codes "table" ∷ codes "setindex" ∷ codes "-it" ∷ codes "void" ∷ codes "t.tct" ∷ codes "n" ∷ []) ≡ Some (order.SetIndex (codes "t.tct") (codes "n") 9999)
unfolding order_of options_of decimal
setindex_void = refl

pub search_sorted : order_of (codes "table" ∷ codes "search" ∷ codes "-ord" ∷ codes "n" ∷ codes "02" ∷ codes "-rm" ∷ codes "t.tct" ∷ codes "n" ∷ codes "8" ∷ codes "-2" ∷ []) ≡ Some (order.Search (codes "t.tct") (codes "n" ∷ codes "8" ∷ codes "-2" ∷ []) (Some (record { key = codes "n"; value = codes "2" })) None 0 false true)
unfolding order_of options_of decimal
search_sorted = refl

pub drill_memory : order_of (codes "drill" ∷ codes "0" ∷ codes "1" ∷ codes "*" ∷ []) ≡ Some (order.Drill 0 1 (codes "*"))
unfolding order_of options_of decimal
drill_memory = refl

pub port_alone : order_of (codes "serve" ∷ codes "-ulog" ∷ codes "-mport" ∷ codes "7" ∷ codes "x.tch" ∷ []) ≡ None
unfolding order_of options_of decimal
port_alone = refl

pub host_alone : order_of (codes "serve" ∷ codes "-ulog" ∷ codes "-mhost" ∷ codes "h" ∷ codes "x.tch" ∷ []) ≡ None
unfolding order_of options_of decimal
host_alone = refl

pub manager_in_memory : order_of (codes "hash" ∷ codes "get" ∷ codes "*" ∷ codes "a" ∷ []) ≡ None
unfolding order_of options_of decimal
manager_in_memory = refl

pub tree_option_of_hash : order_of (codes "hash" ∷ codes "put" ∷ codes "-dd" ∷ codes "x.tch" ∷ codes "a" ∷ codes "1" ∷ []) ≡ None
unfolding order_of options_of decimal
tree_option_of_hash = refl

pub two_put_options : order_of (codes "hash" ∷ codes "put" ∷ codes "-dk" ∷ codes "-dc" ∷ codes "x.tch" ∷ codes "a" ∷ codes "1" ∷ []) ≡ None
unfolding order_of options_of decimal
two_put_options = refl

pub digits_21 : order_of (codes "hash" ∷ codes "list" ∷ codes "-m" ∷ codes "000000000000000000001" ∷ codes "h.tch" ∷ []) ≡ None
unfolding order_of options_of decimal
digits_21 = refl

pub dash_is_an_option : order_of (codes "pipe" ∷ codes "-x.tch" ∷ []) ≡ None
unfolding order_of options_of decimal
dash_is_an_option = refl

pub condition_cut : order_of (codes "table" ∷ codes "search" ∷ codes "t.tct" ∷ codes "n" ∷ codes "8" ∷ []) ≡ None
unfolding order_of options_of decimal
condition_cut = refl

pub operator_no_number : order_of (codes "table" ∷ codes "search" ∷ codes "t.tct" ∷ codes "n" ∷ codes "x" ∷ codes "2" ∷ []) ≡ None
unfolding order_of options_of decimal
operator_no_number = refl

pub limit_below : order_of (codes "serve" ∷ codes "-lim" ∷ codes "255" ∷ codes "x.tch" ∷ []) ≡ None
unfolding order_of options_of decimal
limit_below = refl

pub empty_first : order_of ([] ∷ []) ≡ None
unfolding order_of options_of decimal
empty_first = refl

pub digits_20 : order_of (codes "hash" ∷ codes "list" ∷ codes "-m" ∷ codes "00000000000000000001" ∷ codes "h.tch" ∷ []) ≡ Some (order.List Hash (codes "h.tch") (Some 1) false)
unfolding order_of options_of decimal
digits_20 = refl

pub restore_until : order_of (codes "hash" ∷ codes "restore" ∷ codes "-ts" ∷ codes "7" ∷ codes "h.tch" ∷ []) ≡ Some (order.Restore Hash (codes "h.tch") 7)
unfolding order_of options_of decimal
restore_until = refl

pub restore_all : order_of (codes "tree" ∷ codes "restore" ∷ codes "b.tcb" ∷ []) ≡ Some (order.Restore Tree (codes "b.tcb") 18446744073709551615)
unfolding order_of options_of decimal
restore_all = refl

pub setindex_token : order_of (codes "table" ∷ codes "setindex" ∷ codes "-it" ∷ codes "token" ∷ codes "t.tct" ∷ codes "n" ∷ []) ≡ Some (order.SetIndex (codes "t.tct") (codes "n") 2)
unfolding order_of options_of decimal
setindex_token = refl

pub setindex_default : order_of (codes "table" ∷ codes "setindex" ∷ codes "t.tct" ∷ codes "n" ∷ []) ≡ Some (order.SetIndex (codes "t.tct") (codes "n") 0)
unfolding order_of options_of decimal
setindex_default = refl

pub empty_key : order_of (codes "hash" ∷ codes "get" ∷ codes "h.tch" ∷ [] ∷ []) ≡ Some (order.Get Hash (codes "h.tch") [])
unfolding order_of options_of decimal
empty_key = refl
