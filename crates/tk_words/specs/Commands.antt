-- The table of commands: the word of each, its options, and what its positional words make.
use Rattle.std.specs.Prelude.{ℕ, ◌%◌, ◌&&◌, Bool, true, false, not, List, [], ◌∷◌, length, Option, Some, None, nat_le, nat_eq, codes, if◌then◌else◌}
use Rattle.tc_base.specs.declared.kind.Kind.{Kind}
use Rattle.tc_base.specs.declared.kind.Kind.TheVariants.{Hash, Tree, Fixed, Table}
use Rattle.tk_words.specs.declared.numbers.Range.{Range}
use Rattle.tk_words.specs.declared.options.Takes.TheVariants.{Nothing, Text, Number, Index, Sort}
use Rattle.tk_words.specs.declared.order.CommandLine.{CommandLine}
use Rattle.tk_words.specs.declared.order.CommandLine.TheVariants as order
use Rattle.tk_words.specs.declared.order.PutWord.{PutWord}
use Rattle.tk_words.specs.declared.order.PutWord.TheVariants.{Over, Keep, Cat, Dup}
use Rattle.tk_words.specs.Words.{Word, ◌>>=◌, only_if, or_else, is_word, front, is_end, lone}
use Rattle.tk_words.specs.Numbers.{are_digits, number}
use Rattle.tk_words.specs.Ranges.{port_range, server_range, limit_range, turns_range, buckets_range, alignment_range, pool_range, members_range, width_range, size_range, answers_range, any_range, drill_range}
use Rattle.tk_words.specs.Names.{is_name, is_memory, is_any_name}
use Rattle.tk_words.specs.Options.{Opt, Choices, has, text_of, number_of, code_of, sort_of, options_of}

pub record Command : Type 0 where
  pub word : Word
  pub options : List Opt
  pub build : Choices → List Word → Option CommandLine

-- options, and then what the words behind them make
abbrev pub order_by : Command → List Word → Option CommandLine
order_by c ws = options_of c.options ws >>= λ r. c.build r.0 r.1

abbrev pub pick : List Command → Word → List Word → Option CommandLine
pick [] w ws = None
pick (c ∷ cs) w ws = if is_word w c.word then order_by c ws else pick cs w ws

-- ---- positional words

-- the name of a database of the kind, and the words behind it
abbrev pub named : Kind → List Word → Option (Word × List Word)
named kind ws = front ws >>= λ w. only_if (is_name kind w.0) w

-- a number that may be left out with all that is behind it
abbrev pub next : Range → ℕ → List Word → Option (ℕ × List Word)
next range default [] = Some (default, [])
next range default (w ∷ ws) = number range w >>= λ n. Some (n, ws)

abbrev pub ended : List Word → CommandLine → Option CommandLine
ended ws o = only_if (is_end ws) o

-- ---- serving

abbrev pub pipe : Command
pipe = record { word = codes "pipe"; options = []; build = λ g ws. lone ws >>= λ name. only_if (is_any_name name) (order.Pipe name) }

abbrev pub serve_options : List Opt
serve_options =
    (codes "-host", Text)
    ∷ (codes "-port", Number port_range)
    ∷ (codes "-ulog", Nothing)
    ∷ (codes "-sid", Number server_range)
    ∷ (codes "-mhost", Text)
    ∷ (codes "-mport", Number port_range)
    ∷ (codes "-lim", Number limit_range)
    ∷ (codes "-turns", Number turns_range)
    ∷ []

-- a master has a host and a port, and is followed with an update log; a database in memory has none
abbrev pub serves : Choices → Word → Bool
serves g name =
    (if has g (codes "-mhost") then has g (codes "-mport") && has g (codes "-ulog") else not (has g (codes "-mport")))
    && not (has g (codes "-ulog") && is_memory name)

abbrev pub serve_order : Choices → Word → CommandLine
serve_order g name =
    order.Serve
    name
    (or_else (text_of g (codes "-host")) (codes "127.0.0.1"))
    (or_else (number_of port_range g (codes "-port")) 1978)
    (has g (codes "-ulog"))
    (or_else (number_of server_range g (codes "-sid")) 0)
    (text_of g (codes "-mhost"))
    (or_else (number_of port_range g (codes "-mport")) 0)
    (or_else (number_of limit_range g (codes "-lim")) 1099511627776)
    (or_else (number_of turns_range g (codes "-turns")) 18446744073709551615)

abbrev pub serve : Command
serve = record { word = codes "serve"; options = serve_options; build = λ g ws. lone ws >>= λ name. only_if (is_any_name name && serves g name) (serve_order g name) }

abbrev pub drill : Command
drill =
    record {
      word = codes "drill";
      options = [];
      build = λ g ws. front ws >>= λ seed. number any_range seed.0 >>= λ s. front seed.1 >>= λ count. number drill_range count.0 >>= λ n. lone count.1 >>= λ name.
          only_if (is_any_name name) (order.Drill s n name);
    }

-- ---- making files

abbrev pub large : Choices → Bool
large g = has g (codes "-tl")

abbrev pub create_options : Kind → List Opt
create_options Tree = (codes "-cd", Nothing) ∷ (codes "-tl", Nothing) ∷ []
create_options Fixed = []
create_options _ = (codes "-tl", Nothing) ∷ []

-- a hash file, or that of a table's rows
abbrev pub map_of : Kind → Bool → Word → List Word → Option CommandLine
map_of kind large name ws =
    next buckets_range 131071 ws >>= λ b. next alignment_range 4 b.1 >>= λ a. next pool_range 10 a.1 >>= λ f. ended f.1 (order.Create kind name b.0 a.0 f.0 false 0 0 0 0 large)

abbrev pub tree_of : Bool → Bool → Word → List Word → Option CommandLine
tree_of decimal large name ws =
    next members_range 128 ws >>= λ l. next members_range 256 l.1 >>= λ n. next buckets_range 32749 n.1 >>= λ b. next alignment_range 8 b.1 >>= λ a. next pool_range 10 a.1 >>= λ f.
    ended f.1 (order.Create Tree name b.0 a.0 f.0 decimal l.0 n.0 0 0 large)

abbrev pub fixed_of : Word → List Word → Option CommandLine
fixed_of name ws = next width_range 255 ws >>= λ w. next size_range 268435456 w.1 >>= λ l. ended l.1 (order.Create Fixed name 0 0 0 false 0 0 w.0 l.0 false)

abbrev pub create_order : Kind → Choices → Word → List Word → Option CommandLine
create_order Tree g name ws = tree_of (has g (codes "-cd")) (large g) name ws
create_order Fixed g name ws = fixed_of name ws
create_order kind g name ws = map_of kind (large g) name ws

abbrev pub create : Kind → Command
create kind = record { word = codes "create"; options = create_options kind; build = λ g ws. named kind ws >>= λ n. create_order kind g n.0 n.1 }

-- ---- what each kind has

abbrev pub inform : Kind → Command
inform kind = record { word = codes "inform"; options = []; build = λ g ws. named kind ws >>= λ n. ended n.1 (order.Inform kind n.0) }

abbrev pub put_options : Kind → List Opt
put_options Tree = (codes "-dk", Nothing) ∷ (codes "-dc", Nothing) ∷ (codes "-dd", Nothing) ∷ []
put_options _ = (codes "-dk", Nothing) ∷ (codes "-dc", Nothing) ∷ []

abbrev pub put_word : Choices → PutWord
put_word g = if has g (codes "-dk") then Keep else (if has g (codes "-dc") then Cat else (if has g (codes "-dd") then Dup else Over))

-- one value; of a table, names and values
abbrev pub are_values : Kind → List Word → Bool
are_values Table ws = nat_eq (length ws % 2) 0
are_values _ ws = nat_eq (length ws) 1

abbrev pub put : Kind → Command
put kind =
    record {
      word = codes "put";
      options = put_options kind;
      build = λ g ws. named kind ws >>= λ n. front n.1 >>= λ key. only_if (nat_le (length g) 1 && are_values kind key.1) (order.Put kind n.0 (put_word g) key.0 key.1);
    }

abbrev pub out : Kind → Command
out kind = record { word = codes "out"; options = []; build = λ g ws. named kind ws >>= λ n. lone n.1 >>= λ key. Some (order.Out kind n.0 key) }

abbrev pub get : Kind → Command
get kind = record { word = codes "get"; options = []; build = λ g ws. named kind ws >>= λ n. lone n.1 >>= λ key. Some (order.Get kind n.0 key) }

abbrev pub list : Kind → Command
list kind =
    record {
      word = codes "list";
      options = (codes "-m", Number answers_range) ∷ (codes "-pv", Nothing) ∷ [];
      build = λ g ws. named kind ws >>= λ n. ended n.1 (order.List kind n.0 (number_of answers_range g (codes "-m")) (has g (codes "-pv")));
    }

abbrev pub optimize_options : Kind → List Opt
optimize_options Fixed = []
optimize_options _ = (codes "-tl", Nothing) ∷ []

abbrev pub optimize : Kind → Command
optimize kind = record { word = codes "optimize"; options = optimize_options kind; build = λ g ws. named kind ws >>= λ n. ended n.1 (order.Optimize kind n.0 (large g)) }

abbrev pub restore : Kind → Command
restore kind =
    record {
      word = codes "restore";
      options = (codes "-ts", Number any_range) ∷ [];
      build = λ g ws. named kind ws >>= λ n. ended n.1 (order.Restore kind n.0 (or_else (number_of any_range g (codes "-ts")) 18446744073709551615));
    }

-- ---- what tables have besides

abbrev pub setindex : Command
setindex =
    record {
      word = codes "setindex";
      options = (codes "-it", Index) ∷ [];
      build = λ g ws. named Table ws >>= λ n. lone n.1 >>= λ column. Some (order.SetIndex n.0 column (or_else (code_of g (codes "-it")) 0));
    }

-- column, operator, expression, as often as they come
abbrev pub are_conditions : List Word → Bool
are_conditions [] = true
are_conditions (a ∷ b ∷ c ∷ ws) = are_digits b && are_conditions ws
are_conditions _ = false

abbrev pub search_options : List Opt
search_options = (codes "-ord", Sort) ∷ (codes "-m", Number answers_range) ∷ (codes "-sk", Number answers_range) ∷ (codes "-pv", Nothing) ∷ (codes "-rm", Nothing) ∷ []

abbrev pub search_order : Choices → Word → List Word → CommandLine
search_order g name ws =
    order.Search
    name
    ws
    (sort_of g (codes "-ord"))
    (number_of answers_range g (codes "-m"))
    (or_else (number_of answers_range g (codes "-sk")) 0)
    (has g (codes "-pv"))
    (has g (codes "-rm"))

abbrev pub search : Command
search =
    record {
      word = codes "search";
      options = search_options;
      build = λ g ws. named Table ws >>= λ n. only_if (not (has g (codes "-pv") && has g (codes "-rm")) && are_conditions n.1) (search_order g n.0 n.1);
    }

-- ---- the table

abbrev pub table_commands : Kind → List Command
table_commands Table = setindex ∷ search ∷ []
table_commands _ = []

abbrev pub kind_commands : Kind → List Command
kind_commands kind = create kind ∷ inform kind ∷ put kind ∷ out kind ∷ get kind ∷ list kind ∷ optimize kind ∷ restore kind ∷ table_commands kind

abbrev pub own_commands : List Command
own_commands = pipe ∷ serve ∷ drill ∷ []

abbrev pub kind_of : Word → Option Kind
kind_of w =
    if is_word w (codes "hash") then Some Hash
    else (if is_word w (codes "tree") then Some Tree else (if is_word w (codes "fixed") then Some Fixed else (if is_word w (codes "table") then Some Table else None)))

-- a command of a kind has its own word behind the kind's
abbrev pub order_under : Option Kind → Word → List Word → Option CommandLine
order_under (Some kind) w ws = front ws >>= λ c. pick (kind_commands kind) c.0 c.1
order_under None w ws = pick own_commands w ws

unfoldable pub order_of : List Word → Option CommandLine
order_of ws = front ws >>= λ w. order_under (kind_of w.0) w.0 w.1
