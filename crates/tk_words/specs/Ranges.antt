-- The range of each number, first and last included.
use Rattle.tk_words.specs.declared.numbers.Range.{Range}

-- ---- serving

abbrev pub port_range : Range
port_range = record { least = 1; most = 65535 }

abbrev pub server_range : Range
server_range = record { least = 0; most = 65535 }

-- of a file's bytes
abbrev pub limit_range : Range
limit_range = record { least = 256; most = 1099511627776 }

abbrev pub turns_range : Range
turns_range = record { least = 1; most = 18446744073709551615 }

-- ---- files

abbrev pub buckets_range : Range
buckets_range = record { least = 1; most = 16777216 }

abbrev pub alignment_range : Range
alignment_range = record { least = 4; most = 16 }

abbrev pub pool_range : Range
pool_range = record { least = 0; most = 20 }

-- of a leaf or a node
abbrev pub members_range : Range
members_range = record { least = 4; most = 256 }

abbrev pub width_range : Range
width_range = record { least = 1; most = 1048576 }

abbrev pub size_range : Range
size_range = record { least = 512; most = 1099511627776 }

-- ---- lists, searches and drills

-- of answers to give or to leave out
abbrev pub answers_range : Range
answers_range = record { least = 0; most = 2147483647 }

-- of the four orders of a search
abbrev pub way_range : Range
way_range = record { least = 0; most = 3 }

abbrev pub any_range : Range
any_range = record { least = 0; most = 18446744073709551615 }

abbrev pub drill_range : Range
drill_range = record { least = 0; most = 1000000 }
