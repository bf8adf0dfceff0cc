-- Worked input, and what each connection is owed.
use Rattle.std.specs.Prelude.{ℕ, true, false, List, [], ◌∷◌, codes, map, Some, None}
use Rattle.std.specs.FinMap.{empty}
use Rattle.tc_io.specs.declared.wire.Entry.{Entry}
use Rattle.tc_model.specs.Contents.{hash}
use Rattle.ty_world.specs.World.{Client, World, Mark, started, world_after}
use Rattle.tk_top.specs.declared.words.Memory.TheVariants.{Map}
use Rattle.tk_top.specs.Top.{before}

-- `one` is set to `first`, and asked for
abbrev pub put : List ℕ
put = 0xC8 ∷ 0x10 ∷ 0 ∷ 0 ∷ 0 ∷ 3 ∷ 0 ∷ 0 ∷ 0 ∷ 5 ∷ codes "onefirst"

abbrev pub get : List ℕ
get = 0xC8 ∷ 0x30 ∷ 0 ∷ 0 ∷ 0 ∷ 3 ∷ codes "one"

abbrev pub found : List ℕ
found = 0 ∷ 0 ∷ 0 ∷ 0 ∷ 5 ∷ codes "first"

-- `a` is set to `1`, and asked for
abbrev pub put_a : List ℕ
put_a = 0xC8 ∷ 0x10 ∷ 0 ∷ 0 ∷ 0 ∷ 1 ∷ 0 ∷ 0 ∷ 0 ∷ 1 ∷ codes "a1"

abbrev pub get_a : List ℕ
get_a = 0xC8 ∷ 0x30 ∷ 0 ∷ 0 ∷ 0 ∷ 1 ∷ codes "a"

abbrev pub each_owed : List Client → List (List ℕ)
each_owed ks = map (λ k. k.owed) ks

-- what the open connections of a map are owed
abbrev pub owed : List Entry → List (List ℕ)
owed es = each_owed (world_after es (before Map)).there

-- and those that were closed
abbrev pub owed_past : List Entry → List (List ℕ)
owed_past es = each_owed (world_after es (before Map)).past

abbrev pub put_two : List ℕ
put_two = 0xC8 ∷ 0x10 ∷ 0 ∷ 0 ∷ 0 ∷ 1 ∷ 0 ∷ 0 ∷ 0 ∷ 1 ∷ codes "a2"

-- ---- an update log, a copy and a link

-- `k` is set to `v`, and a label
abbrev pub put_k : List ℕ
put_k = 0xC8 ∷ 0x10 ∷ 0 ∷ 0 ∷ 0 ∷ 1 ∷ 0 ∷ 0 ∷ 0 ∷ 1 ∷ codes "kv"

abbrev pub copy_mon : List ℕ
copy_mon = 0xC8 ∷ 0x73 ∷ 0 ∷ 0 ∷ 0 ∷ 3 ∷ codes "mon"

-- all updates above 0, for the server 9
abbrev pub all : List ℕ
all = 0xC8 ∷ 0xA0 ∷ 0 ∷ 0 ∷ 0 ∷ 0 ∷ 0 ∷ 0 ∷ 0 ∷ 0 ∷ 0 ∷ 0 ∷ 0 ∷ 9 ∷ []

-- the records of the server 3: `k` is set at 7, and at 8
abbrev pub at_7 : List ℕ
at_7 = 0xC9 ∷ 0 ∷ 0 ∷ 0 ∷ 0 ∷ 0 ∷ 0 ∷ 0 ∷ 7 ∷ 0 ∷ 0 ∷ 0 ∷ 0 ∷ 0 ∷ 0 ∷ 0 ∷ 0 ∷ 0 ∷ 3 ∷ 0 ∷ 3 ∷ 0 ∷ 0 ∷ 0 ∷ 12 ∷ put_k

abbrev pub at_8 : List ℕ
at_8 = 0xC9 ∷ 0 ∷ 0 ∷ 0 ∷ 0 ∷ 0 ∷ 0 ∷ 0 ∷ 8 ∷ 0 ∷ 0 ∷ 0 ∷ 0 ∷ 0 ∷ 0 ∷ 0 ∷ 7 ∷ 0 ∷ 3 ∷ 0 ∷ 3 ∷ 0 ∷ 0 ∷ 0 ∷ 12 ∷ put_k

-- a hash database in files with no key, and nothing in its update log
abbrev pub no_data : Mark
no_data = record { contents = hash false empty; log = [] }

-- the server 3 with an update log, whose clock stands at 7
abbrev pub logged : World
logged = started (record { logs = true; own = 3; master = None }) (7 ∷ 7 ∷ 7 ∷ []) [] no_data

-- a replica with the id 9
abbrev pub replica : World
replica = started (record { logs = true; own = 9; master = Some (codes "m", 1978) }) [] [] no_data

-- what is left of the update log, and owed
abbrev pub log_after : World → List Entry → List ℕ
log_after w es = (world_after es w).log

abbrev pub owed_after : World → List Entry → List (List ℕ)
owed_after w es = each_owed (world_after es w).there

abbrev pub labels_after : World → List Entry → List (List ℕ)
labels_after w es = map (λ c. c.label) (world_after es w).copies

abbrev pub gaps_after : World → List Entry → List (ℕ × ℕ)
gaps_after w es = (world_after es w).gaps
