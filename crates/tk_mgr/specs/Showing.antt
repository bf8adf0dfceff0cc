-- What a task that only reads prints.
use Rattle.std.specs.Prelude.{◌≡◌, ◌⊎◌, ◌++◌, ◌<◌, ◌^◌, ℕ, Bool, true, false, List, [], length, map, flat_map, ◌==◌, Option, Some, Result, Ok, OnOk, if◌then◌else◌}
use Rattle.std.specs.Fmt.{decimal}
use Rattle.tc_base.specs.Files.{Files}
use Rattle.tc_base.specs.declared.request.Request.TheVariants.{Get}
use Rattle.tc_base.specs.declared.kind.Kind.{Kind}
use Rattle.tc_base.specs.declared.kind.Kind.TheVariants.{Table}
use Rattle.tc_io.specs.Told.{Adds}
use Rattle.tc_space.specs.declared.space.Space as space
use Rattle.tc_model.specs.Contents.{Contents}
use Rattle.tc_model.specs.Stores.{count, size_of, value_of}
use Rattle.ty_wire.specs.Form.{items_bytes}
use Rattle.ty_wire.specs.Prefixes.{IsPrefix}
use Rattle.ty_base.specs.Holding.{Held}
use Rattle.tk_mgr.specs.declared.errors.MgrErr.{MgrErr}
use Rattle.tk_mgr.specs.declared.task.Task.{Task}
use Rattle.tk_mgr.specs.Tasks.{Prints, answered, line, ok_of, pair_line, shown, told_of}
use Rattle.tk_mgr.specs.Managing.{IsFrontOf}
use Rattle.tk_mgr.specs.Asking.{Looks}

-- what was printed of contents: its text, whole where it was carried out; nothing where its request failed
pub record ShowsFrom (lines : Files → List ℕ → Type 0) (task : Task) (result : Result Bool MgrErr) (files : Files) (c : Contents) (taken : List ℕ) : Type 0 where
  pub ok : (b : Bool) → result ≡ Ok b → b ≡ ok_of task c
  pub printed : (taken ≡ []) ⊎ IsFrontOf lines task files c taken
  pub whole : result ≡ Ok true → Prints lines task files c taken

pub record Shows {S B : Type 0} (s : space.Ghosts S) (holds : B → Files → Contents → Type 0) (lines : Files → List ℕ → Type 0) (task : Task) (result : Result Bool MgrErr) (base : B) (old : S) (p q : Option (List ℕ)) : Type 0 where
  pub taken : List ℕ
  pub told : Adds p q taken
  pub none : result ≡ Ok false → taken ≡ []
  pub by : (c : Contents) → Held s holds base old c → ShowsFrom lines task result (s.now old) c taken

-- a text was printed where a request had succeeded
pub record IsShown (done : Bool) (text : List ℕ) (result : Result Bool MgrErr) (p q : Option (List ℕ)) : Type 0 where
  pub taken : List ℕ
  pub told : Adds p q taken
  pub ok : (b : Bool) → result ≡ Ok b → b ≡ done
  pub printed : (taken ≡ []) ⊎ ((done ≡ true) × IsPrefix taken text)
  pub whole : result ≡ Ok true → taken ≡ text
  pub none : result ≡ Ok false → taken ≡ []

-- ---- values

abbrev pub is_table_kind : Kind → Bool
is_table_kind Table = true
is_table_kind _ = false

-- the zero bytes of a row as tabs
abbrev pub shown_as : Bool → List ℕ → List ℕ
shown_as table value = if table then map (λ b. if b == 0 then 9 else b) value else value

-- a value was added where its key is held
pub record IsValue (key : List ℕ) (done : Bool) (c : Contents) (old new : List ℕ) : Type 0 where
  pub ok : done ≡ answered (Some (Get key)) c
  pub added : done ≡ true → new ≡ old ++ shown c (value_of c key)

-- ---- lists

abbrev pub line_of : Bool → Contents → List ℕ → List ℕ
line_of values c key = if values then pair_line c key else line key

abbrev pub lines_of : Bool → Contents → List (List ℕ) → List ℕ
lines_of values c keys = flat_map (line_of values c) keys

-- bytes hold these keys, as the reply to fwmkeys has them
pub record HasKeys (items : List ℕ) (keys : List (List ℕ)) : Type 0 where
  pub bytes : items ≡ items_bytes keys
  pub short : length items < 2 ^ 32

-- ---- what was printed so far, with what waits to be printed

pub record Waits (p q : Option (List ℕ)) (waiting text : List ℕ) : Type 0 where
  pub taken : List ℕ
  pub told : Adds p q taken
  pub whole : text ≡ taken ++ waiting

-- ---- one line

-- it was added to what waits, and a front of that was printed
pub record PrintsLine {S B : Type 0} (s : space.Ghosts S) (holds : B → Files → Contents → Type 0) (values : Bool) (key : List ℕ) (base base' : B) (old new : S) (p q : Option (List ℕ)) (waiting waits : List ℕ) : Type 0 where
  pub looks : Looks s holds base base' old new
  pub taken : List ℕ
  pub told : Adds p q taken
  pub by : (c : Contents) → Held s holds base old c → waiting ++ line_of values c key ≡ taken ++ waits

pub record StopsLine {S B : Type 0} (s : space.Ghosts S) (holds : B → Files → Contents → Type 0) (values : Bool) (key : List ℕ) (base : B) (old : S) (p q : Option (List ℕ)) (waiting : List ℕ) : Type 0 where
  pub taken : List ℕ
  pub told : Adds p q taken
  pub by : (c : Contents) → Held s holds base old c → IsPrefix taken (waiting ++ line_of values c key)

-- ---- the lines of all keys

pub record Listed {S B : Type 0} (s : space.Ghosts S) (holds : B → Files → Contents → Type 0) (values : Bool) (result : Result Unit MgrErr) (items : List ℕ) (base : B) (old : S) (p q : Option (List ℕ)) : Type 0 where
  pub taken : List ℕ
  pub told : Adds p q taken
  pub front : (c : Contents) (keys : List (List ℕ)) → Held s holds base old c → HasKeys items keys → IsPrefix taken (lines_of values c keys)
  pub whole : OnOk result ((c : Contents) (keys : List (List ℕ)) → Held s holds base old c → HasKeys items keys → taken ≡ lines_of values c keys)

-- ---- inspections

abbrev pub is_break : ℕ → Bool
is_break b = b == 10

pub record AreCounts (c : Contents) (r s : List ℕ) : Type 0 where
  pub records : r ≡ decimal (count c)
  pub size : s ≡ decimal (size_of c)

-- the lines of contents, and those of the files, came behind a text
pub record Inspects {S : Type 0} (s : space.Ghosts S) (lines : Files → List ℕ → Type 0) (c : Contents) (space : S) (old new : List ℕ) : Type 0 where
  pub tail : List ℕ
  pub of_files : lines (s.now space) tail
  pub text : new ≡ old ++ (told_of c ++ tail)
