-- A log that is read through, and a place that is looked for in it.
use Rattle.std.specs.Prelude.{◌≡◌, ◌+◌, ◌≤◌, ◌<◌, ℕ, Bool, true, false, List, [], ◌∷◌, ◌++◌, length, drop}
use Rattle.std.specs.List.{AllWithin}
use Rattle.ty_ulog.specs.declared.index.Mark.{Mark}
use Rattle.ty_ulog.specs.declared.log.Ulog.{Ulog}
use Rattle.ty_ulog.specs.declared.record.Record.{Record}
use Rattle.ty_ulog.specs.Log.{log_bytes, AreUpdates, Follow, last_of, above}
use Rattle.ty_ulog.specs.Holding.{Spread}

-- the file is read up to a place
pub record IsReadTo (file : List ℕ) (at : ℕ) (u : Ulog) (in_order : Bool) : Type 0 where
  pub done : List Record
  pub updates : AreUpdates done
  pub parts : file ≡ log_bytes done ++ drop at file
  pub long : length (log_bytes done) ≡ at
  pub last_is : u.last ≡ last_of 0 done
  pub spread : Spread u.index.marks 0 0 done
  pub good : in_order ≡ true → Follow 0 done
  pub bad : in_order ≡ false → Follow 0 done → ⊥

-- ---- finding a place

-- the last mark's place, or this one
abbrev pub last_place : ℕ → List Mark → ℕ
last_place place [] = place
last_place place (m ∷ ms) = last_place m.place ms

-- records that begin at a place, behind a timestamp, are near as long as the timestamps passed are no greater than one
abbrev pub NearTo : ℕ → ℕ → List Record → Type 0
NearTo stamp held rs = (front : List Record) (r : Record) (behind : List Record) → rs ≡ front ++ r ∷ behind → last_of held front ≤ stamp → length (log_bytes front) < 1048576

-- at this place records with no greater timestamp end, and the first with a greater one is near
pub record StartsAt (rs : List Record) (stamp place : ℕ) : Type 0 where
  pub front : List Record
  pub back : List Record
  pub parts : rs ≡ front ++ back
  pub place_is : place ≡ length (log_bytes front)
  pub passed : last_of 0 front ≤ stamp
  pub near : NearTo stamp (last_of 0 front) back

-- so many marks have no greater timestamp, and all behind them have a greater one
abbrev pub IsParted : List Mark → ℕ → ℕ → Type 0
IsParted ms stamp i = AllWithin (λ (m : Mark). m.last ≤ stamp) ms 0 i × AllWithin (λ (m : Mark). stamp < m.last) ms i (length ms)

-- the records up to a place have no greater timestamp, and the first that has one is less than a MiB behind the start
pub record IsPassed (file : List ℕ) (rs : List Record) (stamp start at : ℕ) : Type 0 where
  pub todo : List Record
  pub held : ℕ
  pub updates : AreUpdates todo
  pub follow : Follow held todo
  pub parts : drop at file ≡ log_bytes todo
  pub same : above stamp rs ≡ above stamp todo
  pub passed : held ≤ stamp
  pub near : (front : List Record) (r : Record) (behind : List Record) → todo ≡ front ++ r ∷ behind → last_of held front ≤ stamp → at + length (log_bytes front) < start + 1048576
