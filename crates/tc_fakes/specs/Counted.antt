-- Which calls of an object in memory fail.
use Rattle.std.specs.Prelude.{◌≡◌, ℕ, ◌+◌, ◌-◌, ◌^◌, ◌≤◌, min, Bool, false, [], ◌||◌, nat_eq, nat_lt, Option, Some, None, Result, OnOk, OnErr}
use Rattle.std.specs.List.{list_any}
use Rattle.tc_io.specs.Causes.{HasCause, Rose}
use Rattle.tc_fakes.specs.declared.counts.Counts.{Counts}

-- a counter of 64 bits after one step more
abbrev pub one_more : ℕ → ℕ
one_more n = min (n + 1) (2 ^ 64 - 1)

abbrev pub is_behind : Option ℕ → ℕ → Bool
is_behind None n = false
is_behind (Some stop) n = nat_lt stop n

-- whether the next call is behind the stop or listed to fail
abbrev pub refuses : Counts → Bool
refuses c = is_behind c.stop (one_more c.calls) || list_any (λ n. nat_eq n (one_more c.calls)) c.fails.items

-- the same calls are to fail before and after
pub record SamePlan (old new : Counts) : Type 0 where
  pub listed : new.fails ≡ old.fails
  pub stopped : new.stop ≡ old.stop

-- a call was counted
pub record Begun (old new : Counts) : Type 0 where
  pub plan : SamePlan old new
  pub calls : new.calls ≡ one_more old.calls
  pub faults : new.faults ≡ old.faults
  pub starved : new.starved ≡ old.starved

-- a call was counted, and a fault
pub record Refused (old new : Counts) : Type 0 where
  pub plan : SamePlan old new
  pub calls : new.calls ≡ one_more old.calls
  pub faults : new.faults ≡ one_more old.faults
  pub later : old.faults ≤ new.faults
  pub starved : new.starved ≡ old.starved

-- a fault was counted
pub record Faulted (old new : Counts) : Type 0 where
  pub plan : SamePlan old new
  pub calls : new.calls ≡ old.calls
  pub faults : new.faults ≡ one_more old.faults
  pub later : old.faults ≤ new.faults
  pub starved : new.starved ≡ old.starved

-- a fault was counted, and that memory was wanting
pub record Starved (old new : Counts) : Type 0 where
  pub plan : SamePlan old new
  pub calls : new.calls ≡ old.calls
  pub faults : new.faults ≡ one_more old.faults
  pub later : old.faults ≤ new.faults
  pub starved : new.starved ≡ one_more old.starved

-- a call was counted, and it failed exactly where it was refused or found no memory
pub record FailsRightly {T E : Type 0} (old new : Counts) (result : Result T E) : Type 0 where
  pub counted : new.calls ≡ one_more old.calls
  pub plan : SamePlan old new
  pub allowed : OnOk result (refuses old ≡ false)
  pub fed : OnOk result (new.starved ≡ old.starved)
  pub cause : HasCause old.faults new.faults result
  pub why : OnErr result (refuses old ≡ false → Rose old.starved new.starved)

-- nothing was called, and nothing is to fail
pub record IsFresh (c : Counts) : Type 0 where
  pub fails : c.fails.items ≡ []
  pub stop : c.stop ≡ None
  pub calls : c.calls ≡ 0
  pub faults : c.faults ≡ 0
  pub starved : c.starved ≡ 0
