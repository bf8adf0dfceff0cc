-- What a session is to those that use it.
use Rattle.std.specs.Prelude.{ℕ, List}

-- the bytes that no request took yet, and those that wait to be sent
pub record Queue : Type 0 where
  pub unread : List ℕ
  pub waiting : List ℕ

abbrev pub queue : List ℕ → List ℕ → Queue
queue unread waiting = record { unread = unread; waiting = waiting }
