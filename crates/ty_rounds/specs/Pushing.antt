-- Bytes that came of a connection.
use Rattle.std.specs.Prelude.{◌≡◌, ◌++◌, ℕ, List}
use Rattle.ty_core.specs.Queues.{queue}
use Rattle.ty_rounds.specs.declared.peer.Peer.{Peer}
use Rattle.ty_rounds.specs.declared.peer.Role.{Role}
use Rattle.ty_rounds.specs.declared.peer.Role.TheVariants as role

-- those of the link are its own; of a feed none are kept
abbrev pub role_pushed : List ℕ → Role → Role
role_pushed bytes role.Client = role.Client
role_pushed bytes (role.Fed f) = role.Fed f
role_pushed bytes (role.Called c) = role.Called (record c { link = record (c.link) { unread = c.link.unread ++ bytes } })

abbrev pub unread_pushed : List ℕ → Role → List ℕ → List ℕ
unread_pushed bytes role.Client unread = unread ++ bytes
unread_pushed bytes (role.Fed f) unread = unread
unread_pushed bytes (role.Called c) unread = unread

pub record Pushes (bytes : List ℕ) (old new : Peer) : Type 0 where
  pub is : new ≡ record old { role = role_pushed bytes old.role; session = queue (unread_pushed bytes old.role old.session.unread) old.session.waiting }
