-- What is added for a repl, which its serving leaves out.
use Rattle.std.specs.Prelude.{◌≡◌, ◌++◌, None, if◌then◌else◌}
use Rattle.tc_base.specs.declared.request.Request.TheVariants.{Repl}
use Rattle.ty_memc.specs.declared.text.Piece.{Piece}
use Rattle.ty_memc.specs.declared.text.Piece.TheVariants as piece
use Rattle.ty_world.specs.Logs.{Settings}
use Rattle.ty_world.specs.Rounds.{feeds, repl_reply}
use Rattle.ty_core.specs.Queues.{queue}
use Rattle.ty_rounds.specs.declared.peer.Peer.{Peer}
use Rattle.ty_rounds.specs.declared.peer.Role.{Role}
use Rattle.ty_rounds.specs.declared.peer.Role.TheVariants as role

-- what it is then
abbrev pub role_then : Settings → Piece → Role → Role
role_then is (piece.Request (Repl timestamp server)) r = if feeds is server then role.Fed (record { above = timestamp; place = None }) else r
role_then is _ r = r

pub record OwesRepl (is : Settings) (old new : Peer) (x : Piece) : Type 0 where
  pub session : new.session ≡ queue old.session.unread (old.session.waiting ++ repl_reply is x)
  pub role_is : new.role ≡ role_then is x old.role
  pub conn : new.conn ≡ old.conn
  pub gone : new.gone ≡ old.gone
  pub ended : new.ended ≡ old.ended
  pub extra : new.extra ≡ old.extra
  pub stirs : new.stirs ≡ old.stirs
