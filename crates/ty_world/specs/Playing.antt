-- A world whose connections are a script's, where no peer is gone and all that was offered was taken.
use Rattle.std.specs.Prelude.{◌≡◌, ◌≤◌, ◌<◌, ℕ, true, false, List, [], ◌∷◌}
use Rattle.tc_io.specs.declared.act.Act.{Act}
use Rattle.tc_io.specs.declared.wire.Dialled.{Dialled}
use Rattle.tc_io.specs.declared.wire.Entry.{Entry}
use Rattle.tc_io.specs.Script.{AllAgree, Script, Lines}
use Rattle.tc_io.specs.Lines.{has}
use Rattle.ty_world.specs.Clients.{Client, is_link}
use Rattle.ty_world.specs.World.{AllAsked, Opening, begun}

pub record Fits (l : Lines) (k : Client) : Type 0 where
  pub listed : has l.conns k.conn ≡ true
  pub ends : k.ended ≡ has l.ended k.conn
  pub below : k.conn < l.given
  pub here : k.gone ≡ false
  -- but the link, whose first bytes are offered behind the next event
  pub going : is_link k.role ≡ false → k.stopped ≡ false

abbrev pub AllFit : Lines → List Client → Type 0
AllFit l [] = Unit {0}
AllFit l (k ∷ ks) = Fits l k × AllFit l ks

pub record Meets (l : Lines) (ks : List Client) : Type 0 where
  pub each : AllFit l ks
  pub fresh : (c : ℕ) → l.given ≤ c → (has l.conns c ≡ false) × (has l.ended c ≡ false)

-- a wire before its first connection, with these answers of dials
abbrev pub unplayed_with : List Act → List Dialled → ℕ → Script
unplayed_with acts dials given = record { acts = acts; dials = dials; lines = record { conns = []; ended = []; given = given } }

-- with none
abbrev pub unplayed : List Act → ℕ → Script
unplayed acts given = unplayed_with acts [] given

-- a run that asked rightly, over such a wire
pub record AsksOver (s : Script) (o : Opening) (es : List Entry) : Type 0 where
  pub conns : s.lines.conns ≡ []
  pub ended : s.lines.ended ≡ []
  pub asked : AllAsked (begun o) es
  pub agrees : AllAgree s es
