-- The link's part of a round.
use Rattle.std.specs.Prelude.{◌||◌, ℕ, Bool, true, false, List, [], ◌∷◌, Option, Some, None, if◌then◌else◌}
use Rattle.tc_base.specs.declared.request.Request.{Request}
use Rattle.tc_model.specs.Contents.{Contents, Walk}
use Rattle.tc_model.specs.Apply.{Step, apply}
use Rattle.ty_ulog.specs.declared.record.Record.{Record}
use Rattle.ty_ulog.specs.Updates.{update_in}
use Rattle.ty_slave.specs.declared.link.Step.{Step as Look}
use Rattle.ty_slave.specs.declared.link.Step.TheVariants.{Take, Gap, Bad}
use Rattle.ty_slave.specs.Lines.{Line, looks}
use Rattle.ty_world.specs.Clients.{Client, Role, of_client, of_feed, to_master}

-- contents and walk, the records taken, the gap met, if one was (the timestamp held, and the one that the record follows), and whether the link is to be closed
pub record Dealt : Type 0 where
  pub contents : Contents
  pub walk : Walk
  pub taken : List Record
  pub gap : List (ℕ × ℕ)
  pub broken : Bool

abbrev pub unmoved : Contents → Walk → Bool → Dealt
unmoved c w broken = record { contents = c; walk = w; taken = []; gap = []; broken = broken }

-- the request of a record that follows on is applied; where the contents refuse it the link is closed
abbrev pub takes : Record → Step → Contents → Walk → Dealt
takes r s c w = if s.ok then record { contents = s.contents; walk = s.walk; taken = r ∷ []; gap = []; broken = false } else unmoved c w true

abbrev pub redone : Record → Option Request → Contents → Walk → Dealt
redone r None c w = unmoved c w false
redone r (Some q) c w = takes r (apply false q c w) c w

abbrev pub dealt : Look → Contents → Walk → Dealt
dealt (Take r) c w = redone r (update_in r.request) c w
dealt (Gap h follows) c w = record { contents = c; walk = w; taken = []; gap = (h, follows) ∷ []; broken = true }
dealt Bad c w = unmoved c w true
dealt _ c w = unmoved c w false

-- a connection, and what looking at it made
pub record Looked : Type 0 where
  pub dealt_is : Dealt
  pub clients : List Client

abbrev pub line_of : ℕ → ℕ → Bool → Client → Line
line_of own held named k = record { own = own; held = held; named = named; unread = k.unread }

abbrev pub with_line : Line → Bool → Client → Client
with_line q broken k = record k { unread = q.unread; role = to_master q.named broken }

abbrev pub looked_so : Contents → Walk → Bool → Client → Look × Line → List Client → Looked
looked_so c w broken k x ks = let d = dealt x.0 c w in record { dealt_is = d; clients = with_line x.1 (broken || d.broken) k ∷ ks }

-- the id, where it wasn't read, and the first record behind it
unfoldable pub look_at : ℕ → ℕ → Contents → Walk → Bool → Bool → Client → List Client → Looked
look_at own held c w named broken k ks = looked_so c w broken k (looks (line_of own held named k)) ks

abbrev pub passed_by : Client → Looked → Looked
passed_by k l = record { dealt_is = l.dealt_is; clients = k ∷ l.clients }

abbrev pub look_next : ℕ → ℕ → Contents → Walk → Role → Client → List Client → Looked → Looked
look_next own held c w of_client k ks l = passed_by k l
look_next own held c w (of_feed above base) k ks l = passed_by k l
look_next own held c w (to_master named broken) k ks l = look_at own held c w named broken k ks

-- the link among the connections is looked at
abbrev pub look_all : ℕ → ℕ → Contents → Walk → List Client → Looked
look_all own held c w [] = record { dealt_is = unmoved c w false; clients = [] }
look_all own held c w (k ∷ ks) = look_next own held c w k.role k ks (look_all own held c w ks)
