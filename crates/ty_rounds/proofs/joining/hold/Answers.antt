use Rattle.std.proofs.Common.{ap}
use Rattle.ty_rounds.specs.Peers.{is_called}
use Rattle.ty_rounds.proofs.JoinLaws.{held_else, held_link}
use Rattle.ty_rounds.proofs.joining.hold.Goals as goal

pub returns-in-Called : goal.returns-in-Called
returns-in-Called c = record { held = held_link c.args.stamp c.args.p.now c.in-Called.caller c.hold.new.self c.in-Called.is c.hold.ensures }

pub returns-in-Client : goal.returns-in-Client
returns-in-Client c = record { held = held_else c.args.stamp c.args.p.now (ap is_called c.in-Client.is) }

pub returns-in-Fed : goal.returns-in-Fed
returns-in-Fed c = record { held = held_else c.args.stamp c.args.p.now (ap is_called c.in-Fed.is) }
