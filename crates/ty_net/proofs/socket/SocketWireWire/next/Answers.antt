use Rattle.std.proofs.Common.{rules}
use Rattle.ty_net.proofs.Events.{may_of, may_then}
use Rattle.ty_net.proofs.socket.SocketWireWire.next.Goals as goal

pub returns-in-Ok-Some-clause-may : goal.returns-in-Ok-Some-clause-may
returns-in-Ok-Some-clause-may g c = may_of _ _ _ _ _ _ _ c.in-Ok-Some.field-0 c.in-Ok-Some.ev c.args.busy (search rules) c.in-Ok-Some.ensures.ok

pub returns-in-Ok-Some-look-clause-may : goal.returns-in-Ok-Some-look-clause-may
returns-in-Ok-Some-look-clause-may g c = may_then _ _ _ _ _ _ _ _ _ _ c.in-Ok-Some-look.field-0 c.in-Ok-Some-look.ev c.args.busy (search rules) (search rules) (search rules) (search rules) c.in-Ok-Some-look.ensures.ok
