use Rattle.std.proofs.Common.{rules}
use Rattle.ty_rounds.proofs.DialLaws.{asked_last}
use Rattle.ty_rounds.proofs.dialling.ask_records.Goals as goal

pub returns : goal.returns
returns c = record { asks = asked_last c.owe-2.result c.args.session.now c.owe.new.self c.owe_long.new.session c.owe-2.new.self c.args.above c.args.own c.to_be_bytes.result c.in_ok-owe.ensures.ok c.in_ok-owe_long.ensures (search rules) c.owe-2.ensures.ok }
