use Rattle.std.proofs.Common.{sym, ◌∙◌}
use Rattle.tc_fakes.proofs.Taken.{found_at, not_found, bytes_at, none_taken}
use Rattle.tc_fakes.proofs.peers.bytes_of.Goals as goal

pub returns-in-Some : goal.returns-in-Some
returns-in-Some c =
    let f = found_at c.args.conn c.args.peers.now c.in-Some.i c.in-Some.ensures in
    c.as_slice.ensures.value ∙ sym (bytes_at c.args.conn c.args.peers.now c.index-peers-i.result c.in-Some.i f.0 f.1)

pub returns-in-None : goal.returns-in-None
returns-in-None c = sym (none_taken c.args.conn c.args.peers.now (not_found c.args.conn c.args.peers.now c.in-None.ensures))
