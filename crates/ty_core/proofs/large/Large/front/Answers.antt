use Rattle.std.proofs.Common.{arith}
use Rattle.ty_core.proofs.Gathering.{sees_part, sees_whole}
use Rattle.ty_core.proofs.large.Large.front.Goals as goal

pub returns-then-len-self-clause-grammar : goal.returns-then-len-self-clause-grammar
returns-then-len-self-clause-grammar c = (sees_part c.args.self.now c.args.behind.now.items c.requires (omega (arith, c.if-len-self.true, c.len.ensures))).takes

pub returns-then-len-self-clause-reading : goal.returns-then-len-self-clause-reading
returns-then-len-self-clause-reading c = (sees_part c.args.self.now c.args.behind.now.items c.requires (omega (arith, c.if-len-self.true, c.len.ensures))).reads

pub returns-clause-grammar : goal.returns-clause-grammar
returns-clause-grammar c = (sees_whole c.args.self.now c.args.behind.now.items _ c.requires (omega (arith, c.if-len-self.false, c.len.ensures, c.requires.within)) (omega (arith, c.len-2.ensures, c.len-3.ensures))).takes

pub returns-clause-reading : goal.returns-clause-reading
returns-clause-reading c = (sees_whole c.args.self.now c.args.behind.now.items _ c.requires (omega (arith, c.if-len-self.false, c.len.ensures, c.requires.within)) (omega (arith, c.len-2.ensures, c.len-3.ensures))).reads
