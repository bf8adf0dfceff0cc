use Rattle.std.proofs.Common.{arith}
use Rattle.ty_wire.proofs.ItemLemmas.{list_fits, pairs_fit}
use Rattle.ty_wire.proofs.writing.spell.Goals as goal

pub spell_size-requires : goal.spell_size-requires
spell_size-requires c = let f = list_fits c.args.reply.now c.in-List.items c.in-List.is c.requires in omega (arith, f.0)

pub spell_size-requires-in-Pairs : goal.spell_size-requires-in-Pairs
spell_size-requires-in-Pairs c = let f = pairs_fit c.args.reply.now c.in-Pairs.pairs c.in-Pairs.is c.requires in omega (arith, f.0)
