use Rattle.std.proofs.Common.{◌<◌, length, refl, ap, arith}
use Rattle.std.specs.Vec.{vec_len}
use Rattle.tc_table.proofs.Added.{first_in, inside, none_removed, removed}
use Rattle.tc_table.proofs.table.Table.remove_index.Goals as goal

pub remove-requires : goal.remove-requires
remove-requires g c =
    let first = inside c.args.name.now c.args.self.now.sides.items c.in-Some.i (first_in c.args.name.now c.as_slice.result.now c.args.self.now.sides.items c.in-Some.i c.as_slice.ensures.value c.in-Some.ensures) in
    let within : c.in-Some.i < vec_len c.args.self.now.sides = omega (arith, first, ap length c.as_slice.ensures.value, c.as_slice.ensures.len) in
    within

pub returns-in_default : goal.returns-in_default
returns-in_default g c = none_removed c.args.name.now c.args.self.now c.as_slice.result.now c.as_slice.ensures.value c.in_default.ensures

pub returns : goal.returns
returns g c = removed c.args.name.now c.args.self.now _ c.in-Some.i c.remove.result (first_in c.args.name.now c.as_slice.result.now c.args.self.now.sides.items c.in-Some.i c.as_slice.ensures.value c.in-Some.ensures) c.remove.ensures.value c.remove.ensures.by_index.2 refl
