use Rattle.std.proofs.Common.{arith}
use Rattle.bt_slots.proofs.Leaves.{kept_leaf, put_within, put_may, put_is_leaf}
use Rattle.bt_slots.proofs.ReadBack.{leaf_made}
use Rattle.bt_slots.proofs.Places.{seen, starts_count}
use Rattle.bt_slots.proofs.leaf.SlottedLeaf.changed.Goals as goal

pub overflow_sub-to : goal.overflow_sub-to
overflow_sub-to c =
    let h = seen c.self.inside.bytes c.self.inside.starts.items c.args.self c.self.view_is c.self.invariant in
    omega (arith, c.len-2.ensures, (put_within c.args.self c.args.place c.requires.is.0 _ _ _ h c.requires.inside c.requires.is.1 c.end-from.result c.end-from.ensures).0)

pub overflow_sub-to-2 : goal.overflow_sub-to-2
overflow_sub-to-2 c =
    let h = seen c.self.inside.bytes c.self.inside.starts.items c.args.self c.self.view_is c.self.invariant in
    omega (arith, c.len.ensures, c.len-2.ensures, (put_within c.args.self c.args.place c.requires.is.0 _ _ _ h c.requires.inside c.requires.is.1 c.end-from.result c.end-from.ensures).1)

pub overflow_add-place : goal.overflow_add-place
overflow_add-place c = omega (arith, starts_count _ _ _ (seen c.self.inside.bytes c.self.inside.starts.items c.args.self c.self.view_is c.self.invariant), c.requires.inside)

pub shift_behind-requires-clause-inside : goal.shift_behind-requires-clause-inside
shift_behind-requires-clause-inside c = omega (arith, starts_count _ _ _ (seen c.self.inside.bytes c.self.inside.starts.items c.args.self c.self.view_is c.self.invariant), c.requires.inside)

pub shift_behind-requires-clause-may : goal.shift_behind-requires-clause-may
shift_behind-requires-clause-may c =
    let h = seen c.self.inside.bytes c.self.inside.starts.items c.args.self c.self.view_is c.self.invariant in
    put_may c.args.self c.args.place c.requires.is.0 _ _ _ h c.requires.inside c.requires.is.1 c.end-from.result _ c.end-from.ensures (omega (arith, c.len.ensures, c.len-2.ensures)) (omega (arith, c.len.ensures))

pub invariant_of-result : goal.invariant_of-result
invariant_of-result c =
    let h = seen c.self.inside.bytes c.self.inside.starts.items c.args.self c.self.view_is c.self.invariant in
    kept_leaf _ _ _ (put_is_leaf c.args.self c.args.place c.requires.is.0 _ _ _ h c.requires.inside c.requires.is.1 c.end-from.result _ _ c.end-from.ensures (omega (arith, c.len.ensures, c.len-2.ensures)) c.shift_behind.ensures)

pub returns : goal.returns
returns c = λ y has.
    let h = seen c.self.inside.bytes c.self.inside.starts.items c.args.self c.self.view_is c.self.invariant in
    leaf_made _ _ _ (put_is_leaf c.args.self c.args.place y _ _ _ h c.requires.inside has c.end-from.result _ _ c.end-from.ensures (omega (arith, c.len.ensures, c.len-2.ensures)) c.shift_behind.ensures)
