use Rattle.std.proofs.Common.{◌∙◌}
use Rattle.bt_page.specs.Pages.{EntryFits}
use Rattle.bt_slots.proofs.NodePlaces.{key_in, entry_front}
use Rattle.bt_slots.proofs.Places.{held, some_at}
use Rattle.bt_slots.proofs.node.SlottedNode.key.Goals as goal

pub entry_key-requires : goal.entry_key-requires
entry_key-requires c =
    let e = some_at c.args.self.now.entries c.args.place c.requires in
    entry_front e.0 c.from_entry.result.now _ (held EntryFits c.args.self.now.entries c.args.place e.0 c.from_entry.ensures.fits.entries e.1) (c.from_entry.ensures.is e.0 e.1)

pub returns : goal.returns
returns c = λ e is.
    c.entry_key.ensures ∙ key_in c.args.place c.args.self.now e c.from_entry.result.now _ c.from_entry.ensures.fits is (c.from_entry.ensures.is e is)
