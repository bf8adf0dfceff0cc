use Rattle.std.proofs.Common.{sym, subst}
use Rattle.bt_page.specs.Pages.{LeafFits}
use Rattle.bt_page.proofs.Written.{have_values}
use Rattle.play_codec.proofs.slots.is_itself.Goals as goal

pub of-requires : goal.of-requires
of-requires c = have_values _ (subst LeafFits (sym c.in_ok-items.ensures) c.as_slice-own.ensures.fits).items
