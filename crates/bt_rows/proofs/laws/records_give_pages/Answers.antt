use Rattle.bt_rows.proofs.Held.{records_give_pages}
use Rattle.bt_rows.proofs.laws.records_give_pages.Goals as goal

pub returns : goal.returns
returns c = records_give_pages
