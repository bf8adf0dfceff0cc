use Rattle.std.proofs.Common.{refl}
use Rattle.bt_page.proofs.Written.{entry_written}
use Rattle.bt_page.proofs.writing.put_entry.Goals as goal

pub returns-clause-ok : goal.returns-clause-ok
returns-clause-ok c = entry_written c.args.into.now _ _ c.append.new.self c.as_slice-key.result.now c.args.entry.now _ c.in_ok-put_vnum.ensures.ok c.in_ok-put_vnum-2.ensures.ok c.in_ok-append.ensures.ok refl c.as_slice-key.ensures
