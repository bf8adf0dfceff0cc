use Rattle.ty_pieces.specs.Pieces.{got}
use Rattle.ty_core.proofs.Texting.{ended_few, ended_front, unended_front, values_came}
use Rattle.ty_core.proofs.texts.serve_get.Goals as goal

pub returns-clause-adds : goal.returns-clause-adds
returns-clause-adds g c = λ replica w d h.
    values_came (got replica d w) c.args.keys.now c.in_ok-fits.fits c.len-before.result c.args.waiting.now c.gather_lines.new.waiting c.end_lines.new.waiting c.gather_lines.ensures.waiting_front c.len-before.ensures (c.in_ok-fits.ensures.gathers replica w d h) c.in_ok-fits.ensures.few c.in_ok-end_lines.ensures.ok

pub returns-clause-few : goal.returns-clause-few
returns-clause-few g c = ended_few c.in_ok-fits.fits c.len-before.result c.args.waiting.now c.gather_lines.new.waiting c.end_lines.new.waiting c.gather_lines.ensures.waiting_front c.len-before.ensures c.in_ok-fits.ensures.few c.in_ok-end_lines.ensures.ok

pub returns-clause-waiting_front : goal.returns-clause-waiting_front
returns-clause-waiting_front g c = ended_front c.in_ok-fits.fits c.len-before.result c.args.waiting.now c.gather_lines.new.waiting c.end_lines.new.waiting c.gather_lines.ensures.waiting_front c.len-before.ensures c.in_ok-end_lines.ensures.ok

pub returns-in_err-end_lines-clause-waiting_front : goal.returns-in_err-end_lines-clause-waiting_front
returns-in_err-end_lines-clause-waiting_front g c = unended_front c.len-before.result c.args.waiting.now c.gather_lines.new.waiting c.end_lines.new.waiting c.gather_lines.ensures.waiting_front c.len-before.ensures c.in_err-end_lines.ensures.err
