use Rattle.std.specs.Prelude.{None}
use Rattle.tc_reach.proofs.Handed.{on_err_any}
use Rattle.ty_core.proofs.Texting.{declines_alone, gets_piece, plain_of}
use Rattle.ty_core.proofs.texts.serve_text.Goals as goal

pub returns-in_ok-serve_get-in-Get-clause-served : goal.returns-in_ok-serve_get-in-Get-clause-served
returns-in_ok-serve_get-in-Get-clause-served g c =
    gets_piece g.B.S.Space g.B.Storage.holds c.args.replica c.args.logs c.args.text c.in-Get.keys _ c.args.base.now _ c.args.space.now _ c.args.walk.now c.args.waiting.now _ c.in-Get.is
    (record { commits = c.nothing.ensures.commits; feeds = c.nothing.ensures.feeds; update = c.nothing.ensures.update; copy = c.nothing.ensures.copy })
    c.in_ok-serve_get-in-Get.ensures.reads c.in_ok-serve_get-in-Get.ensures.few c.in_ok-serve_get-in-Get.ensures.adds

pub returns-in_err-serve_get-in-Get-clause-refused : goal.returns-in_err-serve_get-in-Get-clause-refused
returns-in_err-serve_get-in-Get-clause-refused g c = on_err_any _ (declines_alone g.B.S.Space g.B.Storage.holds c.args.base.now c.serve_get.new.base c.args.space.now c.serve_get.new.space None None c.args.walk.now c.in_err-serve_get-in-Get.ensures.refused)

pub serve_plain-requires-clause-plain : goal.serve_plain-requires-clause-plain
serve_plain-requires-clause-plain g c = plain_of _ c.in_default.not-Get
