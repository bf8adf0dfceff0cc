use Rattle.std.proofs.Common.{◌≡◌, ◌∙◌, ap, sym, List, ℕ, ◌++◌}
use Rattle.std.proofs.lemmas.Result.{IfOk-weaker}
use Rattle.std.specs.Prelude.{None}
use Rattle.tc_reach.proofs.Handed.{on_err_any}
use Rattle.ty_pieces.specs.Pieces.{got}
use Rattle.ty_memc.specs.Answers.{then_of}
use Rattle.ty_memc.specs.Seen.{seen_value}
use Rattle.ty_memc.specs.declared.text.Then.TheVariants.{Say, Do}
use Rattle.ty_core.proofs.Texting.{bounded_short, declines_alone, does_full, does_piece, leaves_behind, plain_does, said_few, says_piece, seen_as, since_behind, then_fine}
use Rattle.ty_core.proofs.texts.serve_plain.Goals as goal

-- a reply, and no more

pub returns-in-Say-clause-served : goal.returns-in-Say-clause-served
returns-in-Say-clause-served g c =
    let f = c.in_ok-is_held.ensures.got in
    let is : Say c.in-Say.reply ≡ then_of c.args.text (seen_value c.value_of.result) = sym c.in-Say.is ∙ c.in_ok-reply.ensures in
    let came : c.append.new.self ≡ c.args.waiting.now ++ c.in-Say.reply = c.in_ok-append-in-Say.ensures.ok ∙ ap (λ (l : List ℕ). c.args.waiting.now ++ l) c.as_slice-in-Say.ensures in
    let short = (then_fine c.args.text (seen_value c.value_of.result) (Say c.in-Say.reply) c.requires.fits is).short in
    says_piece g.B.S.Space g.B.Storage.holds c.args.replica c.args.logs c.args.text c.in-Say.reply _ c.args.base.now _ c.args.space.now _ c.args.walk.now c.args.waiting.now _
    (record { commits = c.nothing.ensures.commits; feeds = c.nothing.ensures.feeds; update = c.nothing.ensures.update; copy = c.nothing.ensures.copy })
    (λ d h. plain_does (got c.args.replica d c.args.walk.now) c.args.text (seen_value c.value_of.result) (Say c.in-Say.reply) c.requires.plain (seen_as c.in_ok-is_held.is_held c.as_slice.result.now _ (seen_value c.value_of.result) _ c.as_slice.ensures c.value_of.ensures (f.long d h) (f.value c.args.replica c.args.walk.now d h)) is)
    c.in_ok-is_held.ensures.reads (said_few c.in-Say.reply c.args.waiting.now _ short came) (came ∙ ap (λ (l : List ℕ). c.args.waiting.now ++ l) (sym (bounded_short c.in-Say.reply short)))

-- a request

pub make-requires-clause-asked : goal.make-requires-clause-asked
make-requires-clause-asked g c = (then_fine c.args.text (seen_value c.value_of.result) (Do c.in-Do.request c.in-Do.reply) c.requires.fits (sym c.in-Do.is ∙ c.in_ok-reply.ensures)).fits.0

pub make-requires-clause-fits : goal.make-requires-clause-fits
make-requires-clause-fits g c = (then_fine c.args.text (seen_value c.value_of.result) (Do c.in-Do.request c.in-Do.reply) c.requires.fits (sym c.in-Do.is ∙ c.in_ok-reply.ensures)).fits.2

pub make-requires-clause-short : goal.make-requires-clause-short
make-requires-clause-short g c = (then_fine c.args.text (seen_value c.value_of.result) (Do c.in-Do.request c.in-Do.reply) c.requires.fits (sym c.in-Do.is ∙ c.in_ok-reply.ensures)).short

pub returns-clause-served : goal.returns-clause-served
returns-clause-served g c =
    let f = c.in_ok-is_held.ensures.got in
    IfOk-weaker c.make.result _ _ (λ e x. does_piece g.B.S.Space g.B.Storage.holds c.args.replica c.args.logs c.args.text c.in-Do.request c.quiet-is_quiet.result c.in-Do.reply e c.args.base.now c.fetch_first.new.base c.make.new.base c.args.space.now c.fetch_first.new.space c.make.new.space c.args.walk.now c.make.new.walk c.args.waiting.now c.make.new.waiting c.quiet-is_quiet.ensures
    (λ d h. plain_does (got c.args.replica d c.args.walk.now) c.args.text (seen_value c.value_of.result) (Do c.in-Do.request c.in-Do.reply) c.requires.plain (seen_as c.in_ok-is_held.is_held c.as_slice.result.now _ (seen_value c.value_of.result) _ c.as_slice.ensures c.value_of.ensures (f.long d h) (f.value c.args.replica c.args.walk.now d h)) (sym c.in-Do.is ∙ c.in_ok-reply.ensures))
    c.in_ok-is_held.ensures.reads x) c.make.ensures.served

pub returns-clause-leaves : goal.returns-clause-leaves
returns-clause-leaves g c = IfOk-weaker c.make.result _ _ (λ e l. leaves_behind g.B.S.Space g.B.Storage.holds g.B.Storage.own g.B.Storage.layout _ c.args.base.now c.fetch_first.new.base c.args.space.now c.fetch_first.new.space c.make.new.space c.fetch_first.ensures.keeps c.in_ok-is_held.ensures.reads l) c.make.ensures.leaves

pub returns-clause-full : goal.returns-clause-full
returns-clause-full g c = λ is.
    let f = c.in_ok-is_held.ensures.got in
    does_full g.B.S.Space g.B.Storage.holds (g.B.Storage.fills c.fetch_first.new.base c.fetch_first.new.space c.make.new.space) (g.B.Storage.fills_since c.args.space.now c.make.new.space) c.args.replica c.args.text (seen_value c.value_of.result) c.in-Do.request c.in-Do.reply c.args.base.now _ c.args.space.now _ c.args.walk.now
    (since_behind g.B.S.Space g.B.Storage.holds g.B.Storage.fills g.B.Storage.fills_since g.B.Storage.lacks_large g.met.B.Storage.fills_then g.met.B.Storage.since_more c.fetch_first.new.base c.args.space.now c.fetch_first.new.space c.make.new.space c.fetch_first.ensures.keeps)
    (sym c.in_ok-reply.ensures ∙ c.in-Do.is)
    (λ d h. plain_does (got c.args.replica d c.args.walk.now) c.args.text (seen_value c.value_of.result) (Do c.in-Do.request c.in-Do.reply) c.requires.plain (seen_as c.in_ok-is_held.is_held c.as_slice.result.now _ (seen_value c.value_of.result) _ c.as_slice.ensures c.value_of.ensures (f.long d h) (f.value c.args.replica c.args.walk.now d h)) (sym c.in-Do.is ∙ c.in_ok-reply.ensures))
    c.in_ok-is_held.ensures.reads (c.make.ensures.full is)

-- refusals on the way

pub returns-in_err-is_held-clause-refused : goal.returns-in_err-is_held-clause-refused
returns-in_err-is_held-clause-refused g c = on_err_any _ (declines_alone g.B.S.Space g.B.Storage.holds c.args.base.now c.fetch_first.new.base c.args.space.now c.fetch_first.new.space None None c.args.walk.now c.in_err-is_held.ensures.refused)
