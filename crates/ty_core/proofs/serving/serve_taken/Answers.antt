use Rattle.std.proofs.Common.{subst, sym}
use Rattle.std.proofs.lemmas.Result.{IfOk-weaker, on_ok_weaker}
use Rattle.tc_reach.proofs.Handed.{on_ok_any}
use Rattle.ty_memc.specs.declared.text.Piece.{Piece}
use Rattle.ty_memc.specs.declared.text.Piece.TheVariants as piece
use Rattle.ty_core.specs.Serving.{FillsPiece, PieceFits, ServesPiece, TightPiece}
use Rattle.ty_core.proofs.Fronts.{fills_wider, served_request, text_idle}
use Rattle.ty_core.proofs.serving.serve_taken.Goals as goal

-- a request

pub serve_request-requires-clause-fits : goal.serve_request-requires-clause-fits
serve_request-requires-clause-fits g c = subst PieceFits c.in-Request.is c.requires.may.fits

pub returns-in-Request-clause-served : goal.returns-in-Request-clause-served
returns-in-Request-clause-served g c = IfOk-weaker c.serve_request.result _ _ (λ d f.
    served_request g.B.S.Space g.B.Storage.holds c.args.replica c.args.logs c.args.taken.piece c.in-Request.request c.args.taken.copied d c.args.base.now c.serve_request.new.base c.args.space.now c.serve_request.new.space c.args.walk.now c.serve_request.new.walk c.args.waiting.now c.serve_request.new.waiting
    c.in-Request.is c.requires.may.copied f) c.serve_request.ensures.served

pub returns-in-Request-clause-tight : goal.returns-in-Request-clause-tight
returns-in-Request-clause-tight g c = on_ok_weaker c.serve_request.result (λ packs.
    subst (λ (x : Piece). TightPiece g.B.S.Space g.B.Storage.holds g.B.Storage.tight x c.args.base.now c.serve_request.new.base c.args.space.now c.serve_request.new.space) (sym c.in-Request.is) packs) c.serve_request.ensures.tight

pub returns-in-Request-clause-full : goal.returns-in-Request-clause-full
returns-in-Request-clause-full g c = λ is. subst (λ (x : Piece). FillsPiece g.B.S.Space g.B.Storage.holds (g.B.Storage.fills_since c.args.space.now c.serve_request.new.space) c.args.replica x c.args.base.now c.args.space.now c.args.walk.now) (sym c.in-Request.is)
    (fills_wider g.B.S.Space g.B.Storage.holds (g.B.Storage.fills c.args.base.now c.args.space.now c.serve_request.new.space) (g.B.Storage.fills_since c.args.space.now c.serve_request.new.space) c.args.replica (piece.Request c.in-Request.request) c.args.base.now c.args.space.now c.args.walk.now
    (λ d e. g.met.B.Storage.fills_then c.args.base.now c.args.space.now c.serve_request.new.space d e) (c.serve_request.ensures.full is))

-- a text command

pub serve_text-requires-clause-fits : goal.serve_text-requires-clause-fits
serve_text-requires-clause-fits g c = subst PieceFits c.in-Text.is c.requires.may.fits

pub returns-in-Text-clause-served : goal.returns-in-Text-clause-served
returns-in-Text-clause-served g c = IfOk-weaker c.serve_text.result _ _ (λ d served.
    subst (λ (x : Piece). ServesPiece g.B.S.Space g.B.Storage.holds c.args.replica c.args.logs x d c.args.base.now c.serve_text.new.base c.args.space.now c.serve_text.new.space c.args.walk.now c.serve_text.new.walk c.args.waiting.now c.serve_text.new.waiting) (sym c.in-Text.is) served) c.serve_text.ensures.served

pub returns-in-Text-clause-tight : goal.returns-in-Text-clause-tight
returns-in-Text-clause-tight g c = on_ok_any c.serve_text.result (λ packs. text_idle c.args.taken.piece c.in-Text.text c.in-Text.is packs)

pub returns-in-Text-clause-full : goal.returns-in-Text-clause-full
returns-in-Text-clause-full g c = λ is. subst (λ (x : Piece). FillsPiece g.B.S.Space g.B.Storage.holds (g.B.Storage.fills_since c.args.space.now c.serve_text.new.space) c.args.replica x c.args.base.now c.args.space.now c.args.walk.now) (sym c.in-Text.is) (c.serve_text.ensures.full is)
