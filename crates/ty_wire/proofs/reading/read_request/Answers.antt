use Rattle.std.proofs.Common.{arith, sym, subst}
use Rattle.std.proofs.lemmas.Result.{IfOk-weaker}
use Rattle.tc_base.specs.declared.request.Request.{Request}
use Rattle.ty_wire.specs.Prefixes.{IsPrefix}
use Rattle.ty_wire.specs.Spelling.{spelling, Fits}
use Rattle.ty_wire.proofs.Answered.{taken, whole}
use Rattle.ty_wire.proofs.reading.read_request.Goals as goal

pub unreachable-requires : goal.unreachable-requires
unreachable-requires c = let r = c.requires in let w = whole _ r.0 r.2.0 r.1 r.2.1 in cc (c.in-Err.ensures.read)

pub returns : goal.returns
returns c =
    let t = taken _ _ _ (λ i. omega (arith, c.type_inv.bytes i)) c.in-Ok.ensures.read in
    IfOk-weaker c.copied.result _ _ (λ r e. subst (λ (q : Request). Fits q × IsPrefix (spelling q) c.args.bytes.now) (sym e) (t.fits, (_, t.parts))) c.copied.ensures
