use Rattle.std.proofs.Common.{◌∙◌, ap}
use Rattle.std.specs.Prelude.{◌++◌}
use Rattle.std.proofs.lemmas.Result.{on_ok_weaker}
use Rattle.tc_base.specs.declared.request.Reply.{Reply}
use Rattle.ty_wire.specs.Spelling.{reply_bytes}
use Rattle.ty_core.proofs.serving.refuse.Goals as goal

pub returns-clause-ok : goal.returns-clause-ok
returns-clause-ok c = on_ok_weaker c.write_reply-added.result (λ e. e ∙ ap (λ (a : Reply). c.args.into.now ++ reply_bytes a) c.refusal-refused.ensures) c.write_reply-added.ensures.ok
