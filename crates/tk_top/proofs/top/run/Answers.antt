use Rattle.std.proofs.Common.{◌∙◌}
use Rattle.tk_top.specs.Ends.{line_of}
use Rattle.tk_top.proofs.Memory.{lines_told}
use Rattle.tk_top.proofs.top.run.Goals as goal

pub returns : goal.returns
returns g c = let ran = c.follow_words-stopped.ensures in let end = c.follow_words-stopped.result.end in record {
  runs = (
    end,
    c.status.ensures,
    record {
      gaps = ran.0;
      by_words = ran.1;
      line = lines_told g.E.Sink ran.0 (line_of end) c.put_line.result c.args.err.now c.follow_words-stopped.new.err c.put_line.new.err ran.2 c.put_line.ensures.ok c.put_line.ensures.cause;
      silent = λ is none. c.put_line.ensures.silent is ∙ ran.2.silent none;
    },
  );
}
