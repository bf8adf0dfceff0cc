use Rattle.std.proofs.Common.{ap, ◌∙◌, arith, List, ℕ}
use Rattle.tc_io.specs.Images.{now, reads}
use Rattle.ud_state.proofs.Writing.{lens_log}
use Rattle.tc_undo.specs.Pieces.{laid}
use Rattle.tc_undo.specs.declared.room.Log.{Log}
use Rattle.tc_undo.proofs.Putting.{reached_same}
use Rattle.tc_undo.proofs.pieces.write_pieces.Goals as goal

pub put_pieces-requires-clause-may : goal.put_pieces-requires-clause-may
put_pieces-requires-clause-may g c =
    let s = c.in_ok-secure_pieces.ensures.secures in
    let may = c.requires.may in
    let old = g.V.Volume.calls c.args.vol.now in
    let mid = g.V.Volume.calls c.secure_pieces.new.vol in
    record {
      small = may.small;
      lie = c.requires.lie;
      reached = λ t. reached_same c.args.bytes.now c.args.pieces.now (now old) (now mid) (λ f isd. ap reads ((s.only t).same f isd)) (c.requires.reached t);
      knows = record { short = may.knows.short; are = λ t. lens_log old mid c.args.lens.now (s.only t) (may.knows.are t) };
      secured = s.secured;
      end_is = s.end_is;
      unchanged = s.unchanged;
    }

pub returns-clause-puts : goal.returns-clause-puts
returns-clause-puts g c =
    let s = c.in_ok-secure_pieces.ensures.secures in
    let p = c.in_ok-put_pieces.ensures.puts in
    record {
      active = ap (λ (l : Log). l.active) p.log_is ∙ s.active;
      spent = omega (arith, ap (λ (l : Log). l.end) p.log_is, s.spent);
      is_open = p.is_open;
      lens = p.lens;
      inside = p.inside;
      files = λ t f isd. p.files t f isd ∙ ap (λ (l : List ℕ). laid c.args.bytes.now c.args.pieces.now f l) (ap reads ((s.only t).same f isd));
    }
