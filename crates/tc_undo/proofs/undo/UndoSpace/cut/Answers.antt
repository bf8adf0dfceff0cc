use Rattle.std.proofs.Common.{◌∙◌, ap, sym, take, rules}
use Rattle.tc_base.specs.Files.{Files}
use Rattle.tc_io.specs.Images.{now as reads_now}
use Rattle.ud_state.proofs.Replaying.{short_at}
use Rattle.ud_state.proofs.Valid.{data_at, data_others}
use Rattle.tc_undo.specs.Usable.{data_file}
use Rattle.tc_undo.proofs.Steadiness.{steady_of}
use Rattle.tc_undo.proofs.undo.UndoSpace.cut.Goals as goal

pub returns-clause-stays : goal.returns-clause-stays
returns-clause-stays g c = record { steady = λ t. steady_of (λ s. g.V.Volume.calls s.vol) c.args.self.now _ (c.cut_through.ensures.quiet.quiet t); follows = search rules }

pub returns-in_default-cut_through-clause-stays : goal.returns-in_default-cut_through-clause-stays
returns-in_default-cut_through-clause-stays g c = record { steady = λ t. steady_of (λ s. g.V.Volume.calls s.vol) c.args.self.now _ (c.cut_through.ensures.quiet.quiet t); follows = search rules }

pub stop_at-requires-clause-small : goal.stop_at-requires-clause-small
stop_at-requires-clause-small g c = short_at c.args.self.now.lens c.place.result c.requires.sound.1.knows.short

pub returns-clause-cut : goal.returns-clause-cut
returns-clause-cut g c = λ t.
    let old : Files = reads_now (g.V.Volume.calls c.args.self.now.vol) in
    let new : Files = reads_now (g.V.Volume.calls c.cut_through.new.vol) in
    let f = c.args.file in
    let isd = data_file f c.requires.reaches.file in
    record {
      here = data_at new f isd ∙ c.in-Ok.ensures.changes.here t ∙ ap (take c.args.len) (sym (data_at old f isd));
      others = data_others old new f (c.in-Ok.ensures.changes.others t);
    }
