use Rattle.std.proofs.Common.{◌∙◌, inl, inr, refl, ap}
use Rattle.tc_hash.proofs.Settled.{all_settled, drops_end, drops_marked, front_of, may_write, none_taken, trims_looks, trims_ready, trims_taken}
use Rattle.tc_reach.proofs.Handed.{on_err_any}
use Rattle.tc_hash.proofs.hash.Hash.settle.Goals as goal

pub take_front-requires : goal.take_front-requires
take_front-requires g c = trims_ready g.S.Space c.args.self.now _ c.args.space.now (record { file = refl; head = refl; records = refl; lower = c.trim.ensures.trimmed.lower; laid = c.trim.ensures.laid; notes = c.trim.ensures.notes }) (inl refl) c.requires

pub returns-in_err-front-clause-trimmed : goal.returns-in_err-front-clause-trimmed
returns-in_err-front-clause-trimmed g c = drops_end c.args.self.now _ c.take_front.new.self (record { file = refl; head = refl; records = refl; lower = c.trim.ensures.trimmed.lower; laid = c.trim.ensures.laid; notes = c.trim.ensures.notes }) c.trim.ensures.trimmed c.take_front.ensures.stays

pub returns-in_err-front-clause-refused : goal.returns-in_err-front-clause-refused
returns-in_err-front-clause-refused g c = on_err_any c.from_residual.result (inr (trims_looks g.S.Space c.args.self.now c.take_front.new.self c.args.space.now c.take_front.new.space (trims_taken c.args.self.now _ c.take_front.new.self c.take_front.ensures.stays (record { file = refl; head = refl; records = refl; lower = c.trim.ensures.trimmed.lower; laid = c.trim.ensures.laid; notes = c.trim.ensures.notes })) (inr (none_taken _ c.take_front.new.self c.take_front.ensures.stays refl)) c.take_front.ensures.reads))

pub returns-in_err-section-clause-trimmed : goal.returns-in_err-section-clause-trimmed
returns-in_err-section-clause-trimmed g c = drops_end c.args.self.now _ c.take_front.new.self (record { file = refl; head = refl; records = refl; lower = c.trim.ensures.trimmed.lower; laid = c.trim.ensures.laid; notes = c.trim.ensures.notes }) c.trim.ensures.trimmed c.take_front.ensures.stays

pub returns-in_err-section-clause-refused : goal.returns-in_err-section-clause-refused
returns-in_err-section-clause-refused g c = on_err_any c.from_residual-in_err-section.result (inr (trims_looks g.S.Space c.args.self.now c.take_front.new.self c.args.space.now c.take_front.new.space (trims_taken c.args.self.now _ c.take_front.new.self c.take_front.ensures.stays (record { file = refl; head = refl; records = refl; lower = c.trim.ensures.trimmed.lower; laid = c.trim.ensures.laid; notes = c.trim.ensures.notes })) (inr (none_taken _ c.take_front.new.self c.take_front.ensures.stays refl)) c.take_front.ensures.reads))

pub write_front-requires : goal.write_front-requires
write_front-requires g c = may_write g.S.Space c.args.self.now c.take_front.new.self c.in_ok-front.front c.new_section.new.old c.in_ok-section.section c.args.space.now c.take_front.new.space c.requires (trims_taken c.args.self.now _ c.take_front.new.self c.take_front.ensures.stays (record { file = refl; head = refl; records = refl; lower = c.trim.ensures.trimmed.lower; laid = c.trim.ensures.laid; notes = c.trim.ensures.notes })) c.take_front.ensures.reads (front_of g.S.Space c.args.self.now _ c.in_ok-front.front c.args.space.now c.in_ok-front.ensures.front (record { file = refl; head = refl; records = refl; lower = c.trim.ensures.trimmed.lower; laid = c.trim.ensures.laid; notes = c.trim.ensures.notes }) refl) c.in_ok-section.ensures.section

pub returns-in_err-write_front-clause-trimmed : goal.returns-in_err-write_front-clause-trimmed
returns-in_err-write_front-clause-trimmed g c = drops_end c.args.self.now _ c.take_front.new.self (record { file = refl; head = refl; records = refl; lower = c.trim.ensures.trimmed.lower; laid = c.trim.ensures.laid; notes = c.trim.ensures.notes }) c.trim.ensures.trimmed c.take_front.ensures.stays

pub returns-clause-settled : goal.returns-clause-settled
returns-clause-settled g c =
    all_settled g.S.Space c.args.self.now c.take_front.new.self _ c.in_ok-front.front (record { head = c.spelling-head.result; section = c.unwrap_or-section.result }) c.head_now.result c.new_section.new.old c.in_ok-section.section c.size-size.result c.args.space.now c.take_front.new.space c.write_front.new.space
    (record {
      trims = (trims_taken c.args.self.now _ c.take_front.new.self c.take_front.ensures.stays (record { file = refl; head = refl; records = refl; lower = c.trim.ensures.trimmed.lower; laid = c.trim.ensures.laid; notes = c.trim.ensures.notes }));
      forgets = (none_taken _ c.take_front.new.self c.take_front.ensures.stays refl);
      reads = c.take_front.ensures.reads;
      front = (front_of g.S.Space c.args.self.now _ c.in_ok-front.front c.args.space.now c.in_ok-front.ensures.front (record { file = refl; head = refl; records = refl; lower = c.trim.ensures.trimmed.lower; laid = c.trim.ensures.laid; notes = c.trim.ensures.notes }) refl);
      is = c.in_ok-section.ensures.section;
      now_is = c.head_now.ensures;
      long = c.spelling-head.ensures.long;
      spells = c.spelling-head.ensures.spells;
      sound = c.in_ok-write_front.ensures.outcome.ok;
      end_is = c.size-size.ensures;
      head_is = c.spelling-head.ensures.bytes;
      section_is = c.unwrap_or-section.ensures;
      wrote = c.in_ok-write_front.ensures.wrote;
      head = refl;
      records = refl;
      region = refl;
      same = c.mark_written.ensures.same;
      known = refl;
      written = c.mark_written.ensures.written;
    })
    c.requires.held

pub returns-clause-trimmed : goal.returns-clause-trimmed
returns-clause-trimmed g c = drops_marked c.args.self.now c.take_front.new.self _ refl refl c.mark_written.ensures.same (drops_end c.args.self.now _ c.take_front.new.self (record { file = refl; head = refl; records = refl; lower = c.trim.ensures.trimmed.lower; laid = c.trim.ensures.laid; notes = c.trim.ensures.notes }) c.trim.ensures.trimmed c.take_front.ensures.stays)

pub returns-in_err-front-clause-counted : goal.returns-in_err-front-clause-counted
returns-in_err-front-clause-counted g c = λ some. ap g.S.Space.bytes_read (c.take_front.ensures.known some)

pub returns-in_err-section-clause-counted : goal.returns-in_err-section-clause-counted
returns-in_err-section-clause-counted g c = λ some. ap g.S.Space.bytes_read (c.take_front.ensures.known some)

pub returns-in_err-write_front-clause-counted : goal.returns-in_err-write_front-clause-counted
returns-in_err-write_front-clause-counted g c = λ some. c.write_front.ensures.writes.counted ∙ ap g.S.Space.bytes_read (c.take_front.ensures.known some)

pub returns-clause-counted : goal.returns-clause-counted
returns-clause-counted g c = λ some. c.write_front.ensures.writes.counted ∙ ap g.S.Space.bytes_read (c.take_front.ensures.known some)
