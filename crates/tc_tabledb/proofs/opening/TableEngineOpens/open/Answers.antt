use Rattle.std.proofs.Common.{rules, ◌≡◌, ◌∙◌, length, refl, sym, ap, arith, inr}
use Rattle.std.specs.FinMap.{empty}
use Rattle.std.proofs.lemmas.Result.{IfErr-weaker}
use Rattle.tc_base.specs.declared.kind.Kind.TheVariants as kinds
use Rattle.tc_model.specs.Contents.{table}
use Rattle.tc_space.specs.Frames.{only_reads_then}
use Rattle.tc_reach.proofs.Handed.{if_err_handed}
use Rattle.ty_base.proofs.Refusals.{breaks_all, if_err_of, no_bytes, on_err_of}
use Rattle.tc_tabledb.proofs.Anew.{all_are_places, all_opened, all_stand, files_opened, files_stand, made_laid, made_opens, made_usual, new_breaks, none_free, read_laid, rows_listed, sides_break, table_breaks}
use Rattle.tc_tabledb.proofs.opening.TableEngineOpens.open.Goals as goal

pub make-requires-clause-empty : goal.make-requires-clause-empty
make-requires-clause-empty g c = (λ t. no_bytes (g.S.Space.now c.args.space.now 0) (sym (c.len.ensures t) ∙ c.if-len-eq0.true))

pub returns-then-len-eq0-clause-stands : goal.returns-then-len-eq0-clause-stands
returns-then-len-eq0-clause-stands g c =
    let is : kinds.Table ≡ c.args.kind = search (rules, c.ne.ensures, c.if-ne.false) in
    all_stand g.S.Space c.make.result c.args.kind c.args.space.now c.make.new.space is (λ t. no_bytes (g.S.Space.now c.args.space.now 0) (sym (c.len.ensures t) ∙ c.if-len-eq0.true)) c.make.ensures.none

pub returns-then-len-eq0-clause-opened : goal.returns-then-len-eq0-clause-opened
returns-then-len-eq0-clause-opened g c = all_opened g.S.Space _ _ _ c.make.result c.args.kind c.args.space.now c.make.new.space (λ t. no_bytes (g.S.Space.now c.args.space.now 0) (sym (c.len.ensures t) ∙ c.if-len-eq0.true)) c.make.ensures.created

pub returns-then-len-eq0-clause-full : goal.returns-then-len-eq0-clause-full
returns-then-len-eq0-clause-full g c = λ full t.
    let is : kinds.Table ≡ c.args.kind = search (rules, c.ne.ensures, c.if-ne.false) in
    record {
      empty = no_bytes (g.S.Space.now c.args.space.now 0) (sym (c.len.ensures t) ∙ c.if-len-eq0.true);
      contents = table empty empty;
      stand = made_opens g.S.Space c.args.kind (g.S.Space.now c.args.space.now) is (no_bytes (g.S.Space.now c.args.space.now 0) (sym (c.len.ensures t) ∙ c.if-len-eq0.true)) (c.make.ensures.beside full t);
      full = c.make.ensures.full full t;
    }

pub returns-then-len-eq0-clause-usable : goal.returns-then-len-eq0-clause-usable
returns-then-len-eq0-clause-usable g c = made_usual g.S.Space _ _ _ c.make.result c.args.space.now c.make.new.space c.make.ensures.created c.make.ensures.usable

pub returns-then-len-eq0-clause-broken : goal.returns-then-len-eq0-clause-broken
returns-then-len-eq0-clause-broken g c =
    let is : kinds.Table ≡ c.args.kind = search (rules, c.ne.ensures, c.if-ne.false) in
    IfErr-weaker _ _ _ (λ e breaks. new_breaks g.S.Space c.args.kind c.args.space.now e is (λ t. no_bytes (g.S.Space.now c.args.space.now 0) (sym (c.len.ensures t) ∙ c.if-len-eq0.true)) breaks) c.make.ensures.broken

pub returns-then-len-eq0-clause-laid : goal.returns-then-len-eq0-clause-laid
returns-then-len-eq0-clause-laid g c = made_laid g.S.Space _ _ _ c.make.result c.args.space.now c.make.new.space (λ t. no_bytes (g.S.Space.now c.args.space.now 0) (sym (c.len.ensures t) ∙ c.if-len-eq0.true)) c.make.ensures.created c.make.ensures.none

pub open_rows-requires-clause-some : goal.open_rows-requires-clause-some
open_rows-requires-clause-some g c = (λ t zero. let none = ap length zero in omega (arith, c.if-len-eq0.false, c.len.ensures t, none))

pub returns-in_err-opened-clause-broken : goal.returns-in_err-opened-clause-broken
returns-in_err-opened-clause-broken g c =
    let is : kinds.Table ≡ c.args.kind = search (rules, c.ne.ensures, c.if-ne.false) in
    if_err_handed c.from_residual.result c.in_err-opened.field-0.0 _ c.from_residual.ensures.1 (table_breaks g.S.Space c.args.kind c.args.space.now c.in_err-opened.field-0.0 is c.in_err-opened.ensures.broken)

pub open_sides-requires-clause-listed : goal.open_sides-requires-clause-listed
open_sides-requires-clause-listed g c = rows_listed g.S.Space _ _ _ c.in_ok-opened.opened.0 c.in_ok-opened.opened.1 _ c.args.space.now c.open_rows.new.space c.open_rows.ensures.reads c.in_ok-opened.ensures.opened c.as_slice.ensures

pub open_sides-requires-clause-places : goal.open_sides-requires-clause-places
open_sides-requires-clause-places g c = all_are_places

pub open_sides-requires-clause-free : goal.open_sides-requires-clause-free
open_sides-requires-clause-free g c = none_free g.S.Space _ _ _ _ _ c.table_stores.ensures c.in_ok-opened.opened.0.sides.items c.in_ok-opened.ensures.opened.none

pub returns-in_err-open_sides-clause-broken : goal.returns-in_err-open_sides-clause-broken
returns-in_err-open_sides-clause-broken g c =
    let is : kinds.Table ≡ c.args.kind = search (rules, c.ne.ensures, c.if-ne.false) in
    if_err_handed c.from_residual-in_err-open_sides.result c.in_err-open_sides.field-0.0 _ c.from_residual-in_err-open_sides.ensures.1 (table_breaks g.S.Space c.args.kind c.args.space.now c.in_err-open_sides.field-0.0 is (sides_break g.S.Space _ _ _ c.in_ok-opened.opened.0 c.in_ok-opened.opened.1 c.args.space.now c.open_rows.new.space c.open_rows.ensures.reads.files c.in_ok-opened.ensures.opened c.in_err-open_sides.field-0.0 c.in_err-open_sides.ensures.broken))

pub returns-in_err-open_sides-clause-refused : goal.returns-in_err-open_sides-clause-refused
returns-in_err-open_sides-clause-refused g c =
    let reads = only_reads_then g.S.Space _ _ _ c.open_rows.ensures.reads c.open_sides.ensures.reads in
    record { left = on_err_of _ (inr reads); cause = search rules; sound = if_err_of _ (λ e. breaks_all e _ reads) }

pub returns-in_err-opened-clause-refused : goal.returns-in_err-opened-clause-refused
returns-in_err-opened-clause-refused g c = record { left = on_err_of _ (inr c.open_rows.ensures.reads); cause = search rules; sound = if_err_of _ (λ e. breaks_all e _ c.open_rows.ensures.reads) }

pub returns-clause-stands : goal.returns-clause-stands
returns-clause-stands g c =
    let is : kinds.Table ≡ c.args.kind = search (rules, c.ne.ensures, c.if-ne.false) in
    files_stand g.S.Space _ _ _ c.in_ok-opened.opened.0 c.in_ok-opened.opened.1 c.args.space.now c.open_rows.new.space c.open_rows.ensures.reads.files c.in_ok-opened.ensures.opened c.open_sides.new.table c.open_sides.new.space c.open_sides.ensures.reads.files c.in_ok-open_sides.ensures.opened c.args.kind is

pub returns-clause-opened : goal.returns-clause-opened
returns-clause-opened g c = files_opened g.S.Space _ _ _ c.in_ok-opened.opened.0 c.in_ok-opened.opened.1 c.args.space.now c.open_rows.new.space c.open_rows.ensures.reads.files c.in_ok-opened.ensures.opened c.open_sides.new.table c.open_sides.new.space c.open_sides.ensures.reads.files c.in_ok-open_sides.ensures.opened _ c.args.kind refl refl (λ t zero. let none = ap length zero in omega (arith, c.if-len-eq0.false, c.len.ensures t, none))

pub returns-clause-usable : goal.returns-clause-usable
returns-clause-usable g c =
    let reads = only_reads_then g.S.Space _ _ _ c.open_rows.ensures.reads c.open_sides.ensures.reads in
    record {
      sound = reads.is_sound;
      others = record { same = λ t n other. reads.files t n };
      made = λ t none. absurd (let zero = ap length none in omega (arith, c.if-len-eq0.false, c.len.ensures t, zero));
    }

pub returns-clause-laid : goal.returns-clause-laid
returns-clause-laid g c = let reads = only_reads_then g.S.Space _ _ _ c.open_rows.ensures.reads c.open_sides.ensures.reads in read_laid g.S.Space c.args.space.now c.open_sides.new.space reads.files

pub returns-clause-reads : goal.returns-clause-reads
returns-clause-reads g c = λ t some. only_reads_then g.S.Space _ _ _ c.open_rows.ensures.reads c.open_sides.ensures.reads

pub returns-in_err-open_sides-clause-reads : goal.returns-in_err-open_sides-clause-reads
returns-in_err-open_sides-clause-reads g c = λ t some. only_reads_then g.S.Space _ _ _ c.open_rows.ensures.reads c.open_sides.ensures.reads

pub returns-clause-keeps : goal.returns-clause-keeps
returns-clause-keeps g c = (only_reads_then g.S.Space _ _ _ c.open_rows.ensures.reads c.open_sides.ensures.reads).keeps

pub returns-in_err-open_sides-clause-keeps : goal.returns-in_err-open_sides-clause-keeps
returns-in_err-open_sides-clause-keeps g c = (only_reads_then g.S.Space _ _ _ c.open_rows.ensures.reads c.open_sides.ensures.reads).keeps
