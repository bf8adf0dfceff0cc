use Rattle.std.proofs.Common.{rules, ◌≡◌, ◌∙◌, length, false, [], refl, sym, ap, arith, inl, inr}
use Rattle.std.proofs.lemmas.Result.{IfErr-weaker}
use Rattle.tc_base.specs.declared.kind.Kind.TheVariants as kinds
use Rattle.tc_model.specs.Contents.{tree}
use Rattle.tc_space.specs.Frames.{only_reads_then}
use Rattle.ty_base.proofs.Refusals.{breaks_all, breaks_none, if_err_of, no_bytes, on_err_of}
use Rattle.tc_treedb.specs.Holding.{BreaksAs}
use Rattle.tc_treedb.proofs.Made.{all_opened, all_stand, breaks_file, breaks_main, broken_from, can_open, fault_from, made_laid, made_opens, made_usual, main_opened, main_stands, read_laid, rose_on}
use Rattle.tc_treedb.proofs.opening.TreeEngineOpens.open.Goals as goal

pub returns-then-len-eq0-clause-stands : goal.returns-then-len-eq0-clause-stands
returns-then-len-eq0-clause-stands g c = all_stand g.S.Space c.create.result c.args.kind c.args.space.now (search (rules, c.ne.ensures, c.if-ne.false)) (λ t. sym (c.len.ensures t) ∙ c.if-len-eq0.true)

pub returns-then-len-eq0-clause-opened : goal.returns-then-len-eq0-clause-opened
returns-then-len-eq0-clause-opened g c = all_opened g.S.Space c.create.result c.args.kind c.args.space.now c.create.new.space (λ t. sym (c.len.ensures t) ∙ c.if-len-eq0.true) c.create.ensures.created

pub returns-then-len-eq0-clause-full : goal.returns-then-len-eq0-clause-full
returns-then-len-eq0-clause-full g c = λ full t.
    let is : kinds.Tree ≡ c.args.kind = search (rules, c.ne.ensures, c.if-ne.false) in
    record {
      empty = no_bytes (g.S.Space.now c.args.space.now 0) (sym (c.len.ensures t) ∙ c.if-len-eq0.true);
      contents = tree false false [];
      stand = made_opens c.args.kind (g.S.Space.now c.args.space.now) is (sym (c.len.ensures t) ∙ c.if-len-eq0.true);
      full = c.create.ensures.full full t;
    }

pub returns-then-len-eq0-clause-usable : goal.returns-then-len-eq0-clause-usable
returns-then-len-eq0-clause-usable g c = made_usual g.S.Space c.create.result c.args.space.now c.create.new.space c.create.ensures.created c.create.ensures.usable

pub returns-then-len-eq0-clause-broken : goal.returns-then-len-eq0-clause-broken
returns-then-len-eq0-clause-broken g c = IfErr-weaker _ _ _ (λ e none. breaks_none e g.S.Space.tells (BreaksAs c.args.kind (g.S.Space.now c.args.space.now)) none) c.create.ensures.broken

pub returns-then-len-eq0-clause-laid : goal.returns-then-len-eq0-clause-laid
returns-then-len-eq0-clause-laid g c = made_laid g.S.Space c.create.result c.args.space.now c.create.new.space (λ t. sym (c.len.ensures t) ∙ c.if-len-eq0.true) c.create.ensures.created

pub returns-in_err-hash-clause-broken : goal.returns-in_err-hash-clause-broken
returns-in_err-hash-clause-broken g c =
    let is : kinds.Tree ≡ c.args.kind = search (rules, c.ne.ensures, c.if-ne.false) in
    broken_from c.from_residual.result c.in_err-hash.field-0.0 _ c.from_residual.ensures.1 (λ f rule named t.
    let b = c.in_err-hash.ensures.broken f rule named in
    breaks_file c.args.kind (g.S.Space.now c.args.space.now) f rule is b.0 (λ zero. let none = ap length zero in omega (arith, c.if-len-eq0.false, c.len.ensures t, none)) (inl (b.1 t)))

pub returns-in_err-hash-clause-refused : goal.returns-in_err-hash-clause-refused
returns-in_err-hash-clause-refused g c = record { left = on_err_of _ (inr c.open.ensures.reads); cause = search rules; sound = if_err_of _ (λ e. breaks_all e _ c.open.ensures.reads) }

pub open-requires-2 : goal.open-requires-2
open-requires-2 g c = can_open g.S.Space c.in_ok-hash.hash c.args.space.now c.open.new.space c.open.ensures.reads c.in_ok-hash.ensures.file.0 c.in_ok-hash.ensures.file.1 c.in_ok-hash.ensures.stands c.in_ok-hash.ensures.holds

pub returns-in_err-kept-clause-broken : goal.returns-in_err-kept-clause-broken
returns-in_err-kept-clause-broken g c =
    let is : kinds.Tree ≡ c.args.kind = search (rules, c.ne.ensures, c.if-ne.false) in
    broken_from c.from_residual-in_err-kept.result c.in_err-kept.field-0.0 _ c.from_residual-in_err-kept.ensures.1
    (breaks_main g.S.Space c.args.kind c.in_ok-hash.hash c.args.space.now c.open.new.space c.in_err-kept.field-0.0 is (λ t zero. let none = ap length zero in omega (arith, c.if-len-eq0.false, c.len.ensures t, none)) c.open.ensures.reads.files c.in_ok-hash.ensures.stands c.in_ok-hash.ensures.holds c.in_err-kept.ensures.broken)

pub returns-in_err-kept-clause-refused : goal.returns-in_err-kept-clause-refused
returns-in_err-kept-clause-refused g c =
    let reads = only_reads_then g.S.Space _ _ _ c.open.ensures.reads c.open-2.ensures.reads in
    record { left = on_err_of _ (inr reads); cause = λ fault. rose_on _ _ _ _ c.open.ensures.reads.keeps.later (c.in_err-kept.ensures.cause (fault_from c.from_residual-in_err-kept.result c.in_err-kept.field-0.0 c.from_residual-in_err-kept.ensures.1 fault)) refl; sound = if_err_of _ (λ e. breaks_all e _ reads) }

pub returns-clause-stands : goal.returns-clause-stands
returns-clause-stands g c =
    let is : kinds.Tree ≡ c.args.kind = search (rules, c.ne.ensures, c.if-ne.false) in
    λ t. main_stands g.S.Space c.args.kind c.in_ok-hash.hash c.in_ok-kept.kept c.args.space.now c.open.new.space c.open-2.new.space is t (c.open.ensures.reads.files t) (c.in_ok-hash.ensures.stands t) (c.in_ok-hash.ensures.holds t) c.in_ok-kept.ensures.opened

pub returns-clause-opened : goal.returns-clause-opened
returns-clause-opened g c = λ t. main_opened g.S.Space c.args.kind _ c.in_ok-hash.hash c.args.space.now c.open.new.space c.open-2.new.space (λ zero. omega (arith, c.if-len-eq0.false, c.len.ensures t, zero)) t refl (c.open.ensures.reads.files t) (c.open-2.ensures.reads.files t)
    (c.in_ok-hash.ensures.stands t) (c.in_ok-hash.ensures.holds t) c.in_ok-kept.ensures.opened

pub returns-clause-usable : goal.returns-clause-usable
returns-clause-usable g c =
    let reads = only_reads_then g.S.Space _ _ _ c.open.ensures.reads c.open-2.ensures.reads in
    record {
      sound = reads.is_sound;
      others = record { same = λ t n other. reads.files t n };
      made = λ t none. absurd (let zero = ap length none in omega (arith, c.if-len-eq0.false, c.len.ensures t, zero));
    }

pub returns-clause-laid : goal.returns-clause-laid
returns-clause-laid g c = let reads = only_reads_then g.S.Space _ _ _ c.open.ensures.reads c.open-2.ensures.reads in read_laid g.S.Space c.args.space.now c.open-2.new.space reads.files

pub returns-clause-reads : goal.returns-clause-reads
returns-clause-reads g c = λ t some. only_reads_then g.S.Space _ _ _ c.open.ensures.reads c.open-2.ensures.reads

pub returns-in_err-kept-clause-reads : goal.returns-in_err-kept-clause-reads
returns-in_err-kept-clause-reads g c = λ t some. only_reads_then g.S.Space _ _ _ c.open.ensures.reads c.open-2.ensures.reads

pub returns-clause-keeps : goal.returns-clause-keeps
returns-clause-keeps g c = (only_reads_then g.S.Space _ _ _ c.open.ensures.reads c.open-2.ensures.reads).keeps

pub returns-in_err-kept-clause-keeps : goal.returns-in_err-kept-clause-keeps
returns-in_err-kept-clause-keeps g c = (only_reads_then g.S.Space _ _ _ c.open.ensures.reads c.open-2.ensures.reads).keeps
