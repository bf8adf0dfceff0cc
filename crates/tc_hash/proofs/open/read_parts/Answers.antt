use Rattle.std.proofs.Common.{◌∙◌, ℕ, List, sym, subst}
use Rattle.tc_space.specs.Frames.{only_reads_then}
use Rattle.tc_reach.proofs.Handed.{if_err_handed}
use Rattle.tc_space.specs.declared.errors.OpenErr.{OpenErr}
use Rattle.hf_pool.specs.Pools.{frees}
use Rattle.hf_survey.specs.Surveys.{WasSurveyed}
use Rattle.tc_hash.specs.Opening.{Breaks, HasHead, WasRead}
use Rattle.tc_hash.proofs.Opened.{breaks_kind}
use Rattle.tc_hash.proofs.open.read_parts.Goals as goal

pub read_blocks-requires : goal.read_blocks-requires
read_blocks-requires g c = record {
  head = record {
    sound = c.in_ok-head.ensures.reads.is_sound;
    data_file = c.requires.file;
    valid = c.in_ok-head.ensures.valid.0;
    is = λ t. subst (λ (k : ℕ). HasHead k (g.S.Space.now c.load_head.new.space c.args.file) c.in_ok-head.head) (sym c.in_ok-head.ensures.valid.1) (subst (λ (l : List ℕ). HasHead c.args.kind l c.in_ok-head.head) (sym (c.in_ok-head.ensures.reads.files t c.args.file)) (c.in_ok-head.ensures.head t));
  };
}

pub returns-in_err-found-clause-broken : goal.returns-in_err-found-clause-broken
returns-in_err-found-clause-broken g c = if_err_handed c.from_residual-in_err-found.result c.in_err-found.field-0.0 (λ (e : OpenErr). Breaks g.S.Space.tells c.args.kind c.args.file (g.S.Space.now c.args.space.now c.args.file) e) c.from_residual-in_err-found.ensures.1 (breaks_kind g.S.Space.tells c.in_ok-head.head.kind c.args.kind c.args.file (g.S.Space.now c.args.space.now c.args.file) (g.S.Space.now c.load_head.new.space c.args.file) c.in_err-found.field-0.0 c.in_ok-head.ensures.valid.1 (λ t. c.in_ok-head.ensures.reads.files t c.args.file) c.in_err-found.ensures.broken)

pub read_pool-requires-clause-head : goal.read_pool-requires-clause-head
read_pool-requires-clause-head g c = record {
  sound = c.in_ok-found.ensures.reads.is_sound;
  data_file = c.requires.file;
  valid = c.in_ok-head.ensures.valid.0;
  is = λ t. subst (λ (k : ℕ). HasHead k (g.S.Space.now c.read_blocks.new.space c.args.file) c.in_ok-head.head) (sym c.in_ok-head.ensures.valid.1) (subst (λ (l : List ℕ). HasHead c.args.kind l c.in_ok-head.head) (sym (c.in_ok-found.ensures.reads.files t c.args.file ∙ c.in_ok-head.ensures.reads.files t c.args.file)) (c.in_ok-head.ensures.head t));
}

pub read_pool-requires-clause-found : goal.read_pool-requires-clause-found
read_pool-requires-clause-found g c = λ t. subst (λ (l : List ℕ). WasSurveyed c.in_ok-head.head l c.in_ok-found.found) (sym (c.in_ok-found.ensures.reads.files t c.args.file)) (c.in_ok-found.ensures.found t)

pub returns-in_err-pool-clause-broken : goal.returns-in_err-pool-clause-broken
returns-in_err-pool-clause-broken g c = if_err_handed c.from_residual-in_err-pool.result c.in_err-pool.field-0.0 (λ (e : OpenErr). Breaks g.S.Space.tells c.args.kind c.args.file (g.S.Space.now c.args.space.now c.args.file) e) c.from_residual-in_err-pool.ensures.1 (breaks_kind g.S.Space.tells c.in_ok-head.head.kind c.args.kind c.args.file (g.S.Space.now c.args.space.now c.args.file) (g.S.Space.now c.read_blocks.new.space c.args.file) c.in_err-pool.field-0.0 c.in_ok-head.ensures.valid.1 (λ t. c.in_ok-found.ensures.reads.files t c.args.file ∙ c.in_ok-head.ensures.reads.files t c.args.file) c.in_err-pool.ensures.broken)

pub returns-clause-read : goal.returns-clause-read
returns-clause-read g c = λ t.
    subst (λ (k : ℕ). WasRead k (g.S.Space.now c.args.space.now c.args.file) c.in_ok-head.head (frees c.in_ok-pool.pool)) c.in_ok-head.ensures.valid.1
    (subst (λ (l : List ℕ). WasRead c.in_ok-head.head.kind l c.in_ok-head.head (frees c.in_ok-pool.pool)) (c.in_ok-found.ensures.reads.files t c.args.file ∙ c.in_ok-head.ensures.reads.files t c.args.file) (c.in_ok-pool.ensures.read t))

pub returns-in_err-pool-clause-reads : goal.returns-in_err-pool-clause-reads
returns-in_err-pool-clause-reads g c =
    only_reads_then g.S.Space c.args.space.now c.read_blocks.new.space c.read_pool.new.space
    (only_reads_then g.S.Space c.args.space.now c.load_head.new.space c.read_blocks.new.space c.load_head.ensures.reads c.read_blocks.ensures.reads)
    c.read_pool.ensures.reads

pub returns-clause-reads : goal.returns-clause-reads
returns-clause-reads g c =
    only_reads_then g.S.Space c.args.space.now c.read_blocks.new.space c.read_pool.new.space
    (only_reads_then g.S.Space c.args.space.now c.load_head.new.space c.read_blocks.new.space c.in_ok-head.ensures.reads c.in_ok-found.ensures.reads)
    c.read_pool.ensures.reads
