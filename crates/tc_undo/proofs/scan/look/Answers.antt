use Rattle.std.proofs.Common.{◌≡◌, ◌≤◌, true, ◌∙◌, sym, ap, arith, length, List, ℕ, subst, Err}
use Rattle.ud_log.specs.Scan.{ScannedAll}
use Rattle.tc_base.specs.Files.{Files}
use Rattle.tc_io.specs.Images.{now, Calls}
use Rattle.ud_log.specs.Log.{lengths, entries, magic}
use Rattle.ud_log.specs.Undo.{agrees, undoes, log_of, all_short, all_inside, by_log, Log}
use Rattle.ud_log.proofs.Scanning.{says_nothing, says_undo, broken_two, lengths_front}
use Rattle.ud_log.proofs.Heading.{length-lengths}
use Rattle.ud_state.specs.State.{AreLens}
use Rattle.tc_undo.proofs.scan.look.Goals as goal

pub as_they_are-requires-clause-log : goal.as_they_are-requires-clause-log
as_they_are-requires-clause-log g c = λ t.
    let same = ap (λ (cs : Calls). log_of (now cs 1)) (c.front_of.ensures.reads.calls t) in
    same ∙ says_nothing _ (c.in_ok-head.ensures.magic t) (omega (arith, c.if-len-lt152.true, c.requires.len t))

pub returns-then-len-lt152-clause-found : goal.returns-then-len-lt152-clause-found
returns-then-len-lt152-clause-found g c = record {
  finds = λ t. record {
    log = says_nothing _ (c.in_ok-head.ensures.magic t) (omega (arith, c.if-len-lt152.true, c.requires.len t));
    are = subst (λ (cs : Calls). AreLens c.in_ok-lens.lens (now cs)) (c.front_of.ensures.reads.calls t) (c.in_ok-lens.ensures.lens.are t);
  };
  short = c.in_ok-lens.ensures.lens.short;
}

pub returns-then-not-are_short-clause-broken : goal.returns-then-not-are_short-clause-broken
returns-then-not-are_short-clause-broken g c = λ t.
    let files : Files = now (g.V.Volume.calls c.args.vol.now) in
    let long : 152 ≤ length (files 1) = omega (arith, c.if-len-lt152.false, c.requires.len t) in
    let lens : lengths (files 1) ≡ c.read_lens-lens.result = sym (c.read_lens-lens.ensures ∙ ap lengths (c.in_ok-head.ensures.front t c.if-len-lt152.false) ∙ lengths_front (files 1) 152 (omega arith)) in
    ap (λ (l : Log). by_log l files) (broken_two (files 1) (c.in_ok-head.ensures.magic t) long (ap all_short lens ∙ sym c.are_short.ensures ∙ c.if-not-are_short.true)) ∙ ap Err (sym c.rule.ensures)

pub scan-requires-clause-header : goal.scan-requires-clause-header
scan-requires-clause-header g c =
    let old = g.V.Volume.calls c.args.vol.now in
    record {
      len_is = λ t. c.requires.len t ∙ sym (ap (λ (cs : Calls). length (now cs 1)) (c.front_of.ensures.reads.calls t));
      long = c.if-len-lt152.false;
      begins = λ t. ap (λ (cs : Calls). agrees magic (now cs 1)) (c.front_of.ensures.reads.calls t) ∙ c.in_ok-head.ensures.magic t;
      records = λ t. c.read_lens-lens.ensures ∙ ap lengths (c.in_ok-head.ensures.front t c.if-len-lt152.false) ∙ lengths_front (now old 1) 152 (omega arith) ∙ sym (ap (λ (cs : Calls). lengths (now cs 1)) (c.front_of.ensures.reads.calls t));
      short = sym c.are_short.ensures ∙ c.if-not-are_short.false;
    }

pub returns-clause-found : goal.returns-clause-found
returns-clause-found g c = record {
  finds = λ t.
      let log = now (g.V.Volume.calls c.args.vol.now) 1 in
      let long : 152 ≤ length log = omega (arith, c.if-len-lt152.false, c.requires.len t) in
      let lens : lengths log ≡ c.read_lens-lens.result = sym (c.read_lens-lens.ensures ∙ ap lengths (c.in_ok-head.ensures.front t c.if-len-lt152.false) ∙ lengths_front log 152 (omega arith)) in
      let all : ScannedAll log c.read_lens-lens.result c.in_ok-end.end true = subst (λ (cs : Calls). ScannedAll (now cs 1) c.read_lens-lens.result c.in_ok-end.end true) (c.front_of.ensures.reads.calls t) (c.in_ok-end.ensures.end t) in
      let inside : all_inside (lengths log) (entries log) ≡ true = ap (λ (l : List ℕ). all_inside l (entries log)) lens ∙ all.inside in
      let short : all_short (lengths log) ≡ true = ap all_short lens ∙ sym c.are_short.ensures ∙ c.if-not-are_short.false in
      record {
        log = says_undo log (c.in_ok-head.ensures.magic t) long short all.formed inside ∙ ap (λ (l : List ℕ). undoes l (entries log)) lens;
        long = ap length (sym lens) ∙ length-lengths log;
        inside = all.inside;
        scanned = all;
      };
  short = sym c.are_short.ensures ∙ c.if-not-are_short.false;
}
