use Rattle.std.proofs.Common.{◌≡◌, ℕ, false, ◌∙◌, sym, ap, arith, subst, List, Option}
use Rattle.std.proofs.lemmas.Result.{err_from_is_err_and}
use Rattle.ud_log.specs.Scan.{ScannedAll}
use Rattle.tc_io.specs.Images.{now, Calls}
use Rattle.ud_log.specs.Log.{lengths, entries}
use Rattle.tc_base.specs.declared.kind.Rule.{Rule}
use Rattle.ud_log.specs.Undo.{all_short, all_formed, all_inside, broken, log_of, rule}
use Rattle.ud_log.proofs.Scanning.{scan_start, broken_three, broken_four}
use Rattle.tc_undo.specs.declared.scan.Seen.{Seen}
use Rattle.tc_undo.specs.Found.{AfterScan}
use Rattle.tc_undo.specs.Errors.{on_broken}
use Rattle.tc_undo.proofs.Volumes.{reads_refl}
use Rattle.tc_undo.proofs.scan.scan.Goals as goal

pub entries-init : goal.entries-init
entries-init g c = record { reads = reads_refl g.V.Volume c.args.vol.now c.requires.bound; scanned = λ t. scan_start _ _; order = c.requires.header.long }

pub returns-in_err-scan_entry-clause-broken : goal.returns-in_err-scan_entry-clause-broken
returns-in_err-scan_entry-clause-broken g c =
    let log = now (g.V.Volume.calls c.args.vol.now) 1 in
    let goes : (r : Rule) → (g.V.Volume.tells → (r ≡ rule 3) × (all_formed (entries (now (g.V.Volume.calls c.entries.vol) 1)) ≡ false)) → g.V.Volume.tells → log_of log ≡ broken r = λ r what t.
    let h = c.requires.header in
    let same = ap (λ (cs : Calls). now cs 1) (c.entries.invariant.reads.calls t) in
    let bad : all_formed (entries log) ≡ false = ap (λ (l : List ℕ). all_formed (entries l)) (sym same) ∙ (what t).1 in
    broken_three log (h.begins t) (omega (arith, h.long, h.len_is t)) (ap all_short (sym (h.records t)) ∙ h.short) bad ∙ ap broken (sym (what t).0) in
    let p = err_from_is_err_and c.from_residual.result c.from_residual.ensures.1 in
    rw (p.1, p.2) (on_broken _ _ _ goes c.in_err-scan_entry.ensures.broken)

pub returns-then-not-fine-clause-broken : goal.returns-then-not-fine-clause-broken
returns-then-not-fine-clause-broken g c = λ t.
    let h = c.requires.header in
    let log = now (g.V.Volume.calls c.args.vol.now) 1 in
    let same = ap (λ (cs : Calls). now cs 1) (c.entries.invariant.reads.calls t) in
    let all : ScannedAll log c.args.lens.now c.entries.at c.entries.fine = subst (λ (l : List ℕ). ScannedAll l c.args.lens.now c.entries.at c.entries.fine) same (subst (λ (o : Option Seen). AfterScan (now (g.V.Volume.calls c.entries.vol) 1) c.args.lens.now c.entries.at c.entries.fine o) c.in-None.is (c.in_ok-scan_entry.ensures.seen t)) in
    let bad : all_inside (lengths log) (entries log) ≡ false = ap (λ (l : List ℕ). all_inside l (entries log)) (sym (h.records t)) ∙ all.inside ∙ c.if-not-fine.true in
    broken_four log (h.begins t) (omega (arith, h.long, h.len_is t)) (ap all_short (sym (h.records t)) ∙ h.short) all.formed bad ∙ ap broken (sym c.rule.ensures)
