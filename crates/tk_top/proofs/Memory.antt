-- A run that serves a database in memory.
use Rattle.std.proofs.Common.{◌≡◌, ◌<◌, ◌-◌, ◌^◌, ◌++◌, inr, ⊎_elim, ℕ, Bool, true, false, List, [], ◌∷◌, refl, sym, ap, subst, arith}
use Rattle.std.specs.Prelude.{Result, Ok, Err, OnOk}
use Rattle.tc_base.specs.Files.{Files}
use Rattle.tc_base.specs.declared.fault.Fault.{Fault}
use Rattle.tc_io.specs.Causes.{HasCause, Rose}
use Rattle.tc_io.specs.Told.{Adds}
use Rattle.tc_io.specs.declared.sink.Sink as sink
use Rattle.tc_io.specs.declared.wire.At.{At}
use Rattle.tc_io.specs.declared.wire.Wire as wire
use Rattle.tc_space.specs.declared.space.Space as space
use Rattle.tc_model.specs.Contents.{Contents, Walk}
use Rattle.ty_ulog.specs.declared.record.Record.{Record}
use Rattle.ty_world.specs.Clients.{Client}
use Rattle.ty_world.specs.Logs.{Settings, plain}
use Rattle.ty_world.specs.World.{Mark, heard_by, world_after}
use Rattle.ty_wire.specs.Prefixes.{IsPrefix}
use Rattle.ty_rounds.specs.Kept.{HoldsMark}
use Rattle.ty_rounds.specs.Serving.{FillsNext, FillsPart, of_client, of_link, at_commit}
use Rattle.ty_rounds.specs.Turns.{Told}
use Rattle.ty_rounds.proofs.Telling.{Adds-none, Adds-then}
use Rattle.tk_mgr.specs.Managing.{Manages}
use Rattle.tk_mgr.specs.Tasks.{text_of}
use Rattle.tk_mgr.specs.declared.errors.MgrErr.{MgrErr}
use Rattle.tk_mgr.specs.declared.errors.MgrErr.TheVariants as mgr
use Rattle.tk_mgr.specs.declared.task.Task.TheVariants.{Drill}
use Rattle.tk_top.specs.declared.ends.End.{End}
use Rattle.tk_top.specs.declared.ends.End.TheVariants.{Done, Words, Refused, VolumeFault, Broken, NoMemory, Full, WireFault, TurnsSpent}
use Rattle.tk_top.specs.Causes.{Caused}
use Rattle.tk_top.specs.Ends.{IsEnd}
use Rattle.tk_top.specs.GapLines.{TellsGaps, gap_lines}
use Rattle.tk_top.specs.Over.{FullPlain}
use Rattle.tk_top.specs.Serving.{RunsOver}
use Rattle.tk_top.specs.Starts.{answering, begun, plainly}
use Rattle.tk_top.specs.Tasks.{end_of_task}
use Rattle.tk_top.specs.Top.{before, no_keys, DrillsMemory, IsDrilled, IsServing, MemoryRun}
use Rattle.tk_top.specs.declared.words.Memory.{Memory}
use Rattle.tk_top.proofs.Kept.{part_alone}
use Rattle.tk_top.proofs.Managed.{done_is}
use Rattle.tk_top.proofs.Over.{unserved, not_played}

-- a database in memory has neither faults of a volume nor limits
pub serving_is : (end : End) → IsEnd end → (end ≡ VolumeFault → ⊥) → (end ≡ Full → ⊥) → IsServing end
serving_is Done e fault full = tt
serving_is Words e fault full = e
serving_is Refused e fault full = e
serving_is VolumeFault e fault full = fault refl
serving_is (Broken file rule) e fault full = e
serving_is NoMemory e fault full = tt
serving_is Full e fault full = full refl
serving_is WireFault e fault full = tt
serving_is TurnsSpent e fault full = tt

pub no_volume : (end : End) (w w' : ℕ) → Caused end 0 0 w w' → end ≡ VolumeFault → ⊥
no_volume end w w' c is = let r : Rose 0 0 = subst (λ (e : End). Caused e 0 0 w w') is c in omega (arith, r)

pub wire_fault : (end : End) (v v' w w' : ℕ) → Caused end v v' w w' → end ≡ WireFault → Rose w w'
wire_fault end v v' w w' c is = subst (λ (e : End). Caused e v v' w w') is c

-- where no contents fill it, no round does
none_part : {fills : Contents → Contents → Type 0} → ((c d : Contents) → fills c d → ⊥) → (is : Settings) (rs : List Record) (c : Contents) (w : Walk) (ks : List Client) → FillsPart is rs fills c w ks → ⊥
none_part {fills} none is rs c w ks (of_client full) = next full.back full.next
  where
    next : (back : List Client) → FillsNext is fills c w full.front back → ⊥
    next [] x = none c c (x.1 c c)
    next (k ∷ more) x = none _ _ x.full
none_part none is rs c w ks (of_link full) = none _ _ full.full
none_part none is rs c w ks (at_commit some all) = none c c (all c c)

pub none_filled : {fills : Contents → Contents → Type 0} {start : Mark → Type 0} {a b : Told} → ((c d : Contents) → fills c d → ⊥) → FullPlain fills start a b → (m : Mark) → start m → ⊥
none_filled {fills} none x m h =
    let w0 = begun (answering plain [] []) [] m in
    let w = world_after x.earlier w0 in
    none_part none w.is w.records w.contents w.walk (heard_by w x.ev x.bytes) (part_alone fills (λ at size. ⊥) x.earlier w0 x.ev x.bytes refl (x.some m h []))

-- and a fault is one of the wire
pub serving_caused : (end : End) (v v' w w' : ℕ) → IsServing end → (end ≡ WireFault → Rose w w') → Caused end v v' w w'
serving_caused Done v v' w w' is rose = tt
serving_caused Words v v' w w' is rose = tt
serving_caused Refused v v' w w' is rose = tt
serving_caused VolumeFault v v' w w' is rose = absurd is
serving_caused (Broken file rule) v v' w w' is rose = tt
serving_caused NoMemory v v' w w' is rose = tt
serving_caused Full v v' w w' is rose = tt
serving_caused WireFault v v' w w' is rose = rose refl
serving_caused TurnsSpent v v' w w' is rose = tt

module _ {W : Type 0} (g : wire.Ghosts W) where
  pub memory_run : {S : Type 0} (s : space.Ghosts S) (reopens : Files → Contents → Type 0) {made : Files → Type 0} (end : End) (memory : Memory) (at : At) (turns : ℕ) (old new : S) (x y : W) (start : Mark → Type 0) → RunsOver s g plainly reopens made end turns at old new x y start → IsServing end → start (no_keys memory) → (n n' : ℕ) → Caused end n n' (g.faults x) (g.faults y) → MemoryRun g end memory at turns x y
  memory_run s reopens {made} end memory at turns old new x y start run is h n n' caused = let r = run.ends (no_keys memory) h in record { ends = is; entries = run.entries; told = run.told; asks = r.asked; serves = r.serves; played = run.played; plays = run.plays (no_keys memory) h; caused = λ count count'. serving_caused end count count' _ _ is (wire_fault end n n' _ _ caused) }

  -- there was no memory before any call
  pub memory_none : (memory : Memory) (at : At) (turns : ℕ) (x : W) → MemoryRun g NoMemory memory at turns x x
  memory_none memory at turns x = record {
    ends = tt;
    entries = [];
    told = Adds-none (g.transcript x);
    asks = tt;
    serves = unserved plainly NoMemory turns at [] (no_keys memory) [] refl (inr refl) (λ e. absurd cc) (λ e. absurd cc);
    played = λ e. absurd (⊎_elim (λ i. cc) (λ i. cc) e);
    plays = λ acts dials given p. not_played plainly.is turns (g.plays x) NoMemory acts given (before memory) (λ e. absurd cc) (λ e. absurd cc);
    caused = λ count count'. tt;
  }

-- a sink that was never refused took what was put
pub line_told : (r : Result (Unit {0}) Fault) (a b : ℕ) (P : Type 0) → OnOk r P → HasCause a b r → b ≡ a → a < 2 ^ 64 - 1 → P
line_told (Ok u) a b P ok cause same lt = ok
line_told (Err e) a b P ok cause same lt = absurd (let f = cause.failed in omega (arith, f, same, lt))

-- behind the lines of gaps
pub lines_told : {E : Type 0} (k : sink.Ghosts E) (gaps : List (ℕ × ℕ)) (line : List ℕ) (res : Result (Unit {0}) Fault) (p q r : E) → TellsGaps k gaps p q → OnOk res (Adds (k.taken q) (k.taken r) line) → HasCause (k.faults q) (k.faults r) res → k.faults r ≡ k.faults p → k.faults p < 2 ^ 64 - 1 → Adds (k.taken p) (k.taken r) (gap_lines gaps ++ line)
lines_told k gaps line res p q r tells ok cause same few =
    let a = tells.later in
    let b = cause.later in
    let still : k.faults q ≡ k.faults p = omega (arith, same, a, b) in
    let on : k.faults r ≡ k.faults q = omega (arith, same, a, b) in
    let fewer : k.faults q < 2 ^ 64 - 1 = omega (arith, few, still) in
    Adds-then (k.taken p) (k.taken q) (k.taken r) (gap_lines gaps) line (tells.lined still few) (line_told res (k.faults q) (k.faults r) (Adds (k.taken q) (k.taken r) line) ok cause on fewer)

-- ---- drills

-- a space of no files has neither faults nor limits
pub drilled_memory : {S B O : Type 0} (s : space.Ghosts S) (o : sink.Ghosts O) (holds : B → Files → Contents → Type 0) (reopens : Files → Contents → Type 0) (lines : Files → List ℕ → Type 0) (result : Result Bool MgrErr) (base : B) (old new : S) (p q : O) (memory : Memory) (seed n : ℕ)
    → HoldsMark s holds reopens base old (no_keys memory) → (result ≡ Err mgr.Fault → ⊥) → (result ≡ Err mgr.Full → ⊥) → (result ≡ Err mgr.Sink → Rose (o.faults p) (o.faults q)) → Manages s o holds reopens lines (Drill seed n) result base old new p q → DrillsMemory o (end_of_task result) memory seed n p q
drilled_memory s o holds reopens lines result base old new p q memory seed n h fault full sinks managed =
    let m = managed.by (no_keys memory) h in
    record {
      ends = which result (λ is. let x = m.ok false is in cc) fault full;
      taken = managed.taken;
      told = managed.told;
      front = ⊎_elim (λ nothing. (_, ap (λ (xs : List ℕ). xs ++ text_of (Drill seed n) (no_keys memory).contents) (sym nothing))) (λ f. subst (λ (t : List ℕ). IsPrefix managed.taken t) f.prints f.front) m.printed;
      done = λ is. m.whole (done_is result is);
      caused = λ count count'. cause result count count' fault sinks;
    }
  where
    which : (r : Result Bool MgrErr) → (r ≡ Ok false → ⊥) → (r ≡ Err mgr.Fault → ⊥) → (r ≡ Err mgr.Full → ⊥) → IsDrilled (end_of_task r)
    which (Ok true) failed fault full = tt
    which (Ok false) failed fault full = failed refl
    which (Err mgr.Full) failed fault full = full refl
    which (Err mgr.Fault) failed fault full = fault refl
    which (Err mgr.Sink) failed fault full = tt
    which (Err mgr.Memory) failed fault full = tt

    cause : (r : Result Bool MgrErr) (count count' : ℕ) → (r ≡ Err mgr.Fault → ⊥) → (r ≡ Err mgr.Sink → Rose (o.faults p) (o.faults q)) → Caused (end_of_task r) count count' (o.faults p) (o.faults q)
    cause (Ok true) count count' fault sinks = tt
    cause (Ok false) count count' fault sinks = tt
    cause (Err mgr.Full) count count' fault sinks = tt
    cause (Err mgr.Fault) count count' fault sinks = absurd (fault refl)
    cause (Err mgr.Sink) count count' fault sinks = sinks refl
    cause (Err mgr.Memory) count count' fault sinks = tt
