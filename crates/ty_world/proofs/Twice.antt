-- An event takes acts off what is left, each counted twice.
use Rattle.std.proofs.Common.{◌≡◌, ◌⊎◌, inl, inr, ℕ, ◌+◌, ◌≤◌, Bool, true, false, cond, List, [], ◌∷◌, length, refl, sym, arith}
use Rattle.tc_io.specs.declared.wire.Ev.TheVariants as event
use Rattle.tc_io.specs.declared.act.Act.{Act}
use Rattle.tc_io.specs.declared.act.Act.TheVariants.{Opened, Read, Ended, Quiet}
use Rattle.tc_io.specs.Lines.{has}
use Rattle.tc_io.specs.Script.{Lines, can_open, can_end, can_read, next_act, lines_after}
use Rattle.ty_world.specs.Clients.{Client}
use Rattle.ty_world.specs.World.{heard, at_conn, with_read, with_end}
use Rattle.ty_world.specs.Measure.{measure}
use Rattle.ty_world.specs.Playing.{Meets}
use Rattle.ty_world.proofs.Events.{Next, total_keeps, total_maps, opens, open_skipped, read_comes, read_skipped, end_comes, end_skipped}

-- twice what is left of the script's acts
abbrev pub twice : List Client → List Act → Lines → ℕ
twice ks acts l = length acts + measure ks acts l

abbrev pub Outs : List Client → Lines → List ℕ → Bool → Next → ℕ → Type 0
Outs ks l paused busy n m =
    ((n.0 ≡ event.Shut) × (n.2 ≡ []) × (busy ≡ false))
    ⊎ (((twice (heard ks n.0 n.1) n.2 (lines_after l n.0) + 2 ≤ m) × (n.0 ≡ event.Shut → ⊥))
    ⊎ ((n.0 ≡ event.Quiet) × (twice ks n.2 l ≤ m) × ((busy ≡ true) ⊎ ((c : ℕ) × (has paused c ≡ true)))))

outs_more : (ks : List Client) (l : Lines) (paused : List ℕ) (busy : Bool) (n : Next) (m m' : ℕ) → m ≤ m' → Outs ks l paused busy n m → Outs ks l paused busy n m'
outs_more ks l paused busy n m m' le (inl end) = inl end
outs_more ks l paused busy n m m' le (inr (inl falls)) = inr (inl (omega (arith, falls.0, le), falls.1))
outs_more ks l paused busy n m m' le (inr (inr kept)) = inr (inr (kept.0, omega (arith, kept.1, le), kept.2))

pub next_outs : (l : Lines) (ks : List Client) (acts : List Act) (paused : List ℕ) (busy : Bool) → Meets l ks → Outs ks l paused busy (next_act acts l paused busy) (twice ks acts l)
next_outs l ks [] paused true h = inr (inr (refl, omega arith, inl refl))
next_outs l ks [] paused false h = inl (refl, refl, refl)
next_outs l ks (Opened c ∷ acts) paused busy h = go (can_open l c) refl (next_outs l ks acts paused busy h)
  where
    go : (b : Bool) → can_open l c ≡ b → Outs ks l paused busy (next_act acts l paused busy) (twice ks acts l) → Outs ks l paused busy (cond b (event.Opened c, [], acts) (next_act acts l paused busy)) (twice ks (Opened c ∷ acts) l)
    go true can ih = (let o = opens l ks acts c h.each can in inr (inl (omega (arith, o), λ e. cc)))
    go false cannot ih =
        let a = total_keeps l acts (Opened c ∷ acts) ks h.each (λ k f. refl) in
        let d = open_skipped l ks acts c h cannot in
        outs_more ks l paused busy (next_act acts l paused busy) (twice ks acts l) _ (omega (arith, a, d)) ih
next_outs l ks (Read c bytes ∷ acts) paused busy h = go (can_read l c bytes) (has paused c) refl refl (next_outs l ks acts paused busy h)
  where
    go : (b p : Bool) → can_read l c bytes ≡ b → has paused c ≡ p → Outs ks l paused busy (next_act acts l paused busy) (twice ks acts l) → Outs ks l paused busy (cond b (cond p (event.Quiet, [], Read c bytes ∷ acts) (event.Read c (length bytes), bytes, acts)) (next_act acts l paused busy)) (twice ks (Read c bytes ∷ acts) l)
    go true true can held ih = inr (inr (refl, omega arith, inr (c, held)))
    go true false can held ih =
        let a = total_maps l (at_conn c (with_read bytes)) (Read c bytes ∷ acts) acts ks h.each (λ k f. read_comes l acts c bytes k f can) in
        inr (inl (omega (arith, a), λ e. cc))
    go false p cannot held ih =
        let a = total_keeps l (Read c bytes ∷ acts) acts ks h.each (λ k f. sym (read_skipped l acts c bytes k f cannot)) in
        outs_more ks l paused busy (next_act acts l paused busy) (twice ks acts l) _ (omega (arith, a)) ih
next_outs l ks (Ended c ∷ acts) paused busy h = go (can_end l c) refl (next_outs l ks acts paused busy h)
  where
    go : (b : Bool) → can_end l c ≡ b → Outs ks l paused busy (next_act acts l paused busy) (twice ks acts l) → Outs ks l paused busy (cond b (event.Ended c, [], acts) (next_act acts l paused busy)) (twice ks (Ended c ∷ acts) l)
    go true can ih =
        let a = total_maps l (at_conn c with_end) (Ended c ∷ acts) acts ks h.each (λ k f. end_comes l acts c k f) in
        inr (inl (omega (arith, a), λ e. cc))
    go false cannot ih =
        let a = total_keeps l (Ended c ∷ acts) acts ks h.each (λ k f. sym (end_skipped l acts c k f cannot)) in
        outs_more ks l paused busy (next_act acts l paused busy) (twice ks acts l) _ (omega (arith, a)) ih
next_outs l ks (Quiet ∷ acts) paused busy h =
    let a = total_keeps l acts (Quiet ∷ acts) ks h.each (λ k f. refl) in
    inr (inl (omega (arith, a), λ e. cc))
