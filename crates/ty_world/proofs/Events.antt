-- An event takes acts off what is left.
use Rattle.std.proofs.Common.{◌≡◌, ◌⊎◌, inl, inr, ℕ, suc, ◌+◌, ◌≤◌, Bool, true, false, not, cond, List, [], ◌∷◌, ◌++◌, length, refl, sym, ap, ◌∙◌, arith, append_assoc, map, eq-eqb}
use Rattle.std.specs.Prelude.{◌&&◌, ◌||◌, nat_eq, nat_lt}
use Rattle.std.proofs.lemmas.Bool.{eqb-true, ltb-false, ne_eqb, cond-false, cond-true, or_from, or_left}
use Rattle.std.proofs.lemmas.List.Folds.{list_any-append}
use Rattle.tc_io.specs.declared.wire.Ev.{Ev}
use Rattle.tc_io.specs.declared.wire.Ev.TheVariants as event
use Rattle.tc_io.specs.declared.act.Act.{Act}
use Rattle.tc_io.specs.declared.act.Act.TheVariants.{Opened, Read, Ended, Quiet}
use Rattle.tc_io.specs.Lines.{has}
use Rattle.tc_io.specs.Script.{Lines, can_open, can_end, can_read, is_read, next_act, lines_after}
use Rattle.ty_world.specs.Frames.{frames}
use Rattle.ty_world.specs.Clients.{Client, is_client}
use Rattle.ty_world.specs.World.{heard, at_conn, new_client, clients_in, with_read, with_end}
use Rattle.ty_world.specs.Measure.{coming, requests_in, text_of, left_of, total, measure}
use Rattle.ty_world.specs.Playing.{Fits, AllFit, Meets}

abbrev pub Next : Type 0
Next = Ev × List ℕ × List Act

-- ---- all connections

pub total_keeps : (l : Lines) (acts acts' : List Act) (ks : List Client) → AllFit l ks → ((k : Client) → Fits l k → left_of acts' k ≡ left_of acts k) → total acts' ks ≡ total acts ks
total_keeps l acts acts' [] h f = refl
total_keeps l acts acts' (k ∷ ks) h f = let a = f k h.0 in let b = total_keeps l acts acts' ks h.1 f in omega (arith, a, b)

pub total_maps : (l : Lines) (g : Client → Client) (acts acts' : List Act) (ks : List Client) → AllFit l ks → ((k : Client) → Fits l k → left_of acts' (g k) ≡ left_of acts k) → total acts' (map g ks) ≡ total acts ks
total_maps l g acts acts' [] h f = refl
total_maps l g acts acts' (k ∷ ks) h f = let a = f k h.0 in let b = total_maps l g acts acts' ks h.1 f in omega (arith, a, b)

pub total_appends : (acts : List Act) (ks : List Client) (k : Client) → total acts (ks ++ k ∷ []) ≡ total acts ks + left_of acts k
total_appends acts [] k = omega arith
total_appends acts (j ∷ ks) k = let a = total_appends acts ks k in omega (arith, a)

fit_maps : (l l' : Lines) (g : Client → Client) (ks : List Client) → AllFit l ks → ((k : Client) → Fits l k → Fits l' (g k)) → AllFit l' (map g ks)
fit_maps l l' g [] h f = tt
fit_maps l l' g (k ∷ ks) h f = (f k h.0, fit_maps l l' g ks h.1 f)

fit_keeps : (l l' : Lines) (ks : List Client) → AllFit l ks → ((k : Client) → Fits l k → Fits l' k) → AllFit l' ks
fit_keeps l l' [] h f = tt
fit_keeps l l' (k ∷ ks) h f = (f k h.0, fit_keeps l l' ks h.1 f)

fit_appends : (l : Lines) (ks : List Client) (k : Client) → AllFit l ks → Fits l k → AllFit l (ks ++ k ∷ [])
fit_appends l [] k h f = (f, tt)
fit_appends l (j ∷ ks) k h f = (h.0, fit_appends l ks k h.1 f)

-- ---- what is skipped was not counted

-- either it is another connection, or it has ended
ended_or_other : (l : Lines) (k : Client) (d : ℕ) (fits : Bool) → Fits l k → (can_end l d && fits) ≡ false → ((nat_eq k.conn d && fits) ≡ false) ⊎ (k.ended ≡ true)
ended_or_other l k d fits h e = go (nat_eq k.conn d) fits refl e
  where
    at_end : (a b : Bool) → a ≡ true → ((a && not b) && true) ≡ false → b ≡ true
    at_end true true p q = refl
    at_end true false p q = absurd cc
    at_end false b p q = absurd cc

    go : (b f : Bool) → nat_eq k.conn d ≡ b → (can_end l d && f) ≡ false → ((b && f) ≡ false) ⊎ (k.ended ≡ true)
    go false f is cannot = inl refl
    go true false is cannot = inl refl
    go true true is cannot =
        let same : k.conn ≡ d = eqb-true k.conn d is in
        inr (h.ends ∙ ap (has l.ended) same ∙ at_end (has l.conns d) (has l.ended d) (ap (has l.conns) (sym same) ∙ h.listed) cannot)

-- of no client nothing is counted
as_left : (k : Client) (m n : ℕ) → m ≡ n → cond (is_client k.role) m 0 ≡ cond (is_client k.role) n 0
as_left k m n e = ap (λ (x : ℕ). cond (is_client k.role) x 0) e

pub read_skipped : (l : Lines) (acts : List Act) (d : ℕ) (bytes : List ℕ) (k : Client) → Fits l k → can_read l d bytes ≡ false → left_of (Read d bytes ∷ acts) k ≡ left_of acts k
read_skipped l acts d bytes k h cannot = as_left k (frames (text_of (Read d bytes ∷ acts) k)) (frames (text_of acts k)) text
  where
    text : frames (text_of (Read d bytes ∷ acts) k) ≡ frames (text_of acts k)
    text = elim (ended_or_other l k d (is_read bytes) h cannot) [
      | inl other ↦ ap (λ (b : Bool). frames (k.unread ++ cond k.ended [] (cond b (bytes ++ coming k.conn acts) (coming k.conn acts)))) other
      | inr over ↦ ap (λ (b : Bool). frames (k.unread ++ cond b [] (coming k.conn (Read d bytes ∷ acts)))) over ∙ sym (ap (λ (b : Bool). frames (k.unread ++ cond b [] (coming k.conn acts))) over)
    ]

and_true : (a : Bool) → (a && true) ≡ a
and_true true = refl
and_true false = refl

pub end_skipped : (l : Lines) (acts : List Act) (d : ℕ) (k : Client) → Fits l k → can_end l d ≡ false → left_of (Ended d ∷ acts) k ≡ left_of acts k
end_skipped l acts d k h cannot = as_left k (frames (text_of (Ended d ∷ acts) k)) (frames (text_of acts k)) text
  where
    text : frames (text_of (Ended d ∷ acts) k) ≡ frames (text_of acts k)
    text = elim (ended_or_other l k d true h (and_true (can_end l d) ∙ cannot)) [
      | inl other ↦ ap (λ (b : Bool). frames (k.unread ++ cond k.ended [] (cond b [] (coming k.conn acts)))) (sym (and_true (nat_eq k.conn d)) ∙ other)
      | inr over ↦ ap (λ (b : Bool). frames (k.unread ++ cond b [] (coming k.conn (Ended d ∷ acts)))) over ∙ sym (ap (λ (b : Bool). frames (k.unread ++ cond b [] (coming k.conn acts))) over)
    ]

pub open_skipped : (l : Lines) (ks : List Client) (acts : List Act) (d : ℕ) → Meets l ks → can_open l d ≡ false → requests_in l.given (Opened d ∷ acts) ≡ requests_in l.given acts
open_skipped l ks acts d h cannot = cond-true _ _ _ (go (nat_lt d l.given) (has l.conns d) refl refl cannot)
  where
    go : (a b : Bool) → nat_lt d l.given ≡ a → has l.conns d ≡ b → (not a && not b) ≡ false → a ≡ true
    go true b p q r = refl
    go false false p q r = absurd cc
    go false true p q r = absurd (let f = (h.fresh d (ltb-false d l.given p)).0 in cc)

-- ---- what comes was counted

pub read_comes : (l : Lines) (acts : List Act) (d : ℕ) (bytes : List ℕ) (k : Client) → Fits l k → can_read l d bytes ≡ true → left_of acts (at_conn d (with_read bytes) k) ≡ left_of (Read d bytes ∷ acts) k
read_comes l acts d bytes k h can = go (nat_eq k.conn d) refl
  where
    both : (a b c : Bool) → ((a && not b) && c) ≡ true → (b ≡ false) × (c ≡ true)
    both true false true e = (refl, refl)
    both true false false e = absurd cc
    both true true c e = absurd cc
    both false b c e = absurd cc

    facts : (has l.ended d ≡ false) × (is_read bytes ≡ true)
    facts = both (has l.conns d) (has l.ended d) (is_read bytes) can

    go : (b : Bool) → nat_eq k.conn d ≡ b → left_of acts (cond b (with_read bytes k) k) ≡ cond (is_client k.role) (frames (k.unread ++ cond k.ended [] (cond (b && is_read bytes) (bytes ++ coming k.conn acts) (coming k.conn acts)))) 0
    go false is = refl
    go true is =
        let going : k.ended ≡ false = h.ends ∙ ap (has l.ended) (eqb-true k.conn d is) ∙ facts.0 in
        as_left k (frames ((k.unread ++ bytes) ++ cond k.ended [] (coming k.conn acts))) _
        (ap frames (ap (λ (b : Bool). (k.unread ++ bytes) ++ cond b [] (coming k.conn acts)) going ∙ append_assoc k.unread bytes (coming k.conn acts)
        ∙ ap (λ (b : Bool). k.unread ++ cond b (bytes ++ coming k.conn acts) (coming k.conn acts)) (sym facts.1)
        ∙ ap (λ (b : Bool). k.unread ++ cond b [] (cond (is_read bytes) (bytes ++ coming k.conn acts) (coming k.conn acts))) (sym going)))

pub end_comes : (l : Lines) (acts : List Act) (d : ℕ) (k : Client) → Fits l k → left_of acts (at_conn d with_end k) ≡ left_of (Ended d ∷ acts) k
end_comes l acts d k h = go (nat_eq k.conn d) k.ended
  where
    go : (b e : Bool) → left_of acts (cond b (record k { ended = true }) (record k { ended = e })) ≡ cond (is_client k.role) (frames (k.unread ++ cond e [] (cond b [] (coming k.conn acts)))) 0
    go false e = refl
    go true true = refl
    go true false = refl

-- ---- the next event

-- it is the end of the script, or it takes something off, or a read is kept back or waited for
abbrev pub Out : List Client → Lines → List ℕ → Bool → Next → ℕ → Type 0
Out ks l paused busy n m =
    ((n.0 ≡ event.Shut) × (n.2 ≡ []) × (busy ≡ false))
    ⊎ (((measure (heard ks n.0 n.1) n.2 (lines_after l n.0) + 1 ≤ m) × (n.0 ≡ event.Shut → ⊥))
    ⊎ ((n.0 ≡ event.Quiet) × (measure ks n.2 l ≤ m) × ((busy ≡ true) ⊎ ((c : ℕ) × (has paused c ≡ true)))))

out_more : (ks : List Client) (l : Lines) (paused : List ℕ) (busy : Bool) (n : Next) (m m' : ℕ) → m ≤ m' → Out ks l paused busy n m → Out ks l paused busy n m'
out_more ks l paused busy n m m' le (inl end) = inl end
out_more ks l paused busy n m m' le (inr (inl falls)) = inr (inl (omega (arith, falls.0, le), falls.1))
out_more ks l paused busy n m m' le (inr (inr kept)) = inr (inr (kept.0, omega (arith, kept.1, le), kept.2))

new_left : (acts : List Act) (c n : ℕ) → left_of acts (new_client c n) ≡ frames (coming c acts)
new_left acts c n = refl

pub opens : (l : Lines) (ks : List Client) (acts : List Act) (c : ℕ) → AllFit l ks → can_open l c ≡ true → measure (ks ++ new_client c (clients_in ks) ∷ []) acts (lines_after l (event.Opened c)) + 1 ≤ measure ks (Opened c ∷ acts) l
opens l ks acts c h can =
    let a = total_appends acts ks (new_client c (clients_in ks)) in
    let b = total_keeps l acts (Opened c ∷ acts) ks h (λ k f. refl) in
    let d : requests_in l.given (Opened c ∷ acts) ≡ frames (coming c acts) + requests_in (suc c) acts = cond-false _ _ _ (first (nat_lt c l.given) (has l.conns c) can) in
    let e = new_left acts c (clients_in ks) in
    let one : c + 1 ≡ suc c = omega arith in
    let f : requests_in (c + 1) acts ≡ requests_in (suc c) acts = ap (λ (n : ℕ). requests_in n acts) one in
    omega (arith, a, b, d, e, f)
  where
    first : (a b : Bool) → (not a && not b) ≡ true → a ≡ false
    first false b e = refl
    first true b e = absurd cc

pub next_out : (l : Lines) (ks : List Client) (acts : List Act) (paused : List ℕ) (busy : Bool) → Meets l ks → Out ks l paused busy (next_act acts l paused busy) (measure ks acts l)
next_out l ks [] paused true h = inr (inr (refl, omega arith, inl refl))
next_out l ks [] paused false h = inl (refl, refl, refl)
next_out l ks (Opened c ∷ acts) paused busy h = go (can_open l c) refl (next_out l ks acts paused busy h)
  where
    go : (b : Bool) → can_open l c ≡ b → Out ks l paused busy (next_act acts l paused busy) (measure ks acts l) → Out ks l paused busy (cond b (event.Opened c, [], acts) (next_act acts l paused busy)) (measure ks (Opened c ∷ acts) l)
    go true can ih = inr (inl (opens l ks acts c h.each can, λ e. cc))
    go false cannot ih =
        let a = total_keeps l acts (Opened c ∷ acts) ks h.each (λ k f. refl) in
        let d = open_skipped l ks acts c h cannot in
        out_more ks l paused busy (next_act acts l paused busy) (measure ks acts l) _ (omega (arith, a, d)) ih
next_out l ks (Read c bytes ∷ acts) paused busy h = go (can_read l c bytes) (has paused c) refl refl (next_out l ks acts paused busy h)
  where
    go : (b p : Bool) → can_read l c bytes ≡ b → has paused c ≡ p → Out ks l paused busy (next_act acts l paused busy) (measure ks acts l) → Out ks l paused busy (cond b (cond p (event.Quiet, [], Read c bytes ∷ acts) (event.Read c (length bytes), bytes, acts)) (next_act acts l paused busy)) (measure ks (Read c bytes ∷ acts) l)
    go true true can held ih = inr (inr (refl, omega arith, inr (c, held)))
    go true false can held ih =
        let a = total_maps l (at_conn c (with_read bytes)) (Read c bytes ∷ acts) acts ks h.each (λ k f. read_comes l acts c bytes k f can) in
        inr (inl (omega (arith, a), λ e. cc))
    go false p cannot held ih =
        let a = total_keeps l (Read c bytes ∷ acts) acts ks h.each (λ k f. sym (read_skipped l acts c bytes k f cannot)) in
        out_more ks l paused busy (next_act acts l paused busy) (measure ks acts l) _ (omega (arith, a)) ih
next_out l ks (Ended c ∷ acts) paused busy h = go (can_end l c) refl (next_out l ks acts paused busy h)
  where
    go : (b : Bool) → can_end l c ≡ b → Out ks l paused busy (next_act acts l paused busy) (measure ks acts l) → Out ks l paused busy (cond b (event.Ended c, [], acts) (next_act acts l paused busy)) (measure ks (Ended c ∷ acts) l)
    go true can ih =
        let a = total_maps l (at_conn c with_end) (Ended c ∷ acts) acts ks h.each (λ k f. end_comes l acts c k f) in
        inr (inl (omega (arith, a), λ e. cc))
    go false cannot ih =
        let a = total_keeps l (Ended c ∷ acts) acts ks h.each (λ k f. sym (end_skipped l acts c k f cannot)) in
        out_more ks l paused busy (next_act acts l paused busy) (measure ks acts l) _ (omega (arith, a)) ih
next_out l ks (Quiet ∷ acts) paused busy h =
    let a = total_keeps l acts (Quiet ∷ acts) ks h.each (λ k f. refl) in
    inr (inl (omega (arith, a), λ e. cc))

-- ---- the connections stay those of the script

or_false : (a : Bool) → (a || false) ≡ a
or_false true = refl
or_false false = refl

has_more : (xs : List ℕ) (c d : ℕ) → has (xs ++ c ∷ []) d ≡ (has xs d || nat_eq d c)
has_more xs c d = list_any-append (nat_eq d) xs (c ∷ []) ∙ ap (λ (b : Bool). has xs d || b) (or_false (nat_eq d c))

or_right : (a : Bool) → (a || true) ≡ true
or_right true = refl
or_right false = refl

pub opened_meets : (l : Lines) (ks : List Client) (c : ℕ) → Meets l ks → can_open l c ≡ true → Meets (lines_after l (event.Opened c)) (ks ++ new_client c (clients_in ks) ∷ [])
opened_meets l ks c h can = record {
  each = fit_appends l' ks (new_client c (clients_in ks)) (fit_keeps l l' ks h.each (λ k f. record {
    listed = has_more l.conns c k.conn ∙ or_left _ _ f.listed;
    ends = f.ends;
    below = omega (arith, f.below, above);
    here = f.here;
    going = f.going;
  })) (record {
    listed = has_more l.conns c c ∙ ap (λ (b : Bool). has l.conns c || b) (eq-eqb c c refl) ∙ or_right (has l.conns c);
    ends = sym ((h.fresh c above).1);
    below = omega arith;
    here = refl;
    going = λ e. refl;
  });
  fresh = λ d le. let f = h.fresh d (omega (arith, above, le)) in (has_more l.conns c d ∙ or_from _ _ f.0 (ne_eqb d c (λ e. absurd (omega (arith, e, le)))), f.1);
}
  where
    l' : Lines
    l' = lines_after l (event.Opened c)

    first : (a b : Bool) → (not a && not b) ≡ true → a ≡ false
    first false b e = refl
    first true b e = absurd cc

    above : l.given ≤ c
    above = ltb-false c l.given (first (nat_lt c l.given) (has l.conns c) can)

read_meets : (l : Lines) (ks : List Client) (c : ℕ) (bytes : List ℕ) → Meets l ks → Meets l (map (at_conn c (with_read bytes)) ks)
read_meets l ks c bytes h = record {
  each = fit_maps l l (at_conn c (with_read bytes)) ks h.each (λ k f. go k f (nat_eq k.conn c));
  fresh = h.fresh;
}
  where
    go : (k : Client) → Fits l k → (b : Bool) → Fits l (cond b (with_read bytes k) k)
    go k f true = record { listed = f.listed; ends = f.ends; below = f.below; here = f.here; going = f.going }
    go k f false = f

ended_meets : (l : Lines) (ks : List Client) (c : ℕ) → Meets l ks → can_end l c ≡ true → Meets (lines_after l (event.Ended c)) (map (at_conn c with_end) ks)
ended_meets l ks c h can = record {
  each = fit_maps l (lines_after l (event.Ended c)) (at_conn c with_end) ks h.each (λ k f. go k f (nat_eq k.conn c) refl);
  fresh = λ d le. ((h.fresh d le).0, or_from _ _ (ne_eqb d c (λ e. absurd (let a = (h.fresh d le).0 in let b : has l.conns d ≡ true = ap (has l.conns) e ∙ first (has l.conns c) (has l.ended c) can in cc))) (h.fresh d le).1);
}
  where
    first : (a b : Bool) → (a && not b) ≡ true → a ≡ true
    first true b e = refl
    first false b e = absurd cc

    go : (k : Client) → Fits l k → (b : Bool) → nat_eq k.conn c ≡ b → Fits (lines_after l (event.Ended c)) (cond b (with_end k) k)
    go k f true is = record { listed = f.listed; ends = sym (or_left _ _ is); below = f.below; here = f.here; going = f.going }
    go k f false is = record { listed = f.listed; ends = f.ends ∙ sym (ap (λ (b : Bool). b || has l.ended k.conn) is); below = f.below; here = f.here; going = f.going }

abbrev Skips : Lines → List Client → List Act → List ℕ → Bool → Type 0
Skips l ks acts paused busy = let n = next_act acts l paused busy in Meets (lines_after l n.0) (heard ks n.0 n.1)

pub next_meets : (l : Lines) (ks : List Client) (acts : List Act) (paused : List ℕ) (busy : Bool) → Meets l ks → let n = next_act acts l paused busy in Meets (lines_after l n.0) (heard ks n.0 n.1)
next_meets l ks [] paused true h = h
next_meets l ks [] paused false h = h
next_meets l ks (Opened c ∷ acts) paused busy h = go (can_open l c) refl (next_meets l ks acts paused busy h)
  where
    go : (b : Bool) → can_open l c ≡ b → Skips l ks acts paused busy → let n : Next = cond b (event.Opened c, [], acts) (next_act acts l paused busy) in Meets (lines_after l n.0) (heard ks n.0 n.1)
    go true can ih = opened_meets l ks c h can
    go false cannot ih = ih
next_meets l ks (Read c bytes ∷ acts) paused busy h = go (can_read l c bytes) (has paused c) (next_meets l ks acts paused busy h)
  where
    go : (b p : Bool) → Skips l ks acts paused busy → let n : Next = cond b (cond p (event.Quiet, [], Read c bytes ∷ acts) (event.Read c (length bytes), bytes, acts)) (next_act acts l paused busy) in Meets (lines_after l n.0) (heard ks n.0 n.1)
    go true true ih = h
    go true false ih = read_meets l ks c bytes h
    go false p ih = ih
next_meets l ks (Ended c ∷ acts) paused busy h = go (can_end l c) refl (next_meets l ks acts paused busy h)
  where
    go : (b : Bool) → can_end l c ≡ b → Skips l ks acts paused busy → let n : Next = cond b (event.Ended c, [], acts) (next_act acts l paused busy) in Meets (lines_after l n.0) (heard ks n.0 n.1)
    go true can ih = ended_meets l ks c h can
    go false cannot ih = ih
next_meets l ks (Quiet ∷ acts) paused busy h = h
